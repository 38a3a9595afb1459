use Rattle.asset_names.proofs.RoomLemmas.{ending_fits}
use Rattle.asset_laws.proofs.laws.endings_find_room.Goals as goal

pub returns : goal.returns
returns c = λ opening entries step reply capacity legal fitted is changes. ending_fits opening entries step reply capacity legal fitted is changes
