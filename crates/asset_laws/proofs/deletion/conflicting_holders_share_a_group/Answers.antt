use Rattle.asset_laws.proofs.SharingLemmas.{sharing}
use Rattle.asset_laws.proofs.deletion.conflicting_holders_share_a_group.Goals as goal

pub returns : goal.returns
returns c = sharing
