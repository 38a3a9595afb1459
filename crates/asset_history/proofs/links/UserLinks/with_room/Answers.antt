use Rattle.std.proofs.Common.{refl}
use Rattle.asset_history.specs.Links.{no_links}
use Rattle.asset_history.proofs.links.UserLinks.with_room.Goals as goal

pub returns : goal.returns
unfolding no_links
returns c = rw c.in_ok-with_capacity.ensures.items refl
