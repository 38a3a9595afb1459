use Rattle.std.proofs.Common.{rules}
use Rattle.asset_scripts.specs.Listing.{entry_of}
use Rattle.asset_cli.proofs.listing.entry_of.Goals as goal

pub returns-in-Wait : goal.returns-in-Wait
unfolding entry_of
returns-in-Wait c = search rules
