-- What the steps of a script print.
use Rattle.asset_scripts.specs.declared.prints.Prints.{Prints}
use Rattle.asset_scripts.specs.declared.prints.Prints.TheVariants.{Nothing, Replies, Listing}
use Rattle.asset_cli.specs.declared.reporting.Work.{Work}
use Rattle.asset_cli.specs.declared.reporting.Work.TheVariants as Work'

-- what the steps print of a script that is run for this work
unfoldable pub prints_for : Work → Prints
prints_for Work'.Run = Replies
prints_for Work'.Steps = Listing
prints_for work = Nothing
