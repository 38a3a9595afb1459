use Rattle.std.proofs.Common.{rules}
use Rattle.asset_entries.specs.Recorded.{after, with_entry}
use Rattle.asset_models.specs.Calls.{called, calls_of}
use Rattle.asset_models.proofs.calls.CoreAsset.step.Goals as goal

pub returns-clause-calls : goal.returns-clause-calls
unfolding called calls_of after with_entry
returns-clause-calls c = search rules
