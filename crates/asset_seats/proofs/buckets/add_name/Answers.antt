use Rattle.std.proofs.Common.{ap, ◌∙◌, List}
use Rattle.asset_names.specs.declared.names.Txn.{Txn}
use Rattle.asset_seats.specs.Bucketed.{no_name, name_in}
use Rattle.asset_seats.proofs.GrowLemmas.{name_more}
use Rattle.asset_seats.proofs.buckets.add_name.Goals as goal

pub returns-in-Ok-clause-names : goal.returns-in-Ok-clause-names
unfolding no_name
returns-in-Ok-clause-names c = λ k. ap (λ (l : List Txn). name_in l k) c.in-Ok.ensures.items ∙ name_more c.args.names.now.items k
