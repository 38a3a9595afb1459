use Rattle.std.proofs.Common.{eqb, rules, tests}
use Rattle.std.proofs.lemmas.Iterator.{YieldsList-from_slice}
use Rattle.std.proofs.lemmas.Iterator.Search.{any_from_yields_List}
use Rattle.asset_names.proofs.sets.is_listed.Goals as goal

pub returns : goal.returns
returns c =
    any_from_yields_List (λ o. eqb o.0 c.args.x.0) _ _ _ c.any.ensures.ran (YieldsList-from_slice c.args.objects.now cc) (λ x b q k. search (rules, tests))
