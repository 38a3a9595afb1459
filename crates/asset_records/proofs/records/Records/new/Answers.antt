use Rattle.std.proofs.Common.{ap, sym, subst, List, map}
use Rattle.asset_records.specs.declared.layers.Mark.{Mark}
use Rattle.asset_records.specs.Layered.{fits, mark_at, AreMarked}
use Rattle.asset_records.specs.Listed.{on, at_keys, lists_in}
use Rattle.asset_records.proofs.ListedLemmas.{tied_nothing}
use Rattle.asset_records.proofs.records.Records.new.Goals as goal

pub returns-clause-lists : goal.returns-clause-lists
returns-clause-lists c = ap (λ (l : List (List _)). map (at_keys c.new.result.items) l) c.new.ensures.rows

pub returns-clause-tied : goal.returns-clause-tied
returns-clause-tied c = λ seats nobody. tied_nothing c.new.result seats c.new.ensures.crossed c.new.ensures.items nobody

pub invariant_of-result : goal.invariant_of-result
unfolding AreMarked fits mark_at
invariant_of-result c = λ i. subst (λ (mark : Mark). fits mark (on (lists_in c.new.result) i)) (sym (ap (λ (marks : List Mark). mark_at marks i) c.new-2.ensures.items)) tt
