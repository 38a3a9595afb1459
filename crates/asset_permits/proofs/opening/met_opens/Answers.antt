use Rattle.std.proofs.Common.{◌≡◌, Some, true, refl, sym, ap, ◌∙◌, get_or, arith, inl, inr}
use Rattle.std.proofs.lemmas.Bool.{cases_eq}
use Rattle.asset_names.specs.Arrows.{lists}
use Rattle.asset_names.proofs.ListLemmas.{listed_at, lists_at}
use Rattle.asset_permits.proofs.opening.met_opens.Goals as goal

pub met-init : goal.met-init
met-init c = λ i k d below home is. absurd (omega (arith, below))

pub met-preserved : goal.met-preserved
met-preserved c = λ i k d below home is. elim (cases_eq i c.met.next) [
  | inl here ↦ c.opens_at.ensures.closed c.if-opens_at.false k d (home ∙ ap (λ j. Some (get_or c.args.marks.now.nodes j 0)) here ∙ ap Some (sym c.node.ensures.node)) is
  | inr apart ↦ c.met.invariant i k d (omega (arith, below, apart)) home is
]

pub returns-clause-closed : goal.returns-clause-closed
returns-clause-closed c = λ closed s k d listed home is.
    let at = listed_at c.args.marks.now.nodes s listed in
    c.met.invariant at.0 k d (omega (arith, at.1, c.met-test.false, c.len.ensures.len)) (home ∙ ap Some (sym at.2)) is

pub returns-then-opens_at-clause-opens : goal.returns-then-opens_at-clause-opens
returns-then-opens_at-clause-opens c = λ found.
    let nodes = c.args.marks.now.nodes in
    let listed : lists nodes (get_or nodes c.met.next 0) ≡ true = lists_at nodes (get_or nodes c.met.next 0) c.met.next (omega (arith, c.met-test.true, c.len.ensures.len)) refl in
    (c.node.result, ap (lists nodes) c.node.ensures.node ∙ listed, c.opens_at.ensures.opens c.if-opens_at.true)
