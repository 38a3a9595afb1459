use Rattle.std.proofs.Common.{◌≡◌, ◌+◌, ◌-◌, ◌<◌, [], ◌∷◌, ◌++◌, length, take, get_or, sym, ap, ◌∙◌, arith, subst}
use Rattle.std.proofs.lemmas.List.{get_or_read, take_more}
use Rattle.asset_marks.specs.Marked.{IsValid}
use Rattle.asset_marks.proofs.MarkLemmas.{last_alone}
use Rattle.asset_marks.proofs.marks.Marks.pop.Goals as goal

pub returns-clause-last : goal.returns-clause-last
returns-clause-last c =
    let order = c.self.inside.order.items in
    let position = c.self.inside.position.items in
    let met = c.self.inside.met in
    let kept = c.self.invariant in
    let is : met ≡ (met - 1) + 1 = omega (arith, c.if-self-eq0.false) in
    let last_below : met - 1 < length order = omega (arith, kept.within, c.if-self-eq0.false) in
    let last : c.index.result.now ≡ get_or order (met - 1) 0 = get_or_read order (met - 1) c.index.result.now last_below c.index.ensures 0 in
    let valid : IsValid order position ((met - 1) + 1) = subst (IsValid order position) is kept in
    rw (← c.self.view_is) (
      rw last (kept.nodes (met - 1) last_below).0,
      ap (λ n. take n order) is ∙ take_more order (met - 1) c.index.result.now last_below ∙ ap (λ n. take (met - 1) order ++ n ∷ []) (sym c.index.ensures),
      last_alone order position (met - 1) c.index.result.now valid last,
    )
