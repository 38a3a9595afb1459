use Rattle.std.proofs.Common.{◌∙◌, arith}
use Rattle.std.proofs.lemmas.Bool.{leb-true}
use Rattle.asset_core.proofs.ValidLemmas.{valid_owed}
use Rattle.asset_core.proofs.facility.Core.has_place.Goals as goal

pub returns : goal.returns
returns c = λ fits.
    let owes = c.owed.ensures.counted ∙ valid_owed c.self.inside.history c.self.inside.tables c.self.invariant in
    rw (← c.self.view_is) (omega (arith, leb-true _ _ fits, owes, c.len.ensures.len, c.room-capacity.ensures, c.may_owe.ensures.owed))

pub overflow_add-result-2 : goal.overflow_add-result-2
overflow_add-result-2 c =
    let owes = c.owed.ensures.counted ∙ valid_owed c.self.inside.history c.self.inside.tables c.self.invariant in
    omega (arith, owes, c.len.ensures.len, c.self.invariant.fitting, c.self.invariant.capacity)

pub overflow_add-result-3 : goal.overflow_add-result-3
overflow_add-result-3 c =
    let owes = c.owed.ensures.counted ∙ valid_owed c.self.inside.history c.self.inside.tables c.self.invariant in
    omega (arith, owes, c.len.ensures.len, c.self.invariant.fitting, c.self.invariant.capacity, c.may_owe.ensures.most)
