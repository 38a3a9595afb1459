use Rattle.std.proofs.Common.{◌≡◌, ◌∙◌, List, false, sym, ap, w64, to_z, of_z, arith}
use Rattle.std.proofs.lemmas.Int.{to_z-of_z}
use Rattle.asset_names.specs.declared.names.Ob.{Ob}
use Rattle.asset_names.specs.Numbered.{number_in}
use Rattle.asset_names.proofs.Common.{on_ok_two, on_err}
use Rattle.asset_objects.proofs.PlacedLemmas.{number_named}
use Rattle.asset_objects.specs.Cells.{cells, number_of}
use Rattle.asset_objects.specs.Placed.{object_table}
use Rattle.asset_ends.specs.Standing.{Standing, is_free_for}
use Rattle.asset_ends.proofs.AskedLemmas.{update_asked_shows}
use Rattle.asset_ends.proofs.EnrolledLemmas.{running_enrolled}
use Rattle.asset_ends.proofs.ShowsLemmas.{running_live}
use Rattle.asset_ends.proofs.StandingLemmas.{stand_as}
use Rattle.asset_ends.proofs.tables.Tables.update_at.Goals as goal

pub update_reserved-requires-clause-reserved : goal.update_reserved-requires-clause-reserved
unfolding object_table
update_reserved-requires-clause-reserved c = c.in-Ok.ensures.reserved

pub update_reserved-requires-clause-number : goal.update_reserved-requires-clause-number
update_reserved-requires-clause-number c =
    let objects = c.self.inside.parts.objects in
    number_named c.reserve_write.new.self c.args.x.0
    ∙ ap (λ (l : List Ob). number_in l c.args.x.0) c.reserve_write.ensures.objects
    ∙ sym (number_named objects c.args.x.0)
    ∙ (rw (← c.self.view_is) at c.requires.number)

pub returns-in-Ok-clause-answer : goal.returns-in-Ok-clause-answer
unfolding is_free_for
returns-in-Ok-clause-answer c = rw (← c.self.view_is) c.update_reserved.ensures.answer

pub returns-in-Ok-clause-stand : goal.returns-in-Ok-clause-stand
unfolding is_free_for
returns-in-Ok-clause-stand c =
    let fits : to_z w64 (of_z w64 c.args.v) ≡ c.args.v = grind (arith, to_z-of_z) in
    let runs = rw (← c.self.view_is) at c.requires.runs in
    rw (← c.self.view_is) (on_ok_two c.update_reserved.result
    (λ objects locks. λ opening steps stand.
    stand_as opening _ _ _ _ _ _ _ c.update_reserved.ensures.rows objects locks c.update_reserved.ensures.permits c.update_reserved.ensures.deps
    (rw c.in-Ok.ensures.cells (update_asked_shows opening steps _ _ _ _ _ c.args.one.t c.args.x c.args.update c.args.v _ stand (running_live opening steps _ _ _ _ _ c.args.one.t.0 stand runs) (running_enrolled _ _ c.args.one.t.0 c.self.invariant.locks runs))))
    (rw fits at c.update_reserved.ensures.objects) c.update_reserved.ensures.locks)

pub returns-in-Ok-clause-locks : goal.returns-in-Ok-clause-locks
unfolding is_free_for
returns-in-Ok-clause-locks c = rw (← c.self.view_is) c.update_reserved.ensures.locks

pub returns-in-Ok-clause-memory : goal.returns-in-Ok-clause-memory
unfolding is_free_for
returns-in-Ok-clause-memory c = rw (← c.self.view_is) c.update_reserved.ensures.memory

pub returns-in-Ok-clause-unchanged : goal.returns-in-Ok-clause-unchanged
returns-in-Ok-clause-unchanged c =
    let objects = c.self.inside.parts.objects in
    rw (← c.self.view_is) (on_err c.update_reserved.result (λ same. record {
      rows = ap (λ (s : Standing). s.trans) same;
      objects = ap (λ (s : Standing). cells s.objects) same ∙ c.in-Ok.ensures.cells;
      numbers = λ x. ap (λ (s : Standing). number_of s.objects x) same ∙ number_named c.reserve_write.new.self x ∙ ap (λ (l : List Ob). number_in l x) c.reserve_write.ensures.objects ∙ sym (number_named objects x);
      locks = ap (λ (s : Standing). s.locks) same;
      permits = ap (λ (s : Standing). s.permits) same;
      deps = ap (λ (s : Standing). s.deps) same;
    }) c.update_reserved.ensures.unchanged)

pub returns-in-Err-clause-stand : goal.returns-in-Err-clause-stand
unfolding is_free_for
returns-in-Err-clause-stand c =
    let runs = rw (← c.self.view_is) at c.requires.runs in
    rw (← c.self.view_is) (on_ok_two c.wait_unless_free.result
    (λ blocked locks. λ opening steps stand. rw blocked
    (stand_as opening _ _ _ _ _ _ _ c.wait_unless_free.ensures.rows (ap cells c.wait_unless_free.ensures.objects ∙ c.reserve_write.ensures.cells) (rw blocked at locks) c.wait_unless_free.ensures.permits c.wait_unless_free.ensures.deps
    (update_asked_shows opening steps _ _ _ _ _ c.args.one.t c.args.x c.args.update c.args.v false stand (running_live opening steps _ _ _ _ _ c.args.one.t.0 stand runs) (running_enrolled _ _ c.args.one.t.0 c.self.invariant.locks runs))))
    (rw c.op.ensures at c.wait_unless_free.ensures.blocked) (rw c.op.ensures at c.wait_unless_free.ensures.locks))
