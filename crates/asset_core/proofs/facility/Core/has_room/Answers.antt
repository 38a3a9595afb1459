use Rattle.std.proofs.Common.{◌≡◌, ◌∙◌, true, sym, length, refl, arith}
use Rattle.std.proofs.lemmas.Bool.{le-leb, leb-true, true≢false}
use Rattle.asset_names.specs.Steps.{applied}
use Rattle.asset_names.specs.Room.{fits}
use Rattle.asset_names.proofs.RoomLemmas.{ending_fits}
use Rattle.asset_entries.specs.Recorded.{answer_to, has_room, is_ending}
use Rattle.asset_core.proofs.facility.Core.has_room.Goals as goal

pub returns-then-is_ending-clause-room : goal.returns-then-is_ending-clause-room
unfolding has_room answer_to fits
returns-then-is_ending-clause-room c =
    let history = c.self.inside.history in
    let fitted : fits (applied history.entries) (length history.entries) history.capacity ≡ true = le-leb _ _ c.self.invariant.fitting in
    let ends = rw (← c.self.view_is) at (sym c.is_ending.ensures ∙ c.if-is_ending.true) in
    rw (← c.self.view_is) (sym (ending_fits history.opening history.entries c.args.step.now c.args.reply history.capacity c.self.invariant.legal fitted (rw (← c.self.view_is) at c.requires.answer) ends))

pub returns-then-is_ending-clause-within : goal.returns-then-is_ending-clause-within
unfolding answer_to fits
returns-then-is_ending-clause-within c = λ _.
    let history = c.self.inside.history in
    let fitted : fits (applied history.entries) (length history.entries) history.capacity ≡ true = le-leb _ _ c.self.invariant.fitting in
    let ends = rw (← c.self.view_is) at (sym c.is_ending.ensures ∙ c.if-is_ending.true) in
    let found = ending_fits history.opening history.entries c.args.step.now c.args.reply history.capacity c.self.invariant.legal fitted (rw (← c.self.view_is) at c.requires.answer) ends in
    rw (← c.self.view_is) (omega (arith, leb-true _ _ found))

pub returns-clause-room : goal.returns-clause-room
unfolding has_room fits
returns-clause-room c = rw (c.len.ensures.len, c.owed_after.ensures.owed, c.room-capacity.ensures, ← c.self.view_is) refl

pub returns-clause-ending : goal.returns-clause-ending
unfolding is_ending
returns-clause-ending c = λ ends. absurd (true≢false (sym ends ∙ sym c.is_ending.ensures ∙ c.if-is_ending.false))
