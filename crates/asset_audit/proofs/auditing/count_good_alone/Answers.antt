use Rattle.std.proofs.Common.{Option, Some, None, false, true≢false, MatchOption, is_some, ◌≡◌, ◌∙◌, List, [], map, length, reverse, sym, ap, arith}
use Rattle.asset_audit.specs.Audited.{Call, AreGoodBelow, IsFirstWrong}
use Rattle.asset_audit.proofs.Places.{item_there, one_more}
use Rattle.asset_audit.proofs.auditing.count_good_alone.Goals as goal

-- what is said of no result
when_none : {X : Type 0} (P : Type 0) (Q : X → Type 0) (result : Option X) → is_some result ≡ false → MatchOption result P Q → P
when_none P Q None none says = says
when_none P Q (Some x) none says = absurd (true≢false none)

pub loop-place-preserved : goal.loop-place-preserved
loop-place-preserved g c =
    let log = reverse c.args.history.now.entries in
    let there = item_there g.C.Calls.listed c.args.sessions.now c.loop-place.place c.index-sessions-place.result (omega arith) c.index-sessions-place.is ∙ ap Some (sym c.calls.ensures) in
    let none : is_some c.first_wrong.result ≡ false = sym c.is_some.ensures ∙ c.if-is_some.false in
    one_more (λ i (l : List Call). AreGoodBelow log [] l (length l)) (map g.C.Calls.listed c.args.sessions.now) c.loop-place.place c.calls.result.now there c.loop-place.invariant
    (when_none (AreGoodBelow log [] c.calls.result.now (length c.calls.result.now)) (IsFirstWrong log [] c.calls.result.now) c.first_wrong.result none c.first_wrong.ensures)

pub returns-clause-good : goal.returns-clause-good
returns-clause-good g c = λ i l lt. c.loop-place.invariant i l (omega arith)
