use Rattle.std.proofs.Common.{map, take, reverse, sym, refl, arith, true≢false}
use Rattle.asset_audit.specs.Audited.{Call, IsGood}
use Rattle.asset_audit.proofs.Places.{good_rises, one_more, item_at}
use Rattle.asset_audit.proofs.checking.first_wrong.Goals as goal

pub is_good-requires-clause-before : goal.is_good-requires-clause-before
is_good-requires-clause-before g c = good_rises (reverse c.args.history.now.entries) (map g.C.Calls.listed c.args.earlier.now) c.args.calls.now c.loop-place.place c.loop-place.invariant

pub returns-then-not-is_good : goal.returns-then-not-is_good
returns-then-not-is_good g c = record {
  place = c.loop-place.place;
  call = c.index-calls-place.result;
  at_place = item_at c.args.calls.now c.loop-place.place c.index-calls-place.result (omega arith) c.index-calls-place.is;
  numbered = refl;
  wrong = λ h. true≢false (sym (c.if-not-is_good.ensures.wrong h));
  calls = c.loop-place.invariant;
}

pub loop-place-preserved : goal.loop-place-preserved
loop-place-preserved g c =
    one_more (λ k (d : Call). IsGood (reverse c.args.history.now.entries) (map g.C.Calls.listed c.args.earlier.now) (take k c.args.calls.now) d) c.args.calls.now c.loop-place.place c.index-calls-place.result
    (item_at c.args.calls.now c.loop-place.place c.index-calls-place.result (omega arith) c.index-calls-place.is) c.loop-place.invariant (c.if-not-is_good.ensures.good refl)

pub returns : goal.returns
returns g c = λ k d lt e. c.loop-place.invariant k d (omega arith) e
