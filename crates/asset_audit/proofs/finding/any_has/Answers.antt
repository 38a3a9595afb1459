use Rattle.std.proofs.Common.{List, map, subst, sym, refl, arith, true≢false}
use Rattle.std.proofs.lemmas.Option.{slice_get_within}
use Rattle.asset_audit.specs.Audited.{Call, Rises, HasNumber}
use Rattle.asset_audit.proofs.Places.{item_there, length_of-map, one_more}
use Rattle.asset_audit.proofs.finding.any_has.Goals as goal

pub has_number-requires : goal.has_number-requires
has_number-requires g c = subst Rises (sym c.calls.ensures) (c.requires _ _ (item_there g.C.Calls.listed c.args.sessions.now _ c.session-item.result (omega arith) c.session-item.is))

pub returns-then-has_number : goal.returns-then-has_number
returns-then-has_number g c = (
  (λ _. (
    c.loop-session.session-index,
    g.C.Calls.listed c.session-item.result,
    item_there g.C.Calls.listed c.args.sessions.now _ c.session-item.result (omega arith) c.session-item.is,
    subst (λ (l : List Call). HasNumber l c.args.number) c.calls.ensures (c.if-has_number.ensures.0 refl),
  )),
  (λ _. refl),
)

pub loop-session-preserved : goal.loop-session-preserved
loop-session-preserved g c =
    one_more (λ k (l : List Call). HasNumber l c.args.number → ⊥) (map g.C.Calls.listed c.args.sessions.now) c.loop-session.session-index (g.C.Calls.listed c.session-item.result)
    (item_there g.C.Calls.listed c.args.sessions.now _ c.session-item.result (omega arith) c.session-item.is) (λ k l lt e. c.loop-session.invariant k l lt e)
    (λ h. true≢false (sym (c.if-has_number.ensures.1 (subst (λ (l : List Call). HasNumber l c.args.number) (sym c.calls.ensures) h))))

pub returns : goal.returns
returns g c = (
  (λ f. absurd (true≢false (sym f))),
  (λ h. absurd (let w = slice_get_within (map g.C.Calls.listed c.args.sessions.now) h.0 h.1 h.2 in let n = length_of-map g.C.Calls.listed c.args.sessions.now in
      c.loop-session.invariant h.0 h.1 (omega arith) h.2 h.3)),
)
