use Rattle.std.proofs.Common.{◌≡◌, ℕ, ◌+◌, ◌<◌, get_or, refl, sym, subst, ◌∙◌}
use Rattle.std.proofs.lemmas.Bool.{true≢false}
use Rattle.asset_lists.specs.Parted.{IsAt}
use Rattle.asset_lock_store.specs.declared.looking.Look.{Look}
use Rattle.asset_lock_store.specs.Looked.{look_with, IsLook}
use Rattle.asset_lock_store.proofs.LookLemmas.{look_passed, look_all}
use Rattle.asset_lock_store.proofs.store.LockStore.look_over.Goals as goal

pub keys-preserved : goal.keys-preserved
keys-preserved g c =
    let keys = c.args.keys.now in
    let key = get_or keys c.keys.key-index 0 in
    let more = subst (λ p. IsLook c.args.self.now c.args.seats.now (λ u. g.A.Allows.allows p u c.args.request.asker.t.0 c.args.request.x.0 c.args.request.op) c.args.request.asker.t.0 c.args.request.op (λ k. k ≡ key) c.look_at.result) {x = c.keys.permits} c.keys.invariant.permits c.look_at.ensures.look in
    let passed = look_passed c.args.self.now c.args.seats.now (λ u. g.A.Allows.allows c.args.permits.now u c.args.request.asker.t.0 c.args.request.x.0 c.args.request.op) c.args.request.asker.t.0 c.args.request.op keys c.keys.key-index key c.keys.look c.look_at.result (record { within = c.keys-test.true; reads = refl }) c.keys.invariant.look c.keys.invariant.free more in
    record {
      permits = c.look_at.ensures.permits ∙ c.keys.invariant.permits;
      free = c.if-look.false;
      look = subst (λ (l : Look). IsLook c.args.self.now c.args.seats.now (λ u. g.A.Allows.allows c.args.permits.now u c.args.request.asker.t.0 c.args.request.x.0 c.args.request.op) c.args.request.asker.t.0 c.args.request.op (λ k. (q : ℕ) × (q < c.keys.key-index + 1) × IsAt c.args.keys.now q k) l) {x = look_with c.keys.look c.look_at.result} (sym c.with-look.ensures) passed;
    }

pub returns-then-look-clause-look : goal.returns-then-look-clause-look
returns-then-look-clause-look g c =
    let keys = c.args.keys.now in
    let key = get_or keys c.keys.key-index 0 in
    let more = subst (λ p. IsLook c.args.self.now c.args.seats.now (λ u. g.A.Allows.allows p u c.args.request.asker.t.0 c.args.request.x.0 c.args.request.op) c.args.request.asker.t.0 c.args.request.op (λ k. k ≡ key) c.look_at.result) {x = c.keys.permits} c.keys.invariant.permits c.look_at.ensures.look in
    let passed = look_passed c.args.self.now c.args.seats.now (λ u. g.A.Allows.allows c.args.permits.now u c.args.request.asker.t.0 c.args.request.x.0 c.args.request.op) c.args.request.asker.t.0 c.args.request.op keys c.keys.key-index key c.keys.look c.look_at.result (record { within = c.keys-test.true; reads = refl }) c.keys.invariant.look c.keys.invariant.free more in
    look_all c.args.self.now c.args.seats.now (λ u. g.A.Allows.allows c.args.permits.now u c.args.request.asker.t.0 c.args.request.x.0 c.args.request.op) c.args.request.asker.t.0 c.args.request.op keys (c.keys.key-index + 1) c.with-look.result
    (λ free. absurd (true≢false (sym c.if-look.true ∙ free)))
    (subst (λ (l : Look). IsLook c.args.self.now c.args.seats.now (λ u. g.A.Allows.allows c.args.permits.now u c.args.request.asker.t.0 c.args.request.x.0 c.args.request.op) c.args.request.asker.t.0 c.args.request.op (λ k. (q : ℕ) × (q < c.keys.key-index + 1) × IsAt c.args.keys.now q k) l) {x = look_with c.keys.look c.look_at.result} (sym c.with-look.ensures) passed)

pub returns-clause-look : goal.returns-clause-look
returns-clause-look g c = look_all c.args.self.now c.args.seats.now (λ u. g.A.Allows.allows c.args.permits.now u c.args.request.asker.t.0 c.args.request.x.0 c.args.request.op) c.args.request.asker.t.0 c.args.request.op c.args.keys.now c.keys.key-index c.keys.look (λ _. c.keys-test.false) c.keys.invariant.look
