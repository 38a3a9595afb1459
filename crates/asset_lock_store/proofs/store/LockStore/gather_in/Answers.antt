use Rattle.std.proofs.Common.{◌≡◌, get_or, refl, subst, ◌∙◌}
use Rattle.asset_lists.specs.Parted.{AreKeys}
use Rattle.asset_lock_store.specs.Stored.{Stored}
use Rattle.asset_lock_store.specs.Gathered.{blocks_as, IsGathered}
use Rattle.asset_lock_store.proofs.BlockingLemmas.{gathered_passed, gathered_part}
use Rattle.asset_lock_store.proofs.store.LockStore.gather_in.Goals as goal

pub keys-preserved : goal.keys-preserved
keys-preserved g c =
    let keys = c.keys-keys.result.now in
    let key = get_or keys c.keys.key-index 0 in
    let here = subst (λ p. IsGathered (blocks_as c.args.self.now c.args.seats.now (λ n. g.A.Allows.allows p n c.args.request.asker.t.0 c.args.request.x.0 c.args.request.op) c.args.request.asker.t.0 c.args.request.op) (λ k. k ≡ key) c.keys.found.keys c.gather_at.new.found.keys) {x = c.keys.permits} c.keys.invariant.permits c.in_ok-gather_at.ensures.gathered in
    record {
      permits = c.in_ok-gather_at.ensures.permits ∙ c.keys.invariant.permits;
      gathered = gathered_passed (blocks_as c.args.self.now c.args.seats.now (λ n. g.A.Allows.allows c.args.permits.now n c.args.request.asker.t.0 c.args.request.x.0 c.args.request.op) c.args.request.asker.t.0 c.args.request.op) keys c.keys.key-index key c.args.found.now.keys c.keys.found.keys c.gather_at.new.found.keys (record { within = c.keys-test.true; reads = refl }) c.keys.invariant.gathered here;
    }

pub returns-clause-gathered : goal.returns-clause-gathered
returns-clause-gathered g c =
    gathered_part (blocks_as c.args.self.now c.args.seats.now (λ n. g.A.Allows.allows c.args.permits.now n c.args.request.asker.t.0 c.args.request.x.0 c.args.request.op) c.args.request.asker.t.0 c.args.request.op) c.args.self.now.by_object c.args.part c.keys-keys.result.now c.keys.key-index c.args.found.now.keys c.keys.found.keys
    (subst (λ (s : Stored). AreKeys s.by_object c.args.part c.keys-keys.result.now) c.self.view_is c.keys-keys.ensures) c.keys-test.false c.keys.invariant.gathered
