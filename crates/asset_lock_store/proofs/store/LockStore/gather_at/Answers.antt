use Rattle.std.proofs.Common.{◌≡◌, ℕ, List, sym, subst}
use Rattle.asset_lock_store.specs.Gathered.{blocks_as, IsGathered}
use Rattle.asset_lock_store.proofs.BlockingLemmas.{gathered_nobody, gathered_one, belongs_to, belongs_alone, belongs_to_none}
use Rattle.asset_lock_store.proofs.store.LockStore.gather_at.Goals as goal

pub returns-in-Ok-clause-gathered : goal.returns-in-Ok-clause-gathered
returns-in-Ok-clause-gathered g c =
    let blocks = c.in-Some.ensures.found in
    subst (λ (names : List ℕ). IsGathered (blocks_as c.args.self.now c.args.seats.now (λ n. g.A.Allows.allows c.args.permits.now n c.args.request.asker.t.0 c.args.request.x.0 c.args.request.op) c.args.request.asker.t.0 c.args.request.op) (λ k. k ≡ c.args.key) c.args.found.now.keys names) (sym c.in-Ok.ensures.keys)
    (gathered_one (blocks_as c.args.self.now c.args.seats.now (λ n. g.A.Allows.allows c.args.permits.now n c.args.request.asker.t.0 c.args.request.x.0 c.args.request.op) c.args.request.asker.t.0 c.args.request.op) c.args.key c.in-Some.u.0 c.args.found.now.keys
    (belongs_to c.args.self.now c.args.seats.now (λ n. g.A.Allows.allows c.args.permits.now n c.args.request.asker.t.0 c.args.request.x.0 c.args.request.op) c.args.request.asker.t.0 c.args.request.op c.args.key c.in-Some.u blocks.1 blocks.0)
    (belongs_alone c.args.self.now c.args.seats.now (λ n. g.A.Allows.allows c.args.permits.now n c.args.request.asker.t.0 c.args.request.x.0 c.args.request.op) c.args.request.asker.t.0 c.args.request.op c.args.key c.in-Some.u blocks.1))

pub returns-in-None-clause-gathered : goal.returns-in-None-clause-gathered
returns-in-None-clause-gathered g c =
    gathered_nobody (blocks_as c.args.self.now c.args.seats.now (λ n. g.A.Allows.allows c.args.permits.now n c.args.request.asker.t.0 c.args.request.x.0 c.args.request.op) c.args.request.asker.t.0 c.args.request.op) c.args.key c.args.found.now.keys
    (belongs_to_none c.args.self.now c.args.seats.now (λ n. g.A.Allows.allows c.args.permits.now n c.args.request.asker.t.0 c.args.request.x.0 c.args.request.op) c.args.request.asker.t.0 c.args.request.op c.args.key c.in-None.ensures.none)
