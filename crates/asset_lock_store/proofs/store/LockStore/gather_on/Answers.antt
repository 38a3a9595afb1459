use Rattle.std.proofs.Common.{◌≡◌, Some, subst, ◌∙◌}
use Rattle.asset_names.proofs.Common.{on_ok}
use Rattle.asset_lists.specs.declared.part.Section.TheVariants.{Middle, Back}
use Rattle.asset_lists.specs.Parted.{part_of}
use Rattle.asset_lock_store.specs.Gathered.{blocks_as, IsGathered}
use Rattle.asset_lock_store.proofs.WalkLemmas.{looks_for_read, covers_read, looks_for_add, covers_add, looks_for_write, covers_all}
use Rattle.asset_lock_store.proofs.BlockingLemmas.{gathered_two, gathered_three}
use Rattle.asset_lock_store.proofs.store.LockStore.gather_on.Goals as goal

pub returns-in-Read-clause-gathered : goal.returns-in-Read-clause-gathered
returns-in-Read-clause-gathered g c =
    on_ok c.gather_in-in-Read.result (λ found.
    gathered_two (blocks_as c.args.self.now c.args.seats.now (λ n. g.A.Allows.allows c.args.permits.now n c.args.request.asker.t.0 c.args.request.x.0 c.args.request.op) c.args.request.asker.t.0 c.args.request.op) c.args.self.now.by_object c.args.request.op c.args.number c.excluders_of.result c.excluders_of.ensures Middle c.adders_of.result c.adders_of.ensures (looks_for_read c.args.request.op c.in-Read.is) (covers_read c.args.request.op c.in-Read.is)
    c.args.found.now.keys c.gather_in.new.found.keys c.gather_in-in-Read.new.found.keys c.in_ok-gather_in.ensures.gathered
    (subst (λ p. IsGathered (blocks_as c.args.self.now c.args.seats.now (λ n. g.A.Allows.allows p n c.args.request.asker.t.0 c.args.request.x.0 c.args.request.op) c.args.request.asker.t.0 c.args.request.op) (λ k. part_of c.args.self.now.by_object k ≡ Some c.adders_of.result) c.gather_in.new.found.keys c.gather_in-in-Read.new.found.keys) c.in_ok-gather_in.ensures.permits found)) c.gather_in-in-Read.ensures.gathered

pub returns-in_ok-gather_in-in-Write-clause-gathered : goal.returns-in_ok-gather_in-in-Write-clause-gathered
returns-in_ok-gather_in-in-Write-clause-gathered g c =
    on_ok c.gather_in-in-Write-2.result (λ found.
    gathered_three (blocks_as c.args.self.now c.args.seats.now (λ n. g.A.Allows.allows c.args.permits.now n c.args.request.asker.t.0 c.args.request.x.0 c.args.request.op) c.args.request.asker.t.0 c.args.request.op) c.args.self.now.by_object c.args.request.op c.args.number c.excluders_of.result c.excluders_of.ensures Middle c.adders_of-in-Write.result c.adders_of-in-Write.ensures (looks_for_write c.args.request.op c.in-Write.is Middle)
    Back c.readers_of.result c.readers_of.ensures (looks_for_write c.args.request.op c.in-Write.is Back) covers_all
    c.args.found.now.keys c.gather_in.new.found.keys c.gather_in-in-Write.new.found.keys c.gather_in-in-Write-2.new.found.keys c.in_ok-gather_in.ensures.gathered
    (subst (λ p. IsGathered (blocks_as c.args.self.now c.args.seats.now (λ n. g.A.Allows.allows p n c.args.request.asker.t.0 c.args.request.x.0 c.args.request.op) c.args.request.asker.t.0 c.args.request.op) (λ k. part_of c.args.self.now.by_object k ≡ Some c.adders_of-in-Write.result) c.gather_in.new.found.keys c.gather_in-in-Write.new.found.keys) c.in_ok-gather_in.ensures.permits c.in_ok-gather_in-in-Write.ensures.gathered)
    (subst (λ p. IsGathered (blocks_as c.args.self.now c.args.seats.now (λ n. g.A.Allows.allows p n c.args.request.asker.t.0 c.args.request.x.0 c.args.request.op) c.args.request.asker.t.0 c.args.request.op) (λ k. part_of c.args.self.now.by_object k ≡ Some c.readers_of.result) c.gather_in-in-Write.new.found.keys c.gather_in-in-Write-2.new.found.keys) (c.in_ok-gather_in-in-Write.ensures.permits ∙ c.in_ok-gather_in.ensures.permits) found)) c.gather_in-in-Write-2.ensures.gathered

pub returns-in-Add-clause-gathered : goal.returns-in-Add-clause-gathered
returns-in-Add-clause-gathered g c =
    on_ok c.gather_in-in-Add.result (λ found.
    gathered_two (blocks_as c.args.self.now c.args.seats.now (λ n. g.A.Allows.allows c.args.permits.now n c.args.request.asker.t.0 c.args.request.x.0 c.args.request.op) c.args.request.asker.t.0 c.args.request.op) c.args.self.now.by_object c.args.request.op c.args.number c.excluders_of.result c.excluders_of.ensures Back c.readers_of-in-Add.result c.readers_of-in-Add.ensures (looks_for_add c.args.request.op c.in-Add.is) (covers_add c.args.request.op c.in-Add.is)
    c.args.found.now.keys c.gather_in.new.found.keys c.gather_in-in-Add.new.found.keys c.in_ok-gather_in.ensures.gathered
    (subst (λ p. IsGathered (blocks_as c.args.self.now c.args.seats.now (λ n. g.A.Allows.allows p n c.args.request.asker.t.0 c.args.request.x.0 c.args.request.op) c.args.request.asker.t.0 c.args.request.op) (λ k. part_of c.args.self.now.by_object k ≡ Some c.readers_of-in-Add.result) c.gather_in.new.found.keys c.gather_in-in-Add.new.found.keys) c.in_ok-gather_in.ensures.permits found)) c.gather_in-in-Add.ensures.gathered
