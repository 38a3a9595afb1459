use Rattle.std.proofs.Common.{◌≡◌, ℕ, true, List, Some, sym, subst, ◌∙◌}
use Rattle.std.proofs.lemmas.Bool.{both_ways}
use Rattle.asset_lists.specs.declared.part.Section.{Section}
use Rattle.asset_lists.specs.Parted.{part_of}
use Rattle.asset_lock_store.specs.LockRules.{blocks}
use Rattle.asset_lock_store.specs.Stored.{locks_at, part_for}
use Rattle.asset_lock_store.specs.Looked.{looks_at}
use Rattle.asset_lock_store.specs.Gathered.{blocks_as, IsGathered}
use Rattle.asset_lock_store.proofs.BlockLemmas.{free_unnumbered}
use Rattle.asset_lock_store.proofs.BlockingLemmas.{all_blockers, only_blockers, nobody_listed}
use Rattle.asset_lock_store.proofs.store.LockStore.blockers.Goals as goal

pub returns-in_ok-gather_on-in-Some-clause-all : goal.returns-in_ok-gather_on-in-Some-clause-all
returns-in_ok-gather_on-in-Some-clause-all g c =
    all_blockers c.args.self.now c.laws.ensures.stored c.laws.ensures.owners c.args.seats.now (λ n. g.A.Allows.allows c.args.permits.now n c.args.request.asker.t.0 c.args.request.x.0 c.args.request.op) c.args.request.asker.t.0 c.args.request.x.0 c.args.request.op c.in-Some.number (sym c.requires.number ∙ c.in-Some.is) c.gather_on.new.found.keys
    (subst (λ (names : List ℕ). IsGathered (blocks_as c.args.self.now c.args.seats.now (λ n. g.A.Allows.allows c.args.permits.now n c.args.request.asker.t.0 c.args.request.x.0 c.args.request.op) c.args.request.asker.t.0 c.args.request.op) (λ (k : ℕ). (w : Section) × (part_of c.args.self.now.by_object k ≡ Some (part_for c.in-Some.number w)) × (looks_at c.args.request.op w ≡ true)) names c.gather_on.new.found.keys) c.new-found.ensures.empty c.in_ok-gather_on-in-Some.ensures.gathered)

pub returns-in_ok-gather_on-in-Some-clause-only : goal.returns-in_ok-gather_on-in-Some-clause-only
returns-in_ok-gather_on-in-Some-clause-only g c =
    only_blockers c.args.self.now c.laws.ensures.stored c.laws.ensures.owners c.args.seats.now (λ n. g.A.Allows.allows c.args.permits.now n c.args.request.asker.t.0 c.args.request.x.0 c.args.request.op) c.args.request.asker.t.0 c.args.request.x.0 c.args.request.op c.in-Some.number (sym c.requires.number ∙ c.in-Some.is) c.gather_on.new.found.keys
    (subst (λ (names : List ℕ). IsGathered (blocks_as c.args.self.now c.args.seats.now (λ n. g.A.Allows.allows c.args.permits.now n c.args.request.asker.t.0 c.args.request.x.0 c.args.request.op) c.args.request.asker.t.0 c.args.request.op) (λ (k : ℕ). (w : Section) × (part_of c.args.self.now.by_object k ≡ Some (part_for c.in-Some.number w)) × (looks_at c.args.request.op w ≡ true)) names c.gather_on.new.found.keys) c.new-found.ensures.empty c.in_ok-gather_on-in-Some.ensures.gathered)

pub returns-in-None-clause-all : goal.returns-in-None-clause-all
returns-in-None-clause-all g c = λ d u sits h.
    absurd (both_ways (blocks (λ n. g.A.Allows.allows c.args.permits.now n c.args.request.asker.t.0 c.args.request.x.0 c.args.request.op) c.args.request.asker.t.0 c.args.request.x.0 c.args.request.op u.0 (locks_at c.args.self.now d))
    (free_unnumbered c.args.self.now c.laws.ensures.stored c.laws.ensures.owners c.args.seats.now (λ n. g.A.Allows.allows c.args.permits.now n c.args.request.asker.t.0 c.args.request.x.0 c.args.request.op) c.args.request.asker.t.0 c.args.request.x.0 c.args.request.op (sym c.requires.number ∙ c.in-None.is) d u sits) h)

pub returns-in-None-clause-only : goal.returns-in-None-clause-only
returns-in-None-clause-only g c = λ n h. absurd (nobody_listed n c.new-found.result.keys c.new-found.ensures.empty h)
