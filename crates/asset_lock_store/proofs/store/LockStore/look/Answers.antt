use Rattle.std.proofs.Common.{◌≡◌, true, Some, sym, ◌∙◌}
use Rattle.asset_lists.specs.declared.part.Section.{Section}
use Rattle.asset_lists.specs.Parted.{part_of}
use Rattle.asset_lock_store.specs.Stored.{part_for}
use Rattle.asset_lock_store.specs.Looked.{looks_at, IsLookedAt}
use Rattle.asset_lock_store.proofs.BlockLemmas.{blocks_by_key, free_by_keys, free_unnumbered}
use Rattle.asset_lock_store.proofs.LookLemmas.{look_as, look_nothing, looked_in, looked_from, unlooked}
use Rattle.asset_lock_store.proofs.store.LockStore.look.Goals as goal

pub returns-in-Some-clause-blocked : goal.returns-in-Some-clause-blocked
returns-in-Some-clause-blocked g c = λ is.
    let by = c.look_on.ensures.look.blocked is in
    blocks_by_key c.args.self.now c.laws.ensures.stored c.laws.ensures.owners c.args.seats.now (λ u. g.A.Allows.allows c.args.permits.now u c.args.request.asker.t.0 c.args.request.x.0 c.args.request.op) c.args.request.asker.t.0 c.args.request.x.0 c.args.request.op c.in-Some.number (sym c.requires.number ∙ c.in-Some.is) by.0 by.1.0 by.1.1 by.2

pub returns-in-Some-clause-free : goal.returns-in-Some-clause-free
returns-in-Some-clause-free g c = λ is. free_by_keys c.args.self.now c.laws.ensures.stored c.laws.ensures.owners c.args.seats.now (λ u. g.A.Allows.allows c.args.permits.now u c.args.request.asker.t.0 c.args.request.x.0 c.args.request.op) c.args.request.asker.t.0 c.args.request.x.0 c.args.request.op c.in-Some.number (sym c.requires.number ∙ c.in-Some.is) (λ k w at looks. (c.look_on.ensures.look.seen is k (w, at, looks)).free)

pub returns-in-Some-clause-look : goal.returns-in-Some-clause-look
returns-in-Some-clause-look g c =
    look_as c.args.self.now c.args.seats.now (λ u. g.A.Allows.allows c.args.permits.now u c.args.request.asker.t.0 c.args.request.x.0 c.args.request.op) c.args.request.asker.t.0 c.args.request.op (λ k. (w : Section) × (part_of c.args.self.now.by_object k ≡ Some (part_for c.in-Some.number w)) × (looks_at c.args.request.op w ≡ true)) (IsLookedAt c.args.self.now c.args.request.x.0 c.args.request.op) c.look_on.result
    (looked_in c.args.self.now c.laws.ensures.stored c.args.request.x.0 c.in-Some.number c.args.request.op (sym c.requires.number ∙ c.in-Some.is))
    (λ _. looked_from c.args.self.now c.laws.ensures.stored c.args.request.x.0 c.in-Some.number c.args.request.op (sym c.requires.number ∙ c.in-Some.is))
    c.look_on.ensures.look

pub returns-in-None-clause-free : goal.returns-in-None-clause-free
returns-in-None-clause-free g c = λ is. free_unnumbered c.args.self.now c.laws.ensures.stored c.laws.ensures.owners c.args.seats.now (λ u. g.A.Allows.allows c.args.permits.now u c.args.request.asker.t.0 c.args.request.x.0 c.args.request.op) c.args.request.asker.t.0 c.args.request.x.0 c.args.request.op (sym c.requires.number ∙ c.in-None.is)

pub returns-in-None-clause-look : goal.returns-in-None-clause-look
returns-in-None-clause-look g c =
    look_nothing c.args.self.now c.args.seats.now (λ u. g.A.Allows.allows c.args.permits.now u c.args.request.asker.t.0 c.args.request.x.0 c.args.request.op) c.args.request.asker.t.0 c.args.request.op (IsLookedAt c.args.self.now c.args.request.x.0 c.args.request.op) (unlooked c.args.self.now c.laws.ensures.stored c.args.request.x.0 c.args.request.op (sym c.requires.number ∙ c.in-None.is))
