use Rattle.std.proofs.Common.{◌≡◌, ℕ, ◌<◌, length, Some, is_some, false, sym, ap, subst, ◌∙◌}
use Rattle.asset_names.proofs.Common.{some_of}
use Rattle.asset_chains.specs.Chained.{home_of, IsConsistent}
use Rattle.asset_chains.proofs.Laws.{key_within, unlinks}
use Rattle.asset_lock_store.specs.LockRules.{is_on}
use Rattle.asset_lock_store.specs.Stored.{Stored, lock_at, IsMoved}
use Rattle.asset_lock_store.proofs.HandLemmas.{stored_moved, moved_homes, moved_chain}
use Rattle.asset_lock_store.proofs.store.LockStore.move_key.Goals as goal

pub unlink-requires : goal.unlink-requires
unlink-requires c =
    let at = some_of (home_of c.self.inside.by_owner c.args.key) (ap (λ (s : Stored). is_some (home_of s.by_owner c.args.key)) c.self.view_is ∙ c.requires.there) in
    key_within c.args.key at.0 c.self.inside.by_owner at.1

pub push-requires-clause-chain : goal.push-requires-clause-chain
push-requires-clause-chain c =
    let at = some_of (home_of c.self.inside.by_owner c.args.key) (ap (λ (s : Stored). is_some (home_of s.by_owner c.args.key)) c.self.view_is ∙ c.requires.there) in
    subst (λ n. c.args.to < n) (sym (unlinks at.0 c.args.key c.self.inside.by_owner c.unlink.new.self at.1 c.unlink.ensures).same_chains) (subst (λ (s : Stored). c.args.to < length s.by_owner.chains) (sym c.self.view_is) c.requires.seat)

pub push-requires-clause-key : goal.push-requires-clause-key
push-requires-clause-key c =
    let at = some_of (home_of c.self.inside.by_owner c.args.key) (ap (λ (s : Stored). is_some (home_of s.by_owner c.args.key)) c.self.view_is ∙ c.requires.there) in
    subst (λ n. c.args.key < n) (sym (unlinks at.0 c.args.key c.self.inside.by_owner c.unlink.new.self at.1 c.unlink.ensures).same_keys) (key_within c.args.key at.0 c.self.inside.by_owner at.1)

pub push-requires-clause-free : goal.push-requires-clause-free
push-requires-clause-free c =
    let at = some_of (home_of c.self.inside.by_owner c.args.key) (ap (λ (s : Stored). is_some (home_of s.by_owner c.args.key)) c.self.view_is ∙ c.requires.there) in
    (unlinks at.0 c.args.key c.self.inside.by_owner c.unlink.new.self at.1 c.unlink.ensures).home

pub invariant_of-self : goal.invariant_of-self
invariant_of-self c =
    let inside = c.self.inside in
    let there = ap (λ (s : Stored). is_some (home_of s.by_owner c.args.key)) c.self.view_is ∙ c.requires.there in
    let at = some_of (home_of inside.by_owner c.args.key) there in
    let seat = subst (λ (s : Stored). c.args.to < length s.by_owner.chains) (sym c.self.view_is) c.requires.seat in
    stored_moved (record { locks = inside.locks; objects = inside.objects.items; by_object = inside.by_object; by_owner = inside.by_owner }) c.push.new.self c.args.key c.args.to c.self.invariant there
    (moved_homes inside.by_owner c.unlink.new.self c.push.new.self c.args.key at.0 c.args.to at.1 seat c.unlink.ensures c.push.ensures)
    (subst (λ (s : Stored). (k : ℕ) → home_of s.by_owner k ≡ Some c.args.to → is_on (lock_at s.locks c.args.key).object.0 (lock_at s.locks k) ≡ false) (sym c.self.view_is) c.requires.none)

pub returns : goal.returns
returns c =
    let inside = c.self.inside in
    let there = ap (λ (s : Stored). is_some (home_of s.by_owner c.args.key)) c.self.view_is ∙ c.requires.there in
    let at = some_of (home_of inside.by_owner c.args.key) there in
    let seat = subst (λ (s : Stored). c.args.to < length s.by_owner.chains) (sym c.self.view_is) c.requires.seat in
    let sound = subst (λ (s : Stored). IsConsistent s.by_owner) (sym c.self.view_is) c.laws.ensures.owners in
    let none = subst (λ (s : Stored). (k : ℕ) → home_of s.by_owner k ≡ Some c.args.to → is_on (lock_at s.locks c.args.key).object.0 (lock_at s.locks k) ≡ false) (sym c.self.view_is) c.requires.none in
    subst (λ (s : Stored). IsMoved c.args.key c.args.to s (record { locks = inside.locks; objects = inside.objects.items; by_object = inside.by_object; by_owner = c.push.new.self })) c.self.view_is
    (moved_chain (record { locks = inside.locks; objects = inside.objects.items; by_object = inside.by_object; by_owner = inside.by_owner }) c.unlink.new.self c.push.new.self c.args.key at.0 c.args.to sound at.1 seat c.unlink.ensures c.push.ensures none)
