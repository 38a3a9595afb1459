use Rattle.std.proofs.Common.{◌≡◌, ℕ, ◌<◌, length, true, false, Some, is_some, refl, sym, ap, subst, ◌∙◌, arith}
use Rattle.asset_names.proofs.Common.{none_of}
use Rattle.slab.specs.Slab.{get, Updates}
use Rattle.asset_chains.specs.Chained.{home_of}
use Rattle.asset_chains.proofs.Laws.{pushes}
use Rattle.asset_lists.specs.declared.part.Part.{Part}
use Rattle.asset_lists.specs.Parted.{Parted, IsChangedAt}
use Rattle.asset_lock_store.specs.LockRules.{is_on, both_conflict}
use Rattle.asset_names.specs.Numbered.{number_in}
use Rattle.asset_lock_store.specs.Stored.{Stored, lock_at, class_of, IsStored, IsAdded}
use Rattle.asset_lock_store.proofs.StoreLemmas.{same_lock, read_lock, list_of, list_there, stored_added}
use Rattle.asset_lock_store.proofs.store.LockStore.insert.Goals as goal

pub push-requires-clause-list : goal.push-requires-clause-list
push-requires-clause-list c =
    let there = list_there (record { locks = c.self.inside.locks; objects = c.self.inside.objects.items; by_object = c.self.inside.by_object; by_owner = c.self.inside.by_owner }) c.self.invariant c.args.lock.object.0 c.args.number (ap (λ (s : Stored). number_in s.objects c.args.lock.object.0) c.self.view_is ∙ c.requires.number) in
    subst (λ (p : Part). p.list < c.self.inside.by_object.lists) (sym c.part_of-part.ensures) (subst (λ (n : ℕ). n < c.self.inside.by_object.lists) (sym (list_of c.args.number (class_of c.args.lock.ops))) there)

pub push-requires-clause-key : goal.push-requires-clause-key
push-requires-clause-key c = subst (λ (s : Stored). c.args.key < length s.by_object.parts) (sym c.self.view_is) c.requires.room.of_object

pub push-requires-clause-free : goal.push-requires-clause-free
push-requires-clause-free c = none_of _ (c.self.invariant.listed c.args.key ∙ ap is_some (ap (λ (s : Stored). get s.locks c.args.key) c.self.view_is ∙ c.requires.room.empty))

pub invariant_of-self : goal.invariant_of-self
invariant_of-self c = subst (λ (t : Parted). IsStored (record { locks = c.self.inside.locks; objects = c.self.inside.objects.items; by_object = t; by_owner = c.self.inside.by_owner })) (sym c.in-Err.ensures.unchanged) c.self.invariant

pub invariant_of-self-2 : goal.invariant_of-self-2
invariant_of-self-2 c =
    stored_added (record { locks = c.self.inside.locks; objects = c.self.inside.objects.items; by_object = c.self.inside.by_object; by_owner = c.self.inside.by_owner }) _ c.args.key c.args.c c.args.number c.args.lock c.self.invariant
    (ap (λ (s : Stored). get s.locks c.args.key) c.self.view_is ∙ c.requires.room.empty)
    (subst (λ n. Updates c.self.inside.locks c.insert_reserved.new.self n (Some c.args.lock)) (c.insert_reserved.ensures.key ∙ ap (λ (s : Stored). s.locks.vacant_key) c.self.view_is ∙ c.requires.room.vacant) c.insert_reserved.ensures.updates)
    (subst (λ (p : Part). IsChangedAt c.args.key (Some p) c.self.inside.by_object c.push.new.self) c.part_of-part.ensures c.in-Ok.ensures.pushed)
    (pushes c.args.c c.args.key c.self.inside.by_owner c.push-2.new.self (subst (λ (s : Stored). c.args.c < length s.by_owner.chains) (sym c.self.view_is) c.requires.seat) (subst (λ (s : Stored). c.args.key < length s.by_owner.homes) (sym c.self.view_is) c.requires.room.of_owner) c.push-2.ensures)
    refl (ap (λ (s : Stored). number_in s.objects c.args.lock.object.0) c.self.view_is ∙ c.requires.number)
    (subst (λ (s : Stored). (k : ℕ) → home_of s.by_owner k ≡ Some c.args.c → is_on c.args.lock.object.0 (lock_at s.locks k) ≡ false) (sym c.self.view_is) c.requires.none)
    (subst (λ (s : Stored). c.args.lock.granted ≡ true → (k d : ℕ) → home_of s.by_owner k ≡ Some d → (d ≡ c.args.c → ⊥) → (lock_at s.locks k).object.0 ≡ c.args.lock.object.0 → both_conflict (lock_at s.locks k).ops c.args.lock.ops ≡ false) (sym c.self.view_is) c.requires.apart)
    c.requires.ops

pub returns-clause-added : goal.returns-clause-added
returns-clause-added c =
    let update = (subst (λ n. Updates c.self.inside.locks c.insert_reserved.new.self n (Some c.args.lock)) (c.insert_reserved.ensures.key ∙ ap (λ (s : Stored). s.locks.vacant_key) c.self.view_is ∙ c.requires.room.vacant) c.insert_reserved.ensures.updates) in
    let pushed = (pushes c.args.c c.args.key c.self.inside.by_owner c.push-2.new.self (subst (λ (s : Stored). c.args.c < length s.by_owner.chains) (sym c.self.view_is) c.requires.seat) (subst (λ (s : Stored). c.args.key < length s.by_owner.homes) (sym c.self.view_is) c.requires.room.of_owner) c.push-2.ensures) in
    subst (λ (s : Stored). IsAdded c.args.key c.args.c c.args.lock s (record { locks = c.insert_reserved.new.self; objects = c.self.inside.objects.items; by_object = c.push.new.self; by_owner = c.push-2.new.self })) c.self.view_is (record {
      free = none_of _ (c.self.invariant.held c.args.key ∙ ap is_some (ap (λ (s : Stored). get s.locks c.args.key) c.self.view_is ∙ c.requires.room.empty));
      added = read_lock c.insert_reserved.new.self c.args.key c.args.lock update.changed;
      locks = λ k apart. same_lock c.insert_reserved.new.self c.self.inside.locks k (update.others k apart);
      home = pushed.home;
      homes = pushed.homes;
      chain = pushed.chain;
      chains = pushed.chains;
      seats = omega (arith, pushed.same_chains);
      objects = refl;
    })
