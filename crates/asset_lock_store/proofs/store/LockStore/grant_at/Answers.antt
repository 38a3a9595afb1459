use Rattle.std.proofs.Common.{◌≡◌, ℕ, true, false, Some, is_some, refl, sym, ap, subst, ◌∙◌}
use Rattle.asset_lock_store.specs.declared.lock.Lock.{Lock}
use Rattle.asset_lists.specs.declared.part.Section.{Section}
use Rattle.asset_names.specs.OpSets.{with_op}
use Rattle.asset_names.proofs.Common.{some_of}
use Rattle.asset_chains.specs.Chained.{home_of}
use Rattle.asset_lists.specs.Parted.{IsChangedAt}
use Rattle.asset_lists.proofs.Laws.{changed_not}
use Rattle.asset_lock_store.specs.LockRules.{both_conflict, excludes}
use Rattle.asset_lock_store.specs.Stored.{Stored, lock_at, part_for, class_of}
use Rattle.asset_lock_store.proofs.StoreLemmas.{part_advanced}
use Rattle.asset_lock_store.proofs.OpsLemmas.{excluder_class, excluder_with, class_with}
use Rattle.asset_lock_store.proofs.GrantLemmas.{stored_granted}
use Rattle.asset_lock_store.proofs.store.LockStore.grant_at.Goals as goal

pub invariant_of-self : goal.invariant_of-self
invariant_of-self c =
    let lock = lock_at c.self.inside.locks c.args.key in
    let owned = ap (λ (s : Stored). is_some (home_of s.by_owner c.args.key)) c.self.view_is ∙ c.requires.there in
    let at = some_of (home_of c.self.inside.by_owner c.args.key) owned in
    let placed = c.self.invariant.placed c.args.key at.0 at.1 in
    let ops = ap (λ (l : Lock). l.ops) (c.lock-before.ensures ∙ ap (λ (s : Stored). lock_at s.locks c.args.key) (sym c.self.view_is)) in
    let same = excluder_with c.args.op lock.ops (sym (ap excludes ops) ∙ sym c.excludes.ensures ∙ c.if-excludes.true) in
    stored_granted (record { locks = c.self.inside.locks; objects = c.self.inside.objects.items; by_object = c.self.inside.by_object; by_owner = c.self.inside.by_owner }) _ c.args.key placed.number c.args.op c.self.invariant placed.numbered c.grant_to.ensures.locks c.grant_to.ensures.keys
    (changed_not c.args.key (Some (part_for placed.number (class_of (with_op c.args.op lock.ops)))) c.self.inside.by_object (placed.part ∙ ap (λ (b : Section). Some (part_for placed.number b)) (sym same)))
    (c.self.invariant.listed c.args.key ∙ sym (c.self.invariant.held c.args.key) ∙ owned) refl refl
    (subst (λ (s : Stored). (j a d : ℕ) → home_of s.by_owner c.args.key ≡ Some a → home_of s.by_owner j ≡ Some d → (d ≡ a → ⊥) → (lock_at s.locks j).object.0 ≡ (lock_at s.locks c.args.key).object.0 → both_conflict (lock_at s.locks j).ops (with_op c.args.op (lock_at s.locks c.args.key).ops) ≡ true → (lock_at s.locks j).granted ≡ false) (sym c.self.view_is) c.requires.apart)

pub invariant_of-self-then-excludes-2 : goal.invariant_of-self-then-excludes-2
invariant_of-self-then-excludes-2 c =
    let lock = lock_at c.self.inside.locks c.args.key in
    let owned = ap (λ (s : Stored). is_some (home_of s.by_owner c.args.key)) c.self.view_is ∙ c.requires.there in
    let at = some_of (home_of c.self.inside.by_owner c.args.key) owned in
    let placed = c.self.invariant.placed c.args.key at.0 at.1 in
    let ops = c.with.ensures ∙ ap (λ (l : Lock). with_op c.args.op l.ops) (c.lock-before.ensures ∙ ap (λ (s : Stored). lock_at s.locks c.args.key) (sym c.self.view_is)) in
    let front = excluder_class (with_op c.args.op lock.ops) (sym (ap excludes ops) ∙ sym c.excludes-2.ensures ∙ c.if-excludes-2.true) in
    stored_granted (record { locks = c.self.inside.locks; objects = c.self.inside.objects.items; by_object = c.self.inside.by_object; by_owner = c.self.inside.by_owner }) _ c.args.key placed.number c.args.op c.self.invariant placed.numbered c.grant_to.ensures.locks c.grant_to.ensures.keys
    (subst (λ o. IsChangedAt c.args.key o c.self.inside.by_object c.advance.new.self) (part_advanced c.self.inside.by_object c.args.key placed.number (class_of lock.ops) placed.part ∙ ap (λ (b : Section). Some (part_for placed.number b)) (sym front)) c.advance.ensures)
    (c.self.invariant.listed c.args.key ∙ sym (c.self.invariant.held c.args.key) ∙ owned) refl refl
    (subst (λ (s : Stored). (j a d : ℕ) → home_of s.by_owner c.args.key ≡ Some a → home_of s.by_owner j ≡ Some d → (d ≡ a → ⊥) → (lock_at s.locks j).object.0 ≡ (lock_at s.locks c.args.key).object.0 → both_conflict (lock_at s.locks j).ops (with_op c.args.op (lock_at s.locks c.args.key).ops) ≡ true → (lock_at s.locks j).granted ≡ false) (sym c.self.view_is) c.requires.apart)

pub invariant_of-self-else-excludes-2 : goal.invariant_of-self-else-excludes-2
invariant_of-self-else-excludes-2 c =
    let lock = lock_at c.self.inside.locks c.args.key in
    let owned = ap (λ (s : Stored). is_some (home_of s.by_owner c.args.key)) c.self.view_is ∙ c.requires.there in
    let at = some_of (home_of c.self.inside.by_owner c.args.key) owned in
    let placed = c.self.invariant.placed c.args.key at.0 at.1 in
    let ops = c.with.ensures ∙ ap (λ (l : Lock). with_op c.args.op l.ops) (c.lock-before.ensures ∙ ap (λ (s : Stored). lock_at s.locks c.args.key) (sym c.self.view_is)) in
    let same = class_with c.args.op lock.ops (c.self.invariant.carry c.args.key at.0 at.1) (sym (ap excludes ops) ∙ sym c.excludes-2.ensures ∙ c.if-excludes-2.false) in
    stored_granted (record { locks = c.self.inside.locks; objects = c.self.inside.objects.items; by_object = c.self.inside.by_object; by_owner = c.self.inside.by_owner }) _ c.args.key placed.number c.args.op c.self.invariant placed.numbered c.grant_to.ensures.locks c.grant_to.ensures.keys
    (changed_not c.args.key (Some (part_for placed.number (class_of (with_op c.args.op lock.ops)))) c.self.inside.by_object (placed.part ∙ ap (λ (b : Section). Some (part_for placed.number b)) (sym same)))
    (c.self.invariant.listed c.args.key ∙ sym (c.self.invariant.held c.args.key) ∙ owned) refl refl
    (subst (λ (s : Stored). (j a d : ℕ) → home_of s.by_owner c.args.key ≡ Some a → home_of s.by_owner j ≡ Some d → (d ≡ a → ⊥) → (lock_at s.locks j).object.0 ≡ (lock_at s.locks c.args.key).object.0 → both_conflict (lock_at s.locks j).ops (with_op c.args.op (lock_at s.locks c.args.key).ops) ≡ true → (lock_at s.locks j).granted ≡ false) (sym c.self.view_is) c.requires.apart)
