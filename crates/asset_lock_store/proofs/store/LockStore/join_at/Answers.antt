use Rattle.std.proofs.Common.{Some, is_some, refl, sym, ap, subst, ◌∙◌}
use Rattle.asset_names.proofs.Common.{some_of}
use Rattle.asset_chains.specs.Chained.{home_of}
use Rattle.asset_lists.specs.declared.part.Section.{Section}
use Rattle.asset_lists.specs.Parted.{IsChangedAt}
use Rattle.asset_lock_store.specs.declared.lock.Lock.{Lock}
use Rattle.asset_lists.proofs.Laws.{changed_not}
use Rattle.asset_lock_store.specs.LockRules.{both_ops, excludes}
use Rattle.asset_lock_store.specs.Stored.{Stored, lock_at, part_for, class_of}
use Rattle.asset_lock_store.proofs.StoreLemmas.{part_advanced}
use Rattle.asset_lock_store.proofs.OpsLemmas.{excluder_class, class_both}
use Rattle.asset_lock_store.proofs.HandLemmas.{stored_merged}
use Rattle.asset_lock_store.proofs.store.LockStore.join_at.Goals as goal

pub invariant_of-self : goal.invariant_of-self
invariant_of-self c =
    let lock = lock_at c.self.inside.locks c.args.key in
    let owned = ap (λ (s : Stored). is_some (home_of s.by_owner c.args.key)) c.self.view_is ∙ c.requires in
    let at = some_of (home_of c.self.inside.by_owner c.args.key) owned in
    let placed = c.self.invariant.placed c.args.key at.0 at.1 in
    let all = c.both-all.ensures ∙ ap (λ (l : Lock). both_ops l.ops c.args.ops) (c.lock.ensures ∙ ap (λ (s : Stored). lock_at s.locks c.args.key) (sym c.self.view_is)) in
    let front = excluder_class (both_ops lock.ops c.args.ops) (sym (ap excludes all) ∙ sym c.excludes.ensures ∙ c.if-excludes.true) in
    stored_merged (record { locks = c.self.inside.locks; objects = c.self.inside.objects.items; by_object = c.self.inside.by_object; by_owner = c.self.inside.by_owner }) _ c.args.key placed.number c.args.ops c.self.invariant placed.numbered c.add_ops.ensures.locks c.add_ops.ensures.keys
    (subst (λ o. IsChangedAt c.args.key o c.self.inside.by_object c.advance.new.self)
    (part_advanced c.self.inside.by_object c.args.key placed.number (class_of lock.ops) placed.part ∙ ap (λ (b : Section). Some (part_for placed.number b)) (sym front)) c.advance.ensures)
    (c.self.invariant.listed c.args.key ∙ sym (c.self.invariant.held c.args.key) ∙ owned) refl refl

pub invariant_of-self-else-excludes : goal.invariant_of-self-else-excludes
invariant_of-self-else-excludes c =
    let lock = lock_at c.self.inside.locks c.args.key in
    let owned = ap (λ (s : Stored). is_some (home_of s.by_owner c.args.key)) c.self.view_is ∙ c.requires in
    let at = some_of (home_of c.self.inside.by_owner c.args.key) owned in
    let placed = c.self.invariant.placed c.args.key at.0 at.1 in
    let all = c.both-all.ensures ∙ ap (λ (l : Lock). both_ops l.ops c.args.ops) (c.lock.ensures ∙ ap (λ (s : Stored). lock_at s.locks c.args.key) (sym c.self.view_is)) in
    let same = class_both lock.ops c.args.ops (c.self.invariant.carry c.args.key at.0 at.1) (sym (ap excludes all) ∙ sym c.excludes.ensures ∙ c.if-excludes.false) in
    stored_merged (record { locks = c.self.inside.locks; objects = c.self.inside.objects.items; by_object = c.self.inside.by_object; by_owner = c.self.inside.by_owner }) _ c.args.key placed.number c.args.ops c.self.invariant placed.numbered c.add_ops.ensures.locks c.add_ops.ensures.keys
    (changed_not c.args.key (Some (part_for placed.number (class_of (both_ops lock.ops c.args.ops)))) c.self.inside.by_object (placed.part ∙ ap (λ (b : Section). Some (part_for placed.number b)) (sym same)))
    (c.self.invariant.listed c.args.key ∙ sym (c.self.invariant.held c.args.key) ∙ owned) refl refl
