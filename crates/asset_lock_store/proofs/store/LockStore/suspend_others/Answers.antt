use Rattle.std.proofs.Common.{◌&&◌, ◌||◌, refl, sym, ap, subst, ◌∙◌}
use Rattle.asset_chains.specs.Chained.{home_of, lists}
use Rattle.asset_lists.specs.declared.part.Section.TheVariants.{Middle, Back}
use Rattle.asset_lists.specs.Parted.{is_up_to}
use Rattle.asset_names.specs.Numbered.{number_in}
use Rattle.asset_lock_store.specs.Stored.{Stored, lock_at, is_others, IsSuspended}
use Rattle.asset_lock_store.proofs.SuspendLemmas.{stored_suspended, all_suspended, both_passed, either_end, listed_up_to, listed_ends, meets_all, meets_reads, meets_adds}
use Rattle.asset_lock_store.proofs.store.LockStore.suspend_others.Goals as goal

pub invariant_of-self : goal.invariant_of-self
invariant_of-self c =
    stored_suspended (record { locks = c.self.inside.locks; objects = c.self.inside.objects.items; by_object = c.self.inside.by_object; by_owner = c.self.inside.by_owner }) _ c.args.ops (λ k. lists c.keys_up_to-all.result.now k && is_others c.args.c (home_of c.self.inside.by_owner k)) c.self.invariant c.suspend_each.ensures.locks c.suspend_each.ensures.keys refl refl refl

pub invariant_of-self-then-has : goal.invariant_of-self-then-has
invariant_of-self-then-has c =
    let once = stored_suspended (record { locks = c.self.inside.locks; objects = c.self.inside.objects.items; by_object = c.self.inside.by_object; by_owner = c.self.inside.by_owner }) (record { locks = c.suspend_each-then-has.new.locks; objects = c.self.inside.objects.items; by_object = c.self.inside.by_object; by_owner = c.self.inside.by_owner }) c.args.ops (λ k. lists c.keys-excluders.result.now k && is_others c.args.c (home_of c.self.inside.by_owner k)) c.self.invariant c.suspend_each-then-has.ensures.locks c.suspend_each-then-has.ensures.keys refl refl refl in
    stored_suspended (record { locks = c.suspend_each-then-has.new.locks; objects = c.self.inside.objects.items; by_object = c.self.inside.by_object; by_owner = c.self.inside.by_owner }) _ c.args.ops (λ k. lists c.keys-readers.result.now k && is_others c.args.c (home_of c.self.inside.by_owner k)) once c.suspend_each-then-has-2.ensures.locks c.suspend_each-then-has-2.ensures.keys refl refl refl

pub invariant_of-self-else-has : goal.invariant_of-self-else-has
invariant_of-self-else-has c =
    stored_suspended (record { locks = c.self.inside.locks; objects = c.self.inside.objects.items; by_object = c.self.inside.by_object; by_owner = c.self.inside.by_owner }) _ c.args.ops (λ k. lists c.keys_up_to-others.result.now k && is_others c.args.c (home_of c.self.inside.by_owner k)) c.self.invariant c.suspend_each-else-has.ensures.locks c.suspend_each-else-has.ensures.keys refl refl refl

pub returns-then-excludes : goal.returns-then-excludes
returns-then-excludes c =
    subst (λ (s : Stored). IsSuspended c.args.x.0 c.args.c c.args.ops s (record { locks = c.suspend_each.new.locks; objects = c.self.inside.objects.items; by_object = c.self.inside.by_object; by_owner = c.self.inside.by_owner })) c.self.view_is
    (all_suspended (record { locks = c.self.inside.locks; objects = c.self.inside.objects.items; by_object = c.self.inside.by_object; by_owner = c.self.inside.by_owner }) c.self.invariant c.args.x.0 c.args.c c.args.ops (is_up_to Back) (meets_all c.args.ops) (lists c.keys_up_to-all.result.now)
    (listed_up_to (record { locks = c.self.inside.locks; objects = c.self.inside.objects.items; by_object = c.self.inside.by_object; by_owner = c.self.inside.by_owner }) c.self.invariant c.args.x.0 c.args.number (ap (λ (s : Stored). number_in s.objects c.args.x.0) c.self.view_is ∙ c.requires) c.readers_of.result Back c.keys_up_to-all.result.now c.readers_of.ensures c.keys_up_to-all.ensures)
    (record { locks = c.suspend_each.new.locks; objects = c.self.inside.objects.items; by_object = c.self.inside.by_object; by_owner = c.self.inside.by_owner }) c.suspend_each.ensures.locks refl refl)

pub returns-then-has : goal.returns-then-has
returns-then-has c =
    subst (λ (s : Stored). IsSuspended c.args.x.0 c.args.c c.args.ops s (record { locks = c.suspend_each-then-has-2.new.locks; objects = c.self.inside.objects.items; by_object = c.self.inside.by_object; by_owner = c.self.inside.by_owner })) c.self.view_is
    (all_suspended (record { locks = c.self.inside.locks; objects = c.self.inside.objects.items; by_object = c.self.inside.by_object; by_owner = c.self.inside.by_owner }) c.self.invariant c.args.x.0 c.args.c c.args.ops either_end (meets_adds c.args.ops (sym c.excludes.ensures ∙ c.if-excludes.false) (sym c.has.ensures ∙ c.if-has.true)) (λ k. lists c.keys-excluders.result.now k || lists c.keys-readers.result.now k)
    (listed_ends (record { locks = c.self.inside.locks; objects = c.self.inside.objects.items; by_object = c.self.inside.by_object; by_owner = c.self.inside.by_owner }) c.self.invariant c.args.x.0 c.args.number (ap (λ (s : Stored). number_in s.objects c.args.x.0) c.self.view_is ∙ c.requires) c.excluders_of.result c.readers_of-then-has.result c.keys-excluders.result.now c.keys-readers.result.now c.excluders_of.ensures c.readers_of-then-has.ensures c.keys-excluders.ensures c.keys-readers.ensures)
    (record { locks = c.suspend_each-then-has-2.new.locks; objects = c.self.inside.objects.items; by_object = c.self.inside.by_object; by_owner = c.self.inside.by_owner }) (λ k. both_passed c.args.ops (lists c.keys-excluders.result.now k) (lists c.keys-readers.result.now k) (is_others c.args.c (home_of c.self.inside.by_owner k)) (lock_at c.self.inside.locks k) (lock_at c.suspend_each-then-has.new.locks k) (lock_at c.suspend_each-then-has-2.new.locks k) (c.suspend_each-then-has.ensures.locks k) (c.suspend_each-then-has-2.ensures.locks k)) refl refl)

pub returns-else-has : goal.returns-else-has
returns-else-has c =
    subst (λ (s : Stored). IsSuspended c.args.x.0 c.args.c c.args.ops s (record { locks = c.suspend_each-else-has.new.locks; objects = c.self.inside.objects.items; by_object = c.self.inside.by_object; by_owner = c.self.inside.by_owner })) c.self.view_is
    (all_suspended (record { locks = c.self.inside.locks; objects = c.self.inside.objects.items; by_object = c.self.inside.by_object; by_owner = c.self.inside.by_owner }) c.self.invariant c.args.x.0 c.args.c c.args.ops (is_up_to Middle) (meets_reads c.args.ops (sym c.excludes.ensures ∙ c.if-excludes.false) (sym c.has.ensures ∙ c.if-has.false)) (lists c.keys_up_to-others.result.now)
    (listed_up_to (record { locks = c.self.inside.locks; objects = c.self.inside.objects.items; by_object = c.self.inside.by_object; by_owner = c.self.inside.by_owner }) c.self.invariant c.args.x.0 c.args.number (ap (λ (s : Stored). number_in s.objects c.args.x.0) c.self.view_is ∙ c.requires) c.adders_of.result Middle c.keys_up_to-others.result.now c.adders_of.ensures c.keys_up_to-others.ensures)
    (record { locks = c.suspend_each-else-has.new.locks; objects = c.self.inside.objects.items; by_object = c.self.inside.by_object; by_owner = c.self.inside.by_owner }) c.suspend_each-else-has.ensures.locks refl refl)
