use Rattle.std.proofs.Common.{◌≤◌, ◌+◌, List, length, sym, ap, subst, ◌∙◌, arith}
use Rattle.std.specs.List.Sorted.{IsStrictlyIncreasing}
use Rattle.asset_names.specs.declared.names.Ob.{Ob}
use Rattle.asset_names.specs.Sets.{numbers}
use Rattle.asset_entries.specs.StoredSets.{stored_set, stretch_of}
use Rattle.asset_entries.proofs.StoredSetLemmas.{index_left, stretch_at, stretch_few, set_there}
use Rattle.asset_entries.proofs.stored_sets.StoredSets.listed_at.Goals as goal

pub index-requires : goal.index-requires
index-requires c =
    let inside = c.self.inside in
    omega (arith, index_left inside.objects.items inside.stretches.items inside.room c.args.index c.args.self.now c.self.view_is c.requires)

pub objects_of-requires : goal.objects_of-requires
objects_of-requires c =
    let inside = c.self.inside in
    let s = c.index.result.now in
    let is = stretch_at inside.objects.items inside.stretches.items inside.room c.args.index c.args.self.now s c.self.invariant.each c.self.view_is c.requires c.index.ensures in
    subst (λ (objects : List Ob). s.start + s.count ≤ length objects) (sym c.deref.ensures.value) is.within

pub returns-clause-few : goal.returns-clause-few
returns-clause-few c =
    let inside = c.self.inside in
    let s = c.index.result.now in
    let is = stretch_at inside.objects.items inside.stretches.items inside.room c.args.index c.args.self.now s c.self.invariant.each c.self.view_is c.requires c.index.ensures in
    subst (λ (objects : List Ob). length objects ≤ 16) (sym (c.objects_of.ensures ∙ ap (λ (objects : List Ob). stretch_of objects s) c.deref.ensures.value)) (stretch_few inside.objects.items s is)

pub returns-clause-rising : goal.returns-clause-rising
returns-clause-rising c =
    let inside = c.self.inside in
    let s = c.index.result.now in
    let is = stretch_at inside.objects.items inside.stretches.items inside.room c.args.index c.args.self.now s c.self.invariant.each c.self.view_is c.requires c.index.ensures in
    subst (λ (objects : List Ob). IsStrictlyIncreasing (numbers objects)) (sym (c.objects_of.ensures ∙ ap (λ (objects : List Ob). stretch_of objects s) c.deref.ensures.value)) is.rising

pub returns-clause-set : goal.returns-clause-set
returns-clause-set c =
    let inside = c.self.inside in
    let s = c.index.result.now in
    ap stored_set (c.objects_of.ensures ∙ ap (λ (objects : List Ob). stretch_of objects s) c.deref.ensures.value)
    ∙ set_there inside.objects.items inside.stretches.items inside.room c.args.index c.args.self.now s c.self.view_is
    (index_left inside.objects.items inside.stretches.items inside.room c.args.index c.args.self.now c.self.view_is c.requires)
    c.index.ensures
