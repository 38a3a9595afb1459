use Rattle.std.proofs.Common.{◌≡◌, [], ◌∷◌, ◌++◌, length, map, ap, ◌∙◌, arith}
use Rattle.std.proofs.lemmas.List.{length-append}
use Rattle.asset_entries.specs.declared.stored_sets.Stretch.{Stretch}
use Rattle.asset_entries.specs.StoredSets.{Sets, sets_of, stored_set, stretch_of}
use Rattle.asset_entries.proofs.StoredSetLemmas.{each_appended, sets_appended, room_left}
use Rattle.asset_entries.proofs.stored_sets.StoredSets.push_objects.Goals as goal

pub append_objects-requires : goal.append_objects-requires
append_objects-requires c =
    let inside = c.self.inside in
    let below = room_left inside.objects.items inside.stretches.items inside.room c.args.self.now c.self.view_is c.requires.room in
    omega (arith, below, c.self.invariant.used, c.self.invariant.objects_room, c.requires.few)

pub push_reserved-requires : goal.push_reserved-requires
push_reserved-requires c =
    let inside = c.self.inside in
    let below = room_left inside.objects.items inside.stretches.items inside.room c.args.self.now c.self.view_is c.requires.room in
    omega (arith, below, c.self.invariant.stretches_room, inside.stretches.ok)

pub invariant_of-self : goal.invariant_of-self
invariant_of-self c =
    let inside = c.self.inside in
    let more = c.args.listed.now in
    let objects : c.append_objects.new.objects.items ≡ inside.objects.items ++ more = c.append_objects.ensures.items in
    let start : c.len-start.result ≡ length inside.objects.items = omega (arith, c.len-start.ensures) in
    let last : Stretch = record { start = length inside.objects.items; count = length more } in
    let stretches : c.push_reserved.new.self.items ≡ inside.stretches.items ++ last ∷ [] = rw start at c.push_reserved.ensures.items in
    rw (objects, stretches) (record {
      each = each_appended inside.objects.items more inside.stretches.items c.self.invariant.each c.requires.few c.requires.rising;
      used = omega (arith, c.self.invariant.used, c.requires.few, length-append inside.objects.items more, length-append inside.stretches.items (last ∷ []));
      objects_room = omega (arith, c.self.invariant.objects_room, c.append_objects.ensures.capacity);
      stretches_room = omega (arith, c.self.invariant.stretches_room, c.push_reserved.ensures.capacity);
    })

pub returns-clause-sets : goal.returns-clause-sets
unfolding sets_of
returns-clause-sets c =
    let inside = c.self.inside in
    let more = c.args.listed.now in
    let objects : c.append_objects.new.objects.items ≡ inside.objects.items ++ more = c.append_objects.ensures.items in
    let start : c.len-start.result ≡ length inside.objects.items = omega (arith, c.len-start.ensures) in
    let last : Stretch = record { start = length inside.objects.items; count = length more } in
    let stretches : c.push_reserved.new.self.items ≡ inside.stretches.items ++ last ∷ [] = rw start at c.push_reserved.ensures.items in
    (λ i. map (λ (s : Stretch). stored_set (stretch_of (objects i) s)) (stretches i))
    ∙ sets_appended inside.objects.items more inside.stretches.items c.self.invariant.each
    ∙ ap (λ (s : Sets). s.sets ++ stored_set more ∷ []) c.self.view_is

pub returns-clause-room : goal.returns-clause-room
unfolding sets_of
returns-clause-room c = ap (λ (s : Sets). s.room) c.self.view_is
