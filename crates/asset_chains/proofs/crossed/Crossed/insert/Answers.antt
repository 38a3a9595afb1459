use Rattle.std.proofs.Common.{◌≡◌, ℕ, ◌+◌, ◌<◌, ◌^◌, Some, is_some, sym, ap, ◌∙◌, arith}
use Rattle.slab.specs.Slab.{slab_len}
use Rattle.asset_chains.specs.Chained.{home_of}
use Rattle.asset_chains.specs.Linked.{seen, no_link}
use Rattle.asset_chains.specs.declared.side.Side.TheVariants.{Row, Column}
use Rattle.asset_chains.proofs.CrossedLemmas.{inserted, lined_same, lined_links, fresh_links, few_more, room_parts, values_count, values_updated, home_none}
use Rattle.asset_chains.proofs.SlotLemmas.{there_kept}
use Rattle.asset_chains.proofs.crossed.Crossed.insert.Goals as goal

pub insert_reserved-key-requires : goal.insert_reserved-key-requires
insert_reserved-key-requires g c = let s = c.self.inside in (room_parts s.slots s.rows.items s.columns.items (rw (← c.self.view_is) at c.requires.room)).0

below : (key vacant : ℕ) → key ≡ vacant → vacant < 0xFFFF_FFFF → key + 1 < 2 ^ 32
below key vacant is few = omega (arith, is, few)

pub join-requires-clause-lined : goal.join-requires-clause-lined
join-requires-clause-lined g c =
    let s = c.self.inside in
    let was = c.insert_reserved-key in
    (lined_same Row s.slots was.new.self s.rows.items c.self.invariant.by_row (fresh_links Row s.slots was.new.self was.result c.args.item was.ensures.was_vacant was.ensures.updates)).0

pub join-requires-clause-few : goal.join-requires-clause-few
join-requires-clause-few g c =
    let s = c.self.inside in
    let was = c.insert_reserved-key in
    let room = room_parts s.slots s.rows.items s.columns.items (rw (← c.self.view_is) at c.requires.room) in
    few_more s.slots was.new.self was.result (record { item = c.args.item; row = no_link; column = no_link }) c.self.invariant.few (below was.result s.slots.vacant_key was.ensures.key room.1) was.ensures.updates

pub join-requires-clause-free : goal.join-requires-clause-free
join-requires-clause-free g c =
    let s = c.self.inside in
    let was = c.insert_reserved-key in
    home_none Row s.slots was.new.self s.rows.items c.self.invariant.by_row was.result was.ensures.was_vacant
    (lined_same Row s.slots was.new.self s.rows.items c.self.invariant.by_row (fresh_links Row s.slots was.new.self was.result c.args.item was.ensures.was_vacant was.ensures.updates)).1

pub join-requires-2-clause-lined : goal.join-requires-2-clause-lined
join-requires-2-clause-lined g c =
    let s = c.self.inside in
    let was = c.insert_reserved-key in
    lined_links Column was.new.self c.join.new.slots s.columns.items
    (lined_same Column s.slots was.new.self s.columns.items c.self.invariant.by_column (fresh_links Column s.slots was.new.self was.result c.args.item was.ensures.was_vacant was.ensures.updates)).0 c.join.ensures.others

pub join-requires-2-clause-there : goal.join-requires-2-clause-there
join-requires-2-clause-there g c =
    let was = c.insert_reserved-key in
    there_kept was.new.self c.join.new.slots c.join.ensures.values was.result ∙ ap is_some was.ensures.updates.changed

pub join-requires-2-clause-few : goal.join-requires-2-clause-few
join-requires-2-clause-few g c = λ k there.
    let s = c.self.inside in
    let was = c.insert_reserved-key in
    let room = room_parts s.slots s.rows.items s.columns.items (rw (← c.self.view_is) at c.requires.room) in
    few_more s.slots was.new.self was.result (record { item = c.args.item; row = no_link; column = no_link }) c.self.invariant.few (below was.result s.slots.vacant_key was.ensures.key room.1) was.ensures.updates k
    (sym (there_kept was.new.self c.join.new.slots c.join.ensures.values k) ∙ there)

pub join-requires-2-clause-free : goal.join-requires-2-clause-free
join-requires-2-clause-free g c =
    let s = c.self.inside in
    let was = c.insert_reserved-key in
    ap (λ l. home_of (seen l s.columns.items) was.result) c.join.ensures.others
    ∙ home_none Column s.slots was.new.self s.columns.items c.self.invariant.by_column was.result was.ensures.was_vacant
    (lined_same Column s.slots was.new.self s.columns.items c.self.invariant.by_column (fresh_links Column s.slots was.new.self was.result c.args.item was.ensures.was_vacant was.ensures.updates)).1

pub invariant_of-self : goal.invariant_of-self
invariant_of-self g c =
    let s = c.self.inside in
    let was = c.insert_reserved-key in
    let room = room_parts s.slots s.rows.items s.columns.items (rw (← c.self.view_is) at c.requires.room) in
    (inserted c.args.row c.args.column was.result c.args.item s.slots was.new.self c.join.new.slots c.join-2.new.slots s.rows.items s.columns.items c.join.new.heads.items c.join-2.new.heads.items
    c.self.invariant was.ensures.was_vacant (below was.result s.slots.vacant_key was.ensures.key room.1) was.ensures.updates
    (omega (arith, rw (← c.self.view_is) at c.requires.row, c.self.invariant.by_row.stored.chains)) (omega (arith, rw (← c.self.view_is) at c.requires.column, c.self.invariant.by_column.stored.chains))
    c.join.ensures.lined c.join.ensures.pushed c.join.ensures.others c.join.ensures.values c.join-2.ensures.lined c.join-2.ensures.pushed c.join-2.ensures.others c.join-2.ensures.values).are

pub returns-clause-items : goal.returns-clause-items
returns-clause-items g c =
    let s = c.self.inside in
    let was = c.insert_reserved-key in
    rw (← c.self.view_is, c.join-2.ensures.values, c.join.ensures.values)
    (values_updated s.slots was.new.self was.result (Some (record { item = c.args.item; row = no_link; column = no_link })) was.ensures.updates)

pub returns-clause-rows : goal.returns-clause-rows
returns-clause-rows g c =
    let s = c.self.inside in
    let was = c.insert_reserved-key in
    let room = room_parts s.slots s.rows.items s.columns.items (rw (← c.self.view_is) at c.requires.room) in
    rw (← c.self.view_is) (inserted c.args.row c.args.column was.result c.args.item s.slots was.new.self c.join.new.slots c.join-2.new.slots s.rows.items s.columns.items c.join.new.heads.items c.join-2.new.heads.items
    c.self.invariant was.ensures.was_vacant (below was.result s.slots.vacant_key was.ensures.key room.1) was.ensures.updates
    (omega (arith, rw (← c.self.view_is) at c.requires.row, c.self.invariant.by_row.stored.chains)) (omega (arith, rw (← c.self.view_is) at c.requires.column, c.self.invariant.by_column.stored.chains))
    c.join.ensures.lined c.join.ensures.pushed c.join.ensures.others c.join.ensures.values c.join-2.ensures.lined c.join-2.ensures.pushed c.join-2.ensures.others c.join-2.ensures.values).by_row

pub returns-clause-columns : goal.returns-clause-columns
returns-clause-columns g c =
    let s = c.self.inside in
    let was = c.insert_reserved-key in
    let room = room_parts s.slots s.rows.items s.columns.items (rw (← c.self.view_is) at c.requires.room) in
    rw (← c.self.view_is) (inserted c.args.row c.args.column was.result c.args.item s.slots was.new.self c.join.new.slots c.join-2.new.slots s.rows.items s.columns.items c.join.new.heads.items c.join-2.new.heads.items
    c.self.invariant was.ensures.was_vacant (below was.result s.slots.vacant_key was.ensures.key room.1) was.ensures.updates
    (omega (arith, rw (← c.self.view_is) at c.requires.row, c.self.invariant.by_row.stored.chains)) (omega (arith, rw (← c.self.view_is) at c.requires.column, c.self.invariant.by_column.stored.chains))
    c.join.ensures.lined c.join.ensures.pushed c.join.ensures.others c.join.ensures.values c.join-2.ensures.lined c.join-2.ensures.pushed c.join-2.ensures.others c.join-2.ensures.values).by_column

pub returns-clause-len : goal.returns-clause-len
returns-clause-len g c =
    let s = c.self.inside in
    let was = c.insert_reserved-key in
    ap (λ l. slab_len l) (c.join-2.ensures.values ∙ c.join.ensures.values) ∙ values_count was.new.self ∙ was.ensures.len ∙ ap (λ n. n + 1) (sym (values_count s.slots))
    ∙ ap (λ t. slab_len t.items + 1) c.self.view_is
