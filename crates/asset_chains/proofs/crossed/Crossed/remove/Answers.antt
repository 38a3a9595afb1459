use Rattle.std.proofs.Common.{◌≡◌, ℕ, ◌+◌, ◌<◌, ◌^◌, rules, None, is_some, sym, ap, ◌∙◌, arith}
use Rattle.slab.specs.Slab.{slab_len}
use Rattle.asset_chains.specs.Chained.{home_of}
use Rattle.asset_chains.specs.Linked.{seen}
use Rattle.asset_chains.specs.declared.side.Side.{Side}
use Rattle.asset_chains.specs.declared.side.Side.TheVariants.{Row, Column}
use Rattle.asset_chains.specs.Crossed.{Crossed, lines, Leaves}
use Rattle.asset_chains.specs.Slots.{values_of, crossed}
use Rattle.asset_chains.proofs.SlotLemmas.{value_some}
use Rattle.asset_chains.proofs.CrossedLemmas.{removed, home_some, lined_links, values_updated, values_count, room_from}
use Rattle.asset_chains.proofs.crossed.Crossed.remove.Goals as goal

by_side : {T : Type 0} (old new : Crossed T) (key : ℕ) → Leaves key old.rows new.rows → Leaves key old.columns new.columns → (side : Side) → Leaves key (lines side old) (lines side new)
by_side old new key row column Row = row
by_side old new key row column Column = column

pub leave-requires-clause-there : goal.leave-requires-clause-there
leave-requires-clause-there g c =
    let s = c.self.inside in
    home_some Row s.slots s.rows.items c.self.invariant.by_row c.self.invariant.in_row c.args.key (sym (value_some s.slots c.args.key) ∙ rw (← c.self.view_is) at c.requires)

pub leave-requires-2-clause-lined : goal.leave-requires-2-clause-lined
leave-requires-2-clause-lined g c = let s = c.self.inside in lined_links Column s.slots c.leave.new.slots s.columns.items c.self.invariant.by_column c.leave.ensures.others

pub leave-requires-2-clause-there : goal.leave-requires-2-clause-there
leave-requires-2-clause-there g c =
    let s = c.self.inside in
    ap (λ l. is_some (home_of (seen l s.columns.items) c.args.key)) c.leave.ensures.others
    ∙ home_some Column s.slots s.columns.items c.self.invariant.by_column c.self.invariant.in_column c.args.key (sym (value_some s.slots c.args.key) ∙ rw (← c.self.view_is) at c.requires)

pub invariant_of-self : goal.invariant_of-self
invariant_of-self g c =
    let s = c.self.inside in
    (removed c.args.key s.slots c.leave.new.slots c.leave-2.new.slots c.try_remove.new.self s.rows.items s.columns.items c.leave.new.heads.items c.leave-2.new.heads.items
    c.self.invariant (sym (value_some s.slots c.args.key) ∙ rw (← c.self.view_is) at c.requires)
    c.leave.ensures.lined c.leave.ensures.unlinked c.leave.ensures.others c.leave.ensures.values c.leave-2.ensures.lined c.leave-2.ensures.unlinked c.leave-2.ensures.others c.leave-2.ensures.values c.try_remove.ensures.updates).are

pub returns-clause-items : goal.returns-clause-items
returns-clause-items g c =
    let s = c.self.inside in
    rw (← c.self.view_is, sym (c.leave-2.ensures.values ∙ c.leave.ensures.values)) (values_updated c.leave-2.new.slots c.try_remove.new.self c.args.key None c.try_remove.ensures.updates)

pub returns-clause-lines : goal.returns-clause-lines
returns-clause-lines g c =
    let s = c.self.inside in
    let is = removed c.args.key s.slots c.leave.new.slots c.leave-2.new.slots c.try_remove.new.self s.rows.items s.columns.items c.leave.new.heads.items c.leave-2.new.heads.items
    c.self.invariant (sym (value_some s.slots c.args.key) ∙ rw (← c.self.view_is) at c.requires)
    c.leave.ensures.lined c.leave.ensures.unlinked c.leave.ensures.others c.leave.ensures.values c.leave-2.ensures.lined c.leave-2.ensures.unlinked c.leave-2.ensures.others c.leave-2.ensures.values c.try_remove.ensures.updates in
    rw (← c.self.view_is) (by_side (crossed s.slots s.rows.items s.columns.items) (crossed c.try_remove.new.self c.leave.new.heads.items c.leave-2.new.heads.items) c.args.key is.by_row is.by_column)

pub returns-clause-len : goal.returns-clause-len
returns-clause-len g c =
    let s = c.self.inside in
    let less : slab_len c.try_remove.new.self + 1 ≡ slab_len c.leave-2.new.slots = search rules in
    let was : slab_len (values_of c.leave-2.new.slots) ≡ slab_len (values_of s.slots) = ap (λ l. slab_len l) (c.leave-2.ensures.values ∙ c.leave.ensures.values) in
    rw (← c.self.view_is) (ap (λ n. n + 1) (values_count c.try_remove.new.self) ∙ less ∙ sym (values_count c.leave-2.new.slots) ∙ was)

few_key : (key vacant : ℕ) → vacant ≡ key → key + 1 < 2 ^ 32 → vacant < 0xFFFF_FFFF
few_key key vacant is few = omega (arith, is, few)

pub returns-clause-room : goal.returns-clause-room
returns-clause-room g c =
    let s = c.self.inside in
    room_from c.try_remove.new.self c.leave.new.heads.items c.leave-2.new.heads.items (search rules)
    (few_key c.args.key c.try_remove.new.self.vacant_key (search rules) (c.self.invariant.few c.args.key (sym (value_some s.slots c.args.key) ∙ rw (← c.self.view_is) at c.requires)))
