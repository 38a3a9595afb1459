-- Arrows of reads go to their sources.
use Rattle.std.proofs.Common.{◌≡◌, ℕ, ◌+◌, zero, suc, Bool, cond, List, [], ◌∷◌, ◌++◌, length, take, drop, reverse, refl, sym, ap, subst, ◌∙◌, append_assoc, arith, Some, None, inl, inr}
use Rattle.std.proofs.lemmas.Bool.{cases_eq, eq-eqb, ne_eqb}
use Rattle.std.proofs.lemmas.List.{length-reverse}
use Rattle.std.specs.Prelude.{Option, slice_get, Contains}
use Rattle.std.proofs.lemmas.List.Elements.{Contains-append_cases, Contains-append_left, Contains-append_right}
use Rattle.std.proofs.lemmas.Option.{same_Some, none-some, slice_get_cases}
use Rattle.asset_names.specs.declared.names.Txn.{Txn}
use Rattle.asset_names.specs.declared.names.Ob.{Ob}
use Rattle.asset_names.specs.declared.steps.Kind.{Kind}
use Rattle.asset_names.specs.declared.steps.Kind.TheVariants as Kind'
use Rattle.asset_names.specs.declared.steps.Step.{Step}
use Rattle.asset_names.specs.declared.steps.Step.TheVariants.{Initiate, Begin, Read, Write, Add, Complete, Permit, PermitAny, Delegate, Depend, Commit, Abort, WaitFor}
use Rattle.asset_names.specs.declared.replies.Reply.{Reply}
use Rattle.asset_names.specs.declared.replies.Reply.TheVariants as Reply'
use Rattle.asset_names.specs.Steps.{Entry}
use Rattle.asset_names.specs.Groups.{actor}
use Rattle.asset_names.specs.Sources.{Numbered, source, entry_at}
use Rattle.asset_laws.proofs.SourceLemmas.{source_written}
use Rattle.asset_entries.proofs.EntryLemmas.{between}
use Rattle.asset_sources.specs.declared.sourced.Source.{Source}
use Rattle.asset_sources.specs.declared.sourced.Source.TheVariants as Source'
use Rattle.asset_sources.specs.Sourced.{source_from, source_of, source_at}
use Rattle.asset_sources.proofs.WalkLemmas.{older_length, source_found, source_past}
use Rattle.asset_sources.proofs.ReadLemmas.{at_between}
use Rattle.asset_deletion.specs.Grouping.{Grouping, grouping_of}
use Rattle.asset_lanes.specs.declared.pointing.Arrow.{Arrow}
use Rattle.asset_lanes.specs.declared.pointing.ArrowKind.{ArrowKind}
use Rattle.asset_lanes.specs.declared.pointing.ArrowKind.TheVariants as ArrowKind'
use Rattle.asset_lanes.specs.Lanes.{row_of, lane_names}
use Rattle.asset_lanes.specs.Arrows.{arrow_to, arrow_kind, arrow_to_entry, source_arrow, arrow_of, arrow_list, arrows_among, arrows}
use Rattle.asset_lanes.specs.Promised.{picture_arrows, GoesToSource, HasSourceArrow}
use Rattle.asset_lanes.proofs.RowLemmas.{actor_in_lane}

-- an arrow goes from this number, in t's lane, to the entry that is the source, in its transaction's lane
record Sourced (rows : List ℕ) (all : List Entry) (number : ℕ) (found : Option Source) (t : ℕ) (arrow : Arrow) : Type 0 where
  from : arrow.from ≡ number
  reads : arrow.row ≡ row_of rows t
  source : found ≡ Some (Source'.Entry arrow.to)
  writer : Entry
  there : slice_get (reverse all) arrow.to ≡ Some writer
  row : arrow.to_row ≡ row_of rows (actor writer.0).0

-- the only arrow of a list of one
arrow_is : (found : Option Arrow) (arrow : Arrow) → Contains (arrow_list found) arrow → found ≡ Some arrow
unfolding arrow_list
arrow_is None arrow (k, below, at) = absurd (omega (arith, below))
arrow_is (Some first) arrow (zero, below, at) = ap Some at
arrow_is (Some first) arrow (suc k, below, at) = absurd (omega (arith, below))

-- an arrow of another kind is none of a read
not_source : (groups : Grouping) (rows : List ℕ) (kind : ArrowKind) (from : ℕ) (t : Txn) (to : ℕ) (u : Txn) (arrow : Arrow) → Some (arrow_to groups rows kind from t to u) ≡ Some arrow → arrow.kind ≡ ArrowKind'.Source → kind ≡ ArrowKind'.Source
unfolding arrow_to
not_source groups rows kind from t to u arrow is source = ap (λ (a : Arrow). a.kind) (same_Some _ _ is) ∙ source

no_dependency : (kind : Kind) → arrow_kind kind ≡ ArrowKind'.Source → ⊥
unfolding arrow_kind
no_dependency Kind'.Cd is = absurd cc
no_dependency Kind'.Ad is = absurd cc
no_dependency Kind'.Gc is = absurd cc

-- the arrow of a read
read_arrow : (groups : Grouping) (rows : List ℕ) (all : List Entry) (number : ℕ) (t : Txn) (source : Option Source) (arrow : Arrow) → source_arrow groups rows all number t source ≡ Some arrow → Sourced rows all number source t.0 arrow
unfolding source_arrow arrow_to_entry arrow_to
read_arrow groups rows all number t None arrow is = absurd cc
read_arrow groups rows all number t (Some Source'.Opening) arrow is = absurd cc
read_arrow groups rows all number t (Some (Source'.Entry to)) arrow is = go (slice_get (reverse all) to) refl is where
  go : (found : Option Entry) → slice_get (reverse all) to ≡ found → arrow_to_entry groups rows number t to found ≡ Some arrow → Sourced rows all number (Some (Source'.Entry to)) t.0 arrow
  go None at is = absurd cc
  go (Some writer) at is =
      let same = same_Some _ _ is in
      record {
        from = sym (ap (λ (a : Arrow). a.from) same);
        reads = sym (ap (λ (a : Arrow). a.row) same);
        source = ap (λ (a : Arrow). Some (Source'.Entry a.to)) same;
        writer = writer;
        there = subst (λ (a : Arrow). slice_get (reverse all) a.to ≡ Some writer) same at;
        row = sym (ap (λ (a : Arrow). a.to_row) same);
      }

-- the arrow of an entry, if it is a read's
sourced : (groups : Grouping) (rows : List ℕ) (all : List Entry) (number : ℕ) (step : Step) (reply : Reply) (source : Option Source) (arrow : Arrow) → arrow_of groups rows all number step reply source ≡ Some arrow → arrow.kind ≡ ArrowKind'.Source
    → Sourced rows all number source (actor step).0 arrow
unfolding arrow_of actor
sourced groups rows all number (Initiate t parent) reply source arrow is kind = absurd cc
sourced groups rows all number (Begin t) reply source arrow is kind = absurd cc
sourced groups rows all number (Read t x) reply source arrow is kind = read_arrow groups rows all number t source arrow is
sourced groups rows all number (Write t x v) reply source arrow is kind = absurd cc
sourced groups rows all number (Add t x v) reply source arrow is kind = absurd cc
sourced groups rows all number (Complete t) reply source arrow is kind = absurd cc
sourced groups rows all number (Permit giver taker obs ops) Reply'.Done source arrow is kind = let same = not_source groups rows ArrowKind'.Permit number giver number taker arrow is kind in absurd cc
sourced groups rows all number (Permit giver taker obs ops) (Reply'.Value w) source arrow is kind = absurd cc
sourced groups rows all number (Permit giver taker obs ops) Reply'.Committed source arrow is kind = absurd cc
sourced groups rows all number (Permit giver taker obs ops) Reply'.Aborted source arrow is kind = absurd cc
sourced groups rows all number (Permit giver taker obs ops) (Reply'.Refused refusal) source arrow is kind = absurd cc
sourced groups rows all number (PermitAny giver obs ops) Reply'.Done source arrow is kind = let same = not_source groups rows ArrowKind'.Open number giver number giver arrow is kind in absurd cc
sourced groups rows all number (PermitAny giver obs ops) (Reply'.Value w) source arrow is kind = absurd cc
sourced groups rows all number (PermitAny giver obs ops) Reply'.Committed source arrow is kind = absurd cc
sourced groups rows all number (PermitAny giver obs ops) Reply'.Aborted source arrow is kind = absurd cc
sourced groups rows all number (PermitAny giver obs ops) (Reply'.Refused refusal) source arrow is kind = absurd cc
sourced groups rows all number (Delegate giver taker obs) Reply'.Done source arrow is kind = let same = not_source groups rows ArrowKind'.Delegate number giver number taker arrow is kind in absurd cc
sourced groups rows all number (Delegate giver taker obs) (Reply'.Value w) source arrow is kind = absurd cc
sourced groups rows all number (Delegate giver taker obs) Reply'.Committed source arrow is kind = absurd cc
sourced groups rows all number (Delegate giver taker obs) Reply'.Aborted source arrow is kind = absurd cc
sourced groups rows all number (Delegate giver taker obs) (Reply'.Refused refusal) source arrow is kind = absurd cc
sourced groups rows all number (Depend kin a b) Reply'.Done source arrow is kind = absurd (no_dependency kin (not_source groups rows (arrow_kind kin) number a number b arrow is kind))
sourced groups rows all number (Depend kin a b) (Reply'.Value w) source arrow is kind = absurd cc
sourced groups rows all number (Depend kin a b) Reply'.Committed source arrow is kind = absurd cc
sourced groups rows all number (Depend kin a b) Reply'.Aborted source arrow is kind = absurd cc
sourced groups rows all number (Depend kin a b) (Reply'.Refused refusal) source arrow is kind = absurd cc
sourced groups rows all number (Commit t) reply source arrow is kind = absurd cc
sourced groups rows all number (Abort t) reply source arrow is kind = absurd cc
sourced groups rows all number (WaitFor t) reply source arrow is kind = absurd cc

-- the arrows among the older of all entries
among_sourced : (entries newer older : List Entry) (arrow : Arrow) → entries ≡ newer ++ older → Contains (arrows_among (grouping_of entries) (lane_names (grouping_of entries)) entries older) arrow → arrow.kind ≡ ArrowKind'.Source
    → GoesToSource entries arrow
unfolding arrows_among
among_sourced entries newer [] arrow whole (k, below, at) kind = absurd (omega (arith, below))
among_sourced entries newer (entry ∷ older) arrow whole there kind =
    let groups = grouping_of entries in
    let rows = lane_names groups in
    let number = length older in
    let found = arrow_of groups rows entries number entry.0 entry.1 (source_at entries number) in
    elim (Contains-append_cases (arrows_among groups rows entries older) (arrow_list found) arrow there) [
      | inl before ↦ among_sourced entries (newer ++ entry ∷ []) older arrow (whole ∙ sym (append_assoc newer (entry ∷ []) older)) before kind
      | inr here ↦
          let goes = sourced groups rows entries number entry.0 entry.1 (source_at entries number) arrow (arrow_is found arrow here) kind in
          let at : slice_get (reverse entries) number ≡ Some entry = ap (λ l. slice_get (reverse l) number) whole ∙ at_between newer older entry in
          record {
            source = ap (λ (n : ℕ). source_at entries n) goes.from ∙ goes.source;
            reader = (entry, ap (λ (n : ℕ). slice_get (reverse entries) n) goes.from ∙ at, ap (λ (row : ℕ). slice_get rows row) goes.reads ∙ actor_in_lane entries number entry at);
            writer = (goes.writer, goes.there, ap (λ (row : ℕ). slice_get rows row) goes.row ∙ actor_in_lane entries arrow.to goes.writer goes.there);
          }
    ]

pub each_goes_to_source : (entries : List Entry) (arrow : Arrow) → Contains (picture_arrows entries) arrow → arrow.kind ≡ ArrowKind'.Source → GoesToSource entries arrow
unfolding picture_arrows arrows
each_goes_to_source entries arrow there kind = among_sourced entries [] entries arrow refl there kind

-- ---- each read with a source has its arrow

-- the entry with this number among the older ones has it among all
entry_in : (newer older : List Entry) (m : ℕ) (entry : Entry) → entry_at older m ≡ Some entry → slice_get (reverse (newer ++ older)) m ≡ Some entry
unfolding entry_at
entry_in newer [] m entry is = absurd (none-some entry is)
entry_in newer (first ∷ older) m entry is = elim (cases_eq m (length older)) [
  | inl same ↦
      rw same (at_between newer older first) ∙ (ap (λ (b : Bool). cond b (Some first) (entry_at older m)) (sym (eq-eqb m (length older) same)) ∙ is)
  | inr other ↦
      subst (λ (l : List Entry). slice_get (reverse l) m ≡ Some entry) (append_assoc newer (first ∷ []) older)
      (entry_in (newer ++ first ∷ []) older m entry (ap (λ (b : Bool). cond b (Some first) (entry_at older m)) (sym (ne_eqb m (length older) other)) ∙ is))
]

-- an arrow is in its own list
listed : (found : Option Arrow) (arrow : Arrow) → found ≡ Some arrow → Contains (arrow_list found) arrow
unfolding arrow_list
listed None arrow is = absurd cc
listed (Some first) arrow is = (zero, omega arith, same_Some _ _ is)

-- the arrow of an entry is among those of all entries
among_there : (groups : Grouping) (rows : List ℕ) (all newer older : List Entry) (entry : Entry) (arrow : Arrow) → arrow_of groups rows all (length older) entry.0 entry.1 (source_at all (length older)) ≡ Some arrow
    → Contains (arrows_among groups rows all (newer ++ entry ∷ older)) arrow
unfolding arrows_among
among_there groups rows all [] older entry arrow is = Contains-append_right (arrows_among groups rows all older) (arrow_list (arrow_of groups rows all (length older) entry.0 entry.1 (source_at all (length older)))) arrow (listed _ arrow is)
among_there groups rows all (new ∷ newer) older entry arrow is =
    let count = length (newer ++ entry ∷ older) in
    Contains-append_left (arrows_among groups rows all (newer ++ entry ∷ older)) (arrow_list (arrow_of groups rows all count new.0 new.1 (source_at all count))) arrow (among_there groups rows all newer older entry arrow is)

-- the number of the entry that a source is
entry_number : Source → ℕ
entry_number Source'.Opening = 0
entry_number (Source'.Entry m) = m

-- the entry that is the source of a read is among the older ones
source_there : (newer older : List Entry) (step : Step) (reply : Reply) (to : ℕ) → source_of older step reply ≡ Some (Source'.Entry to)
    → (t : Txn) × (x : Ob) × (writer : Entry) × (step ≡ Read t x) × (slice_get (reverse (newer ++ older)) to ≡ Some writer)
unfolding source_of source_from entry_number
source_there newer older (Read t x) (Reply'.Value v) to is = go (source older x.0) refl is where
  go : (found : Option Numbered) → source older x.0 ≡ found → Some (source_from found) ≡ Some (Source'.Entry to)
      → (u : Txn) × (y : Ob) × (writer : Entry) × (Read t x ≡ Read u y) × (slice_get (reverse (newer ++ older)) to ≡ Some writer)
  go None at same = absurd cc
  go (Some found) at same =
      let written = source_written older x.0 found at in
      let number : found.0 ≡ to = ap entry_number (same_Some _ _ same) in
      (t, x, _, refl, entry_in newer older to _ (ap (entry_at older) (sym number) ∙ written.3))
source_there newer older step reply to is = absurd cc

-- the arrow of a read is drawn
drawn_by : (entries newer older : List Entry) (number to : ℕ) (step : Step) (reply : Reply) (t : Txn) (x : Ob) (writer : Entry) → newer ++ (step, reply) ∷ older ≡ entries → length older ≡ number → step ≡ Read t x
    → source_at entries number ≡ Some (Source'.Entry to) → slice_get (reverse entries) to ≡ Some writer → HasSourceArrow entries number to
unfolding picture_arrows arrows arrow_of source_arrow arrow_to_entry arrow_to
drawn_by entries newer older number to step reply t x writer whole count reads is there =
    let groups = grouping_of entries in
    let rows = lane_names groups in
    let arrow = arrow_to groups rows ArrowKind'.Source number t to (actor writer.0) in
    let is_arrow : arrow_of groups rows entries (length older) step reply (source_at entries (length older)) ≡ Some arrow = rw (reads, count, is) (ap (arrow_to_entry groups rows number t to) there) in
    record {
      arrow = arrow;
      drawn = subst (λ (l : List Entry). Contains (arrows_among groups rows entries l) arrow) whole (among_there groups rows entries newer older (step, reply) arrow is_arrow);
      kind = refl;
      begins = refl;
      ends = refl;
    }

pub has_source_arrow : (entries : List Entry) (number to : ℕ) → source_at entries number ≡ Some (Source'.Entry to) → HasSourceArrow entries number to
has_source_arrow entries number to is = elim (slice_get_cases (reverse entries) number).1 [
  | inl here ↦ of_entry here.0.0 here.0.1 here.2
  | inr beyond ↦ absurd (none-some (Source'.Entry to) (sym (source_past entries number (omega (arith, beyond.0, length-reverse entries))) ∙ is))
] where
  of_entry : (step : Step) (reply : Reply) → slice_get (reverse entries) number ≡ Some (step, reply) → HasSourceArrow entries number to
  of_entry step reply at =
      let newer = reverse (drop (number + 1) (reverse entries)) in
      let older = reverse (take number (reverse entries)) in
      let whole = between entries number (step, reply) at in
      let source = source_there (newer ++ (step, reply) ∷ []) older step reply to (sym (source_found entries number (step, reply) at) ∙ is) in
      let there : slice_get (reverse entries) to ≡ Some source.2 = ap (λ l. slice_get (reverse l) to) (sym (append_assoc newer ((step, reply) ∷ []) older ∙ whole)) ∙ source.4 in
      drawn_by entries newer older number to step reply source.0 source.1 source.2 whole (older_length entries number (step, reply) at) source.3 is there
