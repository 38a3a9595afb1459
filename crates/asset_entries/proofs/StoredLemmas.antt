-- What is stored is what was recorded.
use Rattle.std.proofs.Common.{◌≡◌, ℕ, zero, suc, get_or, ◌+◌, ◌<◌, ◌≤◌, true, false, ltb, List, [], ◌∷◌, ◌++◌, length, map, reverse, refl, sym, ◌∙◌, ap, arith}
use Rattle.std.specs.Prelude.{slice_get, Some, None, option_map}
use Rattle.std.proofs.lemmas.Bool.{and_parts, ltb-true, ltb-false, lt-ltb}
use Rattle.std.proofs.lemmas.List.{map-append, reverse-append, length-append, length-reverse, length-map, reverse-reverse, get_or_append_left}
use Rattle.std.proofs.lemmas.List.Folds.{list_all-append}
use Rattle.std.proofs.Math.Seq.{get_or-append_seam}
use Rattle.std.proofs.lemmas.Option.{slice_get-get_or, slice_get_past, slice_get-map}
use Rattle.asset_names.specs.declared.steps.Step.{Step}
use Rattle.asset_names.specs.declared.steps.Step.TheVariants.{Initiate, Begin, Read, Write, Add, Complete, Permit, PermitAny, Delegate, Depend, Commit, Abort, WaitFor}
use Rattle.asset_names.specs.declared.replies.Reply.{Reply}
use Rattle.asset_names.specs.declared.sets.ObSet.TheVariants.{Listed}
use Rattle.asset_entries.specs.StoredSets.{StoredSet, set_or_all}
use Rattle.asset_names.specs.declared.names.Txn.{Txn}
use Rattle.asset_names.specs.declared.sets.ObSet.{ObSet}
use Rattle.asset_names.specs.OpSets.{OpSet}
use Rattle.asset_entries.specs.declared.stored.Stored.{Stored}
use Rattle.asset_entries.specs.declared.stored.Stored.TheVariants as Stored'
use Rattle.asset_entries.specs.Stored.{tag_of_two, missing_at, stored_as, sets_after, permit_entry, opened_step, open_entry, delegate_entry, entry_of, entries_of, has_set, all_have_sets, moved}
use Rattle.asset_entries.proofs.OpenedLemmas.{opened_sets}
use Rattle.asset_entries.proofs.TagLemmas.{again, again_of_two}

-- a stored set is found as before when one more comes
found_before : (sets : List StoredSet) (set : StoredSet) (index : ℕ) → index < length sets → slice_get (sets ++ set ∷ []) index ≡ slice_get sets index
found_before sets set index below =
    slice_get-get_or (sets ++ set ∷ []) index set (omega (arith, length-append sets (set ∷ [])))
    ∙ ap Some (get_or_append_left sets (set ∷ []) set index below)
    ∙ sym (slice_get-get_or sets index set below)

-- the last stored set is found
found_last : (sets : List StoredSet) (set : StoredSet) → slice_get (sets ++ set ∷ []) (length sets) ≡ Some set
found_last sets set =
    slice_get-get_or (sets ++ set ∷ []) (length sets) set (omega (arith, length-append sets (set ∷ [])))
    ∙ ap Some (get_or-append_seam sets set [] set)

-- what was stored is the same entry when one more set is stored
entry_before : (sets : List StoredSet) (set : StoredSet) (stored : Stored) → has_set (length sets) stored ≡ true → entry_of (sets ++ set ∷ []) stored ≡ entry_of sets stored
unfolding entry_of has_set
entry_before sets set (Stored'.Initiate tag t parent) there = refl
entry_before sets set (Stored'.Begin tag t) there = refl
entry_before sets set (Stored'.Read tag t x v) there = refl
entry_before sets set (Stored'.Write tag t x v) there = refl
entry_before sets set (Stored'.Add tag t x d) there = refl
entry_before sets set (Stored'.Complete tag t) there = refl
entry_before sets set (Stored'.Permit tag missing ops index giver taker) there = ap (λ found. permit_entry tag missing ops giver taker (set_or_all found)) (found_before sets set index (ltb-true index (length sets) there))
entry_before sets set (Stored'.PermitAny tag missing ops index giver) there = ap (λ found. open_entry tag missing ops giver (set_or_all found)) (found_before sets set index (ltb-true index (length sets) there))
entry_before sets set (Stored'.Delegate tag missing index giver taker) there = ap (λ found. delegate_entry tag missing giver taker (set_or_all found)) (found_before sets set index (ltb-true index (length sets) there))
entry_before sets set (Stored'.Depend tag kind a b) there = refl
entry_before sets set (Stored'.Commit tag t) there = refl
entry_before sets set (Stored'.Abort tag t) there = refl
entry_before sets set (Stored'.WaitFor tag t) there = refl

entries_before : (sets : List StoredSet) (set : StoredSet) (entries : List Stored) → all_have_sets (length sets) entries ≡ true
    → map (entry_of (sets ++ set ∷ [])) entries ≡ map (entry_of sets) entries
unfolding all_have_sets
entries_before sets set [] there = refl
entries_before sets set (stored ∷ entries) there =
    let parts = and_parts (has_set (length sets) stored) _ there in
    rw (entry_before sets set stored parts.0, entries_before sets set entries parts.1)

entries_after : (step : Step) (sets : List StoredSet) (entries : List Stored) → all_have_sets (length sets) entries ≡ true
    → map (entry_of (sets_after step sets)) entries ≡ map (entry_of sets) entries
unfolding sets_after
entries_after (Permit giver taker obs ops) sets entries there = entries_before sets _ entries there
entries_after (PermitAny giver obs ops) sets entries there = entries_before sets _ entries there
entries_after (Delegate giver taker obs) sets entries there = entries_before sets _ entries there
entries_after (Initiate t parent) sets entries there = refl
entries_after (Begin t) sets entries there = refl
entries_after (Read t x) sets entries there = refl
entries_after (Write t x v) sets entries there = refl
entries_after (Add t x d) sets entries there = refl
entries_after (Complete t) sets entries there = refl
entries_after (Depend kind a b) sets entries there = refl
entries_after (Commit t) sets entries there = refl
entries_after (Abort t) sets entries there = refl
entries_after (WaitFor t) sets entries there = refl

-- an entry that is stored is that step, and its reply made again
entry_again : (step : Step) (reply : Reply) (sets : List StoredSet) → entry_of (sets_after step sets) (stored_as (length sets) step reply) ≡ (step, again step reply)
unfolding entry_of stored_as sets_after set_or_all permit_entry opened_step open_entry delegate_entry again again_of_two
entry_again (Initiate t parent) reply sets = refl
entry_again (Begin t) reply sets = refl
entry_again (Read t x) reply sets = refl
entry_again (Write t x v) reply sets = refl
entry_again (Add t x d) reply sets = refl
entry_again (Complete t) reply sets = refl
entry_again (Permit giver taker obs ops) reply sets = ap (λ found. permit_entry (tag_of_two giver reply) (missing_at obs reply) ops giver taker (set_or_all found)) (found_last sets (record { obs = obs }))
entry_again (PermitAny giver obs ops) reply sets = ap (λ found. open_entry (tag_of_two giver reply) (missing_at (Listed obs) reply) ops giver (set_or_all found)) (found_last sets (record { obs = Listed obs }))
entry_again (Delegate giver taker obs) reply sets = ap (λ found. delegate_entry (tag_of_two giver reply) (missing_at obs reply) giver taker (set_or_all found)) (found_last sets (record { obs = obs }))
entry_again (Depend kind a b) reply sets = refl
entry_again (Commit t) reply sets = refl
entry_again (Abort t) reply sets = refl
entry_again (WaitFor t) reply sets = refl

-- one more entry is the newest
entries_stored : (step : Step) (reply : Reply) (sets : List StoredSet) (entries : List Stored) → again step reply ≡ reply → all_have_sets (length sets) entries ≡ true
    → entries_of (sets_after step sets) (entries ++ stored_as (length sets) step reply ∷ []) ≡ (step, reply) ∷ entries_of sets entries
unfolding entries_of
entries_stored step reply sets entries same there =
    ap reverse (map-append (entry_of (sets_after step sets)) entries (stored_as (length sets) step reply ∷ []))
    ∙ rw (entries_after step sets entries there, entry_again step reply sets, same) (reverse-append (map (entry_of sets) entries) ((step, reply) ∷ []))

-- the same, by how many sets are stored
pub entries_appended : (step : Step) (reply : Reply) (sets : List StoredSet) (entries : List Stored) (count : ℕ) → again step reply ≡ reply → count ≡ length sets → all_have_sets (length sets) entries ≡ true
    → entries_of (sets_after step sets) (entries ++ stored_as count step reply ∷ []) ≡ (step, reply) ∷ entries_of sets entries
entries_appended step reply sets entries count same is there = rw is (entries_stored step reply sets entries same there)

-- at most one more set is stored
pub sets_more : (step : Step) (sets : List StoredSet) → (length sets ≤ length (sets_after step sets)) × (length (sets_after step sets) ≤ length sets + 1)
unfolding sets_after
sets_more (Permit giver taker obs ops) sets =
    let more = length-append sets (record { obs = obs } ∷ []) in
    (omega (arith, more), omega (arith, more))
sets_more (PermitAny giver obs ops) sets =
    let more = length-append sets (record { obs = Listed obs } ∷ []) in
    (omega (arith, more), omega (arith, more))
sets_more (Delegate giver taker obs) sets =
    let more = length-append sets (record { obs = obs } ∷ []) in
    (omega (arith, more), omega (arith, more))
sets_more (Initiate t parent) sets = (omega arith, omega arith)
sets_more (Begin t) sets = (omega arith, omega arith)
sets_more (Read t x) sets = (omega arith, omega arith)
sets_more (Write t x v) sets = (omega arith, omega arith)
sets_more (Add t x d) sets = (omega arith, omega arith)
sets_more (Complete t) sets = (omega arith, omega arith)
sets_more (Depend kind a b) sets = (omega arith, omega arith)
sets_more (Commit t) sets = (omega arith, omega arith)
sets_more (Abort t) sets = (omega arith, omega arith)
sets_more (WaitFor t) sets = (omega arith, omega arith)

-- an entry keeps its set when more are stored
there_more : (fewer more : ℕ) (stored : Stored) → fewer ≤ more → has_set fewer stored ≡ true → has_set more stored ≡ true
unfolding has_set
there_more fewer more (Stored'.Permit tag missing ops index giver taker) le there = lt-ltb index more (omega (arith, ltb-true index fewer there))
there_more fewer more (Stored'.PermitAny tag missing ops index giver) le there = lt-ltb index more (omega (arith, ltb-true index fewer there))
there_more fewer more (Stored'.Delegate tag missing index giver taker) le there = lt-ltb index more (omega (arith, ltb-true index fewer there))
there_more fewer more (Stored'.Initiate tag t parent) le there = refl
there_more fewer more (Stored'.Begin tag t) le there = refl
there_more fewer more (Stored'.Read tag t x v) le there = refl
there_more fewer more (Stored'.Write tag t x v) le there = refl
there_more fewer more (Stored'.Add tag t x d) le there = refl
there_more fewer more (Stored'.Complete tag t) le there = refl
there_more fewer more (Stored'.Depend tag kind a b) le there = refl
there_more fewer more (Stored'.Commit tag t) le there = refl
there_more fewer more (Stored'.Abort tag t) le there = refl
there_more fewer more (Stored'.WaitFor tag t) le there = refl

all_have_sets_more : (fewer more : ℕ) (entries : List Stored) → fewer ≤ more → all_have_sets fewer entries ≡ true → all_have_sets more entries ≡ true
unfolding all_have_sets
all_have_sets_more fewer more [] le there = refl
all_have_sets_more fewer more (stored ∷ entries) le there =
    let parts = and_parts (has_set fewer stored) _ there in
    rw (there_more fewer more stored le parts.0, all_have_sets_more fewer more entries le parts.1) refl

-- the entry that is stored last is there
last_there : (step : Step) (reply : Reply) (sets : List StoredSet) → has_set (length (sets_after step sets)) (stored_as (length sets) step reply) ≡ true
unfolding has_set stored_as sets_after
last_there (Permit giver taker obs ops) reply sets = lt-ltb _ _ (omega (arith, length-append sets (record { obs = obs } ∷ [])))
last_there (PermitAny giver obs ops) reply sets = lt-ltb _ _ (omega (arith, length-append sets (record { obs = Listed obs } ∷ [])))
last_there (Delegate giver taker obs) reply sets = lt-ltb _ _ (omega (arith, length-append sets (record { obs = obs } ∷ [])))
last_there (Initiate t parent) reply sets = refl
last_there (Begin t) reply sets = refl
last_there (Read t x) reply sets = refl
last_there (Write t x v) reply sets = refl
last_there (Add t x d) reply sets = refl
last_there (Complete t) reply sets = refl
last_there (Depend kind a b) reply sets = refl
last_there (Commit t) reply sets = refl
last_there (Abort t) reply sets = refl
last_there (WaitFor t) reply sets = refl

-- each entry is there after one more
there_after : (step : Step) (reply : Reply) (sets : List StoredSet) (entries : List Stored) → all_have_sets (length sets) entries ≡ true
    → all_have_sets (length (sets_after step sets)) (entries ++ stored_as (length sets) step reply ∷ []) ≡ true
unfolding all_have_sets
there_after step reply sets entries there =
    list_all-append _ entries (stored_as (length sets) step reply ∷ [])
    ∙ rw (all_have_sets_more (length sets) (length (sets_after step sets)) entries (sets_more step sets).0 there, last_there step reply sets) refl

pub there_appended : (step : Step) (reply : Reply) (sets : List StoredSet) (entries : List Stored) (count : ℕ) → count ≡ length sets → all_have_sets (length sets) entries ≡ true
    → all_have_sets (length (sets_after step sets)) (entries ++ stored_as count step reply ∷ []) ≡ true
there_appended step reply sets entries count is there = rw is (there_after step reply sets entries there)

-- the set of a permit to anybody is found again when it is copied
found_opened : (giver : Txn) (obs : ObSet) (ops : OpSet) (sets : List StoredSet) → slice_get (sets_after (opened_step giver obs ops) sets) (length sets) ≡ Some (record { obs = obs })
found_opened giver obs ops sets = ap (λ after. slice_get after (length sets)) (opened_sets giver obs ops sets) ∙ found_last sets (record { obs = obs })

-- an entry that is copied with its set is the same entry
entry_moved : (others sets : List StoredSet) (stored : Stored) → entry_of (sets_after (entry_of others stored).0 sets) (moved (length sets) stored) ≡ entry_of others stored
unfolding entry_of sets_after moved set_or_all permit_entry open_entry delegate_entry
entry_moved others sets (Stored'.Permit tag missing ops set giver taker) =
    ap (λ found. permit_entry tag missing ops giver taker (set_or_all found)) (found_last sets (record { obs = set_or_all (slice_get others set) }))
entry_moved others sets (Stored'.PermitAny tag missing ops set giver) =
    ap (λ found. open_entry tag missing ops giver (set_or_all found)) (found_opened giver (set_or_all (slice_get others set)) ops sets)
entry_moved others sets (Stored'.Delegate tag missing set giver taker) =
    ap (λ found. delegate_entry tag missing giver taker (set_or_all found)) (found_last sets (record { obs = set_or_all (slice_get others set) }))
entry_moved others sets (Stored'.Initiate tag t parent) = refl
entry_moved others sets (Stored'.Begin tag t) = refl
entry_moved others sets (Stored'.Read tag t x v) = refl
entry_moved others sets (Stored'.Write tag t x v) = refl
entry_moved others sets (Stored'.Add tag t x d) = refl
entry_moved others sets (Stored'.Complete tag t) = refl
entry_moved others sets (Stored'.Depend tag kind a b) = refl
entry_moved others sets (Stored'.Commit tag t) = refl
entry_moved others sets (Stored'.Abort tag t) = refl
entry_moved others sets (Stored'.WaitFor tag t) = refl

-- and is the newest
entries_copied : (others sets : List StoredSet) (stored : Stored) (entries : List Stored) → all_have_sets (length sets) entries ≡ true
    → entries_of (sets_after (entry_of others stored).0 sets) (entries ++ moved (length sets) stored ∷ []) ≡ entry_of others stored ∷ entries_of sets entries
unfolding entries_of
entries_copied others sets stored entries there =
    let after = sets_after (entry_of others stored).0 sets in
    ap reverse (map-append (entry_of after) entries (moved (length sets) stored ∷ []))
    ∙ rw (entries_after (entry_of others stored).0 sets entries there, entry_moved others sets stored) (reverse-append (map (entry_of sets) entries) (entry_of others stored ∷ []))

pub entries_moved : (others sets : List StoredSet) (stored : Stored) (entries : List Stored) (count : ℕ) → count ≡ length sets → all_have_sets (length sets) entries ≡ true
    → entries_of (sets_after (entry_of others stored).0 sets) (entries ++ moved count stored ∷ []) ≡ entry_of others stored ∷ entries_of sets entries
entries_moved others sets stored entries count is there = rw is (entries_copied others sets stored entries there)

-- its set is there
copied_there : (others sets : List StoredSet) (stored : Stored) → has_set (length (sets_after (entry_of others stored).0 sets)) (moved (length sets) stored) ≡ true
unfolding has_set entry_of sets_after moved permit_entry open_entry delegate_entry
copied_there others sets (Stored'.Permit tag missing ops set giver taker) = lt-ltb _ _ (omega (arith, length-append sets (record { obs = set_or_all (slice_get others set) } ∷ [])))
copied_there others sets (Stored'.PermitAny tag missing ops set giver) =
    let obs = set_or_all (slice_get others set) in
    lt-ltb _ _ (omega (arith, ap length (opened_sets giver obs ops sets), length-append sets (record { obs = obs } ∷ [])))
copied_there others sets (Stored'.Delegate tag missing set giver taker) = lt-ltb _ _ (omega (arith, length-append sets (record { obs = set_or_all (slice_get others set) } ∷ [])))
copied_there others sets (Stored'.Initiate tag t parent) = refl
copied_there others sets (Stored'.Begin tag t) = refl
copied_there others sets (Stored'.Read tag t x v) = refl
copied_there others sets (Stored'.Write tag t x v) = refl
copied_there others sets (Stored'.Add tag t x d) = refl
copied_there others sets (Stored'.Complete tag t) = refl
copied_there others sets (Stored'.Depend tag kind a b) = refl
copied_there others sets (Stored'.Commit tag t) = refl
copied_there others sets (Stored'.Abort tag t) = refl
copied_there others sets (Stored'.WaitFor tag t) = refl

all_there_copied : (others sets : List StoredSet) (stored : Stored) (entries : List Stored) → all_have_sets (length sets) entries ≡ true
    → all_have_sets (length (sets_after (entry_of others stored).0 sets)) (entries ++ moved (length sets) stored ∷ []) ≡ true
unfolding all_have_sets
all_there_copied others sets stored entries there =
    let after = sets_after (entry_of others stored).0 sets in
    list_all-append _ entries (moved (length sets) stored ∷ [])
    ∙ rw (all_have_sets_more (length sets) (length after) entries (sets_more (entry_of others stored).0 sets).0 there, copied_there others sets stored) refl

pub there_moved : (others sets : List StoredSet) (stored : Stored) (entries : List Stored) (count : ℕ) → count ≡ length sets → all_have_sets (length sets) entries ≡ true
    → all_have_sets (length (sets_after (entry_of others stored).0 sets)) (entries ++ moved count stored ∷ []) ≡ true
there_moved others sets stored entries count is there = rw is (all_there_copied others sets stored entries there)

-- how many entries there are
pub entries_length : (sets : List StoredSet) (entries : List Stored) → length (entries_of sets entries) ≡ length entries
unfolding entries_of
entries_length sets entries = length-reverse (map (entry_of sets) entries) ∙ length-map entries (entry_of sets)

-- an entry is the one that is stored at its index
pub entry_stored : (sets : List StoredSet) (entries : List Stored) (index : ℕ) → slice_get (reverse (entries_of sets entries)) index ≡ option_map (entry_of sets) (slice_get entries index)
unfolding entries_of
entry_stored sets entries index = ap (λ es. slice_get es index) (reverse-reverse (map (entry_of sets) entries)) ∙ slice_get-map (entry_of sets) entries index

-- whoever finds what is stored at an index finds the entry there, and past the end there is none
pub entry_found : (sets : List StoredSet) (entries : List Stored) (index : ℕ) (stored : Stored) → true ≡ ltb index (length entries) → stored ≡ get_or entries index stored → slice_get (reverse (entries_of sets entries)) index ≡ Some (entry_of sets stored)
entry_found sets entries index stored within is =
    let found : slice_get entries index ≡ Some stored = slice_get-get_or entries index stored (ltb-true _ _ (sym within)) ∙ ap Some (sym is) in
    entry_stored sets entries index ∙ ap (option_map (entry_of sets)) found

pub entry_absent : (sets : List StoredSet) (entries : List Stored) (index : ℕ) → false ≡ ltb index (length entries) → slice_get (reverse (entries_of sets entries)) index ≡ None
entry_absent sets entries index past = entry_stored sets entries index ∙ ap (option_map (entry_of sets)) (slice_get_past entries index (ltb-false _ _ (sym past)))

-- what is stored at an index is there
pub entry_there : (count : ℕ) (entries : List Stored) (index : ℕ) (d : Stored) → index < length entries → all_have_sets count entries ≡ true → has_set count (get_or entries index d) ≡ true
unfolding all_have_sets
entry_there count [] index d below there = absurd (omega (arith, below))
entry_there count (stored ∷ entries) zero d below there = (and_parts (has_set count stored) _ there).0
entry_there count (stored ∷ entries) (suc index) d below there = entry_there count entries index d (omega (arith, below)) (and_parts (has_set count stored) _ there).1
