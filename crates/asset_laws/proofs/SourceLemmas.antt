-- Where a read's value comes from, of a transaction that is alone in its group.
use Rattle.std.proofs.Common.{◌≡◌, ℕ, suc, ℤ, Bool, true, false, cond, not, eqb, ◌&&◌, ◌<◌, List, [], ◌∷◌, ◌++◌, length, map, refl, sym, subst, ◌∙◌, ap, arith, ◌⊎◌, inl, inr, None, Some}
use Rattle.std.specs.Prelude.{Option, zip, find}
use Rattle.std.specs.List.{list_any}
use Rattle.std.proofs.lemmas.List.{length-map}
use Rattle.std.proofs.lemmas.Bool.{or_parts, or_left, or_right, and_parts, eqb-true, eq-eqb, false≢true, not-true}
use Rattle.std.proofs.lemmas.Option.{same_Some}
use Rattle.asset_names.specs.declared.names.Txn.{Txn}
use Rattle.asset_names.specs.declared.names.Ob.{Ob}
use Rattle.asset_names.specs.declared.operations.Op.TheVariants as Op'
use Rattle.asset_names.specs.declared.sets.ObSet.{ObSet}
use Rattle.asset_names.specs.declared.statuses.End.{End}
use Rattle.asset_names.specs.declared.statuses.End.TheVariants as End'
use Rattle.asset_names.specs.declared.steps.Step.{Step}
use Rattle.asset_names.specs.declared.steps.Step.TheVariants.{Initiate, Begin, Read, Write, Add, Complete, Permit, PermitAny, Delegate, Depend, Commit, Abort, WaitFor}
use Rattle.asset_names.specs.declared.replies.Reply.{Reply}
use Rattle.asset_names.specs.declared.replies.Reply.TheVariants as Reply'
use Rattle.asset_names.specs.Arrows.{lists}
use Rattle.asset_names.specs.InSet.{in_set}
use Rattle.asset_names.specs.Steps.{Opening, Entry, takes_effect, applied, initiated}
use Rattle.asset_names.specs.Endings.{end_of, live}
use Rattle.asset_names.specs.Operations.{Use, reads, writes, adds, Operation, op_of, conflict, handed_over, operated, operations, permits, openers, allows, blocks, free, was_aborted, stands, opening_value, after_use, value_after, value}
use Rattle.asset_names.specs.Groups.{actor, partner, operates_on, same_group, was_committed}
use Rattle.asset_names.specs.Sources.{Numbered, is_operation, is_write, is_add, operation_numbers, numbered, stands_on, adds_on, added_on, added, with_added, source, source_value, entry_at, IsAlone, IsWriteOf, IsAddOf, IsOwnOrCommitted, AreOwnOrCommitted}
use Rattle.asset_names.specs.Answers.{unrefused, IsLegal}
use Rattle.asset_names.proofs.LegalLemmas.{legal_orderly}
use Rattle.asset_laws.specs.Renumbered.{IsWrittenOn, AreAddedOn}
use Rattle.asset_laws.proofs.KeepLinks.{Keeps}
use Rattle.asset_laws.proofs.AlikeLemmas.{allows_keeps}
use Rattle.asset_laws.proofs.AnswersAlike.{not_waiting}
use Rattle.asset_laws.proofs.KeptLemmas.{RespectsEntries, respects_applied, kept_alike, opens_to}
use Rattle.asset_laws.proofs.OpenLemmas.{opened_all}
use Rattle.asset_laws.proofs.GroupLemmas.{group_refl, group_keeps, keeps_respects, legal_rest, respects_rest}
use Rattle.asset_laws.proofs.SharingLemmas.{effect_answer}

-- ---- entries by their numbers

entry_below : (entries : List Entry) (m : ℕ) (entry : Entry) → entry_at entries m ≡ Some entry → m < length entries
unfolding entry_at
entry_below [] m entry h = cc
entry_below (first ∷ older) m entry h = go (eqb m (length older)) refl (entry_below older m entry) h where
  go : (here : Bool) → eqb m (length older) ≡ here → (entry_at older m ≡ Some entry → m < length older) → cond here (Some first) (entry_at older m) ≡ Some entry → m < length (first ∷ older)
  go true e below is = let at = eqb-true m (length older) e in omega (arith, at)
  go false e below is = let under = below is in omega (arith, under)

-- an older entry keeps its number
entry_stays : (first : Entry) (older : List Entry) (m : ℕ) (entry : Entry) → entry_at older m ≡ Some entry → entry_at (first ∷ older) m ≡ Some entry
unfolding entry_at
entry_stays first older m entry h = go (eqb m (length older)) refl where
  go : (here : Bool) → eqb m (length older) ≡ here → cond here (Some first) (entry_at older m) ≡ Some entry
  go false e = h
  go true e = let below = entry_below older m entry h in let at = eqb-true m (length older) e in absurd (omega (arith, below, at))

entry_first : (first : Entry) (older : List Entry) → entry_at (first ∷ older) (length older) ≡ Some first
unfolding entry_at
entry_first first older = rw (eq-eqb (length older) (length older) refl) refl

-- ---- who asked for a write or an add

-- whether a use changes its object
changes : Use → Bool
changes reads = false
changes (writes v) = true
changes (adds d) = true

-- the step that asks for a use
asking : Txn → Ob → Use → Step
asking t x reads = Read t x
asking t x (writes v) = Write t x v
asking t x (adds d) = Add t x d

write_changes : (how : Use) → is_write how ≡ true → changes how ≡ true
unfolding is_write changes
write_changes reads h = h
write_changes (writes v) h = refl
write_changes (adds d) h = refl

add_changes : (how : Use) → is_add how ≡ true → changes how ≡ true
unfolding is_add changes
add_changes reads h = h
add_changes (writes v) h = refl
add_changes (adds d) h = refl

-- the entry of a write or an add that took effect
abbrev asked_for : Txn → Ob → Use → Option Entry
asked_for t x how = Some (asking t x how, Reply'.Done)

-- The entry with the number of a write or an add is that step, with its object and its value, and who asked for it is kept as
-- who is responsible for it.
IsAsked : (ℕ → Bool) → List Entry → Numbered → Type 0
IsAsked keep entries found = changes found.1.use_of ≡ true
    → (t : Txn) × (x : Ob) × (entry_at entries found.0 ≡ asked_for t x found.1.use_of) × (x.0 ≡ found.1.object) × (keep t.0 ≡ keep found.1.owner)

AllAsked : (ℕ → Bool) → List Entry → List Numbered → Type 0
AllAsked keep entries [] = Unit {0}
AllAsked keep entries (found ∷ rest) = IsAsked keep entries found × AllAsked keep entries rest

asked_later : (keep : ℕ → Bool) (first : Entry) (older : List Entry) (ns : List Numbered) → AllAsked keep older ns → AllAsked keep (first ∷ older) ns
unfolding IsAsked AllAsked
asked_later keep first older [] asked = asked
asked_later keep first older (found ∷ rest) asked =
    (λ changed. let by = asked.0 changed in (by.0, by.1, entry_stays first older found.0 (asking by.0 by.1 found.1.use_of, Reply'.Done) by.2, by.3, by.4), asked_later keep first older rest asked.1)

-- a delegation leaves the objects, the uses, and how the responsible ones are kept
asked_handed : (keep : ℕ → Bool) (entries : List Entry) (giver taker : ℕ) (obs : ObSet) → keep giver ≡ keep taker → (numbers : List ℕ) (os : List Operation)
    → AllAsked keep entries (zip numbers os) → AllAsked keep entries (zip numbers (map (handed_over giver taker obs) os))
unfolding IsAsked AllAsked handed_over
asked_handed keep entries giver taker obs same [] os asked = asked
asked_handed keep entries giver taker obs same (m ∷ numbers) [] asked = asked
asked_handed keep entries giver taker obs same (m ∷ numbers) (o ∷ os) asked =
    (go (eqb o.owner giver) refl (in_set obs o.object), asked_handed keep entries giver taker obs same numbers os asked.1) where
      go : (own : Bool) → eqb o.owner giver ≡ own → (listed : Bool) → IsAsked keep entries (m, cond (own && listed) (record o { owner = taker }) o)
      go true e true = λ changed. let by = asked.0 changed in (by.0, by.1, by.2, by.3, by.4 ∙ ap keep (eqb-true o.owner giver e) ∙ same)
      go true e false = asked.0
      go false e listed = asked.0

-- a write that took effect was answered by done
write_done : (t : Txn) (x : Ob) (v : ℤ) (reply : Reply) → takes_effect (Write t x v) reply ≡ true → reply ≡ Reply'.Done
unfolding takes_effect
write_done t x v Reply'.Done h = refl
write_done t x v (Reply'.Value w) h = absurd (false≢true h)
write_done t x v Reply'.Committed h = absurd (false≢true h)
write_done t x v Reply'.Aborted h = absurd (false≢true h)
write_done t x v (Reply'.Refused refusal) h = absurd (false≢true h)

add_done : (t : Txn) (x : Ob) (d : ℤ) (reply : Reply) → takes_effect (Add t x d) reply ≡ true → reply ≡ Reply'.Done
unfolding takes_effect
add_done t x d Reply'.Done h = refl
add_done t x d (Reply'.Value w) h = absurd (false≢true h)
add_done t x d Reply'.Committed h = absurd (false≢true h)
add_done t x d Reply'.Aborted h = absurd (false≢true h)
add_done t x d (Reply'.Refused refusal) h = absurd (false≢true h)

-- one more step that took effect
asked_more : (keep : ℕ → Bool) (step : Step) (reply : Reply) (older : List Entry) → takes_effect step reply ≡ true → keep (actor step).0 ≡ keep (partner step).0 → AllAsked keep older (numbered older)
    → AllAsked keep ((step, reply) ∷ older) (zip (cond (is_operation step) (length older ∷ operation_numbers older) (operation_numbers older)) (operated step (operations (applied older))))
unfolding IsAsked AllAsked numbered is_operation changes asking operated actor partner
asked_more keep (Initiate t parent) reply older effect same asked = asked_later keep (Initiate t parent, reply) older _ asked
asked_more keep (Begin t) reply older effect same asked = asked_later keep (Begin t, reply) older _ asked
asked_more keep (Read t x) reply older effect same asked = (λ changed. absurd (false≢true changed), asked_later keep (Read t x, reply) older _ asked)
asked_more keep (Write t x v) reply older effect same asked = (
  λ changed. (t, x, ap (λ r. entry_at ((Write t x v, r) ∷ older) (length older)) (write_done t x v reply effect) ∙ entry_first (Write t x v, Reply'.Done) older, refl, refl),
  asked_later keep (Write t x v, reply) older _ asked,
)
asked_more keep (Add t x d) reply older effect same asked = (
  λ changed. (t, x, ap (λ r. entry_at ((Add t x d, r) ∷ older) (length older)) (add_done t x d reply effect) ∙ entry_first (Add t x d, Reply'.Done) older, refl, refl),
  asked_later keep (Add t x d, reply) older _ asked,
)
asked_more keep (Complete t) reply older effect same asked = asked_later keep (Complete t, reply) older _ asked
asked_more keep (Permit giver taker obs ops) reply older effect same asked = asked_later keep (Permit giver taker obs ops, reply) older _ asked
asked_more keep (Delegate giver taker obs) reply older effect same asked =
    asked_handed keep ((Delegate giver taker obs, reply) ∷ older) giver.0 taker.0 obs same (operation_numbers older) (operations (applied older)) (asked_later keep (Delegate giver taker obs, reply) older _ asked)
asked_more keep (Depend kind a b) reply older effect same asked = asked_later keep (Depend kind a b, reply) older _ asked
asked_more keep (Commit t) reply older effect same asked = asked_later keep (Commit t, reply) older _ asked
asked_more keep (Abort t) reply older effect same asked = asked_later keep (Abort t, reply) older _ asked
asked_more keep (WaitFor t) reply older effect same asked = asked_later keep (WaitFor t, reply) older _ asked
asked_more keep (PermitAny giver obs ops) reply older effect same asked = asked_later keep (PermitAny giver obs ops, reply) older _ asked

-- each numbered write is one that somebody asked for
all_asked : (keep : ℕ → Bool) (entries : List Entry) → RespectsEntries keep entries → AllAsked keep entries (numbered entries)
unfolding RespectsEntries AllAsked numbered operation_numbers applied operations
all_asked keep [] respects = respects
all_asked keep (entry ∷ older) respects = go (takes_effect entry.0 entry.1) refl (all_asked keep older respects.1) where
  go : (effect : Bool) → takes_effect entry.0 entry.1 ≡ effect → AllAsked keep older (numbered older)
      → AllAsked keep (entry ∷ older) (zip (cond (effect && is_operation entry.0) (length older ∷ operation_numbers older) (operation_numbers older)) (operations (cond effect (entry.0 ∷ applied older) (applied older))))
  go true e asked = asked_more keep entry.0 entry.1 older e respects.0.0 asked
  go false e asked = asked_later keep entry older (numbered older) asked

-- ---- the source of a read

-- a live owner whose write or add does not block a kept reader is kept
unblocked : (keep : ℕ → Bool) (steps : List Step) (t x : ℕ) → keep t ≡ true → Keeps keep (permits steps x Op'.Read) → ((a : ℕ) → lists (openers steps x Op'.Read) a ≡ true → keep a ≡ keep t) → (o : Operation) → eqb o.object x ≡ true → changes o.use_of ≡ true
    → blocks steps t x Op'.Read o ≡ false → live steps o.owner ≡ true → keep o.owner ≡ true
unfolding blocks conflict changes op_of
unblocked keep steps t x stays keeps opens o here changed clear alive = go (eqb o.owner t) refl (allows steps o.owner t x Op'.Read) refl where
  conflicts : (how : Use) → changes how ≡ true → conflict (op_of how) Op'.Read ≡ true
  conflicts (writes v) h = refl
  conflicts (adds d) h = refl
  conflicts reads h = h

  go : (own : Bool) → eqb o.owner t ≡ own → (allowed : Bool) → allows steps o.owner t x Op'.Read ≡ allowed → keep o.owner ≡ true
  go true e allowed f = ap keep (eqb-true o.owner t e) ∙ stays
  go false e true f = allows_keeps keep steps x Op'.Read keeps o.owner t opens f ∙ stays
  go false e false f = absurd (false≢true (sym clear ∙ rw (here, conflicts o.use_of changed, e, alive, f) refl))

-- a write or an add that stands is a kept one's, or a committed one's
kept_or_committed : (keep : ℕ → Bool) (steps : List Step) (t x : ℕ) → keep t ≡ true → Keeps keep (permits steps x Op'.Read) → ((a : ℕ) → lists (openers steps x Op'.Read) a ≡ true → keep a ≡ keep t) → (o : Operation) → eqb o.object x ≡ true → changes o.use_of ≡ true
    → stands steps o ≡ true → blocks steps t x Op'.Read o ≡ false → lists (initiated steps) o.owner ≡ true → (keep o.owner ≡ true) ⊎ (was_committed (end_of steps o.owner) ≡ true)
unfolding stands was_aborted was_committed live
kept_or_committed keep steps t x stays keeps opens o here changed stays_up clear known = go (end_of steps o.owner) refl where
  go : (end : Option End) → end_of steps o.owner ≡ end → (keep o.owner ≡ true) ⊎ (was_committed (end_of steps o.owner) ≡ true)
  go None e = inl (unblocked keep steps t x stays keeps opens o here changed clear (rw (known, e) refl))
  go (Some End'.Committed) e = inr (ap was_committed e)
  go (Some End'.Aborted) e = absurd (false≢true (ap (λ end. not (was_aborted end)) (sym e) ∙ stays_up))

same_asked : (u t : Txn) (y x : Ob) (how : Use) → u.0 ≡ t.0 → y.0 ≡ x.0 → asked_for u y how ≡ asked_for t x how
same_asked u t y x how p q = λ i. asked_for (record { 0 = p i }) (record { 0 = q i }) how

-- an operation that a reader meets who is alone: the reader asked for it, or who is responsible for it has committed
own_or : (entries : List Entry) (keep : ℕ → Bool) (t : Txn) (x : Ob) → keep t.0 ≡ true → ((n : ℕ) → keep n ≡ true → n ≡ t.0) → Keeps keep (permits (applied entries) x.0 Op'.Read) → ((a : ℕ) → lists (openers (applied entries) x.0 Op'.Read) a ≡ true → keep a ≡ keep t.0)
    → (found : Numbered) → IsAsked keep entries found → eqb found.1.object x.0 ≡ true → changes found.1.use_of ≡ true → stands (applied entries) found.1 ≡ true
    → blocks (applied entries) t.0 x.0 Op'.Read found.1 ≡ false → lists (initiated (applied entries)) found.1.owner ≡ true
    → (entry_at entries found.0 ≡ asked_for t x found.1.use_of) ⊎ (was_committed (end_of (applied entries) found.1.owner) ≡ true)
unfolding IsAsked
own_or entries keep t x stays alone keeps opens found asked here changed up clear known = by (kept_or_committed keep (applied entries) t.0 x.0 stays keeps opens found.1 here changed up clear known) where
  by : (keep found.1.owner ≡ true) ⊎ (was_committed (end_of (applied entries) found.1.owner) ≡ true) → (entry_at entries found.0 ≡ asked_for t x found.1.use_of) ⊎ (was_committed (end_of (applied entries) found.1.owner) ≡ true)
  by (inr committed) = inr committed
  by (inl own) = let asker = asked changed in
      inl (asker.2 ∙ same_asked asker.0 t asker.1 x found.1.use_of (alone asker.0.0 (asker.4 ∙ own)) (asker.3 ∙ eqb-true found.1.object x.0 here))

as_write : (entries : List Entry) (t : Txn) (x : Ob) (m : ℕ) (how : Use) → is_write how ≡ true → entry_at entries m ≡ asked_for t x how → IsWriteOf entries t x m
unfolding is_write asking
as_write entries t x m (writes v) h is = (v, is)
as_write entries t x m reads h is = absurd (false≢true h)
as_write entries t x m (adds d) h is = absurd (false≢true h)

as_add : (entries : List Entry) (t : Txn) (x : Ob) (m : ℕ) (how : Use) → is_add how ≡ true → entry_at entries m ≡ asked_for t x how → IsAddOf entries t x m
unfolding is_add asking
as_add entries t x m (adds d) h is = (d, is)
as_add entries t x m reads h is = absurd (false≢true h)
as_add entries t x m (writes v) h is = absurd (false≢true h)

-- the first write that stands, and the adds after it, of numbered operations that do not block a reader who is alone
own_or_committed : (entries : List Entry) (keep : ℕ → Bool) (t : Txn) (x : Ob) → keep t.0 ≡ true → ((n : ℕ) → keep n ≡ true → n ≡ t.0) → Keeps keep (permits (applied entries) x.0 Op'.Read) → ((a : ℕ) → lists (openers (applied entries) x.0 Op'.Read) a ≡ true → keep a ≡ keep t.0)
    → (numbers : List ℕ) (os : List Operation) → AllAsked keep entries (zip numbers os) → list_any (blocks (applied entries) t.0 x.0 Op'.Read) os ≡ false
    → ((n : ℕ) → list_any (λ (o : Operation). eqb o.owner n) os ≡ true → lists (initiated (applied entries)) n ≡ true)
    → IsOwnOrCommitted entries t x (find (stands_on entries x.0) (zip numbers os)) × AreOwnOrCommitted entries t x (added_on entries x.0 (zip numbers os))
unfolding AllAsked stands_on adds_on added_on AreOwnOrCommitted
own_or_committed entries keep t x stays alone keeps opens [] os asked clear known = (tt, tt)
own_or_committed entries keep t x stays alone keeps opens (m ∷ numbers) [] asked clear known = (tt, tt)
own_or_committed entries keep t x stays alone keeps opens (m ∷ numbers) (o ∷ os) asked clear known =
    go (stands_on entries x.0 (m, o)) refl (adds_on entries x.0 (m, o)) refl (own_or_committed entries keep t x stays alone keeps opens numbers os asked.1 parts.1 (λ n owns. known n (or_right (eqb o.owner n) _ owns))) where
      parts : (blocks (applied entries) t.0 x.0 Op'.Read o ≡ false) × (list_any (blocks (applied entries) t.0 x.0 Op'.Read) os ≡ false)
      parts = or_parts (blocks (applied entries) t.0 x.0 Op'.Read o) _ clear

      one : eqb o.object x.0 ≡ true → changes o.use_of ≡ true → stands (applied entries) o ≡ true → (entry_at entries m ≡ asked_for t x o.use_of) ⊎ (was_committed (end_of (applied entries) o.owner) ≡ true)
      one here changed up = own_or entries keep t x stays alone keeps opens (m, o) asked.0 here changed up parts.0 (known o.owner (or_left _ _ (eq-eqb o.owner o.owner refl)))

      write : stands_on entries x.0 (m, o) ≡ true → IsOwnOrCommitted entries t x (Some (m, o))
      write e = by (one here.0 (write_changes o.use_of here.1) found.1) where
        found : ((eqb o.object x.0 && is_write o.use_of) ≡ true) × (stands (applied entries) o ≡ true)
        found = and_parts (eqb o.object x.0 && is_write o.use_of) (stands (applied entries) o) e

        here : (eqb o.object x.0 ≡ true) × (is_write o.use_of ≡ true)
        here = and_parts (eqb o.object x.0) (is_write o.use_of) found.0

        by : (entry_at entries m ≡ asked_for t x o.use_of) ⊎ (was_committed (end_of (applied entries) o.owner) ≡ true) → IsOwnOrCommitted entries t x (Some (m, o))
        by (inl own) = inl (as_write entries t x m o.use_of here.1 own)
        by (inr committed) = inr committed

      add : adds_on entries x.0 (m, o) ≡ true → IsAddOf entries t x m ⊎ (was_committed (end_of (applied entries) o.owner) ≡ true)
      add e = by (one here.0 (add_changes o.use_of here.1) found.1) where
        found : ((eqb o.object x.0 && is_add o.use_of) ≡ true) × (stands (applied entries) o ≡ true)
        found = and_parts (eqb o.object x.0 && is_add o.use_of) (stands (applied entries) o) e

        here : (eqb o.object x.0 ≡ true) × (is_add o.use_of ≡ true)
        here = and_parts (eqb o.object x.0) (is_add o.use_of) found.0

        by : (entry_at entries m ≡ asked_for t x o.use_of) ⊎ (was_committed (end_of (applied entries) o.owner) ≡ true) → IsAddOf entries t x m ⊎ (was_committed (end_of (applied entries) o.owner) ≡ true)
        by (inl own) = inl (as_add entries t x m o.use_of here.1 own)
        by (inr committed) = inr committed

      Found : Option Numbered → List Numbered → Type 0
      Found wrote plus = IsOwnOrCommitted entries t x wrote × AreOwnOrCommitted entries t x plus

      go : (wrote : Bool) → stands_on entries x.0 (m, o) ≡ wrote → (plus : Bool) → adds_on entries x.0 (m, o) ≡ plus → Found (find (stands_on entries x.0) (zip numbers os)) (added_on entries x.0 (zip numbers os))
          → Found (cond wrote (Some (m, o)) (find (stands_on entries x.0) (zip numbers os))) (cond wrote [] (cond plus ((m, o) ∷ added_on entries x.0 (zip numbers os)) (added_on entries x.0 (zip numbers os))))
      go true e plus f rest = (write e, tt)
      go false e true f rest = (rest.0, (add f, rest.1))
      go false e false f rest = rest

-- the source of a value that a transaction read which is alone in its group, and the adds in it
pub alone_source : (opening : Opening) (newer older : List Entry) (t : Txn) (x : Ob) (v : ℤ) → IsLegal opening (newer ++ (Read t x, Reply'.Value v) ∷ older)
    → IsAlone (newer ++ (Read t x, Reply'.Value v) ∷ older) t.0 → IsOwnOrCommitted older t x (source older x.0) × AreOwnOrCommitted older t x (added older x.0)
unfolding IsLegal RespectsEntries free numbered source added takes_effect unrefused operates_on actor
alone_source opening newer older t x v legal alone =
    let all = newer ++ (Read t x, Reply'.Value v) ∷ older in
    let keep = same_group (newer ++ (Read t x, Reply'.Value v) ∷ older) t.0 in
    let here = legal_rest opening newer ((Read t x, Reply'.Value v) ∷ older) legal in
    let respects = respects_rest keep newer ((Read t x, Reply'.Value v) ∷ older) (keeps_respects keep all (group_keeps all t.0)) in
    let alike = kept_alike keep (applied older) (respects_applied keep older respects.1) in
    let is_free = not_waiting (free (applied older) t.0 x.0 Op'.Read) _ (Reply'.Value v) (effect_answer opening (applied older) (Read t x) (Reply'.Value v) here.0 refl) in
    own_or_committed older keep t x (group_refl all t.0) alone (alike.permits_keep x.0 Op'.Read) (λ a listed. opens_to keep (Read t x, Reply'.Value v) older respects refl x.0 a Op'.Read (eq-eqb x.0 x.0 refl) listed) (operation_numbers older) (operations (applied older))
    (all_asked keep older respects.1) (not-true _ is_free) (legal_orderly opening older here.1).owners_known

-- ---- the value of a source

-- each operation has a number
pub numbers_length : (entries : List Entry) → length (operation_numbers entries) ≡ length (operations (applied entries))
unfolding operation_numbers applied operations operated is_operation
numbers_length [] = refl
numbers_length (entry ∷ older) = go (takes_effect entry.0 entry.1) (numbers_length older) where
  by : (step : Step) → length (operation_numbers older) ≡ length (operations (applied older))
      → length (cond (is_operation step) (length older ∷ operation_numbers older) (operation_numbers older)) ≡ length (operated step (operations (applied older)))
  by (Initiate t parent) same = same
  by (Begin t) same = same
  by (Read t x) same = ap suc same
  by (Write t x v) same = ap suc same
  by (Add t x d) same = ap suc same
  by (Complete t) same = same
  by (Permit giver taker obs ops) same = same
  by (Delegate giver taker obs) same = same ∙ sym (length-map (operations (applied older)) (handed_over giver.0 taker.0 obs))
  by (Depend kind a b) same = same
  by (Commit t) same = same
  by (Abort t) same = same
  by (WaitFor t) same = same
  by (PermitAny giver obs ops) same = same

  go : (effect : Bool) → length (operation_numbers older) ≡ length (operations (applied older))
      → length (cond (effect && is_operation entry.0) (length older ∷ operation_numbers older) (operation_numbers older)) ≡ length (operations (cond effect (entry.0 ∷ applied older) (applied older)))
  go true same = by entry.0 same
  go false same = same

-- the first write that stands gives the value, with the adds after it
value_found : (opening : Opening) (entries : List Entry) (x : ℕ) (numbers : List ℕ) (os : List Operation) → length numbers ≡ length os
    → value_after (stands (applied entries)) x (opening_value opening x) os ≡ with_added (source_value opening x (find (stands_on entries x) (zip numbers os))) (added_on entries x (zip numbers os))
unfolding value_after source_value stands_on adds_on added_on with_added is_write is_add after_use
value_found opening entries x [] [] same = refl
value_found opening entries x [] (o ∷ os) same = absurd (omega (arith, same))
value_found opening entries x (m ∷ numbers) [] same = absurd (omega (arith, same))
value_found opening entries x (m ∷ numbers) (o ∷ os) same = go (eqb o.object x) refl (stands (applied entries) o) refl o.use_of refl (value_found opening entries x numbers os (omega (arith, same))) where
  plain : ℤ
  plain = value_after (stands (applied entries)) x (opening_value opening x) os

  wrote : Option Numbered
  wrote = find (stands_on entries x) (zip numbers os)

  plus : List Numbered
  plus = added_on entries x (zip numbers os)

  go : (here : Bool) → eqb o.object x ≡ here → (up : Bool) → stands (applied entries) o ≡ up → (how : Use) → o.use_of ≡ how → plain ≡ with_added (source_value opening x wrote) plus
      → cond (here && up) (after_use how plain) plain
      ≡ with_added (source_value opening x (cond (here && is_write how && up) (Some (m, o)) wrote)) (cond (here && is_write how && up) [] (cond (here && is_add how && up) ((m, o) ∷ plus) plus))
  go true e true f (writes v) g rest = rw (g) refl
  go true e true f (adds d) g rest = rw (g) (ap (after_use (adds d)) rest)
  go true e true f reads g rest = rest
  go true e false f (writes v) g rest = rest
  go true e false f (adds d) g rest = rest
  go true e false f reads g rest = rest
  go false e up f how g rest = rest

pub source_gives : (opening : Opening) (entries : List Entry) (x : ℕ) → value opening (applied entries) x ≡ with_added (source_value opening x (source entries x)) (added entries x)
unfolding value source added numbered
source_gives opening entries x = value_found opening entries x (operation_numbers entries) (operations (applied entries)) (numbers_length entries)

-- ---- the write of a source

-- everybody may be kept
respects_all : (entries : List Entry) → RespectsEntries (λ n. true) entries
unfolding RespectsEntries
respects_all [] = tt
respects_all (entry ∷ older) = ((refl, λ effect x on. opened_all x (applied older)), respects_all older)

-- what is found was asked for, and stands
found_asked : (keep : ℕ → Bool) (entries : List Entry) (x : ℕ) (ns : List Numbered) → AllAsked keep entries ns → (found : Numbered) → find (stands_on entries x) ns ≡ Some found
    → IsAsked keep entries found × (stands_on entries x found ≡ true)
unfolding AllAsked
found_asked keep entries x [] asked found is = cc
found_asked keep entries x (first ∷ rest) asked found is = go (stands_on entries x first) refl (found_asked keep entries x rest asked.1 found) is where
  Found : Type 0
  Found = IsAsked keep entries found × (stands_on entries x found ≡ true)

  go : (here : Bool) → stands_on entries x first ≡ here → (find (stands_on entries x) rest ≡ Some found → Found) → cond here (Some first) (find (stands_on entries x) rest) ≡ Some found → Found
  go true e later at = subst (λ (n : Numbered). IsAsked keep entries n × (stands_on entries x n ≡ true)) (same_Some first found at) (asked.0, e)
  go false e later at = later at

-- the entry of the source of x is a write on x, of the value that the source gives
pub source_written : (entries : List Entry) (x : ℕ) (found : Numbered) → source entries x ≡ Some found → IsWrittenOn entries x found
unfolding source stands_on IsAsked is_write asking
source_written entries x found is =
    let here = found_asked (λ n. true) entries x (numbered entries) (all_asked (λ n. true) entries (respects_all entries)) found is in
    let up = and_parts (eqb found.1.object x && is_write found.1.use_of) (stands (applied entries) found.1) here.1 in
    let parts = and_parts (eqb found.1.object x) (is_write found.1.use_of) up.0 in
    let by = here.0 (write_changes found.1.use_of parts.1) in
    wrote found.1.use_of refl parts.1 by.0 by.1 by.2 (by.3 ∙ eqb-true found.1.object x parts.0) where
      wrote : (how : Use) → found.1.use_of ≡ how → is_write how ≡ true → (t : Txn) (y : Ob) → entry_at entries found.0 ≡ asked_for t y found.1.use_of → y.0 ≡ x → IsWrittenOn entries x found
      wrote (writes v) e h t y at on = (t, y, v, at ∙ ap (asked_for t y) e, on, e)
      wrote reads e h t y at on = absurd (false≢true h)
      wrote (adds d) e h t y at on = absurd (false≢true h)

-- the entries of the adds in the value of x are adds on x
added_asked : (keep : ℕ → Bool) (entries : List Entry) (x : ℕ) (ns : List Numbered) → AllAsked keep entries ns → AreAddedOn entries x (added_on entries x ns)
unfolding AllAsked IsAsked added_on adds_on AreAddedOn is_add asking
added_asked keep entries x [] asked = tt
added_asked keep entries x (first ∷ rest) asked = go (stands_on entries x first) (adds_on entries x first) refl (added_asked keep entries x rest asked.1) where
  one : adds_on entries x first ≡ true → (t : Txn) × (y : Ob) × (d : ℤ) × (entry_at entries first.0 ≡ Some (Add t y d, Reply'.Done)) × (y.0 ≡ x) × (first.1.use_of ≡ adds d)
  one e = plus first.1.use_of refl parts.1 by.0 by.1 by.2 (by.3 ∙ eqb-true first.1.object x parts.0) where
    parts : (eqb first.1.object x ≡ true) × (is_add first.1.use_of ≡ true)
    parts = and_parts (eqb first.1.object x) (is_add first.1.use_of) (and_parts (eqb first.1.object x && is_add first.1.use_of) (stands (applied entries) first.1) e).0

    by : (t : Txn) × (y : Ob) × (entry_at entries first.0 ≡ asked_for t y first.1.use_of) × (y.0 ≡ first.1.object) × (keep t.0 ≡ keep first.1.owner)
    by = asked.0 (add_changes first.1.use_of parts.1)

    plus : (how : Use) → first.1.use_of ≡ how → is_add how ≡ true → (t : Txn) (y : Ob) → entry_at entries first.0 ≡ asked_for t y first.1.use_of → y.0 ≡ x
        → (t : Txn) × (y : Ob) × (d : ℤ) × (entry_at entries first.0 ≡ Some (Add t y d, Reply'.Done)) × (y.0 ≡ x) × (first.1.use_of ≡ adds d)
    plus (adds d) e h t y at on = (t, y, d, at ∙ ap (asked_for t y) e, on, e)
    plus reads e h t y at on = absurd (false≢true h)
    plus (writes v) e h t y at on = absurd (false≢true h)

  go : (wrote plus : Bool) → adds_on entries x first ≡ plus → AreAddedOn entries x (added_on entries x rest)
      → AreAddedOn entries x (cond wrote [] (cond plus (first ∷ added_on entries x rest) (added_on entries x rest)))
  go true plus e later = tt
  go false true e later = (one e, later)
  go false false e later = later

pub added_written : (entries : List Entry) (x : ℕ) → AreAddedOn entries x (added entries x)
unfolding added
added_written entries x = added_asked (λ n. true) entries x (numbered entries) (all_asked (λ n. true) entries (respects_all entries))
