-- Who stays by the marks of groups, and the entries that are left.
use Rattle.std.proofs.Common.{◌≡◌, ℕ, ◌+◌, ◌<◌, ◌≤◌, Bool, true, false, not, cond, eqb, set, ◌&&◌, ◌||◌, List, [], ◌∷◌, ◌++◌, length, get_or, take, drop, reverse, map, refl, sym, ap, subst, ◌∙◌, arith, inl, inr, Some, None}
use Rattle.std.specs.Prelude.{Option, slice_get, is_some}
use Rattle.std.specs.List.{list_any}
use Rattle.std.proofs.lemmas.Bool.{or_cases, or_left, or_right, and_parts, and_from, cases_eq, eqb-true, eq-eqb, ne_eqb, false≢true}
use Rattle.std.proofs.lemmas.List.{take_more, get_or-set_same, get_or-set_other, get_or-map}
use Rattle.std.proofs.lemmas.List.Folds.{list_any-append}
use Rattle.asset_entries.proofs.EntryLemmas.{next_entry, between}
use Rattle.asset_names.specs.declared.names.Txn.{Txn}
use Rattle.asset_names.specs.declared.replies.Outcome.TheVariants.{Answer}
use Rattle.asset_names.specs.Arrows.{lists, with_name}
use Rattle.asset_names.specs.Steps.{Opening, Entry, applied}
use Rattle.asset_names.specs.Groups.{actor, partner, same_group, dead, stays, kept, without}
use Rattle.asset_names.specs.Answers.{answer, IsLegal}
use Rattle.asset_names.proofs.Common.{both_follow}
use Rattle.asset_names.proofs.ListLemmas.{any_map, any_alike, listed_any}
use Rattle.asset_laws.proofs.GroupLemmas.{group_refl, group_sym, dead_alike, stays_answered}
use Rattle.asset_history.specs.Named.{names_of}
use Rattle.asset_deletion.specs.Grouping.{Grouping, grouping_of, number_in, same_number, dead_in, dead_at}
use Rattle.asset_deletion.specs.Going.{takes_along, goes, keeps, AreNumbersBelow, SaysWhoStays}
use Rattle.asset_deletion.proofs.GroupingLemmas.{entries_numbered, name_position, named_in_group, dead_in_group, same_in_group}

-- ---- names

-- a name that is listed, and the last one, stay listed
listed_first : (names : List ℕ) (n m : ℕ) → lists names m ≡ true → lists (names ++ n ∷ []) m ≡ true
unfolding lists
listed_first [] n m h = absurd (false≢true h)
listed_first (k ∷ names) n m h = elim (or_cases (eqb k m) _ h) [
  | inl here ↦ or_left _ _ here
  | inr later ↦ or_right (eqb k m) _ (listed_first names n m later)
]

listed_last : (names : List ℕ) (n : ℕ) → lists (names ++ n ∷ []) n ≡ true
unfolding lists
listed_last [] n = or_left _ _ (eq-eqb n n refl)
listed_last (k ∷ names) n = or_right (eqb k n) _ (listed_last names n)

with_listed : (names : List ℕ) (n m : ℕ) → lists names m ≡ true → lists (with_name names n) m ≡ true
unfolding with_name
with_listed names n m h = go (lists names n) where
  go : (b : Bool) → lists (cond b names (names ++ n ∷ [])) m ≡ true
  go true = h
  go false = listed_first names n m h

with_itself : (names : List ℕ) (n : ℕ) → lists (with_name names n) n ≡ true
unfolding with_name
with_itself names n = go (lists names n) refl where
  go : (b : Bool) → lists names n ≡ b → lists (cond b names (names ++ n ∷ [])) n ≡ true
  go true e = e
  go false e = listed_last names n

-- an actor is named, and who is named stays so
actor_named : (entry : Entry) (older : List Entry) → lists (names_of (entry ∷ older)) (actor entry.0).0 ≡ true
unfolding names_of
actor_named entry older = with_listed (with_name (names_of older) (actor entry.0).0) (partner entry.0).0 (actor entry.0).0 (with_itself (names_of older) (actor entry.0).0)

named_later : (entry : Entry) (older : List Entry) (n : ℕ) → lists (names_of older) n ≡ true → lists (names_of (entry ∷ older)) n ≡ true
unfolding names_of
named_later entry older n h = with_listed (with_name (names_of older) (actor entry.0).0) (partner entry.0).0 n (with_listed (names_of older) (actor entry.0).0 n h)

named_rest : (newer older : List Entry) (n : ℕ) → lists (names_of older) n ≡ true → lists (names_of (newer ++ older)) n ≡ true
named_rest [] older n h = h
named_rest (entry ∷ newer) older n h = named_later entry (newer ++ older) n (named_rest newer older n h)

-- tests that agree on those who are named keep the same entries
kept_same : (test other : ℕ → Bool) (entries : List Entry) → ((n : ℕ) → lists (names_of entries) n ≡ true → test n ≡ other n) → kept test entries ≡ kept other entries
unfolding kept
kept_same test other [] agree = refl
kept_same test other (entry ∷ older) agree =
    rw (agree (actor entry.0).0 (actor_named entry older)) (go (other (actor entry.0).0) (kept_same test other older (λ n h. agree n (named_later entry older n h)))) where
      go : (b : Bool) → kept test older ≡ kept other older → cond b (entry ∷ kept test older) (kept test older) ≡ cond b (entry ∷ kept other older) (kept other older)
      go true rest = ap (λ l. entry ∷ l) rest
      go false rest = rest

-- ---- numbers

pub numbers_below : (entries : List Entry) → AreNumbersBelow (grouping_of entries) (grouping_of entries).count
unfolding number_in grouping_of
numbers_below entries n g is = elim (name_position (names_of entries) n) [
  | inl at ↦
      let here : Some (get_or (grouping_of entries).numbers at.0 0) ≡ Some g = rw at.1 at is in
      let same : get_or (grouping_of entries).numbers at.0 0 ≡ g = cc in
      subst (λ k. k < (grouping_of entries).count) same ((entries_numbered entries).below at.0 at.2)
  | inr none ↦ let never : None ≡ Some g = rw none.0 at is in absurd cc
]

-- two groups are one either way round
turned : (entries : List Entry) (a b : ℕ) → same_group entries a b ≡ same_group entries b a
turned entries a b = both_follow _ _ (group_sym entries a b) (group_sym entries b a)

-- who has a number is named
numbered_named : (entries : List Entry) (n g : ℕ) → number_in (grouping_of entries) n ≡ Some g → lists (names_of entries) n ≡ true
numbered_named entries n g is = sym (named_in_group entries n) ∙ ap is_some is

named_numbered : (entries : List Entry) (n : ℕ) → lists (names_of entries) n ≡ true → (g : ℕ) × (number_in (grouping_of entries) n ≡ Some g)
named_numbered entries n h = go (number_in (grouping_of entries) n) refl (named_in_group entries n ∙ h) where
  go : (found : Option ℕ) → number_in (grouping_of entries) n ≡ found → is_some found ≡ true → (g : ℕ) × (number_in (grouping_of entries) n ≡ Some g)
  go None e h = absurd (false≢true h)
  go (Some g) e h = (g, e)

-- ---- marks

-- a mark of the group of a chosen transaction that is dead
pub marked_one : (groups : Grouping) (going : List Bool) (t : Txn) (k : ℕ) → number_in groups t.0 ≡ Some k → dead_in groups t.0 ≡ true → k < length going
    → (g : ℕ) → get_or (set going k true) g false ≡ (get_or going g false || takes_along groups g t)
unfolding takes_along same_number
marked_one groups going t k at gone below g = rw (at, gone) (elim (cases_eq k g) [
  | inl same ↦ ap (λ n. get_or (set going k true) n false) (sym same) ∙ get_or-set_same going k true false below ∙ sym (or_second (get_or going g false) (eqb k g && true) (and_from _ _ (eq-eqb k g same) refl))
  | inr other ↦ get_or-set_other going k g true false (λ is. other (sym is)) ∙ sym (or_first (get_or going g false) (eqb k g && true) (ap (λ b. b && true) (ne_eqb k g other)))
]) where
  or_second : (a b : Bool) → b ≡ true → (a || b) ≡ true
  or_second a b h = or_right a b h

  or_first : (a b : Bool) → b ≡ false → (a || b) ≡ a
  or_first true b h = refl
  or_first false b h = h

-- a transaction that is not named, or whose group is not dead, takes nobody along
or_nobody : (a b : Bool) → b ≡ false → a ≡ (a || b)
or_nobody true b h = refl
or_nobody false b h = sym h

pub unnamed_takes : (groups : Grouping) (going : List Bool) (t : Txn) → number_in groups t.0 ≡ None → (g : ℕ) → get_or going g false ≡ (get_or going g false || takes_along groups g t)
unfolding takes_along same_number
unnamed_takes groups going t none g = or_nobody (get_or going g false) _ (rw none refl)

pub undead_takes : (groups : Grouping) (going : List Bool) (t : Txn) → dead_in groups t.0 ≡ false → (g : ℕ) → get_or going g false ≡ (get_or going g false || takes_along groups g t)
unfolding takes_along
undead_takes groups going t undead g = or_nobody (get_or going g false) _ (rw undead (none (same_number (number_in groups t.0) (Some g)))) where
  none : (b : Bool) → (b && false) ≡ false
  none true = refl
  none false = refl

-- one more chosen transaction
pub goes_more : (groups : Grouping) (chosen : List Txn) (i : ℕ) (t : Txn) (g : ℕ) → i < length chosen → goes groups (take (i + 1) chosen) g ≡ (goes groups (take i chosen) g || takes_along groups g (get_or chosen i t))
unfolding goes
goes_more groups chosen i t g below =
    ap (list_any (takes_along groups g)) (take_more chosen i t below)
    ∙ list_any-append (takes_along groups g) (take i chosen) (get_or chosen i t ∷ [])
    ∙ ap (λ b. list_any (takes_along groups g) (take i chosen) || b) (alone (takes_along groups g (get_or chosen i t))) where
      alone : (b : Bool) → (b || false) ≡ b
      alone true = refl
      alone false = refl

-- the marks of dead groups keep those whose group is not dead
pub marks_keep : (names numbers : List ℕ) (count : ℕ) (is_dead : List Bool) → length numbers ≡ length names → (n : ℕ)
    → (let groups : Grouping = record { names = names; numbers = numbers; count = count; dead = map (λ k. get_or is_dead k false) numbers } in keeps groups is_dead n ≡ not (dead_in groups n))
unfolding keeps dead_in dead_at number_in
marks_keep names numbers count is_dead long n = elim (name_position names n) [
  | inl at ↦ rw at.1 (ap not (sym (get_or-map (λ k. get_or is_dead k false) numbers at.0 0 false (omega (arith, long, at.2)))))
  | inr none ↦ rw none.0 refl
]

-- ---- who stays

-- whether a chosen transaction takes n's group along
one_goes : (entries : List Entry) (n g : ℕ) → number_in (grouping_of entries) n ≡ Some g → (t : Txn) → (same_group entries t.0 n && dead entries t.0) ≡ takes_along (grouping_of entries) g t
unfolding takes_along
one_goes entries n g is t =
    rw (← is, same_in_group entries t.0 n, dead_in_group entries t.0, numbered_named entries n g is) (go (lists (names_of entries) t.0) refl) where
      apart : lists (names_of entries) t.0 ≡ false → same_group entries t.0 n ≡ false
      apart e = turned entries t.0 n ∙ (entries_numbered entries).second n t.0 e ∙ other (eqb n t.0) refl where
        other : (b : Bool) → eqb n t.0 ≡ b → b ≡ false
        other false f = refl
        other true f = absurd (false≢true (sym e ∙ ap (lists (names_of entries)) (sym (eqb-true n t.0 f)) ∙ numbered_named entries n g is))

      go : (b : Bool) → lists (names_of entries) t.0 ≡ b → (same_group entries t.0 n && dead entries t.0) ≡ (((b && true) && same_group entries t.0 n) && (b && dead entries t.0))
      go true e = refl
      go false e = rw (apart e) refl

pub stays_goes : (entries : List Entry) (chosen : List Txn) (n g : ℕ) → number_in (grouping_of entries) n ≡ Some g
    → stays entries (map (λ (t : Txn). t.0) chosen) n ≡ not (goes (grouping_of entries) chosen g)
unfolding stays goes
stays_goes entries chosen n g is =
    ap not (any_map (λ c. same_group entries c n && dead entries c) (λ (t : Txn). t.0) chosen
    ∙ any_alike (λ (t : Txn). same_group entries t.0 n && dead entries t.0) (takes_along (grouping_of entries) g) chosen (one_goes entries n g is))

-- the marks of the groups that go say who stays
marks_exact : (entries : List Entry) (chosen : List Txn) (going : List Bool) → ((g : ℕ) → get_or going g false ≡ goes (grouping_of entries) chosen g) → (n : ℕ) → lists (names_of entries) n ≡ true
    → keeps (grouping_of entries) going n ≡ stays entries (map (λ (t : Txn). t.0) chosen) n
unfolding keeps dead_at
marks_exact entries chosen going marked n h = let at = named_numbered entries n h in rw (at.1) (ap not (marked at.0)) ∙ sym (stays_goes entries chosen n at.0 at.1)

pub marks_say : (entries : List Entry) (chosen : List Txn) (going : List Bool) → ((g : ℕ) → get_or going g false ≡ goes (grouping_of entries) chosen g) → SaysWhoStays entries (grouping_of entries) going
marks_say entries chosen going marked = record { chosen = map (λ (t : Txn). t.0) chosen; exact = marks_exact entries chosen going marked }

pub chosen_left : (entries : List Entry) (chosen : List Txn) (going : List Bool) → ((g : ℕ) → get_or going g false ≡ goes (grouping_of entries) chosen g)
    → kept (keeps (grouping_of entries) going) entries ≡ without entries (map (λ (t : Txn). t.0) chosen)
unfolding without
chosen_left entries chosen going marked = kept_same (keeps (grouping_of entries) going) (stays entries (map (λ (t : Txn). t.0) chosen)) entries (marks_exact entries chosen going marked)

-- all dead groups go if all who are named are chosen

some_dead : (entries : List Entry) (names : List ℕ) (n : ℕ) → list_any (λ c. same_group entries c n && dead entries c) names ≡ true → dead entries n ≡ true
some_dead entries [] n h = absurd (false≢true h)
some_dead entries (c ∷ names) n h = elim (or_cases (same_group entries c n && dead entries c) _ h) [
  | inl here ↦ let parts = and_parts (same_group entries c n) _ here in sym (dead_alike entries c n parts.0) ∙ parts.1
  | inr later ↦ some_dead entries names n later
]

stays_undead : (entries : List Entry) (n : ℕ) → lists (names_of entries) n ≡ true → stays entries (names_of entries) n ≡ not (dead entries n)
unfolding stays
stays_undead entries n h = ap not (both_follow _ _ (some_dead entries (names_of entries) n)
    (λ gone. listed_any (λ c. same_group entries c n && dead entries c) (names_of entries) n h (and_from _ _ (group_refl entries n) gone)))

dead_exact : (entries : List Entry) (going : List Bool) → ((n : ℕ) → keeps (grouping_of entries) going n ≡ not (dead_in (grouping_of entries) n)) → (n : ℕ) → lists (names_of entries) n ≡ true
    → keeps (grouping_of entries) going n ≡ stays entries (names_of entries) n
dead_exact entries going marked n h = marked n ∙ ap not (dead_in_group entries n ∙ ap (λ b. b && dead entries n) h) ∙ sym (stays_undead entries n h)

pub dead_marks_say : (entries : List Entry) (going : List Bool) → ((n : ℕ) → keeps (grouping_of entries) going n ≡ not (dead_in (grouping_of entries) n)) → SaysWhoStays entries (grouping_of entries) going
dead_marks_say entries going marked = record { chosen = names_of entries; exact = dead_exact entries going marked }

pub dead_left : (entries : List Entry) (going : List Bool) → ((n : ℕ) → keeps (grouping_of entries) going n ≡ not (dead_in (grouping_of entries) n)) → kept (keeps (grouping_of entries) going) entries ≡ without entries (names_of entries)
unfolding without
dead_left entries going marked = kept_same (keeps (grouping_of entries) going) (stays entries (names_of entries)) entries (dead_exact entries going marked)

-- who is named stays exactly if its group is not dead
pub undead_left : (entries : List Entry) → kept (λ n. not (dead_in (grouping_of entries) n)) entries ≡ without entries (names_of entries)
unfolding without
undead_left entries = kept_same (λ n. not (dead_in (grouping_of entries) n)) (stays entries (names_of entries)) entries
    (λ n h. ap not (dead_in_group entries n ∙ ap (λ b. b && dead entries n) h) ∙ sym (stays_undead entries n h))

-- ---- what is left

-- an entry that stays is answered alike after the older ones that stay
pub answer_left : (opening : Opening) (all : List Entry) (groups : Grouping) (going : List Bool) → SaysWhoStays all groups going → IsLegal opening all → (i : ℕ) (entry : Entry) → slice_get (reverse all) i ≡ Some entry
    → keeps groups going (actor entry.0).0 ≡ true → answer opening (applied (kept (keeps groups going) (reverse (take i (reverse all))))) entry.0 ≡ Answer entry.1
answer_left opening all groups going says legal i entry at here =
    rw (kept_same (keeps groups going) (stays all says.chosen) older (λ n h. says.exact n (named n h)))
    (subst Answered (between all i entry at) (λ legal here. stays_answered opening newer entry older says.chosen legal here) legal (sym (says.exact (actor entry.0).0 acting) ∙ here)) where
      older : List Entry
      older = reverse (take i (reverse all))

      newer : List Entry
      newer = reverse (drop (i + 1) (reverse all))

      Answered : List Entry → Type 0
      Answered entries = IsLegal opening entries → stays entries says.chosen (actor entry.0).0 ≡ true → answer opening (applied (kept (stays entries says.chosen) older)) entry.0 ≡ Answer entry.1

      acting : lists (names_of all) (actor entry.0).0 ≡ true
      acting = subst (λ l. lists (names_of l) (actor entry.0).0 ≡ true) (between all i entry at) (named_rest newer (entry ∷ older) (actor entry.0).0 (actor_named entry older))

      named : (n : ℕ) → lists (names_of older) n ≡ true → lists (names_of all) n ≡ true
      named n h = subst (λ l. lists (names_of l) n ≡ true) (between all i entry at) (named_rest newer (entry ∷ older) n (named_later entry older n h))

-- the next entry stays or goes
pub kept_next : (keep : ℕ → Bool) (entries : List Entry) (i : ℕ) (entry : Entry) → slice_get entries i ≡ Some entry
    → kept keep (reverse (take (i + 1) entries)) ≡ cond (keep (actor entry.0).0) (entry ∷ kept keep (reverse (take i entries))) (kept keep (reverse (take i entries)))
unfolding kept
kept_next keep entries i entry at = rw (next_entry entries i entry at) refl

pub kept_few : (keep : ℕ → Bool) (entries : List Entry) → length (kept keep entries) ≤ length entries
unfolding kept
kept_few keep [] = omega arith
kept_few keep (entry ∷ older) = go (keep (actor entry.0).0) (kept_few keep older) where
  go : (b : Bool) → length (kept keep older) ≤ length older → length (cond b (entry ∷ kept keep older) (kept keep older)) ≤ length (entry ∷ older)
  go true few = omega (arith, few)
  go false few = omega (arith, few)
