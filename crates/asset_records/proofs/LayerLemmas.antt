-- Records among which no write stands over an add, and what keeps them so.
use Rattle.std.proofs.Common.{◌≡◌, ℕ, Bool, true, false, not, cond, eqb, ◌||◌, ◌&&◌, List, [], ◌∷◌, ◌++◌, map, Option, Some, None, is_some, refl, sym, ap, subst, ◌∙◌, inl, inr}
use Rattle.std.specs.Prelude.{ℤ}
use Rattle.std.specs.List.{list_any}
use Rattle.std.proofs.lemmas.Bool.{true≢false, cases_Bool, and_parts, or_parts, eqb-true, eq-eqb}
use Rattle.std.proofs.lemmas.List.{map-append}
use Rattle.slab.specs.Slab.{Slab, get}
use Rattle.asset_chains.specs.Chained.{chain_of, home_of, first_of, last_of, ahead, behind, IsConsistent}
use Rattle.asset_chains.specs.Crossed.{Crossed}
use Rattle.asset_chains.proofs.Laws.{chain_at_key, chain_at_last}
use Rattle.asset_records.specs.declared.mending.Mend.{Mend}
use Rattle.asset_records.specs.declared.mending.Mend.TheVariants.{Less}
use Rattle.asset_records.specs.Dropped.{added_by, added_at, first_write}
use Rattle.asset_records.specs.declared.records.Record.{Record}
use Rattle.asset_records.specs.declared.records.Record.TheVariants.{Write, Add, Lasting}
use Rattle.asset_records.specs.Handed.{renamed}
use Rattle.asset_records.specs.declared.layers.Mark.{Mark}
use Rattle.asset_records.specs.declared.layers.Mark.TheVariants.{Writes, Layered, Mixed}
use Rattle.asset_records.specs.Layered.{is_layered, only_writes, says_layered, fits, mark_at, AreMarked}
use Rattle.asset_records.specs.Listed.{on, at_keys, record_at, lists_in, settled_on, owner_of, is_owned, begins_with_nobodys, ChangesOn, TakesBack, Settles, Sheds}
use Rattle.asset_records.specs.Mended.{is_write, has_write, mended_in, mend_by, mend_of, content_of, summed}
use Rattle.asset_records.proofs.BackLemmas.{no_last, write_there}
use Rattle.asset_records.proofs.ClimbLemmas.{wrote_if}
use Rattle.asset_records.proofs.DropLemmas.{read_some}
use Rattle.asset_records.proofs.ListedLemmas.{on_chain, keys_append}

not_true : (b : Bool) → not b ≡ true → b ≡ false
not_true true e = absurd (true≢false (sym e))
not_true false e = refl

-- ---- whether a write is among the records
none_parts : (a b : List Record) → has_write (a ++ b) ≡ false → (has_write a ≡ false) × (has_write b ≡ false)
unfolding has_write
none_parts [] b none = (refl, none)
none_parts (x ∷ a) b none =
    let parts = or_parts (is_write x) (list_any is_write (a ++ b)) none in
    let rest = none_parts a b parts.1 in
    (ap (λ (w : Bool). w || list_any is_write a) parts.0 ∙ rest.0, rest.1)

none_both : (a b : List Record) → has_write a ≡ false → has_write b ≡ false → has_write (a ++ b) ≡ false
unfolding has_write
none_both [] b front back = back
none_both (x ∷ a) b front back =
    let parts = or_parts (is_write x) (list_any is_write a) front in
    ap (λ (w : Bool). w || list_any is_write (a ++ b)) parts.0 ∙ none_both a b parts.1 back

none_head : (x : Record) (a : List Record) → is_write x ≡ false → has_write a ≡ false → has_write (x ∷ a) ≡ false
unfolding has_write
none_head x a other none = ap (λ (w : Bool). w || list_any is_write a) other ∙ none

head_of_none : (x : Record) (a : List Record) → has_write (x ∷ a) ≡ false → (is_write x ≡ false) × (has_write a ≡ false)
unfolding has_write
head_of_none x a none = or_parts (is_write x) (list_any is_write a) none

-- ---- one record more at the front
over_write : (x : Record) (later : List Record) → is_write x ≡ true → is_layered (x ∷ later) ≡ is_layered later
unfolding is_layered
over_write x later is = ap (λ (w : Bool). cond w (is_layered later) (not (has_write later))) is

over_other : (x : Record) (later : List Record) → is_write x ≡ false → is_layered (x ∷ later) ≡ not (has_write later)
unfolding is_layered
over_other x later other = ap (λ (w : Bool). cond w (is_layered later) (not (has_write later))) other

layered_none : (records : List Record) → has_write records ≡ false → is_layered records ≡ true
unfolding is_layered
layered_none [] none = refl
layered_none (x ∷ records) none = let parts = head_of_none x records none in over_other x records parts.0 ∙ ap not parts.1

pub layered_one : (x : Record) → is_layered (x ∷ []) ≡ true
unfolding is_layered has_write
layered_one x = elim (cases_Bool (is_write x)) [
  | inl is ↦ over_write x [] is
  | inr other ↦ over_other x [] other
]

-- over an add stands no write
over_none : (x : Record) (later : List Record) → is_layered (x ∷ later) ≡ true → is_write x ≡ false → has_write later ≡ false
over_none x later layered other = not_true (has_write later) (sym (over_other x later other) ∙ layered)

pub layered_later : (a b : List Record) → is_layered (a ++ b) ≡ true → is_layered b ≡ true
layered_later [] b layered = layered
layered_later (x ∷ a) b layered = elim (cases_Bool (is_write x)) [
  | inl is ↦ layered_later a b (sym (over_write x (a ++ b) is) ∙ layered)
  | inr other ↦ layered_none b (none_parts a b (over_none x (a ++ b) layered other)).1
]

pub over_add : (a : List Record) (x : Record) (b : List Record) → is_layered (a ++ x ∷ b) ≡ true → is_write x ≡ false → has_write b ≡ false
over_add a x b layered other = over_none x b (layered_later a (x ∷ b) layered) other

-- if the oldest is an add, there is no write
pub none_after_add : (x : Record) (a b : List Record) → is_layered ((x ∷ a) ++ b) ≡ true → is_write x ≡ false → has_write (x ∷ a) ≡ false
none_after_add x a b layered other = none_head x a other (none_parts a b (over_none x (a ++ b) layered other)).0

-- a record goes
pub layered_less : (a : List Record) (x : Record) (b : List Record) → is_layered (a ++ x ∷ b) ≡ true → is_layered (a ++ b) ≡ true
layered_less [] x b layered = layered_later (x ∷ []) b layered
layered_less (y ∷ a) x b layered = elim (cases_Bool (is_write y)) [
  | inl is ↦ over_write y (a ++ b) is ∙ layered_less a x b (sym (over_write y (a ++ x ∷ b) is) ∙ layered)
  | inr other ↦
      let parts = none_parts a (x ∷ b) (over_none y (a ++ x ∷ b) layered other) in
      over_other y (a ++ b) other ∙ ap not (none_both a b parts.0 (head_of_none x b parts.1).1)
]

-- a record comes on top
pub add_on_top : (a : List Record) (x : Record) → is_layered a ≡ true → is_write x ≡ false → is_layered (a ++ x ∷ []) ≡ true
unfolding has_write
add_on_top [] x layered other = layered_one x
add_on_top (y ∷ a) x layered other = elim (cases_Bool (is_write y)) [
  | inl is ↦ over_write y (a ++ x ∷ []) is ∙ add_on_top a x (sym (over_write y a is) ∙ layered) other
  | inr add ↦ over_other y (a ++ x ∷ []) add ∙ ap not (none_both a (x ∷ []) (over_none y a layered add) (none_head x [] other refl))
]

pub top_on_write : (a : List Record) (newest x : Record) → is_layered (a ++ newest ∷ []) ≡ true → is_write newest ≡ true → is_layered ((a ++ newest ∷ []) ++ x ∷ []) ≡ true
top_on_write [] newest x layered wrote = over_write newest (x ∷ []) wrote ∙ layered_one x
top_on_write (y ∷ a) newest x layered wrote = elim (cases_Bool (is_write y)) [
  | inl is ↦ over_write y ((a ++ newest ∷ []) ++ x ∷ []) is ∙ top_on_write a newest x (sym (over_write y (a ++ newest ∷ []) is) ∙ layered) wrote
  | inr other ↦ absurd (true≢false (sym wrote ∙ (head_of_none newest [] (none_parts a (newest ∷ []) (over_none y (a ++ newest ∷ []) layered other)).1).0))
]

-- ---- only which records are writes counts
layered_of : List Bool → Bool
layered_of [] = true
layered_of (w ∷ later) = cond w (layered_of later) (not (list_any (λ (b : Bool). b) later))

any_flag : (records : List Record) → has_write records ≡ list_any (λ (b : Bool). b) (map is_write records)
unfolding has_write
any_flag [] = refl
any_flag (x ∷ records) = ap (λ (b : Bool). is_write x || b) (any_flag records)

by_flags : (records : List Record) → is_layered records ≡ layered_of (map is_write records)
unfolding is_layered layered_of
by_flags [] = refl
by_flags (x ∷ records) = λ i. cond (is_write x) (by_flags records i) (not (any_flag records i))

pub same_flags : (a b : List Record) → map is_write a ≡ map is_write b → is_layered a ≡ is_layered b
same_flags a b same = by_flags a ∙ ap layered_of same ∙ sym (by_flags b)

-- ---- records that are all of writes
write_head : (x : Record) (a : List Record) → only_writes (x ∷ a) ≡ true → (is_write x ≡ true) × (only_writes a ≡ true)
unfolding only_writes
write_head x a writes = and_parts (is_write x) (only_writes a) writes

head_write : (x : Record) (a : List Record) → is_write x ≡ true → only_writes a ≡ true → only_writes (x ∷ a) ≡ true
unfolding only_writes
head_write x a is writes = ap (λ (b : Bool). b && only_writes a) is ∙ writes

writes_later : (a b : List Record) → only_writes (a ++ b) ≡ true → only_writes b ≡ true
writes_later [] b writes = writes
writes_later (x ∷ a) b writes = writes_later a b (write_head x (a ++ b) writes).1

writes_less : (a : List Record) (x : Record) (b : List Record) → only_writes (a ++ x ∷ b) ≡ true → only_writes (a ++ b) ≡ true
writes_less [] x b writes = (write_head x b writes).1
writes_less (y ∷ a) x b writes = let parts = write_head y (a ++ x ∷ b) writes in head_write y (a ++ b) parts.0 (writes_less a x b parts.1)

-- they are layered
writes_layered : (a : List Record) → only_writes a ≡ true → is_layered a ≡ true
unfolding is_layered
writes_layered [] writes = refl
writes_layered (x ∷ a) writes = let parts = write_head x a writes in over_write x a parts.0 ∙ writes_layered a parts.1

-- a write more
pub writes_more : (a : List Record) (x : Record) → only_writes a ≡ true → is_write x ≡ true → only_writes (a ++ x ∷ []) ≡ true
unfolding only_writes
writes_more [] x writes is = head_write x [] is refl
writes_more (y ∷ a) x writes is = let parts = write_head y a writes in head_write y (a ++ x ∷ []) parts.0 (writes_more a x parts.1 is)

-- an add over writes
pub add_over_writes : (a : List Record) (x : Record) → only_writes a ≡ true → is_write x ≡ false → is_layered (a ++ x ∷ []) ≡ true
add_over_writes a x writes other = add_on_top a x (writes_layered a writes) other

only_of : List Bool → Bool
only_of [] = true
only_of (w ∷ later) = w && only_of later

only_by_flags : (records : List Record) → only_writes records ≡ only_of (map is_write records)
unfolding only_writes only_of
only_by_flags [] = refl
only_by_flags (x ∷ records) = ap (λ (b : Bool). is_write x && b) (only_by_flags records)

same_only : (a b : List Record) → map is_write a ≡ map is_write b → only_writes a ≡ only_writes b
same_only a b same = only_by_flags a ∙ ap only_of same ∙ sym (only_by_flags b)

-- ---- what stays true of records when some go, or change other than from a write to an add
-- a test that such records still pass
record StaysTrue (test : List Record → Bool) : Type 0 where
  less : (a : List Record) (x : Record) (b : List Record) → test (a ++ x ∷ b) ≡ true → test (a ++ b) ≡ true
  later : (a b : List Record) → test (a ++ b) ≡ true → test b ≡ true
  flags : (a b : List Record) → map is_write a ≡ map is_write b → test a ≡ test b

kept_layered : StaysTrue is_layered
kept_layered = record { less = layered_less; later = layered_later; flags = same_flags }

kept_writes : StaysTrue only_writes
kept_writes = record { less = writes_less; later = writes_later; flags = same_only }

-- what a mark says of the old ones is true of the new ones
pub record Keeps (old new : List Record) : Type 0 where
  pub layered : is_layered old ≡ true → is_layered new ≡ true
  pub writes : only_writes old ≡ true → only_writes new ≡ true

fits_kept : (mark : Mark) (old new : List Record) → Keeps old new → fits mark old → fits mark new
unfolding fits
fits_kept Writes old new keeps was = keeps.writes was
fits_kept Layered old new keeps was = keeps.layered was
fits_kept Mixed old new keeps was = was

-- what a mark says is that the records are layered
fits_layered : (mark : Mark) (records : List Record) → fits mark records → says_layered mark ≡ true → is_layered records ≡ true
unfolding fits says_layered
fits_layered Writes records is says = writes_layered records is
fits_layered Layered records is says = is
fits_layered Mixed records is says = absurd (true≢false (sym says))

flags_after : (a b c : List Record) → map is_write b ≡ map is_write c → map is_write (a ++ b) ≡ map is_write (a ++ c)
flags_after a b c same = map-append is_write a b ∙ ap (λ (l : List Bool). map is_write a ++ l) same ∙ sym (map-append is_write a c)

mended_flags : (mend : Mend) (later : List Record) → map is_write (mended_in mend later) ≡ map is_write later
unfolding mended_in is_write
mended_flags mend [] = refl
mended_flags mend (Write owner before ∷ later) = refl
mended_flags mend (Add owner amount ∷ later) = ap (λ (l : List Bool). false ∷ l) (mended_flags mend later)
mended_flags mend (Lasting amount ∷ later) = ap (λ (l : List Bool). false ∷ l) (mended_flags mend later)

renamed_flag : (giver taker : ℕ) (one : Record) → is_write (renamed giver taker one) ≡ is_write one
unfolding renamed is_write
renamed_flag giver taker (Write owner before) = refl
renamed_flag giver taker (Add owner amount) = refl
renamed_flag giver taker (Lasting amount) = refl

renamed_flags : (giver taker : ℕ) (records : List Record) → map is_write (map (renamed giver taker) records) ≡ map is_write records
renamed_flags giver taker [] = refl
renamed_flags giver taker (x ∷ records) = λ i. renamed_flag giver taker x i ∷ renamed_flags giver taker records i

-- ---- the records of an object
module _ (test : List Record → Bool) (kept : StaysTrue test) where
  -- after one is taken back
  taken_test : (t object : ℕ) (restored : Option Mend) (old new : List (List Record)) → TakesBack t object restored old new → (j : ℕ) → test (on old j) ≡ true → test (on new j) ≡ true
  unfolding ChangesOn
  taken_test t object restored old new taken j passed = ap test (taken.changes.1 j) ∙ go (eqb object j) refl where
    mend : Mend
    mend = mend_of taken.gone taken.later

    go : (b : Bool) → eqb object j ≡ b → test (cond b (taken.older ++ mended_in (mend_of taken.gone taken.later) taken.later) (on old j)) ≡ true
    go true here =
        kept.flags (taken.older ++ mended_in mend taken.later) (taken.older ++ taken.later) (flags_after taken.older (mended_in mend taken.later) taken.later (mended_flags mend taken.later))
        ∙ kept.less taken.older taken.gone taken.later (ap test (sym taken.stood ∙ ap (on old) (eqb-true object j here)) ∙ passed)
    go false here = passed

  -- after one stands for good
  settled_test_on : (lasts : Bool) (gone : Record) (older later : List Record) → test (older ++ gone ∷ later) ≡ true → test (settled_on lasts gone older later) ≡ true
  unfolding settled_on is_write
  settled_test_on lasts (Write owner before) older later passed = kept.later (Write owner before ∷ []) later (kept.later older (Write owner before ∷ later) passed)
  settled_test_on true (Add owner amount) older later passed =
      kept.flags (older ++ Lasting amount ∷ later) (older ++ Add owner amount ∷ later) (flags_after older (Lasting amount ∷ later) (Add owner amount ∷ later) refl) ∙ passed
  settled_test_on false (Add owner amount) older later passed = kept.less older (Add owner amount) later passed
  settled_test_on lasts (Lasting amount) older later passed = passed

  settled_test : (t object visited : ℕ) (old new : List (List Record)) → Settles t object visited old new → (j : ℕ) → test (on old j) ≡ true → test (on new j) ≡ true
  unfolding ChangesOn
  settled_test t object visited old new settled j passed = ap test (settled.changes.1 j) ∙ go (eqb object j) refl where
    go : (b : Bool) → eqb object j ≡ b → test (cond b (settled_on settled.lasts settled.gone settled.older settled.later) (on old j)) ≡ true
    go true here = settled_test_on settled.lasts settled.gone settled.older settled.later (ap test (sym settled.stood ∙ ap (on old) (eqb-true object j here)) ∙ passed)
    go false here = passed

  -- after adds of nobody are gone
  shed_test : (object : ℕ) (old new : List (List Record)) → Sheds object old new → (j : ℕ) → test (on old j) ≡ true → test (on new j) ≡ true
  unfolding ChangesOn
  shed_test object old new shed j passed = ap test (shed.changes.1 j) ∙ go (eqb object j) refl where
    go : (b : Bool) → eqb object j ≡ b → test (cond b shed.later (on old j)) ≡ true
    go true here = kept.later (map Lasting shed.amounts) shed.later (ap test (sym shed.stood ∙ ap (on old) (eqb-true object j here)) ∙ passed)
    go false here = passed

  -- after they became another's
  handed_test : (giver taker : ℕ) (picked : Bool) (old new : List Record) → new ≡ cond picked (map (renamed giver taker) old) old → test old ≡ true → test new ≡ true
  handed_test giver taker true old new is passed = ap test is ∙ kept.flags (map (renamed giver taker) old) old (renamed_flags giver taker old) ∙ passed
  handed_test giver taker false old new is passed = ap test is ∙ passed

pub taken_layered : (t object : ℕ) (restored : Option Mend) (old new : List (List Record)) → TakesBack t object restored old new → (j : ℕ) → Keeps (on old j) (on new j)
taken_layered t object restored old new taken j = record {
  layered = taken_test is_layered kept_layered t object restored old new taken j;
  writes = taken_test only_writes kept_writes t object restored old new taken j;
}

pub settled_layered : (t object visited : ℕ) (old new : List (List Record)) → Settles t object visited old new → (j : ℕ) → Keeps (on old j) (on new j)
settled_layered t object visited old new settled j = record {
  layered = settled_test is_layered kept_layered t object visited old new settled j;
  writes = settled_test only_writes kept_writes t object visited old new settled j;
}

pub shed_layered : (object : ℕ) (old new : List (List Record)) → Sheds object old new → (j : ℕ) → Keeps (on old j) (on new j)
shed_layered object old new shed j = record {
  layered = shed_test is_layered kept_layered object old new shed j;
  writes = shed_test only_writes kept_writes object old new shed j;
}

pub handed_layered : (giver taker : ℕ) (picked : Bool) (old new : List Record) → new ≡ cond picked (map (renamed giver taker) old) old → Keeps old new
handed_layered giver taker picked old new is = record {
  layered = handed_test is_layered kept_layered giver taker picked old new is;
  writes = handed_test only_writes kept_writes giver taker picked old new is;
}

-- ---- the marks of the objects
-- objects keep their marks if none of their records is changed for the worse
pub still_layered : (marks : List Mark) (old new : List (List Record)) → ((j : ℕ) → Keeps (on old j) (on new j)) → AreMarked marks old → AreMarked marks new
unfolding AreMarked
still_layered marks old new keeps marked i = fits_kept (mark_at marks i) (on old i) (on new i) (keeps i) (marked i)

-- the mark of one object is set anew
pub marked_layered : (marks later : List Mark) (object : ℕ) (mark : Mark) (old new : List (List Record)) (records : List Record) → ChangesOn object records old new
    → ((records : List Record) → fits mark records → fits (mark_at later object) records) → ((i : ℕ) → eqb i object ≡ false → mark_at later i ≡ mark_at marks i)
    → fits mark records → AreMarked marks old → AreMarked later new
unfolding AreMarked ChangesOn
marked_layered marks later object mark old new records changes own others sure marked i = subst (fits (mark_at later i)) (sym (changes.1 i)) (go (eqb object i) refl) where
  go : (b : Bool) → eqb object i ≡ b → fits (mark_at later i) (cond b records (on old i))
  go true here = subst (λ (n : ℕ). fits (mark_at later n) records) (eqb-true object i here) (own records sure)
  go false apart = subst (λ (m : Mark). fits m (on old i)) (sym (others i (apart_back (eqb i object) refl))) (marked i) where
    apart_back : (b : Bool) → eqb i object ≡ b → eqb i object ≡ false
    apart_back true same = absurd (true≢false (sym (ap (λ (n : ℕ). eqb object n) (eqb-true i object same) ∙ self object) ∙ apart)) where
      self : (n : ℕ) → eqb n n ≡ true
      self n = eq-eqb n n refl
    apart_back false same = same

-- records of writes alone begin with nobody's add in no case
pub writes_begin : (records : List Record) → only_writes records ≡ true → begins_with_nobodys records ≡ false
unfolding begins_with_nobodys is_owned owner_of is_write
writes_begin [] writes = refl
writes_begin (Write owner before ∷ later) writes = refl
writes_begin (Add owner amount ∷ later) writes = refl
writes_begin (Lasting amount ∷ later) writes = absurd (true≢false (sym (write_head (Lasting amount) later writes).0))

-- nothing is shed of them
pub sheds_nothing : (object : ℕ) (lists : List (List Record)) → Sheds object lists lists
unfolding ChangesOn
sheds_nothing object lists = record {
  amounts = [];
  later = on lists object;
  stood = refl;
  changes = (refl, λ j. go j (eqb object j) refl);
} where
  go : (j : ℕ) (b : Bool) → eqb object j ≡ b → on lists j ≡ cond b (on lists object) (on lists j)
  go j true here = ap (on lists) (sym (eqb-true object j here))
  go j false here = refl

-- ---- a record in its row
add_here : (records : Slab Record) (k : ℕ) (d : ℤ) → added_at records k ≡ Some d → (is_write (record_at records k) ≡ false) × ((value : ℤ) → mend_by (record_at records k) value ≡ Less d)
unfolding added_by is_write mend_by
add_here records k d added = go (get records k) refl where
  go : (o : Option Record) → get records k ≡ o → (is_write (record_at records k) ≡ false) × ((value : ℤ) → mend_by (record_at records k) value ≡ Less d)
  go None e = cc (sym added ∙ ap added_by e)
  go (Some (Write owner before)) e = cc (sym added ∙ ap added_by e)
  go (Some (Add owner amount)) e =
      let read = read_some records k (Add owner amount) e in
      let same : Some amount ≡ Some d = sym (ap added_by e) ∙ added in
      let is : amount ≡ d = cc same in
      (ap is_write read, λ value. ap (λ (one : Record). mend_by one value) read ∙ ap Less is)
  go (Some (Lasting amount)) e =
      let read = read_some records k (Lasting amount) e in
      let same : Some amount ≡ Some d = sym (ap added_by e) ∙ added in
      let is : amount ≡ d = cc same in
      (ap is_write read, λ value. ap (λ (one : Record). mend_by one value) read ∙ ap Less is)

no_some : (o : Option ℕ) → is_some o ≡ false → None ≡ o
no_some None e = refl
no_some (Some k) e = absurd (true≢false e)

no_amount : (o : Option ℤ) → is_some o ≡ false → o ≡ None
no_amount None e = refl
no_amount (Some k) e = absurd (true≢false e)

module _ (records : Crossed Record) (marks : List Mark) (object : ℕ) (sound : IsConsistent records.rows) (marked : AreMarked marks (lists_in records)) where
  row_layered : says_layered (mark_at marks object) ≡ true → is_layered (at_keys records.items (chain_of records.rows object)) ≡ true
  unfolding AreMarked
  row_layered is = ap is_layered (sym (on_chain records.items records.rows object)) ∙ fits_layered (mark_at marks object) (on (lists_in records) object) (marked object) is

  -- the row is cut at a key
  cut_layered : (k : ℕ) → home_of records.rows k ≡ Some object → says_layered (mark_at marks object) ≡ true
      → is_layered (at_keys records.items (ahead k (chain_of records.rows object)) ++ record_at records.items k ∷ at_keys records.items (behind k (chain_of records.rows object))) ≡ true
  unfolding at_keys
  cut_layered k home is =
      ap is_layered (sym (ap (at_keys records.items) (chain_at_key k object records.rows sound home) ∙ keys_append records.items (ahead k (chain_of records.rows object)) (k ∷ behind k (chain_of records.rows object))))
      ∙ row_layered is

  -- over an add stands no write, and its going is mended by its amount
  pub none_over : (k : ℕ) (d : ℤ) → home_of records.rows k ≡ Some object → says_layered (mark_at marks object) ≡ true → added_at records.items k ≡ Some d
      → (None ≡ first_write records.items (behind k (chain_of records.rows object))) × (Less d ≡ mend_of (record_at records.items k) (at_keys records.items (behind k (chain_of records.rows object))))
  none_over k d home is added =
      let add = add_here records.items k d added in
      let none = over_add (at_keys records.items (ahead k (chain_of records.rows object))) (record_at records.items k) (at_keys records.items (behind k (chain_of records.rows object))) (cut_layered k home is) add.0 in (
        no_some (first_write records.items (behind k (chain_of records.rows object))) (sym (write_there records.items (behind k (chain_of records.rows object))) ∙ none),
        sym (add.1 (summed (content_of (record_at records.items k)) (at_keys records.items (behind k (chain_of records.rows object))))),
      )

  -- if the oldest of the row is an add, no write stands below a key
  pub none_below : (k oldest : ℕ) (d : ℤ) → home_of records.rows k ≡ Some object → says_layered (mark_at marks object) ≡ true → first_of (chain_of records.rows object) ≡ Some oldest → added_at records.items oldest ≡ Some d
      → has_write (at_keys records.items (ahead k (chain_of records.rows object))) ≡ false
  unfolding at_keys has_write
  none_below k oldest d home is first added = go (ahead k (chain_of records.rows object)) refl where
    go : (front : List ℕ) → ahead k (chain_of records.rows object) ≡ front → has_write (at_keys records.items (ahead k (chain_of records.rows object))) ≡ false
    go [] e = ap (λ (keys : List ℕ). has_write (at_keys records.items keys)) e
    go (x ∷ front) e =
        let heads : Some x ≡ Some oldest = sym (ap first_of (chain_at_key k object records.rows sound home ∙ ap (λ (keys : List ℕ). keys ++ k ∷ behind k (chain_of records.rows object)) e)) ∙ first in
        let same : x ≡ oldest = cc heads in
        let other : is_write (record_at records.items x) ≡ false = ap (λ (n : ℕ). is_write (record_at records.items n)) same ∙ (add_here records.items oldest d added).0 in
        ap (λ (keys : List ℕ). has_write (at_keys records.items keys)) e
        ∙ none_after_add (record_at records.items x) (at_keys records.items front) (record_at records.items k ∷ at_keys records.items (behind k (chain_of records.rows object)))
        (ap (λ (keys : List ℕ). is_layered (at_keys records.items keys ++ record_at records.items k ∷ at_keys records.items (behind k (chain_of records.rows object)))) (sym e) ∙ cut_layered k home is) other

  -- a row with nothing in it has records of writes alone
  pub none_on : last_of (chain_of records.rows object) ≡ None → only_writes (on (lists_in records) object) ≡ true
  unfolding at_keys only_writes
  none_on none = ap only_writes (on_chain records.items records.rows object ∙ ap (at_keys records.items) (no_last (chain_of records.rows object) none))

  -- an add goes on top of all, and a write on top of a write
  pub next_on : (one : Record) (newest : ℕ) → says_layered (mark_at marks object) ≡ true → last_of (chain_of records.rows object) ≡ Some newest → is_some (get records.items newest) ≡ true
      → (is_some (added_at records.items newest) ≡ true → is_write one ≡ false) → is_layered (on (lists_in records) object ++ one ∷ []) ≡ true
  unfolding at_keys
  next_on one newest is last there follows = elim (cases_Bool (is_some (added_at records.items newest))) [
    | inl add ↦ ap (λ (l : List Record). is_layered (l ++ one ∷ [])) (on_chain records.items records.rows object) ∙ add_on_top (at_keys records.items (chain_of records.rows object)) one (row_layered is) (follows add)
    | inr wrote ↦
        ap (λ (l : List Record). is_layered (l ++ one ∷ [])) (on_chain records.items records.rows object ∙ ends)
        ∙ top_on_write (at_keys records.items (ahead newest (chain_of records.rows object))) (record_at records.items newest) one (ap is_layered (sym ends) ∙ row_layered is)
        (wrote_if records.items newest (no_amount (added_at records.items newest) wrote) there)
  ] where
    ends : at_keys records.items (chain_of records.rows object) ≡ at_keys records.items (ahead newest (chain_of records.rows object)) ++ record_at records.items newest ∷ []
    ends = ap (at_keys records.items) (chain_at_last newest object records.rows sound last).2 ∙ keys_append records.items (ahead newest (chain_of records.rows object)) (newest ∷ [])
