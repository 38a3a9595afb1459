-- A record leaves its row and its column; and what room is.
use Rattle.std.proofs.Common.{◌≡◌, ℕ, inl, inr, ◌<◌, ◌&&◌, Bool, true, false, cond, eqb, List, Option, Some, None, is_some, length, get_or, set, refl, sym, ap, ◌∙◌, arith}
use Rattle.std.specs.Prelude.{nat_lt, unwrap_or, count_by}
use Rattle.std.specs.Option.{option_map}
use Rattle.std.proofs.lemmas.Bool.{eqb-true, eqb-false, cases_lt}
use Rattle.std.proofs.lemmas.List.{get_or-set_same, get_or-set_other, get_or_past}
use Rattle.std.proofs.lemmas.List.Sums.{sum_by-set}
use Rattle.slab.specs.Slab.{Slab, get, slab_len, with_value, Updates}
use Rattle.asset_chains.specs.Chained.{home_of}
use Rattle.asset_chains.specs.declared.side.Side.{Side}
use Rattle.asset_chains.specs.declared.side.Side.TheVariants.{Column}
use Rattle.asset_chains.specs.Crossed.{Crossed, lines, has_room, Leaves}
use Rattle.asset_seats.specs.Seated.{Seated}
use Rattle.asset_records.specs.declared.records.Record.{Record}
use Rattle.asset_records.specs.Listed.{no_record, record_at, owner_of, owner_at, IsTied}
use Rattle.asset_records.specs.declared.mending.Mend.{Mend}
use Rattle.asset_records.specs.Mended.{mended_record}
use Rattle.asset_records.specs.Dropped.{mended_at}

-- ---- records in a slab
pub slot_within : (slots : List (Option Record)) (k : ℕ) (one : Record) → get_or slots k None ≡ Some one → k < length slots
slot_within slots k one there = elim (cases_lt k (length slots)) [
  | inl within ↦ within
  | inr past ↦ cc (sym there ∙ get_or_past slots k None past)
]

-- 1 for a record, and 0 for none
abbrev pub one_if : Option Record → ℕ
one_if o = cond (is_some o) 1 0

-- a record is written over another
pub count_kept : (slots : List (Option Record)) (k : ℕ) (old new : Record) → get_or slots k None ≡ Some old → count_by is_some (set slots k (Some new)) ≡ count_by is_some slots
count_kept slots k old new there =
    let same = sum_by-set one_if slots k (Some new) None (slot_within slots k old there) in
    let here : one_if (get_or slots k None) ≡ one_if (Some old) = ap one_if there in
    omega (arith, same, here)

-- ---- the record at k is gone
module _ (records fewer : Crossed Record) (k : ℕ) (gone : Updates records.items fewer.items k None) (leaves : (side : Side) → Leaves k (lines side records) (lines side fewer)) where
  pub record_is : (j : ℕ) → get fewer.items j ≡ cond (eqb j k) None (get records.items j)
  record_is j = go (eqb j k) refl where
    go : (b : Bool) → eqb j k ≡ b → get fewer.items j ≡ cond b None (get records.items j)
    go true e = ap (get fewer.items) (eqb-true j k e) ∙ gone.changed
    go false e = gone.others j (eqb-false j k e)

  pub home_is : (side : Side) (j : ℕ) → home_of (lines side fewer) j ≡ cond (eqb j k) None (home_of (lines side records) j)
  home_is side j = go (eqb j k) refl where
    go : (b : Bool) → eqb j k ≡ b → home_of (lines side fewer) j ≡ cond b None (home_of (lines side records) j)
    go true e = ap (home_of (lines side fewer)) (eqb-true j k e) ∙ (leaves side).home
    go false e = (leaves side).homes j (eqb-false j k e)

  pub dropped_tied : (seats : Seated) → IsTied records seats → IsTied fewer seats
  unfolding owner_at
  dropped_tied seats tied = record {
    owned = owned;
    within = λ c sat. omega (arith, tied.within c sat, (leaves Column).many);
  } where
    owned : (j : ℕ) → option_map owner_of (get fewer.items j) ≡ owner_at seats (home_of fewer.columns j)
    owned j = ap (option_map owner_of) (record_is j) ∙ go (eqb j k) refl ∙ sym (ap (owner_at seats) (home_is Column j)) where
      go : (b : Bool) → eqb j k ≡ b → option_map owner_of (cond (eqb j k) None (get records.items j)) ≡ owner_at seats (cond (eqb j k) None (home_of records.columns j))
      go true e =
          ap (λ (b : Bool). option_map owner_of (cond b None (get records.items j))) e ∙ sym (ap (λ (b : Bool). owner_at seats (cond b None (home_of records.columns j))) e)
      go false e =
          ap (λ (b : Bool). option_map owner_of (cond b None (get records.items j))) e
          ∙ tied.owned j
          ∙ sym (ap (λ (b : Bool). owner_at seats (cond b None (home_of records.columns j))) e)

-- ---- a value is mended
-- a record is written over another
pub written_over : (records : Slab Record) (n : ℕ) (old new : Record) → get records n ≡ Some old → (k : ℕ) → get (with_value records n new) k ≡ cond (eqb k n) (Some new) (get records k)
written_over records n old new there k = go (eqb k n) refl where
  go : (b : Bool) → eqb k n ≡ b → get (with_value records n new) k ≡ cond b (Some new) (get records k)
  go true e = ap (get (with_value records n new)) (eqb-true k n e) ∙ get_or-set_same records.slots n (Some new) None (slot_within records.slots n old there)
  go false e = get_or-set_other records.slots n k (Some new) None (eqb-false k n e)

-- a write is written over with another before-image
pub mended_is : (records : Slab Record) (n : ℕ) (mend : Mend) (old new : Record) → get records n ≡ Some old → mended_record mend old ≡ new → (k : ℕ) → get (with_value records n new) k ≡ mended_at records (Some n) mend k
unfolding mended_at
mended_is records n mend old new there is k = written_over records n old new there k ∙ go (eqb k n) refl where
  go : (b : Bool) → eqb k n ≡ b → cond b (Some new) (get records k) ≡ cond b (option_map (mended_record mend) (get records k)) (get records k)
  go true e = sym (ap (option_map (mended_record mend)) (ap (get records) (eqb-true k n e) ∙ there) ∙ ap Some is)
  go false e = refl

-- what is no write stays
pub mended_none : (records : Slab Record) (n : ℕ) (mend : Mend) → option_map (mended_record mend) (get records n) ≡ get records n → (k : ℕ) → get records k ≡ mended_at records (Some n) mend k
unfolding mended_at
mended_none records n mend same k = go (eqb k n) refl where
  go : (b : Bool) → eqb k n ≡ b → get records k ≡ cond b (option_map (mended_record mend) (get records k)) (get records k)
  go true e = rw (eqb-true k n e) (sym same)
  go false e = refl

-- the record at a key
pub read_some : (records : Slab Record) (k : ℕ) (one : Record) → get records k ≡ Some one → record_at records k ≡ one
unfolding record_at
read_some records k one there = ap (λ (o : Option Record). unwrap_or o no_record) there

-- ---- room
-- a record written over another takes no room
pub room_over : (records more : Crossed Record) (key : ℕ) (old new : Record) → get records.items key ≡ Some old → more.items ≡ with_value records.items key new → has_room more ≡ has_room records
unfolding has_room
room_over records more key old new there over =
    ap (λ (s : Slab Record). nat_lt (slab_len s) s.capacity && nat_lt s.vacant_key 0xFFFF_FFFF) over
    ∙ ap (λ (n : ℕ). nat_lt n records.items.capacity && nat_lt records.items.vacant_key 0xFFFF_FFFF) (count_kept records.items.slots key old new there)
