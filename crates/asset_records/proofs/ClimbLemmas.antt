-- The walk from a record up to the next write.
use Rattle.std.proofs.Common.{◌≡◌, ℕ, Bool, true, cond, List, ◌∷◌, map, Option, Some, None, is_some, refl, sym, ap, ◌∙◌, ◌+ℤ◌, w64}
use Rattle.std.specs.Prelude.{ℤ}
use Rattle.std.specs.Int.{int_wrap}
use Rattle.std.proofs.lemmas.Bool.{true≢false}
use Rattle.slab.specs.Slab.{Slab, get}
use Rattle.asset_chains.specs.Chained.{chain_of, lists}
use Rattle.asset_chains.specs.declared.side.Side.TheVariants.{Row}
use Rattle.asset_chains.specs.Crossed.{Crossed, IsCrossed}
use Rattle.asset_records.specs.declared.records.Record.{Record}
use Rattle.asset_records.specs.declared.records.Record.TheVariants.{Write, Add, Lasting}
use Rattle.asset_records.specs.Listed.{record_at, at_keys}
use Rattle.asset_records.specs.Mended.{is_write, summed}
use Rattle.asset_records.specs.Dropped.{added_by, added_at, first_write}
use Rattle.asset_records.proofs.DropLemmas.{read_some}

-- a key in a row has a record
pub has_item : (records : Crossed Record) (object key : ℕ) → IsCrossed records → lists (chain_of records.rows object) key ≡ true → is_some (get records.items key) ≡ true
has_item records object key crossed among = sym (crossed.placed Row key) ∙ ap is_some ((crossed.sound Row).at_home object key among)

-- a record that added nothing is a write
pub wrote_if : (records : Slab Record) (k : ℕ) → added_at records k ≡ None → is_some (get records k) ≡ true → is_write (record_at records k) ≡ true
unfolding is_write added_by
wrote_if records k none there = go (get records k) refl where
  go : (o : Option Record) → get records k ≡ o → is_write (record_at records k) ≡ true
  go None e = absurd (true≢false (sym there ∙ ap is_some e))
  go (Some (Write owner before)) e = ap is_write (read_some records k (Write owner before) e)
  go (Some (Add owner amount)) e = cc (sym none ∙ ap added_by e)
  go (Some (Lasting amount)) e = cc (sym none ∙ ap added_by e)

-- at a write the walk ends
pub climbs_write : (records : Slab Record) (k : ℕ) (keys : List ℕ) → added_at records k ≡ None → is_some (get records k) ≡ true
    → (first_write records (k ∷ keys) ≡ Some k) × ((v : ℤ) → summed v (at_keys records (k ∷ keys)) ≡ v)
unfolding at_keys summed is_write
climbs_write records k keys none there = (ap (λ (b : Bool). cond b (Some k) (first_write records keys)) wrote, λ v. ends v (record_at records k) wrote) where
  wrote : is_write (record_at records k) ≡ true
  wrote = wrote_if records k none there

  ends : (v : ℤ) (one : Record) → is_write one ≡ true → summed v (one ∷ map (record_at records) keys) ≡ v
  ends v (Write owner before) is = refl
  ends v (Add owner amount) is = absurd (true≢false (sym is))
  ends v (Lasting amount) is = absurd (true≢false (sym is))

-- an add is part of the value
pub climbs_add : (records : Slab Record) (k : ℕ) (keys : List ℕ) (d : ℤ) → added_at records k ≡ Some d
    → (first_write records (k ∷ keys) ≡ first_write records keys) × ((v : ℤ) → summed v (at_keys records (k ∷ keys)) ≡ summed (int_wrap w64 (v +ℤ d)) (at_keys records keys))
unfolding at_keys summed is_write added_by
climbs_add records k keys d added = go (get records k) refl where
  go : (o : Option Record) → get records k ≡ o → (first_write records (k ∷ keys) ≡ first_write records keys) × ((v : ℤ) → summed v (map (record_at records) (k ∷ keys)) ≡ summed (int_wrap w64 (v +ℤ d)) (map (record_at records) keys))
  go None e = cc (sym added ∙ ap added_by e)
  go (Some (Write owner before)) e = cc (sym added ∙ ap added_by e)
  go (Some (Add owner amount)) e =
      let read = read_some records k (Add owner amount) e in
      let same : Some amount ≡ Some d = sym (ap added_by e) ∙ added in
      let is : amount ≡ d = cc same in
      (ap (λ (one : Record). cond (is_write one) (Some k) (first_write records keys)) read, λ v. ap (λ (one : Record). summed v (one ∷ map (record_at records) keys)) read ∙ ap (λ (n : ℤ). summed (int_wrap w64 (v +ℤ n)) (map (record_at records) keys)) is)
  go (Some (Lasting amount)) e =
      let read = read_some records k (Lasting amount) e in
      let same : Some amount ≡ Some d = sym (ap added_by e) ∙ added in
      let is : amount ≡ d = cc same in
      (ap (λ (one : Record). cond (is_write one) (Some k) (first_write records keys)) read, λ v. ap (λ (one : Record). summed v (one ∷ map (record_at records) keys)) read ∙ ap (λ (n : ℤ). summed (int_wrap w64 (v +ℤ n)) (map (record_at records) keys)) is)
