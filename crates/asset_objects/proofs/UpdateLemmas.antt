-- Cells, their updates, and what becomes of them as transactions end or hand over.
use Rattle.std.proofs.Common.{◌≡◌, ℕ, ℤ, ◌+ℤ◌, ◌+◌, w64, Bool, true, false, cond, ◌||◌, List, [], ◌∷◌, map, refl, sym, ◌∙◌, ap, Some, None, arith}
use Rattle.std.specs.Prelude.{Option}
use Rattle.std.specs.List.{list_any, count_by}
use Rattle.std.specs.Int.{int_wrap}
use Rattle.std.proofs.lemmas.Bool.{or_parts, false≢true}
use Rattle.std.proofs.lemmas.Int.{int_wrap-add_left}
use Rattle.std.proofs.lemmas.List.Sums.{sum_by-cons}
use Rattle.std.proofs.Math.IntN.{+ℤ_assoc, +ℤ_comm}
use Rattle.asset_names.specs.declared.statuses.End.{End}
use Rattle.asset_names.specs.declared.statuses.End.TheVariants.{Committed, Aborted}
use Rattle.asset_objects.specs.Cells.{Effect, Update, Cell, wrote, added, fresh, after, shown_over, shown, is_wrote, has_wrote, passes, is_owned, updated, lasting, placed, placed_anew, ended_over, ended, handed_update, handed_cell}

-- adds come in any order
pub plus_swap : (v d e : ℤ) → int_wrap w64 (int_wrap w64 (v +ℤ d) +ℤ e) ≡ int_wrap w64 (int_wrap w64 (v +ℤ e) +ℤ d)
plus_swap v d e = int_wrap-add_left w64 (v +ℤ d) e ∙ ap (int_wrap w64) (+ℤ_assoc v d e ∙ ap (λ z. v +ℤ z) (+ℤ_comm d e) ∙ sym (+ℤ_assoc v e d)) ∙ sym (int_wrap-add_left w64 (v +ℤ e) d)

-- ---- where no write stands
unfoldable pub raised : ℤ → Cell → Cell
raised d cell = record cell { base = int_wrap w64 (cell.base +ℤ d) }

pub lasting_none : (d : ℤ) (cell : Cell) → has_wrote cell ≡ false → lasting d cell ≡ raised d cell
unfolding lasting raised
lasting_none d cell none = rw (none) refl

-- what stands over a raised base shows more
shown_raised : (d base : ℤ) (records : List Update) → list_any (λ (update : Update). is_wrote update.effect) records ≡ false → shown_over (int_wrap w64 (base +ℤ d)) records ≡ int_wrap w64 (shown_over base records +ℤ d)
unfolding shown_over after
shown_raised d base [] none = refl
shown_raised d base (one ∷ older) none = go one.effect (or_parts (is_wrote one.effect) _ none).0 (shown_raised d base older (or_parts (is_wrote one.effect) _ none).1) where
  go : (effect : Effect) → is_wrote effect ≡ false → shown_over (int_wrap w64 (base +ℤ d)) older ≡ int_wrap w64 (shown_over base older +ℤ d)
      → after effect (shown_over (int_wrap w64 (base +ℤ d)) older) ≡ int_wrap w64 (after effect (shown_over base older) +ℤ d)
  go (added e) h ih = ap (λ v. int_wrap w64 (v +ℤ e)) ih ∙ plus_swap (shown_over base older) d e
  go (wrote v) h ih = absurd (false≢true (sym h))

-- an add that stands for good shows
pub shown_lasting : (d : ℤ) (cell : Cell) → shown (lasting d cell) ≡ int_wrap w64 (shown cell +ℤ d)
unfolding shown lasting has_wrote updated shown_over after
shown_lasting d cell = go (list_any (λ (update : Update). is_wrote update.effect) cell.records) refl where
  go : (wrote : Bool) → list_any (λ (update : Update). is_wrote update.effect) cell.records ≡ wrote
      → shown_over (cond wrote (updated None (added d) cell) (record cell { base = int_wrap w64 (cell.base +ℤ d) })).base (cond wrote (updated None (added d) cell) (record cell { base = int_wrap w64 (cell.base +ℤ d) })).records
      ≡ int_wrap w64 (shown_over cell.base cell.records +ℤ d)
  go true e = refl
  go false e = shown_raised d cell.base cell.records e

-- ---- ends
-- a cell in which no write stands, and one whose base is raised by d
unfoldable pub IsRaised : ℤ → Cell → Cell → Type 0
IsRaised d plain more = (has_wrote plain ≡ false) × (more ≡ raised d plain)

pub lasting_raised : (d e : ℤ) (plain more : Cell) → IsRaised d plain more → IsRaised d (lasting e plain) (lasting e more)
unfolding IsRaised lasting has_wrote raised
lasting_raised d e plain more same = rw (same.1, same.0) (same.0, ap (λ v. record plain { base = v }) (plus_swap plain.base d e))

updated_raised : (d : ℤ) (owner : Option ℕ) (e : ℤ) (plain more : Cell) → IsRaised d plain more → IsRaised d (updated owner (added e) plain) (updated owner (added e) more)
unfolding IsRaised has_wrote updated raised
updated_raised d owner e plain more same = rw (same.1) (same.0, refl)

-- an add, however its owner ends, leaves the cells so
pub placed_raised : (d : ℤ) (end : Option End) (n : ℕ) (e : ℤ) (plain more : Cell) → IsRaised d plain more → IsRaised d (placed end n (added e) plain) (placed end n (added e) more)
unfolding placed
placed_raised d (Some Aborted) n e plain more same = same
placed_raised d (Some Committed) n e plain more same = lasting_raised d e plain more same
placed_raised d None n e plain more same = updated_raised d (Some n) e plain more same

pub anew_raised : (how : End) (test : ℕ → Bool) (d : ℤ) (owner : Option ℕ) (e : ℤ) (plain more : Cell) → IsRaised d plain more → IsRaised d (placed_anew how test owner (added e) plain) (placed_anew how test owner (added e) more)
unfolding placed_anew
anew_raised how test d None e plain more same = placed_raised d (Some Committed) 0 e plain more same
anew_raised how test d (Some n) e plain more same = placed_raised d (cond (test n) (Some how) None) n e plain more same

ended_raised : (how : End) (test : ℕ → Bool) (d base : ℤ) (records : List Update) → list_any (λ (update : Update). is_wrote update.effect) records ≡ false
    → IsRaised d (ended_over how test base records) (ended_over how test (int_wrap w64 (base +ℤ d)) records)
unfolding IsRaised ended_over has_wrote fresh raised
ended_raised how test d base [] none = (refl, refl)
ended_raised how test d base (first ∷ older) none = by first.effect (or_parts (is_wrote first.effect) _ none).0 (ended_raised how test d base older (or_parts (is_wrote first.effect) _ none).1) where
  by : (effect : Effect) → is_wrote effect ≡ false → IsRaised d (ended_over how test base older) (ended_over how test (int_wrap w64 (base +ℤ d)) older)
      → IsRaised d (placed_anew how test first.owner effect (ended_over how test base older)) (placed_anew how test first.owner effect (ended_over how test (int_wrap w64 (base +ℤ d)) older))
  by (wrote v) h same = absurd (false≢true (sym h))
  by (added e) h same = anew_raised how test d first.owner e _ _ same

-- an add that stands for good, before some end and after
pub ended_lasting : (how : End) (test : ℕ → Bool) (d : ℤ) (cell : Cell) → ended how test (lasting d cell) ≡ lasting d (ended how test cell)
unfolding ended lasting has_wrote updated ended_over placed_anew placed raised IsRaised
ended_lasting how test d cell = go (list_any (λ (update : Update). is_wrote update.effect) cell.records) refl where
  go : (wrote : Bool) → list_any (λ (update : Update). is_wrote update.effect) cell.records ≡ wrote
      → ended how test (cond wrote (updated None (added d) cell) (record cell { base = int_wrap w64 (cell.base +ℤ d) })) ≡ lasting d (ended_over how test cell.base cell.records)
  go true e = refl
  go false e = let same = ended_raised how test d cell.base cell.records e in same.1 ∙ sym (lasting_none d (ended_over how test cell.base cell.records) same.0)

-- one more update, before some end and after
pub ended_updated : (how : End) (test : ℕ → Bool) (owner : Option ℕ) (effect : Effect) (cell : Cell) → ended how test (updated owner effect cell) ≡ placed_anew how test owner effect (ended how test cell)
unfolding ended updated ended_over
ended_updated how test owner effect cell = refl

pub ended_fresh : (how : End) (test : ℕ → Bool) (base : ℤ) → ended how test (fresh base) ≡ fresh base
unfolding ended fresh ended_over
ended_fresh how test base = refl

-- ---- a delegation
wrote_handed : (giver taker : ℕ) (records : List Update) → list_any (λ (update : Update). is_wrote update.effect) (map (handed_update giver taker) records) ≡ list_any (λ (update : Update). is_wrote update.effect) records
unfolding handed_update
wrote_handed giver taker [] = refl
wrote_handed giver taker (one ∷ older) = ap (λ b. is_wrote one.effect || b) (wrote_handed giver taker older)

pub handed_lasting : (giver taker : ℕ) (d : ℤ) (cell : Cell) → lasting d (handed_cell giver taker cell) ≡ handed_cell giver taker (lasting d cell)
unfolding lasting has_wrote handed_cell handed_update updated
handed_lasting giver taker d cell = rw (wrote_handed giver taker cell.records) (go (list_any (λ (update : Update). is_wrote update.effect) cell.records)) where
  go : (wrote : Bool) → cond wrote (updated None (added d) (handed_cell giver taker cell)) (record (handed_cell giver taker cell) { base = int_wrap w64 (cell.base +ℤ d) })
      ≡ handed_cell giver taker (cond wrote (updated None (added d) cell) (record cell { base = int_wrap w64 (cell.base +ℤ d) }))
  go true = refl
  go false = refl

-- ---- how many there are
unfoldable pub updates_in : (ℕ → Bool) → Cell → ℕ
updates_in test cell = count_by (is_owned test) cell.records

pub count_updated : (test : ℕ → Bool) (owner : Option ℕ) (effect : Effect) (cell : Cell) → updates_in test (updated owner effect cell) ≡ cond (passes test owner) 1 0 + updates_in test cell
unfolding updates_in updated
count_updated test owner effect cell = sum_by-cons (λ (update : Update). cond {A = ℕ} (is_owned test update) 1 0) (record { owner = owner; effect = effect }) cell.records

pub count_lasting : (test : ℕ → Bool) (d : ℤ) (cell : Cell) → updates_in test (lasting d cell) ≡ updates_in test cell
unfolding lasting updates_in
count_lasting test d cell = go (has_wrote cell) where
  go : (wrote : Bool) → count_by (is_owned test) (cond wrote (updated None (added d) cell) (record cell { base = int_wrap w64 (cell.base +ℤ d) })).records ≡ count_by (is_owned test) cell.records
  go true = omega (arith, count_updated test None (added d) cell)
  go false = refl
