-- The cell of an object, as names end and as it is shown.
use Rattle.std.proofs.Common.{◌≡◌, ◌∙◌, ℕ, Bool, true, false, cond, not, eqb, List, [], ◌∷◌, refl, sym, ap, Some, None}
use Rattle.std.specs.Int.{w64, int_wrap}
use Rattle.std.specs.Prelude.{ℤ, ◌+ℤ◌, pos, Option, option_map, is_some, unwrap_or, ◌&&◌}
use Rattle.asset_names.specs.declared.statuses.End.{End}
use Rattle.asset_names.specs.declared.statuses.End.TheVariants as End'
use Rattle.asset_names.specs.declared.steps.Step.{Step}
use Rattle.asset_names.specs.Steps.{Opening}
use Rattle.asset_names.specs.Endings.{end_of}
use Rattle.asset_names.proofs.EndLemmas.{Ending}
use Rattle.asset_names.specs.Operations.{Use, Operation, operations, opening_at, opening_value, exists, value_after, after_use, stands, was_aborted, value, value_if_any}
use Rattle.asset_names.specs.Operations.Use.{reads, writes, adds}
use Rattle.asset_objects.specs.Cells.{Effect, Cell, wrote, added, fresh, after, shown, shown_over, updated, placed, placed_anew, ended}
use Rattle.asset_objects.proofs.UpdateLemmas.{shown_lasting, ended_updated, ended_fresh, ended_lasting}
use Rattle.asset_ends.specs.Shows.{used, cell_after, cell_of}

-- who passes the test of one name
abbrev pub is_name : ℕ → ℕ → Bool
is_name t n = eqb n t

-- names that ended alike leave the same cell
pub cell_same : (ends later : ℕ → Option End) → ((n : ℕ) → later n ≡ ends n) → (x : ℕ) (first : ℤ) (os : List Operation) → cell_after later x first os ≡ cell_after ends x first os
unfolding cell_after
cell_same ends later same x first [] = refl
cell_same ends later same x first (o ∷ older) = rw (same o.owner, cell_same ends later same x first older)

-- one more update, if its owner may be one of those who end
placed_ended : (how : End) (test : ℕ → Bool) (u : ℕ) (effect : Effect) (older later : Cell) (gone : Bool) → test u ≡ gone → (end after : Option End) → after ≡ cond gone (Some how) end → (gone ≡ true → end ≡ None)
    → later ≡ ended how test older → placed after u effect later ≡ ended how test (placed end u effect older)
unfolding placed placed_anew
placed_ended how test u effect older later true e end after is alive ih = rw (is, alive refl, ended_updated how test (Some u) effect older, e, ih) refl
placed_ended how test u effect older later false e None after is alive ih = rw (is, ended_updated how test (Some u) effect older, e, ih) refl
placed_ended how test u effect older later false e (Some End'.Aborted) after is alive ih = rw is ih
placed_ended how test u (wrote v) older later false e (Some End'.Committed) after is alive ih = rw is (sym (ended_fresh how test v))
placed_ended how test u (added d) older later false e (Some End'.Committed) after is alive ih = rw (is, ih) (sym (ended_lasting how test d older))

-- the cell after some live transactions have ended
pub cell_ended : (how : End) (test : ℕ → Bool) (ends later : ℕ → Option End) → ((n : ℕ) → test n ≡ true → ends n ≡ None) → Ending test how ends later
    → (x : ℕ) (first : ℤ) (os : List Operation) → cell_after later x first os ≡ ended how test (cell_after ends x first os)
unfolding cell_after used
cell_ended how test ends later alive is x first [] = sym (ended_fresh how test first)
cell_ended how test ends later alive is x first (o ∷ older) = go (eqb o.object x) o.use_of (cell_ended how test ends later alive is x first older) where
  one : (effect : Effect) → cell_after later x first older ≡ ended how test (cell_after ends x first older)
      → placed (later o.owner) o.owner effect (cell_after later x first older) ≡ ended how test (placed (ends o.owner) o.owner effect (cell_after ends x first older))
  one effect ih = placed_ended how test o.owner effect _ _ (test o.owner) refl (ends o.owner) (later o.owner) (is o.owner) (alive o.owner) ih

  go : (here : Bool) (act : Use) → cell_after later x first older ≡ ended how test (cell_after ends x first older)
      → cond here (used (later o.owner) o.owner act (cell_after later x first older)) (cell_after later x first older)
      ≡ ended how test (cond here (used (ends o.owner) o.owner act (cell_after ends x first older)) (cell_after ends x first older))
  go false act ih = ih
  go true reads ih = ih
  go true (writes v) ih = one (wrote v) ih
  go true (adds d) ih = one (added d) ih

-- a cell shows the value of the history
cell_shown : (steps : List Step) (x : ℕ) (first : ℤ) (os : List Operation) → shown (cell_after (end_of steps) x first os) ≡ value_after (stands steps) x first os
unfolding cell_after used placed updated fresh shown shown_over after value_after after_use stands was_aborted
cell_shown steps x first [] = refl
cell_shown steps x first (o ∷ older) = go (eqb o.object x) o.use_of (end_of steps o.owner) (cell_shown steps x first older) where
  go : (here : Bool) (act : Use) (end : Option End) → shown (cell_after (end_of steps) x first older) ≡ value_after (stands steps) x first older
      → shown (cond here (used end o.owner act (cell_after (end_of steps) x first older)) (cell_after (end_of steps) x first older))
      ≡ cond (here && not (was_aborted end)) (after_use act (value_after (stands steps) x first older)) (value_after (stands steps) x first older)
  go false act end ih = ih
  go true reads (Some End'.Committed) ih = ih
  go true reads (Some End'.Aborted) ih = ih
  go true reads None ih = ih
  go true (writes v) (Some End'.Committed) ih = refl
  go true (writes v) (Some End'.Aborted) ih = ih
  go true (writes v) None ih = refl
  go true (adds d) (Some End'.Committed) ih = shown_lasting d (cell_after (end_of steps) x first older) ∙ ap (λ (v : ℤ). int_wrap w64 (v +ℤ d)) ih
  go true (adds d) (Some End'.Aborted) ih = ih
  go true (adds d) None ih = ap (λ (v : ℤ). int_wrap w64 (v +ℤ d)) ih

-- the value that the cells show is that of the history
pub value_shown : (opening : Opening) (steps : List Step) (x : ℕ) → option_map shown (cell_of opening steps x) ≡ value_if_any opening steps x
unfolding cell_of value_if_any exists value opening_value
value_shown opening steps x = go (opening_at opening x) where
  go : (first : Option ℤ) → option_map shown (option_map (λ v. cell_after (end_of steps) x v (operations steps)) first)
      ≡ cond (is_some first) (Some (value_after (stands steps) x (unwrap_or first (pos 0)) (operations steps))) None
  go None = refl
  go (Some v) = ap Some (cell_shown steps x v (operations steps))
