-- What one more object or entry adds to a report.
use Rattle.std.proofs.Common.{◌≡◌, ℕ, ◌+◌, Bool, true, false, not, cond, List, [], ◌∷◌, ◌++◌, Some, None, take, reverse, refl, sym, ap, ◌∙◌, append_assoc, append-nil}
use Rattle.std.specs.Prelude.{ℤ, slice_get}
use Rattle.asset_entries.proofs.EntryLemmas.{next_entry}
use Rattle.asset_names.specs.declared.names.Ob.{Ob}
use Rattle.asset_names.specs.Steps.{Opening, Entry}
use Rattle.asset_names.specs.Groups.{actor, kept}
use Rattle.asset_printing.specs.Printed.{step_text}
use Rattle.asset_deletion.specs.Grouping.{Grouping}
use Rattle.asset_deletion.proofs.WithoutLemmas.{kept_next}
use Rattle.asset_reports.specs.Groups.{is_dead_name, members_are_dead}
use Rattle.asset_sources.specs.Sourced.{source_at}
use Rattle.asset_sources.proofs.WalkLemmas.{older_length, source_found}
use Rattle.asset_reports.specs.Reports.{opening_line, opening_text, steps_text}
use Rattle.asset_reports.specs.Sources.{source_text, sources_text}

pub opening_more : (opening : Opening) (given : Ob × ℤ) → opening_text (opening ++ given ∷ []) ≡ opening_text opening ++ opening_line given
unfolding opening_text
opening_more [] given = append-nil (opening_line given)
opening_more (x ∷ opening) given = ap (λ l. opening_line x ++ l) (opening_more opening given) ∙ sym (append_assoc (opening_line x) _ _)

pub steps_more : (entries : List Entry) (i : ℕ) (entry : Entry) → slice_get entries i ≡ Some entry
    → steps_text (reverse (take (i + 1) entries)) ≡ steps_text (reverse (take i entries)) ++ (step_text entry.0 ++ 10 ∷ [])
unfolding steps_text
steps_more entries i entry at = rw (next_entry entries i entry at) refl

-- the steps of those that do not go out, with one more entry, whose step is printed unless it goes out
pub steps_kept : (out : ℕ → Bool) (entries : List Entry) (i : ℕ) (entry : Entry) → slice_get entries i ≡ Some entry
    → steps_text (kept (λ n. not (out n)) (reverse (take (i + 1) entries))) ≡ steps_text (kept (λ n. not (out n)) (reverse (take i entries))) ++ cond (out (actor entry.0).0) [] (step_text entry.0 ++ 10 ∷ [])
unfolding steps_text
steps_kept out entries i entry at = ap steps_text (kept_next (λ n. not (out n)) entries i entry at) ∙ go (out (actor entry.0).0) where
  older : List Entry
  older = kept (λ n. not (out n)) (reverse (take i entries))

  go : (b : Bool) → steps_text (cond (not b) (entry ∷ older) older) ≡ steps_text older ++ cond b [] (step_text entry.0 ++ 10 ∷ [])
  go true = sym (append-nil (steps_text older))
  go false = refl

-- ---- groups

-- members are dead as the first of them is
pub first_member : (groups : Grouping) (members : List ℕ) (k : ℕ) → Some k ≡ slice_get members 0 → members_are_dead groups members ≡ is_dead_name groups (slice_get groups.names k)
unfolding members_are_dead
first_member groups [] k at = absurd cc
first_member groups (j ∷ members) k at = let same : k ≡ j = cc in rw same refl

pub no_member : (groups : Grouping) (members : List ℕ) → None ≡ slice_get members 0 → members_are_dead groups members ≡ false
unfolding members_are_dead
no_member groups [] at = refl
no_member groups (j ∷ members) at = absurd cc

-- ---- sources

-- the line of one more entry
pub sources_more : (all : List Entry) (i : ℕ) (entry : Entry) → slice_get (reverse all) i ≡ Some entry
    → sources_text (reverse (take (i + 1) (reverse all))) ≡ sources_text (reverse (take i (reverse all))) ++ source_text i entry.0 entry.1 (source_at all i)
unfolding sources_text
sources_more all i entry at =
    rw (next_entry (reverse all) i entry at, source_found all i entry at, older_length all i entry at) refl
