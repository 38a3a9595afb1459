-- How the text of a check and the number of the first bad line grow.
use Rattle.std.proofs.Common.{◌≡◌, ℕ, ◌+◌, Bool, true, false, cond, List, [], ◌∷◌, ◌++◌, Option, None, Some, refl, sym, ◌∙◌, append_assoc, append-nil}
use Rattle.std.specs.Prelude.{is_some}
use Rattle.asset_grammar.specs.Grammar.{line_of}
use Rattle.asset_check.specs.Checked.{Seen, check_lines, first_bad, mistake_at, seen_by}
use Rattle.asset_check.specs.Checking.{or_first, or_this}
use Rattle.asset_check.specs.Sentences.{mistake_line}

-- after one more line
pub text_step : (before after all : List ℕ) (ls more : List (List ℕ)) (line : List ℕ) (n : ℕ) (seen seen' : Seen) → before ++ check_lines ls n seen ≡ all → ls ≡ line ∷ more
    → after ≡ before ++ mistake_line n (mistake_at seen line) → seen' ≡ seen_by seen (line_of line) → after ++ check_lines more (n + 1) seen' ≡ all
unfolding check_lines
text_step before after all ls more line n seen seen' so_far cut grown later = rw (grown, later) (append_assoc before (mistake_line n (mistake_at seen line)) _ ∙ rw cut at so_far)

pub bad_step : (bad : Option ℕ) (all : Option ℕ) (ls more : List (List ℕ)) (line : List ℕ) (n : ℕ) (seen seen' : Seen) (is_bad : Bool) → or_first bad (first_bad ls n seen) ≡ all → ls ≡ line ∷ more
    → is_bad ≡ is_some (mistake_at seen line) → seen' ≡ seen_by seen (line_of line) → or_first (or_this bad is_bad n) (first_bad more (n + 1) seen') ≡ all
unfolding first_bad or_first or_this
bad_step (Some m) all ls more line n seen seen' is_bad so_far cut is later = so_far
bad_step None all ls more line n seen seen' is_bad so_far cut is later = rw (is, later) (go (is_some (mistake_at seen line)) (first_bad more (n + 1) (seen_by seen (line_of line))) ∙ rw cut at so_far) where
  go : (b : Bool) (later : Option ℕ) → or_first (cond b (Some n) None) later ≡ cond b (Some n) later
  go true later = refl
  go false later = refl

-- after the last line
pub text_end : (text all : List ℕ) (ls : List (List ℕ)) (n : ℕ) (seen : Seen) → text ++ check_lines ls n seen ≡ all → ls ≡ [] → text ≡ all
unfolding check_lines
text_end text all ls n seen so_far none = sym (append-nil text) ∙ rw none at so_far

pub bad_end : (bad all : Option ℕ) (ls : List (List ℕ)) (n : ℕ) (seen : Seen) → or_first bad (first_bad ls n seen) ≡ all → ls ≡ [] → bad ≡ all
unfolding first_bad or_first
bad_end None all ls n seen so_far none = rw none at so_far
bad_end (Some m) all ls n seen so_far none = so_far
