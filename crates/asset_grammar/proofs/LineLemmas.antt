-- Lines and words after a cut.
use Rattle.std.proofs.Common.{◌≡◌, ℕ, ◌+◌, ◌<◌, ◌≤◌, ◌==◌, Bool, true, false, cond, List, [], ◌∷◌, ◌++◌, length, get_or, take, drop, None, Some, refl, sym, ap, ◌∙◌, arith, take-append-drop, drop-cons, add-one}
use Rattle.std.specs.List.{All, onto_first, slice_split, position, position_or_len}
use Rattle.std.proofs.lemmas.Bool.{eqb-true, eq-eqb, ltb-false}
use Rattle.std.proofs.lemmas.List.{get_or-take, length-take}
use Rattle.std.proofs.lemmas.List.Sums.{fails_before_first}
use Rattle.std.proofs.lemmas.List.Elements.{All-head, All-tail}
use Rattle.std.proofs.lemmas.List.Quantifiers.{position-Some}
use Rattle.std.proofs.lemmas.List.Splits.{slice_split_at, slice_split_none}
use Rattle.asset_grammar.specs.Lines.{Lacks, lines}
use Rattle.asset_grammar.specs.Words.{parts}

-- a line with its line feed is cut off
pub lines_cut : (line rest : List ℕ) → Lacks 10 line → lines (line ++ 10 ∷ rest) ≡ line ∷ lines rest
unfolding Lacks lines
lines_cut [] rest lacks = refl
lines_cut (b ∷ line) rest lacks =
    let other : (b == 10) ≡ false = All-head (λ x. (x == 10) ≡ false) b line lacks in
    rw (other, lines_cut line rest (All-tail (λ x. (x == 10) ≡ false) b line lacks)) refl

-- bytes are cut at their first `byte` into what stands before it and what stands after it
pub record IsCutAt (byte : ℕ) (bytes before after : List ℕ) : Type 0 where
  pub whole : bytes ≡ before ++ byte ∷ after
  pub first : Lacks byte before

-- a position at which the byte stands cuts there
pub cut_at_position : (byte : ℕ) (bytes : List ℕ) (i : ℕ) → position (λ b. b == byte) bytes ≡ Some i → IsCutAt byte bytes (take i bytes) (drop (i + 1) bytes)
unfolding Lacks
cut_at_position byte bytes i h =
    let found = position-Some (λ b. b == byte) bytes i 0 h in
    let here : get_or bytes i 0 ≡ byte = eqb-true _ _ found.1 in
    let rest : drop i bytes ≡ byte ∷ drop (i + 1) bytes = rw (add-one, ← here) (drop-cons bytes i 0 found.0) in
    record {
      whole = sym (take-append-drop i bytes) ∙ ap (λ (l : List ℕ). take i bytes ++ l) rest;
      first = λ k d inside.
          let before : k < i = omega (arith, length-take i bytes) in
          rw (get_or-take i bytes k d before) ((position-Some (λ b. b == byte) bytes i d h).2 k before);
    }

none_when : (b : Bool) (i : ℕ) → cond b (Some i) None ≡ None → b ≡ false
none_when true i h = absurd (cc)
none_when false i h = refl

-- without a position no byte passes, so the byte is nowhere
pub fails_without_position : (p : ℕ → Bool) (bytes : List ℕ) → position p bytes ≡ None → All (λ b. p b ≡ false) bytes
fails_without_position p bytes h =
    let at_end : length bytes ≤ position_or_len p bytes = ltb-false _ _ (none_when _ _ h) in
    λ k d inside. fails_before_first p bytes k d (omega arith)

pub lacks_without_position : (byte : ℕ) (bytes : List ℕ) → position (λ b. b == byte) bytes ≡ None → Lacks byte bytes
unfolding Lacks
lacks_without_position byte bytes h = fails_without_position (λ b. b == byte) bytes h

pub parts_cut : (separator : ℕ) (text before after : List ℕ) → IsCutAt separator text before after → parts separator text ≡ before ∷ parts separator after
unfolding parts Lacks
parts_cut separator text before after h = ap (slice_split (λ b. b == separator)) h.whole ∙ slice_split_at (λ b. b == separator) before separator after h.first (eq-eqb separator separator refl)

pub parts_last : (separator : ℕ) (text : List ℕ) → Lacks separator text → parts separator text ≡ text ∷ []
unfolding parts Lacks
parts_last separator text h = slice_split_none (λ b. b == separator) text h

-- a byte on the first line makes at most one line more
length-onto_first : (b n : ℕ) (parts : List (List ℕ)) → length parts ≤ n → length (onto_first b parts) ≤ n + 1
length-onto_first b n [] short = omega arith
length-onto_first b n (part ∷ parts) short = omega arith

-- each line has a byte of its own: its line feed, or its first byte if it is the last
pub length-lines : (bytes : List ℕ) → length (lines bytes) ≤ length bytes
unfolding lines
length-lines [] = omega arith
length-lines (b ∷ bytes) = one_more (b == 10) (length-lines bytes) where
  one_more : (feed : Bool) → length (lines bytes) ≤ length bytes → length (cond feed ([] ∷ lines bytes) (onto_first b (lines bytes))) ≤ length (b ∷ bytes)
  one_more true short = omega arith
  one_more false short = omega (arith, length-onto_first b (length bytes) (lines bytes) short)
