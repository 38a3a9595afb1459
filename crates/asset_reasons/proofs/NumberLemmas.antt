-- Digits that are read as a number.
use Rattle.std.proofs.Common.{◌≡◌, ℕ, ◌<◌, ◌^◌, true, false, List, [], ◌∷◌, length, None, Some, Result, Ok, Err, refl, inl, inr, arith}
use Rattle.std.specs.Prelude.{MatchResult}
use Rattle.std.specs.Result.{OkIff}
use Rattle.std.specs.Char.{is_ascii_digit}
use Rattle.std.specs.List.{list_all}
use Rattle.std.specs.Str.{IsUtf8}
use Rattle.std.specs.Str.Parse.{digits_value, ParsesUnsigned}
use Rattle.std.proofs.lemmas.Bool.{and_cases, and_parts, eqb-false, eqb-true, not-false, not-true}
use Rattle.std.proofs.lemmas.List.{get_or_past}
use Rattle.std.proofs.lemmas.Str.{IsUtf8-from_ascii}
use Rattle.std.proofs.lemmas.Str.Parse.{digit_at, parse_digits}
use Rattle.asset_grammar.specs.Numbers.{begins_well, is_numeral, number_of}
use Rattle.asset_grammar.proofs.NumberLemmas.{all_read, lt_or_le, not_a_digit, own, too_large}
use Rattle.asset_reasons.specs.Mistakes.{has_digits}

-- digits are digits alone, and at least one
digits_parts : (word : List ℕ) → has_digits word ≡ true → (list_all is_ascii_digit word ≡ true) × (0 < length word)
unfolding has_digits
digits_parts word h =
    let both = and_parts _ _ h in
    let some = eqb-false (length word) 0 (not-true _ both.0) in
    (both.1, omega (arith, some))

pub parsed : {E : Type 0} (word : List ℕ) (r : Result ℕ E) → has_digits word ≡ true → begins_well word ≡ true → ParsesUnsigned 64 10 word r → MatchResult r (λ n. Some n ≡ number_of word) (λ e. None ≡ number_of word)
parsed {E} word r digits well parses = go r (parse_digits own 64 word r parses (digits_parts word digits).0) where
  go : (r : Result ℕ E) → OkIff r ((0 < length word) × (digits_value 10 word < 2 ^ 64)) (digits_value 10 word) → MatchResult r (λ n. Some n ≡ number_of word) (λ e. None ≡ number_of word)
  go (Ok n) h = all_read word n well (digits_parts word digits).0 h.1 (omega (arith, h.0.1, h.1))
  go (Err e) h = too_large word (elim (lt_or_le (digits_value 10 word) (2 ^ 64)) [
    | inl small ↦ absurd (h ((digits_parts word digits).1, small))
    | inr large ↦ large
  ])

-- what a parse says of digits
pub parsed_ok : (word : List ℕ) (n : ℕ) → has_digits word ≡ true → begins_well word ≡ true → ParsesUnsigned {E = ℕ} 64 10 word (Ok n) → Some n ≡ number_of word
parsed_ok word n digits well parses = parsed {E = ℕ} word (Ok n) digits well parses

pub parsed_err : (word : List ℕ) → has_digits word ≡ true → begins_well word ≡ true → ParsesUnsigned {E = ℕ} 64 10 word (Err 0) → None ≡ number_of word
parsed_err word digits well parses = parsed {E = ℕ} word (Err 0) digits well parses

empty_is_none : (word : List ℕ) → length word ≡ 0 → None ≡ number_of word
unfolding number_of is_numeral
empty_is_none [] none = refl
empty_is_none (first ∷ rest) none = absurd (omega (arith, none))

pub no_digits : (word : List ℕ) → has_digits word ≡ false → None ≡ number_of word
unfolding has_digits
no_digits word none = elim (and_cases _ _ none) [
  | inl empty ↦ empty_is_none word (eqb-true _ _ (not-false _ empty))
  | inr other ↦ not_a_digit word other
]

-- digits are text
digits_utf8 : (word : List ℕ) → list_all is_ascii_digit word ≡ true → IsUtf8 word
digits_utf8 word digits = IsUtf8-from_ascii word (λ i. elim (lt_or_le i (length word)) [
  | inl inside ↦ omega (arith, (digit_at word i (own.to word digits) inside).1)
  | inr past ↦ rw (get_or_past word i 0 past) (omega arith)
])

pub no_text : (word : List ℕ) → has_digits word ≡ true → ¬ (IsUtf8 word) → None ≡ number_of word
no_text word digits other = absurd (other (digits_utf8 word (digits_parts word digits).0))
