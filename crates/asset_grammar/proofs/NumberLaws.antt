-- A text writes a number exactly if it is the number in decimal.
use Rattle.std.proofs.Common.{◌≡◌, ℕ, zero, suc, ◌+◌, ◌-◌, ◌<◌, ◌^◌, ◌==◌, ◌&&◌, ◌||◌, Bool, true, false, not, cond, List, [], ◌∷◌, length, get_or, None, Some, inl, inr, refl, sym, ap, ◌∙◌, arith}
use Rattle.std.specs.Prelude.{nat_lt, nat_le, ℤ, pos, negsuc}
use Rattle.std.specs.Int.Signed.{mag}
use Rattle.std.specs.Char.{is_ascii_digit}
use Rattle.std.specs.Fmt.{decimal, signed_decimal}
use Rattle.std.specs.List.{list_all}
use Rattle.std.specs.Str.Parse.{digits_value}
use Rattle.std.proofs.lemmas.Bool.{cases_Bool, eq-eqb, eqb-true, le-leb, lt-ltb, ltb-true}
use Rattle.std.proofs.lemmas.Fmt.{decimal_digit, decimal_nonempty, first_decimal, digits_decimal, digits_value-decimal, decimal-digits_value}
use Rattle.asset_grammar.specs.Numbers.{is_numeral, number_of, positive_value, negative_value, value_of}
use Rattle.asset_grammar.proofs.NumberLemmas.{left_of, own, numeral_parts}

right_of : (a b : Bool) → (a && b) ≡ true → b ≡ true
right_of true b h = h
right_of false b h = absurd (cc)

-- digits without a zero before another are a numeral
numeral_from_parts : (text : List ℕ) → list_all is_ascii_digit text ≡ true → 0 < length text → (get_or text 0 0 ≡ 48 → length text ≡ 1) → is_numeral text ≡ true
unfolding is_numeral
numeral_from_parts [] digits some first = absurd (omega arith)
numeral_from_parts (b ∷ rest) digits some first =
    elim (cases_Bool (b == 48)) [
      | inl is_zero ↦
          let one : 1 + length rest ≡ 1 = omega (arith, first (eqb-true b 48 is_zero)) in
          let alone : (length rest == 0) ≡ true = eq-eqb _ _ (omega arith) in
          rw (digits, is_zero, alone) refl
      | inr other ↦ rw (digits, other) refl
    ]

-- a zero at the start of a numeral is all of it
lone_zero : (text : List ℕ) → is_numeral text ≡ true → get_or text 0 0 ≡ 48 → length text ≡ 1
unfolding is_numeral
lone_zero [] h first = absurd (cc)
lone_zero (b ∷ rest) h first =
    let is_zero : (b == 48) ≡ true = eq-eqb b 48 first in
    let none : length rest ≡ 0 = eqb-true (length rest) 0 (rw is_zero at (right_of (list_all is_ascii_digit (b ∷ rest)) (not (b == 48) || length rest == 0) h)) in
    omega (arith, none)

-- in decimal only zero begins with a zero
lone_zero_decimal : (n : ℕ) → n < 2 ^ 64 → get_or (decimal n) 0 0 ≡ 48 → length (decimal n) ≡ 1
lone_zero_decimal zero small first = ap length (decimal_digit 0 (omega arith))
lone_zero_decimal (suc n) small first =
    let above = first_decimal (suc n) (omega arith) small in
    absurd (omega (arith, above, first))

-- a number in decimal writes it
pub number_of-decimal : (n : ℕ) → n < 2 ^ 64 → number_of (decimal n) ≡ Some n
unfolding number_of
number_of-decimal n small =
    let value : digits_value 10 (decimal n) ≡ n = digits_value-decimal own n small in
    let numeral : is_numeral (decimal n) ≡ true =
    numeral_from_parts (decimal n) (digits_decimal own n small) (decimal_nonempty n small) (lone_zero_decimal n small) in
    let below : nat_lt n (2 ^ 64) ≡ true = lt-ltb n (2 ^ 64) small in
    rw (numeral, value, below) refl

some_when : (b : Bool) (x n : ℕ) → cond b (Some x) None ≡ Some n → (b ≡ true) × (x ≡ n)
some_when true x n h = (refl, cc)
some_when false x n h = absurd (cc)

-- what writes a number is the number in decimal
pub decimal-number_of : (text : List ℕ) (n : ℕ) → number_of text ≡ Some n → decimal n ≡ text
unfolding number_of
decimal-number_of text n h =
    let found = some_when (is_numeral text && nat_lt (digits_value 10 text) (2 ^ 64)) (digits_value 10 text) n h in
    let numeral : is_numeral text ≡ true = left_of _ _ found.0 in
    let small : digits_value 10 text < 2 ^ 64 = ltb-true _ _ (right_of (is_numeral text) _ found.0) in
    let parts = numeral_parts text numeral in
    ap decimal (sym found.1) ∙ decimal-digits_value own text parts.0 parts.1 (lone_zero text numeral) small

nothing_written : (n : ℕ) → number_of [] ≡ Some n → ⊥
unfolding number_of is_numeral
nothing_written n h = cc

no_minus : (b : ℕ) → b ≡ 45 → is_ascii_digit b ≡ true → ⊥
no_minus b e h = let no : is_ascii_digit 45 ≡ true = rw e at h in cc

-- a text of digits writes the value of its number
value_of_number : (text : List ℕ) (n : ℕ) → number_of text ≡ Some n → list_all is_ascii_digit text ≡ true → value_of text ≡ positive_value n
unfolding value_of
value_of_number [] n h digits = absurd (nothing_written n h)
value_of_number (first ∷ rest) n h digits =
    elim (cases_Bool (first == 45)) [
      | inl minus ↦ absurd (no_minus first (eqb-true first 45 minus) (left_of (is_ascii_digit first) (list_all is_ascii_digit rest) digits))
      | inr other ↦ rw (other, h) refl
    ]

-- a value in decimal writes it
pub value_of-signed_decimal : (z : ℤ) → mag z < 2 ^ 63 → value_of (signed_decimal z) ≡ Some z
unfolding value_of positive_value negative_value
value_of-signed_decimal (pos n) small =
    let fits : n < 2 ^ 64 = omega arith in
    let below : nat_lt n (2 ^ 63) ≡ true = lt-ltb n (2 ^ 63) small in
    value_of_number (decimal n) n (number_of-decimal n fits) (digits_decimal own n fits) ∙ rw below refl
value_of-signed_decimal (negsuc n) small =
    let fits : suc n < 2 ^ 64 = omega arith in
    let below : nat_le (suc n) (2 ^ 63) ≡ true = le-leb (suc n) (2 ^ 63) (omega arith) in
    let above : nat_lt 0 (suc n) ≡ true = lt-ltb 0 (suc n) (omega arith) in
    let less : suc n - 1 ≡ n = omega arith in
    rw (number_of-decimal (suc n) fits, below, above) (ap (λ k. Some (negsuc k)) less)
