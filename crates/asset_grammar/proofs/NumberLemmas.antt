-- A numeral, digit by digit.
use Rattle.std.proofs.Common.{◌≡◌, ◌⊎◌, inl, inr, ℕ, ◌+◌, ◌*◌, ◌-◌, ◌<◌, ◌≤◌, ◌^◌, ◌&&◌, Bool, true, false, cond, List, [], ◌∷◌, length, take, get_or, Option, Some, None, refl, sym, ap, ◌∙◌, arith, rules}
use Rattle.std.specs.Prelude.{nat_lt, min}
use Rattle.std.specs.Char.{is_ascii_digit, digit_value}
use Rattle.std.specs.List.{list_all}
use Rattle.std.specs.Str.Parse.{digits_value}
use Rattle.std.proofs.lemmas.Bool.{cases_Bool, lt-ltb, ltb-true, ltb-false, true≢false}
use Rattle.std.proofs.lemmas.List.{get_or-take, get_or_past, length-take, take-take}
use Rattle.std.proofs.lemmas.Grind.{common_steps}
use Rattle.std.proofs.lemmas.Option.{cond_some}
use Rattle.std.proofs.lemmas.List.Folds.{list_all_more, list_all_at}
use Rattle.std.proofs.lemmas.Str.Parse.{IsDigitsTest, IsNumeralModel, numerals_by_value, digits_value-take-le, digits_value_short}
use Rattle.std.proofs.lemmas.Int.Digits.{digits_value_more}
use Rattle.asset_grammar.specs.Numbers.{begins_well, is_numeral, number_of, AreDigitsAt, IsNumberAt, NoNumberAt}

digits_test : IsDigitsTest (λ ds. list_all is_ascii_digit ds ≡ true)
digits_test = search rules

pub own : IsNumeralModel (λ ds. list_all is_ascii_digit ds ≡ true) (digits_value 10)
own = numerals_by_value _ digits_test

pub left_of : (a b : Bool) → (a && b) ≡ true → a ≡ true
left_of true b h = refl
left_of false b h = h

-- a numeral has digits alone, at least one
pub numeral_parts : (text : List ℕ) → is_numeral text ≡ true → (list_all is_ascii_digit text ≡ true) × (0 < length text)
unfolding is_numeral
numeral_parts [] h = absurd (cc)
numeral_parts (first ∷ rest) h = (left_of _ _ h, omega arith)

-- what writes a number has digits alone
pub number_digits : (text : List ℕ) (n : ℕ) → number_of text ≡ Some n → list_all is_ascii_digit text ≡ true
unfolding number_of
number_digits text n h =
    let found = cond_some (is_numeral text && nat_lt (digits_value 10 text) (2 ^ 64)) (digits_value 10 text) n h in
    (numeral_parts text (left_of _ _ found.0)).0

-- a text that does not begin well is no number, and neither is one with a byte that is no digit
pub not_begun : (text : List ℕ) → begins_well text ≡ false → None ≡ number_of text
unfolding number_of is_numeral begins_well
not_begun [] h = refl
not_begun (first ∷ rest) h = go (list_all is_ascii_digit (first ∷ rest)) where
  number : Option ℕ
  number = Some (digits_value 10 (first ∷ rest))

  go : (b : Bool) → None ≡ cond ((b && begins_well (first ∷ rest)) && nat_lt (digits_value 10 (first ∷ rest)) (2 ^ 64)) number None
  go true = rw h refl
  go false = refl

pub not_a_digit : (text : List ℕ) → list_all is_ascii_digit text ≡ false → None ≡ number_of text
unfolding number_of is_numeral
not_a_digit [] h = refl
not_a_digit (first ∷ rest) h = rw h refl

-- nor is one that is too large
pub too_large : (text : List ℕ) → 2 ^ 64 ≤ digits_value 10 text → None ≡ number_of text
unfolding number_of
too_large text large = go (nat_lt (digits_value 10 text) (2 ^ 64)) refl (is_numeral text) where
  number : Option ℕ
  number = Some (digits_value 10 text)

  go : (b : Bool) → nat_lt (digits_value 10 text) (2 ^ 64) ≡ b → (c : Bool) → None ≡ cond (c && b) number None
  go true small c = absurd (omega (arith, large, ltb-true _ _ small))
  go false past true = refl
  go false past false = refl

-- a text that begins well, of digits alone, is the number that it writes
pub all_read : (text : List ℕ) (number : ℕ) → begins_well text ≡ true → list_all is_ascii_digit text ≡ true → number ≡ digits_value 10 text → number < 2 ^ 64 → Some number ≡ number_of text
unfolding number_of is_numeral begins_well
all_read [] number begins digits is small = absurd (true≢false (sym begins))
all_read (first ∷ rest) number begins digits is small =
    let fits : nat_lt (digits_value 10 (first ∷ rest)) (2 ^ 64) ≡ true = lt-ltb _ _ (omega (arith, small, is)) in
    rw (digits, begins, fits) (ap Some is)

-- the front of a text, one byte longer
pub digits_more : (text : List ℕ) (i byte : ℕ) → i < length text → byte ≡ get_or text i 0 → list_all is_ascii_digit (take i text) ≡ true → is_ascii_digit byte ≡ true → list_all is_ascii_digit (take (i + 1) text) ≡ true
digits_more text i byte below is front digit = list_all_more is_ascii_digit text i 0 below ∙ rw (front, sym is) digit

pub value_more : (text : List ℕ) (i byte number : ℕ) → i < length text → byte ≡ get_or text i 0 → number ≡ digits_value 10 (take i text) → number * 10 + digit_value byte ≡ digits_value 10 (take (i + 1) text)
value_more text i byte number below is front = (λ k. front k * 10 + digit_value (is k)) ∙ sym (digits_value_more 10 text i below)

-- a digit has the value of its byte over that of 0
digit_over : (byte : ℕ) → is_ascii_digit byte ≡ true → digit_value byte ≡ byte - 48
digit_over byte digit = grind (arith, common_steps)

-- one more digit, of at most 19: the number is below 2 ^ 64
pub one_more_digit : (text : List ℕ) (most size number : ℕ) → most ≡ min (length text) 19 → size < most → AreDigitsAt text number size → is_ascii_digit (get_or text size 0) ≡ true
    → (number * 10 + (get_or text size 0 - 48) < 2 ^ 64) × AreDigitsAt text (number * 10 + (get_or text size 0 - 48)) (size + 1)
one_more_digit text most size number least below read digit =
    let byte = get_or text size 0 in
    let inside : size < length text = omega arith in
    let digits : list_all is_ascii_digit (take (size + 1) text) ≡ true = digits_more text size byte inside refl read.digits digit in
    let is : number * 10 + (byte - 48) ≡ digits_value 10 (take (size + 1) text) = ap (λ d. number * 10 + d) (sym (digit_over byte digit)) ∙ value_more text size byte number inside refl read.value in
    let short : length (take (size + 1) text) ≤ 19 = omega (arith, length-take (size + 1) text) in
    let small : digits_value 10 (take (size + 1) text) < 10 ^ 19 = digits_value_short own (take (size + 1) text) 19 digits short in
    (omega (arith, is, small), record { within = omega arith; digits = digits; value = is })

-- a byte that is no digit, within a text that it is cut at later, makes it no number
pub not_number_past : (text : List ℕ) (i size : ℕ) → i < size → size ≤ length text → is_ascii_digit (get_or text i 0) ≡ false → number_of (take size text) ≡ None
not_number_past text i size before within no_digit =
    let at : get_or (take size text) i 0 ≡ get_or text i 0 = get_or-take size text i 0 before in
    sym (not_a_digit (take size text) (list_all_at is_ascii_digit (take size text) i 0 (omega (arith, length-take size text)) (rw at no_digit)))

pub lt_or_le : (a b : ℕ) → (a < b) ⊎ (b ≤ a)
lt_or_le a b = elim (cases_Bool (nat_lt a b)) [
  | inl e ↦ inl (ltb-true a b e)
  | inr e ↦ inr (ltb-false a b e)
]

-- digits end no later than the first byte that is none
pub digits_until : (text : List ℕ) (size i : ℕ) → size ≤ length text → list_all is_ascii_digit (take size text) ≡ true → is_ascii_digit (get_or text i 0) ≡ false → size ≤ i
digits_until text size i within digits no_digit = elim (lt_or_le i size) [
  | inl before ↦
      let at : get_or (take size text) i 0 ≡ get_or text i 0 = get_or-take size text i 0 before in
      absurd (true≢false (sym digits ∙ list_all_at is_ascii_digit (take size text) i 0 (omega (arith, length-take size text)) (rw at no_digit)))
  | inr past ↦ past
]

-- no number is read if digits at the start are too large
pub none_when_large : (text : List ℕ) (i : ℕ) → i < length text → list_all is_ascii_digit (take (i + 1) text) ≡ true → 2 ^ 64 ≤ digits_value 10 (take (i + 1) text) → NoNumberAt text
unfolding NoNumberAt
none_when_large text i below digits large = λ size within ends.
    let later : i + 1 ≤ size = digits_until text (i + 1) size (omega arith) digits ends in
    let part : take (i + 1) (take size text) ≡ take (i + 1) text = take-take (i + 1) size text later in
    let least = digits_value-take-le 10 (take size text) (i + 1) (omega arith) in
    sym (too_large (take size text) (omega (arith, large, rw part at least)))

-- nor if there is none, or a zero before another
pub none_when_bad : (text : List ℕ) (size : ℕ) → size ≤ length text → list_all is_ascii_digit (take size text) ≡ true → is_ascii_digit (get_or text size 0) ≡ false → begins_well (take size text) ≡ false → NoNumberAt text
unfolding NoNumberAt
none_when_bad text size within digits stops bad = λ k inside ends.
    let later : size ≤ k = digits_until text size k within digits ends in
    elim (lt_or_le size k) [
      | inl past ↦ not_number_past text size k past inside stops
      | inr not_past ↦
          let here : k ≡ size = omega arith in
          rw here (sym (not_begun (take size text) bad))
    ]

-- digits up to a byte that is none are a number
pub number_when_good : (text : List ℕ) (size number : ℕ) → size ≤ length text → list_all is_ascii_digit (take size text) ≡ true → is_ascii_digit (get_or text size 0) ≡ false → begins_well (take size text) ≡ true
    → number ≡ digits_value 10 (take size text) → number < 2 ^ 64 → IsNumberAt text number size
number_when_good text size number within digits stops good is small = record {
  within = within;
  is = sym (all_read (take size text) number good digits is small);
  ends = stops;
}

-- a digit stands within the text
pub digit_inside : (text : List ℕ) (i : ℕ) → is_ascii_digit (get_or text i 0) ≡ true → i < length text
digit_inside text i digit = elim (lt_or_le i (length text)) [
  | inl inside ↦ inside
  | inr past ↦
      let no : is_ascii_digit 0 ≡ true = rw (get_or_past text i 0 past) at digit in
      absurd (cc)
]
