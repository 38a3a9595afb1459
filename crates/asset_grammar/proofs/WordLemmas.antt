-- The first word of a text, and what it writes.
use Rattle.std.proofs.Common.{◌≡◌, ℕ, ◌+◌, ◌<◌, ◌≤◌, ◌==◌, ◌⊎◌, inl, inr, Bool, true, false, List, [], ◌∷◌, length, get_or, take, drop, Option, None, Some, refl, sym, ap, ◌∙◌, arith, add-one, drop-cons, take-append-drop, ◌++◌}
use Rattle.std.specs.Prelude.{option_map, option_and_then, ℤ}
use Rattle.std.specs.Char.{is_ascii_digit}
use Rattle.std.specs.List.{list_all, position}
use Rattle.std.proofs.lemmas.Bool.{eqb-true, true≢false}
use Rattle.std.proofs.lemmas.List.{get_or-take, get_or_past, length-take, take_all}
use Rattle.std.proofs.lemmas.List.Folds.{list_all_at}
use Rattle.std.proofs.lemmas.List.Quantifiers.{position-Some}
use Rattle.asset_grammar.specs.Lines.{first_line, Lacks}
use Rattle.asset_grammar.specs.Numbers.{is_numeral, number_of, positive_value, negative_value, value_of, IsNumberAt, NoNumberAt}
use Rattle.asset_grammar.specs.Words.{parts, line_left, none_left, taken, LineLeft, Takes}
use Rattle.asset_grammar.proofs.LineLemmas.{cut_at_position, lacks_without_position, parts_cut, parts_last}
use Rattle.asset_grammar.proofs.NumberLemmas.{lt_or_le, not_number_past, digits_until, number_digits}

-- the first part of a text: how long it is, and the parts after it
pub record FirstPart (separator : ℕ) (text : List ℕ) : Type 0 where
  pub size : ℕ
  pub rest : List (List ℕ)
  pub within : size ≤ length text
  pub is : parts separator text ≡ take size text ∷ rest
  pub stops : (size ≡ length text) ⊎ (get_or text size 0 ≡ separator)

pub first_part : (separator : ℕ) (text : List ℕ) → FirstPart separator text
first_part separator text = go (position (λ b. b == separator) text) refl where
  go : (found : Option ℕ) → position (λ b. b == separator) text ≡ found → FirstPart separator text
  go (Some i) e =
      let found = position-Some (λ b. b == separator) text i 0 e in
      record {
        size = i;
        rest = parts separator (drop (i + 1) text);
        within = omega (arith, found.0);
        is = parts_cut separator text _ _ (cut_at_position separator text i e);
        stops = inr (eqb-true _ _ found.1);
      }
  go None e = record {
    size = length text;
    rest = [];
    within = omega arith;
    is = parts_last separator text (lacks_without_position separator text e) ∙ ap (λ (word : List ℕ). word ∷ []) (sym (take_all (length text) text (omega arith)));
    stops = inl refl;
  }

-- what is taken of the first part
pub taken_first : {A : Type 0} (read : List ℕ → Option A) (separator : ℕ) (text : List ℕ) (first : FirstPart separator text) → taken read (parts separator text) ≡ option_map (λ x. (x, first.rest)) (read (take first.size text))
unfolding taken
taken_first read separator text first = rw first.is refl

-- nothing is left after the last word alone
pub over_ended : (ended : Bool) (text : List ℕ) → ended ≡ none_left (line_left ended text).words
unfolding line_left none_left
over_ended true text = refl
over_ended false text = let first = first_part 32 (first_line text) in rw first.is refl

pub over_is_empty : (words : List (List ℕ)) (over : Bool) → over ≡ none_left words → over ≡ true → words ≡ []
unfolding none_left
over_is_empty [] over is h = refl
over_is_empty (word ∷ words) over is h = absurd (true≢false (sym h ∙ is))

-- the words after one that ends at a space, or at the end
pub parts_after : (text : List ℕ) (size : ℕ) → size < length text → get_or text size 0 ≡ 32 → Lacks 32 (take size text) → parts 32 text ≡ take size text ∷ parts 32 (drop (size + 1) text)
parts_after text size below space lacks =
    let rest : drop size text ≡ 32 ∷ drop (size + 1) text = rw (add-one, ← space) (drop-cons text size 0 below) in
    parts_cut 32 text (take size text) (drop (size + 1) text) (record { whole = sym (take-append-drop size text) ∙ ap (λ (l : List ℕ). take size text ++ l) rest; first = lacks })

pub parts_all : (text : List ℕ) → Lacks 32 (take (length text) text) → parts 32 text ≡ take (length text) text ∷ []
parts_all text lacks =
    let all : take (length text) text ≡ text = take_all (length text) text (omega arith) in
    rw all (parts_last 32 text (rw all at lacks))

-- a separator is no digit, nor is what stands past the end
pub ends_first : (separator : ℕ) (text : List ℕ) (first : FirstPart separator text) → is_ascii_digit separator ≡ false → is_ascii_digit (get_or text first.size 0) ≡ false
ends_first separator text first no_digit = elim first.stops [
  | inl at_end ↦ rw (get_or_past text first.size 0 (omega arith)) refl
  | inr here ↦ rw here no_digit
]

-- bytes that pass a test lack each byte that does not
pub passing_lack : (test : ℕ → Bool) (byte : ℕ) (word : List ℕ) → test byte ≡ false → list_all test word ≡ true → Lacks byte word
unfolding Lacks
passing_lack test byte word other passes = λ k d inside. go k d inside (get_or word k d == byte) refl where
  go : (k d : ℕ) → k < length word → (same : Bool) → (get_or word k d == byte) ≡ same → same ≡ false
  go k d inside false e = refl
  go k d inside true e = absurd (true≢false (sym passes ∙ list_all_at test word k d inside (rw (eqb-true _ _ e) other)))

-- digits lack every other byte
pub digits_lack : (byte : ℕ) (word : List ℕ) → is_ascii_digit byte ≡ false → list_all is_ascii_digit word ≡ true → Lacks byte word
digits_lack byte word other digits = passing_lack is_ascii_digit byte word other digits

-- a word that goes on after a number, or has none, is no number
pub no_number : (separator : ℕ) (text : List ℕ) → is_ascii_digit separator ≡ false → NoNumberAt text → taken number_of (parts separator text) ≡ None
unfolding NoNumberAt
no_number separator text no_digit none =
    let first = first_part separator text in
    taken_first number_of separator text first ∙ rw (none first.size first.within (ends_first separator text first no_digit)) refl

-- a word that goes on after a number is none
pub other_end : (separator : ℕ) (text : List ℕ) (number size : ℕ) → is_ascii_digit separator ≡ false → IsNumberAt text number size → size < length text → (get_or text size 0 ≡ separator → ⊥) → taken number_of (parts separator text) ≡ None
other_end separator text number size no_digit at below other =
    let first = first_part separator text in
    let later : size ≤ first.size = digits_until text size first.size at.within (number_digits (take size text) number at.is) (ends_first separator text first no_digit) in
    let past : size < first.size = elim (lt_or_le size first.size) [
      | inl before ↦ before
      | inr same ↦
          let same_place : first.size ≡ size = omega arith in
          elim first.stops [
            | inl at_end ↦ absurd (omega arith)
            | inr here ↦ absurd (other (sym (ap (λ i. get_or text i 0) same_place) ∙ here))
          ]
    ] in
    taken_first number_of separator text first ∙ rw (not_number_past text size first.size past first.within at.ends) refl

-- the word of a number that ends there
pub number_first : (text : List ℕ) (number size : ℕ) (after : List (List ℕ)) → IsNumberAt text number size → (Lacks 32 (take size text) → parts 32 text ≡ take size text ∷ after) → taken number_of (parts 32 text) ≡ Some (number, after)
unfolding taken
number_first text number size after at cuts =
    let lacks : Lacks 32 (take size text) = digits_lack 32 (take size text) refl (number_digits (take size text) number at.is) in
    rw (cuts lacks, at.is) refl

-- a value with no sign is that of the number
unsigned_value : (word : List ℕ) → (get_or word 0 0 == 45) ≡ false → value_of word ≡ option_and_then positive_value (number_of word)
unfolding value_of number_of is_numeral
unsigned_value [] plain = refl
unsigned_value (first ∷ rest) plain = rw plain refl

-- what is made of a number, and the words after it
abbrev pub valued : (ℕ → Option ℤ) → Option (ℕ × List (List ℕ)) → Option (ℤ × List (List ℕ))
valued make None = None
valued make (Some a) = option_map (λ v. (v, a.1)) (make a.0)

valued_mapped : (make : ℕ → Option ℤ) (rest : List (List ℕ)) (o : Option ℕ) → option_map {U = ℤ × List (List ℕ)} (λ v. (v, rest)) (option_and_then make o) ≡ valued make (option_map (λ n. (n, rest)) o)
valued_mapped make rest None = refl
valued_mapped make rest (Some n) = refl

-- a word begins with no byte that its text does not begin with
pub first_byte : (byte : ℕ) (text : List ℕ) (size : ℕ) → (0 == byte) ≡ false → (get_or text 0 0 == byte) ≡ false → (get_or (take size text) 0 0 == byte) ≡ false
first_byte byte text size other plain = elim (lt_or_le 0 size) [
  | inl some ↦ rw (get_or-take size text 0 0 some) plain
  | inr none ↦ rw (get_or_past (take size text) 0 0 (omega (arith, length-take size text))) other
]

pub unsigned_read : (text : List ℕ) → (get_or text 0 0 == 45) ≡ false → taken value_of (parts 32 text) ≡ valued positive_value (taken number_of (parts 32 text))
unsigned_read text plain =
    let first = first_part 32 text in
    taken_first value_of 32 text first
    ∙ ap (option_map (λ v. (v, first.rest))) (unsigned_value (take first.size text) (first_byte 45 text first.size refl plain))
    ∙ valued_mapped positive_value first.rest (number_of (take first.size text))
    ∙ ap (valued positive_value) (sym (taken_first number_of 32 text first))

-- one with a sign is that of the number after it
signed_text : (text : List ℕ) → (get_or text 0 0 == 45) ≡ true → text ≡ 45 ∷ drop 1 text
signed_text [] sign = absurd (cc)
signed_text (b ∷ text) sign = rw (eqb-true b 45 sign) refl

signed_parts : (text : List ℕ) → taken value_of (parts 32 (45 ∷ text)) ≡ valued negative_value (taken number_of (parts 32 text))
unfolding parts taken value_of
signed_parts text =
    let first = first_part 32 text in
    rw first.is (valued_mapped negative_value first.rest (number_of (take first.size text)))

pub signed_read : (text : List ℕ) → (get_or text 0 0 == 45) ≡ true → taken value_of (parts 32 text) ≡ valued negative_value (taken number_of (parts 32 (drop 1 text)))
signed_read text sign = ap (λ (t : List ℕ). taken value_of (parts 32 t)) (signed_text text sign) ∙ signed_parts (drop 1 text)

-- what is taken, as it is read
pub takes_mapped : {A : Type 0} (read : List ℕ → Option A) (old new : LineLeft) (o : Option A) → new.tail ≡ old.tail → taken read old.words ≡ option_map (λ x. (x, new.words)) o → Takes read old o new
takes_mapped read old new None same e = e
takes_mapped read old new (Some x) same e = (e, same)

pub takes_same : {A : Type 0} (read read' : List ℕ → Option A) (old new : LineLeft) (o : Option A) → taken read old.words ≡ taken read' old.words → Takes read' old o new → Takes read old o new
takes_same read read' old new None same takes = same ∙ takes
takes_same read read' old new (Some x) same takes = (same ∙ takes.0, takes.1)
