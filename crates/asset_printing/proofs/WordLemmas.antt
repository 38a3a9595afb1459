-- Words that are joined by spaces are cut into the same words.
use Rattle.std.proofs.Common.{◌≡◌, ℕ, ◌<◌, ◌^◌, ◌==◌, Bool, true, false, not, List, [], ◌∷◌, refl, sym, ap, ◌∙◌, arith}
use Rattle.std.specs.Prelude.{ℤ, pos, negsuc, suc}
use Rattle.std.specs.Int.Signed.{mag}
use Rattle.std.specs.Char.{is_ascii_digit}
use Rattle.std.specs.Fmt.{decimal, signed_decimal}
use Rattle.std.specs.List.{list_all, join_with_byte}
use Rattle.std.proofs.lemmas.Bool.{eqb-true, eq-eqb, and_parts, true≢false}
use Rattle.std.proofs.lemmas.Fmt.{digits_decimal}
use Rattle.std.proofs.lemmas.List.Elements.{All-cons}
use Rattle.std.proofs.lemmas.List.Splits.{slice_split_at, slice_split_none}
use Rattle.asset_grammar.specs.Lines.{Lacks}
use Rattle.asset_grammar.specs.Words.{parts}
use Rattle.asset_grammar.proofs.NumberLemmas.{own}

-- no word has the byte
abbrev pub EachLacks : ℕ → List (List ℕ) → Type 0
EachLacks byte [] = Unit {0}
EachLacks byte (word ∷ rest) = Lacks byte word × EachLacks byte rest

-- a digit is no other byte
pub digit_is_not : (byte b : ℕ) → is_ascii_digit byte ≡ false → is_ascii_digit b ≡ true → (b == byte) ≡ false
digit_is_not byte b other digits = go (b == byte) refl where
  go : (t : Bool) → (b == byte) ≡ t → t ≡ false
  go true e = absurd (true≢false (sym digits ∙ ap is_ascii_digit (eqb-true b byte e) ∙ other))
  go false e = refl

pub digits_lack : (byte : ℕ) (bs : List ℕ) → is_ascii_digit byte ≡ false → list_all is_ascii_digit bs ≡ true → Lacks byte bs
unfolding Lacks
digits_lack byte [] other digits = λ k d below. absurd (omega (arith, below))
digits_lack byte (b ∷ bs) other digits =
    let parts = and_parts _ _ digits in
    All-cons (λ x. (x == byte) ≡ false) b bs (digit_is_not byte b other parts.0) (digits_lack byte bs other parts.1)

-- a number has digits alone
pub number_lacks : (byte n : ℕ) → is_ascii_digit byte ≡ false → n < 2 ^ 64 → Lacks byte (decimal n)
number_lacks byte n other small = digits_lack byte (decimal n) other (digits_decimal own n small)

-- a value has digits, and perhaps a minus sign
pub value_lacks : (z : ℤ) → mag z < 2 ^ 63 → Lacks 32 (signed_decimal z)
unfolding Lacks
value_lacks (pos n) small = number_lacks 32 n refl (omega arith)
value_lacks (negsuc n) small = All-cons (λ x. (x == 32) ≡ false) 45 (decimal (suc n)) refl (number_lacks 32 (suc n) refl (omega arith))

-- a text that is known lacks a byte if a test says so
pub text_lacks : (byte : ℕ) (bs : List ℕ) → list_all (λ b. not (b == byte)) bs ≡ true → Lacks byte bs
unfolding Lacks
text_lacks byte [] digits = λ k d below. absurd (omega (arith, below))
text_lacks byte (b ∷ bs) digits =
    let parts = and_parts _ _ digits in
    All-cons (λ x. (x == byte) ≡ false) b bs (differs (b == byte) parts.0) (text_lacks byte bs parts.1) where
      differs : (t : Bool) → not t ≡ true → t ≡ false
      differs true h = absurd (cc)
      differs false h = refl

-- words that lack the byte are cut where it joins them
pub cut_again : (byte : ℕ) (word : List ℕ) (rest : List (List ℕ)) → Lacks byte word → EachLacks byte rest → parts byte (join_with_byte byte (word ∷ rest)) ≡ word ∷ rest
unfolding parts Lacks
cut_again byte word [] lacks each = slice_split_none (λ b. b == byte) word lacks
cut_again byte word (next ∷ rest) lacks each =
    slice_split_at (λ b. b == byte) word byte (join_with_byte byte (next ∷ rest)) lacks (eq-eqb byte byte refl)
    ∙ ap (λ l. word ∷ l) (cut_again byte next rest each.0 each.1)
