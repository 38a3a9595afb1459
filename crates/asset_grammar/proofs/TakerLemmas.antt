-- The taker of a permit, by the first byte of its word.
use Rattle.std.proofs.Common.{◌≡◌, ℕ, ◌==◌, ◌<◌, inl, inr, true, false, List, [], ◌∷◌, length, get_or, take, Option, Some, refl, sym, ◌∙◌, arith}
use Rattle.std.specs.Prelude.{option_map}
use Rattle.std.proofs.lemmas.Bool.{eqb-true}
use Rattle.std.proofs.lemmas.List.{get_or-take}
use Rattle.asset_names.specs.declared.names.Txn.{Txn}
use Rattle.asset_grammar.specs.Numbers.{number_of, is_numeral}
use Rattle.asset_grammar.specs.Operands.{txn_of}
use Rattle.asset_grammar.specs.PermitOperands.{any_of, taker_of}
use Rattle.asset_grammar.specs.Words.{parts, taken}
use Rattle.asset_grammar.proofs.NumberLemmas.{lt_or_le}
use Rattle.asset_grammar.proofs.WordLemmas.{FirstPart, first_part, taken_first, first_byte}

-- a word that begins with `a` is `any`, or no taker
taker_is_any : (word : List ℕ) → (get_or word 0 0 == 97) ≡ true → taker_of word ≡ any_of word
unfolding taker_of any_of txn_of number_of is_numeral
taker_is_any [] starts = absurd (cc)
taker_is_any (b ∷ word) starts = rw (eqb-true b 97 starts) refl

-- another word names a transaction
taker_is_txn : (word : List ℕ) → (get_or word 0 0 == 97) ≡ false → taker_of word ≡ option_map Some (txn_of word)
unfolding taker_of
taker_is_txn [] other = refl
taker_is_txn (b ∷ word) other = rw other refl

same_made : (rest : List (List ℕ)) (o o' : Option (Option Txn)) → o ≡ o' → option_map {U = Option Txn × List (List ℕ)} (λ t. (t, rest)) o ≡ option_map {U = Option Txn × List (List ℕ)} (λ t. (t, rest)) o'
same_made rest o o' e = rw e refl

first_starts : (text : List ℕ) (size : ℕ) → 0 < size → (get_or text 0 0 == 97) ≡ true → (get_or (take size text) 0 0 == 97) ≡ true
first_starts text size some starts = rw (get_or-take size text 0 0 some) starts

starts_inside : (text : List ℕ) → (get_or text 0 0 == 97) ≡ true → 0 < length text
starts_inside [] starts = absurd (cc)
starts_inside (b ∷ text) starts = omega arith

first_is_some : (text : List ℕ) (first : FirstPart 32 text) → (get_or text 0 0 == 97) ≡ true → 0 < first.size
first_is_some text first starts = elim (lt_or_le 0 first.size) [
  | inl some ↦ some
  | inr none ↦
      let zero_is : first.size ≡ 0 = omega (arith, none) in
      elim first.stops [
        | inl at_end ↦ absurd (omega (arith, at_end, none, starts_inside text starts))
        | inr space ↦ absurd (cc (eqb-true _ _ starts, rw zero_is at space))
      ]
]

pub any_read : (text : List ℕ) → (get_or text 0 0 == 97) ≡ true → taken taker_of (parts 32 text) ≡ taken any_of (parts 32 text)
any_read text starts =
    let first = first_part 32 text in
    taken_first taker_of 32 text first
    ∙ same_made first.rest (taker_of (take first.size text)) (any_of (take first.size text)) (taker_is_any (take first.size text) (first_starts text first.size (first_is_some text first starts) starts))
    ∙ sym (taken_first any_of 32 text first)

pub txn_read : (text : List ℕ) → (get_or text 0 0 == 97) ≡ false → taken taker_of (parts 32 text) ≡ taken (λ word. option_map Some (txn_of word)) (parts 32 text)
txn_read text other =
    let first = first_part 32 text in
    taken_first taker_of 32 text first
    ∙ same_made first.rest (taker_of (take first.size text)) (option_map Some (txn_of (take first.size text))) (taker_is_txn (take first.size text) (first_byte 97 text first.size refl other))
    ∙ sym (taken_first (λ word. option_map Some (txn_of word)) 32 text first)
