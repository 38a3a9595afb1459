-- What one more item adds to a list or a text.
use Rattle.std.proofs.Common.{◌≡◌, ℕ, ◌+◌, ◌<◌, Bool, false, List, [], ◌∷◌, ◌++◌, get_or, length, map, take, refl, sym, ap, ◌∙◌, append-nil, append_assoc, arith}
use Rattle.std.specs.Prelude.{flat_map}
use Rattle.std.specs.List.{range_with_len, list_any}
use Rattle.std.proofs.lemmas.Grind.{flat_map-append}
use Rattle.std.proofs.lemmas.List.{take_more, flat_map_more, map_more}
use Rattle.std.proofs.lemmas.List.Folds.{flat_map-map, list_any-append}
use Rattle.std.proofs.lemmas.List.FromFn.{map-range_with_len_more}

-- the items of one more number
pub numbers_more : {A : Type 0} (items : ℕ → List A) (n : ℕ) → flat_map items (range_with_len 0 (n + 1)) ≡ flat_map items (range_with_len 0 n) ++ items n
numbers_more {A} items n =
    sym (flat_map-map whole items (range_with_len 0 (n + 1)))
    ∙ ap (flat_map whole) (map-range_with_len_more items 0 n n (omega arith))
    ∙ flat_map-append whole (map items (range_with_len 0 n)) (items n ∷ [])
    ∙ ap (λ l. l ++ flat_map whole (items n ∷ [])) (flat_map-map whole items (range_with_len 0 n))
    ∙ ap (λ l. flat_map items (range_with_len 0 n) ++ l) (append-nil (items n)) where
      whole : List A → List A
      whole l = l

-- the items of one more number, after others
pub number_more : {A : Type 0} (items : ℕ → List A) (n : ℕ) (before middle now : List A) → middle ≡ before ++ flat_map items (range_with_len 0 n) → now ≡ middle ++ items n → now ≡ before ++ flat_map items (range_with_len 0 (n + 1))
number_more {A} items n before middle now so_far more =
    more ∙ ap (λ (l : List A). l ++ items n) so_far ∙ append_assoc before (flat_map items (range_with_len 0 n)) (items n) ∙ ap (λ (l : List A). before ++ l) (sym (numbers_more items n))

-- the text of one more item
pub text_more : {A : Type 0} (one : A → List ℕ) (items : List A) (i : ℕ) (d : A) (before middle now : List ℕ) → i < length items → middle ≡ before ++ flat_map one (take i items) → now ≡ middle ++ one (get_or items i d)
    → now ≡ before ++ flat_map one (take (i + 1) items)
text_more one items i d before middle now below so_far more =
    rw (take_more items i d below) (more ∙ ap (λ (l : List ℕ). l ++ one (get_or items i d)) so_far ∙ flat_map_more one before (take i items) (get_or items i d))

-- one more changed item
pub item_more : {A B : Type 0} (f : A → B) (items : List A) (i : ℕ) (d : A) (before middle now : List B) → i < length items → middle ≡ before ++ map f (take i items) → now ≡ middle ++ f (get_or items i d) ∷ []
    → now ≡ before ++ map f (take (i + 1) items)
item_more {A} {B} f items i d before middle now below so_far more =
    more
    ∙ ap (λ (l : List B). l ++ f (get_or items i d) ∷ []) so_far
    ∙ append_assoc before (map f (take i items)) (f (get_or items i d) ∷ [])
    ∙ ap (λ (l : List B). before ++ l) (sym (map_more f items i d below))

-- none of the first items passes, nor does the next one
pub none_more : {A : Type 0} (test : A → Bool) (items : List A) (i : ℕ) (d : A) → i < length items → list_any test (take i items) ≡ false → test (get_or items i d) ≡ false → list_any test (take (i + 1) items) ≡ false
none_more test items i d below so_far here =
    rw (take_more items i d below) (list_any-append test (take i items) (get_or items i d ∷ []) ∙ rw (so_far, here) refl)
