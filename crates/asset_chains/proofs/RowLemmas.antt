-- Keys that are linked in order.
use Rattle.std.proofs.Common.{◌≡◌, ℕ, ◌+◌, ◌-◌, true, false, eqb, List, [], ◌∷◌, ◌++◌, length, unwrap_or, refl, sym, ap, subst, ◌∙◌, arith, suc}
use Rattle.std.specs.List.{IsDistinct}
use Rattle.std.proofs.lemmas.List.{length-append, append-nil}
use Rattle.std.proofs.lemmas.Bool.{or_left, or_right, or_parts, eqb-false, eq-eqb, ne_eqb, cond-true, cond-false}
use Rattle.asset_chains.specs.Chained.{first_of, last_of, behind, ahead, lists}
use Rattle.asset_chains.specs.declared.links.Link.{Link}
use Rattle.asset_chains.specs.declared.heads.Head.{Head}
use Rattle.asset_chains.specs.Linked.{decoded, with_after, with_before, first_code, last_code, head_of, IsRow, walk}
use Rattle.asset_chains.proofs.KeyLemmas.{distinct_head, distinct_tail, listed_apart, split_at_key}

-- ---- stored ends
pub last_code-cons : (other x : ℕ) (xs : List ℕ) → last_code other (x ∷ xs) ≡ suc (unwrap_or (last_of xs) x)
last_code-cons other x [] = refl
last_code-cons other x (y ∷ ys) = last_code-cons (suc x) y ys

pub decoded_last : (keys : List ℕ) → decoded (last_code 0 keys) ≡ last_of keys
decoded_last [] = refl
decoded_last (x ∷ xs) = ap decoded (last_code-cons 0 x xs)

pub decoded_first : (keys : List ℕ) → decoded (first_code keys 0) ≡ first_of keys
decoded_first [] = refl
decoded_first (x ∷ xs) = refl

pub last_code-append : (other : ℕ) (xs ys : List ℕ) → last_code other (xs ++ ys) ≡ last_code (last_code other xs) ys
last_code-append other [] ys = refl
last_code-append other (x ∷ xs) ys = last_code-append (suc x) xs ys

pub first_code-append : (xs ys : List ℕ) (other : ℕ) → first_code (xs ++ ys) other ≡ first_code xs (first_code ys other)
first_code-append [] ys other = refl
first_code-append (x ∷ xs) ys other = refl

suc_apart : (j x : ℕ) → eqb j x ≡ false → eqb (suc j) (suc x) ≡ false
suc_apart j x apart = ne_eqb (suc j) (suc x) (λ same. eqb-false j x apart (omega (arith, same)))

-- a key that is not listed is stored as neither end
pub not_last : (keys : List ℕ) (j : ℕ) → lists keys j ≡ false → eqb (suc j) (last_code 0 keys) ≡ false
not_last [] j absent = ne_eqb (suc j) 0 (λ same. omega (arith, same))
not_last (x ∷ []) j absent = suc_apart j x (or_parts (eqb j x) false absent).0
not_last (x ∷ y ∷ ys) j absent = not_last (y ∷ ys) j (or_parts (eqb j x) (lists (y ∷ ys) j) absent).1

pub not_first : (keys : List ℕ) (j : ℕ) → lists keys j ≡ false → eqb (suc j) (first_code keys 0) ≡ false
not_first [] j absent = ne_eqb (suc j) 0 (λ same. omega (arith, same))
not_first (x ∷ xs) j absent = suc_apart j x (or_parts (eqb j x) (lists xs j) absent).0

-- ---- rows
pub row_split : (link : ℕ → Link) (c before : ℕ) (xs ys : List ℕ) (after : ℕ) → IsRow link c before (xs ++ ys) after
    → IsRow link c before xs (first_code ys after) × IsRow link c (last_code before xs) ys after
row_split link c before [] ys after row = (tt, row)
row_split link c before (x ∷ xs) ys after row =
    let rest = row_split link c (suc x) xs ys after row.1 in
    ((row.0 ∙ ap (λ next. record { home = suc c; before = before; after = next }) (first_code-append xs ys after), rest.0), rest.1)

pub row_join : (link : ℕ → Link) (c before : ℕ) (xs ys : List ℕ) (after : ℕ) → IsRow link c before xs (first_code ys after) → IsRow link c (last_code before xs) ys after
    → IsRow link c before (xs ++ ys) after
row_join link c before [] ys after front back = back
row_join link c before (x ∷ xs) ys after front back =
    (front.0 ∙ ap (λ next. record { home = suc c; before = before; after = next }) (sym (first_code-append xs ys after)), row_join link c (suc x) xs ys after front.1 back)

-- a row depends on the links of its keys alone
pub row_frame : (old new : ℕ → Link) (c before : ℕ) (keys : List ℕ) (after : ℕ) → ((j : ℕ) → lists keys j ≡ true → new j ≡ old j)
    → IsRow old c before keys after → IsRow new c before keys after
row_frame old new c before [] after same row = tt
row_frame old new c before (x ∷ xs) after same row = (
  same x (or_left (eqb x x) (lists xs x) (eq-eqb x x refl)) ∙ row.0,
  row_frame old new c (suc x) xs after (λ j there. same j (or_right (eqb j x) (lists xs j) there)) row.1,
)

-- another key follows the last
pub row_after : (old new : ℕ → Link) (c before : ℕ) (keys : List ℕ) (after next : ℕ) → IsDistinct eqb keys → ((j : ℕ) → lists keys j ≡ true → new j ≡ with_after (last_code 0 keys) next old j)
    → IsRow old c before keys after → IsRow new c before keys next
row_after old new c before [] after next distinct changed row = tt
row_after old new c before (x ∷ []) after next distinct changed row =
    (changed x (or_left (eqb x x) false (eq-eqb x x refl)) ∙ cond-true (eqb (suc x) (suc x)) _ _ (eq-eqb (suc x) (suc x) refl) ∙ ap (λ (l : Link). record l { after = next }) row.0, tt)
row_after old new c before (x ∷ y ∷ ys) after next distinct changed row =
    let other = not_last (y ∷ ys) x (distinct_head x (y ∷ ys) distinct) in (
      changed x (or_left (eqb x x) (lists (y ∷ ys) x) (eq-eqb x x refl)) ∙ cond-false (eqb (suc x) (last_code 0 (y ∷ ys))) _ _ other ∙ row.0,
      row_after old new c (suc x) (y ∷ ys) after next (distinct_tail x (y ∷ ys) distinct) (λ j there. changed j (or_right (eqb j x) (lists (y ∷ ys) j) there)) row.1,
    )

-- another key precedes the first
pub row_before : (old new : ℕ → Link) (c before : ℕ) (keys : List ℕ) (after previous : ℕ) → IsDistinct eqb keys → ((j : ℕ) → lists keys j ≡ true → new j ≡ with_before (first_code keys 0) previous old j)
    → IsRow old c before keys after → IsRow new c previous keys after
row_before old new c before [] after previous distinct changed row = tt
row_before old new c before (x ∷ xs) after previous distinct changed row = (
  changed x (or_left (eqb x x) (lists xs x) (eq-eqb x x refl)) ∙ cond-true (eqb (suc x) (suc x)) _ _ (eq-eqb (suc x) (suc x) refl) ∙ ap (λ (l : Link). record l { before = previous }) row.0,
  row_frame old new c (suc x) xs after
      (λ j there.
      let other : eqb j x ≡ false = ne_eqb j x (listed_apart xs j x there (distinct_head x xs distinct)) in
      changed j (or_right (eqb j x) (lists xs j) there) ∙ cond-false (eqb (suc j) (suc x)) _ _ (suc_apart j x other))
      row.1,
)

-- the walk from the first key over as many keys as there are finds them
pub walk_row : (link : ℕ → Link) (c before : ℕ) (keys : List ℕ) → IsRow link c before keys 0 → walk link (first_code keys 0) (length keys) ≡ keys
walk_row link c before [] row = refl
walk_row link c before (x ∷ xs) row =
    ap (λ rest. x ∷ rest) (ap (λ (l : Link). walk link l.after (length xs)) row.0 ∙ walk_row link c (suc x) xs row.1)

-- the link of a listed key
pub beside : (link : ℕ → Link) (c : ℕ) (keys : List ℕ) (k : ℕ) → lists keys k ≡ true → IsRow link c 0 keys 0
    → link k ≡ record { home = suc c; before = last_code 0 (ahead k keys); after = first_code (behind k keys) 0 }
beside link c keys k there row =
    let cut : IsRow link c 0 (ahead k keys ++ k ∷ behind k keys) 0 = subst (λ (l : List ℕ). IsRow link c 0 l 0) (split_at_key k keys there) row in
    (row_split link c 0 (ahead k keys) (k ∷ behind k keys) 0 cut).1.0

-- ---- heads
same_head : (a b : Head) → a.first ≡ b.first → a.last ≡ b.last → a.count ≡ b.count → a ≡ b
same_head a b first last count =
    ap (λ (n : ℕ). record a { first = n }) first ∙ ap (λ (n : ℕ). record { first = b.first; last = n; count = a.count }) last ∙ ap (λ (n : ℕ). record b { count = n }) count

-- the head of a chain with one more key at its end
pub head_with_last : (head : Head) (keys : List ℕ) (k first : ℕ) → head ≡ head_of keys → (head.last ≡ 0 → first ≡ suc k) → ((head.last ≡ 0 → ⊥) → first ≡ head.first)
    → record { first = first; last = suc k; count = head.count + 1 } ≡ head_of (keys ++ k ∷ [])
head_with_last head [] k first is empty more =
    same_head _ (head_of (k ∷ [])) (empty (ap (λ (h : Head). h.last) is)) refl (rw is refl)
head_with_last head (x ∷ xs) k first is empty more =
    let last : head.last ≡ suc (unwrap_or (last_of xs) x) = ap (λ (h : Head). h.last) is ∙ last_code-cons 0 x xs in
    let count : head.count ≡ length (x ∷ xs) = ap (λ (h : Head). h.count) is in
    same_head _ (head_of ((x ∷ xs) ++ k ∷ []))
    (more (λ none. omega (arith, last, none)) ∙ ap (λ (h : Head). h.first) is)
    (sym (last_code-append (suc x) xs (k ∷ [])))
    (omega (arith, count, length-append (x ∷ xs) (k ∷ [])))

first_without : (front back : List ℕ) (k before after first was : ℕ) → before ≡ last_code 0 front → after ≡ first_code back 0 → (before ≡ 0 → first ≡ after) → ((before ≡ 0 → ⊥) → first ≡ was)
    → was ≡ first_code (front ++ k ∷ back) 0 → first ≡ first_code (front ++ back) 0
first_without [] back k before after first was is_before is_after from_start keeps is = from_start is_before ∙ is_after
first_without (x ∷ xs) back k before after first was is_before is_after from_start keeps is = keeps (λ none. omega (arith, none, is_before, last_code-cons 0 x xs)) ∙ is

last_without : (front back : List ℕ) (k before after last was : ℕ) → before ≡ last_code 0 front → after ≡ first_code back 0 → (after ≡ 0 → last ≡ before) → ((after ≡ 0 → ⊥) → last ≡ was)
    → was ≡ last_code 0 (front ++ k ∷ back) → last ≡ last_code 0 (front ++ back)
last_without front [] k before after last was is_before is_after to_end keeps is = to_end is_after ∙ is_before ∙ ap (λ (l : List ℕ). last_code 0 l) (sym (append-nil front))
last_without front (y ∷ ys) k before after last was is_before is_after to_end keeps is =
    keeps (λ none. omega (arith, none, is_after)) ∙ is ∙ last_code-append 0 front (k ∷ y ∷ ys) ∙ sym (last_code-append 0 front (y ∷ ys))

-- the head of a chain without one of its keys
pub head_without : (head : Head) (front back : List ℕ) (k before after first last : ℕ) → head ≡ head_of (front ++ k ∷ back) → before ≡ last_code 0 front → after ≡ first_code back 0
    → (before ≡ 0 → first ≡ after) → ((before ≡ 0 → ⊥) → first ≡ head.first) → (after ≡ 0 → last ≡ before) → ((after ≡ 0 → ⊥) → last ≡ head.last)
    → record { first = first; last = last; count = head.count - 1 } ≡ head_of (front ++ back)
head_without head front back k before after first last is is_before is_after from_start keeps_first to_end keeps_last =
    let count : head.count ≡ length (front ++ k ∷ back) = ap (λ (h : Head). h.count) is in
    same_head _ (head_of (front ++ back))
    (first_without front back k before after first head.first is_before is_after from_start keeps_first (ap (λ (h : Head). h.first) is))
    (last_without front back k before after last head.last is_before is_after to_end keeps_last (ap (λ (h : Head). h.last) is))
    (omega (arith, count, length-append front (k ∷ back), length-append front back))
