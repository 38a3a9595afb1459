-- Objects in rising order.
use Rattle.std.proofs.Common.{◌≡◌, ◌≢◌, ℕ, zero, suc, ◌+◌, ◌≤◌, ◌<◌, Bool, true, false, cond, eqb, List, [], ◌∷◌, length, get_or, take, drop, replicate, ◌-◌, refl, sym, ◌∙◌, ap, subst, arith, add-one}
use Rattle.std.specs.Prelude.{IsPermutation}
use Rattle.std.specs.List.{count_by}
use Rattle.std.specs.List.Sorted.{IsNonDecreasingBy, IsStrictlyIncreasing}
use Rattle.std.proofs.lemmas.List.Sums.{sum_by-cons}
use Rattle.std.proofs.lemmas.List.Sorted.{sum_by-IsPermutation, length_permutation}
use Rattle.std.proofs.lemmas.List.{take-append-drop, length-append, length-replicate}
use Rattle.std.proofs.lemmas.Bool.{eq-eqb, eqb-true, eqb-false, leb-false}
use Rattle.asset_names.specs.declared.names.Ob.{Ob}
use Rattle.asset_names.specs.Sets.{numbers, twice, HasNoDouble, no_object_name}
use Rattle.asset_names.proofs.DoubleLemmas.{count_by_map}

-- the number of the object in a slot
numbers-at : (objects : List Ob) (k : ℕ) → get_or (numbers objects) k 0 ≡ (get_or objects k no_object_name).0
unfolding numbers
numbers-at [] k = refl
numbers-at (x ∷ objects) zero = refl
numbers-at (x ∷ objects) (suc k) = numbers-at objects k

length-numbers : (objects : List Ob) → length (numbers objects) ≡ length objects
unfolding numbers
length-numbers [] = refl
length-numbers (x ∷ objects) = ap suc (length-numbers objects)

-- how often a number stands in a longer list
count_more : (n m : ℕ) (ns : List ℕ) → count_by (λ k. eqb k n) (m ∷ ns) ≡ cond (eqb m n) 1 0 + count_by (λ k. eqb k n) ns
count_more n m ns = sum_by-cons (λ k. cond (eqb k n) 1 0) m ns

-- two equal neighbours are one number twice
neighbours_twice : (ns : List ℕ) (k n : ℕ) → suc k < length ns → get_or ns k 0 ≡ n → get_or ns (suc k) 0 ≡ n → 2 ≤ count_by (λ m. eqb m n) ns
neighbours_twice [] k n below p q = absurd (omega arith)
neighbours_twice (a ∷ []) k n below p q = absurd (omega arith)
neighbours_twice (a ∷ b ∷ ns) zero n below p q =
    rw (count_more n a (b ∷ ns), count_more n b ns, eq-eqb a n p, eq-eqb b n q) (omega arith)
neighbours_twice (a ∷ b ∷ ns) (suc k) n below p q =
    rw (count_more n a (b ∷ ns)) (omega (arith, neighbours_twice (b ∷ ns) k n (omega arith) p q))

-- another order has the same doubles
no_double-permutation : (xs ys : List Ob) → IsPermutation xs ys → HasNoDouble (numbers xs) → HasNoDouble (numbers ys)
unfolding HasNoDouble twice numbers
no_double-permutation xs ys same none = λ m.
    let counts = sum_by-IsPermutation (λ (x : Ob). cond (eqb x.0 m) 1 0) xs ys same in
    rw (count_by_map (λ (x : Ob). x.0) ys m, counts, ← count_by_map (λ (x : Ob). x.0) xs m) (none m)

-- what does not fall and has no number twice rises
rises : (objects : List Ob) → IsNonDecreasingBy (λ (x : Ob). x.0) objects → HasNoDouble (numbers objects) → IsStrictlyIncreasing (numbers objects)
unfolding HasNoDouble twice
rises objects sorted none = λ k below. rw add-one (
    let ns = numbers objects in
    let there : suc k < length objects = omega (arith, length-numbers objects) in
    let order = sorted k (suc k) no_object_name (omega arith) there in
    let apart : get_or ns (suc k) 0 ≢ get_or ns k 0 = (λ same.
    let two = neighbours_twice ns k (get_or ns k 0) (omega arith) refl same in
    omega (arith, leb-false 2 _ (none (get_or ns k 0)))) in
    omega (arith, numbers-at objects k, numbers-at objects (suc k), apart))

-- sorted objects of which none occurs twice are in rising order
pub sorted_rises : (objects kept : List Ob) → IsPermutation objects kept → IsNonDecreasingBy (λ (x : Ob). x.0) kept → HasNoDouble (numbers objects) → IsStrictlyIncreasing (numbers kept)
sorted_rises objects kept same sorted none = rises kept sorted (no_double-permutation objects kept same none)

-- how many slots there are, by the objects in front and the empty slots after them
pub slots_all : (objects slots : List Ob) → length objects ≤ 16 → IsPermutation objects (take (length objects) slots) → drop (length objects) slots ≡ replicate (16 - length objects) no_object_name → length slots ≡ 16
slots_all objects slots few same rest =
    let n = length objects in
    let front = length_permutation objects (take n slots) same in
    let behind = ap length rest ∙ length-replicate (16 - n) no_object_name in
    omega (arith, front, behind, ap length (take-append-drop n slots), length-append (take n slots) (drop n slots))

-- how many slots there are, if the objects stand in front as they came
pub slots_given : (objects slots : List Ob) → length objects ≤ 16 → take (length objects) slots ≡ objects → drop (length objects) slots ≡ replicate (16 - length objects) no_object_name → length slots ≡ 16
slots_given objects slots few front rest =
    let n = length objects in
    let behind = ap length rest ∙ length-replicate (16 - n) no_object_name in
    omega (arith, few, ap length front, behind, ap length (take-append-drop n slots), length-append (take n slots) (drop n slots))

-- each object in front is below the next, and so is the last of them below the one that follows
pub rises_on : (objects : List Ob) (i : ℕ) → 1 ≤ i → ((k : ℕ) → k + 1 < i → get_or (numbers objects) k 0 < get_or (numbers objects) (k + 1) 0)
    → (get_or objects (i - 1) no_object_name).0 < (get_or objects i no_object_name).0 → (k : ℕ) → k + 1 < i + 1 → get_or (numbers objects) k 0 < get_or (numbers objects) (k + 1) 0
rises_on objects i some before next k below = go (eqb (k + 1) i) refl where
  go : (last : Bool) → eqb (k + 1) i ≡ last → get_or (numbers objects) k 0 < get_or (numbers objects) (k + 1) 0
  go false e = before k (omega (arith, below, eqb-false (k + 1) i e))
  go true e =
      let here : i ≡ k + 1 = sym (eqb-true (k + 1) i e) in
      let back : i - 1 ≡ k = omega (arith, here) in
      let step = subst (λ m. (get_or objects k no_object_name).0 < (get_or objects m no_object_name).0) here (subst (λ m. (get_or objects m no_object_name).0 < (get_or objects i no_object_name).0) back next) in
      omega (arith, step, numbers-at objects k, numbers-at objects (k + 1))

-- an object that is not above the one before it
pub not_rising : (objects : List Ob) (i : ℕ) → 1 ≤ i → i < length objects → (get_or objects i no_object_name).0 ≤ (get_or objects (i - 1) no_object_name).0 → IsStrictlyIncreasing (numbers objects) → ⊥
not_rising objects i some there falls up =
    let same : i - 1 + 1 ≡ i = omega (arith, some) in
    let here = subst (λ m. get_or (numbers objects) (i - 1) 0 < get_or (numbers objects) m 0) same (up (i - 1) (omega (arith, some, there, length-numbers objects))) in
    omega (arith, here, falls, numbers-at objects i, numbers-at objects (i - 1))

-- each object is below the next, up to the last
pub rises_whole : (objects : List Ob) (i : ℕ) → length objects ≤ i → ((k : ℕ) → k + 1 < i → get_or (numbers objects) k 0 < get_or (numbers objects) (k + 1) 0) → IsStrictlyIncreasing (numbers objects)
rises_whole objects i all before k below = before k (omega (arith, all, below, length-numbers objects))
