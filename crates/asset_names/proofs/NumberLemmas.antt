-- Numbers of objects among those that stand in a row.
use Rattle.std.proofs.Common.{◌≡◌, ℕ, ◌+◌, ◌<◌, ◌≤◌, suc, Bool, true, false, cond, not, eqb, ltb, ◌||◌, List, [], ◌∷◌, ◌++◌, length, get_or, Option, Some, None, refl, sym, ap, ◌∙◌, arith}
use Rattle.std.specs.Option.{option_map}
use Rattle.std.specs.List.{list_any, position, position_or_len}
use Rattle.std.proofs.lemmas.Bool.{eqb-true, eqb-false, eq-eqb, ne_eqb, ltb-true, ltb-false, lt-ltb}
use Rattle.asset_names.specs.declared.names.Ob.{Ob}
use Rattle.asset_names.specs.Numbered.{number_in}
use Rattle.asset_names.proofs.Common.{eqb-flip}

-- the object stands at its number
pub number_reads : (objects : List Ob) (x i : ℕ) → number_in objects x ≡ Some i → (i < length objects) × ((none : Ob) → (get_or objects i none).0 ≡ x)
unfolding number_in
number_reads [] x i is = cc is
number_reads (y ∷ ys) x i is = go (λ j. number_reads ys x j) (eqb y.0 x) refl (number_in ys x) refl is where
  go : ((j : ℕ) → number_in ys x ≡ Some j → (j < length ys) × ((none : Ob) → (get_or ys j none).0 ≡ x)) → (b : Bool) → eqb y.0 x ≡ b → (o : Option ℕ) → number_in ys x ≡ o → cond b (Some 0) (option_map suc o) ≡ Some i → (i < length (y ∷ ys)) × ((none : Ob) → (get_or (y ∷ ys) i none).0 ≡ x)
  go ih true e o rest found =
      let zero_is : 0 ≡ i = cc found in
      (omega (arith, zero_is), λ none. ap (λ (n : ℕ). (get_or (y ∷ ys) n none).0) (sym zero_is) ∙ eqb-true y.0 x e)
  go ih false e None rest found = cc found
  go ih false e (Some j) rest found =
      let next : suc j ≡ i = cc found in
      let later = ih j rest in
      (omega (arith, next, later.0), λ none. ap (λ (n : ℕ). (get_or (y ∷ ys) n none).0) (sym next) ∙ later.1 none)

-- two objects have two numbers
pub number_one : (objects : List Ob) (x y n : ℕ) → number_in objects x ≡ Some n → number_in objects y ≡ Some n → x ≡ y
number_one objects x y n first second = sym ((number_reads objects x n first).1 (record { 0 = 0 })) ∙ (number_reads objects y n second).1 (record { 0 = 0 })

pub number_same : (objects : List Ob) (x y j i : ℕ) → number_in objects x ≡ Some j → number_in objects y ≡ Some i → eqb j i ≡ eqb x y
number_same objects x y j i at_x at_y = go (eqb x y) refl where
  go : (b : Bool) → eqb x y ≡ b → eqb j i ≡ b
  go true e =
      let both : Some j ≡ Some i = sym at_x ∙ ap (number_in objects) (eqb-true x y e) ∙ at_y in
      let same : j ≡ i = cc both in
      eq-eqb j i same
  go false e = ne_eqb j i (λ same. eqb-false x y e (number_one objects x y j at_x (at_y ∙ ap Some (sym same))))

ltb-past : (m n : ℕ) → n ≤ m → ltb m n ≡ false
ltb-past m n past = go (ltb m n) refl where
  go : (b : Bool) → ltb m n ≡ b → ltb m n ≡ false
  go true below = absurd (omega (arith, past, ltb-true m n below))
  go false above = above

-- the position that a search finds
pub number_found : (test : Ob → Bool) (x : ℕ) → ((y : Ob) → test y ≡ eqb x y.0) → (objects : List Ob) → position test objects ≡ number_in objects x
unfolding number_in
number_found test x h [] = refl
number_found test x h (y ∷ ys) = go (test y) (position_or_len test ys) (number_found test x h ys) ∙ ap (λ (b : Bool). cond b (Some 0) (option_map suc (number_in ys x))) (h y ∙ eqb-flip x y.0) where
  stays : (n many : ℕ) (b : Bool) → ltb n many ≡ b → cond (ltb (1 + n) (suc many)) (Some (1 + n)) None ≡ option_map suc (cond b (Some n) None)
  stays n many true below = rw (lt-ltb (1 + n) (suc many) (omega (arith, ltb-true n many below))) (ap Some (omega arith))
  stays n many false past = rw (ltb-past (1 + n) (suc many) (omega (arith, ltb-false n many past))) refl

  go : (b : Bool) (n : ℕ) → cond (ltb n (length ys)) (Some n) None ≡ number_in ys x
      → cond (ltb (cond (not b) (1 + n) 0) (suc (length ys))) (Some (cond (not b) (1 + n) 0)) None ≡ cond b (Some 0) (option_map suc (number_in ys x))
  go true n ih = rw (lt-ltb 0 (suc (length ys)) (omega arith)) refl
  go false n ih = stays n (length ys) (ltb n (length ys)) refl ∙ ap (option_map suc) ih

-- ---- one more object
pub number_more : (objects : List Ob) (y : Ob) (x n : ℕ) → number_in objects x ≡ Some n → number_in (objects ++ y ∷ []) x ≡ Some n
unfolding number_in
number_more [] y x n is = cc is
number_more (o ∷ os) y x n is = go (λ m. number_more os y x m) (eqb o.0 x) (number_in os x) refl is where
  go : ((m : ℕ) → number_in os x ≡ Some m → number_in (os ++ y ∷ []) x ≡ Some m) → (b : Bool) (found : Option ℕ) → number_in os x ≡ found
      → cond b (Some 0) (option_map suc found) ≡ Some n → cond b (Some 0) (option_map suc (number_in (os ++ y ∷ []) x)) ≡ Some n
  go ih true found rest here = here
  go ih false None rest here = cc here
  go ih false (Some m) rest here = ap (option_map suc) (ih m rest) ∙ here

-- and it has the next number itself
pub number_new : (objects : List Ob) (y : Ob) → number_in objects y.0 ≡ None → number_in (objects ++ y ∷ []) y.0 ≡ Some (length objects)
unfolding number_in
number_new [] y none = ap (λ (b : Bool). cond b (Some 0) None) (eq-eqb y.0 y.0 refl)
number_new (o ∷ os) y none = go (number_new os y) (eqb o.0 y.0) (number_in os y.0) refl none where
  go : (number_in os y.0 ≡ None → number_in (os ++ y ∷ []) y.0 ≡ Some (length os)) → (b : Bool) (found : Option ℕ) → number_in os y.0 ≡ found
      → cond b (Some 0) (option_map suc found) ≡ None → cond b (Some 0) (option_map suc (number_in (os ++ y ∷ []) y.0)) ≡ Some (suc (length os))
  go ih true found rest here = cc here
  go ih false None rest here = ap (option_map suc) (ih rest)
  go ih false (Some m) rest here = cc here

-- an object without a number is not there
pub unnumbered : (objects : List Ob) (y : Ob) → number_in objects y.0 ≡ None → list_any (λ (o : Ob). eqb y.0 o.0) objects ≡ false
unfolding number_in
unnumbered [] y none = refl
unnumbered (o ∷ os) y none = go (unnumbered os y) (eqb o.0 y.0) (eqb-flip o.0 y.0) (number_in os y.0) refl none where
  go : (number_in os y.0 ≡ None → list_any (λ (z : Ob). eqb y.0 z.0) os ≡ false) → (b : Bool) → b ≡ eqb y.0 o.0 → (found : Option ℕ) → number_in os y.0 ≡ found
      → cond b (Some 0) (option_map suc found) ≡ None → eqb y.0 o.0 || list_any (λ (z : Ob). eqb y.0 z.0) os ≡ false
  go ih true flip found rest here = cc here
  go ih false flip None rest here = rw (sym flip) (ih rest)
  go ih false flip (Some m) rest here = cc here
