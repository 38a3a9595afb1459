-- Lists of descriptors: two that say the same are one; what stands after one more, and that none stands twice.
use Rattle.std.proofs.Common.{◌≡◌, ℕ, Bool, true, false, eqb, ◌&&◌, List, [], ◌∷◌, ◌||◌, refl, ap, ◌∙◌, OnOk}
use Rattle.std.specs.Prelude.{Result}
use Rattle.std.specs.Bool.{beq}
use Rattle.std.specs.Cmp.Lexicographic.{pointwise}
use Rattle.std.proofs.lemmas.Bool.{and_from, and_parts, eqb-true, eq-eqb, false≢true}
use Rattle.asset_names.specs.declared.names.Ob.{Ob}
use Rattle.asset_names.specs.declared.operations.Op.{Op}
use Rattle.asset_names.specs.declared.sets.ObSet.{ObSet}
use Rattle.asset_names.specs.declared.sets.ObSet.TheVariants.{All, Listed}
use Rattle.asset_names.specs.InSet.{in_set}
use Rattle.asset_names.specs.OpSets.{has_op, OpSet}
use Rattle.asset_names.proofs.Common.{eqb-flip, on_ok, and_false, or_false}
use Rattle.asset_permits.specs.Descriptors.{Descriptor, named_permit, open_permit, same_objects, same_ops, same_descriptor, includes, covers, lets, one_covers, opens_on, lets_all, opens}

-- ---- two that say the same
beq-true : (p q : Bool) → beq p q ≡ true → p ≡ q
beq-true true true h = refl
beq-true true false h = absurd (false≢true h)
beq-true false true h = absurd (false≢true h)
beq-true false false h = refl

beq_self : (p : Bool) → beq p p ≡ true
beq_self true = refl
beq_self false = refl

same_lists : (xs ys : List Ob) → pointwise (λ (x y : Ob). eqb x.0 y.0) xs ys ≡ true → xs ≡ ys
same_lists [] [] h = refl
same_lists [] (y ∷ ys) h = absurd (false≢true h)
same_lists (x ∷ xs) [] h = absurd (false≢true h)
same_lists (x ∷ xs) (y ∷ ys) h =
    let parts = and_parts (eqb x.0 y.0) _ h in
    let heads = eqb-true x.0 y.0 parts.0 in
    let rest = same_lists xs ys parts.1 in
    λ i. record { 0 = heads i } ∷ rest i

lists_self : (xs : List Ob) → pointwise (λ (x y : Ob). eqb x.0 y.0) xs xs ≡ true
lists_self [] = refl
lists_self (x ∷ xs) = and_from (eqb x.0 x.0) _ (eq-eqb x.0 x.0 refl) (lists_self xs)

objects_are : (s r : ObSet) → same_objects s r ≡ true → s ≡ r
unfolding same_objects
objects_are All All h = refl
objects_are All (Listed ys) h = absurd (false≢true h)
objects_are (Listed xs) All h = absurd (false≢true h)
objects_are (Listed xs) (Listed ys) h = ap (λ list. Listed list) (same_lists xs ys h)

objects_self : (s : ObSet) → same_objects s s ≡ true
unfolding same_objects
objects_self All = refl
objects_self (Listed xs) = lists_self xs

ops_are : (p q : OpSet) → same_ops p q ≡ true → p ≡ q
unfolding same_ops
ops_are p q h =
    let all = and_parts _ _ h in
    let parts = and_parts _ _ all.0 in
    λ i. record { read = beq-true p.read q.read parts.0 i; write = beq-true p.write q.write parts.1 i; add = beq-true p.add q.add all.1 i }

pub same_is : (d e : Descriptor) → same_descriptor d e ≡ true → d ≡ e
unfolding same_descriptor
same_is d e h =
    let all = and_parts _ _ h in
    let four = and_parts _ _ all.0 in
    let three = and_parts _ _ four.0 in
    let names = and_parts _ _ three.0 in
    let giver = eqb-true d.giver e.giver names.0 in
    let taker = eqb-true d.taker e.taker names.1 in
    let objects = objects_are d.objects e.objects three.1 in
    let ops = ops_are d.ops e.ops four.1 in
    let flag = beq-true d.is_open e.is_open all.1 in
    λ i. record { giver = giver i; taker = taker i; objects = objects i; ops = ops i; is_open = flag i }

pub same_self : (d : Descriptor) → same_descriptor d d ≡ true
unfolding same_descriptor same_ops
same_self d =
    and_from _ _
    (and_from _ _ (and_from _ _ (and_from _ _ (eq-eqb d.giver d.giver refl) (eq-eqb d.taker d.taker refl)) (objects_self d.objects)) (and_from _ _ (and_from _ _ (beq_self d.ops.read) (beq_self d.ops.write)) (beq_self d.ops.add)))
    (beq_self d.is_open)

-- ---- who is let, as callers say it

regrouped : (p q r s : Bool) → (p && q && (r && s)) ≡ (p && q && r && s)
regrouped true true r s = refl
regrouped true false r s = refl
regrouped false q r s = refl

pub lets_by : (u t x giver taker : ℕ) (op : Op) (objects : ObSet) (ops : OpSet) → lets u t x op (named_permit giver taker objects ops) ≡ (eqb u giver && eqb t taker && in_set objects x && has_op ops op)
unfolding lets covers includes
lets_by u t x giver taker op objects ops =
    (λ i. eqb-flip giver u i && eqb-flip taker t i && (in_set objects x && has_op ops op))
    ∙ regrouped (eqb u giver) (eqb t taker) (in_set objects x) (has_op ops op)

-- a named permit opens nothing
pub named_closed : (u x giver taker : ℕ) (op : Op) (objects : ObSet) (ops : OpSet) → lets_all u x op (named_permit giver taker objects ops) ≡ false
unfolding lets_all opens_on
named_closed u x giver taker op objects ops = and_false (eqb giver u)

-- an open permit names nobody
pub open_unnamed : (u t x giver : ℕ) (op : Op) (objects : ObSet) (ops : OpSet) → lets u t x op (open_permit giver objects ops) ≡ false
unfolding lets covers
open_unnamed u t x giver op objects ops = and_false (eqb giver u && eqb giver t)

pub opens_by : (u x giver : ℕ) (op : Op) (objects : ObSet) (ops : OpSet) → lets_all u x op (open_permit giver objects ops) ≡ (eqb u giver && in_set objects x && has_op ops op)
unfolding lets_all opens_on includes
opens_by u x giver op objects ops = (λ i. eqb-flip giver u i && (in_set objects x && has_op ops op)) ∙ grouped (eqb u giver) (in_set objects x) (has_op ops op) where
  grouped : (p q r : Bool) → (p && (q && r)) ≡ (p && q && r)
  grouped true q r = refl
  grouped false q r = refl

-- what one more covers, said by its parts
pub covers_by : {T E : Type 0} (r : Result T E) (old new : List Descriptor) (giver taker : ℕ) (objects : ObSet) (ops : OpSet)
    → OnOk r ((u t x : ℕ) (op : Op) → one_covers new u t x op ≡ (one_covers old u t x op || lets u t x op (named_permit giver taker objects ops)))
    → OnOk r ((u t x : ℕ) (op : Op) → one_covers new u t x op ≡ (one_covers old u t x op || (eqb u giver && eqb t taker && in_set objects x && has_op ops op)))
covers_by r old new giver taker objects ops = on_ok r (λ covers. λ u t x op. covers u t x op ∙ ap (λ b. one_covers old u t x op || b) (lets_by u t x giver taker op objects ops))

-- one more named permit opens nothing
pub opens_still : {T E : Type 0} (r : Result T E) (old new : List Descriptor) (giver taker : ℕ) (objects : ObSet) (ops : OpSet)
    → OnOk r ((u x : ℕ) (op : Op) → opens new u x op ≡ (opens old u x op || lets_all u x op (named_permit giver taker objects ops)))
    → OnOk r ((u x : ℕ) (op : Op) → opens new u x op ≡ opens old u x op)
opens_still r old new giver taker objects ops = on_ok r (λ more. λ u x op. more u x op ∙ ap (λ b. opens old u x op || b) (named_closed u x giver taker op objects ops) ∙ or_false (opens old u x op))

-- one more open permit covers nothing by name
pub covers_still : {T E : Type 0} (r : Result T E) (old new : List Descriptor) (giver : ℕ) (objects : ObSet) (ops : OpSet)
    → OnOk r ((u t x : ℕ) (op : Op) → one_covers new u t x op ≡ (one_covers old u t x op || lets u t x op (open_permit giver objects ops)))
    → OnOk r ((u t x : ℕ) (op : Op) → one_covers new u t x op ≡ one_covers old u t x op)
covers_still r old new giver objects ops = on_ok r (λ more. λ u t x op. more u t x op ∙ ap (λ b. one_covers old u t x op || b) (open_unnamed u t x giver op objects ops) ∙ or_false (one_covers old u t x op))

-- what one more opens, said by its parts
pub opens_more : {T E : Type 0} (r : Result T E) (old new : List Descriptor) (giver : ℕ) (objects : ObSet) (ops : OpSet)
    → OnOk r ((u x : ℕ) (op : Op) → opens new u x op ≡ (opens old u x op || lets_all u x op (open_permit giver objects ops)))
    → OnOk r ((u x : ℕ) (op : Op) → opens new u x op ≡ (opens old u x op || (eqb u giver && in_set objects x && has_op ops op)))
opens_more r old new giver objects ops = on_ok r (λ more. λ u x op. more u x op ∙ ap (λ b. opens old u x op || b) (opens_by u x giver op objects ops))
