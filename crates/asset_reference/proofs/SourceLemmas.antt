-- What one more entry says of a class.
use Rattle.std.proofs.Common.{◌≡◌, ℕ, ◌+◌, ◌<◌, Bool, true, false, cond, ◌&&◌, ◌||◌, List, [], ◌∷◌, ◌++◌, length, get_or, take, reverse, not, refl, sym, ◌∙◌, ap}
use Rattle.std.specs.List.{list_all}
use Rattle.std.proofs.lemmas.List.Folds.{list_any-append}
use Rattle.asset_names.specs.declared.steps.Kind.TheVariants.{Cd, Ad, Gc}
use Rattle.asset_names.specs.declared.steps.Step.{Step}
use Rattle.asset_names.specs.declared.steps.Step.TheVariants.{Initiate, Begin, Read, Write, Add, Complete, Permit, PermitAny, Delegate, Depend, Commit, Abort, WaitFor}
use Rattle.asset_names.specs.Arrows.{Arrow, among}
use Rattle.asset_names.specs.Paths.{same_kind, has_outside}
use Rattle.asset_names.specs.Steps.{Entry, takes_effect, applied, initiated, initiated_by}
use Rattle.asset_names.specs.Endings.{dependency_by, dependencies, order_arrows, live, same_class, has_outside_source}
use Rattle.asset_names.proofs.ListLemmas.{any_filter}
use Rattle.asset_reference.specs.Sources.{outside_by, opens_outside, outside_within}
use Rattle.asset_reference.proofs.AppliedLemmas.{reverse_take_item}
use Rattle.asset_reference.proofs.ScanLemmas.{at_applied}

-- those who were initiated by one more entry
pub initiated_more : (entries : List Entry) (i : ℕ) (item : Entry) → i < length entries → item ≡ get_or entries i item
    → initiated (applied (reverse (take (i + 1) entries))) ≡ cond (takes_effect item.0 item.1) (initiated_by item.0 ++ initiated (applied (reverse (take i entries)))) (initiated (applied (reverse (take i entries))))
unfolding initiated
initiated_more entries i item below is = ap (λ list. initiated (applied list)) (reverse_take_item entries i item below is) ∙ at_applied initiated item (reverse (take i entries))

-- the sources outside a class, by one more entry
pub outside_more : (steps : List Step) (t : ℕ) (entries : List Entry) (i : ℕ) (item : Entry) → i < length entries → item ≡ get_or entries i item
    → outside_within steps t (applied (reverse (take (i + 1) entries)))
    ≡ cond (takes_effect item.0 item.1) (outside_within steps t (item.0 ∷ applied (reverse (take i entries)))) (outside_within steps t (applied (reverse (take i entries))))
outside_more steps t entries i item below is = ap (λ list. outside_within steps t (applied list)) (reverse_take_item entries i item below is) ∙ at_applied (outside_within steps t) item (reverse (take i entries))

-- the sources outside a class, by all
pub outside_all : (steps : List Step) (t : ℕ) → outside_within steps t steps ≡ has_outside_source steps t
unfolding outside_within has_outside_source has_outside order_arrows outside_by same_class among
outside_all steps t =
    sym (list_any-append (λ (arrow : Arrow). outside_by steps t arrow.0 arrow.1) (dependencies Cd steps) (dependencies Ad steps))
    ∙ sym (any_filter (λ (arrow : Arrow). same_class steps t arrow.1 && not (same_class steps t arrow.0)) (λ (arrow : Arrow). live steps arrow.0 && live steps arrow.1) (dependencies Cd steps ++ dependencies Ad steps))

-- one more step that took effect
outside_at_step : (steps : List Step) (t : ℕ) (step : Step) (some : List Step) → outside_within steps t (step ∷ some) ≡ (opens_outside steps t step || outside_within steps t some)
unfolding outside_within opens_outside dependencies dependency_by same_kind
outside_at_step steps t (Initiate u parent) some = refl
outside_at_step steps t (Begin u) some = refl
outside_at_step steps t (Read u x) some = refl
outside_at_step steps t (Write u x v) some = refl
outside_at_step steps t (Add u x d) some = refl
outside_at_step steps t (Complete u) some = refl
outside_at_step steps t (Permit giver taker obs ops) some = refl
outside_at_step steps t (PermitAny giver obs ops) some = refl
outside_at_step steps t (Delegate giver taker obs) some = refl
outside_at_step steps t (Depend Gc a b) some = refl
outside_at_step steps t (Depend Cd a b) some = first_of (outside_by steps t a.0 b.0) _ _ where
  first_of : (p x y : Bool) → ((p || x) || y) ≡ (p || (x || y))
  first_of true x y = refl
  first_of false x y = refl
outside_at_step steps t (Depend Ad a b) some = last_of (outside_by steps t a.0 b.0) _ _ where
  last_of : (p x y : Bool) → (x || (p || y)) ≡ (p || (x || y))
  last_of true true y = refl
  last_of true false y = refl
  last_of false x y = refl
outside_at_step steps t (Commit u) some = refl
outside_at_step steps t (Abort u) some = refl
outside_at_step steps t (WaitFor u) some = refl

-- one more entry, whose step took effect or did not
pub outside_with : (steps : List Step) (t : ℕ) (entries : List Entry) (i : ℕ) (item : Entry) (carried : Bool) → i < length entries → item ≡ get_or entries i item → takes_effect item.0 item.1 ≡ carried
    → outside_within steps t (applied (reverse (take (i + 1) entries))) ≡ ((carried && opens_outside steps t item.0) || outside_within steps t (applied (reverse (take i entries))))
outside_with steps t entries i item true below is e = outside_more steps t entries i item below is ∙ rw e (outside_at_step steps t item.0 (applied (reverse (take i entries))))
outside_with steps t entries i item false below is e = outside_more steps t entries i item below is ∙ rw e refl

-- what is said of all who were initiated by one more entry
all_append : {A : Type 0} (p : A → Bool) (xs ys : List A) → list_all p (xs ++ ys) ≡ (list_all p xs && list_all p ys)
all_append p [] ys = refl
all_append p (x ∷ xs) ys = ap (λ b. p x && b) (all_append p xs ys) ∙ regroup (p x) (list_all p xs) (list_all p ys) where
  regroup : (a b c : Bool) → (a && (b && c)) ≡ ((a && b) && c)
  regroup true b c = refl
  regroup false b c = refl

pub completes_with : (p : ℕ → Bool) (entries : List Entry) (i : ℕ) (item : Entry) (carried : Bool) → i < length entries → item ≡ get_or entries i item → takes_effect item.0 item.1 ≡ carried
    → list_all p (initiated (applied (reverse (take (i + 1) entries)))) ≡ ((not carried || list_all p (initiated_by item.0)) && list_all p (initiated (applied (reverse (take i entries)))))
completes_with p entries i item true below is e = ap (list_all p) (initiated_more entries i item below is) ∙ rw e (all_append p (initiated_by item.0) (initiated (applied (reverse (take i entries)))))
completes_with p entries i item false below is e = ap (list_all p) (initiated_more entries i item below is) ∙ rw e refl
