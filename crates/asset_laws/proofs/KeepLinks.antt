-- What is reached among transactions that are kept, where each arrow has both its ends kept or neither.
use Rattle.std.proofs.Common.{◌≡◌, ℕ, Bool, true, false, eqb, ◌&&◌, List, [], ◌∷◌, ◌++◌, refl, sym, ◌∙◌, ap, inl, inr}
use Rattle.std.specs.List.{list_any, list_all}
use Rattle.std.proofs.lemmas.Bool.{or_cases, or_left, or_right, or_parts, or_from, and_parts, and_from, eqb-true, eq-eqb, false≢true}
use Rattle.asset_names.specs.Arrows.{Arrow, lists, linked, has_arrow, among, Chain}
use Rattle.asset_names.specs.Arrows.Chain.{stay, along}
use Rattle.asset_names.specs.Paths.{both_ways}
use Rattle.asset_names.proofs.Common.{both_follow}
use Rattle.asset_names.proofs.Arrows.{linked_refl, linked_trans, chain_from_linked}
use Rattle.asset_names.proofs.PermitLemmas.{has_listed, linked_has, has_among}
use Rattle.asset_names.proofs.DependLemmas.{has_append, has_both}
use Rattle.asset_names.proofs.ListLemmas.{all_listed, listed_all}

-- each arrow has both its ends kept, or neither
abbrev pub Keeps : (ℕ → Bool) → List Arrow → Type 0
Keeps keep arrows = (u v : ℕ) → has_arrow arrows u v ≡ true → keep u ≡ keep v

-- from a kept transaction, the arrows of the two lists lead alike
abbrev pub LeadAlike : (ℕ → Bool) → List Arrow → List Arrow → Type 0
LeadAlike keep some all = (u v : ℕ) → keep u ≡ true → has_arrow some u v ≡ has_arrow all u v

-- what is reached is kept as the start is
pub linked_keeps : (keep : ℕ → Bool) (arrows : List Arrow) → Keeps keep arrows → (a b : ℕ) → linked arrows a b ≡ true → keep a ≡ keep b
linked_keeps keep arrows keeps a b h = go a b (chain_from_linked arrows a b h) where
  go : (a b : ℕ) → Chain arrows a b → keep a ≡ keep b
  go a b (stay n) = refl
  go a c (along m b n first rest) = keeps a b (has_listed arrows a b first) ∙ go b c rest

-- from a kept transaction, arrows that lead alike link alike
reached : (keep : ℕ → Bool) (ones others : List Arrow) → ((u v : ℕ) → keep u ≡ true → has_arrow ones u v ≡ true → (keep v ≡ true) × (has_arrow others u v ≡ true))
    → (a b : ℕ) → keep a ≡ true → linked ones a b ≡ true → linked others a b ≡ true
reached keep ones others more a b stays h = go a b (chain_from_linked ones a b h) stays where
  go : (a b : ℕ) → Chain ones a b → keep a ≡ true → linked others a b ≡ true
  go a b (stay n) stays = linked_refl others a
  go a c (along m b n first rest) stays =
      let next = more a b stays (has_listed ones a b first) in
      linked_trans others a b c (linked_has others a b next.1) (go b c rest next.0)

pub linked_alike : (keep : ℕ → Bool) (some all : List Arrow) → Keeps keep all → LeadAlike keep some all → (a b : ℕ) → keep a ≡ true → linked some a b ≡ linked all a b
linked_alike keep some all keeps alike a b stays = both_follow _ _
    (reached keep some all (λ u v k h. let there = sym (alike u v k) ∙ h in (sym (keeps u v there) ∙ k, there)) a b stays)
    (reached keep all some (λ u v k h. (sym (keeps u v h) ∙ k, alike u v k ∙ h)) a b stays)

-- the arrows among those who pass a test keep both ends or neither, too
pub among_keeps : (keep test : ℕ → Bool) (arrows : List Arrow) → Keeps keep arrows → Keeps keep (among test arrows)
among_keeps keep test arrows keeps u v h = keeps u v (and_parts (test u && test v) _ (sym (has_among test arrows u v) ∙ h)).1

none : (a b : Bool) → (a && false) ≡ (b && false)
none true true = refl
none true false = refl
none false true = refl
none false false = refl

-- two tests that agree on kept transactions
pub among_alike : (keep test other : ℕ → Bool) (some all : List Arrow) → ((n : ℕ) → keep n ≡ true → test n ≡ other n) → Keeps keep all → LeadAlike keep some all
    → LeadAlike keep (among test some) (among other all)
among_alike keep test other some all agree keeps alike u v stays =
    has_among test some u v ∙ rw (alike u v stays) (go (has_arrow all u v) refl) ∙ sym (has_among other all u v) where
      go : (here : Bool) → has_arrow all u v ≡ here → (test u && test v && here) ≡ (other u && other v && here)
      go true e = rw (agree u stays, agree v (sym (keeps u v e) ∙ stays)) refl
      go false e = none (test u && test v) (other u && other v)

pub among_alike_to : (keep test other : ℕ → Bool) (some all : List Arrow) → ((n : ℕ) → keep n ≡ true → test n ≡ other n) → Keeps keep all
    → ((u v : ℕ) → keep v ≡ true → has_arrow some u v ≡ has_arrow all u v) → (u v : ℕ) → keep v ≡ true → has_arrow (among test some) u v ≡ has_arrow (among other all) u v
among_alike_to keep test other some all agree keeps alike u v stays =
    has_among test some u v ∙ rw (alike u v stays) (go (has_arrow all u v) refl) ∙ sym (has_among other all u v) where
      go : (here : Bool) → has_arrow all u v ≡ here → (test u && test v && here) ≡ (other u && other v && here)
      go true e = rw (agree v stays, agree u (keeps u v e ∙ stays)) refl
      go false e = none (test u && test v) (other u && other v)

-- two lists of arrows together
pub append_keeps : (keep : ℕ → Bool) (xs ys : List Arrow) → Keeps keep xs → Keeps keep ys → Keeps keep (xs ++ ys)
append_keeps keep xs ys one other u v h = elim (or_cases (has_arrow xs u v) _ (sym (has_append xs ys u v) ∙ h)) [
  | inl here ↦ one u v here
  | inr there ↦ other u v there
]

pub append_alike : (keep : ℕ → Bool) (xs ys zs ws : List Arrow) → LeadAlike keep xs zs → LeadAlike keep ys ws → LeadAlike keep (xs ++ ys) (zs ++ ws)
append_alike keep xs ys zs ws one other u v stays = has_append xs ys u v ∙ rw (one u v stays, other u v stays) refl ∙ sym (has_append zs ws u v)

-- arrows and their reverses
pub both_keeps : (keep : ℕ → Bool) (arrows : List Arrow) → Keeps keep arrows → Keeps keep (both_ways arrows)
both_keeps keep arrows keeps u v h = elim (or_cases (has_arrow arrows u v) _ (sym (has_both arrows u v) ∙ h)) [
  | inl there ↦ keeps u v there
  | inr back ↦ sym (keeps v u back)
]

-- to a kept transaction, the arrows of the two lists lead alike as well
pub both_alike : (keep : ℕ → Bool) (some all : List Arrow) → LeadAlike keep some all → ((u v : ℕ) → keep v ≡ true → has_arrow some u v ≡ has_arrow all u v)
    → LeadAlike keep (both_ways some) (both_ways all)
both_alike keep some all from to u v stays = has_both some u v ∙ rw (from u v stays, to v u stays) refl ∙ sym (has_both all u v)

-- another name is not a kept one
pub other_name : (keep : ℕ → Bool) (m n : ℕ) → keep m ≡ false → keep n ≡ true → eqb m n ≡ false
other_name keep m n gone stays = go (eqb m n) refl where
  go : (same : Bool) → eqb m n ≡ same → same ≡ false
  go false e = refl
  go true e = absurd (false≢true (sym gone ∙ ap keep (eqb-true m n e) ∙ stays))

-- some arrow passes a test
pub any_arrow : (test : Arrow → Bool) (arrows : List Arrow) → list_any test arrows ≡ true → (u : ℕ) × (v : ℕ) × (has_arrow arrows u v ≡ true) × (test (u, v) ≡ true)
unfolding has_arrow
any_arrow test [] h = absurd (false≢true h)
any_arrow test (arrow ∷ arrows) h = elim (or_cases (test arrow) _ h) [
  | inl here ↦ (arrow.0, arrow.1, or_left _ _ (and_from _ _ (eq-eqb arrow.0 arrow.0 refl) (eq-eqb arrow.1 arrow.1 refl)), here)
  | inr later ↦ let found = any_arrow test arrows later in (found.0, found.1, or_right _ _ found.2, found.3)
]

pub arrow_any : (test : Arrow → Bool) (arrows : List Arrow) (u v : ℕ) → has_arrow arrows u v ≡ true → test (u, v) ≡ true → list_any test arrows ≡ true
unfolding has_arrow
arrow_any test [] u v h passes = absurd (false≢true h)
arrow_any test (arrow ∷ arrows) u v h passes = elim (or_cases (eqb arrow.0 u && eqb arrow.1 v) _ h) [
  | inl here ↦
      let ends = and_parts (eqb arrow.0 u) (eqb arrow.1 v) here in
      let first : test (arrow.0, arrow.1) ≡ true = rw (eqb-true arrow.0 u ends.0, eqb-true arrow.1 v ends.1) passes in
      or_left _ _ first
  | inr later ↦ or_right (test arrow) _ (arrow_any test arrows u v later passes)
]

-- some listed name passes a test
pub any_name : (test : ℕ → Bool) (names : List ℕ) → list_any test names ≡ true → (n : ℕ) × (lists names n ≡ true) × (test n ≡ true)
unfolding lists
any_name test [] h = absurd (false≢true h)
any_name test (m ∷ names) h = elim (or_cases (test m) _ h) [
  | inl here ↦ (m, or_left _ _ (eq-eqb m m refl), here)
  | inr later ↦ let found = any_name test names later in (found.0, or_right (eqb m found.0) _ found.1, found.2)
]

pub name_any : (test : ℕ → Bool) (names : List ℕ) (n : ℕ) → lists names n ≡ true → test n ≡ true → list_any test names ≡ true
unfolding lists
name_any test [] n h passes = absurd (false≢true h)
name_any test (m ∷ names) n h passes = elim (or_cases (eqb m n) _ h) [
  | inl here ↦ or_left _ _ (ap test (eqb-true m n here) ∙ passes)
  | inr later ↦ or_right (test m) _ (name_any test names n later passes)
]

-- all listed names pass a test

-- two tests of all listed names, which agree on kept names and pass the others
pub all_alike : (keep test other : ℕ → Bool) (few many : List ℕ) → ((n : ℕ) → keep n ≡ true → lists few n ≡ lists many n) → ((n : ℕ) → keep n ≡ true → test n ≡ other n)
    → ((n : ℕ) → keep n ≡ false → (test n ≡ true) × (other n ≡ true)) → list_all test few ≡ list_all other many
all_alike keep test other few many same agree pass = both_follow _ _
    (λ h. listed_all other many (λ n listed. there n listed h (keep n) refl)) (λ h. listed_all test few (λ n listed. back n listed h (keep n) refl)) where
      there : (n : ℕ) → lists many n ≡ true → list_all test few ≡ true → (stays : Bool) → keep n ≡ stays → other n ≡ true
      there n listed h true e = sym (agree n e) ∙ all_listed test few n h (same n e ∙ listed)
      there n listed h false e = (pass n e).1

      back : (n : ℕ) → lists few n ≡ true → list_all other many ≡ true → (stays : Bool) → keep n ≡ stays → test n ≡ true
      back n listed h true e = agree n e ∙ all_listed other many n h (sym (same n e) ∙ listed)
      back n listed h false e = (pass n e).0

-- a test that passes fewer items
pub any_fewer : {A : Type 0} (test other : A → Bool) (xs : List A) → ((x : A) → test x ≡ true → other x ≡ true) → list_any other xs ≡ false → list_any test xs ≡ false
any_fewer test other [] fewer h = refl
any_fewer test other (x ∷ xs) fewer h =
    let parts = or_parts (other x) _ h in
    or_from _ _ (go (test x) refl parts.0) (any_fewer test other xs fewer parts.1) where
      go : (passes : Bool) → test x ≡ passes → other x ≡ false → passes ≡ false
      go false e none = refl
      go true e none = absurd (false≢true (sym none ∙ fewer x e))
