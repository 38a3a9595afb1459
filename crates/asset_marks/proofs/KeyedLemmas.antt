-- Arrows of items, each in a row and in a column: which there are, and that they turn round.
use Rattle.std.proofs.Common.{◌≡◌, ℕ, zero, suc, ◌+◌, Bool, true, false, cond, eqb, ◌&&◌, ◌||◌, List, [], ◌∷◌, ◌++◌, map, get_or, Option, Some, None, refl, sym, ap, ◌∙◌, arith, inl, inr}
use Rattle.std.proofs.lemmas.Bool.{or_cases, or_left, or_right, and_from, and_parts, eqb-true, eq-eqb, ne_eqb, eqb-false, false≢true}
use Rattle.slab.specs.Slab.{Slab, get}
use Rattle.asset_names.specs.Arrows.{Arrow, linked, has_arrow}
use Rattle.asset_names.proofs.DependLemmas.{has_append}
use Rattle.asset_chains.specs.Chained.{Chained, home_of}
use Rattle.asset_marks.specs.Searched.{arrow_between, arrows_from, arrows_along, leads_to}

-- ---- an arrow for each item that passes

pub nothing_leads : (u t : ℕ) → has_arrow [] u t ≡ false
unfolding has_arrow
nothing_leads u t = refl

between_leads : (u t : ℕ) → has_arrow (arrow_between (Some u) (Some t)) u t ≡ true
unfolding has_arrow
between_leads u t = or_left _ false (and_from (eqb u u) (eqb t t) (eq-eqb u u refl) (eq-eqb t t refl))

between_is : (o p : Option ℕ) (u t : ℕ) → has_arrow (arrow_between o p) u t ≡ true → (o ≡ Some u) × (p ≡ Some t)
unfolding has_arrow
between_is (Some v) (Some w) u t h = elim (or_cases (eqb v u && eqb w t) false h) [
  | inl here ↦ let names = and_parts (eqb v u) (eqb w t) here in (ap Some (eqb-true v u names.0), ap Some (eqb-true w t names.1))
  | inr wrong ↦ absurd (false≢true wrong)
]
between_is (Some v) None u t h = absurd (false≢true h)
between_is None p u t h = absurd (false≢true h)

module _ {D : Type 0} (test : D → Bool) (along across : Chained) where
  slot_leads : (slots : List (Option D)) (k i j : ℕ) (d : D) (u t : ℕ) → j ≡ k + i → get_or slots i None ≡ Some d → test d ≡ true → home_of along j ≡ Some u → home_of across j ≡ Some t
      → has_arrow (arrows_from test along across k slots) u t ≡ true
  slot_leads [] k i j d u t at there covered home end = cc there
  slot_leads (None ∷ slots) k zero j d u t at there covered home end = cc there
  slot_leads (None ∷ slots) k (suc i) j d u t at there covered home end = slot_leads slots (k + 1) i j d u t (omega (arith, at)) there covered home end
  slot_leads (Some e ∷ slots) k zero j d u t at there covered home end =
      let same : e ≡ d = cc there in
      let here : k ≡ j = omega (arith, at) in
      let arrow : cond (test e) (arrow_between (home_of along k) (home_of across k)) [] ≡ arrow_between (Some u) (Some t) =
      ap (λ (b : Bool). cond b (arrow_between (home_of along k) (home_of across k)) []) (ap test same ∙ covered) ∙ (λ m. arrow_between ((ap (home_of along) here ∙ home) m) ((ap (home_of across) here ∙ end) m))
      in
      has_append (cond (test e) (arrow_between (home_of along k) (home_of across k)) []) _ u t ∙ or_left _ _ (ap (λ (l : List Arrow). has_arrow l u t) arrow ∙ between_leads u t)
  slot_leads (Some e ∷ slots) k (suc i) j d u t at there covered home end =
      has_append (cond (test e) (arrow_between (home_of along k) (home_of across k)) []) _ u t ∙ or_right _ _ (slot_leads slots (k + 1) i j d u t (omega (arith, at)) there covered home end)

  item_of : (slots : List (Option D)) (k u t : ℕ) → has_arrow (arrows_from test along across k slots) u t ≡ true
      → (i : ℕ) × (d : D) × (get_or slots i None ≡ Some d) × (test d ≡ true) × (home_of along (k + i) ≡ Some u) × (home_of across (k + i) ≡ Some t)
  item_of [] k u t h = absurd (false≢true (sym (nothing_leads u t) ∙ h))
  item_of (None ∷ slots) k u t h =
      let found = item_of slots (k + 1) u t h in
      let same : k + 1 + found.0 ≡ k + suc found.0 = omega arith in
      (suc found.0, found.1, found.2, found.3, ap (home_of along) (sym same) ∙ found.4, ap (home_of across) (sym same) ∙ found.5)
  item_of (Some e ∷ slots) k u t h =
      elim (or_cases (has_arrow (cond (test e) (arrow_between (home_of along k) (home_of across k)) []) u t) _ (sym (has_append (cond (test e) (arrow_between (home_of along k) (home_of across k)) []) _ u t) ∙ h)) [
        | inl here ↦ at (test e) refl here
        | inr later ↦
            let found = item_of slots (k + 1) u t later in
            let same : k + 1 + found.0 ≡ k + suc found.0 = omega arith in
            (suc found.0, found.1, found.2, found.3, ap (home_of along) (sym same) ∙ found.4, ap (home_of across) (sym same) ∙ found.5)
      ] where
        at : (b : Bool) → test e ≡ b → has_arrow (cond b (arrow_between (home_of along k) (home_of across k)) []) u t ≡ true
            → (i : ℕ) × (d : D) × (get_or (Some e ∷ slots) i None ≡ Some d) × (test d ≡ true) × (home_of along (k + i) ≡ Some u) × (home_of across (k + i) ≡ Some t)
        at true covered leads =
            let homes = between_is (home_of along k) (home_of across k) u t leads in
            let same : k ≡ k + 0 = omega arith in
            (0, e, refl, covered, ap (home_of along) (sym same) ∙ homes.0, ap (home_of across) (sym same) ∙ homes.1)
        at false covered leads = absurd (false≢true (sym (nothing_leads u t) ∙ leads))

module _ {D : Type 0} (test : D → Bool) (items : Slab D) (along across : Chained) where
  -- an item that passes has an arrow
  pub item_leads : (k u t : ℕ) → home_of along k ≡ Some u → leads_to test (get items k) (home_of across k) ≡ Some t → has_arrow (arrows_along test items along across) u t ≡ true
  unfolding arrows_along
  item_leads k u t home leads = go (get items k) refl leads where
    go : (o : Option D) → get items k ≡ o → leads_to test o (home_of across k) ≡ Some t → has_arrow (arrows_from test along across 0 items.slots) u t ≡ true
    go None there e = cc e
    go (Some d) there e = at (test d) refl e where
      at : (b : Bool) → test d ≡ b → cond b (home_of across k) None ≡ Some t → has_arrow (arrows_from test along across 0 items.slots) u t ≡ true
      at true covered end = slot_leads test along across items.slots 0 k k d u t (omega arith) there covered home end
      at false covered end = cc end

  -- and an arrow is that of an item
  pub item_of_arrow : (u t : ℕ) → has_arrow (arrows_along test items along across) u t ≡ true → (k : ℕ) × (home_of along k ≡ Some u) × (leads_to test (get items k) (home_of across k) ≡ Some t)
  unfolding arrows_along
  item_of_arrow u t h =
      let found = item_of test along across items.slots 0 u t h in
      let same : 0 + found.0 ≡ found.0 = omega arith in (
        found.0,
        ap (home_of along) (sym same) ∙ found.4,
        ap (λ (o : Option D). leads_to test o (home_of across found.0)) found.2
            ∙ ap (λ (b : Bool). cond b (home_of across found.0) None) found.3
            ∙ ap (home_of across) (sym same)
            ∙ found.5,
      )

-- where an item leads to, from what the item is
pub leads_by : {D : Type 0} (test : D → Bool) (o : Option D) (end : Option ℕ) (t : ℕ) → leads_to test o end ≡ Some t → (d : D) × (o ≡ Some d) × (test d ≡ true) × (end ≡ Some t)
leads_by test None end t leads = cc leads
leads_by test (Some d) end t leads = go (test d) refl leads where
  go : (b : Bool) → test d ≡ b → cond b end None ≡ Some t → (e : _) × (Some d ≡ Some e) × (test e ≡ true) × (end ≡ Some t)
  go true passes is = (d, refl, passes, is)
  go false passes is = cc is

-- ---- arrows that are turned round
abbrev pub turned : List Arrow → List Arrow
turned arrows = map (λ (a : Arrow). (a.1, a.0)) arrows

-- an arrow leads on where the arrow turned round leads back
pub turned_leads : (arrows : List Arrow) (u t : ℕ) → has_arrow (turned arrows) u t ≡ has_arrow arrows t u
unfolding has_arrow
turned_leads [] u t = refl
turned_leads (arrow ∷ arrows) u t = (λ m. (swap (eqb arrow.1 u) (eqb arrow.0 t) m) || turned_leads arrows u t m) where
  swap : (p q : Bool) → (p && q) ≡ (q && p)
  swap true true = refl
  swap true false = refl
  swap false true = refl
  swap false false = refl

pub linked_turned : (arrows : List Arrow) (a b : ℕ) → linked (turned arrows) b a ≡ linked arrows a b
unfolding linked
linked_turned [] a b = flip (eqb b a) refl where
  flip : (c : Bool) → eqb b a ≡ c → c ≡ eqb a b
  flip true e = sym (eq-eqb a b (sym (eqb-true b a e)))
  flip false e = sym (ne_eqb a b (λ same. eqb-false b a e (sym same)))
linked_turned (arrow ∷ arrows) a b =
    (λ m. linked_turned arrows a b m || linked_turned arrows arrow.1 b m && linked_turned arrows a arrow.0 m) ∙ ap (λ (c : Bool). linked arrows a b || c) (swap (linked arrows arrow.1 b) (linked arrows a arrow.0)) where
      swap : (p q : Bool) → (p && q) ≡ (q && p)
      swap true true = refl
      swap true false = refl
      swap false true = refl
      swap false false = refl

pub turned_append : (xs ys : List Arrow) → turned (xs ++ ys) ≡ turned xs ++ turned ys
turned_append [] ys = refl
turned_append (arrow ∷ xs) ys = ap (λ (l : List Arrow). (arrow.1, arrow.0) ∷ l) (turned_append xs ys)

pub arrows_turned : {D : Type 0} (test : D → Bool) (along across : Chained) (k : ℕ) (slots : List (Option D)) → arrows_from test across along k slots ≡ turned (arrows_from test along across k slots)
arrows_turned test along across k [] = refl
arrows_turned test along across k (None ∷ slots) = arrows_turned test along across (k + 1) slots
arrows_turned test along across k (Some d ∷ slots) =
    (λ m. one (test d) (home_of along k) (home_of across k) m ++ arrows_turned test along across (k + 1) slots m)
    ∙ sym (turned_append (cond (test d) (arrow_between (home_of along k) (home_of across k)) []) (arrows_from test along across (k + 1) slots)) where
      one : (b : Bool) (o p : Option ℕ) → cond b (arrow_between p o) [] ≡ turned (cond b (arrow_between o p) [])
      one true (Some u) (Some t) = refl
      one true (Some u) None = refl
      one true None (Some t) = refl
      one true None None = refl
      one false o p = refl

-- the search backwards finds what the search forwards finds
pub linked_backwards : {D : Type 0} (test : D → Bool) (items : Slab D) (along across : Chained) (from to : ℕ) → linked (arrows_along test items across along) to from ≡ linked (arrows_along test items along across) from to
unfolding arrows_along
linked_backwards test items along across from to =
    ap (λ (arrows : List Arrow). linked arrows to from) (arrows_turned test along across 0 items.slots) ∙ linked_turned (arrows_from test along across 0 items.slots) from to
