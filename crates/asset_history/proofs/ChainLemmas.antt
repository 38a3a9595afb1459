-- The nodes of a chain.
use Rattle.std.proofs.Common.{◌≡◌, ℕ, zero, suc, ◌+◌, ◌-◌, ◌<◌, ◌≤◌, eqb, ◌||◌, List, [], ◌∷◌, ◌++◌, length, refl, sym, ap, ◌∙◌, ◌⊎◌, arith, inl, inr, Bool, true, false, ltb}
use Rattle.std.proofs.lemmas.Bool.{or_cases, or_left, or_right, and_parts, eqb-true, eq-eqb, lt-ltb, ltb-true, false_from_ne_true, false≢true}
use Rattle.std.proofs.lemmas.List.{get_or_append_left, get_or_push, length_push}
use Rattle.asset_history.specs.declared.links.Link.{Link}
use Rattle.asset_name_groups.specs.NamesInGroups.{NamesInGroups}
use Rattle.asset_history.specs.Together.{label_at}
use Rattle.asset_history.specs.Users.{is_known}
use Rattle.asset_history.specs.Links.{Links, link_at, has_node, one_link_more, IsIn, HaveMore}

has_at : (most : ℕ) (links : List Link) (chain node : ℕ) → 0 < chain → has_node (suc most) links chain node ≡ (eqb (link_at links (chain - 1)).node node || has_node most links (link_at links (chain - 1)).before node)
unfolding has_node
has_at most links zero node some = absurd (omega (arith, some))
has_at most links (suc k) node some =
    let is : k ≡ suc k - 1 = omega arith in
    ap (λ j. eqb (link_at links j).node node || has_node most links (link_at links j).before node) is

-- a chain without links has no node
pub in_none : (links : List Link) (node : ℕ) → IsIn links 0 node → ⊥
unfolding has_node
in_none links node (zero, h) = false≢true h
in_none links node (suc most, h) = false≢true h

-- a node is that of the newest link, or in the chain before it
module _ (links : List Link) (chain : ℕ) (link : Link) (some : 0 < chain) (newest : link ≡ link_at links (chain - 1)) where
  at_newest : (most node : ℕ) → has_node (suc most) links chain node ≡ (eqb link.node node || has_node most links link.before node)
  at_newest most node = has_at most links chain node some ∙ ap (λ (l : Link). eqb l.node node || has_node most links l.before node) (sym newest)

  pub in_next : (node : ℕ) → IsIn links chain node → (link.node ≡ node) ⊎ IsIn links link.before node
  unfolding has_node
  in_next node (zero, h) = absurd (false≢true h)
  in_next node (suc most, h) = elim (or_cases (eqb link.node node) _ (sym (at_newest most node) ∙ h)) [
    | inl here ↦ inl (eqb-true link.node node here)
    | inr before ↦ inr (most, before)
  ]

  pub in_newest : IsIn links chain link.node
  in_newest = (1, at_newest 0 link.node ∙ or_left _ _ (eq-eqb link.node link.node refl))

  pub in_before : (node : ℕ) → IsIn links link.before node → IsIn links chain node
  in_before node (most, h) = (suc most, at_newest most node ∙ or_right (eqb link.node node) _ h)

-- the chains that are there stay as one more link comes
pub more_one : (links : List Link) (link : Link) → ((k : ℕ) → k < length links → (link_at links k).before ≤ k) → HaveMore links (links ++ link ∷ [])
unfolding has_node
more_one links link earlier = record { more = omega (arith, length_push links link); same = go } where
  go : (most chain node : ℕ) → chain ≤ length links → has_node most (links ++ link ∷ []) chain node ≡ has_node most links chain node
  go zero chain node below = refl
  go (suc most) zero node below = refl
  go (suc most) (suc k) node below =
      let is : link_at (links ++ link ∷ []) k ≡ link_at links k = get_or_append_left links (link ∷ []) _ k (omega (arith, below)) in
      ap (λ (l : Link). eqb l.node node || has_node most (links ++ link ∷ []) l.before node) is ∙ ap (λ b. eqb (link_at links k).node node || b) (go most (link_at links k).before node (omega (arith, earlier k (omega (arith, below)), below)))

pub more_none : (links : List Link) → HaveMore links links
more_none links = record { more = omega arith; same = λ most chain node below. refl }

-- what is in a chain stays there, and nothing comes
pub in_more : (before after : List Link) (chain node : ℕ) → HaveMore before after → chain ≤ length before → IsIn before chain node → IsIn after chain node
in_more before after chain node more below (most, h) = (most, more.same most chain node below ∙ h)

pub was_in : (before after : List Link) (chain node : ℕ) → HaveMore before after → chain ≤ length before → IsIn after chain node → IsIn before chain node
was_in before after chain node more below (most, h) = (most, sym (more.same most chain node below) ∙ h)

-- ---- a chain that becomes longer

module _ (all after : Links) (node chain : ℕ) (is : after ≡ one_link_more all node chain) (more : HaveMore all.links after.links) (below : chain ≤ length all.links) where
  abbrev link : Link
  link = record { node = node; before = chain }

  links_are : after.links ≡ all.links ++ link ∷ []
  unfolding one_link_more
  links_are = ap (λ (l : Links). l.links) is

  pub room_is : after.room ≡ all.room
  unfolding one_link_more
  room_is = ap (λ (l : Links). l.room) is

  pub one_longer : length after.links ≡ length all.links + 1
  one_longer = ap length links_are ∙ omega (arith, length_push all.links link)

  newest : link ≡ link_at after.links (length after.links - 1)
  newest = sym ((λ i. link_at (links_are i) (length (links_are i) - 1)) ∙ get_or_push all.links link _ (length (all.links ++ link ∷ []) - 1) (omega (arith, length_push all.links link)))

  some : 0 < length after.links
  some = omega (arith, one_longer)

  pub longer_kept : (k : ℕ) → IsIn all.links chain k → IsIn after.links (length after.links) k
  longer_kept k h = in_before after.links (length after.links) link some newest k (in_more all.links after.links chain k more below h)

  pub longer_only : (k : ℕ) → IsIn after.links (length after.links) k → IsIn all.links chain k ⊎ (k ≡ node)
  longer_only k h = elim (in_next after.links (length after.links) link some newest k h) [
    | inl here ↦ inr (sym here)
    | inr before ↦ inl (was_in all.links after.links chain k more below before)
  ]

  pub longer_has : IsIn after.links (length after.links) node
  longer_has = in_newest after.links (length after.links) link some newest

-- ---- whether a node is of a group that is known

apart_not : (a b : ℕ) → (a ≡ b → ⊥) → eqb a b ≡ false
apart_not a b apart = false_from_ne_true (eqb a b) (λ same. apart (eqb-true a b same))

module _ (g : NamesInGroups) (links : List Link) (node chain other : ℕ) where
  abbrev pub is_newest : Bool
  is_newest = eqb (label_at g (link_at links (chain - 1)).node) (label_at g other)

  pub known_here : label_at g node ≡ label_at g other → is_known g links node chain other ≡ true
  unfolding is_known
  known_here same = or_left _ _ (eq-eqb (label_at g node) (label_at g other) same)

  pub known_if_newest : (label_at g node ≡ label_at g other → ⊥) → 0 < chain → is_known g links node chain other ≡ is_newest
  unfolding is_known
  known_if_newest apart some = rw (apart_not (label_at g node) (label_at g other) apart, lt-ltb 0 chain some) refl

  pub known_if_none : (label_at g node ≡ label_at g other → ⊥) → chain ≡ 0 → is_known g links node chain other ≡ false
  unfolding is_known
  known_if_none apart none = rw (apart_not (label_at g node) (label_at g other) apart, none) refl

  -- who is known is of the group of the node, or of that of one in the chain
  pub known_reached : is_known g links node chain other ≡ true → (label_at g node ≡ label_at g other) ⊎ ((k : ℕ) × IsIn links chain k × (label_at g k ≡ label_at g other))
  unfolding is_known
  known_reached h = elim (or_cases (eqb (label_at g node) (label_at g other)) _ h) [
    | inl here ↦ inl (eqb-true (label_at g node) (label_at g other) here)
    | inr last ↦
        let parts = and_parts (ltb 0 chain) is_newest last in
        inr ((link_at links (chain - 1)).node, in_newest links chain (link_at links (chain - 1)) (ltb-true 0 chain parts.0) refl, eqb-true _ (label_at g other) parts.1)
  ]
