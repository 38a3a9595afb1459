-- Laws of arrows: what is closed along them, what leads back, and paths over classes.
use Rattle.std.proofs.Common.{◌≡◌, ℕ, Bool, true, false, ◌&&◌, ◌||◌, List, ◌++◌, refl, sym, ◌∙◌, inl, inr}
use Rattle.std.proofs.lemmas.Bool.{or_cases, or_left, or_right}
use Rattle.asset_names.specs.Arrows.{Arrow, linked, has_arrow, among, Chain}
use Rattle.asset_names.specs.Arrows.Chain.{stay, along}
use Rattle.asset_names.specs.Paths.{both_ways, leads}
use Rattle.asset_names.proofs.Arrows.{linked_refl, linked_trans, chain_from_linked}
use Rattle.asset_names.proofs.PermitLemmas.{has_listed, linked_has, linked_more, has_among}
use Rattle.asset_names.proofs.DependLemmas.{has_append, has_both}
use Rattle.asset_laws.specs.Textbook.{Path}
use Rattle.asset_laws.specs.Textbook.Path.{within, onward}

-- what arrows keep holds of all that is reached from where it holds
pub closed_linked : (arrows : List Arrow) (test : ℕ → Bool) → ((u v : ℕ) → has_arrow arrows u v ≡ true → test u ≡ true → test v ≡ true)
    → (a b : ℕ) → linked arrows a b ≡ true → test a ≡ true → test b ≡ true
closed_linked arrows test keeps a b h = go a b (chain_from_linked arrows a b h) where
  go : (a b : ℕ) → Chain arrows a b → test a ≡ true → test b ≡ true
  go a b (stay n) passes = passes
  go a c (along m b n first rest) passes = go b c rest (keeps a b (has_listed arrows a b first) passes)

-- where each arrow has its reverse, what is reached leads back
pub linked_back : (arrows : List Arrow) → ((u v : ℕ) → has_arrow arrows u v ≡ true → has_arrow arrows v u ≡ true) → (a b : ℕ) → linked arrows a b ≡ true → linked arrows b a ≡ true
linked_back arrows back a b h = go a b (chain_from_linked arrows a b h) where
  go : (a b : ℕ) → Chain arrows a b → linked arrows b a ≡ true
  go a b (stay n) = linked_refl arrows a
  go a c (along m b n first rest) = linked_trans arrows c b a (go b c rest) (linked_has arrows b a (back a b (has_listed arrows a b first)))

-- arrows both ways among those who pass a test lead back
pub both_back : (test : ℕ → Bool) (arrows : List Arrow) (a b : ℕ) → linked (among test (both_ways arrows)) a b ≡ true → linked (among test (both_ways arrows)) b a ≡ true
both_back test arrows = linked_back (among test (both_ways arrows)) back where
  turned : (p q x y : Bool) → (p && q && (x || y)) ≡ (q && p && (y || x))
  turned true true x y = either x y where
    either : (x y : Bool) → (x || y) ≡ (y || x)
    either true true = refl
    either true false = refl
    either false true = refl
    either false false = refl
  turned true false x y = refl
  turned false true x y = refl
  turned false false x y = refl

  back : (u v : ℕ) → has_arrow (among test (both_ways arrows)) u v ≡ true → has_arrow (among test (both_ways arrows)) v u ≡ true
  back u v h = rw (has_among test (both_ways arrows) v u, has_both arrows v u, turned (test v) (test u) (has_arrow arrows v u) (has_arrow arrows u v))
      (rw (has_among test (both_ways arrows) u v, has_both arrows u v) at h)

-- what a class or an arrow of order links is led to
pub class_leads : (classes orders : List Arrow) (a b : ℕ) → linked classes a b ≡ true → leads classes orders a b ≡ true
unfolding leads
class_leads classes orders = linked_more classes (classes ++ orders) (λ u v h. rw (has_append classes orders u v) (or_left _ _ h))

pub order_leads : (classes orders : List Arrow) (a b : ℕ) → has_arrow orders a b ≡ true → leads classes orders a b ≡ true
unfolding leads
order_leads classes orders a b h = linked_has (classes ++ orders) a b (rw (has_append classes orders a b) (or_right (has_arrow classes a b) _ h))

pub leads_trans : (classes orders : List Arrow) (a b c : ℕ) → leads classes orders a b ≡ true → leads classes orders b c ≡ true → leads classes orders a c ≡ true
unfolding leads
leads_trans classes orders = linked_trans (classes ++ orders)

-- a path for each leading, and a leading for each path
pub leads_path : (classes orders : List Arrow) (a b : ℕ) → leads classes orders a b ≡ true → Path classes orders a b
unfolding leads
leads_path classes orders a b h = go a b (chain_from_linked (classes ++ orders) a b h) where
  -- a class before a path
  before : (a b c : ℕ) → linked classes a b ≡ true → Path classes orders b c → Path classes orders a c
  before a b c first (within m n rest) = within a c (linked_trans classes a b c first rest)
  before a b e first (onward m c d n rest order path) = onward a c d e (linked_trans classes a b c first rest) order path

  go : (a b : ℕ) → Chain (classes ++ orders) a b → Path classes orders a b
  go a b (stay n) = within a a (linked_refl classes a)
  go a c (along m b n first rest) = elim (or_cases (has_arrow classes a b) _ (sym (has_append classes orders a b) ∙ has_listed (classes ++ orders) a b first)) [
    | inl same ↦ before a b c (linked_has classes a b same) (go b c rest)
    | inr order ↦ onward a a b c (linked_refl classes a) order (go b c rest)
  ]

pub path_leads : (classes orders : List Arrow) (a b : ℕ) → Path classes orders a b → leads classes orders a b ≡ true
path_leads classes orders a b (within m n h) = class_leads classes orders a b h
path_leads classes orders a b (onward m c d n first order rest) =
    leads_trans classes orders a c b (class_leads classes orders a c first)
    (leads_trans classes orders c d b (order_leads classes orders c d order) (path_leads classes orders d b rest))
