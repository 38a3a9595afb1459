-- Laws of who allows whom, by chains of named permits and by openers, for the tables above.
use Rattle.std.proofs.Common.{◌≡◌, ℕ, Bool, true, false, cond, eqb, ◌&&◌, ◌||◌, List, [], ◌∷◌, map, filter, refl, sym, ap, ◌∙◌, ◌⊎◌, inl, inr}
use Rattle.std.specs.List.{list_any}
use Rattle.std.proofs.lemmas.Bool.{or_cases, or_left, or_right, eq-eqb, false≢true, true≢false, false_from_ne_true}
use Rattle.asset_names.specs.declared.operations.Op.{Op}
use Rattle.asset_names.specs.Arrows.{Arrow, lists, linked, Chain, has_arrow}
use Rattle.asset_names.proofs.PermitLemmas.{linked_same}
use Rattle.asset_names.proofs.Arrows.{linked_refl, chain_from_linked, linked_from_chain}
use Rattle.asset_names.proofs.Common.{and_false, and_true, or_false, both_follow}
use Rattle.asset_names.proofs.ListLemmas.{any_map, any_filter, any_alike, listed_any}
use Rattle.asset_permits.specs.Descriptors.{Descriptor, covers, lets, one_covers, opens_on, lets_all, opens, arrows_for, openers_for, leads_by, reaches_opener, allows_by}

-- the arrows are those of the descriptors that cover
pub arrows_stand : (descriptors : List Descriptor) (u t x : ℕ) (op : Op) → has_arrow (arrows_for descriptors x op) u t ≡ one_covers descriptors u t x op
unfolding has_arrow arrows_for one_covers lets
arrows_stand [] u t x op = refl
arrows_stand (d ∷ descriptors) u t x op = go (covers x op d) (arrows_stand descriptors u t x op) where
  go : (b : Bool) → has_arrow (arrows_for descriptors x op) u t ≡ one_covers descriptors u t x op
      → has_arrow (map (λ (e : Descriptor). (e.giver, e.taker)) (cond b (d ∷ filter (covers x op) descriptors) (filter (covers x op) descriptors))) u t
      ≡ (eqb d.giver u && eqb d.taker t && b || one_covers descriptors u t x op)
  go true rest = rw (and_true (eqb d.giver u && eqb d.taker t)) (ap (λ b. eqb d.giver u && eqb d.taker t || b) rest)
  go false rest = rw (and_false (eqb d.giver u && eqb d.taker t)) rest

-- where chains lead, by any list of arrows that has those of the descriptors
pub leads_by_arrows : (descriptors : List Descriptor) (arrows : List Arrow) (x : ℕ) (op : Op) → ((u t : ℕ) → has_arrow arrows u t ≡ one_covers descriptors u t x op)
    → (u t : ℕ) → leads_by descriptors u t x op ≡ linked arrows u t
unfolding leads_by
leads_by_arrows descriptors arrows x op same u t = linked_same (arrows_for descriptors x op) arrows (λ v w. arrows_stand descriptors v w x op ∙ sym (same v w)) u t

-- where chains lead depends on which descriptors cover alone
pub leads_same : (descriptors others : List Descriptor) (x : ℕ) (op : Op) → ((u t : ℕ) → one_covers descriptors u t x op ≡ one_covers others u t x op)
    → (u t : ℕ) → leads_by descriptors u t x op ≡ leads_by others u t x op
unfolding leads_by
leads_same descriptors others x op same u t = leads_by_arrows descriptors (arrows_for others x op) x op (λ v w. arrows_stand others v w x op ∙ sym (same v w)) u t

-- the openers are those of the descriptors that open
pub openers_stand : (descriptors : List Descriptor) (u x : ℕ) (op : Op) → lists (openers_for descriptors x op) u ≡ opens descriptors u x op
unfolding lists openers_for opens lets_all
openers_stand descriptors u x op =
    any_map (λ m. eqb m u) (λ (d : Descriptor). d.giver) (filter (opens_on x op) descriptors)
    ∙ any_filter (λ (d : Descriptor). eqb d.giver u) (opens_on x op) descriptors
    ∙ any_alike _ (λ (d : Descriptor). eqb d.giver u && opens_on x op d) descriptors (λ d. turned (opens_on x op d) (eqb d.giver u)) where
      turned : (p q : Bool) → (p && q) ≡ (q && p)
      turned true true = refl
      turned true false = refl
      turned false true = refl
      turned false false = refl

-- one of the names that passes
pub name_of_any : (test : ℕ → Bool) (names : List ℕ) → list_any test names ≡ true → (a : ℕ) × (lists names a ≡ true) × (test a ≡ true)
unfolding lists
name_of_any test [] h = absurd (false≢true h)
name_of_any test (m ∷ names) h = elim (or_cases (test m) _ h) [
  | inl here ↦ (m, or_left _ _ (eq-eqb m m refl), here)
  | inr later ↦ let found = name_of_any test names later in (found.0, or_right _ _ found.1, found.2)
]

-- whether one of some names passes depends on which names there are alone
any_listed : (test other : ℕ → Bool) (names others : List ℕ) → ((a : ℕ) → test a ≡ other a) → ((a : ℕ) → lists names a ≡ lists others a) → list_any test names ≡ list_any other others
any_listed test other names others alike same = both_follow _ _
    (λ h. let found = name_of_any test names h in listed_any other others found.0 (sym (same found.0) ∙ found.1) (sym (alike found.0) ∙ found.2))
    (λ h. let found = name_of_any other others h in listed_any test names found.0 (same found.0 ∙ found.1) (alike found.0 ∙ found.2))

-- an opener to whom a chain leads
pub opener_of : (descriptors : List Descriptor) (u x : ℕ) (op : Op) → reaches_opener descriptors u x op ≡ true → (a : ℕ) × (opens descriptors a x op ≡ true) × (leads_by descriptors u a x op ≡ true)
unfolding reaches_opener
opener_of descriptors u x op h =
    let found = name_of_any (λ a. leads_by descriptors u a x op) (openers_for descriptors x op) h in
    (found.0, sym (openers_stand descriptors found.0 x op) ∙ found.1, found.2)

pub reaches_by_opener : (descriptors : List Descriptor) (u a x : ℕ) (op : Op) → opens descriptors a x op ≡ true → leads_by descriptors u a x op ≡ true → reaches_opener descriptors u x op ≡ true
unfolding reaches_opener
reaches_by_opener descriptors u a x op opener leads = listed_any (λ b. leads_by descriptors u b x op) (openers_for descriptors x op) a (openers_stand descriptors a x op ∙ opener) leads

-- who allows whom depends on which descriptors cover and open alone
pub allowed_same : (descriptors others : List Descriptor) (x : ℕ) (op : Op) → ((u t : ℕ) → one_covers descriptors u t x op ≡ one_covers others u t x op) → ((u : ℕ) → opens descriptors u x op ≡ opens others u x op)
    → (u t : ℕ) → allows_by descriptors u t x op ≡ allows_by others u t x op
unfolding allows_by reaches_opener
allowed_same descriptors others x op same opened u t =
    let leads : (a : ℕ) → leads_by descriptors u a x op ≡ leads_by others u a x op = leads_same descriptors others x op same u in
    let openers = any_listed (λ a. leads_by descriptors u a x op) (λ a. leads_by others u a x op) (openers_for descriptors x op) (openers_for others x op) leads (λ a. openers_stand descriptors a x op ∙ opened a ∙ sym (openers_stand others a x op)) in
    λ i. leads t i || openers i

-- where nobody opens the object, chains of named permits alone count
pub closed_reaches : (descriptors : List Descriptor) (x : ℕ) (op : Op) → ((u : ℕ) → opens descriptors u x op ≡ false) → (u : ℕ) → reaches_opener descriptors u x op ≡ false
closed_reaches descriptors x op closed u = false_from_ne_true _ (λ h. let found = opener_of descriptors u x op h in true≢false (sym found.1 ∙ closed found.0))

pub closed_allows : (descriptors : List Descriptor) (x : ℕ) (op : Op) → ((u : ℕ) → opens descriptors u x op ≡ false) → (u t : ℕ) → allows_by descriptors u t x op ≡ leads_by descriptors u t x op
unfolding allows_by
closed_allows descriptors x op closed u t = ap (λ b. leads_by descriptors u t x op || b) (closed_reaches descriptors x op closed u) ∙ or_false (leads_by descriptors u t x op)

-- each leads to itself, and allows itself
pub leads_itself : (descriptors : List Descriptor) (u x : ℕ) (op : Op) → leads_by descriptors u u x op ≡ true
unfolding leads_by
leads_itself descriptors u x op = linked_refl (arrows_for descriptors x op) u

pub allows_itself : (descriptors : List Descriptor) (u x : ℕ) (op : Op) → allows_by descriptors u u x op ≡ true
unfolding allows_by
allows_itself descriptors u x op = or_left _ _ (leads_itself descriptors u x op)

-- a chain for each who is allowed, and each who is allowed by a chain
pub chain_from_allowed : (descriptors : List Descriptor) (u t x : ℕ) (op : Op) → allows_by descriptors u t x op ≡ true
    → Chain (arrows_for descriptors x op) u t ⊎ ((a : ℕ) × Chain (arrows_for descriptors x op) u a × (opens descriptors a x op ≡ true))
unfolding allows_by leads_by
chain_from_allowed descriptors u t x op h = elim (or_cases (linked (arrows_for descriptors x op) u t) _ h) [
  | inl leads ↦ inl (chain_from_linked (arrows_for descriptors x op) u t leads)
  | inr reaches ↦ let found = opener_of descriptors u x op reaches in inr (found.0, chain_from_linked (arrows_for descriptors x op) u found.0 found.2, found.1)
]

pub allowed_from_chain : (descriptors : List Descriptor) (u t x : ℕ) (op : Op) → Chain (arrows_for descriptors x op) u t ⊎ ((a : ℕ) × Chain (arrows_for descriptors x op) u a × (opens descriptors a x op ≡ true))
    → allows_by descriptors u t x op ≡ true
unfolding allows_by leads_by
allowed_from_chain descriptors u t x op h = elim h [
  | inl chain ↦ or_left _ _ (linked_from_chain (arrows_for descriptors x op) u t chain)
  | inr one ↦ or_right (linked (arrows_for descriptors x op) u t) _ (reaches_by_opener descriptors u one.0 x op one.2 (linked_from_chain (arrows_for descriptors x op) u one.0 one.1))
]
