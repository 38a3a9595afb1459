-- The ways that entries open, and what they lead to.
use Rattle.std.proofs.Common.{◌≡◌, ℕ, ◌+◌, ◌-◌, ◌<◌, ◌≤◌, Bool, true, false, cond, eqb, ◌&&◌, ◌||◌, List, [], ◌∷◌, ◌++◌, length, get_or, take, reverse, refl, sym, ◌∙◌, ap, arith}
use Rattle.std.specs.List.{list_any}
use Rattle.std.proofs.lemmas.List.Folds.{list_any-append}
use Rattle.std.proofs.lemmas.Bool.{false≢true, eqb-true}
use Rattle.asset_names.specs.declared.steps.Kind.TheVariants.{Cd, Ad, Gc}
use Rattle.asset_names.specs.declared.steps.Step.{Step}
use Rattle.asset_names.specs.declared.steps.Step.TheVariants.{Initiate, Begin, Read, Write, Add, Complete, Permit, PermitAny, Delegate, Depend, Commit, Abort, WaitFor}
use Rattle.asset_names.specs.Arrows.{Arrow, has_arrow, linked, among}
use Rattle.asset_names.specs.Paths.{same_kind, both_ways, leads}
use Rattle.asset_names.specs.Steps.{Entry, takes_effect, applied}
use Rattle.asset_names.specs.Endings.{dependency_by, dependencies, class_arrows, order_arrows, doom_arrows, live}
use Rattle.asset_names.proofs.Arrows.{linked_refl, linked_trans}
use Rattle.asset_names.proofs.Common.{eqb-flip}
use Rattle.asset_names.proofs.PermitLemmas.{has_among, linked_same}
use Rattle.asset_names.proofs.DependLemmas.{has_append}
use Rattle.asset_reference.specs.declared.endings.Along.{Along}
use Rattle.asset_reference.specs.declared.endings.Along.TheVariants.{Classes, Aborts, Paths}
use Rattle.asset_reference.specs.declared.endings.Way.{Way}
use Rattle.asset_reference.specs.declared.endings.Way.TheVariants.{Nowhere, Forth, Both}
use Rattle.asset_reference.specs.Ways.{way_of, way_by, way_at, ways, way_arrows, goes_by, leaves, enters}
use Rattle.asset_reference.proofs.AppliedLemmas.{reverse_take_item}
use Rattle.asset_reference.proofs.ScanLemmas.{at_applied}

-- one more entry
ways_at_entry : (along : Along) (entry : Entry) (older : List Entry) → ways along (applied (entry ∷ older)) ≡ way_at along entry ++ ways along (applied older)
unfolding ways way_at
ways_at_entry along entry older = at_applied (ways along) entry older ∙ go (takes_effect entry.0 entry.1) where
  go : (carried : Bool) → cond carried (way_by along entry.0 ++ ways along (applied older)) (ways along (applied older)) ≡ cond carried (way_by along entry.0) [] ++ ways along (applied older)
  go true = refl
  go false = refl

-- the ways of the first entries of a number: that of the newest, and those of the others
ways_more : (along : Along) (entries : List Entry) (count : ℕ) (item : Entry) → 0 < count → count ≤ length entries → item ≡ get_or entries (count - 1) item
    → ways along (applied (reverse (take count entries))) ≡ way_at along item ++ ways along (applied (reverse (take (count - 1) entries)))
ways_more along entries count item some within is =
    let one_more : count ≡ count - 1 + 1 = omega (arith, some) in
    ap (λ n. ways along (applied (reverse (take n entries)))) one_more
    ∙ ap (λ list. ways along (applied list)) (reverse_take_item entries (count - 1) item (omega (arith, some, within)) is)
    ∙ ways_at_entry along item (reverse (take (count - 1) entries))

-- neither of two holds
or_parts : (p q : Bool) → (p || q) ≡ false → (p ≡ false) × (q ≡ false)
or_parts false q none = (refl, none)
or_parts true q none = absurd (false≢true (sym none))

pub or_none : (p : Bool) → p ≡ (p || false)
or_none true = refl
or_none false = refl

-- Both ways between two: `z` says whether a way leads without them, `p` and `q` whether one leads to the first and to the
-- second, and `r` and `s` whether one leads on from them.
both_links : (z p q r s : Bool) → (p ≡ true → r ≡ true → z ≡ true) → (q ≡ true → s ≡ true → z ≡ true)
    → ((z || (q && r)) || ((p || (q && true)) && (s || (true && r)))) ≡ (z || ((p || q) && (r || s)))
both_links true p q r s first second = refl
both_links false true true true true first second = absurd (false≢true (first refl refl))
both_links false true true true false first second = absurd (false≢true (first refl refl))
both_links false true true false true first second = absurd (false≢true (second refl refl))
both_links false true true false false first second = refl
both_links false true false true true first second = absurd (false≢true (first refl refl))
both_links false true false true false first second = absurd (false≢true (first refl refl))
both_links false true false false true first second = refl
both_links false true false false false first second = refl
both_links false false true true true first second = absurd (false≢true (second refl refl))
both_links false false true true false first second = refl
both_links false false true false true first second = absurd (false≢true (second refl refl))
both_links false false true false false first second = refl
both_links false false false true true first second = refl
both_links false false false true false first second = refl
both_links false false false false true first second = refl
both_links false false false false false first second = refl

-- with the arrows of a way, one goes along it or without it
pub links_by : (test : ℕ → Bool) (way : Way) (arrows : List Arrow) (a b : ℕ) → linked (among test (way_arrows way ++ arrows)) a b
    ≡ (linked (among test arrows) a b || goes_by test way arrows a b)
unfolding way_arrows goes_by among linked
links_by test Nowhere arrows a b = or_none (linked (among test arrows) a b)
links_by test (Forth u v) arrows a b = go (test u.0 && test v.0) where
  go : (kept : Bool) → linked (cond kept ((u.0, v.0) ∷ among test arrows) (among test arrows)) a b
      ≡ (linked (among test arrows) a b || (kept && (linked (among test arrows) a u.0 && linked (among test arrows) v.0 b)))
  go true = refl
  go false = or_none (linked (among test arrows) a b)
links_by test (Both u v) arrows a b = go (test u.0) (test v.0) where
  old : List Arrow
  old = among test arrows

  go : (p q : Bool) → linked (cond (p && q) ((u.0, v.0) ∷ cond (q && p) ((v.0, u.0) ∷ old) old) (cond (q && p) ((v.0, u.0) ∷ old) old)) a b
      ≡ (linked old a b || ((p && q) && ((linked old a u.0 || linked old a v.0) && (linked old u.0 b || linked old v.0 b))))
  go true true =
      rw (linked_refl old u.0, linked_refl old v.0)
      (both_links (linked old a b) (linked old a u.0) (linked old a v.0) (linked old u.0 b) (linked old v.0 b)
      (λ to on. linked_trans old a u.0 b to on) (λ to on. linked_trans old a v.0 b to on))
  go true false = or_none (linked old a b)
  go false true = or_none (linked old a b)
  go false false = or_none (linked old a b)

-- one more entry, where the way is the one that it opens
pub links_more : (along : Along) (entries : List Entry) (count : ℕ) (item : Entry) (way : Way) (test : ℕ → Bool) (a b : ℕ)
    → 0 < count → count ≤ length entries → item ≡ get_or entries (count - 1) item → way_arrows way ≡ way_at along item
    → linked (among test (ways along (applied (reverse (take count entries))))) a b
    ≡ (linked (among test (ways along (applied (reverse (take (count - 1) entries))))) a b || goes_by test way (ways along (applied (reverse (take (count - 1) entries)))) a b)
links_more along entries count item way test a b some within is opens =
    ap (λ list. linked (among test list) a b) (ways_more along entries count item some within is ∙ ap (λ ones. ones ++ ways along (applied (reverse (take (count - 1) entries)))) (sym opens))
    ∙ links_by test way (ways along (applied (reverse (take (count - 1) entries)))) a b

-- the ways of classes are the arrows that make classes
ways_of_classes : (steps : List Step) → ways Classes steps ≡ class_arrows steps
unfolding ways way_by way_of class_arrows both_ways dependencies dependency_by same_kind
ways_of_classes [] = refl
ways_of_classes (Depend Gc a b ∷ steps) = ap (λ list. (a.0, b.0) ∷ (b.0, a.0) ∷ list) (ways_of_classes steps)
ways_of_classes (Depend Cd a b ∷ steps) = ways_of_classes steps
ways_of_classes (Depend Ad a b ∷ steps) = ways_of_classes steps
ways_of_classes (Initiate t parent ∷ steps) = ways_of_classes steps
ways_of_classes (Begin t ∷ steps) = ways_of_classes steps
ways_of_classes (Read t x ∷ steps) = ways_of_classes steps
ways_of_classes (Write t x v ∷ steps) = ways_of_classes steps
ways_of_classes (Add t x d ∷ steps) = ways_of_classes steps
ways_of_classes (Complete t ∷ steps) = ways_of_classes steps
ways_of_classes (Permit giver taker obs ops ∷ steps) = ways_of_classes steps
ways_of_classes (PermitAny giver obs ops ∷ steps) = ways_of_classes steps
ways_of_classes (Delegate giver taker obs ∷ steps) = ways_of_classes steps
ways_of_classes (Commit t ∷ steps) = ways_of_classes steps
ways_of_classes (Abort t ∷ steps) = ways_of_classes steps
ways_of_classes (WaitFor t ∷ steps) = ways_of_classes steps

pub classes_are : (steps : List Step) (a b : ℕ) → linked (among (live steps) (ways Classes steps)) a b ≡ linked (among (live steps) (class_arrows steps)) a b
classes_are steps a b = ap (λ arrows. linked (among (live steps) arrows) a b) (ways_of_classes steps)

-- where an arrow of order comes among those of classes and of order
last_in : (here c d : Bool) → (here || (c || d)) ≡ (c || (here || d))
last_in true true d = refl
last_in true false d = refl
last_in false c d = refl

middle_in : (here c d e : Bool) → (here || (c || (d || e))) ≡ (c || ((here || d) || e))
middle_in true true d e = refl
middle_in true false d e = refl
middle_in false c d e = refl

third_in : (here c d e : Bool) → (here || (c || (d || e))) ≡ (c || (d || (here || e)))
third_in here true d e = or_true here where
  or_true : (p : Bool) → (p || true) ≡ true
  or_true true = refl
  or_true false = refl
third_in here false true e = or_true here where
  or_true : (p : Bool) → (p || true) ≡ true
  or_true true = refl
  or_true false = refl
third_in here false false e = refl

-- the ways of aborts lead as the arrows along which an abort spreads
has_aborts : (steps : List Step) (u v : ℕ) → has_arrow (ways Aborts steps) u v ≡ (has_arrow (class_arrows steps) u v || has_arrow (dependencies Ad steps) u v)
unfolding has_arrow ways way_by way_of class_arrows both_ways dependencies dependency_by same_kind
has_aborts [] u v = refl
has_aborts (Depend Gc a b ∷ steps) u v = rw (has_aborts steps u v) (grind arith)
has_aborts (Depend Cd a b ∷ steps) u v = has_aborts steps u v
has_aborts (Depend Ad a b ∷ steps) u v = ap (λ rest. (eqb a.0 u && eqb b.0 v) || rest) (has_aborts steps u v) ∙ last_in (eqb a.0 u && eqb b.0 v) _ _
has_aborts (Initiate t parent ∷ steps) u v = has_aborts steps u v
has_aborts (Begin t ∷ steps) u v = has_aborts steps u v
has_aborts (Read t x ∷ steps) u v = has_aborts steps u v
has_aborts (Write t x w ∷ steps) u v = has_aborts steps u v
has_aborts (Add t x d ∷ steps) u v = has_aborts steps u v
has_aborts (Complete t ∷ steps) u v = has_aborts steps u v
has_aborts (Permit giver taker obs ops ∷ steps) u v = has_aborts steps u v
has_aborts (PermitAny giver obs ops ∷ steps) u v = has_aborts steps u v
has_aborts (Delegate giver taker obs ∷ steps) u v = has_aborts steps u v
has_aborts (Commit t ∷ steps) u v = has_aborts steps u v
has_aborts (Abort t ∷ steps) u v = has_aborts steps u v
has_aborts (WaitFor t ∷ steps) u v = has_aborts steps u v

pub aborts_are : (steps : List Step) (a b : ℕ) → linked (among (live steps) (ways Aborts steps)) a b ≡ linked (among (live steps) (doom_arrows steps)) a b
unfolding doom_arrows
aborts_are steps = linked_same (among (live steps) (ways Aborts steps)) (among (live steps) (doom_arrows steps)) same where
  same : (u v : ℕ) → has_arrow (among (live steps) (ways Aborts steps)) u v ≡ has_arrow (among (live steps) (doom_arrows steps)) u v
  same u v = has_among (live steps) (ways Aborts steps) u v
      ∙ ap (λ there. live steps u && live steps v && there) (has_aborts steps u v ∙ sym (has_append (class_arrows steps) (dependencies Ad steps) u v))
      ∙ sym (has_among (live steps) (doom_arrows steps) u v)

-- the ways of paths lead as the arrows of classes and of order
has_paths : (steps : List Step) (u v : ℕ) → has_arrow (ways Paths steps) u v ≡ (has_arrow (class_arrows steps) u v || (has_arrow (dependencies Cd steps) u v || has_arrow (dependencies Ad steps) u v))
unfolding has_arrow ways way_by way_of class_arrows both_ways dependencies dependency_by same_kind
has_paths [] u v = refl
has_paths (Depend Gc a b ∷ steps) u v = rw (has_paths steps u v) (grind arith)
has_paths (Depend Cd a b ∷ steps) u v = ap (λ rest. (eqb a.0 u && eqb b.0 v) || rest) (has_paths steps u v) ∙ middle_in (eqb a.0 u && eqb b.0 v) _ _ _
has_paths (Depend Ad a b ∷ steps) u v = ap (λ rest. (eqb a.0 u && eqb b.0 v) || rest) (has_paths steps u v) ∙ third_in (eqb a.0 u && eqb b.0 v) _ _ _
has_paths (Initiate t parent ∷ steps) u v = has_paths steps u v
has_paths (Begin t ∷ steps) u v = has_paths steps u v
has_paths (Read t x ∷ steps) u v = has_paths steps u v
has_paths (Write t x w ∷ steps) u v = has_paths steps u v
has_paths (Add t x d ∷ steps) u v = has_paths steps u v
has_paths (Complete t ∷ steps) u v = has_paths steps u v
has_paths (Permit giver taker obs ops ∷ steps) u v = has_paths steps u v
has_paths (PermitAny giver obs ops ∷ steps) u v = has_paths steps u v
has_paths (Delegate giver taker obs ∷ steps) u v = has_paths steps u v
has_paths (Commit t ∷ steps) u v = has_paths steps u v
has_paths (Abort t ∷ steps) u v = has_paths steps u v
has_paths (WaitFor t ∷ steps) u v = has_paths steps u v

pub paths_are : (steps : List Step) (a b : ℕ) → linked (among (live steps) (ways Paths steps)) a b ≡ leads (among (live steps) (class_arrows steps)) (among (live steps) (order_arrows steps)) a b
unfolding leads order_arrows
paths_are steps = linked_same (among (live steps) (ways Paths steps)) (among (live steps) (class_arrows steps) ++ among (live steps) (order_arrows steps)) same where
  spread : (p q x y : Bool) → (p && q && (x || y)) ≡ ((p && q && x) || (p && q && y))
  spread true true x y = refl
  spread true false x y = refl
  spread false q x y = refl

  same : (u v : ℕ) → has_arrow (among (live steps) (ways Paths steps)) u v ≡ has_arrow (among (live steps) (class_arrows steps) ++ among (live steps) (order_arrows steps)) u v
  same u v = has_among (live steps) (ways Paths steps) u v
      ∙ ap (λ there. live steps u && live steps v && there) (has_paths steps u v ∙ ap (λ order. has_arrow (class_arrows steps) u v || order) (sym (has_append (dependencies Cd steps) (dependencies Ad steps) u v)))
      ∙ spread (live steps u) (live steps v) (has_arrow (class_arrows steps) u v) (has_arrow (order_arrows steps) u v)
      ∙ sym (λ i. has_among (live steps) (class_arrows steps) u v i || has_among (live steps) (order_arrows steps) u v i)
      ∙ sym (has_append (among (live steps) (class_arrows steps)) (among (live steps) (order_arrows steps)) u v)

-- each is linked to itself
pub link_itself : (arrows : List Arrow) (a b : ℕ) → eqb a b ≡ true → true ≡ linked arrows a b
link_itself arrows a b same = rw (eqb-true a b same) (sym (linked_refl arrows b))

-- nothing leads away from a name along arrows of which none starts there, and nothing to one along arrows of which none
-- ends there
pub stays_without_leaving : (test : ℕ → Bool) (arrows : List Arrow) (a b : ℕ) → leaves arrows a ≡ false → linked (among test arrows) a b ≡ eqb a b
unfolding leaves linked among
stays_without_leaving test [] a b none = refl
stays_without_leaving test (arrow ∷ arrows) a b none =
    let parts = or_parts (eqb arrow.0 a) (list_any (λ (other : Arrow). eqb other.0 a) arrows) none in
    go (test arrow.0 && test arrow.1) (stays_without_leaving test arrows a b parts.1) (stays_without_leaving test arrows a arrow.0 parts.1 ∙ eqb-flip a arrow.0 ∙ parts.0) where
      go : (kept : Bool) → linked (among test arrows) a b ≡ eqb a b → linked (among test arrows) a arrow.0 ≡ false
          → linked (cond kept (arrow ∷ among test arrows) (among test arrows)) a b ≡ eqb a b
      go false straight to = straight
      go true straight to = rw (straight, to) (sym (or_none (eqb a b)))

pub stays_without_entering : (test : ℕ → Bool) (arrows : List Arrow) (a b : ℕ) → enters arrows b ≡ false → linked (among test arrows) a b ≡ eqb a b
unfolding enters linked among
stays_without_entering test [] a b none = refl
stays_without_entering test (arrow ∷ arrows) a b none =
    let parts = or_parts (eqb arrow.1 b) (list_any (λ (other : Arrow). eqb other.1 b) arrows) none in
    go (test arrow.0 && test arrow.1) (stays_without_entering test arrows a b parts.1) (stays_without_entering test arrows arrow.1 b parts.1 ∙ parts.0) where
      go : (kept : Bool) → linked (among test arrows) a b ≡ eqb a b → linked (among test arrows) arrow.1 b ≡ false
          → linked (cond kept (arrow ∷ among test arrows) (among test arrows)) a b ≡ eqb a b
      go false straight on = straight
      go true straight on = rw (straight, on) (none_of (eqb a b) (linked (among test arrows) a arrow.0)) where
        none_of : (p q : Bool) → (p || (q && false)) ≡ p
        none_of true q = refl
        none_of false true = refl
        none_of false false = refl

-- the arrows that one more entry adds, and those before it
pub leaves_more : (along : Along) (entries : List Entry) (i : ℕ) (item : Entry) (way : Way) (a : ℕ) → i < length entries → item ≡ get_or entries i item → way_arrows way ≡ way_at along item
    → leaves (ways along (applied (reverse (take (i + 1) entries)))) a ≡ (leaves (way_arrows way) a || leaves (ways along (applied (reverse (take i entries)))) a)
unfolding leaves
leaves_more along entries i item way a below is opens =
    ap (λ list. list_any (λ (arrow : Arrow). eqb arrow.0 a) (ways along (applied list))) (reverse_take_item entries i item below is)
    ∙ ap (list_any (λ (arrow : Arrow). eqb arrow.0 a)) (ways_at_entry along item (reverse (take i entries)) ∙ ap (λ ones. ones ++ ways along (applied (reverse (take i entries)))) (sym opens))
    ∙ list_any-append (λ (arrow : Arrow). eqb arrow.0 a) (way_arrows way) (ways along (applied (reverse (take i entries))))

pub enters_more : (along : Along) (entries : List Entry) (i : ℕ) (item : Entry) (way : Way) (b : ℕ) → i < length entries → item ≡ get_or entries i item → way_arrows way ≡ way_at along item
    → enters (ways along (applied (reverse (take (i + 1) entries)))) b ≡ (enters (way_arrows way) b || enters (ways along (applied (reverse (take i entries)))) b)
unfolding enters
enters_more along entries i item way b below is opens =
    ap (λ list. list_any (λ (arrow : Arrow). eqb arrow.1 b) (ways along (applied list))) (reverse_take_item entries i item below is)
    ∙ ap (list_any (λ (arrow : Arrow). eqb arrow.1 b)) (ways_at_entry along item (reverse (take i entries)) ∙ ap (λ ones. ones ++ ways along (applied (reverse (take i entries)))) (sym opens))
    ∙ list_any-append (λ (arrow : Arrow). eqb arrow.1 b) (way_arrows way) (ways along (applied (reverse (take i entries))))
