-- Which dependencies stand, by the table and by the history, how that changes with a step, and what is computed along them.
use Rattle.std.proofs.Common.{◌≡◌, ℕ, Bool, true, false, not, eqb, ◌&&◌, ◌||◌, List, [], ◌∷◌, ◌++◌, refl, sym, ◌∙◌, ap, subst, arith, inl, inr}
use Rattle.std.specs.List.{list_any}
use Rattle.std.proofs.lemmas.Bool.{or_cases, or_left, or_right, and_parts, and_from, eqb-true, eq-eqb, false≢true}
use Rattle.asset_names.specs.declared.names.Txn.{Txn}
use Rattle.asset_names.specs.declared.steps.Kind.{Kind}
use Rattle.asset_names.specs.declared.steps.Kind.TheVariants.{Cd, Ad, Gc}
use Rattle.asset_names.specs.declared.steps.Step.{Step}
use Rattle.asset_names.specs.declared.steps.Step.TheVariants.{Initiate, Depend}
use Rattle.asset_names.specs.Arrows.{Arrow, lists, has_arrow, linked, among}
use Rattle.asset_names.specs.Paths.{same_kind, both_ways, leads, closes_cycle, has_outside}
use Rattle.asset_names.specs.Steps.{initiated, initiated_by}
use Rattle.asset_names.specs.Endings.{dependencies, dependency_by, class_arrows, order_arrows, doom_arrows, live, end_of, ended_by, same_class, has_outside_source, would_cycle}
use Rattle.asset_names.specs.Orderly.{IsOrderly}
use Rattle.asset_names.proofs.Common.{eqb-flip, option_or_none, both_follow}
use Rattle.asset_names.proofs.EndLemmas.{commits, aborts}
use Rattle.asset_names.proofs.LiveLemmas.{live_initiate}
use Rattle.asset_names.proofs.PermitLemmas.{linked_same, has_among}
use Rattle.asset_names.proofs.DependLemmas.{has_append, has_both, dependencies_more}
use Rattle.asset_deps.specs.Dependencies.{Dependency, arrows_of, class_ways, order_ways, doom_ways, class_in, doomed_in, would_cycle_in, outside_source_in}
use Rattle.asset_ends.specs.Shows.{depended}
use Rattle.asset_ends.proofs.HistoryLemmas.{live_quiet}

-- one more dependency stands, and no other has changed
abbrev pub IsJoined : Kind → ℕ → ℕ → List Dependency → List Dependency → Type 0
IsJoined kind a b before later = (k : Kind) (u v : ℕ) → has_arrow (arrows_of k later) u v ≡ (has_arrow (arrows_of k before) u v || (same_kind k kind && eqb u a && eqb v b))

-- a step that initiates nobody, ends nobody and makes no dependency leaves each of them
pub depended_quiet : (later steps : List Step) → initiated later ≡ initiated steps → ((n : ℕ) → end_of later n ≡ end_of steps n) → ((k : Kind) → dependencies k later ≡ dependencies k steps)
    → (k : Kind) (u v : ℕ) → depended later k u v ≡ depended steps k u v
unfolding depended
depended_quiet later steps names ends arrows k u v = rw (live_quiet later steps names ends u, live_quiet later steps names ends v, arrows k) refl

-- a new name has no dependency
pub depended_initiate : (t : Txn) (parent : _) (steps : List Step) → lists (initiated steps) t.0 ≡ false → IsOrderly steps → (k : Kind) (u v : ℕ) → depended (Initiate t parent ∷ steps) k u v ≡ depended steps k u v
unfolding depended dependencies dependency_by
depended_initiate t parent steps new orderly k u v =
    rw (live_initiate t parent steps u new, live_initiate t parent steps v new) (go (eqb t.0 u) refl (eqb t.0 v) refl (has_arrow (dependencies k steps) u v) refl) where
      absent : (m : ℕ) → eqb t.0 m ≡ true → lists (initiated steps) m ≡ true → false ≡ true
      absent m e known = sym new ∙ ap (lists (initiated steps)) (eqb-true t.0 m e) ∙ known

      go : (from : Bool) → eqb t.0 u ≡ from → (to : Bool) → eqb t.0 v ≡ to → (arrow : Bool) → has_arrow (dependencies k steps) u v ≡ arrow
          → ((from || live steps u) && (to || live steps v) && arrow) ≡ (live steps u && live steps v && arrow)
      go from e to f false h = grind arith
      go false e false f true h = refl
      go true e to f true h = absurd (false≢true (absent u e (orderly.dependencies_known k u v h).0))
      go false e true f true h = absurd (false≢true (absent v f (orderly.dependencies_known k u v h).1))

-- some end, and their dependencies go
pub depended_end : (later steps : List Step) (test : ℕ → Bool) → ((n : ℕ) → live later n ≡ (not (test n) && live steps n)) → ((k : Kind) → dependencies k later ≡ dependencies k steps)
    → (k : Kind) (u v : ℕ) → depended later k u v ≡ (depended steps k u v && not (test u) && not (test v))
unfolding depended
depended_end later steps test alive arrows k u v = rw (alive u, alive v, arrows k) (grind arith)

-- a dependency ends nobody
pub depend_ends : (kind : Kind) (a b : Txn) (steps : List Step) (n : ℕ) → end_of (Depend kind a b ∷ steps) n ≡ end_of steps n
unfolding end_of ended_by
depend_ends kind a b steps n = option_or_none (end_of steps n)

-- one more dependency between live transactions
pub depended_depend : (kind : Kind) (a b : Txn) (steps : List Step) → live steps a.0 ≡ true → live steps b.0 ≡ true
    → (k : Kind) (u v : ℕ) → depended (Depend kind a b ∷ steps) k u v ≡ (depended steps k u v || (same_kind k kind && eqb u a.0 && eqb v b.0))
unfolding depended initiated initiated_by
depended_depend kind a b steps one other k u v =
    let same_live : (m : ℕ) → live (Depend kind a b ∷ steps) m ≡ live steps m = live_quiet (Depend kind a b ∷ steps) steps refl (depend_ends kind a b steps) in
    rw (same_live u, same_live v, dependencies_more kind a b steps k u v, eqb-flip u a.0, eqb-flip v b.0) (go (eqb a.0 u) refl (eqb b.0 v) refl) where
      arrow : Bool
      arrow = has_arrow (dependencies k steps) u v

      go : (from : Bool) → eqb a.0 u ≡ from → (to : Bool) → eqb b.0 v ≡ to
          → (live steps u && live steps v && ((same_kind k kind && (from && to)) || arrow)) ≡ ((live steps u && live steps v && arrow) || (same_kind k kind && from && to))
      go false e to f = grind arith
      go true e false f = grind arith
      go true e true f = rw (subst (λ m. live steps m ≡ true) (eqb-true a.0 u e) one, subst (λ m. live steps m ≡ true) (eqb-true b.0 v f) other) (grind arith)

-- ---- what is computed along dependencies, by the table and by the history

-- the table has the arrows that stand in the history
abbrev pub HasSameArrows : List Step → List Dependency → Type 0
HasSameArrows steps deps = (k : Kind) (u v : ℕ) → has_arrow (arrows_of k deps) u v ≡ depended steps k u v

pub class_arrow : (steps : List Step) (deps : List Dependency) → HasSameArrows steps deps → (u v : ℕ) → has_arrow (class_ways deps) u v ≡ has_arrow (among (live steps) (class_arrows steps)) u v
unfolding class_ways class_arrows depended
class_arrow steps deps same u v =
    rw (has_both (arrows_of Gc deps) u v, same Gc u v, same Gc v u, has_among (live steps) (both_ways (dependencies Gc steps)) u v, has_both (dependencies Gc steps) u v)
    (go (live steps u) (live steps v) (has_arrow (dependencies Gc steps) u v) (has_arrow (dependencies Gc steps) v u)) where
      go : (p q x y : Bool) → ((p && q && x) || (q && p && y)) ≡ (p && q && (x || y))
      go p q x y = grind arith

pub order_arrow : (steps : List Step) (deps : List Dependency) → HasSameArrows steps deps → (u v : ℕ) → has_arrow (order_ways deps) u v ≡ has_arrow (among (live steps) (order_arrows steps)) u v
unfolding order_ways order_arrows depended
order_arrow steps deps same u v =
    rw (has_append (arrows_of Cd deps) (arrows_of Ad deps) u v, same Cd u v, same Ad u v, has_among (live steps) (dependencies Cd steps ++ dependencies Ad steps) u v, has_append (dependencies Cd steps) (dependencies Ad steps) u v)
    (go (live steps u) (live steps v) (has_arrow (dependencies Cd steps) u v) (has_arrow (dependencies Ad steps) u v)) where
      go : (p q x y : Bool) → ((p && q && x) || (p && q && y)) ≡ (p && q && (x || y))
      go p q x y = grind arith

doom_arrow : (steps : List Step) (deps : List Dependency) → HasSameArrows steps deps → (u v : ℕ) → has_arrow (doom_ways deps) u v ≡ has_arrow (among (live steps) (doom_arrows steps)) u v
unfolding doom_ways doom_arrows depended
doom_arrow steps deps same u v =
    rw (
      has_append (class_ways deps) (arrows_of Ad deps) u v,
      class_arrow steps deps same u v,
      has_among (live steps) (class_arrows steps) u v,
      same Ad u v,
      has_among (live steps) (class_arrows steps ++ dependencies Ad steps) u v,
      has_append (class_arrows steps) (dependencies Ad steps) u v,
    )
    (go (live steps u) (live steps v) (has_arrow (class_arrows steps) u v) (has_arrow (dependencies Ad steps) u v)) where
      go : (p q x y : Bool) → ((p && q && x) || (p && q && y)) ≡ (p && q && (x || y))
      go p q x y = grind arith

pub class_shown : (steps : List Step) (deps : List Dependency) → HasSameArrows steps deps → (a b : ℕ) → class_in deps a b ≡ same_class steps a b
unfolding class_in same_class
class_shown steps deps same = linked_same (class_ways deps) (among (live steps) (class_arrows steps)) (class_arrow steps deps same)

-- whom a commit of a live transaction ends, by the table
pub commits_shown : (steps : List Step) (deps : List Dependency) → HasSameArrows steps deps → (t : ℕ) → live steps t ≡ true → (n : ℕ) → class_in deps t n ≡ commits steps t n
unfolding commits same_class
commits_shown steps deps same t alive n = class_shown steps deps same t n ∙ rw alive refl

pub doomed_shown : (steps : List Step) (deps : List Dependency) → HasSameArrows steps deps → (a b : ℕ) → doomed_in deps a b ≡ linked (among (live steps) (doom_arrows steps)) a b
unfolding doomed_in
doomed_shown steps deps same = linked_same (doom_ways deps) (among (live steps) (doom_arrows steps)) (doom_arrow steps deps same)

-- and whom an abort ends
pub aborts_shown : (steps : List Step) (deps : List Dependency) → HasSameArrows steps deps → (t : ℕ) → live steps t ≡ true → (n : ℕ) → doomed_in deps t n ≡ aborts steps t n
unfolding aborts
aborts_shown steps deps same t alive n = doomed_shown steps deps same t n ∙ rw alive refl

leads_shown : (steps : List Step) (deps : List Dependency) → HasSameArrows steps deps → (a b : ℕ)
    → leads (class_ways deps) (order_ways deps) a b ≡ leads (among (live steps) (class_arrows steps)) (among (live steps) (order_arrows steps)) a b
unfolding leads
leads_shown steps deps same = linked_same (class_ways deps ++ order_ways deps) (among (live steps) (class_arrows steps) ++ among (live steps) (order_arrows steps))
    (λ u v. has_append (class_ways deps) (order_ways deps) u v ∙ rw (class_arrow steps deps same u v, order_arrow steps deps same u v) (sym (has_append (among (live steps) (class_arrows steps)) (among (live steps) (order_arrows steps)) u v)))

pub would_cycle_shown : (steps : List Step) (deps : List Dependency) → HasSameArrows steps deps → (kind : Kind) (a b : ℕ) → would_cycle_in deps kind a b ≡ would_cycle steps kind a b
unfolding would_cycle_in would_cycle closes_cycle class_in same_class
would_cycle_shown steps deps same Cd a b = leads_shown steps deps same b a
would_cycle_shown steps deps same Ad a b = leads_shown steps deps same b a
would_cycle_shown steps deps same Gc a b = rw (leads_shown steps deps same a b, leads_shown steps deps same b a, linked_same (class_ways deps) (among (live steps) (class_arrows steps)) (class_arrow steps deps same) a b) refl

-- an arrow leads into a class from outside it, by lists of arrows that lead alike
outside_more : (classes orders others more : List Arrow) → ((a b : ℕ) → linked classes a b ≡ linked others a b) → ((u v : ℕ) → has_arrow orders u v ≡ true → has_arrow more u v ≡ true)
    → (t : ℕ) → has_outside classes orders t ≡ true → has_outside others more t ≡ true
unfolding has_outside has_arrow
outside_more classes [] others more same in_more t h = absurd (false≢true h)
outside_more classes (arrow ∷ orders) others more same in_more t h = elim (or_cases (linked classes t arrow.1 && not (linked classes t arrow.0)) _ h) [
  | inl here ↦ found more arrow.0 arrow.1 (in_more arrow.0 arrow.1 (or_left _ _ (and_from _ _ (eq-eqb arrow.0 arrow.0 refl) (eq-eqb arrow.1 arrow.1 refl)))) (sym (λ i. same t arrow.1 i && not (same t arrow.0 i)) ∙ here)
  | inr later ↦ outside_more classes orders others more same (λ u v listed. in_more u v (or_right (eqb arrow.0 u && eqb arrow.1 v) _ listed)) t later
] where
  found : (more : List Arrow) (u v : ℕ) → list_any (λ (arrow : Arrow). eqb arrow.0 u && eqb arrow.1 v) more ≡ true → (linked others t v && not (linked others t u)) ≡ true
      → list_any (λ (arrow : Arrow). linked others t arrow.1 && not (linked others t arrow.0)) more ≡ true
  found [] u v h crosses = h
  found (first ∷ more) u v h crosses = elim (or_cases (eqb first.0 u && eqb first.1 v) _ h) [
    | inl here ↦
        let ends = and_parts (eqb first.0 u) (eqb first.1 v) here in
        or_left _ _ ((λ i. linked others t (eqb-true first.1 v ends.1 i) && not (linked others t (eqb-true first.0 u ends.0 i))) ∙ crosses)
    | inr later ↦ or_right (linked others t first.1 && not (linked others t first.0)) _ (found more u v later crosses)
  ]

pub outside_shown : (steps : List Step) (deps : List Dependency) → HasSameArrows steps deps → (t : ℕ) → outside_source_in deps t ≡ has_outside_source steps t
unfolding outside_source_in has_outside_source
outside_shown steps deps same t = both_follow _ _
    (outside_more (class_ways deps) (order_ways deps) (among (live steps) (class_arrows steps)) (among (live steps) (order_arrows steps)) classes (λ u v h. sym (order_arrow steps deps same u v) ∙ h) t)
    (outside_more (among (live steps) (class_arrows steps)) (among (live steps) (order_arrows steps)) (class_ways deps) (order_ways deps) (λ a b. sym (classes a b)) (λ u v h. order_arrow steps deps same u v ∙ h) t) where
      classes : (a b : ℕ) → linked (class_ways deps) a b ≡ linked (among (live steps) (class_arrows steps)) a b
      classes = linked_same (class_ways deps) (among (live steps) (class_arrows steps)) (class_arrow steps deps same)
