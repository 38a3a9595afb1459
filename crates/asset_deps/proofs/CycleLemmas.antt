-- Whether a dependency would close a cycle, by what a search for each way has answered.
use Rattle.std.proofs.Common.{◌≡◌, ℕ, Bool, true, false, eqb, not, ◌&&◌, ◌||◌, List, Some, refl, sym, ap, ◌∙◌}
use Rattle.asset_names.specs.declared.names.Txn.{Txn}
use Rattle.asset_names.proofs.Common.{eqb-flip}
use Rattle.asset_seats.specs.Seated.{seat}
use Rattle.asset_marks.specs.Marked.{Met}
use Rattle.asset_deps.specs.declared.kinds.Kinds.TheVariants.{Class, All}
use Rattle.asset_deps.specs.Valid.{Parts, dependencies_of, IsValid}
use Rattle.asset_deps.proofs.KindLemmas.{class_linked, path_linked}
use Rattle.asset_deps.proofs.NamedLemmas.{leads_to_nobody, itself_leads}
use Rattle.asset_names.specs.declared.steps.Kind.{Kind}
use Rattle.asset_names.specs.declared.steps.Kind.TheVariants.{Cd, Ad, Gc}
use Rattle.asset_names.specs.Paths.{leads, closes_cycle}
use Rattle.asset_deps.specs.Dependencies.{Dependency, class_ways, order_ways, class_in, would_cycle_in}

-- a path leads from the class of the one to that of the other
abbrev pub path : List Dependency → ℕ → ℕ → Bool
path ds u v = leads (class_ways ds) (order_ways ds) u v

group_is : (ds : List Dependency) (a b : ℕ) → would_cycle_in ds Gc a b ≡ (not (class_in ds a b) && (path ds a b || path ds b a))
unfolding would_cycle_in closes_cycle class_in
group_is ds a b = refl

commit_is : (ds : List Dependency) (a b : ℕ) → would_cycle_in ds Cd a b ≡ path ds b a
unfolding would_cycle_in closes_cycle
commit_is ds a b = refl

abort_is : (ds : List Dependency) (a b : ℕ) → would_cycle_in ds Ad a b ≡ path ds b a
unfolding would_cycle_in closes_cycle
abort_is ds a b = refl

pub group_there : (ds : List Dependency) (kind : Kind) (a b : ℕ) → kind ≡ Gc → class_in ds a b ≡ false → path ds a b ≡ true → true ≡ would_cycle_in ds kind a b
group_there ds kind a b is apart there = sym (ap (λ k. would_cycle_in ds k a b) is ∙ group_is ds a b ∙ (λ i. not (apart i) && (there i || path ds b a)))

pub group_back : (ds : List Dependency) (kind : Kind) (a b : ℕ) → kind ≡ Gc → class_in ds a b ≡ false → path ds a b ≡ false → path ds b a ≡ would_cycle_in ds kind a b
group_back ds kind a b is apart there = sym (ap (λ k. would_cycle_in ds k a b) is ∙ group_is ds a b ∙ (λ i. not (apart i) && (there i || path ds b a)))

pub group_within : (ds : List Dependency) (kind : Kind) (a b : ℕ) → kind ≡ Gc → class_in ds a b ≡ true → false ≡ would_cycle_in ds kind a b
group_within ds kind a b is within = sym (ap (λ k. would_cycle_in ds k a b) is ∙ group_is ds a b ∙ (λ i. not (within i) && (path ds a b || path ds b a)))

pub commit_back : (ds : List Dependency) (kind : Kind) (a b : ℕ) → kind ≡ Cd → path ds b a ≡ would_cycle_in ds kind a b
commit_back ds kind a b is = sym (ap (λ k. would_cycle_in ds k a b) is ∙ commit_is ds a b)

pub abort_back : (ds : List Dependency) (kind : Kind) (a b : ℕ) → kind ≡ Ad → path ds b a ≡ would_cycle_in ds kind a b
abort_back ds kind a b is = sym (ap (λ k. would_cycle_in ds k a b) is ∙ abort_is ds a b)

-- ---- of two of whom one is not enrolled
loop_is : (ds : List Dependency) (kind : Kind) (a b : ℕ) → class_in ds a b ≡ eqb a b → path ds a b ≡ eqb a b → path ds b a ≡ eqb a b → (result : Bool) → (kind ≡ Gc → result ≡ false) → ((kind ≡ Gc → ⊥) → result ≡ eqb a b) → result ≡ would_cycle_in ds kind a b
loop_is ds Gc a b same there back result group order = group refl ∙ sym (group_is ds a b ∙ (λ i. not (same i) && (there i || back i)) ∙ never (eqb a b)) where
  never : (e : Bool) → (not e && (e || e)) ≡ false
  never true = refl
  never false = refl
loop_is ds Cd a b same there back result group order = order (λ is. cc is) ∙ sym (commit_is ds a b ∙ back)
loop_is ds Ad a b same there back result group order = order (λ is. cc is) ∙ sym (abort_is ds a b ∙ back)

module _ (p : Parts) (size : ℕ) (marked : Met) (valid : IsValid p size marked) (kind : Kind) (a b : Txn) (result : Bool) (group : kind ≡ Gc → result ≡ false) (order : (kind ≡ Gc → ⊥) → result ≡ eqb a.0 b.0) where
  abbrev ds : List Dependency
  ds = dependencies_of p.links

  pub first_apart : ((c : ℕ) → seat p.seats c ≡ Some a → ⊥) → result ≡ would_cycle_in ds kind a.0 b.0
  first_apart absent = loop_is ds kind a.0 b.0 (sym (class_linked ds a.0 b.0) ∙ leads_to_nobody p size marked valid Class a b.0 absent) (sym (path_linked ds a.0 b.0) ∙ leads_to_nobody p size marked valid All a b.0 absent)
      (sym (path_linked ds b.0 a.0) ∙ itself_leads p size marked valid All a b.0 absent ∙ eqb-flip b.0 a.0) result group order

  pub second_apart : ((c : ℕ) → seat p.seats c ≡ Some b → ⊥) → result ≡ would_cycle_in ds kind a.0 b.0
  second_apart absent = loop_is ds kind a.0 b.0 (sym (class_linked ds a.0 b.0) ∙ itself_leads p size marked valid Class b a.0 absent) (sym (path_linked ds a.0 b.0) ∙ itself_leads p size marked valid All b a.0 absent)
      (sym (path_linked ds b.0 a.0) ∙ leads_to_nobody p size marked valid All b a.0 absent ∙ eqb-flip b.0 a.0) result group order
