-- Two lists of steps that say the same of each transaction that is kept, and what follows: statuses, classes and
-- dependencies, and what each transaction may do.
use Rattle.std.proofs.Common.{◌≡◌, ℕ, Bool, true, false, not, eqb, ◌&&◌, ◌||◌, List, ◌++◌, filter, refl, sym, ◌∙◌, inl, inr}
use Rattle.std.specs.List.{list_any}
use Rattle.std.proofs.lemmas.Bool.{or_cases, and_parts, and_from, eqb-true, false≢true, not-true, not_from_false}
use Rattle.asset_names.specs.declared.operations.Op.{Op}
use Rattle.asset_names.specs.declared.steps.Kind.{Kind}
use Rattle.asset_names.specs.declared.steps.Kind.TheVariants.{Cd, Ad, Gc}
use Rattle.asset_names.specs.declared.steps.Step.{Step}
use Rattle.asset_names.specs.Arrows.{Arrow, lists, linked, has_arrow, among}
use Rattle.asset_names.specs.Paths.{leads, closes_cycle, has_outside}
use Rattle.asset_names.specs.Steps.{initiated, begun, completed}
use Rattle.asset_names.specs.Endings.{dependencies, class_arrows, order_arrows, doom_arrows, end_of, live, status, same_class, has_outside_source, would_cycle}
use Rattle.asset_names.specs.Operations.{Operation, operations, holds_object, permits, openers, permits_along, reaches_opener, allows, blocks, free}
use Rattle.asset_names.specs.Answers.{is_completed, class_completed, may_commit}
use Rattle.asset_names.proofs.Common.{both_follow}
use Rattle.asset_names.proofs.ListLemmas.{any_filter, any_alike}
use Rattle.asset_names.proofs.EndLemmas.{commits, aborts}
use Rattle.asset_names.proofs.DependLemmas.{has_append}
use Rattle.asset_laws.proofs.KeepLinks.{any_name, name_any, Keeps, LeadAlike, linked_keeps, linked_alike, among_keeps, among_alike, append_keeps, append_alike, both_keeps, both_alike, among_alike_to, any_arrow, arrow_any, all_alike, any_fewer}

-- whether the transaction that is responsible for an operation is kept
unfoldable pub owned : (ℕ → Bool) → Operation → Bool
owned keep o = keep o.owner

-- Some of the steps say the same as all of them of each transaction that is kept: whether it was initiated, has begun, has
-- completed and how it ended; which dependencies and permits lead from it and to it; what it opened; and what it is responsible for. All
-- dependencies and permits have both their transactions kept, or neither.
pub record IsAlike (keep : ℕ → Bool) (some all : List Step) : Type 0 where
  pub initiated_alike : (n : ℕ) → keep n ≡ true → lists (initiated some) n ≡ lists (initiated all) n
  pub begun_alike : (n : ℕ) → keep n ≡ true → lists (begun some) n ≡ lists (begun all) n
  pub completed_alike : (n : ℕ) → keep n ≡ true → lists (completed some) n ≡ lists (completed all) n
  pub ends_alike : (n : ℕ) → keep n ≡ true → end_of some n ≡ end_of all n
  pub sources_alike : (kind : Kind) → LeadAlike keep (dependencies kind some) (dependencies kind all)
  pub dependents_alike : (kind : Kind) (u v : ℕ) → keep v ≡ true → has_arrow (dependencies kind some) u v ≡ has_arrow (dependencies kind all) u v
  pub dependencies_keep : (kind : Kind) → Keeps keep (dependencies kind all)
  pub operations_alike : operations some ≡ filter (owned keep) (operations all)
  pub permits_alike : (x : ℕ) (op : Op) → LeadAlike keep (permits some x op) (permits all x op)
  pub permits_keep : (x : ℕ) (op : Op) → Keeps keep (permits all x op)
  pub openers_alike : (x : ℕ) (op : Op) (n : ℕ) → keep n ≡ true → lists (openers some x op) n ≡ lists (openers all x op) n

-- ---- statuses

pub live_alike : (keep : ℕ → Bool) (some all : List Step) → IsAlike keep some all → (n : ℕ) → keep n ≡ true → live some n ≡ live all n
unfolding live
live_alike keep some all alike n stays = rw (alike.initiated_alike n stays, alike.ends_alike n stays) refl

pub status_alike : (keep : ℕ → Bool) (some all : List Step) → IsAlike keep some all → (n : ℕ) → keep n ≡ true → status some n ≡ status all n
unfolding status
status_alike keep some all alike n stays =
    rw (alike.initiated_alike n stays, alike.begun_alike n stays, alike.completed_alike n stays, alike.ends_alike n stays) refl

-- ---- classes and dependencies

class_keeps : (keep : ℕ → Bool) (some all : List Step) → IsAlike keep some all → Keeps keep (class_arrows all)
unfolding class_arrows
class_keeps keep some all alike = both_keeps keep (dependencies Gc all) (alike.dependencies_keep Gc)

class_alike : (keep : ℕ → Bool) (some all : List Step) → IsAlike keep some all → LeadAlike keep (class_arrows some) (class_arrows all)
unfolding class_arrows
class_alike keep some all alike = both_alike keep (dependencies Gc some) (dependencies Gc all) (alike.sources_alike Gc) (alike.dependents_alike Gc)

order_keeps : (keep : ℕ → Bool) (some all : List Step) → IsAlike keep some all → Keeps keep (order_arrows all)
unfolding order_arrows
order_keeps keep some all alike = append_keeps keep (dependencies Cd all) (dependencies Ad all) (alike.dependencies_keep Cd) (alike.dependencies_keep Ad)

order_alike : (keep : ℕ → Bool) (some all : List Step) → IsAlike keep some all → LeadAlike keep (order_arrows some) (order_arrows all)
unfolding order_arrows
order_alike keep some all alike = append_alike keep (dependencies Cd some) (dependencies Ad some) (dependencies Cd all) (dependencies Ad all) (alike.sources_alike Cd) (alike.sources_alike Ad)

order_alike_to : (keep : ℕ → Bool) (some all : List Step) → IsAlike keep some all → (u v : ℕ) → keep v ≡ true → has_arrow (order_arrows some) u v ≡ has_arrow (order_arrows all) u v
unfolding order_arrows
order_alike_to keep some all alike u v stays =
    has_append (dependencies Cd some) (dependencies Ad some) u v
    ∙ rw (alike.dependents_alike Cd u v stays, alike.dependents_alike Ad u v stays) refl
    ∙ sym (has_append (dependencies Cd all) (dependencies Ad all) u v)

doom_keeps : (keep : ℕ → Bool) (some all : List Step) → IsAlike keep some all → Keeps keep (doom_arrows all)
unfolding doom_arrows
doom_keeps keep some all alike = append_keeps keep (class_arrows all) (dependencies Ad all) (class_keeps keep some all alike) (alike.dependencies_keep Ad)

doom_alike : (keep : ℕ → Bool) (some all : List Step) → IsAlike keep some all → LeadAlike keep (doom_arrows some) (doom_arrows all)
unfolding doom_arrows
doom_alike keep some all alike = append_alike keep (class_arrows some) (dependencies Ad some) (class_arrows all) (dependencies Ad all) (class_alike keep some all alike) (alike.sources_alike Ad)

-- arrows among live transactions link alike
linked_live : (keep : ℕ → Bool) (some all : List Step) → IsAlike keep some all → (few many : List Arrow) → Keeps keep many → LeadAlike keep few many
    → (a b : ℕ) → keep a ≡ true → linked (among (live some) few) a b ≡ linked (among (live all) many) a b
linked_live keep some all alike few many keeps same =
    linked_alike keep (among (live some) few) (among (live all) many)
    (among_keeps keep (live all) many keeps)
    (among_alike keep (live some) (live all) few many (live_alike keep some all alike) keeps same)

pub same_class_alike : (keep : ℕ → Bool) (some all : List Step) → IsAlike keep some all → (a b : ℕ) → keep a ≡ true → same_class some a b ≡ same_class all a b
unfolding same_class
same_class_alike keep some all alike = linked_live keep some all alike (class_arrows some) (class_arrows all) (class_keeps keep some all alike) (class_alike keep some all alike)

pub same_class_keeps : (keep : ℕ → Bool) (some all : List Step) → IsAlike keep some all → (a b : ℕ) → same_class all a b ≡ true → keep a ≡ keep b
unfolding same_class
same_class_keeps keep some all alike a b h =
    linked_keeps keep (among (live all) (class_arrows all)) (among_keeps keep (live all) (class_arrows all) (class_keeps keep some all alike)) a b h

-- whom a commit or an abort ends is kept as the transaction that asks for it, and it is the same
pub commits_alike : (keep : ℕ → Bool) (some all : List Step) → IsAlike keep some all → (t n : ℕ) → keep t ≡ true → commits some t n ≡ commits all t n
unfolding commits
commits_alike keep some all alike t n stays =
    rw (live_alike keep some all alike t stays, linked_live keep some all alike (class_arrows some) (class_arrows all) (class_keeps keep some all alike) (class_alike keep some all alike) t n stays) refl

pub aborts_alike : (keep : ℕ → Bool) (some all : List Step) → IsAlike keep some all → (t n : ℕ) → keep t ≡ true → aborts some t n ≡ aborts all t n
unfolding aborts
aborts_alike keep some all alike t n stays =
    rw (live_alike keep some all alike t stays, linked_live keep some all alike (doom_arrows some) (doom_arrows all) (doom_keeps keep some all alike) (doom_alike keep some all alike) t n stays) refl

pub commits_keeps : (keep : ℕ → Bool) (some all : List Step) → IsAlike keep some all → (t n : ℕ) → commits all t n ≡ true → keep t ≡ keep n
unfolding commits
commits_keeps keep some all alike t n h =
    linked_keeps keep (among (live all) (class_arrows all)) (among_keeps keep (live all) (class_arrows all) (class_keeps keep some all alike)) t n (and_parts (live all t) _ h).1

pub aborts_keeps : (keep : ℕ → Bool) (some all : List Step) → IsAlike keep some all → (t n : ℕ) → aborts all t n ≡ true → keep t ≡ keep n
unfolding aborts
aborts_keeps keep some all alike t n h =
    linked_keeps keep (among (live all) (doom_arrows all)) (among_keeps keep (live all) (doom_arrows all) (doom_keeps keep some all alike)) t n (and_parts (live all t) _ h).1

-- arrows of classes and of order together, as arrows among live transactions
leads_alike : (keep : ℕ → Bool) (some all : List Step) → IsAlike keep some all → (a b : ℕ) → keep a ≡ true
    → leads (among (live some) (class_arrows some)) (among (live some) (order_arrows some)) a b ≡ leads (among (live all) (class_arrows all)) (among (live all) (order_arrows all)) a b
unfolding leads
leads_alike keep some all alike =
    linked_alike keep (among (live some) (class_arrows some) ++ among (live some) (order_arrows some)) (among (live all) (class_arrows all) ++ among (live all) (order_arrows all))
    (append_keeps keep _ _ (among_keeps keep (live all) (class_arrows all) (class_keeps keep some all alike)) (among_keeps keep (live all) (order_arrows all) (order_keeps keep some all alike)))
    (append_alike keep _ _ _ _
    (among_alike keep (live some) (live all) (class_arrows some) (class_arrows all) (live_alike keep some all alike) (class_keeps keep some all alike) (class_alike keep some all alike))
    (among_alike keep (live some) (live all) (order_arrows some) (order_arrows all) (live_alike keep some all alike) (order_keeps keep some all alike) (order_alike keep some all alike)))

pub would_cycle_alike : (keep : ℕ → Bool) (some all : List Step) → IsAlike keep some all → (kind : Kind) (a b : ℕ) → keep a ≡ true → keep b ≡ true → would_cycle some kind a b ≡ would_cycle all kind a b
unfolding would_cycle closes_cycle
would_cycle_alike keep some all alike Cd a b one other = leads_alike keep some all alike b a other
would_cycle_alike keep some all alike Ad a b one other = leads_alike keep some all alike b a other
would_cycle_alike keep some all alike Gc a b one other =
    rw (
      linked_live keep some all alike (class_arrows some) (class_arrows all) (class_keeps keep some all alike) (class_alike keep some all alike) a b one,
      leads_alike keep some all alike a b one,
      leads_alike keep some all alike b a other,
    ) refl

-- whether a class may commit
outside_alike : (keep : ℕ → Bool) (some all : List Step) → IsAlike keep some all → (t : ℕ) → keep t ≡ true → has_outside_source some t ≡ has_outside_source all t
unfolding has_outside_source has_outside
outside_alike keep some all alike t stays = both_follow _ _ there back where
  class : (n : ℕ) → linked (among (live some) (class_arrows some)) t n ≡ linked (among (live all) (class_arrows all)) t n
  class n = linked_live keep some all alike (class_arrows some) (class_arrows all) (class_keeps keep some all alike) (class_alike keep some all alike) t n stays

  kept_member : (n : ℕ) → linked (among (live all) (class_arrows all)) t n ≡ true → keep n ≡ true
  kept_member n h = sym (linked_keeps keep _ (among_keeps keep (live all) (class_arrows all) (class_keeps keep some all alike)) t n h) ∙ stays

  to : (u v : ℕ) → keep v ≡ true → has_arrow (among (live some) (order_arrows some)) u v ≡ has_arrow (among (live all) (order_arrows all)) u v
  to = among_alike_to keep (live some) (live all) (order_arrows some) (order_arrows all) (live_alike keep some all alike) (order_keeps keep some all alike) (order_alike_to keep some all alike)

  outside : List Step → Arrow → Bool
  outside steps arrow = linked (among (live steps) (class_arrows steps)) t arrow.1 && not (linked (among (live steps) (class_arrows steps)) t arrow.0)

  there : list_any (outside some) (among (live some) (order_arrows some)) ≡ true → list_any (outside all) (among (live all) (order_arrows all)) ≡ true
  there h =
      let found = any_arrow (outside some) _ h in
      let parts = and_parts (linked (among (live some) (class_arrows some)) t found.1) _ found.3 in
      let member = sym (class found.1) ∙ parts.0 in
      let passes : outside all (found.0, found.1) ≡ true = and_from _ _ member (rw (sym (class found.0)) parts.1) in
      arrow_any (outside all) _ found.0 found.1 (sym (to found.0 found.1 (kept_member found.1 member)) ∙ found.2) passes

  back : list_any (outside all) (among (live all) (order_arrows all)) ≡ true → list_any (outside some) (among (live some) (order_arrows some)) ≡ true
  back h =
      let found = any_arrow (outside all) _ h in
      let parts = and_parts (linked (among (live all) (class_arrows all)) t found.1) _ found.3 in
      let passes : outside some (found.0, found.1) ≡ true = and_from _ _ (class found.1 ∙ parts.0) (rw (class found.0) parts.1) in
      arrow_any (outside some) _ found.0 found.1 (to found.0 found.1 (kept_member found.1 parts.0) ∙ found.2) passes

completed_class_alike : (keep : ℕ → Bool) (some all : List Step) → IsAlike keep some all → (t : ℕ) → keep t ≡ true → class_completed some t ≡ class_completed all t
unfolding class_completed
completed_class_alike keep some all alike t stays = all_alike keep _ _ (initiated some) (initiated all) (alike.initiated_alike) one other where
  stranger : (n : ℕ) → keep n ≡ false → same_class all t n ≡ false
  stranger n gone = go (same_class all t n) refl where
    go : (same : Bool) → same_class all t n ≡ same → same ≡ false
    go false e = refl
    go true e = absurd (false≢true (sym gone ∙ sym (same_class_keeps keep some all alike t n e) ∙ stays))

  one : (n : ℕ) → keep n ≡ true → (not (same_class some t n) || is_completed (status some n)) ≡ (not (same_class all t n) || is_completed (status all n))
  one n here = rw (same_class_alike keep some all alike t n stays, status_alike keep some all alike n here) refl

  other : (n : ℕ) → keep n ≡ false → ((not (same_class some t n) || is_completed (status some n)) ≡ true) × ((not (same_class all t n) || is_completed (status all n)) ≡ true)
  other n gone = (rw (same_class_alike keep some all alike t n stays, stranger n gone) refl, rw (stranger n gone) refl)

pub may_commit_alike : (keep : ℕ → Bool) (some all : List Step) → IsAlike keep some all → (t : ℕ) → keep t ≡ true → may_commit some t ≡ may_commit all t
unfolding may_commit
may_commit_alike keep some all alike t stays = rw (completed_class_alike keep some all alike t stays, outside_alike keep some all alike t stays) refl

-- ---- operations and permits

pub holds_object_alike : (keep : ℕ → Bool) (some all : List Step) → IsAlike keep some all → (t x : ℕ) → keep t ≡ true → holds_object some t x ≡ holds_object all t x
unfolding holds_object owned
holds_object_alike keep some all alike t x stays =
    rw (
      live_alike keep some all alike t stays,
      alike.operations_alike,
      any_filter (λ (o : Operation). eqb o.owner t && eqb o.object x) (owned keep) (operations all),
      any_alike (λ (o : Operation). owned keep o && (eqb o.owner t && eqb o.object x)) (λ (o : Operation). eqb o.owner t && eqb o.object x) (operations all) one,
    ) refl where
      one : (o : Operation) → (keep o.owner && (eqb o.owner t && eqb o.object x)) ≡ (eqb o.owner t && eqb o.object x)
      one o = go (eqb o.owner t) refl where
        go : (own : Bool) → eqb o.owner t ≡ own → (keep o.owner && (own && eqb o.object x)) ≡ (own && eqb o.object x)
        go true e = rw (eqb-true o.owner t e, stays) refl
        go false e = none (keep o.owner) where
          none : (b : Bool) → (b && false) ≡ false
          none true = refl
          none false = refl

along_alike : (keep : ℕ → Bool) (some all : List Step) → IsAlike keep some all → (u t x : ℕ) (op : Op) → keep u ≡ true → permits_along some u t x op ≡ permits_along all u t x op
unfolding permits_along
along_alike keep some all alike u t x op stays =
    linked_live keep some all alike (permits some x op) (permits all x op) (alike.permits_keep x op) (alike.permits_alike x op) u t stays

along_keeps : (keep : ℕ → Bool) (all : List Step) (x : ℕ) (op : Op) → Keeps keep (permits all x op) → (u t : ℕ) → permits_along all u t x op ≡ true → keep u ≡ keep t
unfolding permits_along
along_keeps keep all x op keeps u t h = linked_keeps keep (among (live all) (permits all x op)) (among_keeps keep (live all) (permits all x op) keeps) u t h

reaches_alike : (keep : ℕ → Bool) (some all : List Step) → IsAlike keep some all → (u x : ℕ) (op : Op) → keep u ≡ true → reaches_opener some u x op ≡ reaches_opener all u x op
unfolding reaches_opener
reaches_alike keep some all alike u x op stays = both_follow _ _ there back where
  kept_end : (a : ℕ) → permits_along all u a x op ≡ true → keep a ≡ true
  kept_end a h = sym (along_keeps keep all x op (alike.permits_keep x op) u a h) ∙ stays

  there : list_any (λ a. live some a && permits_along some u a x op) (openers some x op) ≡ true → list_any (λ a. live all a && permits_along all u a x op) (openers all x op) ≡ true
  there h =
      let found = any_name (λ a. live some a && permits_along some u a x op) (openers some x op) h in
      let parts = and_parts (live some found.0) _ found.2 in
      let along = sym (along_alike keep some all alike u found.0 x op stays) ∙ parts.1 in
      let here = kept_end found.0 along in
      name_any (λ a. live all a && permits_along all u a x op) (openers all x op) found.0 (sym (alike.openers_alike x op found.0 here) ∙ found.1) (and_from _ _ (sym (live_alike keep some all alike found.0 here) ∙ parts.0) along)

  back : list_any (λ a. live all a && permits_along all u a x op) (openers all x op) ≡ true → list_any (λ a. live some a && permits_along some u a x op) (openers some x op) ≡ true
  back h =
      let found = any_name (λ a. live all a && permits_along all u a x op) (openers all x op) h in
      let parts = and_parts (live all found.0) _ found.2 in
      let here = kept_end found.0 parts.1 in
      name_any (λ a. live some a && permits_along some u a x op) (openers some x op) found.0 (alike.openers_alike x op found.0 here ∙ found.1)
      (and_from _ _ (live_alike keep some all alike found.0 here ∙ parts.0) (along_alike keep some all alike u found.0 x op stays ∙ parts.1))

pub allows_alike : (keep : ℕ → Bool) (some all : List Step) → IsAlike keep some all → (u t x : ℕ) (op : Op) → keep u ≡ true → keep t ≡ true → allows some u t x op ≡ allows all u t x op
unfolding allows
allows_alike keep some all alike u t x op stays takes =
    rw (along_alike keep some all alike u t x op stays, live_alike keep some all alike t takes, reaches_alike keep some all alike u x op stays) refl

-- who is allowed is kept as who allows is, if each opener is kept as who is allowed is
pub allows_keeps : (keep : ℕ → Bool) (all : List Step) (x : ℕ) (op : Op) → Keeps keep (permits all x op) → (u t : ℕ) → ((a : ℕ) → lists (openers all x op) a ≡ true → keep a ≡ keep t) → allows all u t x op ≡ true → keep u ≡ keep t
unfolding allows reaches_opener
allows_keeps keep all x op keeps u t opens h = elim (or_cases (permits_along all u t x op) _ h) [
  | inl along ↦ along_keeps keep all x op keeps u t along
  | inr opened ↦
      let found = any_name (λ a. live all a && permits_along all u a x op) (openers all x op) ((and_parts (live all t) _ opened).1) in
      along_keeps keep all x op keeps u found.0 ((and_parts (live all found.0) _ found.2).1) ∙ opens found.0 found.1
]

-- what blocks a kept transaction among some of the steps blocks it among all
blocks_alike : (keep : ℕ → Bool) (some all : List Step) → IsAlike keep some all → (t x : ℕ) (op : Op) (o : Operation) → keep t ≡ true → keep o.owner ≡ true → blocks some t x op o ≡ blocks all t x op o
unfolding blocks
blocks_alike keep some all alike t x op o takes stays = rw (live_alike keep some all alike o.owner stays, allows_alike keep some all alike o.owner t x op stays takes) refl

pub free_alike : (keep : ℕ → Bool) (some all : List Step) → IsAlike keep some all → (t x : ℕ) (op : Op) → keep t ≡ true → free all t x op ≡ true → free some t x op ≡ true
unfolding free owned
free_alike keep some all alike t x op takes is_free =
    not_from_false _ (rw (alike.operations_alike, any_filter (blocks some t x op) (owned keep) (operations all))
    (any_fewer (λ (o : Operation). owned keep o && blocks some t x op o) (blocks all t x op) (operations all) one (not-true _ is_free))) where
      one : (o : Operation) → (keep o.owner && blocks some t x op o) ≡ true → blocks all t x op o ≡ true
      one o h = let parts = and_parts (keep o.owner) _ h in sym (blocks_alike keep some all alike t x op o takes parts.0) ∙ parts.1
