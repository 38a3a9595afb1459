-- Those who are found are the live transactions that pass a test.
use Rattle.std.proofs.Common.{◌≡◌, ℕ, Bool, true, not, eqb, ◌&&◌, ◌||◌, List, reverse, sym, ap, ◌∙◌, inl, inr}
use Rattle.std.specs.List.{filter}
use Rattle.std.specs.List.Sorted.{IsStrictlySortedBy}
use Rattle.std.specs.Ordering.{nat_cmp}
use Rattle.std.proofs.lemmas.Bool.{and_parts, and_from, or_cases, eqb-true}
use Rattle.asset_names.specs.declared.operations.Op.{Op}
use Rattle.asset_names.specs.declared.operations.Op.TheVariants as Op'
use Rattle.asset_names.specs.declared.steps.Step.{Step}
use Rattle.asset_names.specs.Arrows.{lists, linked, among}
use Rattle.asset_names.specs.Steps.{initiated}
use Rattle.asset_names.specs.Endings.{live, same_class, class_arrows, order_arrows, status}
use Rattle.asset_names.specs.Answers.{is_completed}
use Rattle.asset_names.specs.Operations.{conflict, holds, allows}
use Rattle.asset_names.proofs.Common.{both_follow}
use Rattle.asset_names.proofs.EndLemmas.{live_parts, linked_among}
use Rattle.asset_names.proofs.PermitLemmas.{has_among}
use Rattle.asset_deps.specs.Dependencies.{is_outside_of}
use Rattle.asset_deps.proofs.OutsideLemmas.{arrow_of_any}
use Rattle.asset_ends.specs.Waits.{holds_against, is_blocker, is_unfinished, is_outside_source}
use Rattle.asset_ends.proofs.EnrolledLemmas.{lists_filter}
use Rattle.asset_ends.proofs.HistoryLemmas.{lists_reverse}
use Rattle.asset_waits.specs.Waiting.{live_names, live_who}
use Rattle.asset_waits.proofs.RisingLemmas.{sorted_rises, same_rising, rising_rises, rising_lists}

-- the live names are those of live transactions
pub live_listed : (steps : List Step) (u : ℕ) → lists (live_names steps) u ≡ live steps u
unfolding live_names
live_listed steps u = both_follow _ _
    (λ h. (and_parts (live steps u) _ (sym (lists_filter (live steps) (reverse (initiated steps)) u) ∙ h)).0)
    (λ h. lists_filter (live steps) (reverse (initiated steps)) u ∙ and_from _ _ h (lists_reverse (initiated steps) u ∙ (live_parts steps u h).0))

-- where only live ones pass a test, those who pass it are listed
pub who_listed : (steps : List Step) (test : ℕ → Bool) (u : ℕ) → (test u ≡ true → live steps u ≡ true) → lists (live_who steps test) u ≡ test u
unfolding live_who
who_listed steps test u passes =
    rising_lists (filter test (live_names steps)) u
    ∙ lists_filter test (live_names steps) u
    ∙ both_follow _ _ (λ h. (and_parts (test u) _ h).0) (λ h. and_from _ _ h (live_listed steps u ∙ passes h))

-- and the keys of a set that has them are they, rising
pub found_are : (steps : List Step) (test : ℕ → Bool) (keys : List ℕ) → IsStrictlySortedBy nat_cmp keys → ((u : ℕ) → lists keys u ≡ test u) → ((u : ℕ) → test u ≡ true → live steps u ≡ true) → keys ≡ live_who steps test
unfolding live_who
found_are steps test keys sorted named passes =
    same_rising keys (live_who steps test) (sorted_rises keys sorted) (rising_rises (filter test (live_names steps))) (λ u. named u ∙ sym (who_listed steps test u (passes u)))

-- ---- who is waited for is live
pub blocker_lives : (steps : List Step) (t x : ℕ) (op : Op) (u : ℕ) → is_blocker steps t x op u ≡ true → live steps u ≡ true
unfolding is_blocker holds_against holds
blocker_lives steps t x op u h =
    elim (or_cases (holds steps u x Op'.Read && conflict Op'.Read op || holds steps u x Op'.Write && conflict Op'.Write op) (holds steps u x Op'.Add && conflict Op'.Add op) (and_parts (not (eqb u t) && not (allows steps u t x op)) _ h).1) [
      | inl other ↦ elim (or_cases (holds steps u x Op'.Read && conflict Op'.Read op) (holds steps u x Op'.Write && conflict Op'.Write op) other) [
        | inl reading ↦ (and_parts (live steps u) _ (and_parts (holds steps u x Op'.Read) _ reading).0).0
        | inr writing ↦ (and_parts (live steps u) _ (and_parts (holds steps u x Op'.Write) _ writing).0).0
      ]
      | inr adding ↦ (and_parts (live steps u) _ (and_parts (holds steps u x Op'.Add) _ adding).0).0
    ]

pub unfinished_lives : (steps : List Step) (t u : ℕ) → is_unfinished steps t u ≡ true → live steps u ≡ true
unfolding is_unfinished same_class
unfinished_lives steps t u h =
    let parts = and_parts (live steps t && same_class steps t u) (not (is_completed (status steps u))) h in
    let both = and_parts (live steps t) (same_class steps t u) parts.0 in
    linked_among (live steps) (class_arrows steps) t u both.0 both.1

pub source_lives : (steps : List Step) (t u : ℕ) → is_outside_source steps t u ≡ true → live steps u ≡ true
unfolding is_outside_source is_outside_of
source_lives steps t u h =
    let classes = among (live steps) (class_arrows steps) in
    let orders = among (live steps) (order_arrows steps) in
    let parts = and_parts (not (linked classes t u)) _ (and_parts (live steps t) _ h).1 in
    let arrow = arrow_of_any (λ a b. eqb a u && linked classes t b) orders parts.1 in
    let both = and_parts (live steps arrow.0 && live steps arrow.1) _ (sym (has_among (live steps) (order_arrows steps) arrow.0 arrow.1) ∙ arrow.2) in
    ap (live steps) (sym (eqb-true arrow.0 u (and_parts (eqb arrow.0 u) _ arrow.3).0)) ∙ (and_parts (live steps arrow.0) _ both.0).0
