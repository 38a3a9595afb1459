-- Who is known was acted on.
use Rattle.std.proofs.Common.{◌≡◌, ℕ, Bool, true, false, cond, eqb, ◌||◌, List, [], ◌∷◌, refl, sym, ap, ◌∙◌, inl, inr, Some}
use Rattle.std.specs.List.{list_any}
use Rattle.std.proofs.lemmas.Bool.{or_cases, or_left, or_right, false≢true}
use Rattle.std.proofs.lemmas.List.Folds.{list_any-append}
use Rattle.asset_names.specs.declared.names.Txn.{Txn}
use Rattle.asset_names.specs.declared.steps.Step.{Step}
use Rattle.asset_names.specs.declared.steps.Step.TheVariants.{Initiate, Begin, Read, Write, Add, Complete, Permit, PermitAny, Delegate, Depend, Commit, Abort, WaitFor}
use Rattle.asset_names.specs.declared.replies.Refusal.TheVariants as Refusal'
use Rattle.asset_names.specs.declared.replies.Reply.{Reply}
use Rattle.asset_names.specs.declared.replies.Reply.TheVariants as Reply'
use Rattle.asset_names.specs.declared.replies.Outcome.{Outcome}
use Rattle.asset_names.specs.declared.replies.Outcome.TheVariants.{Answer}
use Rattle.asset_names.specs.Arrows.{lists}
use Rattle.asset_names.specs.Steps.{Opening, Entry, takes_effect, applied, initiated, initiated_by}
use Rattle.asset_names.specs.Endings.{status}
use Rattle.asset_names.specs.Groups.{actor, partner, acted_on_by, acted_on}
use Rattle.asset_names.specs.Answers.{Rule, is_unknown, unknown, rules_for, first_refusal, outcome_unless, answer}
use Rattle.asset_names.proofs.LegalLemmas.{known_initiated}
use Rattle.asset_entries.specs.Knowing.{is_of_one, is_known_by, is_of_known}

-- a step whose first rule is that its transaction is known
refused_unknown : (t : Txn) (reply : Reply) → Reply'.Refused (Refusal'.Unknown t) ≡ reply → is_known_by reply ≡ true → false ≡ true
unfolding is_known_by
refused_unknown t reply same known = ap is_known_by same ∙ known

not_unknown : (steps : List Step) (t : Txn) (rules : List Rule) (outcome : Outcome) (reply : Reply) → outcome_unless (first_refusal (unknown steps t ∷ rules)) outcome ≡ Answer reply → is_known_by reply ≡ true → is_unknown (status steps t.0) ≡ false
unfolding outcome_unless first_refusal unknown
not_unknown steps t rules outcome reply is known = go (is_unknown (status steps t.0)) is where
  go : (b : Bool) → outcome_unless (cond b (Some (Refusal'.Unknown t)) (first_refusal rules)) outcome ≡ Answer reply → b ≡ false
  go false h = refl
  go true h = let same : Reply'.Refused (Refusal'.Unknown t) ≡ reply = cc in absurd (false≢true (refused_unknown t reply same known))

known_here : (opening : Opening) (steps : List Step) (step : Step) (reply : Reply) → answer opening steps step ≡ Answer reply → is_of_known step reply ≡ true → (is_unknown (status steps (actor step).0) ≡ false) × (partner step ≡ actor step)
unfolding answer rules_for is_of_known is_of_one actor partner
known_here opening steps (Begin t) reply is known = (not_unknown steps t _ _ reply is known, refl)
known_here opening steps (Read t x) reply is known = (not_unknown steps t _ _ reply is known, refl)
known_here opening steps (Write t x v) reply is known = (not_unknown steps t _ _ reply is known, refl)
known_here opening steps (Add t x d) reply is known = (not_unknown steps t _ _ reply is known, refl)
known_here opening steps (Complete t) reply is known = (not_unknown steps t _ _ reply is known, refl)
known_here opening steps (Commit t) reply is known = (not_unknown steps t _ _ reply is known, refl)
known_here opening steps (Abort t) reply is known = (not_unknown steps t _ _ reply is known, refl)
known_here opening steps (Initiate t parent) reply is known = absurd (false≢true known)
known_here opening steps (Permit giver taker obs ops) reply is known = absurd (false≢true known)
known_here opening steps (PermitAny giver obs ops) reply is known = absurd (false≢true known)
known_here opening steps (Delegate giver taker obs) reply is known = absurd (false≢true known)
known_here opening steps (Depend kind a b) reply is known = absurd (false≢true known)
known_here opening steps (WaitFor t) reply is known = absurd (false≢true known)

-- who was initiated was acted on
initiates_actor : (step : Step) (t : ℕ) → lists (initiated_by step) t ≡ true → lists (acted_on_by (step, Reply'.Done)) t ≡ true
unfolding initiated_by lists acted_on_by actor partner
initiates_actor (Initiate u parent) t h = elim (or_cases (eqb u.0 t) false h) [ inl is ↦ or_left _ _ is | inr none ↦ absurd (false≢true none) ]
initiates_actor step t h = absurd (false≢true h)

initiated_acts : (entries : List Entry) (t : ℕ) → lists (initiated (applied entries)) t ≡ true → lists (acted_on entries) t ≡ true
unfolding initiated applied acted_on lists acted_on_by
initiated_acts [] t h = h
initiated_acts (entry ∷ older) t h = go (λ before. initiated_acts older t before) (takes_effect entry.0 entry.1) h where
  later : lists (acted_on older) t ≡ true → lists (acted_on (entry ∷ older)) t ≡ true
  later there = or_right (eqb (actor entry.0).0 t) _ (or_right (eqb (partner entry.0).0 t) _ there)

  only : (eqb (partner entry.0).0 t || false) ≡ true → eqb (partner entry.0).0 t ≡ true
  only k = elim (or_cases (eqb (partner entry.0).0 t) false k) [ inl is ↦ is | inr none ↦ absurd (false≢true none) ]

  go : (lists (initiated (applied older)) t ≡ true → lists (acted_on older) t ≡ true) → (effect : Bool) → lists (initiated (cond effect (entry.0 ∷ applied older) (applied older))) t ≡ true → lists (acted_on (entry ∷ older)) t ≡ true
  go known false before = later (known before)
  go known true some = elim (or_cases (list_any (λ m. eqb m t) (initiated_by entry.0)) _ (sym (list_any-append (λ m. eqb m t) (initiated_by entry.0) (initiated (applied older))) ∙ some)) [
    | inl here ↦ elim (or_cases (eqb (actor entry.0).0 t) _ (initiates_actor entry.0 t here)) [
      | inl first ↦ or_left _ _ first
      | inr second ↦ or_right (eqb (actor entry.0).0 t) _ (or_left _ _ (only second))
    ]
    | inr before ↦ later (known before)
  ]

pub known_acts : (opening : Opening) (older : List Entry) (step : Step) (reply : Reply) → answer opening (applied older) step ≡ Answer reply → is_of_known step reply ≡ true
    → (lists (acted_on older) (actor step).0 ≡ true) × (partner step ≡ actor step)
known_acts opening older step reply is known =
    let here = known_here opening (applied older) step reply is known in
    (initiated_acts older (actor step).0 (known_initiated (applied older) (actor step).0 here.0), here.1)
