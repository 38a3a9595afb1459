-- Who holds one object by conflicting operations is of one group, also after delegations.
use Rattle.std.proofs.Common.{◌≡◌, ℕ, Bool, true, false, cond, not, eqb, ◌&&◌, ◌||◌, List, [], ◌∷◌, refl, sym, ◌∙◌, ap, ◌⊎◌, inl, inr, None, Some}
use Rattle.std.specs.Prelude.{Option, is_none}
use Rattle.std.specs.Option.{option_or}
use Rattle.std.specs.List.{list_any}
use Rattle.std.proofs.lemmas.Bool.{or_cases, or_left, or_right, and_parts, and_from, eqb-true, eq-eqb, eqb-false, false≢true}
use Rattle.asset_names.specs.declared.names.Txn.{Txn}
use Rattle.asset_names.specs.declared.operations.Op.{Op}
use Rattle.asset_names.specs.declared.operations.Op.TheVariants as Op'
use Rattle.asset_names.specs.declared.sets.ObSet.{ObSet}
use Rattle.asset_names.specs.declared.statuses.End.{End}
use Rattle.asset_names.specs.declared.steps.Step.{Step}
use Rattle.asset_names.specs.declared.steps.Step.TheVariants.{Initiate, Begin, Read, Write, Add, Complete, Permit, PermitAny, Delegate, Depend, Commit, Abort, WaitFor}
use Rattle.asset_names.specs.declared.replies.Refusal.{Refusal}
use Rattle.asset_names.specs.declared.replies.Reply.{Reply}
use Rattle.asset_names.specs.declared.replies.Outcome.TheVariants.{Answer}
use Rattle.asset_names.specs.Arrows.{lists}
use Rattle.asset_names.specs.InSet.{in_set}
use Rattle.asset_names.specs.Steps.{Opening, Entry, takes_effect, applied, initiated}
use Rattle.asset_names.specs.Endings.{end_of, live}
use Rattle.asset_names.specs.Groups.{actor, partner, operates_on, same_group}
use Rattle.asset_names.specs.Operations.{reads, writes, adds, Operation, op_of, same_op, conflict, operated, operations, holds, permits, openers, free}
use Rattle.asset_names.specs.Answers.{rules_for, first_refusal, unrefused, outcome_unless, answer, IsLegal}
use Rattle.asset_names.specs.Orderly.{IsOrderly}
use Rattle.asset_names.proofs.EndLemmas.{live_parts}
use Rattle.asset_names.proofs.HolderLemmas.{held_by, same_op-true, free_allowed}
use Rattle.asset_names.proofs.DelegateLemmas.{holds_delegated}
use Rattle.asset_names.proofs.LegalLemmas.{effect_unrefused, delegate_live, legal_orderly}
use Rattle.asset_laws.proofs.KeepLinks.{Keeps}
use Rattle.asset_laws.proofs.AlikeLemmas.{allows_keeps}
use Rattle.asset_laws.proofs.AnswersAlike.{not_waiting}
use Rattle.asset_laws.proofs.KeptLemmas.{RespectsEntries, respects_applied, kept_alike, opens_to}
use Rattle.asset_laws.proofs.GroupLemmas.{group_refl, keeps_respects, group_keeps}

-- whoever hold an object by conflicting operations are kept together
abbrev pub Together : (ℕ → Bool) → List Step → Type 0
Together keep steps = (u t x : ℕ) (op other : Op) → holds steps u x op ≡ true → holds steps t x other ≡ true → conflict op other ≡ true → keep u ≡ keep t

conflict_flip : (a b : Op) → conflict a b ≡ true → conflict b a ≡ true
unfolding conflict
conflict_flip Op'.Read Op'.Read h = h
conflict_flip Op'.Read Op'.Write h = refl
conflict_flip Op'.Read Op'.Add h = refl
conflict_flip Op'.Write Op'.Read h = refl
conflict_flip Op'.Write Op'.Write h = refl
conflict_flip Op'.Write Op'.Add h = refl
conflict_flip Op'.Add Op'.Read h = refl
conflict_flip Op'.Add Op'.Write h = refl
conflict_flip Op'.Add Op'.Add h = h

-- a step that takes effect is answered as one that is not refused
pub effect_answer : (opening : Opening) (steps : List Step) (step : Step) (reply : Reply) → answer opening steps step ≡ Answer reply → takes_effect step reply ≡ true → unrefused opening steps step ≡ Answer reply
unfolding answer outcome_unless
effect_answer opening steps step reply is effect = sym (not_refused (effect_unrefused opening steps step reply is effect)) ∙ is where
  not_refused : first_refusal (rules_for opening steps step) ≡ None → answer opening steps step ≡ unrefused opening steps step
  not_refused none = unless_none (first_refusal (rules_for opening steps step)) (unrefused opening steps step) none where
    unless_none : (first : Option Refusal) (outcome : _) → first ≡ None → outcome_unless first outcome ≡ outcome
    unless_none None outcome h = refl
    unless_none (Some refusal) outcome h = cc

-- ---- who held before a step

-- some item passes another test
any_more : {A : Type 0} (test other : A → Bool) (xs : List A) → ((x : A) → test x ≡ true → other x ≡ true) → list_any test xs ≡ true → list_any other xs ≡ true
any_more test other [] more h = absurd (false≢true h)
any_more test other (x ∷ xs) more h = elim (or_cases (test x) _ h) [
  | inl here ↦ or_left _ _ (more x here)
  | inr later ↦ or_right (other x) _ (any_more test other xs more later)
]

-- who is live after a step and was initiated before it was live before it
live_before : (step : Step) (steps : List Step) (u : ℕ) → live (step ∷ steps) u ≡ true → lists (initiated steps) u ≡ true → live steps u ≡ true
unfolding live end_of
live_before step steps u alive known = rw (known) (go (end_of steps u) _ (live_parts (step ∷ steps) u alive).1) where
  go : (end later : Option End) → option_or end later ≡ None → is_none end ≡ true
  go None later h = refl
  go (Some end) later h = cc

-- an operation that was there before a step held before it
held_before : (step : Step) (steps : List Step) → IsOrderly steps → (u x : ℕ) (op : Op) → live (step ∷ steps) u ≡ true → list_any (held_by u x op) (operations steps) ≡ true → holds steps u x op ≡ true
unfolding holds
held_before step steps orderly u x op alive held =
    let owns = any_more (held_by u x op) (λ (o : Operation). eqb o.owner u) (operations steps) (λ o h. (and_parts (eqb o.owner u) _ (and_parts (eqb o.owner u && eqb o.object x) _ h).0).0) held in
    and_from _ _ (live_before step steps u alive (orderly.owners_known u owns)) held

-- Who holds after a step: one that held before it and is kept as this one is; or this one asked for the operation, and it
-- was free.
abbrev Holder : (ℕ → Bool) → Step → List Step → ℕ → ℕ → Op → Type 0
Holder keep step steps u x op = ((w : ℕ) × (holds steps w x op ≡ true) × (keep w ≡ keep u)) ⊎ ((u ≡ (actor step).0) × (free steps u x op ≡ true) × (operates_on step x ≡ true))

-- a step that leaves the operations as they are
holder_same : (keep : ℕ → Bool) (step : Step) (steps : List Step) → IsOrderly steps → operations (step ∷ steps) ≡ operations steps
    → (u x : ℕ) (op : Op) → holds (step ∷ steps) u x op ≡ true → Holder keep step steps u x op
unfolding holds
holder_same keep step steps orderly same u x op h =
    let parts = and_parts (live (step ∷ steps) u) _ h in
    let held : list_any (held_by u x op) (operations steps) ≡ true = ap (list_any (held_by u x op)) (sym same) ∙ parts.1 in
    inl (u, held_before step steps orderly u x op parts.0 held, refl)

-- a step that adds an operation of its own, which was free
holder_new : (keep : ℕ → Bool) (step : Step) (steps : List Step) → IsOrderly steps → (new : Operation) → operations (step ∷ steps) ≡ new ∷ operations steps → new.owner ≡ (actor step).0 → operates_on step new.object ≡ true
    → free steps new.owner new.object (op_of new.use_of) ≡ true → (u x : ℕ) (op : Op) → holds (step ∷ steps) u x op ≡ true → Holder keep step steps u x op
unfolding holds
holder_new keep step steps orderly new more asks on is_free u x op h =
    let parts = and_parts (live (step ∷ steps) u) _ h in
    let held : list_any (held_by u x op) (new ∷ operations steps) ≡ true = ap (list_any (held_by u x op)) (sym more) ∙ parts.1 in
    elim (or_cases (held_by u x op new) _ held) [
      | inl here ↦
          let both = and_parts (eqb new.owner u && eqb new.object x) (same_op (op_of new.use_of) op) here in
          let names = and_parts (eqb new.owner u) (eqb new.object x) both.0 in
          let owner = eqb-true new.owner u names.0 in
          inr (sym owner ∙ asks, rw (owner, eqb-true new.object x names.1, same_op-true (op_of new.use_of) op both.1) at is_free, sym (ap (operates_on step) (eqb-true new.object x names.1)) ∙ on)
      | inr later ↦ inl (u, held_before step steps orderly u x op parts.0 later, refl)
    ]

-- a delegation between two who are kept together
holder_handed : (keep : ℕ → Bool) (giver taker : Txn) (obs : ObSet) (steps : List Step) → live steps giver.0 ≡ true → live steps taker.0 ≡ true → keep giver.0 ≡ keep taker.0
    → (u x : ℕ) (op : Op) → holds (Delegate giver taker obs ∷ steps) u x op ≡ true → Holder keep (Delegate giver taker obs) steps u x op
holder_handed keep giver taker obs steps gives takes same u x op h = go (in_set obs x) (sym (holds_delegated giver taker obs steps gives takes u x op) ∙ h) where
  go : (listed : Bool) → cond listed ((eqb u taker.0 && holds steps giver.0 x op) || (not (eqb u giver.0) && holds steps u x op)) (holds steps u x op) ≡ true
      → Holder keep (Delegate giver taker obs) steps u x op
  go false stays = inl (u, stays, refl)
  go true moves = elim (or_cases (eqb u taker.0 && holds steps giver.0 x op) _ moves) [
    | inl from ↦ let parts = and_parts (eqb u taker.0) _ from in inl (giver.0, parts.1, same ∙ ap keep (sym (eqb-true u taker.0 parts.0)))
    | inr other ↦ inl (u, (and_parts (not (eqb u giver.0)) _ other).1, refl)
  ]

holder : (keep : ℕ → Bool) (opening : Opening) (step : Step) (steps : List Step) (reply : Reply) → answer opening steps step ≡ Answer reply → takes_effect step reply ≡ true → IsOrderly steps
    → keep (actor step).0 ≡ keep (partner step).0 → (u x : ℕ) (op : Op) → holds (step ∷ steps) u x op ≡ true → Holder keep step steps u x op
unfolding operations operated op_of actor partner unrefused operates_on
holder keep opening (Initiate t parent) steps reply is effect orderly same = holder_same keep (Initiate t parent) steps orderly refl
holder keep opening (Begin t) steps reply is effect orderly same = holder_same keep (Begin t) steps orderly refl
holder keep opening (Read t y) steps reply is effect orderly same =
    holder_new keep (Read t y) steps orderly (record { owner = t.0; object = y.0; use_of = reads }) refl refl (eq-eqb y.0 y.0 refl) (not_waiting (free steps t.0 y.0 Op'.Read) _ reply (effect_answer opening steps (Read t y) reply is effect))
holder keep opening (Write t y v) steps reply is effect orderly same =
    holder_new keep (Write t y v) steps orderly (record { owner = t.0; object = y.0; use_of = writes v }) refl refl (eq-eqb y.0 y.0 refl) (not_waiting (free steps t.0 y.0 Op'.Write) _ reply (effect_answer opening steps (Write t y v) reply is effect))
holder keep opening (Add t y d) steps reply is effect orderly same =
    holder_new keep (Add t y d) steps orderly (record { owner = t.0; object = y.0; use_of = adds d }) refl refl (eq-eqb y.0 y.0 refl) (not_waiting (free steps t.0 y.0 Op'.Add) _ reply (effect_answer opening steps (Add t y d) reply is effect))
holder keep opening (Complete t) steps reply is effect orderly same = holder_same keep (Complete t) steps orderly refl
holder keep opening (Permit giver taker obs ops) steps reply is effect orderly same = holder_same keep (Permit giver taker obs ops) steps orderly refl
holder keep opening (Delegate giver taker obs) steps reply is effect orderly same =
    let both = delegate_live opening steps giver taker obs reply is effect in holder_handed keep giver taker obs steps both.1 both.2 same
holder keep opening (Depend kind a b) steps reply is effect orderly same = holder_same keep (Depend kind a b) steps orderly refl
holder keep opening (Commit t) steps reply is effect orderly same = holder_same keep (Commit t) steps orderly refl
holder keep opening (Abort t) steps reply is effect orderly same = holder_same keep (Abort t) steps orderly refl
holder keep opening (WaitFor t) steps reply is effect orderly same = holder_same keep (WaitFor t) steps orderly refl
holder keep opening (PermitAny giver obs ops) steps reply is effect orderly same = holder_same keep (PermitAny giver obs ops) steps orderly refl

-- ---- conflicting holders

-- who asked for a free operation is kept as each conflicting holder is
asked_together : (keep : ℕ → Bool) (steps : List Step) (t x : ℕ) (op other : Op) → Keeps keep (permits steps x op) → ((a : ℕ) → lists (openers steps x op) a ≡ true → keep a ≡ keep t) → free steps t x op ≡ true → (w : ℕ) → holds steps w x other ≡ true → conflict other op ≡ true
    → keep w ≡ keep t
asked_together keep steps t x op other keeps opens is_free w held conflicts = go (eqb w t) refl where
  go : (same : Bool) → eqb w t ≡ same → keep w ≡ keep t
  go true e = ap keep (eqb-true w t e)
  go false e = allows_keeps keep steps x op keeps w t opens (free_allowed steps t x op is_free w other held conflicts (eqb-false w t e))

together_more : (keep : ℕ → Bool) (step : Step) (steps : List Step) → ((x : ℕ) (op : Op) → Keeps keep (permits steps x op))
    → ((x a : ℕ) (op : Op) → operates_on step x ≡ true → lists (openers steps x op) a ≡ true → keep a ≡ keep (actor step).0)
    → ((u x : ℕ) (op : Op) → holds (step ∷ steps) u x op ≡ true → Holder keep step steps u x op) → Together keep steps → Together keep (step ∷ steps)
together_more keep step steps keeps opens holders before u t x op other one two conflicts = go (holders u x op one) (holders t x other two) where
  go : Holder keep step steps u x op → Holder keep step steps t x other → keep u ≡ keep t
  go (inl a) (inl b) = sym a.2 ∙ before a.0 b.0 x op other a.1 b.1 conflicts ∙ b.2
  go (inl a) (inr b) = sym a.2 ∙ asked_together keep steps t x other op (keeps x other) (λ n listed. opens x n other b.2 listed ∙ ap keep (sym b.0)) b.1 a.0 a.1 conflicts
  go (inr a) (inl b) = sym (asked_together keep steps u x op other (keeps x op) (λ n listed. opens x n op a.2 listed ∙ ap keep (sym a.0)) a.1 b.0 b.1 (conflict_flip op other conflicts)) ∙ b.2
  go (inr a) (inr b) = ap keep (a.0 ∙ sym b.0)

together : (keep : ℕ → Bool) (opening : Opening) (entries : List Entry) → IsLegal opening entries → RespectsEntries keep entries → Together keep (applied entries)
unfolding IsLegal RespectsEntries applied holds operations
together keep opening [] legal respects = λ u t x op other one two conflicts. absurd (false≢true (and_parts (live [] u) false one).1)
together keep opening (entry ∷ older) legal respects = go (takes_effect entry.0 entry.1) refl (together keep opening older legal.1 respects.1) where
  go : (effect : Bool) → takes_effect entry.0 entry.1 ≡ effect → Together keep (applied older) → Together keep (cond effect (entry.0 ∷ applied older) (applied older))
  go true e before =
      together_more keep entry.0 (applied older) (kept_alike keep (applied older) (respects_applied keep older respects.1)).permits_keep
      (opens_to keep entry older respects e)
      (holder keep opening entry.0 (applied older) entry.1 legal.0 e (legal_orderly opening older legal.1) respects.0.0) before
  go false e before = before

-- conflicting holders are of one group
pub sharing : (opening : Opening) (entries : List Entry) (u t x : ℕ) (op other : Op) → IsLegal opening entries → holds (applied entries) u x op ≡ true → holds (applied entries) t x other ≡ true
    → conflict op other ≡ true → same_group entries u t ≡ true
sharing opening entries u t x op other legal one two conflicts =
    sym (together (same_group entries u) opening entries legal (keeps_respects (same_group entries u) entries (group_keeps entries u)) u t x op other one two conflicts) ∙ group_refl entries u
