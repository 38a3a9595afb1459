-- Who stays responsible, in histories.
use Rattle.std.proofs.Common.{◌≡◌, ℕ, suc, ◌<◌, eqb, eq-eqb, Bool, true, false, cond, ◌&&◌, List, [], ◌∷◌, ◌++◌, length, map, refl, sym, ◌∙◌, ap, None, Some, arith}
use Rattle.std.proofs.lemmas.Bool.{eqb-true, false≢true, and_parts}
use Rattle.std.proofs.lemmas.List.{length-map}
use Rattle.asset_names.specs.declared.names.Txn.{Txn}
use Rattle.asset_names.specs.declared.sets.ObSet.{ObSet}
use Rattle.asset_names.specs.declared.sets.ObSet.TheVariants.{All}
use Rattle.asset_names.specs.declared.statuses.End.{End}
use Rattle.asset_names.specs.declared.steps.Step.{Step}
use Rattle.asset_names.specs.declared.steps.Step.TheVariants.{Initiate, Begin, Read, Write, Add, Complete, Permit, PermitAny, Delegate, Depend, Commit, Abort, WaitFor}
use Rattle.asset_names.specs.declared.replies.Reply.{Reply}
use Rattle.asset_names.specs.declared.replies.Reply.TheVariants as Reply'
use Rattle.asset_names.specs.declared.replies.Outcome.TheVariants.{Answer}
use Rattle.asset_names.specs.InSet.{in_set}
use Rattle.asset_names.specs.Steps.{Opening, Entry, takes_effect, applied}
use Rattle.asset_names.specs.Endings.{end_of}
use Rattle.asset_names.specs.Operations.{Operation, operations, operated, handed_over}
use Rattle.asset_names.specs.Answers.{IsLegal, answer}
use Rattle.asset_names.proofs.AppliedLemmas.{applied_with_effect, applied_without_effect}
use Rattle.asset_names.proofs.EndLemmas.{live_parts}
use Rattle.asset_names.proofs.LegalLemmas.{delegate_live}
use Rattle.asset_model_laws.specs.Owners.{owner_in, is_on, responsible}
use Rattle.asset_model_laws.proofs.EndLaws.{end_later}

not_eqb : (n m : ℕ) → n < m → eqb n m ≡ false
not_eqb n m below = go (eqb n m) refl where
  go : (b : Bool) → eqb n m ≡ b → b ≡ false
  go false e = refl
  go true e = let same : n ≡ m = eqb-true n m e in absurd (omega arith)

-- the number of an operation is below their count
owner_below : (os : List Operation) (n t : ℕ) → owner_in os n ≡ Some t → n < length os
unfolding owner_in
owner_below [] n t is = cc
owner_below (o ∷ os) n t is = go (eqb n (length os)) refl is (λ before. owner_below os n t before) where
  go : (b : Bool) → eqb n (length os) ≡ b → cond b (Some o.owner) (owner_in os n) ≡ Some t → (owner_in os n ≡ Some t → n < length os) → n < suc (length os)
  go true e here deeper = let same : n ≡ length os = eqb-true n (length os) e in omega arith
  go false e here deeper = let below : n < length os = deeper here in omega arith

-- one more operation leaves who is responsible for those before
pub owner_later : (o : Operation) (os : List Operation) (n t : ℕ) → owner_in os n ≡ Some t → owner_in (o ∷ os) n ≡ Some t
unfolding owner_in
owner_later o os n t is = rw (not_eqb n (length os) (owner_below os n t is)) is

-- what another hands over stays whose it is
pub handed_kept : (giver taker : ℕ) (obs : ObSet) (os : List Operation) (n t : ℕ) → eqb giver t ≡ false → owner_in os n ≡ Some t → owner_in (map (handed_over giver taker obs) os) n ≡ Some t
unfolding owner_in handed_over
handed_kept giver taker obs [] n t other is = cc
handed_kept giver taker obs (o ∷ os) n t other is =
    rw (length-map os (handed_over giver taker obs)) (go (eqb n (length os)) is (λ before. handed_kept giver taker obs os n t other before)) where
      owner_kept : (eqb o.owner giver && in_set obs o.object) ≡ true → o.owner ≡ t → Some taker ≡ Some t
      owner_kept moved own = let same : o.owner ≡ giver = eqb-true _ _ (and_parts (eqb o.owner giver) _ moved).0 in absurd (false≢true (sym other ∙ eq-eqb giver t (sym same ∙ own)))

      owner_of : (moved : Bool) → (eqb o.owner giver && in_set obs o.object) ≡ moved → o.owner ≡ t → Some (cond moved (record o { owner = taker }) o).owner ≡ Some t
      owner_of true e own = owner_kept e own
      owner_of false e own = ap Some own

      some_same : (a b : ℕ) → Some a ≡ Some b → a ≡ b
      some_same a b e = cc

      go : (b : Bool) → cond b (Some o.owner) (owner_in os n) ≡ Some t → (owner_in os n ≡ Some t → owner_in (map (handed_over giver taker obs) os) n ≡ Some t)
          → cond b (Some (handed_over giver taker obs o).owner) (owner_in (map (handed_over giver taker obs) os) n) ≡ Some t
      go true here deeper = owner_of (eqb o.owner giver && in_set obs o.object) refl (some_same _ _ here)
      go false here deeper = deeper here

-- a delegation hands over what is the giver's on the objects of its set
moved_on : (giver taker : ℕ) (obs : ObSet) (os : List Operation) (n : ℕ) → owner_in os n ≡ Some giver → is_on obs os n ≡ true → owner_in (map (handed_over giver taker obs) os) n ≡ Some taker
unfolding owner_in is_on handed_over
moved_on giver taker obs [] n is on = cc
moved_on giver taker obs (o ∷ os) n is on =
    rw (length-map os (handed_over giver taker obs)) (go (eqb n (length os)) is on (λ before within. moved_on giver taker obs os n before within)) where
      some_same : (a b : ℕ) → Some a ≡ Some b → a ≡ b
      some_same a b e = cc

      taken : o.owner ≡ giver → in_set obs o.object ≡ true → (handed_over giver taker obs o).owner ≡ taker
      taken own within = rw (eq-eqb o.owner giver own, within) refl

      go : (b : Bool) → cond b (Some o.owner) (owner_in os n) ≡ Some giver → cond b (in_set obs o.object) (is_on obs os n) ≡ true
          → (owner_in os n ≡ Some giver → is_on obs os n ≡ true → owner_in (map (handed_over giver taker obs) os) n ≡ Some taker)
          → cond b (Some (handed_over giver taker obs o).owner) (owner_in (map (handed_over giver taker obs) os) n) ≡ Some taker
      go true here within deeper = ap Some (taken (some_same _ _ here) within)
      go false here within deeper = deeper here within

pub set_handed : (older : List Entry) (giver taker : Txn) (obs : ObSet) (n : ℕ) → responsible (applied older) n ≡ Some giver.0 → is_on obs (operations (applied older)) n ≡ true
    → responsible (applied ((Delegate giver taker obs, Reply'.Done) ∷ older)) n ≡ Some taker.0
unfolding responsible takes_effect operations operated
set_handed older giver taker obs n is on = rw (applied_with_effect (Delegate giver taker obs, Reply'.Done) older refl) (moved_on giver.0 taker.0 obs (operations (applied older)) n is on)

-- each operation is on an object of the set of all objects
all_on : (os : List Operation) (n t : ℕ) → owner_in os n ≡ Some t → is_on All os n ≡ true
unfolding owner_in is_on in_set
all_on [] n t is = cc
all_on (o ∷ os) n t is = go (eqb n (length os)) is (λ before. all_on os n t before) where
  go : (b : Bool) → cond b (Some o.owner) (owner_in os n) ≡ Some t → (owner_in os n ≡ Some t → is_on All os n ≡ true) → cond b true (is_on All os n) ≡ true
  go true here deeper = refl
  go false here deeper = deeper here

pub all_handed : (older : List Entry) (giver taker : Txn) (n : ℕ) → responsible (applied older) n ≡ Some giver.0 → responsible (applied ((Delegate giver taker All, Reply'.Done) ∷ older)) n ≡ Some taker.0
unfolding responsible
all_handed older giver taker n is = set_handed older giver taker All n is (all_on (operations (applied older)) n giver.0 is)

-- who has ended stays responsible, as a step takes effect
responsible_step : (opening : Opening) (steps : List Step) (step : Step) (reply : Reply) (n t : ℕ) (end : End) → answer opening steps step ≡ Answer reply → takes_effect step reply ≡ true
    → end_of steps t ≡ Some end → responsible steps n ≡ Some t → responsible (step ∷ steps) n ≡ Some t
unfolding responsible operations operated
responsible_step opening steps (Initiate u parent) reply n t end is effect ended own = own
responsible_step opening steps (Begin u) reply n t end is effect ended own = own
responsible_step opening steps (Read u x) reply n t end is effect ended own = owner_later _ (operations steps) n t own
responsible_step opening steps (Write u x v) reply n t end is effect ended own = owner_later _ (operations steps) n t own
responsible_step opening steps (Add u x v) reply n t end is effect ended own = owner_later _ (operations steps) n t own
responsible_step opening steps (Complete u) reply n t end is effect ended own = own
responsible_step opening steps (Permit giver taker obs ops) reply n t end is effect ended own = own
responsible_step opening steps (PermitAny giver obs ops) reply n t end is effect ended own = own
responsible_step opening steps (Delegate giver taker obs) reply n t end is effect ended own =
    handed_kept giver.0 taker.0 obs (operations steps) n t (go (eqb giver.0 t) refl) own where
      go : (same : Bool) → eqb giver.0 t ≡ same → same ≡ false
      go false e = refl
      go true e =
          let alive = (delegate_live opening steps giver taker obs reply is effect).1 in
          let none : end_of steps giver.0 ≡ None = (live_parts steps giver.0 alive).1 in
          let at : end_of steps giver.0 ≡ Some end = ap (λ (m : ℕ). end_of steps m) (eqb-true giver.0 t e) ∙ ended in
          cc
responsible_step opening steps (Depend kind a b) reply n t end is effect ended own = own
responsible_step opening steps (Commit u) reply n t end is effect ended own = own
responsible_step opening steps (Abort u) reply n t end is effect ended own = own
responsible_step opening steps (WaitFor u) reply n t end is effect ended own = own

pub responsible_stays : (opening : Opening) (newer older : List Entry) (t : ℕ) (end : End) (n : ℕ) → IsLegal opening (newer ++ older) → end_of (applied older) t ≡ Some end
    → responsible (applied older) n ≡ Some t → responsible (applied (newer ++ older)) n ≡ Some t
unfolding IsLegal
responsible_stays opening [] older t end n legal ended own = own
responsible_stays opening (entry ∷ newer) older t end n legal ended own =
    go (takes_effect entry.0 entry.1) refl (responsible_stays opening newer older t end n legal.1 ended own) where
      go : (effect : Bool) → takes_effect entry.0 entry.1 ≡ effect → responsible (applied (newer ++ older)) n ≡ Some t → responsible (applied (entry ∷ (newer ++ older))) n ≡ Some t
      go true e before = rw (applied_with_effect entry (newer ++ older) e) (responsible_step opening (applied (newer ++ older)) entry.0 entry.1 n t end legal.0 e (end_later newer older t end ended) before)
      go false e before = rw (applied_without_effect entry (newer ++ older) e) before
