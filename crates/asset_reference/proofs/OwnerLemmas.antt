-- Operations, each with the one who is responsible for it now.
use Rattle.std.proofs.Common.{◌≡◌, ℕ, ◌+◌, ◌-◌, ◌<◌, Bool, true, false, cond, eqb, ◌&&◌, List, [], ◌∷◌, ◌++◌, map, length, get_or, take, drop, reverse, refl, sym, ◌∙◌, ap, arith, length-drop}
use Rattle.std.proofs.lemmas.List.{take_all, drop_all, at_drop_more, map-id}
use Rattle.asset_names.specs.declared.sets.ObSet.{ObSet}
use Rattle.asset_names.specs.declared.steps.Step.{Step}
use Rattle.asset_names.specs.declared.steps.Step.TheVariants.{Initiate, Begin, Read, Write, Add, Complete, Permit, PermitAny, Delegate, Depend, Commit, Abort, WaitFor}
use Rattle.asset_names.specs.InSet.{in_set}
use Rattle.asset_names.specs.Steps.{Entry, takes_effect, applied}
use Rattle.asset_names.specs.Operations.{Operation, operations, operated, handed_over}
use Rattle.asset_reference.specs.Owners.{handed_by, handed_at, responsible, owned_now, operated_within}
use Rattle.asset_reference.proofs.AppliedLemmas.{reverse_take_item}
use Rattle.asset_reference.proofs.ScanLemmas.{at_applied}

-- the operations that a delegation hands over, with the one who is responsible for them now
owned_handed : (giver taker : ℕ) (obs : ObSet) (later : List Entry) (os : List Operation)
    → map (owned_now later) (map (handed_over giver taker obs) os)
    ≡ map (λ (o : Operation). record o { owner = responsible later (cond (eqb o.owner giver && in_set obs o.object) taker o.owner) o.object }) os
unfolding owned_now handed_over
owned_handed giver taker obs later [] = refl
owned_handed giver taker obs later (o ∷ os) =
    λ i. one (eqb o.owner giver && in_set obs o.object) i ∷ owned_handed giver taker obs later os i where
      one : (moves : Bool) → owned_now later (cond moves (record o { owner = taker }) o) ≡ record o { owner = responsible later (cond moves taker o.owner) o.object }
      one true = refl
      one false = refl

-- one more step that took effect
owned_at_step : (step : Step) (steps : List Step) (later : List Entry) → map (owned_now later) (operations (step ∷ steps))
    ≡ map (owned_now later) (operated step []) ++ map (λ (o : Operation). record o { owner = responsible later (handed_by step o.owner o.object) o.object }) (operations steps)
unfolding operations operated owned_now handed_by
owned_at_step (Initiate u parent) steps later = refl
owned_at_step (Begin u) steps later = refl
owned_at_step (Read u y) steps later = refl
owned_at_step (Write u y v) steps later = refl
owned_at_step (Add u y d) steps later = refl
owned_at_step (Complete u) steps later = refl
owned_at_step (Permit giver taker obs ops) steps later = refl
owned_at_step (PermitAny giver obs ops) steps later = refl
owned_at_step (Delegate giver taker obs) steps later = owned_handed giver.0 taker.0 obs later (operations steps)
owned_at_step (Depend kind a b) steps later = refl
owned_at_step (Commit u) steps later = refl
owned_at_step (Abort u) steps later = refl
owned_at_step (WaitFor u) steps later = refl

-- one more entry
owned_at_entry : (entry : Entry) (older later : List Entry) → map (owned_now later) (operations (applied (entry ∷ older)))
    ≡ cond (takes_effect entry.0 entry.1) (map (owned_now later) (operated entry.0 [])) [] ++ map (owned_now (entry ∷ later)) (operations (applied older))
unfolding owned_now responsible handed_at
owned_at_entry entry older later =
    at_applied (λ steps. map (owned_now later) (operations steps)) entry older ∙ go (takes_effect entry.0 entry.1) where
      go : (carried : Bool) → cond carried (map (owned_now later) (operations (entry.0 ∷ applied older))) (map (owned_now later) (operations (applied older)))
          ≡ cond carried (map (owned_now later) (operated entry.0 [])) []
          ++ map (λ (o : Operation). record o { owner = responsible later (cond carried (handed_by entry.0 o.owner o.object) o.owner) o.object }) (operations (applied older))
      go true = owned_at_step entry.0 (applied older) later
      go false = refl

-- the operations within one more entry
pub owned_more : (entries : List Entry) (i : ℕ) (item : Entry) → i < length entries → item ≡ get_or entries i item
    → operated_within entries (i + 1) ≡ cond (takes_effect item.0 item.1) (map (owned_now (drop (i + 1) entries)) (operated item.0 [])) [] ++ operated_within entries i
unfolding operated_within
owned_more entries i item below is =
    let rest : item ∷ drop (i + 1) entries ≡ drop i entries = ap (λ entry. entry ∷ drop (i + 1) entries) is ∙ sym (at_drop_more (λ list. list) entries i item below) in
    ap (λ list. map (owned_now (drop (i + 1) entries)) (operations (applied list))) (reverse_take_item entries i item below is)
    ∙ owned_at_entry item (reverse (take i entries)) (drop (i + 1) entries)
    ∙ ap (λ list. cond (takes_effect item.0 item.1) (map (owned_now (drop (i + 1) entries)) (operated item.0 [])) [] ++ map (owned_now list) (operations (applied (reverse (take i entries))))) rest

-- the operations within all entries
pub owned_all : (entries : List Entry) → operated_within entries (length entries) ≡ operations (applied (reverse entries))
unfolding operated_within owned_now responsible
owned_all entries =
    ap (λ list. map (owned_now list) (operations (applied (reverse (take (length entries) entries))))) (drop_all (length entries) entries (omega arith))
    ∙ map-id (operations (applied (reverse (take (length entries) entries))))
    ∙ ap (λ list. operations (applied (reverse list))) (take_all (length entries) entries (omega arith))

-- the entries from a number on, as a slice has them
pub rest_is : (entries : List Entry) (i : ℕ) → take (length entries - i) (drop i entries) ≡ drop i entries
rest_is entries i = take_all (length entries - i) (drop i entries) (omega (arith, length-drop i entries))
