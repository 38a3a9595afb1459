-- How one more entry ends a transaction.
use Rattle.std.proofs.Common.{◌≡◌, ℕ, ◌+◌, ◌-◌, ◌<◌, ◌≤◌, Bool, true, false, cond, ◌&&◌, List, ◌∷◌, length, get_or, take, reverse, None, Some, refl, sym, ◌∙◌, ap, arith}
use Rattle.std.specs.Option.{option_or}
use Rattle.asset_names.specs.declared.statuses.End.TheVariants as End'
use Rattle.asset_names.specs.declared.steps.Step.{Step}
use Rattle.asset_names.specs.declared.steps.Step.TheVariants.{Initiate, Begin, Read, Write, Add, Complete, Permit, PermitAny, Delegate, Depend, Commit, Abort, WaitFor}
use Rattle.asset_names.specs.Steps.{Entry, takes_effect, applied}
use Rattle.asset_names.specs.Endings.{end_of, ended_by, live}
use Rattle.asset_names.proofs.Common.{option_or_none}
use Rattle.asset_reference.specs.Ends.{takes_along, ends_by}
use Rattle.asset_reference.proofs.AppliedLemmas.{reverse_take_item}
use Rattle.asset_reference.proofs.ScanLemmas.{at_applied}
use Rattle.asset_reference.proofs.WayLemmas.{classes_are, aborts_are}

-- both hold, in either order
turned : (p q : Bool) → (p && q) ≡ (q && p)
turned true true = refl
turned true false = refl
turned false true = refl
turned false false = refl

-- one more step that took effect
end_at_step : (step : Step) (steps : List Step) (t : ℕ) → end_of (step ∷ steps) t ≡ option_or (end_of steps t) (ends_by step steps t)
unfolding end_of ended_by ends_by takes_along live
end_at_step (Initiate u parent) steps t = refl
end_at_step (Begin u) steps t = refl
end_at_step (Read u x) steps t = refl
end_at_step (Write u x v) steps t = refl
end_at_step (Add u x d) steps t = refl
end_at_step (Complete u) steps t = refl
end_at_step (Permit giver taker obs ops) steps t = refl
end_at_step (PermitAny giver obs ops) steps t = refl
end_at_step (Delegate giver taker obs) steps t = refl
end_at_step (Depend kind a b) steps t = refl
end_at_step (Commit u) steps t = ap (λ takes. option_or (end_of steps t) (cond takes (Some End'.Committed) None)) (ap (λ linked. live steps u.0 && linked) (sym (classes_are steps u.0 t)) ∙ turned (live steps u.0) _)
end_at_step (Abort u) steps t = ap (λ takes. option_or (end_of steps t) (cond takes (Some End'.Aborted) None)) (ap (λ linked. live steps u.0 && linked) (sym (aborts_are steps u.0 t)) ∙ turned (live steps u.0) _)
end_at_step (WaitFor u) steps t = refl

-- how somebody ended by the first entries of a number: by those before the newest, or by that
pub end_more : (entries : List Entry) (count : ℕ) (item : Entry) (t : ℕ) → 0 < count → count ≤ length entries → item ≡ get_or entries (count - 1) item
    → end_of (applied (reverse (take count entries))) t
    ≡ option_or (end_of (applied (reverse (take (count - 1) entries))) t) (cond (takes_effect item.0 item.1) (ends_by item.0 (applied (reverse (take (count - 1) entries))) t) None)
end_more entries count item t some within is =
    let one_more : count ≡ count - 1 + 1 = omega (arith, some) in
    ap (λ n. end_of (applied (reverse (take n entries))) t) one_more
    ∙ ap (λ list. end_of (applied list) t) (reverse_take_item entries (count - 1) item (omega (arith, some, within)) is)
    ∙ at_applied (λ steps. end_of steps t) item (reverse (take (count - 1) entries))
    ∙ go (takes_effect item.0 item.1) where
      older : List Step
      older = applied (reverse (take (count - 1) entries))

      go : (carried : Bool) → cond carried (end_of (item.0 ∷ older) t) (end_of older t) ≡ option_or (end_of older t) (cond carried (ends_by item.0 older t) None)
      go true = end_at_step item.0 older t
      go false = sym (option_or_none (end_of older t))
