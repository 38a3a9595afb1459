-- Equal entries are one.
use Rattle.std.proofs.Common.{◌≡◌, Bool, true, rules, sym, ap, subst, eqb, List, [], ◌∷◌, length, take, replicate, ◌++◌, ◌-◌, ◌∙◌, refl, None, Some}
use Rattle.std.proofs.lemmas.Bool.{and_parts, eqb-true, false≢true}
use Rattle.asset_names.specs.declared.names.Txn.{Txn}
use Rattle.asset_names.specs.declared.names.Ob.{Ob}
use Rattle.asset_names.specs.declared.steps.Step.{Step}
use Rattle.asset_names.specs.declared.steps.Step.TheVariants.{Initiate, Begin, Read, Write, Add, Complete, Permit, PermitAny, Delegate, Depend, Commit, Abort, WaitFor}
use Rattle.asset_names.specs.declared.sets.ObSet.{ObSet}
use Rattle.asset_names.specs.declared.sets.ObSet.TheVariants.{All, Listed}
use Rattle.asset_names.specs.declared.replies.Reply.{Reply}
use Rattle.asset_names.specs.declared.replies.Reply.TheVariants as Reply'
use Rattle.asset_names.specs.declared.replies.Refusal.{Refusal}
use Rattle.asset_names.specs.declared.replies.Refusal.TheVariants as Refusal'
use Rattle.asset_names.specs.contracts.names.ObPartialEq.TheImpl as ob
use Rattle.asset_names.specs.contracts.steps.StepEq.TheImpl.Laws as step_laws
use Rattle.asset_names.specs.contracts.replies.ReplyEq.TheImpl.Laws as reply_laws
use Rattle.asset_names.specs.contracts.operations.OpsPartialEq.TheImpl as ops_eq
use Rattle.asset_names.specs.OpSets.{OpSet}
use Rattle.asset_names.specs.Sets.{no_object_name}
use lib.Pointwise.{pointwise}
use Rattle.std.proofs.lemmas.List.{take_at}
use Rattle.asset_names.specs.contracts.steps.StepPartialEq.TheImpl as step
use Rattle.asset_names.specs.contracts.sets.ObSetPartialEq.TheImpl as obset
use Rattle.asset_names.specs.contracts.replies.ReplyPartialEq.TheImpl as reply
use Rattle.asset_names.specs.contracts.replies.RefusalPartialEq.TheImpl as refusal

-- lists that are equal item by item are one, if equal items are
same_items : {X : Type 0} (E : X → X → Bool) → ((a b : X) → E a b ≡ true → a ≡ b) → (xs ys : List X) → pointwise E xs ys ≡ true → xs ≡ ys
same_items E one [] [] h = refl
same_items E one [] (y ∷ ys) h = absurd (false≢true h)
same_items E one (x ∷ xs) [] h = absurd (false≢true h)
same_items E one (x ∷ xs) (y ∷ ys) h = let parts = and_parts (E x y) (pointwise E xs ys) h in λ i. one x y parts.0 i ∷ same_items E one xs ys parts.1 i

same_object : (a b : Ob) → ob.ghosts.eq a b ≡ true → a ≡ b
same_object a b h = search rules

filled : List Ob → List Ob
filled xs = xs ++ replicate (16 - length xs) no_object_name

same_list : (xs ys : List Ob) → pointwise ob.ghosts.eq (filled xs) (filled ys) ≡ true → eqb (length xs) (length ys) ≡ true → xs ≡ ys
unfolding filled
same_list xs ys items count =
    sym (take_at xs (replicate (16 - length xs) no_object_name) (length xs) refl) ∙ ap (take (length xs)) (same_items ob.ghosts.eq same_object (filled xs) (filled ys) items)
    ∙ take_at ys (replicate (16 - length ys) no_object_name) (length xs) (sym (eqb-true _ _ count))

same_set : (a b : ObSet) → obset.ghosts.eq a b ≡ true → a ≡ b
unfolding filled
same_set All b h = search rules
same_set (Listed xs) All h = absurd (false≢true h)
same_set (Listed xs) (Listed ys) h = let parts = and_parts (pointwise ob.ghosts.eq (filled xs) (filled ys)) (eqb (length xs) (length ys)) h in ap Listed (same_list xs ys parts.0 parts.1)

same_refusal : (a b : Refusal) → refusal.ghosts.eq a b ≡ true → a ≡ b
same_refusal (Refusal'.Unknown t) b h = search rules
same_refusal (Refusal'.Ended t) b h = search rules
same_refusal (Refusal'.NotRunning t) b h = search rules
same_refusal (Refusal'.Taken t) b h = search rules
same_refusal (Refusal'.Begun t) b h = search rules
same_refusal (Refusal'.NoObject x) b h = search rules
same_refusal Refusal'.Same b h = search rules
same_refusal Refusal'.Cycle b h = search rules
same_refusal (Refusal'.TooLate t) b h = search rules

same_reply : (a b : Reply) → reply.ghosts.eq a b ≡ true → a ≡ b
same_reply Reply'.Done b h = search rules
same_reply (Reply'.Value v) b h = search rules
same_reply Reply'.Committed b h = search rules
same_reply Reply'.Aborted b h = search rules
same_reply (Reply'.Refused r) b h = search (same_refusal, rules)

same_ops : (a b : OpSet) → ops_eq.ghosts.eq a b ≡ true → a ≡ b
same_ops a b h = search rules

same_permit : (giver taker : Txn) (obs : ObSet) (ops : OpSet) (b : Step) → step.ghosts.eq (Permit giver taker obs ops) b ≡ true → Permit giver taker obs ops ≡ b
same_permit giver taker obs ops (Initiate t parent) h = absurd (false≢true h)
same_permit giver taker obs ops (Begin t) h = absurd (false≢true h)
same_permit giver taker obs ops (Read t x) h = absurd (false≢true h)
same_permit giver taker obs ops (Write t x v) h = absurd (false≢true h)
same_permit giver taker obs ops (Add t x d) h = absurd (false≢true h)
same_permit giver taker obs ops (Complete t) h = absurd (false≢true h)
same_permit giver taker obs ops (Permit g u o p) h =
    let one = and_parts (eqb giver.0 g.0) _ h in
    let two = and_parts (eqb taker.0 u.0) _ one.1 in
    let three = and_parts (obset.ghosts.eq obs o) (ops_eq.ghosts.eq ops p) two.1 in
    λ i. Permit (record { 0 = eqb-true giver.0 g.0 one.0 i }) (record { 0 = eqb-true taker.0 u.0 two.0 i }) (same_set obs o three.0 i) (same_ops ops p three.1 i)
same_permit giver taker obs ops (PermitAny g o p) h = absurd (false≢true h)
same_permit giver taker obs ops (Delegate g u o) h = absurd (false≢true h)
same_permit giver taker obs ops (Depend k u v) h = absurd (false≢true h)
same_permit giver taker obs ops (Commit t) h = absurd (false≢true h)
same_permit giver taker obs ops (Abort t) h = absurd (false≢true h)
same_permit giver taker obs ops (WaitFor t) h = absurd (false≢true h)

same_open : (giver : Txn) (obs : List Ob) (ops : OpSet) (b : Step) → step.ghosts.eq (PermitAny giver obs ops) b ≡ true → PermitAny giver obs ops ≡ b
unfolding filled
same_open giver obs ops (Initiate t parent) h = absurd (false≢true h)
same_open giver obs ops (Begin t) h = absurd (false≢true h)
same_open giver obs ops (Read t x) h = absurd (false≢true h)
same_open giver obs ops (Write t x v) h = absurd (false≢true h)
same_open giver obs ops (Add t x d) h = absurd (false≢true h)
same_open giver obs ops (Complete t) h = absurd (false≢true h)
same_open giver obs ops (Permit g u o p) h = absurd (false≢true h)
same_open giver obs ops (PermitAny g o p) h =
    let one = and_parts (eqb giver.0 g.0) _ h in
    let two = and_parts (obset.ghosts.eq (Listed obs) (Listed o)) (ops_eq.ghosts.eq ops p) one.1 in
    let lists = and_parts (pointwise ob.ghosts.eq (filled obs) (filled o)) (eqb (length obs) (length o)) two.0 in
    λ i. PermitAny (record { 0 = eqb-true giver.0 g.0 one.0 i }) (same_list obs o lists.0 lists.1 i) (same_ops ops p two.1 i)
same_open giver obs ops (Delegate g u o) h = absurd (false≢true h)
same_open giver obs ops (Depend k u v) h = absurd (false≢true h)
same_open giver obs ops (Commit t) h = absurd (false≢true h)
same_open giver obs ops (Abort t) h = absurd (false≢true h)
same_open giver obs ops (WaitFor t) h = absurd (false≢true h)

same_delegate : (giver taker : Txn) (obs : ObSet) (b : Step) → step.ghosts.eq (Delegate giver taker obs) b ≡ true → Delegate giver taker obs ≡ b
same_delegate giver taker obs (Initiate t parent) h = absurd (false≢true h)
same_delegate giver taker obs (Begin t) h = absurd (false≢true h)
same_delegate giver taker obs (Read t x) h = absurd (false≢true h)
same_delegate giver taker obs (Write t x v) h = absurd (false≢true h)
same_delegate giver taker obs (Add t x d) h = absurd (false≢true h)
same_delegate giver taker obs (Complete t) h = absurd (false≢true h)
same_delegate giver taker obs (Permit g u o p) h = absurd (false≢true h)
same_delegate giver taker obs (PermitAny g o p) h = absurd (false≢true h)
same_delegate giver taker obs (Delegate g u o) h =
    let one = and_parts (eqb giver.0 g.0) _ h in
    let two = and_parts (eqb taker.0 u.0) _ one.1 in
    λ i. Delegate (record { 0 = eqb-true giver.0 g.0 one.0 i }) (record { 0 = eqb-true taker.0 u.0 two.0 i }) (same_set obs o two.1 i)
same_delegate giver taker obs (Depend k u v) h = absurd (false≢true h)
same_delegate giver taker obs (Commit t) h = absurd (false≢true h)
same_delegate giver taker obs (Abort t) h = absurd (false≢true h)
same_delegate giver taker obs (WaitFor t) h = absurd (false≢true h)

same_step : (a b : Step) → step.ghosts.eq a b ≡ true → a ≡ b
same_step (Initiate t parent) b h = search rules
same_step (Begin t) b h = search rules
same_step (Read t x) b h = search rules
same_step (Write t x v) b h = search rules
same_step (Add t x d) b h = search rules
same_step (Complete t) b h = search rules
same_step (Permit giver taker obs ops) b h = same_permit giver taker obs ops b h
same_step (PermitAny giver obs ops) b h = same_open giver obs ops b h
same_step (Delegate giver taker obs) b h = same_delegate giver taker obs b h
same_step (Depend kind u v) b h = search rules
same_step (Commit t) b h = search rules
same_step (Abort t) b h = search rules
same_step (WaitFor t) b h = search rules

step_itself : (a : Step) → step.ghosts.eq a a ≡ true
step_itself a = step_laws.laws-law.refl a

reply_itself : (a : Reply) → reply.ghosts.eq a a ≡ true
reply_itself a = reply_laws.laws-law.refl a

-- a step and a reply that are equal to others are those
pub same_entry : (s t : Step) (r q : Reply) → step.ghosts.eq s t ≡ true → reply.ghosts.eq r q ≡ true → ◌≡◌ {A = Step × Reply} (s, r) (t, q)
same_entry s t r q steps replies = λ i. (same_step s t steps i, same_reply r q replies i)

-- and a step and a reply that are others are equal to those
pub equal_entry : (e : Step × Reply) (t : Step) (q : Reply) → e ≡ (t, q) → (step.ghosts.eq e.0 t ≡ true) × (reply.ghosts.eq e.1 q ≡ true)
equal_entry e t q both =
    (subst (λ (other : Step × Reply). step.ghosts.eq e.0 other.0 ≡ true) both (step_itself e.0), subst (λ (other : Step × Reply). reply.ghosts.eq e.1 other.1 ≡ true) both (reply_itself e.1))

pub some_is_one : (a b : Step × Reply) → Some a ≡ Some b → a ≡ b
some_is_one a b both = cc

pub none_is_no_entry : (a : Step × Reply) → ¬ (None ≡ Some a)
none_is_no_entry a both = cc
