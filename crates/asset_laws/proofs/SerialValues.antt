-- Values where nobody shares: the writes of a transaction that has not ended come last on what it uses.
use Rattle.std.proofs.Common.{◌≡◌, ℕ, ℤ, ◌+ℤ◌, w64, Bool, true, false, cond, not, eqb, ◌&&◌, ◌||◌, List, [], ◌∷◌, ◌++◌, filter, refl, sym, ◌∙◌, ap, subst, inl, inr, ◌⊎◌, None}
use Rattle.std.specs.List.{list_any}
use Rattle.std.specs.Int.{int_wrap}
use Rattle.std.proofs.lemmas.Bool.{or_right, or_parts, and_parts, eqb-true, eq-eqb, false≢true, not-true, not-false}
use Rattle.std.proofs.lemmas.Int.{int_wrap-add_left}
use Rattle.std.proofs.Math.IntN.{+ℤ_assoc, +ℤ_comm}
use Rattle.asset_names.specs.declared.names.Txn.{Txn}
use Rattle.asset_names.specs.declared.names.Ob.{Ob}
use Rattle.asset_names.specs.declared.operations.Op.{Op}
use Rattle.asset_names.specs.declared.operations.Op.TheVariants as Op'
use Rattle.asset_names.specs.declared.steps.Step.{Step}
use Rattle.asset_names.specs.declared.steps.Step.TheVariants.{Initiate, Begin, Read, Write, Add, Complete, Permit, PermitAny, Delegate, Depend, Commit, Abort, WaitFor}
use Rattle.asset_names.specs.declared.replies.Reply.{Reply}
use Rattle.asset_names.specs.declared.replies.Outcome.TheVariants.{Answer}
use Rattle.asset_names.specs.Arrows.{lists}
use Rattle.asset_names.specs.Steps.{Opening, Entry, takes_effect, applied, initiated}
use Rattle.asset_names.specs.Endings.{end_of, live, status}
use Rattle.asset_names.specs.Groups.{actor, partner, operates_on, kept}
use Rattle.asset_names.specs.Operations.{Use, reads, writes, adds, Operation, op_of, conflict, operated, operations, openers, allows, blocks, free, was_aborted, stands, opening_value, after_use, value_after, value}
use Rattle.asset_names.specs.Answers.{is_running, unknown, ended, not_running, rules_for, unrefused, answer, IsLegal}
use Rattle.asset_names.specs.Orderly.{IsOrderly}
use Rattle.asset_names.specs.Sources.{is_add}
use Rattle.asset_names.proofs.Common.{cond_same, eqb-flip}
use Rattle.asset_names.proofs.ListLemmas.{any_filter}
use Rattle.asset_names.proofs.LegalLemmas.{effect_unrefused, first_none, legal_orderly}
use Rattle.asset_laws.proofs.KeepLinks.{any_fewer}
use Rattle.asset_laws.proofs.AnswersAlike.{not_waiting}
use Rattle.asset_laws.proofs.SharingLemmas.{effect_answer}
use Rattle.asset_laws.proofs.SerialPlain.{plain, AllPlain, AllSingle, disallows, effect_plain, legal_plain}
use Rattle.asset_laws.proofs.OpenLemmas.{OpenedBy, IsHandedOn, openers_are, opened_kept}

-- every operation counts
unfoldable pub always : Operation → Bool
always o = true

-- t's operations, and those of others
unfoldable pub own_of : ℕ → List Operation → List Operation
own_of t os = filter (λ (o : Operation). eqb o.owner t) os

unfoldable pub others_of : ℕ → List Operation → List Operation
others_of t os = filter (λ (o : Operation). not (eqb o.owner t)) os

-- whether t is responsible for an operation on x
unfoldable pub uses : ℕ → ℕ → List Operation → Bool
uses t x os = list_any (λ (o : Operation). eqb o.owner t && eqb o.object x) os

-- whether t is responsible for a read or a write on x
unfoldable pub claims : ℕ → ℕ → List Operation → Bool
claims t x os = list_any (λ (o : Operation). (eqb o.owner t && eqb o.object x) && not (is_add o.use_of)) os

claims_uses : (t x : ℕ) (os : List Operation) → uses t x os ≡ false → claims t x os ≡ false
unfolding uses claims
claims_uses t x os none = any_fewer (λ (o : Operation). (eqb o.owner t && eqb o.object x) && not (is_add o.use_of)) (λ (o : Operation). eqb o.owner t && eqb o.object x) os (λ o h. (and_parts (eqb o.owner t && eqb o.object x) _ h).0) none

-- ---- lists of operations

-- the value is that of the operations on the object
value_none : (x : ℕ) (first : ℤ) (os : List Operation) → list_any (λ (o : Operation). eqb o.object x) os ≡ false → value_after always x first os ≡ first
unfolding value_after always
value_none x first [] none = refl
value_none x first (o ∷ os) none = go (eqb o.object x) none (value_none x first os) where
  go : (here : Bool) → (here || list_any (λ (p : Operation). eqb p.object x) os) ≡ false → (list_any (λ (p : Operation). eqb p.object x) os ≡ false → value_after always x first os ≡ first)
      → cond (here && true) (after_use o.use_of (value_after always x first os)) (value_after always x first os) ≡ first
  go true h rest = absurd (false≢true (sym h))
  go false h rest = rest h

pub value_append : (x : ℕ) (first : ℤ) (newer older : List Operation) → value_after always x first (newer ++ older) ≡ value_after always x (value_after always x first older) newer
unfolding value_after
value_append x first [] older = refl
value_append x first (o ∷ newer) older = rw (value_append x first newer older) refl

-- adds come in any order
pub plus_swap : (v d e : ℤ) → int_wrap w64 (int_wrap w64 (v +ℤ d) +ℤ e) ≡ int_wrap w64 (int_wrap w64 (v +ℤ e) +ℤ d)
plus_swap v d e = int_wrap-add_left w64 (v +ℤ d) e ∙ ap (int_wrap w64) (+ℤ_assoc v d e ∙ ap (λ z. v +ℤ z) (+ℤ_comm d e) ∙ sym (+ℤ_assoc v e d)) ∙ sym (int_wrap-add_left w64 (v +ℤ e) d)

-- what is added below adds to an object is added to its value
value_plus : (x : ℕ) (first d : ℤ) (os : List Operation) → list_any (λ (o : Operation). eqb o.object x && not (is_add o.use_of)) os ≡ false
    → value_after always x (int_wrap w64 (first +ℤ d)) os ≡ int_wrap w64 (value_after always x first os +ℤ d)
unfolding value_after always after_use is_add
value_plus x first d [] none = refl
value_plus x first d (o ∷ os) none = go (eqb o.object x) o.use_of parts.0 (value_plus x first d os parts.1) where
  parts : ((eqb o.object x && not (is_add o.use_of)) ≡ false) × (list_any (λ (p : Operation). eqb p.object x && not (is_add p.use_of)) os ≡ false)
  parts = or_parts (eqb o.object x && not (is_add o.use_of)) _ none

  go : (here : Bool) (how : Use) → (here && not (is_add how)) ≡ false → value_after always x (int_wrap w64 (first +ℤ d)) os ≡ int_wrap w64 (value_after always x first os +ℤ d)
      → cond (here && true) (after_use how (value_after always x (int_wrap w64 (first +ℤ d)) os)) (value_after always x (int_wrap w64 (first +ℤ d)) os)
      ≡ int_wrap w64 (cond (here && true) (after_use how (value_after always x first os)) (value_after always x first os) +ℤ d)
  go false how h rest = rest
  go true (adds e) h rest = ap (λ v. int_wrap w64 (v +ℤ e)) rest ∙ plus_swap (value_after always x first os) d e
  go true reads h rest = absurd (false≢true (sym h))
  go true (writes v) h rest = absurd (false≢true (sym h))

-- tests that agree count alike
pub value_counts : (test other : Operation → Bool) (x : ℕ) (first : ℤ) (os : List Operation) → ((o : Operation) → test o ≡ other o) → value_after test x first os ≡ value_after other x first os
unfolding value_after
value_counts test other x first [] same = refl
value_counts test other x first (o ∷ os) same = rw (same o, value_counts test other x first os same) refl

-- nobody has aborted
abbrev pub NobodyAborted : List Step → Type 0
NobodyAborted steps = (n : ℕ) → was_aborted (end_of steps n) ≡ false

pub value_always : (opening : Opening) (steps : List Step) (x : ℕ) → NobodyAborted steps → value opening steps x ≡ value_after always x (opening_value opening x) (operations steps)
unfolding value stands always
value_always opening steps x none = value_counts (stands steps) always x (opening_value opening x) (operations steps) (λ o. ap not (none o.owner))

-- ---- what blocks others

-- an operation of a live transaction blocks another's in conflict with it that it does not allow
blocked : (steps : List Step) → (t u x : ℕ) (op : Op) → eqb t u ≡ false → allows steps t u x op ≡ false → live steps t ≡ true → (o : Operation) → (eqb o.owner t && eqb o.object x) ≡ true → conflict (op_of o.use_of) op ≡ true → blocks steps u x op o ≡ true
unfolding blocks
blocked steps t u x op apart disallowed alive o h conflicts =
    let parts = and_parts (eqb o.owner t) (eqb o.object x) h in
    rw (parts.1, conflicts, eqb-true o.owner t parts.0, apart, alive, disallowed) refl

write_conflicts : (how : Use) → conflict (op_of how) Op'.Write ≡ true
unfolding conflict op_of
write_conflicts reads = refl
write_conflicts (writes v) = refl
write_conflicts (adds d) = refl

add_conflicts : (how : Use) → not (is_add how) ≡ true → conflict (op_of how) Op'.Add ≡ true
unfolding conflict op_of is_add
add_conflicts reads h = refl
add_conflicts (writes v) h = refl
add_conflicts (adds d) h = absurd (false≢true h)

-- who uses an object is responsible for an operation
user_owns : (t x : ℕ) (os : List Operation) → list_any (λ (o : Operation). eqb o.owner t) os ≡ false → uses t x os ≡ false
unfolding uses
user_owns t x os none = any_fewer (λ (o : Operation). eqb o.owner t && eqb o.object x) (λ (o : Operation). eqb o.owner t) os (λ o h. (and_parts (eqb o.owner t) _ h).0) none

-- who was not initiated is responsible for nothing
none_owned : (steps : List Step) → IsOrderly steps → (t : ℕ) → lists (initiated steps) t ≡ false → (b : Bool) → list_any (λ (o : Operation). eqb o.owner t) (operations steps) ≡ b → b ≡ false
none_owned steps orderly t absent false e = refl
none_owned steps orderly t absent true e = absurd (false≢true (sym absent ∙ orderly.owners_known t e))

-- where another may write x, a transaction that has not ended does not use it
pub unused : (steps : List Step) → AllPlain steps → IsOrderly steps → (t u x : ℕ) → eqb t u ≡ false → ((a : ℕ) → lists (openers steps x Op'.Write) a ≡ true → a ≡ u) → end_of steps t ≡ None → free steps u x Op'.Write ≡ true → uses t x (operations steps) ≡ false
unfolding free live uses
unused steps all orderly t u x apart opens running is_free = go (lists (initiated steps) t) refl where
  go : (known : Bool) → lists (initiated steps) t ≡ known → list_any (λ (o : Operation). eqb o.owner t && eqb o.object x) (operations steps) ≡ false
  go true e =
      any_fewer (λ (o : Operation). eqb o.owner t && eqb o.object x) (blocks steps u x Op'.Write) (operations steps)
      (λ o h. blocked steps t u x Op'.Write apart (disallows steps all t u x Op'.Write apart opens) (rw (e, running) refl) o h (write_conflicts o.use_of)) (not-true _ is_free)
  go false e = user_owns t x (operations steps) (none_owned steps orderly t e (list_any (λ (o : Operation). eqb o.owner t) (operations steps)) refl)

-- where another may add to x, a transaction that has not ended neither reads nor writes it
pub unclaimed : (steps : List Step) → AllPlain steps → IsOrderly steps → (t u x : ℕ) → eqb t u ≡ false → ((a : ℕ) → lists (openers steps x Op'.Add) a ≡ true → a ≡ u) → end_of steps t ≡ None → free steps u x Op'.Add ≡ true → claims t x (operations steps) ≡ false
unfolding free live claims
unclaimed steps all orderly t u x apart opens running is_free = go (lists (initiated steps) t) refl where
  go : (known : Bool) → lists (initiated steps) t ≡ known → list_any (λ (o : Operation). (eqb o.owner t && eqb o.object x) && not (is_add o.use_of)) (operations steps) ≡ false
  go true e =
      any_fewer (λ (o : Operation). (eqb o.owner t && eqb o.object x) && not (is_add o.use_of)) (blocks steps u x Op'.Add) (operations steps)
      (λ o h. let both = and_parts (eqb o.owner t && eqb o.object x) _ h in blocked steps t u x Op'.Add apart (disallows steps all t u x Op'.Add apart opens) (rw (e, running) refl) o both.0 (add_conflicts o.use_of both.1)) (not-true _ is_free)
  go false e = claims_uses t x (operations steps) (user_owns t x (operations steps) (none_owned steps orderly t e (list_any (λ (o : Operation). eqb o.owner t) (operations steps)) refl))

-- ---- own writes come last

-- the value, with t's own operations taken last
unfoldable pub OwnLast : ℕ → List Operation → Type 0
OwnLast t os = (x : ℕ) (first : ℤ) → value_after always x first os ≡ value_after always x (value_after always x first (others_of t os)) (own_of t os)

-- a read, or a write by t, comes last as it is
own_last_read : (t u y : ℕ) (os : List Operation) → OwnLast t os → OwnLast t (record { owner = u; object = y; use_of = reads } ∷ os)
unfolding OwnLast own_of others_of value_after always after_use
own_last_read t u y os last x first = go (eqb u t) where
  skip : (here : Bool) (v : ℤ) → cond (here && true) v v ≡ v
  skip true v = refl
  skip false v = refl

  go : (own : Bool) → cond (eqb y x && true) (value_after always x first os) (value_after always x first os)
      ≡ value_after always x (value_after always x first (cond (not own) (record { owner = u; object = y; use_of = reads } ∷ others_of t os) (others_of t os))) (cond own (record { owner = u; object = y; use_of = reads } ∷ own_of t os) (own_of t os))
  go true = skip (eqb y x) _ ∙ last x first ∙ sym (skip (eqb y x) _)
  go false = skip (eqb y x) _ ∙ last x first ∙ ap (λ v. value_after always x v (own_of t os)) (sym (skip (eqb y x) _))

own_last_write : (t u y : ℕ) (v : ℤ) (os : List Operation) → (eqb u t ≡ true) ⊎ (uses t y os ≡ false) → OwnLast t os → OwnLast t (record { owner = u; object = y; use_of = writes v } ∷ os)
unfolding OwnLast own_of others_of value_after always after_use uses
own_last_write t u y v os (inl own) last x first = rw (own) (ap (λ w. cond (eqb y x && true) v w) (last x first))
own_last_write t u y v os (inr none) last x first = go (eqb u t) (eqb y x) refl where
  absent : eqb y x ≡ true → list_any (λ (o : Operation). eqb o.object x) (own_of t os) ≡ false
  absent e = any_filter (λ (o : Operation). eqb o.object x) (λ (o : Operation). eqb o.owner t) os ∙ ap (λ n. list_any (λ (o : Operation). eqb o.owner t && eqb o.object n) os) (sym (eqb-true y x e)) ∙ none

  go : (own here : Bool) → eqb y x ≡ here → cond (here && true) v (value_after always x first os)
      ≡ value_after always x (value_after always x first (cond (not own) (record { owner = u; object = y; use_of = writes v } ∷ others_of t os) (others_of t os))) (cond own (record { owner = u; object = y; use_of = writes v } ∷ own_of t os) (own_of t os))
  go true true e = rw (e) refl
  go true false e = rw (e) (last x first)
  go false true e = rw (e) (sym (value_none x v (own_of t os) (absent e)))
  go false false e = rw (e) (last x first)

-- an add of another comes before t's own adds as well as after them
own_last_add : (t u y : ℕ) (d : ℤ) (os : List Operation) → (eqb u t ≡ true) ⊎ (claims t y os ≡ false) → OwnLast t os → OwnLast t (record { owner = u; object = y; use_of = adds d } ∷ os)
unfolding OwnLast own_of others_of value_after always after_use claims
own_last_add t u y d os (inl own) last x first = rw (own) (ap (λ w. cond (eqb y x && true) (int_wrap w64 (w +ℤ d)) w) (last x first))
own_last_add t u y d os (inr none) last x first = go (eqb u t) (eqb y x) refl where
  only_adds : eqb y x ≡ true → list_any (λ (o : Operation). eqb o.object x && not (is_add o.use_of)) (own_of t os) ≡ false
  only_adds e =
      any_filter (λ (o : Operation). eqb o.object x && not (is_add o.use_of)) (λ (o : Operation). eqb o.owner t) os
      ∙ any_fewer (λ (o : Operation). eqb o.owner t && (eqb o.object x && not (is_add o.use_of))) (λ (o : Operation). (eqb o.owner t && eqb o.object y) && not (is_add o.use_of)) os
      (λ o h. by (eqb o.owner t) (eqb o.object x) (not (is_add o.use_of)) h (eqb o.object y) (ap (eqb o.object) (eqb-true y x e))) none where
        by : (own on other : Bool) → (own && (on && other)) ≡ true → (also : Bool) → also ≡ on → ((own && also) && other) ≡ true
        by true true true h also same = rw (same) refl
        by true true false h also same = absurd (false≢true h)
        by true false other h also same = absurd (false≢true h)
        by false on other h also same = absurd (false≢true h)

  go : (own here : Bool) → eqb y x ≡ here → cond (here && true) (int_wrap w64 (value_after always x first os +ℤ d)) (value_after always x first os)
      ≡ value_after always x (value_after always x first (cond (not own) (record { owner = u; object = y; use_of = adds d } ∷ others_of t os) (others_of t os))) (cond own (record { owner = u; object = y; use_of = adds d } ∷ own_of t os) (own_of t os))
  go true true e = rw (e) (ap (λ w. int_wrap w64 (w +ℤ d)) (last x first))
  go true false e = rw (e) (last x first)
  go false true e = rw (e) (ap (λ w. int_wrap w64 (w +ℤ d)) (last x first) ∙ sym (value_plus x (value_after always x first (others_of t os)) d (own_of t os) (only_adds e)))
  go false false e = rw (e) (last x first)

-- nobody but who operates on an object has opened it before
abbrev pub OwnOpens : Entry → List Entry → Type 0
OwnOpens entry older = takes_effect entry.0 entry.1 ≡ true → (x : ℕ) → operates_on entry.0 x ≡ true → OpenedBy (λ a. a ≡ (actor entry.0).0) x (applied older)

unfoldable pub AllOwnOpens : List Entry → Type 0
AllOwnOpens [] = Unit {0}
AllOwnOpens (entry ∷ older) = OwnOpens entry older × AllOwnOpens older

-- so it is in what is kept of the entries
pub own_opens_kept : (keep : ℕ → Bool) (entries : List Entry) → AllOwnOpens entries → AllOwnOpens (kept keep entries)
unfolding AllOwnOpens kept
own_opens_kept keep [] opens = tt
own_opens_kept keep (entry ∷ older) opens = go (keep (actor entry.0).0) (own_opens_kept keep older opens.1) where
  go : (stays : Bool) → AllOwnOpens (kept keep older) → AllOwnOpens (cond stays (entry ∷ kept keep older) (kept keep older))
  go true rest = ((λ effect x on. opened_kept keep (λ a. a ≡ (actor entry.0).0) x older (opens.0 effect x on)), rest)
  go false rest = rest

pub own_opens_rest : (newer older : List Entry) → AllOwnOpens (newer ++ older) → AllOwnOpens older
unfolding AllOwnOpens
own_opens_rest [] older opens = opens
own_opens_rest (entry ∷ newer) older opens = own_opens_rest newer older opens.1

pub own_opens_head : (entry : Entry) (older : List Entry) → AllOwnOpens (entry ∷ older) → OwnOpens entry older
unfolding AllOwnOpens
own_opens_head entry older opens = opens.0

-- what is handed on among plain steps is handed to nobody else
plain_single : (step : Step) → plain step ≡ true → (actor step).0 ≡ (partner step).0
unfolding plain actor partner
plain_single (Initiate t parent) fine = refl
plain_single (Begin t) fine = refl
plain_single (Read t x) fine = refl
plain_single (Write t x v) fine = refl
plain_single (Add t x d) fine = refl
plain_single (Complete t) fine = refl
plain_single (Permit giver taker obs ops) fine = absurd (false≢true fine)
plain_single (PermitAny giver obs ops) fine = refl
plain_single (Delegate giver taker obs) fine = absurd (false≢true fine)
plain_single (Depend k a b) fine = absurd (false≢true fine)
plain_single (Commit t) fine = refl
plain_single (Abort t) fine = refl
plain_single (WaitFor t) fine = refl

plain_handed : (P : ℕ → Type 0) (steps : List Step) → AllPlain steps → IsHandedOn P steps
unfolding AllPlain IsHandedOn
plain_handed P [] all = tt
plain_handed P (step ∷ older) all = ((λ h. subst P (plain_single step all.0) h), plain_handed P older all.1)

-- so the openers of what an entry operates on are the transaction that asks for it
pub own_openers : (entry : Entry) (older : List Entry) → AllPlain (applied older) → OwnOpens entry older → takes_effect entry.0 entry.1 ≡ true
    → (x a : ℕ) (op : Op) → operates_on entry.0 x ≡ true → lists (openers (applied older) x op) a ≡ true → a ≡ (actor entry.0).0
own_openers entry older all opens effect x a op on listed =
    openers_are (λ n. n ≡ (actor entry.0).0) x op (applied older) (plain_handed (λ n. n ≡ (actor entry.0).0) (applied older) all) (opens effect x on) a listed

-- t is the last to commit: each entry is its own, or comes before it has ended, or is of one that does not run
abbrev pub IsBefore : ℕ → Entry → List Entry → Type 0
IsBefore t entry older = (eqb (actor entry.0).0 t ≡ true) ⊎ ((end_of (applied older) t ≡ None) ⊎ (is_running (status (applied older) (actor entry.0).0) ≡ false))

unfoldable pub ComesLast : ℕ → List Entry → Type 0
ComesLast t [] = Unit {0}
ComesLast t (entry ∷ older) = (IsBefore t entry older × OwnOpens entry older) × ComesLast t older

-- who writes runs
write_runs : (opening : Opening) (steps : List Step) (u : Txn) (y : Ob) (v : ℤ) (reply : Reply) → answer opening steps (Write u y v) ≡ Answer reply → takes_effect (Write u y v) reply ≡ true → is_running (status steps u.0) ≡ true
unfolding rules_for not_running
write_runs opening steps u y v reply is effect =
    let first = first_none (unknown steps u) _ (effect_unrefused opening steps (Write u y v) reply is effect) in
    let second = first_none (ended steps u) _ first.1 in
    not-false _ ((first_none (not_running steps u) _ second.1).0)

add_runs : (opening : Opening) (steps : List Step) (u : Txn) (y : Ob) (d : ℤ) (reply : Reply) → answer opening steps (Add u y d) ≡ Answer reply → takes_effect (Add u y d) reply ≡ true → is_running (status steps u.0) ≡ true
unfolding rules_for not_running
add_runs opening steps u y d reply is effect =
    let first = first_none (unknown steps u) _ (effect_unrefused opening steps (Add u y d) reply is effect) in
    let second = first_none (ended steps u) _ first.1 in
    not-false _ ((first_none (not_running steps u) _ second.1).0)

pub comes_rest : (t : ℕ) (newer older : List Entry) → ComesLast t (newer ++ older) → ComesLast t older
unfolding ComesLast
comes_rest t [] older last = last
comes_rest t (entry ∷ newer) older last = comes_rest t newer older last.1

-- one more step of a history in which nobody shares
own_last_more : (opening : Opening) (t : ℕ) (step : Step) (steps : List Step) (reply : Reply) → answer opening steps step ≡ Answer reply → takes_effect step reply ≡ true → plain step ≡ true → AllPlain steps → IsOrderly steps
    → ((x a : ℕ) (op : Op) → operates_on step x ≡ true → lists (openers steps x op) a ≡ true → a ≡ (actor step).0)
    → (eqb (actor step).0 t ≡ true) ⊎ ((end_of steps t ≡ None) ⊎ (is_running (status steps (actor step).0) ≡ false)) → OwnLast t (operations steps) → OwnLast t (operations (step ∷ steps))
unfolding operations operated plain unrefused actor operates_on
own_last_more opening t (Initiate u parent) steps reply is effect fine all orderly opens comes last = last
own_last_more opening t (Begin u) steps reply is effect fine all orderly opens comes last = last
own_last_more opening t (Read u y) steps reply is effect fine all orderly opens comes last = own_last_read t u.0 y.0 (operations steps) last
own_last_more opening t (Write u y v) steps reply is effect fine all orderly opens comes last = own_last_write t u.0 y.0 v (operations steps) (go (eqb u.0 t) refl comes) last where
  go : (own : Bool) → eqb u.0 t ≡ own → (eqb u.0 t ≡ true) ⊎ ((end_of steps t ≡ None) ⊎ (is_running (status steps u.0) ≡ false)) → (eqb u.0 t ≡ true) ⊎ (uses t y.0 (operations steps) ≡ false)
  go true e comes = inl e
  go false e (inl own) = inl own
  go false e (inr (inl none)) = inr (unused steps all orderly t u.0 y.0 (eqb-flip t u.0 ∙ e) (λ n listed. opens y.0 n Op'.Write (eq-eqb y.0 y.0 refl) listed) none (not_waiting (free steps u.0 y.0 Op'.Write) _ reply (effect_answer opening steps (Write u y v) reply is effect)))
  go false e (inr (inr idle)) = absurd (false≢true (sym idle ∙ write_runs opening steps u y v reply is effect))
own_last_more opening t (Add u y d) steps reply is effect fine all orderly opens comes last = own_last_add t u.0 y.0 d (operations steps) (go (eqb u.0 t) refl comes) last where
  go : (own : Bool) → eqb u.0 t ≡ own → (eqb u.0 t ≡ true) ⊎ ((end_of steps t ≡ None) ⊎ (is_running (status steps u.0) ≡ false)) → (eqb u.0 t ≡ true) ⊎ (claims t y.0 (operations steps) ≡ false)
  go true e comes = inl e
  go false e (inl own) = inl own
  go false e (inr (inl none)) = inr (unclaimed steps all orderly t u.0 y.0 (eqb-flip t u.0 ∙ e) (λ n listed. opens y.0 n Op'.Add (eq-eqb y.0 y.0 refl) listed) none (not_waiting (free steps u.0 y.0 Op'.Add) _ reply (effect_answer opening steps (Add u y d) reply is effect)))
  go false e (inr (inr idle)) = absurd (false≢true (sym idle ∙ add_runs opening steps u y d reply is effect))
own_last_more opening t (Complete u) steps reply is effect fine all orderly opens comes last = last
own_last_more opening t (Permit giver taker obs ops) steps reply is effect fine all orderly opens comes last = absurd (false≢true fine)
own_last_more opening t (Delegate giver taker obs) steps reply is effect fine all orderly opens comes last = absurd (false≢true fine)
own_last_more opening t (Depend k a b) steps reply is effect fine all orderly opens comes last = absurd (false≢true fine)
own_last_more opening t (Commit u) steps reply is effect fine all orderly opens comes last = last
own_last_more opening t (Abort u) steps reply is effect fine all orderly opens comes last = last
own_last_more opening t (WaitFor u) steps reply is effect fine all orderly opens comes last = last
own_last_more opening t (PermitAny giver obs ops) steps reply is effect fine all orderly opens comes last = last

pub own_last : (opening : Opening) (t : ℕ) (entries : List Entry) → IsLegal opening entries → AllSingle entries → ComesLast t entries → OwnLast t (operations (applied entries))
unfolding IsLegal AllSingle applied ComesLast OwnLast own_of others_of operations value_after
own_last opening t [] legal single comes = λ x first. refl
own_last opening t (entry ∷ older) legal single comes = go (takes_effect entry.0 entry.1) refl (own_last opening t older legal.1 single.1 comes.1) where
  go : (effect : Bool) → takes_effect entry.0 entry.1 ≡ effect → OwnLast t (operations (applied older)) → OwnLast t (operations (cond effect (entry.0 ∷ applied older) (applied older)))
  go true e last =
      own_last_more opening t entry.0 (applied older) entry.1 legal.0 e (effect_plain opening (applied older) entry.0 entry.1 legal.0 e single.0) (legal_plain opening older legal.1 single.1) (legal_orderly opening older legal.1) (own_openers entry older (legal_plain opening older legal.1 single.1) comes.0.1 e) comes.0.0 last
  go false e last = last

-- ---- others leave what t claims

-- what others leave of an object that t claims, and that t does, after one more step
unfoldable pub Left : ℕ → ℕ → ℤ → ℤ → List Operation → Type 0
Left t x first left os = (claims t x os ≡ true) × (value_after always x first (others_of t os) ≡ left)

left_more : (opening : Opening) (t x : ℕ) (first left : ℤ) (step : Step) (steps : List Step) (reply : Reply) → answer opening steps step ≡ Answer reply → takes_effect step reply ≡ true → plain step ≡ true → AllPlain steps → IsOrderly steps
    → ((x a : ℕ) (op : Op) → operates_on step x ≡ true → lists (openers steps x op) a ≡ true → a ≡ (actor step).0)
    → (eqb (actor step).0 t ≡ true) ⊎ ((end_of steps t ≡ None) ⊎ (is_running (status steps (actor step).0) ≡ false)) → Left t x first left (operations steps) → Left t x first left (operations (step ∷ steps))
unfolding operations operated plain unrefused Left claims is_add others_of value_after always after_use actor operates_on
left_more opening t x first left (Initiate u parent) steps reply is effect fine all orderly opens last rest = rest
left_more opening t x first left (Begin u) steps reply is effect fine all orderly opens last rest = rest
left_more opening t x first left (Read u y) steps reply is effect fine all orderly opens last rest = (or_right ((eqb u.0 t && eqb y.0 x) && true) _ rest.0, go (eqb u.0 t) (eqb y.0 x) ∙ rest.1) where
  go : (own here : Bool) → value_after always x first (cond (not own) (record { owner = u.0; object = y.0; use_of = reads } ∷ others_of t (operations steps)) (others_of t (operations steps))) ≡ value_after always x first (others_of t (operations steps))
  go true here = refl
  go false here = cond_same (eqb y.0 x && true) _
left_more opening t x first left (Write u y v) steps reply is effect fine all orderly opens last rest = (or_right ((eqb u.0 t && eqb y.0 x) && true) _ rest.0, go (eqb u.0 t) refl (eqb y.0 x) refl ∙ rest.1) where
  never : eqb u.0 t ≡ false → eqb y.0 x ≡ true → (eqb u.0 t ≡ true) ⊎ ((end_of steps t ≡ None) ⊎ (is_running (status steps u.0) ≡ false)) → ⊥
  never apart here (inl own) = false≢true (sym apart ∙ own)
  never apart here (inr (inl none)) =
      let clear = unused steps all orderly t u.0 y.0 (eqb-flip t u.0 ∙ apart) (λ n listed. opens y.0 n Op'.Write (eq-eqb y.0 y.0 refl) listed) none (not_waiting (free steps u.0 y.0 Op'.Write) _ reply (effect_answer opening steps (Write u y v) reply is effect)) in
      false≢true (sym (claims_uses t y.0 (operations steps) clear) ∙ ap (λ n. claims t n (operations steps)) (eqb-true y.0 x here) ∙ rest.0)
  never apart here (inr (inr idle)) = false≢true (sym idle ∙ write_runs opening steps u y v reply is effect)

  go : (own : Bool) → eqb u.0 t ≡ own → (here : Bool) → eqb y.0 x ≡ here
      → value_after always x first (cond (not own) (record { owner = u.0; object = y.0; use_of = writes v } ∷ others_of t (operations steps)) (others_of t (operations steps))) ≡ value_after always x first (others_of t (operations steps))
  go true e here f = refl
  go false e true f = absurd (never e f last)
  go false e false f = rw (f) refl
left_more opening t x first left (Add u y d) steps reply is effect fine all orderly opens last rest = (or_right ((eqb u.0 t && eqb y.0 x) && false) _ rest.0, go (eqb u.0 t) refl (eqb y.0 x) refl ∙ rest.1) where
  never : eqb u.0 t ≡ false → eqb y.0 x ≡ true → (eqb u.0 t ≡ true) ⊎ ((end_of steps t ≡ None) ⊎ (is_running (status steps u.0) ≡ false)) → ⊥
  never apart here (inl own) = false≢true (sym apart ∙ own)
  never apart here (inr (inl none)) =
      let clear = unclaimed steps all orderly t u.0 y.0 (eqb-flip t u.0 ∙ apart) (λ n listed. opens y.0 n Op'.Add (eq-eqb y.0 y.0 refl) listed) none (not_waiting (free steps u.0 y.0 Op'.Add) _ reply (effect_answer opening steps (Add u y d) reply is effect)) in
      false≢true (sym clear ∙ ap (λ n. claims t n (operations steps)) (eqb-true y.0 x here) ∙ rest.0)
  never apart here (inr (inr idle)) = false≢true (sym idle ∙ add_runs opening steps u y d reply is effect)

  go : (own : Bool) → eqb u.0 t ≡ own → (here : Bool) → eqb y.0 x ≡ here
      → value_after always x first (cond (not own) (record { owner = u.0; object = y.0; use_of = adds d } ∷ others_of t (operations steps)) (others_of t (operations steps))) ≡ value_after always x first (others_of t (operations steps))
  go true e here f = refl
  go false e true f = absurd (never e f last)
  go false e false f = rw (f) refl
left_more opening t x first left (Complete u) steps reply is effect fine all orderly opens last rest = rest
left_more opening t x first left (Permit giver taker obs ops) steps reply is effect fine all orderly opens last rest = absurd (false≢true fine)
left_more opening t x first left (Delegate giver taker obs) steps reply is effect fine all orderly opens last rest = absurd (false≢true fine)
left_more opening t x first left (Depend k a b) steps reply is effect fine all orderly opens last rest = absurd (false≢true fine)
left_more opening t x first left (Commit u) steps reply is effect fine all orderly opens last rest = rest
left_more opening t x first left (Abort u) steps reply is effect fine all orderly opens last rest = rest
left_more opening t x first left (WaitFor u) steps reply is effect fine all orderly opens last rest = rest
left_more opening t x first left (PermitAny giver obs ops) steps reply is effect fine all orderly opens last rest = rest

pub others_stay : (opening : Opening) (t x : ℕ) (first left : ℤ) (newer base : List Entry) → IsLegal opening (newer ++ base) → AllSingle (newer ++ base) → ComesLast t (newer ++ base)
    → Left t x first left (operations (applied base)) → Left t x first left (operations (applied (newer ++ base)))
unfolding IsLegal AllSingle applied ComesLast
others_stay opening t x first left [] base legal single last holds = holds
others_stay opening t x first left (entry ∷ newer) base legal single last holds = go (takes_effect entry.0 entry.1) refl (others_stay opening t x first left newer base legal.1 single.1 last.1 holds) where
  older : List Entry
  older = newer ++ base

  go : (effect : Bool) → takes_effect entry.0 entry.1 ≡ effect → Left t x first left (operations (applied (newer ++ base))) → Left t x first left (operations (cond effect (entry.0 ∷ applied (newer ++ base)) (applied (newer ++ base))))
  go true e rest =
      left_more opening t x first left entry.0 (applied older) entry.1 legal.0 e (effect_plain opening (applied older) entry.0 entry.1 legal.0 e single.0) (legal_plain opening older legal.1 single.1) (legal_orderly opening older legal.1) (own_openers entry older (legal_plain opening older legal.1 single.1) last.0.1 e) last.0.0 rest
  go false e rest = rest
