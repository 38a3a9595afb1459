-- The serial history is legal, and leaves what those who committed left.
use Rattle.std.proofs.Common.{◌≡◌, ℕ, Bool, true, false, cond, not, eqb, ◌&&◌, ◌||◌, List, [], ◌∷◌, ◌++◌, filter, refl, sym, ◌∙◌, ap, subst, inl, inr, Some}
use Rattle.std.specs.Prelude.{flat_map}
use Rattle.std.specs.List.{list_any}
use Rattle.std.proofs.lemmas.Bool.{or_cases, or_left, or_right, or_parts, eqb-true, eq-eqb, false≢true, not-true}
use Rattle.asset_names.specs.declared.statuses.End.{End}
use Rattle.asset_names.specs.declared.statuses.End.TheVariants as End'
use Rattle.asset_names.specs.declared.steps.Step.{Step}
use Rattle.asset_names.specs.declared.steps.Step.TheVariants.{Initiate, Begin, Read, Write, Add, Complete, Permit, PermitAny, Delegate, Depend, Commit, Abort, WaitFor}
use Rattle.asset_names.specs.Arrows.{lists}
use Rattle.asset_names.specs.Orderly.{Distinct}
use Rattle.asset_names.specs.Steps.{Opening, Entry, takes_effect, applied, initiated}
use Rattle.asset_names.specs.Endings.{end_of, live}
use Rattle.asset_names.specs.Groups.{actor, kept}
use Rattle.asset_names.specs.Operations.{operations, was_aborted, opening_value, value_after, value}
use Rattle.asset_names.specs.Answers.{IsLegal}
use Rattle.asset_names.proofs.Common.{eqb-flip}
use Rattle.asset_laws.specs.Serial.{committed_by, committed_names, entries_of}
use Rattle.asset_laws.proofs.AlikeLemmas.{IsAlike, owned, live_alike}
use Rattle.asset_laws.proofs.SerialPlain.{AllSingle, IsOwn, own_refl, own_trans, own_live, other_step, legal_plain}
use Rattle.asset_laws.proofs.SerialValues.{always, own_of, others_of, value_append, NobodyAborted, value_always, OwnLast, own_last, ComesLast, AllOwnOpens, own_opens_kept}
use Rattle.asset_laws.proofs.SerialBlocks.{AreOthers, IsBlock, block, block_operations}
use Rattle.asset_laws.proofs.SerialLegal.{but, but_alike, but_legal, named_committed, named_once, AllNamed, comes}

-- ---- lists

filter_absent : (t : ℕ) (names : List ℕ) → lists names t ≡ false → filter (but t) names ≡ names
unfolding lists but
filter_absent t [] absent = refl
filter_absent t (n ∷ names) absent = let parts = or_parts (eqb n t) _ absent in rw (parts.0) (ap (λ l. n ∷ l) (filter_absent t names parts.1))

-- names without t after one more
but_named : (t u : ℕ) (some all : Bool) (few many : List ℕ) → (eqb u t ≡ false → some ≡ all) → but t u ≡ true → few ≡ filter (but t) many → cond some (u ∷ []) [] ++ few ≡ filter (but t) (cond all (u ∷ []) [] ++ many)
unfolding but
but_named t u some all few many alike stays same = rw (alike (not-true (eqb u t) stays)) (go all) where
  go : (b : Bool) → cond b (u ∷ []) [] ++ few ≡ filter (but t) (cond b (u ∷ []) [] ++ many)
  go true = rw (stays) (ap (λ l. u ∷ l) same)
  go false = same

-- those who committed without t are those who committed, less t
but_more : (t : ℕ) (step : Step) (some all : List Step) → IsAlike (but t) some all → but t (actor step).0 ≡ true → committed_names some ≡ filter (but t) (committed_names all)
    → committed_names (step ∷ some) ≡ filter (but t) (committed_names (step ∷ all))
unfolding committed_names committed_by actor
but_more n (Initiate t parent) some all alike stays same = same
but_more n (Begin t) some all alike stays same = same
but_more n (Read t x) some all alike stays same = same
but_more n (Write t x v) some all alike stays same = same
but_more n (Add t x d) some all alike stays same = same
but_more n (Complete t) some all alike stays same = same
but_more n (Permit giver taker obs ops) some all alike stays same = same
but_more n (Delegate giver taker obs) some all alike stays same = same
but_more n (Depend k a b) some all alike stays same = same
but_more n (Commit t) some all alike stays same = but_named n t.0 (live some t.0) (live all t.0) (committed_names some) (committed_names all) (λ apart. live_alike (but n) some all alike t.0 stays) stays same
but_more n (Abort t) some all alike stays same = same
but_more n (WaitFor t) some all alike stays same = same
but_more n (PermitAny giver obs ops) some all alike stays same = same

but_gone : (t : ℕ) (step : Step) (all : List Step) → but t (actor step).0 ≡ false → filter (but t) (committed_names (step ∷ all)) ≡ filter (but t) (committed_names all)
unfolding committed_names committed_by actor
but_gone n (Initiate t parent) all gone = refl
but_gone n (Begin t) all gone = refl
but_gone n (Read t x) all gone = refl
but_gone n (Write t x v) all gone = refl
but_gone n (Add t x d) all gone = refl
but_gone n (Complete t) all gone = refl
but_gone n (Permit giver taker obs ops) all gone = refl
but_gone n (Delegate giver taker obs) all gone = refl
but_gone n (Depend k a b) all gone = refl
but_gone n (Commit t) all gone = go (live all t.0) where
  go : (b : Bool) → filter (but n) (cond b (t.0 ∷ []) [] ++ committed_names all) ≡ filter (but n) (committed_names all)
  go true = rw (gone) refl
  go false = refl
but_gone n (Abort t) all gone = refl
but_gone n (WaitFor t) all gone = refl
but_gone n (PermitAny giver obs ops) all gone = refl

but_names : (t : ℕ) (entries : List Entry) → AllSingle entries → committed_names (applied (kept (but t) entries)) ≡ filter (but t) (committed_names (applied entries))
unfolding AllSingle kept applied committed_names
but_names t [] single = refl
but_names t (entry ∷ older) single = go (but t (actor entry.0).0) refl (takes_effect entry.0 entry.1) refl (but_names t older single.1) where
  go : (stays : Bool) → but t (actor entry.0).0 ≡ stays → (effect : Bool) → takes_effect entry.0 entry.1 ≡ effect → committed_names (applied (kept (but t) older)) ≡ filter (but t) (committed_names (applied older))
      → committed_names (applied (cond stays (entry ∷ kept (but t) older) (kept (but t) older))) ≡ filter (but t) (committed_names (cond effect (entry.0 ∷ applied older) (applied older)))
  go true e true f rest = rw (f) (but_more t entry.0 (applied (kept (but t) older)) (applied older) (but_alike t older single.1) e rest)
  go true e false f rest = rw (f) rest
  go false e true f rest = rest ∙ sym (but_gone t entry.0 (applied older) e)
  go false e false f rest = rest

-- entries of another are the same without t
entries_but : (t n : ℕ) (entries : List Entry) → eqb n t ≡ false → entries_of (kept (but t) entries) n ≡ entries_of entries n
unfolding entries_of kept but
entries_but t n [] apart = refl
entries_but t n (entry ∷ older) apart = go (eqb (actor entry.0).0 t) refl (eqb (actor entry.0).0 n) refl (entries_but t n older apart) where
  Rest : Type 0
  Rest = entries_of (kept (but t) older) n ≡ entries_of older n

  go : (gone : Bool) → eqb (actor entry.0).0 t ≡ gone → (here : Bool) → eqb (actor entry.0).0 n ≡ here → Rest
      → entries_of (cond (not gone) (entry ∷ kept (but t) older) (kept (but t) older)) n ≡ cond here (entry ∷ entries_of older n) (entries_of older n)
  go true e true f rest = absurd (false≢true (sym apart ∙ ap (λ m. eqb m t) (sym (eqb-true (actor entry.0).0 n f)) ∙ e))
  go true e false f rest = rest
  go false e true f rest = rw (f) (ap (λ l. entry ∷ l) rest)
  go false e false f rest = rw (f) rest

pub flat_same : (f g : ℕ → List Entry) (names : List ℕ) → ((n : ℕ) → lists names n ≡ true → f n ≡ g n) → flat_map f names ≡ flat_map g names
unfolding lists
flat_same f g [] same = refl
flat_same f g (n ∷ names) same = λ i. same n (or_left _ _ (eq-eqb n n refl)) i ++ flat_same f g names (λ m h. same m (or_right (eqb n m) _ h)) i

-- ---- one block after another

-- what the serial history is: legal, with the same values, saying of those who committed what all entries do, and of nobody else
pub record IsSerial (opening : Opening) (entries left : List Entry) (names : List ℕ) : Type 0 where
  pub legal : IsLegal opening left
  pub single : AllSingle left
  pub values : (x : ℕ) → value opening (applied left) x ≡ value opening (applied entries) x
  pub members : (n : ℕ) → lists names n ≡ true → IsOwn n (applied left) (applied entries)
  pub absent : (n : ℕ) → lists names n ≡ false → IsOwn n (applied left) []

-- what is kept of entries
single_but : (t : ℕ) (entries : List Entry) → AllSingle entries → AllSingle (kept (but t) entries)
unfolding AllSingle kept
single_but t [] single = single
single_but t (entry ∷ older) single = go (but t (actor entry.0).0) (single_but t older single.1) where
  go : (b : Bool) → AllSingle (kept (but t) older) → AllSingle (cond b (entry ∷ kept (but t) older) (kept (but t) older))
  go true rest = (single.0, rest)
  go false rest = rest

named_but : (t : ℕ) (names : List ℕ) (entries : List Entry) → AllNamed (t ∷ names) entries → AllNamed names (kept (but t) entries)
unfolding AllNamed kept but lists
named_but t names [] named = named
named_but t names (entry ∷ older) named = go (eqb (actor entry.0).0 t) refl (named_but t names older named.1) where
  listed : eqb (actor entry.0).0 t ≡ false → lists names (actor entry.0).0 ≡ true
  listed e = elim (or_cases (eqb t (actor entry.0).0) _ named.0) [
    | inl here ↦ absurd (false≢true (sym e ∙ eqb-flip (actor entry.0).0 t ∙ here))
    | inr later ↦ later
  ]

  go : (b : Bool) → eqb (actor entry.0).0 t ≡ b → AllNamed names (kept (but t) older) → AllNamed names (cond (not b) (entry ∷ kept (but t) older) (kept (but t) older))
  go true e rest = rest
  go false e rest = (listed e, rest)

-- another's entry leaves t absent
pub absent_more : (opening : Opening) (t : ℕ) (entry : Entry) (older : List Entry) → eqb (actor entry.0).0 t ≡ false → IsLegal opening (entry ∷ older) → AllSingle (entry ∷ older)
    → (IsLegal opening older → AllSingle older → IsOwn t (applied older) []) → IsOwn t (applied (entry ∷ older)) []
unfolding IsLegal AllSingle applied
absent_more opening t entry older apart legal single rest = go (takes_effect entry.0 entry.1) where
  go : (effect : Bool) → IsOwn t (cond effect (entry.0 ∷ applied older) (applied older)) []
  go true = own_trans t (entry.0 ∷ applied older) (applied older) [] (other_step t (applied older) (legal_plain opening older legal.1 single.1) entry.0 apart) (rest legal.1 single.1)
  go false = rest legal.1 single.1

-- t does not occur without its entries
but_absent : (opening : Opening) (t : ℕ) (entries : List Entry) → IsLegal opening (kept (but t) entries) → AllSingle (kept (but t) entries) → IsOwn t (applied (kept (but t) entries)) []
unfolding kept applied but
but_absent opening t [] = λ legal single. own_refl t []
but_absent opening t (entry ∷ older) = go (but t (actor entry.0).0) refl (but_absent opening t older) where
  go : (b : Bool) → but t (actor entry.0).0 ≡ b → (IsLegal opening (kept (but t) older) → AllSingle (kept (but t) older) → IsOwn t (applied (kept (but t) older)) [])
      → IsLegal opening (cond b (entry ∷ kept (but t) older) (kept (but t) older)) → AllSingle (cond b (entry ∷ kept (but t) older) (kept (but t) older)) → IsOwn t (applied (cond b (entry ∷ kept (but t) older) (kept (but t) older))) []
  go false e rest legal single = rest legal single
  go true e rest legal single = absent_more opening t entry (kept (but t) older) (not-true (eqb (actor entry.0).0 t) e) legal single rest

-- kept ones are the same without t
but_own : (t n : ℕ) (entries : List Entry) → AllSingle entries → eqb n t ≡ false → IsOwn n (applied (kept (but t) entries)) (applied entries)
unfolding but
but_own t n entries single apart =
    let alike = but_alike t entries single in
    let stays : but t n ≡ true = ap not apart in record {
      initiated_own = alike.initiated_alike n stays;
      begun_own = alike.begun_alike n stays;
      completed_own = alike.completed_alike n stays;
      end_own = alike.ends_alike n stays;
    }

-- without t nobody has aborted
but_unaborted : (opening : Opening) (t : ℕ) (entries : List Entry) → AllSingle entries → IsLegal opening (kept (but t) entries) → NobodyAborted (applied entries) → NobodyAborted (applied (kept (but t) entries))
unfolding was_aborted end_of
but_unaborted opening t entries single legal unaborted n = go (eqb n t) refl where
  go : (b : Bool) → eqb n t ≡ b → was_aborted (end_of (applied (kept (but t) entries)) n) ≡ false
  go true e = subst (λ m. was_aborted (end_of (applied (kept (but t) entries)) m) ≡ false) (sym (eqb-true n t e)) (ap was_aborted (but_absent opening t entries legal (single_but t entries single)).end_own)
  go false e = ap was_aborted (but_own t n entries single e).end_own ∙ unaborted n

-- the operations without t are those of others
but_operations : (t : ℕ) (entries : List Entry) → AllSingle entries → operations (applied (kept (but t) entries)) ≡ others_of t (operations (applied entries))
unfolding others_of but owned
but_operations t entries single = (but_alike t entries single).operations_alike

-- one who has ended is not live
ended_dead : (steps : List Step) (n : ℕ) (end : End) → end_of steps n ≡ Some end → live steps n ≡ false
unfolding live
ended_dead steps n end is = rw (is) (go (lists (initiated steps) n)) where
  go : (b : Bool) → (b && false) ≡ false
  go true = refl
  go false = refl

nobody_live : (n : ℕ) → live [] n ≡ false
unfolding live lists initiated
nobody_live n = refl

-- nobody is of no entries
nobody_left : (entries : List Entry) → AllNamed [] entries → entries ≡ []
unfolding AllNamed lists
nobody_left [] named = refl
nobody_left (entry ∷ older) named = absurd (false≢true named.0)

-- t is no other one
less : (t : ℕ) (names : List ℕ) → Distinct (t ∷ names) → filter (but t) (t ∷ names) ≡ names
unfolding but
less t names different = rw (eq-eqb t t refl) (filter_absent t names different.0)

-- t's block after the others
step : (opening : Opening) (t : ℕ) (names : List ℕ) (entries : List Entry) → IsLegal opening entries → AllSingle entries → AllOwnOpens entries → NobodyAborted (applied entries) → committed_names (applied entries) ≡ t ∷ names → AllNamed (t ∷ names) entries
    → IsSerial opening (kept (but t) entries) (flat_map (entries_of (kept (but t) entries)) names) names → IsSerial opening entries (flat_map (entries_of entries) (t ∷ names)) (t ∷ names)
unfolding lists OwnLast was_aborted end_of
step opening t names entries legal single opens unaborted is named before = rw (← same) record {
  legal = tail.legal;
  single = tail.single;
  values = values;
  members = λ n h. member n h (eqb n t) refl;
  absent = λ n h. let parts = or_parts (eqb t n) _ h in own_trans n _ (applied others) [] (tail.rest n (eqb-flip n t ∙ parts.0)) (before.absent n parts.1);
} where
  others : List Entry
  others = flat_map (entries_of (kept (but t) entries)) names

  different : lists names t ≡ false
  different = (subst Distinct is (named_once (applied entries))).0

  same : entries_of entries t ++ others ≡ entries_of entries t ++ flat_map (entries_of entries) names
  same = ap (λ l. entries_of entries t ++ l) (flat_same (entries_of (kept (but t) entries)) (entries_of entries) names (λ n h. entries_but t n entries (apart n h (eqb n t) refl))) where
    apart : (n : ℕ) → lists names n ≡ true → (b : Bool) → eqb n t ≡ b → b ≡ false
    apart n h false e = refl
    apart n h true e = absurd (false≢true (sym different ∙ ap (lists names) (sym (eqb-true n t e)) ∙ h))

  last : ComesLast t entries
  last = comes opening t names entries legal single opens unaborted is named entries ([], refl)

  rest_legal : IsLegal opening (kept (but t) entries)
  rest_legal = but_legal opening t entries legal single last

  rest_unaborted : NobodyAborted (applied (kept (but t) entries))
  rest_unaborted = but_unaborted opening t entries single rest_legal unaborted

  rest_ended : (n : ℕ) → lists names n ≡ true → end_of (applied (kept (but t) entries)) n ≡ Some End'.Committed
  rest_ended n h = named_committed (applied (kept (but t) entries)) n (ap (λ l. lists l n) (but_names t entries single ∙ ap (filter (but t)) is ∙ less t names (subst Distinct is (named_once (applied entries)))) ∙ h)

  idle : (n : ℕ) (b : Bool) → lists names n ≡ b → live (applied others) n ≡ false
  idle n true h = own_live n (applied others) (applied (kept (but t) entries)) (before.members n h) ∙ ended_dead (applied (kept (but t) entries)) n End'.Committed (rest_ended n h)
  idle n false h = own_live n (applied others) [] (before.absent n h) ∙ nobody_live n

  unaborted_others : (n : ℕ) (b : Bool) → lists names n ≡ b → was_aborted (end_of (applied others) n) ≡ false
  unaborted_others n true h = ap was_aborted (before.members n h).end_own ∙ rest_unaborted n
  unaborted_others n false h = ap was_aborted (before.absent n h).end_own

  left_by : (x : ℕ) → value opening (applied others) x ≡ value_after always x (opening_value opening x) (others_of t (operations (applied entries)))
  left_by x = before.values x ∙ value_always opening (applied (kept (but t) entries)) x rest_unaborted ∙ ap (value_after always x (opening_value opening x)) (but_operations t entries single)

  are : AreOthers opening t entries others
  are = record { legal = before.legal; single = before.single; absent = before.absent t different; idle = λ n. idle n (lists names n) refl; unaborted = λ n. unaborted_others n (lists names n) refl; values = left_by }

  tail : IsBlock opening t entries others
  tail = block opening t entries others legal single last unaborted are entries ([], refl)

  all_unaborted : NobodyAborted (applied (entries_of entries t ++ others))
  all_unaborted n = go (eqb n t) refl where
    go : (b : Bool) → eqb n t ≡ b → was_aborted (end_of (applied (entries_of entries t ++ others)) n) ≡ false
    go true e = subst (λ m. was_aborted (end_of (applied (entries_of entries t ++ others)) m) ≡ false) (sym (eqb-true n t e)) (ap was_aborted tail.itself.end_own ∙ unaborted t)
    go false e = ap was_aborted (tail.rest n e).end_own ∙ unaborted_others n (lists names n) refl

  values : (x : ℕ) → value opening (applied (entries_of entries t ++ others)) x ≡ value opening (applied entries) x
  values x =
      value_always opening (applied (entries_of entries t ++ others)) x all_unaborted
      ∙ ap (value_after always x (opening_value opening x)) (block_operations opening t entries others legal single)
      ∙ value_append x (opening_value opening x) (own_of t (operations (applied entries))) (operations (applied others))
      ∙ ap (λ v. value_after always x v (own_of t (operations (applied entries)))) (sym (value_always opening (applied others) x (λ n. unaborted_others n (lists names n) refl)) ∙ left_by x)
      ∙ sym (own_last opening t entries legal single last x (opening_value opening x))
      ∙ sym (value_always opening (applied entries) x unaborted)

  member : (n : ℕ) → (eqb t n || list_any (λ m. eqb m n) names) ≡ true → (b : Bool) → eqb n t ≡ b → IsOwn n (applied (entries_of entries t ++ others)) (applied entries)
  member n h true e = subst (λ m. IsOwn m (applied (entries_of entries t ++ others)) (applied entries)) (sym (eqb-true n t e)) tail.itself
  member n h false e = elim (or_cases (eqb t n) _ h) [
    | inl here ↦ absurd (false≢true (sym e ∙ eqb-flip n t ∙ here))
    | inr later ↦ own_trans n _ (applied others) (applied entries) (tail.rest n e) (own_trans n (applied others) (applied (kept (but t) entries)) (applied entries) (before.members n later) (but_own t n entries single e))
  ]

pub serial_world : (opening : Opening) (names : List ℕ) (entries : List Entry) → IsLegal opening entries → AllSingle entries → AllOwnOpens entries → NobodyAborted (applied entries) → committed_names (applied entries) ≡ names → AllNamed names entries
    → IsSerial opening entries (flat_map (entries_of entries) names) names
unfolding applied IsLegal AllSingle
serial_world opening [] entries legal single opens unaborted is named = rw (nobody_left entries named) none where
  none : IsSerial opening [] [] []
  none = record { legal = tt; single = tt; values = λ x. refl; members = λ n h. own_refl n []; absent = λ n h. own_refl n [] }
serial_world opening (t ∷ names) entries legal single opens unaborted is named =
    step opening t names entries legal single opens unaborted is named (serial_world opening names (kept (but t) entries) (but_legal opening t entries legal single (comes opening t names entries legal single opens unaborted is named entries ([], refl)))
    (single_but t entries single) (own_opens_kept (but t) entries opens) (but_unaborted opening t entries single (but_legal opening t entries legal single (comes opening t names entries legal single opens unaborted is named entries ([], refl))) unaborted)
    (but_names t entries single ∙ ap (filter (but t)) is ∙ less t names (subst Distinct is (named_once (applied entries)))) (named_but t names entries named))
