-- From all entries to those of the transactions that committed, which share nothing.
use Rattle.std.proofs.Common.{◌≡◌, ℕ, ℤ, Bool, true, false, cond, eqb, ◌&&◌, ◌||◌, List, [], ◌∷◌, ◌++◌, filter, refl, sym, ◌∙◌, ap, subst, None, Some}
use Rattle.std.specs.Prelude.{Option, flat_map}
use Rattle.std.proofs.lemmas.Bool.{or_left, or_right, eqb-true, false≢true}
use Rattle.asset_names.specs.declared.statuses.End.{End}
use Rattle.asset_names.specs.declared.statuses.End.TheVariants as End'
use Rattle.asset_names.specs.declared.steps.Step.{Step}
use Rattle.asset_names.specs.declared.steps.Step.TheVariants.{Initiate, Begin, Read, Write, Add, Complete, Permit, PermitAny, Delegate, Depend, Commit, Abort, WaitFor}
use Rattle.asset_names.specs.Arrows.{lists, has_arrow}
use Rattle.asset_names.specs.Steps.{Opening, Entry, takes_effect, applied}
use Rattle.asset_names.specs.Endings.{end_of, live}
use Rattle.asset_names.specs.Groups.{actor, partner, joins, was_committed, kept}
use Rattle.asset_names.specs.Operations.{Operation, operations, was_aborted, opening_value, after_use, value_after, value}
use Rattle.asset_names.specs.Answers.{IsLegal}
use Rattle.asset_names.proofs.Common.{both_follow, eqb-flip}
use Rattle.asset_names.proofs.EndLemmas.{commits_itself, commit_ends}
use Rattle.asset_laws.specs.Serial.{committed_by, committed_names, entries_of, serial, CommittedShareNothing, committed_value}
use Rattle.asset_laws.proofs.KeepLinks.{Keeps, other_name}
use Rattle.asset_laws.proofs.AlikeLemmas.{IsAlike, owned, live_alike}
use Rattle.asset_laws.proofs.KeptLemmas.{RespectsEntries, respects_applied, kept_alike, kept_applied, legal_kept}
use Rattle.asset_laws.proofs.GroupLemmas.{keeps_respects, own_join, later_join, met_join}
use Rattle.asset_laws.proofs.OpenLemmas.{opened_met, opened_kept}
use Rattle.asset_laws.proofs.SerialPlain.{AllSingle, IsOwn, own_refl, legal_plain}
use Rattle.asset_laws.proofs.SerialValues.{always, NobodyAborted, AllOwnOpens, OwnOpens, value_always, value_counts}
use Rattle.asset_laws.proofs.SerialLegal.{named_committed, committed_named, AllNamed, end_stays}
use Rattle.asset_laws.proofs.SerialWorld.{absent_more, flat_same, serial_world}

-- no join leads from one who is kept to another
abbrev Share : (ℕ → Bool) → List Entry → Type 0
Share keep entries = (u v : ℕ) → has_arrow (joins entries) u v ≡ true → (keep u || keep v) ≡ true → u ≡ v

share_keeps : (keep : ℕ → Bool) (entries : List Entry) → Share keep entries → Keeps keep (joins entries)
share_keeps keep entries share u v h = go (keep u) refl (keep v) refl where
  go : (a : Bool) → keep u ≡ a → (b : Bool) → keep v ≡ b → keep u ≡ keep v
  go true e b f = ap keep (share u v h (or_left (keep u) (keep v) e))
  go false e true f = ap keep (share u v h (or_right (keep u) (keep v) f))
  go false e false f = e ∙ sym f

single_kept : (keep : ℕ → Bool) (entries : List Entry) → Share keep entries → AllSingle (kept keep entries)
unfolding AllSingle kept
single_kept keep [] share = tt
single_kept keep (entry ∷ older) share = go (keep (actor entry.0).0) refl (single_kept keep older (λ u v h stays. share u v (later_join entry older u v h) stays)) where
  alone : keep (actor entry.0).0 ≡ true → (actor entry.0).0 ≡ (partner entry.0).0
  alone e = share (actor entry.0).0 (partner entry.0).0 (own_join entry older) (or_left _ _ e)

  go : (b : Bool) → keep (actor entry.0).0 ≡ b → AllSingle (kept keep older) → AllSingle (cond b (entry ∷ kept keep older) (kept keep older))
  go true e rest = (alone e, rest)
  go false e rest = rest

own_kept : (keep : ℕ → Bool) (entries : List Entry) → Share keep entries → AllOwnOpens (kept keep entries)
unfolding AllOwnOpens kept
own_kept keep [] share = tt
own_kept keep (entry ∷ older) share = go (keep (actor entry.0).0) refl (own_kept keep older (λ u v h stays. share u v (later_join entry older u v h) stays)) where
  own : keep (actor entry.0).0 ≡ true → OwnOpens entry older
  own e effect x on = opened_met (λ a. a ≡ (actor entry.0).0) entry.0 x on (applied older) (λ v h. sym (share (actor entry.0).0 v (met_join entry older effect v h) (or_left _ _ e)))

  go : (b : Bool) → keep (actor entry.0).0 ≡ b → AllOwnOpens (kept keep older) → AllOwnOpens (cond b (entry ∷ kept keep older) (kept keep older))
  go true e rest = ((λ effect x on. opened_kept keep (λ a. a ≡ (actor entry.0).0) x older (own e effect x on)), rest)
  go false e rest = rest

-- one who is not kept does not occur
kept_absent : (opening : Opening) (keep : ℕ → Bool) (n : ℕ) (entries : List Entry) → keep n ≡ false → IsLegal opening (kept keep entries) → AllSingle (kept keep entries) → IsOwn n (applied (kept keep entries)) []
unfolding kept applied
kept_absent opening keep n [] gone = λ legal single. own_refl n []
kept_absent opening keep n (entry ∷ older) gone = go (keep (actor entry.0).0) refl (kept_absent opening keep n older gone) where
  go : (b : Bool) → keep (actor entry.0).0 ≡ b → (IsLegal opening (kept keep older) → AllSingle (kept keep older) → IsOwn n (applied (kept keep older)) [])
      → IsLegal opening (cond b (entry ∷ kept keep older) (kept keep older)) → AllSingle (cond b (entry ∷ kept keep older) (kept keep older)) → IsOwn n (applied (cond b (entry ∷ kept keep older) (kept keep older))) []
  go false e rest legal single = rest legal single
  go true e rest legal single = absent_more opening n entry (kept keep older) (eqb-flip (actor entry.0).0 n ∙ other_name keep n (actor entry.0).0 gone e) legal single rest

-- each kept entry is of one who is named
all_named : (keep : ℕ → Bool) (names : List ℕ) (entries : List Entry) → ((n : ℕ) → keep n ≡ true → lists names n ≡ true) → AllNamed names (kept keep entries)
unfolding AllNamed kept
all_named keep names [] listed = tt
all_named keep names (entry ∷ older) listed = go (keep (actor entry.0).0) refl (all_named keep names older listed) where
  go : (b : Bool) → keep (actor entry.0).0 ≡ b → AllNamed names (kept keep older) → AllNamed names (cond b (entry ∷ kept keep older) (kept keep older))
  go true e rest = (listed (actor entry.0).0 e, rest)
  go false e rest = rest

-- those who committed are kept, so they are the same
names_more : (keep : ℕ → Bool) (step : Step) (some all : List Step) → IsAlike keep some all → keep (actor step).0 ≡ true → committed_names some ≡ committed_names all → committed_names (step ∷ some) ≡ committed_names (step ∷ all)
unfolding committed_names committed_by actor
names_more keep (Initiate t parent) some all alike stays same = same
names_more keep (Begin t) some all alike stays same = same
names_more keep (Read t x) some all alike stays same = same
names_more keep (Write t x v) some all alike stays same = same
names_more keep (Add t x d) some all alike stays same = same
names_more keep (Complete t) some all alike stays same = same
names_more keep (Permit giver taker obs ops) some all alike stays same = same
names_more keep (Delegate giver taker obs) some all alike stays same = same
names_more keep (Depend k a b) some all alike stays same = same
names_more keep (Commit t) some all alike stays same = rw (live_alike keep some all alike t.0 stays, same) refl
names_more keep (Abort t) some all alike stays same = same
names_more keep (WaitFor t) some all alike stays same = same
names_more keep (PermitAny giver obs ops) some all alike stays same = same

names_gone : (keep : ℕ → Bool) (step : Step) (all : List Step) → ((n : ℕ) → end_of (step ∷ all) n ≡ Some End'.Committed → keep n ≡ true) → keep (actor step).0 ≡ false → committed_names (step ∷ all) ≡ committed_names all
unfolding committed_names committed_by actor
names_gone keep (Initiate t parent) all committed gone = refl
names_gone keep (Begin t) all committed gone = refl
names_gone keep (Read t x) all committed gone = refl
names_gone keep (Write t x v) all committed gone = refl
names_gone keep (Add t x d) all committed gone = refl
names_gone keep (Complete t) all committed gone = refl
names_gone keep (Permit giver taker obs ops) all committed gone = refl
names_gone keep (Delegate giver taker obs) all committed gone = refl
names_gone keep (Depend k a b) all committed gone = refl
names_gone keep (Commit t) all committed gone = go (live all t.0) refl where
  go : (alive : Bool) → live all t.0 ≡ alive → cond alive (t.0 ∷ []) [] ++ committed_names all ≡ committed_names all
  go false e = refl
  go true e = absurd (false≢true (sym gone ∙ committed t.0 (commit_ends t all t.0 ∙ rw (commits_itself all t.0 e) refl)))
names_gone keep (Abort t) all committed gone = refl
names_gone keep (WaitFor t) all committed gone = refl
names_gone keep (PermitAny giver obs ops) all committed gone = refl

names_kept : (keep : ℕ → Bool) (entries : List Entry) → RespectsEntries keep entries → ((n : ℕ) → end_of (applied entries) n ≡ Some End'.Committed → keep n ≡ true) → committed_names (applied (kept keep entries)) ≡ committed_names (applied entries)
unfolding RespectsEntries kept applied
names_kept keep [] respects committed = refl
names_kept keep (entry ∷ older) respects committed = go (keep (actor entry.0).0) refl (takes_effect entry.0 entry.1) refl committed (names_kept keep older respects.1) where
  Rest : Type 0
  Rest = ((n : ℕ) → end_of (applied older) n ≡ Some End'.Committed → keep n ≡ true) → committed_names (applied (kept keep older)) ≡ committed_names (applied older)

  alike : IsAlike keep (applied (kept keep older)) (applied older)
  alike = rw (kept_applied keep older) (kept_alike keep (applied older) (respects_applied keep older respects.1))

  before : ((n : ℕ) → end_of (entry.0 ∷ applied older) n ≡ Some End'.Committed → keep n ≡ true) → (n : ℕ) → end_of (applied older) n ≡ Some End'.Committed → keep n ≡ true
  before all n h = all n (end_stays entry.0 (applied older) n End'.Committed h)

  go : (stays : Bool) → keep (actor entry.0).0 ≡ stays → (effect : Bool) → takes_effect entry.0 entry.1 ≡ effect → ((n : ℕ) → end_of (cond effect (entry.0 ∷ applied older) (applied older)) n ≡ Some End'.Committed → keep n ≡ true) → Rest
      → committed_names (applied (cond stays (entry ∷ kept keep older) (kept keep older))) ≡ committed_names (cond effect (entry.0 ∷ applied older) (applied older))
  go true e true f all rest = rw (f) (names_more keep entry.0 (applied (kept keep older)) (applied older) alike e (rest (before all)))
  go true e false f all rest = rw (f) (rest all)
  go false e true f all rest = rest (before all) ∙ sym (names_gone keep entry.0 (applied older) all e)
  go false e false f all rest = rest all

-- the entries of one who is kept are kept
entries_kept : (keep : ℕ → Bool) (n : ℕ) (entries : List Entry) → keep n ≡ true → entries_of (kept keep entries) n ≡ entries_of entries n
unfolding entries_of kept
entries_kept keep n [] stays = refl
entries_kept keep n (entry ∷ older) stays = go (keep (actor entry.0).0) refl (eqb (actor entry.0).0 n) refl (entries_kept keep n older stays) where
  go : (b : Bool) → keep (actor entry.0).0 ≡ b → (here : Bool) → eqb (actor entry.0).0 n ≡ here → entries_of (kept keep older) n ≡ entries_of older n
      → entries_of (cond b (entry ∷ kept keep older) (kept keep older)) n ≡ cond here (entry ∷ entries_of older n) (entries_of older n)
  go true e true f rest = rw (f) (ap (λ l. entry ∷ l) rest)
  go true e false f rest = rw (f) rest
  go false e true f rest = absurd (false≢true (sym e ∙ ap keep (eqb-true (actor entry.0).0 n f) ∙ stays))
  go false e false f rest = rest

-- the operations that are kept count alone
value_kept : (test : Operation → Bool) (x : ℕ) (first : ℤ) (os : List Operation) → value_after always x first (filter test os) ≡ value_after test x first os
unfolding value_after always
value_kept test x first [] = refl
value_kept test x first (o ∷ os) = go (test o) refl (value_kept test x first os) where
  Rest : Type 0
  Rest = value_after always x first (filter test os) ≡ value_after test x first os

  none : (b : Bool) → (b && false) ≡ false
  none true = refl
  none false = refl

  go : (b : Bool) → test o ≡ b → Rest → value_after always x first (cond b (o ∷ filter test os) (filter test os)) ≡ cond (eqb o.object x && b) (after_use o.use_of (value_after test x first os)) (value_after test x first os)
  go true e rest = ap (λ v. cond (eqb o.object x && true) (after_use o.use_of v) v) rest
  go false e rest = rest ∙ rw (none (eqb o.object x)) refl

-- ---- the serial history

-- whether n has committed
unfoldable pub committed : List Entry → ℕ → Bool
committed entries n = was_committed (end_of (applied entries) n)

of_committed : (end : Option End) → was_committed end ≡ true → end ≡ Some End'.Committed
unfolding was_committed
of_committed None h = absurd (false≢true h)
of_committed (Some End'.Committed) h = refl
of_committed (Some End'.Aborted) h = absurd (false≢true h)

-- what is kept of entries in which those who committed share nothing
pub record IsReduced (opening : Opening) (entries left : List Entry) : Type 0 where
  pub legal : IsLegal opening left
  pub single : AllSingle left
  pub own : AllOwnOpens left
  pub unaborted : NobodyAborted (applied left)
  pub names : committed_names (applied left) ≡ committed_names (applied entries)
  pub listed : (n : ℕ) → committed entries n ≡ true → lists (committed_names (applied entries)) n ≡ true
  pub all_listed : AllNamed (committed_names (applied entries)) left
  pub same : (n : ℕ) → lists (committed_names (applied entries)) n ≡ true → entries_of left n ≡ entries_of entries n
  pub values : (x : ℕ) → value opening (applied left) x ≡ committed_value opening (applied entries) x

pub reduced : (opening : Opening) (entries : List Entry) → IsLegal opening entries → CommittedShareNothing entries → IsReduced opening entries (kept (committed entries) entries)
unfolding committed was_aborted was_committed committed_value end_of owned applied
reduced opening entries legal share = record {
  legal = left_legal;
  single = single;
  own = own_kept (committed entries) entries share;
  unaborted = λ n. unaborted n (committed entries n) refl;
  names = names;
  listed = listed;
  all_listed = all_named (committed entries) (committed_names (applied entries)) entries listed;
  same = λ n h. entries_kept (committed entries) n entries (ap was_committed (named_committed (applied entries) n h));
  values = values;
} where
  respects : RespectsEntries (committed entries) entries
  respects = keeps_respects (committed entries) entries (share_keeps (committed entries) entries share)

  left_legal : IsLegal opening (kept (committed entries) entries)
  left_legal = legal_kept opening (committed entries) entries legal respects (λ n gone. gone)

  single : AllSingle (kept (committed entries) entries)
  single = single_kept (committed entries) entries share

  alike : IsAlike (committed entries) (applied (kept (committed entries) entries)) (applied entries)
  alike = rw (kept_applied (committed entries) entries) (kept_alike (committed entries) (applied entries) (respects_applied (committed entries) entries respects))

  unaborted : (n : ℕ) (b : Bool) → committed entries n ≡ b → was_aborted (end_of (applied (kept (committed entries) entries)) n) ≡ false
  unaborted n true e = ap was_aborted (alike.ends_alike n e ∙ of_committed (end_of (applied entries) n) e)
  unaborted n false e = ap was_aborted (kept_absent opening (committed entries) n entries e left_legal single).end_own

  names : committed_names (applied (kept (committed entries) entries)) ≡ committed_names (applied entries)
  names = names_kept (committed entries) entries respects (λ n h. ap was_committed h)

  listed : (n : ℕ) → committed entries n ≡ true → lists (committed_names (applied entries)) n ≡ true
  listed n e =
      ap (λ l. lists l n) (sym names)
      ∙ committed_named (applied (kept (committed entries) entries)) (legal_plain opening (kept (committed entries) entries) left_legal single) n (alike.ends_alike n e ∙ of_committed (end_of (applied entries) n) e)

  values : (x : ℕ) → value opening (applied (kept (committed entries) entries)) x ≡ value_after (λ (o : Operation). lists (committed_names (applied entries)) o.owner) x (opening_value opening x) (operations (applied entries))
  values x =
      value_always opening (applied (kept (committed entries) entries)) x (λ n. unaborted n (committed entries n) refl)
      ∙ ap (value_after always x (opening_value opening x)) alike.operations_alike
      ∙ value_kept (owned (committed entries)) x (opening_value opening x) (operations (applied entries))
      ∙ value_counts (owned (committed entries)) (λ (o : Operation). lists (committed_names (applied entries)) o.owner) x (opening_value opening x) (operations (applied entries))
      (λ o. both_follow (committed entries o.owner) _ (listed o.owner) (λ h. ap was_committed (named_committed (applied entries) o.owner h)))

serial_same : (entries left : List Entry) → ((n : ℕ) → lists (committed_names (applied entries)) n ≡ true → entries_of left n ≡ entries_of entries n) → flat_map (entries_of left) (committed_names (applied entries)) ≡ serial entries
unfolding serial
serial_same entries left same = flat_same (entries_of left) (entries_of entries) (committed_names (applied entries)) same

pub serial_legal : (opening : Opening) (entries : List Entry) → IsLegal opening entries → CommittedShareNothing entries → IsLegal opening (serial entries)
serial_legal opening entries legal share =
    let left = reduced opening entries legal share in
    let world = serial_world opening (committed_names (applied entries)) (kept (committed entries) entries) left.legal left.single left.own left.unaborted left.names left.all_listed in
    subst (IsLegal opening) (serial_same entries (kept (committed entries) entries) left.same) world.legal

pub serial_values : (opening : Opening) (entries : List Entry) → IsLegal opening entries → CommittedShareNothing entries → (x : ℕ) → value opening (applied (serial entries)) x ≡ committed_value opening (applied entries) x
serial_values opening entries legal share x =
    let left = reduced opening entries legal share in
    let world = serial_world opening (committed_names (applied entries)) (kept (committed entries) entries) left.legal left.single left.own left.unaborted left.names left.all_listed in
    ap (λ l. value opening (applied l) x) (sym (serial_same entries (kept (committed entries) entries) left.same)) ∙ world.values x ∙ left.values x
