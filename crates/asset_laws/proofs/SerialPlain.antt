-- Steps among which nobody permits, delegates or depends: what stands of a transaction depends on its own steps.
use Rattle.std.proofs.Common.{◌≡◌, ℕ, Bool, true, false, cond, not, eqb, ◌&&◌, ◌||◌, List, [], ◌∷◌, refl, sym, ◌∙◌, ap, None, Some}
use Rattle.std.specs.Prelude.{Option}
use Rattle.std.specs.List.{list_any, list_all}
use Rattle.std.proofs.lemmas.Bool.{and_parts, eqb-true, eq-eqb, false≢true}
use Rattle.asset_names.specs.declared.names.Txn.{Txn}
use Rattle.asset_names.specs.declared.names.Ob.{Ob}
use Rattle.asset_names.specs.declared.operations.Op.{Op}
use Rattle.asset_names.specs.declared.operations.Op.TheVariants as Op'
use Rattle.asset_names.specs.declared.steps.Kind.{Kind}
use Rattle.asset_names.specs.declared.steps.Kind.TheVariants.{Cd, Ad, Gc}
use Rattle.asset_names.specs.declared.steps.Step.{Step}
use Rattle.asset_names.specs.declared.steps.Step.TheVariants.{Initiate, Begin, Read, Write, Add, Complete, Permit, PermitAny, Delegate, Depend, Commit, Abort, WaitFor}
use Rattle.asset_names.specs.declared.replies.Refusal.{Refusal}
use Rattle.asset_names.specs.declared.replies.Reply.{Reply}
use Rattle.asset_names.specs.declared.replies.Reply.TheVariants.{Done, Value, Committed, Aborted, Refused}
use Rattle.asset_names.specs.declared.replies.Outcome.TheVariants.{Answer}
use Rattle.asset_names.specs.Arrows.{Arrow, lists, linked, among}
use Rattle.asset_names.specs.Paths.{both_ways, has_outside}
use Rattle.asset_names.specs.Steps.{Opening, Entry, takes_effect, applied, initiated, initiated_by, begun, begun_by, completed, completed_by}
use Rattle.asset_names.specs.Endings.{dependency_by, dependencies, class_arrows, order_arrows, doom_arrows, ended_by, end_of, live, status, same_class, has_outside_source}
use Rattle.asset_names.specs.Groups.{actor, partner}
use Rattle.asset_names.specs.Operations.{permits, permitted_by, openers, permits_along, reaches_opener, allows, free, value}
use Rattle.asset_names.specs.Answers.{is_completed, unknown, ended, not_running, taken, begun_before, too_late, one_name, rules_for, first_refusal, class_completed, may_commit, unrefused, outcome_unless, answer, IsLegal}
use Rattle.asset_names.proofs.Common.{both_follow}
use Rattle.asset_names.proofs.EndLemmas.{commits, aborts, commit_ends, abort_ends}
use Rattle.asset_names.proofs.LiveLemmas.{EndsNobody, end_same}
use Rattle.asset_names.proofs.LegalLemmas.{effect_unrefused, first_none, known_initiated}
use Rattle.asset_names.proofs.ListLemmas.{all_listed, listed_all}
use Rattle.asset_laws.proofs.KeepLinks.{any_name}
use Rattle.asset_laws.proofs.AnswersAlike.{not_waiting}
use Rattle.asset_laws.proofs.KeptSteps.{one_more, passed_over, stranger_adds}

-- a step that is no permit to another, no delegation and no dependency
unfoldable pub plain : Step → Bool
plain (Initiate t parent) = true
plain (Begin t) = true
plain (Read t x) = true
plain (Write t x v) = true
plain (Add t x d) = true
plain (Complete t) = true
plain (Permit giver taker obs ops) = false
plain (Delegate giver taker obs) = false
plain (Depend k a b) = false
plain (Commit t) = true
plain (Abort t) = true
plain (WaitFor t) = true
plain (PermitAny giver obs ops) = true

unfoldable pub AllPlain : List Step → Type 0
AllPlain [] = Unit {0}
AllPlain (step ∷ older) = (plain step ≡ true) × AllPlain older

-- ---- nothing leads from one to another

no_dependency : (step : Step) → plain step ≡ true → (kind : Kind) → dependency_by kind step ≡ []
unfolding plain dependency_by
no_dependency (Initiate t parent) is kind = refl
no_dependency (Begin t) is kind = refl
no_dependency (Read t x) is kind = refl
no_dependency (Write t x v) is kind = refl
no_dependency (Add t x d) is kind = refl
no_dependency (Complete t) is kind = refl
no_dependency (Permit giver taker obs ops) is kind = refl
no_dependency (Delegate giver taker obs) is kind = refl
no_dependency (Depend k a b) is kind = absurd (false≢true is)
no_dependency (Commit t) is kind = refl
no_dependency (Abort t) is kind = refl
no_dependency (WaitFor t) is kind = refl
no_dependency (PermitAny giver obs ops) is kind = refl

no_dependencies : (steps : List Step) → AllPlain steps → (kind : Kind) → dependencies kind steps ≡ []
unfolding AllPlain dependencies
no_dependencies [] all kind = refl
no_dependencies (step ∷ older) all kind = rw (no_dependency step all.0 kind) (no_dependencies older all.1 kind)

no_permit : (step : Step) → plain step ≡ true → (older : List Step) (arrows : List Arrow) (x : ℕ) (op : Op) → permitted_by step older arrows x op ≡ []
unfolding plain permitted_by
no_permit (Initiate t parent) is older arrows y op = refl
no_permit (Begin t) is older arrows y op = refl
no_permit (Read t x) is older arrows y op = refl
no_permit (Write t x v) is older arrows y op = refl
no_permit (Add t x d) is older arrows y op = refl
no_permit (Complete t) is older arrows y op = refl
no_permit (Permit giver taker obs ops) is older arrows y op = absurd (false≢true is)
no_permit (Delegate giver taker obs) is older arrows y op = absurd (false≢true is)
no_permit (Depend k a b) is older arrows y op = refl
no_permit (Commit t) is older arrows y op = refl
no_permit (Abort t) is older arrows y op = refl
no_permit (WaitFor t) is older arrows y op = refl
no_permit (PermitAny giver obs ops) is older arrows y op = refl

pub no_permits : (steps : List Step) → AllPlain steps → (x : ℕ) (op : Op) → permits steps x op ≡ []
unfolding AllPlain permits
no_permits [] all x op = refl
no_permits (step ∷ older) all x op = rw (no_permit step all.0 older (permits older x op) x op) (no_permits older all.1 x op)

-- nobody allows another anything on an object that nobody but the other opens
pub disallows : (steps : List Step) → AllPlain steps → (u t x : ℕ) (op : Op) → eqb u t ≡ false → ((a : ℕ) → lists (openers steps x op) a ≡ true → a ≡ t) → allows steps u t x op ≡ false
unfolding allows permits_along reaches_opener among linked
disallows steps all u t x op apart opens = rw (no_permits steps all x op, apart) (go (live steps t) (list_any (λ a. live steps a && eqb u a) (openers steps x op)) refl) where
  go : (alive opened : Bool) → list_any (λ a. live steps a && eqb u a) (openers steps x op) ≡ opened → (alive && opened) ≡ false
  go false opened e = refl
  go true false e = refl
  go true true e =
      let found = any_name (λ a. live steps a && eqb u a) (openers steps x op) e in
      absurd (false≢true (sym apart ∙ ap (eqb u) (sym (opens found.0 found.1)) ∙ (and_parts (live steps found.0) _ found.2).1))

no_classes : (steps : List Step) → AllPlain steps → class_arrows steps ≡ []
unfolding class_arrows both_ways
no_classes steps all = ap both_ways (no_dependencies steps all Gc)

no_orders : (steps : List Step) → AllPlain steps → order_arrows steps ≡ []
unfolding order_arrows
no_orders steps all = rw (no_dependencies steps all Cd) (no_dependencies steps all Ad)

no_dooms : (steps : List Step) → AllPlain steps → doom_arrows steps ≡ []
unfolding doom_arrows
no_dooms steps all = rw (no_classes steps all) (no_dependencies steps all Ad)

pub commits_plain : (steps : List Step) → AllPlain steps → (t n : ℕ) → commits steps t n ≡ (live steps t && eqb t n)
unfolding commits among linked
commits_plain steps all t n = rw (no_classes steps all) refl

pub aborts_plain : (steps : List Step) → AllPlain steps → (t n : ℕ) → aborts steps t n ≡ (live steps t && eqb t n)
unfolding aborts among linked
aborts_plain steps all t n = rw (no_dooms steps all) refl

pub may_commit_plain : (steps : List Step) → AllPlain steps → (t : ℕ) → lists (initiated steps) t ≡ true → may_commit steps t ≡ is_completed (status steps t)
unfolding may_commit class_completed same_class has_outside_source has_outside among linked
may_commit_plain steps all t known = rw (no_classes steps all, no_orders steps all) (and_true _ ∙ both_follow _ _ there back) where
  and_true : (b : Bool) → (b && true) ≡ b
  and_true true = refl
  and_true false = refl

  test : ℕ → Bool
  test n = not (eqb t n) || is_completed (status steps n)

  itself : (same : Bool) → same ≡ true → (not same || is_completed (status steps t)) ≡ true → is_completed (status steps t) ≡ true
  itself true e h = h
  itself false e h = absurd (false≢true e)

  there : list_all test (initiated steps) ≡ true → is_completed (status steps t) ≡ true
  there h = itself (eqb t t) (eq-eqb t t refl) (all_listed test (initiated steps) t h known)

  back : is_completed (status steps t) ≡ true → list_all test (initiated steps) ≡ true
  back done = listed_all test (initiated steps) (λ n listed. other n (eqb t n) refl) where
    other : (n : ℕ) (same : Bool) → eqb t n ≡ same → (not same || is_completed (status steps n)) ≡ true
    other n false e = refl
    other n true e = ap (λ m. is_completed (status steps m)) (sym (eqb-true t n e)) ∙ done

-- ---- what two lists of steps say of one transaction

pub record IsOwn (n : ℕ) (some all : List Step) : Type 0 where
  pub initiated_own : lists (initiated some) n ≡ lists (initiated all) n
  pub begun_own : lists (begun some) n ≡ lists (begun all) n
  pub completed_own : lists (completed some) n ≡ lists (completed all) n
  pub end_own : end_of some n ≡ end_of all n

pub own_refl : (n : ℕ) (steps : List Step) → IsOwn n steps steps
own_refl n steps = record { initiated_own = refl; begun_own = refl; completed_own = refl; end_own = refl }

pub own_trans : (n : ℕ) (a b c : List Step) → IsOwn n a b → IsOwn n b c → IsOwn n a c
own_trans n a b c one two = record {
  initiated_own = one.initiated_own ∙ two.initiated_own;
  begun_own = one.begun_own ∙ two.begun_own;
  completed_own = one.completed_own ∙ two.completed_own;
  end_own = one.end_own ∙ two.end_own;
}

pub own_live : (n : ℕ) (some all : List Step) → IsOwn n some all → live some n ≡ live all n
unfolding live
own_live n some all own = rw (own.initiated_own, own.end_own) refl

pub own_status : (n : ℕ) (some all : List Step) → IsOwn n some all → status some n ≡ status all n
unfolding status
own_status n some all own = rw (own.initiated_own, own.begun_own, own.completed_own, own.end_own) refl

-- its own step changes both alike
own_ends : (n : ℕ) (some all : List Step) → IsOwn n some all → AllPlain some → AllPlain all → (step : Step) → (actor step).0 ≡ n → end_of (step ∷ some) n ≡ end_of (step ∷ all) n
unfolding EndsNobody ended_by actor
own_ends n some all own one other = by where
  quiet : (step : Step) → EndsNobody step → end_of (step ∷ some) n ≡ end_of (step ∷ all) n
  quiet step nobody = end_same step some n nobody ∙ own.end_own ∙ sym (end_same step all n nobody)

  by : (step : Step) → (actor step).0 ≡ n → end_of (step ∷ some) n ≡ end_of (step ∷ all) n
  by (Initiate t parent) is = quiet (Initiate t parent) (λ l o m. refl)
  by (Begin t) is = quiet (Begin t) (λ l o m. refl)
  by (Read t x) is = quiet (Read t x) (λ l o m. refl)
  by (Write t x v) is = quiet (Write t x v) (λ l o m. refl)
  by (Add t x d) is = quiet (Add t x d) (λ l o m. refl)
  by (Complete t) is = quiet (Complete t) (λ l o m. refl)
  by (Permit giver taker obs ops) is = quiet (Permit giver taker obs ops) (λ l o m. refl)
  by (Delegate giver taker obs) is = quiet (Delegate giver taker obs) (λ l o m. refl)
  by (Depend k a b) is = quiet (Depend k a b) (λ l o m. refl)
  by (Commit t) is = commit_ends t some n ∙ rw (commits_plain some one t.0 n, commits_plain all other t.0 n, is, own_live n some all own, own.end_own) refl ∙ sym (commit_ends t all n)
  by (Abort t) is = abort_ends t some n ∙ rw (aborts_plain some one t.0 n, aborts_plain all other t.0 n, is, own_live n some all own, own.end_own) refl ∙ sym (abort_ends t all n)
  by (WaitFor t) is = quiet (WaitFor t) (λ l o m. refl)
  by (PermitAny giver obs ops) is = quiet (PermitAny giver obs ops) (λ l o m. refl)

pub own_step : (n : ℕ) (some all : List Step) → IsOwn n some all → AllPlain some → AllPlain all → (step : Step) → (actor step).0 ≡ n → IsOwn n (step ∷ some) (step ∷ all)
unfolding initiated begun completed
own_step n some all own one other step is = record {
  initiated_own = one_more (initiated_by step) (initiated some) (initiated all) n own.initiated_own;
  begun_own = one_more (begun_by step) (begun some) (begun all) n own.begun_own;
  completed_own = one_more (completed_by step) (completed some) (completed all) n own.completed_own;
  end_own = own_ends n some all own one other step is;
}

-- another's step changes nothing
other_ends : (n : ℕ) (steps : List Step) → AllPlain steps → (step : Step) → eqb (actor step).0 n ≡ false → end_of (step ∷ steps) n ≡ end_of steps n
unfolding EndsNobody ended_by actor
other_ends n steps all = by where
  none : (b : Bool) → (b && false) ≡ false
  none true = refl
  none false = refl

  by : (step : Step) → eqb (actor step).0 n ≡ false → end_of (step ∷ steps) n ≡ end_of steps n
  by (Initiate t parent) other = end_same (Initiate t parent) steps n (λ l o m. refl)
  by (Begin t) other = end_same (Begin t) steps n (λ l o m. refl)
  by (Read t x) other = end_same (Read t x) steps n (λ l o m. refl)
  by (Write t x v) other = end_same (Write t x v) steps n (λ l o m. refl)
  by (Add t x d) other = end_same (Add t x d) steps n (λ l o m. refl)
  by (Complete t) other = end_same (Complete t) steps n (λ l o m. refl)
  by (Permit giver taker obs ops) other = end_same (Permit giver taker obs ops) steps n (λ l o m. refl)
  by (Delegate giver taker obs) other = end_same (Delegate giver taker obs) steps n (λ l o m. refl)
  by (Depend k a b) other = end_same (Depend k a b) steps n (λ l o m. refl)
  by (Commit t) other = commit_ends t steps n ∙ rw (commits_plain steps all t.0 n, other, none (live steps t.0)) refl
  by (Abort t) other = abort_ends t steps n ∙ rw (aborts_plain steps all t.0 n, other, none (live steps t.0)) refl
  by (WaitFor t) other = end_same (WaitFor t) steps n (λ l o m. refl)
  by (PermitAny giver obs ops) other = end_same (PermitAny giver obs ops) steps n (λ l o m. refl)

pub other_step : (n : ℕ) (steps : List Step) → AllPlain steps → (step : Step) → eqb (actor step).0 n ≡ false → IsOwn n (step ∷ steps) steps
unfolding initiated begun completed
other_step n steps all step other =
    let adds = stranger_adds (λ m. eqb m n) step n other (eq-eqb n n refl) in record {
      initiated_own = passed_over (initiated_by step) (initiated steps) n adds.0;
      begun_own = passed_over (begun_by step) (begun steps) n adds.1;
      completed_own = passed_over (completed_by step) (completed steps) n adds.2;
      end_own = other_ends n steps all step other;
    }

-- ---- answers

-- the refusals of a step on one transaction depend on its status
first_own : (opening : Opening) (some all : List Step) (step : Step) → IsOwn (actor step).0 some all → (actor step).0 ≡ (partner step).0
    → first_refusal (rules_for opening some step) ≡ first_refusal (rules_for opening all step)
unfolding rules_for first_refusal unknown ended not_running taken begun_before too_late one_name actor partner
first_own opening some all (Initiate t parent) own same = rw (own_status t.0 some all own) refl
first_own opening some all (Begin t) own same = rw (own_status t.0 some all own) refl
first_own opening some all (Read t x) own same = rw (own_status t.0 some all own) refl
first_own opening some all (Write t x v) own same = rw (own_status t.0 some all own) refl
first_own opening some all (Add t x d) own same = rw (own_status t.0 some all own) refl
first_own opening some all (Complete t) own same = rw (own_status t.0 some all own) refl
first_own opening some all (Permit giver taker obs ops) own same = rw (eq-eqb giver.0 taker.0 same) refl
first_own opening some all (Delegate giver taker obs) own same = rw (eq-eqb giver.0 taker.0 same) refl
first_own opening some all (Depend k a b) own same = rw (eq-eqb a.0 b.0 same) refl
first_own opening some all (Commit t) own same = rw (own_status t.0 some all own) refl
first_own opening some all (Abort t) own same = rw (own_status t.0 some all own) refl
first_own opening some all (WaitFor t) own same = rw (own_status t.0 some all own) refl
first_own opening some all (PermitAny giver obs ops) own same = rw (own_status giver.0 some all own) refl

unrefused_own : (opening : Opening) (some all : List Step) → AllPlain some → AllPlain all → (step : Step) → IsOwn (actor step).0 some all → first_refusal (rules_for opening all step) ≡ None
    → ((x : ℕ) (op : Op) → free some (actor step).0 x op ≡ true) → (reply : Reply)
    → ((t : Txn) (x : Ob) → step ≡ Read t x → free all t.0 x.0 Op'.Read ≡ true → takes_effect step reply ≡ true → value opening some x.0 ≡ value opening all x.0)
    → unrefused opening all step ≡ Answer reply → unrefused opening some step ≡ Answer reply
unfolding unrefused actor rules_for unknown takes_effect
unrefused_own opening some all one other (Initiate t parent) own none frees reply reads is = is
unrefused_own opening some all one other (Begin t) own none frees reply reads is = is
unrefused_own opening some all one other (Read t x) own none frees reply reads is =
    let is_free = not_waiting (free all t.0 x.0 Op'.Read) _ reply is in
    let read : Answer (Value (value opening all x.0)) ≡ Answer reply = rw is_free at is in
    rw (frees x.0 Op'.Read, reads t x refl is_free (read_done reply read)) read where
      read_done : (reply : Reply) → Answer (Value (value opening all x.0)) ≡ Answer reply → takes_effect (Read t x) reply ≡ true
      read_done (Value v) h = refl
      read_done Done h = cc
      read_done Committed h = cc
      read_done Aborted h = cc
      read_done (Refused refusal) h = cc
unrefused_own opening some all one other (Write t x v) own none frees reply reads is = rw (frees x.0 Op'.Write) (rw (not_waiting (free all t.0 x.0 Op'.Write) _ reply is) at is)
unrefused_own opening some all one other (Add t x d) own none frees reply reads is = rw (frees x.0 Op'.Add) (rw (not_waiting (free all t.0 x.0 Op'.Add) _ reply is) at is)
unrefused_own opening some all one other (Complete t) own none frees reply reads is = is
unrefused_own opening some all one other (Permit giver taker obs ops) own none frees reply reads is = is
unrefused_own opening some all one other (Delegate giver taker obs) own none frees reply reads is = is
unrefused_own opening some all one other (Depend k a b) own none frees reply reads is = is
unrefused_own opening some all one other (Commit t) own none frees reply reads is =
    let known = known_initiated all t.0 (first_none (unknown all t) [] none).0 in
    rw (may_commit_plain some one t.0 (own.initiated_own ∙ known), own_status t.0 some all own) (rw (may_commit_plain all other t.0 known) at is)
unrefused_own opening some all one other (Abort t) own none frees reply reads is = is
unrefused_own opening some all one other (WaitFor t) own none frees reply reads is = rw (own_status t.0 some all own) is
unrefused_own opening some all one other (PermitAny giver obs ops) own none frees reply reads is = is

pub answer_own : (opening : Opening) (some all : List Step) → AllPlain some → AllPlain all → (step : Step) → IsOwn (actor step).0 some all → (actor step).0 ≡ (partner step).0
    → ((x : ℕ) (op : Op) → free some (actor step).0 x op ≡ true) → (reply : Reply)
    → ((t : Txn) (x : Ob) → step ≡ Read t x → free all t.0 x.0 Op'.Read ≡ true → takes_effect step reply ≡ true → value opening some x.0 ≡ value opening all x.0)
    → answer opening all step ≡ Answer reply → answer opening some step ≡ Answer reply
unfolding answer outcome_unless
answer_own opening some all one other step own same frees reply reads is =
    rw (first_own opening some all step own same) (go (first_refusal (rules_for opening all step)) refl is) where
      go : (first : Option Refusal) → first_refusal (rules_for opening all step) ≡ first → outcome_unless first (unrefused opening all step) ≡ Answer reply → outcome_unless first (unrefused opening some step) ≡ Answer reply
      go None e h = unrefused_own opening some all one other step own e frees reply reads h
      go (Some refusal) e h = h

-- ---- histories of steps on one transaction each

unfoldable pub AllSingle : List Entry → Type 0
AllSingle [] = Unit {0}
AllSingle (entry ∷ older) = ((actor entry.0).0 ≡ (partner entry.0).0) × AllSingle older

pub effect_plain : (opening : Opening) (steps : List Step) (step : Step) (reply : Reply) → answer opening steps step ≡ Answer reply → takes_effect step reply ≡ true → (actor step).0 ≡ (partner step).0 → plain step ≡ true
unfolding plain actor partner rules_for one_name
effect_plain opening steps (Initiate t parent) reply is effect same = refl
effect_plain opening steps (Begin t) reply is effect same = refl
effect_plain opening steps (Read t x) reply is effect same = refl
effect_plain opening steps (Write t x v) reply is effect same = refl
effect_plain opening steps (Add t x d) reply is effect same = refl
effect_plain opening steps (Complete t) reply is effect same = refl
effect_plain opening steps (Permit giver taker obs ops) reply is effect same = absurd (false≢true (sym (first_none (one_name giver taker) _ (effect_unrefused opening steps (Permit giver taker obs ops) reply is effect)).0 ∙ eq-eqb giver.0 taker.0 same))
effect_plain opening steps (Delegate giver taker obs) reply is effect same = absurd (false≢true (sym (first_none (one_name giver taker) _ (effect_unrefused opening steps (Delegate giver taker obs) reply is effect)).0 ∙ eq-eqb giver.0 taker.0 same))
effect_plain opening steps (Depend k a b) reply is effect same = absurd (false≢true (sym (first_none (one_name a b) _ (effect_unrefused opening steps (Depend k a b) reply is effect)).0 ∙ eq-eqb a.0 b.0 same))
effect_plain opening steps (Commit t) reply is effect same = refl
effect_plain opening steps (Abort t) reply is effect same = refl
effect_plain opening steps (WaitFor t) reply is effect same = refl
effect_plain opening steps (PermitAny giver obs ops) reply is effect same = refl

pub legal_plain : (opening : Opening) (entries : List Entry) → IsLegal opening entries → AllSingle entries → AllPlain (applied entries)
unfolding IsLegal AllSingle AllPlain applied
legal_plain opening [] legal single = single
legal_plain opening (entry ∷ older) legal single = go (takes_effect entry.0 entry.1) refl (legal_plain opening older legal.1 single.1) where
  go : (effect : Bool) → takes_effect entry.0 entry.1 ≡ effect → AllPlain (applied older) → AllPlain (cond effect (entry.0 ∷ applied older) (applied older))
  go true e all = (effect_plain opening (applied older) entry.0 entry.1 legal.0 e single.0, all)
  go false e all = all
