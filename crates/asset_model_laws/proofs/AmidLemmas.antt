-- Runs of courses in a history, taken apart from their first call on.
use Rattle.std.proofs.Common.{◌≡◌, ◌⊎◌, ℕ, eqb, Bool, true, false, cond, ◌||◌, List, [], ◌∷◌, ◌++◌, append_assoc, refl, sym, ◌∙◌, ap, subst, Some, inl, inr}
use Rattle.std.specs.Prelude.{Result}
use Rattle.std.proofs.lemmas.Bool.{eqb-true, false≢true, or_cases}
use Rattle.std.proofs.lemmas.List.Folds.{list_any-append}
use Rattle.asset_names.specs.declared.names.Txn.{Txn}
use Rattle.asset_names.specs.declared.statuses.End.TheVariants as End'
use Rattle.asset_names.specs.declared.statuses.Status.{Status}
use Rattle.asset_names.specs.declared.statuses.Status.TheVariants as Status'
use Rattle.asset_names.specs.declared.steps.Step.{Step}
use Rattle.asset_names.specs.declared.steps.Step.TheVariants.{Read, Write, Add, Complete, Commit, Abort}
use Rattle.asset_names.specs.declared.replies.Fault.{Fault}
use Rattle.asset_names.specs.declared.replies.Reply.{Reply}
use Rattle.asset_names.specs.declared.replies.Reply.TheVariants as Reply'
use Rattle.asset_names.specs.declared.replies.Outcome.TheVariants.{Answer}
use Rattle.asset_names.specs.Arrows.{lists}
use Rattle.asset_names.specs.Steps.{Opening, Entry, takes_effect, applied, initiated, initiated_by}
use Rattle.asset_names.specs.Endings.{end_of, status}
use Rattle.asset_names.specs.Answers.{IsLegal, answer, is_unknown, is_committed, first_refusal, may_commit, commit_outcome, outcome_unless}
use Rattle.asset_names.proofs.AppliedLemmas.{applied_with_effect, applied_without_effect}
use Rattle.asset_laws.proofs.GroupLemmas.{legal_rest}
use Rattle.asset_models.specs.declared.parts.Act.{Act}
use Rattle.asset_models.specs.declared.parts.Act.TheVariants as Act'
use Rattle.asset_models.specs.declared.parts.Part.{Part}
use Rattle.asset_models.specs.declared.parts.ModelEnd.{ModelEnd}
use Rattle.asset_models.specs.declared.parts.ModelEnd.TheVariants as ModelEnd'
use Rattle.asset_models.specs.Courses.{Course, is_refusal, must_course, must_each_course, starts, by_commit, commit_course, operation_course, act_course, acts_course, acts_of, part_course}
use Rattle.asset_models.specs.Courses.Course.{ends, asks}
use Rattle.asset_model_laws.specs.Amid.{OnlyOthers}
use Rattle.asset_model_laws.proofs.RunAmid.{IsRunAmid}
use Rattle.asset_model_laws.proofs.EndLaws.{commit_told, abort_told, commit_answer, abort_answer, commit_aborted_end, abort_aborted_end}

-- the new entries are the old ones with more
abbrev pub Grows : List Entry → List Entry → Type 0
Grows old new = (newer : List Entry) × (new ≡ newer ++ old)

pub grows_on : (a b c : List Entry) → Grows a b → Grows b c → Grows a c
grows_on a b c one two = (two.0 ++ one.0, two.1 ∙ ap (λ (rest : List Entry). two.0 ++ rest) one.1 ∙ sym (append_assoc two.0 one.0 a))

others_grow : (test : Entry → Bool) (old new : List Entry) → OnlyOthers test old new → Grows old new
others_grow test old new only = (only.0, only.1)

-- a run only adds to the history
pub run_grows : (test : Entry → Bool) (course : Course) (made old calls new : List Entry) (result : Result ModelEnd Fault) → IsRunAmid test course made old calls new result → Grows old new
unfolding IsRunAmid
run_grows test (ends end) made old calls new result run = others_grow test old new run.1
run_grows test (asks step next) made old calls new result (inl cut) = others_grow test old new cut.1
run_grows test (asks step next) made old calls new result (inr more) =
    grows_on old more.0 new (others_grow test old more.0 more.1)
    (grows_on more.0 ((step, more.2) ∷ more.0) new ((step, more.2) ∷ [], refl) (run_grows test (next more.2) ((step, more.2) ∷ made) ((step, more.2) ∷ more.0) calls new result more.3))

-- the calls initiated nobody but p beyond those made
abbrev pub OnlyOf : ℕ → List Entry → List Entry → Type 0
OnlyOf p made calls = (t : ℕ) → lists (initiated (applied calls)) t ≡ true → (t ≡ p) ⊎ (lists (initiated (applied made)) t ≡ true)

pub only_same : (p : ℕ) (made calls : List Entry) → calls ≡ made → OnlyOf p made calls
only_same p made calls same t here = inr (rw same at here)

pub only_on : (p : ℕ) (a b c : List Entry) → OnlyOf p a b → OnlyOf p b c → OnlyOf p a c
only_on p a b c one two t here = elim (two t here) [ inl is ↦ inl is | inr before ↦ one t before ]

-- a step that initiates at most p
abbrev pub StartsOnly : ℕ → Step → Type 0
StartsOnly p step = (t : ℕ) → lists (initiated_by step) t ≡ true → t ≡ p

pub only_more : (p : ℕ) (step : Step) (reply : Reply) (made : List Entry) → StartsOnly p step → OnlyOf p made ((step, reply) ∷ made)
unfolding lists initiated
only_more p step reply made only t here = go (takes_effect step reply) refl where
  go : (effect : Bool) → takes_effect step reply ≡ effect → (t ≡ p) ⊎ (lists (initiated (applied made)) t ≡ true)
  go false e = inr (rw (applied_without_effect (step, reply) made e) at here)
  go true e =
      let split = sym (list_any-append (λ (m : ℕ). eqb m t) (initiated_by step) (initiated (applied made))) ∙ (rw (applied_with_effect (step, reply) made e) at here) in
      elim (or_cases (lists (initiated_by step) t) _ split) [ inl own ↦ inl (only t own) | inr before ↦ inr before ]

-- What becomes of a run of a step and more: it stops there, and has initiated at most p beyond; or it goes on.
pub data Onward (test : Entry → Bool) (p : ℕ) (made : List Entry) (rest : Course) (calls new : List Entry) (result : Result ModelEnd Fault) : Type 0 where
  halted : OnlyOf p made calls → Onward test p made rest calls new result
  onward : (made' old' : List Entry) → OnlyOf p made made' → IsRunAmid test rest made' old' calls new result → Onward test p made rest calls new result

-- a course that ends at once
pub ends_amid : (test : Entry → Bool) (end : ModelEnd) (made old calls new : List Entry) (result : Result ModelEnd Fault) → IsRunAmid test (ends end) made old calls new result → calls ≡ made
unfolding IsRunAmid
ends_amid test end made old calls new result run = run.0

pub must_amid : (test : Entry → Bool) (p : ℕ) (step : Step) (next : Course) (made old calls new : List Entry) (result : Result ModelEnd Fault) → StartsOnly p step
    → IsRunAmid test (must_course step next) made old calls new result → Onward test p made next calls new result
unfolding must_course IsRunAmid
must_amid test p step next made old calls new result only (inl cut) = halted (only_same p made calls cut.0)
must_amid test p step next made old calls new result only (inr more) = go (is_refusal more.2) more.3 where
  go : (refused : Bool) → IsRunAmid test (cond refused (ends (ModelEnd'.Refused step)) next) ((step, more.2) ∷ made) ((step, more.2) ∷ more.0) calls new result → Onward test p made next calls new result
  go true run = halted (only_on p made ((step, more.2) ∷ made) calls (only_more p step more.2 made only) (only_same p _ calls (ends_amid test (ModelEnd'.Refused step) _ _ calls new result run)))
  go false run = onward _ _ (only_more p step more.2 made only) run

-- several steps that are no acts
pub data StartOnly (p : ℕ) : List Step → Type 0 where
  none_more : StartOnly p []
  one_more : (step : Step) (steps : List Step) → StartsOnly p step → StartOnly p steps → StartOnly p (step ∷ steps)

pub musts_amid : (test : Entry → Bool) (p : ℕ) (steps : List Step) (next : Course) (made old calls new : List Entry) (result : Result ModelEnd Fault) → StartOnly p steps
    → IsRunAmid test (must_each_course steps next) made old calls new result → Onward test p made next calls new result
unfolding must_each_course
musts_amid test p [] next made old calls new result none_more run = onward made old (only_same p made made refl) run
musts_amid test p (step ∷ steps) next made old calls new result (one_more _ _ only rest) run =
    go (must_amid test p step (must_each_course steps next) made old calls new result only run) (λ made' old' r. musts_amid test p steps next made' old' calls new result rest r) where
      go : Onward test p made (must_each_course steps next) calls new result
          → ((made' old' : List Entry) → IsRunAmid test (must_each_course steps next) made' old' calls new result → Onward test p made' next calls new result) → Onward test p made next calls new result
      go (halted only) deeper = halted only
      go (onward made' old' only run) deeper = further (deeper made' old' run) where
        further : Onward test p made' next calls new result → Onward test p made next calls new result
        further (halted more) = halted (only_on p made made' calls only more)
        further (onward made'' old'' more run) = onward made'' old'' (only_on p made made' made'' only more) run

-- how acts go on: all done, or one failed
pub data Worked (test : Entry → Bool) (p : ℕ) (made : List Entry) (done failed : Course) (calls new : List Entry) (result : Result ModelEnd Fault) : Type 0 where
  stopped : OnlyOf p made calls → Worked test p made done failed calls new result
  all_done : (made' old' : List Entry) → OnlyOf p made made' → IsRunAmid test done made' old' calls new result → Worked test p made done failed calls new result
  one_failed : (made' old' : List Entry) → OnlyOf p made made' → IsRunAmid test failed made' old' calls new result → Worked test p made done failed calls new result

operation_amid : (test : Entry → Bool) (p : ℕ) (step : Step) (done failed : Course) (made old calls new : List Entry) (result : Result ModelEnd Fault) → StartsOnly p step
    → IsRunAmid test (operation_course step done failed) made old calls new result → Worked test p made done failed calls new result
unfolding operation_course IsRunAmid
operation_amid test p step done failed made old calls new result only (inl cut) = stopped (only_same p made calls cut.0)
operation_amid test p step done failed made old calls new result only (inr more) = go (is_refusal more.2) more.3 where
  go : (refused : Bool) → IsRunAmid test (cond refused failed done) ((step, more.2) ∷ made) ((step, more.2) ∷ more.0) calls new result → Worked test p made done failed calls new result
  go true run = one_failed _ _ (only_more p step more.2 made only) run
  go false run = all_done _ _ (only_more p step more.2 made only) run

act_amid : (test : Entry → Bool) (p : ℕ) (t : Txn) (act : Act) (done failed : Course) (made old calls new : List Entry) (result : Result ModelEnd Fault)
    → IsRunAmid test (act_course t act done failed) made old calls new result → Worked test p made done failed calls new result
unfolding act_course initiated_by lists
act_amid test p t (Act'.Read x) done failed made old calls new result run = operation_amid test p (Read t x) done failed made old calls new result (λ u h. absurd (false≢true h)) run
act_amid test p t (Act'.Write x v) done failed made old calls new result run = operation_amid test p (Write t x v) done failed made old calls new result (λ u h. absurd (false≢true h)) run
act_amid test p t (Act'.Add x d) done failed made old calls new result run = operation_amid test p (Add t x d) done failed made old calls new result (λ u h. absurd (false≢true h)) run
act_amid test p t Act'.GiveUp done failed made old calls new result run = one_failed made old (only_same p made made refl) run

pub own_amid : (test : Entry → Bool) (p : ℕ) (t : Txn) (acts : List Act) (done : Course) (failed : Txn → Course) (made old calls new : List Entry) (result : Result ModelEnd Fault)
    → IsRunAmid test (acts_course (acts_of t acts) done failed) made old calls new result → Worked test p made done (failed t) calls new result
unfolding acts_course acts_of
own_amid test p t [] done failed made old calls new result run = all_done made old (only_same p made made refl) run
own_amid test p t (act ∷ acts) done failed made old calls new result run =
    go (act_amid test p t act (acts_course (acts_of t acts) done failed) (failed t) made old calls new result run) (λ made' old' r. own_amid test p t acts done failed made' old' calls new result r) where
      go : Worked test p made (acts_course (acts_of t acts) done failed) (failed t) calls new result
          → ((made' old' : List Entry) → IsRunAmid test (acts_course (acts_of t acts) done failed) made' old' calls new result → Worked test p made' done (failed t) calls new result) → Worked test p made done (failed t) calls new result
      go (stopped only) deeper = stopped only
      go (one_failed made' old' only run) deeper = one_failed made' old' only run
      go (all_done made' old' only run) deeper = further (deeper made' old' run) where
        further : Worked test p made' done (failed t) calls new result → Worked test p made done (failed t) calls new result
        further (stopped more) = stopped (only_on p made made' calls only more)
        further (all_done made'' old'' more run) = all_done made'' old'' (only_on p made made' made'' only more) run
        further (one_failed made'' old'' more run) = one_failed made'' old'' (only_on p made made' made'' only more) run

-- what a commit and an abort that are not refused are answered
pub commit_replies : (t : Txn) (s : Status) (ready : Bool) (reply : Reply) → commit_told t s ready ≡ Answer reply → (reply ≡ Reply'.Committed) ⊎ ((reply ≡ Reply'.Aborted) ⊎ (is_refusal reply ≡ true))
unfolding commit_told outcome_unless first_refusal is_unknown commit_outcome is_refusal
commit_replies t Status'.Unknown ready reply h = inr (inr (rw (same _ _ h) refl)) where
  same : (a b : Reply) → Answer a ≡ Answer b → b ≡ a
  same a b e = cc
commit_replies t Status'.Initiated true reply h = inl cc
commit_replies t Status'.Initiated false reply h = cc
commit_replies t Status'.Running true reply h = inl cc
commit_replies t Status'.Running false reply h = cc
commit_replies t Status'.Completed true reply h = inl cc
commit_replies t Status'.Completed false reply h = cc
commit_replies t Status'.Committed ready reply h = inl cc
commit_replies t Status'.Aborted ready reply h = inr (inl cc)

pub abort_replies : (t : Txn) (s : Status) (reply : Reply) → abort_told t s ≡ Answer reply → (reply ≡ Reply'.Aborted) ⊎ (is_refusal reply ≡ true)
unfolding abort_told outcome_unless first_refusal is_unknown is_committed is_refusal
abort_replies t Status'.Unknown reply h = inr (rw (same _ _ h) refl) where
  same : (a b : Reply) → Answer a ≡ Answer b → b ≡ a
  same a b e = cc
abort_replies t Status'.Initiated reply h = inl cc
abort_replies t Status'.Running reply h = inl cc
abort_replies t Status'.Completed reply h = inl cc
abort_replies t Status'.Committed reply h = inr (rw (same _ _ h) refl) where
  same : (a b : Reply) → Answer a ≡ Answer b → b ≡ a
  same a b e = cc
abort_replies t Status'.Aborted reply h = inl cc

pub legal_at : (opening : Opening) (entry : Entry) (older new : List Entry) → IsLegal opening new → Grows (entry ∷ older) new → answer opening (applied older) entry.0 ≡ Answer entry.1
unfolding IsLegal
legal_at opening entry older new legal grows = (legal_rest opening grows.0 (entry ∷ older) (rw grows.1 at legal)).0

pub fell_by_commit : (opening : Opening) (t : Txn) (older new : List Entry) → IsLegal opening new → Grows ((Commit t, Reply'.Aborted) ∷ older) new → end_of (applied new) t.0 ≡ Some End'.Aborted
fell_by_commit opening t older new legal grows = rw grows.1 (commit_aborted_end opening grows.0 older t (rw grows.1 at legal))

pub fell_by_abort : (opening : Opening) (t : Txn) (older new : List Entry) → IsLegal opening new → Grows ((Abort t, Reply'.Aborted) ∷ older) new → end_of (applied new) t.0 ≡ Some End'.Aborted
fell_by_abort opening t older new legal grows = rw grows.1 (abort_aborted_end opening grows.0 older t (rw grows.1 at legal))

-- How a part goes on: it stops there; or it committed; or it aborted.
pub data Settles (test : Entry → Bool) (p : ℕ) (made : List Entry) (committed : Course) (aborted : Step → Course) (calls new : List Entry) (result : Result ModelEnd Fault) : Type 0 where
  unsettled : OnlyOf p made calls → Settles test p made committed aborted calls new result
  commits : (made' old' : List Entry) → OnlyOf p made made' → IsRunAmid test committed made' old' calls new result → Settles test p made committed aborted calls new result
  falls : (step : Step) (made' old' : List Entry) → OnlyOf p made made' → end_of (applied new) p ≡ Some End'.Aborted → IsRunAmid test (aborted step) made' old' calls new result → Settles test p made committed aborted calls new result

commit_amid : (opening : Opening) (test : Entry → Bool) (t : Txn) (committed : Course) (aborted : Step → Course) (made old calls new : List Entry) (result : Result ModelEnd Fault) → IsLegal opening new
    → IsRunAmid test (commit_course t committed (aborted (Commit t))) made old calls new result → Settles test t.0 made committed aborted calls new result
unfolding commit_course IsRunAmid by_commit initiated_by lists is_refusal
commit_amid opening test t committed aborted made old calls new result legal (inl cut) = unsettled (only_same t.0 made calls cut.0)
commit_amid opening test t committed aborted made old calls new result legal (inr more) = go more.2 more.3 where
  only : (reply : Reply) → OnlyOf t.0 made ((Commit t, reply) ∷ made)
  only reply = only_more t.0 (Commit t) reply made (λ u h. absurd (false≢true h))

  replies : (reply : Reply) → Grows ((Commit t, reply) ∷ more.0) new → (reply ≡ Reply'.Committed) ⊎ ((reply ≡ Reply'.Aborted) ⊎ (is_refusal reply ≡ true))
  replies reply grows = commit_replies t (status (applied more.0) t.0) (may_commit (applied more.0) t.0) reply (commit_answer opening (applied more.0) t reply (legal_at opening (Commit t, reply) more.0 new legal grows))

  go : (reply : Reply) → IsRunAmid test (by_commit t reply committed (aborted (Commit t))) ((Commit t, reply) ∷ made) ((Commit t, reply) ∷ more.0) calls new result → Settles test t.0 made committed aborted calls new result
  go Reply'.Committed run = commits _ _ (only Reply'.Committed) run
  go Reply'.Aborted run = falls (Commit t) _ _ (only Reply'.Aborted) (fell_by_commit opening t more.0 new legal (run_grows test _ _ _ calls new result run)) run
  go (Reply'.Refused refusal) run = unsettled (only_on t.0 made _ calls (only (Reply'.Refused refusal)) (only_same t.0 _ calls (ends_amid test (ModelEnd'.Refused (Commit t)) _ _ calls new result run)))
  go Reply'.Done run = elim (replies Reply'.Done (run_grows test _ _ _ calls new result run)) [ inl is ↦ cc | inr other ↦ elim other [ inl is ↦ cc | inr refused ↦ absurd (false≢true refused) ] ]
  go (Reply'.Value v) run = elim (replies (Reply'.Value v) (run_grows test _ _ _ calls new result run)) [ inl is ↦ cc | inr other ↦ elim other [ inl is ↦ cc | inr refused ↦ absurd (false≢true refused) ] ]

-- an abort after a failed act
abort_amid : (opening : Opening) (test : Entry → Bool) (t : Txn) (committed : Course) (aborted : Step → Course) (made old calls new : List Entry) (result : Result ModelEnd Fault) → IsLegal opening new
    → IsRunAmid test (must_course (Abort t) (aborted (Abort t))) made old calls new result → Settles test t.0 made committed aborted calls new result
unfolding must_course IsRunAmid initiated_by lists is_refusal
abort_amid opening test t committed aborted made old calls new result legal (inl cut) = unsettled (only_same t.0 made calls cut.0)
abort_amid opening test t committed aborted made old calls new result legal (inr more) = go (is_refusal more.2) refl more.3 where
  only : OnlyOf t.0 made ((Abort t, more.2) ∷ made)
  only = only_more t.0 (Abort t) more.2 made (λ u h. absurd (false≢true h))

  fell : is_refusal more.2 ≡ false → Grows ((Abort t, more.2) ∷ more.0) new → end_of (applied new) t.0 ≡ Some End'.Aborted
  fell accepted grows =
      elim (abort_replies t (status (applied more.0) t.0) more.2 (abort_answer opening (applied more.0) t more.2 (legal_at opening (Abort t, more.2) more.0 new legal grows))) [
        | inl is ↦ fell_by_abort opening t more.0 new legal (subst (λ (reply : Reply). Grows ((Abort t, reply) ∷ more.0) new) is grows)
        | inr refused ↦ absurd (false≢true (sym accepted ∙ refused))
      ]

  go : (refused : Bool) → is_refusal more.2 ≡ refused → IsRunAmid test (cond refused (ends (ModelEnd'.Refused (Abort t))) (aborted (Abort t))) ((Abort t, more.2) ∷ made) ((Abort t, more.2) ∷ more.0) calls new result
      → Settles test t.0 made committed aborted calls new result
  go true e run = unsettled (only_on t.0 made _ calls only (only_same t.0 _ calls (ends_amid test (ModelEnd'.Refused (Abort t)) _ _ calls new result run)))
  go false e run = falls (Abort t) _ _ only (fell e (run_grows test _ _ _ calls new result run)) run

-- later settling, over what was made before
settles_on : (test : Entry → Bool) (p : ℕ) (made made' : List Entry) (committed : Course) (aborted : Step → Course) (calls new : List Entry) (result : Result ModelEnd Fault) → OnlyOf p made made'
    → Settles test p made' committed aborted calls new result → Settles test p made committed aborted calls new result
settles_on test p made made' committed aborted calls new result only (unsettled more) = unsettled (only_on p made made' calls only more)
settles_on test p made made' committed aborted calls new result only (commits made'' old'' more run) = commits made'' old'' (only_on p made made' made'' only more) run
settles_on test p made made' committed aborted calls new result only (falls step made'' old'' more fell run) = falls step made'' old'' (only_on p made made' made'' only more) fell run

starts_only : (t : Txn) → StartOnly t.0 (starts t)
unfolding starts initiated_by lists
starts_only t = one_more _ _ (λ u h. one (eqb t.0 u) refl h) (one_more _ _ (λ u h. absurd (false≢true h)) none_more) where
  one : {u : ℕ} (b : Bool) → eqb t.0 u ≡ b → (b || false) ≡ true → u ≡ t.0
  one true e h = sym (eqb-true t.0 _ e)
  one false e h = absurd (false≢true h)

pub part_amid : (opening : Opening) (test : Entry → Bool) (p : Part) (committed : Course) (aborted : Step → Course) (made old calls new : List Entry) (result : Result ModelEnd Fault) → IsLegal opening new
    → IsRunAmid test (part_course p committed aborted) made old calls new result → Settles test p.name.0 made committed aborted calls new result
unfolding part_course initiated_by lists
part_amid opening test p committed aborted made old calls new result legal run =
    start (musts_amid test p.name.0 (starts p.name) work made old calls new result (starts_only p.name) run) where
      finish : Course
      finish = must_course (Complete p.name) (commit_course p.name committed (aborted (Commit p.name)))

      fail : Txn → Course
      fail = λ t. must_course (Abort t) (aborted (Abort t))

      work : Course
      work = acts_course (acts_of p.name p.acts.items) finish fail

      ending : (made' : List Entry) → OnlyOf p.name.0 made made' → Onward test p.name.0 made' (commit_course p.name committed (aborted (Commit p.name))) calls new result → Settles test p.name.0 made committed aborted calls new result
      ending made' only (halted more) = unsettled (only_on p.name.0 made made' calls only more)
      ending made' only (onward made'' old'' more run) =
          settles_on test p.name.0 made made'' committed aborted calls new result (only_on p.name.0 made made' made'' only more) (commit_amid opening test p.name committed aborted made'' old'' calls new result legal run)

      worked : (made' : List Entry) → OnlyOf p.name.0 made made' → Worked test p.name.0 made' finish (fail p.name) calls new result → Settles test p.name.0 made committed aborted calls new result
      worked made' only (stopped more) = unsettled (only_on p.name.0 made made' calls only more)
      worked made' only (one_failed made'' old'' more run) =
          settles_on test p.name.0 made made'' committed aborted calls new result (only_on p.name.0 made made' made'' only more) (abort_amid opening test p.name committed aborted made'' old'' calls new result legal run)
      worked made' only (all_done made'' old'' more run) =
          ending made'' (only_on p.name.0 made made' made'' only more) (must_amid test p.name.0 (Complete p.name) (commit_course p.name committed (aborted (Commit p.name))) made'' old'' calls new result (λ u h. absurd (false≢true h)) run)

      start : Onward test p.name.0 made work calls new result → Settles test p.name.0 made committed aborted calls new result
      start (halted only) = unsettled only
      start (onward made' old' only run) = worked made' only (own_amid test p.name.0 p.name p.acts.items finish fail made' old' calls new result run)
