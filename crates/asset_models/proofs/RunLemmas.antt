-- Runs of courses, step by step.
use Rattle.std.proofs.Common.{◌≡◌, List, [], ◌∷◌, Bool, true, false, cond, refl, subst, inl, inr, Ok, length, arith}
use Rattle.std.specs.Prelude.{Result}
use Rattle.asset_names.specs.declared.names.Txn.{Txn}
use Rattle.asset_names.specs.declared.steps.Step.{Step}
use Rattle.asset_names.specs.declared.steps.Step.TheVariants.{Commit}
use Rattle.asset_names.specs.declared.replies.Reply.{Reply}
use Rattle.asset_names.specs.declared.replies.Fault.{Fault}
use Rattle.asset_names.specs.Steps.{Entry}
use Rattle.asset_models.specs.declared.parts.Act.{Act}
use Rattle.asset_models.specs.declared.parts.ModelEnd.{ModelEnd}
use Rattle.asset_models.specs.declared.parts.ModelEnd.TheVariants as End'
use Rattle.asset_models.specs.declared.parts.Part.{Part}
use Rattle.asset_models.specs.declared.single.Settled.{Settled}
use Rattle.asset_models.specs.declared.single.Settled.TheVariants as Settled'
use Rattle.asset_models.specs.Courses.{child_course, children_course, part_course, contingent_course, Course, IsCut, IsRun, is_refusal, must_course, must_each_course, by_commit, commit_course, operation_course, act_course, acts_course, acts_of}
use Rattle.asset_models.specs.Follows.{settled_course, Follows}
use Rattle.asset_models.specs.Courses.Course.{ends, asks}

-- a course goes on by the reply that was recorded
pub replied : (step : Step) (next : Reply → Course) (old new : List Entry) (reply : Reply) → new ≡ (step, reply) ∷ old → Follows (asks step next) old (next reply) new
unfolding IsRun
replied step next old new reply grown = record { goes = λ last result run. inr (reply, subst (λ (calls : List Entry). IsRun (next reply) calls last result) grown run) }

-- a run ends where its step is not answered
pub cut_short : (step : Step) (next : Reply → Course) (old new : List Entry) (result : Result ModelEnd Fault) → new ≡ old → IsCut step result → IsRun (asks step next) old new result
unfolding IsRun
cut_short step next old new result same cut = inl (same, cut)

-- nothing is called
pub stays : (course : Course) (calls : List Entry) → Follows course calls course calls
stays course calls = record { goes = λ last result run. run }

-- one after the other
pub then : {course : Course} {old : List Entry} {middle : Course} {between : List Entry} {rest : Course} {new : List Entry} → Follows course old middle between → Follows middle between rest new → Follows course old rest new
then first second = record { goes = λ last result run. first.goes last result (second.goes last result run) }

pub then_run : {course : Course} {old : List Entry} {middle : Course} {between : List Entry} → Follows course old middle between → (new : List Entry) (result : Result ModelEnd Fault) → IsRun middle between new result → IsRun course old new result
then_run first new result run = first.goes new result run

-- a course that ends
pub ended : (end : ModelEnd) (calls : List Entry) → IsRun (ends end) calls calls (Ok end)
unfolding IsRun
ended end calls = (refl, refl)

-- a step that is no act
pub must_follows : (step : Step) (old new : List Entry) (reply : Reply) → new ≡ (step, reply) ∷ old → is_refusal reply ≡ false → (next : Course) → Follows (must_course step next) old next new
unfolding must_course
must_follows step old new reply grown accepted next =
    let go : Follows (must_course step next) old (cond (is_refusal reply) (ends (End'.Refused step)) next) new = replied step (λ r. cond (is_refusal r) (ends (End'.Refused step)) next) old new reply grown in
    rw accepted at go

pub must_refused : (step : Step) (old new : List Entry) (reply : Reply) → new ≡ (step, reply) ∷ old → is_refusal reply ≡ true → (next : Course) → IsRun (must_course step next) old new (Ok (End'.Refused step))
unfolding must_course
must_refused step old new reply grown refused next =
    let go : Follows (must_course step next) old (cond (is_refusal reply) (ends (End'.Refused step)) next) new = replied step (λ r. cond (is_refusal r) (ends (End'.Refused step)) next) old new reply grown in
    (rw refused at go).goes new (Ok (End'.Refused step)) (ended (End'.Refused step) new)

-- one of several
pub each_step : (step : Step) (steps more : List Step) → steps ≡ step ∷ more → (next : Course) (old new : List Entry)
    → ((next' : Course) → Follows (must_course step next') old next' new) → Follows (must_each_course steps next) old (must_each_course more next) new
unfolding must_each_course
each_step step steps more split next old new step_goes = rw split (step_goes (must_each_course more next))

pub each_cut : (step : Step) (steps more : List Step) → steps ≡ step ∷ more → (next : Course) (old new : List Entry) (result : Result ModelEnd Fault)
    → ((next' : Course) → IsRun (must_course step next') old new result) → IsRun (must_each_course steps next) old new result
unfolding must_each_course
each_cut step steps more split next old new result step_goes = rw split (step_goes (must_each_course more next))

pub no_step_left : (steps : List Step) → length steps ≡ 0 → (next : Course) (calls : List Entry) → Follows (must_each_course steps next) calls next calls
unfolding must_each_course
no_step_left [] none next calls = stays next calls
no_step_left (step ∷ steps) none next calls = absurd (omega arith)

-- a commit
pub commit_follows : (t : Txn) (old new : List Entry) (reply : Reply) → new ≡ (Commit t, reply) ∷ old → (committed aborted : Course) → Follows (commit_course t committed aborted) old (by_commit t reply committed aborted) new
unfolding commit_course
commit_follows t old new reply grown committed aborted = replied (Commit t) (λ r. by_commit t r committed aborted) old new reply grown

-- an act
pub operation_follows : (step : Step) (old new : List Entry) (reply : Reply) → new ≡ (step, reply) ∷ old → (next failed : Course) → Follows (operation_course step next failed) old (cond (is_refusal reply) failed next) new
unfolding operation_course
operation_follows step old new reply grown next failed = replied step (λ r. cond (is_refusal r) failed next) old new reply grown

-- acts of one transaction: one is done, or fails, or its step is not answered, and none is left
pub acts_done : (t : Txn) (act : Act) (acts more : List Act) → acts ≡ act ∷ more → (done : Bool) → done ≡ true → (next : Course) (failed : Txn → Course) (old new : List Entry)
    → ((next' failed' : Course) → Follows (act_course t act next' failed') old (cond done next' failed') new)
    → Follows (acts_course (acts_of t acts) next failed) old (acts_course (acts_of t more) next failed) new
unfolding acts_course acts_of
acts_done t act acts more split done is next failed old new act_goes = rw split (rw is at (act_goes (acts_course (acts_of t more) next failed) (failed t)))

pub acts_failed : (t : Txn) (act : Act) (acts more : List Act) → acts ≡ act ∷ more → (done : Bool) → done ≡ false → (next : Course) (failed : Txn → Course) (old new : List Entry)
    → ((next' failed' : Course) → Follows (act_course t act next' failed') old (cond done next' failed') new)
    → Follows (acts_course (acts_of t acts) next failed) old (failed t) new
unfolding acts_course acts_of
acts_failed t act acts more split done is next failed old new act_goes = rw split (rw is at (act_goes (acts_course (acts_of t more) next failed) (failed t)))

pub acts_cut : (t : Txn) (act : Act) (acts more : List Act) → acts ≡ act ∷ more → (next : Course) (failed : Txn → Course) (old new : List Entry) (result : Result ModelEnd Fault)
    → ((next' failed' : Course) → IsRun (act_course t act next' failed') old new result)
    → IsRun (acts_course (acts_of t acts) next failed) old new result
unfolding acts_course acts_of
acts_cut t act acts more split next failed old new result act_goes = rw split (act_goes (acts_course (acts_of t more) next failed) (failed t))

pub no_act_left : (t : Txn) (acts : List Act) → length acts ≡ 0 → (next : Course) (failed : Txn → Course) (calls : List Entry) → Follows (acts_course (acts_of t acts) next failed) calls next calls
unfolding acts_course acts_of
no_act_left t [] none next failed calls = stays next calls
no_act_left t (act ∷ acts) none next failed calls = absurd (omega arith)

-- what is done or not, once it is known which
pub worked : {course rest : Course} {old new : List Entry} (other : Course) (done : Bool) → done ≡ true → Follows course old (cond done rest other) new → Follows course old rest new
worked other done is goes = rw is at goes

pub not_worked : {course other : Course} {old new : List Entry} (rest : Course) (done : Bool) → done ≡ false → Follows course old (cond done rest other) new → Follows course old other new
not_worked rest done is goes = rw is at goes

-- the parts of `contingent`
pub last_part : (p : Part) (parts more : List Part) → parts ≡ p ∷ more → (settled : Settled) → settled ≡ Settled'.Committed → (old new : List Entry)
    → ((committed : Course) (aborted : Step → Course) → Follows (part_course p committed aborted) old (settled_course settled committed aborted) new)
    → IsRun (contingent_course parts) old new (Ok End'.Committed)
unfolding contingent_course settled_course
last_part p parts more split settled is old new goes = rw split ((rw is at (goes (ends End'.Committed) (λ step. contingent_course more))).goes _ _ (ended End'.Committed new))

pub next_part : (p : Part) (parts more : List Part) → parts ≡ p ∷ more → (settled : Settled) (step : Step) → settled ≡ Settled'.Aborted step → (old new : List Entry)
    → ((committed : Course) (aborted : Step → Course) → Follows (part_course p committed aborted) old (settled_course settled committed aborted) new)
    → Follows (contingent_course parts) old (contingent_course more) new
unfolding contingent_course settled_course
next_part p parts more split settled step is old new goes = rw split (rw is at (goes (ends End'.Committed) (λ step. contingent_course more)))

pub cut_part : (p : Part) (parts more : List Part) → parts ≡ p ∷ more → (old new : List Entry) (result : Result ModelEnd Fault)
    → ((committed : Course) (aborted : Step → Course) → IsRun (part_course p committed aborted) old new result)
    → IsRun (contingent_course parts) old new result
unfolding contingent_course
cut_part p parts more split old new result goes = rw split (goes (ends End'.Committed) (λ step. contingent_course more))

pub no_part : (parts : List Part) → length parts ≡ 0 → (calls : List Entry) → IsRun (contingent_course parts) calls calls (Ok End'.Aborted)
unfolding contingent_course
no_part [] none calls = ended End'.Aborted calls
no_part (p ∷ parts) none calls = absurd (omega arith)

-- the children of a transaction
pub each_child : (t : Txn) (child : Part) (children more : List Part) → children ≡ child ∷ more → (next : Course) (old new : List Entry)
    → ((next' : Course) → Follows (child_course t child next') old next' new) → Follows (children_course t children next) old (children_course t more next) new
unfolding children_course
each_child t child children more split next old new goes = rw split (goes (children_course t more next))

pub child_cut : (t : Txn) (child : Part) (children more : List Part) → children ≡ child ∷ more → (next : Course) (old new : List Entry) (result : Result ModelEnd Fault)
    → ((next' : Course) → IsRun (child_course t child next') old new result) → IsRun (children_course t children next) old new result
unfolding children_course
child_cut t child children more split next old new result goes = rw split (goes (children_course t more next))

pub no_child_left : (t : Txn) (children : List Part) → length children ≡ 0 → (next : Course) (calls : List Entry) → Follows (children_course t children next) calls next calls
unfolding children_course
no_child_left t [] none next calls = stays next calls
no_child_left t (child ∷ children) none next calls = absurd (omega arith)

-- what goes on in one way, done or not
pub either_way : {course rest : Course} {old new : List Entry} (done : Bool) → Follows course old (cond done rest rest) new → Follows course old rest new
either_way true goes = goes
either_way false goes = goes
