-- What a model asks, step by step, and which calls are its runs.
use Rattle.std.specs.Prelude.{◌≡◌, ◌⊎◌, Bool, true, false, cond, ℤ, pos, List, [], ◌∷◌, map, flat_map, Result, Ok, Err, None, Some}
use Rattle.asset_names.specs.declared.names.Txn.{Txn}
use Rattle.asset_names.specs.declared.steps.Step.{Step}
use Rattle.asset_names.specs.declared.steps.Step.TheVariants.{Initiate, Begin, Complete, Permit, Delegate, Depend, Commit, Abort}
use Rattle.asset_names.specs.declared.steps.Step.TheVariants as Step'
use Rattle.asset_names.specs.declared.steps.Kind.TheVariants.{Gc}
use Rattle.asset_names.specs.declared.sets.ObSet.{ObSet}
use Rattle.asset_names.specs.declared.sets.ObSet.TheVariants.{All}
use Rattle.asset_names.specs.OpSets.{OpSet, op_set}
use Rattle.asset_names.specs.declared.replies.Reply.{Reply}
use Rattle.asset_names.specs.declared.replies.Reply.TheVariants as Reply'
use Rattle.asset_names.specs.declared.replies.Fault.{Fault}
use Rattle.asset_names.specs.Steps.{Entry}
use Rattle.asset_models.specs.declared.parts.Act.{Act}
use Rattle.asset_models.specs.declared.parts.Act.TheVariants.{Read, Write, Add, GiveUp}
use Rattle.asset_models.specs.declared.parts.Part.{Part}
use Rattle.asset_models.specs.declared.parts.ModelEnd.{ModelEnd}
use Rattle.asset_models.specs.declared.parts.ModelEnd.TheVariants as End'

-- the course of a model: it ends, or it asks a step and goes on by the reply
pub data Course : Type 0 where
  ends : ModelEnd → Course
  asks : Step → (Reply → Course) → Course

-- how a run ends at a step that is not answered: stopped by the step, which still waited after the last try, or with a fault
unfoldable pub IsCut : Step → Result ModelEnd Fault → Type 0
IsCut step (Ok end) = end ≡ End'.Stopped step
IsCut step (Err fault) = Unit {0}

-- A run of the course leads from the old calls to the new ones, newest first, and has this result. A course that ends calls
-- nothing more. A step that a course asks is not answered, and the run ends there; or it is recorded with some reply, and the
-- run goes on by that.
unfoldable pub IsRun : Course → List Entry → List Entry → Result ModelEnd Fault → Type 0
IsRun (ends end) old new result = (new ≡ old) × (result ≡ Ok end)
IsRun (asks step next) old new result = ((new ≡ old) × IsCut step result) ⊎ ((reply : Reply) × IsRun (next reply) ((step, reply) ∷ old) new result)

-- whether a reply is a refusal
unfoldable pub is_refusal : Reply → Bool
is_refusal (Reply'.Refused refusal) = true
is_refusal reply = false

-- a step that is no act, and what comes after it: a refusal ends the model
unfoldable pub must_course : Step → Course → Course
must_course step next = asks step (λ reply. cond (is_refusal reply) (ends (End'.Refused step)) next)

-- steps that are no acts, in order, and what comes after them
unfoldable pub must_each_course : List Step → Course → Course
must_each_course [] next = next
must_each_course (step ∷ steps) next = must_course step (must_each_course steps next)

-- the steps by which a transaction without a parent starts
unfoldable pub starts : Txn → List Step
starts t = Initiate t None ∷ Begin t ∷ []

-- the course after the reply to a commit: a refusal ends the model, and any other reply but `Committed` is taken for an abort
unfoldable pub by_commit : Txn → Reply → Course → Course → Course
by_commit t Reply'.Committed committed aborted = committed
by_commit t (Reply'.Refused refusal) committed aborted = ends (End'.Refused (Commit t))
by_commit t reply committed aborted = aborted

-- a commit, and what comes after it by its reply
unfoldable pub commit_course : Txn → Course → Course → Course
commit_course t committed aborted = asks (Commit t) (λ reply. by_commit t reply committed aborted)

-- an operation as an act, and what comes after it if it is done and if it is refused
unfoldable pub operation_course : Step → Course → Course → Course
operation_course step done failed = asks step (λ reply. cond (is_refusal reply) failed done)

-- the value that an act writes or the amount that it adds, and 0 of another act
unfoldable pub act_value : Act → ℤ
act_value (Write x v) = v
act_value (Add x d) = d
act_value act = pos 0

-- an act of t, and what comes after it if it is done and if it fails
unfoldable pub act_course : Txn → Act → Course → Course → Course
act_course t (Read x) done failed = operation_course (Step'.Read t x) done failed
act_course t (Write x v) done failed = operation_course (Step'.Write t x v) done failed
act_course t (Add x d) done failed = operation_course (Step'.Add t x d) done failed
act_course t GiveUp done failed = failed

-- acts in order up to the first that fails, and what comes after them. What comes after an act that fails is told whose it was.
unfoldable pub acts_course : List (Txn × Act) → Course → (Txn → Course) → Course
acts_course [] done failed = done
acts_course (act ∷ acts) done failed = act_course act.0 act.1 (acts_course acts done failed) (failed act.0)

-- the acts of t
unfoldable pub acts_of : Txn → List Act → List (Txn × Act)
acts_of t acts = map (λ (act : Act). (t, act)) acts

-- one transaction with its acts. What comes after its abort is told the step by which it aborted.
unfoldable pub part_course : Part → Course → (Step → Course) → Course
part_course p committed aborted =
    must_each_course (starts p.name)
    (acts_course (acts_of p.name p.acts.items)
    (must_course (Complete p.name) (commit_course p.name committed (aborted (Commit p.name))))
    (λ t. must_course (Abort t) (aborted (Abort t))))

-- the course of `atomic`
unfoldable pub atomic_course : Part → Course
atomic_course p = part_course p (ends End'.Committed) (λ step. ends End'.Aborted)

-- the course of `contingent`: the parts in turn, until one commits
unfoldable pub contingent_course : List Part → Course
contingent_course [] = ends End'.Aborted
contingent_course (p ∷ parts) = part_course p (ends End'.Committed) (λ step. contingent_course parts)

-- all operations
unfoldable pub all_operations : OpSet
all_operations = op_set true true true

-- a child of t, and what comes after it, whether it commits or aborts
unfoldable pub child_course : Txn → Part → Course → Course
child_course t child next =
    must_each_course (Initiate child.name (Some t) ∷ Permit t child.name All all_operations ∷ Begin child.name ∷ [])
    (acts_course (acts_of child.name child.acts.items)
    (must_each_course (Complete child.name ∷ Delegate child.name t All ∷ []) (commit_course child.name next next))
    (λ u. must_course (Abort u) next))

-- the children of t in turn, and what comes after them
unfoldable pub children_course : Txn → List Part → Course → Course
children_course t [] next = next
children_course t (child ∷ children) next = child_course t child (children_course t children next)

-- what comes after an act that fails: its transaction is aborted, and the model ends as aborted
unfoldable pub give_up : Txn → Course
give_up t = must_course (Abort t) (ends End'.Aborted)

-- the commit by which a model ends
unfoldable pub last_commit : Txn → Course
last_commit t = commit_course t (ends End'.Committed) (ends End'.Aborted)

-- the course of `nested`
unfoldable pub nested_course : Part → List Part → Course
nested_course p children =
    must_each_course (starts p.name)
    (acts_course (acts_of p.name p.acts.items)
    (children_course p.name children (must_course (Complete p.name) (last_commit p.name)))
    give_up)

-- the course of `split`
unfoldable pub split_course : Txn → Txn → ObSet → Course
split_course t u obs = must_each_course (Initiate u None ∷ Begin u ∷ Delegate t u obs ∷ Complete u ∷ []) (last_commit u)

-- the course of `join`
unfoldable pub join_course : Txn → Txn → Course
join_course t u = must_each_course (Delegate t u All ∷ Complete t ∷ []) (last_commit t)

-- the course of `distributed`: group commits join the parts to the first one, whose commit then commits all
unfoldable pub distributed_course : List Part → Course
distributed_course [] = ends End'.Committed
distributed_course (p ∷ parts) =
    must_each_course (flat_map (λ (q : Part). starts q.name) (p ∷ parts))
    (must_each_course (map (λ (q : Part). Depend Gc p.name q.name) parts)
    (acts_course (flat_map (λ (q : Part). acts_of q.name q.acts.items) (p ∷ parts))
    (must_each_course (map (λ (q : Part). Complete q.name) (p ∷ parts)) (last_commit p.name))
    give_up))

-- the acts of two transactions in turn, and when one has no more the rest of the other's
unfoldable pub turns : Txn → Txn → List Act → List Act → List (Txn × Act)
turns t u [] others = acts_of u others
turns t u (act ∷ acts) [] = acts_of t (act ∷ acts)
turns t u (act ∷ acts) (other ∷ others) = (t, act) ∷ (u, other) ∷ turns t u acts others

-- the steps by which two transactions let each other read, write and add to the objects, and come to commit together
unfoldable pub joins : Txn → Txn → ObSet → List Step
joins t u obs = Permit t u obs all_operations ∷ Permit u t obs all_operations ∷ Depend Gc t u ∷ []

-- the course of `cooperating`
unfoldable pub cooperating_course : Part → Part → ObSet → Course
cooperating_course p q obs =
    must_each_course (Initiate p.name None ∷ Begin p.name ∷ Initiate q.name None ∷ Begin q.name ∷ [])
    (must_each_course (joins p.name q.name obs)
    (acts_course (turns p.name q.name p.acts.items q.acts.items)
    (must_each_course (Complete p.name ∷ Complete q.name ∷ []) (last_commit p.name))
    give_up))

-- the second part of a pair, by which a saga undoes the first one, and what comes after it. An abort of it stops the saga.
unfoldable pub undo_course : Part → Course → Course
undo_course p next = part_course p next (λ step. ends (End'.Stopped step))

-- the first parts of pairs in turn. What comes after an abort undoes the pairs before, the latest first.
unfoldable pub saga_from : List (Part × Part) → Course → Course
saga_from [] undo = ends End'.Committed
saga_from (pair ∷ pairs) undo = part_course pair.0 (saga_from pairs (undo_course pair.1 undo)) (λ step. undo)

-- the course of `saga`
unfoldable pub saga_course : List (Part × Part) → Course
saga_course pairs = saga_from pairs (ends End'.Undone)
