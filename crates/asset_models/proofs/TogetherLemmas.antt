-- Courses of several parts.
use Rattle.std.proofs.Common.{◌≡◌, List, [], ◌∷◌, ◌++◌, Bool, true, false, cond, map, flat_map, length, refl, ap, None, Some, arith}
use Rattle.std.specs.Prelude.{Result, Ok, Option}
use Rattle.asset_names.specs.declared.names.Txn.{Txn}
use Rattle.asset_names.specs.declared.steps.Step.{Step}
use Rattle.asset_names.specs.declared.replies.Fault.{Fault}
use Rattle.asset_names.specs.Steps.{Entry}
use Rattle.asset_models.specs.declared.parts.Act.{Act}
use Rattle.asset_models.specs.declared.parts.Part.{Part}
use Rattle.asset_models.specs.declared.parts.ModelEnd.{ModelEnd}
use Rattle.asset_models.specs.declared.parts.ModelEnd.TheVariants as End'
use Rattle.asset_names.specs.declared.steps.Kind.TheVariants.{Gc}
use Rattle.asset_names.specs.declared.steps.Step.TheVariants.{Complete, Depend}
use Rattle.asset_models.specs.Courses.{Course, IsRun, must_course, must_each_course, act_course, acts_course, acts_of, starts, distributed_course, last_commit, give_up}
use Rattle.asset_models.specs.Follows.{Follows, after_acts}
use Rattle.asset_models.proofs.RunLemmas.{stays, ended}

pub must_each_append : (xs ys : List Step) (next : Course) → must_each_course (xs ++ ys) next ≡ must_each_course xs (must_each_course ys next)
unfolding must_each_course
must_each_append [] ys next = refl
must_each_append (x ∷ xs) ys next = ap (λ (course : Course). must_course x course) (must_each_append xs ys next)

pub acts_append : (xs ys : List (Txn × Act)) (next : Course) (failed : Txn → Course) → acts_course (xs ++ ys) next failed ≡ acts_course xs (acts_course ys next failed) failed
unfolding acts_course
acts_append [] ys next failed = refl
acts_append (x ∷ xs) ys next failed = ap (λ (course : Course). act_course x.0 x.1 course (failed x.0)) (acts_append xs ys next failed)

-- steps of each part
pub parts_step : (of : Part → List Step) (q : Part) (parts more : List Part) → parts ≡ q ∷ more → (next : Course) (old new : List Entry)
    → ((next' : Course) → Follows (must_each_course (of q) next') old next' new) → Follows (must_each_course (flat_map of parts) next) old (must_each_course (flat_map of more) next) new
parts_step of q parts more split next old new goes = rw (split, must_each_append (of q) (flat_map of more) next) (goes (must_each_course (flat_map of more) next))

pub parts_cut : (of : Part → List Step) (q : Part) (parts more : List Part) → parts ≡ q ∷ more → (next : Course) (old new : List Entry) (result : Result ModelEnd Fault)
    → ((next' : Course) → IsRun (must_each_course (of q) next') old new result) → IsRun (must_each_course (flat_map of parts) next) old new result
parts_cut of q parts more split next old new result goes = rw (split, must_each_append (of q) (flat_map of more) next) (goes (must_each_course (flat_map of more) next))

pub no_parts : (of : Part → List Step) (parts : List Part) → length parts ≡ 0 → (next : Course) (calls : List Entry) → Follows (must_each_course (flat_map of parts) next) calls next calls
unfolding must_each_course
no_parts of [] none next calls = stays next calls
no_parts of (q ∷ parts) none next calls = absurd (omega arith)

-- one step of each part
pub each_part : (of : Part → Step) (q : Part) (parts more : List Part) → parts ≡ q ∷ more → (next : Course) (old new : List Entry)
    → ((next' : Course) → Follows (must_course (of q) next') old next' new) → Follows (must_each_course (map of parts) next) old (must_each_course (map of more) next) new
unfolding must_each_course
each_part of q parts more split next old new goes = rw split (goes (must_each_course (map of more) next))

pub each_part_cut : (of : Part → Step) (q : Part) (parts more : List Part) → parts ≡ q ∷ more → (next : Course) (old new : List Entry) (result : Result ModelEnd Fault)
    → ((next' : Course) → IsRun (must_course (of q) next') old new result) → IsRun (must_each_course (map of parts) next) old new result
unfolding must_each_course
each_part_cut of q parts more split next old new result goes = rw split (goes (must_each_course (map of more) next))

pub no_part_left : (of : Part → Step) (parts : List Part) → length parts ≡ 0 → (next : Course) (calls : List Entry) → Follows (must_each_course (map of parts) next) calls next calls
unfolding must_each_course
no_part_left of [] none next calls = stays next calls
no_part_left of (q ∷ parts) none next calls = absurd (omega arith)

-- the acts of each part
abbrev pub part_acts : Part → List (Txn × Act)
part_acts q = acts_of q.name q.acts.items

pub part_done : (q : Part) (parts more : List Part) → parts ≡ q ∷ more → (done : Bool) → done ≡ true → (next : Course) (failed : Txn → Course) (old new : List Entry)
    → ((next' : Course) (failed' : Txn → Course) → Follows (acts_course (part_acts q) next' failed') old (cond done next' (failed' q.name)) new)
    → Follows (acts_course (flat_map part_acts parts) next failed) old (acts_course (flat_map part_acts more) next failed) new
part_done q parts more split done is next failed old new goes =
    rw (split, acts_append (part_acts q) (flat_map part_acts more) next failed) (rw is at (goes (acts_course (flat_map part_acts more) next failed) failed))

pub part_failed : (q : Part) (parts more : List Part) → parts ≡ q ∷ more → (done : Bool) → done ≡ false → (next : Course) (failed : Txn → Course) (old new : List Entry)
    → ((next' : Course) (failed' : Txn → Course) → Follows (acts_course (part_acts q) next' failed') old (cond done next' (failed' q.name)) new)
    → Follows (acts_course (flat_map part_acts parts) next failed) old (failed q.name) new
part_failed q parts more split done is next failed old new goes =
    rw (split, acts_append (part_acts q) (flat_map part_acts more) next failed) (rw is at (goes (acts_course (flat_map part_acts more) next failed) failed))

pub part_acts_cut : (q : Part) (parts more : List Part) → parts ≡ q ∷ more → (next : Course) (failed : Txn → Course) (old new : List Entry) (result : Result ModelEnd Fault)
    → ((next' : Course) (failed' : Txn → Course) → IsRun (acts_course (part_acts q) next' failed') old new result)
    → IsRun (acts_course (flat_map part_acts parts) next failed) old new result
part_acts_cut q parts more split next failed old new result goes =
    rw (split, acts_append (part_acts q) (flat_map part_acts more) next failed) (goes (acts_course (flat_map part_acts more) next failed) failed)

pub no_acts_left : (parts : List Part) → length parts ≡ 0 → (next : Course) (failed : Txn → Course) (calls : List Entry) → Follows (acts_course (flat_map part_acts parts) next failed) calls next calls
unfolding acts_course
no_acts_left [] none next failed calls = stays next calls
no_acts_left (q ∷ parts) none next failed calls = absurd (omega arith)

-- the course of `distributed` by its first part
pub distributed_at : (p : Part) (others parts : List Part) → parts ≡ p ∷ others → distributed_course parts ≡
    must_each_course (flat_map (λ (q : Part). starts q.name) parts)
    (must_each_course (map (λ (q : Part). Depend Gc p.name q.name) others)
    (acts_course (flat_map (λ (q : Part). acts_of q.name q.acts.items) parts)
    (must_each_course (map (λ (q : Part). Complete q.name) parts) (last_commit p.name))
    give_up))
unfolding distributed_course
distributed_at p others parts split = rw split refl

pub distributed_none : (parts : List Part) → length parts ≡ 0 → (calls : List Entry) → IsRun (distributed_course parts) calls calls (Ok End'.Committed)
unfolding distributed_course
distributed_none [] none calls = ended End'.Committed calls
distributed_none (p ∷ parts) none calls = absurd (omega arith)

-- what comes after acts, once it is known which failed
pub none_failed : {course next : Course} {old new : List Entry} (failed : Txn → Course) (failing : Option Txn) → failing ≡ None → Follows course old (after_acts failing next failed) new → Follows course old next new
unfolding after_acts
none_failed failed failing is goes = rw is at goes

pub some_failed : {course : Course} {old new : List Entry} (next : Course) (failed : Txn → Course) (failing : Option Txn) (u : Txn) → failing ≡ Some u → Follows course old (after_acts failing next failed) new → Follows course old (failed u) new
unfolding after_acts
some_failed next failed failing u is goes = rw is at goes
