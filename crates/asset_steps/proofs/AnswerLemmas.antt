-- What the tables are asked for an answer, put together.
use Rattle.std.proofs.Common.{◌≡◌, Bool, true, false, cond, not, List, [], ◌∷◌, ◌++◌, refl, sym, ap, ◌∙◌, Some, None}
use Rattle.std.specs.Prelude.{find}
use Rattle.std.specs.Option.{option_or}
use Rattle.std.proofs.lemmas.Bool.{not-false, false≢true}
use Rattle.asset_names.specs.declared.names.Txn.{Txn}
use Rattle.asset_names.specs.declared.names.Ob.{Ob}
use Rattle.asset_names.specs.declared.sets.ObSet.{ObSet}
use Rattle.asset_names.specs.declared.sets.ObSet.TheVariants.{All, Listed}
use Rattle.asset_names.specs.InSet.{only_in}
use Rattle.asset_names.specs.declared.operations.Op.TheVariants as Op'
use Rattle.asset_names.specs.declared.steps.Step.{Step}
use Rattle.asset_names.specs.declared.steps.Step.TheVariants.{Read, Write, Add}
use Rattle.asset_names.specs.Steps.{Opening}
use Rattle.asset_names.specs.declared.statuses.Status.{Status}
use Rattle.asset_names.specs.declared.statuses.Status.TheVariants as Status'
use Rattle.asset_names.specs.Endings.{status, is_live_status}
use Rattle.asset_names.specs.Operations.{exists, value, value_if_any}
use Rattle.asset_names.specs.Answers.{Rule, missing_in, unrefused, rules_for, first_refusal, unknown, ended, not_running, no_object, is_running, is_unknown, commit_outcome}
use Rattle.asset_names.proofs.LegalLemmas.{first_none}
use Rattle.asset_objects.specs.Cells.{cells, value_in, has_object}
use Rattle.asset_ends.specs.Standing.{Standing, values_of, is_free_for}
use Rattle.asset_ends.specs.Shows.{Shows}
use Rattle.asset_ends.proofs.ShowsLemmas.{free_shown, value_of_tables}
use Rattle.asset_ends.proofs.StandingLemmas.{object_exists}
use Rattle.asset_steps.specs.Ready.{value_or_zero, read_outcome}

-- a step that is not refused finds its object
no_refusal : (opening : Opening) (steps : List Step) (t : Txn) (x : Ob)
    → first_refusal (unknown steps t ∷ ended steps t ∷ not_running steps t ∷ no_object opening x ∷ []) ≡ None → (is_running (status steps t.0) ≡ true) × (exists opening x.0 ≡ true)
unfolding not_running no_object
no_refusal opening steps t x first =
    let one = first_none (unknown steps t) _ first in
    let two = first_none (ended steps t) _ one.1 in
    let three = first_none (not_running steps t) _ two.1 in
    (not-false _ three.0, not-false _ ((first_none (no_object opening x) [] three.1).0))

pub read_unrefused : (opening : Opening) (steps : List Step) (t : Txn) (x : Ob) → first_refusal (rules_for opening steps (Read t x)) ≡ None → (is_running (status steps t.0) ≡ true) × (exists opening x.0 ≡ true)
unfolding rules_for
read_unrefused opening steps t x first = no_refusal opening steps t x first

pub write_unrefused : (opening : Opening) (steps : List Step) (t : Txn) (x : Ob) (v : _) → first_refusal (rules_for opening steps (Write t x v)) ≡ None → (is_running (status steps t.0) ≡ true) × (exists opening x.0 ≡ true)
unfolding rules_for
write_unrefused opening steps t x v first = no_refusal opening steps t x first

pub add_unrefused : (opening : Opening) (steps : List Step) (t : Txn) (x : Ob) (d : _) → first_refusal (rules_for opening steps (Add t x d)) ≡ None → (is_running (status steps t.0) ≡ true) × (exists opening x.0 ≡ true)
unfolding rules_for
add_unrefused opening steps t x d first = no_refusal opening steps t x first

-- what a read is answered by the tables, it is by the history
pub read_answered : (opening : Opening) (steps : List Step) (tables : Standing) (t : Txn) (x : Ob) → Shows opening steps (values_of tables) → exists opening x.0 ≡ true → read_outcome tables t.0 x.0 ≡ unrefused opening steps (Read t x)
unfolding read_outcome is_free_for value_or_zero unrefused value_if_any
read_answered opening steps tables t x stand there =
    let shown : value_in (cells tables.objects) x.0 ≡ Some (value opening steps x.0) = value_of_tables opening steps _ _ _ _ _ x.0 stand ∙ rw there refl in
    rw (free_shown opening steps _ _ _ _ _ t.0 x.0 Op'.Read stand, shown) refl

-- the first of some objects that has no cell is the first that does not exist
pub missing_shown : (opening : Opening) (steps : List Step) (tables : Standing) (objects : List Ob) → Shows opening steps (values_of tables)
    → find (λ (x : Ob). not (has_object (cells tables.objects) x.0)) objects ≡ find (λ (x : Ob). not (exists opening x.0)) objects
missing_shown opening steps tables [] stand = refl
missing_shown opening steps tables (x ∷ objects) stand = rw (object_exists opening steps tables x.0 stand, missing_shown opening steps tables objects stand) refl

-- the first refusal of some rules, or else that of the others
pub first_append : (rules others : List Rule) → first_refusal (rules ++ others) ≡ option_or (first_refusal rules) (first_refusal others)
unfolding first_refusal
first_append [] others = refl
first_append (rule ∷ rules) others = go rule.0 (first_append rules others) where
  go : (applies : Bool) → first_refusal (rules ++ others) ≡ option_or (first_refusal rules) (first_refusal others)
      → cond applies (Some rule.1) (first_refusal (rules ++ others)) ≡ option_or (cond applies (Some rule.1) (first_refusal rules)) (first_refusal others)
  go true ih = refl
  go false ih = ih

-- of who has ended, it does not matter whether its class may commit
pub ended_outcome : (now : Status) (one other : Bool) → is_unknown now ≡ false → is_live_status now ≡ false → commit_outcome now one ≡ commit_outcome now other
unfolding is_unknown is_live_status commit_outcome
ended_outcome Status'.Committed one other known dead = refl
ended_outcome Status'.Aborted one other known dead = refl
ended_outcome Status'.Unknown one other known dead = absurd (false≢true (sym known))
ended_outcome Status'.Initiated one other known dead = absurd (false≢true (sym dead))
ended_outcome Status'.Running one other known dead = absurd (false≢true (sym dead))
ended_outcome Status'.Completed one other known dead = absurd (false≢true (sym dead))

-- of a set that lists one object, that one is missing if it does not exist
pub missing_one : (opening : Opening) (obs : ObSet) (x : Ob) → only_in obs ≡ Some x → missing_in opening obs ≡ cond (exists opening x.0) None (Some x)
unfolding missing_in only_in
missing_one opening All x only = cc only
missing_one opening (Listed []) x only = cc only
missing_one opening (Listed (y ∷ [])) x only = let same : y ≡ x = cc only in ap (λ (z : Ob). find (λ (w : Ob). not (exists opening w.0)) (z ∷ [])) same ∙ go (exists opening x.0) where
  go : (b : Bool) → cond (not b) (Some x) None ≡ cond b None (Some x)
  go true = refl
  go false = refl
missing_one opening (Listed (y ∷ z ∷ objects)) x only = cc only
