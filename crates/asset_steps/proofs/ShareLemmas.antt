-- Permits, delegations and dependencies that are answered while they take effect.
use Rattle.std.proofs.Common.{◌≡◌, Bool, true, false, cond, List, [], ◌∷◌, refl, sym, ◌∙◌, ap, Some, None}
use Rattle.std.specs.Prelude.{Option, ◌==◌}
use Rattle.std.specs.Option.{option_or}
use Rattle.std.proofs.lemmas.Bool.{false≢true}
use Rattle.asset_names.specs.declared.names.Txn.{Txn}
use Rattle.asset_names.specs.declared.names.Ob.{Ob}
use Rattle.asset_names.specs.declared.sets.ObSet.{ObSet}
use Rattle.asset_names.specs.declared.sets.ObSet.TheVariants.{Listed}
use Rattle.asset_names.specs.declared.statuses.Status.{Status}
use Rattle.asset_names.specs.declared.statuses.Status.TheVariants as Status'
use Rattle.asset_names.specs.declared.steps.Kind.{Kind}
use Rattle.asset_names.specs.declared.steps.Step.TheVariants.{Permit, PermitAny, Delegate, Depend}
use Rattle.asset_names.specs.declared.replies.Refusal.{Refusal}
use Rattle.asset_names.specs.declared.replies.Refusal.TheVariants.{Unknown, Ended, Same, Cycle}
use Rattle.asset_names.specs.declared.replies.Reply.TheVariants.{Done, Refused}
use Rattle.asset_names.specs.declared.replies.Outcome.TheVariants.{Answer}
use Rattle.asset_names.specs.Steps.{takes_effect}
use Rattle.asset_names.specs.Endings.{is_live_status}
use Rattle.asset_names.specs.Answers.{Rule, answer, unrefused, takes_memory, rules_for, first_refusal, missing_in, missing_rule, unknown, ended, one_name, cycle, no_object_of, is_unknown, has_ended}
use Rattle.asset_names.proofs.LegalLemmas.{first_none}
use Rattle.asset_deps.specs.Dependencies.{would_cycle_in}
use Rattle.asset_locks.specs.LockTable as Locks
use Rattle.asset_trans.specs.TransRows.{status_in}
use Rattle.asset_ends.specs.Shown.{ForShown, ShowsWith}
use Rattle.asset_ends.specs.Standing.{Standing, SameView, SameViewInAnyOrder}
use Rattle.asset_steps.specs.Ready.{locks_after}
use Rattle.asset_steps.specs.Stepped.{Stepped, Lacked}
use Rattle.asset_steps.proofs.AnswerLemmas.{first_append}
use Rattle.asset_ends.proofs.DependLaws.{would_cycle_shown}
use Rattle.asset_ends.proofs.StandingLemmas.{same_alike}
use Rattle.asset_steps.proofs.WorkLemmas.{Decides, effective, lacking, refused_by, given_by}

-- the rules between two transactions, by their statuses
abbrev pub between_rules : Status → Status → Txn → Txn → List Rule → List Rule
between_rules gives takes giver taker rules = (giver.0 == taker.0, Same) ∷ (is_unknown gives, Unknown giver) ∷ (is_unknown takes, Unknown taker) ∷ (has_ended gives, Ended giver) ∷ (has_ended takes, Ended taker) ∷ rules

-- who was initiated and has not ended is live
standing_live : (now : Status) → is_unknown now ≡ false → has_ended now ≡ false → is_live_status now ≡ true
unfolding is_unknown has_ended is_live_status
standing_live Status'.Initiated known lives = refl
standing_live Status'.Running known lives = refl
standing_live Status'.Completed known lives = refl
standing_live Status'.Unknown known lives = absurd (false≢true (sym known))
standing_live Status'.Committed known lives = absurd (false≢true (sym lives))
standing_live Status'.Aborted known lives = absurd (false≢true (sym lives))

-- two between whom nothing is refused are live
pub between_live : (gives takes : Status) (giver taker : Txn) (rules : List Rule) → first_refusal (between_rules gives takes giver taker rules) ≡ None → (is_live_status gives ≡ true) × (is_live_status takes ≡ true)
between_live gives takes giver taker rules none =
    let one = first_none _ _ none in
    let two = first_none _ _ one.1 in
    let three = first_none _ _ two.1 in
    let four = first_none _ _ three.1 in
    let five = first_none _ _ four.1 in
    (standing_live gives two.0 four.0, standing_live takes three.0 five.0)

-- Permits and delegations

abbrev pub share_rules : Standing → Txn → Txn → Option Ob → List Rule
share_rules tables giver taker missing = between_rules (status_in tables.trans giver.0) (status_in tables.trans taker.0) giver taker (missing_rule missing ∷ [])

-- the object of the set that is missing first
abbrev pub IsMissing : Standing → ObSet → Option Ob → Type 0
IsMissing tables obs missing = ForShown tables (λ opening steps. missing ≡ missing_in opening obs)

decides_permit : (tables : Standing) (giver taker : Txn) (obs : ObSet) (ops : _) (missing : Option Ob) → IsMissing tables obs missing → Decides (share_rules tables giver taker missing) tables (Permit giver taker obs ops)
unfolding rules_for one_name unknown ended no_object_of
decides_permit tables giver taker obs ops missing is = λ opening steps stand. rw (is opening steps stand, stand.statuses giver.0, stand.statuses taker.0) refl

decides_delegate : (tables : Standing) (giver taker : Txn) (obs : ObSet) (missing : Option Ob) → IsMissing tables obs missing → Decides (share_rules tables giver taker missing) tables (Delegate giver taker obs)
unfolding rules_for one_name unknown ended no_object_of
decides_delegate tables giver taker obs missing is = λ opening steps stand. rw (is opening steps stand, stand.statuses giver.0, stand.statuses taker.0) refl

pub permit_refused : (tables : Standing) (giver taker : Txn) (obs : ObSet) (ops : _) (missing : Option Ob) (refusal : Refusal) → IsMissing tables obs missing → first_refusal (share_rules tables giver taker missing) ≡ Some refusal → Stepped tables (Permit giver taker obs ops) (Answer (Refused refusal)) tables
unfolding takes_effect
permit_refused tables giver taker obs ops missing refusal lacks is = refused_by _ tables (Permit giver taker obs ops) refusal (decides_permit tables giver taker obs ops missing lacks) is refl

pub delegate_refused : (tables : Standing) (giver taker : Txn) (obs : ObSet) (missing : Option Ob) (refusal : Refusal) → IsMissing tables obs missing → first_refusal (share_rules tables giver taker missing) ≡ Some refusal → Stepped tables (Delegate giver taker obs) (Answer (Refused refusal)) tables
unfolding takes_effect
delegate_refused tables giver taker obs missing refusal lacks is = refused_by _ tables (Delegate giver taker obs) refusal (decides_delegate tables giver taker obs missing lacks) is refl

permit_given : (tables : Standing) (giver taker : Txn) (obs : ObSet) (ops : _) (missing : Option Ob) → IsMissing tables obs missing → first_refusal (share_rules tables giver taker missing) ≡ None → ForShown tables (λ opening steps. answer opening steps (Permit giver taker obs ops) ≡ Answer Done)
unfolding unrefused
permit_given tables giver taker obs ops missing lacks none = λ opening steps stand. given_by _ tables (Permit giver taker obs ops) opening steps (Answer Done) stand (decides_permit tables giver taker obs ops missing lacks) none refl

delegate_given : (tables : Standing) (giver taker : Txn) (obs : ObSet) (missing : Option Ob) → IsMissing tables obs missing → first_refusal (share_rules tables giver taker missing) ≡ None → ForShown tables (λ opening steps. answer opening steps (Delegate giver taker obs) ≡ Answer Done)
unfolding unrefused
delegate_given tables giver taker obs missing lacks none = λ opening steps stand. given_by _ tables (Delegate giver taker obs) opening steps (Answer Done) stand (decides_delegate tables giver taker obs missing lacks) none refl

pub permit_done : (before later : Standing) (giver taker : Txn) (obs : ObSet) (ops : _) (missing : Option Ob) → IsMissing before obs missing → first_refusal (share_rules before giver taker missing) ≡ None → ShowsWith before (Permit giver taker obs ops) later → later.locks ≡ before.locks → Stepped before (Permit giver taker obs ops) (Answer Done) later
unfolding takes_effect locks_after
permit_done before later giver taker obs ops missing lacks none stands locks = effective before later (Permit giver taker obs ops) Done (permit_given before giver taker obs ops missing lacks none) refl (λ opening steps stand orderly. stands opening steps stand) locks

pub delegate_done : (before later : Standing) (giver taker : Txn) (obs : ObSet) (missing : Option Ob) → IsMissing before obs missing → first_refusal (share_rules before giver taker missing) ≡ None → ShowsWith before (Delegate giver taker obs) later → later.locks ≡ Locks.hand_over_in giver.0 taker.0 obs before.locks → Stepped before (Delegate giver taker obs) (Answer Done) later
unfolding takes_effect locks_after
delegate_done before later giver taker obs missing lacks none stands locks = effective before later (Delegate giver taker obs) Done (delegate_given before giver taker obs missing lacks none) refl (λ opening steps stand orderly. stands opening steps stand) locks

pub permit_lacks : (before later : Standing) (giver taker : Txn) (obs : ObSet) (ops : _) (missing : Option Ob) → IsMissing before obs missing → first_refusal (share_rules before giver taker missing) ≡ None → SameView later before → Lacked before (Permit giver taker obs ops) later
unfolding takes_effect takes_memory
permit_lacks before later giver taker obs ops missing lacks none same = lacking before later (Permit giver taker obs ops) Done refl (permit_given before giver taker obs ops missing lacks none) refl (same_alike later before same)

pub delegate_lacks : (before later : Standing) (giver taker : Txn) (obs : ObSet) (missing : Option Ob) → IsMissing before obs missing → first_refusal (share_rules before giver taker missing) ≡ None → SameViewInAnyOrder later before → Lacked before (Delegate giver taker obs) later
unfolding takes_effect takes_memory
delegate_lacks before later giver taker obs missing lacks none same = lacking before later (Delegate giver taker obs) Done refl (delegate_given before giver taker obs missing lacks none) refl same

-- Permits to anybody

abbrev pub giver_rules : Status → Txn → List Rule → List Rule
giver_rules gives giver rules = (is_unknown gives, Unknown giver) ∷ (has_ended gives, Ended giver) ∷ rules

-- a giver to whom nothing is refused is live
pub giver_live : (gives : Status) (giver : Txn) (rules : List Rule) → first_refusal (giver_rules gives giver rules) ≡ None → is_live_status gives ≡ true
giver_live gives giver rules none =
    let one = first_none _ _ none in
    let two = first_none _ _ one.1 in
    standing_live gives one.0 two.0

abbrev pub open_rules : Standing → Txn → Option Ob → List Rule
open_rules tables giver missing = giver_rules (status_in tables.trans giver.0) giver (missing_rule missing ∷ [])

decides_open : (tables : Standing) (giver : Txn) (obs : List Ob) (ops : _) (missing : Option Ob) → IsMissing tables (Listed obs) missing → Decides (open_rules tables giver missing) tables (PermitAny giver obs ops)
unfolding rules_for unknown ended no_object_of
decides_open tables giver obs ops missing is = λ opening steps stand. rw (is opening steps stand, stand.statuses giver.0) refl

pub open_refused : (tables : Standing) (giver : Txn) (obs : List Ob) (ops : _) (missing : Option Ob) (refusal : Refusal) → IsMissing tables (Listed obs) missing → first_refusal (open_rules tables giver missing) ≡ Some refusal → Stepped tables (PermitAny giver obs ops) (Answer (Refused refusal)) tables
unfolding takes_effect
open_refused tables giver obs ops missing refusal lacks is = refused_by _ tables (PermitAny giver obs ops) refusal (decides_open tables giver obs ops missing lacks) is refl

open_given : (tables : Standing) (giver : Txn) (obs : List Ob) (ops : _) (missing : Option Ob) → IsMissing tables (Listed obs) missing → first_refusal (open_rules tables giver missing) ≡ None → ForShown tables (λ opening steps. answer opening steps (PermitAny giver obs ops) ≡ Answer Done)
unfolding unrefused
open_given tables giver obs ops missing lacks none = λ opening steps stand. given_by _ tables (PermitAny giver obs ops) opening steps (Answer Done) stand (decides_open tables giver obs ops missing lacks) none refl

pub open_done : (before later : Standing) (giver : Txn) (obs : List Ob) (ops : _) (missing : Option Ob) → IsMissing before (Listed obs) missing → first_refusal (open_rules before giver missing) ≡ None → ShowsWith before (PermitAny giver obs ops) later → later.locks ≡ before.locks → Stepped before (PermitAny giver obs ops) (Answer Done) later
unfolding takes_effect locks_after
open_done before later giver obs ops missing lacks none stands locks = effective before later (PermitAny giver obs ops) Done (open_given before giver obs ops missing lacks none) refl (λ opening steps stand orderly. stands opening steps stand) locks

pub open_lacks : (before later : Standing) (giver : Txn) (obs : List Ob) (ops : _) (missing : Option Ob) → IsMissing before (Listed obs) missing → first_refusal (open_rules before giver missing) ≡ None → SameView later before → Lacked before (PermitAny giver obs ops) later
unfolding takes_effect takes_memory
open_lacks before later giver obs ops missing lacks none same = lacking before later (PermitAny giver obs ops) Done refl (open_given before giver obs ops missing lacks none) refl (same_alike later before same)

-- Dependencies

abbrev pub depend_rules : Standing → Txn → Txn → List Rule → List Rule
depend_rules tables a b rules = between_rules (status_in tables.trans a.0) (status_in tables.trans b.0) a b rules

-- the rules end with that on cycles
decides_depend : (tables : Standing) (kind : Kind) (a b : Txn) → Decides (depend_rules tables a b ((would_cycle_in tables.deps kind a.0 b.0, Cycle) ∷ [])) tables (Depend kind a b)
unfolding rules_for one_name unknown ended cycle
decides_depend tables kind a b = λ opening steps stand. rw (stand.statuses a.0, stand.statuses b.0, would_cycle_shown steps tables.deps stand.dependencies_stand kind a.0 b.0) refl

-- what the others refuse is refused first
pub depend_refused : (tables : Standing) (kind : Kind) (a b : Txn) (refusal : Refusal) → first_refusal (depend_rules tables a b []) ≡ Some refusal → Stepped tables (Depend kind a b) (Answer (Refused refusal)) tables
unfolding takes_effect
depend_refused tables kind a b refusal is =
    let rules = (would_cycle_in tables.deps kind a.0 b.0, Cycle) ∷ [] in
    refused_by _ tables (Depend kind a b) refusal (decides_depend tables kind a b) (first_append (depend_rules tables a b []) rules ∙ ap (λ first. option_or first (first_refusal rules)) is) refl

-- and then what the rule on cycles says
last_says : (tables : Standing) (kind : Kind) (a b : Txn) (closes : Bool) → first_refusal (depend_rules tables a b []) ≡ None → would_cycle_in tables.deps kind a.0 b.0 ≡ closes
    → first_refusal (depend_rules tables a b ((would_cycle_in tables.deps kind a.0 b.0, Cycle) ∷ [])) ≡ cond closes (Some Cycle) None
unfolding first_refusal
last_says tables kind a b closes none is =
    let rules = (would_cycle_in tables.deps kind a.0 b.0, Cycle) ∷ [] in
    first_append (depend_rules tables a b []) rules ∙ ap (λ first. option_or first (first_refusal rules)) none ∙ rw is refl

pub depend_cycle : (tables : Standing) (kind : Kind) (a b : Txn) → first_refusal (depend_rules tables a b []) ≡ None → would_cycle_in tables.deps kind a.0 b.0 ≡ true → Stepped tables (Depend kind a b) (Answer (Refused Cycle)) tables
unfolding takes_effect
depend_cycle tables kind a b none closes = refused_by _ tables (Depend kind a b) Cycle (decides_depend tables kind a b) (last_says tables kind a b true none closes) refl

depend_given : (tables : Standing) (kind : Kind) (a b : Txn) → first_refusal (depend_rules tables a b []) ≡ None → would_cycle_in tables.deps kind a.0 b.0 ≡ false → ForShown tables (λ opening steps. answer opening steps (Depend kind a b) ≡ Answer Done)
unfolding unrefused
depend_given tables kind a b none open_ = λ opening steps stand. given_by _ tables (Depend kind a b) opening steps (Answer Done) stand (decides_depend tables kind a b) (last_says tables kind a b false none open_) refl

pub depend_done : (before later : Standing) (kind : Kind) (a b : Txn) → first_refusal (depend_rules before a b []) ≡ None → would_cycle_in before.deps kind a.0 b.0 ≡ false → ShowsWith before (Depend kind a b) later → later.locks ≡ before.locks → Stepped before (Depend kind a b) (Answer Done) later
unfolding takes_effect locks_after
depend_done before later kind a b none open_ stands locks = effective before later (Depend kind a b) Done (depend_given before kind a b none open_) refl (λ opening steps stand orderly. stands opening steps stand) locks

pub depend_lacks : (before later : Standing) (kind : Kind) (a b : Txn) → first_refusal (depend_rules before a b []) ≡ None → would_cycle_in before.deps kind a.0 b.0 ≡ false → SameView later before → Lacked before (Depend kind a b) later
unfolding takes_effect takes_memory
depend_lacks before later kind a b none open_ same = lacking before later (Depend kind a b) Done refl (depend_given before kind a b none open_) refl (same_alike later before same)
