-- What a step that took effect leaves as it was, and what it adds.
use Rattle.std.proofs.Common.{◌≡◌, ℕ, Bool, true, false, cond, not, eqb, ◌&&◌, ◌||◌, List, [], ◌∷◌, ◌++◌, filter, reverse, refl, sym, ◌∙◌, ap, subst, arith, Some, None}
use Rattle.std.specs.Prelude.{Option, ℤ, option_map}
use Rattle.std.specs.List.{list_any}
use Rattle.std.proofs.lemmas.List.{reverse-append}
use Rattle.std.proofs.lemmas.Bool.{or_left, or_right, or_parts, eqb-true, eq-eqb, ne_eqb, false≢true}
use Rattle.asset_names.specs.declared.names.Txn.{Txn}
use Rattle.asset_names.specs.declared.names.Ob.{Ob}
use Rattle.asset_names.specs.declared.operations.Op.{Op}
use Rattle.asset_names.specs.declared.statuses.End.{End}
use Rattle.asset_names.specs.declared.statuses.End.TheVariants as End'
use Rattle.asset_names.specs.declared.steps.Kind.{Kind}
use Rattle.asset_names.specs.declared.steps.Step.{Step}
use Rattle.asset_names.specs.declared.steps.Step.TheVariants.{Initiate, Begin, Read, Write, Add, Complete, Commit, Abort, WaitFor}
use Rattle.asset_names.specs.Arrows.{lists}
use Rattle.asset_names.specs.Steps.{Opening, initiated, initiated_by}
use Rattle.asset_names.specs.Endings.{dependencies, dependency_by, live, end_of, ended_by}
use Rattle.asset_names.specs.Operations.{Use, Operation, operations, operated, opening_at, op_of, same_op, holds, permits, permitted_by, openers, opened_by}
use Rattle.asset_names.specs.Orderly.{IsOrderly}
use Rattle.asset_names.proofs.LiveLemmas.{live_initiate}
use Rattle.asset_names.proofs.EndLemmas.{live_parts, commits, aborts, commits_live, aborts_live, commit_ends, abort_ends}
use Rattle.asset_names.proofs.Common.{cond_same, option_or_none}
use Rattle.asset_names.proofs.ListLemmas.{lists_pushed}
use Rattle.asset_objects.specs.Cells.{Effect, Cell, change_at, change_each, updated, undone, settled}
use Rattle.asset_ends.specs.Shows.{used, cell_after, cell_of}
use Rattle.asset_ends.proofs.CellLemmas.{cell_same, cell_ended}

-- filters by tests that agree on what is listed
pub filter_same : (p q : ℕ → Bool) (names : List ℕ) → ((n : ℕ) → lists names n ≡ true → p n ≡ q n) → filter p names ≡ filter q names
unfolding lists
filter_same p q [] same = refl
filter_same p q (n ∷ names) same =
    rw (same n (or_left (eqb n n) _ (eq-eqb n n refl)), filter_same p q names (λ m listed. same m (or_right (eqb n m) _ listed)))

-- one filter after another
pub filter_twice : (p q : ℕ → Bool) (names : List ℕ) → filter p (filter q names) ≡ filter (λ n. p n && q n) names
filter_twice p q [] = refl
filter_twice p q (n ∷ names) = go (q n) (p n) refl (filter_twice p q names) where
  go : (kept first : Bool) → p n ≡ first → filter p (filter q names) ≡ filter (λ m. p m && q m) names
      → filter p (cond kept (n ∷ filter q names) (filter q names)) ≡ cond (first && kept) (n ∷ filter (λ m. p m && q m) names) (filter (λ m. p m && q m) names)
  go true true e ih = rw (e, ih)
  go true false e ih = rw (e, ih)
  go false true e ih = ih
  go false false e ih = ih

filter_pushed : (p : ℕ → Bool) (names : List ℕ) (n : ℕ) → filter p (names ++ n ∷ []) ≡ filter p names ++ cond (p n) (n ∷ []) []
filter_pushed p [] n = refl
filter_pushed p (m ∷ names) n = go (p m) (filter_pushed p names n) where
  go : (b : Bool) → filter p (names ++ n ∷ []) ≡ filter p names ++ cond (p n) (n ∷ []) [] → cond b (m ∷ filter p (names ++ n ∷ [])) (filter p (names ++ n ∷ [])) ≡ cond b (m ∷ filter p names) (filter p names) ++ cond (p n) (n ∷ []) []
  go true ih = ap (λ ns. m ∷ ns) ih
  go false ih = ih

-- the first comes last
pub reverse-cons : (names : List ℕ) (n : ℕ) → reverse (n ∷ names) ≡ reverse names ++ n ∷ []
reverse-cons names n = reverse-append (n ∷ []) names

-- what is listed in reverse

pub lists_reverse : (names : List ℕ) (n : ℕ) → lists (reverse names) n ≡ lists names n
unfolding lists
lists_reverse [] n = refl
lists_reverse (k ∷ names) n = rw (reverse-cons names k, lists_pushed (reverse names) k n, lists_reverse names n) (grind arith)

-- the same operations over names that ended alike
cell_as : (opening : Opening) (ends later : ℕ → Option End) (os : List Operation) (x : ℕ) → ((n : ℕ) → later n ≡ ends n)
    → option_map (λ first. cell_after later x first os) (opening_at opening x) ≡ option_map (λ first. cell_after ends x first os) (opening_at opening x)
cell_as opening ends later os x same = go (opening_at opening x) where
  go : (first : Option ℤ) → option_map (λ v. cell_after later x v os) first ≡ option_map (λ v. cell_after ends x v os) first
  go None = refl
  go (Some v) = ap Some (cell_same ends later same x v os)

-- what a step that initiates nobody, ends nobody, operates on nothing, permits nothing and makes no dependency leaves
pub record IsQuiet (later steps : List Step) : Type 0 where
  pub names : initiated later ≡ initiated steps
  pub applied : operations later ≡ operations steps
  pub ends : (n : ℕ) → end_of later n ≡ end_of steps n
  pub arrows : (x : ℕ) (op : Op) → permits later x op ≡ permits steps x op
  pub opened : (x : ℕ) (op : Op) → openers later x op ≡ openers steps x op
  pub kept : (kind : Kind) → dependencies kind later ≡ dependencies kind steps

pub live_quiet : (later steps : List Step) → initiated later ≡ initiated steps → ((n : ℕ) → end_of later n ≡ end_of steps n) → (n : ℕ) → live later n ≡ live steps n
unfolding live
live_quiet later steps names ends n = rw (names, ends n)

pub cell_same_steps : (opening : Opening) (later steps : List Step) → operations later ≡ operations steps → ((n : ℕ) → end_of later n ≡ end_of steps n) → (x : ℕ) → cell_of opening later x ≡ cell_of opening steps x
unfolding cell_of
cell_same_steps opening later steps applied ends x = rw applied (cell_as opening (end_of steps) (end_of later) (operations steps) x ends)

pub cell_quiet : (opening : Opening) (later steps : List Step) → IsQuiet later steps → (x : ℕ) → cell_of opening later x ≡ cell_of opening steps x
cell_quiet opening later steps quiet x = cell_same_steps opening later steps quiet.applied quiet.ends x

pub holds_same_steps : (later steps : List Step) → initiated later ≡ initiated steps → operations later ≡ operations steps → ((n : ℕ) → end_of later n ≡ end_of steps n) → (t x : ℕ) (op : Op) → holds later t x op ≡ holds steps t x op
unfolding holds
holds_same_steps later steps names applied ends t x op = rw (applied, live_quiet later steps names ends t)

pub holds_quiet : (later steps : List Step) → IsQuiet later steps → (t x : ℕ) (op : Op) → holds later t x op ≡ holds steps t x op
holds_quiet later steps quiet t x op = holds_same_steps later steps quiet.names quiet.applied quiet.ends t x op

pub enrolled_quiet : (later steps : List Step) → initiated later ≡ initiated steps → ((n : ℕ) → end_of later n ≡ end_of steps n)
    → filter (live later) (reverse (initiated later)) ≡ filter (live steps) (reverse (initiated steps))
enrolled_quiet later steps names ends = rw names (filter_same (live later) (live steps) (reverse (initiated steps)) (λ n listed. live_quiet later steps names ends n))

-- steps that are quiet
pub begin_quiet : (t : Txn) (steps : List Step) → IsQuiet (Begin t ∷ steps) steps
unfolding initiated initiated_by operations operated end_of ended_by permits permitted_by openers opened_by dependencies dependency_by
begin_quiet t steps = record { names = refl; applied = refl; arrows = λ x op. refl; opened = λ x op. refl; kept = λ k. refl; ends = λ n. option_or_none (end_of steps n) }

pub complete_quiet : (t : Txn) (steps : List Step) → IsQuiet (Complete t ∷ steps) steps
unfolding initiated initiated_by operations operated end_of ended_by permits permitted_by openers opened_by dependencies dependency_by
complete_quiet t steps = record { names = refl; applied = refl; arrows = λ x op. refl; opened = λ x op. refl; kept = λ k. refl; ends = λ n. option_or_none (end_of steps n) }

-- a new name
pub enrolled_initiate : (u : Txn) (parent : Option Txn) (steps : List Step) → lists (initiated steps) u.0 ≡ false
    → filter (live steps) (reverse (initiated steps)) ++ u.0 ∷ [] ≡ filter (live (Initiate u parent ∷ steps)) (reverse (initiated (Initiate u parent ∷ steps)))
unfolding initiated initiated_by
enrolled_initiate u parent steps new =
    let before = filter_same (live (Initiate u parent ∷ steps)) (live steps) (reverse (initiated steps)) old_live in
    rw (reverse-cons (initiated steps) u.0, filter_pushed (live (Initiate u parent ∷ steps)) (reverse (initiated steps)) u.0, before, live_initiate u parent steps u.0 new, eq-eqb u.0 u.0 refl) refl where
      old_live : (n : ℕ) → lists (reverse (initiated steps)) n ≡ true → live (Initiate u parent ∷ steps) n ≡ live steps n
      old_live n listed =
          let known : lists (initiated steps) n ≡ true = sym (lists_reverse (initiated steps) n) ∙ listed in
          live_initiate u parent steps n new ∙ rw (ne_eqb u.0 n (λ e. false≢true (sym new ∙ ap (lists (initiated steps)) e ∙ known))) refl

end_initiate : (u : Txn) (parent : Option Txn) (steps : List Step) (n : ℕ) → end_of (Initiate u parent ∷ steps) n ≡ end_of steps n
unfolding end_of ended_by
end_initiate u parent steps n = option_or_none (end_of steps n)

pub cell_initiate : (opening : Opening) (u : Txn) (parent : Option Txn) (steps : List Step) (x : ℕ) → cell_of opening (Initiate u parent ∷ steps) x ≡ cell_of opening steps x
unfolding cell_of operations operated
cell_initiate opening u parent steps x = cell_as opening (end_of steps) (end_of (Initiate u parent ∷ steps)) (operations steps) x (end_initiate u parent steps)

-- a new name holds nothing, since each owner of an operation was initiated
pub holds_initiate : (u : Txn) (parent : Option Txn) (steps : List Step) → lists (initiated steps) u.0 ≡ false → IsOrderly steps
    → (t x : ℕ) (op : Op) → holds (Initiate u parent ∷ steps) t x op ≡ holds steps t x op
unfolding holds operations operated
holds_initiate u parent steps new orderly t x op = rw (live_initiate u parent steps t new) (go (eqb u.0 t) refl) where
  held : List Operation → Bool
  held os = list_any (λ (o : Operation). eqb o.owner t && eqb o.object x && same_op (op_of o.use_of) op) os

  owned : List Operation → Bool
  owned os = list_any (λ (o : Operation). eqb o.owner t) os

  held_owned : (os : List Operation) → owned os ≡ false → held os ≡ false
  held_owned [] h = refl
  held_owned (o ∷ os) h =
      let parts = or_parts (eqb o.owner t) (owned os) h in
      rw (parts.0, held_owned os parts.1) refl

  not_owned : (b : Bool) → owned (operations steps) ≡ b → lists (initiated steps) t ≡ false → b ≡ false
  not_owned false e absent = refl
  not_owned true e absent = absurd (false≢true (sym absent ∙ orderly.owners_known t e))

  go : (here : Bool) → eqb u.0 t ≡ here → ((here || live steps t) && held (operations steps)) ≡ (live steps t && held (operations steps))
  go false e = refl
  go true e =
      let absent : lists (initiated steps) t ≡ false = subst (λ m. lists (initiated steps) m ≡ false) (eqb-true u.0 t e) new in
      rw (held_owned (operations steps) (not_owned (owned (operations steps)) refl absent)) (grind arith)

-- one more operation of a live transaction
pub holds_operation : (step : Step) (steps : List Step) (u y : ℕ) (act : Use) → operations (step ∷ steps) ≡ record { owner = u; object = y; use_of = act } ∷ operations steps
    → initiated (step ∷ steps) ≡ initiated steps → ((n : ℕ) → end_of (step ∷ steps) n ≡ end_of steps n) → live steps u ≡ true
    → (t x : ℕ) (op : Op) → holds (step ∷ steps) t x op ≡ ((eqb u t && eqb y x && same_op (op_of act) op) || holds steps t x op)
unfolding holds
holds_operation step steps u y act applied names ends alive t x op = rw (applied, live_quiet (step ∷ steps) steps names ends t) (go (eqb u t) refl) where
  held : Bool
  held = list_any (λ (o : Operation). eqb o.owner t && eqb o.object x && same_op (op_of o.use_of) op) (operations steps)

  go : (own : Bool) → eqb u t ≡ own → (live steps t && (own && eqb y x && same_op (op_of act) op || held)) ≡ ((own && eqb y x && same_op (op_of act) op) || (live steps t && held))
  go false e = grind arith
  go true e = rw (subst (λ m. live steps m ≡ true) (eqb-true u t e) alive) refl

-- some end, and hold nothing any more
pub holds_end : (step : Step) (steps : List Step) (test : ℕ → Bool) → operations (step ∷ steps) ≡ operations steps → ((n : ℕ) → live (step ∷ steps) n ≡ (not (test n) && live steps n))
    → (t x : ℕ) (op : Op) → holds (step ∷ steps) t x op ≡ (not (test t) && holds steps t x op)
unfolding holds
holds_end step steps test applied alive t x op = rw (applied, alive t) (grind arith)

pub enrolled_end : (later steps : List Step) (test : ℕ → Bool) → initiated later ≡ initiated steps → ((n : ℕ) → live later n ≡ (not (test n) && live steps n))
    → filter (λ n. not (test n)) (filter (live steps) (reverse (initiated steps))) ≡ filter (live later) (reverse (initiated later))
enrolled_end later steps test names alive =
    rw names (filter_twice (λ n. not (test n)) (live steps) (reverse (initiated steps))
    ∙ filter_same (λ n. not (test n) && live steps n) (live later) (reverse (initiated steps)) (λ n listed. sym (alive n)))

-- reads, writes and adds end nobody
pub read_ends : (u : Txn) (y : Ob) (steps : List Step) (n : ℕ) → end_of (Read u y ∷ steps) n ≡ end_of steps n
unfolding end_of ended_by
read_ends u y steps n = option_or_none (end_of steps n)

pub wait_ends : (u : Txn) (steps : List Step) (n : ℕ) → end_of (WaitFor u ∷ steps) n ≡ end_of steps n
unfolding end_of ended_by
wait_ends u steps n = option_or_none (end_of steps n)

pub write_ends : (u : Txn) (y : Ob) (w : ℤ) (steps : List Step) (n : ℕ) → end_of (Write u y w ∷ steps) n ≡ end_of steps n
unfolding end_of ended_by
write_ends u y w steps n = option_or_none (end_of steps n)

pub add_ends : (u : Txn) (y : Ob) (d : ℤ) (steps : List Step) (n : ℕ) → end_of (Add u y d ∷ steps) n ≡ end_of steps n
unfolding end_of ended_by
add_ends u y d steps n = option_or_none (end_of steps n)

-- the cell of an object after a read: it is as it was
pub cell_read : (opening : Opening) (u : Txn) (y : Ob) (steps : List Step) (x : ℕ) → cell_of opening (Read u y ∷ steps) x ≡ cell_of opening steps x
unfolding cell_of operations operated cell_after used
cell_read opening u y steps x = go (opening_at opening x) where
  ends : (n : ℕ) → end_of (Read u y ∷ steps) n ≡ end_of steps n
  ends n = read_ends u y steps n

  go : (first : Option ℤ)
      → option_map (λ v. cond (eqb y.0 x) (cell_after (end_of (Read u y ∷ steps)) x v (operations steps)) (cell_after (end_of (Read u y ∷ steps)) x v (operations steps))) first
      ≡ option_map (λ v. cell_after (end_of steps) x v (operations steps)) first
  go None = refl
  go (Some v) = ap Some (cond_same (eqb y.0 x) _ ∙ cell_same (end_of steps) (end_of (Read u y ∷ steps)) ends x v (operations steps))

-- the cell of an object after a step of a live transaction that changes it: one more update stands
pub cell_updated : (opening : Opening) (step : Step) (u y : ℕ) (act : Use) (effect : Effect) (steps : List Step) (x : ℕ) → operations (step ∷ steps) ≡ record { owner = u; object = y; use_of = act } ∷ operations steps
    → ((n : ℕ) → end_of (step ∷ steps) n ≡ end_of steps n) → ((cell : Cell) → used None u act cell ≡ updated (Some u) effect cell) → live steps u ≡ true
    → change_at y (updated (Some u) effect) (cell_of opening steps) x ≡ cell_of opening (step ∷ steps) x
unfolding cell_of cell_after change_at
cell_updated opening step u y act effect steps x applied ends does alive = rw applied (go (eqb y x) (opening_at opening x)) where
  none : end_of (step ∷ steps) u ≡ None
  none = ends u ∙ (live_parts steps u alive).1

  go : (here : Bool) (first : Option ℤ)
      → cond here (option_map (updated (Some u) effect) (option_map (λ v. cell_after (end_of steps) x v (operations steps)) first)) (option_map (λ v. cell_after (end_of steps) x v (operations steps)) first)
      ≡ option_map (λ v. cond here (used (end_of (step ∷ steps) u) u act (cell_after (end_of (step ∷ steps)) x v (operations steps))) (cell_after (end_of (step ∷ steps)) x v (operations steps))) first
  go true None = refl
  go false None = refl
  go true (Some v) = ap Some (sym (does (cell_after (end_of steps) x v (operations steps))) ∙ rw (none, cell_same (end_of steps) (end_of (step ∷ steps)) ends x v (operations steps)) refl)
  go false (Some v) = rw (cell_same (end_of steps) (end_of (step ∷ steps)) ends x v (operations steps)) refl

-- the cell of an object after an end
pub cell_abort : (opening : Opening) (t : Txn) (steps : List Step) (x : ℕ) → change_each (undone (aborts steps t.0)) (cell_of opening steps) x ≡ cell_of opening (Abort t ∷ steps) x
unfolding cell_of operations operated change_each
cell_abort opening t steps x = go (opening_at opening x) where
  alive : (n : ℕ) → aborts steps t.0 n ≡ true → end_of steps n ≡ None
  alive n ends = (live_parts steps n (aborts_live steps t.0 n ends)).1

  go : (first : Option ℤ) → option_map (undone (aborts steps t.0)) (option_map (λ v. cell_after (end_of steps) x v (operations steps)) first) ≡ option_map (λ v. cell_after (end_of (Abort t ∷ steps)) x v (operations steps)) first
  go None = refl
  go (Some v) = ap Some (sym (cell_ended End'.Aborted (aborts steps t.0) (end_of steps) (end_of (Abort t ∷ steps)) alive (abort_ends t steps) x v (operations steps)))

pub cell_commit : (opening : Opening) (t : Txn) (steps : List Step) (x : ℕ) → change_each (settled (commits steps t.0)) (cell_of opening steps) x ≡ cell_of opening (Commit t ∷ steps) x
unfolding cell_of operations operated change_each
cell_commit opening t steps x = go (opening_at opening x) where
  alive : (n : ℕ) → commits steps t.0 n ≡ true → end_of steps n ≡ None
  alive n ends = (live_parts steps n (commits_live steps t.0 n ends)).1

  go : (first : Option ℤ) → option_map (settled (commits steps t.0)) (option_map (λ v. cell_after (end_of steps) x v (operations steps)) first) ≡ option_map (λ v. cell_after (end_of (Commit t ∷ steps)) x v (operations steps)) first
  go None = refl
  go (Some v) = ap Some (sym (cell_ended End'.Committed (commits steps t.0) (end_of steps) (end_of (Commit t ∷ steps)) alive (commit_ends t steps) x v (operations steps)))
