-- Who lets anybody do what, by the table and by the history, and how that changes with a step.
use Rattle.std.proofs.Common.{◌≡◌, ℕ, Bool, true, false, cond, not, eqb, ◌&&◌, ◌||◌, List, [], ◌∷◌, ◌++◌, refl, sym, ◌∙◌, ap, subst, arith}
use Rattle.std.proofs.lemmas.Bool.{eqb-true, false≢true, and_parts, and_from}
use Rattle.asset_names.specs.declared.names.Txn.{Txn}
use Rattle.asset_names.specs.declared.names.Ob.{Ob}
use Rattle.asset_names.specs.declared.operations.Op.{Op}
use Rattle.asset_names.specs.declared.sets.ObSet.{ObSet}
use Rattle.asset_names.specs.declared.sets.ObSet.TheVariants.{Listed}
use Rattle.asset_names.specs.declared.steps.Step.{Step}
use Rattle.asset_names.specs.declared.steps.Step.TheVariants.{Initiate, PermitAny, Delegate}
use Rattle.asset_names.specs.InSet.{in_set}
use Rattle.asset_names.specs.Arrows.{lists}
use Rattle.asset_names.specs.Steps.{initiated, initiated_by}
use Rattle.asset_names.specs.Endings.{live, end_of, ended_by}
use Rattle.asset_names.specs.Operations.{openers, opened_by, holds_object, permits_along, reaches_opener}
use Rattle.asset_names.specs.OpSets.{has_op, OpSet}
use Rattle.asset_names.specs.Orderly.{IsOrderly}
use Rattle.asset_names.proofs.LiveLemmas.{live_initiate}
use Rattle.asset_names.proofs.Common.{eqb-flip, option_or_none, both_follow}
use Rattle.asset_names.proofs.ListLemmas.{listed_any}
use Rattle.asset_permits.specs.Descriptors as Permits
use Rattle.asset_permits.specs.Descriptors.{Descriptor, opens, leads_by}
use Rattle.asset_permits.proofs.ArrowLaws.{name_of_any, opener_of, reaches_by_opener}
use Rattle.asset_ends.specs.Shows.{is_opener}
use Rattle.asset_ends.proofs.HistoryLemmas.{live_quiet}
use Rattle.asset_names.proofs.DelegateLemmas.{live_delegated}

-- one more descriptor opens what it says, and nothing else is opened
abbrev pub IsWidened : ℕ → ObSet → OpSet → List Descriptor → List Descriptor → Type 0
IsWidened giver obs ops before later = (u x : ℕ) (op : Op) → opens later u x op ≡ (opens before u x op || (eqb u giver && in_set obs x && has_op ops op))

-- a step that initiates nobody, ends nobody and opens nothing leaves each opener
pub opener_quiet : (later steps : List Step) → initiated later ≡ initiated steps → ((n : ℕ) → end_of later n ≡ end_of steps n) → ((x : ℕ) (op : Op) → openers later x op ≡ openers steps x op)
    → (u x : ℕ) (op : Op) → is_opener later u x op ≡ is_opener steps u x op
unfolding is_opener
opener_quiet later steps names ends same u x op = rw (live_quiet later steps names ends u, same x op)

-- a new name opens nothing
pub opener_initiate : (t : Txn) (parent : _) (steps : List Step) → lists (initiated steps) t.0 ≡ false → IsOrderly steps → (u x : ℕ) (op : Op) → is_opener (Initiate t parent ∷ steps) u x op ≡ is_opener steps u x op
unfolding is_opener openers opened_by
opener_initiate t parent steps new orderly u x op =
    rw (live_initiate t parent steps u new) (go (eqb t.0 u) refl (lists (openers steps x op) u) refl) where
      go : (same : Bool) → eqb t.0 u ≡ same → (opened : Bool) → lists (openers steps x op) u ≡ opened → ((same || live steps u) && opened) ≡ (live steps u && opened)
      go false e opened h = refl
      go true e false h = grind arith
      go true e true h = absurd (false≢true (sym new ∙ ap (lists (initiated steps)) (eqb-true t.0 u e) ∙ orderly.openers_known u x op h))

-- some end, and they open nothing any more
pub opener_end : (later steps : List Step) (test : ℕ → Bool) → ((n : ℕ) → live later n ≡ (not (test n) && live steps n)) → ((x : ℕ) (op : Op) → openers later x op ≡ openers steps x op)
    → (u x : ℕ) (op : Op) → is_opener later u x op ≡ (is_opener steps u x op && not (test u))
unfolding is_opener
opener_end later steps test alive same u x op = rw (alive u, same x op) (grind arith)

-- a permit to anybody ends nobody
pub open_ends : (giver : Txn) (obs : List Ob) (ops : OpSet) (steps : List Step) (n : ℕ) → end_of (PermitAny giver obs ops ∷ steps) n ≡ end_of steps n
unfolding end_of ended_by
open_ends giver obs ops steps n = option_or_none (end_of steps n)

-- one more name, if it is added
one_more_name : (n : ℕ) (adds : Bool) (names : List ℕ) (u : ℕ) → lists (cond adds (n ∷ []) [] ++ names) u ≡ ((eqb n u && adds) || lists names u)
unfolding lists
one_more_name n true names u = grind arith
one_more_name n false names u = grind arith

-- a live giver opens what it permits to anybody
pub opener_opened : (giver : Txn) (obs : List Ob) (ops : OpSet) (steps : List Step) → live steps giver.0 ≡ true → (u x : ℕ) (op : Op)
    → is_opener (PermitAny giver obs ops ∷ steps) u x op ≡ (is_opener steps u x op || (eqb u giver.0 && in_set (Listed obs) x && has_op ops op))
unfolding is_opener openers opened_by initiated initiated_by
opener_opened giver obs ops steps gives u x op =
    rw (live_quiet (PermitAny giver obs ops ∷ steps) steps refl (open_ends giver obs ops steps) u, one_more_name giver.0 (in_set (Listed obs) x && has_op ops op) (openers steps x op) u, eqb-flip u giver.0)
    (go (eqb giver.0 u) refl (lists (openers steps x op) u) (in_set (Listed obs) x) (has_op ops op)) where
      go : (same : Bool) → eqb giver.0 u ≡ same → (opened inside covered : Bool)
          → (live steps u && ((same && (inside && covered)) || opened)) ≡ ((live steps u && opened) || (same && inside && covered))
      go false e opened inside covered = grind arith
      go true e opened inside covered = rw (subst (λ m. live steps m ≡ true) (eqb-true giver.0 u e) gives) (grind arith)

-- a live taker opens what the giver does, on what is handed over
pub opener_delegate : (giver taker : Txn) (obs : ObSet) (steps : List Step) → live steps giver.0 ≡ true → live steps taker.0 ≡ true → (u x : ℕ) (op : Op)
    → is_opener (Delegate giver taker obs ∷ steps) u x op ≡ (is_opener steps u x op || (eqb u taker.0 && (in_set obs x && holds_object steps giver.0 x) && is_opener steps giver.0 x op))
unfolding is_opener openers opened_by
opener_delegate giver taker obs steps gives takes u x op =
    rw (live_delegated giver taker obs steps u, one_more_name taker.0 ((in_set obs x && holds_object steps giver.0 x) && lists (openers steps x op) giver.0) (openers steps x op) u, gives, eqb-flip u taker.0)
    (go (eqb taker.0 u) refl (lists (openers steps x op) u) (in_set obs x && holds_object steps giver.0 x) (lists (openers steps x op) giver.0)) where
      go : (same : Bool) → eqb taker.0 u ≡ same → (opened moves gave : Bool)
          → (live steps u && ((same && (moves && gave)) || opened)) ≡ ((live steps u && opened) || (same && moves && (true && gave)))
      go false e opened moves gave = grind arith
      go true e opened moves gave = rw (subst (λ m. live steps m ≡ true) (eqb-true taker.0 u e) takes) (grind arith)

-- who leads to an opener by the descriptors does by the history
pub reaches_shown : (descriptors : List Descriptor) (steps : List Step) (x : ℕ) (op : Op) → ((a : ℕ) → opens descriptors a x op ≡ is_opener steps a x op) → (u : ℕ) → ((a : ℕ) → leads_by descriptors u a x op ≡ permits_along steps u a x op)
    → Permits.reaches_opener descriptors u x op ≡ reaches_opener steps u x op
unfolding reaches_opener is_opener
reaches_shown descriptors steps x op opened u leads = both_follow _ _
    (λ h.
    let found = opener_of descriptors u x op h in
    let parts = and_parts (live steps found.0) _ (sym (opened found.0) ∙ found.1) in
    listed_any (λ a. live steps a && permits_along steps u a x op) (openers steps x op) found.0 parts.1 (and_from _ _ parts.0 (sym (leads found.0) ∙ found.2)))
    (λ h.
    let found = name_of_any (λ a. live steps a && permits_along steps u a x op) (openers steps x op) h in
    let parts = and_parts (live steps found.0) _ found.2 in
    reaches_by_opener descriptors u found.0 x op (opened found.0 ∙ and_from _ _ parts.0 found.1) (leads found.0 ∙ parts.1))
