-- Which permits stand, by the table and by the history, and how that changes with a step.
use Rattle.std.proofs.Common.{◌≡◌, ℕ, Bool, true, false, not, eqb, ◌&&◌, ◌||◌, List, ◌∷◌, refl, sym, ◌∙◌, ap, subst, arith}
use Rattle.std.proofs.lemmas.Bool.{eqb-true, false≢true}
use Rattle.asset_names.specs.declared.names.Txn.{Txn}
use Rattle.asset_names.specs.declared.operations.Op.{Op}
use Rattle.asset_names.specs.declared.sets.ObSet.{ObSet}
use Rattle.asset_names.specs.declared.steps.Step.{Step}
use Rattle.asset_names.specs.declared.steps.Step.TheVariants.{Initiate, Permit}
use Rattle.asset_names.specs.InSet.{in_set}
use Rattle.asset_names.specs.Arrows.{lists, has_arrow}
use Rattle.asset_names.specs.Steps.{initiated, initiated_by}
use Rattle.asset_names.specs.Endings.{live, end_of, ended_by}
use Rattle.asset_names.specs.Operations.{permits, permitted_by}
use Rattle.asset_names.specs.OpSets.{has_op, OpSet}
use Rattle.asset_names.specs.Orderly.{IsOrderly}
use Rattle.asset_names.proofs.LiveLemmas.{live_initiate}
use Rattle.asset_names.proofs.PermitLemmas.{arrows_permitted}
use Rattle.asset_names.proofs.Common.{eqb-flip, option_or_none}
use Rattle.asset_ends.specs.Shows.{permitted}
use Rattle.asset_permits.specs.Descriptors.{Descriptor, one_covers, opens}
use Rattle.asset_ends.proofs.HistoryLemmas.{live_quiet}

-- one more descriptor covers what it says, and nothing else is covered
abbrev pub IsAdded : ℕ → ℕ → ObSet → OpSet → List Descriptor → List Descriptor → Type 0
IsAdded giver taker obs ops before later =
    (u n x : ℕ) (op : Op) → one_covers later u n x op ≡ (one_covers before u n x op || (eqb u giver && eqb n taker && in_set obs x && has_op ops op))

-- what anybody may do is as it was
abbrev pub OpensSame : List Descriptor → List Descriptor → Type 0
OpensSame before later = (u x : ℕ) (op : Op) → opens later u x op ≡ opens before u x op

-- what is permitted by name is as it was
abbrev pub CoversSame : List Descriptor → List Descriptor → Type 0
CoversSame before later = (u n x : ℕ) (op : Op) → one_covers later u n x op ≡ one_covers before u n x op

-- a step that initiates nobody, ends nobody and permits nothing leaves each permit
pub permitted_quiet : (later steps : List Step) → initiated later ≡ initiated steps → ((n : ℕ) → end_of later n ≡ end_of steps n) → ((x : ℕ) (op : Op) → permits later x op ≡ permits steps x op)
    → (u n x : ℕ) (op : Op) → permitted later u n x op ≡ permitted steps u n x op
unfolding permitted
permitted_quiet later steps names ends arrows u n x op = rw (live_quiet later steps names ends u, live_quiet later steps names ends n, arrows x op)

-- a new name was not permitted anything, and permitted nothing
pub permitted_initiate : (t : Txn) (parent : _) (steps : List Step) → lists (initiated steps) t.0 ≡ false → IsOrderly steps → (u n x : ℕ) (op : Op) → permitted (Initiate t parent ∷ steps) u n x op ≡ permitted steps u n x op
unfolding permitted permits permitted_by
permitted_initiate t parent steps new orderly u n x op =
    rw (live_initiate t parent steps u new, live_initiate t parent steps n new) (go (eqb t.0 u) refl (eqb t.0 n) refl (has_arrow (permits steps x op) u n) refl) where
      absent : (m : ℕ) → eqb t.0 m ≡ true → lists (initiated steps) m ≡ true → false ≡ true
      absent m e known = sym new ∙ ap (lists (initiated steps)) (eqb-true t.0 m e) ∙ known

      go : (from : Bool) → eqb t.0 u ≡ from → (to : Bool) → eqb t.0 n ≡ to → (arrow : Bool) → has_arrow (permits steps x op) u n ≡ arrow
          → ((from || live steps u) && (to || live steps n) && arrow) ≡ (live steps u && live steps n && arrow)
      go from e to f false h = grind arith
      go false e false f true h = refl
      go true e to f true h = absurd (false≢true (absent u e (orderly.permits_known u n x op h).0))
      go false e true f true h = absurd (false≢true (absent n f (orderly.permits_known u n x op h).1))

-- some end, and their permits go
pub permitted_end : (later steps : List Step) (test : ℕ → Bool) → ((n : ℕ) → live later n ≡ (not (test n) && live steps n)) → ((x : ℕ) (op : Op) → permits later x op ≡ permits steps x op)
    → (u n x : ℕ) (op : Op) → permitted later u n x op ≡ (permitted steps u n x op && not (test u) && not (test n))
unfolding permitted
permitted_end later steps test alive arrows u n x op = rw (alive u, alive n, arrows x op) (grind arith)

-- a permit ends nobody
pub permit_ends : (giver taker : Txn) (obs : ObSet) (ops : OpSet) (steps : List Step) (n : ℕ) → end_of (Permit giver taker obs ops ∷ steps) n ≡ end_of steps n
unfolding end_of ended_by
permit_ends giver taker obs ops steps n = option_or_none (end_of steps n)

-- one more permit between live transactions
pub permitted_permit : (giver taker : Txn) (obs : ObSet) (ops : OpSet) (steps : List Step) → live steps giver.0 ≡ true → live steps taker.0 ≡ true
    → (u n x : ℕ) (op : Op) → permitted (Permit giver taker obs ops ∷ steps) u n x op ≡ (permitted steps u n x op || (eqb u giver.0 && eqb n taker.0 && in_set obs x && has_op ops op))
unfolding permitted initiated initiated_by
permitted_permit giver taker obs ops steps gives takes u n x op =
    let same_live : (m : ℕ) → live (Permit giver taker obs ops ∷ steps) m ≡ live steps m = live_quiet (Permit giver taker obs ops ∷ steps) steps refl (permit_ends giver taker obs ops steps) in
    rw (same_live u, same_live n, arrows_permitted giver taker obs ops steps x op u n, eqb-flip u giver.0, eqb-flip n taker.0) (go (eqb giver.0 u) refl (eqb taker.0 n) refl) where
      arrow : Bool
      arrow = has_arrow (permits steps x op) u n

      covered : Bool
      covered = in_set obs x && has_op ops op

      go : (from : Bool) → eqb giver.0 u ≡ from → (to : Bool) → eqb taker.0 n ≡ to
          → (live steps u && live steps n && ((from && to && covered) || arrow)) ≡ ((live steps u && live steps n && arrow) || (from && to && in_set obs x && has_op ops op))
      go false e to f = grind arith
      go true e false f = grind arith
      go true e true f = rw (subst (λ m. live steps m ≡ true) (eqb-true giver.0 u e) gives, subst (λ m. live steps m ≡ true) (eqb-true taker.0 n f) takes) (grind arith)
