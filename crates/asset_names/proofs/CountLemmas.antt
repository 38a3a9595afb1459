-- Counts never fall as a history grows, and none is above the number of entries.
use Rattle.std.proofs.Common.{◌≡◌, ℕ, suc, ◌≤◌, Bool, true, false, cond, ◌&&◌, List, [], ◌∷◌, length, refl, sym, ◌∙◌, arith, le_refl, le_trans, Some, None}
use Rattle.std.specs.Prelude.{Option}
use Rattle.std.specs.Option.{option_or}
use Rattle.std.specs.List.{count_by}
use Rattle.std.proofs.lemmas.Bool.{false≢true, and_parts, and_from, or_right}
use Rattle.std.proofs.lemmas.List.Sums.{sum_by-cons, count_by-le-length}
use Rattle.asset_names.specs.declared.steps.Step.{Step}
use Rattle.asset_names.specs.declared.steps.Step.TheVariants.{Initiate, Begin, Read, Write, Add, Complete, Permit, PermitAny, Delegate, Depend, Commit, Abort, WaitFor}
use Rattle.asset_names.specs.declared.statuses.End.{End}
use Rattle.asset_names.specs.declared.statuses.End.TheVariants as End'
use Rattle.asset_names.specs.Arrows.{lists}
use Rattle.asset_names.specs.Steps.{Entry, takes_effect, applied, initiated, initiated_by, begun, completed}
use Rattle.asset_names.specs.Endings.{end_of, status, status_of}
use Rattle.asset_names.specs.declared.counts.Counts.{Counts}
use Rattle.asset_names.specs.Counted.{has_end, ended_count, counts_of, IsBelow}

-- whether an end is this one
is_end : End → Option End → Bool
is_end End'.Committed (Some End'.Committed) = true
is_end End'.Aborted (Some End'.Aborted) = true
is_end how end = false

-- who has ended in a way was initiated, and has that end
end_by_parts : (how : End) (i b c : Bool) (e : Option End) → has_end how (status_of i b c e) ≡ (i && is_end how e)
unfolding has_end status_of is_end
end_by_parts End'.Committed false b c e = refl
end_by_parts End'.Aborted false b c e = refl
end_by_parts End'.Committed true b c (Some End'.Committed) = refl
end_by_parts End'.Committed true b c (Some End'.Aborted) = refl
end_by_parts End'.Aborted true b c (Some End'.Committed) = refl
end_by_parts End'.Aborted true b c (Some End'.Aborted) = refl
end_by_parts End'.Committed true b true None = refl
end_by_parts End'.Committed true true false None = refl
end_by_parts End'.Committed true false false None = refl
end_by_parts End'.Aborted true b true None = refl
end_by_parts End'.Aborted true true false None = refl
end_by_parts End'.Aborted true false false None = refl

-- an end stays
end_stays : (how : End) (first later : Option End) → is_end how first ≡ true → is_end how (option_or first later) ≡ true
unfolding is_end
end_stays how (Some end) later h = h
end_stays End'.Committed None later h = absurd (false≢true h)
end_stays End'.Aborted None later h = absurd (false≢true h)

-- a name that was initiated stays so
pub initiated_stays : (step : Step) (steps : List Step) (n : ℕ) → lists (initiated steps) n ≡ true → lists (initiated (step ∷ steps)) n ≡ true
unfolding initiated initiated_by lists
initiated_stays (Initiate t parent) steps n h = or_right _ _ h
initiated_stays (Begin t) steps n h = h
initiated_stays (Read t x) steps n h = h
initiated_stays (Write t x v) steps n h = h
initiated_stays (Add t x v) steps n h = h
initiated_stays (Complete t) steps n h = h
initiated_stays (Permit giver taker obs ops) steps n h = h
initiated_stays (Delegate giver taker obs) steps n h = h
initiated_stays (Depend kind a b) steps n h = h
initiated_stays (Commit t) steps n h = h
initiated_stays (Abort t) steps n h = h
initiated_stays (PermitAny giver obs ops) steps n h = h
initiated_stays (WaitFor t) steps n h = h

-- who has ended stays ended in the same way
has_end_stays : (how : End) (step : Step) (steps : List Step) (n : ℕ) → has_end how (status steps n) ≡ true → has_end how (status (step ∷ steps) n) ≡ true
unfolding status end_of
has_end_stays how step steps n h =
    let before = and_parts (lists (initiated steps) n) (is_end how (end_of steps n)) (sym (end_by_parts how (lists (initiated steps) n) (lists (begun steps) n) (lists (completed steps) n) (end_of steps n)) ∙ h) in
    end_by_parts how (lists (initiated (step ∷ steps)) n) (lists (begun (step ∷ steps)) n) (lists (completed (step ∷ steps)) n) (end_of (step ∷ steps) n)
    ∙ and_from _ _ (initiated_stays step steps n before.0) (end_stays how (end_of steps n) _ before.1)

-- what holds of more names is counted no less often
count_more : (f g : ℕ → Bool) (names : List ℕ) → ((n : ℕ) → f n ≡ true → g n ≡ true) → count_by f names ≤ count_by g names
count_more f g [] more = le_refl _
count_more f g (n ∷ names) more =
    let one = go (f n) (g n) (more n) in
    omega (arith, one, count_more f g names more, sum_by-cons (λ m. cond (f m) 1 0) n names, sum_by-cons (λ m. cond (g m) 1 0) n names)
  where
    go : (a b : Bool) → (a ≡ true → b ≡ true) → cond a 1 0 ≤ cond b 1 0
    go true b more = rw (more refl) (le_refl _)
    go false true more = omega arith
    go false false more = le_refl _

-- one name more is counted no less
count_cons : (f : ℕ → Bool) (n : ℕ) (names : List ℕ) → count_by f names ≤ count_by f (n ∷ names)
count_cons f n names = omega (arith, sum_by-cons (λ m. cond (f m) 1 0) n names)

-- a step ends nobody less
pub ended_grows : (how : End) (step : Step) (steps : List Step) → ended_count how steps ≤ ended_count how (step ∷ steps)
unfolding ended_count initiated initiated_by
ended_grows how step steps = le_trans (count_more _ (λ n. has_end how (status (step ∷ steps) n)) (initiated steps) (λ n. has_end_stays how step steps n)) (go step (λ n. has_end how (status (step ∷ steps) n))) where
  go : (one : Step) (f : ℕ → Bool) → count_by f (initiated steps) ≤ count_by f (initiated (one ∷ steps))
  go (Initiate t parent) f = count_cons f t.0 (initiated steps)
  go (Begin t) f = le_refl _
  go (Read t x) f = le_refl _
  go (Write t x v) f = le_refl _
  go (Add t x v) f = le_refl _
  go (Complete t) f = le_refl _
  go (Permit giver taker obs ops) f = le_refl _
  go (Delegate giver taker obs) f = le_refl _
  go (Depend kind a b) f = le_refl _
  go (Commit t) f = le_refl _
  go (Abort t) f = le_refl _
  go (PermitAny giver obs ops) f = le_refl _
  go (WaitFor t) f = le_refl _

-- no more transactions are initiated than steps are asked, and no more steps take effect than there are entries
initiated_most : (steps : List Step) → length (initiated steps) ≤ length steps
unfolding initiated initiated_by
initiated_most [] = le_refl _
initiated_most (Initiate t parent ∷ steps) = omega (arith, initiated_most steps)
initiated_most (Begin t ∷ steps) = omega (arith, initiated_most steps)
initiated_most (Read t x ∷ steps) = omega (arith, initiated_most steps)
initiated_most (Write t x v ∷ steps) = omega (arith, initiated_most steps)
initiated_most (Add t x v ∷ steps) = omega (arith, initiated_most steps)
initiated_most (Complete t ∷ steps) = omega (arith, initiated_most steps)
initiated_most (Permit giver taker obs ops ∷ steps) = omega (arith, initiated_most steps)
initiated_most (Delegate giver taker obs ∷ steps) = omega (arith, initiated_most steps)
initiated_most (Depend kind a b ∷ steps) = omega (arith, initiated_most steps)
initiated_most (Commit t ∷ steps) = omega (arith, initiated_most steps)
initiated_most (Abort t ∷ steps) = omega (arith, initiated_most steps)
initiated_most (PermitAny giver obs ops ∷ steps) = omega (arith, initiated_most steps)
initiated_most (WaitFor t ∷ steps) = omega (arith, initiated_most steps)

applied_most : (entries : List Entry) → length (applied entries) ≤ length entries
unfolding applied
applied_most [] = le_refl _
applied_most (entry ∷ older) = go (takes_effect entry.0 entry.1) (applied_most older) where
  go : (effect : Bool) → length (applied older) ≤ length older → length (cond effect (entry.0 ∷ applied older) (applied older)) ≤ suc (length older)
  go true h = omega (arith, h)
  go false h = omega (arith, h)

-- no more transactions have ended than there are entries
pub ended_most : (how : End) (entries : List Entry) → ended_count how (applied entries) ≤ length entries
unfolding ended_count
ended_most how entries = le_trans (count_by-le-length _ (initiated (applied entries))) (le_trans (initiated_most (applied entries)) (applied_most entries))

-- an entry more makes no count fall
pub counts_grow : (entry : Entry) (older : List Entry) → IsBelow (counts_of older) (counts_of (entry ∷ older))
unfolding counts_of applied
counts_grow entry older = record { entries = omega arith; committed = go End'.Committed (takes_effect entry.0 entry.1); aborted = go End'.Aborted (takes_effect entry.0 entry.1) } where
  go : (how : End) (effect : Bool) → ended_count how (applied older) ≤ ended_count how (cond effect (entry.0 ∷ applied older) (applied older))
  go how true = ended_grows how entry.0 (applied older)
  go how false = le_refl _

pub below_itself : (counts : Counts) → IsBelow counts counts
below_itself counts = record { entries = le_refl _; committed = le_refl _; aborted = le_refl _ }

pub below_through : (first second third : Counts) → IsBelow first second → IsBelow second third → IsBelow first third
below_through first second third a b = record { entries = le_trans a.entries b.entries; committed = le_trans a.committed b.committed; aborted = le_trans a.aborted b.aborted }
