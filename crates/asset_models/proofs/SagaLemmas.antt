-- The pairs of a saga, by their number.
use Rattle.std.proofs.Common.{◌≡◌, ℕ, suc, ◌+◌, ◌-◌, ◌<◌, ◌≤◌, List, [], ◌∷◌, ◌++◌, length, get_or, take, drop, refl, sym, ◌∙◌, ap, arith, add-one}
use Rattle.std.proofs.Math.Seq.{take-suc, drop-cons}
use Rattle.std.proofs.lemmas.List.{drop_all}
use Rattle.std.specs.Prelude.{Result, Ok}
use Rattle.asset_names.specs.declared.steps.Step.{Step}
use Rattle.asset_names.specs.declared.replies.Fault.{Fault}
use Rattle.asset_names.specs.Steps.{Entry}
use Rattle.asset_models.specs.declared.parts.Part.{Part}
use Rattle.asset_models.specs.declared.parts.ModelEnd.{ModelEnd}
use Rattle.asset_models.specs.declared.parts.ModelEnd.TheVariants as End'
use Rattle.asset_models.specs.declared.single.Settled.{Settled}
use Rattle.asset_models.specs.declared.single.Settled.TheVariants as Settled'
use Rattle.asset_models.specs.Courses.{Course, IsRun, part_course, undo_course, saga_from}
use Rattle.asset_models.specs.Follows.{Follows, settled_course, undone}
use Rattle.asset_models.specs.Courses.Course.{ends}
use Rattle.asset_models.proofs.RunLemmas.{ended}

abbrev Pair : Type 0
Pair = Part × Part

-- one more pair comes to be undone first
undone_more : (undo : Course) (pairs : List Pair) (pair : Pair) → undone undo (pairs ++ pair ∷ []) ≡ undo_course pair.1 (undone undo pairs)
unfolding undone
undone_more undo [] pair = refl
undone_more undo (first ∷ pairs) pair = undone_more (undo_course first.1 undo) pairs pair

undone_next : (undo : Course) (pairs : List Pair) (n : ℕ) (pair : Pair) → n < length pairs → pair ≡ get_or pairs n pair → undone undo (take (n + 1) pairs) ≡ undo_course pair.1 (undone undo (take n pairs))
undone_next undo pairs n pair within is =
    ap (λ (some : List Pair). undone undo some)
    (ap (λ (k : ℕ). take k pairs) (add-one n) ∙ take-suc pairs n pair within ∙ ap (λ (p : Pair). take n pairs ++ p ∷ []) (sym is))
    ∙ undone_more undo (take n pairs) pair

left_next : (pairs : List Pair) (n : ℕ) (pair : Pair) → n < length pairs → pair ≡ get_or pairs n pair → drop n pairs ≡ pair ∷ drop (n + 1) pairs
left_next pairs n pair within is = drop-cons pairs n pair within ∙ ap (λ (p : Pair). p ∷ drop (suc n) pairs) (sym is) ∙ ap (λ (k : ℕ). pair ∷ drop k pairs) (sym (add-one n))

none_after : (pairs : List Pair) (n : ℕ) → length pairs ≤ n → drop n pairs ≡ []
none_after pairs n beyond = drop_all n pairs beyond

-- the first part of a pair
pub first_committed : (pairs : List Pair) (n : ℕ) (pair : Pair) → n < length pairs → pair ≡ get_or pairs n pair → (undo : Course) (settled : Settled) → settled ≡ Settled'.Committed → (old new : List Entry)
    → ((committed : Course) (aborted : Step → Course) → Follows (part_course pair.0 committed aborted) old (settled_course settled committed aborted) new)
    → Follows (saga_from (drop n pairs) (undone undo (take n pairs))) old (saga_from (drop (n + 1) pairs) (undone undo (take (n + 1) pairs))) new
unfolding saga_from settled_course
first_committed pairs n pair within is undo settled done old new goes =
    rw (left_next pairs n pair within is, undone_next undo pairs n pair within is)
    (rw done at (goes (saga_from (drop (n + 1) pairs) (undo_course pair.1 (undone undo (take n pairs)))) (λ step. undone undo (take n pairs))))

pub first_aborted : (pairs : List Pair) (n : ℕ) (pair : Pair) → n < length pairs → pair ≡ get_or pairs n pair → (undo : Course) (settled : Settled) (step : Step) → settled ≡ Settled'.Aborted step → (old new : List Entry)
    → ((committed : Course) (aborted : Step → Course) → Follows (part_course pair.0 committed aborted) old (settled_course settled committed aborted) new)
    → Follows (saga_from (drop n pairs) (undone undo (take n pairs))) old (undone undo (take n pairs)) new
unfolding saga_from settled_course
first_aborted pairs n pair within is undo settled step done old new goes =
    rw (left_next pairs n pair within is)
    (rw done at (goes (saga_from (drop (n + 1) pairs) (undo_course pair.1 (undone undo (take n pairs)))) (λ s. undone undo (take n pairs))))

pub first_cut : (pairs : List Pair) (n : ℕ) (pair : Pair) → n < length pairs → pair ≡ get_or pairs n pair → (undo : Course) (old new : List Entry) (result : Result ModelEnd Fault)
    → ((committed : Course) (aborted : Step → Course) → IsRun (part_course pair.0 committed aborted) old new result)
    → IsRun (saga_from (drop n pairs) (undone undo (take n pairs))) old new result
unfolding saga_from
first_cut pairs n pair within is undo old new result goes =
    rw (left_next pairs n pair within is) (goes (saga_from (drop (n + 1) pairs) (undo_course pair.1 (undone undo (take n pairs)))) (λ s. undone undo (take n pairs)))

pub all_committed : (pairs : List Pair) (n : ℕ) → length pairs ≤ n → (undo : Course) (calls : List Entry) → IsRun (saga_from (drop n pairs) undo) calls calls (Ok End'.Committed)
unfolding saga_from
all_committed pairs n beyond undo calls = rw (none_after pairs n beyond) (ended End'.Committed calls)

-- the second part of a pair
one_less : (left : ℕ) → 0 < left → left ≡ left - 1 + 1
one_less left some = omega arith

pub second_committed : (pairs : List Pair) (left : ℕ) (pair : Pair) → 0 < left → left ≤ length pairs → pair ≡ get_or pairs (left - 1) pair → (undo : Course) (settled : Settled) → settled ≡ Settled'.Committed → (old new : List Entry)
    → ((committed : Course) (aborted : Step → Course) → Follows (part_course pair.1 committed aborted) old (settled_course settled committed aborted) new)
    → Follows (undone undo (take left pairs)) old (undone undo (take (left - 1) pairs)) new
unfolding undo_course settled_course
second_committed pairs left pair some within is undo settled done old new goes =
    let below : left - 1 < length pairs = omega arith in
    let same : undone undo (take left pairs) ≡ undo_course pair.1 (undone undo (take (left - 1) pairs)) = ap (λ (k : ℕ). undone undo (take k pairs)) (one_less left some) ∙ undone_next undo pairs (left - 1) pair below is in
    rw same (rw done at (goes (undone undo (take (left - 1) pairs)) (λ step. ends (End'.Stopped step))))

pub second_aborted : (pairs : List Pair) (left : ℕ) (pair : Pair) → 0 < left → left ≤ length pairs → pair ≡ get_or pairs (left - 1) pair → (undo : Course) (settled : Settled) (step : Step) → settled ≡ Settled'.Aborted step → (old new : List Entry)
    → ((committed : Course) (aborted : Step → Course) → Follows (part_course pair.1 committed aborted) old (settled_course settled committed aborted) new)
    → IsRun (undone undo (take left pairs)) old new (Ok (End'.Stopped step))
unfolding undo_course settled_course
second_aborted pairs left pair some within is undo settled step done old new goes =
    let below : left - 1 < length pairs = omega arith in
    let same : undone undo (take left pairs) ≡ undo_course pair.1 (undone undo (take (left - 1) pairs)) = ap (λ (k : ℕ). undone undo (take k pairs)) (one_less left some) ∙ undone_next undo pairs (left - 1) pair below is in
    rw same ((rw done at (goes (undone undo (take (left - 1) pairs)) (λ s. ends (End'.Stopped s)))).goes _ _ (ended (End'.Stopped step) new))

pub second_cut : (pairs : List Pair) (left : ℕ) (pair : Pair) → 0 < left → left ≤ length pairs → pair ≡ get_or pairs (left - 1) pair → (undo : Course) (old new : List Entry) (result : Result ModelEnd Fault)
    → ((committed : Course) (aborted : Step → Course) → IsRun (part_course pair.1 committed aborted) old new result)
    → IsRun (undone undo (take left pairs)) old new result
unfolding undo_course
second_cut pairs left pair some within is undo old new result goes =
    let below : left - 1 < length pairs = omega arith in
    let same : undone undo (take left pairs) ≡ undo_course pair.1 (undone undo (take (left - 1) pairs)) = ap (λ (k : ℕ). undone undo (take k pairs)) (one_less left some) ∙ undone_next undo pairs (left - 1) pair below is in
    rw same (goes (undone undo (take (left - 1) pairs)) (λ s. ends (End'.Stopped s)))

pub none_to_undo : (pairs : List Pair) (left : ℕ) → left ≡ 0 → (calls : List Entry) → IsRun (undone (ends End'.Undone) (take left pairs)) calls calls (Ok End'.Undone)
unfolding undone
none_to_undo pairs left none calls = rw none (ended End'.Undone calls)
