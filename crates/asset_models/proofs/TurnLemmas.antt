-- Acts of two transactions in turn.
use Rattle.std.proofs.Common.{◌≡◌, List, [], ◌∷◌, Bool, true, false, cond, refl, length, arith}
use Rattle.std.specs.Prelude.{Result, Ok, Err, Option, IfOk, IfErr}
use Rattle.asset_names.specs.declared.names.Txn.{Txn}
use Rattle.asset_names.specs.declared.replies.Fault.{Fault}
use Rattle.asset_names.specs.Steps.{Entry}
use Rattle.asset_models.specs.declared.parts.Act.{Act}
use Rattle.asset_models.specs.declared.parts.ModelEnd.{ModelEnd}
use Rattle.asset_models.specs.Courses.{Course, IsRun, act_course, acts_course, acts_of, turns}
use Rattle.asset_models.specs.declared.parts.Cut.{Cut}
use Rattle.asset_models.specs.Follows.{Follows, after_acts, cut_end}
use Rattle.asset_models.proofs.RunLemmas.{then, then_run}

-- acts in turn
pub turn_done : (t u : Txn) (act other : Act) (acts more others rest : List Act) → acts ≡ act ∷ more → others ≡ other ∷ rest → (one two : Bool) → one ≡ true → two ≡ true → (next : Course) (failed : Txn → Course) (old between new : List Entry)
    → ((next' failed' : Course) → Follows (act_course t act next' failed') old (cond one next' failed') between)
    → ((next' failed' : Course) → Follows (act_course u other next' failed') between (cond two next' failed') new)
    → Follows (acts_course (turns t u acts others) next failed) old (acts_course (turns t u more rest) next failed) new
unfolding acts_course turns
turn_done t u act other acts more others rest split split' one two is is' next failed old between new first second =
    rw (split, split') (then (rw is at (first (act_course u other (acts_course (turns t u more rest) next failed) (failed u)) (failed t))) (rw is' at (second (acts_course (turns t u more rest) next failed) (failed u))))

pub turn_first_failed : (t u : Txn) (act other : Act) (acts more others rest : List Act) → acts ≡ act ∷ more → others ≡ other ∷ rest → (one : Bool) → one ≡ false → (next : Course) (failed : Txn → Course) (old new : List Entry)
    → ((next' failed' : Course) → Follows (act_course t act next' failed') old (cond one next' failed') new)
    → Follows (acts_course (turns t u acts others) next failed) old (failed t) new
unfolding acts_course turns
turn_first_failed t u act other acts more others rest split split' one is next failed old new first =
    rw (split, split') (rw is at (first (act_course u other (acts_course (turns t u more rest) next failed) (failed u)) (failed t)))

pub turn_second_failed : (t u : Txn) (act other : Act) (acts more others rest : List Act) → acts ≡ act ∷ more → others ≡ other ∷ rest → (one two : Bool) → one ≡ true → two ≡ false → (next : Course) (failed : Txn → Course) (old between new : List Entry)
    → ((next' failed' : Course) → Follows (act_course t act next' failed') old (cond one next' failed') between)
    → ((next' failed' : Course) → Follows (act_course u other next' failed') between (cond two next' failed') new)
    → Follows (acts_course (turns t u acts others) next failed) old (failed u) new
unfolding acts_course turns
turn_second_failed t u act other acts more others rest split split' one two is is' next failed old between new first second =
    rw (split, split') (then (rw is at (first (act_course u other (acts_course (turns t u more rest) next failed) (failed u)) (failed t))) (rw is' at (second (acts_course (turns t u more rest) next failed) (failed u))))

pub turn_first_cut : (t u : Txn) (act other : Act) (acts more others rest : List Act) → acts ≡ act ∷ more → others ≡ other ∷ rest → (next : Course) (failed : Txn → Course) (old new : List Entry) (result : Result ModelEnd Fault)
    → ((next' failed' : Course) → IsRun (act_course t act next' failed') old new result)
    → IsRun (acts_course (turns t u acts others) next failed) old new result
unfolding acts_course turns
turn_first_cut t u act other acts more others rest split split' next failed old new result first =
    rw (split, split') (first (act_course u other (acts_course (turns t u more rest) next failed) (failed u)) (failed t))

pub turn_second_cut : (t u : Txn) (act other : Act) (acts more others rest : List Act) → acts ≡ act ∷ more → others ≡ other ∷ rest → (one : Bool) → one ≡ true → (next : Course) (failed : Txn → Course) (old between new : List Entry) (result : Result ModelEnd Fault)
    → ((next' failed' : Course) → Follows (act_course t act next' failed') old (cond one next' failed') between)
    → ((next' failed' : Course) → IsRun (act_course u other next' failed') between new result)
    → IsRun (acts_course (turns t u acts others) next failed) old new result
unfolding acts_course turns
turn_second_cut t u act other acts more others rest split split' one is next failed old between new result first second =
    rw (split, split') (then_run (rw is at (first (act_course u other (acts_course (turns t u more rest) next failed) (failed u)) (failed t))) _ _ (second (acts_course (turns t u more rest) next failed) (failed u)))

-- when one has no more acts
pub no_other_left : (t u : Txn) (act : Act) (acts more others : List Act) → acts ≡ act ∷ more → length others ≡ 0 → turns t u acts others ≡ acts_of t acts
unfolding turns
no_other_left t u act acts more [] split none = rw split refl
no_other_left t u act acts more (other ∷ others) split none = absurd (omega arith)

pub no_first_left : (t u : Txn) (acts others : List Act) → length acts ≡ 0 → turns t u acts others ≡ acts_of u others
unfolding turns
no_first_left t u [] others none = refl
no_first_left t u (act ∷ acts) others none = absurd (omega arith)

-- the rest of the acts of one, once the other has none left
pub rest_follows : (t : Txn) (acts : List Act) (before left : List (Txn × Act)) → left ≡ acts_of t acts → (old now new : List Entry) (result : Result (Option Txn) Cut)
    → ((next : Course) (failed : Txn → Course) → Follows (acts_course before next failed) old (acts_course left next failed) now)
    → IfOk result (λ failing. (next : Course) (failed : Txn → Course) → Follows (acts_course (acts_of t acts) next failed) now (after_acts failing next failed) new)
    → IfOk result (λ failing. (next : Course) (failed : Txn → Course) → Follows (acts_course before next failed) old (after_acts failing next failed) new)
rest_follows t acts before left same old now new (Ok failing) first rest = λ next failed. then (first next failed) (rw same (rest next failed))
rest_follows t acts before left same old now new (Err cut) first rest = tt

pub rest_cut : (t : Txn) (acts : List Act) (before left : List (Txn × Act)) → left ≡ acts_of t acts → (old now new : List Entry) (result : Result (Option Txn) Cut)
    → ((next : Course) (failed : Txn → Course) → Follows (acts_course before next failed) old (acts_course left next failed) now)
    → IfErr result (λ cut. (next : Course) (failed : Txn → Course) → IsRun (acts_course (acts_of t acts) next failed) now new (cut_end cut))
    → IfErr result (λ cut. (next : Course) (failed : Txn → Course) → IsRun (acts_course before next failed) old new (cut_end cut))
rest_cut t acts before left same old now new (Ok failing) first rest = tt
rest_cut t acts before left same old now new (Err cut) first rest = λ next failed. then_run (first next failed) _ _ (rw same (rest next failed))
