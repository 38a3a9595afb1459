use Rattle.std.proofs.Common.{◌∙◌, ◌++◌, ◌∷◌, [], ℕ, cond, not, get_or, sym, ap}
use Rattle.std.proofs.lemmas.List.{append-nil}
use Rattle.asset_names.specs.Arrows.{lists}
use Rattle.asset_cycles.proofs.TrimLemmas.{no_arrows_left, one_left}
use Rattle.asset_cycles.proofs.trimming.left.Goals as goal
use Rattle.asset_cycles.proofs.trimming.left.Goals.{then-is_left+in_ok-push, else-is_left}

pub arrows-init : goal.arrows-init
arrows-init c = c.new-left.ensures.items ∙ sym (no_arrows_left (λ n. not (lists c.args.taken.now.nodes n)))

pub arrows-preserved : goal.arrows-preserved
arrows-preserved c =
    let arrows = c.args.arrows.now in
    let k = c.arrows.arrow-index in
    let test = λ (n : ℕ). not (lists c.args.taken.now.nodes n) in
    let left = c.arrows.left.items in
    one_left test arrows k left c.if-is_left.left.items c.is_left.result c.arrows-test.true c.is_left.ensures c.arrows.invariant (elim c.if-is_left.branch [
      | then-is_left+in_ok-push w ↦ ap (λ v. v.items) w.left-is ∙ w.in_ok-push.ensures.items ∙ ap (λ b. left ++ cond b (get_or arrows k (0, 0) ∷ []) []) (sym w.if-is_left.true)
      | else-is_left w ↦ ap (λ v. v.items) w.left-is ∙ sym (append-nil left) ∙ ap (λ b. left ++ cond b (get_or arrows k (0, 0) ∷ []) []) (sym w.if-is_left.false)
    ])
