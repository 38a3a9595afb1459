use Rattle.std.proofs.Common.{◌∙◌, ◌++◌, ◌∷◌, [], cond, sym, ap, arith}
use Rattle.std.proofs.lemmas.List.{append-nil}
use Rattle.asset_cycles.proofs.MemberLemmas.{one_own, all_own}
use Rattle.asset_cycles.proofs.cycles.own_labels.Goals as goal
use Rattle.asset_cycles.proofs.cycles.own_labels.Goals.{then-eq+in_ok-push, else-eq}

pub nodes-preserved : goal.nodes-preserved
nodes-preserved c =
    let labels = c.args.labels.now in
    let node = c.nodes.node in
    let own = c.nodes.own.items in
    one_own labels node own c.if-eq.own.items c.eq.result c.eq.ensures c.nodes.invariant (elim c.if-eq.branch [
      | then-eq+in_ok-push w ↦ ap (λ v. v.items) w.own-is ∙ w.in_ok-push.ensures.items ∙ ap (λ b. own ++ cond b (node ∷ []) []) (sym w.if-eq.true)
      | else-eq w ↦ ap (λ v. v.items) w.own-is ∙ sym (append-nil own) ∙ ap (λ b. own ++ cond b (node ∷ []) []) (sym w.if-eq.false)
    ])

pub returns : goal.returns
returns c = c.nodes.invariant ∙ all_own c.args.labels.now c.nodes.node (omega (arith, c.nodes-test.false, c.nodes.auto.node-end))
