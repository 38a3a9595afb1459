use Rattle.std.proofs.Common.{◌≡◌, ◌<◌, ◌&&◌, not, eqb, ℕ, ◌∙◌, sym, subst, length, refl, arith}
use Rattle.asset_names.specs.Arrows.{lists}
use Rattle.asset_names.proofs.ListLemmas.{lists_at}
use Rattle.asset_deps.proofs.OutsideLemmas.{forgotten_none, forgotten_next, forgotten_all}
use Rattle.asset_deps.proofs.outside.forget_members.Goals as goal

pub members-init : goal.members-init
members-init c = (refl, forgotten_none c.args.class.now.nodes c.args.found.now.nodes)

pub forget-requires : goal.forget-requires
forget-requires c =
    let below : c.members.next < length c.args.class.now.nodes = omega (arith, c.members-test.true, c.len.ensures.len) in
    subst (λ n. c.node.result < n) (sym c.members.invariant.0) (c.requires c.node.result (lists_at c.args.class.now.nodes c.node.result c.members.next below (sym c.node.ensures.node)))

pub members-preserved : goal.members-preserved
members-preserved c =
    let below : c.members.next < length c.args.class.now.nodes = omega (arith, c.members-test.true, c.len.ensures.len) in (
      c.forget.ensures.size ∙ c.members.invariant.0,
      forgotten_next c.args.class.now.nodes c.args.found.now.nodes c.members.found.nodes c.forget.new.self.nodes c.members.next c.members.invariant.1 below
          (subst (λ k. (n : ℕ) → lists c.forget.new.self.nodes n ≡ (lists c.members.found.nodes n && not (eqb n k))) c.node.ensures.node c.forget.ensures.nodes),
    )

pub returns-clause-left : goal.returns-clause-left
returns-clause-left c = forgotten_all c.args.class.now.nodes c.args.found.now.nodes c.members.found.nodes c.members.next c.members.invariant.1 (omega (arith, c.members-test.false, c.len.ensures.len))
