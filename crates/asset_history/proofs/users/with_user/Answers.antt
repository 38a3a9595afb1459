use Rattle.std.proofs.Common.{length, arith, ap, inl, inr}
use Rattle.asset_names.specs.Steps.{applied}
use Rattle.asset_history.specs.Uses.{opens, operates}
use Rattle.asset_history.specs.Users.{uses_as, node_in, chain_in}
use Rattle.asset_history.proofs.ChainLemmas.{in_none}
use Rattle.asset_history.proofs.LabelLemmas.{joined_none}
use Rattle.asset_history.proofs.SaidLemmas.{said_first, said_more, said_met, said_more_met, together_now, together_met, beq_true}
use Rattle.asset_history.proofs.users.with_user.Goals as goal

pub with_other-longer-requires-clause-node : goal.with_other-longer-requires-clause-node
unfolding node_in
with_other-longer-requires-clause-node c = let within = c.requires.within.node in rw c.in-OneSide.is at within

pub with_other-longer-requires-clause-linked : goal.with_other-longer-requires-clause-linked
unfolding chain_in
with_other-longer-requires-clause-linked c = let linked = c.requires.within.linked in rw c.in-OneSide.is at linked

pub with_other-longer-requires-clause-chained : goal.with_other-longer-requires-clause-chained
unfolding chain_in
with_other-longer-requires-clause-chained c = let chained = c.requires.within.chained in rw c.in-OneSide.is at chained

pub returns-then-opens-used-clause-within : goal.returns-then-opens-used-clause-within
unfolding node_in chain_in
returns-then-opens-used-clause-within c =
    let node = c.requires.within.node in
    let chained = c.requires.within.chained in
    let longer = c.with_other-longer.ensures in
    record {
      node = rw c.in-OneSide.is at node;
      linked = longer.linked;
      chained = λ other h. elim (longer.only other h) [
        | inl was ↦ (rw c.in-OneSide.is at chained) other was
        | inr is ↦ omega (arith, is, c.requires.node)
      ];
    }

pub returns-then-opens-used-clause-said : goal.returns-then-opens-used-clause-said
unfolding uses_as
returns-then-opens-used-clause-said c = λ all openers operators user among_openers among_operators said.
    let x = c.args.used.x.0 in
    let g = c.args.groups.now in
    let longer = c.with_other-longer in (
      joined_none all g,
      rw (beq_true c.in-OneSide.opens c.args.used.opens c.if-opens-used.true)
          (said_more g c.args.links.now.links longer.new.links.links openers operators (λ a. opens (applied all) a x) (λ t. operates (applied all) t x) c.in-OneSide.opens c.in-OneSide.node c.in-OneSide.chain longer.result c.args.used.node c.requires.node (rw (beq_true c.in-OneSide.opens c.args.used.opens c.if-opens-used.true) at user) (record { linked = longer.ensures.linked; kept = longer.ensures.kept; only = longer.ensures.only; reached = longer.ensures.reached }) (rw c.in-OneSide.is at said)),
    )

pub meet-requires-clause-node : goal.meet-requires-clause-node
unfolding node_in
meet-requires-clause-node c = let within = c.requires.within.node in rw c.in-OneSide.is at within

pub meet-requires-clause-linked : goal.meet-requires-clause-linked
unfolding chain_in
meet-requires-clause-linked c = let linked = c.requires.within.linked in rw c.in-OneSide.is at linked

pub meet-requires-clause-chained : goal.meet-requires-clause-chained
unfolding chain_in
meet-requires-clause-chained c = let chained = c.requires.within.chained in rw c.in-OneSide.is at chained

pub join_nodes-requires-clause-first : goal.join_nodes-requires-clause-first
unfolding node_in
join_nodes-requires-clause-first c = let within = c.requires.within.node in rw c.in-Met.is at within

pub returns-in-Nobody-clause-within : goal.returns-in-Nobody-clause-within
unfolding node_in chain_in
returns-in-Nobody-clause-within c = record { node = c.requires.node; linked = omega arith; chained = λ other h. absurd (in_none c.args.links.now.links other h) }

pub returns-in-Nobody-clause-said : goal.returns-in-Nobody-clause-said
unfolding uses_as
returns-in-Nobody-clause-said c = λ all openers operators user among_openers among_operators said.
    let x = c.args.used.x.0 in
    let g = c.args.groups.now in
    (joined_none all g, said_first g c.args.links.now.links openers operators (λ a. opens (applied all) a x) (λ t. operates (applied all) t x) c.args.used.opens c.args.used.node c.requires.node user (rw c.in-Nobody.is at said))

pub returns-else-opens-used-clause-within : goal.returns-else-opens-used-clause-within
unfolding node_in chain_in
returns-else-opens-used-clause-within c = record { node = omega (arith, c.requires.node, ap length c.meet.ensures.names); linked = omega arith; chained = λ other h. absurd (in_none c.args.links.now.links other h) }

pub returns-else-opens-used-clause-said : goal.returns-else-opens-used-clause-said
unfolding uses_as
returns-else-opens-used-clause-said c = λ all openers operators user among_openers among_operators said.
    let x = c.args.used.x.0 in
    let g = c.args.groups.now in
    let links = c.args.links.now.links in
    let first = c.in-OneSide.node in
    let chain = c.in-OneSide.chain in
    let node = c.args.used.node in
    let now = rw c.in-OneSide.is at said in
    let together = together_now all g links x first chain node openers operators c.args.used.opens c.in-OneSide.opens c.if-opens-used.false user now in (
      c.meet.ensures.joined all together.0 together.1,
      said_met g c.meet.new.groups links openers operators (λ a. opens (applied all) a x) (λ t. operates (applied all) t x) c.args.used.opens c.in-OneSide.opens first chain node c.if-opens-used.false c.requires.node c.meet.ensures.names user c.meet.ensures.grown c.meet.ensures.one c.meet.ensures.each now,
    )

pub returns-in-Met-clause-said : goal.returns-in-Met-clause-said
returns-in-Met-clause-said c = λ all openers operators user among_openers among_operators said.
    let x = c.args.used.x.0 in
    let g = c.args.groups.now in
    let links = c.args.links.now.links in
    let first = c.in-Met.node in
    let node = c.args.used.node in
    let now = rw c.in-Met.is at said in (
      c.join_nodes.ensures.joined all (together_met all g links openers operators c.args.used.opens x first node user now),
      said_more_met g c.join_nodes.new.groups links links openers operators (λ a. opens (applied all) a x) (λ t. operates (applied all) t x) c.args.used.opens first node c.requires.node c.join_nodes.ensures.names c.join_nodes.ensures.grown c.join_nodes.ensures.one now,
    )
