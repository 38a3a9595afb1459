use Rattle.std.proofs.Common.{length, get_or, ap, arith}
use Rattle.asset_history.proofs.LabelLemmas.{joined_trans}
use Rattle.asset_history.proofs.users.meet.Goals as goal

pub join_chain-requires-clause-chained : goal.join_chain-requires-clause-chained
join_chain-requires-clause-chained c = λ k h. omega (arith, c.requires.chained k h, ap length c.join_nodes.ensures.names)

pub returns-clause-joined : goal.returns-clause-joined
returns-clause-joined c = λ all same chained.
    let old = c.args.groups.now in
    let one = c.join_nodes.new.groups in
    let names = c.join_nodes.ensures.names in
    joined_trans all old one c.join_chain.new.groups (c.join_nodes.ensures.joined all same)
    (c.join_chain.ensures.joined all (λ k h. rw (ap (λ l. get_or l c.args.other 0) names, ap (λ l. get_or l k 0) names) (chained k h)))
