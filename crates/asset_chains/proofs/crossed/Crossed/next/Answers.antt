use Rattle.std.proofs.Common.{ap, ◌∙◌}
use Rattle.asset_chains.specs.declared.links.Link.{Link}
use Rattle.asset_chains.specs.Linked.{decoded}
use Rattle.asset_chains.proofs.SlotLemmas.{heads_of, lined, lines_seen, next_read}
use Rattle.asset_chains.proofs.crossed.Crossed.next.Goals as goal

pub returns-clause-next : goal.returns-clause-next
returns-clause-next g c =
    let s = c.self.inside in
    let side = c.args.side in
    rw (← c.self.view_is, lines_seen side s.slots s.rows.items s.columns.items) (λ line home.
    c.decoded.ensures ∙ ap (λ (l : Link). decoded l.after) c.link.ensures
    ∙ next_read side s.slots (heads_of side s.rows.items s.columns.items) (lined side s.slots s.rows.items s.columns.items c.self.invariant) c.args.key line home)

pub returns-clause-none : goal.returns-clause-none
returns-clause-none g c =
    let s = c.self.inside in
    let side = c.args.side in
    rw (← c.self.view_is, lines_seen side s.slots s.rows.items s.columns.items) (λ none.
    c.decoded.ensures ∙ ap (λ (l : Link). decoded l.after) (c.link.ensures ∙ (lined side s.slots s.rows.items s.columns.items c.self.invariant).stored.free c.args.key none))
