use Rattle.std.proofs.Common.{ap, ◌∙◌}
use Rattle.asset_chains.specs.declared.links.Link.{Link}
use Rattle.asset_chains.specs.Linked.{decoded}
use Rattle.asset_chains.proofs.SlotLemmas.{heads_of, lined, lines_seen, home_read}
use Rattle.asset_chains.proofs.crossed.Crossed.home.Goals as goal

pub returns : goal.returns
returns g c =
    let s = c.self.inside in
    let side = c.args.side in
    rw (← c.self.view_is, lines_seen side s.slots s.rows.items s.columns.items)
    (c.decoded.ensures ∙ ap (λ (l : Link). decoded l.home) c.link.ensures
    ∙ home_read side s.slots (heads_of side s.rows.items s.columns.items) (lined side s.slots s.rows.items s.columns.items c.self.invariant) c.args.key)
