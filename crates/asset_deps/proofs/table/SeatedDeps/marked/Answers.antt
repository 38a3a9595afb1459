use Rattle.std.proofs.Common.{Some, sym, ap, ◌∙◌, arith}
use Rattle.std.proofs.lemmas.Option.{slice_get-get_or}
use Rattle.asset_deps.proofs.table.SeatedDeps.marked.Goals as goal

pub returns-then-index-len : goal.returns-then-index-len
returns-then-index-len c = rw (← c.self.view_is) (ap Some c.node.ensures.node ∙ sym (slice_get-get_or c.self.inside.marked.nodes c.args.index 0 (omega (arith, c.if-index-len.true, c.len.ensures.len))))
