use Rattle.std.proofs.Common.{sym, ◌∙◌}
use Rattle.asset_chains.proofs.ClearLemmas.{clearing_starts, clearing_steps, clearing_ends, first_is_there}
use Rattle.asset_chains.proofs.crossed.Crossed.clear.Goals as goal

pub first-init : goal.first-init
first-init g c = clearing_starts c.args.side c.args.line c.args.self.now c.laws.ensures.crossed

pub remove-requires : goal.remove-requires
remove-requires g c = first_is_there c.args.side c.args.line c.in-Some.key c.first.self c.first.invariant.crossed (sym c.in-Some.is ∙ c.first-in-first.ensures)

pub first-preserved : goal.first-preserved
first-preserved g c =
    clearing_steps c.args.side c.args.line c.in-Some.key c.args.self.now c.first.self c.remove.new.self c.first.invariant (sym c.in-Some.is ∙ c.first-in-first.ensures) c.remove.ensures.items c.remove.ensures.lines c.remove.ensures.len c.laws-in-Some.ensures.crossed

pub returns : goal.returns
returns g c = clearing_ends c.args.side c.args.line c.args.self.now c.first.self c.first.invariant (sym c.in_default.is ∙ c.first-in-first.ensures)
