use Rattle.std.proofs.Common.{sym, ap, ◌∙◌}
use Rattle.std.specs.Prelude.{option_map}
use Rattle.asset_names.specs.declared.names.Txn.{Txn}
use Rattle.asset_deps.proofs.SeatLemmas.{marked_at, marked_past}
use Rattle.asset_deps.proofs.table.SeatedDeps.marked_name.Goals as goal

pub returns-in_err-seat : goal.returns-in_err-seat
returns-in_err-seat c = ap (option_map (λ (t : Txn). t.0)) c.from_residual.ensures ∙ marked_past c.args.seats.now c.args.self.now.marked.nodes c.args.index (sym c.marked.ensures ∙ c.in_err-seat.was)

pub returns : goal.returns
returns c = marked_at c.args.seats.now c.args.self.now.marked.nodes c.args.index c.in_ok-seat.seat c.name_at.result c.requires.taken (sym c.marked.ensures ∙ c.in_ok-seat.was) c.name_at.ensures
