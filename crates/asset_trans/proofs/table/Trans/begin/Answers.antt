use Rattle.std.proofs.Common.{refl, arith, rules}
use Rattle.asset_names.specs.Room.{owed_to}
use Rattle.asset_names.specs.Answers.{is_unknown}
use Rattle.asset_trans.specs.TransRows.{one_if_live}
use Rattle.asset_names.specs.Endings.{is_live_status}
use Rattle.asset_trans.proofs.TransRowLemmas.{known_there}
use Rattle.asset_trans.proofs.table.Trans.begin.Goals as goal

pub change-requires-clause-there : goal.change-requires-clause-there
unfolding is_unknown
change-requires-clause-there c = known_there c.args.t.0 c.args.self.now _ c.requires.initiated refl

pub change-requires-clause-owed_less : goal.change-requires-clause-owed_less
unfolding owed_to
change-requires-clause-owed_less c = rw c.requires.initiated (omega arith)

pub change-requires-clause-live_less : goal.change-requires-clause-live_less
unfolding one_if_live is_live_status
change-requires-clause-live_less c = rw c.requires.initiated (omega arith)

pub change-requires-clause-known : goal.change-requires-clause-known
unfolding is_unknown
change-requires-clause-known c = refl

pub change-requires-clause-live : goal.change-requires-clause-live
unfolding is_live_status
change-requires-clause-live c = rw c.requires.initiated refl

pub returns : goal.returns
returns c = search rules
