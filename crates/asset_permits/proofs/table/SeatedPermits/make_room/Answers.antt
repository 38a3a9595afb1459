use Rattle.std.proofs.Common.{arith}
use Rattle.std.proofs.lemmas.Result.{on_ok_weaker}
use Rattle.asset_chains.specs.declared.side.Side.TheVariants.{Row}
use Rattle.asset_chains.proofs.CrossedLemmas.{grown_then}
use Rattle.asset_permits.proofs.TableLemmas.{used_grown, valid_grown}
use Rattle.asset_permits.proofs.table.SeatedPermits.make_room.Goals as goal

pub returns-in_err-add_lines-clause-used : goal.returns-in_err-add_lines-clause-used
returns-in_err-add_lines-clause-used c = rw (← c.self.view_is) (used_grown c.self.inside.permits c.add_lines.new.items c.add_lines.ensures.grown)

pub returns-in_err-add_lines-clause-tied : goal.returns-in_err-add_lines-clause-tied
returns-in_err-add_lines-clause-tied c =
    let inside = c.self.inside in
    rw (← c.self.view_is) (λ seats tied. valid_grown inside.permits c.add_lines.new.items seats inside.marks.size inside.marks.size tied c.add_lines.ensures.grown (omega arith))

pub returns-in_err-add_lines-2-clause-used : goal.returns-in_err-add_lines-2-clause-used
returns-in_err-add_lines-2-clause-used c =
    let inside = c.self.inside in
    let grown = grown_then inside.permits c.add_lines.new.items c.add_lines-2.new.items c.add_lines.ensures.grown c.add_lines-2.ensures.grown in
    rw (← c.self.view_is) (used_grown inside.permits c.add_lines-2.new.items grown)

pub returns-in_err-add_lines-2-clause-tied : goal.returns-in_err-add_lines-2-clause-tied
returns-in_err-add_lines-2-clause-tied c =
    let inside = c.self.inside in
    let grown = grown_then inside.permits c.add_lines.new.items c.add_lines-2.new.items c.add_lines.ensures.grown c.add_lines-2.ensures.grown in
    rw (← c.self.view_is) (λ seats tied. valid_grown inside.permits c.add_lines-2.new.items seats inside.marks.size inside.marks.size tied grown (omega arith))

pub returns-clause-used : goal.returns-clause-used
returns-clause-used c =
    let inside = c.self.inside in
    let grown = grown_then inside.permits c.add_lines.new.items c.add_lines-2.new.items c.add_lines.ensures.grown c.add_lines-2.ensures.grown in
    rw (← c.self.view_is) (used_grown inside.permits c.add_lines-2.new.items grown)

pub returns-clause-tied : goal.returns-clause-tied
returns-clause-tied c =
    let inside = c.self.inside in
    let grown = grown_then inside.permits c.add_lines.new.items c.add_lines-2.new.items c.add_lines.ensures.grown c.add_lines-2.ensures.grown in
    rw (← c.self.view_is) (λ seats tied. valid_grown inside.permits c.add_lines-2.new.items seats inside.marks.size c.add.new.self.size tied grown c.add.ensures.more)

pub returns-clause-room : goal.returns-clause-room
returns-clause-room c =
    let row = c.in_ok-add_lines.ensures.there in
    let longer = c.add_lines-2.ensures.grown.many Row in
    on_ok_weaker c.add.result (λ marked. (omega (arith, row, longer), search c.in_ok-add_lines-2.ensures.there, marked)) c.add.ensures.there
