use Rattle.std.proofs.Common.{refl, arith}
use Rattle.std.proofs.lemmas.Result.{on_ok_weaker}
use Rattle.asset_chains.specs.declared.side.Side.TheVariants.{Row}
use Rattle.asset_chains.proofs.CrossedLemmas.{grown_then}
use Rattle.asset_deps.proofs.TableLemmas.{valid_roomier}
use Rattle.asset_deps.proofs.table.SeatedDeps.make_room.Goals as goal

pub returns-in_err-add_lines-clause-tied : goal.returns-in_err-add_lines-clause-tied
returns-in_err-add_lines-clause-tied c =
    let inside = c.self.inside in
    rw (← c.self.view_is) (λ seats tied. valid_roomier inside.links c.add_lines.new.items seats inside.marks.size inside.marks.size inside.marked inside.marked tied c.add_lines.ensures.grown refl (omega arith) (omega arith))

pub returns-in_err-add_lines-2-clause-tied : goal.returns-in_err-add_lines-2-clause-tied
returns-in_err-add_lines-2-clause-tied c =
    let inside = c.self.inside in
    let grown = grown_then inside.links c.add_lines.new.items c.add_lines-2.new.items c.add_lines.ensures.grown c.add_lines-2.ensures.grown in
    rw (← c.self.view_is) (λ seats tied. valid_roomier inside.links c.add_lines-2.new.items seats inside.marks.size inside.marks.size inside.marked inside.marked tied grown refl (omega arith) (omega arith))

pub returns-in_err-add-clause-tied : goal.returns-in_err-add-clause-tied
returns-in_err-add-clause-tied c =
    let inside = c.self.inside in
    let grown = grown_then inside.links c.add_lines.new.items c.add_lines-2.new.items c.add_lines.ensures.grown c.add_lines-2.ensures.grown in
    rw (← c.self.view_is) (λ seats tied. valid_roomier inside.links c.add_lines-2.new.items seats inside.marks.size c.add.new.self.size inside.marked inside.marked tied grown refl c.add.ensures.more (omega arith))

pub returns-clause-tied : goal.returns-clause-tied
returns-clause-tied c =
    let inside = c.self.inside in
    let grown = grown_then inside.links c.add_lines.new.items c.add_lines-2.new.items c.add_lines.ensures.grown c.add_lines-2.ensures.grown in
    rw (← c.self.view_is) (λ seats tied. valid_roomier inside.links c.add_lines-2.new.items seats inside.marks.size c.add.new.self.size inside.marked c.add-2.new.self tied grown c.add-2.ensures.nodes c.add.ensures.more c.add-2.ensures.more)

pub returns-clause-room : goal.returns-clause-room
returns-clause-room c =
    let row = c.in_ok-add_lines.ensures.there in
    let longer = c.add_lines-2.ensures.grown.many Row in
    on_ok_weaker c.add-2.result (λ marked. (omega (arith, row, longer), search c.in_ok-add_lines-2.ensures.there, search c.in_ok-add.ensures.there, marked)) c.add-2.ensures.there
