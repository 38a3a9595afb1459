use Rattle.std.proofs.Common.{sym, ◌∙◌}
use Rattle.asset_deps.specs.Valid.{marked_of}
use Rattle.asset_deps.proofs.TableLemmas.{marked_left, marked_gone}
use Rattle.asset_ends.proofs.EndingLemmas.{one_left}
use Rattle.asset_ends.proofs.ending.end_one.Goals as goal

pub returns-clause-tied : goal.returns-clause-tied
returns-clause-tied c =
    let left = c.leave.new.self in
    record { objects = c.end_writes.ensures.leaves left c.leave.ensures.seats; locks = (c.release.ensures.leaves left c.leave.ensures.seats).0; permits = c.drop_all.ensures.leaves left c.leave.ensures.seats; deps = c.end.ensures.leaves left c.leave.ensures.seats; numbers = c.release.ensures.objects ∙ c.requires.tied.numbers ∙ sym c.end_writes.ensures.objects }

pub returns-clause-ended : goal.returns-clause-ended
returns-clause-ended c =
    let one = c.args.one in
    record {
      rows = c.end-2.ensures;
      objects = c.end_writes.ensures.cells;
      locks = (c.release.ensures.leaves c.leave.new.self c.leave.ensures.seats).1 ∙ c.release.ensures.released;
      permits = c.drop_all.ensures.covers;
      openers = c.drop_all.ensures.opens;
      deps = c.end.ensures.dependencies;
      seats = one_left c.args.parts.now.seats c.leave.new.self one.t one.at c.requires.sits (λ d other. c.laws.ensures.one one.t one.at d c.requires.sits other) c.leave.ensures.seats;
    }

pub returns-clause-marked : goal.returns-clause-marked
returns-clause-marked c = λ absent.
    let one = c.args.one in
    let seats = c.args.parts.now.seats in
    let old = c.args.parts.now.deps.marked.nodes in
    let fewer = c.end.new.self.marked.nodes in
    marked_left seats c.leave.new.self fewer one.at one.t c.requires.sits c.leave.ensures.seats (marked_gone seats old fewer one.t c.end.ensures.marked)
    ∙ (λ i. marked_of seats (c.end.ensures.unmarked absent i).nodes)
