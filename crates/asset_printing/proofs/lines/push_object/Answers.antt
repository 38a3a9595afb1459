use Rattle.std.proofs.Common.{w64, arith}
use Rattle.std.proofs.lemmas.Grind.{common_steps}
use Rattle.std.proofs.lemmas.Int.{to_z-of_z}
use Rattle.asset_names.proofs.Common.{always_ok}
use Rattle.asset_printing.specs.Printed.{object_text}
use Rattle.asset_printing.proofs.StepLemmas.{object_reads}
use Rattle.asset_printing.proofs.lines.push_object.Goals as goal

pub returns-clause-reads : goal.returns-clause-reads
returns-clause-reads c =
    let fits = rw (to_z-of_z w64 c.args.v c.ranges.v) at c.push_next_value.ensures.small in
    always_ok c.push_next_value.result (object_reads c.args.x c.args.v c.push_one.ensures.small fits)

pub returns-clause-text : goal.returns-clause-text
unfolding object_text
returns-clause-text c = grind (arith, common_steps)
