use Rattle.std.proofs.Common.{◌≡◌, sym, ◌∙◌, w64, to_z, of_z, arith}
use Rattle.std.proofs.lemmas.Int.{to_z-of_z}
use Rattle.asset_ends.specs.Updates.{step_of, op_of}
use Rattle.asset_ends.proofs.tables.Tables.add.Goals as goal

pub update_at-requires : goal.update_at-requires
update_at-requires c = record { runs = rw c.find.ensures.name c.requires.runs; seat = rw c.find.ensures.name c.find.ensures.seat; number = sym c.number.ensures.number ∙ c.unwrap-number.ensures }

pub returns-clause-stand : goal.returns-clause-stand
unfolding step_of op_of
returns-clause-stand c =
    let fits : to_z w64 (of_z w64 c.args.d) ≡ c.args.d = grind (arith, to_z-of_z) in
    rw (c.find.ensures.name, fits) at c.update_at.ensures.stand
