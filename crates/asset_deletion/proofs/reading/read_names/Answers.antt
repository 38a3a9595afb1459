use Rattle.std.proofs.Common.{length, ap, arith}
use Rattle.asset_deletion.specs.Numbered.{groups_before}
use Rattle.asset_deletion.proofs.reading.read_names.Goals as goal

pub names-init : goal.names-init
unfolding groups_before
names-init c = record {
  names_are = c.requires.names;
  numbered = record { long = ap length c.requires.numbers; each = λ k below. absurd (omega (arith, below)) };
  counted = record { count = ap length c.requires.dead; dead = λ k below. absurd (omega (arith, below)) };
}

pub read_name-requires-clause-names : goal.read_name-requires-clause-names
read_name-requires-clause-names c = c.names.invariant.names_are

pub read_name-requires-clause-numbered : goal.read_name-requires-clause-numbered
read_name-requires-clause-numbered c = c.names.invariant.numbered

pub read_name-requires-clause-counted : goal.read_name-requires-clause-counted
read_name-requires-clause-counted c = c.names.invariant.counted

pub names-preserved : goal.names-preserved
names-preserved c = record { names_are = c.in_ok-read_name.ensures.names; numbered = c.in_ok-read_name.ensures.numbered; counted = c.in_ok-read_name.ensures.counted }
