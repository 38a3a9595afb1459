use Rattle.std.proofs.Common.{rules}
use Rattle.asset_objects.proofs.seating.are_too_few.Goals as goal

pub returns-else-seats-lt2-clause-enough : goal.returns-else-seats-lt2-clause-enough
returns-else-seats-lt2-clause-enough c = search rules
