use Rattle.std.proofs.Common.{rules}
use Rattle.asset_names.proofs.doubles.Tuple2ObI64NamesObject.object.Goals as goal

pub returns : goal.returns
returns c = search rules
