use Rattle.asset_reasons.proofs.NumberLemmas.{parsed_err, parsed_ok}
use Rattle.asset_reasons.proofs.numbers.read_number.Goals as goal

pub returns-in-Ok : goal.returns-in-Ok
returns-in-Ok c = parsed_ok c.args.text.now c.in-Ok.number c.requires.digits c.requires.well c.in-Ok.ensures.value.0

pub returns-in-Err : goal.returns-in-Err
returns-in-Err c = parsed_err c.args.text.now c.requires.digits c.requires.well c.in-Err.ensures.value.0
