use Rattle.asset_grammar.specs.Operands.{ob, ob_of}
use Rattle.asset_grammar.specs.Numbers.{number_of}
use Rattle.asset_grammar.proofs.TakenLemmas.{taken_mapped, none_mapped}
use Rattle.asset_grammar.proofs.words.Words.next_ob.Goals as goal

pub returns-in_err-number : goal.returns-in_err-number
unfolding ob_of
returns-in_err-number c = rw c.from_residual.ensures (none_mapped ob number_of _ c.in_err-number.ensures)

pub returns : goal.returns
unfolding ob_of
returns c = (taken_mapped ob number_of _ _ _ c.in_ok-number.ensures.0, c.in_ok-number.ensures.1)
