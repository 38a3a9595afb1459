use Rattle.std.proofs.Common.{is_some, sym, ap, ◌∙◌, rules}
use Rattle.asset_permits.proofs.permits.Permits.new.Goals as goal

pub invariant_of-result : goal.invariant_of-result
invariant_of-result c = (c.new-2.ensures.tied _ c.new.ensures.seats, λ s. ap is_some (c.new.ensures.seats s) ∙ sym (c.new-2.ensures.used s))

pub returns : goal.returns
returns c = search rules
