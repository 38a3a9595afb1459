use Rattle.asset_waits.specs.Texts.{request_text}
use Rattle.asset_waits.proofs.requests.push_pending.Goals as goal

pub returns-in-Ok-clause-text : goal.returns-in-Ok-clause-text
unfolding request_text
returns-in-Ok-clause-text c = rw (c.deref.ensures.value, c.in_ok-names.ensures.named, c.in_ok-names.ensures.same) at c.in-Ok.ensures
