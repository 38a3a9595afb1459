use Rattle.std.proofs.Common.{refl, rules, inl, inr}
use Rattle.asset_handle.proofs.calls.tell_group.Goals as goal

pub returns-in-Ok : goal.returns-in-Ok
returns-in-Ok c = inr (search rules)

pub returns-in-Err : goal.returns-in-Err
returns-in-Err c = inl (refl, refl)
