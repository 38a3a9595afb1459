use Rattle.std.proofs.Common.{rules, sym, ◌∙◌, ap}
use Rattle.std.specs.Prelude.{Some}
use Rattle.asset_handle.proofs.OpenedLemmas.{none_is_there, opens, opens_no_more, opens_nothing}
use Rattle.asset_handle.proofs.handle.Handle.open.Goals as goal

pub returns-then-self : goal.returns-then-self
returns-then-self c = search (rules, opens_no_more)

pub open_core-requires : goal.open_core-requires
open_core-requires c = tt

pub give-requires : goal.give-requires
give-requires c = none_is_there _ (sym c.args.self.now.tied ∙ c.if-self.false)

pub returns-in-Ok : goal.returns-in-Ok
returns-in-Ok c =
    opens _ _ _ _ _ _ (none_is_there _ (sym c.args.self.now.tied ∙ c.if-self.false)) (c.give.ensures ∙ ap Some c.in-Ok.ensures.opened) c.in-Ok.ensures.may c.in-Ok.ensures.kept

pub returns-in-Err : goal.returns-in-Err
returns-in-Err c = opens_nothing _ _ _ _ _ c.in-Err.code (none_is_there _ (sym c.args.self.now.tied ∙ c.if-self.false)) c.in-Err.ensures.fault
