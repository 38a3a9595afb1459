use Rattle.std.proofs.Common.{ℕ, ap, ◌∙◌}
use Rattle.std.specs.Prelude.{Option}
use Rattle.asset_names.specs.declared.names.Txn.{Txn}
use Rattle.asset_meetings.specs.Users.{meetings_by, operators_of}
use Rattle.asset_meetings.proofs.joining.joins_by_openers.Goals as goal

pub returns : goal.returns
returns c = c.in_ok-push_both.ensures
    ∙ ap (meetings_by c.args.opened.now) (c.as_slice-users.ensures.value ∙ c.in_ok-operated.ensures ∙ ap (λ (noted : ℕ → Option Txn). operators_of noted c.args.history.now.entries) (λ i y. c.requires y i))
