use Rattle.std.proofs.Common.{◌≡◌, ℕ, nat_eq, ◌++◌, ap, ◌∙◌}
use Rattle.std.specs.Prelude.{Option}
use Rattle.indexmap.specs.IndexMap.{get}
use Rattle.asset_names.specs.declared.names.Txn.{Txn}
use Rattle.asset_meetings.specs.Users.{first_user, joined_with, meetings_by}
use Rattle.asset_meetings.proofs.joining.push_both.Goals as goal

pub returns : goal.returns
unfolding meetings_by
returns c =
    let openers : get nat_eq c.args.openers.now ≡ first_user c.args.opened.now = λ i y. c.requires.openers y i in
    let operators : get nat_eq c.args.operators.now ≡ first_user c.args.operated.now = λ i y. c.requires.operators y i in
    let first : c.push_joins.new.joins.items ≡ joined_with (first_user c.args.operated.now) c.args.opened.now =
    c.in_ok-push_joins.ensures ∙ ap (λ l. l ++ joined_with (get nat_eq c.args.operators.now) c.args.opened.now) c.requires.none
    ∙ ap (λ (noted : ℕ → Option Txn). joined_with noted c.args.opened.now) operators in
    c.in_ok-push_joins-2.ensures ∙ (λ i. first i ++ joined_with (openers i) c.args.operated.now)
