use Rattle.std.proofs.Common.{◌≡◌, ◌++◌, List, ℕ, sym, ◌∙◌, ap}
use Rattle.std.specs.List.{list_all}
use Rattle.asset_names.specs.declared.names.Txn.{Txn}
use Rattle.asset_names.specs.Arrows.{lists}
use Rattle.asset_names.specs.Groups.{joins}
use Rattle.asset_names.specs.Steps.{Entry}
use Rattle.asset_laws.specs.Serial.{is_apart, shares_nothing}
use Rattle.asset_meetings.specs.Meetings.{join_arrows, AreMeetings}
use Rattle.asset_history.specs.Uses.{partners}
use Rattle.asset_serial.specs.Answered.{answered_names}
use Rattle.asset_serial.proofs.AnsweredLemmas.{sharing_found, sharing_law}
use Rattle.asset_serial.proofs.sharing.committed_share_nothing.Goals as goal

-- joins of those who met and of partners say whether all are apart
found : (entries : List Entry) (names given : List ℕ) (met slice : List (Txn × Txn)) → names ≡ given → slice ≡ met → AreMeetings entries met
    → list_all (is_apart (lists names)) (join_arrows slice ++ partners entries) ≡ list_all (is_apart (lists given)) (joins entries)
found entries names given met slice is same are =
    ap (λ (l : List ℕ). list_all (is_apart (lists l)) (join_arrows slice ++ partners entries)) is
    ∙ ap (λ (l : List (Txn × Txn)). list_all (is_apart (lists given)) (join_arrows l ++ partners entries)) same
    ∙ are.apart (lists given)

pub returns-clause-exact : goal.returns-clause-exact
returns-clause-exact c =
    let entries = c.args.history.now.entries in
    c.are_all_apart.ensures.apart ∙ found entries c.in_ok-committed.committed.keys (answered_names entries) c.in_ok-met.met.items c.deref.result.now c.in_ok-committed.ensures c.deref.ensures.value c.in_ok-met.ensures
    ∙ sharing_found c.args.history.now.opening entries c.are_all_apart.ensures.legal

pub returns-clause-means : goal.returns-clause-means
returns-clause-means c =
    let entries = c.args.history.now.entries in
    let exact : c.are_all_apart.result ≡ shares_nothing entries =
    c.are_all_apart.ensures.apart ∙ found entries c.in_ok-committed.committed.keys (answered_names entries) c.in_ok-met.met.items c.deref.result.now c.in_ok-committed.ensures c.deref.ensures.value c.in_ok-met.ensures
    ∙ sharing_found c.args.history.now.opening entries c.are_all_apart.ensures.legal in
    let law = sharing_law entries in
    (λ is. law.0 (sym exact ∙ is), λ share. exact ∙ law.1 share)
