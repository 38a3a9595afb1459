use Rattle.std.proofs.Common.{◌≡◌, List, sym, ap, subst, ◌∙◌, Some, None}
use Rattle.asset_names.specs.Arrows.{lists}
use Rattle.asset_names.specs.Steps.{Entry}
use Rattle.asset_names.specs.Groups.{acted_on}
use Rattle.asset_entries.specs.Committing.{committer, commit_at}
use Rattle.asset_name_groups.specs.NamesInGroups.{NamesInGroups, with_flag}
use Rattle.asset_history.specs.Kept.{before}
use Rattle.asset_history.specs.Together.{AreFlagged}
use Rattle.asset_history.proofs.EntryLemmas.{split_newest}
use Rattle.asset_history.proofs.FlagLemmas.{flagged_none, flagged_one, committed_listed}
use Rattle.asset_history.proofs.NameLemmas.{all_acted}
use Rattle.asset_history.proofs.labelling.flag_newest.Goals as goal

pub node_of_known-node-requires : goal.node_of_known-node-requires
node_of_known-node-requires c =
    let all = c.args.entries.now.entries in
    let split = split_newest all c.args.newest c.requires.newest in
    let is : committer split.0.0 split.0.1 ≡ Some c.in-Some.t = ap commit_at (sym split.1) ∙ sym c.commit_at.ensures ∙ c.in-Some.is in
    ap (λ l. lists l c.in-Some.t.0) c.requires.named ∙ all_acted all c.in-Some.t.0 ∙ ap (λ l. lists (acted_on l) c.in-Some.t.0) split.2 ∙ committed_listed split.0 (before all c.args.newest) c.in-Some.t is

pub returns-in-Some-clause-names : goal.returns-in-Some-clause-names
unfolding with_flag
returns-in-Some-clause-names c = ap (λ (h : NamesInGroups). h.names) c.flag.ensures

pub returns-in-Some-clause-labels : goal.returns-in-Some-clause-labels
unfolding with_flag
returns-in-Some-clause-labels c = ap (λ (h : NamesInGroups). h.labels) c.flag.ensures

pub returns-in-Some-clause-room : goal.returns-in-Some-clause-room
unfolding with_flag
returns-in-Some-clause-room c = ap (λ (h : NamesInGroups). h.room) c.flag.ensures

pub returns-in-Some-clause-flagged : goal.returns-in-Some-clause-flagged
returns-in-Some-clause-flagged c =
    let all = c.args.entries.now.entries in
    let g = c.args.groups.now in
    let split = split_newest all c.args.newest c.requires.newest in
    let is : committer split.0.0 split.0.1 ≡ Some c.in-Some.t = ap commit_at (sym split.1) ∙ sym c.commit_at.ensures ∙ c.in-Some.is in
    let one = flagged_one split.0 (before all c.args.newest) g c.in-Some.t c.node_of_known-node.result c.laws.ensures is c.node_of_known-node.ensures.0 c.node_of_known-node.ensures.1 c.requires.flagged in
    rw c.flag.ensures (subst (λ (l : List Entry). AreFlagged l (with_flag g c.node_of_known-node.result)) (sym split.2) one)

pub returns-in_default-clause-flagged : goal.returns-in_default-clause-flagged
returns-in_default-clause-flagged c =
    let all = c.args.entries.now.entries in
    let split = split_newest all c.args.newest c.requires.newest in
    let none : committer split.0.0 split.0.1 ≡ None = ap commit_at (sym split.1) ∙ sym c.commit_at.ensures ∙ c.in_default.is in
    subst (λ (l : List Entry). AreFlagged l c.args.groups.now) (sym split.2) (flagged_none split.0 (before all c.args.newest) c.args.groups.now none c.requires.flagged)
