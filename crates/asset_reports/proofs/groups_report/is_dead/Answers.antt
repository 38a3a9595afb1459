use Rattle.std.proofs.Common.{sym, ap, ◌∙◌, slice_get}
use Rattle.asset_reports.specs.Groups.{is_dead_name}
use Rattle.asset_deletion.proofs.NameLemmas.{told_name, no_name}
use Rattle.asset_reports.proofs.ReportLemmas.{first_member, no_member}
use Rattle.asset_reports.proofs.groups_report.is_dead.Goals as goal

pub returns-in-Some-name : goal.returns-in-Some-name
unfolding is_dead_name
returns-in-Some-name c =
    let groups = c.args.groups.now in
    let first = first_member groups c.args.members.now c.in-Some.k.now (rw c.in-Some.is at c.first.ensures.value) in
    let name = told_name (slice_get groups.names c.in-Some.k.now) c.in-Some-name.t (sym c.name.ensures ∙ c.in-Some-name.is) in
    c.is_dead.ensures.dead ∙ sym (first ∙ ap (is_dead_name groups) name)

pub returns-in-None-name : goal.returns-in-None-name
unfolding is_dead_name
returns-in-None-name c =
    let groups = c.args.groups.now in
    let first = first_member groups c.args.members.now c.in-Some.k.now (rw c.in-Some.is at c.first.ensures.value) in
    let name = no_name (slice_get groups.names c.in-Some.k.now) (sym c.name.ensures ∙ c.in-None-name.is) in
    sym (first ∙ ap (is_dead_name groups) name)

pub returns-in-None : goal.returns-in-None
returns-in-None c = sym (no_member c.args.groups.now c.args.members.now (rw c.in-None.is at c.first.ensures.value))
