use Rattle.std.proofs.Common.{sym, ◌∙◌, slice_get, string_bytes, append-nil}
use Rattle.asset_reports.specs.Groups.{member_word, word_of}
use Rattle.asset_deletion.proofs.NameLemmas.{told_name, no_name}
use Rattle.asset_reports.proofs.groups_report.push_member.Goals as goal

pub returns-in-Some : goal.returns-in-Some
unfolding member_word word_of
returns-in-Some c =
    let name = told_name (slice_get c.args.groups.now.names c.args.index) c.in-Some.t (sym c.name.ensures ∙ c.in-Some.is) in
    rw name c.push_next_number.ensures.text

pub returns-in-None : goal.returns-in-None
unfolding member_word word_of
returns-in-None c =
    let name = no_name (slice_get c.args.groups.now.names c.args.index) (sym c.name.ensures ∙ c.in-None.is) in
    rw name (sym (append-nil (string_bytes c.args.text.now)))
