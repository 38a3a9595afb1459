use Rattle.std.proofs.Common.{◌++◌, List, ℕ, get_or, take, string_bytes, sym, ap, ◌∙◌, append-nil}
use Rattle.std.proofs.lemmas.List.{take_more, flat_map_more}
use Rattle.asset_reports.specs.Groups.{member_word, members_text}
use Rattle.asset_reports.proofs.groups_report.push_members.Goals as goal

pub members-init : goal.members-init
unfolding members_text
members-init c = sym (append-nil (string_bytes c.args.text.now))

pub members-preserved : goal.members-preserved
unfolding members_text
members-preserved c =
    let members = c.args.members.now in
    let index = c.members.k-index in
    let groups = c.args.groups.now in
    rw (take_more members index 0 c.members-test.true)
    (c.in_ok-push_member.ensures
    ∙ ap (λ (l : List ℕ). l ++ member_word groups (get_or members index 0)) c.members.invariant
    ∙ flat_map_more (member_word groups) (string_bytes c.args.text.now) (take index members) (get_or members index 0))
