use Rattle.asset_history.specs.Together.{HaveGrown}
use Rattle.asset_history.proofs.LabelLemmas.{grown_trans}
use Rattle.asset_history.proofs.HistoryLemmas.{kept_wider, labels_next, grown_same}
use Rattle.asset_history.proofs.labelling.KeptGroups.note_any.Goals as goal

pub note_users-requires-clause-kept : goal.note_users-requires-clause-kept
note_users-requires-clause-kept c =
    let old = c.args.self.now in
    let named = c.name_newest.new.groups in
    let flagged = c.flag_newest.new.groups in
    let grown : HaveGrown old.groups flagged = grown_trans old.groups named flagged c.name_newest.ensures.grown (grown_same named flagged c.flag_newest.ensures.names c.flag_newest.ensures.labels) in
    kept_wider c.args.entries.now.opening c.args.entries.now.entries c.args.newest old flagged grown c.requires.kept

pub returns-clause-labels : goal.returns-clause-labels
returns-clause-labels c =
    labels_next c.args.entries.now.opening c.args.entries.now.entries c.args.newest c.name_newest.new.groups c.flag_newest.new.groups c.note_users.new.self c.requires.newest
    c.name_newest.ensures.named c.flag_newest.ensures.names c.flag_newest.ensures.labels c.flag_newest.ensures.flagged c.note_users.ensures.joined c.laws.ensures c.note_users.ensures.kept
