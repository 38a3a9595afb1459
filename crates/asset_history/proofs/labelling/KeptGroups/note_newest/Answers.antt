use Rattle.std.proofs.Common.{sym, ◌∙◌}
use Rattle.asset_history.proofs.StayLemmas.{stay_kept, stay_labels}
use Rattle.asset_history.proofs.labelling.KeptGroups.note_newest.Goals as goal

pub returns-then-leaves_groups-clause-labels : goal.returns-then-leaves_groups-clause-labels
returns-then-leaves_groups-clause-labels c =
    stay_labels c.args.entries.now.opening c.args.entries.now.entries c.args.newest c.requires.newest c.requires.legal (sym c.leaves_groups.ensures ∙ c.if-leaves_groups.true)
    c.args.self.now c.if-not-self.true c.requires.kept c.laws.ensures c.requires.labels

pub returns-then-leaves_groups-clause-kept : goal.returns-then-leaves_groups-clause-kept
returns-then-leaves_groups-clause-kept c =
    stay_kept c.args.entries.now.opening c.args.entries.now.entries c.args.newest c.requires.newest c.requires.legal (sym c.leaves_groups.ensures ∙ c.if-leaves_groups.true)
    c.args.self.now c.if-not-self.true c.requires.kept
