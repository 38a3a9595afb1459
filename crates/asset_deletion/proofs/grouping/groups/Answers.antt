use Rattle.std.proofs.Common.{sym, subst}
use Rattle.asset_deletion.specs.Grouped.{AreGroups}
use Rattle.asset_deletion.proofs.GroupedLemmas.{groups_are}
use Rattle.asset_deletion.proofs.ReadLemmas.{read_is, read_below}
use Rattle.asset_deletion.proofs.grouping.groups.Goals as goal

pub invariant_of-result : goal.invariant_of-result
invariant_of-result c =
    let new = c.read_names.new in
    read_below c.groups.result.now new.names.keys new.numbers.items new.is_dead.items c.in-Ok.ensures.sound c.in-Ok.ensures.names c.in-Ok.ensures.numbered c.in-Ok.ensures.counted

pub returns-in-Ok-clause-exact : goal.returns-in-Ok-clause-exact
returns-in-Ok-clause-exact c =
    let new = c.read_names.new in
    let history = c.args.history.now in
    read_is history.opening history.entries c.groups.result.now new.names.keys new.numbers.items new.is_dead.items c.groups.ensures.legal c.in-Ok.ensures.sound c.groups.ensures.labels c.in-Ok.ensures.names c.in-Ok.ensures.numbered c.in-Ok.ensures.counted

pub returns-in-Ok-clause-means : goal.returns-in-Ok-clause-means
returns-in-Ok-clause-means c = subst (AreGroups c.args.history.now.entries) (sym (returns-in-Ok-clause-exact c)) (groups_are c.args.history.now.entries)
