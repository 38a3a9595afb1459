use Rattle.std.proofs.Common.{sym, ◌∙◌}
use Rattle.std.proofs.lemmas.Option.{none-some}
use Rattle.std.proofs.lemmas.Result.{on_ok_weaker}
use Rattle.asset_sources.proofs.WalkLemmas.{entry_there}
use Rattle.asset_lanes.proofs.WalkLemmas.{entry_ready, entry_passed}
use Rattle.asset_lanes.proofs.walking.pass.Goals as goal

pub apply-requires : goal.apply-requires
apply-requires c = record {
  ready = entry_ready c.args.history.now c.args.index c.args.tables.now (c.in-Some.step, c.in-Some.reply) (sym c.entry.ensures.entry ∙ c.in-Some.is) c.entry.ensures.legal c.requires.stand;
}

pub returns-in-Some : goal.returns-in-Some
returns-in-Some c =
    on_ok_weaker c.apply.result
    (entry_passed c.args.history.now c.args.index c.args.tables.now c.apply.new.tables (c.in-Some.step, c.in-Some.reply) (sym c.entry.ensures.entry ∙ c.in-Some.is) c.entry.ensures.legal c.requires.stand)
    c.apply.ensures.stand

pub returns-in-None : goal.returns-in-None
returns-in-None c =
    let there = entry_there c.args.history.now.entries c.args.index c.requires.there in
    absurd (none-some there.0 (sym c.in-None.is ∙ c.entry.ensures.entry ∙ there.1))
