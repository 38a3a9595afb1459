use Rattle.std.proofs.Common.{ap, sym, ◌∙◌}
use Rattle.asset_chains.specs.declared.side.Side.TheVariants.{Row}
use Rattle.asset_records.specs.Listed.{is_of}
use Rattle.asset_records.specs.Mended.{is_write}
use Rattle.asset_records.proofs.BackLemmas.{settles_through}
use Rattle.asset_records.proofs.DropLemmas.{read_some}
use Rattle.asset_records.proofs.ListedLemmas.{has_record}
use Rattle.asset_records.proofs.settling.settle_write.Goals as goal

pub returns-clause-settled : goal.returns-clause-settled
returns-clause-settled c = λ t whose.
    let old = c.args.records.now in
    let new = c.drop_through-visited.new.records in
    let held = has_record old c.laws.ensures.crossed c.args.key c.args.object c.requires.there in
    let read = sym (read_some old.items c.args.key held.0 held.1) in
    settles_through old.items new.items old.rows new.rows t c.args.key c.args.object c.drop_through-visited.result held.0
    (c.laws.ensures.crossed.sound Row) (c.laws-2.ensures.crossed.sound Row) c.requires.there held.1 (ap (is_of t) read ∙ whose) (ap is_write read ∙ c.requires.write)
    c.drop_through-visited.ensures.rest c.drop_through-visited.ensures.others c.drop_through-visited.ensures.many c.drop_through-visited.ensures.kept
    (λ l. sym (c.laws-2.ensures.crossed.placed Row l)) c.drop_through-visited.ensures.counted c.drop_through-visited.ensures.visited
