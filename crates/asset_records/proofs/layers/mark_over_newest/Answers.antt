use Rattle.std.proofs.Common.{◌≡◌, Some, is_some, sym, ap, ◌∙◌}
use Rattle.asset_chains.specs.Chained.{last_of, chain_of}
use Rattle.asset_chains.specs.declared.side.Side.TheVariants.{Row}
use Rattle.asset_chains.proofs.Laws.{chain_at_last}
use Rattle.asset_records.specs.Layered.{fits, says_layered}
use Rattle.asset_records.specs.Listed.{on, lists_in, record_of}
use Rattle.asset_records.proofs.LayerLemmas.{none_on, next_on}
use Rattle.asset_records.proofs.layers.mark_over_newest.Goals as goal

pub returns-in_default : goal.returns-in_default
returns-in_default c = λ owner.
    c.mark_over_writes.ensures (on (lists_in c.args.records.now) c.args.object) owner (none_on c.args.records.now c.args.marks.now c.args.object (c.laws.ensures.crossed.sound Row) c.requires.marked (sym c.in_default.ensures))

pub returns-then-may_follow : goal.returns-then-may_follow
unfolding fits
returns-then-may_follow c = λ owner.
    let records = c.args.records.now in
    let last : last_of (chain_of records.rows c.args.object) ≡ Some c.in-Some.newest = sym c.in-Some.ensures in
    next_on records c.args.marks.now c.args.object (c.laws.ensures.crossed.sound Row) c.requires.marked (record_of owner c.args.change) c.in-Some.newest (sym (c.is_layered.ensures ∙ ap says_layered c.mark_of.ensures) ∙ c.if-not-is_layered.false) last
    (sym (c.laws.ensures.crossed.placed Row c.in-Some.newest) ∙ ap is_some (chain_at_last c.in-Some.newest c.args.object records.rows (c.laws.ensures.crossed.sound Row) last).0)
    (λ add. c.may_follow.ensures c.if-may_follow.true (c.is_some.ensures ∙ ap is_some c.added_at.ensures ∙ add) owner)

pub returns-then-not-is_layered : goal.returns-then-not-is_layered
unfolding fits
returns-then-not-is_layered c = λ owner. tt

pub returns-else-may_follow : goal.returns-else-may_follow
unfolding fits
returns-else-may_follow c = λ owner. tt
