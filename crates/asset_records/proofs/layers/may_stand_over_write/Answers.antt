use Rattle.std.proofs.Common.{rules, ◌≡◌, ℕ, None, List, not, sym, ap, ◌∙◌}
use Rattle.asset_names.proofs.Common.{some_of, none_of}
use Rattle.asset_chains.specs.Chained.{chain_of, ahead, last_of}
use Rattle.asset_chains.specs.declared.side.Side.TheVariants.{Row}
use Rattle.asset_records.specs.Listed.{at_keys}
use Rattle.asset_records.specs.Mended.{has_write}
use Rattle.asset_records.proofs.BackLemmas.{no_last}
use Rattle.asset_records.specs.Layered.{says_layered}
use Rattle.asset_records.proofs.LayerLemmas.{none_below}
use Rattle.asset_records.proofs.layers.may_stand_over_write.Goals as goal

pub returns-then-is_none : goal.returns-then-is_none
unfolding has_write at_keys
returns-then-is_none c = λ _.
    let records = c.args.records.now in
    let none : last_of (ahead c.args.key (chain_of records.rows c.args.object)) ≡ None = sym (c.previous.ensures.previous c.args.object c.requires.home) ∙ none_of c.previous.result (c.is_none.ensures ∙ ap not c.if-is_none.true) in
    ap (λ (keys : List ℕ). has_write (at_keys records.items keys)) (no_last (ahead c.args.key (chain_of records.rows c.args.object)) none)

pub returns-in-Some : goal.returns-in-Some
returns-in-Some c = λ some.
    let records = c.args.records.now in
    let amount = some_of c.added_at.result (c.is_none-in-Some.ensures ∙ ap not some) in
    none_below records c.args.marks.now c.args.object (c.laws.ensures.crossed.sound Row) c.requires.marked c.args.key c.in-Some.oldest amount.0 c.requires.home
    (sym (c.is_layered.ensures ∙ ap says_layered c.mark_of.ensures) ∙ c.if-is_layered.true) (sym c.in-Some.ensures) (sym c.added_at.ensures ∙ amount.1)

pub returns-in_default : goal.returns-in_default
returns-in_default c = search rules
