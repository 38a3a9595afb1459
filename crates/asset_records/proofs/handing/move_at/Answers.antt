use Rattle.std.proofs.Common.{is_some, sym, ap, ◌∙◌}
use Rattle.std.proofs.lemmas.Bool.{true≢false}
use Rattle.slab.specs.Slab.{Slab, get, with_value}
use Rattle.asset_records.specs.declared.records.Record.{Record}
use Rattle.asset_records.proofs.WalkLemmas.{moved_one}
use Rattle.asset_records.proofs.handing.move_at.Goals as goal

pub unreachable-requires : goal.unreachable-requires
unreachable-requires c = true≢false (sym c.requires.there ∙ sym (ap (λ (s : Slab Record). is_some (get s c.args.key)) c.move_to.ensures.items) ∙ sym (ap is_some c.get.ensures) ∙ sym (ap is_some c.in_default.ensures))

pub returns-clause-one : goal.returns-clause-one
returns-clause-one c =
    moved_one c.args.records.now c.move_to.new.self c.replace.new.self c.args.key c.args.to.at c.args.to.t c.in-Some.record c.laws.ensures.crossed c.requires.seat
    (sym (ap (λ (s : Slab Record). get s c.args.key) c.move_to.ensures.items) ∙ sym c.get.ensures ∙ sym c.in-Some.ensures) c.move_to.ensures.moved c.move_to.ensures.others c.move_to.ensures.items
    (c.replace.ensures.items ∙ ap (with_value c.move_to.new.self.items c.args.key) c.given.ensures) c.replace.ensures.rows c.replace.ensures.columns
