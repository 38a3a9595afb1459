use Rattle.std.proofs.Common.{List, sym, ap, subst, ◌∙◌}
use Rattle.asset_records.specs.declared.layers.Mark.{Mark}
use Rattle.asset_records.specs.Layered.{fits, mark_at, AreMarked}
use Rattle.asset_records.specs.Listed.{on, lists_in}
use Rattle.asset_records.proofs.LayerLemmas.{shed_layered, still_layered, sheds_nothing, writes_begin}
use Rattle.asset_records.proofs.records.Records.shed.Goals as goal

pub returns-in-Writes-clause-sheds : goal.returns-in-Writes-clause-sheds
returns-in-Writes-clause-sheds c = sheds_nothing c.args.object (lists_in c.args.self.now)

pub returns-in-Writes-clause-all : goal.returns-in-Writes-clause-all
unfolding fits AreMarked
returns-in-Writes-clause-all c = rw (← c.self.view_is)
    (writes_begin (on (lists_in c.self.inside.records) c.args.object)
    (subst (λ (mark : Mark). fits mark (on (lists_in c.self.inside.records) c.args.object)) (ap (λ (marks : List Mark). mark_at marks c.args.object) (sym c.as_slice.ensures.value) ∙ sym c.mark_of.ensures ∙ c.in-Writes.is) (c.self.invariant c.args.object)))

pub invariant_of-self : goal.invariant_of-self
invariant_of-self c =
    let old = lists_in c.self.inside.records in
    let new = lists_in c.shed.new.records in
    still_layered c.self.inside.marks.items old new (shed_layered c.args.object old new c.shed.ensures.sheds) c.self.invariant
