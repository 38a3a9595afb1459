use Rattle.std.proofs.Common.{◌+◌, ◌<◌, ◌≤◌, length, drop, arith, refl, ap, sym, ◌∙◌}
use Rattle.std.proofs.lemmas.List.{at_drop_more, at_drop_all}
use Rattle.asset_reference.specs.Owners.{responsible, handed_at}
use Rattle.asset_reference.proofs.operating.responsible.Goals as goal

pub later-init : goal.later-init
later-init c = refl

pub later-preserved : goal.later-preserved
unfolding responsible
later-preserved c =
    let below : c.later.entry-index < length c.args.later.now = omega arith in
    c.later.invariant
    ∙ at_drop_more (λ list. responsible list c.later.now.0 c.args.x.0) c.args.later.now c.later.entry-index c.entry-item.result below
    ∙ ap (λ item. responsible (drop (c.later.entry-index + 1) c.args.later.now) (handed_at item c.later.now.0 c.args.x.0) c.args.x.0) (sym c.entry-item.is)
    ∙ ap (λ owner. responsible (drop (c.later.entry-index + 1) c.args.later.now) owner c.args.x.0) (sym c.handed_at-now.ensures)

pub returns : goal.returns
unfolding responsible
returns c =
    let all : length c.args.later.now ≤ c.later.entry-index = omega arith in
    sym (c.later.invariant ∙ at_drop_all (λ list. responsible list c.later.now.0 c.args.x.0) c.args.later.now c.later.entry-index all)
