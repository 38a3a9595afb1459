use Rattle.std.proofs.Common.{◌≡◌, sym, ap, ◌∙◌}
use Rattle.std.proofs.lemmas.Bool.{eqb-true}
use Rattle.asset_names.specs.Arrows.{linked}
use Rattle.asset_names.proofs.Arrows.{linked_refl}
use Rattle.asset_deps.specs.Reached.{ways_in}
use Rattle.asset_deps.specs.Valid.{dependencies_in}
use Rattle.asset_deps.proofs.table.SeatedDeps.is_reached.Goals as goal

pub returns-then-eq-clause-reached : goal.returns-then-eq-clause-reached
returns-then-eq-clause-reached c =
    let ways = ways_in c.args.kinds (dependencies_in c.args.self.now) in
    let same : c.args.a.t.0 ≡ c.args.b.t.0 = eqb-true c.args.a.t.0 c.args.b.t.0 (sym c.eq.ensures ∙ c.if-eq.true) in
    c.if-eq.true ∙ sym (linked_refl ways c.args.a.t.0) ∙ ap (linked ways c.args.a.t.0) same
