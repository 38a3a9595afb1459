use Rattle.std.proofs.Common.{◌≡◌, sym, ap, ◌∙◌, arith}
use Rattle.std.specs.Prelude.{slice_get}
use Rattle.asset_runner.specs.Rows.{runs_of}
use Rattle.asset_runner.proofs.FirstLemmas.{end_first, end_none}
use Rattle.asset_runner.proofs.firsts.end_in.Goals as goal

pub returns-in-Some : goal.returns-in-Some
returns-in-Some g c =
    let first = end_first 0 c.args.order.now c.args.t.0 c.in-Some.place.now (sym (c.requires c.args.t.0) ∙ sym c.in-Some.ensures.value) in
    let place : c.in-Some.place.now ≡ first.0 = omega (arith, first.2) in
    c.end_at.ensures first.1 (ap (slice_get c.args.order.now) place ∙ first.3) ∙ sym first.4

pub returns-in-None : goal.returns-in-None
returns-in-None g c = sym (end_none 0 (runs_of c.args.order.now) c.args.t.0 (sym (c.requires c.args.t.0) ∙ sym c.in-None.ensures.value))
