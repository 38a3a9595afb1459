use Rattle.std.proofs.Common.{◌≡◌, length, reverse, refl, ap, arith, ◌∙◌}
use Rattle.std.proofs.lemmas.List.{take_all}
use Rattle.asset_names.specs.Steps.{applied}
use Rattle.asset_names.specs.Operations.{openers, reaches_opener}
use Rattle.asset_reference.specs.Openers.{reached}
use Rattle.asset_reference.proofs.allowing.reaches_opener.Goals as goal

pub entries-init : goal.entries-init
unfolding reached openers applied
entries-init c = refl

pub returns : goal.returns
unfolding reaches_opener reached
returns c =
    let all : c.entries.index ≡ length c.args.entries.now = omega arith in
    c.entries.invariant ∙ ap (λ list. reached (applied (reverse c.args.entries.now)) c.args.u.0 c.args.x.0 c.args.op (openers (applied (reverse list)) c.args.x.0 c.args.op)) (take_all c.entries.index c.args.entries.now (omega arith))
