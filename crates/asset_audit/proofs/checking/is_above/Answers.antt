use Rattle.std.proofs.Common.{◌-◌, ◌<◌, length, get_or, arith}
use Rattle.std.proofs.lemmas.Bool.Decides.{nat_tests}
use Rattle.asset_audit.proofs.Places.{above_last, last_above}
use Rattle.asset_audit.proofs.checking.is_above.Goals as goal

pub returns-else-count-eq0 : goal.returns-else-count-eq0
returns-else-count-eq0 c =
    let before = c.args.before.now in
    let last = c.index-before-count.result in (
      λ lower. let below : (get_or before (length before - 1) last).0 < c.args.number = grind (arith, nat_tests) in above_last before last c.args.number c.requires (omega (arith, c.if-count-eq0.false)) below,
      λ above. let below = last_above before last c.args.number (omega (arith, c.if-count-eq0.false)) above in grind (arith, nat_tests),
    )
