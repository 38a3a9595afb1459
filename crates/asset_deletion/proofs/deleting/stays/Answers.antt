use Rattle.std.proofs.Common.{refl, sym, ap, not, false}
use Rattle.std.proofs.lemmas.List.{get_or_read}
use Rattle.asset_deletion.specs.Grouping.{dead_at}
use Rattle.asset_deletion.specs.Going.{keeps}
use Rattle.asset_deletion.proofs.deleting.stays.Goals as goal

pub returns-in-Some : goal.returns-in-Some
unfolding keeps dead_at
returns-in-Some c =
    let at = c.in-Some.ensures.number in
    rw (← at) (ap not (get_or_read c.args.going.now.items c.in-Some.number c.index.result.now (c.requires c.args.t.0 c.in-Some.number (sym at)) c.index.ensures false))

pub returns-in-None : goal.returns-in-None
unfolding keeps dead_at
returns-in-None c = rw (← c.in-None.ensures.number) refl
