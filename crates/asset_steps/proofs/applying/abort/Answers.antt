use Rattle.std.proofs.Common.{refl, sym, ◌∙◌}
use Rattle.asset_ends.proofs.ShowsLemmas.{abort_again_shows, live_shown}
use Rattle.asset_steps.specs.Ready.{released}
use Rattle.asset_steps.proofs.applying.abort.Goals as goal

pub returns-then-is_live-clause-stand : goal.returns-then-is_live-clause-stand
returns-then-is_live-clause-stand c =
    c.abort.ensures.stand

pub returns-then-is_live-clause-locks : goal.returns-then-is_live-clause-locks
unfolding released
returns-then-is_live-clause-locks c =
    let live = rw (c.is_live.ensures, c.status.ensures.row) at c.if-is_live.true in
    rw live c.abort.ensures.locks

pub returns-else-is_live-clause-stand : goal.returns-else-is_live-clause-stand
returns-else-is_live-clause-stand c =
    let ended = rw (c.is_live.ensures, c.status.ensures.row) at c.if-is_live.false in
    λ opening steps stand. abort_again_shows opening steps _ _ _ _ _ c.args.t stand (sym (live_shown opening steps _ _ _ _ _ c.args.t.0 stand) ∙ ended)

pub returns-else-is_live-clause-locks : goal.returns-else-is_live-clause-locks
unfolding released
returns-else-is_live-clause-locks c =
    let ended = rw (c.is_live.ensures, c.status.ensures.row) at c.if-is_live.false in
    rw ended refl
