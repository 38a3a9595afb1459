use Rattle.std.proofs.Common.{◌≡◌, ℕ, Bool, ap, ◌∙◌}
use Rattle.asset_locks.specs.Blocking.{is_blocker_in}
use Rattle.asset_locks.specs.Tied.{rows_in}
use Rattle.asset_names.specs.Arrows.{lists}
use Rattle.asset_permits.specs.Descriptors.{allows_by}
use Rattle.asset_permits.specs.Valid.{permits_in}
use Rattle.asset_ends.specs.Standing.{allows_in}
use Rattle.asset_ends.proofs.TiedLemmas.{allowed_alone, allowed_live}
use Rattle.asset_ends.proofs.WaitLemmas.{if_ok_as}
use Rattle.asset_ends.proofs.waiting.blockers.Goals as goal

pub returns-in-None-clause-named : goal.returns-in-None-clause-named
returns-in-None-clause-named c =
    let parts = c.args.parts.now in
    let t = c.args.t in
    if_ok_as c.blockers-in-None.result (λ found named u.
    named u
    ∙ ap (λ (allows : ℕ → Bool). is_blocker_in (rows_in parts.seats parts.locks) allows t.0 c.args.x.0 c.args.op u)
    (λ i. λ n. allowed_alone parts.trans parts.permits parts.seats t c.args.x.0 c.args.op c.requires.seated c.requires.permits c.in-None.ensures.absent n i)) c.blockers-in-None.ensures.named

pub returns-in-Some-clause-named : goal.returns-in-Some-clause-named
returns-in-Some-clause-named c =
    let parts = c.args.parts.now in
    let one = c.in-Some.one in
    let alive = c.requires.seated.live one.at one.t c.in-Some.ensures.sits.0 in
    let x = c.args.x.0 in
    let op = c.args.op in
    let rows = rows_in parts.seats parts.locks in
    let given = permits_in parts.permits in
    let same : (u : ℕ) → is_blocker_in rows (λ n. allows_by given n one.t.0 x op) one.t.0 x op u ≡ is_blocker_in rows (λ n. allows_in parts.trans given n one.t.0 x op) one.t.0 x op u =
    λ u. λ i. is_blocker_in rows (λ n. allowed_live parts.trans given one.t.0 x op alive n i) one.t.0 x op u in
    rw c.in-Some.ensures.sits.1 at (if_ok_as {Q = λ found. (u : ℕ) → lists found.keys u ≡ is_blocker_in rows (λ n. allows_in parts.trans given n one.t.0 x op) one.t.0 x op u} c.blockers.result (λ found named u. named u ∙ same u) c.blockers.ensures.named)
