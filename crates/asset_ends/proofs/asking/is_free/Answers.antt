use Rattle.std.proofs.Common.{ℕ, Bool, ap, ◌∙◌}
use Rattle.asset_locks.specs.LockTable.{is_free_in}
use Rattle.asset_locks.specs.Tied.{rows_in}
use Rattle.asset_permits.specs.Valid.{permits_in}
use Rattle.asset_ends.proofs.TiedLemmas.{allowed_alone, free_live}
use Rattle.asset_ends.proofs.asking.is_free.Goals as goal

pub returns-in-None-clause-free : goal.returns-in-None-clause-free
returns-in-None-clause-free c =
    let t = c.args.t in
    c.is_free-in-None.ensures.free
    ∙ ap (λ (allows : ℕ → Bool). is_free_in (rows_in c.args.seats.now c.args.locks.now) allows t.0 c.args.x.0 c.args.op)
    (λ i. λ u. allowed_alone c.args.trans.now c.args.permits.now c.args.seats.now t c.args.x.0 c.args.op c.requires.seated c.requires.permits c.in-None.ensures.absent u i)

pub returns-in-Some-clause-free : goal.returns-in-Some-clause-free
returns-in-Some-clause-free c =
    let one = c.in-Some.one in
    let alive = c.requires.seated.live one.at one.t c.in-Some.ensures.sits.0 in
    rw c.in-Some.ensures.sits.1 at (c.is_free.ensures.free ∙ free_live c.args.trans.now (permits_in c.args.permits.now) (rows_in c.args.seats.now c.args.locks.now) one.t.0 c.args.x.0 c.args.op alive)
