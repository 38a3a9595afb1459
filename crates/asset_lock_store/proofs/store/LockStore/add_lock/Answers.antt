use Rattle.std.proofs.Common.{List, sym, ap, subst, ◌∙◌, arith}
use Rattle.asset_names.specs.declared.names.Ob.{Ob}
use Rattle.asset_names.specs.OpSets.{OpSet}
use Rattle.asset_names.proofs.Common.{always_err}
use Rattle.asset_lock_store.specs.declared.lock.Lock.{Lock}
use Rattle.asset_lock_store.specs.LockRules.{is_on, new_lock, is_some_op}
use Rattle.asset_names.specs.Numbered.{number_in}
use Rattle.asset_lock_store.specs.Stored.{IsAdded}
use Rattle.asset_lock_store.proofs.StoreLemmas.{same_lock}
use Rattle.asset_lock_store.proofs.OpsLemmas.{some_only}
use Rattle.asset_lock_store.proofs.GrantLemmas.{apart_new, alone_grown, grown_twice, added_later}
use Rattle.asset_lock_store.proofs.store.LockStore.add_lock.Goals as goal

pub returns-in_err-key-clause-unchanged : goal.returns-in_err-key-clause-unchanged
returns-in_err-key-clause-unchanged c = always_err c.from_residual.result c.reserve_key.ensures.grown

pub insert-requires-clause-room : goal.insert-requires-clause-room
insert-requires-clause-room c = c.in_ok-key.ensures.room

pub insert-requires-clause-number : goal.insert-requires-clause-number
insert-requires-clause-number c = ap (λ (l : List Ob). number_in l c.args.x.0) c.reserve_key.ensures.grown.objects ∙ c.requires.number

pub insert-requires-clause-seat : goal.insert-requires-clause-seat
insert-requires-clause-seat c = omega (arith, c.requires.seat, c.reserve_key.ensures.grown.seats)

pub insert-requires-clause-none : goal.insert-requires-clause-none
insert-requires-clause-none c = λ k home.
    let grown = c.reserve_key.ensures.grown in
    ap (λ (l : Lock). is_on c.args.x.0 l) (same_lock c.reserve_key.new.self.locks c.args.self.now.locks k (grown.locks k)) ∙ c.requires.none k (sym (grown.homes k) ∙ home)

pub insert-requires-clause-apart : goal.insert-requires-clause-apart
insert-requires-clause-apart c = λ granted.
    let grown = c.reserve_key.ensures.grown in
    apart_new c.reserve_key.new.self c.args.c c.args.x c.args.op c.only.result c.only.ensures (alone_grown c.args.self.now c.reserve_key.new.self c.args.c c.args.x.0 c.args.op grown (c.requires.alone granted))

pub insert-requires-clause-ops : goal.insert-requires-clause-ops
insert-requires-clause-ops c = ap is_some_op c.only.ensures ∙ some_only c.args.op

pub returns-clause-added : goal.returns-clause-added
unfolding new_lock
returns-clause-added c =
    added_later c.args.self.now c.reserve_key.new.self c.insert.new.self c.in_ok-key.key c.args.c _ c.reserve_key.ensures.grown
    (subst (λ (o : OpSet). IsAdded c.in_ok-key.key c.args.c (record { object = c.args.x; ops = o; granted = c.args.granted }) c.reserve_key.new.self c.insert.new.self) c.only.ensures c.in_ok-insert.ensures.added)

pub returns-in_err-insert-clause-unchanged : goal.returns-in_err-insert-clause-unchanged
returns-in_err-insert-clause-unchanged c =
    always_err c.from_residual-in_err-insert.result
    (grown_twice c.args.self.now c.reserve_key.new.self c.insert.new.self c.reserve_key.ensures.grown c.in_err-insert.ensures.unchanged)
