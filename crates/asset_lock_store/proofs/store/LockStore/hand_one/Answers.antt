use Rattle.asset_lock_store.proofs.OneLemmas.{none_kept, none_given, one_kept, one_given}
use Rattle.asset_lock_store.proofs.store.LockStore.hand_one.Goals as goal

pub returns-in-Some-clause-giver : goal.returns-in-Some-clause-giver
returns-in-Some-clause-giver c = λ set only.
    let found = c.in-Some.ensures.found in
    one_kept set c.args.x only c.args.self.now c.args.from c.in-Some.key c.laws.ensures.owners c.laws.ensures.stored found.0 found.1 c.args.to c.hand_key.new.self (c.hand_key.ensures c.args.from found.0 c.requires.apart)

pub returns-in-Some-clause-taker : goal.returns-in-Some-clause-taker
returns-in-Some-clause-taker c = λ set only.
    let found = c.in-Some.ensures.found in
    one_given set c.args.x only c.args.self.now c.args.from c.in-Some.key c.laws.ensures.owners c.laws.ensures.stored found.0 found.1 c.args.to c.hand_key.new.self (c.hand_key.ensures c.args.from found.0 c.requires.apart)

pub returns-in-Some-clause-others : goal.returns-in-Some-clause-others
returns-in-Some-clause-others c = (c.hand_key.ensures c.args.from c.in-Some.ensures.found.0 c.requires.apart).others

pub returns-in-Some-clause-seats : goal.returns-in-Some-clause-seats
returns-in-Some-clause-seats c = (c.hand_key.ensures c.args.from c.in-Some.ensures.found.0 c.requires.apart).seats

pub returns-in-Some-clause-holders : goal.returns-in-Some-clause-holders
returns-in-Some-clause-holders c = (c.hand_key.ensures c.args.from c.in-Some.ensures.found.0 c.requires.apart).holders

pub returns-in_default-clause-giver : goal.returns-in_default-clause-giver
returns-in_default-clause-giver c = λ set only. none_kept set c.args.x only c.args.self.now c.args.from c.laws.ensures.owners c.in_default.ensures.none

pub returns-in_default-clause-taker : goal.returns-in_default-clause-taker
returns-in_default-clause-taker c = λ set only. none_given set c.args.x only c.args.self.now c.args.from c.laws.ensures.owners c.in_default.ensures.none _

pub returns-in-Some-clause-objects : goal.returns-in-Some-clause-objects
returns-in-Some-clause-objects c = (c.hand_key.ensures c.args.from c.in-Some.ensures.found.0 c.requires.apart).objects
