use Rattle.std.proofs.Common.{ℕ, length, sym, ap, ◌∙◌, inl, arith}
use Rattle.std.proofs.lemmas.Bool.{not-true}
use Rattle.asset_names.proofs.Common.{always_err}
use Rattle.asset_chains.specs.Chained.{Chained, home_of}
use Rattle.asset_lock_store.specs.LockRules.{conflicts_on}
use Rattle.asset_lock_store.specs.Stored.{lock_at}
use Rattle.asset_lock_store.proofs.LockLemmas.{on_to}
use Rattle.asset_lock_store.proofs.GrantLemmas.{alone_first, grants_again, suspends_again, grants_first, suspends_first, none_here, grown_same}
use Rattle.asset_lock_store.proofs.store.LockStore.grant.Goals as goal

pub own_key-requires-clause-noted : goal.own_key-requires-clause-noted
own_key-requires-clause-noted c = c.requires.noted

pub take-requires-clause-home : goal.take-requires-clause-home
take-requires-clause-home c = c.in-Some.ensures.found.0

pub take-requires-clause-alone : goal.take-requires-clause-alone
take-requires-clause-alone c = λ none k d home differ. ap (λ (n : ℕ). conflicts_on n c.args.op (lock_at c.args.self.now.locks k)) (on_to c.args.x.0 _ c.in-Some.ensures.found.1) ∙ c.requires.noted.alone none k d home differ

pub add_lock-requires-clause-alone : goal.add_lock-requires-clause-alone
add_lock-requires-clause-alone c = λ granted. c.requires.noted.alone (not-true c.args.look.conflicts granted)

pub take-requires-in-None-clause-home : goal.take-requires-in-None-clause-home
take-requires-in-None-clause-home c = c.in_ok-key-in-None.ensures.added.home

pub take-requires-in-None-clause-alone : goal.take-requires-in-None-clause-alone
take-requires-in-None-clause-alone c = λ none.
    alone_first c.args.self.now c.laws.ensures.stored c.laws.ensures.owners c.args.c c.args.x c.add_lock.new.self c.args.op c.in_ok-key-in-None.key c.add_lock.new.self _ c.in-None.ensures.none c.in_ok-key-in-None.ensures.added (c.requires.noted.alone none)

pub returns-in-Some-clause-own : goal.returns-in-Some-clause-own
returns-in-Some-clause-own c = grants_again c.args.self.now c.laws.ensures.stored c.laws.ensures.owners c.args.c c.args.x c.take.new.self c.args.op c.in-Some.key c.in-Some.ensures.found.0 c.in-Some.ensures.found.1 c.take.ensures.own

pub returns-in-Some-clause-others : goal.returns-in-Some-clause-others
returns-in-Some-clause-others c = λ d apart. suspends_again c.args.self.now c.laws.ensures.stored c.laws.ensures.owners c.args.c c.args.x c.take.new.self c.args.op c.in-Some.key c.in-Some.ensures.found.0 c.in-Some.ensures.found.1 d (c.take.ensures.others d apart)

pub returns-in-Some-clause-seats : goal.returns-in-Some-clause-seats
returns-in-Some-clause-seats c = omega (arith, ap (λ (t : Chained). length t.chains) c.take.ensures.by_owner)

pub returns-in-Some-clause-holders : goal.returns-in-Some-clause-holders
returns-in-Some-clause-holders c = λ k d home. inl (ap (λ (t : Chained). home_of t k) (sym c.take.ensures.by_owner) ∙ home)

pub returns-in_err-key-in-None-clause-first : goal.returns-in_err-key-in-None-clause-first
returns-in_err-key-in-None-clause-first c = λ failed. (none_here c.args.self.now c.laws.ensures.stored c.laws.ensures.owners c.args.c c.args.x c.in-None.ensures.none).0

pub returns-in_err-key-in-None-clause-unchanged : goal.returns-in_err-key-in-None-clause-unchanged
returns-in_err-key-in-None-clause-unchanged c = always_err c.from_residual.result (grown_same c.args.self.now c.add_lock.new.self c.in_err-key-in-None.ensures.unchanged)

pub returns-in_ok-key-in-None-clause-own : goal.returns-in_ok-key-in-None-clause-own
returns-in_ok-key-in-None-clause-own c = grants_first c.args.self.now c.laws.ensures.stored c.laws.ensures.owners c.args.c c.args.x c.take-in-None.new.self c.args.op c.in_ok-key-in-None.key c.add_lock.new.self _ c.in-None.ensures.none c.in_ok-key-in-None.ensures.added c.take-in-None.ensures.own

pub returns-in_ok-key-in-None-clause-others : goal.returns-in_ok-key-in-None-clause-others
returns-in_ok-key-in-None-clause-others c = λ d apart. suspends_first c.args.self.now c.laws.ensures.stored c.laws.ensures.owners c.args.c c.args.x c.take-in-None.new.self c.args.op c.in_ok-key-in-None.key c.add_lock.new.self _ c.in-None.ensures.none c.in_ok-key-in-None.ensures.added d apart (c.take-in-None.ensures.others d apart)
