use Rattle.std.proofs.Common.{◌≡◌, ℕ, true, Option, Some, subst}
use Rattle.std.specs.Prelude.{IfSome}
use Rattle.asset_chains.specs.Chained.{home_of}
use Rattle.asset_lists.specs.declared.part.Section.TheVariants.{Middle, Back}
use Rattle.asset_lock_store.specs.LockRules.{is_on}
use Rattle.asset_lock_store.specs.Stored.{lock_at}
use Rattle.asset_lock_store.proofs.WalkLemmas.{misses_read, misses_add, looks_for_write}
use Rattle.asset_lock_store.proofs.LookLemmas.{unmet_in, unmet_is_not_there}
use Rattle.asset_lock_store.proofs.store.LockStore.own_key.Goals as goal

pub returns-in-Some-clause-found : goal.returns-in-Some-clause-found
returns-in-Some-clause-found c = subst (λ (o : Option ℕ). IfSome o (λ k. (home_of c.args.self.now.by_owner k ≡ Some c.args.c) × (is_on c.args.x.0 (lock_at c.args.self.now.locks k) ≡ true))) c.in-Some.is c.requires.noted.own

pub key_among-requires-clause-class : goal.key_among-requires-clause-class
key_among-requires-clause-class c = unmet_in c.args.self.now c.args.c c.args.x.0 c.args.op c.args.look c.requires.noted c.in-None.is Back (misses_read c.args.op c.in-Read.is)

pub key_among-requires-in-Add-clause-class : goal.key_among-requires-in-Add-clause-class
key_among-requires-in-Add-clause-class c = unmet_in c.args.self.now c.args.c c.args.x.0 c.args.op c.args.look c.requires.noted c.in-None.is Middle (misses_add c.args.op c.in-Add.is)

pub returns-in-Write-clause-none : goal.returns-in-Write-clause-none
returns-in-Write-clause-none c = unmet_is_not_there c.args.self.now c.args.c c.args.x.0 c.args.op c.args.look c.requires.noted c.in-None.is (looks_for_write c.args.op c.in-Write.is)
