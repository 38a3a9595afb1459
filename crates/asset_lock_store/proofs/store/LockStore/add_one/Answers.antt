use Rattle.std.proofs.Common.{◌∙◌, sym, ap, ◌++◌}
use Rattle.std.proofs.lemmas.List.{append-nil}
use Rattle.asset_lock_store.proofs.OneLemmas.{none_held, one_held}
use Rattle.asset_lock_store.proofs.store.LockStore.add_one.Goals as goal

pub returns-in_default : goal.returns-in_default
returns-in_default c = λ set only.
    sym (append-nil c.args.held.now.items) ∙ ap (λ l. c.args.held.now.items ++ l) (none_held set c.args.x only c.args.self.now c.args.c c.laws.ensures.owners c.in_default.ensures.none)

pub returns-in-Ok : goal.returns-in-Ok
returns-in-Ok c = λ set only.
    let found = c.in-Some.ensures.found in
    c.in-Ok.ensures.ok
    ∙ ap (λ l. c.args.held.now.items ++ l) (one_held set c.args.x only c.args.self.now c.args.c c.in-Some._key c.laws.ensures.owners c.laws.ensures.stored found.0 found.1)
