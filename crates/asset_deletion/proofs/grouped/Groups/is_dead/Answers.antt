use Rattle.std.proofs.Common.{◌≡◌, false, get_or, refl, sym, ap, ◌∙◌, arith}
use Rattle.std.proofs.lemmas.List.{get_or_read, get_or-map}
use Rattle.asset_deletion.specs.Grouping.{Grouping, dead_in, dead_at}
use Rattle.asset_deletion.proofs.GroupingLemmas.{listed_where}
use Rattle.asset_deletion.proofs.GroupingLemmas.{dead_in_group}
use Rattle.asset_deletion.proofs.grouped.Groups.is_dead.Goals as goal

pub returns-in-Some-clause-dead : goal.returns-in-Some-clause-dead
unfolding dead_in dead_at
returns-in-Some-clause-dead c =
    let names = c.self.inside.names.keys in
    let numbers = c.self.inside.numbers.items in
    let is_dead = c.self.inside.is_dead.items in
    let node = c.in-Some.node in
    let at = listed_where names c.args.t.0 node c.in-Some.ensures.index in
    let number : c.index.result.now ≡ get_or numbers node 0 = get_or_read numbers node c.index.result.now (omega (arith, c.self.invariant.0, at.0)) c.index.ensures 0 in
    let below = c.self.invariant.1 node at.0 in
    let read : c.index-in-Some.result.now ≡ get_or is_dead c.index.result.now false = get_or_read is_dead c.index.result.now c.index-in-Some.result.now (omega arith) c.index-in-Some.ensures false in
    rw (← c.self.view_is, ← c.in-Some.ensures.index)
    (read ∙ ap (λ k. get_or is_dead k false) number ∙ sym (get_or-map (λ k. get_or is_dead k false) numbers node 0 false (omega (arith, c.self.invariant.0, at.0))))

pub returns-in-Some-clause-group : goal.returns-in-Some-clause-group
returns-in-Some-clause-group c = λ entries is. returns-in-Some-clause-dead c ∙ ap (λ (g : Grouping). dead_in g c.args.t.0) is ∙ dead_in_group entries c.args.t.0

pub returns-in-None-clause-dead : goal.returns-in-None-clause-dead
unfolding dead_in dead_at
returns-in-None-clause-dead c = rw (← c.self.view_is, ← c.in-None.ensures.index) refl

pub returns-in-None-clause-group : goal.returns-in-None-clause-group
returns-in-None-clause-group c = λ entries is. returns-in-None-clause-dead c ∙ ap (λ (g : Grouping). dead_in g c.args.t.0) is ∙ dead_in_group entries c.args.t.0
