use Rattle.std.proofs.Common.{◌≡◌, get_or, refl, ap, ◌∙◌, arith}
use Rattle.std.specs.Prelude.{is_some}
use Rattle.std.proofs.lemmas.List.{get_or_read}
use Rattle.asset_deletion.specs.Grouping.{Grouping, number_in}
use Rattle.asset_deletion.proofs.GroupingLemmas.{listed_where}
use Rattle.asset_deletion.proofs.GroupingLemmas.{named_in_group}
use Rattle.asset_deletion.proofs.grouped.Groups.of.Goals as goal

pub returns-in-Some-clause-number : goal.returns-in-Some-clause-number
unfolding number_in
returns-in-Some-clause-number c =
    let names = c.self.inside.names.keys in
    let numbers = c.self.inside.numbers.items in
    let at = listed_where names c.args.t.0 c.in-Some.node c.in-Some.ensures.index in
    let read : c.index.result.now ≡ get_or numbers c.in-Some.node 0 = get_or_read numbers c.in-Some.node c.index.result.now (omega (arith, c.self.invariant.0, at.0)) c.index.ensures 0 in
    rw (← c.self.view_is, ← c.in-Some.ensures.index, read) refl

pub returns-in-Some-clause-named : goal.returns-in-Some-clause-named
returns-in-Some-clause-named c = λ entries is.
    ap (λ o. is_some o) (returns-in-Some-clause-number c) ∙ ap (λ (g : Grouping). is_some (number_in g c.args.t.0)) is ∙ named_in_group entries c.args.t.0

pub returns-in-None-clause-number : goal.returns-in-None-clause-number
unfolding number_in
returns-in-None-clause-number c = rw (← c.self.view_is, ← c.in-None.ensures.index) refl

pub returns-in-None-clause-named : goal.returns-in-None-clause-named
returns-in-None-clause-named c = λ entries is.
    ap (λ o. is_some o) (returns-in-None-clause-number c) ∙ ap (λ (g : Grouping). is_some (number_in g c.args.t.0)) is ∙ named_in_group entries c.args.t.0
