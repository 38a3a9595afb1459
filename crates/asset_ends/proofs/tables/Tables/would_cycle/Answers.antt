use Rattle.std.proofs.Common.{inl, inr, ◌∙◌}
use Rattle.asset_deps.specs.Dependencies.{would_cycle_in}
use Rattle.asset_deps.specs.Valid.{dependencies_in}
use Rattle.asset_ends.proofs.DependLaws.{would_cycle_shown}
use Rattle.asset_ends.proofs.tables.Tables.would_cycle.Goals as goal

pub would_cycle_apart-requires-clause-apart : goal.would_cycle_apart-requires-clause-apart
would_cycle_apart-requires-clause-apart c = inl c.in_default.ensures.absent

pub would_cycle_apart-requires-in_default-sitter_of-clause-apart : goal.would_cycle_apart-requires-in_default-sitter_of-clause-apart
would_cycle_apart-requires-in_default-sitter_of-clause-apart c = inr c.in_default-sitter_of.ensures.absent

pub returns-in_default-clause-shown : goal.returns-in_default-clause-shown
returns-in_default-clause-shown c = rw (← c.self.view_is) (λ opening steps stand. c.would_cycle_apart.ensures ∙ would_cycle_shown steps _ stand.dependencies_stand c.args.kind c.args.a.0 c.args.b.0)

pub returns-in_default-sitter_of-clause-shown : goal.returns-in_default-sitter_of-clause-shown
returns-in_default-sitter_of-clause-shown c = rw (← c.self.view_is) (λ opening steps stand. c.would_cycle_apart-in_default-sitter_of.ensures ∙ would_cycle_shown steps _ stand.dependencies_stand c.args.kind c.args.a.0 c.args.b.0)

pub returns-clause-cycle : goal.returns-clause-cycle
returns-clause-cycle c =
    let stands = dependencies_in c.self.inside.parts.deps in
    rw (← c.self.view_is) (c.would_cycle.ensures.would_cycle
    ∙ (λ i. would_cycle_in stands c.args.kind (c.in-Some.ensures.sits.1 i).0 (c.in-Some-sitter_of.ensures.sits.1 i).0))

pub returns-clause-shown : goal.returns-clause-shown
returns-clause-shown c = λ opening steps stand. returns-clause-cycle c ∙ would_cycle_shown steps _ stand.dependencies_stand c.args.kind c.args.a.0 c.args.b.0
