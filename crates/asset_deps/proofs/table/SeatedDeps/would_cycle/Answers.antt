use Rattle.std.proofs.Common.{sym, ap, ◌∙◌}
use Rattle.asset_deps.specs.Valid.{LinkTable, dependencies_in}
use Rattle.asset_deps.proofs.CycleLemmas.{path, group_there, group_back, group_within, commit_back, abort_back}
use Rattle.asset_deps.proofs.table.SeatedDeps.would_cycle.Goals as goal

pub returns-then-leads-clause-would_cycle : goal.returns-then-leads-clause-would_cycle
returns-then-leads-clause-would_cycle c =
    let ds = dependencies_in c.args.self.now in
    let apart = sym c.same_class.ensures.same_class ∙ c.if-same_class.false in
    let same = c.same_class.ensures.same in
    let leads = sym (ap (λ (p : LinkTable). path (dependencies_in p) c.args.a.t.0 c.args.b.t.0) same) ∙ sym c.leads.ensures.leads ∙ c.if-leads.true in
    c.if-leads.true ∙ group_there ds c.args.kind c.args.a.t.0 c.args.b.t.0 c.in-Gc.is apart leads

pub returns-else-leads-clause-would_cycle : goal.returns-else-leads-clause-would_cycle
returns-else-leads-clause-would_cycle c =
    let ds = dependencies_in c.args.self.now in
    let apart = sym c.same_class.ensures.same_class ∙ c.if-same_class.false in
    let same = c.same_class.ensures.same in
    let leads = sym (ap (λ (p : LinkTable). path (dependencies_in p) c.args.a.t.0 c.args.b.t.0) same) ∙ sym c.leads.ensures.leads ∙ c.if-leads.false in
    c.leads-else-leads.ensures.leads
    ∙ ap (λ (p : LinkTable). path (dependencies_in p) c.args.b.t.0 c.args.a.t.0) (c.leads.ensures.same ∙ same)
    ∙ group_back ds c.args.kind c.args.a.t.0 c.args.b.t.0 c.in-Gc.is apart leads

pub returns-then-same_class-clause-would_cycle : goal.returns-then-same_class-clause-would_cycle
returns-then-same_class-clause-would_cycle c =
    let ds = dependencies_in c.args.self.now in
    let within = sym c.same_class.ensures.same_class ∙ c.if-same_class.true in
    group_within ds c.args.kind c.args.a.t.0 c.args.b.t.0 c.in-Gc.is within

pub returns-in-Cd-clause-would_cycle : goal.returns-in-Cd-clause-would_cycle
returns-in-Cd-clause-would_cycle c = c.leads-in-Cd.ensures.leads ∙ commit_back (dependencies_in c.args.self.now) c.args.kind c.args.a.t.0 c.args.b.t.0 c.in-Cd.is

pub returns-in-Ad-clause-would_cycle : goal.returns-in-Ad-clause-would_cycle
returns-in-Ad-clause-would_cycle c = c.leads-in-Ad.ensures.leads ∙ abort_back (dependencies_in c.args.self.now) c.args.kind c.args.a.t.0 c.args.b.t.0 c.in-Ad.is
