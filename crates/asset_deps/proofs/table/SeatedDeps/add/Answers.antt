use Rattle.std.proofs.Common.{◌≡◌, ℕ, false, List, ◌||◌, ◌&&◌, eqb, length, Some, is_some, refl, sym, ap, subst, ◌∙◌, arith}
use Rattle.std.proofs.lemmas.Bool.{true≢false}
use Rattle.slab.specs.Slab.{get, Updates}
use Rattle.asset_names.specs.Arrows.{has_arrow}
use Rattle.asset_names.specs.Paths.{same_kind}
use Rattle.asset_names.proofs.Common.{always_err}
use Rattle.asset_chains.specs.declared.side.Side.TheVariants.{Row, Column}
use Rattle.asset_deps.specs.Dependencies.{Dependency, arrows_of}
use Rattle.asset_deps.specs.Valid.{LinkTable, dependencies_of, dependencies_in}
use Rattle.asset_marks.proofs.SlotLemmas.{one_longer}
use Rattle.asset_deps.proofs.TableLemmas.{tied_inside, slots_stand, valid_roomier, valid_added, arrow_added, arrow_again, arrow_of_link}
use Rattle.asset_deps.proofs.table.SeatedDeps.add.Goals as goal

pub returns-then-has-clause-added : goal.returns-then-has-clause-added
returns-then-has-clause-added c = arrow_again (dependencies_in c.args.self.now) c.args.kind c.args.a.t.0 c.args.b.t.0 (sym c.has.ensures ∙ c.if-has.true)

pub returns-in_err-reserve_item-clause-unchanged : goal.returns-in_err-reserve_item-clause-unchanged
returns-in_err-reserve_item-clause-unchanged c =
    let inside = c.self.inside in
    always_err c.from_residual.result (slots_stand inside.links.items c.reserve_item.new.items.items c.reserve_item.ensures.grown.items ∙ ap (λ (v : LinkTable). dependencies_in v) c.self.view_is)

pub insert-requires-clause-row : goal.insert-requires-clause-row
insert-requires-clause-row c =
    let inside = c.self.inside in
    let tied = tied_inside inside.links inside.marks.size inside.marked c.args.self.now c.args.seats.now c.self.view_is c.requires.tied in
    omega (arith, (tied.within c.args.a.at (ap is_some c.requires.source)).0, c.reserve_item.ensures.grown.many Row)

pub insert-requires-clause-column : goal.insert-requires-clause-column
insert-requires-clause-column c =
    let inside = c.self.inside in
    let tied = tied_inside inside.links inside.marks.size inside.marked c.args.self.now c.args.seats.now c.self.view_is c.requires.tied in
    omega (arith, (tied.within c.args.b.at (ap is_some c.requires.dependent)).1, c.reserve_item.ensures.grown.many Column)

pub returns-clause-tied : goal.returns-clause-tied
returns-clause-tied c =
    let inside = c.self.inside in
    let seats = c.args.seats.now in
    let links = c.reserve_item.new.items in
    let a = c.args.a.t.0 in
    let b = c.args.b.t.0 in
    let d : Dependency = record { kind = c.args.kind; source = a; dependent = b } in
    let tied = tied_inside inside.links inside.marks.size inside.marked c.args.self.now seats c.self.view_is c.requires.tied in
    let valid = valid_roomier inside.links links seats inside.marks.size inside.marks.size inside.marked inside.marked tied c.reserve_item.ensures.grown refl (omega arith) (omega arith) in
    let put : Updates links.items c.insert.new.self.items c.insert.result (Some d) = subst (λ (e : Dependency). Updates links.items c.insert.new.self.items c.insert.result (Some e)) c.of.ensures c.insert.ensures.items in
    let absent : has_arrow (arrows_of c.args.kind (dependencies_of links.items)) a b ≡ false =
    ap (λ ds. has_arrow (arrows_of c.args.kind ds) a b) (slots_stand inside.links.items links.items c.reserve_item.ensures.grown.items ∙ ap (λ (v : LinkTable). dependencies_in v) c.self.view_is) ∙ sym c.has.ensures ∙ c.if-has.false
    in
    let new : (k : ℕ) → get links.items k ≡ Some d → ⊥ = λ k there. true≢false (sym (arrow_of_link links.items c.args.kind a b k there) ∙ absent) in
    valid_added links c.insert.new.self seats inside.marks.size inside.marked d c.insert.result c.args.a.at c.args.b.at valid c.requires.source c.requires.dependent put c.insert.ensures.rows c.insert.ensures.columns c.laws.ensures.crossed new

pub returns-clause-added : goal.returns-clause-added
returns-clause-added c = λ k u v.
    let inside = c.self.inside in
    let links = c.reserve_item.new.items.items in
    let a = c.args.a.t.0 in
    let b = c.args.b.t.0 in
    let d : Dependency = record { kind = c.args.kind; source = a; dependent = b } in
    let put : Updates links c.insert.new.self.items c.insert.result (Some d) = subst (λ (e : Dependency). Updates links c.insert.new.self.items c.insert.result (Some e)) c.of.ensures c.insert.ensures.items in
    rw (← c.self.view_is)
    (arrow_added links c.insert.new.self.items c.insert.result c.args.kind a b c.insert.ensures.vacant put k u v
    ∙ ap (λ ds. has_arrow (arrows_of k ds) u v || same_kind k c.args.kind && eqb u a && eqb v b) (slots_stand inside.links.items links c.reserve_item.ensures.grown.items))

-- one dependency more stands, unless it stood already
pub returns-then-has-clause-once : goal.returns-then-has-clause-once
returns-then-has-clause-once c = rw (sym c.has.ensures ∙ c.if-has.true) (omega arith)

pub returns-clause-once : goal.returns-clause-once
unfolding dependencies_of
returns-clause-once c =
    let inside = c.self.inside in
    let links = c.reserve_item.new.items.items in
    let d : Dependency = record { kind = c.args.kind; source = c.args.a.t.0; dependent = c.args.b.t.0 } in
    let put : Updates links c.insert.new.self.items c.insert.result (Some d) = subst (λ (e : Dependency). Updates links c.insert.new.self.items c.insert.result (Some e)) c.of.ensures c.insert.ensures.items in
    let longer = one_longer links c.insert.new.self.items c.insert.result d c.insert.ensures.vacant put in
    let same : length (dependencies_of links) ≡ length (dependencies_of inside.links.items) = ap (λ (ds : List Dependency). length ds) (slots_stand inside.links.items links c.reserve_item.ensures.grown.items) in
    rw (sym c.has.ensures ∙ c.if-has.false, ← c.self.view_is) (omega (arith, longer, same))
