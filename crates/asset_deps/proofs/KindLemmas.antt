-- The arrows of dependencies, by the kinds of these.
use Rattle.std.proofs.Common.{◌≡◌, ℕ, Bool, true, false, cond, eqb, ◌&&◌, ◌||◌, List, [], ◌∷◌, ◌++◌, map, filter, refl, sym, ap, ◌∙◌}
use Rattle.std.specs.List.{list_any}
use Rattle.asset_names.specs.declared.steps.Kind.{Kind}
use Rattle.asset_names.specs.declared.steps.Kind.TheVariants.{Cd, Ad, Gc}
use Rattle.asset_names.specs.Arrows.{Arrow, linked, has_arrow}
use Rattle.asset_names.specs.Paths.{same_kind, leads}
use Rattle.asset_names.proofs.PermitLemmas.{linked_same}
use Rattle.asset_names.proofs.ListLemmas.{any_alike, any_of_two}
use Rattle.asset_names.proofs.DependLemmas.{has_append, has_both}
use Rattle.asset_marks.proofs.KeyedLemmas.{turned_leads}
use Rattle.asset_deps.specs.declared.kinds.Kinds.{Kinds}
use Rattle.asset_deps.specs.declared.kinds.Kinds.TheVariants.{Class, Dooming, Order, All}
use Rattle.asset_deps.specs.Dependencies.{Dependency, arrows_of, class_ways, order_ways, doom_ways, class_in, doomed_in}
use Rattle.asset_deps.specs.Reached.{has_kind, of_kinds, depends_by, arrows_in, ways_in}

-- whether the dependency is one from the first to the second that passes
abbrev pub joins : (Dependency → Bool) → ℕ → ℕ → Dependency → Bool
joins test u v d = test d && eqb d.source u && eqb d.dependent v

-- an arrow leads where a dependency that passes does
arrows_pass : (test : Dependency → Bool) (ds : List Dependency) (u v : ℕ) → has_arrow (map (λ (d : Dependency). (d.source, d.dependent)) (filter test ds)) u v ≡ list_any (joins test u v) ds
unfolding has_arrow
arrows_pass test [] u v = refl
arrows_pass test (d ∷ ds) u v = go (test d) (arrows_pass test ds u v) where
  go : (b : Bool) → has_arrow (map (λ (e : Dependency). (e.source, e.dependent)) (filter test ds)) u v ≡ list_any (joins test u v) ds
      → has_arrow (map (λ (e : Dependency). (e.source, e.dependent)) (cond b (d ∷ filter test ds) (filter test ds))) u v ≡ ((b && eqb d.source u && eqb d.dependent v) || list_any (joins test u v) ds)
  go true rest = ap (λ b. eqb d.source u && eqb d.dependent v || b) rest
  go false rest = rest

pub arrow_in : (kinds : Kinds) (ds : List Dependency) (u v : ℕ) → has_arrow (arrows_in kinds ds) u v ≡ depends_by kinds ds u v
unfolding arrows_in depends_by
arrow_in kinds ds u v = arrows_pass (of_kinds kinds) ds u v

pub arrow_of : (kind : Kind) (ds : List Dependency) (u v : ℕ) → has_arrow (arrows_of kind ds) u v ≡ list_any (joins (λ (d : Dependency). same_kind kind d.kind) u v) ds
unfolding arrows_of
arrow_of kind ds u v = arrows_pass (λ (d : Dependency). same_kind kind d.kind) ds u v

-- kinds that are those of one set or of another
either_kind : (both one other : Dependency → Bool) (ds : List Dependency) (u v : ℕ) → ((d : Dependency) → both d ≡ (one d || other d)) → list_any (joins both u v) ds ≡ (list_any (joins one u v) ds || list_any (joins other u v) ds)
either_kind both one other ds u v is = any_of_two (joins both u v) (joins one u v) (joins other u v) ds (λ d. ap (λ b. b && eqb d.source u && eqb d.dependent v) (is d) ∙ spread (one d) (other d) (eqb d.source u) (eqb d.dependent v)) where
  spread : (a b c d : Bool) → ((a || b) && c && d) ≡ ((a && c && d) || (b && c && d))
  spread true true true true = refl
  spread true true true false = refl
  spread true true false d = refl
  spread true false true true = refl
  spread true false true false = refl
  spread true false false d = refl
  spread false b c d = refl

-- ---- which arrows there are for each set of kinds
pub by_group : (ds : List Dependency) (u v : ℕ) → depends_by Class ds u v ≡ has_arrow (arrows_of Gc ds) u v
unfolding depends_by of_kinds has_kind same_kind
by_group ds u v = any_alike (joins (of_kinds Class) u v) (joins (λ (d : Dependency). same_kind Gc d.kind) u v) ds (λ d. ap (λ b. b && eqb d.source u && eqb d.dependent v) (one d.kind)) ∙ sym (arrow_of Gc ds u v) where
  one : (k : Kind) → has_kind Class k ≡ same_kind Gc k
  one Cd = refl
  one Ad = refl
  one Gc = refl

pub by_dooming : (ds : List Dependency) (u v : ℕ) → depends_by Dooming ds u v ≡ (has_arrow (arrows_of Gc ds) u v || has_arrow (arrows_of Ad ds) u v)
unfolding depends_by of_kinds has_kind same_kind
by_dooming ds u v =
    either_kind (of_kinds Dooming) (λ (d : Dependency). same_kind Gc d.kind) (λ (d : Dependency). same_kind Ad d.kind) ds u v (λ d. one d.kind)
    ∙ (λ i. sym (arrow_of Gc ds u v) i || sym (arrow_of Ad ds u v) i) where
      one : (k : Kind) → has_kind Dooming k ≡ (same_kind Gc k || same_kind Ad k)
      one Cd = refl
      one Ad = refl
      one Gc = refl

pub by_order : (ds : List Dependency) (u v : ℕ) → depends_by Order ds u v ≡ has_arrow (order_ways ds) u v
unfolding depends_by of_kinds has_kind same_kind order_ways
by_order ds u v =
    either_kind (of_kinds Order) (λ (d : Dependency). same_kind Cd d.kind) (λ (d : Dependency). same_kind Ad d.kind) ds u v (λ d. one d.kind)
    ∙ (λ i. sym (arrow_of Cd ds u v) i || sym (arrow_of Ad ds u v) i)
    ∙ sym (has_append (arrows_of Cd ds) (arrows_of Ad ds) u v) where
      one : (k : Kind) → has_kind Order k ≡ (same_kind Cd k || same_kind Ad k)
      one Cd = refl
      one Ad = refl
      one Gc = refl

pub by_all : (ds : List Dependency) (u v : ℕ) → depends_by All ds u v ≡ (has_arrow (arrows_of Gc ds) u v || has_arrow (order_ways ds) u v)
unfolding depends_by of_kinds has_kind same_kind
by_all ds u v =
    either_kind (of_kinds All) (of_kinds Class) (of_kinds Order) ds u v (λ d. one d.kind) ∙ (λ i. by_group ds u v i || by_order ds u v i) where
      one : (k : Kind) → has_kind All k ≡ (has_kind Class k || has_kind Order k)
      one Cd = refl
      one Ad = refl
      one Gc = refl

-- the arrows of a search: those of the kinds, and those of group commits turned round
pub way_in : (kinds : Kinds) (ds : List Dependency) (u v : ℕ) → has_arrow (ways_in kinds ds) u v ≡ (depends_by kinds ds u v || depends_by Class ds v u)
unfolding ways_in
way_in kinds ds u v =
    has_append (arrows_in kinds ds) (map (λ (arrow : Arrow). (arrow.1, arrow.0)) (arrows_in Class ds)) u v
    ∙ (λ i. arrow_in kinds ds u v i || (turned_leads (arrows_in Class ds) u v ∙ arrow_in Class ds v u) i)

swap : (a b c : Bool) → ((a || b) || c) ≡ ((a || c) || b)
swap true b c = refl
swap false true true = refl
swap false true false = refl
swap false false true = refl
swap false false false = refl

class_way : (ds : List Dependency) (u v : ℕ) → has_arrow (class_ways ds) u v ≡ (has_arrow (arrows_of Gc ds) u v || has_arrow (arrows_of Gc ds) v u)
unfolding class_ways
class_way ds u v = has_both (arrows_of Gc ds) u v

pub class_linked : (ds : List Dependency) (a b : ℕ) → linked (ways_in Class ds) a b ≡ class_in ds a b
unfolding class_in
class_linked ds a b = linked_same (ways_in Class ds) (class_ways ds) (λ u v. way_in Class ds u v ∙ (λ i. by_group ds u v i || by_group ds v u i) ∙ sym (class_way ds u v)) a b

pub doom_linked : (ds : List Dependency) (a b : ℕ) → linked (ways_in Dooming ds) a b ≡ doomed_in ds a b
unfolding doomed_in doom_ways
doom_linked ds a b =
    linked_same (ways_in Dooming ds) (class_ways ds ++ arrows_of Ad ds) (λ u v.
    way_in Dooming ds u v
    ∙ (λ i. by_dooming ds u v i || by_group ds v u i)
    ∙ swap (has_arrow (arrows_of Gc ds) u v) (has_arrow (arrows_of Ad ds) u v) (has_arrow (arrows_of Gc ds) v u)
    ∙ ap (λ b. b || has_arrow (arrows_of Ad ds) u v) (sym (class_way ds u v))
    ∙ sym (has_append (class_ways ds) (arrows_of Ad ds) u v)) a b

pub path_linked : (ds : List Dependency) (a b : ℕ) → linked (ways_in All ds) a b ≡ leads (class_ways ds) (order_ways ds) a b
unfolding leads
path_linked ds a b =
    linked_same (ways_in All ds) (class_ways ds ++ order_ways ds) (λ u v.
    way_in All ds u v
    ∙ (λ i. by_all ds u v i || by_group ds v u i)
    ∙ swap (has_arrow (arrows_of Gc ds) u v) (has_arrow (order_ways ds) u v) (has_arrow (arrows_of Gc ds) v u)
    ∙ ap (λ b. b || has_arrow (order_ways ds) u v) (sym (class_way ds u v))
    ∙ sym (has_append (class_ways ds) (order_ways ds) u v)) a b
