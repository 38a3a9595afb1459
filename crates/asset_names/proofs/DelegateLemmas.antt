-- What a delegation leaves: who is responsible, who holds what, and who permits what.
use Rattle.std.proofs.Common.{◌≡◌, ℕ, Bool, true, false, cond, not, eqb, ◌&&◌, ◌||◌, List, [], ◌∷◌, ◌++◌, map, filter, refl, sym, ◌∙◌, ap, arith, ◌⊎◌, inl, inr}
use Rattle.std.specs.List.{list_any}
use Rattle.std.proofs.lemmas.Bool.{and_parts, or_cases, or_left, or_right, eqb-true}
use Rattle.std.proofs.lemmas.List.Folds.{list_any-append}
use Rattle.asset_names.specs.declared.names.Txn.{Txn}
use Rattle.asset_names.specs.declared.operations.Op.{Op}
use Rattle.asset_names.specs.declared.operations.Op.TheVariants as Op'
use Rattle.asset_names.specs.declared.sets.ObSet.{ObSet}
use Rattle.asset_names.specs.declared.steps.Step.{Step}
use Rattle.asset_names.specs.declared.steps.Step.TheVariants.{Delegate}
use Rattle.asset_names.specs.InSet.{in_set}
use Rattle.asset_names.specs.Arrows.{Arrow, has_arrow}
use Rattle.asset_names.specs.Steps.{initiated, initiated_by}
use Rattle.asset_names.specs.Endings.{live, end_of, ended_by}
use Rattle.asset_names.specs.Operations.{Operation, op_of, same_op, operated, operations, holds, holds_object, handed_over, copied, permits, permitted_by}
use Rattle.asset_names.proofs.Common.{eqb-flip, option_or_none}
use Rattle.asset_names.proofs.HolderLemmas.{held_by}
use Rattle.asset_names.proofs.ListLemmas.{any_map, any_filter, any_alike, any_either, all_and}

-- ---- arrows

-- the copies lead from the taker to where the giver's arrows lead
pub has_copied : (giver taker : ℕ) (arrows : List Arrow) (u v : ℕ) → has_arrow (copied giver taker arrows) u v ≡ (eqb taker u && has_arrow arrows giver v)
unfolding has_arrow copied
has_copied giver taker arrows u v =
    any_map (λ (arrow : Arrow). eqb arrow.0 u && eqb arrow.1 v) (λ (arrow : Arrow). (taker, arrow.1)) (filter (λ (arrow : Arrow). eqb arrow.0 giver) arrows)
    ∙ all_and (eqb taker u) (λ (arrow : Arrow). eqb arrow.1 v) (filter (λ (arrow : Arrow). eqb arrow.0 giver) arrows)
    ∙ ap (λ b. eqb taker u && b) (any_filter (λ (arrow : Arrow). eqb arrow.1 v) (λ (arrow : Arrow). eqb arrow.0 giver) arrows)

-- the arrows after a delegation
pub arrows_delegated : (giver taker : Txn) (obs : ObSet) (steps : List Step) (x : ℕ) (op : Op) (u v : ℕ)
    → has_arrow (permits (Delegate giver taker obs ∷ steps) x op) u v ≡ ((eqb taker.0 u && ((in_set obs x && holds_object steps giver.0 x) && has_arrow (permits steps x op) giver.0 v)) || has_arrow (permits steps x op) u v)
unfolding permits permitted_by has_arrow
arrows_delegated giver taker obs steps x op u v = more (in_set obs x && holds_object steps giver.0 x) where
  over : (arrows : List Arrow) → has_arrow (arrows ++ permits steps x op) u v ≡ (has_arrow arrows u v || has_arrow (permits steps x op) u v)
  over arrows = list_any-append (λ (arrow : Arrow). eqb arrow.0 u && eqb arrow.1 v) arrows (permits steps x op)

  none : (b : Bool) → (b && false) ≡ false
  none true = refl
  none false = refl

  more : (moves : Bool) → has_arrow (cond moves (copied giver.0 taker.0 (permits steps x op)) [] ++ permits steps x op) u v
      ≡ ((eqb taker.0 u && (moves && has_arrow (permits steps x op) giver.0 v)) || has_arrow (permits steps x op) u v)
  more true = over (copied giver.0 taker.0 (permits steps x op)) ∙ ap (λ b. b || has_arrow (permits steps x op) u v) (has_copied giver.0 taker.0 (permits steps x op) u v)
  more false = ap (λ b. b || has_arrow (permits steps x op) u v) (sym (none (eqb taker.0 u)))

-- an arrow after a delegation leads from the taker to where one of the giver's led, or it led before
pub delegate_arrow : (giver taker : Txn) (obs : ObSet) (steps : List Step) (x : ℕ) (op : Op) (u v : ℕ) → has_arrow (permits (Delegate giver taker obs ∷ steps) x op) u v ≡ true
    → ((taker.0 ≡ u) × (has_arrow (permits steps x op) giver.0 v ≡ true)) ⊎ (has_arrow (permits steps x op) u v ≡ true)
delegate_arrow giver taker obs steps x op u v h = elim (or_cases _ (has_arrow (permits steps x op) u v) (sym (arrows_delegated giver taker obs steps x op u v) ∙ h)) [
  | inl copy ↦ let parts = and_parts (eqb taker.0 u) _ copy in inl (eqb-true taker.0 u parts.0, (and_parts _ (has_arrow (permits steps x op) giver.0 v) parts.1).1)
  | inr before ↦ inr before
]

-- ---- owners

-- who is responsible for an operation after a delegation is its taker, or was responsible for one before
pub owner_handed : (giver taker : ℕ) (obs : ObSet) (n : ℕ) (os : List Operation) → list_any (λ (o : Operation). eqb o.owner n) (map (handed_over giver taker obs) os) ≡ true
    → (taker ≡ n) ⊎ (list_any (λ (o : Operation). eqb o.owner n) os ≡ true)
unfolding handed_over
owner_handed giver taker obs n [] h = inr h
owner_handed giver taker obs n (o ∷ os) h = go (eqb o.owner giver && in_set obs o.object) (or_cases _ _ h) (owner_handed giver taker obs n os) where
  Later : Type 0
  Later = list_any (λ (p : Operation). eqb p.owner n) (map (handed_over giver taker obs) os) ≡ true → (taker ≡ n) ⊎ (list_any (λ (p : Operation). eqb p.owner n) os ≡ true)

  go : (moves : Bool) → (eqb (cond moves (record o { owner = taker }) o).owner n ≡ true) ⊎ (list_any (λ (p : Operation). eqb p.owner n) (map (handed_over giver taker obs) os) ≡ true)
      → Later → (taker ≡ n) ⊎ ((eqb o.owner n || list_any (λ (p : Operation). eqb p.owner n) os) ≡ true)
  go moves (inr rest) later = elim (later rest) [
    | inl is ↦ inl is
    | inr before ↦ inr (or_right (eqb o.owner n) _ before)
  ]
  go true (inl here) later = inl (eqb-true taker n here)
  go false (inl here) later = inr (or_left (eqb o.owner n) _ here)

-- ---- holders

-- a delegation ends nobody and initiates nobody
pub delegate_ends : (giver taker : Txn) (obs : ObSet) (steps : List Step) (n : ℕ) → end_of (Delegate giver taker obs ∷ steps) n ≡ end_of steps n
unfolding end_of ended_by
delegate_ends giver taker obs steps n = option_or_none (end_of steps n)

pub live_delegated : (giver taker : Txn) (obs : ObSet) (steps : List Step) (n : ℕ) → live (Delegate giver taker obs ∷ steps) n ≡ live steps n
unfolding live initiated initiated_by
live_delegated giver taker obs steps n = rw (delegate_ends giver taker obs steps n) refl

-- by one operation, the taker holds what the giver held by it on the objects of the set, and the giver no longer does
one_handed : (giver taker : ℕ) (obs : ObSet) (u y : ℕ) (op : Op) (o : Operation)
    → held_by u y op (handed_over giver taker obs o) ≡ cond (in_set obs y) ((eqb u taker && held_by giver y op o) || (not (eqb u giver) && held_by u y op o)) (held_by u y op o)
unfolding handed_over
one_handed giver taker obs u y op o = go (eqb o.owner giver) refl (in_set obs o.object) refl (eqb o.object y) refl where
  kind : Bool
  kind = same_op (op_of o.use_of) op

  listed : eqb o.object y ≡ true → in_set obs y ≡ in_set obs o.object
  listed here = sym (ap (in_set obs) (eqb-true o.object y here))

  -- an operation on another object
  elsewhere : (a b c d set : Bool) → ((a && false) && kind) ≡ cond set ((b && ((c && false) && kind)) || (d && ((a && false) && kind))) ((a && false) && kind)
  elsewhere a b c d set = grind arith

  go : (own : Bool) → eqb o.owner giver ≡ own → (set : Bool) → in_set obs o.object ≡ set → (here : Bool) → eqb o.object y ≡ here
      → held_by u y op (cond (own && set) (record o { owner = taker }) o) ≡ cond (in_set obs y) ((eqb u taker && held_by giver y op o) || (not (eqb u giver) && held_by u y op o)) (held_by u y op o)
  go true e true s true f = rw (f, listed f ∙ s, e, eqb-flip taker u, ap (λ n. eqb n u) (eqb-true o.owner giver e) ∙ eqb-flip giver u) (grind arith)
  go true e true s false f = rw (f) (grind arith)
  go true e false s true f = rw (listed f ∙ s) refl
  go true e false s false f = rw (f) (grind arith)
  go false e set s true f = given set s (eqb u giver) refl where
    given : (set : Bool) → in_set obs o.object ≡ set → (same : Bool) → eqb u giver ≡ same
        → held_by u y op o ≡ cond (in_set obs y) ((eqb u taker && held_by giver y op o) || (not same && held_by u y op o)) (held_by u y op o)
    given false s same g = rw (listed f ∙ s) refl
    given true s false g = rw (listed f ∙ s, e) (grind arith)
    given true s true g = rw (listed f ∙ s, e, ap (eqb o.owner) (eqb-true u giver g) ∙ e) (grind arith)
  go false e set s false f = rw (f) (grind arith)

-- the operations by which u holds y after a delegation
list_handed : (giver taker : ℕ) (obs : ObSet) (u y : ℕ) (op : Op) (os : List Operation)
    → list_any (held_by u y op) (map (handed_over giver taker obs) os)
    ≡ cond (in_set obs y) ((eqb u taker && list_any (held_by giver y op) os) || (not (eqb u giver) && list_any (held_by u y op) os)) (list_any (held_by u y op) os)
list_handed giver taker obs u y op os =
    any_map (held_by u y op) (handed_over giver taker obs) os
    ∙ any_alike _ _ os (one_handed giver taker obs u y op)
    ∙ go (in_set obs y) where
      go : (set : Bool) → list_any (λ (o : Operation). cond set ((eqb u taker && held_by giver y op o) || (not (eqb u giver) && held_by u y op o)) (held_by u y op o)) os
          ≡ cond set ((eqb u taker && list_any (held_by giver y op) os) || (not (eqb u giver) && list_any (held_by u y op) os)) (list_any (held_by u y op) os)
      go true = any_either (λ (o : Operation). eqb u taker && held_by giver y op o) (λ (o : Operation). not (eqb u giver) && held_by u y op o) os
          ∙ (λ i. all_and (eqb u taker) (held_by giver y op) os i || all_and (not (eqb u giver)) (held_by u y op) os i)
      go false = refl

-- who holds y after a delegation between live transactions
pub holds_delegated : (giver taker : Txn) (obs : ObSet) (steps : List Step) → live steps giver.0 ≡ true → live steps taker.0 ≡ true → (u y : ℕ) (op : Op)
    → holds (Delegate giver taker obs ∷ steps) u y op ≡ cond (in_set obs y) ((eqb u taker.0 && holds steps giver.0 y op) || (not (eqb u giver.0) && holds steps u y op)) (holds steps u y op)
unfolding holds operations operated
holds_delegated giver taker obs steps gives takes u y op =
    rw (live_delegated giver taker obs steps u, list_handed giver.0 taker.0 obs u y op (operations steps), gives) (go (in_set obs y) (eqb u taker.0) refl) where
      go : (set to : Bool) → eqb u taker.0 ≡ to
          → (live steps u && cond set ((to && list_any (held_by giver.0 y op) (operations steps)) || (not (eqb u giver.0) && list_any (held_by u y op) (operations steps))) (list_any (held_by u y op) (operations steps)))
          ≡ cond set ((to && (true && list_any (held_by giver.0 y op) (operations steps))) || (not (eqb u giver.0) && (live steps u && list_any (held_by u y op) (operations steps)))) (live steps u && list_any (held_by u y op) (operations steps))
      go false to e = refl
      go true true e = rw (ap (live steps) (eqb-true u taker.0 e) ∙ takes) (grind arith)
      go true false e = grind arith

-- a transaction holds an object where it holds it by reading, by writing or by adding
pub holds_by_some_op : (steps : List Step) (t x : ℕ) → holds_object steps t x ≡ (holds steps t x Op'.Read || (holds steps t x Op'.Write || holds steps t x Op'.Add))
unfolding holds_object holds same_op
holds_by_some_op steps t x =
    ap (λ b. live steps t && b)
    (any_alike (λ (o : Operation). eqb o.owner t && eqb o.object x) (λ (o : Operation). held_by t x Op'.Read o || (held_by t x Op'.Write o || held_by t x Op'.Add o)) (operations steps) one
    ∙ any_either (held_by t x Op'.Read) (λ (o : Operation). held_by t x Op'.Write o || held_by t x Op'.Add o) (operations steps)
    ∙ ap (λ b. list_any (held_by t x Op'.Read) (operations steps) || b) (any_either (held_by t x Op'.Write) (held_by t x Op'.Add) (operations steps)))
    ∙ both (live steps t) (list_any (held_by t x Op'.Read) (operations steps)) (list_any (held_by t x Op'.Write) (operations steps)) (list_any (held_by t x Op'.Add) (operations steps)) where
      kinds : (op : Op) → (same_op op Op'.Read || (same_op op Op'.Write || same_op op Op'.Add)) ≡ true
      kinds Op'.Read = refl
      kinds Op'.Write = refl
      kinds Op'.Add = refl

      spread : (on reads writes adds : Bool) → (reads || (writes || adds)) ≡ true → on ≡ ((on && reads) || ((on && writes) || (on && adds)))
      spread true reads writes adds h = sym h
      spread false reads writes adds h = refl

      one : (o : Operation) → (eqb o.owner t && eqb o.object x) ≡ (held_by t x Op'.Read o || (held_by t x Op'.Write o || held_by t x Op'.Add o))
      one o = spread (eqb o.owner t && eqb o.object x) (same_op (op_of o.use_of) Op'.Read) (same_op (op_of o.use_of) Op'.Write) (same_op (op_of o.use_of) Op'.Add) (kinds (op_of o.use_of))

      both : (a b c d : Bool) → (a && (b || (c || d))) ≡ ((a && b) || ((a && c) || (a && d)))
      both true b c d = refl
      both false b c d = refl
