-- Who is free, by who holds.
use Rattle.std.proofs.Common.{◌≡◌, ◌≢◌, ℕ, Bool, true, false, not, eqb, ◌&&◌, List, [], ◌∷◌, refl, sym, ◌∙◌, inl, inr}
use Rattle.std.specs.List.{list_any}
use Rattle.std.proofs.lemmas.Bool.{or_cases, or_left, or_right, or_parts, or_from, and_parts, and_from, eqb-true, eq-eqb, eqb-false, ne_eqb, not-true, not-false, not_from_false, false≢true}
use Rattle.asset_names.specs.declared.operations.Op.{Op}
use Rattle.asset_names.specs.declared.operations.Op.TheVariants as Op'
use Rattle.asset_names.specs.declared.steps.Step.{Step}
use Rattle.asset_names.specs.Endings.{live}
use Rattle.asset_names.specs.Operations.{Operation, op_of, same_op, conflict, operations, holds, allows, blocks, free}

-- the same kind of operation is one kind
pub same_op-true : (a b : Op) → same_op a b ≡ true → a ≡ b
unfolding same_op
same_op-true Op'.Read Op'.Read h = refl
same_op-true Op'.Write Op'.Write h = refl
same_op-true Op'.Add Op'.Add h = refl
same_op-true Op'.Read Op'.Write h = absurd (false≢true h)
same_op-true Op'.Read Op'.Add h = absurd (false≢true h)
same_op-true Op'.Write Op'.Read h = absurd (false≢true h)
same_op-true Op'.Write Op'.Add h = absurd (false≢true h)
same_op-true Op'.Add Op'.Read h = absurd (false≢true h)
same_op-true Op'.Add Op'.Write h = absurd (false≢true h)

same_op-refl : (a : Op) → same_op a a ≡ true
unfolding same_op
same_op-refl Op'.Read = refl
same_op-refl Op'.Write = refl
same_op-refl Op'.Add = refl

-- whether the operation is one on x by which u holds it
abbrev pub held_by : ℕ → ℕ → Op → Operation → Bool
held_by u x op o = eqb o.owner u && eqb o.object x && same_op (op_of o.use_of) op

-- an operation by which u holds x blocks t from op only where u does not allow it
blocks_unless : (steps : List Step) (t x u : ℕ) (op other : Op) (o : Operation) → held_by u x other o ≡ true → live steps u ≡ true → conflict other op ≡ true → u ≢ t → blocks steps t x op o ≡ false → allows steps u t x op ≡ true
unfolding blocks
blocks_unless steps t x u op other o held alive conflicts apart free =
    let parts = and_parts (eqb o.owner u && eqb o.object x) (same_op (op_of o.use_of) other) held in
    let names = and_parts (eqb o.owner u) (eqb o.object x) parts.0 in
    let owner = eqb-true o.owner u names.0 in
    let kind = same_op-true (op_of o.use_of) other parts.1 in
    let is : blocks steps t x op o ≡ not (allows steps u t x op) =
    rw (names.1, kind, owner, conflicts, ne_eqb u t apart, alive) refl in
    not-false _ (sym is ∙ free)

free_list : (steps : List Step) (t x u : ℕ) (op other : Op) (os : List Operation) → list_any (blocks steps t x op) os ≡ false → list_any (held_by u x other) os ≡ true → live steps u ≡ true → conflict other op ≡ true → u ≢ t → allows steps u t x op ≡ true
free_list steps t x u op other [] none held alive conflicts apart = absurd (false≢true held)
free_list steps t x u op other (o ∷ os) none held alive conflicts apart =
    let parts = or_parts (blocks steps t x op o) _ none in
    elim (or_cases (held_by u x other o) _ held) [
      | inl here ↦ blocks_unless steps t x u op other o here alive conflicts apart parts.0
      | inr later ↦ free_list steps t x u op other os parts.1 later alive conflicts apart
    ]

-- what blocks t from op is an operation of another holder who does not allow it
blocks_parts : (steps : List Step) (t x : ℕ) (op : Op) (o : Operation) → blocks steps t x op o ≡ true
    → (held_by o.owner x (op_of o.use_of) o ≡ true) × (live steps o.owner ≡ true) × (conflict (op_of o.use_of) op ≡ true) × (eqb o.owner t ≡ false) × (allows steps o.owner t x op ≡ false)
unfolding blocks
blocks_parts steps t x op o h =
    let last = and_parts _ (not (allows steps o.owner t x op)) h in
    let fourth = and_parts _ (live steps o.owner) last.0 in
    let third = and_parts _ (not (eqb o.owner t)) fourth.0 in
    let second = and_parts (eqb o.object x) _ third.0 in
    (and_from _ _ (and_from _ _ (eq-eqb o.owner o.owner refl) second.0) (same_op-refl (op_of o.use_of)), fourth.1, second.1, not-true _ third.1, not-true _ last.1)

held_list : (steps : List Step) (t x : ℕ) (op : Op) (os : List Operation) → ((u : ℕ) (other : Op) → live steps u ≡ true → list_any (held_by u x other) os ≡ true → conflict other op ≡ true → u ≢ t → allows steps u t x op ≡ true)
    → list_any (blocks steps t x op) os ≡ false
held_list steps t x op [] allowed = refl
held_list steps t x op (o ∷ os) allowed = or_from _ _ (go (blocks steps t x op o) refl)
    (held_list steps t x op os (λ u other alive held conflicts apart. allowed u other alive (or_right _ _ held) conflicts apart)) where
      go : (b : Bool) → blocks steps t x op o ≡ b → b ≡ false
      go false e = refl
      go true e =
          let parts = blocks_parts steps t x op o e in
          let allowing = allowed o.owner (op_of o.use_of) parts.1 (or_left _ _ parts.0) parts.2 (eqb-false o.owner t parts.3) in
          absurd (false≢true (sym parts.4 ∙ allowing))

-- x is free for t exactly where each other holder by a conflicting operation allows it
pub free_allowed : (steps : List Step) (t x : ℕ) (op : Op) → free steps t x op ≡ true → (u : ℕ) (other : Op) → holds steps u x other ≡ true → conflict other op ≡ true → u ≢ t → allows steps u t x op ≡ true
unfolding free holds
free_allowed steps t x op is_free u other held conflicts apart =
    let parts = and_parts (live steps u) _ held in
    free_list steps t x u op other (operations steps) (not-true _ is_free) parts.1 parts.0 conflicts apart

pub allowed_free : (steps : List Step) (t x : ℕ) (op : Op) → ((u : ℕ) (other : Op) → holds steps u x other ≡ true → conflict other op ≡ true → u ≢ t → allows steps u t x op ≡ true) → free steps t x op ≡ true
unfolding free holds
allowed_free steps t x op allowed =
    not_from_false _ (held_list steps t x op (operations steps) (λ u other alive held conflicts apart. allowed u other (and_from _ _ alive held) conflicts apart))
