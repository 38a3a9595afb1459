-- The value of an object that no live transaction holds by a write or by an add: those who committed left it.
use Rattle.std.proofs.Common.{◌≡◌, ℕ, ℤ, Bool, true, false, cond, not, eqb, ◌&&◌, ◌||◌, List, [], ◌∷◌, refl, sym, ◌∙◌, ap, None, Some}
use Rattle.std.specs.Prelude.{Option, is_none}
use Rattle.std.specs.List.{list_any}
use Rattle.std.proofs.lemmas.Bool.{or_left, or_right, eq-eqb, false≢true}
use Rattle.asset_names.specs.declared.operations.Op.{Op}
use Rattle.asset_names.specs.declared.operations.Op.TheVariants as Op'
use Rattle.asset_names.specs.declared.statuses.End.{End}
use Rattle.asset_names.specs.declared.statuses.End.TheVariants as End'
use Rattle.asset_names.specs.Arrows.{lists}
use Rattle.asset_names.specs.Steps.{Opening, Entry, applied, initiated}
use Rattle.asset_names.specs.Endings.{end_of, live}
use Rattle.asset_names.specs.Groups.{was_committed}
use Rattle.asset_names.specs.Operations.{Use, reads, writes, adds, Operation, operations, op_of, same_op, holds, was_aborted, stands, opening_value, after_use, value_after, value}
use Rattle.asset_names.specs.Answers.{IsLegal}
use Rattle.asset_names.proofs.LegalLemmas.{legal_orderly}
use Rattle.asset_laws.specs.Serial.{committed_names, serial, CommittedShareNothing, committed_value}
use Rattle.asset_laws.proofs.SerialLegal.{named_committed}
use Rattle.asset_laws.proofs.SerialLemmas.{committed, reduced, serial_values}

-- whether an operation is one of u on x, of this kind
abbrev does_on : Op → ℕ → ℕ → Operation → Bool
does_on op u x o = eqb o.owner u && eqb o.object x && same_op (op_of o.use_of) op

-- two ways to count the operations give one value, if they agree on the operations of those who do not live, and nobody
-- who lives has a write or an add on x
same_left : (counts left : Operation → Bool) (alive known : ℕ → Bool) (x : ℕ) (first : ℤ) → ((o : Operation) → known o.owner ≡ true → alive o.owner ≡ false → counts o ≡ left o)
    → (os : List Operation) → ((u : ℕ) → (alive u && list_any (does_on Op'.Write u x) os) ≡ false) → ((u : ℕ) → (alive u && list_any (does_on Op'.Add u x) os) ≡ false)
    → ((n : ℕ) → list_any (λ (o : Operation). eqb o.owner n) os ≡ true → known n ≡ true)
    → value_after counts x first os ≡ value_after left x first os
unfolding value_after op_of same_op after_use
same_left counts left alive known x first agree [] unwritten unadded listed = refl
same_left counts left alive known x first agree (o ∷ os) unwritten unadded listed =
    go o.use_of refl (eqb o.object x) refl (same_left counts left alive known x first agree os (λ u. unheld (alive u) (does_on Op'.Write u x o) _ (unwritten u)) (λ u. unheld (alive u) (does_on Op'.Add u x o) _ (unadded u)) (λ n h. listed n (or_right (eqb o.owner n) _ h))) where
      unheld : (lives here rest : Bool) → (lives && (here || rest)) ≡ false → (lives && rest) ≡ false
      unheld false here rest h = refl
      unheld true false rest h = h
      unheld true true rest h = absurd (false≢true (sym h))

      gone : (lives : Bool) (rest : Bool) → (lives && (true || rest)) ≡ false → lives ≡ false
      gone false rest h = refl
      gone true rest h = absurd (false≢true (sym h))

      either : (p q : Bool) (v : ℤ) → cond p v v ≡ cond q v v
      either true true v = refl
      either true false v = refl
      either false true v = refl
      either false false v = refl

      writing : (v : ℤ) → o.use_of ≡ writes v → eqb o.object x ≡ true → does_on Op'.Write o.owner x o ≡ true
      writing v is here = rw (eq-eqb o.owner o.owner refl, here, is) refl

      adding : (d : ℤ) → o.use_of ≡ adds d → eqb o.object x ≡ true → does_on Op'.Add o.owner x o ≡ true
      adding d is here = rw (eq-eqb o.owner o.owner refl, here, is) refl

      go : (use_of : Use) → o.use_of ≡ use_of → (here : Bool) → eqb o.object x ≡ here → value_after counts x first os ≡ value_after left x first os
          → cond (here && counts o) (after_use use_of (value_after counts x first os)) (value_after counts x first os) ≡ cond (here && left o) (after_use use_of (value_after left x first os)) (value_after left x first os)
      go use_of is false e rest = rest
      go reads is true e rest = ap (λ v. cond (counts o) v v) rest ∙ either (counts o) (left o) (value_after left x first os)
      go (writes v) is true e rest =
          let same = agree o (listed o.owner (or_left _ _ (eq-eqb o.owner o.owner refl))) (gone (alive o.owner) (list_any (does_on Op'.Write o.owner x) os) (rw (writing v is e) at (unwritten o.owner))) in
          ap (λ b. cond b v (value_after counts x first os)) same ∙ ap (λ rest. cond (left o) v rest) rest
      go (adds d) is true e rest =
          let same = agree o (listed o.owner (or_left _ _ (eq-eqb o.owner o.owner refl))) (gone (alive o.owner) (list_any (does_on Op'.Add o.owner x) os) (rw (adding d is e) at (unadded o.owner))) in
          ap (λ b. cond b (after_use (adds d) (value_after counts x first os)) (value_after counts x first os)) same ∙ ap (λ v. cond (left o) (after_use (adds d) v) v) rest

-- an operation of one who has ended stands exactly if its owner has committed
ended_stands : (opening : Opening) (entries : List Entry) → IsLegal opening entries → CommittedShareNothing entries → (o : Operation)
    → lists (initiated (applied entries)) o.owner ≡ true → live (applied entries) o.owner ≡ false → stands (applied entries) o ≡ lists (committed_names (applied entries)) o.owner
unfolding stands live committed was_aborted was_committed
ended_stands opening entries legal share o known gone = go (end_of (applied entries) o.owner) refl (lists (committed_names (applied entries)) o.owner) refl (rw (known) at gone) where
  listed : (n : ℕ) → was_committed (end_of (applied entries) n) ≡ true → lists (committed_names (applied entries)) n ≡ true
  listed = (reduced opening entries legal share).listed

  go : (end : Option End) → end_of (applied entries) o.owner ≡ end → (here : Bool) → lists (committed_names (applied entries)) o.owner ≡ here → is_none end ≡ false → not (was_aborted end) ≡ here
  go None e here f ended = absurd (false≢true (sym ended))
  go (Some End'.Committed) e here f ended = sym (listed o.owner (ap was_committed e)) ∙ f
  go (Some End'.Aborted) e false f ended = refl
  go (Some End'.Aborted) e true f ended = let is = sym e ∙ named_committed (applied entries) o.owner f in absurd cc

pub settled_values : (opening : Opening) (entries : List Entry) → IsLegal opening entries → CommittedShareNothing entries → (x : ℕ) → ((u : ℕ) → holds (applied entries) u x Op'.Write ≡ false)
    → ((u : ℕ) → holds (applied entries) u x Op'.Add ≡ false)
    → value opening (applied entries) x ≡ value opening (applied (serial entries)) x
unfolding value committed_value holds
settled_values opening entries legal share x unwritten unadded =
    same_left (stands (applied entries)) (λ (o : Operation). lists (committed_names (applied entries)) o.owner) (live (applied entries)) (lists (initiated (applied entries))) x (opening_value opening x)
    (ended_stands opening entries legal share) (operations (applied entries)) unwritten unadded (legal_orderly opening entries legal).owners_known ∙ sym (serial_values opening entries legal share x)
