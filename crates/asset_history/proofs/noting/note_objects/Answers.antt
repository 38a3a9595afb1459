use Rattle.std.proofs.Common.{◌≡◌, ℤ, Bool, true, false, cond, eqb, get_or, take, sym, ap, ◌∙◌, arith, Some, is_some, pos, inl, inr, refl}
use Rattle.std.proofs.lemmas.Bool.{or_cases, false≢true}
use Rattle.std.proofs.lemmas.List.{take_all}
use Rattle.std.specs.Prelude.{nat_eq, Option}
use Rattle.asset_history.specs.declared.users.Users.{Users}
use Rattle.indexmap.specs.IndexMap.{get}
use Rattle.asset_names.specs.declared.names.Ob.{Ob}
use Rattle.asset_names.specs.Operations.{exists, opening_at}
use Rattle.asset_history.specs.declared.users.Users.TheVariants.{Nobody}
use Rattle.asset_history.specs.Users.{users_or_nobody}
use Rattle.asset_history.proofs.ObjectLemmas.{exists_more}
use Rattle.asset_history.proofs.noting.note_objects.Goals as goal

kept : (b : Bool) (at : Option Users) → is_some at ≡ true → is_some (cond b (Some Nobody) at) ≡ true
kept true at h = refl
kept false at h = h

same : (b : Bool) (at : Option Users) → users_or_nobody at ≡ Nobody → users_or_nobody (cond b (Some Nobody) at) ≡ Nobody
unfolding users_or_nobody
same true at h = refl
same false at h = h

pub objects-init : goal.objects-init
unfolding exists opening_at users_or_nobody
objects-init c = record { room = omega (arith, c.requires.room); there = λ x h. absurd (false≢true h); nobody = λ x. ap users_or_nobody (c.requires.empty x) }

pub add_object-requires : goal.add_object-requires
add_object-requires c = omega (arith, c.objects.invariant.room, c.objects-test.true)

pub objects-preserved : goal.objects-preserved
unfolding users_or_nobody
objects-preserved c =
    let none : Ob × ℤ = (record { 0 = 0 }, pos 0) in
    let opening = c.args.opening.now in
    let k = c.objects.k in
    let x = (get_or opening k none).0.0 in
    let old = get nat_eq c.objects.found in
    let added = c.add_object.ensures.added in
    record {
      room = omega (arith, c.objects.invariant.room, c.add_object.ensures.room);
      there = λ y h. ap is_some (added y) ∙ elim (or_cases (exists (take k opening) y) _ (sym (exists_more opening k y none c.objects-test.true) ∙ h)) [
        | inl before ↦ kept (eqb x y) (old y) (c.objects.invariant.there y before)
        | inr here ↦ ap (λ b. is_some (cond b (Some Nobody) (old y))) here
      ];
      nobody = λ y. ap users_or_nobody (added y) ∙ same (eqb x y) (old y) (c.objects.invariant.nobody y);
    }

pub returns-clause-there : goal.returns-clause-there
returns-clause-there c = λ x h.
    let opening = c.args.opening.now in
    c.objects.invariant.there x (ap (λ l. exists l x) (take_all c.objects.k opening (omega (arith, c.objects-test.false))) ∙ h)
