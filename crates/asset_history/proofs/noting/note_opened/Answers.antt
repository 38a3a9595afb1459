use Rattle.std.proofs.Common.{◌≡◌, ℕ, ◌+◌, Bool, true, false, eqb, ◌&&◌, ◌||◌, length, get_or, take, refl, sym, ap, ◌∙◌, arith, inl, inr}
use Rattle.std.proofs.lemmas.Bool.{or_cases, and_parts, eqb-true}
use Rattle.std.proofs.lemmas.List.{take_all}
use Rattle.std.specs.Prelude.{nat_eq}
use Rattle.indexmap.specs.IndexMap.{get}
use Rattle.asset_names.specs.declared.names.Ob.{Ob}
use Rattle.asset_names.specs.Steps.{applied}
use Rattle.asset_history.specs.Together.{name_at}
use Rattle.asset_history.specs.Uses.{opens, has_object}
use Rattle.asset_history.specs.Users.{also, uses_as, AreAmongAll}
use Rattle.asset_history.proofs.LabelLemmas.{joined_none, joined_trans}
use Rattle.asset_history.proofs.NoteLemmas.{has_first, has_more, has_at}
use Rattle.asset_history.proofs.SaidLemmas.{say_alike, opened_more}
use Rattle.asset_history.proofs.noting.note_opened.Goals as goal

pub objects-init : goal.objects-init
unfolding has_object also
objects-init c = record {
  names = refl;
  there = λ y h. h;
  within = c.requires.within;
  few = omega arith;
  room = refl;
  said = λ all openers operators user among_openers among_operators say. (joined_none all c.args.groups.now, say);
}

pub note_use-requires-clause-node : goal.note_use-requires-clause-node
note_use-requires-clause-node c = omega (arith, c.requires.node, ap length c.objects.invariant.names)

pub note_use-requires-clause-there : goal.note_use-requires-clause-there
note_use-requires-clause-there c = let none : Ob = record { 0 = 0 } in c.objects.invariant.there (get_or c.args.obs.now c.objects.k none).0 (c.requires.there (get_or c.args.obs.now c.objects.k none).0 (has_at c.args.obs.now c.objects.k none c.objects-test.true))

pub note_use-requires-clause-within : goal.note_use-requires-clause-within
note_use-requires-clause-within c = c.objects.invariant.within _

pub note_use-requires-clause-links : goal.note_use-requires-clause-links
note_use-requires-clause-links c = omega (arith, c.objects.invariant.few, c.objects.invariant.room, c.requires.links, c.objects-test.true)

pub objects-preserved : goal.objects-preserved
unfolding also uses_as
objects-preserved c =
    let obs = c.args.obs.now in
    let k = c.objects.k in
    let none : Ob = record { 0 = 0 } in
    let x = (get_or obs k none).0 in
    let g = c.args.groups.now in
    let t = name_at g c.args.node in
    let now = c.objects.groups in
    let after = c.note_use.new.groups in
    let later = c.note_use.new.users.links.links in
    let kept = c.objects.invariant in
    record {
      names = c.note_use.ensures.names ∙ kept.names;
      there = λ y h. c.note_use.ensures.there y (kept.there y h);
      within = λ y. c.note_use.ensures.within y (kept.within y);
      few = omega (arith, c.note_use.ensures.few, kept.few);
      room = c.note_use.ensures.room ∙ kept.room;
      said = λ all openers operators user among_openers among_operators say.
          let before = kept.said all openers operators user among_openers among_operators say in
          let opened : ℕ → ℕ → Bool = λ a y. also (has_object (take k obs) y) t (λ u. openers u y) a in
          let among : AreAmongAll opened (opens (applied all)) = λ u y h. elim (or_cases (has_object (take k obs) y && eqb t u) _ h) [
            | inl here ↦ let parts = and_parts (has_object (take k obs) y) _ here in ap (λ v. opens (applied all) v y) (sym (eqb-true t u parts.1)) ∙ user y (has_first obs k y parts.0)
            | inr was ↦ among_openers u y was
          ] in
          let same : name_at now c.args.node ≡ t = ap (λ l. get_or l c.args.node 0) kept.names in
          let uses : opens (applied all) (name_at now c.args.node) x ≡ true = ap (λ n. opens (applied all) n x) same ∙ user x (has_at obs k none c.objects-test.true) in
          let one = c.note_use.ensures.said all opened operators uses among among_operators before.1 in (
            joined_trans all g now after before.0 one.0,
            say_alike after later all (λ a y. also (true && eqb x y) (name_at now c.args.node) (λ u. opened u y) a) (λ s y. also (false && eqb x y) (name_at now c.args.node) (λ u. operators u y) s) (λ a y. also (has_object (take (k + 1) obs) y) t (λ u. openers u y) a) operators (get nat_eq c.note_use.new.users.found)
                (λ u y.
                ap (λ n. (eqb x y && eqb n u) || opened u y) same ∙ opened_more (has_object (take k obs) y) (eqb x y) (openers u y) (eqb t u)
                ∙ ap (λ b. (b && eqb t u) || openers u y) (sym (has_more obs k y none c.objects-test.true)))
                (λ u y. refl) one.1,
          );
    }

pub returns-clause-names : goal.returns-clause-names
returns-clause-names c = c.objects.invariant.names

pub returns-clause-there : goal.returns-clause-there
returns-clause-there c = c.objects.invariant.there

pub returns-clause-few : goal.returns-clause-few
returns-clause-few c = omega (arith, c.objects.invariant.few, c.objects-test.false)

pub returns-clause-room : goal.returns-clause-room
returns-clause-room c = c.objects.invariant.room

pub returns-clause-said : goal.returns-clause-said
returns-clause-said c = λ all openers operators user among_openers among_operators say.
    let whole : take c.objects.k c.args.obs.now ≡ c.args.obs.now = take_all c.objects.k c.args.obs.now (omega (arith, c.objects-test.false)) in
    let found = c.objects.invariant.said all openers operators user among_openers among_operators say in
    (found.0, rw (← whole) found.1)
