use Rattle.std.proofs.lemmas.Bool.{true≢false}
use Rattle.std.proofs.Common.{ℕ, List, is_some, refl, sym, ap, ◌∙◌}
use Rattle.asset_chains.specs.Chained.{chain_of, first_of, lists}
use Rattle.asset_chains.proofs.Laws.{chain_at_first}
use Rattle.asset_lock_store.specs.Stored.{Stored}
use Rattle.asset_lock_store.proofs.GrantLemmas.{others_kept, home_kept, shorter, no_first}
use Rattle.asset_lock_store.proofs.store.LockStore.release.Goals as goal

pub keys-init : goal.keys-init
keys-init c = record { sound = c.laws.ensures.owners; others = λ d apart. refl; seats = refl; holders = λ k d home. home; objects = refl }

pub drop_lock-requires : goal.drop_lock-requires
drop_lock-requires c = ap is_some ((chain_at_first c.in-Some.key c.args.c c.keys.self.by_owner c.keys.invariant.sound (ap (λ (s : Stored). first_of (chain_of s.by_owner c.args.c)) (sym c.self.view_is) ∙ sym c.in-Some.ensures)).0)

pub keys-smaller : goal.keys-smaller
keys-smaller c = shorter c.keys.self c.drop_lock.new.self c.in-Some.key c.args.c c.keys.invariant.sound c.drop_lock.ensures ((chain_at_first c.in-Some.key c.args.c c.keys.self.by_owner c.keys.invariant.sound (ap (λ (s : Stored). first_of (chain_of s.by_owner c.args.c)) (sym c.self.view_is) ∙ sym c.in-Some.ensures)).0)

pub keys-preserved : goal.keys-preserved
keys-preserved c =
    let home = (chain_at_first c.in-Some.key c.args.c c.keys.self.by_owner c.keys.invariant.sound (ap (λ (s : Stored). first_of (chain_of s.by_owner c.args.c)) (sym c.self.view_is) ∙ sym c.in-Some.ensures)).0 in
    record {
      sound = c.laws-in-Some.ensures.owners;
      others = λ d apart. others_kept c.keys.self c.drop_lock.new.self c.in-Some.key c.args.c c.keys.invariant.sound c.drop_lock.ensures home d apart ∙ c.keys.invariant.others d apart;
      seats = c.drop_lock.ensures.seats ∙ c.keys.invariant.seats;
      holders = λ k d at. c.keys.invariant.holders k d (home_kept c.keys.self c.drop_lock.new.self c.in-Some.key c.args.c c.keys.invariant.sound c.drop_lock.ensures home k d at);
      objects = c.drop_lock.ensures.objects ∙ c.keys.invariant.objects;
    }

pub returns-clause-own : goal.returns-clause-own
returns-clause-own c = no_first _ (ap (λ (s : Stored). first_of (chain_of s.by_owner c.args.c)) (sym c.self.view_is) ∙ sym c.first.ensures ∙ c.in_default.is)

pub returns-clause-others : goal.returns-clause-others
returns-clause-others c = c.keys.invariant.others

pub returns-clause-seats : goal.returns-clause-seats
returns-clause-seats c = c.keys.invariant.seats

pub returns-clause-holders : goal.returns-clause-holders
returns-clause-holders c = λ k d at. (
  c.keys.invariant.holders k d at,
  λ is.
      let none = no_first _ (ap (λ (s : Stored). first_of (chain_of s.by_owner c.args.c)) (sym c.self.view_is) ∙ sym c.first.ensures ∙ c.in_default.is) in
      true≢false (sym (c.keys.invariant.sound.listed d k at) ∙ ap (λ (l : List ℕ). lists l k) (ap (chain_of c.keys.self.by_owner) is ∙ none)),
)
