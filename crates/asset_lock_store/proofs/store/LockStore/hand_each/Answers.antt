use Rattle.std.proofs.Common.{is_some, inl, inr, sym, ap, ◌∙◌, rules}
use Rattle.asset_names.specs.InSet.{in_set}
use Rattle.asset_chains.specs.Chained.{chain_of, home_of, first_of, behind}
use Rattle.asset_lock_store.specs.declared.lock.Lock.{Lock}
use Rattle.asset_lock_store.specs.LockRules.{moved}
use Rattle.asset_lock_store.specs.Stored.{Stored, locks_at}
use Rattle.asset_lock_store.proofs.PassLemmas.{key_home, passes_one, fewer_if_stays, passes_moved, fewer_if_moved, keeps_same, gives_same, all_kept, all_given}
use Rattle.asset_lock_store.proofs.store.LockStore.hand_each.Goals as goal

pub hand_key-requires-clause-there : goal.hand_key-requires-clause-there
hand_key-requires-clause-there c = ap is_some (key_home c.args.objects.now c.keys.self c.args.from c.in-Some.key c.keys.next c.laws-in-Some.ensures.owners c.keys.invariant.passed c.in-Some.is)

pub keys-smaller-then-has : goal.keys-smaller-then-has
unfolding moved
keys-smaller-then-has c =
    let home = key_home c.args.objects.now c.keys.self c.args.from c.in-Some.key c.keys.next c.laws-in-Some.ensures.owners c.keys.invariant.passed c.in-Some.is in
    fewer_if_moved c.args.objects.now c.keys.self c.args.from c.in-Some.key c.keys.next c.laws-in-Some.ensures.owners c.keys.invariant.passed c.in-Some.is c.laws-in-Some.ensures.stored c.args.to c.hand_key.new.self
    (c.hand_key.ensures c.args.from home c.requires.apart) (ap (λ (l : Lock). in_set c.args.objects.now l.object.0) (sym c.lock.ensures) ∙ sym c.has.ensures ∙ c.if-has.true) c.next-next.result
    (c.next-next.ensures.next c.args.from (ap (λ (s : Stored). home_of s.by_owner c.in-Some.key) c.self-in-Some.view_is ∙ home) ∙ ap (λ (s : Stored). first_of (behind c.in-Some.key (chain_of s.by_owner c.args.from))) c.self-in-Some.view_is)

pub keys-preserved-then-has : goal.keys-preserved-then-has
unfolding moved
keys-preserved-then-has c =
    let set = c.args.objects.now in
    let sound = c.laws-in-Some.ensures.owners in
    let passed = c.keys.invariant.passed in
    let home = key_home set c.keys.self c.args.from c.in-Some.key c.keys.next sound passed c.in-Some.is in
    let handed = c.hand_key.ensures c.args.from home c.requires.apart in
    let moves = ap (λ (l : Lock). in_set c.args.objects.now l.object.0) (sym c.lock.ensures) ∙ sym c.has.ensures ∙ c.if-has.true in
    record {
      passed = passes_moved set c.keys.self c.args.from c.in-Some.key c.keys.next sound passed c.in-Some.is c.laws-in-Some.ensures.stored c.args.to c.hand_key.new.self handed moves c.next-next.result
          (c.next-next.ensures.next c.args.from (ap (λ (s : Stored). home_of s.by_owner c.in-Some.key) c.self-in-Some.view_is ∙ home) ∙ ap (λ (s : Stored). first_of (behind c.in-Some.key (chain_of s.by_owner c.args.from))) c.self-in-Some.view_is);
      giver = keeps_same set c.keys.self c.args.from c.in-Some.key c.keys.next sound passed c.in-Some.is c.laws-in-Some.ensures.stored c.args.to c.hand_key.new.self handed moves ∙ c.keys.invariant.giver;
      taker = gives_same set c.keys.self c.args.from c.in-Some.key c.keys.next sound passed c.in-Some.is c.laws-in-Some.ensures.stored c.args.to c.hand_key.new.self handed moves ∙ c.keys.invariant.taker;
      others = λ d apart other. handed.others d apart other ∙ c.keys.invariant.others d apart other;
      seats = handed.seats ∙ c.keys.invariant.seats;
      holders = λ k d at. elim (handed.holders k d at) [
        | inl before ↦ c.keys.invariant.holders k d before
        | inr same ↦ inr same
      ];
      objects = handed.objects ∙ c.keys.invariant.objects;
    }

pub keys-smaller : goal.keys-smaller
keys-smaller c =
    let home = key_home c.args.objects.now c.keys.self c.args.from c.in-Some.key c.keys.next c.laws-in-Some.ensures.owners c.keys.invariant.passed c.in-Some.is in
    fewer_if_stays c.args.objects.now c.keys.self c.args.from c.in-Some.key c.keys.next c.laws-in-Some.ensures.owners c.keys.invariant.passed c.in-Some.is c.next-next.result
    (c.next-next.ensures.next c.args.from (ap (λ (s : Stored). home_of s.by_owner c.in-Some.key) c.self-in-Some.view_is ∙ home) ∙ ap (λ (s : Stored). first_of (behind c.in-Some.key (chain_of s.by_owner c.args.from))) c.self-in-Some.view_is)

pub keys-preserved : goal.keys-preserved
unfolding moved
keys-preserved c =
    let home = key_home c.args.objects.now c.keys.self c.args.from c.in-Some.key c.keys.next c.laws-in-Some.ensures.owners c.keys.invariant.passed c.in-Some.is in
    record {
      passed = passes_one c.args.objects.now c.keys.self c.args.from c.in-Some.key c.keys.next c.laws-in-Some.ensures.owners c.keys.invariant.passed c.in-Some.is c.next-next.result
          (c.next-next.ensures.next c.args.from (ap (λ (s : Stored). home_of s.by_owner c.in-Some.key) c.self-in-Some.view_is ∙ home) ∙ ap (λ (s : Stored). first_of (behind c.in-Some.key (chain_of s.by_owner c.args.from))) c.self-in-Some.view_is)
          (ap (λ (l : Lock). in_set c.args.objects.now l.object.0) (sym c.lock.ensures) ∙ sym c.has.ensures ∙ c.if-has.false);
      giver = c.keys.invariant.giver;
      taker = c.keys.invariant.taker;
      others = c.keys.invariant.others;
      seats = c.keys.invariant.seats;
      holders = c.keys.invariant.holders;
      objects = c.keys.invariant.objects;
    }

pub returns-clause-giver : goal.returns-clause-giver
returns-clause-giver c = sym (all_kept c.args.objects.now c.keys.self c.args.from c.keys.next c.keys.invariant.passed c.in_default.is) ∙ c.keys.invariant.giver

pub returns-clause-taker : goal.returns-clause-taker
returns-clause-taker c = sym (all_given c.args.objects.now c.keys.self c.args.from c.keys.next c.keys.invariant.passed c.in_default.is (locks_at c.keys.self c.args.to)) ∙ c.keys.invariant.taker

pub keys-init : goal.keys-init
keys-init c = search rules
