use Rattle.std.proofs.Common.{◌≡◌, ℕ, true, ◌<◌, length, Option, sym, ap, subst, ◌∙◌, ◌⊎◌, inl, arith}
use Rattle.asset_names.specs.declared.names.Txn.{Txn}
use Rattle.asset_names.proofs.Common.{one_txn}
use Rattle.asset_chains.specs.Chained.{chain_of, lists}
use Rattle.asset_chains.proofs.Laws.{chain_at_first, key_within}
use Rattle.asset_chains.proofs.Walks.{from_key, from_first, next_home, walk_more, walk_ends, walk_less}
use Rattle.asset_seats.specs.Bucketed.{name_in, no_name}
use Rattle.asset_seats.proofs.buckets.find.Goals as goal

pub keys-init : goal.keys-init
keys-init c = record {
  on = λ k is. (chain_at_first k c.args.chain c.args.chains.now c.laws.ensures.sound (sym c.first-next.ensures ∙ is)).0;
  passed = λ k there. inl (ap (λ (o : Option ℕ). lists (from_key o (chain_of c.args.chains.now c.args.chain)) k) c.first-next.ensures ∙ ap (λ l. lists l k) (from_first (chain_of c.args.chains.now c.args.chain)) ∙ there);
}

pub bounds-names-key : goal.bounds-names-key
bounds-names-key c = let within : c.in-Some.key < length c.args.chains.now.homes = key_within c.in-Some.key c.args.chain c.args.chains.now (c.keys.invariant.on c.in-Some.key c.in-Some.is) in omega (arith, within, c.requires)

pub offset_bounds-names-key : goal.offset_bounds-names-key
offset_bounds-names-key c =
    let within : c.in-Some.key < length c.args.chains.now.homes = key_within c.in-Some.key c.args.chain c.args.chains.now (c.keys.invariant.on c.in-Some.key c.in-Some.is) in
    omega (arith, within, c.laws.ensures.few)

pub returns-then-names-key-clause-found : goal.returns-then-names-key-clause-found
unfolding name_in no_name
returns-then-names-key-clause-found c = (c.keys.invariant.on c.in-Some.key c.in-Some.is, one_txn (name_in c.args.names.now c.in-Some.key) c.args.t c.if-names-key.true)

pub keys-smaller : goal.keys-smaller
keys-smaller c =
    let home = c.keys.invariant.on c.in-Some.key c.in-Some.is in
    let listed = c.laws.ensures.sound.listed c.args.chain c.in-Some.key home in
    let less = walk_less c.in-Some.key (chain_of c.args.chains.now c.args.chain) (c.laws.ensures.sound.once c.args.chain) listed in
    let here = ap (λ (o : Option ℕ). length (from_key o (chain_of c.args.chains.now c.args.chain))) c.in-Some.is in
    let next = ap (λ (o : Option ℕ). length (from_key o (chain_of c.args.chains.now c.args.chain))) (c.next-next.ensures.next c.args.chain home) in
    omega (arith, less, here, next)

pub keys-preserved : goal.keys-preserved
unfolding name_in no_name
keys-preserved c =
    let home = c.keys.invariant.on c.in-Some.key c.in-Some.is in
    let listed = c.laws.ensures.sound.listed c.args.chain c.in-Some.key home in
    let next = c.next-next.ensures.next c.args.chain home in
    record {
      on = λ k is. next_home c.args.chains.now c.in-Some.key k c.args.chain c.laws.ensures.sound home (sym next ∙ is);
      passed = λ k there.
          subst (λ (o : Option ℕ). (lists (from_key o (chain_of c.args.chains.now c.args.chain)) k ≡ true) ⊎ (name_in c.args.names.now k ≡ c.args.t → ⊥)) (sym next)
          (walk_more (λ j. name_in c.args.names.now j ≡ c.args.t → ⊥) c.in-Some.key (chain_of c.args.chains.now c.args.chain) (c.laws.ensures.sound.once c.args.chain) listed
          (λ j among. subst (λ (o : Option ℕ). (lists (from_key o (chain_of c.args.chains.now c.args.chain)) j ≡ true) ⊎ (name_in c.args.names.now j ≡ c.args.t → ⊥)) c.in-Some.is (c.keys.invariant.passed j among))
          (λ same. c.if-names-key.false (ap (λ (t : Txn). t.0) same)) k there);
    }

pub returns-clause-absent : goal.returns-clause-absent
returns-clause-absent c = λ k home.
    walk_ends (λ j. name_in c.args.names.now j ≡ c.args.t → ⊥) (chain_of c.args.chains.now c.args.chain)
    (λ j among. subst (λ (o : Option ℕ). (lists (from_key o (chain_of c.args.chains.now c.args.chain)) j ≡ true) ⊎ (name_in c.args.names.now j ≡ c.args.t → ⊥)) c.in_default.is (c.keys.invariant.passed j among))
    k (c.laws.ensures.sound.listed c.args.chain k home)
