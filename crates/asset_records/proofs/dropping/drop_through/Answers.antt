use Rattle.std.proofs.Common.{◌≡◌, ℕ, true, false, eqb, Some, is_some, sym, ap, ◌∙◌, arith}
use Rattle.std.proofs.lemmas.Bool.{ne_eqb}
use Rattle.asset_chains.specs.Chained.{chain_of, first_of, ahead}
use Rattle.asset_chains.specs.declared.side.Side.TheVariants.{Row}
use Rattle.asset_chains.proofs.Laws.{chain_at_first}
use Rattle.asset_records.specs.Listed.{record_at}
use Rattle.slab.specs.Slab.{get}
use Rattle.asset_records.proofs.ThroughLemmas.{ahead_le, first_there, rest_is, others_are, shorter, first_home, behind_same, ahead_is, kept_after, home_after, one_if_owned, owned_many, owned_more, owned_none, owned_le, owned_same, owned_with, one_at_most, no_more}
use Rattle.asset_records.proofs.dropping.drop_through.Goals as goal

pub drop_at-requires : goal.drop_at-requires
drop_at-requires c =
    let first : first_of (chain_of c.oldest.records.rows c.args.object) ≡ Some c.in-Some.key = sym c.in-Some.ensures in
    let home = (chain_at_first c.in-Some.key c.args.object c.oldest.records.rows (c.oldest.invariant.crossed.sound Row) first).0 in
    record { there = sym (c.oldest.invariant.crossed.placed Row c.in-Some.key) ∙ ap is_some home }

pub returns-then-key-last-clause-rest : goal.returns-then-key-last-clause-rest
returns-then-key-last-clause-rest c =
    let first : first_of (chain_of c.oldest.records.rows c.args.object) ≡ Some c.in-Some.key = sym c.in-Some.ensures in
    let rest = rest_is c.oldest.records.rows c.drop_at.new.records.rows c.in-Some.key c.args.object (c.oldest.invariant.crossed.sound Row) first c.drop_at.ensures.chains in
    cc (rest, c.if-key-last.true, c.oldest.invariant.rest)

pub returns-then-key-last-clause-others : goal.returns-then-key-last-clause-others
returns-then-key-last-clause-others c = λ j apart.
    let first : first_of (chain_of c.oldest.records.rows c.args.object) ≡ Some c.in-Some.key = sym c.in-Some.ensures in
    others_are c.oldest.records.rows c.drop_at.new.records.rows c.in-Some.key c.args.object (c.oldest.invariant.crossed.sound Row) first c.drop_at.ensures.chains j apart ∙ c.oldest.invariant.others j apart

pub oldest-smaller : goal.oldest-smaller
oldest-smaller c =
    let first : first_of (chain_of c.oldest.records.rows c.args.object) ≡ Some c.in-Some.key = sym c.in-Some.ensures in
    omega (arith, shorter c.oldest.records.rows c.drop_at.new.records.rows c.in-Some.key c.args.object (c.oldest.invariant.crossed.sound Row) first c.drop_at.ensures.chains)

pub oldest-preserved : goal.oldest-preserved
oldest-preserved c =
    let first : first_of (chain_of c.oldest.records.rows c.args.object) ≡ Some c.in-Some.key = sym c.in-Some.ensures in
    let apart : eqb c.args.last c.in-Some.key ≡ false = ne_eqb c.args.last c.in-Some.key (λ is. c.if-key-last.false (sym is)) in
    let there : is_some (get c.oldest.records.items c.in-Some.key) ≡ true = sym (c.oldest.invariant.crossed.placed Row c.in-Some.key) ∙ ap is_some (first_home c.oldest.records.rows c.drop_at.new.records.rows c.in-Some.key c.args.object (c.oldest.invariant.crossed.sound Row) first c.drop_at.ensures.chains) in
    let same = owned_same c.args.records.now.items c.oldest.records.items c.in-Some.key (c.oldest.invariant.kept c.in-Some.key there) in
    let less =
    ap (owned_many c.args.records.now.items) (ahead_is c.oldest.records.rows c.drop_at.new.records.rows c.in-Some.key c.args.object (c.oldest.invariant.crossed.sound Row) first c.drop_at.ensures.chains c.args.last apart)
    ∙ owned_more c.args.records.now.items c.in-Some.key (ahead c.args.last (chain_of c.drop_at.new.records.rows c.args.object)) in
    record {
      tied = λ seats tied. c.drop_at.ensures.tied seats (c.oldest.invariant.tied seats tied);
      crossed = c.laws-in-Some.ensures.crossed;
      home = home_after c.oldest.records.rows c.drop_at.new.records.rows c.in-Some.key c.args.last c.args.object c.drop_at.ensures.homes apart c.oldest.invariant.home;
      rest = behind_same c.oldest.records.rows c.drop_at.new.records.rows c.in-Some.key c.args.object (c.oldest.invariant.crossed.sound Row) first c.drop_at.ensures.chains c.args.last apart ∙ c.oldest.invariant.rest;
      others = λ j differ. others_are c.oldest.records.rows c.drop_at.new.records.rows c.in-Some.key c.args.object (c.oldest.invariant.crossed.sound Row) first c.drop_at.ensures.chains j differ ∙ c.oldest.invariant.others j differ;
      kept = kept_after c.args.records.now.items c.oldest.records.items c.drop_at.new.records.items c.in-Some.key c.drop_at.ensures.records c.oldest.invariant.kept;
      many = c.drop_at.ensures.many ∙ c.oldest.invariant.many;
      counted = omega (arith, c.oldest.invariant.counted, less, same, c.visited_at-visited.ensures.least);
      visited = omega (arith, c.oldest.invariant.visited, less, same, c.visited_at-visited.ensures.most);
      few = no_more c.drop_at.ensures.few c.oldest.invariant.few;
      room = λ _. c.drop_at.ensures.room;
    }

pub returns-then-key-last-clause-tied : goal.returns-then-key-last-clause-tied
returns-then-key-last-clause-tied c = λ seats tied. c.drop_at.ensures.tied seats (c.oldest.invariant.tied seats tied)

pub returns-then-key-last-clause-counted : goal.returns-then-key-last-clause-counted
returns-then-key-last-clause-counted c =
    let first : first_of (chain_of c.oldest.records.rows c.args.object) ≡ Some c.in-Some.key = sym c.in-Some.ensures in
    let home = (chain_at_first c.in-Some.key c.args.object c.oldest.records.rows (c.oldest.invariant.crossed.sound Row) first) in
    let there : is_some (get c.oldest.records.items c.in-Some.key) ≡ true = sym (c.oldest.invariant.crossed.placed Row c.in-Some.key) ∙ ap is_some home.0 in
    let same = owned_same c.args.records.now.items c.oldest.records.items c.in-Some.key (c.oldest.invariant.kept c.in-Some.key there) in
    let last = ap (λ (k : ℕ). one_if_owned (record_at c.args.records.now.items k)) c.if-key-last.true in
    let none = ap (owned_many c.args.records.now.items) (ap (λ (k : ℕ). ahead k (chain_of c.oldest.records.rows c.args.object)) (sym c.if-key-last.true) ∙ home.1) in
    omega (arith, owned_with c.args.records.now.items c.args.last (ahead c.args.last (chain_of c.args.records.now.rows c.args.object)), c.oldest.invariant.counted, none, same, last, owned_none c.args.records.now.items, c.visited_at-visited.ensures.least)

pub returns-then-key-last-clause-visited : goal.returns-then-key-last-clause-visited
returns-then-key-last-clause-visited c =
    let first : first_of (chain_of c.oldest.records.rows c.args.object) ≡ Some c.in-Some.key = sym c.in-Some.ensures in
    let home = (chain_at_first c.in-Some.key c.args.object c.oldest.records.rows (c.oldest.invariant.crossed.sound Row) first) in
    let there : is_some (get c.oldest.records.items c.in-Some.key) ≡ true = sym (c.oldest.invariant.crossed.placed Row c.in-Some.key) ∙ ap is_some home.0 in
    let same = owned_same c.args.records.now.items c.oldest.records.items c.in-Some.key (c.oldest.invariant.kept c.in-Some.key there) in
    let last = ap (λ (k : ℕ). one_if_owned (record_at c.args.records.now.items k)) c.if-key-last.true in
    omega (arith, owned_with c.args.records.now.items c.args.last (ahead c.args.last (chain_of c.args.records.now.rows c.args.object)), c.oldest.invariant.visited, same, last, c.visited_at-visited.ensures.most)

pub returns-clause-counted : goal.returns-clause-counted
returns-clause-counted c =
    absurd (first_there (chain_of c.oldest.records.rows c.args.object) c.args.last (sym c.first.ensures ∙ c.in_default.is) ((c.oldest.invariant.crossed.sound Row).listed c.args.object c.args.last c.oldest.invariant.home))

pub returns-clause-visited : goal.returns-clause-visited
returns-clause-visited c =
    absurd (first_there (chain_of c.oldest.records.rows c.args.object) c.args.last (sym c.first.ensures ∙ c.in_default.is) ((c.oldest.invariant.crossed.sound Row).listed c.args.object c.args.last c.oldest.invariant.home))

pub overflow_add-visited : goal.overflow_add-visited
overflow_add-visited c =
    let few = ahead_le c.args.last (chain_of c.args.records.now.rows c.args.object) in
    let some = owned_le c.args.records.now.items (ahead c.args.last (chain_of c.args.records.now.rows c.args.object)) in
    let short = c.laws.ensures.short Row c.args.object in
    omega (arith, c.oldest.invariant.visited, few, some, short, c.visited_at-visited.ensures.most, one_at_most (record_at c.oldest.records.items c.in-Some.key))

pub returns-then-key-last-clause-few : goal.returns-then-key-last-clause-few
returns-then-key-last-clause-few c = no_more c.drop_at.ensures.few c.oldest.invariant.few
