use Rattle.std.proofs.Common.{ℕ, List, length, sym, ap, ◌∙◌, w64, to_z, of_z, FitsSigned, arith}
use Rattle.std.specs.Prelude.{ℤ, Option}
use Rattle.std.proofs.lemmas.Int.{to_z-of_z, wrapping_add_onto}
use Rattle.asset_chains.specs.Chained.{chain_of, behind}
use Rattle.asset_chains.specs.declared.side.Side.TheVariants.{Row}
use Rattle.asset_chains.proofs.KeyLemmas.{first_listed}
use Rattle.asset_chains.proofs.Walks.{from_key, from_next, behind_listed}
use Rattle.asset_records.specs.Listed.{at_keys}
use Rattle.asset_records.specs.Mended.{summed}
use Rattle.asset_records.specs.Dropped.{first_write}
use Rattle.asset_records.proofs.ClimbLemmas.{climbs_write, climbs_add, has_item}
use Rattle.asset_records.proofs.mending.climb.Goals as goal

pub adds-init : goal.adds-init
adds-init c =
    let chain = chain_of c.args.records.now.rows c.args.object in
    let next = c.next-next.ensures.next c.args.object c.requires.home in
    let there = (c.laws.ensures.crossed.sound Row).listed c.args.object c.args.key c.requires.home in
    let rest = ap (λ (o : Option ℕ). from_key o chain) next ∙ from_next c.args.key chain ((c.laws.ensures.crossed.sound Row).once c.args.object) there in
    record {
      listed = λ k is. behind_listed c.args.key chain k (first_listed k (behind c.args.key chain) (sym next ∙ is));
      write = ap (first_write c.args.records.now.items) rest;
      summed = ap (λ (keys : List ℕ). summed (to_z w64 (of_z w64 c.args.value)) (at_keys c.args.records.now.items keys)) rest;
    }

pub returns-in_default-added_at-clause-write : goal.returns-in_default-added_at-clause-write
returns-in_default-added_at-clause-write c =
    let chain = chain_of c.args.records.now.rows c.args.object in
    let there = has_item c.args.records.now c.args.object c.in-Some.at c.laws.ensures.crossed (c.adds.invariant.listed c.in-Some.at c.in-Some.is) in
    let ends = climbs_write c.args.records.now.items c.in-Some.at (behind c.in-Some.at chain) (sym c.in_default-added_at.ensures) there in
    sym ends.0 ∙ sym (ap (λ (o : Option ℕ). first_write c.args.records.now.items (from_key o chain)) c.in-Some.is) ∙ c.adds.invariant.write

pub returns-in_default-added_at-clause-value : goal.returns-in_default-added_at-clause-value
returns-in_default-added_at-clause-value c =
    let chain = chain_of c.args.records.now.rows c.args.object in
    let there = has_item c.args.records.now c.args.object c.in-Some.at c.laws.ensures.crossed (c.adds.invariant.listed c.in-Some.at c.in-Some.is) in
    let ends = climbs_write c.args.records.now.items c.in-Some.at (behind c.in-Some.at chain) (sym c.in_default-added_at.ensures) there in
    sym (ends.1 (to_z w64 c.adds.value-bits)) ∙ sym (ap (λ (o : Option ℕ). summed (to_z w64 c.adds.value-bits) (at_keys c.args.records.now.items (from_key o chain))) c.in-Some.is) ∙ c.adds.invariant.summed
    ∙ ap (λ (v : ℤ). summed v (at_keys c.args.records.now.items (behind c.args.key chain))) (to_z-of_z w64 c.args.value c.ranges.value)

pub returns-clause-value : goal.returns-clause-value
unfolding summed at_keys
returns-clause-value c =
    let chain = chain_of c.args.records.now.rows c.args.object in
    sym (ap (λ (o : Option ℕ). summed (to_z w64 c.adds.value-bits) (at_keys c.args.records.now.items (from_key o chain))) c.in_default.is) ∙ c.adds.invariant.summed
    ∙ ap (λ (v : ℤ). summed v (at_keys c.args.records.now.items (behind c.args.key chain))) (to_z-of_z w64 c.args.value c.ranges.value)

pub adds-smaller : goal.adds-smaller
adds-smaller c =
    let chain = chain_of c.args.records.now.rows c.args.object in
    let listed = c.adds.invariant.listed c.in-Some.at c.in-Some.is in
    let home = (c.laws.ensures.crossed.sound Row).at_home c.args.object c.in-Some.at listed in
    let rest = ap (λ (o : Option ℕ). from_key o chain) (c.next-next-in-Some.ensures.next c.args.object home) ∙ from_next c.in-Some.at chain ((c.laws.ensures.crossed.sound Row).once c.args.object) listed in
    omega (arith, ap length rest, ap (λ (o : Option ℕ). length (from_key o chain)) c.in-Some.is)

pub adds-preserved : goal.adds-preserved
adds-preserved c =
    let chain = chain_of c.args.records.now.rows c.args.object in
    let items = c.args.records.now.items in
    let listed = c.adds.invariant.listed c.in-Some.at c.in-Some.is in
    let home = (c.laws.ensures.crossed.sound Row).at_home c.args.object c.in-Some.at listed in
    let next = c.next-next-in-Some.ensures.next c.args.object home in
    let rest = ap (λ (o : Option ℕ). from_key o chain) next ∙ from_next c.in-Some.at chain ((c.laws.ensures.crossed.sound Row).once c.args.object) listed in
    let more = climbs_add items c.in-Some.at (behind c.in-Some.at chain) c.in-Some-added_at.amount (sym c.in-Some-added_at.ensures) in
    let fits : FitsSigned w64 c.in-Some-added_at.amount = grind arith in
    let sum = wrapping_add_onto w64 c.adds.value-bits c.in-Some-added_at.amount (omega arith) fits in
    record {
      listed = λ k is. behind_listed c.in-Some.at chain k (first_listed k (behind c.in-Some.at chain) (sym next ∙ is));
      write = ap (first_write items) rest ∙ sym more.0 ∙ sym (ap (λ (o : Option ℕ). first_write items (from_key o chain)) c.in-Some.is) ∙ c.adds.invariant.write;
      summed = (λ i. summed (sum i) (at_keys items (rest i))) ∙ sym (more.1 (to_z w64 c.adds.value-bits)) ∙ sym (ap (λ (o : Option ℕ). summed (to_z w64 c.adds.value-bits) (at_keys items (from_key o chain))) c.in-Some.is) ∙ c.adds.invariant.summed;
    }
