use Rattle.std.proofs.Common.{◌≡◌, Some, is_some, refl, sym, ap, ◌∙◌}
use Rattle.std.proofs.lemmas.Bool.{true≢false}
use Rattle.asset_chains.specs.Chained.{chain_of, home_of, first_of}
use Rattle.asset_chains.specs.Crossed.{lines}
use Rattle.asset_chains.proofs.Laws.{chain_at_first}
use Rattle.asset_chains.proofs.KeyLemmas.{first_is_some}
use Rattle.asset_chains.proofs.ClearLemmas.{first_is_there}
use Rattle.asset_permits.proofs.DropLemmas.{shrinks_then}
use Rattle.asset_permits.proofs.dropping.drop_along.Goals as goal

pub first-init : goal.first-init
first-init c = record {
  used = c.requires;
  crossed = c.laws.ensures.crossed;
  shrinks = record { permits = λ k d there. there; homes = λ side k c home. home; many = λ side. refl };
  left = λ k t sat. sat;
  kept = λ k apart. refl;
}

pub drop_at-requires-clause-there : goal.drop_at-requires-clause-there
drop_at-requires-clause-there c = first_is_there c.args.side c.args.seat c.in-Some.key c.first.permits c.first.invariant.crossed c.in-Some.ensures

pub first-preserved : goal.first-preserved
first-preserved c =
    let table = lines c.args.side c.first.permits in
    let first : first_of (chain_of table c.args.seat) ≡ Some c.in-Some.key = sym c.in-Some.ensures in
    let home : home_of table c.in-Some.key ≡ Some c.args.seat = (chain_at_first c.in-Some.key c.args.seat table (c.first.invariant.crossed.sound c.args.side) first).0 in
    record {
      used = c.drop_at.ensures.used;
      crossed = c.laws-in-Some.ensures.crossed;
      shrinks = shrinks_then c.args.permits.now c.first.permits c.drop_at.new.permits c.first.invariant.shrinks c.drop_at.ensures.shrinks;
      left = λ k t sat. c.first.invariant.left k t (c.drop_at.ensures.left k t sat);
      kept = λ k apart.
          c.drop_at.ensures.others k (λ same. apart (ap (home_of (lines c.args.side c.args.permits.now)) same ∙ c.first.invariant.shrinks.homes c.args.side c.in-Some.key c.args.seat home)) ∙ c.first.invariant.kept k apart;
    }

pub returns-clause-gone : goal.returns-clause-gone
returns-clause-gone c = λ k home.
    let table = lines c.args.side c.first.permits in
    true≢false (sym (first_is_some (chain_of table c.args.seat) k ((c.first.invariant.crossed.sound c.args.side).listed c.args.seat k home)) ∙ sym (ap is_some c.first-in-first.ensures) ∙ ap is_some c.in_default.is)
