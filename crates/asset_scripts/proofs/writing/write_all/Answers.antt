-- What the writer took stays a prefix of the text.
use Rattle.std.proofs.Common.{◌++◌, take, rules, arith}
use Rattle.std.proofs.lemmas.Grind.{common_steps}
use Rattle.std.proofs.KnownBytes.{Appends-trans}
use Rattle.asset_scripts.proofs.TransferLemmas.{prefix_taken, prefix_grown}
use Rattle.asset_scripts.proofs.writing.write_all.Goals as goal

pub returns-in_default-clause-prefix : goal.returns-in_default-clause-prefix
returns-in_default-clause-prefix g c =
    let (prefix, split, appended) = c.offers.invariant.split in
    prefix_taken _ _ _ c.offers.output _ prefix c.offers.rest.now split appended c.in_default.ensures.took_nothing

pub offers-preserved : goal.offers-preserved
offers-preserved g c =
    let (prefix, split, appended) = c.offers.invariant.split in
    let rest = c.offers.rest.now in
    let n = c.in-Some.count in
    record {
      split = (prefix ++ take n rest, prefix_grown _ prefix rest n split, Appends-trans _ _ _ _ _ appended c.in-Some.ensures.took);
      failed = search (rules, c.in-Some.ensures.failed, c.offers.invariant.failed);
    }

pub returns-clause-took : goal.returns-clause-took
returns-clause-took g c = grind (arith, common_steps)
