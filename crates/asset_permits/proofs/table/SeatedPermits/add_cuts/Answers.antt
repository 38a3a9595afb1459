use Rattle.std.proofs.Common.{◌≡◌, ◌||◌, Bool, eqb, true, false, take, refl, sym, ap, ◌∙◌, arith, rules}
use Rattle.std.proofs.lemmas.Bool.{eq-eqb}
use Rattle.asset_permits.specs.declared.copying.Cut.{Cut}
use Rattle.asset_permits.specs.Descriptors.{stands, same_descriptor}
use Rattle.asset_permits.specs.Valid.{permits_in}
use Rattle.asset_permits.specs.Copies.{given_by, copy_of}
use Rattle.asset_permits.proofs.CopyLemmas.{given_nothing, given_more, adds_nothing, take_item, any_at, nobody_takes}
use Rattle.asset_permits.proofs.table.SeatedPermits.add_cuts.Goals as goal

pub cuts-init : goal.cuts-init
cuts-init c = record {
  tied = c.requires.tied;
  seated = rw c.new-added.ensures.items (nobody_takes c.args.seats.now);
  adds = rw c.new-added.ensures.items (adds_nothing c.args.receiver.t.0 (permits_in c.args.self.now));
  standing = λ e. plain (stands (permits_in c.args.self.now) e) ∙ ap (λ b. stands (permits_in c.args.self.now) e || b) (sym (given_nothing c.args.receiver.t.0 e));
} where
  plain : (s : Bool) → s ≡ (s || false)
  plain true = refl
  plain false = refl

pub add_new-requires-clause-taker : goal.add_new-requires-clause-taker
add_new-requires-clause-taker c =
    let cut = c.cut-item.result in
    c.requires.seated cut.taker (any_at (λ (k : Cut). eqb k.taker.0 cut.taker.0) c.args.cuts.now c.cuts.cut-index cut (omega arith) c.cut-item.is (eq-eqb cut.taker.0 cut.taker.0 refl))

pub cuts-preserved : goal.cuts-preserved
cuts-preserved c =
    let receiver = c.args.receiver.t.0 in
    let cut = c.cut-item.result in
    let front = take c.cuts.cut-index c.args.cuts.now in
    let permits = permits_in c.args.self.now in
    record {
      tied = c.add_new.ensures.tied;
      seated = c.add_new.ensures.seated c.cuts.invariant.seated;
      adds = c.in-Ok.ensures.added permits c.cuts.invariant.adds;
      standing = λ e.
          c.in-Ok.ensures.stands e
          ∙ ap (λ b. b || same_descriptor (copy_of receiver cut) e) (c.cuts.invariant.standing e)
          ∙ regroup (stands permits e) (stands (given_by receiver front) e) (same_descriptor (copy_of receiver cut) e)
          ∙ ap (λ b. stands permits e || b) (sym (given_more receiver front cut e))
          ∙ ap (λ cuts. stands permits e || stands (given_by receiver cuts) e) (sym (take_item c.args.cuts.now c.cuts.cut-index cut (omega arith) c.cut-item.is));
    } where
      regroup : (a b c : Bool) → ((a || b) || c) ≡ (a || (b || c))
      regroup true b c = refl
      regroup false b c = refl

pub returns-in-Err-clause-unchanged : goal.returns-in-Err-clause-unchanged
returns-in-Err-clause-unchanged c = search rules
