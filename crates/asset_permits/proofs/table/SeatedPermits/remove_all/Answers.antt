use Rattle.std.proofs.lemmas.Bool.{eq-eqb}
use Rattle.asset_permits.specs.declared.copying.Cut.{Cut}
use Rattle.std.proofs.Common.{◌≡◌, eqb, ◌&&◌, ◌||◌, not, Bool, true, false, take, refl, sym, ap, ◌∙◌, arith}
use Rattle.asset_permits.specs.Descriptors.{stands, same_descriptor}
use Rattle.asset_permits.specs.Copies.{given_by, copy_of}
use Rattle.asset_permits.specs.Valid.{permits_in}
use Rattle.asset_permits.proofs.CopyLemmas.{given_nothing, given_more, take_item, any_at}
use Rattle.asset_permits.proofs.table.SeatedPermits.remove_all.Goals as goal

pub added-init : goal.added-init
added-init c = record {
  tied = c.requires.tied;
  standing = λ e. plain (stands (permits_in c.args.self.now) e) ∙ ap (λ b. stands (permits_in c.args.self.now) e && not b) (sym (given_nothing c.args.receiver.t.0 e));
} where
  plain : (s : Bool) → s ≡ (s && not false)
  plain true = refl
  plain false = refl

pub sought_by-requires-clause-taker : goal.sought_by-requires-clause-taker
sought_by-requires-clause-taker c =
    let cut = c.cut-item.result in
    c.requires.seated cut.taker (any_at (λ (k : Cut). eqb k.taker.0 cut.taker.0) c.args.added.now c.added.cut-index cut (omega arith) c.cut-item.is (eq-eqb cut.taker.0 cut.taker.0 refl))

pub added-preserved : goal.added-preserved
added-preserved c = record {
  tied = c.remove.ensures.tied;
  standing = λ e.
      let receiver = c.args.receiver.t.0 in
      let cut = c.cut-item.result in
      let front = take c.added.cut-index c.args.added.now in
      let permits = permits_in c.args.self.now in
      c.remove.ensures.stands e
      ∙ (λ i. c.added.invariant.standing e i && not (same_descriptor (c.sought_by.ensures.asked i) e))
      ∙ both (stands permits e) (stands (given_by receiver front) e) (same_descriptor (copy_of receiver cut) e)
      ∙ ap (λ b. stands permits e && not b) (sym (given_more receiver front cut e))
      ∙ ap (λ cuts. stands permits e && not (stands (given_by receiver cuts) e)) (sym (take_item c.args.added.now c.added.cut-index cut (omega arith) c.cut-item.is));
} where
  both : (s a b : Bool) → ((s && not a) && not b) ≡ (s && not (a || b))
  both true true b = refl
  both true false b = refl
  both false a b = refl
