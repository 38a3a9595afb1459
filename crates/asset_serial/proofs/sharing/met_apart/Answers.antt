use Rattle.std.proofs.Common.{◌≡◌, Bool, true, false, ◌&&◌, take, refl, sym, ◌∙◌, ap}
use Rattle.std.specs.List.{list_all}
use Rattle.asset_names.specs.declared.names.Txn.{Txn}
use Rattle.asset_names.specs.Arrows.{lists}
use Rattle.asset_laws.specs.Serial.{is_apart}
use Rattle.asset_meetings.specs.Meetings.{join_arrows}
use Rattle.asset_serial.proofs.AnsweredLemmas.{met_more}
use Rattle.asset_serial.proofs.sharing.met_apart.Goals as goal
use Rattle.asset_serial.proofs.sharing.met_apart.Goals.{then-not-are_apart, else-not-are_apart}

pub met-init : goal.met-init
unfolding join_arrows
met-init c = refl

and_none : (a : Bool) → (a && false) ≡ false
and_none true = refl
and_none false = refl

and_all : (a : Bool) → (a && true) ≡ a
and_all true = refl
and_all false = refl

pub met-preserved : goal.met-preserved
met-preserved c =
    let named = lists c.args.names.now.keys in
    let none : Txn × Txn = (record { 0 = 0 }, record { 0 = 0 }) in
    let before = list_all (is_apart named) (join_arrows (take c.met.k c.args.met.now)) in
    let next = met_more named c.args.met.now c.met.k none c.met-test.true in
    elim c.if-not-are_apart.branch [
      | then-not-are_apart w ↦ w.apart-is ∙ sym (next ∙ ap (λ b. before && b) (sym c.are_apart.ensures ∙ w.if-not-are_apart.true) ∙ and_none before)
      | else-not-are_apart w ↦ w.apart-is ∙ c.met.invariant ∙ sym (next ∙ ap (λ b. before && b) (sym c.are_apart.ensures ∙ w.if-not-are_apart.false) ∙ and_all before)
    ]
