use Rattle.std.proofs.Common.{◌≡◌, ◌&&◌, List, reverse, take, refl, sym, ◌∙◌, ap, inl, inr, arith}
use Rattle.std.specs.List.{list_all}
use Rattle.std.proofs.lemmas.List.{length-reverse, reverse-reverse, take_all}
use Rattle.std.proofs.lemmas.Option.{slice_get_cases}
use Rattle.asset_names.specs.Arrows.{lists}
use Rattle.asset_names.specs.Steps.{Entry}
use Rattle.asset_history.specs.Uses.{partners}
use Rattle.asset_laws.specs.Serial.{is_apart}
use Rattle.asset_serial.proofs.AnsweredLemmas.{apart_more}
use Rattle.asset_serial.proofs.sharing.all_apart.Goals as goal
use Rattle.asset_serial.proofs.sharing.all_apart.Goals.{then-not-apart_at, else-not-apart_at}

pub entries-init : goal.entries-init
unfolding partners
entries-init c = refl

pub entries-preserved : goal.entries-preserved
entries-preserved c =
    let all = c.args.history.now.entries in
    let entries = reverse all in
    let i = c.entries.i in
    let named = lists c.args.names.now.keys in
    let before = list_all (is_apart named) (partners (reverse (take i entries))) in
    elim (slice_get_cases entries i).1 [
      | inl here ↦
          let next = apart_more named entries i here.0 here.2 in
          let says = c.apart_at.ensures here.0 here.2 in
          elim c.if-not-apart_at.branch [
            | then-not-apart_at w ↦ w.apart-is ∙ sym (next ∙ ap (λ b. b && before) (sym says ∙ w.if-not-apart_at.true))
            | else-not-apart_at w ↦ w.apart-is ∙ c.entries.invariant ∙ sym (next ∙ ap (λ b. b && before) (sym says ∙ w.if-not-apart_at.false))
          ]
      | inr past ↦ absurd (omega (arith, past.0, c.entries-test.true, c.len-i-end.ensures.len, length-reverse all))
    ]

pub returns-clause-apart : goal.returns-clause-apart
returns-clause-apart c =
    let all = c.args.history.now.entries in
    let whole : reverse (take c.entries.i (reverse all)) ≡ all =
    ap reverse (take_all c.entries.i (reverse all) (omega (arith, c.entries-test.false, c.len-i-end.ensures.len, length-reverse all))) ∙ reverse-reverse all in
    c.entries.invariant ∙ ap (λ (l : List Entry). list_all (is_apart (lists c.args.names.now.keys)) (partners l)) whole
