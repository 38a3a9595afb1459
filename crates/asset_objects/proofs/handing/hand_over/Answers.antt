use Rattle.std.proofs.Common.{Bool, cond, map, sym, ap, ◌∙◌}
use Rattle.std.proofs.lemmas.Bool.{eqb-true}
use Rattle.asset_records.specs.Listed.{lists_in, on}
use Rattle.asset_records.specs.Handed.{renamed}
use Rattle.asset_names.specs.Numbered.{number_in}
use Rattle.asset_objects.proofs.HandLemmas.{among_is, only_is}
use Rattle.asset_objects.proofs.handing.hand_over.Goals as goal

pub returns-in-Some-clause-lists : goal.returns-in-Some-clause-lists
returns-in-Some-clause-lists c = λ y i at.
    c.hand_over_one.ensures.lists c.args.objects.now.keys c.in-Some.field-0.0 y i (c.requires.only c.in-Some.field-0 (sym c.in-Some.ensures)) at
    ∙ sym (ap (λ (b : Bool). cond b (map (renamed c.args.giver.t.0 c.args.taker.t.0) (on (lists_in c.args.records.now) i)) (on (lists_in c.args.records.now) i)) (only_is c.args.set.now c.in-Some.field-0 y (sym c.in-Some.ensures)))

pub returns-in-Some-clause-counted : goal.returns-in-Some-clause-counted
returns-in-Some-clause-counted c = λ apart y i at among wrote.
    let same = eqb-true c.in-Some.field-0.0 y (sym (only_is c.args.set.now c.in-Some.field-0 y (sym c.in-Some.ensures)) ∙ among) in
    c.hand_over_one.ensures.counted apart i (c.requires.only c.in-Some.field-0 (sym c.in-Some.ensures) ∙ ap (number_in c.args.objects.now.keys) same ∙ at) wrote

pub returns-in-None-clause-lists : goal.returns-in-None-clause-lists
returns-in-None-clause-lists c = λ y i at.
    c.hand_over.ensures.lists i
    ∙ ap (λ (b : Bool). cond b (map (renamed c.args.giver.t.0 c.args.taker.t.0) (on (lists_in c.args.records.now) i)) (on (lists_in c.args.records.now) i)) (among_is c.args.objects.now.keys c.args.set.now y i at)

pub returns-in-None-clause-counted : goal.returns-in-None-clause-counted
returns-in-None-clause-counted c = λ apart y i at among wrote. c.hand_over.ensures.counted apart i (among_is c.args.objects.now.keys c.args.set.now y i at ∙ among) wrote
