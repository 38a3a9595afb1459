use Rattle.std.proofs.Common.{◌≡◌, Some, is_some, sym, ap, subst, ◌∙◌, arith}
use Rattle.slab.specs.Slab.{get}
use Rattle.asset_chains.specs.Chained.{Chained}
use Rattle.asset_chains.specs.declared.side.Side.TheVariants.{Row}
use Rattle.asset_records.specs.Listed.{at_keys, record_at, Settles, lists_in}
use Rattle.asset_records.specs.Mended.{has_write}
use Rattle.std.proofs.Common.{map, cond, eqb, w64}
use Rattle.std.specs.Prelude.{ℤ}
use Rattle.std.proofs.lemmas.Int.{to_z-of_z}
use Rattle.asset_records.specs.declared.records.Record.TheVariants.{Lasting}
use Rattle.asset_records.proofs.BackLemmas.{settles_lasting, settles_dropped}
use Rattle.asset_records.proofs.ThroughLemmas.{one_if_owned}
use Rattle.asset_records.proofs.SettleLemmas.{added_owned, owned_any, lasting_tied}
use Rattle.asset_records.proofs.settling.settle_add.Goals as goal

pub make_lasting-requires : goal.make_lasting-requires
make_lasting-requires c = record { there = sym (c.laws.ensures.crossed.placed Row c.args.key) ∙ ap is_some c.requires.there }

pub drop_at-requires : goal.drop_at-requires
drop_at-requires c = record { there = sym (c.laws.ensures.crossed.placed Row c.args.key) ∙ ap is_some c.requires.there }

pub returns-then-may_stand_over_write-clause-settled : goal.returns-then-may_stand_over_write-clause-settled
returns-then-may_stand_over_write-clause-settled c = λ t whose.
    let old = c.args.records.now in
    let new = c.make_lasting.new.records in
    let held = added_owned old.items c.args.key t c.args.amount c.requires.add whose in
    subst (λ (rows : Chained). Settles t c.args.object c.make_lasting.result (lists_in old) (map (at_keys new.items) rows.chains)) (sym c.make_lasting.ensures.rows)
    (settles_lasting old.items new.items old.rows t c.args.key c.args.object c.make_lasting.result held.0 c.args.amount (c.laws.ensures.crossed.sound Row) c.requires.there held.1 held.2 (λ l. c.make_lasting.ensures.items l ∙ ap (λ (n : ℤ). cond (eqb l c.args.key) (Some (Lasting n)) (get c.args.records.now.items l)) (to_z-of_z w64 c.args.amount c.ranges.amount)) c.make_lasting.ensures.least c.make_lasting.ensures.most)

pub returns-then-may_stand_over_write-clause-tied : goal.returns-then-may_stand_over_write-clause-tied
returns-then-may_stand_over_write-clause-tied c = λ seats tied. lasting_tied c.args.records.now c.make_lasting.new.records seats c.args.key c.args.amount tied (λ l. c.make_lasting.ensures.items l ∙ ap (λ (n : ℤ). cond (eqb l c.args.key) (Some (Lasting n)) (get c.args.records.now.items l)) (to_z-of_z w64 c.args.amount c.ranges.amount)) c.make_lasting.ensures.homes c.make_lasting.ensures.many

pub returns-clause-settled : goal.returns-clause-settled
unfolding has_write at_keys
returns-clause-settled c = λ t whose.
    let old = c.args.records.now in
    let new = c.drop_at.new.records in
    let held = added_owned old.items c.args.key t c.args.amount c.requires.add whose in
    let one : one_if_owned (record_at old.items c.args.key) ≡ 1 = ap (λ b. cond b 1 0) (owned_any t (record_at old.items c.args.key) whose) in
    settles_dropped old.items new.items old.rows new.rows t c.args.key c.args.object c.visited_at-visited.result held.0 c.args.amount (c.laws.ensures.crossed.sound Row) c.requires.there held.1 held.2
    (c.may_stand_over_write.ensures c.if-may_stand_over_write.false)
    c.drop_at.ensures.records c.drop_at.ensures.chains c.drop_at.ensures.many (omega (arith, one, c.visited_at-visited.ensures.least)) (omega (arith, one, c.visited_at-visited.ensures.most))
