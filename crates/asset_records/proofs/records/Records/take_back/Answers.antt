use Rattle.std.proofs.Common.{◌≡◌, ℕ, suc, Bool, cond, [], None, Some, is_some, eqb, length, refl, sym, ap, subst, ◌∙◌, arith}
use Rattle.std.proofs.lemmas.Bool.{true≢false, eq-eqb}
use Rattle.slab.specs.Slab.{get}
use Rattle.asset_chains.specs.Chained.{Chained, chain_of, home_of, last_of, without}
use Rattle.asset_chains.specs.declared.side.Side.TheVariants.{Row, Column}
use Rattle.asset_chains.specs.Crossed.{Crossed}
use Rattle.asset_chains.proofs.Laws.{chain_at_last}
use Rattle.asset_records.specs.declared.records.Record.{Record}
use Rattle.asset_records.specs.Listed.{lists_in, IsTied}
use Rattle.asset_records.proofs.ListedLemmas.{has_owned, owned_is}
use Rattle.asset_records.proofs.LayerLemmas.{taken_layered, still_layered}
use Rattle.asset_records.proofs.BackLemmas.{taken_back, no_record_of, column_empty, no_last, mended_tied}
use Rattle.asset_records.proofs.records.Records.take_back.Goals as goal

pub column-at-requires : goal.column-at-requires
column-at-requires c =
    let tied = subst (λ (r : Crossed Record). IsTied r c.args.seats.now) (sym c.self.view_is) c.requires.tied in
    omega (arith, tied.within c.args.t.at (ap is_some c.requires.sits), c.laws-2.ensures.few Column)

pub returns-in_err-key-clause-none : goal.returns-in_err-key-clause-none
returns-in_err-key-clause-none c =
    let records = c.self.inside.records in
    let seats = c.args.seats.now in
    let tied = subst (λ (r : Crossed Record). IsTied r seats) (sym c.self.view_is) c.requires.tied in
    let empty : chain_of records.columns (suc c.args.t.at) ≡ [] = no_last (chain_of records.columns (suc c.args.t.at)) (ap (λ (n : ℕ). last_of (chain_of records.columns n)) (sym c.column-at.ensures) ∙ sym c.in_err-key.ensures) in
    rw c.from_residual.ensures
    (rw (← c.self.view_is) (no_record_of records seats c.args.t.t tied c.laws-2.ensures.crossed (column_empty records seats c.args.t c.requires.sits c.laws.ensures.one empty), refl))

pub returns-in_err-object-clause-none : goal.returns-in_err-object-clause-none
returns-in_err-object-clause-none c =
    let records = c.self.inside.records in
    let seats = c.args.seats.now in
    let tied = subst (λ (r : Crossed Record). IsTied r seats) (sym c.self.view_is) c.requires.tied in
    let home = (chain_at_last c.in_ok-key.key c.column-at.result records.columns (c.laws-2.ensures.crossed.sound Column) (sym c.in_ok-key.ensures)).0 in
    let held = has_owned records seats tied c.in_ok-key.key c.args.t.at c.args.t.t (home ∙ ap Some c.column-at.ensures) c.requires.sits in
    absurd (true≢false (sym (ap is_some held.1) ∙ sym (c.laws-2.ensures.crossed.placed Row c.in_ok-key.key) ∙ sym (ap is_some c.in_err-object.ensures)))

pub drop_at-requires : goal.drop_at-requires
drop_at-requires c =
    let records = c.self.inside.records in
    let seats = c.args.seats.now in
    let later = c.mend_write-restored.new.records in
    let tied = subst (λ (r : Crossed Record). IsTied r seats) (sym c.self.view_is) c.requires.tied in
    let home = (chain_at_last c.in_ok-key.key c.column-at.result records.columns (c.laws-2.ensures.crossed.sound Column) (sym c.in_ok-key.ensures)).0 ∙ ap Some c.column-at.ensures in
    let tied_later = mended_tied records later seats c.over_in-over.result.write c.over_in-over.result.mend tied c.mend_write-restored.ensures.records c.mend_write-restored.ensures.lines.1 in
    record { there = ap is_some (has_owned later seats tied_later c.in_ok-key.key c.args.t.at c.args.t.t (ap (λ (table : Chained). home_of table c.in_ok-key.key) c.mend_write-restored.ensures.lines.1 ∙ home) c.requires.sits).1 }

pub returns-clause-tied : goal.returns-clause-tied
returns-clause-tied c =
    let records = c.self.inside.records in
    let seats = c.args.seats.now in
    let tied = subst (λ (r : Crossed Record). IsTied r seats) (sym c.self.view_is) c.requires.tied in
    c.drop_at.ensures.tied seats (mended_tied records c.mend_write-restored.new.records seats c.over_in-over.result.write c.over_in-over.result.mend tied c.mend_write-restored.ensures.records c.mend_write-restored.ensures.lines.1)

pub returns-clause-taken : goal.returns-clause-taken
returns-clause-taken c =
    let records = c.self.inside.records in
    let seats = c.args.seats.now in
    let tied = subst (λ (r : Crossed Record). IsTied r seats) (sym c.self.view_is) c.requires.tied in
    let home = (chain_at_last c.in_ok-key.key c.column-at.result records.columns (c.laws-2.ensures.crossed.sound Column) (sym c.in_ok-key.ensures)).0 ∙ ap Some c.column-at.ensures in
    let held = has_owned records seats tied c.in_ok-key.key c.args.t.at c.args.t.t home c.requires.sits in
    let at : home_of records.rows c.in_ok-key.key ≡ Some c.in_ok-object.object = sym c.in_ok-object.ensures in (
      rw (← c.self.view_is)
          (taken_back records.items c.mend_write-restored.new.records.items c.drop_at.new.records.items records.rows c.drop_at.new.records.rows c.args.t.t.0 c.in_ok-key.key c.in_ok-object.object held.0
          c.over_in-over.result.write c.over_in-over.result.mend c.mend_write-restored.result
          (c.laws-2.ensures.crossed.sound Row) at held.1 (owned_is (λ n. eqb n c.args.t.t.0) held.0 c.args.t.t held.2 ∙ eq-eqb c.args.t.t.0 c.args.t.t.0 refl)
          c.over_in-over.ensures.write c.over_in-over.ensures.mend
          c.mend_write-restored.ensures.records
          c.drop_at.ensures.records
          (λ j. c.drop_at.ensures.chains j ∙ ap (λ (table : Chained). without c.in_ok-key.key (chain_of table j)) c.mend_write-restored.ensures.lines.0)
          (c.drop_at.ensures.many ∙ ap (λ (table : Chained). length table.chains) c.mend_write-restored.ensures.lines.0)
          c.mend_write-restored.ensures.left),
      omega arith,
      omega (arith, c.counted.ensures, c.counted-2.ensures, c.counted-3.ensures),
    )

pub returns-clause-last : goal.returns-clause-last
returns-clause-last c = rw (← c.self.view_is, ← c.column-at.ensures) record {
  key = c.in_ok-key.key;
  last = sym c.in_ok-key.ensures;
  on_object = sym c.in_ok-object.ensures;
  gone = c.drop_at.ensures.records c.in_ok-key.key ∙ ap (λ (same : Bool). cond same None (get c.mend_write-restored.new.records.items c.in_ok-key.key)) (eq-eqb c.in_ok-key.key c.in_ok-key.key refl);
}

pub invariant_of-self : goal.invariant_of-self
invariant_of-self c =
    let records = c.self.inside.records in
    let fewer = c.drop_at.new.records in
    let seats = c.args.seats.now in
    let tied = subst (λ (r : Crossed Record). IsTied r seats) (sym c.self.view_is) c.requires.tied in
    let home = (chain_at_last c.in_ok-key.key c.column-at.result records.columns (c.laws-2.ensures.crossed.sound Column) (sym c.in_ok-key.ensures)).0 ∙ ap Some c.column-at.ensures in
    let held = has_owned records seats tied c.in_ok-key.key c.args.t.at c.args.t.t home c.requires.sits in
    let at : home_of records.rows c.in_ok-key.key ≡ Some c.in_ok-object.object = sym c.in_ok-object.ensures in
    still_layered c.self.inside.marks.items (lists_in records) (lists_in fewer)
    (taken_layered c.args.t.t.0 c.in_ok-object.object c.mend_write-restored.result (lists_in records) (lists_in fewer)
    (taken_back records.items c.mend_write-restored.new.records.items fewer.items records.rows fewer.rows c.args.t.t.0 c.in_ok-key.key c.in_ok-object.object held.0
    c.over_in-over.result.write c.over_in-over.result.mend c.mend_write-restored.result
    (c.laws-2.ensures.crossed.sound Row) at held.1 (owned_is (λ n. eqb n c.args.t.t.0) held.0 c.args.t.t held.2 ∙ eq-eqb c.args.t.t.0 c.args.t.t.0 refl)
    c.over_in-over.ensures.write c.over_in-over.ensures.mend
    c.mend_write-restored.ensures.records
    c.drop_at.ensures.records
    (λ j. c.drop_at.ensures.chains j ∙ ap (λ (table : Chained). without c.in_ok-key.key (chain_of table j)) c.mend_write-restored.ensures.lines.0)
    (c.drop_at.ensures.many ∙ ap (λ (table : Chained). length table.chains) c.mend_write-restored.ensures.lines.0)
    c.mend_write-restored.ensures.left))
    c.self.invariant
