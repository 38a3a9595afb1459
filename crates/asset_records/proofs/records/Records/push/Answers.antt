use Rattle.std.proofs.Common.{◌≡◌, ℕ, [], ◌∷◌, ◌++◌, Some, is_some, length, refl, ap, subst, sym, ◌∙◌, arith}
use Rattle.std.proofs.lemmas.List.{length-map}
use Rattle.asset_chains.specs.declared.side.Side.TheVariants.{Column}
use Rattle.asset_chains.specs.Crossed.{Crossed, Joins}
use Rattle.asset_records.specs.declared.records.Record.{Record}
use Rattle.asset_records.specs.Layered.{fits}
use Rattle.asset_records.specs.Listed.{on, at_keys, lists_in, owner_of, record_of, IsTied}
use Rattle.asset_names.specs.declared.names.Txn.{Txn}
use Rattle.asset_records.specs.declared.records.Change.{Change}
use Rattle.asset_records.specs.declared.records.Change.TheVariants.{Wrote, Added}
use Rattle.asset_records.proofs.LayerLemmas.{marked_layered}
use Rattle.asset_records.proofs.PushLemmas.{pushed_tied, pushed_lists}
use Rattle.asset_records.proofs.records.Records.push.Goals as goal

whose : (t : Txn) (change : Change) → owner_of (record_of t change) ≡ Some t
unfolding owner_of record_of
whose t (Wrote before) = refl
whose t (Added amount) = refl

pub column-at-requires : goal.column-at-requires
column-at-requires c =
    let tied = subst (λ (r : Crossed Record). IsTied r c.args.seats.now) (sym c.self.view_is) c.requires.tied in
    omega (arith, tied.within c.args.owner.at (ap is_some c.requires.sits), c.laws.ensures.few Column)

pub insert-requires-clause-row : goal.insert-requires-clause-row
insert-requires-clause-row c =
    let records = c.self.inside.records in
    omega (arith, c.requires.object, ap (λ (r : Crossed Record). length (lists_in r)) c.self.view_is, length-map records.rows.chains (at_keys records.items))

pub returns-clause-tied : goal.returns-clause-tied
returns-clause-tied c =
    let records = c.self.inside.records in
    let seats = c.args.seats.now in
    let tied = subst (λ (r : Crossed Record). IsTied r seats) (sym c.self.view_is) c.requires.tied in
    pushed_tied records c.insert.new.self seats c.record_of.result c.args.owner.t c.insert.result c.args.object c.args.owner.at tied c.laws.ensures.crossed (ap owner_of c.record_of.ensures ∙ whose c.args.owner.t c.args.change) c.requires.sits c.insert.ensures.vacant c.insert.ensures.items c.insert.ensures.rows
    (subst (λ (n : ℕ). Joins n c.insert.result records.columns c.insert.new.self.columns) c.column-at.ensures c.insert.ensures.columns)

pub returns-clause-pushed : goal.returns-clause-pushed
returns-clause-pushed c =
    let records = c.self.inside.records in
    let seats = c.args.seats.now in
    let tied = subst (λ (r : Crossed Record). IsTied r seats) (sym c.self.view_is) c.requires.tied in
    rw (← c.self.view_is, ← c.record_of.ensures)
    (pushed_lists records c.insert.new.self seats c.record_of.result c.args.owner.t c.insert.result c.args.object c.args.owner.at tied c.laws.ensures.crossed (ap owner_of c.record_of.ensures ∙ whose c.args.owner.t c.args.change) c.requires.sits c.insert.ensures.vacant c.insert.ensures.items c.insert.ensures.rows
    (subst (λ (n : ℕ). Joins n c.insert.result records.columns c.insert.new.self.columns) c.column-at.ensures c.insert.ensures.columns))

pub returns-clause-last : goal.returns-clause-last
returns-clause-last c = rw (← c.self.view_is, ← c.record_of.ensures, ← c.column-at.ensures) record {
  key = c.insert.result;
  vacant = c.insert.ensures.vacant;
  there = c.insert.ensures.items.changed;
  joins = c.insert.ensures.columns;
}

pub invariant_of-self : goal.invariant_of-self
invariant_of-self c =
    let records = c.self.inside.records in
    let seats = c.args.seats.now in
    let tied = subst (λ (r : Crossed Record). IsTied r seats) (sym c.self.view_is) c.requires.tied in
    let whole = on (lists_in records) c.args.object ++ c.record_of.result ∷ [] in
    marked_layered c.self.inside.marks.items c.set_mark.new.marks.items c.args.object c.next_mark-next.result (lists_in records) (lists_in c.insert.new.self) whole
    (pushed_lists records c.insert.new.self seats c.record_of.result c.args.owner.t c.insert.result c.args.object c.args.owner.at tied c.laws.ensures.crossed (ap owner_of c.record_of.ensures ∙ whose c.args.owner.t c.args.change) c.requires.sits c.insert.ensures.vacant c.insert.ensures.items c.insert.ensures.rows
    (subst (λ (n : ℕ). Joins n c.insert.result records.columns c.insert.new.self.columns) c.column-at.ensures c.insert.ensures.columns))
    c.set_mark.ensures.own c.set_mark.ensures.others
    (subst (λ (one : Record). fits c.next_mark-next.result (on (lists_in records) c.args.object ++ one ∷ [])) (sym c.record_of.ensures) (c.next_mark-next.ensures c.args.owner.t))
    c.self.invariant
