use Rattle.std.proofs.Common.{◌≡◌, suc, [], Some, is_some, eqb, refl, sym, ap, subst, ◌∙◌, arith}
use Rattle.std.proofs.lemmas.Bool.{true≢false, eq-eqb}
use Rattle.asset_chains.specs.Chained.{chain_of}
use Rattle.asset_chains.specs.declared.side.Side.TheVariants.{Row, Column}
use Rattle.asset_chains.specs.Crossed.{Crossed}
use Rattle.asset_records.specs.declared.records.Record.{Record}
use Rattle.asset_records.specs.Listed.{lists_in, IsTied, is_of}
use Rattle.asset_records.proofs.ListedLemmas.{has_owned, owned_is}
use Rattle.asset_records.proofs.DropLemmas.{read_some}
use Rattle.asset_records.proofs.LayerLemmas.{settled_layered, still_layered}
use Rattle.asset_records.proofs.BackLemmas.{no_record_of, column_empty}
use Rattle.asset_records.proofs.records.Records.settle_next.Goals as goal

pub column-at-requires : goal.column-at-requires
column-at-requires c =
    let tied = subst (λ (r : Crossed Record). IsTied r c.args.seats.now) (sym c.self.view_is) c.requires.tied in
    omega (arith, tied.within c.args.t.at (ap is_some c.requires.sits), c.laws-2.ensures.few Column)

pub returns-in_err-key-clause-none : goal.returns-in_err-key-clause-none
returns-in_err-key-clause-none c =
    let records = c.self.inside.records in
    let seats = c.args.seats.now in
    let tied = subst (λ (r : Crossed Record). IsTied r seats) (sym c.self.view_is) c.requires.tied in
    let empty : chain_of records.columns (suc c.args.t.at) ≡ [] = ap (chain_of records.columns) (sym c.column-at.ensures) ∙ c.in_err-key.ensures.none in
    rw c.from_residual.ensures
    (rw (← c.self.view_is) (no_record_of records seats c.args.t.t tied c.laws-2.ensures.crossed (column_empty records seats c.args.t c.requires.sits c.laws.ensures.one empty), refl))

pub returns-in_err-object-clause-none : goal.returns-in_err-object-clause-none
returns-in_err-object-clause-none c =
    let records = c.self.inside.records in
    let seats = c.args.seats.now in
    let tied = subst (λ (r : Crossed Record). IsTied r seats) (sym c.self.view_is) c.requires.tied in
    let home = c.in_ok-key.ensures.found in
    let held = has_owned records seats tied c.in_ok-key.key c.args.t.at c.args.t.t (home ∙ ap Some c.column-at.ensures) c.requires.sits in
    absurd (true≢false (sym (ap is_some held.1) ∙ sym (c.laws-2.ensures.crossed.placed Row c.in_ok-key.key) ∙ sym (ap is_some c.in_err-object.ensures)))

pub returns-clause-settled : goal.returns-clause-settled
returns-clause-settled c =
    let records = c.self.inside.records in
    let seats = c.args.seats.now in
    let tied = subst (λ (r : Crossed Record). IsTied r seats) (sym c.self.view_is) c.requires.tied in
    let home = c.in_ok-key.ensures.found in
    let held = has_owned records seats tied c.in_ok-key.key c.args.t.at c.args.t.t (home ∙ ap Some c.column-at.ensures) c.requires.sits in
    rw (← c.self.view_is)
    (c.settle_at-visited.ensures.settled c.args.t.t.0
    (ap (is_of c.args.t.t.0) (read_some records.items c.in_ok-key.key held.0 held.1) ∙ owned_is (λ n. eqb n c.args.t.t.0) held.0 c.args.t.t held.2 ∙ eq-eqb c.args.t.t.0 c.args.t.t.0 refl))

pub invariant_of-self : goal.invariant_of-self
invariant_of-self c =
    let records = c.self.inside.records in
    let new = c.settle_at-visited.new.records in
    let seats = c.args.seats.now in
    let tied = subst (λ (r : Crossed Record). IsTied r seats) (sym c.self.view_is) c.requires.tied in
    let home = c.in_ok-key.ensures.found in
    let held = has_owned records seats tied c.in_ok-key.key c.args.t.at c.args.t.t (home ∙ ap Some c.column-at.ensures) c.requires.sits in
    still_layered c.self.inside.marks.items (lists_in records) (lists_in new)
    (settled_layered c.args.t.t.0 c.in_ok-object.object c.settle_at-visited.result (lists_in records) (lists_in new)
    (c.settle_at-visited.ensures.settled c.args.t.t.0
    (ap (is_of c.args.t.t.0) (read_some records.items c.in_ok-key.key held.0 held.1) ∙ owned_is (λ n. eqb n c.args.t.t.0) held.0 c.args.t.t held.2 ∙ eq-eqb c.args.t.t.0 c.args.t.t.0 refl)))
    c.self.invariant
