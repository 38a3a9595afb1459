use Rattle.std.proofs.Common.{ℕ, is_some, sym, ap, subst, length, ◌∙◌, arith}
use Rattle.asset_chains.specs.declared.side.Side.TheVariants.{Column}
use Rattle.asset_chains.specs.Chained.{chain_of}
use Rattle.asset_records.specs.Handed.{picked_at}
use Rattle.asset_records.specs.Handed.{goes as goes_of}
use Rattle.asset_chains.specs.Crossed.{Crossed}
use Rattle.asset_records.specs.declared.records.Record.{Record}
use Rattle.asset_records.specs.Listed.{on, lists_in, IsTied}
use Rattle.asset_records.proofs.HandLemmas.{hands_by, same_list, some_goes, on_each, same_many, handed_tied}
use Rattle.asset_records.proofs.LayerLemmas.{handed_layered, still_layered}
use Rattle.asset_records.proofs.CountLemmas.{column_count}
use Rattle.asset_records.proofs.records.Records.hand_over.Goals as goal

pub returns-then-taker-giver-clause-lists : goal.returns-then-taker-giver-clause-lists
returns-then-taker-giver-clause-lists g c = λ j. same_list c.args.taker.t.0 c.args.giver.t.0 c.if-taker-giver.true (g.P.Picks.picks c.args.picks.now j) (on (lists_in c.args.self.now) j)

pub returns-clause-tied : goal.returns-clause-tied
returns-clause-tied g c =
    let records = c.self.inside.records in
    let seats = c.args.seats.now in
    let giver = c.args.giver in
    let taker = c.args.taker in
    let tied = subst (λ (r : Crossed Record). IsTied r seats) (sym c.self.view_is) c.requires.tied in
    handed_tied records c.hand_over_picked-visits.new.records seats (g.P.Picks.picks c.args.picks.now) giver.at giver.t taker.t tied c.laws-2.ensures.crossed c.requires.giver
    (λ d sat. c.laws.ensures.one giver.t giver.at d c.requires.giver sat) taker.at (hands_by records c.hand_over_picked-visits.new.records (g.P.Picks.picks c.args.picks.now) taker.t giver.at taker.at c.column-from.result c.column.result c.column-from.ensures c.column.ensures c.hand_over_picked-visits.ensures.handed) c.requires.taker

pub returns-clause-many : goal.returns-clause-many
returns-clause-many g c =
    let records = c.self.inside.records in
    let seats = c.args.seats.now in
    let giver = c.args.giver in
    let taker = c.args.taker in
    let tied = subst (λ (r : Crossed Record). IsTied r seats) (sym c.self.view_is) c.requires.tied in
    rw (← c.self.view_is)
    (same_many records c.hand_over_picked-visits.new.records seats (g.P.Picks.picks c.args.picks.now) giver.at giver.t taker.t tied c.laws-2.ensures.crossed c.requires.giver
    (λ d sat. c.laws.ensures.one giver.t giver.at d c.requires.giver sat) taker.at (hands_by records c.hand_over_picked-visits.new.records (g.P.Picks.picks c.args.picks.now) taker.t giver.at taker.at c.column-from.result c.column.result c.column-from.ensures c.column.ensures c.hand_over_picked-visits.ensures.handed))

pub returns-clause-lists : goal.returns-clause-lists
returns-clause-lists g c =
    let records = c.self.inside.records in
    let seats = c.args.seats.now in
    let giver = c.args.giver in
    let taker = c.args.taker in
    let tied = subst (λ (r : Crossed Record). IsTied r seats) (sym c.self.view_is) c.requires.tied in
    rw (← c.self.view_is)
    (on_each records c.hand_over_picked-visits.new.records seats (g.P.Picks.picks c.args.picks.now) giver.at giver.t taker.t tied c.laws-2.ensures.crossed c.requires.giver
    (λ d sat. c.laws.ensures.one giver.t giver.at d c.requires.giver sat) taker.at (hands_by records c.hand_over_picked-visits.new.records (g.P.Picks.picks c.args.picks.now) taker.t giver.at taker.at c.column-from.result c.column.result c.column-from.ensures c.column.ensures c.hand_over_picked-visits.ensures.handed))

pub returns-clause-counted : goal.returns-clause-counted
returns-clause-counted g c =
    let records = c.self.inside.records in
    let seats = c.args.seats.now in
    let giver = c.args.giver in
    let taker = c.args.taker in
    let tied = subst (λ (r : Crossed Record). IsTied r seats) (sym c.self.view_is) c.requires.tied in
    rw (← c.self.view_is)
    (λ apart j picked there.
    let goes = some_goes records c.hand_over_picked-visits.new.records seats (g.P.Picks.picks c.args.picks.now) giver.at giver.t taker.t tied c.laws-2.ensures.crossed c.requires.giver
    (λ d sat. c.laws.ensures.one giver.t giver.at d c.requires.giver sat) taker.at (hands_by records c.hand_over_picked-visits.new.records (g.P.Picks.picks c.args.picks.now) taker.t giver.at taker.at c.column-from.result c.column.result c.column-from.ensures c.column.ensures c.hand_over_picked-visits.ensures.handed) j picked there in
    c.hand_over_picked-visits.ensures.counted goes.0 (ap (λ (n : ℕ). goes_of (chain_of records.columns n) (picked_at (g.P.Picks.picks c.args.picks.now) records) goes.0) c.column-from.ensures ∙ goes.1))

pub returns-clause-visits : goal.returns-clause-visits
returns-clause-visits g c =
    let records = c.self.inside.records in
    let seats = c.args.seats.now in
    let giver = c.args.giver in
    let tied = subst (λ (r : Crossed Record). IsTied r seats) (sym c.self.view_is) c.requires.tied in
    rw (← c.self.view_is) (omega (arith, c.hand_over_picked-visits.ensures.visits, ap (λ (n : ℕ). length (chain_of records.columns n)) c.column-from.ensures, column_count records seats giver.at giver.t tied c.laws-2.ensures.crossed c.requires.giver))

pub column-requires : goal.column-requires
column-requires g c =
    let tied = subst (λ (r : Crossed Record). IsTied r c.args.seats.now) (sym c.self.view_is) c.requires.tied in
    omega (arith, tied.within c.args.taker.at (ap is_some c.requires.taker), c.laws-2.ensures.few Column)

pub column-from-requires : goal.column-from-requires
column-from-requires g c =
    let tied = subst (λ (r : Crossed Record). IsTied r c.args.seats.now) (sym c.self.view_is) c.requires.tied in
    omega (arith, tied.within c.args.giver.at (ap is_some c.requires.giver), c.laws-2.ensures.few Column)

pub invariant_of-self : goal.invariant_of-self
invariant_of-self g c =
    let records = c.self.inside.records in
    let new = c.hand_over_picked-visits.new.records in
    let seats = c.args.seats.now in
    let giver = c.args.giver in
    let taker = c.args.taker in
    let tied = subst (λ (r : Crossed Record). IsTied r seats) (sym c.self.view_is) c.requires.tied in
    still_layered c.self.inside.marks.items (lists_in records) (lists_in new)
    (λ j. handed_layered giver.t.0 taker.t.0 (g.P.Picks.picks c.args.picks.now j) (on (lists_in records) j) (on (lists_in new) j)
    (on_each records new seats (g.P.Picks.picks c.args.picks.now) giver.at giver.t taker.t tied c.laws-2.ensures.crossed c.requires.giver
    (λ d sat. c.laws.ensures.one giver.t giver.at d c.requires.giver sat) taker.at (hands_by records new (g.P.Picks.picks c.args.picks.now) taker.t giver.at taker.at c.column-from.result c.column.result c.column-from.ensures c.column.ensures c.hand_over_picked-visits.ensures.handed) j))
    c.self.invariant
