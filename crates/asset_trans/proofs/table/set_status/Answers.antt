use Rattle.std.proofs.Common.{◌≡◌, None, sym, ◌∙◌, ap, is_some}
use Rattle.std.proofs.lemmas.Bool.{false≢true}
use Rattle.asset_trans.specs.TransRows.{row_in, status_in, status_or_unknown}
use Rattle.asset_trans.proofs.TransRowLemmas.{set_one, count_set}
use Rattle.asset_trans.proofs.table.set_status.Goals as goal

pub returns-in-Some-clause-before : goal.returns-in-Some-clause-before
unfolding status_in row_in status_or_unknown
returns-in-Some-clause-before c = ap status_or_unknown c.in-Some.ensures.value

pub returns-in-Some-clause-set : goal.returns-in-Some-clause-set
unfolding row_in
returns-in-Some-clause-set c =
    (c.get_mut.follows.holds _).0 ∙ set_one c.args.t c.args.status c.args.rows.now.entries c.in-Some.row.now c.in-Some.ensures.unique (sym c.in-Some.ensures.value)

pub returns-in-Some-clause-counted : goal.returns-in-Some-clause-counted
unfolding row_in
returns-in-Some-clause-counted c = λ f.
    let set = (c.get_mut.follows.holds _).0 ∙ set_one c.args.t c.args.status c.args.rows.now.entries c.in-Some.row.now c.in-Some.ensures.unique (sym c.in-Some.ensures.value) in
    rw set (count_set f c.args.t c.args.status c.args.rows.now.entries c.in-Some.row.now c.in-Some.ensures.unique (sym c.in-Some.ensures.value))

pub returns-in-None-clause-before : goal.returns-in-None-clause-before
unfolding status_in row_in status_or_unknown
returns-in-None-clause-before c = ap status_or_unknown (rw c.in-None.is at c.get_mut.ensures.value)

pub returns-in-None-clause-set : goal.returns-in-None-clause-set
unfolding row_in
returns-in-None-clause-set c =
    let none : row_in c.args.rows.now.entries c.args.t.0 ≡ None = sym (rw c.in-None.is at c.get_mut.ensures.value) in
    absurd (false≢true (sym (ap is_some none) ∙ c.requires.there))

pub returns-in-None-clause-counted : goal.returns-in-None-clause-counted
unfolding row_in
returns-in-None-clause-counted c =
    let none : row_in c.args.rows.now.entries c.args.t.0 ≡ None = sym (rw c.in-None.is at c.get_mut.ensures.value) in
    absurd (false≢true (sym (ap is_some none) ∙ c.requires.there))
