use Rattle.std.proofs.Common.{◌≡◌, ◌+◌, Bool, suc, cond, drop, ap, ◌∙◌, arith}
use Rattle.std.proofs.lemmas.Bool.{eq-eqb, ne_eqb}
use Rattle.std.proofs.lemmas.List.{drop_all}
use Rattle.asset_lanes.specs.Lanes.{row_of}
use Rattle.asset_lanes.proofs.RowLemmas.{row_next}
use Rattle.asset_lanes.proofs.rows.row_of.Goals as goal

pub returns-then-t-rows : goal.returns-then-t-rows
returns-then-t-rows c =
    let rows = c.args.rows.now in
    let here : row_of (drop c.rows.k rows) c.args.t.0 ≡ 0 =
    row_next rows c.rows.k c.args.t.0 c.rows-test.true ∙ ap (λ (b : Bool). cond b 0 (suc (row_of (drop (c.rows.k + 1) rows) c.args.t.0))) (eq-eqb _ _ c.if-t-rows.true) in
    omega (arith, c.rows.invariant, here)

pub rows-preserved : goal.rows-preserved
rows-preserved c =
    let rows = c.args.rows.now in
    let more : row_of (drop c.rows.k rows) c.args.t.0 ≡ suc (row_of (drop (c.rows.k + 1) rows) c.args.t.0) =
    row_next rows c.rows.k c.args.t.0 c.rows-test.true ∙ ap (λ (b : Bool). cond b 0 (suc (row_of (drop (c.rows.k + 1) rows) c.args.t.0))) (ne_eqb _ _ c.if-t-rows.false) in
    omega (arith, c.rows.invariant, more)

pub returns : goal.returns
unfolding row_of
returns c =
    let rows = c.args.rows.now in
    let none : row_of (drop c.rows.k rows) c.args.t.0 ≡ 0 = ap (λ l. row_of l c.args.t.0) (drop_all c.rows.k rows c.rows-test.false) in
    omega (arith, c.rows.invariant, none, c.rows.auto.k-end, c.rows-test.false)
