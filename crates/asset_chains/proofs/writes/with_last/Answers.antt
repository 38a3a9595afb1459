use Rattle.std.proofs.Common.{◌∙◌}
use Rattle.asset_chains.proofs.RowLemmas.{head_with_last}
use Rattle.asset_chains.proofs.writes.with_last.Goals as goal
use Rattle.asset_chains.proofs.writes.with_last.Goals.{then-head-eq0, else-head-eq0}

pub returns : goal.returns
returns c = λ keys k is stored.
    rw stored (head_with_last c.args.head keys k c.if-head-eq0.result is
    (λ none. elim c.if-head-eq0.branch [ then-head-eq0 w ↦ w.result-is ∙ stored | else-head-eq0 w ↦ absurd (w.if-head-eq0.false none) ])
    (λ some. elim c.if-head-eq0.branch [ then-head-eq0 w ↦ absurd (some w.if-head-eq0.true) | else-head-eq0 w ↦ w.result-is ]))
