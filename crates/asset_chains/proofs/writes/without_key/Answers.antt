use Rattle.asset_chains.proofs.RowLemmas.{head_without}
use Rattle.asset_chains.proofs.writes.without_key.Goals as goal
use Rattle.asset_chains.proofs.writes.without_key.Goals.{then-link-eq0, else-link-eq0, then-link-eq0-2, else-link-eq0-2}

pub returns : goal.returns
returns c = λ front back k is before after.
    head_without c.args.head front back k c.args.link.before c.args.link.after c.if-link-eq0.result c.if-link-eq0-2.result is before after
    (λ none. elim c.if-link-eq0.branch [ then-link-eq0 w ↦ w.result-is | else-link-eq0 w ↦ absurd (w.if-link-eq0.false none) ])
    (λ some. elim c.if-link-eq0.branch [ then-link-eq0 w ↦ absurd (some w.if-link-eq0.true) | else-link-eq0 w ↦ w.result-is ])
    (λ none. elim c.if-link-eq0-2.branch [ then-link-eq0-2 w ↦ w.result-is | else-link-eq0-2 w ↦ absurd (w.if-link-eq0-2.false none) ])
    (λ some. elim c.if-link-eq0-2.branch [ then-link-eq0-2 w ↦ absurd (some w.if-link-eq0-2.true) | else-link-eq0-2 w ↦ w.result-is ])
