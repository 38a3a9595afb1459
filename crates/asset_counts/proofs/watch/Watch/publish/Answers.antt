use Rattle.std.proofs.Common.{rules, ap, ◌∙◌}
use Rattle.asset_counts.specs.declared.rule.Last.{Last}
use Rattle.asset_counts.proofs.Moves.{publishes, unpacked-packed}
use Rattle.asset_counts.proofs.watch.Watch.publish.Goals as goal

pub store-requires : goal.store-requires
store-requires c = (search rules, search rules, publishes _ _ c.args.counts _ _ c.by.invariant.0 (search rules) c.requires.fits (search rules))

pub returns-clause-last : goal.returns-clause-last
returns-clause-last c = ap (λ (l : Last). l.last) c.store.ensures.2.0 ∙ unpacked-packed c.args.counts c.requires.fits
