use Rattle.asset_names.specs.declared.statuses.End.TheVariants as End'
use Rattle.asset_names.specs.Counted.{counts_of}
use Rattle.asset_names.proofs.CountLemmas.{counts_grow, ended_most}
use Rattle.asset_laws.proofs.counting.counts_never_fall.Goals as goal

pub returns-clause-grown : goal.returns-clause-grown
returns-clause-grown c = λ entry older. counts_grow entry older

pub returns-clause-most : goal.returns-clause-most
unfolding counts_of
returns-clause-most c = λ entries. (ended_most End'.Committed entries, ended_most End'.Aborted entries)
