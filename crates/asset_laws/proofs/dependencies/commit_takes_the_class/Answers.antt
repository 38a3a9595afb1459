use Rattle.asset_laws.proofs.ClassLemmas.{takes_class, ends_committed}
use Rattle.asset_laws.proofs.dependencies.commit_takes_the_class.Goals as goal

pub returns-clause-class : goal.returns-clause-class
returns-clause-class c = λ t steps n alive. takes_class t steps n alive

pub returns-clause-committed : goal.returns-clause-committed
returns-clause-committed c = λ t steps n. ends_committed t steps n
