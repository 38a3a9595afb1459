use Rattle.std.proofs.Common.{◌∙◌, sym, ap}
use Rattle.asset_names.specs.Counted.{counts_of}
use Rattle.asset_manager.proofs.ServeLemmas.{counts_of_none}
use Rattle.asset_manager.proofs.manager.Manager.over.Goals as goal

pub new-requires-clause-shown : goal.new-requires-clause-shown
new-requires-clause-shown c = c.requires.by.1 ∙ sym (ap counts_of c.requires.empty ∙ counts_of_none)
