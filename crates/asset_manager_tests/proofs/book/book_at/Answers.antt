use Rattle.std.proofs.Common.{◌∙◌, sym, ap}
use Rattle.asset_names.specs.Counted.{counts_of}
use Rattle.asset_core.specs.Pending.{Facility}
use Rattle.asset_manager.proofs.ServeLemmas.{counts_of_none, opened_is_empty}
use Rattle.asset_manager_tests.proofs.book.book_at.Goals as goal

pub new-requires-clause-shown : goal.new-requires-clause-shown
new-requires-clause-shown c =
    c.requires.last ∙ sym (ap (λ (facility : Facility). counts_of facility.history.entries) c.in_ok-core.ensures ∙ ap counts_of (opened_is_empty _ _) ∙ counts_of_none)
