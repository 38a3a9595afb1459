use Rattle.std.proofs.Common.{rules, ◌∙◌, sym, ap}
use Rattle.asset_names.specs.Counted.{counts_of}
use Rattle.asset_entries.specs.Recorded.{Recorded}
use Rattle.asset_manager.proofs.ServeLemmas.{wait_is_same, answer_counts, rises_from}
use Rattle.asset_manager.proofs.book.Book.ask.Goals as goal

pub publish-requires-clause-rises : goal.publish-requires-clause-rises
publish-requires-clause-rises c =
    rises_from _ _ _ _ c.self.invariant.1 (answer_counts _ _ _ _ (rw c.in-Ok-Answer.field-0-is at c.in-Ok-Answer.ensures)) (search rules)

pub invariant_of-self : goal.invariant_of-self
invariant_of-self c = search rules

pub returns-in-Ok-Answer-clause-asked : goal.returns-in-Ok-Answer-clause-asked
returns-in-Ok-Answer-clause-asked c = search rules

pub returns-in-Ok-Answer-clause-lists : goal.returns-in-Ok-Answer-clause-lists
returns-in-Ok-Answer-clause-lists c = search rules

pub invariant_of-self-in-Ok-Wait : goal.invariant_of-self-in-Ok-Wait
invariant_of-self-in-Ok-Wait c =
    (c.self.invariant.0, c.self.invariant.1 ∙ ap (λ (history : Recorded). counts_of history.entries) (sym (wait_is_same _ _ _ (rw c.in-Ok-Wait.field-0-is at c.in-Ok-Wait.ensures))))
