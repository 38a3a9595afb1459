use Rattle.std.proofs.Common.{ap, ◌∙◌}
use Rattle.asset_grammar.specs.Lines.{first_line}
use Rattle.asset_grammar.specs.Sets.{list_of}
use Rattle.asset_grammar.specs.Words.{line_left}
use Rattle.asset_grammar.proofs.SetWordLemmas.{list_made, set_made}
use Rattle.asset_grammar.proofs.WordLemmas.{takes_mapped}
use Rattle.asset_grammar.proofs.words.Words.next_list.Goals as goal

pub returns-in_err-self-inside : goal.returns-in_err-self-inside
unfolding line_left
returns-in_err-self-inside c =
    let none = rw c.new-objects.ensures at c.in_err-self-inside.ensures in
    rw (c.from_residual.ensures, ← c.self.view_is, c.if-self.false) (list_made (first_line c.self.inside.rest.now) ∙ ap set_made none)

pub returns : goal.returns
unfolding line_left
returns c =
    let read = rw c.new-objects.ensures at c.in_ok-self-inside.ensures in
    rw (c.set_of_objects.ensures, c.as_slice.ensures.value, ← c.self.view_is, c.if-self.false, c.self-2.view_is)
    (takes_mapped list_of _ _ _ read.1 (list_made (first_line c.self.inside.rest.now) ∙ ap set_made read.0))
