use Rattle.std.proofs.Common.{arith}
use Rattle.asset_grammar.proofs.FirstLineLemmas.{ends_at_feed, ends_at_space, ends_with_text, word_goes_on}
use Rattle.asset_grammar.proofs.words.words_after.Goals as goal

pub returns-then-size-text-clause-ends : goal.returns-then-size-text-clause-ends
returns-then-size-text-clause-ends c = λ lacks. ends_with_text c.args.text.now c.args.size c.requires (omega arith) lacks

pub returns-then-text-size-eq32-clause-ends : goal.returns-then-text-size-eq32-clause-ends
returns-then-text-size-eq32-clause-ends c = λ lacks. rw c.split_at.ensures.back (ends_at_space c.args.text.now c.args.size (omega arith) (omega arith) lacks)

pub returns-then-text-size-eq10-clause-ends : goal.returns-then-text-size-eq10-clause-ends
returns-then-text-size-eq10-clause-ends c = λ lacks. rw c.split_at-then-text-size-eq10.ensures.back (ends_at_feed c.args.text.now c.args.size (omega arith) (omega arith) lacks)

pub returns-clause-goes_on : goal.returns-clause-goes_on
returns-clause-goes_on c = λ lacks. word_goes_on c.args.text.now c.args.size (omega arith) (λ space. absurd (omega (arith, space))) (λ feed. absurd (omega (arith, feed))) lacks
