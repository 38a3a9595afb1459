use Rattle.std.proofs.Common.{sym, ◌∙◌, append-nil}
use Rattle.asset_check.specs.Checking.{or_this}
use Rattle.asset_shell.proofs.AnsweringLemmas.{ask_said, asks_ask}
use Rattle.asset_shell.proofs.WholeLemmas.{none_first}
use Rattle.asset_shell.proofs.answering.Answerer.answer_said.Goals as goal

pub returns-in_ok-ask_step-clause-replies : goal.returns-in_ok-ask_step-clause-replies
returns-in_ok-ask_step-clause-replies c =
    let says = c.requires.says ∙ asks_ask c.args.said c.args.step.now (sym c.is_ask.ensures ∙ c.if-is_ask.true) in
    rw (ask_said c.args.self.now.session c.args.self.now.number c.args.line.now c.args.step.now says).0 c.in_ok-ask_step.ensures.replies

pub returns-in_ok-ask_step-clause-reasons : goal.returns-in_ok-ask_step-clause-reasons
returns-in_ok-ask_step-clause-reasons c =
    let says = c.requires.says ∙ asks_ask c.args.said c.args.step.now (sym c.is_ask.ensures ∙ c.if-is_ask.true) in
    rw (ask_said c.args.self.now.session c.args.self.now.number c.args.line.now c.args.step.now says).1 (sym (append-nil _))

pub returns-in_ok-ask_step-clause-session : goal.returns-in_ok-ask_step-clause-session
returns-in_ok-ask_step-clause-session c =
    let says = c.requires.says ∙ asks_ask c.args.said c.args.step.now (sym c.is_ask.ensures ∙ c.if-is_ask.true) in
    rw (ask_said c.args.self.now.session c.args.self.now.number c.args.line.now c.args.step.now says).2 c.in_ok-ask_step.ensures.session

pub returns-in_ok-ask_step-clause-bad : goal.returns-in_ok-ask_step-clause-bad
unfolding or_this
returns-in_ok-ask_step-clause-bad c =
    let says = c.requires.says ∙ asks_ask c.args.said c.args.step.now (sym c.is_ask.ensures ∙ c.if-is_ask.true) in
    rw (ask_said c.args.self.now.session c.args.self.now.number c.args.line.now c.args.step.now says).3 (c.in_ok-ask_step.ensures.bad ∙ sym (none_first _))
