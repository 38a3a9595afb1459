use Rattle.std.proofs.Common.{refl, sym, ◌∙◌, arith}
use Rattle.std.proofs.lemmas.Bool.{eqb-true}
use Rattle.asset_shell.specs.Sessions.{reason_for, reply_to}
use Rattle.asset_shell.specs.Talking.{kept}
use Rattle.asset_shell.proofs.CutLemmas.{ended_by, no_items, reason_cut, reply_cut, talk_of, whole_line}
use Rattle.asset_shell.proofs.conversation.Conversation.end_line.Goals as goal

pub returns-then-is_empty-clause-replies : goal.returns-then-is_empty-clause-replies
returns-then-is_empty-clause-replies c =
    let i = c.self.inside in
    let empty = no_items i.begun.items (omega (arith, i.begun.ok.0, eqb-true _ _ (sym c.is_empty.ensures ∙ c.if-is_empty.true))) in
    rw (← c.self.view_is, whole_line reply_to reply_cut (talk_of i.answerer.session i.answerer.number i.begun.items i.answerer.bad) c.args.bytes.now empty) c.in_ok-answer.ensures.replies

pub returns-then-is_empty-clause-reasons : goal.returns-then-is_empty-clause-reasons
returns-then-is_empty-clause-reasons c =
    let i = c.self.inside in
    let empty = no_items i.begun.items (omega (arith, i.begun.ok.0, eqb-true _ _ (sym c.is_empty.ensures ∙ c.if-is_empty.true))) in
    rw (← c.self.view_is, whole_line reason_for reason_cut (talk_of i.answerer.session i.answerer.number i.begun.items i.answerer.bad) c.args.bytes.now empty) c.in_ok-answer.ensures.reasons

pub returns-then-is_empty-clause-ended : goal.returns-then-is_empty-clause-ended
returns-then-is_empty-clause-ended c =
    let i = c.self.inside in
    let empty = no_items i.begun.items (omega (arith, i.begun.ok.0, eqb-true _ _ (sym c.is_empty.ensures ∙ c.if-is_empty.true))) in
    let now = c.in_ok-answer.ensures in
    rw (← c.self.view_is) (ended_by (talk_of i.answerer.session i.answerer.number i.begun.items i.answerer.bad) c.args.bytes.now _ _ _ _ empty now.session now.number refl now.bad)

pub end_begun-requires : goal.end_begun-requires
unfolding kept
end_begun-requires c = record { few = rw c.in_ok-hear_part.ensures.heard c.requires.few }
