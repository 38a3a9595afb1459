use Rattle.std.proofs.Common.{ℕ, ◌+◌, ◌∷◌, length, take, drop, sym, ap, ◌∙◌, arith}
use Rattle.std.proofs.lemmas.List.{length-append}
use Rattle.asset_grammar.proofs.LineLemmas.{cut_at_position, lacks_without_position}
use Rattle.asset_shell.specs.Sessions.{reason_for, reply_to}
use Rattle.asset_shell.proofs.TalkLemmas.{few_after, hear_end_step, hear_step, heard_end_step, heard_step}
use Rattle.asset_shell.proofs.conversation.Conversation.hear.Goals as goal

pub end_line-requires-clause-one : goal.end_line-requires-clause-one
end_line-requires-clause-one c =
    let cut = cut_at_position 10 c.lines.rest.now c.in-Some.at (sym c.feed_position.ensures ∙ c.in-Some.is) in
    rw c.split_at.ensures.front cut.first

pub end_line-requires-clause-few : goal.end_line-requires-clause-few
end_line-requires-clause-few c =
    let cut = cut_at_position 10 c.lines.rest.now c.in-Some.at (sym c.feed_position.ensures ∙ c.in-Some.is) in
    omega (arith, c.lines.invariant.few, c.requires, ap length cut.whole, length-append {A = ℕ})

pub lines-preserved : goal.lines-preserved
lines-preserved c =
    let r = c.lines.rest.now in
    let cut = cut_at_position 10 r c.in-Some.at (sym c.feed_position.ensures ∙ c.in-Some.is) in
    let replied = rw c.split_at.ensures.front at c.in_ok-end_line.ensures.replies in
    let reasoned = rw c.split_at.ensures.front at c.in_ok-end_line.ensures.reasons in
    let ended = rw c.split_at.ensures.front at c.in_ok-end_line.ensures.ended in
    let after = few_after c.lines.self _ (take c.in-Some.at r) ended in
    record {
      replies = rw c.split_at-in-Some.ensures.back (hear_step reply_to _ _ _ c.lines.self _ r (take c.in-Some.at r) (drop (c.in-Some.at + 1) r) c.lines.invariant.replies cut.whole cut.first c.lines.invariant.short replied ended);
      reasons = rw c.split_at-in-Some.ensures.back (hear_step reason_for _ _ _ c.lines.self _ r (take c.in-Some.at r) (drop (c.in-Some.at + 1) r) c.lines.invariant.reasons cut.whole cut.first c.lines.invariant.short reasoned ended);
      heard = rw c.split_at-in-Some.ensures.back (heard_step _ c.lines.self _ r (take c.in-Some.at r) (drop (c.in-Some.at + 1) r) c.lines.invariant.heard cut.whole cut.first c.lines.invariant.short ended);
      few = rw c.split_at-in-Some.ensures.back (omega (arith, c.lines.invariant.few, after.1, ap length cut.whole, length-append (take c.in-Some.at r) (10 ∷ drop (c.in-Some.at + 1) r)));
      short = after.0;
    }

pub hear_part-requires : goal.hear_part-requires
hear_part-requires c = record { one = lacks_without_position 10 c.lines.rest.now (sym c.feed_position.ensures ∙ c.in_default.is) }

pub returns-clause-replies : goal.returns-clause-replies
returns-clause-replies c = hear_end_step reply_to _ _ _ c.lines.rest.now c.lines.invariant.replies (lacks_without_position 10 c.lines.rest.now (sym c.feed_position.ensures ∙ c.in_default.is))

pub returns-clause-reasons : goal.returns-clause-reasons
returns-clause-reasons c = hear_end_step reason_for _ _ _ c.lines.rest.now c.lines.invariant.reasons (lacks_without_position 10 c.lines.rest.now (sym c.feed_position.ensures ∙ c.in_default.is))

pub returns-clause-heard : goal.returns-clause-heard
returns-clause-heard c = heard_end_step _ _ _ c.lines.rest.now c.lines.invariant.heard (lacks_without_position 10 c.lines.rest.now (sym c.feed_position.ensures ∙ c.in_default.is)) c.lines.invariant.short c.in_ok-hear_part.ensures.heard
