use Rattle.std.proofs.Common.{string_bytes, sym, append-nil}
use Rattle.asset_waits.specs.Texts.{member_word, members_text}
use Rattle.asset_names.proofs.MoreLemmas.{text_more}
use Rattle.asset_waits.proofs.deadlocks.push_members.Goals as goal

pub places-init : goal.places-init
unfolding members_text
places-init c = sym (append-nil (string_bytes c.args.text.now))

pub places-preserved : goal.places-preserved
unfolding members_text
places-preserved c =
    text_more (member_word c.args.names.now) c.args.places.now c.places.place-index _ (string_bytes c.args.text.now) (string_bytes c.places.text) _ c.places-test.true c.places.invariant c.in_ok-push_member.ensures
