use Rattle.std.proofs.Common.{refl, subst, sym, ◌∙◌, arith, inr}
use Rattle.asset_history.specs.Links.{IsIn}
use Rattle.asset_history.proofs.ChainLemmas.{known_reached, one_longer, room_is, longer_kept, longer_only, longer_has}
use Rattle.asset_history.proofs.users.with_other.Goals as goal

pub returns-clause-few : goal.returns-clause-few
returns-clause-few c = omega (arith, one_longer c.args.links.now c.add.new.self c.args.other c.args.chain c.add.ensures.added c.add.ensures.more c.requires.linked)

pub returns-clause-room : goal.returns-clause-room
returns-clause-room c = room_is c.args.links.now c.add.new.self c.args.other c.args.chain c.add.ensures.added c.add.ensures.more c.requires.linked

pub returns-clause-kept : goal.returns-clause-kept
returns-clause-kept c = λ k h. rw (c.add.ensures.longer) (longer_kept c.args.links.now c.add.new.self c.args.other c.args.chain c.add.ensures.added c.add.ensures.more c.requires.linked k h)

pub returns-clause-only : goal.returns-clause-only
returns-clause-only c = λ k h. longer_only c.args.links.now c.add.new.self c.args.other c.args.chain c.add.ensures.added c.add.ensures.more c.requires.linked k (subst (λ at. IsIn c.add.new.self.links at k) c.add.ensures.longer h)

pub returns-clause-reached : goal.returns-clause-reached
returns-clause-reached c =
    inr (c.args.other, rw (c.add.ensures.longer) (longer_has c.args.links.now c.add.new.self c.args.other c.args.chain c.add.ensures.added c.add.ensures.more c.requires.linked), refl)

pub returns-then-is_known-clause-reached : goal.returns-then-is_known-clause-reached
returns-then-is_known-clause-reached c = known_reached c.args.groups.now c.args.links.now.links c.args.node c.args.chain c.args.other (sym c.is_known.ensures ∙ c.if-is_known.true)
