use Rattle.std.proofs.Common.{sym, ◌∙◌}
use Rattle.asset_reasons.specs.Parts.{parts_left}
use Rattle.asset_reasons.proofs.PartLemmas.{parts_at, parts_end}
use Rattle.asset_reasons.proofs.parts.Parts.next.Goals as goal

pub returns-in-Some : goal.returns-in-Some
unfolding parts_left
returns-in-Some c =
    let fields = c.self.inside in
    sym c.self.view_is ∙ rw (c.if-self.false, c.split_at.ensures.front, c.split_at-in-Some.ensures.back) (parts_at fields.separator fields.rest.now c.in-Some.at (sym c.first_position.ensures ∙ c.in-Some.is))

pub returns-in-None : goal.returns-in-None
unfolding parts_left
returns-in-None c =
    let fields = c.self.inside in
    sym c.self.view_is ∙ rw c.if-self.false (parts_end fields.separator fields.rest.now (sym c.first_position.ensures ∙ c.in-None.is))
