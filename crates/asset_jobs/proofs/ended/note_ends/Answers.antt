use Rattle.std.proofs.Common.{◌≡◌, ◌==◌, cond, Some, None, take, refl, sym, ◌∙◌, get_or}
use Rattle.std.proofs.lemmas.List.{take_more, take_all}
use Rattle.asset_names.specs.declared.names.Txn.{Txn}
use Rattle.asset_bodies.specs.declared.ends.JobEnd.{JobEnd}
use Rattle.asset_bodies.specs.declared.ends.JobEnd.TheVariants.{Committed}
use Rattle.asset_jobs.specs.Ended.{known_in, last_end}
use Rattle.asset_jobs.proofs.EndedLemmas.{last_more}
use Rattle.asset_jobs.proofs.ended.note_ends.Goals as goal

pub ends-init : goal.ends-init
unfolding known_in last_end
ends-init c = λ t. rw c.requires refl

pub ends-preserved : goal.ends-preserved
unfolding known_in
ends-preserved c = λ t.
    let ends = c.args.ends.now in
    let index = c.ends.end-index in
    let end : Txn × JobEnd = get_or ends index (record { 0 = 0 }, Committed) in
    let updated : known_in c.insert.new.self.entries t ≡ cond (end.0.0 == t.0) (Some c.text_of.result) (known_in c.ends.known.entries t) = c.in-Ok.ensures.updates.0 t in
    rw (take_more ends index (record { 0 = 0 }, Committed) c.ends-test.true)
    (updated ∙ (λ j. cond (end.0.0 == t.0) (Some (c.text_of.ensures j)) (c.ends.invariant t j)) ∙ sym (last_more (take index ends) end t None))

pub returns : goal.returns
returns c = λ t. rw (take_all c.ends.end-index c.args.ends.now c.ends-test.false) at (c.ends.invariant t)
