use Rattle.std.proofs.Common.{List, ◌∷◌, cond, reverse, take, ◌∙◌, sym, ap, arith, inl, inr}
use Rattle.std.proofs.lemmas.List.{length-reverse, length-take}
use Rattle.std.proofs.lemmas.Option.{slice_get_cases}
use Rattle.asset_names.specs.Steps.{Entry}
use Rattle.asset_names.specs.Groups.{kept}
use Rattle.asset_entries.specs.Recorded.{Recorded, opened, answer_to, with_entry}
use Rattle.asset_deletion.specs.Going.{keeps}
use Rattle.asset_deletion.proofs.WithoutLemmas.{answer_left, kept_next, kept_few}
use Rattle.asset_deletion.proofs.deleting.copy_staying.Goals as goal
use Rattle.asset_deletion.proofs.deleting.copy_staying.Goals.{then-stays_at, else-stays_at}

pub entries-init : goal.entries-init
unfolding opened kept
entries-init c = c.requires.empty

pub append_from-requires-clause-answer : goal.append_from-requires-clause-answer
unfolding answer_to
append_from-requires-clause-answer c = λ entry at.
    rw (c.entries.invariant)
    (answer_left c.args.history.now.opening c.args.history.now.entries c.args.groups.now c.args.going.now.items c.requires.says c.len-i-end.ensures.legal c.entries.i entry at (sym (c.stays_at.ensures entry at) ∙ c.if-stays_at.true))

pub append_from-requires-clause-room : goal.append_from-requires-clause-room
append_from-requires-clause-room c =
    let entries = reverse c.args.history.now.entries in
    let few = kept_few (keeps c.args.groups.now c.args.going.now.items) (reverse (take c.entries.i entries)) in
    rw (c.entries.invariant)
    (omega (arith, few, length-reverse (take c.entries.i entries), length-take c.entries.i entries, c.entries-test.true, c.len-i-end.ensures.len, c.len-i-end.ensures.within, length-reverse c.args.history.now.entries))

pub entries-preserved : goal.entries-preserved
unfolding with_entry
entries-preserved c =
    let all = c.args.history.now.entries in
    let entries = reverse all in
    let i = c.entries.i in
    let keep = keeps c.args.groups.now c.args.going.now.items in
    let older : List Entry = kept keep (reverse (take i entries)) in
    elim (slice_get_cases entries i).1 [
      | inl here ↦
          let next = kept_next keep entries i here.0 here.2 in
          elim c.if-stays_at.branch [
            | then-stays_at w ↦
                let stays = sym (c.stays_at.ensures here.0 here.2) ∙ w.if-stays_at.true in
                rw (w.left-is)
                (w.append_from.ensures here.0 here.2 ∙ ap (λ (h : Recorded). with_entry h here.0.0 here.0.1) c.entries.invariant
                ∙ ap (λ (l : List Entry). record c.args.history.now { entries = l }) (sym (next ∙ ap (λ b. cond b (here.0 ∷ older) older) stays)))
            | else-stays_at w ↦
                let goes = sym (c.stays_at.ensures here.0 here.2) ∙ w.if-stays_at.false in
                rw (w.left-is) (c.entries.invariant ∙ ap (λ (l : List Entry). record c.args.history.now { entries = l }) (sym (next ∙ ap (λ b. cond b (here.0 ∷ older) older) goes)))
          ]
      | inr past ↦ absurd (omega (arith, past.0, c.entries-test.true, c.len-i-end.ensures.len, length-reverse all))
    ]
