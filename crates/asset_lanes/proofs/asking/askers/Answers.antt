use Rattle.std.proofs.Common.{[], ◌∷◌, ◌++◌, map, reverse, take, sym, ◌∙◌, ap, inl, inr, arith}
use Rattle.std.proofs.lemmas.List.{length-reverse, take_all, map_more}
use Rattle.std.proofs.lemmas.Option.{slice_get_cases}
use Rattle.asset_lanes.specs.Uses.{asker_of, askers}
use Rattle.asset_lanes.proofs.asking.askers.Goals as goal

pub entries-preserved : goal.entries-preserved
entries-preserved c =
    let entries = reverse c.args.history.now.entries in
    let number = asker_of c.args.names.now.keys in
    let i = c.entries.i in
    elim (slice_get_cases entries i).1 [
      | inl here ↦
          c.in_ok-push.ensures.items ∙ ap (λ l. l ++ c.asker_at.result ∷ []) c.entries.invariant
          ∙ ap (λ n. map number (take i entries) ++ n ∷ []) (c.asker_at.ensures here.0 here.2 ∙ ap number (sym here.3))
          ∙ sym (map_more number entries i here.0 here.1)
      | inr past ↦ absurd (omega (arith, past.0, c.entries-test.true, c.len-i-end.ensures.len, length-reverse c.args.history.now.entries))
    ]

pub returns : goal.returns
unfolding askers
returns c =
    let entries = reverse c.args.history.now.entries in
    c.entries.invariant ∙ ap (map (asker_of c.args.names.now.keys)) (take_all c.entries.i entries (omega (arith, c.entries-test.false, c.len-i-end.ensures.len, length-reverse c.args.history.now.entries)))
