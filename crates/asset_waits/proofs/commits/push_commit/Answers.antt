use Rattle.std.proofs.Common.{◌≡◌, ◌∙◌, ◌++◌, ℕ, List, flat_map, string_bytes, ap, append_assoc}
use Rattle.std.proofs.lemmas.Result.{on_ok_weaker}
use Rattle.asset_names.specs.Steps.{applied}
use Rattle.asset_core.specs.Pending.{Facility}
use Rattle.asset_waits.specs.Waiting.{unfinished_of, outside_sources_of}
use Rattle.asset_waits.specs.Texts.{unfinished_line, source_line, commit_text}
use Rattle.asset_waits.proofs.commits.push_commit.Goals as goal

pub returns-clause-text : goal.returns-clause-text
unfolding commit_text
returns-clause-text c =
    let t = c.args.t.0 in
    let text = string_bytes c.args.text.now in
    let steps = applied c.args.core.now.history.entries in
    let members : c.deref.result.now ≡ unfinished_of steps t = c.deref.ensures.value ∙ c.in_ok-unfinished.ensures.named in
    let sources : c.deref-2.result.now ≡ outside_sources_of steps t = c.deref-2.ensures.value ∙ c.in_ok-sources.ensures.named ∙ ap (λ (core : Facility). outside_sources_of (applied core.history.entries) t) c.in_ok-unfinished.ensures.same in
    on_ok_weaker c.push_keepers-2.result (λ more.
    more
    ∙ (λ m. (c.in_ok-push_keepers.ensures ∙ ap (λ (names : List ℕ). text ++ flat_map (unfinished_line t) names) members) m ++ flat_map (source_line t) (sources m))
    ∙ append_assoc text (flat_map (unfinished_line t) (unfinished_of steps t)) (flat_map (source_line t) (outside_sources_of steps t))) c.push_keepers-2.ensures
