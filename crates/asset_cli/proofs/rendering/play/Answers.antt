use Rattle.std.proofs.Common.{[], ap, ◌∙◌, arith}
use Rattle.asset_scripts.specs.Transcript.{transcript}
use Rattle.asset_scripts.specs.Preamble.{Beginning, transcript_begun, transcript_from}
use Rattle.asset_cli.specs.Playing.{prints_for}
use Rattle.asset_grammar.specs.Lines.{lines}
use Rattle.asset_grammar.proofs.LineLemmas.{length-lines}
use Rattle.asset_scripts.proofs.PreambleLemmas.{begun_transcript}
use Rattle.asset_cli.proofs.rendering.play.Goals as goal

pub take_objects-requires-clause-few : goal.take_objects-requires-clause-few
take_objects-requires-clause-few c = omega (arith, length-lines c.args.bytes.now, c.requires.limit)

pub play_from-requires-clause-few : goal.play_from-requires-clause-few
play_from-requires-clause-few c = omega (arith, length-lines c.args.bytes.now, c.requires.limit, c.in-Ok.ensures.few)

pub returns-in-Ok-clause-played : goal.returns-in-Ok-clause-played
unfolding transcript transcript_from
returns-in-Ok-clause-played c =
    let prints = prints_for c.args.work in
    let rendered = begun_transcript prints (lines c.args.bytes.now) 1 [] c.args.capacity ∙ ap (λ (b : Beginning). transcript_begun prints b c.args.capacity) c.in-Ok.ensures.begun in
    rw rendered (rw (c.deref.ensures.value, c.into_pairs.ensures) at c.play_from.ensures.played)
