use Rattle.std.proofs.Common.{◌∙◌, ap}
use Rattle.std.proofs.lemmas.Result.{IfOk-weaker}
use Rattle.asset_buckets.specs.Bucketed.{buckets_of}
use Rattle.asset_serial.specs.Answered.{numbers_of, blocks_of}
use Rattle.asset_serial.proofs.blocks.buckets.Goals as goal

pub returns-clause-blocks : goal.returns-clause-blocks
unfolding blocks_of
returns-clause-blocks c =
    IfOk-weaker c.of.result _ _ (λ blocks is.
    is ∙ ap (λ l. buckets_of l c.len.result) (c.deref.ensures.value ∙ c.in_ok-numbers.ensures.numbers)
    ∙ ap (buckets_of (numbers_of c.args.names.now.keys c.args.history.now.entries)) c.len.ensures.len) c.of.ensures
