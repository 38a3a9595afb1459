use Rattle.std.proofs.Common.{◌<◌, ◌≤◌, ℕ, List, [], length, get_or, ◌∙◌, ap, arith}
use Rattle.std.proofs.lemmas.List.{take_all}
use Rattle.asset_serial.specs.Following.{entries_at, entries_in, followed_by}
use Rattle.asset_serial.proofs.FollowLemmas.{followed_none, part_follows, part_followed}
use Rattle.asset_serial.proofs.copying.copy_blocks.Goals as goal

pub numbers-init : goal.numbers-init
unfolding entries_in
numbers-init c = followed_none c.args.left.now

pub copy_block-requires : goal.copy_block-requires
unfolding entries_in
copy_block-requires c =
    let below : c.numbers.i < length c.args.blocks.now = omega (arith, c.numbers-test.true, c.count-i-end.ensures) in
    rw (c.numbers.invariant, c.bucket.ensures) (part_follows (entries_at c.args.history.now.entries) c.args.left.now c.args.blocks.now c.numbers.i [] below c.requires)

pub numbers-preserved : goal.numbers-preserved
unfolding entries_in
numbers-preserved c =
    let below : c.numbers.i < length c.args.blocks.now = omega (arith, c.numbers-test.true, c.count-i-end.ensures) in
    let add = entries_at c.args.history.now.entries in
    c.copy_block.ensures ∙ ap (λ b. followed_by c.numbers.left (add b)) c.bucket.ensures
    ∙ ap (λ h. followed_by h (add (get_or c.args.blocks.now c.numbers.i []))) c.numbers.invariant
    ∙ part_followed add c.args.left.now c.args.blocks.now c.numbers.i [] below

pub returns : goal.returns
returns c =
    let past : length c.args.blocks.now ≤ c.numbers.i = omega (arith, c.numbers-test.false, c.count-i-end.ensures) in
    c.numbers.invariant ∙ ap (λ (l : List (List ℕ)). followed_by c.args.left.now (entries_in c.args.history.now.entries l)) (take_all c.numbers.i c.args.blocks.now past)
