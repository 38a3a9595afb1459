use Rattle.std.proofs.Common.{◌≡◌, ◌++◌, [], List, ℕ, ◌<◌, get_or, sym, ap, ◌∙◌, append_assoc, append-nil, arith}
use Rattle.std.specs.Prelude.{flat_map}
use Rattle.std.specs.List.{range_with_len}
use Rattle.asset_lanes.specs.Lanes.{names_at, members_of, lane_names}
use Rattle.asset_names.proofs.MoreLemmas.{numbers_more}
use Rattle.asset_buckets.proofs.BucketLemmas.{bucket_at}
use Rattle.asset_lanes.proofs.rows.push_all.Goals as goal

pub groups-init : goal.groups-init
groups-init c = sym (append-nil c.args.rows.now.items)

pub groups-preserved : goal.groups-preserved
unfolding members_of
groups-preserved c =
    let groups = c.args.groups.now in
    let g = c.groups.g in
    let below : g < groups.count = omega (arith, c.groups-test.true, c.count-g-end.ensures) in
    let members = c.bucket.ensures ∙ ap (λ (l : List (List ℕ)). get_or l g []) c.requires ∙ bucket_at groups.numbers groups.count g below in
    c.in_ok-push_names.ensures
    ∙ ap (λ (l : List ℕ). c.groups.rows.items ++ names_at groups l) members
    ∙ ap (λ (l : List ℕ). l ++ members_of groups g) c.groups.invariant
    ∙ append_assoc c.args.rows.now.items (flat_map (members_of groups) (range_with_len 0 g)) (members_of groups g)
    ∙ ap (λ (l : List ℕ). c.args.rows.now.items ++ l) (sym (numbers_more (members_of groups) g))

pub returns : goal.returns
unfolding lane_names
returns c =
    let groups = c.args.groups.now in
    let whole : c.groups.g ≡ groups.count = omega (arith, c.groups-test.false, c.count-g-end.ensures) in
    c.groups.invariant ∙ ap (λ (n : ℕ). c.args.rows.now.items ++ flat_map (members_of groups) (range_with_len 0 n)) whole
