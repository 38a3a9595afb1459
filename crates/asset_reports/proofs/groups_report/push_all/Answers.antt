use Rattle.std.proofs.Common.{◌≡◌, ◌++◌, [], List, ℕ, ◌<◌, get_or, string_bytes, sym, ap, ◌∙◌, append_assoc, arith}
use Rattle.std.specs.Prelude.{flat_map}
use Rattle.std.specs.List.{range_with_len}
use Rattle.asset_reports.specs.Groups.{group_line, group_text, all_groups_text}
use Rattle.asset_names.proofs.MoreLemmas.{numbers_more}
use Rattle.asset_buckets.proofs.BucketLemmas.{bucket_at}
use Rattle.asset_reports.proofs.groups_report.push_all.Goals as goal

pub groups-preserved : goal.groups-preserved
unfolding group_line
groups-preserved c =
    let groups = c.args.groups.now in
    let g = c.groups.g in
    let below : g < groups.count = omega (arith, c.groups-test.true, c.count-g-end.ensures) in
    let members = c.bucket.ensures ∙ ap (λ (l : List (List ℕ)). get_or l g []) c.requires ∙ bucket_at groups.numbers groups.count g below in
    c.in_ok-push_group.ensures
    ∙ ap (λ (l : List ℕ). string_bytes c.groups.text ++ group_text groups g l) members
    ∙ ap (λ (l : List ℕ). l ++ group_line groups g) c.groups.invariant
    ∙ append_assoc (string_bytes c.args.text.now) (flat_map (group_line groups) (range_with_len 0 g)) (group_line groups g)
    ∙ ap (λ (l : List ℕ). string_bytes c.args.text.now ++ l) (sym (numbers_more (group_line groups) g))

pub returns : goal.returns
unfolding all_groups_text
returns c =
    let groups = c.args.groups.now in
    let whole : c.groups.g ≡ groups.count = omega (arith, c.groups-test.false, c.count-g-end.ensures) in
    c.groups.invariant ∙ ap (λ (n : ℕ). string_bytes c.args.text.now ++ flat_map (group_line groups) (range_with_len 0 n)) whole
