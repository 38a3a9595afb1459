use Rattle.std.proofs.Common.{ℕ, List, [], ◌∷◌, ◌++◌, Vec, Global, map, refl, ap, ◌∙◌}
use Rattle.std.proofs.lemmas.List.{map_push}
use Rattle.asset_buckets.specs.Bucketed.{no_buckets}
use Rattle.asset_buckets.proofs.BucketLemmas.{one_row_more}
use Rattle.asset_buckets.proofs.buckets.empty_rows.Goals as goal

abbrev indices : Vec ℕ Global → List ℕ
indices row = row.items

pub rows-init : goal.rows-init
unfolding no_buckets
rows-init c = rw c.new-rows.ensures.items refl

pub rows-preserved : goal.rows-preserved
rows-preserved c =
    ap (map indices) c.in_ok-push.ensures.items ∙ map_push indices c.rows.rows.items c.new.result
    ∙ ap (λ l. map indices c.rows.rows.items ++ l ∷ []) c.new.ensures.items
    ∙ ap (λ l. l ++ [] ∷ []) c.rows.invariant
    ∙ one_row_more c.rows._i
