use Rattle.std.proofs.Common.{◌≡◌, ◌<◌, ℕ, List, [], ◌∷◌, ◌++◌, Vec, Global, length, get_or, set, map, sym, ap, ◌∙◌, arith}
use Rattle.std.proofs.lemmas.List.{map-set, get_or-map, length-map, set_past}
use Rattle.asset_buckets.proofs.buckets.add.Goals as goal

abbrev indices : Vec ℕ Global → List ℕ
indices row = row.items

pub returns-in_ok-push : goal.returns-in_ok-push
returns-in_ok-push c =
    let rows = c.args.rows.now.items in
    let n = c.args.number in
    let row = c.in-Some.row.now in
    let below : n < length rows = omega (arith, c.in-Some.ensures.item) in
    let is : row.items ≡ get_or (map indices rows) n [] = ap indices c.in-Some.ensures.value ∙ sym (get_or-map indices rows n row [] below) in
    map-set indices rows n c.push.new.self ∙ ap (set (map indices rows) n) (c.in_ok-push.ensures.items ∙ ap (λ l. l ++ c.args.index ∷ []) is)

pub returns-in_default : goal.returns-in_default
returns-in_default c =
    let rows = c.args.rows.now.items in
    sym (set_past (map indices rows) c.args.number _ (omega (arith, length-map rows indices, c.in_default.ensures.item)))
