use Rattle.std.proofs.Common.{◌≡◌, ◌-◌, [], length, take, drop, sym, subst, arith}
use Rattle.std.proofs.lemmas.List.{get_or_read}
use Rattle.asset_lists.specs.Parted.{Parted, AreKeys}
use Rattle.asset_lists.specs.Placed.{no_row, row_at}
use Rattle.asset_lists.proofs.PartLemmas.{keys_past, keys_front, keys_middle, keys_back, drop_whole}
use Rattle.asset_lists.proofs.table.KeyLists.keys.Goals as goal

pub returns-then-part-len : goal.returns-then-part-len
returns-then-part-len c = subst (λ (t : Parted). AreKeys t c.args.part []) c.self.view_is (keys_past c.self.inside.rows.items c.self.inside.places.items c.self.invariant c.args.part (omega arith))

pub returns-in-Front : goal.returns-in-Front
returns-in-Front c =
    let row = c.index-row.result.now in
    let keys = c.as_slice-keys.result.now in
    let read : row ≡ row_at c.self.inside.rows.items c.args.part.list = get_or_read c.self.inside.rows.items c.args.part.list row (omega arith) c.index-row.ensures no_row in
    subst (λ (t : Parted). AreKeys t c.args.part (take row.front keys)) c.self.view_is (keys_front c.self.inside.rows.items c.self.inside.places.items c.self.invariant c.args.part row read keys c.as_slice-keys.ensures c.in-Front.is)

pub returns-in-Middle : goal.returns-in-Middle
returns-in-Middle c =
    let row = c.index-row.result.now in
    let keys = c.as_slice-keys.result.now in
    let read : row ≡ row_at c.self.inside.rows.items c.args.part.list = get_or_read c.self.inside.rows.items c.args.part.list row (omega arith) c.index-row.ensures no_row in
    subst (λ (t : Parted). AreKeys t c.args.part (take (row.back - row.front) (drop row.front keys))) c.self.view_is
    (keys_middle c.self.inside.rows.items c.self.inside.places.items c.self.invariant c.args.part row read keys c.as_slice-keys.ensures c.in-Middle.is)

pub returns-in-Back : goal.returns-in-Back
returns-in-Back c =
    let row = c.index-row.result.now in
    let keys = c.as_slice-keys.result.now in
    let read : row ≡ row_at c.self.inside.rows.items c.args.part.list = get_or_read c.self.inside.rows.items c.args.part.list row (omega arith) c.index-row.ensures no_row in
    subst (λ (t : Parted). AreKeys t c.args.part (take (length keys - row.back) (drop row.back keys))) c.self.view_is
    (subst (AreKeys _ c.args.part) (sym (drop_whole row.back keys)) (keys_back c.self.inside.rows.items c.self.inside.places.items c.self.invariant c.args.part row read keys c.as_slice-keys.ensures c.in-Back.is))
