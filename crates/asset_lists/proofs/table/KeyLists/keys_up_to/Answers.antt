use Rattle.std.proofs.Common.{◌≡◌, [], take, subst, arith}
use Rattle.std.proofs.lemmas.List.{get_or_read}
use Rattle.asset_lists.specs.Parted.{Parted, AreKeysUpTo}
use Rattle.asset_lists.specs.Placed.{no_row, row_at}
use Rattle.asset_lists.proofs.PartLemmas.{no_keys_past, first_front, first_middle, first_back}
use Rattle.asset_lists.proofs.table.KeyLists.keys_up_to.Goals as goal

pub returns-then-last-len : goal.returns-then-last-len
returns-then-last-len c = subst (λ (t : Parted). AreKeysUpTo t c.args.last []) c.self.view_is (no_keys_past c.self.inside.rows.items c.self.inside.places.items c.self.invariant c.args.last (omega arith))

pub returns-in-Front : goal.returns-in-Front
returns-in-Front c =
    let row = c.index-row.result.now in
    let keys = c.as_slice-keys.result.now in
    let read : row ≡ row_at c.self.inside.rows.items c.args.last.list = get_or_read c.self.inside.rows.items c.args.last.list row (omega arith) c.index-row.ensures no_row in
    subst (λ (t : Parted). AreKeysUpTo t c.args.last (take row.front keys)) c.self.view_is (first_front c.self.inside.rows.items c.self.inside.places.items c.self.invariant c.args.last row read keys c.as_slice-keys.ensures c.in-Front.is)

pub returns-in-Middle : goal.returns-in-Middle
returns-in-Middle c =
    let row = c.index-row.result.now in
    let keys = c.as_slice-keys.result.now in
    let read : row ≡ row_at c.self.inside.rows.items c.args.last.list = get_or_read c.self.inside.rows.items c.args.last.list row (omega arith) c.index-row.ensures no_row in
    subst (λ (t : Parted). AreKeysUpTo t c.args.last (take row.back keys)) c.self.view_is (first_middle c.self.inside.rows.items c.self.inside.places.items c.self.invariant c.args.last row read keys c.as_slice-keys.ensures c.in-Middle.is)

pub returns-in-Back : goal.returns-in-Back
returns-in-Back c =
    let row = c.index-row.result.now in
    let keys = c.as_slice-keys.result.now in
    let read : row ≡ row_at c.self.inside.rows.items c.args.last.list = get_or_read c.self.inside.rows.items c.args.last.list row (omega arith) c.index-row.ensures no_row in
    subst (λ (t : Parted). AreKeysUpTo t c.args.last keys) c.self.view_is (first_back c.self.inside.rows.items c.self.inside.places.items c.self.invariant c.args.last row read keys c.as_slice-keys.ensures c.in-Back.is)
