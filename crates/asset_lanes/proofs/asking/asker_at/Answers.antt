use Rattle.std.proofs.Common.{◌≡◌, ◌∙◌, ap, Some}
use Rattle.std.specs.Option.{option_map}
use Rattle.asset_names.specs.declared.names.Txn.{Txn}
use Rattle.asset_entries.specs.Acting.{both_of}
use Rattle.asset_lanes.specs.Uses.{index_in, asker_of}
use Rattle.asset_lanes.proofs.asking.asker_at.Goals as goal

pub returns-in-Some : goal.returns-in-Some
unfolding asker_of
returns-in-Some c = λ entry at.
    let both : Txn × Txn = (c.in-Some.t, c.in-Some.field-0-1) in
    let found : Some both ≡ Some (both_of entry) = c.in-Some.ensures ∙ ap (option_map both_of) at in
    let same : both ≡ both_of entry = cc in
    c.index_in.ensures ∙ ap (λ (t : Txn). index_in c.args.names.now.keys t.0) (ap (λ (p : Txn × Txn). p.0) same)
