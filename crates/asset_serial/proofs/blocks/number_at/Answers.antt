use Rattle.std.proofs.Common.{◌≡◌, ◌∙◌, ap, eqb, Some}
use Rattle.std.specs.List.{position_or_len}
use Rattle.std.specs.Option.{option_map}
use Rattle.asset_names.specs.declared.names.Txn.{Txn}
use Rattle.asset_entries.specs.Acting.{both_of}
use Rattle.asset_serial.specs.Answered.{number_of}
use Rattle.asset_serial.proofs.blocks.number_at.Goals as goal

pub returns-in-Some : goal.returns-in-Some
unfolding number_of
returns-in-Some c = λ entry at.
    let both : Txn × Txn = (c.in-Some.t, c.in-Some.field-0-1) in
    let found : Some both ≡ Some (both_of entry) = c.in-Some.ensures ∙ ap (option_map both_of) at in
    let same : both ≡ both_of entry = cc in
    let number = ap (λ (t : Txn). position_or_len (eqb t.0) c.args.names.now.keys) (ap (λ (p : Txn × Txn). p.0) same) in
    cc (c.index_of.ensures, number)
