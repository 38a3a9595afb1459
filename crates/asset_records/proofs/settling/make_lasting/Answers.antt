use Rattle.std.proofs.Common.{length, ap, ◌∙◌, w64, to_z, of_z}
use Rattle.slab.specs.Slab.{Slab, get, with_value}
use Rattle.asset_records.proofs.DropLemmas.{room_over}
use Rattle.asset_names.proofs.Common.{some_of}
use Rattle.asset_chains.specs.Chained.{Chained, home_of}
use Rattle.asset_records.proofs.SettleLemmas.{column_there}
use Rattle.asset_records.proofs.WalkLemmas.{moved_home, moved_many}
use Rattle.asset_records.specs.declared.records.Record.{Record}
use Rattle.asset_records.specs.declared.records.Record.TheVariants.{Lasting}
use Rattle.asset_records.proofs.settling.make_lasting.Goals as goal

pub move_to-requires-clause-line : goal.move_to-requires-clause-line
move_to-requires-clause-line c = column_there c.args.records.now c.args.key c.laws.ensures.crossed c.requires.there

pub returns-clause-homes : goal.returns-clause-homes
returns-clause-homes c = λ k.
    ap (λ (table : Chained). home_of table k) c.replace.ensures.columns
    ∙ moved_home c.args.records.now c.move_to.new.self c.args.key 0 c.laws.ensures.crossed (column_there c.args.records.now c.args.key c.laws.ensures.crossed c.requires.there) c.requires.there c.move_to.ensures.moved k

pub returns-clause-many : goal.returns-clause-many
returns-clause-many c =
    ap (λ (table : Chained). length table.chains) c.replace.ensures.columns
    ∙ moved_many c.args.records.now c.move_to.new.self c.args.key 0 c.laws.ensures.crossed (column_there c.args.records.now c.args.key c.laws.ensures.crossed c.requires.there) c.requires.there c.move_to.ensures.moved

pub returns-clause-room : goal.returns-clause-room
returns-clause-room c =
    let held = some_of (get c.args.records.now.items c.args.key) c.requires.there in
    let nobodys = Lasting (to_z w64 (of_z w64 c.args.amount)) in
    room_over c.args.records.now c.replace.new.self c.args.key held.0 nobodys held.1 (c.replace.ensures.items ∙ ap (λ (s : Slab Record). with_value s c.args.key nobodys) c.move_to.ensures.items)
