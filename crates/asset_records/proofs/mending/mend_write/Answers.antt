use Rattle.std.proofs.Common.{◌≡◌, ℕ, None, sym, ap, ◌∙◌}
use Rattle.std.specs.Prelude.{Option}
use Rattle.slab.specs.Slab.{Slab, get, slab_len}
use Rattle.asset_records.specs.declared.records.Record.{Record}
use Rattle.std.specs.Option.{option_map}
use Rattle.asset_records.specs.Mended.{mended_record}
use Rattle.asset_records.specs.Dropped.{mended_at, left_to_mend}
use Rattle.asset_records.proofs.DropLemmas.{mended_is, mended_none, count_kept, room_over}
use Rattle.asset_records.proofs.mending.mend_write.Goals as goal

pub returns-in_default-clause-records : goal.returns-in_default-clause-records
unfolding mended_at
returns-in_default-clause-records c = λ k. sym (ap (λ (o : Option ℕ). mended_at c.args.records.now.items o c.args.mend k) c.in_default.is)

pub returns-in_default-clause-left : goal.returns-in_default-clause-left
unfolding left_to_mend
returns-in_default-clause-left c = sym (ap (λ (o : Option ℕ). left_to_mend o c.args.mend) c.in_default.is)

pub returns-in-Some-copied-clause-records : goal.returns-in-Some-copied-clause-records
returns-in-Some-copied-clause-records c = λ k.
    ap (λ (s : Slab Record). get s k) c.replace.ensures.items
    ∙ mended_is c.args.records.now.items c.in-Some.next c.args.mend c.in-Some-copied.one c.mended.result (sym c.get.ensures ∙ sym c.in-Some-copied.ensures) (sym c.mended.ensures) k
    ∙ sym (ap (λ (o : Option ℕ). mended_at c.args.records.now.items o c.args.mend k) c.in-Some.is)

pub returns-in-Some-copied-clause-left : goal.returns-in-Some-copied-clause-left
unfolding left_to_mend
returns-in-Some-copied-clause-left c = sym (ap (λ (o : Option ℕ). left_to_mend o c.args.mend) c.in-Some.is)

pub returns-in-Some-copied-clause-len : goal.returns-in-Some-copied-clause-len
returns-in-Some-copied-clause-len c = ap (λ (s : Slab Record). slab_len s) c.replace.ensures.items ∙ count_kept c.args.records.now.items.slots c.in-Some.next c.in-Some-copied.one _ (sym c.get.ensures ∙ sym c.in-Some-copied.ensures)

pub returns-in-Some-copied-clause-room : goal.returns-in-Some-copied-clause-room
returns-in-Some-copied-clause-room c = room_over c.args.records.now c.replace.new.self c.in-Some.next c.in-Some-copied.one _ (sym c.get.ensures ∙ sym c.in-Some-copied.ensures) c.replace.ensures.items

pub returns-in_default-copied-clause-records : goal.returns-in_default-copied-clause-records
returns-in_default-copied-clause-records c = λ k.
    let none : get c.args.records.now.items c.in-Some.next ≡ None = sym c.get.ensures ∙ sym c.in_default-copied.ensures in
    mended_none c.args.records.now.items c.in-Some.next c.args.mend (ap (option_map (mended_record c.args.mend)) none ∙ sym none) k
    ∙ sym (ap (λ (o : Option ℕ). mended_at c.args.records.now.items o c.args.mend k) c.in-Some.is)

pub returns-in_default-copied-clause-left : goal.returns-in_default-copied-clause-left
unfolding left_to_mend
returns-in_default-copied-clause-left c = sym (ap (λ (o : Option ℕ). left_to_mend o c.args.mend) c.in-Some.is)
