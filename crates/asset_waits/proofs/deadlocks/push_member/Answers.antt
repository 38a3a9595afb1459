use Rattle.std.proofs.Common.{◌≡◌, ◌<◌, ◌≤◌, Some, length, slice_get, string_bytes, refl, sym, append-nil}
use Rattle.std.proofs.lemmas.Bool.{ltb-true, ltb-false}
use Rattle.std.proofs.lemmas.Option.{slice_get_read, slice_get_past}
use Rattle.asset_waits.specs.Words.{name_word}
use Rattle.asset_waits.specs.Texts.{member_word}
use Rattle.asset_waits.proofs.deadlocks.push_member.Goals as goal

pub returns-in-Some : goal.returns-in-Some
unfolding member_word name_word
returns-in-Some c =
    let names = c.args.names.now in
    let below : c.args.place < length names = ltb-true _ _ (sym c.in-Some.ensures.lookup.0) in
    let at : slice_get names c.args.place ≡ Some c.in-Some.n.now = slice_get_read names (length names) c.args.place c.in-Some.n.now refl below c.in-Some.ensures.lookup.1 in
    rw at c.write.ensures.bytes

pub returns-in-None : goal.returns-in-None
unfolding member_word name_word
returns-in-None c =
    let names = c.args.names.now in
    let past : length names ≤ c.args.place = ltb-false _ _ (sym c.in-None.ensures.lookup.0) in
    rw (slice_get_past names c.args.place past) (sym (append-nil (string_bytes c.args.text.now)))
