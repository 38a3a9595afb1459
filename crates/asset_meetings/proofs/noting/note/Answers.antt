use Rattle.std.proofs.Common.{◌≡◌, nat_eq, not, true, false, sym, refl, ap, ◌∙◌, Some, None, Bor}
use Rattle.std.specs.Prelude.{Option, is_some, option_copied}
use Rattle.std.proofs.lemmas.Bool.{false≢true}
use Rattle.indexmap.specs.IndexMap.{get}
use Rattle.asset_meetings.proofs.UserLemmas.{noted_new, noted_old}
use Rattle.asset_meetings.proofs.noting.note.Goals as goal

-- whether there is a copy
copied_none : {A : Type 0} (found : Option (Bor A)) → is_some found ≡ false → option_copied found ≡ None
copied_none None none = refl
copied_none (Some x) none = absurd (false≢true (sym none))

copied_some : {A : Type 0} (found : Option (Bor A)) → is_some found ≡ true → is_some (option_copied found) ≡ true
copied_some None there = absurd (false≢true there)
copied_some (Some x) there = refl

pub returns-in_ok-insert : goal.returns-in_ok-insert
returns-in_ok-insert c = λ y.
    let none = copied_none c.get.result (c.is_none.ensures ∙ ap not c.if-is_none.true) in
    c.in_ok-insert.ensures.updates.0 y ∙ noted_new (get nat_eq c.args.noted.now) c.args.used y (sym c.get.ensures.value ∙ none)

pub returns-else-is_none : goal.returns-else-is_none
returns-else-is_none c = λ y.
    let some = copied_some c.get.result (c.is_none.ensures ∙ ap not c.if-is_none.false) in
    noted_old (get nat_eq c.args.noted.now) c.args.used y (ap is_some (sym c.get.ensures.value) ∙ some)
