use Rattle.std.proofs.Common.{Some, None, [], ◌∷◌, refl, sym, ap, ◌∙◌, arith}
use Rattle.asset_names.specs.declared.names.Ob.{Ob}
use Rattle.asset_grammar.specs.Lines.{first_line}
use Rattle.asset_grammar.specs.Sets.{all_of, list_of, one_more_object, set_of}
use Rattle.asset_grammar.specs.Words.{line_left}
use Rattle.asset_grammar.proofs.FirstLineLemmas.{get_same, no_number_first}
use Rattle.asset_grammar.proofs.SetWordLemmas.{all_read, ends_set, list_made, listed_read, no_objects, one_listed, set_made}
use Rattle.asset_grammar.proofs.WordLemmas.{takes_same}
use Rattle.asset_grammar.proofs.words.Words.next_set.Goals as goal

pub returns-then-has_at : goal.returns-then-has_at
unfolding line_left
returns-then-has_at c =
    let text = c.self.inside.rest.now in
    takes_same set_of all_of _ _ c.next_all.result
    (rw (← c.self.view_is, c.if-self.false) (all_read (first_line text) (get_same 97 text 0 (omega arith) refl refl ∙ sym c.has_at.ensures.is ∙ c.if-has_at.true)))
    c.next_all.ensures

-- a word that does not begin with `a` lists its objects
pub returns-in_err-number : goal.returns-in_err-number
unfolding line_left
returns-in_err-number c =
    let text = c.self.inside.rest.now in
    let other = get_same 97 text 0 (omega arith) refl refl ∙ sym c.has_at.ensures.is ∙ c.if-has_at.false in
    rw (c.from_residual.ensures, ← c.self.view_is, c.if-self.false)
    (listed_read (first_line text) other ∙ list_made (first_line text) ∙ ap set_made (no_objects [] (first_line text) (no_number_first text c.in_err-number.ensures)))

pub returns-then-has_at-2 : goal.returns-then-has_at-2
unfolding line_left
returns-then-has_at-2 c =
    let text = c.self.inside.rest.now in
    let other = get_same 97 text 0 (omega arith) refl refl ∙ sym c.has_at.ensures.is ∙ c.if-has_at.false in
    takes_same set_of list_of _ _ c.next_list.result (rw (← c.self.view_is, c.if-self.false) (listed_read (first_line text) other)) c.next_list.ensures

pub returns-in_err-after : goal.returns-in_err-after
unfolding line_left one_more_object
returns-in_err-after c =
    let text = c.self.inside.rest.now in
    let other = get_same 97 text 0 (omega arith) refl refl ∙ sym c.has_at.ensures.is ∙ c.if-has_at.false in
    let number = c.in_ok-number.number in
    let read = ends_set [] (record { 0 = number } ∷ []) text number c.in_ok-number.size None c.in_ok-number.ensures refl (sym c.has_at-2.ensures.is ∙ c.if-has_at-2.false) tt c.in_err-after.ensures.goes_on in
    rw (c.from_residual-in_err-after.ensures, ← c.self.view_is, c.if-self.false) (listed_read (first_line text) other ∙ list_made (first_line text) ∙ ap set_made read)

pub returns : goal.returns
unfolding line_left one_more_object
returns c =
    let text = c.self.inside.rest.now in
    let other = get_same 97 text 0 (omega arith) refl refl ∙ sym c.has_at.ensures.is ∙ c.if-has_at.false in
    let x : Ob = record { 0 = c.in_ok-number.number } in
    let read = ends_set [] (x ∷ []) text x.0 c.in_ok-number.size (Some _) c.in_ok-number.ensures refl (sym c.has_at-2.ensures.is ∙ c.if-has_at-2.false) c.in_ok-after.ensures.ends tt in
    rw (c.one.ensures, ← c.self.view_is, c.if-self.false) (
      listed_read (first_line text) other ∙ list_made (first_line text) ∙ ap set_made read.0 ∙ rw (one_listed x, c.after.view_is) refl,
      ap (λ left. left.tail) c.after.view_is ∙ read.1,
    )
