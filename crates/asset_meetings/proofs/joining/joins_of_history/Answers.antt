use Rattle.std.proofs.Common.{◌≡◌, List, [], ◌∷◌, length, refl, sym, ◌∙◌, arith}
use Rattle.std.proofs.lemmas.Bool.{eqb-true}
use Rattle.asset_meetings.proofs.UserLemmas.{none_meet}
use Rattle.asset_meetings.proofs.joining.joins_of_history.Goals as goal

-- a list of length 0
empty_list : {A : Type 0} (xs : List A) → length xs ≡ 0 → xs ≡ []
empty_list [] none = refl
empty_list (x ∷ xs) none = absurd (omega (arith, none))

pub returns-then-is_empty : goal.returns-then-is_empty
returns-then-is_empty c =
    let opened = c.in_ok-opened.opened in
    let none = empty_list opened.items (omega (arith, opened.ok.0, eqb-true opened.len 0 (sym c.is_empty.ensures ∙ c.if-is_empty.true))) in
    c.new.ensures.items ∙ sym (none_meet c.args.history.now.entries (sym c.in_ok-opened.ensures ∙ none))
