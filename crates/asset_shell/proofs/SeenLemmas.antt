-- What later lines depend on, and the reasons of bad lines.
use Rattle.std.proofs.Common.{◌≡◌, ℕ, ◌+◌, List, [], ◌∷◌, inl, inr, refl}
use Rattle.std.specs.Prelude.{ℤ}
use Rattle.std.proofs.lemmas.Bool.{cases_Bool}
use Rattle.asset_names.specs.declared.names.Ob.{Ob}
use Rattle.asset_names.specs.Operations.{exists}
use Rattle.asset_grammar.specs.declared.grammar.Command.TheVariants.{Object, Ask}
use Rattle.asset_grammar.specs.declared.grammar.Line.{Line}
use Rattle.asset_grammar.specs.declared.grammar.Line.TheVariants.{Blank, Command, Bad}
use Rattle.asset_grammar.specs.Grammar.{line_of}
use Rattle.asset_check.specs.Checked.{check_lines, seen_by, seen_object}
use Rattle.asset_shell.specs.Sessions.{Session, reason_for, said_of_each, session_seen, session_after, session_by, with_object}

seen_with : (s : Session) (given : Ob × ℤ) → seen_object (session_seen s) given ≡ session_seen (with_object s given)
unfolding seen_object session_seen with_object
seen_with s given = elim (cases_Bool s.stepped) [
  | inl after ↦ simp after
  | inr before ↦ elim (cases_Bool (exists s.history.opening given.0.0)) [
    | inl there ↦ simp (before, there)
    | inr new ↦ simp (before, new)
  ]
]

pub seen_step : (s : Session) (said : Line) → seen_by (session_seen s) said ≡ session_seen (session_by s said)
unfolding seen_by session_by session_seen
seen_step s Blank = refl
seen_step s (Command (Ask step)) = refl
seen_step s (Command (Object given)) = seen_with s given
seen_step s Bad = refl

pub reasons_each : (ls : List (List ℕ)) (n : ℕ) (s : Session) → check_lines ls n (session_seen s) ≡ said_of_each reason_for ls n s
unfolding check_lines said_of_each reason_for session_after
reasons_each [] n s = refl
reasons_each (line ∷ more) n s = rw (seen_step s (line_of line), reasons_each more (n + 1) (session_by s (line_of line))) refl
