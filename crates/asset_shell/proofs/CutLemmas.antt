-- A line that is too long is answered alike by the bytes of it that are kept.
use Rattle.std.proofs.Common.{◌≡◌, inl, inr, ℕ, ◌+◌, ◌<◌, List, [], ◌∷◌, length, take, Option, Some, refl, sym, ap, ◌∙◌, arith}
use Rattle.std.specs.Prelude.{is_some}
use Rattle.std.proofs.lemmas.Bool.{cases_lt, lt-ltb}
use Rattle.std.proofs.lemmas.List.{length-take, take_all}
use Rattle.asset_grammar.specs.declared.grammar.Line.TheVariants.{Bad}
use Rattle.asset_grammar.specs.Grammar.{line_of}
use Rattle.asset_check.specs.Checked.{Seen, mistake_at, mistake_in}
use Rattle.asset_reasons.specs.declared.reasons.Reason.TheVariants.{TooLong}
use Rattle.asset_reasons.specs.Mistakes.{reason_of}
use Rattle.asset_check.specs.Checking.{or_this}
use Rattle.asset_shell.specs.Sessions.{Session, mistake_of, reason_for, reply_to, session_seen, session_after}
use Rattle.asset_shell.specs.Talking.{Talk, ended, kept, said_now}

-- what is said of a line is said of the bytes of it that are kept
abbrev pub IsCutAlike : (Session → ℕ → List ℕ → List ℕ) → Type 0
IsCutAlike say = (s : Session) (n : ℕ) (line : List ℕ) → say s n (take 4097 line) ≡ say s n line

-- a line that is too long is bad
long_is_bad : (line : List ℕ) → 4096 < length line → line_of line ≡ Bad
unfolding line_of
long_is_bad line long = rw (lt-ltb 4096 (length line) long) refl

long_reason : (line : List ℕ) → 4096 < length line → reason_of line ≡ Some (TooLong, [])
unfolding reason_of
long_reason line long = rw (lt-ltb 4096 (length line) long) refl

kept_is_long : (line : List ℕ) → 4096 < length line → 4096 < length (take 4097 line)
kept_is_long line long = omega (arith, length-take 4097 line)

pub line_cut : (line : List ℕ) → line_of (take 4097 line) ≡ line_of line
line_cut line = elim (cases_lt 4096 (length line)) [
  | inl long ↦ long_is_bad (take 4097 line) (kept_is_long line long) ∙ sym (long_is_bad line long)
  | inr short ↦ ap line_of (take_all 4097 line (omega arith))
]

pub mistake_cut : (seen : Seen) (line : List ℕ) → mistake_at seen (take 4097 line) ≡ mistake_at seen line
unfolding mistake_in
mistake_cut seen line = elim (cases_lt 4096 (length line)) [
  | inl long ↦ rw (long_is_bad (take 4097 line) (kept_is_long line long), long_is_bad line long) (long_reason (take 4097 line) (kept_is_long line long) ∙ sym (long_reason line long))
  | inr short ↦ ap (mistake_at seen) (take_all 4097 line (omega arith))
]

pub session_cut : (s : Session) (line : List ℕ) → session_after s (take 4097 line) ≡ session_after s line
unfolding session_after
session_cut s line = rw (line_cut line) refl

pub reply_cut : IsCutAlike reply_to
unfolding reply_to
reply_cut s n line = rw (mistake_cut _ line, line_cut line) refl

pub reason_cut : IsCutAlike reason_for
unfolding reason_for
reason_cut s n line = rw (mistake_cut _ line) refl

-- a line that comes whole
pub whole_line : (say : Session → ℕ → List ℕ → List ℕ) (alike : IsCutAlike say) (talk : Talk) (line : List ℕ) → talk.begun ≡ [] → said_now say (kept talk line) ≡ say talk.session talk.number line
unfolding kept
whole_line say alike talk line none = rw none (alike talk.session talk.number line)

pub ended_whole : (talk : Talk) (line : List ℕ) → talk.begun ≡ []
    → ended (kept talk line) ≡ record { session = session_after talk.session line; number = talk.number + 1; begun = []; bad = or_this talk.bad (is_some (mistake_of talk.session line)) talk.number }
unfolding kept ended
ended_whole talk line none = rw (none, session_cut talk.session line, mistake_cut (session_seen talk.session) line) refl

pub no_items : (items : List ℕ) → length items ≡ 0 → items ≡ []
no_items [] none = refl
no_items (x ∷ items) none = absurd (omega (arith, none))

abbrev pub talk_of : Session → ℕ → List ℕ → Option ℕ → Talk
talk_of session number begun bad = record { session = session; number = number; begun = begun; bad = bad }

pub ended_by : (talk : Talk) (line : List ℕ) (session : Session) (number : ℕ) (begun : List ℕ) (bad : Option ℕ) → talk.begun ≡ [] → session ≡ session_after talk.session line → number ≡ talk.number + 1 → begun ≡ talk.begun
    → bad ≡ or_this talk.bad (is_some (mistake_of talk.session line)) talk.number → talk_of session number begun bad ≡ ended (kept talk line)
ended_by talk line session number begun bad none s n b first =
    let empty : begun ≡ [] = b ∙ none in
    rw (s, n, empty, first) (sym (ended_whole talk line none))
