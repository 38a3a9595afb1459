-- What is said while bytes are heard is what is said of their lines.
use Rattle.std.proofs.Common.{◌≡◌, ℕ, ◌+◌, ◌==◌, Bool, true, false, cond, List, [], ◌∷◌, ◌++◌, length, take, Option, None, Some, refl, sym, ap, ◌∙◌, append_assoc, append-nil, arith}
use Rattle.std.specs.Prelude.{is_some}
use Rattle.std.specs.List.{list_any}
use Rattle.std.proofs.lemmas.Bool.{eqb-true, ne_eqb, or_from, or_right}
use Rattle.std.proofs.lemmas.List.{length-take}
use Rattle.std.proofs.lemmas.List.Elements.{All-append, All-head, All-nil, All-push, All-tail, All-take}
use Rattle.asset_grammar.specs.Grammar.{line_of}
use Rattle.asset_grammar.specs.Lines.{lines, Lacks}
use Rattle.asset_grammar.proofs.LineLemmas.{lines_cut}
use Rattle.asset_check.specs.Checked.{first_bad, seen_by}
use Rattle.asset_check.specs.Checking.{or_first, or_this}
use Rattle.asset_check.proofs.CheckerLemmas.{one_line}
use Rattle.asset_shell.specs.Sessions.{Session, mistake_of, said_of_each, session_seen, session_after}
use Rattle.asset_shell.specs.Shelled.{complete}
use Rattle.asset_shell.specs.Talking.{Talk, after, ended, ended_last, heard, kept, said, said_last}
use Rattle.asset_shell.proofs.CutLemmas.{IsCutAlike, mistake_cut, session_cut}
use Rattle.asset_shell.proofs.SeenLemmas.{seen_step}
use Rattle.asset_shell.proofs.TalkLemmas.{take_again}

-- a line feed is among bytes, or is not
none_there : (p : List ℕ) → Lacks 10 p → list_any (λ x. x == 10) p ≡ false
unfolding Lacks
none_there [] lacks = refl
none_there (x ∷ p) lacks = or_from _ _ (All-head (λ y. (y == 10) ≡ false) x p lacks) (none_there p (All-tail (λ y. (y == 10) ≡ false) x p lacks))

one_there : (p bytes : List ℕ) → list_any (λ x. x == 10) (p ++ 10 ∷ bytes) ≡ true
one_there [] bytes = refl
one_there (x ∷ p) bytes = or_right (x == 10) _ (one_there p bytes)

complete_none : (p : List ℕ) → Lacks 10 p → complete p ≡ []
unfolding complete
complete_none [] lacks = refl
complete_none (x ∷ p) lacks = rw (none_there (x ∷ p) lacks) refl

complete_cut : (p bytes : List ℕ) → complete (p ++ 10 ∷ bytes) ≡ p ++ 10 ∷ complete bytes
unfolding complete
complete_cut [] bytes = refl
complete_cut (x ∷ p) bytes = rw (one_there (x ∷ p) bytes, complete_cut p bytes) refl

pub lacks_none : Lacks 10 []
unfolding Lacks
lacks_none = All-nil (λ x. (x == 10) ≡ false)

lacks_more : (p : List ℕ) (b : ℕ) → Lacks 10 p → (b == 10) ≡ false → Lacks 10 (p ++ b ∷ [])
unfolding Lacks
lacks_more p b lacks other = All-push (λ x. (x == 10) ≡ false) p b lacks other

pub lacks_kept : (p bytes : List ℕ) → Lacks 10 p → Lacks 10 bytes → Lacks 10 (take 4097 (p ++ bytes))
unfolding Lacks
lacks_kept p bytes a b = All-take (λ x. (x == 10) ≡ false) 4097 (p ++ bytes) (All-append (λ x. (x == 10) ≡ false) p bytes a b)

-- the conversation in which these bytes of a line have come
abbrev talk_at : Session → ℕ → List ℕ → Option ℕ → Talk
talk_at s n p bad = record { session = s; number = n; begun = take 4097 p; bad = bad }

-- after the line has ended
ended_at : (s : Session) (n : ℕ) (p : List ℕ) (bad : Option ℕ) → ended (talk_at s n p bad) ≡ talk_at (session_after s p) (n + 1) [] (or_this bad (is_some (mistake_of s p)) n)
unfolding ended
ended_at s n p bad = rw (session_cut s p, mistake_cut (session_seen s) p) refl

-- after another byte
kept_at : (s : Session) (n : ℕ) (p : List ℕ) (bad : Option ℕ) (b : ℕ) → kept (talk_at s n p bad) (b ∷ []) ≡ talk_at s n (p ++ b ∷ []) bad
unfolding kept
kept_at s n p bad b = rw (take_again 4097 p (b ∷ [])) refl

heard_at : (s : Session) (n : ℕ) (p : List ℕ) (bad : Option ℕ) (b : ℕ) → (b == 10) ≡ false → heard (talk_at s n p bad) b ≡ talk_at s n (p ++ b ∷ []) bad
unfolding heard
heard_at s n p bad b other = rw other (kept_at s n p bad b)

fed_at : (s : Session) (n : ℕ) (p : List ℕ) (bad : Option ℕ) (b : ℕ) → (b == 10) ≡ true → heard (talk_at s n p bad) b ≡ talk_at (session_after s p) (n + 1) [] (or_this bad (is_some (mistake_of s p)) n)
unfolding heard
fed_at s n p bad b feed = rw feed (ended_at s n p bad)

-- what is said of the complete lines
pub said_complete : (say : Session → ℕ → List ℕ → List ℕ) (alike : IsCutAlike say) (bytes p : List ℕ) (s : Session) (n : ℕ) (bad : Option ℕ) → Lacks 10 p
    → said say (talk_at s n p bad) bytes ≡ said_of_each say (lines (complete (p ++ bytes))) n s
unfolding said said_of_each lines
said_complete say alike [] p s n bad lacks = rw (append-nil p, complete_none p lacks) refl
said_complete say alike (b ∷ bytes) p s n bad lacks = go (b == 10) refl (λ s n p bad lacks. said_complete say alike bytes p s n bad lacks) where
  go : (feed : Bool) → (b == 10) ≡ feed → ((s : Session) (n : ℕ) (p : List ℕ) (bad : Option ℕ) → Lacks 10 p → said say (talk_at s n p bad) bytes ≡ said_of_each say (lines (complete (p ++ bytes))) n s)
      → said say (talk_at s n p bad) (b ∷ bytes) ≡ said_of_each say (lines (complete (p ++ b ∷ bytes))) n s
  go true e later =
      let whole : complete (p ++ b ∷ bytes) ≡ p ++ 10 ∷ complete bytes = rw (eqb-true b 10 e) (complete_cut p bytes) in
      rw (whole, lines_cut p (complete bytes) lacks, fed_at s n p bad b e, later (session_after s p) (n + 1) [] (or_this bad (is_some (mistake_of s p)) n) lacks_none, e, alike s n p) refl
  go false e later = rw (heard_at s n p bad b e, later s n (p ++ b ∷ []) bad (lacks_more p b lacks e), e, append_assoc p (b ∷ []) bytes) refl

-- what is said of the last line
last_said : (say : Session → ℕ → List ℕ → List ℕ) (alike : IsCutAlike say) (p : List ℕ) (s : Session) (n : ℕ) (bad : Option ℕ) → Lacks 10 p → said_last say (talk_at s n p bad) ≡ said_of_each say (lines p) n s
unfolding said_last said_of_each lines
last_said say alike [] s n bad lacks = refl
last_said say alike (x ∷ p) s n bad lacks =
    let some : (length (take 4097 (x ∷ p)) == 0) ≡ false = ne_eqb _ 0 (λ none. omega (arith, none, length-take 4097 (x ∷ p))) in
    rw (some, one_line (x ∷ p) lacks (omega arith)) (alike s n (x ∷ p) ∙ sym (append-nil (say s n (x ∷ p))))

-- what is said of all lines
pub said_all : (say : Session → ℕ → List ℕ → List ℕ) (alike : IsCutAlike say) (bytes p : List ℕ) (s : Session) (n : ℕ) (bad : Option ℕ) → Lacks 10 p
    → said say (talk_at s n p bad) bytes ++ said_last say (after (talk_at s n p bad) bytes) ≡ said_of_each say (lines (p ++ bytes)) n s
unfolding said after said_of_each
said_all say alike [] p s n bad lacks = rw (append-nil p) (last_said say alike p s n bad lacks)
said_all say alike (b ∷ bytes) p s n bad lacks = go (b == 10) refl (λ s n p bad lacks. said_all say alike bytes p s n bad lacks) where
  go : (feed : Bool) → (b == 10) ≡ feed → ((s : Session) (n : ℕ) (p : List ℕ) (bad : Option ℕ) → Lacks 10 p → said say (talk_at s n p bad) bytes ++ said_last say (after (talk_at s n p bad) bytes) ≡ said_of_each say (lines (p ++ bytes)) n s)
      → said say (talk_at s n p bad) (b ∷ bytes) ++ said_last say (after (talk_at s n p bad) (b ∷ bytes)) ≡ said_of_each say (lines (p ++ b ∷ bytes)) n s
  go true e later =
      let whole : lines (p ++ b ∷ bytes) ≡ p ∷ lines bytes = rw (eqb-true b 10 e) (lines_cut p bytes lacks) in
      let rest = later (session_after s p) (n + 1) [] (or_this bad (is_some (mistake_of s p)) n) lacks_none in
      rw (whole, fed_at s n p bad b e, e) (append_assoc (say s n (take 4097 p)) _ _ ∙ rw (alike s n p) (ap (λ (l : List ℕ). say s n p ++ l) rest))
  go false e later = rw (heard_at s n p bad b e, e) (later s n (p ++ b ∷ []) bad (lacks_more p b lacks e) ∙ rw (append_assoc p (b ∷ []) bytes) refl)

-- the first bad line of all lines
seen_after_line : (s : Session) (line : List ℕ) → session_seen (session_after s line) ≡ seen_by (session_seen s) (line_of line)
unfolding session_after
seen_after_line s line = sym (seen_step s (line_of line))

bad_twice : (bad later : Option ℕ) (b : Bool) (n : ℕ) → or_first (or_this bad b n) later ≡ or_first bad (cond b (Some n) later)
unfolding or_first or_this
bad_twice None later true n = refl
bad_twice None later false n = refl
bad_twice (Some m) later b n = refl

bad_line : (line : List ℕ) (more : List (List ℕ)) (s : Session) (n : ℕ) (bad : Option ℕ) → or_first (or_this bad (is_some (mistake_of s line)) n) (first_bad more (n + 1) (session_seen (session_after s line))) ≡ or_first bad (first_bad (line ∷ more) n (session_seen s))
unfolding first_bad
bad_line line more s n bad = bad_twice bad _ (is_some (mistake_of s line)) n ∙ rw (seen_after_line s line) refl

pub none_first : (bad : Option ℕ) → or_first bad None ≡ bad
unfolding or_first
none_first None = refl
none_first (Some n) = refl

last_bad : (p : List ℕ) (s : Session) (n : ℕ) (bad : Option ℕ) → Lacks 10 p → (ended_last (talk_at s n p bad)).bad ≡ or_first bad (first_bad (lines p) n (session_seen s))
unfolding ended_last lines first_bad
last_bad [] s n bad lacks = sym (none_first bad)
last_bad (x ∷ p) s n bad lacks =
    let some : (length (take 4097 (x ∷ p)) == 0) ≡ false = ne_eqb _ 0 (λ none. omega (arith, none, length-take 4097 (x ∷ p))) in
    rw (some, ended_at s n (x ∷ p) bad, one_line (x ∷ p) lacks (omega arith)) (sym (none_first _) ∙ bad_line (x ∷ p) [] s n bad)

pub bad_all : (bytes p : List ℕ) (s : Session) (n : ℕ) (bad : Option ℕ) → Lacks 10 p → (ended_last (after (talk_at s n p bad) bytes)).bad ≡ or_first bad (first_bad (lines (p ++ bytes)) n (session_seen s))
unfolding after
bad_all [] p s n bad lacks = rw (append-nil p) (last_bad p s n bad lacks)
bad_all (b ∷ bytes) p s n bad lacks = go (b == 10) refl (λ s n p bad lacks. bad_all bytes p s n bad lacks) where
  go : (feed : Bool) → (b == 10) ≡ feed → ((s : Session) (n : ℕ) (p : List ℕ) (bad : Option ℕ) → Lacks 10 p → (ended_last (after (talk_at s n p bad) bytes)).bad ≡ or_first bad (first_bad (lines (p ++ bytes)) n (session_seen s)))
      → (ended_last (after (talk_at s n p bad) (b ∷ bytes))).bad ≡ or_first bad (first_bad (lines (p ++ b ∷ bytes)) n (session_seen s))
  go true e later =
      let whole : lines (p ++ b ∷ bytes) ≡ p ∷ lines bytes = rw (eqb-true b 10 e) (lines_cut p bytes lacks) in
      rw (whole, fed_at s n p bad b e) (later (session_after s p) (n + 1) [] (or_this bad (is_some (mistake_of s p)) n) lacks_none ∙ bad_line p (lines bytes) s n bad)
  go false e later = rw (heard_at s n p bad b e) (later s n (p ++ b ∷ []) bad (lacks_more p b lacks e) ∙ rw (append_assoc p (b ∷ []) bytes) refl)
