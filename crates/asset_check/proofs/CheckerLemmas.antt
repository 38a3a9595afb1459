-- What a checker shows, line by line.
use Rattle.std.proofs.Common.{◌≡◌, ℕ, ◌+◌, ◌<◌, Bool, true, false, cond, List, [], ◌∷◌, ◌++◌, length, take, drop, Option, None, Some, refl, sym, ap, ◌∙◌, arith}
use Rattle.std.specs.Prelude.{position, ◌==◌, not, ℤ}
use Rattle.std.specs.Bool.{OnTrue, OnFalse}
use Rattle.asset_names.specs.declared.names.Ob.{Ob}
use Rattle.asset_names.specs.Steps.{Opening}
use Rattle.asset_grammar.specs.Lines.{lines, Lacks}
use Rattle.asset_grammar.proofs.LineLemmas.{cut_at_position, lines_cut}
use Rattle.std.proofs.lemmas.List.Elements.{All-head, All-tail}
use Rattle.asset_names.specs.Operations.{exists}
use Rattle.asset_grammar.specs.Words.{words}
use Rattle.asset_reasons.specs.declared.reasons.Reason.TheVariants.{GivenTwice}
use Rattle.asset_check.specs.Checked.{Seen, object_mistake, seen_object}
use Rattle.asset_check.specs.Checking.{seen_in}
use Rattle.asset_reasons.specs.Mistakes.{Found, second_word}

-- the objects of a checker that shows some
pub objects_shown : (stepped : Bool) (opening o : Opening) (seen : Seen) → seen_in stepped opening ≡ seen → seen ≡ Some o → seen ≡ Some opening
unfolding seen_in
objects_shown true opening o seen shows some = absurd (cc)
objects_shown false opening o seen shows some = sym shows

-- a line that is cut off, and the last one
pub lines_at : (text : List ℕ) (i : ℕ) → position (λ b. b == 10) text ≡ Some i → lines text ≡ take i text ∷ lines (drop (i + 1) text)
lines_at text i h =
    let cut = cut_at_position 10 text i h in
    ap lines cut.whole ∙ lines_cut (take i text) (drop (i + 1) text) cut.first

pub one_line : (text : List ℕ) → Lacks 10 text → 0 < length text → lines text ≡ text ∷ []
unfolding Lacks lines
one_line [] lacks some = absurd (omega (arith, some))
one_line (b ∷ []) lacks some = rw (All-head (λ x. (x == 10) ≡ false) b [] lacks) refl
one_line (b ∷ c ∷ text) lacks some = rw (All-head (λ x. (x == 10) ≡ false) b (c ∷ text) lacks, one_line (c ∷ text) (All-tail (λ x. (x == 10) ≡ false) b (c ∷ text) lacks) (omega arith)) refl

-- a text without a line feed that has a line is that line
pub said_some : (text line : List ℕ) (old new : List (List ℕ)) → Lacks 10 text → old ≡ lines text → old ≡ line ∷ new → text ≡ line
unfolding lines
said_some [] line old new lacks is cut = absurd (cc (sym is ∙ cut))
said_some (b ∷ text) line old new lacks is cut =
    let one : lines (b ∷ text) ≡ (b ∷ text) ∷ [] = one_line (b ∷ text) lacks (omega arith) in
    let same : (b ∷ text) ∷ [] ≡ line ∷ new = sym one ∙ sym is ∙ cut in
    cc

pub said_none : (text : List ℕ) (old : List (List ℕ)) → Lacks 10 text → old ≡ lines text → old ≡ [] → text ≡ []
said_none [] old lacks is none = refl
said_none (b ∷ text) old lacks is none =
    let one : lines (b ∷ text) ≡ (b ∷ text) ∷ [] = one_line (b ∷ text) lacks (omega arith) in
    let same : (b ∷ text) ∷ [] ≡ [] = sym one ∙ sym is ∙ none in
    absurd (cc)

-- an object that is new, and one that is there
pub added_object : (opening new : Opening) (given : Ob × ℤ) (line : List ℕ) (added : Bool) → added ≡ not (exists opening given.0.0) → OnTrue added (new ≡ opening ++ given ∷ []) → OnFalse added (new ≡ opening)
    → (object_mistake (Some opening) given.0 line ≡ cond {A = Option Found} added None (Some (GivenTwice, second_word (words line)))) × (Some new ≡ seen_object (Some opening) given)
unfolding object_mistake seen_object
added_object opening new given line added is grown kept = go (exists opening given.0.0) added is grown kept where
  go : (there added : Bool) → added ≡ not there → OnTrue added (new ≡ opening ++ given ∷ []) → OnFalse added (new ≡ opening)
      → (cond {A = Option Found} there (Some (GivenTwice, second_word (words line))) None ≡ cond {A = Option Found} added None (Some (GivenTwice, second_word (words line)))) × (Some new ≡ Some (cond there opening (opening ++ given ∷ [])))
  go true true is grown kept = absurd (cc)
  go true false is grown kept = (refl, ap Some kept)
  go false true is grown kept = (refl, ap Some grown)
  go false false is grown kept = absurd (cc)
