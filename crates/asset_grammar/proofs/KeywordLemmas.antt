-- A keyword at the start of a text.
use Rattle.std.proofs.Common.{◌≡◌, ℕ, ◌≤◌, ◌⊎◌, inl, inr, Bool, true, false, cond, List, [], ◌∷◌, ◌++◌, length, get_or, take, drop, Option, None, Some, refl, sym, ap, ◌∙◌, arith, take-append-drop}
use Rattle.std.specs.Prelude.{find, option_map, option_and_then, nat_le, not, codes}
use Rattle.std.specs.List.{list_all}
use Rattle.std.specs.Str.{bytes_eq}
use Rattle.std.proofs.lemmas.Bool.{true≢false}
use Rattle.std.proofs.lemmas.List.{length-take}
use Rattle.std.proofs.lemmas.Slice.Eq.{bytes_eq-Decides}
use Rattle.asset_grammar.specs.declared.grammar.Command.{Command}
use Rattle.asset_grammar.specs.declared.grammar.Command.TheVariants.{Ask}
use Rattle.asset_grammar.specs.declared.keywords.Keyword.{Keyword}
use Rattle.asset_grammar.specs.declared.keywords.Keyword.TheVariants.{Initiate, Begin, Read, Write, Add, Complete, Permit, Delegate, Depend, Commit, Abort, Wait}
use Rattle.asset_grammar.specs.Grammar.{command_from, object_command, step_by, step_command}
use Rattle.asset_grammar.specs.Keywords.{all_keywords, keyword_of, keyword_text, likely_keyword}
use Rattle.asset_grammar.specs.Lines.{first_line, Lacks}
use Rattle.asset_grammar.specs.Words.{parts, taken, Ends, GoesOn, LineLeft}
use Rattle.asset_grammar.proofs.FirstLineLemmas.{inside_first, take_first}
use Rattle.asset_grammar.proofs.WordLemmas.{first_part, passing_lack, taken_first}

-- keywords have small letters alone
small_letters : (keyword : Keyword) → list_all (λ b. nat_le 97 b) (keyword_text keyword) ≡ true
unfolding keyword_text
small_letters Initiate = refl
small_letters Begin = refl
small_letters Read = refl
small_letters Write = refl
small_letters Add = refl
small_letters Complete = refl
small_letters Permit = refl
small_letters Delegate = refl
small_letters Depend = refl
small_letters Commit = refl
small_letters Abort = refl
small_letters Wait = refl

pub keyword_lacks : (byte : ℕ) (keyword : Keyword) → nat_le 97 byte ≡ false → Lacks byte (keyword_text keyword)
keyword_lacks byte keyword other = passing_lack (λ b. nat_le 97 b) byte (keyword_text keyword) other (small_letters keyword)

-- a text that begins with a keyword can begin with no other
begins : (keyword : Keyword) (rest : List ℕ) → likely_keyword (keyword_text keyword ++ rest) ≡ Some keyword
unfolding likely_keyword keyword_text
begins Initiate rest = refl
begins Begin rest = refl
begins Read rest = refl
begins Write rest = refl
begins Add rest = refl
begins Complete rest = refl
begins Permit rest = refl
begins Delegate rest = refl
begins Depend rest = refl
begins Commit rest = refl
begins Abort rest = refl
begins Wait rest = refl

likely : (text : List ℕ) (keyword : Keyword) → take (length (keyword_text keyword)) text ≡ keyword_text keyword → likely_keyword text ≡ Some keyword
likely text keyword is =
    let whole : text ≡ keyword_text keyword ++ drop (length (keyword_text keyword)) text = sym (take-append-drop (length (keyword_text keyword)) text) ∙ ap (λ (l : List ℕ). l ++ drop (length (keyword_text keyword)) text) is in
    ap likely_keyword whole ∙ begins keyword (drop (length (keyword_text keyword)) text)

-- the word that a keyword is found for is its text
find_passes : {X : Type 0} (test : X → Bool) (xs : List X) (x : X) → find test xs ≡ Some x → test x ≡ true
find_passes test [] x found = absurd (cc)
find_passes {X} test (y ∷ xs) x found = go (test y) refl found (find_passes test xs x) where
  go : (b : Bool) → test y ≡ b → cond b (Some y) (find test xs) ≡ Some x → (find test xs ≡ Some x → test x ≡ true) → test x ≡ true
  go true e found later =
      let same : y ≡ x = cc in
      rw (← same) e
  go false e found later = later found

written : (word : List ℕ) (keyword : Keyword) → keyword_of word ≡ Some keyword → keyword_text keyword ≡ word
unfolding keyword_of
written word keyword found = (bytes_eq-Decides (keyword_text keyword) word).0 (find_passes (λ k. bytes_eq (keyword_text k) word) all_keywords keyword found)

-- no keyword is the first word if none can be
abbrev StandsFirst : List ℕ → Keyword → Type 0
StandsFirst line keyword =
    (take (length (keyword_text keyword)) line ≡ keyword_text keyword)
    × (length (keyword_text keyword) ≤ length line)
    × ((length (keyword_text keyword) ≡ length line) ⊎ (get_or line (length (keyword_text keyword)) 0 ≡ 32))

none_first : (line : List ℕ) → ((keyword : Keyword) → StandsFirst line keyword → ⊥) → taken keyword_of (parts 32 line) ≡ None
none_first line none =
    let first = first_part 32 line in
    taken_first keyword_of 32 line first ∙ ap (option_map (λ x. (x, first.rest))) (go (keyword_of (take first.size line)) refl) where
      go : (found : Option Keyword) → keyword_of (take (first_part 32 line).size line) ≡ found → found ≡ None
      go None e = refl
      go (Some keyword) e =
          let first = first_part 32 line in
          let text = written (take first.size line) keyword e in
          let long : length (keyword_text keyword) ≡ first.size = ap length text ∙ length-take first.size line ∙ omega (arith, first.within) in
          absurd (none keyword (rw long (sym text), rw long first.within, rw long first.stops))

pub unlikely : (text : List ℕ) → likely_keyword text ≡ None → taken keyword_of (parts 32 (first_line text)) ≡ None
unlikely text none = none_first (first_line text) (λ keyword stands.
    let is = likely text keyword (sym (take_first text (length (keyword_text keyword)) stands.1) ∙ stands.0) in
    absurd (cc (is, none)))

same_keyword : (text : List ℕ) (keyword other : Keyword) → likely_keyword text ≡ Some keyword → StandsFirst (first_line text) other → keyword ≡ other
same_keyword text keyword other is stands =
    let found = likely text other (sym (take_first text (length (keyword_text other)) stands.1) ∙ stands.0) in
    cc (is, found)

pub not_started : (text : List ℕ) (keyword : Keyword) → likely_keyword text ≡ Some keyword → bytes_eq (keyword_text keyword) (take (length (keyword_text keyword)) text) ≡ false → taken keyword_of (parts 32 (first_line text)) ≡ None
not_started text keyword is other = none_first (first_line text) (λ second stands.
    let same = same_keyword text keyword second is stands in
    let front : keyword_text second ≡ take (length (keyword_text second)) text = sym stands.0 ∙ take_first text (length (keyword_text second)) stands.1 in
    true≢false (sym ((bytes_eq-Decides (keyword_text second) (take (length (keyword_text second)) text)).1 front) ∙ rw same at other))

pub started : (text : List ℕ) (keyword : Keyword) → bytes_eq (keyword_text keyword) (take (length (keyword_text keyword)) text) ≡ true → take (length (keyword_text keyword)) text ≡ keyword_text keyword
started text keyword same = sym ((bytes_eq-Decides (keyword_text keyword) (take (length (keyword_text keyword)) text)).0 same)

pub word_is_longer : (text : List ℕ) (keyword : Keyword) → likely_keyword text ≡ Some keyword → GoesOn text (length (keyword_text keyword)) → taken keyword_of (parts 32 (first_line text)) ≡ None
word_is_longer text keyword is goes_on = none_first (first_line text) (λ second stands.
    let same = same_keyword text keyword second is stands in
    let on : GoesOn text (length (keyword_text second)) = rw same at goes_on in
    elim stands.2 [
      | inl at_end ↦ absurd (omega (arith, at_end, on.inside))
      | inr space ↦ on.no_space space
    ])

-- a keyword that ends there is the first word
pub keyword_first : (text : List ℕ) (keyword : Keyword) (after : LineLeft) → take (length (keyword_text keyword)) text ≡ keyword_text keyword → length (keyword_text keyword) ≤ length text → Ends text (length (keyword_text keyword)) after
    → parts 32 (first_line text) ≡ keyword_text keyword ∷ after.words
keyword_first text keyword after is within ends =
    let inside = inside_first text (length (keyword_text keyword)) within (rw is (keyword_lacks 10 keyword refl)) in
    let on_line : take (length (keyword_text keyword)) (first_line text) ≡ keyword_text keyword = take_first text (length (keyword_text keyword)) inside ∙ is in
    rw on_line at ends.words_are (keyword_lacks 32 keyword refl)

-- what a line asks that begins with a keyword, and that neither does so nor adds an object
pub keyword_asks : (keyword : Keyword) (operands : List (List ℕ)) → command_from (keyword_text keyword ∷ operands) ≡ option_map Ask (step_by keyword operands)
unfolding command_from step_command keyword_of all_keywords keyword_text
keyword_asks Initiate operands = refl
keyword_asks Begin operands = refl
keyword_asks Read operands = refl
keyword_asks Write operands = refl
keyword_asks Add operands = refl
keyword_asks Complete operands = refl
keyword_asks Permit operands = refl
keyword_asks Delegate operands = refl
keyword_asks Depend operands = refl
keyword_asks Commit operands = refl
keyword_asks Abort operands = refl
keyword_asks Wait operands = refl

pub nothing_asked : (words : List (List ℕ)) (word : List ℕ) (operands : List (List ℕ)) → words ≡ word ∷ operands → taken keyword_of words ≡ None → not (bytes_eq word (codes "object")) ≡ true → command_from words ≡ None
unfolding command_from step_command taken
nothing_asked words word operands is none other = rw is (go (bytes_eq word (codes "object")) (keyword_of word) (rw is at none) other) where
  go : (same : Bool) (found : Option Keyword) → option_map {U = Keyword × List (List ℕ)} (λ x. (x, operands)) found ≡ None → not same ≡ true
      → cond {A = Option Command} same (object_command operands) (option_and_then (λ keyword. option_map Ask (step_by keyword operands)) found) ≡ None
  go true found none h = absurd (cc)
  go false None none h = refl
  go false (Some keyword) none h = absurd (cc)
