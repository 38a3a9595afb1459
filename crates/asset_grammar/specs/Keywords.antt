-- The first words of step lines.
use Rattle.std.specs.Prelude.{◌≡◌, ℕ, ◌==◌, cond, List, [], ◌∷◌, get_or, Option, None, Some, find, codes}
use Rattle.std.specs.Str.{bytes_eq}
use Rattle.asset_grammar.specs.declared.keywords.Keyword.{Keyword}
use Rattle.asset_grammar.specs.declared.keywords.Keyword.TheVariants.{Initiate, Begin, Read, Write, Add, Complete, Permit, Delegate, Depend, Commit, Abort, Wait}
use Rattle.asset_grammar.specs.Words.{taken, LineLeft}

-- how a keyword is written
unfoldable pub keyword_text : Keyword → List ℕ
keyword_text Initiate = codes "initiate"
keyword_text Begin = codes "begin"
keyword_text Read = codes "read"
keyword_text Write = codes "write"
keyword_text Add = codes "add"
keyword_text Complete = codes "complete"
keyword_text Permit = codes "permit"
keyword_text Delegate = codes "delegate"
keyword_text Depend = codes "depend"
keyword_text Commit = codes "commit"
keyword_text Abort = codes "abort"
keyword_text Wait = codes "wait"

-- every keyword
unfoldable pub all_keywords : List Keyword
all_keywords = Initiate ∷ Begin ∷ Read ∷ Write ∷ Add ∷ Complete ∷ Permit ∷ Commit ∷ Abort ∷ Wait ∷ Delegate ∷ Depend ∷ []

-- the keyword that a word writes
unfoldable pub keyword_of : List ℕ → Option Keyword
keyword_of word = find (λ keyword. bytes_eq (keyword_text keyword) word) all_keywords

-- the only keyword that a text can begin with, by some of its first bytes
unfoldable pub likely_keyword : List ℕ → Option Keyword
likely_keyword text =
    cond (get_or text 0 0 == 114) (Some Read)
    (cond (get_or text 0 0 == 119) (cond (get_or text 1 0 == 97) (Some Wait) (Some Write))
    (cond (get_or text 0 0 == 99) (cond (get_or text 3 0 == 109) (Some Commit) (Some Complete))
    (cond (get_or text 0 0 == 98) (Some Begin)
    (cond (get_or text 0 0 == 105) (Some Initiate)
    (cond (get_or text 0 0 == 97) (cond (get_or text 1 0 == 100) (Some Add) (Some Abort))
    (cond (get_or text 0 0 == 112) (Some Permit)
    (cond (get_or text 0 0 == 100) (cond (get_or text 2 0 == 112) (Some Depend) (Some Delegate)) None)))))))

-- the first word was taken, and writes this keyword; or it writes none, and nothing was taken
abbrev pub TakesKeyword : LineLeft → Option Keyword → LineLeft → Type 0
TakesKeyword old None new = (taken keyword_of old.words ≡ None) × (new ≡ old)
TakesKeyword old (Some keyword) new = (old.words ≡ keyword_text keyword ∷ new.words) × (new.tail ≡ old.tail)
