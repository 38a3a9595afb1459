-- Why a line is bad: the first rule that applies, and the word that it is about.
use Rattle.std.specs.Prelude.{◌≡◌, ℕ, ◌==◌, ◌&&◌, Bool, true, false, not, cond, nat_lt, List, [], ◌∷◌, length, drop, Option, None, Some, is_some, option_map, unwrap_or, codes}
use Rattle.std.specs.Char.{is_ascii_digit, is_ascii_uppercase}
use Rattle.std.specs.Str.{bytes_eq}
use Rattle.std.specs.List.{list_all, list_any}
use Rattle.asset_grammar.specs.DependOperands.{kind_of}
use Rattle.asset_grammar.specs.declared.grammar.Line.{Line}
use Rattle.asset_grammar.specs.declared.grammar.Line.TheVariants.{Bad}
use Rattle.asset_grammar.specs.Grammar.{is_blank, line_of}
use Rattle.asset_grammar.specs.Numbers.{begins_well, number_of, value_of}
use Rattle.asset_grammar.specs.Sets.{ops_of, set_of}
use Rattle.asset_grammar.specs.Words.{parts, words}
use Rattle.asset_reasons.specs.declared.reasons.Mistake.{Mistake}
use Rattle.asset_reasons.specs.declared.reasons.Operand.{Operand}
use Rattle.asset_reasons.specs.declared.reasons.Operand.TheVariants as Operand'
use Rattle.asset_reasons.specs.declared.reasons.Reason.{Reason}
use Rattle.asset_reasons.specs.declared.reasons.Reason.TheVariants.{TooLong, CapitalLetter, UnknownWord, Wants, PlusSign, LeadingZero, MinusZero, NumberOutOfRange, ValueOutOfRange, NoNumber, NoValue, SwappedOperations, NoOperations, NoKind, LoneComma, TooManyObjects, TwiceInSet}
use Rattle.asset_reasons.specs.declared.reasons.Shape.{Shape}
use Rattle.asset_reasons.specs.declared.reasons.Shape.TheVariants.{ObjectAndValue, TxnAndParent, OneTxn, TxnAndObject, TxnObjectAndValue, TxnObjectAndAmount, TxnsOpsAndSet, TxnsAndSet, KindAndTxns}
use Rattle.asset_reasons.specs.Spelling.{begins_with, spelling}

-- a reason, and the word that it is about; no word if it is about none
abbrev pub Found : Type 0
Found = Reason × List ℕ

-- a call finds the mistake that the definition finds
abbrev pub Finds : Option Mistake → Option Found → Type 0
Finds None found = found ≡ None
Finds (Some mistake) found = found ≡ Some (mistake.reason, mistake.word.now)

-- a text has a byte, and digits alone
unfoldable pub has_digits : List ℕ → Bool
has_digits text = not (length text == 0) && list_all is_ascii_digit text

-- why a word is no number
unfoldable pub why_no_number : List ℕ → Reason
why_no_number word =
    cond (begins_with 43 word) PlusSign
    (cond (not (has_digits word)) NoNumber
    (cond (begins_well word) NumberOutOfRange LeadingZero))

-- what is wrong with a word that is to be a number
unfoldable pub number_mistake : List ℕ → Option Reason
number_mistake word = cond (is_some (number_of word)) None (Some (why_no_number word))

-- a text without the minus sign before it
unfoldable pub unsigned : List ℕ → List ℕ
unsigned word = drop (cond (begins_with 45 word) 1 0) word

-- what is wrong with a word that is to be a number or `any`
unfoldable pub taker_mistake : List ℕ → Option Reason
taker_mistake word = cond (bytes_eq word (codes "any")) None (number_mistake word)

-- why a word is no value
unfoldable pub why_no_value : List ℕ → Reason
why_no_value word =
    cond (begins_with 43 word) PlusSign
    (cond (not (has_digits (unsigned word))) NoValue
    (cond (not (begins_well (unsigned word))) LeadingZero
    (cond (begins_with 48 (unsigned word)) MinusZero ValueOutOfRange)))

-- what is wrong with a word that is to be a value
unfoldable pub value_mistake : List ℕ → Option Reason
value_mistake word = cond (is_some (value_of word)) None (Some (why_no_value word))

-- what is wrong with a word that is to be operations
unfoldable pub ops_mistake : List ℕ → Option Reason
ops_mistake word = cond (is_some (ops_of word)) None (Some (cond (bytes_eq word (codes "wr")) SwappedOperations NoOperations))

-- what is wrong with a word that is to be a kind of dependency
unfoldable pub kind_mistake : List ℕ → Option Reason
kind_mistake word = cond (is_some (kind_of word)) None (Some NoKind)

-- the first part that is no number, and why
unfoldable pub part_mistake : List (List ℕ) → Option Found
part_mistake [] = None
part_mistake (part ∷ rest) = cond (is_some (number_of part)) (part_mistake rest) (Some (why_no_number part, part))

-- whether one of the parts is empty
unfoldable pub has_empty : List (List ℕ) → Bool
has_empty [] = false
has_empty (part ∷ rest) = cond (length part == 0) true (has_empty rest)

-- why the parts between commas make no set
unfoldable pub why_no_set : List (List ℕ) → Found
why_no_set objects =
    cond (has_empty objects) (LoneComma, [])
    (unwrap_or (part_mistake objects) (cond (nat_lt 16 (length objects)) (TooManyObjects, []) (TwiceInSet, [])))

-- what is wrong with a word that is to be a set of objects
unfoldable pub set_mistake : List ℕ → Option Found
set_mistake word = cond (is_some (set_of word)) None (Some (why_no_set (parts 44 word)))

-- what is wrong with a word that is to be a set of objects other than `all`
unfoldable pub list_mistake : List ℕ → Option Found
list_mistake word = cond (not (bytes_eq word (codes "all")) && is_some (set_of word)) None (Some (why_no_set (parts 44 word)))

-- a reason that is about the word
abbrev pub about : List ℕ → Reason → Found
about word reason = (reason, word)

-- what is wrong with a word that is to be such an operand
unfoldable pub operand_mistake : Operand → List ℕ → Option Found
operand_mistake Operand'.Number word = option_map (about word) (number_mistake word)
operand_mistake Operand'.Taker word = option_map (about word) (taker_mistake word)
operand_mistake Operand'.Value word = option_map (about word) (value_mistake word)
operand_mistake Operand'.Operations word = option_map (about word) (ops_mistake word)
operand_mistake Operand'.Set word = set_mistake word
operand_mistake Operand'.List word = list_mistake word
operand_mistake Operand'.Kind word = option_map (about word) (kind_mistake word)

-- there is a word for each operand, and no other word
unfoldable pub fits : List Operand → List (List ℕ) → Bool
fits [] [] = true
fits [] (word ∷ words) = false
fits (operand ∷ operands) [] = false
fits (operand ∷ operands) (word ∷ words) = fits operands words

-- what is wrong with the first word that is not what it is to be
unfoldable pub first_mistake : List Operand → List (List ℕ) → Option Found
first_mistake [] words = None
first_mistake (operand ∷ operands) [] = None
first_mistake (operand ∷ operands) (word ∷ words) = cond (is_some (operand_mistake operand word)) (operand_mistake operand word) (first_mistake operands words)

-- one word alone is left
unfoldable pub is_single : List (List ℕ) → Bool
is_single [] = false
is_single (word ∷ rest) = fits [] rest

-- the word after the first one is `any`
unfoldable pub names_anybody : List (List ℕ) → Bool
names_anybody [] = false
names_anybody (word ∷ []) = false
names_anybody (word ∷ next ∷ rest) = bytes_eq next (codes "any")

-- the operands of a shape: a parent is one of them unless one word alone is there, and a permit to anybody has objects in a list
unfoldable pub operands_of : Shape → Bool → Bool → List Operand
operands_of ObjectAndValue single anybody = Operand'.Number ∷ Operand'.Value ∷ []
operands_of TxnAndParent single anybody = Operand'.Number ∷ cond single [] (Operand'.Number ∷ [])
operands_of OneTxn single anybody = Operand'.Number ∷ []
operands_of TxnAndObject single anybody = Operand'.Number ∷ Operand'.Number ∷ []
operands_of TxnObjectAndValue single anybody = Operand'.Number ∷ Operand'.Number ∷ Operand'.Value ∷ []
operands_of TxnObjectAndAmount single anybody = Operand'.Number ∷ Operand'.Number ∷ Operand'.Value ∷ []
operands_of TxnsOpsAndSet single anybody = Operand'.Number ∷ Operand'.Taker ∷ Operand'.Operations ∷ cond anybody Operand'.List Operand'.Set ∷ []
operands_of TxnsAndSet single anybody = Operand'.Number ∷ Operand'.Number ∷ Operand'.Set ∷ []
operands_of KindAndTxns single anybody = Operand'.Kind ∷ Operand'.Number ∷ Operand'.Number ∷ []

-- which operands a keyword wants, among those of the steps that share, end or wait
unfoldable pub sharing_shape : List ℕ → Option Shape
sharing_shape word =
    cond (bytes_eq (codes "permit") word) (Some TxnsOpsAndSet)
    (cond (bytes_eq (codes "commit") word) (Some OneTxn)
    (cond (bytes_eq (codes "abort") word) (Some OneTxn)
    (cond (bytes_eq (codes "wait") word) (Some OneTxn)
    (cond (bytes_eq (codes "delegate") word) (Some TxnsAndSet)
    (cond (bytes_eq (codes "depend") word) (Some KindAndTxns) None)))))

-- which operands the keyword of a step wants
unfoldable pub step_shape : List ℕ → Option Shape
step_shape word =
    cond (bytes_eq (codes "initiate") word) (Some TxnAndParent)
    (cond (bytes_eq (codes "begin") word) (Some OneTxn)
    (cond (bytes_eq (codes "read") word) (Some TxnAndObject)
    (cond (bytes_eq (codes "write") word) (Some TxnObjectAndValue)
    (cond (bytes_eq (codes "add") word) (Some TxnObjectAndAmount)
    (cond (bytes_eq (codes "complete") word) (Some OneTxn) (sharing_shape word))))))

-- which operands a first word wants, if a line can begin with it
unfoldable pub shape_of : List ℕ → Option Shape
shape_of word = cond (bytes_eq word (codes "object")) (Some ObjectAndValue) (step_shape word)

-- why no line can begin with a word
unfoldable pub why_unknown : List ℕ → Reason
why_unknown word = cond (list_any is_ascii_uppercase word) CapitalLetter UnknownWord

-- what is wrong with the words after a first word of this shape
unfoldable pub shape_mistake : List ℕ → Shape → List (List ℕ) → Option Found
shape_mistake first shape operands =
    cond (fits (operands_of shape (is_single operands) (names_anybody operands)) operands) (first_mistake (operands_of shape (is_single operands) (names_anybody operands)) operands) (Some (Wants shape, first))

-- what is wrong with a first word, or with the words after it if it has a shape
unfoldable pub mistake_by : Option Shape → List ℕ → List (List ℕ) → Option Found
mistake_by None first operands = Some (why_unknown first, first)
mistake_by (Some shape) first operands = shape_mistake first shape operands

-- what is wrong with the words of a line
unfoldable pub words_mistake : List (List ℕ) → Option Found
words_mistake [] = Some (UnknownWord, [])
words_mistake (first ∷ operands) = mistake_by (shape_of first) first operands

-- why a line is bad if its words are wrong: its spelling, or else its words
unfoldable pub spelled : List ℕ → Found → Found
spelled line told = unwrap_or (option_map (λ reason. (reason, [])) (spelling line)) told

-- Why a line is bad, if it is. One of more than 4,096 bytes is bad, whatever it begins with.
unfoldable pub reason_of : List ℕ → Option Found
reason_of line = cond (nat_lt 4096 (length line)) (Some (TooLong, [])) (cond (is_blank line) None (option_map (spelled line) (words_mistake (words line))))

-- whether a line is bad
unfoldable pub is_bad : Line → Bool
is_bad Bad = true
is_bad line = false

-- a line has a reason exactly if it is bad
abbrev pub HasReasonIfBad : List ℕ → Type 0
HasReasonIfBad line = is_some (reason_of line) ≡ is_bad (line_of line)

-- the second of these words, and an empty one if there is none
unfoldable pub second_word : List (List ℕ) → List ℕ
second_word (first ∷ second ∷ rest) = second
second_word other = []
