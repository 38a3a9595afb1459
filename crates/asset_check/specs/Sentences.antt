-- How a reason is said.
use Rattle.std.specs.Prelude.{ℕ, ◌&&◌, Bool, true, false, cond, nat_lt, List, [], ◌++◌, take, map, Option, None, Some, codes}
use Rattle.std.specs.Fmt.{decimal}
use Rattle.asset_printing.specs.Texts.{line_end}
use Rattle.asset_reasons.specs.declared.reasons.Reason.{Reason}
use Rattle.asset_reasons.specs.declared.reasons.Reason.TheVariants as Reason'
use Rattle.asset_reasons.specs.declared.reasons.Shape.{Shape}
use Rattle.asset_reasons.specs.declared.reasons.Shape.TheVariants as Shape'
use Rattle.asset_reasons.specs.Mistakes.{Found}

-- what stands before the word that a reason is about, whether it has one, and what stands after it
abbrev pub Words : Type 0
Words = List ℕ × Bool × List ℕ

-- a byte of a word as it is printed: itself if it is printable ASCII and no space, and a question mark otherwise
unfoldable pub shown_byte : ℕ → ℕ
shown_byte byte = cond (nat_lt 32 byte && nat_lt byte 127) byte 63

-- a word as it is printed: its first 40 bytes
unfoldable pub shown : List ℕ → List ℕ
shown word = map shown_byte (take 40 word)

-- which operands a shape wants
unfoldable pub wanted : Shape → List ℕ
wanted Shape'.ObjectAndValue = codes " wants x v"
wanted Shape'.TxnAndParent = codes " wants t or t p"
wanted Shape'.OneTxn = codes " wants t"
wanted Shape'.TxnAndObject = codes " wants t x"
wanted Shape'.TxnObjectAndValue = codes " wants t x v"
wanted Shape'.TxnObjectAndAmount = codes " wants t x d"
wanted Shape'.TxnsOpsAndSet = codes " wants t u ops set"
wanted Shape'.TxnsAndSet = codes " wants t u set"
wanted Shape'.KindAndTxns = codes " wants kind t u"

-- a reason that is about no word
abbrev pub plain : List ℕ → Words
plain text = (text, false, [])

-- a reason that is about the word after it
abbrev pub before_word : List ℕ → Words
before_word text = (text, true, [])

-- the words of each reason
unfoldable pub words_of : Reason → Words
words_of Reason'.TooLong = plain (codes "more than 4096 bytes")
words_of Reason'.ByteOrderMark = plain (codes "byte order mark at the start")
words_of Reason'.CarriageReturn = plain (codes "carriage return before the end")
words_of Reason'.Tab = plain (codes "tab")
words_of Reason'.SpacesAlone = plain (codes "spaces alone")
words_of Reason'.SpaceAtStart = plain (codes "space at the start")
words_of Reason'.SpaceAtEnd = plain (codes "space at the end")
words_of Reason'.TwoSpaces = plain (codes "two spaces in a row")
words_of Reason'.CommentAfter = plain (codes "comment after a step")
words_of Reason'.SpaceAtComma = plain (codes "space beside a comma")
words_of Reason'.CapitalLetter = before_word (codes "capital letter in ")
words_of Reason'.UnknownWord = before_word (codes "unknown word ")
words_of (Reason'.Wants shape) = ([], true, wanted shape)
words_of Reason'.PlusSign = before_word (codes "plus sign in ")
words_of Reason'.LeadingZero = before_word (codes "leading zero in ")
words_of Reason'.MinusZero = plain (codes "zero with a minus sign")
words_of Reason'.NumberOutOfRange = plain (codes "number out of range")
words_of Reason'.ValueOutOfRange = plain (codes "value out of range")
words_of Reason'.NoNumber = before_word (codes "not a number: ")
words_of Reason'.NoValue = before_word (codes "not a value: ")
words_of Reason'.SwappedOperations = plain (codes "wr is written rw")
words_of Reason'.NoOperations = before_word (codes "unknown operations ")
words_of Reason'.NoKind = before_word (codes "unknown kind ")
words_of Reason'.LoneComma = plain (codes "comma without an object on each side")
words_of Reason'.TooManyObjects = plain (codes "more than 16 objects in a set")
words_of Reason'.TwiceInSet = plain (codes "object twice in a set")
words_of Reason'.ObjectAfterStep = plain (codes "object after a step")
words_of Reason'.GivenTwice = (codes "object ", true, codes " given twice")

-- a word among the words of a reason, if it is about one
unfoldable pub said_with : Words → List ℕ → List ℕ
said_with words word = words.0 ++ cond words.1 (shown word) [] ++ words.2

-- the text of a reason, about its word
unfoldable pub reason_text : Found → List ℕ
reason_text told = said_with (words_of told.0) told.1

-- the line that names a bad line by its number, with its reason; nothing if the line is not bad
unfoldable pub mistake_line : ℕ → Option Found → List ℕ
mistake_line number None = []
mistake_line number (Some told) = codes "line " ++ decimal number ++ codes ": " ++ reason_text told ++ line_end
