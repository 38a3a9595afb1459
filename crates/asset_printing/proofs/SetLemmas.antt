-- A set of objects that is printed reads back.
use Rattle.std.proofs.Common.{◌≡◌, ℕ, ◌+◌, ◌<◌, ◌≤◌, ◌^◌, ◌==◌, true, false, List, [], ◌∷◌, ◌++◌, length, map, refl, sym, ap, ◌∙◌, arith, append_assoc}
use Rattle.std.specs.Prelude.{Some, codes, nat_lt}
use Rattle.std.specs.Char.{is_ascii_digit}
use Rattle.std.specs.Fmt.{decimal}
use Rattle.std.specs.Str.{bytes_eq}
use Rattle.std.specs.List.{list_all, slice_split}
use Rattle.std.specs.List.Sorted.{IsStrictlyIncreasing}
use Rattle.std.proofs.lemmas.Bool.{and_parts, lt-ltb}
use Rattle.std.proofs.lemmas.Fmt.{decimal_nonempty, digits_decimal}
use Rattle.std.proofs.lemmas.List.{append-nil, length-append}
use Rattle.std.proofs.lemmas.List.Elements.{All-append, All-cons, All-head, All-tail}
use Rattle.std.proofs.lemmas.List.Splits.{slice_split_at, slice_split_none}
use Rattle.asset_names.specs.declared.names.Ob.{Ob}
use Rattle.asset_names.specs.declared.sets.ObSet.TheVariants.{All, Listed}
use Rattle.asset_names.specs.Sets.{numbers}
use Rattle.asset_grammar.specs.Lines.{Lacks}
use Rattle.asset_grammar.specs.Words.{parts}
use Rattle.asset_grammar.specs.Operands.{ob_of}
use Rattle.asset_grammar.specs.Sets.{set_of, gathered, one_more_object, listed}
use Rattle.asset_grammar.proofs.NumberLemmas.{own}
use Rattle.asset_grammar.proofs.NumberLaws.{number_of-decimal}
use Rattle.asset_grammar.proofs.SetLemmas.{makes_list}
use Rattle.asset_entries.proofs.StoredSetLemmas.{rising_already, rising_differ}
use Rattle.asset_printing.specs.Printed.{AreNumbers, list_text, more_text, set_text}
use Rattle.asset_printing.proofs.WordLemmas.{digit_is_not, number_lacks, text_lacks}

pub head_small : (x : Ob) (objects : List Ob) → AreNumbers (x ∷ objects) → x.0 < 2 ^ 64
unfolding AreNumbers
head_small x objects small = All-head (λ (y : Ob). y.0 < 2 ^ 64) x objects small

pub tail_small : (x : Ob) (objects : List Ob) → AreNumbers (x ∷ objects) → AreNumbers objects
unfolding AreNumbers
tail_small x objects small = All-tail (λ (y : Ob). y.0 < 2 ^ 64) x objects small

pub none_small : AreNumbers []
unfolding AreNumbers
none_small = λ k d below. absurd (omega (arith, below))

pub no_objects_small : (objects : List Ob) → length objects ≡ 0 → AreNumbers objects
unfolding AreNumbers
no_objects_small objects none = λ k d below. absurd (omega (arith, below, none))

pub one_small : (x : Ob) (objects : List Ob) → x.0 < 2 ^ 64 → AreNumbers objects → AreNumbers (x ∷ objects)
unfolding AreNumbers
one_small x objects first rest = All-cons (λ (y : Ob). y.0 < 2 ^ 64) x objects first rest

pub one_more_small : (objects : List Ob) (x : Ob) → AreNumbers objects → x.0 < 2 ^ 64 → AreNumbers (objects ++ x ∷ [])
unfolding AreNumbers
one_more_small objects x small last = All-append (λ (y : Ob). y.0 < 2 ^ 64) objects (x ∷ []) small (All-cons (λ (y : Ob). y.0 < 2 ^ 64) x [] last none_small)

pub more_text_pushed : (objects : List Ob) (x : Ob) → more_text (objects ++ x ∷ []) ≡ more_text objects ++ 44 ∷ decimal x.0
unfolding more_text
more_text_pushed [] x = append-nil (44 ∷ decimal x.0)
more_text_pushed (y ∷ objects) x = ap (λ l. (44 ∷ decimal y.0) ++ l) (more_text_pushed objects x) ∙ sym (append_assoc (44 ∷ decimal y.0) (more_text objects) (44 ∷ decimal x.0))

-- the word is cut at its commas into the numbers
parts_back : (x : Ob) (objects : List Ob) → AreNumbers (x ∷ objects) → parts 44 (list_text (x ∷ objects)) ≡ map (λ (y : Ob). decimal y.0) (x ∷ objects)
unfolding parts list_text more_text Lacks
parts_back x [] small =
    ap (slice_split (λ b. b == 44)) (append-nil (decimal x.0)) ∙ slice_split_none (λ b. b == 44) (decimal x.0) (number_lacks 44 x.0 refl (head_small x [] small))
parts_back x (y ∷ objects) small =
    slice_split_at (λ b. b == 44) (decimal x.0) 44 (decimal y.0 ++ more_text objects) (number_lacks 44 x.0 refl (head_small x (y ∷ objects) small)) refl
    ∙ ap (λ l. decimal x.0 ∷ l) (parts_back y objects (tail_small x (y ∷ objects) small))

-- the numbers name the objects
gathered_back : (before objects : List Ob) → length before + length objects ≤ 16 → AreNumbers objects → gathered before (map (λ (y : Ob). decimal y.0) objects) ≡ Some (before ++ objects)
unfolding gathered one_more_object ob_of
gathered_back before [] few small = ap Some (sym (append-nil before))
gathered_back before (x ∷ objects) few small =
    let room : nat_lt (length before) 16 ≡ true = lt-ltb (length before) 16 (omega (arith, few)) in
    rw (number_of-decimal x.0 (head_small x objects small), room) (gathered_back (before ++ x ∷ []) objects (omega (arith, few, length-append before (x ∷ []))) (tail_small x objects small) ∙ ap Some (append_assoc before (x ∷ []) objects))

-- a text that begins with a digit is another than `all`
not_all : (bs rest : List ℕ) → 0 < length bs → list_all is_ascii_digit bs ≡ true → bytes_eq (bs ++ rest) (codes "all") ≡ false
not_all [] rest some digits = absurd (omega (arith, some))
not_all (b ∷ bs) rest some digits = rw (digit_is_not 97 b refl (and_parts _ _ digits).0) refl

list_not_all : (x : Ob) (objects : List Ob) → x.0 < 2 ^ 64 → bytes_eq (list_text (x ∷ objects)) (codes "all") ≡ false
unfolding list_text
list_not_all x objects small = not_all (decimal x.0) (more_text objects) (decimal_nonempty x.0 small) (digits_decimal own x.0 small)

-- and than `any`
not_any : (bs : List ℕ) → 0 < length bs → list_all is_ascii_digit bs ≡ true → bytes_eq bs (codes "any") ≡ false
not_any [] some digits = absurd (omega (arith, some))
not_any (b ∷ bs) some digits = rw (digit_is_not 97 b refl (and_parts _ _ digits).0) refl

pub number_not_any : (number : ℕ) → number < 2 ^ 64 → bytes_eq (decimal number) (codes "any") ≡ false
number_not_any number small = not_any (decimal number) (decimal_nonempty number small) (digits_decimal own number small)

-- a list of objects that is printed reads back
pub list_reads : (objects : List Ob) → 0 < length objects → length objects ≤ 16 → IsStrictlyIncreasing (numbers objects) → AreNumbers objects → set_of (list_text objects) ≡ Some (Listed objects)
unfolding set_of listed
list_reads [] some few rises small = absurd (omega (arith, some))
list_reads (x ∷ objects) some few rises small =
    let first = head_small x objects small in
    let other : bytes_eq (list_text (x ∷ objects)) (codes "all") ≡ false = list_not_all x objects first in
    let same = rising_already (x ∷ objects) rises in
    rw (other, parts_back x objects small, gathered_back [] (x ∷ objects) (omega (arith, few)) small, makes_list (x ∷ objects) some few (rising_differ (x ∷ objects) rises), same) refl

-- and has no space
more_lacks : (objects : List Ob) → AreNumbers objects → Lacks 32 (more_text objects)
unfolding Lacks more_text
more_lacks [] small = λ k d below. absurd (omega (arith, below))
more_lacks (x ∷ objects) small =
    All-append (λ b. (b == 32) ≡ false) (44 ∷ decimal x.0) (more_text objects) (All-cons (λ b. (b == 32) ≡ false) 44 (decimal x.0) refl (number_lacks 32 x.0 refl (head_small x objects small))) (more_lacks objects (tail_small x objects small))

pub list_lacks : (objects : List Ob) → AreNumbers objects → Lacks 32 (list_text objects)
unfolding Lacks list_text
list_lacks [] small = λ k d below. absurd (omega (arith, below))
list_lacks (x ∷ objects) small =
    All-append (λ b. (b == 32) ≡ false) (decimal x.0) (more_text objects) (number_lacks 32 x.0 refl (head_small x objects small)) (more_lacks objects (tail_small x objects small))

-- and so for sets
pub set_reads_all : set_of (set_text All) ≡ Some All
unfolding set_of set_text
set_reads_all = refl

pub set_lacks_all : Lacks 32 (set_text All)
unfolding set_text
set_lacks_all = text_lacks 32 (codes "all") refl

pub set_reads_listed : (objects : List Ob) → 0 < length objects → length objects ≤ 16 → IsStrictlyIncreasing (numbers objects) → AreNumbers objects → set_of (set_text (Listed objects)) ≡ Some (Listed objects)
unfolding set_text
set_reads_listed objects some few rises small = list_reads objects some few rises small

pub set_lacks_listed : (objects : List Ob) → AreNumbers objects → Lacks 32 (set_text (Listed objects))
unfolding set_text
set_lacks_listed objects small = list_lacks objects small
