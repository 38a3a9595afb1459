-- What the first word of a text says of objects.
use Rattle.std.proofs.Common.{◌≡◌, ℕ, ◌+◌, ◌<◌, ◌≤◌, ◌==◌, ◌⊎◌, inl, inr, Bool, true, false, cond, List, [], ◌∷◌, ◌++◌, length, get_or, take, drop, Option, None, Some, refl, sym, ap, ◌∙◌, arith, add-one, drop-cons, take-append-drop}
use Rattle.std.specs.Prelude.{nat_le, nat_lt, option_map, option_and_then, IfSome, IfNone, MatchOption}
use Rattle.std.specs.Char.{is_ascii_digit}
use Rattle.std.specs.List.{list_all, onto_first}
use Rattle.std.proofs.lemmas.Bool.{eqb-true, eq-eqb, true≢false}
use Rattle.std.proofs.lemmas.List.{get_or-take, get_or_past, length-take, take-take}
use Rattle.std.proofs.lemmas.List.Elements.{All-head, All-tail}
use Rattle.std.proofs.lemmas.List.Splits.{slice_split-cons_no, slice_split_at}
use Rattle.asset_names.specs.declared.names.Ob.{Ob}
use Rattle.asset_names.specs.declared.sets.ObSet.{ObSet}
use Rattle.asset_names.specs.declared.sets.ObSet.TheVariants.{Listed}
use Rattle.asset_names.specs.Sets.{numbers, twice, put_in, rising, HasNoDouble}
use Rattle.asset_grammar.proofs.SetLemmas.{makes_list}
use Rattle.asset_grammar.specs.Lines.{first_line, line_tail, Lacks}
use Rattle.asset_grammar.specs.Numbers.{number_of, IsNumberAt, NoNumberAt}
use Rattle.asset_grammar.specs.Operands.{ob, ob_of}
use Rattle.asset_grammar.specs.Sets.{all_of, gathered, gathered_of, list_of, listed, one_more_object, set_of}
use Rattle.asset_grammar.specs.Words.{parts, taken, Ends, GoesOn, LineLeft}
use Rattle.asset_grammar.proofs.FirstLineLemmas.{drop_first, get_first, get_same, goes_on_before, number_inside, number_lacks_feed, number_on_first, tail_first}
use Rattle.asset_grammar.proofs.LineLemmas.{parts_last}
use Rattle.asset_grammar.proofs.NumberLemmas.{lt_or_le, not_number_past, digits_until, number_digits}
use Rattle.asset_grammar.proofs.WordLemmas.{FirstPart, first_part, taken_first, first_byte, digits_lack}

-- where the first number of a set can end
abbrev Stops : List ℕ → ℕ → Type 0
Stops text size = (size ≡ length text) ⊎ ((get_or text size 0 ≡ 32) ⊎ (get_or text size 0 ≡ 44))

stops_digit : (text : List ℕ) (size : ℕ) → Stops text size → is_ascii_digit (get_or text size 0) ≡ false
stops_digit text size (inl at_end) = rw (get_or_past text size 0 (omega (arith, at_end))) refl
stops_digit text size (inr (inl space)) = rw space refl
stops_digit text size (inr (inr comma)) = rw comma refl

-- the first part of the first word
record FirstNumber (text : List ℕ) (first : FirstPart 32 text) : Type 0 where
  size : ℕ
  rest : List (List ℕ)
  within : size ≤ length text
  is : parts 44 (take first.size text) ≡ take size text ∷ rest
  stops : Stops text size

first_number : (text : List ℕ) (first : FirstPart 32 text) → FirstNumber text first
first_number text first =
    let inner = first_part 44 (take first.size text) in
    let long : length (take first.size text) ≡ first.size = length-take first.size text ∙ omega (arith, first.within) in
    let below : inner.size ≤ first.size = omega (arith, inner.within, long) in
    record {
      size = inner.size;
      rest = inner.rest;
      within = omega (arith, below, first.within);
      is = inner.is ∙ ap (λ (word : List ℕ). word ∷ inner.rest) (take-take inner.size first.size text below);
      stops = elim (lt_or_le inner.size first.size) [
        | inl before ↦ elim inner.stops [
          | inl at_end ↦ absurd (omega (arith, at_end, long, before))
          | inr comma ↦ inr (inr (sym (get_or-take first.size text inner.size 0 before) ∙ comma))
        ]
        | inr past ↦
            let same : inner.size ≡ first.size = omega (arith, below, past) in
            elim first.stops [
              | inl at_end ↦ inl (same ∙ at_end)
              | inr space ↦ inr (inl (ap (λ i. get_or text i 0) same ∙ space))
            ]
      ];
    }

-- nothing is gathered of a part that is no number, or where there is no room
no_object_more : (objects : List Ob) → one_more_object objects None ≡ None
unfolding one_more_object
no_object_more objects = go (nat_lt (length objects) 16) None where
  go : (b : Bool) (nothing : Option (List Ob)) → cond b nothing nothing ≡ nothing
  go true nothing = refl
  go false nothing = refl

pub none_gathered : (objects : List Ob) (text : List ℕ) → ((size : ℕ) → size ≤ length text → Stops text size → number_of (take size text) ≡ None) → taken (gathered_of objects) (parts 32 text) ≡ None
unfolding gathered ob_of
none_gathered objects text none =
    let first = first_part 32 text in
    let number = first_number text first in
    taken_first (gathered_of objects) 32 text first
    ∙ rw (number.is, none number.size number.within number.stops, no_object_more objects) refl

pub no_objects : (objects : List Ob) (text : List ℕ) → NoNumberAt text → taken (gathered_of objects) (parts 32 text) ≡ None
unfolding NoNumberAt
no_objects objects text none = none_gathered objects text (λ size within stops. none size within (stops_digit text size stops))

-- a byte after digits that ends no number of a set
other_byte : (objects : List Ob) (text : List ℕ) (size : ℕ) → size < length text → list_all is_ascii_digit (take size text) ≡ true → is_ascii_digit (get_or text size 0) ≡ false
    → (get_or text size 0 ≡ 32 → ⊥) → (get_or text size 0 ≡ 44 → ⊥) → taken (gathered_of objects) (parts 32 text) ≡ None
other_byte objects text size inside digits no_digit no_space no_comma = none_gathered objects text later where
  not_there : (k : ℕ) → k ≡ size → Stops text k → ⊥
  not_there k same (inl at_end) = omega (arith, same, at_end, inside)
  not_there k same (inr (inl space)) = no_space (sym (ap (λ i. get_or text i 0) same) ∙ space)
  not_there k same (inr (inr comma)) = no_comma (sym (ap (λ i. get_or text i 0) same) ∙ comma)

  later : (k : ℕ) → k ≤ length text → Stops text k → number_of (take k text) ≡ None
  later k within stops =
      let reached : size ≤ k = digits_until text size k (omega arith) digits (stops_digit text k stops) in
      elim (lt_or_le size k) [
        | inl past ↦ not_number_past text size k past within no_digit
        | inr not_past ↦ absurd (not_there k (omega (arith, reached, not_past)) stops)
      ]

-- a list of objects that is full takes none
no_room : (objects : List Ob) (x : Ob) (y : Option Ob) → one_more_object objects (Some x) ≡ None → one_more_object objects y ≡ None
unfolding one_more_object
no_room objects x y full = go (nat_lt (length objects) 16) y full where
  go : (b : Bool) (y : Option Ob) → cond b (Some (objects ++ x ∷ [])) None ≡ None → cond b (option_map (λ z. objects ++ z ∷ []) y) None ≡ None
  go true y h = absurd (cc)
  go false y h = refl

pub full_gathers_none : (objects : List Ob) (x : Ob) (text : List ℕ) → one_more_object objects (Some x) ≡ None → taken (gathered_of objects) (parts 32 text) ≡ None
unfolding gathered
full_gathers_none objects x text full =
    let first = first_part 32 text in
    let number = first_number text first in
    taken_first (gathered_of objects) 32 text first ∙ rw (number.is, no_room objects x (ob_of (take number.size text)) full) refl

-- a front without a separator goes onto the first part
onto_front : (front rest word : List ℕ) (after : List (List ℕ)) → Lacks 32 front → parts 32 rest ≡ word ∷ after → parts 32 (front ++ rest) ≡ (front ++ word) ∷ after
unfolding Lacks parts
onto_front [] rest word after lacks is = is
onto_front (b ∷ front) rest word after lacks is =
    slice_split-cons_no (λ x. x == 32) b (front ++ rest) (All-head (λ x. (x == 32) ≡ false) b front lacks)
    ∙ ap (onto_first b) (onto_front front rest word after (All-tail (λ x. (x == 32) ≡ false) b front lacks) is)

comma_onto : (rest word : List ℕ) (after : List (List ℕ)) → parts 32 rest ≡ word ∷ after → parts 32 (44 ∷ rest) ≡ (44 ∷ word) ∷ after
unfolding parts
comma_onto rest word after is = rw is refl

comma_parts : (front word : List ℕ) → Lacks 44 front → parts 44 (front ++ 44 ∷ word) ≡ front ∷ parts 44 word
unfolding parts Lacks
comma_parts front word lacks = slice_split_at (λ b. b == 44) front 44 word lacks refl

-- an object before a comma is gathered, and then those after it
before_comma : (objects more : List Ob) (text : List ℕ) (number size : ℕ) → IsNumberAt text number size → get_or text size 0 ≡ 44 → size < length text → one_more_object objects (Some (ob number)) ≡ Some more
    → taken (gathered_of objects) (parts 32 text) ≡ taken (gathered_of more) (parts 32 (drop (size + 1) text))
unfolding gathered ob_of taken
before_comma objects more text number size at comma inside added =
    let digits = number_digits (take size text) number at.is in
    let rest : drop size text ≡ 44 ∷ drop (size + 1) text = rw (add-one, ← comma) (drop-cons text size 0 inside) in
    let whole : text ≡ take size text ++ 44 ∷ drop (size + 1) text = sym (take-append-drop size text) ∙ ap (λ (l : List ℕ). take size text ++ l) rest in
    let later = first_part 32 (drop (size + 1) text) in
    let word : List ℕ = take later.size (drop (size + 1) text) in
    let cut : parts 32 (44 ∷ drop (size + 1) text) ≡ (44 ∷ word) ∷ later.rest = comma_onto (drop (size + 1) text) word later.rest later.is in
    let words : parts 32 text ≡ (take size text ++ 44 ∷ word) ∷ later.rest =
    ap (parts 32) whole ∙ onto_front (take size text) (44 ∷ drop (size + 1) text) (44 ∷ word) later.rest (digits_lack 32 (take size text) refl digits) cut in
    rw (words, comma_parts (take size text) word (digits_lack 44 (take size text) refl digits), at.is, added, later.is) refl

-- the last object is gathered
last_object : (objects more : List Ob) (text : List ℕ) (number size : ℕ) (after : List (List ℕ)) → IsNumberAt text number size → (Lacks 32 (take size text) → parts 32 text ≡ take size text ∷ after)
    → one_more_object objects (Some (ob number)) ≡ Some more → taken (gathered_of objects) (parts 32 text) ≡ Some (more, after)
unfolding gathered ob_of taken
last_object objects more text number size after at cuts added =
    let digits = number_digits (take size text) number at.is in
    rw (cuts (digits_lack 32 (take size text) refl digits), parts_last 44 (take size text) (digits_lack 44 (take size text) refl digits), at.is, added) refl

-- on the first line of a text: an object before a comma, and the last one, after which the word ends or goes on otherwise
pub before_comma_first : (objects more : List Ob) (text : List ℕ) (number size : ℕ) → IsNumberAt text number size → get_or text size 0 ≡ 44 → size < length text → one_more_object objects (Some (ob number)) ≡ Some more
    → (taken (gathered_of objects) (parts 32 (first_line text)) ≡ taken (gathered_of more) (parts 32 (first_line (drop (size + 1) text)))) × (line_tail text ≡ line_tail (drop (size + 1) text))
before_comma_first objects more text number size at comma inside added =
    let before = goes_on_before text size (number_inside text number size at) inside (λ feed. absurd (cc (comma, feed))) in
    let on_line = number_on_first text number size at in (
      rw (drop_first text (size + 1) (omega (arith, before))) (before_comma objects more (first_line text) number size on_line (get_first text size before ∙ comma) before added),
      sym (tail_first text (size + 1) (omega (arith, before))),
    )

pub ends_set : (objects more : List Ob) (text : List ℕ) (number size : ℕ) (end : Option LineLeft) → IsNumberAt text number size → one_more_object objects (Some (ob number)) ≡ Some more → (get_or text size 0 == 44) ≡ false
    → IfSome end (λ after. Lacks 10 (take size text) → Ends text size after) → IfNone end (Lacks 10 (take size text) → GoesOn text size)
    → MatchOption end (taken (gathered_of objects) (parts 32 (first_line text)) ≡ None) (λ after. (taken (gathered_of objects) (parts 32 (first_line text)) ≡ Some (more, after.words)) × (after.tail ≡ line_tail text))
ends_set objects more text number size (Some after) at added no_comma ends goes_on =
    let ended = ends (number_lacks_feed text number size at) in
    (last_object objects more (first_line text) number size after.words (number_on_first text number size at) ended.words_are added, ended.tail_is)
ends_set objects more text number size None at added no_comma ends goes_on =
    let on = goes_on (number_lacks_feed text number size at) in
    let on_line = number_on_first text number size at in
    let other = get_same 44 text size (number_inside text number size at) refl refl ∙ no_comma in
    other_byte objects (first_line text) size on.inside (number_digits (take size (first_line text)) number on_line.is) on_line.ends on.no_space (λ comma. true≢false (sym (eq-eqb _ _ comma) ∙ other))

-- a word that begins with `a` is `all`, or no set
starts_inside : (text : List ℕ) → get_or text 0 0 ≡ 97 → 0 < length text
starts_inside [] start = absurd (cc)
starts_inside (b ∷ text) start = omega arith

gathers_none : (word : List ℕ) (rest : List (List ℕ)) (o : Option (List Ob)) → option_map {U = List Ob × List (List ℕ)} (λ objects. (objects, rest)) o ≡ None → o ≡ None
gathers_none word rest None h = refl
gathers_none word rest (Some objects) h = absurd (cc)

set_is_all : (word : List ℕ) → gathered_of [] word ≡ None → set_of word ≡ all_of word
unfolding set_of all_of
set_is_all word none = rw none refl

same_made : {A B : Type 0} (rest : B) (o o' : Option A) → o ≡ o' → option_map {U = A × B} (λ x. (x, rest)) o ≡ option_map {U = A × B} (λ x. (x, rest)) o'
same_made rest o o' e = rw e refl

starts_so : (text : List ℕ) → get_or text 0 0 ≡ 97 → taken (gathered_of []) (parts 32 text) ≡ None
starts_so text start = other_byte [] text 0 (starts_inside text start) refl (rw start refl) (λ space. absurd (cc (start, space))) (λ comma. absurd (cc (start, comma)))

pub all_read : (text : List ℕ) → (get_or text 0 0 == 97) ≡ true → taken set_of (parts 32 text) ≡ taken all_of (parts 32 text)
all_read text starts = go (first_part 32 text) where
  go : FirstPart 32 text → taken set_of (parts 32 text) ≡ taken all_of (parts 32 text)
  go first =
      let none = starts_so text (eqb-true _ _ starts) in
      let word = gathers_none (take first.size text) first.rest (gathered_of [] (take first.size text)) (sym (taken_first (gathered_of []) 32 text first) ∙ none) in
      rw (taken_first set_of 32 text first, taken_first all_of 32 text first) (same_made first.rest (set_of (take first.size text)) (all_of (take first.size text)) (set_is_all (take first.size text) word))

-- another word lists its objects
not_all : (word : List ℕ) → (get_or word 0 0 == 97) ≡ false → set_of word ≡ list_of word
unfolding set_of
not_all [] other = refl
not_all (b ∷ word) other = rw other refl

-- the set of the objects that are gathered, and the words after it
abbrev pub set_made : Option (List Ob × List (List ℕ)) → Option (ObSet × List (List ℕ))
set_made None = None
set_made (Some a) = option_map (λ set. (set, a.1)) (listed a.0)

set_mapped : (rest : List (List ℕ)) (o : Option (List Ob)) → option_map {U = ObSet × List (List ℕ)} (λ set. (set, rest)) (option_and_then listed o) ≡ set_made (option_map (λ objects. (objects, rest)) o)
set_mapped rest None = refl
set_mapped rest (Some objects) = refl

pub listed_read : (text : List ℕ) → (get_or text 0 0 == 97) ≡ false → taken set_of (parts 32 text) ≡ taken list_of (parts 32 text)
listed_read text other =
    let first = first_part 32 text in
    taken_first set_of 32 text first
    ∙ ap (option_map (λ set. (set, first.rest))) (not_all (take first.size text) (first_byte 97 text first.size refl other))
    ∙ sym (taken_first list_of 32 text first)

pub list_made : (text : List ℕ) → taken list_of (parts 32 text) ≡ set_made (taken (gathered_of []) (parts 32 text))
list_made text =
    let first = first_part 32 text in
    taken_first list_of 32 text first
    ∙ set_mapped first.rest (gathered_of [] (take first.size text))
    ∙ ap set_made (sym (taken_first (gathered_of []) 32 text first))

-- one object makes a list
alone : (x : Ob) → HasNoDouble (numbers (x ∷ []))
unfolding HasNoDouble numbers twice
alone x m = go (x.0 == m) where
  go : (b : Bool) → nat_le 2 (0 + cond b 1 0) ≡ false
  go true = refl
  go false = refl

pub one_listed : (x : Ob) → listed (x ∷ []) ≡ Some (Listed (x ∷ []))
unfolding listed rising put_in
one_listed x = rw (makes_list (x ∷ []) (omega arith) (omega arith) (alone x)) refl
