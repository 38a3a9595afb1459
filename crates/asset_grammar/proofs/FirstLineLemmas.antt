-- The first line of a text, and what stands from its end on.
use Rattle.std.proofs.Common.{◌≡◌, ℕ, zero, suc, ◌+◌, ◌-◌, ◌<◌, ◌≤◌, ◌==◌, ◌||◌, ◌⊎◌, inl, inr, Bool, true, false, cond, List, [], ◌∷◌, length, get_or, take, drop, None, Some, refl, sym, ap, ◌∙◌, arith, add-one, drop-cons}
use Rattle.std.specs.Prelude.{nat_lt}
use Rattle.std.specs.Char.{is_ascii_digit}
use Rattle.std.specs.List.{onto_first, position}
use Rattle.std.proofs.lemmas.Bool.{eqb-true, eq-eqb, lt-ltb, le-ltb, true≢false, cases_Bool}
use Rattle.std.proofs.lemmas.List.{drop_all, get_or_past, get_or-take, length-take, take_all}
use Rattle.std.proofs.lemmas.List.Elements.{All-head, All-tail}
use Rattle.std.proofs.lemmas.List.Quantifiers.{position-Some}
use Rattle.asset_grammar.specs.Grammar.{is_blank}
use Rattle.asset_grammar.specs.Lines.{first_line, line_tail, lines, Lacks}
use Rattle.asset_grammar.specs.Numbers.{negative_value, number_of, positive_value, value_of, IsNumberAt, NoNumberAt}
use Rattle.asset_grammar.specs.Words.{parts, line_left, taken, Ends, GoesOn, IsWordAt, LineLeft}
use Rattle.asset_grammar.proofs.LineLemmas.{cut_at_position, fails_without_position, lacks_without_position}
use Rattle.asset_grammar.proofs.NumberLemmas.{lt_or_le, number_digits}
use Rattle.asset_grammar.proofs.WordLemmas.{digits_lack, first_part, parts_after, parts_all, signed_read, unsigned_read, valued}

-- a text is its first line and what stands from its end on
pub length-first : (text : List ℕ) → length text ≡ length (first_line text) + length (line_tail text)
unfolding first_line line_tail
length-first [] = refl
length-first (b ∷ text) = go (b == 10) (length-first text) where
  go : (feed : Bool) → length text ≡ length (first_line text) + length (line_tail text) → length (b ∷ text) ≡ length (cond feed [] (b ∷ first_line text)) + length (cond feed (b ∷ text) (line_tail text))
  go true is = omega arith
  go false is = omega (arith, is)

-- the lines of a text are its first one and those after its line feed
pub lines_first : (text : List ℕ) → 0 < length text → lines text ≡ first_line text ∷ lines (drop 1 (line_tail text))
unfolding lines first_line line_tail
lines_first [] some = absurd (omega (arith, some))
lines_first (b ∷ []) some = go (b == 10) where
  go : (feed : Bool) → cond feed ([] ∷ []) (onto_first b []) ≡ cond feed [] (b ∷ []) ∷ lines (drop 1 (cond feed (b ∷ []) []))
  go true = refl
  go false = refl
lines_first (b ∷ c ∷ text) some = go (b == 10) (lines_first (c ∷ text) (omega arith)) where
  go : (feed : Bool) → lines (c ∷ text) ≡ first_line (c ∷ text) ∷ lines (drop 1 (line_tail (c ∷ text)))
      → cond feed ([] ∷ lines (c ∷ text)) (onto_first b (lines (c ∷ text))) ≡ cond feed [] (b ∷ first_line (c ∷ text)) ∷ lines (drop 1 (cond feed (b ∷ c ∷ text) (line_tail (c ∷ text))))
  go true is = refl
  go false is = ap (onto_first b) is

-- bytes without a line feed are of the first line
pub inside_first : (text : List ℕ) (k : ℕ) → k ≤ length text → Lacks 10 (take k text) → k ≤ length (first_line text)
unfolding first_line Lacks
inside_first text zero within lacks = omega arith
inside_first [] (suc k) within lacks = absurd (omega (arith, within))
inside_first (b ∷ text) (suc k) within lacks = rw (All-head (λ x. (x == 10) ≡ false) b (take k text) lacks) (omega (arith, inside_first text k (omega (arith, within)) (All-tail (λ x. (x == 10) ≡ false) b (take k text) lacks)))

-- within the first line it is the text
pub take_first : (text : List ℕ) (k : ℕ) → k ≤ length (first_line text) → take k (first_line text) ≡ take k text
unfolding first_line
take_first text zero inside = refl
take_first [] (suc k) inside = refl
take_first (b ∷ text) (suc k) inside = go (b == 10) inside (take_first text k) where
  go : (feed : Bool) → suc k ≤ length (cond feed [] (b ∷ first_line text)) → (k ≤ length (first_line text) → take k (first_line text) ≡ take k text) → take (suc k) (cond feed [] (b ∷ first_line text)) ≡ b ∷ take k text
  go true inside later = absurd (omega (arith, inside))
  go false inside later = ap (λ (l : List ℕ). b ∷ l) (later (omega (arith, inside)))

pub drop_first : (text : List ℕ) (k : ℕ) → k ≤ length (first_line text) → first_line (drop k text) ≡ drop k (first_line text)
unfolding first_line
drop_first text zero inside = refl
drop_first [] (suc k) inside = refl
drop_first (b ∷ text) (suc k) inside = go (b == 10) inside (drop_first text k) where
  go : (feed : Bool) → suc k ≤ length (cond feed [] (b ∷ first_line text)) → (k ≤ length (first_line text) → first_line (drop k text) ≡ drop k (first_line text)) → first_line (drop k text) ≡ drop (suc k) (cond feed [] (b ∷ first_line text))
  go true inside later = absurd (omega (arith, inside))
  go false inside later = later (omega (arith, inside))

pub tail_first : (text : List ℕ) (k : ℕ) → k ≤ length (first_line text) → line_tail (drop k text) ≡ line_tail text
unfolding first_line line_tail
tail_first text zero inside = refl
tail_first [] (suc k) inside = refl
tail_first (b ∷ text) (suc k) inside = go (b == 10) inside (tail_first text k) where
  go : (feed : Bool) → suc k ≤ length (cond feed [] (b ∷ first_line text)) → (k ≤ length (first_line text) → line_tail (drop k text) ≡ line_tail text) → line_tail (drop k text) ≡ cond feed (b ∷ text) (line_tail text)
  go true inside later = absurd (omega (arith, inside))
  go false inside later = later (omega (arith, inside))

pub get_first : (text : List ℕ) (k : ℕ) → k < length (first_line text) → get_or (first_line text) k 0 ≡ get_or text k 0
unfolding first_line
get_first [] k inside = refl
get_first (b ∷ text) k inside = go (b == 10) k inside (get_first text) where
  go : (feed : Bool) (k : ℕ) → k < length (cond feed [] (b ∷ first_line text)) → ((i : ℕ) → i < length (first_line text) → get_or (first_line text) i 0 ≡ get_or text i 0) → get_or (cond feed [] (b ∷ first_line text)) k 0 ≡ get_or (b ∷ text) k 0
  go true k inside later = absurd (omega (arith, inside))
  go false zero inside later = refl
  go false (suc k) inside later = later k (omega (arith, inside))

-- no line feed stands in it, and one stands after it if the text goes on
no_feed_inside : (text : List ℕ) (k : ℕ) → k < length (first_line text) → get_or text k 0 ≡ 10 → ⊥
unfolding first_line
no_feed_inside [] k inside feed = omega (arith, inside)
no_feed_inside (b ∷ text) k inside feed = go (b == 10) refl k inside feed (no_feed_inside text) where
  go : (f : Bool) → (b == 10) ≡ f → (k : ℕ) → k < length (cond f [] (b ∷ first_line text)) → get_or (b ∷ text) k 0 ≡ 10 → ((i : ℕ) → i < length (first_line text) → get_or text i 0 ≡ 10 → ⊥) → ⊥
  go true e k inside feed later = omega (arith, inside)
  go false e zero inside feed later = true≢false (sym (eq-eqb b 10 feed) ∙ e)
  go false e (suc k) inside feed later = later k (omega (arith, inside)) feed

pub after_first : (text : List ℕ) → (length (first_line text) ≡ length text) ⊎ (get_or text (length (first_line text)) 0 ≡ 10)
unfolding first_line
after_first [] = inl refl
after_first (b ∷ text) = go (b == 10) refl (after_first text) where
  go : (f : Bool) → (b == 10) ≡ f → (length (first_line text) ≡ length text) ⊎ (get_or text (length (first_line text)) 0 ≡ 10)
      → (length (cond f [] (b ∷ first_line text)) ≡ length (b ∷ text)) ⊎ (get_or (b ∷ text) (length (cond f [] (b ∷ first_line text))) 0 ≡ 10)
  go true e rest = inr (eqb-true b 10 e)
  go false e (inl same) = inl (ap suc same)
  go false e (inr feed) = inr feed

pub end_is_no_digit : (text : List ℕ) → is_ascii_digit (get_or text (length (first_line text)) 0) ≡ false
end_is_no_digit text = elim (after_first text) [
  | inl same ↦ rw (get_or_past text (length (first_line text)) 0 (omega (arith, same))) refl
  | inr feed ↦ rw feed refl
]

-- another byte stands at a place of the text if it stands there on the line
pub get_same : (byte : ℕ) (text : List ℕ) (k : ℕ) → k ≤ length (first_line text) → (10 == byte) ≡ false → (0 == byte) ≡ false → (get_or (first_line text) k 0 == byte) ≡ (get_or text k 0 == byte)
get_same byte text k inside no_feed no_zero = elim (lt_or_le k (length (first_line text))) [
  | inl before ↦ ap (λ b. b == byte) (get_first text k before)
  | inr past ↦
      let here : k ≡ length (first_line text) = omega (arith, inside, past) in
      let off : get_or (first_line text) k 0 ≡ 0 = get_or_past (first_line text) k 0 past in
      rw (off, no_zero) (sym (elim (after_first text) [
        | inl same ↦ rw (get_or_past text k 0 (omega (arith, same, here))) no_zero
        | inr feed ↦ rw (here, feed) no_feed
      ]))
]

-- what writes no number at the start of a text writes none at the start of its first line, and a number is one there too
pub no_number_first : (text : List ℕ) → NoNumberAt text → NoNumberAt (first_line text)
unfolding NoNumberAt
no_number_first text none = λ size within ends.
    rw (take_first text size within) (none size (omega (arith, within, length-first text)) (elim (lt_or_le size (length (first_line text))) [
      | inl before ↦ rw (get_first text size before) at ends
      | inr past ↦
          let here : size ≡ length (first_line text) = omega (arith, within, past) in
          rw here (end_is_no_digit text)
    ]))

pub number_lacks_feed : (text : List ℕ) (number size : ℕ) → IsNumberAt text number size → Lacks 10 (take size text)
number_lacks_feed text number size at = digits_lack 10 (take size text) refl (number_digits (take size text) number at.is)

pub number_inside : (text : List ℕ) (number size : ℕ) → IsNumberAt text number size → size ≤ length (first_line text)
number_inside text number size at = inside_first text size at.within (number_lacks_feed text number size at)

pub number_on_first : (text : List ℕ) (number size : ℕ) → IsNumberAt text number size → IsNumberAt (first_line text) number size
number_on_first text number size at =
    let inside = number_inside text number size at in
    record {
      within = inside;
      is = rw (take_first text size inside) at.is;
      ends = elim (lt_or_le size (length (first_line text))) [
        | inl before ↦ rw (get_first text size before) at.ends
        | inr past ↦ rw (get_or_past (first_line text) size 0 past) refl
      ];
    }

-- where the text goes on without a line feed, so does the line
pub goes_on_before : (text : List ℕ) (k : ℕ) → k ≤ length (first_line text) → k < length text → (get_or text k 0 ≡ 10 → ⊥) → k < length (first_line text)
goes_on_before text k inside more no_feed = elim (lt_or_le k (length (first_line text))) [
  | inl before ↦ before
  | inr past ↦
      let here : k ≡ length (first_line text) = omega (arith, inside, past) in
      elim (after_first text) [
        | inl same ↦ absurd (omega (arith, same, here, more))
        | inr feed ↦ absurd (no_feed (ap (λ i. get_or text i 0) here ∙ feed))
      ]
]

-- at a line feed the rest of the text is what stands from the end of the line on
pub tail_here : (text : List ℕ) (k : ℕ) → k ≤ length (first_line text) → k < length text → get_or text k 0 ≡ 10 → drop k text ≡ line_tail text
unfolding line_tail
tail_here text k inside more feed =
    let rest : drop k text ≡ 10 ∷ drop (k + 1) text = rw (add-one, ← feed) (drop-cons text k 0 more) in
    rest ∙ ap line_tail (sym rest) ∙ tail_first text k inside

-- a word that ends with the text, before a line feed, or before a space
pub ends_with_text : (text : List ℕ) (k : ℕ) → k ≤ length text → k ≡ length text → Lacks 10 (take k text) → Ends text k (line_left true [])
unfolding line_left line_tail
ends_with_text text k within all lacks =
    let inside = inside_first text k within lacks in
    let here : k ≡ length (first_line text) = omega (arith, inside, all, length-first text) in
    record {
      words_are = rw here (parts_all (first_line text));
      tail_is = rw (drop_all k text (omega (arith, all))) at (tail_first text k inside);
    }

pub ends_at_feed : (text : List ℕ) (k : ℕ) → k < length text → get_or text k 0 ≡ 10 → Lacks 10 (take k text) → Ends text k (line_left true (drop k text))
unfolding line_left
ends_at_feed text k more feed lacks =
    let inside = inside_first text k (omega (arith, more)) lacks in
    let here : k ≡ length (first_line text) = elim (lt_or_le k (length (first_line text))) [
      | inl before ↦ absurd (no_feed_inside text k before feed)
      | inr past ↦ omega (arith, inside, past)
    ] in
    record {
      words_are = rw here (parts_all (first_line text));
      tail_is = tail_here text k inside more feed;
    }

pub ends_at_space : (text : List ℕ) (k : ℕ) → k < length text → get_or text k 0 ≡ 32 → Lacks 10 (take k text) → Ends text k (line_left false (drop (k + 1) text))
unfolding line_left
ends_at_space text k more space lacks =
    let inside = inside_first text k (omega (arith, more)) lacks in
    let before = goes_on_before text k inside more (λ feed. absurd (cc (space, feed))) in
    record {
      words_are = rw (drop_first text (k + 1) (omega (arith, before))) (parts_after (first_line text) k before (get_first text k before ∙ space));
      tail_is = tail_first text (k + 1) (omega (arith, before));
    }

pub word_goes_on : (text : List ℕ) (k : ℕ) → k < length text → (get_or text k 0 ≡ 32 → ⊥) → (get_or text k 0 ≡ 10 → ⊥) → Lacks 10 (take k text) → GoesOn text k
word_goes_on text k more no_space no_feed lacks =
    let before = goes_on_before text k (inside_first text k (omega (arith, more)) lacks) more no_feed in
    record { inside = before; no_space = λ space. no_space (sym (get_first text k before) ∙ space) }

-- where a line and a word are cut
pub tail_at_feed : (text : List ℕ) (i : ℕ) → position (λ b. b == 10) text ≡ Some i → drop i text ≡ line_tail text
tail_at_feed text i found =
    let at = position-Some (λ b. b == 10) text i 0 found in
    tail_here text i (inside_first text i (omega (arith, at.0)) (cut_at_position 10 text i found).first) at.0 (eqb-true _ _ at.1)

pub no_feed_no_tail : (text : List ℕ) → position (λ b. b == 10) text ≡ None → [] ≡ line_tail text
unfolding line_tail
no_feed_no_tail text none =
    let lacks : Lacks 10 (take (length text) text) = rw (take_all (length text) text (omega arith)) (lacks_without_position 10 text none) in
    let inside = inside_first text (length text) (omega arith) lacks in
    rw (drop_all (length text) text (omega arith)) at (tail_first text (length text) inside)

pub empty_is_blank : (text : List ℕ) → length text ≡ 0 → true ≡ is_blank (first_line text)
unfolding is_blank first_line
empty_is_blank [] none = refl
empty_is_blank (b ∷ text) none = absurd (omega (arith, none))

pub blank_by_first : (b : ℕ) (text : List ℕ) → (b == 35 || b == 10) ≡ is_blank (first_line (b ∷ text))
unfolding is_blank first_line
blank_by_first b text = go (b == 35) (b == 10) refl where
  go : (hash feed : Bool) → (b == 35) ≡ hash → (hash || feed) ≡ is_blank (cond feed [] (b ∷ first_line text))
  go true true e = refl
  go true false e = sym e
  go false true e = refl
  go false false e = sym e

-- a byte that is a space or a line feed, and one that is neither
either_stops : (b : ℕ) → (b == 32 || b == 10) ≡ true → (b ≡ 32) ⊎ (b ≡ 10)
either_stops b stops = elim (cases_Bool (b == 32)) [
  | inl space ↦ inl (eqb-true b 32 space)
  | inr other ↦ inr (eqb-true b 10 (rw other at stops))
]

neither_stops : (b : ℕ) → (b == 32 || b == 10) ≡ false → ((b == 32) ≡ false) × ((b == 10) ≡ false)
neither_stops b none = elim (cases_Bool (b == 32)) [
  | inl space ↦ absurd (cc (space, none))
  | inr other ↦ (other, rw other at none)
]

pub word_at_stop : (text : List ℕ) (i : ℕ) → position (λ b. b == 32 || b == 10) text ≡ Some i → IsWordAt text i
unfolding Lacks
word_at_stop text i found =
    let before : (k d : ℕ) → k < length (take i text) → ((get_or (take i text) k d == 32) ≡ false) × ((get_or (take i text) k d == 10) ≡ false) =
    λ k d inside.
    let under : k < i = omega (arith, inside, length-take i text) in
    rw (get_or-take i text k d under) (neither_stops (get_or text k d) ((position-Some (λ b. b == 32 || b == 10) text i d found).2 k under)) in
    let at = position-Some (λ b. b == 32 || b == 10) text i 0 found in
    record {
      within = omega (arith, at.0);
      one_line = λ k d inside. (before k d inside).1;
      one_word = λ k d inside. (before k d inside).0;
      stops = inr (either_stops (get_or text i 0) at.1);
    }

pub word_to_the_end : (text : List ℕ) → position (λ b. b == 32 || b == 10) text ≡ None → IsWordAt text (length text)
unfolding Lacks
word_to_the_end text none =
    let fails = fails_without_position (λ b. b == 32 || b == 10) text none in
    record {
      within = omega arith;
      one_line = rw (take_all (length text) text (omega arith)) (λ k d inside. (neither_stops (get_or text k d) (fails k d inside)).1);
      one_word = rw (take_all (length text) text (omega arith)) (λ k d inside. (neither_stops (get_or text k d) (fails k d inside)).0);
      stops = inl refl;
    }

-- a value with a sign is that of the number after it, on the same line
sign_inside : (text : List ℕ) → (get_or text 0 0 == 45) ≡ true → 1 ≤ length (first_line text)
unfolding first_line
sign_inside [] sign = absurd (cc)
sign_inside (b ∷ text) sign = rw (eqb-true b 45 sign) (omega arith)

pub signed_first : (text : List ℕ) → (get_or text 0 0 == 45) ≡ true → taken value_of (parts 32 (first_line text)) ≡ valued negative_value (taken number_of (parts 32 (first_line (drop 1 text))))
signed_first text sign = rw (drop_first text 1 (sign_inside text sign)) (signed_read (first_line text) (get_same 45 text 0 (omega arith) refl refl ∙ sign))

pub tail_after_sign : (text : List ℕ) → (get_or text 0 0 == 45) ≡ true → line_tail (drop 1 text) ≡ line_tail text
tail_after_sign text sign = tail_first text 1 (sign_inside text sign)

pub unsigned_first : (text : List ℕ) → (get_or text 0 0 == 45) ≡ false → taken value_of (parts 32 (first_line text)) ≡ valued positive_value (taken number_of (parts 32 (first_line text)))
unsigned_first text plain = unsigned_read (first_line text) (get_same 45 text 0 (omega arith) refl refl ∙ plain)

-- what is left of a line whose words are gone
pub tail_at_end : (ended : Bool) (text : List ℕ) → (line_left ended text).words ≡ [] → text ≡ (line_left ended text).tail
unfolding line_left
tail_at_end true text gone = refl
tail_at_end false text gone = let first = first_part 32 (first_line text) in absurd (cc (first.is, gone))

-- a word is the first of its line, and something comes after it
pub word_first : (text : List ℕ) (size : ℕ) (after : LineLeft) → IsWordAt text size → Ends text size after → parts 32 (first_line text) ≡ take size text ∷ after.words
word_first text size after word ends =
    let same = take_first text size (inside_first text size word.within word.one_line) in
    rw same at ends.words_are word.one_word

pub word_has_end : (text : List ℕ) (size : ℕ) → IsWordAt text size → GoesOn text size → ⊥
word_has_end text size word goes_on = elim word.stops [
  | inl all ↦ omega (arith, all, goes_on.inside, length-first text)
  | inr (inl space) ↦ goes_on.no_space (get_first text size goes_on.inside ∙ space)
  | inr (inr feed) ↦ no_feed_inside text size goes_on.inside feed
]

-- whether the first line is longer than a line may be
pub is_long : (text tail : List ℕ) → tail ≡ line_tail text → 4096 < length text - length tail → nat_lt 4096 (length (first_line text)) ≡ true
is_long text tail is long = lt-ltb 4096 (length (first_line text)) (omega (arith, long, length-first text, ap length is))

pub is_short : (text tail : List ℕ) → tail ≡ line_tail text → length text - length tail ≤ 4096 → nat_lt 4096 (length (first_line text)) ≡ false
is_short text tail is short = le-ltb 4096 (length (first_line text)) (omega (arith, short, length-first text, ap length is))

-- no lines are left of an empty text
pub no_lines : (text : List ℕ) → length text ≡ 0 → lines text ≡ []
unfolding lines
no_lines [] none = refl
no_lines (b ∷ text) none = absurd (omega (arith, none))
