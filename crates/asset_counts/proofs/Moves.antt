-- Each step on the word keeps its rule.
use Rattle.std.proofs.Common.{◌≡◌, ◌≢◌, ℕ, true, true≢false, List, [], ◌∷◌, ◌++◌, set, sym, refl, ap, ◌∙◌, subst, ⊎_elim, zero-le, arith, slice_index, slice_set}
use mathlib.Core.Option.{some, none}
use lib.ListN.{get_elem?}
use Rattle.atomic_table.specs.Table.{Me, step, keeps, Allows, Splits, Joins, Enters}
use Rattle.atomic_table.proofs.Lists.{at_set, at_snoc, set_again}
use Rattle.asset_names.specs.declared.counts.Counts.{Counts}
use Rattle.asset_names.specs.Counted.{IsBelow}
use Rattle.asset_names.proofs.CountLemmas.{below_itself, below_through}
use Rattle.asset_counts.specs.declared.rule.Last.{Last}
use Rattle.asset_counts.specs.Shown.{no_counts, publisher, reader, IsPackable, packed, unpacked, Fits, All, ShowsPublished, published, looked, entered}

-- zeros are below all counts
none_below : (a : Counts) → IsBelow no_counts a
none_below a = record { entries = zero-le; committed = zero-le; aborted = zero-le }

-- the word of packable counts shows them
pub unpacked-packed : (c : Counts) → IsPackable c → unpacked (packed c) ≡ c
unpacked-packed c f =
    let p : (unpacked (packed c)).entries ≡ c.entries = omega (arith, f.entries, f.committed, f.aborted) in
    let q : (unpacked (packed c)).committed ≡ c.committed = omega (arith, f.entries, f.committed, f.aborted) in
    let r : (unpacked (packed c)).aborted ≡ c.aborted = omega (arith, f.entries, f.committed, f.aborted) in
    λ i. record { entries = p i; committed = q i; aborted = r i }

-- what holds of each seat still does if it holds of one that changed, and of the others as they were
all_set : (F : ℕ → Last → Type 0) (views : List Last) (port : ℕ) (w : Last) → F port w → ((j : ℕ) (u : Last) → j ≢ port → get_elem? views j ≡ some u → F j u) → All F (set views port w)
all_set F views port w mine others j u e = ⊎_elim (λ (x : (j ≡ port) × (w ≡ u)). subst (λ (y : ℕ × Last). F y.0 y.1) (λ i. (sym x.0 i, x.1 i)) mine)
    (λ (x : (j ≢ port) × (get_elem? views j ≡ some u)). others j u x.0 x.1) (at_set views port j w u e)

-- and if it holds of a new one
all_snoc : (F : ℕ → Last → Type 0) (views : List Last) (w : Last) → ((j : ℕ) → F j w) → All F views → All F (views ++ w ∷ [])
all_snoc F views w mine others j u e = ⊎_elim (λ was. others j u was) (λ (same : w ≡ u). subst (F j) same (mine j)) (at_snoc views w u j e)

-- a reader fits if it has seen no more than is shown
reader_fits : (book : ℕ) (shown c : Counts) → IsBelow c shown → (port : ℕ) → Fits book shown port (reader c)
reader_fits book shown c b port = record { below = b; right = λ p. absurd (true≢false (sym p)) }

-- to publish keeps it
pub publishes : (id : ℕ) (me : Me ℕ Last) (c : Counts) (n slots : ℕ) → me.0.publishes ≡ true → n ≡ packed c → IsPackable c → IsBelow me.0.last c
    → Allows ShowsPublished slots id me 0 (λ _. n) (λ _. published (step slots 0 n 0 none) me n)
publishes id me c n slots p is fits up s h len at lt =
    let mine = h.each id me.0 at in
    let now : unpacked n ≡ c = ap unpacked is ∙ unpacked-packed c fits in
    let was : me.0.last ≡ unpacked h.word = (mine.right p).1 in
    let rises : IsBelow (unpacked h.word) (unpacked n) = subst (λ x. IsBelow x (unpacked n)) was (subst (IsBelow me.0.last) (sym now) up) in
    let w : Last = publisher (unpacked n) in (
      w,
      keeps,
      tt,
      record {
        word = n;
        book = h.book;
        words = ap (λ l. slice_set l 0 n) h.words;
        each = all_set (Fits h.book (unpacked n)) s.views id w (record { below = below_itself _; right = λ _. ((mine.right p).0, refl) })
            (λ j u other e. let theirs = h.each j u e in record { below = below_through _ _ _ theirs.below rises; right = λ q. absurd (other ((theirs.right q).0 ∙ sym (mine.right p).0)) });
      },
      (refl, refl),
    )

-- to read keeps it
pub looks : (id : ℕ) (me : Me ℕ Last) (slots : ℕ) → Allows ShowsPublished slots id me 0 (λ n. n) (looked (step slots 0 0 0 none) me)
looks id me slots s h len at lt =
    let mine = h.each id me.0 at in
    let found : ℕ = slice_index s.words 0 in
    let is : found ≡ h.word = ap (λ l. slice_index l 0) h.words in
    let same : unpacked h.word ≡ unpacked found = sym (ap unpacked is) in
    let w : Last = record { publishes = me.0.publishes; last = unpacked found } in (
      w,
      keeps,
      tt,
      record {
        word = h.word;
        book = h.book;
        words = ap (λ l. slice_set l 0 (slice_index l 0)) h.words;
        each = all_set (Fits h.book (unpacked h.word)) s.views id w (record { below = subst (λ x. IsBelow x (unpacked h.word)) same (below_itself _); right = λ p. ((mine.right p).0, sym same) }) (λ j u other e. h.each j u e);
      },
      (refl, refl, subst (IsBelow me.0.last) same mine.below),
    )

-- to split keeps it
pub splits : (id : ℕ) (v : Last) → Splits ShowsPublished id v v (reader v.last)
splits id v s h at = record {
  word = h.word;
  book = h.book;
  words = h.words;
  each = let F = Fits h.book (unpacked h.word) in
      all_snoc F (set s.views id v) (reader v.last) (reader_fits h.book (unpacked h.word) v.last (h.each id v at).below) (subst (All F) (sym (set_again s.views id v at)) h.each);
}

-- to join keeps it
pub joins : (id : ℕ) (v : Last) (other : ℕ) (w : Last) → Joins ShowsPublished id v other w v (reader no_counts)
joins id v other w s h at apart at' = record {
  word = h.word;
  book = h.book;
  words = h.words;
  each = let F = Fits h.book (unpacked h.word) in
      let kept : All F (set s.views id v) = subst (All F) (sym (set_again s.views id v at)) h.each in
      all_set F (set s.views id v) other (reader no_counts) (reader_fits h.book (unpacked h.word) no_counts (none_below _) other) (λ j u _ e. kept j u e);
}

-- to make a seat keeps it
pub enters : (v : Me ℕ Last) (slots : ℕ) → Enters ShowsPublished slots 0 (λ n w. entered (step slots 0 0 0 none) v n (w, []))
enters v slots s h len lt =
    let found : ℕ = slice_index s.words 0 in
    let same : unpacked h.word ≡ unpacked found = sym (ap (λ l. unpacked (slice_index l 0)) h.words) in
    let F = Fits h.book (unpacked h.word) in (
      reader (unpacked found),
      record {
        word = h.word;
        book = h.book;
        words = h.words;
        each = all_snoc F s.views (reader (unpacked found)) (reader_fits h.book (unpacked h.word) (unpacked found) (subst (λ x. IsBelow x (unpacked h.word)) same (below_itself _))) h.each;
      },
      refl,
    )
