-- The rule of the word of counts, and what each step on it tells.
use Rattle.std.specs.Prelude.{◌≡◌, ℕ, ◌+◌, ◌*◌, ◌/◌, ◌%◌, ◌^◌, ◌<◌, true, false, List, [], ◌∷◌}
use mathlib.Core.Option.{some}
use lib.ListN.{get_elem?}
use Rattle.atomic_table.specs.Table.{State, Me, Step}
use Rattle.asset_names.specs.declared.counts.Counts.{Counts}
use Rattle.asset_names.specs.Counted.{IsBelow}
use Rattle.asset_counts.specs.declared.rule.Last.{Last}

-- before anything is published
abbrev pub no_counts : Counts
no_counts = record { entries = 0; committed = 0; aborted = 0 }

-- what the publisher knows, and what a reader knows
abbrev pub publisher : Counts → Last
publisher c = record { publishes = true; last = c }

abbrev pub reader : Counts → Last
reader c = record { publishes = false; last = c }

-- each count has twenty bits of the word
pub record IsPackable (c : Counts) : Type 0 where
  pub entries : c.entries < 2 ^ 20
  pub committed : c.committed < 2 ^ 20
  pub aborted : c.aborted < 2 ^ 20

-- the word of three counts, and the counts of a word
abbrev pub packed : Counts → ℕ
packed c = c.entries * 2 ^ 40 + c.committed * 2 ^ 20 + c.aborted

abbrev pub unpacked : ℕ → Counts
unpacked n = record { entries = n / 2 ^ 40; committed = n / 2 ^ 20 % 2 ^ 20; aborted = n % 2 ^ 20 }

-- of the seat with this number: it has seen no more than is shown; if it publishes, it is the one that does, and it
-- published what is shown
pub record Fits (book : ℕ) (shown : Counts) (port : ℕ) (v : Last) : Type 0 where
  pub below : IsBelow v.last shown
  pub right : v.publishes ≡ true → (port ≡ book) × (v.last ≡ shown)

-- what holds of each seat
abbrev pub All : (ℕ → Last → Type 0) → List Last → Type 0
All F views = (port : ℕ) (v : Last) → get_elem? views port ≡ some v → F port v

-- the rule: there is one word, and it shows what its one publisher published last, and no seat has seen more
pub record ShowsPublished (s : State ℕ Last) : Type 0 where
  pub word : ℕ
  pub book : ℕ
  pub words : s.words ≡ word ∷ []
  pub each : All (Fits book (unpacked word)) s.views

-- to publish: the publisher has published the new counts
abbrev pub published : Step ℕ → Me ℕ Last → ℕ → Me ℕ Last → Type 0
published s v n w = (w.0 ≡ publisher (unpacked s.first)) × (w.1 ≡ v.1)

-- to read: the reader has seen the counts of the word, and none is below what it saw before
abbrev pub looked : Step ℕ → Me ℕ Last → ℕ → Me ℕ Last → Type 0
looked s v n w = (w.0 ≡ record { publishes = v.0.publishes; last = unpacked n }) × (w.1 ≡ v.1) × IsBelow v.0.last (unpacked n)

-- to make a seat: it is a reader, and has seen the counts of the word
abbrev pub entered : Step ℕ → Me ℕ Last → ℕ → Me ℕ Last → Type 0
entered s v n w = (w.0 ≡ reader (unpacked n))
