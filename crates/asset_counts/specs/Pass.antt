-- The word of a pass, and how far it has seen it.
use Rattle.std.specs.Prelude.{◌≡◌, Option, Some, None}
use Rattle.atomic_table.specs.Seated.{TableId, table_id_coded}
use Rattle.std.specs.Coded.{Unit-prop}
use base.Stored.{Coded, Coded-set, coded×, coded_ℕ, coded_via}
use Rattle.asset_names.specs.declared.counts.Counts.{Counts}

-- of the publisher, or of a reader: its word, and the counts that it published or saw last
pub record Pass : Type 0 where
  pub of : TableId
  pub last : Counts

-- it is told apart by its fields
abbrev pub pass_coded : Coded Pass
pass_coded = coded_via (coded× table_id_coded (coded× coded_ℕ (coded× coded_ℕ coded_ℕ))) (λ (p : Pass). (p.of, (p.last.entries, (p.last.committed, p.last.aborted))))
    (λ x y e i. record { of = (e i).0; last = record { entries = (e i).1.0; committed = (e i).1.1.0; aborted = (e i).1.1.1 } })

-- of a pass: its word, if it has one, and the counts that it saw last
pub record PassSeen : Type 0 where
  pub of : Option TableId
  pub last : Counts

-- it has this word or none, so that it may be used with this one
abbrev pub IsOf : Option TableId → TableId → Type 0
IsOf None word = Unit {0}
IsOf (Some of) word = of ≡ word

-- there is at most one proof of that
pub IsOf-prop : (of : Option TableId) (word : TableId) → IsProp (IsOf of word)
IsOf-prop None word = Unit-prop
IsOf-prop (Some of) word = Coded-set table_id_coded of word
