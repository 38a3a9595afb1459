-- Histories whose steps and objects a script can say.
use Rattle.std.proofs.Common.{ℕ, Bool, true, false, cond, List, [], ◌∷◌, ◌++◌}
use Rattle.std.specs.Prelude.{ℤ, filter, flat_map}
use Rattle.asset_names.specs.declared.names.Ob.{Ob}
use Rattle.asset_names.specs.Steps.{Opening, Entry}
use Rattle.asset_names.specs.Groups.{kept, without}
use Rattle.asset_laws.specs.Serial.{entries_of, serial}
use Rattle.asset_grammar.specs.Writable.{IsWritable, IsWritableObject}

-- each object
abbrev pub OpeningWritable : Opening → Type 0
OpeningWritable [] = Unit {0}
OpeningWritable (given ∷ opening) = IsWritableObject given × OpeningWritable opening

-- each step
abbrev pub EntriesWritable : List Entry → Type 0
EntriesWritable [] = Unit {0}
EntriesWritable (entry ∷ older) = IsWritable entry.0 × EntriesWritable older

pub opening_push : (opening : Opening) (given : Ob × ℤ) → OpeningWritable opening → IsWritableObject given → OpeningWritable (opening ++ given ∷ [])
opening_push [] given h g = (g, tt)
opening_push (first ∷ opening) given h g = (h.0, opening_push opening given h.1 g)

entries_append : (xs ys : List Entry) → EntriesWritable xs → EntriesWritable ys → EntriesWritable (xs ++ ys)
entries_append [] ys h g = g
entries_append (x ∷ xs) ys h g = (h.0, entries_append xs ys h.1 g)

entries_filter : (test : Entry → Bool) (entries : List Entry) → EntriesWritable entries → EntriesWritable (filter test entries)
entries_filter test [] h = tt
entries_filter test (entry ∷ older) h = go (test entry) (entries_filter test older h.1) where
  go : (b : Bool) → EntriesWritable (filter test older) → EntriesWritable (cond b (entry ∷ filter test older) (filter test older))
  go true rest = (h.0, rest)
  go false rest = rest

-- what is left without dead groups, and those who committed one after another
pub without_writable : (entries : List Entry) (chosen : List ℕ) → EntriesWritable entries → EntriesWritable (without entries chosen)
unfolding without kept
without_writable entries chosen h = entries_filter _ entries h

serial_writable_of : (entries : List Entry) (names : List ℕ) → EntriesWritable entries → EntriesWritable (flat_map (entries_of entries) names)
unfolding entries_of
serial_writable_of entries [] h = tt
serial_writable_of entries (t ∷ names) h = entries_append (entries_of entries t) _ (entries_filter _ entries h) (serial_writable_of entries names h)

pub serial_writable : (entries : List Entry) → EntriesWritable entries → EntriesWritable (serial entries)
unfolding serial
serial_writable entries h = serial_writable_of entries _ h
