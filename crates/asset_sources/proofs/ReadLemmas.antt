-- What is told of the entries of a history with their sources.
use Rattle.std.proofs.Common.{◌≡◌, ℕ, ◌<◌, ℤ, List, [], ◌∷◌, ◌++◌, length, reverse, refl, sym, ap, ◌∙◌, arith, Some}
use Rattle.std.specs.Prelude.{Option, slice_get}
use Rattle.std.proofs.lemmas.List.{length-append, length-reverse, reverse-append}
use Rattle.std.proofs.lemmas.Option.{slice_get_within, same_Some}
use Rattle.asset_names.specs.declared.names.Txn.{Txn}
use Rattle.asset_names.specs.declared.names.Ob.{Ob}
use Rattle.asset_names.specs.declared.steps.Step.{Step}
use Rattle.asset_names.specs.declared.steps.Step.TheVariants.{Read}
use Rattle.asset_names.specs.declared.replies.Reply.{Reply}
use Rattle.asset_names.specs.declared.replies.Reply.TheVariants as Reply'
use Rattle.asset_names.specs.Steps.{Entry}
use Rattle.asset_names.specs.Sources.{source, added, IsAlone, IsOwnOrCommitted, AreOwnOrCommitted}
use Rattle.asset_names.specs.Answers.{IsLegal}
use Rattle.asset_entries.specs.Recorded.{Recorded}
use Rattle.asset_sources.specs.declared.sourced.Source.{Source}
use Rattle.asset_sources.specs.Sourced.{source_from, source_at, sources_of, read_of}
use Rattle.asset_sources.proofs.WalkLemmas.{alone_found, each_source, listed_front, listed_end}

-- the elements of a list that grew, oldest first
pub reversed_front : {X : Type 0} (x : X) (xs : List X) (i : ℕ) → i < length xs → slice_get (reverse (x ∷ xs)) i ≡ slice_get (reverse xs) i
reversed_front x xs i below = ap (λ l. slice_get l i) (reverse-append (x ∷ []) xs) ∙ listed_front (reverse xs) (x ∷ []) i (omega (arith, below, length-reverse xs))

pub reversed_end : {X : Type 0} (x : X) (xs : List X) (i : ℕ) → i ≡ length xs → slice_get (reverse (x ∷ xs)) i ≡ Some x
reversed_end x xs i same = ap (λ l. slice_get l i) (reverse-append (x ∷ []) xs) ∙ ap (slice_get (reverse xs ++ x ∷ [])) (same ∙ sym (length-reverse xs)) ∙ listed_end (reverse xs) x

-- what is told of the entry at i is by its source among all
pub told_of : (entries : List Entry) (found : List (Option Source)) → found ≡ sources_of entries → (i : ℕ) (step : Step) (reply : Reply) → slice_get (reverse entries) i ≡ Some (step, reply) → (one : Option Source) → slice_get found i ≡ Some one
    → (entry : Entry) → slice_get (reverse entries) i ≡ Some entry → read_of step reply one ≡ read_of entry.0 entry.1 (source_at entries i)
told_of entries found is i step reply here one at entry there =
    let asked : Entry = (step, reply) in
    let within = slice_get_within (reverse entries) i asked here in
    let source = same_Some one (source_at entries i) (sym at ∙ ap (λ (l : List (Option Source)). slice_get l i) is ∙ each_source entries i (omega (arith, within, length-reverse entries))) in
    let same = same_Some asked entry (sym here ∙ there) in
    λ j. read_of (same j).0 (same j).1 (source j)

-- ---- who is alone

-- the entry over the older ones has their count as its index
pub at_between : (newer older : List Entry) (entry : Entry) → slice_get (reverse (newer ++ entry ∷ older)) (length older) ≡ Some entry
at_between [] older entry = reversed_end entry older (length older) refl
at_between (new ∷ newer) older entry = reversed_front new (newer ++ entry ∷ older) (length older) (omega (arith, length-append newer (entry ∷ older))) ∙ at_between newer older entry

-- a read of who is alone in its group is told with its source, which is the opening, its own write or a committed one
pub alone_read : (run : Recorded) (index : ℕ) (result : Option (Step × ℤ × Source)) → IsLegal run.opening run.entries
    → ((entry : Entry) → slice_get (reverse run.entries) index ≡ Some entry → result ≡ read_of entry.0 entry.1 (source_at run.entries index))
    → (newer older : List Entry) (t : Txn) (x : Ob) (v : ℤ) → run.entries ≡ newer ++ (Read t x, Reply'.Value v) ∷ older → index ≡ length older → IsAlone run.entries t.0
    → (result ≡ Some (Read t x, v, source_from (source older x.0))) × IsOwnOrCommitted older t x (source older x.0) × AreOwnOrCommitted older t x (added older x.0)
unfolding read_of
alone_read run index result legal told newer older t x v is at alone =
    let entry : Entry = (Read t x, Reply'.Value v) in
    let law = alone_found run.opening run.entries newer older t x v legal is alone in
    let here : slice_get (reverse run.entries) index ≡ Some entry = (λ i. slice_get (reverse (is i)) (at i)) ∙ at_between newer older entry in
    (told entry here ∙ ap (read_of (Read t x) (Reply'.Value v)) (ap (source_at run.entries) at ∙ law.0), law.1, law.2)
