-- Sets of objects that are stored one behind the other.
use Rattle.std.proofs.Common.{◌≡◌, ℕ, suc, ◌+◌, ◌<◌, ◌≤◌, Bool, true, false, cond, eqb, List, [], ◌∷◌, ◌++◌, length, map, take, drop, get_or, Some, refl, sym, ap, subst, ◌∙◌, arith}
use Rattle.std.specs.Prelude.{slice_get, slice_index_or, nat_le, option_map}
use Rattle.std.specs.List.{All as Each, AllPairs, count_by}
use Rattle.std.specs.List.Sorted.{IsStrictlyIncreasing}
use Rattle.std.proofs.lemmas.Bool.{eqb-true, leb-true, false≢true}
use Rattle.std.proofs.lemmas.List.{drop-append-le, take-append-le, length-drop, length-take-le, length-append, map-append, length-map}
use Rattle.std.proofs.lemmas.List.Elements.{All-head, All-tail, All-push}
use Rattle.std.proofs.Math.Seq.{drop-append_seam, take-length}
use Rattle.std.proofs.lemmas.List.Sums.{sum_by-cons}
use Rattle.std.proofs.lemmas.Option.{slice_get-get_or, slice_get-map}
use Rattle.std.proofs.lemmas.List.Sorted.{IsPermutation-refl}
use Rattle.std.proofs.lemmas.List.Kept.{AllPairs-from_increasing}
use Rattle.asset_names.specs.declared.names.Ob.{Ob}
use Rattle.asset_names.specs.declared.sets.ObSet.{ObSet}
use Rattle.asset_names.specs.declared.sets.ObSet.TheVariants.{All, Listed}
use Rattle.asset_names.specs.Sets.{numbers, twice, HasNoDouble, rising, IsLeastDouble}
use Rattle.asset_names.specs.SetFaults.{IsSetFault}
use Rattle.asset_names.specs.declared.sets.SetFault.{SetFault}
use Rattle.asset_names.specs.declared.sets.SetFault.TheVariants.{Empty, TooMany, Double}
use Rattle.asset_names.proofs.RisingLemmas.{kept_is_rising}
use Rattle.asset_entries.specs.declared.stored_sets.Stretch.{Stretch}
use Rattle.asset_entries.specs.StoredSets.{Sets, sets_of, set_or_all, stretch_of, stored_set, IsStretch}

-- ---- objects that rise differ
-- numbers above one do not count as it
none_below : (m : ℕ) (ns : List ℕ) → ((j d : ℕ) → j < length ns → m < get_or ns j d) → count_by (λ k. eqb k m) ns ≡ 0
none_below m [] above = refl
none_below m (n ∷ ns) above = sum_by-cons (λ k. cond (eqb k m) 1 0) n ns ∙ go (eqb n m) refl (none_below m ns (λ j d below. above (suc j) d (omega (arith, below)))) where
  go : (b : Bool) → eqb n m ≡ b → count_by (λ k. eqb k m) ns ≡ 0 → cond b 1 0 + count_by (λ k. eqb k m) ns ≡ 0
  go true e rest = absurd (omega (arith, above 0 0 (omega arith), eqb-true n m e))
  go false e rest = omega (arith, rest)

once : (m : ℕ) (ns : List ℕ) → AllPairs (λ x y. x < y) ns → count_by (λ k. eqb k m) ns ≤ 1
once m [] pairs = omega arith
once m (n ∷ ns) pairs = subst (λ k. k ≤ 1) (sym (sum_by-cons (λ k. cond (eqb k m) 1 0) n ns)) (go (eqb n m) refl (once m ns (λ i j d less below. pairs (suc i) (suc j) d (omega (arith, less)) (omega (arith, below))))) where
  go : (b : Bool) → eqb n m ≡ b → count_by (λ k. eqb k m) ns ≤ 1 → cond b 1 0 + count_by (λ k. eqb k m) ns ≤ 1
  go true e rest =
      let above : (j d : ℕ) → j < length ns → m < get_or ns j d = λ j d below. omega (arith, pairs 0 (suc j) d (omega arith) (omega (arith, below)), eqb-true n m e) in
      omega (arith, none_below m ns above)
  go false e rest = omega (arith, rest)

pub rising_differ : (objects : List Ob) → IsStrictlyIncreasing (numbers objects) → HasNoDouble (numbers objects)
unfolding HasNoDouble twice
rising_differ objects rises m = none (count_by (λ k. eqb k m) (numbers objects)) (once m (numbers objects) (AllPairs-from_increasing (numbers objects) rises)) where
  none : (n : ℕ) → n ≤ 1 → nat_le 2 n ≡ false
  none n few = go (nat_le 2 n) refl where
    go : (b : Bool) → nat_le 2 n ≡ b → b ≡ false
    go true e = absurd (omega (arith, few, leb-true 2 n e))
    go false e = refl

-- objects that rise are in rising order
pub rising_already : (objects : List Ob) → IsStrictlyIncreasing (numbers objects) → rising objects ≡ objects
rising_already objects rises = sym (kept_is_rising objects objects (IsPermutation-refl objects) rises (rising_differ objects rises))

-- ---- one more set
pub stretch_before : (objects more : List Ob) (s : Stretch) → s.start + s.count ≤ length objects → stretch_of (objects ++ more) s ≡ stretch_of objects s
unfolding stretch_of
stretch_before objects more s within =
    ap (take s.count) (drop-append-le s.start objects more (omega (arith, within)))
    ∙ take-append-le s.count (drop s.start objects) more (omega (arith, within, length-drop s.start objects))

pub stretch_last : (objects more : List Ob) → stretch_of (objects ++ more) (record { start = length objects; count = length more }) ≡ more
unfolding stretch_of
stretch_last objects more = ap (take (length more)) (drop-append_seam objects more) ∙ take-length more

pub kept_more : (objects more : List Ob) (s : Stretch) → IsStretch objects s → IsStretch (objects ++ more) s
kept_more objects more s is = record {
  within = omega (arith, is.within, length-append objects more);
  few = is.few;
  rising = subst (λ (some : List Ob). IsStrictlyIncreasing (numbers some)) (sym (stretch_before objects more s is.within)) is.rising;
}

pub last_kept : (objects more : List Ob) → length more ≤ 16 → IsStrictlyIncreasing (numbers more) → IsStretch (objects ++ more) (record { start = length objects; count = length more })
last_kept objects more few rises = record {
  within = omega (arith, length-append objects more);
  few = few;
  rising = subst (λ (some : List Ob). IsStrictlyIncreasing (numbers some)) (sym (stretch_last objects more)) rises;
}

pub sets_before : (objects more : List Ob) (ss : List Stretch) → Each (IsStretch objects) ss → map (λ (s : Stretch). stored_set (stretch_of (objects ++ more) s)) ss ≡ map (λ (s : Stretch). stored_set (stretch_of objects s)) ss
sets_before objects more [] each = refl
sets_before objects more (s ∷ ss) each =
    λ i. stored_set (stretch_before objects more s (All-head (IsStretch objects) s ss each).within i) ∷ sets_before objects more ss (All-tail (IsStretch objects) s ss each) i

-- no set but every object lists none
pub set_again : (obs : ObSet) (objects : List Ob) → obs ≡ Listed objects → 0 < length objects → stored_set objects ≡ record { obs = obs }
unfolding stored_set
set_again obs [] is some = absurd (omega (arith, some))
set_again obs (x ∷ xs) is some = let back = sym is in λ i. record { obs = back i }

pub each_appended : (objects more : List Ob) (ss : List Stretch) → Each (IsStretch objects) ss → length more ≤ 16 → IsStrictlyIncreasing (numbers more)
    → Each (IsStretch (objects ++ more)) (ss ++ record { start = length objects; count = length more } ∷ [])
each_appended objects more ss each few rises =
    All-push (IsStretch (objects ++ more)) ss (record { start = length objects; count = length more }) (λ k d below. kept_more objects more (slice_index_or ss k d) (each k d below)) (last_kept objects more few rises)

pub sets_appended : (objects more : List Ob) (ss : List Stretch) → Each (IsStretch objects) ss
    → map (λ (s : Stretch). stored_set (stretch_of (objects ++ more) s)) (ss ++ record { start = length objects; count = length more } ∷ []) ≡ map (λ (s : Stretch). stored_set (stretch_of objects s)) ss ++ stored_set more ∷ []
sets_appended objects more ss each =
    map-append (λ (s : Stretch). stored_set (stretch_of (objects ++ more) s)) ss (record { start = length objects; count = length more } ∷ [])
    ∙ (λ i. sets_before objects more ss each i ++ stored_set (stretch_last objects more i) ∷ [])

pub empty_set : (objects : List Ob) → length objects ≡ 0 → record { obs = All } ≡ stored_set objects
unfolding stored_set
empty_set [] none = refl
empty_set (x ∷ xs) none = absurd (omega (arith, none))

-- objects that rise, few and some, are no faulty list
pub no_fault : (objects : List Ob) (fault : SetFault) → IsSetFault objects fault → (length objects ≡ 0 → ⊥) → length objects ≤ 16 → IsStrictlyIncreasing (numbers objects) → ⊥
unfolding HasNoDouble IsLeastDouble
no_fault objects Empty is some few rises = some (ap length is)
no_fault objects TooMany is some few rises = absurd (omega (arith, is, few))
no_fault objects (Double x) is some few rises = false≢true (sym (rising_differ objects rises x.0) ∙ is.1.0)

-- fewer sets than there is room for
pub room_left : (objects : List Ob) (ss : List Stretch) (room : ℕ) (now : Sets) → sets_of objects ss room ≡ now → length now.sets < now.room → length ss < room
unfolding sets_of
room_left objects ss room now view below =
    omega (arith, below, ap (λ (s : Sets). length s.sets) view, ap (λ (s : Sets). s.room) view, length-map ss (λ (s : Stretch). stored_set (stretch_of objects s)))

-- the set of a stretch that is there
pub set_there : (objects : List Ob) (ss : List Stretch) (room index : ℕ) (now : Sets) (s : Stretch) → sets_of objects ss room ≡ now → index < length ss → s ≡ slice_index_or ss index s
    → stored_set (stretch_of objects s) ≡ record { obs = set_or_all (slice_get now.sets index) }
unfolding sets_of set_or_all
set_there objects ss room index now s view below is =
    let found : slice_get now.sets index ≡ Some (stored_set (stretch_of objects s)) =
    sym (ap (λ (some : Sets). slice_get some.sets index) view)
    ∙ slice_get-map (λ (t : Stretch). stored_set (stretch_of objects t)) ss index
    ∙ ap (option_map (λ (t : Stretch). stored_set (stretch_of objects t))) (slice_get-get_or ss index s below ∙ ap Some (sym is)) in
    sym (λ i. record { obs = set_or_all (found i) })

pub index_left : (objects : List Ob) (ss : List Stretch) (room index : ℕ) (now : Sets) → sets_of objects ss room ≡ now → index < length now.sets → index < length ss
unfolding sets_of
index_left objects ss room index now view below = omega (arith, below, ap (λ (s : Sets). length s.sets) view, length-map ss (λ (s : Stretch). stored_set (stretch_of objects s)))

-- a stretch that is read is one of them
pub stretch_at : (objects : List Ob) (ss : List Stretch) (room index : ℕ) (now : Sets) (s : Stretch) → Each (IsStretch objects) ss → sets_of objects ss room ≡ now → index < length now.sets → s ≡ slice_index_or ss index s → IsStretch objects s
stretch_at objects ss room index now s each view below is = subst (IsStretch objects) (sym is) (each index s (index_left objects ss room index now view below))

pub stretch_few : (objects : List Ob) (s : Stretch) → IsStretch objects s → length (stretch_of objects s) ≤ 16
unfolding stretch_of
stretch_few objects s is = omega (arith, is.few, length-take-le s.count (drop s.start objects) (omega (arith, is.within, length-drop s.start objects)))
