-- Copies of permits, and a permit that goes.
use Rattle.std.proofs.Common.{◌≡◌, ℕ, Bool, true, false, cond, eqb, not, ◌&&◌, ◌||◌, List, [], ◌∷◌, ◌++◌, map, filter, Some, None, refl, sym, ap, subst, ◌∙◌, ◌+◌, ◌<◌, take, length, get_or, zero, suc, inl, inr, Ok, Err, OnOk, OnErr, arith}
use Rattle.std.specs.Prelude.{flat_map, Result}
use Rattle.std.specs.List.{list_any}
use Rattle.std.proofs.lemmas.Bool.{or_cases, or_left, or_right, and_parts, and_from, false≢true, false_from_ne_true, eqb-true}
use Rattle.std.proofs.lemmas.Grind.{flat_map-append}
use Rattle.std.proofs.lemmas.List.Folds.{list_any-append}
use Rattle.std.proofs.lemmas.List.{map-append, take_more}
use Rattle.slab.specs.Slab.{Slab, get}
use Rattle.asset_names.specs.declared.names.Ob.{Ob}
use Rattle.asset_names.specs.declared.operations.Op.{Op}
use Rattle.asset_names.specs.Arrows.{lists}
use Rattle.asset_names.specs.Sets.{numbers}
use Rattle.asset_names.specs.InSet.{in_set}
use Rattle.asset_names.specs.OpSets.{has_op}
use Rattle.asset_names.proofs.Common.{on_ok, both_follow, and_false}
use Rattle.asset_names.proofs.ListLemmas.{any_alike, any_map, any_filter, all_and}
use Rattle.asset_permits.specs.declared.copying.Cut.{Cut}
use Rattle.asset_permits.specs.Descriptors.{Descriptor, same_descriptor, stands, includes, lets, covers, one_covers, opens_on, lets_all, opens}
use Rattle.asset_permits.specs.Valid.{descriptors_of}
use Rattle.asset_permits.specs.Copies.{cut_of, copy_of, gives_on, cuts_on, cuts_in, given_by, copies, AddsCuts, TakersSit}
use Rattle.asset_seats.specs.Seated.{Seated}
use Rattle.asset_permits.proofs.DescriptorLemmas.{same_is, same_self}
use Rattle.asset_permits.proofs.SlotLemmas.{key_of_standing, stands_at}

-- the elements up to one, and that one
pub take_item : {X : Type 0} (xs : List X) (i : ℕ) (x : X) → i < length xs → x ≡ get_or xs i x → take (i + 1) xs ≡ take i xs ++ x ∷ []
take_item xs i x below is = take_more xs i x below ∙ ap (λ y. take i xs ++ y ∷ []) (sym is)

-- what passes at an index passes in the list
pub any_at : {X : Type 0} (test : X → Bool) (xs : List X) (i : ℕ) (x : X) → i < length xs → x ≡ get_or xs i x → test x ≡ true → list_any test xs ≡ true
any_at test [] i x below is passes = absurd (omega (arith, below))
any_at test (y ∷ xs) zero x below is passes = or_left _ _ (ap test (sym is) ∙ passes)
any_at test (y ∷ xs) (suc i) x below is passes = or_right _ _ (any_at test xs i x (omega (arith, below)) is passes)

-- ---- one permit goes
pub removed : (permits fewer : Slab Descriptor) (key : ℕ) (d e : Descriptor) → ((j k : ℕ) (d : Descriptor) → get permits j ≡ Some d → get permits k ≡ Some d → j ≡ k) → get permits key ≡ Some d
    → ((k : ℕ) → (k ≡ key → ⊥) → get fewer k ≡ get permits k) → get fewer key ≡ None → stands (descriptors_of fewer) e ≡ (stands (descriptors_of permits) e && not (same_descriptor d e))
removed permits fewer key d e single there others gone = both_follow _ _ to back where
  to : stands (descriptors_of fewer) e ≡ true → (stands (descriptors_of permits) e && not (same_descriptor d e)) ≡ true
  to h =
      let found = key_of_standing fewer e h in
      let apart : found.0 ≡ key → ⊥ = λ is. cc (sym gone ∙ ap (get fewer) (sym is) ∙ found.1) in
      let old = sym (others found.0 apart) ∙ found.1 in
      let differ : same_descriptor d e ≡ false = false_from_ne_true _ (λ same. apart (single found.0 key e old (there ∙ ap Some (same_is d e same)))) in
      and_from _ _ (stands_at permits found.0 e old) (ap not differ)

  back : (stands (descriptors_of permits) e && not (same_descriptor d e)) ≡ true → stands (descriptors_of fewer) e ≡ true
  back h =
      let both = and_parts _ _ h in
      let found = key_of_standing permits e both.0 in
      let apart : found.0 ≡ key → ⊥ = λ is. wrong (let same : Some e ≡ Some d = sym found.1 ∙ ap (get permits) is ∙ there in cc same) both.1 in
      stands_at fewer found.0 e (others found.0 apart ∙ found.1) where
        wrong : e ≡ d → not (same_descriptor d e) ≡ true → ⊥
        wrong is differs = false≢true (ap not (sym (subst (λ k. same_descriptor d k ≡ true) (sym is) (same_self d))) ∙ differs)

-- one that does not stand takes nothing away
pub not_there : (descriptors : List Descriptor) (d e : Descriptor) → stands descriptors d ≡ false → stands descriptors e ≡ (stands descriptors e && not (same_descriptor d e))
not_there descriptors d e absent = go (same_descriptor d e) refl (stands descriptors e) refl where
  go : (same : Bool) → same_descriptor d e ≡ same → (s : Bool) → stands descriptors e ≡ s → s ≡ (s && not same)
  go true is s at = sym at ∙ ap (stands descriptors) (sym (same_is d e is)) ∙ absent ∙ sym (none s) where
    none : (s : Bool) → (s && false) ≡ false
    none true = refl
    none false = refl
  go false is true at = refl
  go false is false at = refl

-- ---- what the receiver gives by copies
pub given_more : (receiver : ℕ) (cuts : List Cut) (cut : Cut) (e : Descriptor) → stands (given_by receiver (cuts ++ cut ∷ [])) e ≡ (stands (given_by receiver cuts) e || same_descriptor (copy_of receiver cut) e)
unfolding stands given_by
given_more receiver cuts cut e =
    ap (list_any (λ (d : Descriptor). same_descriptor d e)) (map-append (copy_of receiver) cuts (cut ∷ []))
    ∙ list_any-append (λ (d : Descriptor). same_descriptor d e) (map (copy_of receiver) cuts) (copy_of receiver cut ∷ []) ∙ last (list_any (λ (d : Descriptor). same_descriptor d e) (map (copy_of receiver) cuts)) (same_descriptor (copy_of receiver cut) e) where
      last : (a b : Bool) → (a || (b || false)) ≡ (a || b)
      last a true = refl
      last a false = refl

pub given_nothing : (receiver : ℕ) (e : Descriptor) → stands (given_by receiver []) e ≡ false
unfolding stands given_by
given_nothing receiver e = refl

-- nothing is copied for anybody yet
pub nobody_takes : (seats : Seated) → TakersSit seats []
nobody_takes seats u h = absurd (false≢true h)

-- nothing was added yet
pub adds_nothing : (receiver : ℕ) (old : List Descriptor) → AddsCuts receiver [] old old
adds_nothing receiver old = record {
  standing = λ e. or_none (stands old e) ∙ ap (λ b. stands old e || b) (sym (given_nothing receiver e));
  fresh = λ e given. absurd (false≢true (sym (given_nothing receiver e) ∙ given));
} where
  or_none : (s : Bool) → s ≡ (s || false)
  or_none true = refl
  or_none false = refl

-- one more was added, which did not stand
pub adds_more : (receiver : ℕ) (added : List Cut) (cut : Cut) (first old new : List Descriptor) → AddsCuts receiver added first old → stands old (copy_of receiver cut) ≡ false → ((e : Descriptor) → stands new e ≡ (stands old e || same_descriptor (copy_of receiver cut) e))
    → AddsCuts receiver (added ++ cut ∷ []) first new
adds_more receiver added cut first old new adds absent more = record {
  standing = λ e. more e ∙ ap (λ b. b || same_descriptor (copy_of receiver cut) e) (adds.standing e) ∙ regroup (stands first e) _ _ ∙ ap (λ b. stands first e || b) (sym (given_more receiver added cut e));
  fresh = λ e given. elim (or_cases (stands (given_by receiver added) e) (same_descriptor (copy_of receiver cut) e) (sym (given_more receiver added cut e) ∙ given)) [
    | inl before ↦ adds.fresh e before
    | inr here ↦ ap (stands first) (sym (same_is (copy_of receiver cut) e here)) ∙ left_false (stands first (copy_of receiver cut)) _ (sym (adds.standing (copy_of receiver cut)) ∙ absent)
  ];
} where
  regroup : (a b c : Bool) → ((a || b) || c) ≡ (a || (b || c))
  regroup true b c = refl
  regroup false b c = refl

  left_false : (a b : Bool) → (a || b) ≡ false → a ≡ false
  left_false true b h = h
  left_false false b h = refl

-- a permit that was added unless it stood
pub noted_adds : {T E : Type 0} (r : Result T E) (receiver : ℕ) (cut : Cut) (added noted : List Cut) (old new : List Descriptor) → OnOk r ((e : Descriptor) → stands new e ≡ (stands old e || same_descriptor (copy_of receiver cut) e))
    → OnOk r (stands old (copy_of receiver cut) ≡ true → (new ≡ old) × (noted ≡ added)) → OnOk r (stands old (copy_of receiver cut) ≡ false → noted ≡ added ++ cut ∷ [])
    → OnOk r ((first : List Descriptor) → AddsCuts receiver added first old → AddsCuts receiver noted first new)
noted_adds (Err fault) receiver cut added noted old new more again notes = tt
noted_adds (Ok done) receiver cut added noted old new more again notes = λ first adds. go first adds (stands old (copy_of receiver cut)) refl where
  go : (first : List Descriptor) → AddsCuts receiver added first old → (stood : Bool) → stands old (copy_of receiver cut) ≡ stood → AddsCuts receiver noted first new
  go first adds true is = let same = again is in rw (same.0, same.1) adds
  go first adds false is = rw (notes is) (adds_more receiver added cut first old new adds is more)

-- ---- what is copied of the giver's permits

-- a test of what is copied on x, as a test of permits
pub any_cut : (test : Cut → Bool) (giver : ℕ) (descriptors : List Descriptor) (x : Ob) → list_any test (cuts_on giver descriptors x) ≡ list_any (λ (d : Descriptor). gives_on giver x d && test (cut_of x d)) descriptors
unfolding cuts_on
any_cut test giver descriptors x = any_map test (cut_of x) (filter (gives_on giver x) descriptors) ∙ any_filter (λ (d : Descriptor). test (cut_of x d)) (gives_on giver x) descriptors

-- what is copied on one more object
pub any_cuts_more : (test : Cut → Bool) (giver : ℕ) (descriptors : List Descriptor) (moved : List Ob) (x : Ob) → list_any test (cuts_in giver descriptors (moved ++ x ∷ [])) ≡ (list_any test (cuts_in giver descriptors moved) || list_any test (cuts_on giver descriptors x))
unfolding cuts_in
any_cuts_more test giver descriptors moved x =
    ap (list_any test) (flat_map-append (cuts_on giver descriptors) moved (x ∷ []))
    ∙ list_any-append test (flat_map (cuts_on giver descriptors) moved) (cuts_on giver descriptors x ++ [])
    ∙ ap (λ b. list_any test (flat_map (cuts_on giver descriptors) moved) || b) (list_any-append test (cuts_on giver descriptors x) [] ∙ plain (list_any test (cuts_on giver descriptors x))) where
      plain : (s : Bool) → (s || false) ≡ s
      plain true = refl
      plain false = refl

-- of one who gives nothing, nothing is copied
pub no_cuts : (test : Cut → Bool) (giver : ℕ) (descriptors : List Descriptor) (moved : List Ob) → ((x : Ob) → list_any test (cuts_on giver descriptors x) ≡ false) → list_any test (cuts_in giver descriptors moved) ≡ false
unfolding cuts_in
no_cuts test giver descriptors [] none = refl
no_cuts test giver descriptors (x ∷ moved) none =
    list_any-append test (cuts_on giver descriptors x) (flat_map (cuts_on giver descriptors) moved) ∙ ap (λ b. b || list_any test (flat_map (cuts_on giver descriptors) moved)) (none x) ∙ no_cuts test giver descriptors moved none

-- ---- what the copies cover

-- one permit's copy on y
copy_lets : (giver receiver : ℕ) (y : Ob) (u t x : ℕ) (op : Op) (d : Descriptor)
    → (gives_on giver y d && lets u t x op (copy_of receiver (cut_of y d))) ≡ ((eqb receiver u && eqb y.0 x) && lets giver t x op d)
unfolding gives_on lets covers includes copy_of cut_of in_set numbers lists
copy_lets giver receiver y u t x op d = go (eqb y.0 x) d.is_open refl where
  table : (a b c e f : Bool) → ((a && b) && ((c && e) && ((true || false) && f))) ≡ ((c && true) && ((a && e) && (b && f)))
  table true true true true f = refl
  table true true true false f = refl
  table true true false e f = refl
  table true false true true f = refl
  table true false true false f = refl
  table true false false e f = refl
  table false b true e f = refl
  table false b false e f = refl

  none : (a b c : Bool) (e f : Bool) (rest : Bool) → ((a && b) && ((c && e) && ((false || false) && f))) ≡ ((c && false) && rest)
  none true true true true f rest = refl
  none true true true false f rest = refl
  none true true false e f rest = refl
  none true false true e f rest = refl
  none true false false e f rest = refl
  none false b true e f rest = refl
  none false b false e f rest = refl

  never : (a b : Bool) → (a && (b && false)) ≡ false
  never a b = ap (λ c. a && c) (and_false b) ∙ and_false a

  go : (here is_open : Bool) → eqb y.0 x ≡ here
      → ((eqb d.giver giver && in_set d.objects y.0) && ((eqb receiver u && eqb (cond is_open receiver d.taker) t) && (not is_open && ((here || false) && has_op d.ops op))))
      ≡ ((eqb receiver u && here) && ((eqb d.giver giver && eqb d.taker t) && (not is_open && (in_set d.objects x && has_op d.ops op))))
  go true false is = table (eqb d.giver giver) (in_set d.objects y.0) (eqb receiver u) (eqb d.taker t) (has_op d.ops op)
      ∙ ap (λ n. (eqb receiver u && true) && ((eqb d.giver giver && eqb d.taker t) && (in_set d.objects n && has_op d.ops op))) (eqb-true y.0 x is)
  go false false is = none (eqb d.giver giver) (in_set d.objects y.0) (eqb receiver u) (eqb d.taker t) (has_op d.ops op) _
  go here true is = never (eqb d.giver giver && in_set d.objects y.0) (eqb receiver u && eqb receiver t) ∙ sym (never (eqb receiver u && here) (eqb d.giver giver && eqb d.taker t))

copy_opens : (giver receiver : ℕ) (y : Ob) (u x : ℕ) (op : Op) (d : Descriptor)
    → (gives_on giver y d && lets_all u x op (copy_of receiver (cut_of y d))) ≡ ((eqb receiver u && eqb y.0 x) && lets_all giver x op d)
unfolding gives_on lets_all opens_on includes copy_of cut_of in_set numbers lists
copy_opens giver receiver y u x op d = go (eqb y.0 x) refl where
  table : (a b c e f : Bool) → ((a && b) && (c && (e && ((true || false) && f)))) ≡ ((c && true) && (a && (e && (b && f))))
  table true true true true f = refl
  table true true true false f = refl
  table true true false e f = refl
  table true false true true f = refl
  table true false true false f = refl
  table true false false e f = refl
  table false b true e f = refl
  table false b false e f = refl

  none : (a b c e f rest : Bool) → ((a && b) && (c && (e && ((false || false) && f)))) ≡ ((c && false) && rest)
  none true true true true f rest = refl
  none true true true false f rest = refl
  none true true false e f rest = refl
  none true false true e f rest = refl
  none true false false e f rest = refl
  none false b true e f rest = refl
  none false b false e f rest = refl

  go : (here : Bool) → eqb y.0 x ≡ here
      → ((eqb d.giver giver && in_set d.objects y.0) && (eqb receiver u && (d.is_open && ((here || false) && has_op d.ops op))))
      ≡ ((eqb receiver u && here) && (eqb d.giver giver && (d.is_open && (in_set d.objects x && has_op d.ops op))))
  go true is = table (eqb d.giver giver) (in_set d.objects y.0) (eqb receiver u) d.is_open (has_op d.ops op)
      ∙ ap (λ n. (eqb receiver u && true) && (eqb d.giver giver && (d.is_open && (in_set d.objects n && has_op d.ops op)))) (eqb-true y.0 x is)
  go false is = none (eqb d.giver giver) (in_set d.objects y.0) (eqb receiver u) d.is_open (has_op d.ops op) _

-- whether a copy passes one test, as a permit of the giver passes another
module _ (copied given : Descriptor → Bool) (own : Bool) (giver receiver : ℕ) (descriptors : List Descriptor) (x : ℕ)
    (each : (y : Ob) (d : Descriptor) → (gives_on giver y d && copied (copy_of receiver (cut_of y d))) ≡ ((own && eqb y.0 x) && given d)) where
  -- the copies on y
  copies_on_pass : (y : Ob) → list_any (λ (cut : Cut). copied (copy_of receiver cut)) (cuts_on giver descriptors y) ≡ ((own && eqb y.0 x) && list_any given descriptors)
  copies_on_pass y =
      any_cut (λ (cut : Cut). copied (copy_of receiver cut)) giver descriptors y
      ∙ any_alike _ (λ (d : Descriptor). (own && eqb y.0 x) && given d) descriptors (each y)
      ∙ all_and (own && eqb y.0 x) given descriptors

  copies_pass : (moved : List Ob) → list_any copied (copies giver receiver descriptors moved) ≡ (own && lists (numbers moved) x && list_any given descriptors)
  unfolding copies given_by cuts_in numbers lists
  copies_pass moved = any_map copied (copy_of receiver) (flat_map (cuts_on giver descriptors) moved) ∙ go moved where
    passed : Bool
    passed = list_any given descriptors

    join : (a h l o : Bool) → (((a && h) && o) || ((a && l) && o)) ≡ ((a && (h || l)) && o)
    join true true l true = refl
    join true true true false = refl
    join true true false false = refl
    join true false l o = refl
    join false h l o = refl

    nothing : (a o : Bool) → false ≡ ((a && false) && o)
    nothing true o = refl
    nothing false o = refl

    go : (objects : List Ob) → list_any (λ (cut : Cut). copied (copy_of receiver cut)) (flat_map (cuts_on giver descriptors) objects) ≡ ((own && lists (numbers objects) x) && passed)
    go [] = nothing own passed
    go (y ∷ objects) =
        list_any-append _ (cuts_on giver descriptors y) (flat_map (cuts_on giver descriptors) objects)
        ∙ (λ i. copies_on_pass y i || go objects i)
        ∙ join own (eqb y.0 x) (lists (numbers objects) x) passed

pub copies_cover : (giver receiver : ℕ) (descriptors : List Descriptor) (moved : List Ob) (u t x : ℕ) (op : Op)
    → one_covers (copies giver receiver descriptors moved) u t x op ≡ (eqb receiver u && lists (numbers moved) x && one_covers descriptors giver t x op)
unfolding one_covers
copies_cover giver receiver descriptors moved u t x op = copies_pass (lets u t x op) (lets giver t x op) (eqb receiver u) giver receiver descriptors x (λ y d. copy_lets giver receiver y u t x op d) moved

pub copies_open : (giver receiver : ℕ) (descriptors : List Descriptor) (moved : List Ob) (u x : ℕ) (op : Op)
    → opens (copies giver receiver descriptors moved) u x op ≡ (eqb receiver u && lists (numbers moved) x && opens descriptors giver x op)
unfolding opens
copies_open giver receiver descriptors moved u x op = copies_pass (lets_all u x op) (lets_all giver x op) (eqb receiver u) giver receiver descriptors x (λ y d. copy_opens giver receiver y u x op d) moved

-- ---- what covers, by what stands
standing_covers : (some others : List Descriptor) → ((e : Descriptor) → stands some e ≡ true → stands others e ≡ true) → (test : Descriptor → Bool) → list_any test some ≡ true → list_any test others ≡ true
unfolding stands
standing_covers some others within test h = go some (λ d there. within d there) h where
  among : (list : List Descriptor) (d : Descriptor) → list_any (λ (k : Descriptor). same_descriptor k d) list ≡ true → test d ≡ true → list_any test list ≡ true
  among [] d there passes = absurd (false≢true there)
  among (k ∷ list) d there passes = elim (or_cases (same_descriptor k d) _ there) [
    | inl here ↦ or_left (test k) _ (ap test (same_is k d here) ∙ passes)
    | inr later ↦ or_right (test k) _ (among list d later passes)
  ]

  go : (list : List Descriptor) → ((d : Descriptor) → list_any (λ (k : Descriptor). same_descriptor k d) list ≡ true → list_any (λ (k : Descriptor). same_descriptor k d) others ≡ true) → list_any test list ≡ true → list_any test others ≡ true
  go [] inside passes = absurd (false≢true passes)
  go (k ∷ list) inside passes = elim (or_cases (test k) _ passes) [
    | inl here ↦ among others k (inside k (or_left _ _ (same_self k))) here
    | inr later ↦ go list (λ d there. inside d (or_right _ _ there)) later
  ]

pub same_passing : (test : Descriptor → Bool) (some others : List Descriptor) → ((e : Descriptor) → stands some e ≡ stands others e) → list_any test some ≡ list_any test others
same_passing test some others same =
    both_follow _ _ (standing_covers some others (λ e there. sym (same e) ∙ there) test) (standing_covers others some (λ e there. same e ∙ there) test)

pub both_passing : (test : Descriptor → Bool) (new some others : List Descriptor) → ((e : Descriptor) → stands new e ≡ (stands some e || stands others e)) → list_any test new ≡ (list_any test some || list_any test others)
unfolding stands
both_passing test new some others both =
    same_passing test new (some ++ others) (λ e. both e ∙ sym (list_any-append (λ (k : Descriptor). same_descriptor k e) some others)) ∙ list_any-append test some others

-- what stands after a call that adds copies, as it is said of what is copied
pub stands_by_cuts : {T E : Type 0} (r : Result T E) (receiver : ℕ) (cuts others : List Cut) (old new : List Descriptor) → ((test : Cut → Bool) → list_any test cuts ≡ list_any test others)
    → OnOk r ((e : Descriptor) → stands new e ≡ (stands old e || stands (given_by receiver cuts) e)) → OnOk r ((e : Descriptor) → stands new e ≡ (stands old e || stands (given_by receiver others) e))
unfolding stands given_by
stands_by_cuts r receiver cuts others old new same =
    on_ok r (λ added. λ e. added e ∙ ap (λ b. list_any (λ (d : Descriptor). same_descriptor d e) old || b)
    (any_map (λ (d : Descriptor). same_descriptor d e) (copy_of receiver) cuts ∙ same (λ cut. same_descriptor (copy_of receiver cut) e) ∙ sym (any_map (λ (d : Descriptor). same_descriptor d e) (copy_of receiver) others)))

-- what is copied on one more object
pub cuts_then : (giver : ℕ) (descriptors : List Descriptor) (moved : List Ob) (x : Ob) (before after : List Cut) → ((test : Cut → Bool) → list_any test before ≡ list_any test (cuts_in giver descriptors moved))
    → ((test : Cut → Bool) → list_any test after ≡ (list_any test before || list_any test (cuts_on giver descriptors x))) → (test : Cut → Bool) → list_any test after ≡ list_any test (cuts_in giver descriptors (moved ++ x ∷ []))
cuts_then giver descriptors moved x before after was more test =
    more test ∙ ap (λ b. b || list_any test (cuts_on giver descriptors x)) (was test) ∙ sym (any_cuts_more test giver descriptors moved x)

-- what stood stands, whether a call added something or not
pub standing_more : {T E : Type 0} (r : Result T E) (old new : List Descriptor) (more : Descriptor → Bool) → OnOk r ((e : Descriptor) → stands new e ≡ (stands old e || more e)) → OnErr r ((e : Descriptor) → stands new e ≡ stands old e)
    → (e : Descriptor) → stands old e ≡ true → stands new e ≡ true
standing_more (Ok done) old new more added same e there = added e ∙ or_left _ _ there
standing_more (Err fault) old new more added same e there = same e ∙ there
