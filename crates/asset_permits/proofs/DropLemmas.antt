-- Permits go, and perhaps the seats of their ends.
use Rattle.std.proofs.Common.{◌≡◌, ℕ, Bool, true, false, cond, eqb, not, ◌&&◌, List, Option, Some, None, is_some, refl, sym, ap, ◌∙◌, arith, inl, inr}
use Rattle.std.proofs.lemmas.Bool.{eqb-true, eqb-false, ne_eqb, cases_eq, true≢false}
use Rattle.slab.specs.Slab.{get, Updates}
use Rattle.asset_names.specs.declared.names.Txn.{Txn}
use Rattle.asset_names.proofs.Common.{some_of}
use Rattle.asset_chains.specs.Chained.{Chained, chain_of, home_of, lists}
use Rattle.asset_chains.specs.declared.side.Side.{Side}
use Rattle.asset_chains.specs.declared.side.Side.TheVariants.{Row, Column}
use Rattle.asset_chains.specs.Crossed.{Crossed, lines, Leaves, Loses, IsCrossed}
use Rattle.asset_chains.proofs.KeyLemmas.{without_unlisted}
use Rattle.asset_chains.proofs.SoundLemmas.{listed_once}
use Rattle.asset_seats.specs.Seated.{Seated, seat}
use Rattle.asset_permits.specs.Descriptors.{Descriptor}
use Rattle.asset_permits.specs.Valid.{parts_of, is_used, IsUsed, IsValid}
use Rattle.asset_permits.specs.Changes.{Shrinks, NoSeatComes}
use Rattle.asset_permits.proofs.SeatLemmas.{used_along, used_across, key_of_used, used_same, seated_by}

-- ---- a seat whose chains are not used is left
pub leaves_unused : (along across : Chained) (c : ℕ) (old new : Seated) → is_used along across c ≡ false → ((d : ℕ) → seat new d ≡ cond (eqb d c) None (seat old d)) → (d : ℕ) → seat new d ≡ cond (eqb d c && not (is_used along across d)) None (seat old d)
leaves_unused along across c old new unused leaves d = leaves d ∙ go (eqb d c) refl where
  go : (b : Bool) → eqb d c ≡ b → cond b None (seat old d) ≡ cond (b && not (is_used along across d)) None (seat old d)
  go true e = sym (ap (λ (b : Bool). cond (not b) None (seat old d)) (ap (is_used along across) (eqb-true d c e) ∙ unused))
  go false e = refl

pub keeps_used : (along across : Chained) (c : ℕ) (seats : Seated) → is_used along across c ≡ true → (d : ℕ) → seat seats d ≡ cond (eqb d c && not (is_used along across d)) None (seat seats d)
keeps_used along across c seats used d = go (eqb d c) refl where
  go : (b : Bool) → eqb d c ≡ b → seat seats d ≡ cond (b && not (is_used along across d)) None (seat seats d)
  go true e = sym (ap (λ (b : Bool). cond (not b) None (seat seats d)) (ap (is_used along across) (eqb-true d c e) ∙ used))
  go false e = refl

-- ---- what is still there is as it was
pub shrinks_then : (old mid new : Crossed Descriptor) → Shrinks old mid → Shrinks mid new → Shrinks old new
shrinks_then old mid new first second = record {
  permits = λ k d there. first.permits k d (second.permits k d there);
  homes = λ side k c home. first.homes side k c (second.homes side k c home);
  many = λ side. second.many side ∙ first.many side;
}

pub valid_after : (old new : Crossed Descriptor) (seats : Seated) (size : ℕ) → IsValid (parts_of old seats) size → Shrinks old new → IsCrossed new → IsValid (parts_of new seats) size
valid_after old new seats size valid shrinks crossed = record {
  seated = seated_by new seats crossed;
  given = λ k c d there home. valid.given k c d (shrinks.permits k d there) (shrinks.homes Row k c home);
  taken = λ k c d there home. valid.taken k c d (shrinks.permits k d there) (shrinks.homes Column k c home);
  single = λ j k d here there. valid.single j k d (shrinks.permits j d here) (shrinks.permits k d there);
  within = λ c some. let old_within = valid.within c some in (omega (arith, old_within.0, shrinks.many Row), omega (arith, old_within.1, shrinks.many Column), old_within.2);
}

-- ---- the permits of a row or a column go
pub cleared_shrinks : (keys : List ℕ) (old new : Crossed Descriptor) → Loses keys old new → Shrinks old new
cleared_shrinks keys old new lost = record {
  permits = λ k d there. still (lists keys k) (get old.items k) d (sym (lost.items k) ∙ there);
  homes = λ side k c home. still (lists keys k) (home_of (lines side old) k) c (sym (lost.homes side k) ∙ home);
  many = lost.many;
} where
  still : {X : Type 0} (b : Bool) (o : Option X) (x : X) → cond b None o ≡ Some x → o ≡ Some x
  still true o x e = cc e
  still false o x e = e

module _ (side : Side) (s : ℕ) (old new : Crossed Descriptor) (crossed : IsCrossed old) (lost : Loses (chain_of (lines side old) s) old new) where
  pub cleared_gone : (k : ℕ) → home_of (lines side new) k ≡ Some s → ⊥
  cleared_gone k home = go (lists (chain_of (lines side old) s) k) refl (sym (lost.homes side k) ∙ home) where
    go : (b : Bool) → lists (chain_of (lines side old) s) k ≡ b → cond b None (home_of (lines side old) k) ≡ Some s → ⊥
    go true e at = cc at
    go false e at = true≢false (sym ((crossed.sound side).listed s k at) ∙ e)

  pub cleared_kept : (k : ℕ) → (home_of (lines side old) k ≡ Some s → ⊥) → get new.items k ≡ get old.items k
  cleared_kept k apart = lost.items k ∙ go (lists (chain_of (lines side old) s) k) refl where
    go : (b : Bool) → lists (chain_of (lines side old) s) k ≡ b → cond b None (get old.items k) ≡ get old.items k
    go true e = absurd (apart ((crossed.sound side).at_home s k e))
    go false e = refl

-- as both are cleared
pub cleared_both : (old mid new : Crossed Descriptor) (s : ℕ) → IsCrossed old → IsCrossed mid → Loses (chain_of old.rows s) old mid → Loses (chain_of mid.columns s) mid new → (side : Side) (k : ℕ) → home_of (lines side new) k ≡ Some s → ⊥
cleared_both old mid new s crossed crossed_mid first second Row k home = cleared_gone Row s old mid crossed first k ((cleared_shrinks _ mid new second).homes Row k s home)
cleared_both old mid new s crossed crossed_mid first second Column k home = cleared_gone Column s mid new crossed_mid second k home

-- one whose row and column are empty leaves its seat
pub valid_without : (permits : Crossed Descriptor) (seats left : Seated) (size s : ℕ) → IsValid (parts_of permits seats) size → ((side : Side) (k : ℕ) → home_of (lines side permits) k ≡ Some s → ⊥) → ((c : ℕ) → seat left c ≡ cond (eqb c s) None (seat seats c))
    → IsValid (parts_of permits left) size
valid_without permits seats left size s valid gone leaves = record {
  seated = record { along = valid.seated.along; across = valid.seated.across };
  given = λ k c d there home. sits c (λ is. gone Row k (home ∙ ap Some is)) ∙ valid.given k c d there home;
  taken = λ k c d there home. sits c (λ is. gone Column k (home ∙ ap Some is)) ∙ valid.taken k c d there home;
  single = valid.single;
  within = λ c some. valid.within c (still (eqb c s) (seat seats c) (sym (ap is_some (leaves c)) ∙ some));
} where
  sits : (c : ℕ) → (c ≡ s → ⊥) → seat left c ≡ seat seats c
  sits c apart = leaves c ∙ ap (λ (b : Bool). cond b None (seat seats c)) (ne_eqb c s apart)

  still : (b : Bool) (o : Option Txn) → is_some (cond b None o) ≡ true → is_some o ≡ true
  still true o h = absurd (true≢false (sym h))
  still false o h = h

-- ---- seats are left
-- two leave their seats, each unless it is used
module _ (used : ℕ → Bool) (from to : ℕ) (seats left : Seated) (leaves : (c : ℕ) → seat left c ≡ cond (eqb c to && not (used c)) None (cond (eqb c from && not (used c)) None (seat seats c))) where
  pub left_are : NoSeatComes seats left
  left_are c t there = go (eqb c to && not (used c)) (eqb c from && not (used c)) (sym (leaves c) ∙ there) where
    go : (a b : Bool) → cond a None (cond b None (seat seats c)) ≡ Some t → seat seats c ≡ Some t
    go true b e = cc e
    go false true e = cc e
    go false false e = e

  -- exactly the seats that are used are taken, if those of the others were
  pub left_exact : ((c : ℕ) → used c ≡ true → is_some (seat seats c) ≡ true) → ((c : ℕ) → (c ≡ from → ⊥) → (c ≡ to → ⊥) → used c ≡ false → is_some (seat seats c) ≡ false) → (c : ℕ) → is_some (seat left c) ≡ used c
  left_exact sits others c = ap is_some (leaves c) ∙ go (used c) refl where
    kept : (a b : Bool) → used c ≡ true → is_some (cond (a && false) None (cond (b && false) None (seat seats c))) ≡ true
    kept true true still = sits c still
    kept true false still = sits c still
    kept false true still = sits c still
    kept false false still = sits c still

    left_now : (a b : Bool) → eqb c to ≡ a → eqb c from ≡ b → used c ≡ false → is_some (cond (a && true) None (cond (b && true) None (seat seats c))) ≡ false
    left_now true b e f unused = refl
    left_now false true e f unused = refl
    left_now false false e f unused = others c (eqb-false c from f) (eqb-false c to e) unused

    go : (u : Bool) → used c ≡ u → is_some (cond (eqb c to && not (used c)) None (cond (eqb c from && not (used c)) None (seat seats c))) ≡ used c
    go true still = rw still (kept (eqb c to) (eqb c from) still)
    go false unused = rw unused (left_now (eqb c to) (eqb c from) refl refl unused)

-- one leaves, as two that are the same
pub leaves_alone : (used : ℕ → Bool) (s : ℕ) (seats left : Seated) → ((c : ℕ) → seat left c ≡ cond (eqb c s && not (used c)) None (seat seats c))
    → (c : ℕ) → seat left c ≡ cond (eqb c s && not (used c)) None (cond (eqb c s && not (used c)) None (seat seats c))
leaves_alone used s seats left leaves c = leaves c ∙ go (eqb c s && not (used c)) where
  go : (b : Bool) → cond b None (seat seats c) ≡ cond b None (cond b None (seat seats c))
  go true = refl
  go false = refl

-- a seat that is still used has who it had
seat_kept : (old new : Seated) (c : ℕ) → ((t : Txn) → seat new c ≡ Some t → seat old c ≡ Some t) → is_some (seat new c) ≡ true → (t : Txn) → seat old c ≡ Some t → seat new c ≡ Some t
seat_kept old new c less some t sat =
    let found = some_of (seat new c) some in
    let same : Some found.0 ≡ Some t = sym (less found.0 found.1) ∙ sat in
    found.1 ∙ same

-- if those who give or take something still have their seats
pub valid_left : (permits : Crossed Descriptor) (seats left : Seated) (size : ℕ) → IsValid (parts_of permits seats) size → NoSeatComes seats left → ((c : ℕ) → is_used permits.rows permits.columns c ≡ true → is_some (seat left c) ≡ true) → IsCrossed permits
    → IsValid (parts_of permits left) size
valid_left permits seats left size valid fewer used crossed = record {
  seated = seated_by permits left crossed;
  given = λ k c d there home. seat_kept seats left c (fewer c) (used c (used_along permits.rows permits.columns k c (crossed.sound Row) home)) (record { 0 = d.giver }) (valid.given k c d there home);
  taken = λ k c d there home. seat_kept seats left c (fewer c) (used c (used_across permits.rows permits.columns k c (crossed.sound Column) home)) (record { 0 = d.taker }) (valid.taken k c d there home);
  single = valid.single;
  within = λ c some. let sat = some_of (seat left c) some in valid.within c (ap is_some (fewer c sat.0 sat.1));
}

-- ---- one permit goes
still_home : (key : ℕ) (permits fewer : Crossed Descriptor) → ((side : Side) → Leaves key (lines side permits) (lines side fewer)) → (side : Side) (k c : ℕ) → home_of (lines side fewer) k ≡ Some c → home_of (lines side permits) k ≡ Some c
still_home key permits fewer lost side k c at = elim (cases_eq k key) [
  | inl here ↦ cc (sym at ∙ ap (home_of (lines side fewer)) here ∙ (lost side).home)
  | inr other ↦ sym ((lost side).homes k other) ∙ at
]

pub removed_shrinks : (key : ℕ) (permits fewer : Crossed Descriptor) → Updates permits.items fewer.items key None → ((side : Side) → Leaves key (lines side permits) (lines side fewer)) → Shrinks permits fewer
removed_shrinks key permits fewer gone lost = record { permits = still; homes = still_home key permits fewer lost; many = λ side. (lost side).many } where
  still : (k : ℕ) (d : Descriptor) → get fewer.items k ≡ Some d → get permits.items k ≡ Some d
  still k d there = elim (cases_eq k key) [
    | inl here ↦ cc (sym there ∙ ap (get fewer.items) here ∙ gone.changed)
    | inr other ↦ sym (gone.others k other) ∙ there
  ]

module _ (permits fewer : Crossed Descriptor) (seats left : Seated) (key from to : ℕ) (used : IsUsed permits seats) (crossed : IsCrossed permits) (after : IsCrossed fewer)
    (home : home_of permits.rows key ≡ Some from) (home_across : home_of permits.columns key ≡ Some to)
    (gone : Updates permits.items fewer.items key None) (lost : (side : Side) → Leaves key (lines side permits) (lines side fewer)) where
  -- the other chains are as they were
  still_chain : (side : Side) (d c : ℕ) → home_of (lines side permits) key ≡ Some d → (c ≡ d → ⊥) → chain_of (lines side fewer) c ≡ chain_of (lines side permits) c
  still_chain side d c at apart = (lost side).chains c ∙ without_unlisted key (chain_of (lines side permits) c) (listed_once (lines side permits) (crossed.sound side) key d c at apart)

  used_before : (c : ℕ) → is_used fewer.rows fewer.columns c ≡ true → is_used permits.rows permits.columns c ≡ true
  used_before c used =
      let key_of = key_of_used fewer.rows fewer.columns c (after.sound Row) (after.sound Column) used in
      elim key_of.1 [
        | inl at ↦ used_along permits.rows permits.columns key_of.0 c (crossed.sound Row) (still_home key permits fewer lost Row key_of.0 c at)
        | inr at ↦ used_across permits.rows permits.columns key_of.0 c (crossed.sound Column) (still_home key permits fewer lost Column key_of.0 c at)
      ]

  module _ (leaves : (c : ℕ) → seat left c ≡ cond (eqb c to && not (is_used fewer.rows fewer.columns c)) None (cond (eqb c from && not (is_used fewer.rows fewer.columns c)) None (seat seats c))) where
    pub dropped_used : IsUsed fewer left
    dropped_used = left_exact (is_used fewer.rows fewer.columns) from to seats left leaves (λ c still. used c ∙ used_before c still) (λ c apart differ unused. used c ∙ sym (used_same permits.rows permits.columns fewer.rows fewer.columns c (still_chain Row from c home apart) (still_chain Column to c home_across differ)) ∙ unused)
