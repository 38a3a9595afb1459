-- The tables stay tied while nobody moves, and as one more sits down; by whom one without a seat is allowed.
use Rattle.std.proofs.Common.{◌≡◌, ◌∙◌, ℕ, Bool, true, false, cond, eqb, ◌&&◌, ◌||◌, List, Some, None, refl, sym, ap}
use Rattle.std.specs.Prelude.{is_some}
use Rattle.std.proofs.lemmas.Bool.{eqb-true, or_left, false_from_ne_true}
use Rattle.asset_names.specs.declared.names.Txn.{Txn}
use Rattle.asset_names.specs.declared.names.Ob.{Ob}
use Rattle.asset_names.specs.Numbered.{number_in}
use Rattle.asset_names.specs.declared.operations.Op.{Op}
use Rattle.asset_seats.specs.Seated.{Seated, seat}
use Rattle.asset_objects.specs.Placed as Objects
use Rattle.asset_objects.specs.Cells.{number_of}
use Rattle.asset_objects.proofs.PlacedLemmas.{number_named}
use Rattle.asset_objects.proofs.SeatLemmas as ObjectSeats
use Rattle.asset_permits.specs.Descriptors.{Descriptor, leads_by, reaches_opener, allows_by}
use Rattle.asset_permits.specs.Valid as Permits
use Rattle.asset_permits.proofs.ArrowLaws.{leads_itself}
use Rattle.asset_permits.proofs.SearchLemmas.{nothing_leads}
use Rattle.asset_locks.specs.LockTable.{LockTable, enrol_in, enrolled_in, is_free_in}
use Rattle.asset_locks.specs.Tied as Locks
use Rattle.asset_locks.proofs.SeatLemmas as LockSeats
use Rattle.asset_deps.specs.Valid as Deps
use Rattle.asset_deps.proofs.TableLemmas as DepSeats
use Rattle.asset_names.specs.declared.statuses.Status.TheVariants as Status'
use Rattle.asset_names.specs.Endings.{is_live_status}
use Rattle.asset_trans.specs.TransRows.{NamedTransRow, status_in, seat_in}
use Rattle.asset_ends.specs.Standing.{LiveAreSeated, allows_in}
use Rattle.asset_ends.specs.Tied.{AreTied, HasRoom}

permits_same : (table : Permits.PermitTable) (seats new : Seated) → Permits.IsTied table seats → ((c : ℕ) → seat new c ≡ seat seats c) → Permits.IsTied table new
permits_same table seats new tied same = record {
  seated = record { along = tied.seated.along; across = tied.seated.across };
  given = λ k c d there home. same c ∙ tied.given k c d there home;
  taken = λ k c d there home. same c ∙ tied.taken k c d there home;
  single = tied.single;
  within = λ c some. tied.within c (sym (ap is_some (same c)) ∙ some);
}

permits_sits : (table : Permits.PermitTable) (seats new : Seated) (s : ℕ) (t : Txn) → Permits.IsTied table seats → seat seats s ≡ None → ((c : ℕ) → seat new c ≡ cond (eqb c s) (Some t) (seat seats c)) → Permits.HasRoom table s → Permits.IsTied table new
permits_sits table seats new s t tied free sits room = record {
  seated = record { along = tied.seated.along; across = tied.seated.across };
  given = λ k c d there home. still c (record { 0 = d.giver }) (tied.given k c d there home);
  taken = λ k c d there home. still c (record { 0 = d.taker }) (tied.taken k c d there home);
  single = tied.single;
  within = λ c some. go c (eqb c s) refl some;
} where
  still : (c : ℕ) (u : Txn) → seat seats c ≡ Some u → seat new c ≡ Some u
  still c u sat = DepSeats.sits_still s t seats new free sits c u sat

  go : (c : ℕ) (b : Bool) → eqb c s ≡ b → is_some (seat new c) ≡ true → Permits.HasRoom table c
  go c true at some = let here : c ≡ s = eqb-true c s at in rw here room
  go c false at some = tied.within c (sym (ap is_some (sits c ∙ ap (λ b. cond b (Some t) (seat seats c)) at)) ∙ some)

-- nobody moves
pub tied_same : (written : Objects.ObjectParts) (table : Locks.LockParts) (given : Permits.PermitTable) (links : Deps.LinkTable) (seats new : Seated) → AreTied written table given links seats → ((c : ℕ) → seat new c ≡ seat seats c)
    → AreTied written table given links new
tied_same written table given links seats new tied same = record {
  objects = ObjectSeats.tied_same written seats new tied.objects same;
  locks = LockSeats.tied_same table seats new same tied.locks;
  permits = permits_same given seats new tied.permits same;
  deps = DepSeats.tied_same links seats new tied.deps same;
  numbers = tied.numbers;
}

-- one more sits down
pub tied_sits : (written : Objects.ObjectParts) (table : Locks.LockParts) (given : Permits.PermitTable) (links : Deps.LinkTable) (seats new : Seated) (s : ℕ) (t : Txn) → ((c : ℕ) → seat seats c ≡ Some t → ⊥) → AreTied written table given links seats → Objects.IsTied written new → seat seats s ≡ None → ((c : ℕ) → seat new c ≡ cond (eqb c s) (Some t) (seat seats c)) → HasRoom written table given links s
    → AreTied written table given links new
tied_sits written table given links seats new s t absent tied objects free sits room = record {
  objects = objects;
  locks = LockSeats.tied_sits table seats new s t free sits absent room.locks tied.locks;
  permits = permits_sits given seats new s t tied.permits free sits room.permits;
  deps = DepSeats.tied_sits links seats new s t tied.deps free sits room.deps;
  numbers = tied.numbers;
}

-- the locks know an object by the number that it has among the objects
pub number_in_locks : (written : Objects.ObjectParts) (table : Locks.LockParts) (given : Permits.PermitTable) (links : Deps.LinkTable) (seating : Seated) (x : ℕ) → AreTied written table given links seating
    → number_of (Objects.objects_in written) x ≡ number_in table.store.objects x
number_in_locks written table given links seating x tied = number_named written x ∙ ap (λ (objects : List Ob). number_in objects x) (sym tied.numbers)

-- who is live is allowed by each who leads to an opener
pub allowed_live : (rows : List NamedTransRow) (descriptors : List Descriptor) (t x : ℕ) (op : Op) → is_live_status (status_in rows t) ≡ true → (u : ℕ) → allows_by descriptors u t x op ≡ allows_in rows descriptors u t x op
unfolding allows_by allows_in
allowed_live rows descriptors t x op alive u = λ i. leads_by descriptors u t x op || (sym alive i && reaches_opener descriptors u x op)

pub free_live : (rows : List NamedTransRow) (descriptors : List Descriptor) (table : LockTable) (t x : ℕ) (op : Op) → is_live_status (status_in rows t) ≡ true
    → is_free_in table (λ u. allows_by descriptors u t x op) t x op ≡ is_free_in table (λ u. allows_in rows descriptors u t x op) t x op
free_live rows descriptors table t x op alive = λ i. is_free_in table (λ u. allowed_live rows descriptors t x op alive u i) t x op

pub free_running : (rows : List NamedTransRow) (descriptors : List Descriptor) (table : LockTable) (t x : ℕ) (op : Op) → status_in rows t ≡ Status'.Running
    → is_free_in table (λ u. allows_by descriptors u t x op) t x op ≡ is_free_in table (λ u. allows_in rows descriptors u t x op) t x op
unfolding is_live_status
free_running rows descriptors table t x op runs = free_live rows descriptors table t x op (ap is_live_status runs)

-- who has no seat is allowed by itself alone
pub allowed_alone : (rows : List NamedTransRow) (given : Permits.PermitTable) (seats : Seated) (t : Txn) (x : ℕ) (op : Op) → LiveAreSeated rows seats → Permits.IsTied given seats → ((c : ℕ) → seat seats c ≡ Some t → ⊥) → (u : ℕ)
    → eqb u t.0 ≡ allows_in rows (Permits.permits_in given) u t.0 x op
unfolding allows_in
allowed_alone rows given seats t x op seated tied absent u = leads (eqb u t.0) refl ∙ (λ i. leads_by (Permits.permits_in given) u t.0 x op || (sym dead i && reaches_opener (Permits.permits_in given) u x op)) where
  dead : is_live_status (status_in rows t.0) ≡ false
  dead = false_from_ne_true _ (λ alive. absent (seat_in rows t.0) (seated.seated t alive))

  leads : (same : Bool) → eqb u t.0 ≡ same → same ≡ (leads_by (Permits.permits_in given) u t.0 x op || false)
  leads true e = sym (or_left _ false (ap (λ n. leads_by (Permits.permits_in given) u n x op) (sym (eqb-true u t.0 e)) ∙ leads_itself (Permits.permits_in given) u x op))
  leads false e = sym (ap (λ b. b || false) (nothing_leads (Permits.parts_of given.permits seats) given.size tied x op (record { 0 = u }) t absent e))

-- who sits down and is enrolled then comes last among those who were enrolled before
pub enrolled_last : (table : Locks.LockParts) (seats new : Seated) (t : Txn) (before after : LockTable) → Locks.rows_in new table ≡ Locks.rows_in seats table → Locks.rows_in seats table ≡ before → enrolled_in before t.0 ≡ None
    → (enrolled_in (Locks.rows_in new table) t.0 ≡ None → after ≡ enrol_in t.0 (Locks.rows_in new table)) → after ≡ enrol_in t.0 before
enrolled_last table seats new t before after stay shown out done =
    let same : Locks.rows_in new table ≡ before = stay ∙ shown in
    done (ap (λ rows. enrolled_in rows t.0) same ∙ out) ∙ ap (enrol_in t.0) same
