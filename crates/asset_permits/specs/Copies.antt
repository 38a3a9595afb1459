-- Copies of permits: a transaction gets those of another, each cut to one object.
use Rattle.std.specs.List.{list_any}
use Rattle.std.specs.Prelude.{Some, ◌≡◌, ℕ, Bool, true, false, cond, ◌==◌, ◌&&◌, ◌||◌, List, [], ◌∷◌, map, filter, flat_map}
use Rattle.asset_names.specs.declared.names.Ob.{Ob}
use Rattle.asset_names.specs.declared.names.Txn.{Txn}
use Rattle.asset_names.specs.declared.sets.ObSet.TheVariants.{Listed}
use Rattle.asset_names.specs.InSet.{in_set}
use Rattle.asset_seats.specs.Seated.{Seated, seat}
use Rattle.asset_permits.specs.declared.copying.Cut.{Cut}
use Rattle.asset_permits.specs.Descriptors.{Descriptor, stands}

-- what is copied of a permit on x: for whom it is, and by which operations
unfoldable pub cut_of : Ob → Descriptor → Cut
cut_of x d = record { taker = record { 0 = d.taker }; x = x; ops = d.ops; is_open = d.is_open }

-- the permit that the receiver gives by a copy: an open one by the copy of an open one
unfoldable pub copy_of : ℕ → Cut → Descriptor
copy_of receiver cut = record { giver = receiver; taker = cond cut.is_open receiver cut.taker.0; objects = Listed (cut.x ∷ []); ops = cut.ops; is_open = cut.is_open }

-- whether the permit is the giver's, and has the object
unfoldable pub gives_on : ℕ → Ob → Descriptor → Bool
gives_on giver x d = d.giver == giver && in_set d.objects x.0

-- what is copied of the giver's permits on x
unfoldable pub cuts_on : ℕ → List Descriptor → Ob → List Cut
cuts_on giver descriptors x = map (cut_of x) (filter (gives_on giver x) descriptors)

-- what is copied of the giver's permits on each of the objects
unfoldable pub cuts_in : ℕ → List Descriptor → List Ob → List Cut
cuts_in giver descriptors moved = flat_map (cuts_on giver descriptors) moved

-- the permits that the receiver gives by these copies
unfoldable pub given_by : ℕ → List Cut → List Descriptor
given_by receiver cuts = map (copy_of receiver) cuts

-- the copies of the giver's permits on each of the objects, each of the receiver, and cut to that object
unfoldable pub copies : ℕ → ℕ → List Descriptor → List Ob → List Descriptor
copies giver receiver descriptors moved = given_by receiver (cuts_in giver descriptors moved)

-- what stands is what stood, and what the receiver gives by copies of which none stood
pub record AddsCuts (receiver : ℕ) (added : List Cut) (old new : List Descriptor) : Type 0 where
  pub standing : (e : Descriptor) → stands new e ≡ (stands old e || stands (given_by receiver added) e)
  pub fresh : (e : Descriptor) → stands (given_by receiver added) e ≡ true → stands old e ≡ false

-- each for whom something is copied has a seat
abbrev pub TakersSit : Seated → List Cut → Type 0
TakersSit seats cuts = (u : Txn) → list_any (λ (cut : Cut). cut.taker.0 == u.0) cuts ≡ true → (c : ℕ) × (seat seats c ≡ Some u)
