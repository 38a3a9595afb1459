-- Permits as they are stored, and as they are asked for.
use Rattle.std.specs.Prelude.{◌≡◌, ℕ, Bool, true, Some, [], ◌∷◌}
use Rattle.slab.specs.Slab.{get}
use Rattle.asset_names.specs.declared.operations.Op.{Op}
use Rattle.asset_names.specs.declared.sets.ObSet.{ObSet}
use Rattle.asset_names.specs.declared.sets.ObSet.TheVariants as ObSet'
use Rattle.asset_permits.specs.declared.permit_objects.PermitObjects.{PermitObjects}
use Rattle.asset_permits.specs.declared.permit_objects.PermitObjects.TheVariants as PermitObjects'
use Rattle.asset_permits.specs.declared.permit.Sought.{Sought}
use Rattle.asset_chains.specs.Chained.{home_of}
use Rattle.asset_chains.specs.Crossed.{Crossed}
use Rattle.asset_seats.specs.Seated.{Seated, HasSeat}
use Rattle.asset_permits.specs.Descriptors.{Descriptor, opens_on}

-- the set that is stored
abbrev pub set_of : PermitObjects → ObSet
set_of PermitObjects'.All = ObSet'.All
set_of (PermitObjects'.One x) = ObSet'.Listed (x ∷ [])
set_of (PermitObjects'.Listed objects) = ObSet'.Listed objects.items

-- the permit that is asked for
abbrev pub asked : Sought → Descriptor
asked sought = record { giver = sought.giver.t.0; taker = sought.taker.t.0; objects = sought.objects; ops = sought.ops; is_open = sought.is_open }

-- both ends of the permit have the seats that they say
abbrev pub HaveSeats : Seated → Sought → Type 0
HaveSeats seats sought = HasSeat seats sought.giver × HasSeat seats sought.taker

-- an open permit has its giver in the taker's place
abbrev pub IsOwn : Descriptor → Type 0
IsOwn d = d.is_open ≡ true → d.taker ≡ d.giver

-- each open permit has its giver in the taker's place, and the flag is set if there is one
abbrev pub AreNoted : Bool → Crossed Descriptor → Type 0
AreNoted flag permits = (k : ℕ) (d : Descriptor) → get permits.items k ≡ Some d → d.is_open ≡ true → (flag ≡ true) × (d.taker ≡ d.giver)

-- an open permit in the row of the seat opens x for op
abbrev pub OpensAt : Crossed Descriptor → ℕ → Op → ℕ → Type 0
OpensAt permits x op c = (k : ℕ) × (d : Descriptor) × (home_of permits.rows k ≡ Some c) × (get permits.items k ≡ Some d) × (opens_on x op d ≡ true)
