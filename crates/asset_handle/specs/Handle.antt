-- What a handle owns: what a box of its facility owns, if it is open, and else nothing.
use Rattle.std.specs.Prelude.{◌≡◌, Bool, is_some}
use Rattle.std.specs.declared.option.Option.TheVariants.{Some, None}
use Rattle.std.specs.declared.option.Option.{Option}
use base.Fml.{Fml, ftrue}
use base.Stored.{Coded}
use denote.RawPtr.{Ptr}
use Rattle.std.specs.Box.Ownership.{box_owns}
use Rattle.std.specs.Coded.{coded_option}
use Rattle.std.specs.Global.{Global}
use Rattle.std_heap.specs.contracts.GlobalAllocator.TheImpl.{ghosts}
use Rattle.asset_core.specs.contracts.facility.Core.{the_row}

-- the memory behind the pointer of a handle
abbrev pub handle_owns : Global → Ptr → Option the_row.Denot → Fml
handle_owns alloc p None = ftrue
handle_owns alloc p (Some x) = box_owns (ghosts.dealloc_token alloc) the_row p x

-- how the facility of a handle is stored
abbrev pub held_coded : Coded (Option the_row.Denot)
held_coded = coded_option the_row.coded

-- the flag says whether the handle has a facility
abbrev pub IsTied : Bool → Option the_row.Denot → Type 0
IsTied flag held = flag ≡ is_some held
