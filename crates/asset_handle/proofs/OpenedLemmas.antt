-- How a handle is opened, and why it is not.
use Rattle.std.proofs.Common.{◌≡◌, ℕ, true≢false, refl, sym, ◌∙◌, arith, inl, inr}
use Rattle.std.specs.Prelude.{true, false, Option, Some, None, is_some}
use Rattle.std.proofs.lemmas.Option.{none-some}
use Rattle.asset_names.specs.Steps.{Opening}
use Rattle.asset_core.specs.OpenFaults.{MayOpen}
use Rattle.asset_core.specs.Pending.{Facility, facility_of}
use Rattle.asset_handle.specs.declared.codes.Code.{Code}
use Rattle.asset_handle.specs.declared.codes.Code.TheVariants.{Done, Full, NoMemory, Closed, IsOpen, BadCapacity, DoubleObject, BadArgument, Absent}
use Rattle.asset_handle.specs.Codes.{number_of}
use Rattle.asset_handle.specs.Calls.{IsFault, IsHandleOpened}

-- a fault opens nothing
pub opens_nothing : (before : Option Facility) (opening : Opening) (room first named : ℕ) (code : Code) → before ≡ None → IsFault opening room first code named → IsHandleOpened before opening room first (number_of code) before named
opens_nothing before opening room first named BadCapacity closed fault = record {
  opened = λ e. absurd (omega (arith, e));
  may = λ e. absurd (omega (arith, e));
  already = λ f is. absurd (none-some f (sym closed ∙ is));
  open_before = λ e. absurd (omega (arith, e));
  closed = λ _. closed;
  capacity = λ _. fault.1;
  double = λ e. absurd (omega (arith, e));
  codes = inr (inr (inr (inl refl)));
  fault = λ _. refl;
  kept = λ _. fault.0;
}
opens_nothing before opening room first named DoubleObject closed fault = record {
  opened = λ e. absurd (omega (arith, e));
  may = λ e. absurd (omega (arith, e));
  already = λ f is. absurd (none-some f (sym closed ∙ is));
  open_before = λ e. absurd (omega (arith, e));
  closed = λ _. closed;
  capacity = λ e. absurd (omega (arith, e));
  double = λ _. fault;
  codes = inr (inr (inr (inr refl)));
  fault = λ _. refl;
  kept = λ other. absurd (other refl);
}
opens_nothing before opening room first named NoMemory closed fault = record {
  opened = λ e. absurd (omega (arith, e));
  may = λ e. absurd (omega (arith, e));
  already = λ f is. absurd (none-some f (sym closed ∙ is));
  open_before = λ e. absurd (omega (arith, e));
  closed = λ _. closed;
  capacity = λ e. absurd (omega (arith, e));
  double = λ e. absurd (omega (arith, e));
  codes = inr (inl refl);
  fault = λ _. refl;
  kept = λ _. fault;
}
opens_nothing before opening room first named Done closed fault = absurd fault
opens_nothing before opening room first named Full closed fault = absurd fault
opens_nothing before opening room first named Closed closed fault = absurd fault
opens_nothing before opening room first named IsOpen closed fault = absurd fault
opens_nothing before opening room first named BadArgument closed fault = absurd fault
opens_nothing before opening room first named Absent closed fault = absurd fault

-- an open handle is not opened again
pub opens_no_more : (before : Option Facility) (opening : Opening) (room first : ℕ) → is_some before ≡ true → IsHandleOpened before opening room first 4 before first
opens_no_more before opening room first is = record {
  opened = λ e. absurd (omega (arith, e));
  may = λ e. absurd (omega (arith, e));
  already = λ _ _. refl;
  open_before = λ _. is;
  closed = λ other. absurd (other refl);
  capacity = λ e. absurd (omega (arith, e));
  double = λ e. absurd (omega (arith, e));
  codes = inr (inr (inl refl));
  fault = λ _. refl;
  kept = λ _. refl;
}

-- a closed handle has no facility
pub none_is_there : {A : Type 0} (held : Option A) → is_some held ≡ false → held ≡ None
none_is_there None closed = refl
none_is_there (Some x) closed = absurd (true≢false closed)

-- a closed handle is opened
pub opens : (before later : Option Facility) (opening : Opening) (room first named : ℕ) → before ≡ None → later ≡ Some (facility_of opening room) → MayOpen opening room → named ≡ first → IsHandleOpened before opening room first 0 later named
opens before later opening room first named closed is may same = record {
  opened = λ _. is;
  may = λ _. may;
  already = λ f is. absurd (none-some f (sym closed ∙ is));
  open_before = λ e. absurd (omega (arith, e));
  closed = λ _. closed;
  capacity = λ e. absurd (omega (arith, e));
  double = λ e. absurd (omega (arith, e));
  codes = inl refl;
  fault = λ other. absurd (other refl);
  kept = λ _. same;
}
