-- What a writer took of a text.
use Rattle.std.proofs.Common.{◌≡◌, ℕ, List, inl, inr}
use Rattle.std.specs.Prelude.{true, Option, Result, Ok, Err, OnOk, OnErr}
use Rattle.std.specs.Io.KnownBytes.{Appends}
use Rattle.asset_scripts.specs.Device.{DeviceState}
use Rattle.asset_scripts.specs.Transfers.{TookPrefix}
use Rattle.asset_program.specs.Program.{TookText}

-- it took all of it or, at a fault, a prefix
pub took_some : {W T E : Type 0} (contents : W → Option (List ℕ)) (old new : DeviceState W) (text : List ℕ) (result : Result T E)
    → OnOk result (Appends (contents old.inner) (contents new.inner) text) → OnErr result (new.failed ≡ true) → OnErr result (TookPrefix contents old new text) → TookText contents old new text
took_some contents old new text (Ok x) took failed prefix = inl took
took_some contents old new text (Err e) took failed prefix = inr (failed, prefix)
