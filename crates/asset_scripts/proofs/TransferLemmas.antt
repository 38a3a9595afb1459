-- How a read fault and a prefix of a text come about.
use Rattle.std.proofs.Common.{◌≡◌, ℕ, ◌-◌, ◌<◌, true, List, ◌++◌, length, take, drop, Option, None, Some, IfSome, inl, inr, sym, ap, ◌∙◌, append_assoc, take-append-drop, length-append, arith}
use Rattle.std.proofs.lemmas.List.{take_rest}
use Rattle.std.specs.Io.KnownBytes.{Appends, Consumes, Keeps}
use Rattle.std.proofs.KnownBytes.{Appends-kept}
use Rattle.asset_scripts.specs.Device.{DeviceState}
use Rattle.asset_scripts.specs.Transfers.{IsReadFault, TookPrefix, input_limit, request_limit}

-- bytes that a reader gave were left before
given_was_left : (before after : Option (List ℕ)) (bytes : List ℕ) (n : ℕ) → Consumes before after bytes → n < length bytes → IfSome before (λ left. n < length left)
given_was_left None after bytes n gave more = tt
given_was_left (Some left) None bytes n gave more = absurd gave
given_was_left (Some left) (Some rest) bytes n gave more = omega (arith, ap length gave, length-append bytes rest)

module _ {D : Type 0} (remaining : D → Option (List ℕ)) (old new : DeviceState D) where
  -- a reader failed
  pub fault_of_failure : new.failed ≡ true → IsReadFault remaining old new
  unfolding IsReadFault
  fault_of_failure failed = inl failed

  -- a reader was asked as often as is allowed
  pub fault_of_requests : new.asked ≡ request_limit → IsReadFault remaining old new
  unfolding IsReadFault
  fault_of_requests asked = inr (inr asked)

  -- a reader gave too much
  pub fault_of_excess : (bytes : List ℕ) → Consumes (remaining old.inner) (remaining new.inner) bytes → input_limit < length bytes → input_limit < new.moved
      → IsReadFault remaining old new
  unfolding IsReadFault
  fault_of_excess bytes gave more moved = inr (inl (record { moved = moved; had = given_was_left _ _ bytes _ gave more }))

module _ {D : Type 0} (contents : D → Option (List ℕ)) (old : DeviceState D) (text : List ℕ) where
  -- a prefix that stays when the writer takes nothing more
  pub prefix_taken : (before new : DeviceState D) (prefix rest : List ℕ) → text ≡ prefix ++ rest → Appends (contents old.inner) (contents before.inner) prefix
      → Keeps (contents before.inner) (contents new.inner) → TookPrefix contents old new text
  unfolding TookPrefix
  prefix_taken before new prefix rest split appended kept = (prefix, rest, split, Appends-kept _ _ _ _ appended kept)

-- what a writer takes of the rest joins the prefix
pub prefix_grown : (text prefix rest : List ℕ) (n : ℕ) → text ≡ prefix ++ rest → text ≡ (prefix ++ take n rest) ++ take (length rest - n) (drop n rest)
prefix_grown text prefix rest n split =
    split ∙ ap (λ (l : List ℕ). prefix ++ l) (sym (take-append-drop n rest)) ∙ sym (append_assoc prefix (take n rest) (drop n rest))
    ∙ ap (λ (l : List ℕ). (prefix ++ take n rest) ++ l) (sym (take_rest rest n))
