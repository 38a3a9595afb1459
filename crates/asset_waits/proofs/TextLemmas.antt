-- The lines of those who block a request, by whether there are any.
use Rattle.std.proofs.Common.{◌≡◌, ℕ, ◌<◌, List, [], ◌∷◌, length, refl, arith}
use Rattle.std.specs.Prelude.{flat_map}
use Rattle.asset_names.specs.declared.operations.Op.{Op}
use Rattle.asset_names.specs.declared.steps.Step.{Step}
use Rattle.asset_waits.specs.Texts.{nobody_line, blocker_line, blockers_text}

pub nobody_blocks : (steps : List Step) (t x : ℕ) (op : Op) (names : List ℕ) → length names ≡ 0 → blockers_text steps t x op names ≡ nobody_line t x op
unfolding blockers_text
nobody_blocks steps t x op [] none = refl
nobody_blocks steps t x op (u ∷ names) none = absurd (omega (arith, none))

pub somebody_blocks : (steps : List Step) (t x : ℕ) (op : Op) (names : List ℕ) → 0 < length names → blockers_text steps t x op names ≡ flat_map (blocker_line steps t x op) names
unfolding blockers_text
somebody_blocks steps t x op [] some = absurd (omega (arith, some))
somebody_blocks steps t x op (u ∷ names) some = refl
