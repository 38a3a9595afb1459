-- Ends that are noted one after another.
use Rattle.std.proofs.Common.{◌≡◌, ◌==◌, cond, List, [], ◌∷◌, ◌++◌, map, refl, Some, None}
use Rattle.std.specs.Prelude.{Option}
use Rattle.asset_names.specs.declared.names.Txn.{Txn}
use Rattle.asset_bodies.specs.declared.ends.JobEnd.{JobEnd}
use Rattle.asset_jobs.specs.declared.rows.JobText.{JobText}
use Rattle.asset_jobs.specs.Ended.{known_in, last_end, row_among, row_by, text_of}

-- one end more
pub last_more : (ends : List (Txn × JobEnd)) (end : Txn × JobEnd) (t : Txn) (known : Option JobText) → last_end known (ends ++ end ∷ []) t ≡ cond (end.0.0 == t.0) (Some (text_of end.1)) (last_end known ends t)
unfolding last_end
last_more [] end t known = refl
last_more (first ∷ ends) end t known = last_more ends end t (cond (first.0.0 == t.0) (Some (text_of first.1)) known)

-- rows by a table that knows the ends
pub rows_known : (entries : List (Txn × JobText)) (ends : List (Txn × JobEnd)) (names : List Txn) → ((t : Txn) → known_in entries t ≡ last_end None ends t) → map (λ (t : Txn). row_by (known_in entries t) t) names ≡ map (row_among ends) names
unfolding row_among
rows_known entries ends [] knows = refl
rows_known entries ends (t ∷ names) knows = λ i. row_by (knows t i) t ∷ rows_known entries ends names knows i
