use Rattle.std.proofs.Common.{◌≡◌, ◌⊎◌, ℕ, Bool, true, Some}
use Rattle.std.specs.List.{list_any}
use Rattle.slab.specs.Slab.{get}
use Rattle.asset_names.specs.InSet.{in_set}
use Rattle.asset_chains.specs.Chained.{chain_of, home_of, lists}
use Rattle.asset_permits.specs.declared.copying.Cut.{Cut}
use Rattle.asset_permits.specs.Descriptors.{Descriptor}
use Rattle.asset_permits.specs.Copies.{cut_of}
use Rattle.asset_marks.proofs.KeyWalkLemmas.{passed, left, IsOn}
use Rattle.asset_permits.proofs.copying.cut_along.Given as goal

-- what is copied is of the permits at the keys that are passed
abbrev pub invariant-keys : goal.invariant-keys
invariant-keys l = record {
  on : IsOn l.permits.rows l.seat l.next;
  kept : (test : Cut → Bool) → list_any test l.initial.cuts.items ≡ true → list_any test l.cuts.items ≡ true;
  made : (test : Cut → Bool) → list_any test l.cuts.items ≡ true → (list_any test l.initial.cuts.items ≡ true) ⊎ ((k : ℕ) × (d : Descriptor) × (home_of l.permits.rows k ≡ Some l.seat) × (get l.permits.items k ≡ Some d) × (in_set d.objects l.x.0 ≡ true) × (test (cut_of l.x d) ≡ true));
  all : (test : Cut → Bool) (k : ℕ) (d : Descriptor) → lists (passed l.next (chain_of l.permits.rows l.seat)) k ≡ true → get l.permits.items k ≡ Some d → in_set d.objects l.x.0 ≡ true → test (cut_of l.x d) ≡ true → list_any test l.cuts.items ≡ true;
}

abbrev pub decreases-keys : goal.decreases-keys
decreases-keys l = left l.next (chain_of l.permits.rows l.seat)
