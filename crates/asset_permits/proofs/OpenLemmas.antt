-- Who opens an object, by what the table notes of open permits, and as permits go.
use Rattle.std.proofs.Common.{◌≡◌, ℕ, Bool, true, false, eqb, not, ◌&&◌, refl, sym, ap, ◌∙◌}
use Rattle.std.proofs.lemmas.Bool.{and_from, and_parts, eqb-true, true≢false, false≢true, false_from_ne_true}
use Rattle.asset_names.specs.declared.operations.Op.{Op}
use Rattle.asset_names.proofs.Common.{both_follow}
use Rattle.asset_chains.specs.Crossed.{Crossed}
use Rattle.asset_permits.specs.Descriptors.{Descriptor, opens_on, lets_all, opens}
use Rattle.asset_permits.specs.Stored.{AreNoted}
use Rattle.asset_permits.specs.Valid.{descriptors_of}
use Rattle.asset_permits.proofs.SlotLemmas.{IsRidOf, any_has, key_of_any}

-- nobody, unless it is noted
pub none_opens : (flag : Bool) (permits : Crossed Descriptor) → flag ≡ false → AreNoted flag permits → (u x : ℕ) (op : Op) → opens (descriptors_of permits.items) u x op ≡ false
unfolding opens lets_all opens_on
none_opens flag permits unset noted u x op = false_from_ne_true _ (λ h.
    let found = key_of_any (lets_all u x op) permits.items h in
    true≢false (sym (noted found.0 found.1 found.2 (and_parts _ _ (and_parts _ _ found.3).1).0).0 ∙ unset))

-- as the permits of one transaction go
pub opens_dropped : (flag : Bool) (old new : Crossed Descriptor) (t : ℕ) → AreNoted flag old → IsRidOf t old.items new.items → (u x : ℕ) (op : Op)
    → opens (descriptors_of new.items) u x op ≡ (opens (descriptors_of old.items) u x op && not (eqb u t))
unfolding opens lets_all opens_on
opens_dropped flag old new t noted rid u x op = both_follow _ _ to back where
  not_false : (b : Bool) → b ≡ false → not b ≡ true
  not_false b is = ap not is

  not_true : (b : Bool) → not b ≡ true → b ≡ false
  not_true true h = absurd (false≢true h)
  not_true false h = refl

  to : opens (descriptors_of new.items) u x op ≡ true → (opens (descriptors_of old.items) u x op && not (eqb u t)) ≡ true
  to h =
      let found = key_of_any (lets_all u x op) new.items h in
      let d = found.1 in
      let giver : d.giver ≡ u = eqb-true d.giver u (and_parts _ _ found.3).0 in
      and_from _ _ (any_has (lets_all u x op) old.items found.0 d (rid.still found.0 d found.2) found.3) (not_false (eqb u t) (ap (λ n. eqb n t) (sym giver) ∙ rid.begins found.0 d found.2))

  back : (opens (descriptors_of old.items) u x op && not (eqb u t)) ≡ true → opens (descriptors_of new.items) u x op ≡ true
  back h =
      let both = and_parts _ _ h in
      let found = key_of_any (lets_all u x op) old.items both.0 in
      let d = found.1 in
      let parts = and_parts _ _ found.3 in
      let giver : d.giver ≡ u = eqb-true d.giver u parts.0 in
      let apart : eqb d.giver t ≡ false = ap (λ n. eqb n t) giver ∙ not_true (eqb u t) both.1 in
      let taker = (noted found.0 d found.2 (and_parts _ _ parts.1).0).1 in
      any_has (lets_all u x op) new.items found.0 d (rid.kept found.0 d found.2 apart (ap (λ n. eqb n t) taker ∙ apart)) found.3

-- if nothing is of it or for it, nothing changes
pub opens_kept : (permits : Crossed Descriptor) (t : ℕ) → IsRidOf t permits.items permits.items → (u x : ℕ) (op : Op)
    → opens (descriptors_of permits.items) u x op ≡ (opens (descriptors_of permits.items) u x op && not (eqb u t))
unfolding opens lets_all
opens_kept permits t rid u x op = go (opens (descriptors_of permits.items) u x op) refl where
  go : (b : Bool) → opens (descriptors_of permits.items) u x op ≡ b → b ≡ (b && not (eqb u t))
  go false is = refl
  go true is =
      let found = key_of_any (lets_all u x op) permits.items is in
      let giver : found.1.giver ≡ u = eqb-true found.1.giver u (and_parts _ _ found.3).0 in
      sym (ap not (ap (λ n. eqb n t) (sym giver) ∙ rid.begins found.0 found.1 found.2))
