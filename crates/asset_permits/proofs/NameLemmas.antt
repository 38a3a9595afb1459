-- Seats of those who give and take, by name: after a call, exactly those have a seat again.
use Rattle.std.proofs.Common.{◌≡◌, ℕ, true, cond, eqb, not, ◌&&◌, Some, None, is_some, sym, ap, ◌∙◌, ◌⊎◌, inl, inr}
use Rattle.std.proofs.lemmas.Bool.{true≢false, false_from_ne_true}
use Rattle.slab.specs.Slab.{get}
use Rattle.asset_names.specs.declared.names.Txn.{Txn}
use Rattle.asset_names.proofs.Common.{some_of}
use Rattle.asset_chains.specs.declared.side.Side.TheVariants.{Row, Column}
use Rattle.asset_chains.specs.Crossed.{IsCrossed}
use Rattle.asset_seats.specs.Seated.{Seated, seat}
use Rattle.asset_permits.specs.Descriptors.{Descriptor, stands}
use Rattle.asset_permits.specs.Valid.{parts_of, PermitTable, permits_in, used_in, IsUsed, IsTied}
use Rattle.asset_permits.proofs.DropLemmas.{left_are, left_exact, valid_left}
use Rattle.asset_permits.proofs.SeatLemmas.{used_along, used_across, key_of_used}
use Rattle.asset_permits.proofs.SearchLemmas.{has_across}
use Rattle.asset_permits.proofs.SlotLemmas.{key_of_standing, stands_at}

abbrev AreSingle : Seated → Type 0
AreSingle seats = (t : Txn) (c d : ℕ) → seat seats c ≡ Some t → seat seats d ≡ Some t → d ≡ c

-- the seat is that of the giver or of the taker
abbrev IsOfEnd : Seated → Descriptor → ℕ → Type 0
IsOfEnd seats e c = (seat seats c ≡ Some (record { 0 = e.giver })) ⊎ (seat seats c ≡ Some (record { 0 = e.taker }))

-- the seat of one who gives or takes something is used
uses : (table : PermitTable) (seats : Seated) → IsTied table seats → IsCrossed table.permits → AreSingle seats → (e : Descriptor) → stands (permits_in table) e ≡ true → (c : ℕ) → IsOfEnd seats e c → used_in table c ≡ true
uses table seats tied crossed one e there c end =
    let at = key_of_standing table.permits.items e there in
    let across = has_across (parts_of table.permits seats) table.size tied at.0 e at.1 in
    elim end [
      | inl giver ↦ used_along table.permits.rows table.permits.columns at.0 c (crossed.sound Row) (across.home ∙ ap Some (one _ c across.from giver across.giver))
      | inr taker ↦ used_across table.permits.rows table.permits.columns at.0 c (crossed.sound Column) (across.end ∙ ap Some (one _ c across.to taker across.taker))
    ]

-- who has a seat that is used gives or takes something
used_by : (table : PermitTable) (seats : Seated) → IsTied table seats → IsCrossed table.permits → (c : ℕ) → used_in table c ≡ true → (e : Descriptor) × (stands (permits_in table) e ≡ true) × IsOfEnd seats e c
used_by table seats tied crossed c used =
    let key = key_of_used table.permits.rows table.permits.columns c (crossed.sound Row) (crossed.sound Column) used in
    elim key.1 [
      | inl home ↦ let found = some_of (get table.permits.items key.0) (tied.seated.along key.0 ∙ ap is_some home) in (found.0, stands_at table.permits.items key.0 found.0 found.1, inl (tied.given key.0 c found.0 found.1 home))
      | inr home ↦ let found = some_of (get table.permits.items key.0) (tied.seated.across key.0 ∙ ap is_some home) in (found.0, stands_at table.permits.items key.0 found.0 found.1, inr (tied.taken key.0 c found.0 found.1 home))
    ]

sits : (seats : Seated) (e : Descriptor) (c : ℕ) → IsOfEnd seats e c → is_some (seat seats c) ≡ true
sits seats e c end = elim end [ inl giver ↦ ap is_some giver | inr taker ↦ ap is_some taker ]

-- after a call that took nothing away, for which two sat down, and after which they left unless they give or take something
module _ (old new : PermitTable) (were mid left : Seated) (from to : ℕ) (tied : IsTied old were) (used : IsUsed old.permits were) (crossed : IsCrossed old.permits)
    (tied_new : IsTied new mid) (crossed_new : IsCrossed new.permits) (one : AreSingle mid)
    (kept : (c : ℕ) (t : Txn) → seat were c ≡ Some t → seat mid c ≡ Some t) (others : (c : ℕ) → (c ≡ from → ⊥) → (c ≡ to → ⊥) → seat mid c ≡ seat were c)
    (more : (e : Descriptor) → stands (permits_in old) e ≡ true → stands (permits_in new) e ≡ true)
    (leaves : (c : ℕ) → seat left c ≡ cond (eqb c to && not (used_in new c)) None (cond (eqb c from && not (used_in new c)) None (seat mid c))) where
  still_used : (c : ℕ) → used_in old c ≡ true → used_in new c ≡ true
  still_used c was =
      let by = used_by old were tied crossed c was in
      uses new mid tied_new crossed_new one by.0 (more by.0 by.1) c (elim by.2 [ inl giver ↦ inl (kept c _ giver) | inr taker ↦ inr (kept c _ taker) ])

  used_again : IsUsed new.permits left
  used_again = left_exact (used_in new) from to mid left leaves
      (λ c is. let by = used_by new mid tied_new crossed_new c is in sits mid by.0 c by.2)
      (λ c apart differ unused. ap is_some (others c apart differ) ∙ used c ∙ false_from_ne_true _ (λ was. true≢false (sym (still_used c was) ∙ unused)))

  tied_again : IsTied new left
  tied_again = valid_left new.permits mid left new.size tied_new (left_are (used_in new) from to mid left leaves) (λ c is. used_again c ∙ is) crossed_new

  pub seated_again : IsTied new left × IsUsed new.permits left
  seated_again = (tied_again, used_again)
