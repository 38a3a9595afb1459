use Rattle.std.proofs.Common.{◌≡◌, ℕ, Bool, true, false, eqb, cond, [], ◌∷◌, ◌++◌, Option, Some, None, is_some, refl, ap, ◌∙◌}
use Rattle.std.specs.Prelude.{find}
use Rattle.asset_locks.specs.LockTable.{Enrolled, LockTable, enrolled_in, enrol_in}
use Rattle.asset_table_tests.proofs.handing.hand_once.Goals as goal

-- one who is enrolled stays so as another is enrolled
found_still : (u : ℕ) (new : Enrolled) (rows : LockTable) → is_some (find (λ (who : Enrolled). eqb who.name u) rows) ≡ true → is_some (find (λ (who : Enrolled). eqb who.name u) (rows ++ new ∷ [])) ≡ true
found_still u new [] h = cc
found_still u new (who ∷ rows) h = go (eqb who.name u) h (found_still u new rows) where
  go : (b : Bool) → is_some (cond b (Some who) (find (λ (w : Enrolled). eqb w.name u) rows)) ≡ true → (is_some (find (λ (w : Enrolled). eqb w.name u) rows) ≡ true → is_some (find (λ (w : Enrolled). eqb w.name u) (rows ++ new ∷ [])) ≡ true)
      → is_some (cond b (Some who) (find (λ (w : Enrolled). eqb w.name u) (rows ++ new ∷ []))) ≡ true
  go true h later = refl
  go false h later = later h

enrolled_still : (t u : ℕ) (old new : LockTable) → (enrolled_in old t ≡ None → new ≡ enrol_in t old) → (is_some (enrolled_in old t) ≡ true → new ≡ old) → is_some (enrolled_in old u) ≡ true → is_some (enrolled_in new u) ≡ true
unfolding enrolled_in enrol_in
enrolled_still t u old new done again there = go (enrolled_in old t) refl where
  go : (o : Option Enrolled) → enrolled_in old t ≡ o → is_some (enrolled_in new u) ≡ true
  go None e = ap (λ (table : LockTable). is_some (enrolled_in table u)) (done e) ∙ found_still u (record { name = t; pending = None; locks = [] }) old there
  go (Some who) e = ap (λ (table : LockTable). is_some (enrolled_in table u)) (again (ap is_some e)) ∙ there

pub hand_over-requires-clause-giver : goal.hand_over-requires-clause-giver
hand_over-requires-clause-giver c = enrolled_still c.args.taker c.args.giver c.enrol.new.self c.enrol-2.new.self c.in_ok-enrol-2.ensures.done (λ h. (c.in_ok-enrol-2.ensures.again h).1) c.in_ok-enrol.ensures.enrolled
