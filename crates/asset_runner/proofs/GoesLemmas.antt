-- How calls go on, and what came of jobs.
use Rattle.std.proofs.Common.{◌≡◌, ℕ, zero, suc, ◌<◌, ◌⊎◌, ⊎_elim, Bool, true, false, List, [], ◌∷◌, length, set, get_or, Option, Some, None, sym, refl, ◌∙◌, subst, arith}
use Rattle.std.specs.Prelude.{slice_get}
use mathlib.Core.Logic.{inl, inr}
use Rattle.asset_names.specs.declared.names.Txn.{Txn}
use Rattle.asset_names.specs.declared.replies.Outcome.{Outcome}
use Rattle.asset_names.specs.declared.replies.Outcome.TheVariants.{Answer, Wait}
use Rattle.asset_audit.specs.Audited.{Call}
use Rattle.asset_runner.specs.declared.arrival.Arrival.{Arrival}
use Rattle.asset_runner.specs.Fates.{answered_by, waits_by, AsksOnce, AsksCommit}
use Rattle.asset_runner.specs.Arrived.{GoesOn, AllGoOn}
use Rattle.asset_runner.specs.Rows.{names_of}

-- what a commit came to is one call more or none
pub asks_once : (u : Txn) (before later : List Call) (came : Option Outcome) → AsksOnce u before came later → AsksCommit u before later
asks_once u before later None same = inl same
asks_once u before later (Some Wait) same = inl same
asks_once u before later (Some (Answer reply)) more = inr (more.0, reply, more.1)

either : (b : Bool) → (b ≡ true) ⊎ (b ≡ false)
either true = inl refl
either false = inr refl

module _ {X : Type 0} {B : X → Type 0} where
  pub goes_same : (a : Arrival X B) → GoesOn a a
  goes_same a = record { place = refl; name = refl; answered = refl; body = refl; calls = λ u e. inl refl; waiting = λ w. refl; settled = λ w. (w, refl) }

  -- a commit waits later only if it waited before
  pub waited : (a b : Arrival X B) → GoesOn a b → waits_by b.fate ≡ true → waits_by a.fate ≡ true
  waited a b g w = ⊎_elim (λ is. is) (λ not. absurd (cc (w, (g.settled not).0))) (either (waits_by a.fate))

  -- a commit that was not answered before may be answered later, and one that was is not asked again
  pub asks_on : (a b : Arrival X B) (u : Txn) (calls : List Call) → GoesOn a b → answered_by a.fate ≡ Some u → AsksCommit u calls a.returned.list.calls
      → (waits_by a.fate ≡ true → a.returned.list.calls ≡ calls) → AsksCommit u calls b.returned.list.calls
  asks_on a b u calls g e kept waiting = ⊎_elim
      (λ is. subst (λ (l : List Call). AsksCommit u l b.returned.list.calls) (waiting is) (g.calls u e))
      (λ not. subst (λ (l : List Call). AsksCommit u calls l) (sym (g.settled not).1) kept)
      (either (waits_by a.fate))

  -- what was given up has no commit that waits
  pub not_waiting : (a : Arrival X B) (done : Bool) → done ≡ false → (waits_by a.fate ≡ true → done ≡ true) → waits_by a.fate ≡ false
  not_waiting a done given_up waiting = ⊎_elim (λ is. absurd (cc (given_up, waiting is))) (λ not. not) (either (waits_by a.fate))

  goes_more : (a b c : Arrival X B) → GoesOn a b → GoesOn b c → GoesOn a c
  goes_more a b c x y = record {
    place = y.place ∙ x.place;
    name = y.name ∙ x.name;
    answered = y.answered ∙ x.answered;
    body = y.body ∙ x.body;
    calls = λ u e. asks_on b c u a.returned.list.calls y (x.answered ∙ e) (x.calls u e) x.waiting;
    waiting = λ w. y.waiting w ∙ x.waiting (waited b c y w);
    settled = λ w. ((y.settled (x.settled w).0).0, (y.settled (x.settled w).0).1 ∙ (x.settled w).1);
  }

  pub all_same : (xs : List (Arrival X B)) → AllGoOn xs xs
  all_same [] = tt
  all_same (x ∷ xs) = (goes_same x, all_same xs)

  pub all_more : (xs ys zs : List (Arrival X B)) → AllGoOn xs ys → AllGoOn ys zs → AllGoOn xs zs
  all_more [] [] [] a b = tt
  all_more [] [] (z ∷ zs) a b = absurd b
  all_more [] (y ∷ ys) zs a b = absurd a
  all_more (x ∷ xs) [] zs a b = absurd a
  all_more (x ∷ xs) (y ∷ ys) [] a b = absurd b
  all_more (x ∷ xs) (y ∷ ys) (z ∷ zs) a b = (goes_more x y z a.0 b.0, all_more xs ys zs a.1 b.1)

  -- one of them goes on
  pub all_set : (xs : List (Arrival X B)) (i : ℕ) (a b : Arrival X B) → i < length xs → a ≡ get_or xs i a → GoesOn a b → AllGoOn xs (set xs i b)
  all_set [] i a b h e g = absurd (omega arith)
  all_set (x ∷ xs) zero a b h e g = (subst (λ (y : Arrival X B). GoesOn y b) e g, all_same xs)
  all_set (x ∷ xs) (suc i) a b h e g = (goes_same x, all_set xs i a b (omega arith) e g)

  pub all_names : (xs ys : List (Arrival X B)) → AllGoOn xs ys → names_of ys ≡ names_of xs
  all_names [] [] g = refl
  all_names [] (y ∷ ys) g = absurd g
  all_names (x ∷ xs) [] g = absurd g
  all_names (x ∷ xs) (y ∷ ys) g = λ i. g.0.name i ∷ all_names xs ys g.1 i

  -- what one of them goes on from
  pub all_at : (xs ys : List (Arrival X B)) (i : ℕ) (b : Arrival X B) → AllGoOn xs ys → slice_get ys i ≡ Some b → (a : Arrival X B) × (slice_get xs i ≡ Some a) × GoesOn a b
  all_at [] [] i b g e = absurd (cc e)
  all_at [] (y ∷ ys) i b g e = absurd g
  all_at (x ∷ xs) [] i b g e = absurd g
  all_at (x ∷ xs) (y ∷ ys) zero b g e = let same : y ≡ b = cc e in (x, refl, subst (λ (z : Arrival X B). GoesOn x z) same g.0)
  all_at (x ∷ xs) (y ∷ ys) (suc i) b g e = all_at xs ys i b g.1 e
