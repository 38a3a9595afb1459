-- Lists that are good by themselves, and have no number in common, are good.
use Rattle.std.proofs.Common.{◌≡◌, ℕ, ◌<◌, ◌≤◌, List, [], length, take, slice_get, Some, sym, ◌∙◌, subst, refl, arith}
use native.Mathlib.Decide.{dec_lt}
use Rattle.std.proofs.lemmas.List.{take_all}
use Rattle.std.proofs.lemmas.Option.{slice_get_within}
use Rattle.asset_names.specs.Steps.{Entry}
use Rattle.asset_audit.specs.Audited.{Call, Rises, HasNumber, AllRise, AnyHas, IsGood, ListsAreGood}
use Rattle.asset_audit.specs.Apart.{AreApartBelow, SharesEarlier, AreGoodAlone, IsWrongAt}
use Rattle.asset_audit.proofs.Marks.{shares_more}
use Rattle.asset_audit.proofs.Places.{take_there, take_within, there_take, good_rises}

some_inj : (a b : List Call) → Some a ≡ Some b → a ≡ b
some_inj a b e = cc

pub alone_rise : (log : List Entry) (ss : List (List Call)) (n : ℕ) → AreGoodAlone log ss n → AllRise (take n ss)
alone_rise log ss n alone i l e = subst Rises (take_all (length l) l (omega arith)) (good_rises log [] l (length l) (alone i l (take_within n ss i l e) (take_there n ss i l e)))

pub alone_good : (log : List Entry) (ss : List (List Call)) (m n : ℕ) → n ≤ m → AreGoodAlone log ss m → AreApartBelow (take m ss) n (length log) → ListsAreGood log ss n
alone_good log ss m n fewer alone are i l lt e k c within at = record { rises = good.rises; entry = good.entry; fresh = fresh } where
  good : IsGood log [] (take k l) c
  good = alone i l (omega arith) e k c within at

  fresh : ¬ AnyHas (take i ss) c.0
  fresh has =
      are.apart has.0 i has.1 l c.0 (take_within i ss has.0 has.1 has.2) lt (there_take m ss has.0 has.1 (let h = take_within i ss has.0 has.1 has.2 in omega arith) (take_there i ss has.0 has.1 has.2))
      (there_take m ss i l (omega arith) e) (slice_get_within log c.0 (c.1, c.2) good.entry) has.3 (k, c, at, refl)

-- a list that shares a number with an earlier one is not good
pub shares_wrong : (log : List Entry) (ss : List (List Call)) (n : ℕ) → SharesEarlier ss n → IsWrongAt log (take n ss) ss n
shares_wrong log ss n shares l at good =
    let same : shares.list ≡ l = some_inj shares.list l (sym shares.at_place ∙ at) in
    let has : HasNumber l shares.number = subst (λ (x : List Call). HasNumber x shares.number) same shares.has in
    (good has.0 has.1 (slice_get_within l has.0 has.1 has.2) has.2).fresh (subst (AnyHas (take n ss)) (sym has.3) shares.earlier)

-- a list that is not good by itself is not good
pub alone_wrong : (log : List Entry) (earlier ss : List (List Call)) (n : ℕ) → IsWrongAt log [] ss n → IsWrongAt log earlier ss n
alone_wrong log earlier ss n wrong l at good = wrong l at (λ k c within e. let here = good k c within e in record { rises = here.rises; entry = here.entry; fresh = none c })
  where
    none : (c : Call) → ¬ AnyHas [] c.0
    none c has = absurd (let nothing : slice_get [] has.0 ≡ Some has.1 = has.2 in cc)

-- the next session after those that are good shares a number with an earlier one, or is wrong by itself
pub wrong_next : (log : List Entry) (ss : List (List Call)) (alone now : ℕ) → now ≤ alone → (now < alone → SharesEarlier (take alone ss) now) → (now ≡ alone → IsWrongAt log [] ss alone)
    → IsWrongAt log (take now ss) ss now
wrong_next log ss alone now most shares wrong = go (dec_lt now alone) where
  go : Dec (now < alone) → IsWrongAt log (take now ss) ss now
  go (yes lt) = shares_wrong log ss now (shares_more ss alone now lt (shares lt))
  go (no ge) = let same : now ≡ alone = omega arith in subst (IsWrongAt log (take now ss) ss) (sym same) (alone_wrong log (take now ss) ss alone (wrong same))
