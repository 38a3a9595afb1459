-- Sound chains stay sound.
use Rattle.std.proofs.Common.{◌≡◌, ℕ, ◌<◌, true, false, eqb, List, [], ◌∷◌, ◌++◌, length, get_or, Option, Some, None, sym, ap, subst, ◌∙◌, inl, inr}
use Rattle.std.specs.List.{IsDistinct}
use Rattle.std.specs.Cmp.{nat_eq_equiv}
use Rattle.std.proofs.lemmas.Bool.{or_cases, or_left, or_right, eqb-true, eq-eqb, false≢true, false_from_ne_true, both_ways, cases_eq}
use Rattle.std.proofs.lemmas.Map.Keys.{IsDistinct-push}
use Rattle.asset_chains.specs.Chained.{Chained, chain_of, home_of, without, lists, pushed, unlinked, IsConsistent}
use Rattle.asset_chains.proofs.KeyLemmas.{lists-append, lists-without_same, lists-without_other, distinct-without, distinct_none}
use Rattle.asset_chains.proofs.Laws.{IsPushed, IsUnlinked, is_pushed, is_unlinked}

-- a key that has no home is listed nowhere
pub unlisted : (table : Chained) → IsConsistent table → (k d : ℕ) → home_of table k ≡ None → lists (chain_of table d) k ≡ false
unlisted table sound k d free =
    false_from_ne_true (lists (chain_of table d) k) (λ there.
    let home = sound.at_home d k there in
    absurd (cc))

-- a key at home in one chain is listed in no other
pub listed_once : (table : Chained) → IsConsistent table → (k c d : ℕ) → home_of table k ≡ Some c → (d ≡ c → ⊥) → lists (chain_of table d) k ≡ false
listed_once table sound k c d home apart =
    false_from_ne_true (lists (chain_of table d) k) (λ there.
    let other = sound.at_home d k there in
    let same : d ≡ c = cc in
    apart same)

-- two keys are different if one has a home that the other does not have
pub homes_apart : (table : Chained) (j k : ℕ) (o p : Option ℕ) → home_of table j ≡ o → home_of table k ≡ p → (o ≡ p → ⊥) → j ≡ k → ⊥
homes_apart table j k o p first second apart same = apart (sym first ∙ ap (home_of table) same ∙ second)

some_none : (c : ℕ) → Some c ≡ None → ⊥
some_none c same = cc

some_apart : (c d : ℕ) → (c ≡ d → ⊥) → Some c ≡ Some d → ⊥
some_apart c d apart same =
    let is : c ≡ d = cc in
    apart is

-- ---- after a push
pushed_at_home : (c k : ℕ) (old new : Chained) → IsConsistent old → home_of old k ≡ None → IsPushed c k old new → (d j : ℕ) → lists (chain_of new d) j ≡ true → home_of new j ≡ Some d
pushed_at_home c k old new sound free change d j there =
    elim (cases_eq d c) [
      | inl same ↦
          let in_chain : lists (chain_of old c ++ k ∷ []) j ≡ true = sym (ap (λ (keys : List ℕ). lists keys j) (ap (chain_of new) same ∙ change.chain)) ∙ there in
          elim (or_cases (lists (chain_of old c) j) (lists (k ∷ []) j) (sym (lists-append (chain_of old c) (k ∷ []) j) ∙ in_chain)) [
            | inl before ↦
                let home = sound.at_home c j before in
                change.homes j (homes_apart old j k (Some c) None home free (some_none c)) ∙ home ∙ ap Some (sym same)
            | inr last ↦ elim (or_cases (eqb j k) false last) [
              | inl is ↦ ap (home_of new) (eqb-true j k is) ∙ change.home ∙ ap Some (sym same)
              | inr wrong ↦ absurd (false≢true wrong)
            ]
          ]
      | inr apart ↦
          let home = sound.at_home d j (sym (ap (λ (keys : List ℕ). lists keys j) (change.chains d apart)) ∙ there) in
          change.homes j (homes_apart old j k (Some d) None home free (some_none d)) ∙ home
    ]

pushed_once : (c k : ℕ) (old new : Chained) → IsConsistent old → home_of old k ≡ None → IsPushed c k old new → (d : ℕ) → IsDistinct eqb (chain_of new d)
pushed_once c k old new sound free change d =
    elim (cases_eq d c) [
      | inl same ↦
          subst (λ (keys : List ℕ). IsDistinct eqb keys) (sym (ap (chain_of new) same ∙ change.chain))
          (IsDistinct-push nat_eq_equiv (chain_of old c) k (sound.once c) (unlisted old sound k c free))
      | inr apart ↦ subst (λ (keys : List ℕ). IsDistinct eqb keys) (sym (change.chains d apart)) (sound.once d)
    ]

pushed_listed : (c k : ℕ) (old new : Chained) → IsConsistent old → IsPushed c k old new → (d j : ℕ) → home_of new j ≡ Some d → lists (chain_of new d) j ≡ true
pushed_listed c k old new sound change d j home =
    elim (cases_eq j k) [
      | inl is ↦
          let at_home : home_of new k ≡ Some c = change.home in
          let same_key : home_of new j ≡ home_of new k = ap (home_of new) is in
          let same : d ≡ c = cc in
          ap (λ (keys : List ℕ). lists keys j) (ap (chain_of new) same ∙ change.chain) ∙ lists-append (chain_of old c) (k ∷ []) j
          ∙ or_right (lists (chain_of old c) j) (lists (k ∷ []) j) (or_left (eqb j k) false (eq-eqb j k is))
      | inr other ↦
          let there = sound.listed d j (sym (change.homes j other) ∙ home) in
          elim (cases_eq d c) [
            | inl same ↦
                ap (λ (keys : List ℕ). lists keys j) (ap (chain_of new) same ∙ change.chain) ∙ lists-append (chain_of old c) (k ∷ []) j
                ∙ or_left (lists (chain_of old c) j) (lists (k ∷ []) j) (ap (λ (e : ℕ). lists (chain_of old e) j) (sym same) ∙ there)
            | inr apart ↦ ap (λ (keys : List ℕ). lists keys j) (change.chains d apart) ∙ there
          ]
    ]

pub sound_pushed : (c k : ℕ) (table : Chained) → IsConsistent table → c < length table.chains → k < length table.homes → home_of table k ≡ None → IsConsistent (pushed c k table)
sound_pushed c k table sound chain key free =
    let change = is_pushed c k table chain key in
    record {
      at_home = pushed_at_home c k table (pushed c k table) sound free change;
      once = pushed_once c k table (pushed c k table) sound free change;
      listed = pushed_listed c k table (pushed c k table) sound change;
    }

-- ---- after an unlinking
unlinked_at_home : (c k : ℕ) (old new : Chained) → IsConsistent old → home_of old k ≡ Some c → IsUnlinked c k old new → (d j : ℕ) → lists (chain_of new d) j ≡ true → home_of new j ≡ Some d
unlinked_at_home c k old new sound at change d j there =
    elim (cases_eq d c) [
      | inl same ↦
          let in_chain : lists (without k (chain_of old c)) j ≡ true = sym (ap (λ (keys : List ℕ). lists keys j) (ap (chain_of new) same ∙ change.chain)) ∙ there in
          let other : j ≡ k → ⊥ = λ is. both_ways (lists (without k (chain_of old c)) j) (rw is (lists-without_same k (chain_of old c))) in_chain in
          change.homes j other ∙ sound.at_home c j (sym (lists-without_other k j (chain_of old c) other) ∙ in_chain) ∙ ap Some (sym same)
      | inr apart ↦
          let home = sound.at_home d j (sym (ap (λ (keys : List ℕ). lists keys j) (change.chains d apart)) ∙ there) in
          change.homes j (homes_apart old j k (Some d) (Some c) home at (some_apart d c apart)) ∙ home
    ]

unlinked_once : (c k : ℕ) (old new : Chained) → IsConsistent old → IsUnlinked c k old new → (d : ℕ) → IsDistinct eqb (chain_of new d)
unlinked_once c k old new sound change d =
    elim (cases_eq d c) [
      | inl same ↦ subst (λ (keys : List ℕ). IsDistinct eqb keys) (sym (ap (chain_of new) same ∙ change.chain)) (distinct-without k (chain_of old c) (sound.once c))
      | inr apart ↦ subst (λ (keys : List ℕ). IsDistinct eqb keys) (sym (change.chains d apart)) (sound.once d)
    ]

unlinked_listed : (c k : ℕ) (old new : Chained) → IsConsistent old → IsUnlinked c k old new → (d j : ℕ) → home_of new j ≡ Some d → lists (chain_of new d) j ≡ true
unlinked_listed c k old new sound change d j home =
    let other = homes_apart new j k (Some d) None home change.home (some_none d) in
    let there = sound.listed d j (sym (change.homes j other) ∙ home) in
    elim (cases_eq d c) [
      | inl same ↦
          ap (λ (keys : List ℕ). lists keys j) (ap (chain_of new) same ∙ change.chain) ∙ lists-without_other k j (chain_of old c) other ∙ ap (λ (e : ℕ). lists (chain_of old e) j) (sym same) ∙ there
      | inr apart ↦ ap (λ (keys : List ℕ). lists keys j) (change.chains d apart) ∙ there
    ]

pub sound_unlinked : (c k : ℕ) (table : Chained) → IsConsistent table → home_of table k ≡ Some c → IsConsistent (unlinked k table)
sound_unlinked c k table sound at =
    let change = is_unlinked c k table at in
    record {
      at_home = unlinked_at_home c k table (unlinked k table) sound at change;
      once = unlinked_once c k table (unlinked k table) sound change;
      listed = unlinked_listed c k table (unlinked k table) sound change;
    }

-- ---- chains that show the same
pub sound_same : (old new : Chained) → ((c : ℕ) → chain_of new c ≡ chain_of old c) → ((k : ℕ) → home_of new k ≡ home_of old k) → IsConsistent old → IsConsistent new
sound_same old new chains homes sound = record {
  at_home = λ c k there. homes k ∙ sound.at_home c k (sym (ap (λ (keys : List ℕ). lists keys k) (chains c)) ∙ there);
  once = λ c. subst (λ (keys : List ℕ). IsDistinct eqb keys) (sym (chains c)) (sound.once c);
  listed = λ c k home. ap (λ (keys : List ℕ). lists keys k) (chains c) ∙ sound.listed c k (sym (homes k) ∙ home);
}

-- ---- no chains
pub no_chain_of : (table : Chained) → table.chains ≡ [] → (c : ℕ) → chain_of table c ≡ []
unfolding chain_of
no_chain_of table none c = ap (λ (l : List (List ℕ)). get_or l c []) none

pub no_home_of : (table : Chained) → table.homes ≡ [] → (k : ℕ) → home_of table k ≡ None
unfolding home_of
no_home_of table none k = ap (λ (l : List (Option ℕ)). get_or l k None) none

pub sound_nothing : (table : Chained) → table.chains ≡ [] → table.homes ≡ [] → IsConsistent table
sound_nothing table chains homes =
    let no_chain = no_chain_of table chains in
    let no_home = no_home_of table homes in
    record {
      at_home = λ c k there. absurd (false≢true (sym (ap (λ (keys : List ℕ). lists keys k) (no_chain c)) ∙ there));
      once = λ c. subst (λ (keys : List ℕ). IsDistinct eqb keys) (sym (no_chain c)) distinct_none;
      listed = λ c k home. absurd (some_none c (sym home ∙ no_home k));
    }
