-- What one more entry adds to the live transactions.
use Rattle.std.proofs.Common.{◌≡◌, ℕ, ◌+◌, Bool, true, false, cond, eqb, List, [], ◌∷◌, ◌++◌, drop, take, reverse, refl, sym, ap, subst, ◌∙◌, append-nil, Some}
use Rattle.std.specs.Prelude.{Option, slice_get}
use Rattle.std.specs.List.{filter}
use Rattle.std.proofs.lemmas.List.Elements.{filter-append}
use Rattle.indexmap.specs.IndexSet.{insert_key}
use Rattle.asset_names.specs.declared.names.Txn.{Txn}
use Rattle.asset_names.specs.declared.steps.Step.{Step}
use Rattle.asset_names.specs.declared.steps.Step.TheVariants.{Initiate}
use Rattle.asset_names.specs.declared.replies.Reply.{Reply}
use Rattle.asset_names.specs.Arrows.{lists, with_name}
use Rattle.asset_names.specs.Steps.{Opening, Entry, applied, takes_effect, initiated, initiated_by}
use Rattle.asset_names.specs.Endings.{live}
use Rattle.asset_names.specs.Answers.{IsLegal}
use Rattle.asset_names.specs.Orderly.{Distinct}
use Rattle.asset_names.proofs.Common.{eqb-flip}
use Rattle.asset_names.proofs.ListLemmas.{any_alike}
use Rattle.asset_names.proofs.LegalLemmas.{legal_orderly}
use Rattle.asset_entries.proofs.EntryLemmas.{next_entry, between}
use Rattle.asset_ends.proofs.EnrolledLemmas.{lists_filter}
use Rattle.asset_ends.proofs.HistoryLemmas.{lists_reverse, reverse-cons}
use Rattle.asset_waits.specs.Live.{initiated_if, initiated_in, with_live, live_among}

-- an insertion adds a name that is not there
pub inserted : (names : List ℕ) (n : ℕ) → insert_key eqb names n ≡ with_name names n
unfolding with_name lists
inserted names n = ap (λ b. cond b names (names ++ n ∷ [])) (any_alike (eqb n) (λ m. eqb m n) names (λ m. eqb-flip n m))

-- one more step, which takes effect or not
one_more : (steps first : List Step) (step : Step) (effect : Bool) → Distinct (initiated (cond effect (step ∷ first) first)) → with_live steps (live_among steps first) (initiated_if effect step) ≡ live_among steps (cond effect (step ∷ first) first)
unfolding with_live with_name live_among initiated initiated_by initiated_if
one_more steps first step false distinct = refl
one_more steps first (Initiate t parent) true distinct =
    rw (reverse-cons (initiated first) t.0, filter-append (live steps) (reverse (initiated first)) (t.0 ∷ [])) (go (live steps t.0) refl) where
      names : List ℕ
      names = filter (live steps) (reverse (initiated first))

      new : live steps t.0 ≡ true → lists names t.0 ≡ false
      new alive = lists_filter (live steps) (reverse (initiated first)) t.0 ∙ rw (alive, lists_reverse (initiated first) t.0) distinct.0

      go : (alive : Bool) → live steps t.0 ≡ alive → cond alive (with_name names t.0) names ≡ names ++ cond alive (t.0 ∷ []) []
      go true is = ap (λ (b : Bool). cond b names (names ++ t.0 ∷ [])) (new is)
      go false is = sym (append-nil names)
one_more steps first step true distinct = refl

-- the older entries of a legal history are legal
legal_rest : (opening : Opening) (newer older : List Entry) → IsLegal opening (newer ++ older) → IsLegal opening older
unfolding IsLegal
legal_rest opening [] older legal = legal
legal_rest opening (entry ∷ newer) older legal = legal_rest opening newer older legal.1

-- the live transactions with the one that the next entry initiated
pub live_next : (steps : List Step) (opening : Opening) (all : List Entry) (i : ℕ) (entry : Entry) → slice_get (reverse all) i ≡ Some entry → IsLegal opening all
    → with_live steps (live_among steps (applied (reverse (take i (reverse all))))) (initiated_in entry) ≡ live_among steps (applied (reverse (take (i + 1) (reverse all))))
unfolding initiated_in applied
live_next steps opening all i entry at legal =
    let older = reverse (take i (reverse all)) in
    let here : IsLegal opening (entry ∷ older) = legal_rest opening (reverse (drop (i + 1) (reverse all))) (entry ∷ older) (subst (IsLegal opening) (sym (between all i entry at)) legal) in
    let distinct : Distinct (initiated (applied (entry ∷ older))) = (legal_orderly opening (entry ∷ older) here).different in
    rw (next_entry (reverse all) i entry at) (one_more steps (applied older) entry.0 (takes_effect entry.0 entry.1) distinct)

abbrev told : Step → Reply → Entry
told step reply = (step, reply)

-- the entry that is told is the one at the index
pub entry_is : (step : Step) (reply : Reply) (slot : Option Entry) (entry : Entry) (effect : Bool) (found : Option Txn) → Some (told step reply) ≡ slot → slot ≡ Some entry → effect ≡ takes_effect step reply → found ≡ initiated_if effect step
    → found ≡ initiated_in entry
unfolding initiated_in
entry_is step reply slot entry effect found is at acts finds =
    let same : told step reply ≡ entry = cc in
    finds ∙ ap (λ (b : Bool). initiated_if b step) acts ∙ ap initiated_in same
