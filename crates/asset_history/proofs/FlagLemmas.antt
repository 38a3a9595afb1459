-- Which groups are flagged: those with a commit that was answered with `Committed`.
use Rattle.std.proofs.Common.{◌≡◌, ℕ, ◌<◌, Bool, true, false, eqb, ◌||◌, List, [], ◌∷◌, length, get_or, refl, sym, ap, ◌∙◌, arith, inl, inr, Some, None}
use Rattle.std.specs.Prelude.{Option}
use Rattle.std.proofs.lemmas.Bool.{or_cases, or_left, or_right, eqb-true, eq-eqb, false≢true}
use Rattle.std.proofs.lemmas.List.FromFn.{get_or-map-range_with_len}
use Rattle.asset_names.specs.declared.names.Txn.{Txn}
use Rattle.asset_names.specs.declared.steps.Step.{Step}
use Rattle.asset_names.specs.declared.steps.Step.TheVariants.{Commit}
use Rattle.asset_names.specs.declared.replies.Reply.{Reply}
use Rattle.asset_names.specs.declared.replies.Reply.TheVariants as Reply'
use Rattle.asset_names.specs.Arrows.{lists}
use Rattle.asset_names.specs.Steps.{Entry}
use Rattle.asset_names.specs.Groups.{actor, partner, acted_on_by, acted_on, same_group}
use Rattle.asset_names.proofs.Common.{both_follow}
use Rattle.asset_names.proofs.ListLemmas.{listed_at}
use Rattle.asset_entries.specs.Committing.{committer, passes, has_commit}
use Rattle.asset_name_groups.specs.NamesInGroups.{NamesInGroups, flag_at, flags_with, with_flag, IsConsistent}
use Rattle.asset_history.specs.Named.{names_of}
use Rattle.asset_history.specs.Together.{name_at, label_at, commits, AreFlagged}
use Rattle.asset_history.specs.Kept.{AreLabels}
use Rattle.asset_history.proofs.NameLemmas.{all_acted}

-- ---- commits

-- some commit that passes a test is that of somebody
passed : (test : ℕ → Bool) (found : Option Txn) → passes test found ≡ true → (c : ℕ) × (test c ≡ true) × (passes (eqb c) found ≡ true)
unfolding passes
passed test (Some t) h = (t.0, h, eq-eqb t.0 t.0 refl)
passed test None h = absurd (false≢true h)

passes_one : (test : ℕ → Bool) (c : ℕ) (found : Option Txn) → test c ≡ true → passes (eqb c) found ≡ true → passes test found ≡ true
unfolding passes
passes_one test c (Some t) is h = ap test (sym (eqb-true c t.0 h)) ∙ is
passes_one test c None is h = absurd (false≢true h)

pub commit_found : (test : ℕ → Bool) (entries : List Entry) → has_commit test entries ≡ true → (c : ℕ) × (test c ≡ true) × (commits entries c ≡ true)
unfolding has_commit
commit_found test [] h = absurd (false≢true h)
commit_found test (entry ∷ older) h = elim (or_cases (passes test (committer entry.0 entry.1)) _ h) [
  | inl here ↦ let one = passed test (committer entry.0 entry.1) here in (one.0, one.1, or_left _ _ one.2)
  | inr later ↦ let one = commit_found test older later in (one.0, one.1, or_right (passes (eqb one.0) (committer entry.0 entry.1)) _ one.2)
]

pub commit_passes : (test : ℕ → Bool) (c : ℕ) (entries : List Entry) → test c ≡ true → commits entries c ≡ true → has_commit test entries ≡ true
unfolding has_commit
commit_passes test c [] is h = absurd (false≢true h)
commit_passes test c (entry ∷ older) is h = elim (or_cases (passes (eqb c) (committer entry.0 entry.1)) _ h) [
  | inl here ↦ or_left _ _ (passes_one test c (committer entry.0 entry.1) is here)
  | inr later ↦ or_right (passes test (committer entry.0 entry.1)) _ (commit_passes test c older is later)
]

-- who committed was acted on
committed_acts : (step : Step) (reply : Reply) (c : ℕ) → passes (eqb c) (committer step reply) ≡ true → (actor step).0 ≡ c
unfolding passes committer actor
committed_acts (Commit t) Reply'.Committed c h = sym (eqb-true c t.0 h)
committed_acts step reply c h = absurd (false≢true h)

pub commit_acts : (entries : List Entry) (c : ℕ) → commits entries c ≡ true → lists (acted_on entries) c ≡ true
unfolding has_commit acted_on acted_on_by lists
commit_acts [] c h = absurd (false≢true h)
commit_acts (entry ∷ older) c h = elim (or_cases (passes (eqb c) (committer entry.0 entry.1)) _ h) [
  | inl here ↦ or_left _ _ (eq-eqb (actor entry.0).0 c (committed_acts entry.0 entry.1 c here))
  | inr later ↦ or_right (eqb (actor entry.0).0 c) _ (or_right (eqb (partner entry.0).0 c) _ (commit_acts older c later))
]

-- ---- flags by groups, and by labels

-- flags that are those of the groups are those of the labels
pub flags_by_labels : (entries : List Entry) (g : NamesInGroups) → AreLabels entries g → AreFlagged entries g
flags_by_labels entries g labels = record {
  by = λ k below h.
      let one = commit_found (same_group entries (name_at g k)) entries (sym (labels.flags k below) ∙ h) in
      let at = listed_at g.names one.0 (ap (λ l. lists l one.0) labels.names ∙ all_acted entries one.0 ∙ commit_acts entries one.0 one.2) in (
        at.0,
        at.1,
        eqb-true (label_at g at.0) (label_at g k) (eqb_back (label_at g k) (label_at g at.0) (labels.same k at.0 below at.1 ∙ ap (same_group entries (name_at g k)) at.2 ∙ one.1)),
        ap (commits entries) at.2 ∙ one.2,
      );
  flagged = λ k m is_k is_m same h.
      labels.flags k is_k
      ∙ commit_passes (same_group entries (name_at g k)) (name_at g m) entries (sym (labels.same k m is_k is_m) ∙ eq-eqb (label_at g k) (label_at g m) (sym same)) h;
} where
  eqb_back : (a b : ℕ) → eqb a b ≡ true → eqb b a ≡ true
  eqb_back a b h = eq-eqb b a (sym (eqb-true a b h))

-- and back
pub flags_by_groups : (entries : List Entry) (g : NamesInGroups) → g.names ≡ names_of entries
    → ((i j : ℕ) → i < length g.names → j < length g.names → eqb (label_at g i) (label_at g j) ≡ same_group entries (name_at g i) (name_at g j))
    → AreFlagged entries g → (k : ℕ) → k < length g.names → flag_at g.flags k ≡ has_commit (same_group entries (name_at g k)) entries
flags_by_groups entries g names same flagged k below = both_follow _ _ there back where
  there : flag_at g.flags k ≡ true → has_commit (same_group entries (name_at g k)) entries ≡ true
  there h =
      let one = flagged.by k below h in
      commit_passes (same_group entries (name_at g k)) (name_at g one.0) entries (sym (same k one.0 below one.1) ∙ eq-eqb (label_at g k) (label_at g one.0) (sym one.2)) one.3

  back : has_commit (same_group entries (name_at g k)) entries ≡ true → flag_at g.flags k ≡ true
  back h =
      let one = commit_found (same_group entries (name_at g k)) entries h in
      let at = listed_at g.names one.0 (ap (λ l. lists l one.0) names ∙ all_acted entries one.0 ∙ commit_acts entries one.0 one.2) in
      flagged.flagged k at.0 below at.1 (sym (eqb-true (label_at g k) (label_at g at.0) (same k at.0 below at.1 ∙ ap (same_group entries (name_at g k)) at.2 ∙ one.1))) (ap (commits entries) at.2 ∙ one.2)

-- ---- a commit more

-- an entry that commits nobody
pub flagged_none : (entry : Entry) (older : List Entry) (g : NamesInGroups) → committer entry.0 entry.1 ≡ None → AreFlagged older g → AreFlagged (entry ∷ older) g
unfolding has_commit passes
flagged_none entry older g none flagged = record {
  by = λ k below h. let one = flagged.by k below h in (one.0, one.1, one.2, or_right (passes (eqb (name_at g one.0)) (committer entry.0 entry.1)) _ one.3);
  flagged = λ k m is_k is_m same h. flagged.flagged k m is_k is_m same (ap (λ found. passes (eqb (name_at g m)) found || commits older (name_at g m)) (sym none) ∙ h);
}

flag_after : (g : NamesInGroups) (node k : ℕ) → IsConsistent g → k < length g.names → flag_at (with_flag g node).flags k ≡ (eqb (label_at g k) (label_at g node) || flag_at g.flags k)
unfolding with_flag flags_with flag_at
flag_after g node k sound below =
    get_or-map-range_with_len (λ m. eqb (get_or g.labels m 0) (get_or g.labels node 0) || get_or g.flags m false) 0 (length g.labels) k k false (omega (arith, below, sound.each_has_label)) (omega arith)

-- an entry that commits the name of a node, whose group is flagged
pub flagged_one : (entry : Entry) (older : List Entry) (g : NamesInGroups) (t : Txn) (node : ℕ) → IsConsistent g → committer entry.0 entry.1 ≡ Some t → node < length g.names → name_at g node ≡ t.0 → AreFlagged older g → AreFlagged (entry ∷ older) (with_flag g node)
unfolding has_commit passes with_flag
flagged_one entry older g t node sound is within name flagged = record {
  by = λ k below h. elim (or_cases (eqb (label_at g k) (label_at g node)) _ (sym (flag_after g node k sound below) ∙ h)) [
    | inl here ↦ (node, within, sym (eqb-true (label_at g k) (label_at g node) here), or_left _ _ (ap (λ found. passes (eqb (name_at g node)) found) is ∙ eq-eqb (name_at g node) t.0 name))
    | inr before ↦ let one = flagged.by k below before in (one.0, one.1, one.2, or_right (passes (eqb (name_at g one.0)) (committer entry.0 entry.1)) _ one.3)
  ];
  flagged = λ k m is_k is_m same h. flag_after g node k sound is_k ∙ elim (or_cases (passes (eqb (name_at g m)) (committer entry.0 entry.1)) _ h) [
    | inl here ↦
        let named : name_at g m ≡ t.0 = eqb-true (name_at g m) t.0 (ap (λ found. passes (eqb (name_at g m)) found) (sym is) ∙ here) in
        let one : m ≡ node = sound.different m node is_m within (named ∙ sym name) in
        or_left _ _ (eq-eqb (label_at g k) (label_at g node) (sym same ∙ ap (label_at g) one))
    | inr before ↦ or_right (eqb (label_at g k) (label_at g node)) _ (flagged.flagged k m is_k is_m same before)
  ];
}

-- who commits by the newest entry was acted on
pub committed_listed : (entry : Entry) (older : List Entry) (t : Txn) → committer entry.0 entry.1 ≡ Some t → lists (acted_on (entry ∷ older)) t.0 ≡ true
unfolding has_commit passes
committed_listed entry older t is = commit_acts (entry ∷ older) t.0 (or_left _ _ (ap (λ found. passes (eqb t.0) found) is ∙ eq-eqb t.0 t.0 refl))
