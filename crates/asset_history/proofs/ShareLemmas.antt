-- What labels and flags say of one transaction.
use Rattle.std.proofs.Common.{◌≡◌, ℕ, ◌<◌, Bool, true, false, not, cond, eqb, ◌||◌, List, [], ◌∷◌, length, refl, sym, ap, ◌∙◌, arith, ◌⊎◌, inl, inr, Some, None}
use Rattle.std.specs.Prelude.{slice_get, find}
use Rattle.std.specs.List.{position_or_len, list_any}
use Rattle.std.specs.Option.{option_map}
use Rattle.std.proofs.lemmas.Bool.{or_cases, eq-eqb, ne_eqb, false≢true}
use Rattle.std.proofs.lemmas.List.Folds.{find_at}
use Rattle.std.proofs.lemmas.List.Sums.{position_or_len_is}
use Rattle.std.proofs.lemmas.Option.{slice_get-get_or}
use Rattle.asset_names.specs.Arrows.{lists, has_arrow, Chain}
use Rattle.asset_names.specs.Arrows.Chain.{stay, along}
use Rattle.asset_names.specs.Paths.{both_ways}
use Rattle.asset_names.specs.Steps.{Opening, Entry}
use Rattle.asset_names.specs.Answers.{IsLegal}
use Rattle.asset_names.specs.Groups.{acted_on, joins, same_group}
use Rattle.asset_names.proofs.Arrows.{chain_from_linked}
use Rattle.asset_names.proofs.DependLemmas.{has_both}
use Rattle.asset_names.proofs.PermitLemmas.{has_listed}
use Rattle.asset_laws.proofs.GroupLemmas.{group_sym}
use Rattle.asset_entries.specs.Committing.{has_commit}
use Rattle.asset_name_groups.specs.NamesInGroups.{NamesInGroups, flag_at, IsConsistent}
use Rattle.asset_history.specs.Named.{names_of}
use Rattle.asset_history.specs.Sharing.{named, first_of, group_committed}
use Rattle.asset_history.specs.Together.{name_at, label_at}
use Rattle.asset_history.specs.Kept.{AreLabels}
use Rattle.asset_history.proofs.DeadLemmas.{dead_is}
use Rattle.asset_history.proofs.FlagLemmas.{commit_found, commit_acts}
use Rattle.asset_history.proofs.MeetLemmas.{join_acts}
use Rattle.asset_history.proofs.NameLemmas.{all_acted}

-- ---- whom no step acts on

-- whoever is reached is the same, or was acted on
reached : (entries : List Entry) (n t : ℕ) → Chain (both_ways (joins entries)) n t → (n ≡ t) ⊎ (lists (acted_on entries) t ≡ true)
reached entries n t (stay m) = inl refl
reached entries n t (along a b c first rest) = elim (reached entries b t rest) [
  | inr there ↦ inr there
  | inl last ↦
      let arrow = has_listed (both_ways (joins entries)) n b first in
      inr (ap (λ m. lists (acted_on entries) m) (sym last) ∙ elim (or_cases (has_arrow (joins entries) n b) _ (sym (has_both (joins entries) n b) ∙ arrow)) [
        | inl ahead ↦ (join_acts entries n b ahead).1
        | inr back ↦ (join_acts entries b n back).0
      ])
]

pub alone : (entries : List Entry) (n t : ℕ) → lists (names_of entries) t ≡ false → same_group entries n t ≡ true → n ≡ t
unfolding same_group
alone entries n t none same = elim (reached entries n t (chain_from_linked (both_ways (joins entries)) n t same)) [
  | inl is ↦ is
  | inr acted ↦ absurd (false≢true (sym none ∙ all_acted entries t ∙ acted))
]

-- nobody of a list passes a test that is false of all others than t, who is not listed
none_found : (test : ℕ → Bool) (t : ℕ) (names : List ℕ) → lists names t ≡ false → ((n : ℕ) → test n ≡ true → n ≡ t) → find test names ≡ None
unfolding lists
none_found test t [] none only = refl
none_found test t (n ∷ names) none only = go (test n) refl (eqb n t) refl none (λ rest. none_found test t names rest only) where
  go : (b : Bool) → test n ≡ b → (c : Bool) → eqb n t ≡ c → (c || list_any (λ m. eqb m t) names) ≡ false → (list_any (λ m. eqb m t) names ≡ false → find test names ≡ None) → cond b (Some n) (find test names) ≡ None
  go false is false e h rest = rest h
  go false is true e h rest = absurd (false≢true (sym h))
  go true is true e h rest = absurd (false≢true (sym h))
  go true is false e h rest = absurd (false≢true (sym e ∙ eq-eqb n t (only n is)))

-- ---- the first of a group

pub first_at : (entries : List Entry) (g : NamesInGroups) (t node : ℕ) → IsConsistent g → AreLabels entries g → node < length g.names → name_at g node ≡ t → first_of entries t ≡ Some (named (name_at g (label_at g node)))
unfolding first_of
first_at entries g t node sound labels within name =
    let l = label_at g node in
    let inside : l < length g.names = omega (arith, within, sound.least node within) in
    let test : ℕ → Bool = λ n. same_group entries n t in
    let is : (k : ℕ) → k < length g.names → eqb (label_at g k) l ≡ test (name_at g k) = λ k below. labels.same k node below within ∙ ap (same_group entries (name_at g k)) name in
    let at : position_or_len test g.names ≡ l =
    position_or_len_is test g.names l 0 (omega (arith, inside)) (λ j before. let below : j < length g.names = omega (arith, before, inside) in sym (is j below) ∙ ne_eqb (label_at g j) l (λ same. omega (arith, same, sound.least j below, before)))
    (λ below. sym (is l inside) ∙ eq-eqb (label_at g l) l (sound.own node within)) in
    ap (λ names. option_map named (find test names)) (sym labels.names) ∙ ap (option_map named) (find_at test g.names ∙ ap (slice_get g.names) at ∙ slice_get-get_or g.names l 0 inside)

pub no_first : (entries : List Entry) (t : ℕ) → lists (names_of entries) t ≡ false → first_of entries t ≡ None
unfolding first_of
no_first entries t none = ap (option_map named) (none_found (λ n. same_group entries n t) t (names_of entries) none (λ n same. alone entries n t none same))

-- ---- whether a member has committed

twice : (b : Bool) → not (not b) ≡ b
twice true = refl
twice false = refl

committed_is : (opening : Opening) (entries : List Entry) (t : ℕ) → IsLegal opening entries → group_committed entries t ≡ has_commit (same_group entries t) entries
unfolding group_committed
committed_is opening entries t legal = ap not (dead_is opening entries t legal) ∙ twice (has_commit (same_group entries t) entries)

pub committed_at_node : (opening : Opening) (entries : List Entry) (g : NamesInGroups) (t node : ℕ) → IsLegal opening entries → AreLabels entries g → node < length g.names → name_at g node ≡ t → group_committed entries t ≡ flag_at g.flags node
committed_at_node opening entries g t node legal labels within name =
    committed_is opening entries t legal ∙ sym (labels.flags node within ∙ ap (λ n. has_commit (same_group entries n) entries) name)

pub none_committed_group : (opening : Opening) (entries : List Entry) (t : ℕ) → IsLegal opening entries → lists (names_of entries) t ≡ false → group_committed entries t ≡ false
none_committed_group opening entries t legal none = committed_is opening entries t legal ∙ go (has_commit (same_group entries t) entries) refl where
  go : (b : Bool) → has_commit (same_group entries t) entries ≡ b → b ≡ false
  go false is = refl
  go true is =
      let one = commit_found (same_group entries t) entries is in
      let same : one.0 ≡ t = alone entries one.0 t none (group_sym entries t one.0 one.1) in
      absurd (false≢true (sym none ∙ all_acted entries t ∙ ap (lists (acted_on entries)) (sym same) ∙ commit_acts entries one.0 one.2))
