-- A search along arrows: what has been met, and that it has met all that is reached.
use Rattle.std.proofs.Common.{◌≡◌, ℕ, ◌+◌, ◌<◌, ◌≤◌, Bool, true, false, cond, eqb, ◌||◌, List, [], ◌∷◌, ◌++◌, length, get_or, refl, sym, ap, subst, ◌∙◌, arith, inl, inr}
use Rattle.std.proofs.lemmas.Bool.{or_cases, or_left, or_right, eqb-true, eq-eqb, true≢false, false_from_ne_true, cases_eq}
use Rattle.std.proofs.lemmas.List.{length-append, get_or_append_left, append_assoc}
use Rattle.std.proofs.lemmas.List.Folds.{list_any-append}
use Rattle.asset_names.specs.Arrows.{Arrow, linked, lists, has_arrow}
use Rattle.asset_names.proofs.Arrows.{linked_refl}
use Rattle.asset_names.proofs.Common.{both_follow}
use Rattle.asset_names.proofs.ListLemmas.{listed_at, lists_at}
use Rattle.asset_names.proofs.DependLemmas.{has_append}
use Rattle.asset_marks.specs.Searched.{Expands}
use Rattle.asset_marks.proofs.ArrowLemmas.{linked_step, closed_linked}

-- ---- which nodes are listed
pub lists-append : (xs ys : List ℕ) (k : ℕ) → lists (xs ++ ys) k ≡ (lists xs k || lists ys k)
unfolding lists
lists-append xs ys k = list_any-append (λ m. eqb m k) xs ys

pub lists_left : (xs ys : List ℕ) (k : ℕ) → lists xs k ≡ true → lists (xs ++ ys) k ≡ true
lists_left xs ys k h = lists-append xs ys k ∙ or_left (lists xs k) (lists ys k) h

pub lists_right : (xs ys : List ℕ) (k : ℕ) → lists ys k ≡ true → lists (xs ++ ys) k ≡ true
lists_right xs ys k h = lists-append xs ys k ∙ or_right (lists xs k) (lists ys k) h

pub nothing_listed : (k : ℕ) → lists [] k ≡ false
unfolding lists
nothing_listed k = refl

-- what a search has met, once it has expanded the first node and the first few of the nodes that it met, none of which
-- was the one that it looks for
pub record Walked (arrows : List Arrow) (from to : ℕ) (nodes : List ℕ) (next : ℕ) : Type 0 where
  pub reached : (k : ℕ) → lists nodes k ≡ true → linked arrows from k ≡ true
  pub first : (t : ℕ) → has_arrow arrows from t ≡ true → lists nodes t ≡ true
  pub so_far : next ≤ length nodes
  pub later : (i : ℕ) → i < next → (t : ℕ) → has_arrow arrows (get_or nodes i 0) t ≡ true → lists nodes t ≡ true
  pub apart : (i : ℕ) → i < next → eqb (get_or nodes i 0) to ≡ false

-- ---- the first node is expanded
pub walk_from : (arrows : List Arrow) (from to : ℕ) (before after : List ℕ) → before ≡ [] → Expands arrows from before after → Walked arrows from to after 0
walk_from arrows from to before after none expands =
    let only : after ≡ expands.more = expands.kept ∙ ap (λ (l : List ℕ). l ++ expands.more) none in
    record {
      reached = λ k listed. linked_step arrows from from k (linked_refl arrows from) (expands.is_linked k (ap (λ (l : List ℕ). lists l k) (sym only) ∙ listed));
      first = expands.all;
      so_far = omega arith;
      later = λ i below. absurd (omega (arith, below));
      apart = λ i below. absurd (omega (arith, below));
    }

-- ---- the next node is expanded
pub walk_on : (arrows : List Arrow) (from to : ℕ) (nodes after : List ℕ) (next : ℕ) → Walked arrows from to nodes next → next < length nodes → eqb (get_or nodes next 0) to ≡ false → Expands arrows (get_or nodes next 0) nodes after
    → Walked arrows from to after (next + 1)
walk_on arrows from to nodes after next walked below other expands =
    let kept = expands.kept in
    let still : (t : ℕ) → lists nodes t ≡ true → lists after t ≡ true = λ t met. ap (λ (l : List ℕ). lists l t) kept ∙ lists_left nodes expands.more t met in
    let at = λ (i : ℕ) (before : i < length nodes). ap (λ (l : List ℕ). get_or l i 0) kept ∙ get_or_append_left nodes expands.more 0 i before in
    let here : linked arrows from (get_or nodes next 0) ≡ true = walked.reached (get_or nodes next 0) (lists_at nodes (get_or nodes next 0) next below refl) in
    let size_of = length-append nodes expands.more in
    let more_nodes : length after ≡ length (nodes ++ expands.more) = ap length kept in
    record {
      reached = λ k listed. elim (or_cases (lists nodes k) (lists expands.more k) (sym (lists-append nodes expands.more k) ∙ ap (λ (l : List ℕ). lists l k) (sym kept) ∙ listed)) [
        | inl old ↦ walked.reached k old
        | inr new ↦ linked_step arrows from (get_or nodes next 0) k here (expands.is_linked k new)
      ];
      first = λ t arrow. still t (walked.first t arrow);
      so_far = omega (arith, size_of, more_nodes, below);
      later = λ i before t arrow. elim (cases_eq i next) [
        | inl last ↦ expands.all t (subst (λ n. has_arrow arrows n t ≡ true) (at i (omega (arith, before, below, walked.so_far)) ∙ ap (λ n. get_or nodes n 0) last) arrow)
        | inr earlier ↦ still t (walked.later i (omega (arith, before)) t (subst (λ n. has_arrow arrows n t ≡ true) (at i (omega (arith, before, below, walked.so_far))) arrow))
      ];
      apart = λ i before. elim (cases_eq i next) [
        | inl last ↦ subst (λ n. eqb n to ≡ false) (sym (at i (omega (arith, before, below, walked.so_far)) ∙ ap (λ n. get_or nodes n 0) last)) other
        | inr earlier ↦ subst (λ n. eqb n to ≡ false) (sym (at i (omega (arith, before, below, walked.so_far)))) (walked.apart i (omega (arith, before)))
      ];
    }

-- ---- all nodes are expanded, and the one that is looked for is not among them
pub walk_across : (arrows : List Arrow) (from to : ℕ) (nodes : List ℕ) (next : ℕ) → Walked arrows from to nodes next → length nodes ≤ next → eqb from to ≡ false → linked arrows from to ≡ false
walk_across arrows from to nodes next walked all another =
    false_from_ne_true (linked arrows from to) (λ way. elim (or_cases (eqb from to) _ (closed_linked (λ n. eqb from n || lists nodes n) arrows closed from to way (or_left (eqb from from) _ (eq-eqb from from refl)))) [
      | inl same ↦ true≢false (sym same ∙ another)
      | inr there ↦
          let found = listed_at nodes to there in
          true≢false (sym (eq-eqb (get_or nodes found.0 0) to found.2) ∙ walked.apart found.0 (omega (arith, found.1, all)))
    ])
  where
    closed : (u t : ℕ) → has_arrow arrows u t ≡ true → (eqb from u || lists nodes u) ≡ true → (eqb from t || lists nodes t) ≡ true
    closed u t arrow met = elim (or_cases (eqb from u) _ met) [
      | inl is ↦ or_right (eqb from t) _ (walked.first t (subst (λ n. has_arrow arrows n t ≡ true) (sym (eqb-true from u is)) arrow))
      | inr there ↦
          let found = listed_at nodes u there in
          or_right (eqb from t) _ (walked.later found.0 (omega (arith, found.1, all)) t (subst (λ n. has_arrow arrows n t ≡ true) (sym found.2) arrow))
    ]

-- ---- a node is met
pub no_more : {p : Type 0} (t : ℕ) → lists [] t ≡ true → p
no_more t there = absurd (true≢false (sym there ∙ nothing_listed t))

pub one_listed : (n : ℕ) → lists (n ∷ []) n ≡ true
unfolding lists
one_listed n = or_left (eqb n n) false (eq-eqb n n refl)

only_listed : (n t : ℕ) → lists (n ∷ []) t ≡ true → n ≡ t
unfolding lists
only_listed n t h = elim (or_cases (eqb n t) false h) [ inl same ↦ eqb-true n t same | inr wrong ↦ absurd (true≢false (sym wrong)) ]

-- what a meeting of one node keeps and adds
pub met_listed : (nodes after : List ℕ) (node t : ℕ) → after ≡ cond (lists nodes node) nodes (nodes ++ node ∷ []) → lists nodes t ≡ true → lists after t ≡ true
met_listed nodes after node t is there = ap (λ (l : List ℕ). lists l t) is ∙ go (lists nodes node) where
  go : (b : Bool) → lists (cond b nodes (nodes ++ node ∷ [])) t ≡ true
  go true = there
  go false = lists_left nodes (node ∷ []) t there

pub met_here : (nodes after : List ℕ) (node : ℕ) → after ≡ cond (lists nodes node) nodes (nodes ++ node ∷ []) → lists after node ≡ true
met_here nodes after node is = ap (λ (l : List ℕ). lists l node) is ∙ go (lists nodes node) refl where
  go : (b : Bool) → lists nodes node ≡ b → lists (cond b nodes (nodes ++ node ∷ [])) node ≡ true
  go true there = there
  go false absent = lists_right nodes (node ∷ []) node (one_listed node)

-- the nodes that are new, with one that an arrow leads to
pub record IsMore (arrows : List Arrow) (seat : ℕ) (before after : List ℕ) : Type 0 where
  pub more : List ℕ
  pub kept : after ≡ before ++ more
  pub is_linked : (t : ℕ) → lists more t ≡ true → has_arrow arrows seat t ≡ true

pub met_more : (arrows : List Arrow) (seat : ℕ) (before nodes after : List ℕ) (node : ℕ) → IsMore arrows seat before nodes → has_arrow arrows seat node ≡ true → after ≡ cond (lists nodes node) nodes (nodes ++ node ∷ []) → IsMore arrows seat before after
met_more arrows seat before nodes after node so_far arrow is = subst (IsMore arrows seat before) (sym is) (go (lists nodes node)) where
  go : (b : Bool) → IsMore arrows seat before (cond b nodes (nodes ++ node ∷ []))
  go true = so_far
  go false = record {
    more = so_far.more ++ node ∷ [];
    kept = ap (λ (l : List ℕ). l ++ node ∷ []) so_far.kept ∙ append_assoc before so_far.more (node ∷ []);
    is_linked = λ t there. elim (or_cases (lists so_far.more t) (lists (node ∷ []) t) (sym (lists-append so_far.more (node ∷ []) t) ∙ there)) [
      | inl old ↦ so_far.is_linked t old
      | inr new ↦ ap (λ n. has_arrow arrows seat n) (sym (only_listed node t new)) ∙ arrow
    ];
  }

-- ---- all that is reached is met
-- what a search has met that began at a node, met it, and has expanded the first few of the nodes that it met
pub record IsSpread (arrows : List Arrow) (from : ℕ) (nodes : List ℕ) (next : ℕ) : Type 0 where
  pub reached : (k : ℕ) → lists nodes k ≡ true → linked arrows from k ≡ true
  pub start : lists nodes from ≡ true
  pub so_far : next ≤ length nodes
  pub later : (i : ℕ) → i < next → (t : ℕ) → has_arrow arrows (get_or nodes i 0) t ≡ true → lists nodes t ≡ true

pub spread_from : (arrows : List Arrow) (from : ℕ) (cleared nodes : List ℕ) → cleared ≡ [] → nodes ≡ cond (lists cleared from) cleared (cleared ++ from ∷ []) → IsSpread arrows from nodes 0
spread_from arrows from cleared nodes none is =
    let only : nodes ≡ from ∷ [] = is ∙ ap (λ (l : List ℕ). cond (lists l from) l (l ++ from ∷ [])) none ∙ ap (λ b. cond b [] (from ∷ [])) (nothing_listed from) in
    record {
      reached = λ k listed. subst (λ n. linked arrows from n ≡ true) (only_listed from k (ap (λ (l : List ℕ). lists l k) (sym only) ∙ listed)) (linked_refl arrows from);
      start = ap (λ (l : List ℕ). lists l from) only ∙ one_listed from;
      so_far = omega arith;
      later = λ i below. absurd (omega (arith, below));
    }

pub spread_on : (arrows : List Arrow) (from : ℕ) (nodes after : List ℕ) (next : ℕ) → IsSpread arrows from nodes next → next < length nodes → Expands arrows (get_or nodes next 0) nodes after → IsSpread arrows from after (next + 1)
spread_on arrows from nodes after next so below expands =
    let kept = expands.kept in
    let still : (t : ℕ) → lists nodes t ≡ true → lists after t ≡ true = λ t met. ap (λ (l : List ℕ). lists l t) kept ∙ lists_left nodes expands.more t met in
    let at = λ (i : ℕ) (before : i < length nodes). ap (λ (l : List ℕ). get_or l i 0) kept ∙ get_or_append_left nodes expands.more 0 i before in
    let here : linked arrows from (get_or nodes next 0) ≡ true = so.reached (get_or nodes next 0) (lists_at nodes (get_or nodes next 0) next below refl) in
    let size_of = length-append nodes expands.more in
    let more_nodes : length after ≡ length (nodes ++ expands.more) = ap length kept in
    record {
      reached = λ k listed. elim (or_cases (lists nodes k) (lists expands.more k) (sym (lists-append nodes expands.more k) ∙ ap (λ (l : List ℕ). lists l k) (sym kept) ∙ listed)) [
        | inl old ↦ so.reached k old
        | inr new ↦ linked_step arrows from (get_or nodes next 0) k here (expands.is_linked k new)
      ];
      start = still from so.start;
      so_far = omega (arith, size_of, more_nodes, below);
      later = λ i before t arrow. elim (cases_eq i next) [
        | inl last ↦ expands.all t (subst (λ n. has_arrow arrows n t ≡ true) (at i (omega (arith, before, below, so.so_far)) ∙ ap (λ n. get_or nodes n 0) last) arrow)
        | inr earlier ↦ still t (so.later i (omega (arith, before)) t (subst (λ n. has_arrow arrows n t ≡ true) (at i (omega (arith, before, below, so.so_far))) arrow))
      ];
    }

pub spread_across : (arrows : List Arrow) (from : ℕ) (nodes : List ℕ) (next : ℕ) → IsSpread arrows from nodes next → length nodes ≤ next → (n : ℕ) → lists nodes n ≡ linked arrows from n
spread_across arrows from nodes next so all n = both_follow (lists nodes n) (linked arrows from n) (so.reached n) (λ way. closed_linked (lists nodes) arrows closed from n way so.start) where
  closed : (u t : ℕ) → has_arrow arrows u t ≡ true → lists nodes u ≡ true → lists nodes t ≡ true
  closed u t arrow met =
      let found = listed_at nodes u met in
      so.later found.0 (omega (arith, found.1, all)) t (subst (λ n. has_arrow arrows n t ≡ true) (sym found.2) arrow)

-- ---- a node is expanded twice, along these arrows and then along those
pub expands_both : (ones others : List Arrow) (node : ℕ) (before mid after : List ℕ) → Expands ones node before mid → Expands others node mid after → Expands (ones ++ others) node before after
expands_both ones others node before mid after first second = record {
  more = first.more ++ second.more;
  kept = second.kept ∙ ap (λ (l : List ℕ). l ++ second.more) first.kept ∙ append_assoc before first.more second.more;
  is_linked = λ k listed. has_append ones others node k ∙ elim (or_cases (lists first.more k) (lists second.more k) (sym (lists-append first.more second.more k) ∙ listed)) [
    | inl old ↦ or_left _ _ (first.is_linked k old)
    | inr new ↦ or_right _ _ (second.is_linked k new)
  ];
  all = λ t arrow. elim (or_cases (has_arrow ones node t) (has_arrow others node t) (sym (has_append ones others node t) ∙ arrow)) [
    | inl old ↦ ap (λ (l : List ℕ). lists l t) second.kept ∙ lists_left mid second.more t (first.all t old)
    | inr new ↦ second.all t new
  ];
}
