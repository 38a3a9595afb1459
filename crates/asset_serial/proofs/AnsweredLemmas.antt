-- Whose commits were answered, who has committed, and who shares nothing.
use Rattle.std.proofs.Common.{◌≡◌, ℕ, ◌<◌, ◌+◌, Bool, true, false, cond, not, eqb, ◌&&◌, ◌||◌, List, [], ◌∷◌, ◌++◌, length, get_or, map, take, reverse, refl, sym, ◌∙◌, ap, inl, inr, ◌⊎◌, Some, None, arith}
use Rattle.std.specs.Prelude.{Option, slice_get, is_some, ◌↔◌}
use Rattle.std.specs.List.{list_all}
use Rattle.std.proofs.lemmas.Bool.{cases_eq, or_cases, or_left, or_right, and_parts, and_from, eqb-true, eq-eqb, false≢true}
use Rattle.std.proofs.lemmas.List.Folds.{list_all-append}
use Rattle.std.proofs.lemmas.List.{reverse-append, map_more, get_or_append_left, get_or_push, length_push}
use Rattle.std.proofs.lemmas.Option.{slice_get_cases}
use Rattle.asset_names.specs.declared.names.Txn.{Txn}
use Rattle.asset_names.specs.declared.steps.Step.{Step}
use Rattle.asset_names.specs.declared.steps.Step.TheVariants.{Commit}
use Rattle.asset_names.specs.declared.replies.Reply.{Reply}
use Rattle.asset_names.specs.declared.replies.Reply.TheVariants as Reply'
use Rattle.asset_names.specs.declared.replies.Outcome.TheVariants.{Answer}
use Rattle.asset_names.specs.Arrows.{Arrow, lists, has_arrow, with_name}
use Rattle.asset_names.specs.Steps.{Opening, Entry, takes_effect, applied}
use Rattle.asset_names.specs.Endings.{end_of, live}
use Rattle.asset_names.specs.Groups.{actor, partner, joins, was_committed}
use Rattle.asset_names.specs.Answers.{answer, IsLegal}
use Rattle.asset_names.proofs.Common.{both_follow}
use Rattle.asset_names.proofs.EndLemmas.{live_parts, commits, commit_ends}
use Rattle.asset_names.proofs.ListLemmas.{lists_at}
use Rattle.asset_laws.specs.Serial.{committed_by as named_by, committed_names, is_apart, shares_nothing, CommittedShareNothing}
use Rattle.asset_laws.proofs.KeepLinks.{Keeps}
use Rattle.asset_laws.proofs.GroupLemmas.{later_join, keeps_respects}
use Rattle.asset_entries.specs.Committing.{committer, passes, has_commit, commit_at}
use Rattle.asset_entries.proofs.EntryLemmas.{next_entry}
use Rattle.asset_history.specs.Uses.{partners}
use Rattle.asset_meetings.specs.Meetings.{join_arrows}
use Rattle.asset_history.proofs.DeadLemmas.{committed_by_member, member_committed, committed_after, committed_stays}
use Rattle.asset_history.proofs.NameLemmas.{with_new, with_old}
use Rattle.asset_serial.specs.Answered.{with_answered, answered_names}

-- ---- names
or_swap : (a b c : Bool) → (a || (b || c)) ≡ (b || (a || c))
or_swap true true c = refl
or_swap true false c = refl
or_swap false true c = refl
or_swap false false c = refl

lists_push : (names : List ℕ) (t n : ℕ) → lists (names ++ t ∷ []) n ≡ (eqb t n || lists names n)
unfolding lists
lists_push [] t n = refl
lists_push (m ∷ names) t n = ap (λ b. eqb m n || b) (lists_push names t n) ∙ or_swap (eqb m n) (eqb t n) (lists names n)

lists_with : (names : List ℕ) (t n : ℕ) → lists (with_name names t) n ≡ (eqb t n || lists names n)
unfolding with_name
lists_with names t n = go (lists names t) refl where
  old : (here : Bool) → eqb t n ≡ here → lists names t ≡ true → lists names n ≡ (here || lists names n)
  old true f e = ap (lists names) (sym (eqb-true t n f)) ∙ e
  old false f e = refl

  go : (b : Bool) → lists names t ≡ b → lists (cond b names (names ++ t ∷ [])) n ≡ (eqb t n || lists names n)
  go true e = old (eqb t n) refl e
  go false e = lists_push names t n

-- ---- whose commits were answered
answered_more : (names : List ℕ) (found : Option Txn) (n : ℕ) → lists (with_answered names found) n ≡ (passes (λ m. eqb m n) found || lists names n)
unfolding with_answered passes
answered_more names (Some t) n = lists_with names t.0 n
answered_more names None n = refl

answered_as : (entries : List Entry) (n : ℕ) → lists (answered_names entries) n ≡ has_commit (λ m. eqb m n) entries
unfolding answered_names has_commit lists
answered_as [] n = refl
answered_as (entry ∷ older) n = answered_more (answered_names older) (committer entry.0 entry.1) n ∙ ap (λ b. passes (λ m. eqb m n) (committer entry.0 entry.1) || b) (answered_as older n)

passing : (test : ℕ → Bool) (found : Option Txn) → passes test found ≡ true → (n : ℕ) × (test n ≡ true) × (passes (λ m. eqb m n) found ≡ true)
unfolding passes
passing test (Some t) h = (t.0, h, eq-eqb t.0 t.0 refl)
passing test None h = absurd (false≢true h)

-- if a commit of one who passes was answered, one who passes is named
commit_found : (test : ℕ → Bool) (entries : List Entry) → has_commit test entries ≡ true → (n : ℕ) × (test n ≡ true) × (lists (answered_names entries) n ≡ true)
unfolding has_commit answered_names
commit_found test [] h = absurd (false≢true h)
commit_found test (entry ∷ older) h = elim (or_cases (passes test (committer entry.0 entry.1)) (has_commit test older) h) [
  | inl here ↦
      let who = passing test (committer entry.0 entry.1) here in
      (who.0, who.1, answered_more (answered_names older) (committer entry.0 entry.1) who.0 ∙ or_left _ _ who.2)
  | inr later ↦
      let who = commit_found test older later in
      (who.0, who.1, answered_more (answered_names older) (committer entry.0 entry.1) who.0 ∙ or_right (passes (λ m. eqb m who.0) (committer entry.0 entry.1)) _ who.2)
]

-- ---- who has committed
abbrev pub committed : List Entry → ℕ → Bool
committed entries n = was_committed (end_of (applied entries) n)

pub answered_committed : (opening : Opening) (entries : List Entry) → IsLegal opening entries → (n : ℕ) → lists (answered_names entries) n ≡ true → committed entries n ≡ true
answered_committed opening entries legal n h =
    let member = member_committed opening (λ m. eqb m n) entries legal (sym (answered_as entries n) ∙ h) in
    ap (committed entries) (sym (eqb-true member.0 n member.1)) ∙ member.2

-- each arrow with an end that passes the test leads from a transaction to itself
abbrev pub Apart : (ℕ → Bool) → List Arrow → Type 0
Apart test arrows = (u v : ℕ) → has_arrow arrows u v ≡ true → (test u || test v) ≡ true → u ≡ v

apart_keeps : (test : ℕ → Bool) (arrows : List Arrow) → Apart test arrows → Keeps test arrows
apart_keeps test arrows apart u v h = go (test u) refl (test v) refl where
  go : (a : Bool) → test u ≡ a → (b : Bool) → test v ≡ b → test u ≡ test v
  go true e b f = ap test (apart u v h (or_left (test u) (test v) e))
  go false e true f = ap test (apart u v h (or_right (test u) (test v) f))
  go false e false f = e ∙ sym f

apart_weaker : (test other : ℕ → Bool) (arrows : List Arrow) → ((n : ℕ) → other n ≡ true → test n ≡ true) → Apart test arrows → Apart other arrows
apart_weaker test other arrows more apart u v h some =
    let passes_too : (test u || test v) ≡ true = elim (or_cases (other u) (other v) some) [
      | inl first ↦ or_left (test u) (test v) (more u first)
      | inr second ↦ or_right (test u) (test v) (more v second)
    ] in
    apart u v h passes_too

-- who has committed is named, if those who are named share nothing
pub committed_answered : (entries : List Entry) → Apart (lists (answered_names entries)) (joins entries) → (n : ℕ) → committed entries n ≡ true → lists (answered_names entries) n ≡ true
committed_answered entries apart n h = go (lists (answered_names entries) n) refl where
  unnamed : ℕ → Bool
  unnamed m = not (lists (answered_names entries) m)

  go : (b : Bool) → lists (answered_names entries) n ≡ b → b ≡ true
  go true e = refl
  go false e =
      let keeps : Keeps unnamed (joins entries) = λ u v arrow. ap not (apart_keeps (lists (answered_names entries)) (joins entries) apart u v arrow) in
      let who = commit_found unnamed entries (committed_by_member unnamed entries (keeps_respects unnamed entries keeps) n (ap not e) h) in
      absurd (false≢true (sym (ap not who.2) ∙ who.1))

-- ---- sharing, computed
one_arrow : (test : ℕ → Bool) (a b u v : ℕ) → (eqb a b || not (test a || test b)) ≡ true → a ≡ u → b ≡ v → (test u || test v) ≡ true → u ≡ v
one_arrow test a b u v h is_u is_v some = elim (or_cases (eqb a b) (not (test a || test b)) h) [
  | inl same ↦ sym is_u ∙ eqb-true a b same ∙ is_v
  | inr none ↦ let here : (test a || test b) ≡ true = rw (is_u, is_v) some in absurd (false≢true (sym (ap not here) ∙ none))
]

apart_says : (test : ℕ → Bool) (arrows : List Arrow) → list_all (is_apart test) arrows ≡ true → Apart test arrows
unfolding is_apart has_arrow
apart_says test [] h u v there some = absurd (false≢true there)
apart_says test (arrow ∷ arrows) h u v there some =
    let parts = and_parts (eqb arrow.0 arrow.1 || not (test arrow.0 || test arrow.1)) (list_all (is_apart test) arrows) h in
    elim (or_cases (eqb arrow.0 u && eqb arrow.1 v) _ there) [
      | inl here ↦ let ends = and_parts (eqb arrow.0 u) (eqb arrow.1 v) here in one_arrow test arrow.0 arrow.1 u v parts.0 (eqb-true arrow.0 u ends.0) (eqb-true arrow.1 v ends.1) some
      | inr later ↦ apart_says test arrows parts.1 u v later some
    ]

apart_from : (test : ℕ → Bool) (arrows : List Arrow) → Apart test arrows → list_all (is_apart test) arrows ≡ true
unfolding is_apart has_arrow
apart_from test [] apart = refl
apart_from test (arrow ∷ arrows) apart =
    and_from (eqb arrow.0 arrow.1 || not (test arrow.0 || test arrow.1)) (list_all (is_apart test) arrows) (go (test arrow.0 || test arrow.1) refl)
    (apart_from test arrows (λ u v h. apart u v (or_right (eqb arrow.0 u && eqb arrow.1 v) _ h))) where
      go : (some : Bool) → (test arrow.0 || test arrow.1) ≡ some → (eqb arrow.0 arrow.1 || not some) ≡ true
      go true e = or_left (eqb arrow.0 arrow.1) false (eq-eqb arrow.0 arrow.1 (apart arrow.0 arrow.1 (or_left _ _ (and_from _ _ (eq-eqb arrow.0 arrow.0 refl) (eq-eqb arrow.1 arrow.1 refl))) e))
      go false e = or_right (eqb arrow.0 arrow.1) true refl

pub sharing_law : (entries : List Entry) → (shares_nothing entries ≡ true) ↔ CommittedShareNothing entries
unfolding shares_nothing
sharing_law entries = (apart_says (committed entries) (joins entries), apart_from (committed entries) (joins entries))

-- what is found of those who are named is so of all who have committed
pub sharing_found : (opening : Opening) (entries : List Entry) → IsLegal opening entries → list_all (is_apart (lists (answered_names entries))) (joins entries) ≡ shares_nothing entries
unfolding shares_nothing
sharing_found opening entries legal =
    let named = lists (answered_names entries) in
    both_follow (list_all (is_apart named) (joins entries)) (list_all (is_apart (committed entries)) (joins entries))
    (λ h. let apart = apart_says named (joins entries) h in
    apart_from (committed entries) (joins entries) (apart_weaker named (committed entries) (joins entries) (committed_answered entries apart) apart))
    (λ h. apart_from named (joins entries) (apart_weaker (committed entries) named (joins entries) (answered_committed opening entries legal) (apart_says (committed entries) (joins entries) h)))

-- one more entry
pub apart_more : (test : ℕ → Bool) (entries : List Entry) (i : ℕ) (entry : Entry) → slice_get entries i ≡ Some entry
    → list_all (is_apart test) (partners (reverse (take (i + 1) entries))) ≡ (is_apart test ((actor entry.0).0, (partner entry.0).0) && list_all (is_apart test) (partners (reverse (take i entries))))
unfolding partners
apart_more test entries i entry at = rw (next_entry entries i entry at) refl

-- one more meeting
pub met_more : (test : ℕ → Bool) (met : List (Txn × Txn)) (k : ℕ) (none : Txn × Txn) → k < length met
    → list_all (is_apart test) (join_arrows (take (k + 1) met)) ≡ (list_all (is_apart test) (join_arrows (take k met)) && is_apart test ((get_or met k none).0.0, (get_or met k none).1.0))
unfolding join_arrows
met_more test met k none below =
    let pair : Txn × Txn → Arrow = λ join. (join.0.0, join.1.0) in
    ap (list_all (is_apart test)) (map_more pair met k none below)
    ∙ list_all-append (is_apart test) (map pair (take k met)) (pair (get_or met k none) ∷ [])
    ∙ ap (λ b. list_all (is_apart test) (map pair (take k met)) && b) (alone (is_apart test (pair (get_or met k none)))) where
      alone : (b : Bool) → (b && true) ≡ b
      alone true = refl
      alone false = refl

-- ---- the order of commits
commit_is : (step : Step) (reply : Reply) (t : Txn) → committer step reply ≡ Some t → (step ≡ Commit t) × (reply ≡ Reply'.Committed)
unfolding committer
commit_is (Commit u) Reply'.Committed t is = (cc, refl)
commit_is step reply t is = absurd (false≢true (ap is_some is))

-- a step that is no answered commit names nobody
names_nobody : (step : Step) (reply : Reply) (steps : List Step) → committer step reply ≡ None → (named_by step steps ≡ []) ⊎ (takes_effect step reply ≡ false)
unfolding committer named_by takes_effect
names_nobody (Commit u) Reply'.Committed steps is = absurd (false≢true (sym (ap is_some is)))
names_nobody (Commit u) reply steps is = inr refl
names_nobody step reply steps is = inl refl

nobody_more : (entry : Entry) (older : List Entry) → committer entry.0 entry.1 ≡ None → committed_names (applied (entry ∷ older)) ≡ committed_names (applied older)
unfolding applied committed_names
nobody_more entry older none = elim (names_nobody entry.0 entry.1 (applied older) none) [
  | inl nobody ↦ go (takes_effect entry.0 entry.1) nobody
  | inr idle ↦ rw idle refl
] where
  go : (effect : Bool) → named_by entry.0 (applied older) ≡ [] → committed_names (cond effect (entry.0 ∷ applied older) (applied older)) ≡ committed_names (applied older)
  go true nobody = ap (λ l. l ++ committed_names (applied older)) nobody
  go false nobody = refl

one_more : (opening : Opening) (t : Txn) (older : List Entry) → IsLegal opening older → answer opening (applied older) (Commit t) ≡ Answer Reply'.Committed
    → ((n : ℕ) → committed older n ≡ true → lists (answered_names older) n ≡ true) → answered_names older ≡ reverse (committed_names (applied older))
    → with_name (answered_names older) t.0 ≡ reverse (committed_names (Commit t ∷ applied older))
unfolding committed_names named_by commits was_committed
one_more opening t older legal is known same = go (live (applied older) t.0) refl where
  new : live (applied older) t.0 ≡ true → (b : Bool) → lists (answered_names older) t.0 ≡ b → b ≡ false
  new alive false e = refl
  new alive true e = absurd (false≢true (sym (ap was_committed (live_parts (applied older) t.0 alive).1) ∙ answered_committed opening older legal t.0 e))

  old : live (applied older) t.0 ≡ false → committed older t.0 ≡ true
  old dead = sym (ap was_committed (commit_ends t (applied older) t.0 ∙ rw dead refl)) ∙ committed_after opening (applied older) t is

  go : (alive : Bool) → live (applied older) t.0 ≡ alive → with_name (answered_names older) t.0 ≡ reverse (cond alive (t.0 ∷ []) [] ++ committed_names (applied older))
  go true e = with_new (answered_names older) t.0 (new e (lists (answered_names older) t.0) refl) ∙ ap (λ l. l ++ t.0 ∷ []) same ∙ sym (reverse-append (t.0 ∷ []) (committed_names (applied older)))
  go false e = with_old (answered_names older) t.0 (known t.0 (old e)) ∙ same

share_rest : (entry : Entry) (older : List Entry) → CommittedShareNothing (entry ∷ older) → CommittedShareNothing older
share_rest entry older share u v h some =
    let later : (committed (entry ∷ older) u || committed (entry ∷ older) v) ≡ true = elim (or_cases (committed older u) (committed older v) some) [
      | inl first ↦ or_left _ _ (committed_stays entry older u first)
      | inr second ↦ or_right (committed (entry ∷ older) u) _ (committed_stays entry older v second)
    ] in
    share u v (later_join entry older u v h) later

pub answered_apart : (opening : Opening) (entries : List Entry) → IsLegal opening entries → CommittedShareNothing entries → Apart (lists (answered_names entries)) (joins entries)
answered_apart opening entries legal share = apart_weaker (committed entries) (lists (answered_names entries)) (joins entries) (answered_committed opening entries legal) share

pub answered_are : (opening : Opening) (entries : List Entry) → IsLegal opening entries → CommittedShareNothing entries → answered_names entries ≡ reverse (committed_names (applied entries))
unfolding answered_names with_answered IsLegal applied takes_effect committed_names
answered_are opening [] legal share = refl
answered_are opening (entry ∷ older) legal share = go (committer entry.0 entry.1) refl (answered_are opening older legal.1 (share_rest entry older share)) where
  known : (n : ℕ) → committed older n ≡ true → lists (answered_names older) n ≡ true
  known = committed_answered older (answered_apart opening older legal.1 (share_rest entry older share))

  took : (t : Txn) → entry.0 ≡ Commit t → entry.1 ≡ Reply'.Committed → applied (entry ∷ older) ≡ Commit t ∷ applied older
  took t step reply = rw (step, reply) refl

  go : (found : Option Txn) → committer entry.0 entry.1 ≡ found → answered_names older ≡ reverse (committed_names (applied older)) → with_answered (answered_names older) found ≡ reverse (committed_names (applied (entry ∷ older)))
  go None e same = same ∙ ap reverse (sym (nobody_more entry older e))
  go (Some t) e same =
      let is = commit_is entry.0 entry.1 t e in
      let answered : answer opening (applied older) (Commit t) ≡ Answer Reply'.Committed = ap (answer opening (applied older)) (sym is.0) ∙ legal.0 ∙ ap Answer is.1 in
      one_more opening t older legal.1 answered known same ∙ ap (λ l. reverse (committed_names l)) (sym (took t is.0 is.1))

-- ---- one more entry
pub answer_seen : (entries : List Entry) (i : ℕ) (t : Txn) → Some t ≡ commit_at (slice_get entries i) → answered_names (reverse (take (i + 1) entries)) ≡ with_name (answered_names (reverse (take i entries))) t.0
unfolding answered_names with_answered
answer_seen entries i t is = go (slice_get entries i) refl is where
  go : (found : Option Entry) → slice_get entries i ≡ found → Some t ≡ commit_at found → answered_names (reverse (take (i + 1) entries)) ≡ with_name (answered_names (reverse (take i entries))) t.0
  go None at is = absurd cc
  go (Some entry) at is = rw (next_entry entries i entry at, ← is) refl

pub no_answer_seen : (entries : List Entry) (i : ℕ) → i < length entries → None ≡ commit_at (slice_get entries i) → answered_names (reverse (take (i + 1) entries)) ≡ answered_names (reverse (take i entries))
unfolding answered_names with_answered
no_answer_seen entries i below is = elim (slice_get_cases entries i).1 [
  | inl here ↦ let none : None ≡ committer here.0.0 here.0.1 = rw here.2 at is in rw (next_entry entries i here.0 here.2, ← none) refl
  | inr past ↦ absurd (omega (arith, past.0))
]

-- ---- nobody is named twice
abbrev pub Once : List ℕ → Type 0
Once names = (j k : ℕ) → j < k → k < length names → get_or names j 0 ≡ get_or names k 0 → ⊥

once_with : (names : List ℕ) (found : Option Txn) → Once names → Once (with_answered names found)
unfolding with_answered with_name
once_with names None once = once
once_with names (Some t) once = go (lists names t.0) refl where
  go : (b : Bool) → lists names t.0 ≡ b → Once (cond b names (names ++ t.0 ∷ []))
  go true e = once
  go false e = λ j k before below same. elim (cases_eq k (length names)) [
    | inl last ↦
        let inside : j < length names = omega arith in
        let is : get_or names j 0 ≡ t.0 = sym (get_or_append_left names (t.0 ∷ []) 0 j inside) ∙ same ∙ get_or_push names t.0 0 k (sym last) in
        false≢true (sym e ∙ lists_at names t.0 j inside is)
    | inr other ↦
        let within : k < length names = omega (arith, length_push names t.0) in
        let inside : j < length names = omega arith in
        once j k before within (sym (get_or_append_left names (t.0 ∷ []) 0 j inside) ∙ same ∙ get_or_append_left names (t.0 ∷ []) 0 k within)
  ]

pub answered_once : (entries : List Entry) → Once (answered_names entries)
unfolding answered_names
answered_once [] = λ j k before below same. omega arith
answered_once (entry ∷ older) = once_with (answered_names older) (committer entry.0 entry.1) (answered_once older)
