-- What is kept beside the entries, an entry further.
use Rattle.std.proofs.Common.{◌≡◌, ℕ, ◌+◌, ◌*◌, ◌<◌, ◌≤◌, Bool, true, false, eqb, ◌&&◌, ◌||◌, List, [], ◌∷◌, length, get_or, reverse, refl, sym, ap, subst, ◌∙◌, arith, inl, inr, Some, None}
use Rattle.std.specs.Prelude.{nat_eq, Option, slice_get}
use Rattle.std.proofs.lemmas.Bool.{cases_Bool, or_cases, or_left, false≢true}
use Rattle.indexmap.specs.IndexMap.{get, spare}
use Rattle.asset_names.specs.Arrows.{Arrow, has_arrow}
use Rattle.asset_names.specs.Steps.{Opening, Entry, takes_effect, applied}
use Rattle.asset_names.specs.Groups.{actor, partner, joins, same_group}
use Rattle.asset_names.specs.declared.steps.Step.{Step}
use Rattle.asset_names.specs.declared.steps.Step.TheVariants.{PermitAny}
use Rattle.asset_names.specs.declared.replies.Reply.{Reply}
use Rattle.asset_names.specs.declared.replies.Reply.TheVariants as Reply'
use Rattle.asset_names.proofs.Common.{and_false}
use Rattle.asset_entries.specs.Operating.{opener_of, opener_at}
use Rattle.asset_name_groups.specs.NamesInGroups.{NamesInGroups, none_named, IsConsistent}
use Rattle.asset_history.specs.declared.labelling.KeptGroups.{KeptGroups}
use Rattle.asset_history.specs.Named.{names_of}
use Rattle.asset_history.specs.Together.{name_at, label_at, IsWith, AreOfEntries, AreFlagged, AreJoined, HaveGrown}
use Rattle.asset_history.specs.Uses.{opened_obs, has_object, opens_on, opens, operates, partners}
use Rattle.asset_history.specs.Users.{users_or_nobody}
use Rattle.asset_names.specs.declared.replies.Outcome.TheVariants.{Answer}
use Rattle.asset_names.specs.Answers.{IsLegal}
use Rattle.asset_entries.specs.Recorded.{Recorded, opened, with_entry, answer_to}
use Rattle.asset_history.specs.Kept.{IsHistory, before, pair_of, pair_at, Respect, AreLabels, AreNamed, AreKept}
use Rattle.asset_history.specs.Links.{Links, no_links}
use Rattle.asset_history.proofs.ChainLemmas.{more_none}
use Rattle.asset_history.proofs.EntryLemmas.{before_newest, split_newest}
use Rattle.asset_history.proofs.FlagLemmas.{flags_by_groups}
use Rattle.asset_history.proofs.MeetLemmas.{Meet, join_met, partner_joined}
use Rattle.asset_history.proofs.NoteLemmas.{opens_next, opens_among, operates_among}
use Rattle.asset_history.proofs.SaidLemmas.{said_grown, said_wider, said_both}
use Rattle.asset_history.proofs.StepLemmas.{labels_say}

-- ---- users, before and after the newest entry

-- what is kept of older entries is so among all, in groups that have grown
pub kept_wider : (opening : Opening) (all : List Entry) (n : ℕ) (old : KeptGroups) (after : NamesInGroups) → HaveGrown old.groups after
    → AreKept opening (before all n) (before all n) old → AreKept opening all (before all n) (record { groups = after; users = old.users; is_opened = old.is_opened })
kept_wider opening all n old after grown kept = record {
  closed = kept.closed;
  room = kept.room;
  empty = kept.empty;
  unlinked = kept.unlinked;
  few = kept.few;
  there = kept.there;
  say = λ is_open x.
      let older = before all n in
      let links = old.users.links.links in
      let users = users_or_nobody (get nat_eq old.users.found x) in
      said_wider after links (λ a. opens (applied older) a x) (λ t. operates (applied older) t x) (λ a. opens (applied older) a x) (λ t. operates (applied older) t x) (λ a. opens (applied all) a x) (λ t. operates (applied all) t x) users
      (λ u h. opens_among all n u x h) (λ u h. operates_among all n u x h)
      (said_grown old.groups after links links (λ a. opens (applied older) a x) (λ t. operates (applied older) t x) (λ a. opens (applied older) a x) (λ t. operates (applied older) t x) users grown (more_none links) (kept.say is_open x));
}

opener_none : (step : Step) (reply : Reply) (y : ℕ) → opener_of step reply ≡ None → (takes_effect step reply && opens_on step y) ≡ false
unfolding opener_of takes_effect opens_on has_object opened_obs
opener_none (PermitAny giver obs ops) Reply'.Done y is = absurd cc
opener_none (PermitAny giver obs ops) reply y is = refl
opener_none step reply y is = and_false (takes_effect step reply)

-- if the newest entry opens nothing, and no older one does, nothing is opened
pub closed_next : (all : List Entry) (n : ℕ) → length all ≡ n + 1 → opener_at (slice_get (reverse all) n) ≡ None → ((a x : ℕ) → opens (applied (before all n)) a x ≡ false) → (a x : ℕ) → opens (applied all) a x ≡ false
closed_next all n size none before_none a x =
    let split = split_newest all n size in
    let here = opener_none split.0.0 split.0.1 x (ap opener_at (sym split.1) ∙ none) in
    ap (λ l. opens (applied l) a x) split.2 ∙ opens_next split.0 (before all n) a x
    ∙ go (takes_effect split.0.0 split.0.1) (opens_on split.0.0 x) (eqb (actor split.0.0).0 a) (opens (applied (before all n)) a x) here (before_none a x) where
      go : (effect on who rest : Bool) → (effect && on) ≡ false → rest ≡ false → ((effect && (on && who)) || rest) ≡ false
      go true true who rest h r = absurd (false≢true (sym h))
      go true false who rest h r = r
      go false on who rest h r = r

-- ---- labels

-- labels that respect the older joins and the newest one respect all partners
respect_partners : (all : List Entry) (n : ℕ) (g : NamesInGroups) → length all ≡ n + 1 → Respect g (joins (before all n)) → Respect g (pair_at all n ∷ []) → Respect g (partners all)
unfolding partners has_arrow pair_of
respect_partners all n g size older newest u v h = elim (or_cases (eqb (actor entry.0).0 u && eqb (partner entry.0).0 v) _ (ap (λ l. has_arrow (partners l) u v) (sym split.2) ∙ h)) [
  | inl here ↦ newest u v (ap (λ (found : Option Entry). has_arrow (pair_of found ∷ []) u v) split.1 ∙ or_left _ _ here)
  | inr before_it ↦ older u v (partner_joined (before all n) u v before_it)
] where
  split : (entry : Entry) × (slice_get (reverse all) n ≡ Some entry) × (all ≡ entry ∷ before all n)
  split = split_newest all n size

  entry : Entry
  entry = split.0

-- two who are of one node's group have one label
with_both : (g : NamesInGroups) (u v node i j : ℕ) → IsConsistent g → IsWith g u node → IsWith g v node → i < length g.names → j < length g.names → name_at g i ≡ u → name_at g j ≡ v → label_at g i ≡ label_at g j
with_both g u v node i j sound first second is_i is_j name_i name_j =
    let a : i ≡ first.0 = sound.different i first.0 is_i first.1 (name_i ∙ sym first.2) in
    let b : j ≡ second.0 = sound.different j second.0 is_j second.1 (name_j ∙ sym second.2) in
    ap (label_at g) a ∙ first.3 ∙ sym second.3 ∙ sym (ap (label_at g) b)

respect_met : (opening : Opening) (all : List Entry) (after : KeptGroups) → AreKept opening all all after
    → (a t x : ℕ) → opens (applied all) a x ≡ true → operates (applied all) t x ≡ true → (node : ℕ) × IsWith after.groups a node × IsWith after.groups t node
respect_met opening all after kept a t x opening_x operation = elim (cases_Bool after.is_opened) [
  | inl opened ↦
      said_both after.groups after.users.links.links (λ b. opens (applied all) b x) (λ s. operates (applied all) s x) (λ b. opens (applied all) b x) (λ s. operates (applied all) s x) (users_or_nobody (get nat_eq after.users.found x)) a t (kept.say opened x) opening_x operation
  | inr closed ↦ absurd (false≢true (sym (kept.closed closed a x) ∙ opening_x))
]

respect_all : (opening : Opening) (all : List Entry) (after : KeptGroups) → IsConsistent after.groups → AreKept opening all all after → Respect after.groups (partners all) → Respect after.groups (joins all)
respect_all opening all after sound kept pairs u v h i j is_i is_j name_i name_j = elim (join_met all u v h) [
  | inl pair ↦ pairs u v pair i j is_i is_j name_i name_j
  | inr meeting ↦ met meeting
] where
  met : Meet (applied all) u v → label_at after.groups i ≡ label_at after.groups j
  met (x, inl one) = let both = respect_met opening all after kept u v x one.0 one.1 in with_both after.groups u v both.0 i j sound both.1 both.2 is_i is_j name_i name_j
  met (x, inr one) = let both = respect_met opening all after kept v u x one.1 one.0 in with_both after.groups u v both.0 i j sound both.2 both.1 is_i is_j name_i name_j

-- names and labels that stay respect what they did, and are of the same entries
respect_same : (g after : NamesInGroups) (arrows : List Arrow) → after.names ≡ g.names → ((i j : ℕ) → i < length g.names → j < length g.names → label_at g i ≡ label_at g j → label_at after i ≡ label_at after j) → Respect g arrows → Respect after arrows
respect_same g after arrows names stay respect u v h i j is_i is_j name_i name_j =
    let inside_i : i < length g.names = omega (arith, is_i, ap length names) in
    let inside_j : j < length g.names = omega (arith, is_j, ap length names) in
    stay i j inside_i inside_j (respect u v h i j inside_i inside_j (ap (λ l. get_or l i 0) (sym names) ∙ name_i) (ap (λ l. get_or l j 0) (sym names) ∙ name_j))

pub of_same : (entries : List Entry) (g after : NamesInGroups) → after.names ≡ g.names → after.labels ≡ g.labels → AreOfEntries entries g → AreOfEntries entries after
of_same entries g after names labels of i j is_i is_j same =
    ap (λ l. same_group entries (get_or l i 0) (get_or l j 0)) names
    ∙ of i j (omega (arith, is_i, ap length names)) (omega (arith, is_j, ap length names)) (ap (λ l. get_or l i 0) (sym labels) ∙ same ∙ ap (λ l. get_or l j 0) labels)

-- the labels of all entries: after names and joins of partners, a flag, and the joins of users
pub labels_next : (opening : Opening) (all : List Entry) (n : ℕ) (named flagged : NamesInGroups) (new : KeptGroups) → length all ≡ n + 1
    → AreNamed all (before all n) (pair_at all n) named → flagged.names ≡ named.names → flagged.labels ≡ named.labels → AreFlagged all flagged → AreJoined all flagged new.groups → IsConsistent new.groups → AreKept opening all all new
    → AreLabels all new.groups
labels_next opening all n named flagged new size is names labels flags joined sound kept =
    let after = new.groups in
    let all_names : after.names ≡ names_of all = joined.names ∙ names ∙ is.names in
    let of : AreOfEntries all after = joined.of_entries (of_same all named flagged names labels is.of_entries) in
    let stay : (i j : ℕ) → i < length named.names → j < length named.names → label_at named i ≡ label_at named j → label_at after i ≡ label_at after j = λ i j is_i is_j same.
    joined.stay i j (omega (arith, is_i, ap length names)) (omega (arith, is_j, ap length names)) (ap (λ l. get_or l i 0) labels ∙ same ∙ ap (λ l. get_or l j 0) (sym labels)) in
    let older : Respect after (joins (before all n)) = respect_same named after (joins (before all n)) (joined.names ∙ names) stay is.joined_before in
    let newest : Respect after (pair_at all n ∷ []) = respect_same named after (pair_at all n ∷ []) (joined.names ∙ names) stay is.joined_now in
    let same = labels_say all after sound all_names of (respect_all opening all new sound kept (respect_partners all n after size older newest)) in
    record { names = all_names; same = same; flags = flags_by_groups all after all_names same (joined.flagged all flags) }

pub grown_same : (g after : NamesInGroups) → after.names ≡ g.names → after.labels ≡ g.labels → HaveGrown g after
grown_same g after names labels = record {
  more = omega (arith, ap length names);
  names = λ k below. ap (λ l. get_or l k 0) names;
  stay = λ i j is_i is_j same. ap (λ l. get_or l i 0) labels ∙ same ∙ ap (λ l. get_or l j 0) (sym labels);
}

-- ---- a history with one entry more

module _ (old new : Recorded) (step : Step) (reply : Reply) (n : ℕ) (is : new ≡ with_entry old step reply) (size : n ≡ length old.entries) where
  entries_are : new.entries ≡ (step, reply) ∷ old.entries
  unfolding with_entry
  entries_are = ap (λ (history : Recorded). history.entries) is

  pub opening_next : new.opening ≡ old.opening
  unfolding with_entry
  opening_next = ap (λ (history : Recorded). history.opening) is

  pub capacity_next : new.capacity ≡ old.capacity
  unfolding with_entry
  capacity_next = ap (λ (history : Recorded). history.capacity) is

  pub size_next : length new.entries ≡ n + 1
  size_next = ap length entries_are ∙ omega (arith, size)

  pub before_next_is : before new.entries n ≡ old.entries
  before_next_is = (λ i. before (entries_are i) (size i)) ∙ before_newest (step, reply) old.entries

  pub legal_next : IsLegal old.opening old.entries → answer_to old step ≡ Answer reply → IsLegal new.opening new.entries
  unfolding IsLegal answer_to with_entry
  legal_next legal answered = subst (λ (history : Recorded). IsLegal history.opening history.entries) (sym is) (answered, legal)

  pub labels_next_ready : (g : NamesInGroups) → AreLabels old.entries g → AreLabels (before new.entries n) g
  labels_next_ready g labels = subst (λ (entries : List Entry). AreLabels entries g) (sym before_next_is) labels

  pub kept_next_ready : (groups : KeptGroups) → AreKept old.opening old.entries old.entries groups → AreKept new.opening (before new.entries n) (before new.entries n) groups
  kept_next_ready groups kept =
      subst (λ (entries : List Entry). AreKept new.opening entries entries groups) (sym before_next_is) (subst (λ (opening : Opening). AreKept opening old.entries old.entries groups) (sym opening_next) kept)

-- a history without entries
pub nothing_kept : (opening : Opening) (capacity : ℕ) (kept : KeptGroups) → kept.groups ≡ none_named (2 * capacity) → kept.users.links ≡ no_links (16 * capacity) → kept.is_opened ≡ false → ((x : ℕ) → get nat_eq kept.users.found x ≡ None)
    → length opening ≤ spare kept.users.found → IsHistory (opened opening capacity) kept
unfolding none_named no_links names_of opens applied opened
nothing_kept opening capacity kept is unlinked closed empty room = record {
  labels = rw is (record { names = refl; same = λ i j is_i is_j. absurd (omega arith); flags = λ k below. absurd (omega arith) });
  users = record {
    closed = λ closed a x. refl;
    room = λ closed. room;
    empty = λ closed. empty;
    unlinked = λ closed. ap (λ (l : Links). l.links) unlinked;
    few = omega (arith, ap (λ (l : Links). length l.links) unlinked);
    there = λ opened. absurd (false≢true (sym closed ∙ opened));
    say = λ opened. absurd (false≢true (sym closed ∙ opened));
  };
  room = omega (arith, ap (λ (h : NamesInGroups). h.room) is);
  link_room = omega (arith, ap (λ (l : Links). l.room) unlinked);
}
