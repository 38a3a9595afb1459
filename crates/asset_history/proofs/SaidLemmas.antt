-- What is kept of an object's users, once one more uses it.
use Rattle.std.proofs.Common.{◌≡◌, ℕ, ◌<◌, ◌≤◌, ◌⊎◌, Bool, true, false, cond, not, eqb, ◌&&◌, ◌||◌, List, length, get_or, refl, sym, ap, subst, ◌∙◌, arith, inl, inr, Some}
use Rattle.std.specs.Prelude.{Option}
use Rattle.std.specs.Bool.{beq}
use Rattle.std.proofs.lemmas.Bool.{or_cases, or_left, or_right, eqb-true, false≢true}
use Rattle.asset_names.specs.Steps.{Entry, applied}
use Rattle.asset_names.specs.Groups.{same_group}
use Rattle.asset_name_groups.specs.NamesInGroups.{NamesInGroups}
use Rattle.asset_history.specs.declared.users.Users.{Users}
use Rattle.asset_history.specs.declared.users.Users.TheVariants as Users'
use Rattle.asset_history.specs.declared.links.Link.{Link}
use Rattle.asset_history.specs.Links.{IsIn, HaveMore}
use Rattle.asset_history.specs.Together.{name_at, label_at, IsWith, HaveGrown}
use Rattle.asset_history.specs.Uses.{opens, operates, uses}
use Rattle.asset_history.specs.Users.{AreOfOneSide, AreSaid, AreAmong, AreUsersWithin, IsReached, SayAll, also, node_in, chain_in, users_or_nobody, uses_as}
use Rattle.asset_names.proofs.Common.{and_true, and_false}
use Rattle.asset_history.proofs.ChainLemmas.{in_none, in_more, was_in}
use Rattle.asset_history.proofs.LabelLemmas.{with_grown}
use Rattle.asset_history.proofs.UseLemmas.{users_together}

neither : (a b : Bool) → (a || b) ≡ false → (a ≡ false) × (b ≡ false)
neither false false h = (refl, refl)
neither true b h = absurd (false≢true (sym h))
neither false true h = absurd (false≢true (sym h))

-- ---- the nodes of users

pub said_within : (g : NamesInGroups) (links : List Link) (o p O P : ℕ → Bool) (users : Users) → 0 < length g.names → AreSaid g links o p O P users → AreUsersWithin (length g.names) links users
unfolding AreSaid node_in chain_in
said_within g links o p O P Users'.Nobody some said = record { node = some; linked = omega arith; chained = λ other h. absurd (in_none links other h) }
said_within g links o p O P (Users'.OneSide true node chain) some said = record { node = said.within; linked = said.linked; chained = λ other h. (said.users other h).0 }
said_within g links o p O P (Users'.OneSide false node chain) some said = record { node = said.within; linked = said.linked; chained = λ other h. (said.users other h).0 }
said_within g links o p O P (Users'.Met node) some said = record { node = said.within; linked = omega arith; chained = λ other h. absurd (in_none links other h) }

-- more names, and more links
pub within_more : (nodes more : ℕ) (links after : List Link) (users : Users) → nodes ≤ more → HaveMore links after → AreUsersWithin nodes links users → AreUsersWithin more after users
within_more nodes more links after users grown linked within = record {
  node = omega (arith, within.node, grown);
  linked = omega (arith, within.linked, linked.more);
  chained = λ other h. omega (arith, within.chained other (was_in links after (chain_in users) other linked within.linked h), grown);
}

-- ---- the first user

first_of_side : (g : NamesInGroups) (links : List Link) (mine others all_mine : ℕ → Bool) (node : ℕ) → node < length g.names → all_mine (name_at g node) ≡ true → ((u : ℕ) → mine u ≡ false) → ((u : ℕ) → others u ≡ false)
    → AreOfOneSide g links (also true (name_at g node) mine) (also false (name_at g node) others) all_mine node 0
unfolding also
first_of_side g links mine others all_mine node within user no_mine no_others = record {
  within = within;
  user = user;
  none = no_others;
  linked = omega arith;
  users = λ other h. absurd (in_none links other h);
  all = λ u h. elim (or_cases (eqb (name_at g node) u) _ h) [
    | inl is ↦ inl (node, within, eqb-true (name_at g node) u is, refl)
    | inr before ↦ absurd (false≢true (sym (no_mine u) ∙ before))
  ];
}

pub said_first : (g : NamesInGroups) (links : List Link) (o p O P : ℕ → Bool) (as_opener : Bool) (node : ℕ) → node < length g.names → cond as_opener (O (name_at g node)) (P (name_at g node)) ≡ true → AreSaid g links o p O P Users'.Nobody
    → AreSaid g links (also as_opener (name_at g node) o) (also (not as_opener) (name_at g node) p) O P (Users'.OneSide as_opener node 0)
unfolding AreSaid
said_first g links o p O P true node within user said = first_of_side g links o p O node within user (λ u. (neither (o u) (p u) (said u)).0) (λ u. (neither (o u) (p u) (said u)).1)
said_first g links o p O P false node within user said = first_of_side g links p o P node within user (λ u. (neither (o u) (p u) (said u)).1) (λ u. (neither (o u) (p u) (said u)).0)

-- ---- one more of the same side

-- a chain with one more node, if the group of that is not yet known
pub record Longer (g : NamesInGroups) (links after : List Link) (first chain next node : ℕ) : Type 0 where
  pub linked : next ≤ length after
  pub kept : (k : ℕ) → IsIn links chain k → IsIn after next k
  pub only : (k : ℕ) → IsIn after next k → IsIn links chain k ⊎ (k ≡ node)
  pub reached : (label_at g first ≡ label_at g node) ⊎ ((k : ℕ) × IsIn after next k × (label_at g k ≡ label_at g node))

more_of_side : (g : NamesInGroups) (links after : List Link) (mine others all_mine : ℕ → Bool) (first chain next node : ℕ) → node < length g.names → all_mine (name_at g node) ≡ true → Longer g links after first chain next node
    → AreOfOneSide g links mine others all_mine first chain → AreOfOneSide g after (also true (name_at g node) mine) (also false (name_at g node) others) all_mine first next
unfolding also
more_of_side g links after mine others all_mine first chain next node within user longer said = record {
  within = said.within;
  user = said.user;
  none = said.none;
  linked = longer.linked;
  users = λ other h. elim (longer.only other h) [
    | inl was ↦ said.users other was
    | inr is ↦ (omega (arith, is, within), ap (λ k. all_mine (name_at g k)) is ∙ user)
  ];
  all = λ u h. elim (or_cases (eqb (name_at g node) u) _ h) [
    | inl is ↦ now u (eqb-true (name_at g node) u is)
    | inr before ↦ elim (said.all u before) [
      | inl with_first ↦ inl with_first
      | inr chained ↦ inr (chained.0, longer.kept chained.0 chained.1, chained.2)
    ]
  ];
} where
  now : (u : ℕ) → name_at g node ≡ u → IsReached g after u first next
  now u is = elim longer.reached [
    | inl same ↦ inl (node, within, is, sym same)
    | inr chained ↦ inr (chained.0, chained.1, (node, within, is, sym chained.2))
  ]

pub said_more : (g : NamesInGroups) (links after : List Link) (o p O P : ℕ → Bool) (as_opener : Bool) (first chain next node : ℕ) → node < length g.names → cond as_opener (O (name_at g node)) (P (name_at g node)) ≡ true → Longer g links after first chain next node
    → AreSaid g links o p O P (Users'.OneSide as_opener first chain) → AreSaid g after (also as_opener (name_at g node) o) (also (not as_opener) (name_at g node) p) O P (Users'.OneSide as_opener first next)
unfolding AreSaid
said_more g links after o p O P true first chain next node within user longer said = more_of_side g links after o p O first chain next node within user longer said
said_more g links after o p O P false first chain next node within user longer said = more_of_side g links after p o P first chain next node within user longer said

-- ---- one of the other side

module _ (g after : NamesInGroups) (links : List Link) (mine others all_mine : ℕ → Bool) (first chain node : ℕ) (within : node < length g.names) (names : after.names ≡ g.names)
    (grown : HaveGrown g after) (one : label_at after first ≡ label_at after node) (each : (k : ℕ) → IsIn links chain k → label_at after k ≡ label_at after node) (said : AreOfOneSide g links mine others all_mine first chain) where
  node_after : node < length after.names
  node_after = omega (arith, within, ap length names)

  name_after : name_at after node ≡ name_at g node
  name_after = ap (λ l. get_or l node 0) names

  with_mine : (u : ℕ) → also false (name_at g node) mine u ≡ true → IsWith after u node
  unfolding also
  with_mine u h = elim (said.all u h) [
    | inl with_first ↦ let found = with_grown g after u first grown said.within with_first in (found.0, found.1, found.2, found.3 ∙ one)
    | inr (k, chained, with_k) ↦ let found = with_grown g after u k grown (said.users k chained).0 with_k in (found.0, found.1, found.2, found.3 ∙ each k chained)
  ]

  with_other : (u : ℕ) → also true (name_at g node) others u ≡ true → IsWith after u node
  unfolding also
  with_other u h = elim (or_cases (eqb (name_at g node) u) _ h) [
    | inl is ↦ (node, node_after, name_after ∙ eqb-true (name_at g node) u is, refl)
    | inr before ↦ absurd (false≢true (sym (said.none u) ∙ before))
  ]

pub said_met : (g after : NamesInGroups) (links : List Link) (o p O P : ℕ → Bool) (as_opener opened : Bool) (first chain node : ℕ) → beq opened as_opener ≡ false → node < length g.names → after.names ≡ g.names
    → cond as_opener (O (name_at g node)) (P (name_at g node)) ≡ true → HaveGrown g after → label_at after first ≡ label_at after node → ((k : ℕ) → IsIn links chain k → label_at after k ≡ label_at after node)
    → AreSaid g links o p O P (Users'.OneSide opened first chain) → AreSaid after links (also as_opener (name_at g node) o) (also (not as_opener) (name_at g node) p) O P (Users'.Met node)
unfolding AreSaid
said_met g after links o p O P true true first chain node apart within names user grown one each said = absurd (false≢true (sym apart))
said_met g after links o p O P false false first chain node apart within names user grown one each said = absurd (false≢true (sym apart))
said_met g after links o p O P false true first chain node apart within names user grown one each said = record {
  within = omega (arith, within, ap length names);
  user = or_right (O (name_at after node)) _ (ap (λ l. P (get_or l node 0)) names ∙ user);
  opened = (name_at g first, said.user);
  operated = (name_at g node, user);
  one = λ u h. elim (or_cases (also false (name_at g node) o u) _ h) [
    | inl mine ↦ with_mine g after links o p O first chain node within names grown one each said u mine
    | inr other ↦ with_other g after links o p O first chain node within names grown one each said u other
  ];
}
said_met g after links o p O P true false first chain node apart within names user grown one each said = record {
  within = omega (arith, within, ap length names);
  user = or_left _ _ (ap (λ l. O (get_or l node 0)) names ∙ user);
  opened = (name_at g node, user);
  operated = (name_at g first, said.user);
  one = λ u h. elim (or_cases (also true (name_at g node) o u) _ h) [
    | inl other ↦ with_other g after links p o P first chain node within names grown one each said u other
    | inr mine ↦ with_mine g after links p o P first chain node within names grown one each said u mine
  ];
}

-- ---- one more, once they have met

met_more : (g after : NamesInGroups) (mine : ℕ → Bool) (b : Bool) (first node u : ℕ) → node < length g.names → first < length g.names → after.names ≡ g.names → HaveGrown g after → label_at after first ≡ label_at after node
    → (mine u ≡ true → IsWith g u first) → also b (name_at g node) mine u ≡ true → IsWith after u first
unfolding also
met_more g after mine b first node u within is_first names grown one before h = elim (or_cases (b && eqb (name_at g node) u) _ h) [
  | inl now ↦ (node, omega (arith, within, ap length names), ap (λ l. get_or l node 0) names ∙ go b now, sym one)
  | inr was ↦ with_grown g after u first grown is_first (before was)
] where
  go : (a : Bool) → (a && eqb (name_at g node) u) ≡ true → name_at g node ≡ u
  go true h = eqb-true (name_at g node) u h
  go false h = absurd (false≢true h)

pub said_more_met : (g after : NamesInGroups) (links later : List Link) (o p O P : ℕ → Bool) (as_opener : Bool) (first node : ℕ) → node < length g.names → after.names ≡ g.names → HaveGrown g after → label_at after first ≡ label_at after node
    → AreSaid g links o p O P (Users'.Met first) → AreSaid after later (also as_opener (name_at g node) o) (also (not as_opener) (name_at g node) p) O P (Users'.Met first)
unfolding AreSaid
said_more_met g after links later o p O P as_opener first node within names grown one said = record {
  within = omega (arith, said.within, ap length names);
  user = ap (λ l. O (get_or l first 0) || P (get_or l first 0)) names ∙ said.user;
  opened = said.opened;
  operated = said.operated;
  one = λ u h. elim (or_cases (also as_opener (name_at g node) o u) _ h) [
    | inl opener ↦ met_more g after o as_opener first node u within said.within names grown one (λ is. said.one u (or_left _ _ is)) opener
    | inr operator ↦ met_more g after p (not as_opener) first node u within said.within names grown one (λ is. said.one u (or_right (o u) _ is)) operator
  ];
}

-- ---- who is joined is of one group

-- a user of all entries on either side
used_as : (all : List Entry) (as_opener : Bool) (t x : ℕ) → uses_as as_opener (applied all) t x ≡ true → uses (applied all) t x ≡ true
unfolding uses_as uses
used_as all true t x h = or_left _ _ h
used_as all false t x h = or_right (opens (applied all) t x) _ h

-- if somebody of one side uses an object from the other, all who are kept are of one group with it
module _ (all : List Entry) (g : NamesInGroups) (links : List Link) (x first chain node : ℕ) where
  abbrev pub AreTogether : Type 0
  AreTogether = (same_group all (name_at g node) (name_at g first) ≡ true) × ((k : ℕ) → IsIn links chain k → same_group all (name_at g node) (name_at g k) ≡ true)

  side_together : (opened as_opener : Bool) (mine others : ℕ → Bool) → ((u : ℕ) → uses_as opened (applied all) u x ≡ true → uses_as as_opener (applied all) (name_at g node) x ≡ true → (a t : ℕ) × (opens (applied all) a x ≡ true) × (operates (applied all) t x ≡ true))
      → uses_as as_opener (applied all) (name_at g node) x ≡ true → AreOfOneSide g links mine others (λ u. uses_as opened (applied all) u x) first chain → AreTogether
  side_together opened as_opener mine others both user said =
      let pair = both (name_at g first) said.user user in
      let together : (u : ℕ) → uses_as opened (applied all) u x ≡ true → same_group all (name_at g node) u ≡ true = λ u h.
      users_together all x pair.0 pair.1 pair.2 pair.3 (name_at g node) u (used_as all as_opener (name_at g node) x user) (used_as all opened u x h) in
      (together (name_at g first) said.user, λ k h. together (name_at g k) (said.users k h).1)

  pub together_now : (o p : ℕ → Bool) (as_opener opened : Bool) → beq opened as_opener ≡ false → uses_as as_opener (applied all) (name_at g node) x ≡ true
      → AreSaid g links o p (λ a. opens (applied all) a x) (λ t. operates (applied all) t x) (Users'.OneSide opened first chain) → AreTogether
  unfolding AreSaid uses_as
  together_now o p true true apart user said = absurd (false≢true (sym apart))
  together_now o p false false apart user said = absurd (false≢true (sym apart))
  together_now o p false true apart user said = side_together true false o p (λ u opening operation. (u, name_at g node, opening, operation)) user said
  together_now o p true false apart user said = side_together false true p o (λ u operation opening. (name_at g node, u, opening, operation)) user said

-- and if they have met before
pub together_met : (all : List Entry) (g : NamesInGroups) (links : List Link) (o p : ℕ → Bool) (as_opener : Bool) (x first node : ℕ) → uses_as as_opener (applied all) (name_at g node) x ≡ true
    → AreSaid g links o p (λ a. opens (applied all) a x) (λ t. operates (applied all) t x) (Users'.Met first) → same_group all (name_at g first) (name_at g node) ≡ true
unfolding AreSaid uses
together_met all g links o p as_opener x first node user said =
    users_together all x said.opened.0 said.operated.0 said.opened.1 said.operated.1 (name_at g first) (name_at g node) said.user (used_as all as_opener (name_at g node) x user)

pub beq_true : (a b : Bool) → beq a b ≡ true → b ≡ a
beq_true true true h = refl
beq_true true false h = absurd (false≢true h)
beq_true false true h = absurd (false≢true h)
beq_true false false h = refl

-- ---- of all objects

reached_grown : (g after : NamesInGroups) (links later : List Link) (u node chain : ℕ) → HaveGrown g after → HaveMore links later → node < length g.names → chain ≤ length links → ((other : ℕ) → IsIn links chain other → other < length g.names)
    → IsReached g links u node chain → IsReached after later u node chain
reached_grown g after links later u node chain grown more within linked inside (inl with_node) = inl (with_grown g after u node grown within with_node)
reached_grown g after links later u node chain grown more within linked inside (inr (k, chained, with_k)) = inr (k, in_more links later chain k more linked chained, with_grown g after u k grown (inside k chained) with_k)

side_grown : (g after : NamesInGroups) (links later : List Link) (mine others all_mine : ℕ → Bool) (node chain : ℕ) → HaveGrown g after → HaveMore links later → AreOfOneSide g links mine others all_mine node chain → AreOfOneSide after later mine others all_mine node chain
side_grown g after links later mine others all_mine node chain grown more said = record {
  within = omega (arith, said.within, grown.more);
  user = ap all_mine (grown.names node said.within) ∙ said.user;
  none = said.none;
  linked = omega (arith, said.linked, more.more);
  users = λ other h. let was = said.users other (was_in links later chain other more said.linked h) in (omega (arith, was.0, grown.more), ap all_mine (grown.names other was.0) ∙ was.1);
  all = λ u h. reached_grown g after links later u node chain grown more said.within said.linked (λ other inside. (said.users other inside).0) (said.all u h);
}

-- what is said stays as groups grow and links come
pub said_grown : (g after : NamesInGroups) (links later : List Link) (o p O P : ℕ → Bool) (users : Users) → HaveGrown g after → HaveMore links later → AreSaid g links o p O P users → AreSaid after later o p O P users
unfolding AreSaid
said_grown g after links later o p O P Users'.Nobody grown more said = said
said_grown g after links later o p O P (Users'.OneSide true node chain) grown more said = side_grown g after links later o p O node chain grown more said
said_grown g after links later o p O P (Users'.OneSide false node chain) grown more said = side_grown g after links later p o P node chain grown more said
said_grown g after links later o p O P (Users'.Met node) grown more said = record {
  within = omega (arith, said.within, grown.more);
  user = ap (λ n. O n || P n) (grown.names node said.within) ∙ said.user;
  opened = said.opened;
  operated = said.operated;
  one = λ u h. with_grown g after u node grown said.within (said.one u h);
}

side_wider : (g : NamesInGroups) (links : List Link) (mine others all_mine wide : ℕ → Bool) (node chain : ℕ) → AreAmong all_mine wide → AreOfOneSide g links mine others all_mine node chain → AreOfOneSide g links mine others wide node chain
side_wider g links mine others all_mine wide node chain more said = record {
  within = said.within;
  user = more (name_at g node) said.user;
  none = said.none;
  linked = said.linked;
  users = λ other h. let was = said.users other h in (was.0, more (name_at g other) was.1);
  all = said.all;
}

-- and if more entries are among all
pub said_wider : (g : NamesInGroups) (links : List Link) (o p O P wide_O wide_P : ℕ → Bool) (users : Users) → AreAmong O wide_O → AreAmong P wide_P → AreSaid g links o p O P users → AreSaid g links o p wide_O wide_P users
unfolding AreSaid
said_wider g links o p O P wide_O wide_P Users'.Nobody more_O more_P said = said
said_wider g links o p O P wide_O wide_P (Users'.OneSide true node chain) more_O more_P said = side_wider g links o p O wide_O node chain more_O said
said_wider g links o p O P wide_O wide_P (Users'.OneSide false node chain) more_O more_P said = side_wider g links p o P wide_P node chain more_P said
said_wider g links o p O P wide_O wide_P (Users'.Met node) more_O more_P said = record {
  within = said.within;
  user = elim (or_cases (O (name_at g node)) _ said.user) [ inl one ↦ or_left _ _ (more_O (name_at g node) one) | inr other ↦ or_right (wide_O (name_at g node)) _ (more_P (name_at g node) other) ];
  opened = (said.opened.0, more_O said.opened.0 said.opened.1);
  operated = (said.operated.0, more_P said.operated.0 said.operated.1);
  one = said.one;
}

-- an opener and an operator of one object are of one group
pub said_both : (g : NamesInGroups) (links : List Link) (o p O P : ℕ → Bool) (users : Users) (a t : ℕ) → AreSaid g links o p O P users → o a ≡ true → p t ≡ true → (node : ℕ) × IsWith g a node × IsWith g t node
unfolding AreSaid
said_both g links o p O P Users'.Nobody a t said is_a is_t = absurd (false≢true (sym (neither (o a) (p a) (said a)).0 ∙ is_a))
said_both g links o p O P (Users'.OneSide true node chain) a t said is_a is_t = absurd (false≢true (sym (said.none t) ∙ is_t))
said_both g links o p O P (Users'.OneSide false node chain) a t said is_a is_t = absurd (false≢true (sym (said.none a) ∙ is_a))
said_both g links o p O P (Users'.Met node) a t said is_a is_t = (node, said.one a (or_left _ _ is_a), said.one t (or_right (o t) _ is_t))

-- the users of one object are written, and the others stay
pub noted : (all : List Entry) (g after : NamesInGroups) (links later : List Link) (openers operators : ℕ → ℕ → Bool) (old new : ℕ → Option Users) (result : Users) (as_opener : Bool) (t x : ℕ)
    → ((y : ℕ) → new y ≡ cond (eqb x y) (Some result) (old y)) → HaveGrown g after → HaveMore links later
    → AreSaid after later (also as_opener t (λ u. openers u x)) (also (not as_opener) t (λ u. operators u x)) (λ a. opens (applied all) a x) (λ s. operates (applied all) s x) result
    → SayAll g links all openers operators old
    → SayAll after later all (λ a y. also (as_opener && eqb x y) t (λ u. openers u y) a) (λ s y. also (not as_opener && eqb x y) t (λ u. operators u y) s) new
unfolding also users_or_nobody
noted all g after links later openers operators old new result as_opener t x is grown more said others y = go (eqb x y) refl where
  Goal : Bool → Option Users → Type 0
  Goal b at = AreSaid after later (λ a. also (as_opener && b) t (λ u. openers u y) a) (λ s. also (not as_opener && b) t (λ u. operators u y) s) (λ a. opens (applied all) a y) (λ s. operates (applied all) s y) (users_or_nobody at)

  go : (b : Bool) → eqb x y ≡ b → Goal (eqb x y) (new y)
  go true e =
      let there : Goal true (Some result) = rw (and_true as_opener, and_true (not as_opener))
      (subst (λ z. AreSaid after later (also as_opener t (λ u. openers u z)) (also (not as_opener) t (λ u. operators u z)) (λ a. opens (applied all) a z) (λ s. operates (applied all) s z) result) (eqb-true x y e) said) in
      subst (λ at. Goal (eqb x y) at) (sym (is y ∙ ap (λ b. cond b (Some result) (old y)) e)) (subst (λ b. Goal b (Some result)) (sym e) there)
  go false e =
      let there : Goal false (old y) = rw (and_false as_opener, and_false (not as_opener)) (said_grown g after links later (λ u. openers u y) (λ u. operators u y) (λ a. opens (applied all) a y) (λ s. operates (applied all) s y) (users_or_nobody (old y)) grown more (others y)) in
      subst (λ at. Goal (eqb x y) at) (sym (is y ∙ ap (λ b. cond b (Some result) (old y)) e)) (subst (λ b. Goal b (old y)) (sym e) there)

-- other tests that agree
pub say_alike : (g : NamesInGroups) (links : List Link) (all : List Entry) (openers operators more_openers more_operators : ℕ → ℕ → Bool) (found : ℕ → Option Users)
    → ((u x : ℕ) → openers u x ≡ more_openers u x) → ((u x : ℕ) → operators u x ≡ more_operators u x) → SayAll g links all openers operators found → SayAll g links all more_openers more_operators found
say_alike g links all openers operators more_openers more_operators found first second say =
    subst (λ (f : ℕ → ℕ → Bool). SayAll g links all f more_operators found) (λ i u x. first u x i) (subst (λ (f : ℕ → ℕ → Bool). SayAll g links all openers f found) (λ i u x. second u x i) say)

-- one more object that t opens
pub opened_more : (h e o same : Bool) → ((e && same) || ((h && same) || o)) ≡ (((h || e) && same) || o)
opened_more true true o true = refl
opened_more true false o true = refl
opened_more false true o true = refl
opened_more false false o true = refl
opened_more true true o false = refl
opened_more true false o false = refl
opened_more false true o false = refl
opened_more false false o false = refl
