-- The labels and flags of trees: what they are of one node, and how they tell groups apart.
use Rattle.std.proofs.Common.{map, ◌||◌, cond, eqb, ltb, min, ◌≡◌, ℕ, ◌<◌, ◌≤◌, Bool, true, false, true≢false, List, length, get_or, sym, ap, ◌∙◌, arith, inl, inr}
use Rattle.std.proofs.lemmas.Bool.{cases_lt, lt-ltb, le-ltb, cond-true, cond-false}
use Rattle.std.proofs.lemmas.Bool.Decides.{nat_tests}
use Rattle.std.proofs.lemmas.List.FromFn.{length-map-range_with_len, get_or-map-range_with_len}
use Rattle.asset_name_groups.specs.declared.links.Link.{Link}
use Rattle.asset_name_groups.specs.declared.links.Link.TheVariants.{Below, Root}
use Rattle.asset_name_groups.specs.declared.trees.Tree.{Tree}
use Rattle.asset_name_groups.specs.Labelled.{relabelled, merged}
use Rattle.asset_name_groups.specs.NamesInGroups.{flag_at}
use Rattle.asset_name_groups.specs.Trees.{link_at, root_in, label_in, flag_in, labels_in, flags_in, label_by, flag_by, IsUpward, IsForest}
use Rattle.asset_name_groups.specs.Roots.{root_link, IsTree}
use Rattle.asset_name_groups.proofs.TreeLemmas.{root_own, root_above, by_steps}

unfoldable pub is_root : Link → Bool
is_root (Root rank is_flagged first) = true
is_root (Below rank above) = false

-- a link below another node is no root
pub not_both : (link : Link) (rank above r first : ℕ) (m : Bool) → link ≡ Below rank above → link ≡ Root r m first → ⊥
unfolding is_root
not_both link rank above r first m below root = true≢false (ap is_root (sym root ∙ below))

above_of : Link → ℕ
above_of (Root rank is_flagged first) = 0
above_of (Below rank above) = above

pub same_above : (rank above r a : ℕ) → Below rank above ≡ Below r a → above ≡ a
unfolding above_of
same_above rank above r a is = ap above_of is

-- ---- of one node
pub labels_long : (links : List Link) → length (labels_in links) ≡ length links
unfolding labels_in
labels_long links = length-map-range_with_len (label_in links) 0 (length links)

pub flags_long : (links : List Link) → length (flags_in links) ≡ length links
unfolding flags_in
flags_long links = length-map-range_with_len (flag_in links) 0 (length links)

pub label_at : (links : List Link) (k : ℕ) → k < length links → get_or (labels_in links) k 0 ≡ label_in links k
unfolding labels_in
label_at links k below = get_or-map-range_with_len (label_in links) 0 (length links) k k 0 below (omega arith)

pub flag_is : (links : List Link) (k : ℕ) → k < length links → flag_at (flags_in links) k ≡ flag_in links k
unfolding flags_in flag_at
flag_is links k below = get_or-map-range_with_len (flag_in links) 0 (length links) k k false below (omega arith)

-- ---- of a group
pub root_is_own : (links : List Link) (group : Tree) → IsTree links group → root_in links group.root ≡ group.root
unfolding root_link
root_is_own links group is = root_own links group.root group.rank group.label group.is_flagged is.link

pub label_is_its : (links : List Link) (group : Tree) (k : ℕ) → IsTree links group → root_in links k ≡ group.root → label_in links k ≡ group.label
unfolding label_in root_link label_by
label_is_its links group k is root = ap (λ n. label_by (link_at links n)) root ∙ ap label_by is.link

pub flag_is_its : (links : List Link) (group : Tree) (k : ℕ) → IsTree links group → root_in links k ≡ group.root → flag_in links k ≡ group.is_flagged
unfolding flag_in root_link flag_by
flag_is_its links group k is root = ap (λ n. flag_by (link_at links n)) root ∙ ap flag_by is.link

-- each node has a group
pub record HasTree (links : List Link) (k : ℕ) : Type 0 where
  pub group : Tree
  pub is : IsTree links group
  pub root : root_in links k ≡ group.root

pub has_tree : (links : List Link) → IsUpward links → (k : ℕ) → k < length links → HasTree links k
unfolding root_link
has_tree links up k within = by_steps (HasTree links) links up
    (λ k rank first m within is. record { group = record { root = k; rank = rank; is_flagged = m; label = first }; is = record { within = within; link = is }; root = root_own links k rank first m is })
    (λ k rank above within there is rest. record { group = rest.group; is = rest.is; root = root_above links up k rank above is ∙ rest.root })
    k within

-- the first node of a group is one of its nodes
pub first_within : (links : List Link) → IsForest links → (group : Tree) → IsTree links group → group.label < length links
first_within links forest group is = let low = forest.least group.root is.within in omega (arith, label_is_its links group group.root is (root_is_own links group is), low, is.within)

pub first_root : (links : List Link) → IsForest links → (group : Tree) → IsTree links group → root_in links group.label ≡ group.root
unfolding root_link
first_root links forest group is = forest.own group.root group.rank group.label group.is_flagged is.within is.link

-- who has a group's label is of the group
pub root_by_label : (links : List Link) → IsForest links → (group : Tree) → IsTree links group → (k : ℕ) → k < length links → label_in links k ≡ group.label → root_in links k ≡ group.root
root_by_label links forest group is k within label =
    let own = has_tree links forest.upward k within in
    let first : group.label ≡ own.group.label = sym label ∙ label_is_its links own.group k own.is own.root in
    own.root ∙ sym (first_root links forest own.group own.is) ∙ ap (root_in links) (sym first) ∙ first_root links forest group is

-- ---- a join: both labels are the lesser one
pub merged_is : (labels : List ℕ) (a b : ℕ) → map (λ label. cond (eqb label a || eqb label b) (min a b) label) labels ≡ merged labels a b
unfolding merged relabelled
merged_is labels a b = elim (cases_lt a b) [
  | inl less ↦ (λ i. map (λ label. first label less i) labels) ∙ sym (cond-true (ltb a b) (map (λ label. cond (eqb label b) a label) labels) (map (λ label. cond (eqb label a) b label) labels) (lt-ltb a b less))
  | inr more ↦ (λ i. map (λ label. second label more i) labels) ∙ sym (cond-false (ltb a b) (map (λ label. cond (eqb label b) a label) labels) (map (λ label. cond (eqb label a) b label) labels) (le-ltb a b more))
] where
  first : (label : ℕ) → a < b → cond (eqb label a || eqb label b) (min a b) label ≡ cond (eqb label b) a label
  first label less = grind (arith, nat_tests)

  second : (label : ℕ) → b ≤ a → cond (eqb label a || eqb label b) (min a b) label ≡ cond (eqb label a) b label
  second label more = grind (arith, nat_tests)
