-- What stays of the trees as a group is flagged or a node is added.
use Rattle.std.proofs.Common.{◌≡◌, ◌≢◌, ℕ, ◌+◌, ◌-◌, ◌*◌, ◌<◌, ◌≤◌, ◌||◌, ◌++◌, ◌∷◌, [], eqb, Bool, true, false, true≢false, List, length, get_or, map, refl, sym, ap, ◌∙◌, arith, inl, inr}
use Rattle.std.specs.List.{range_with_len}
use Rattle.std.proofs.lemmas.Bool.{cases_eq, cases_lt, eq-eqb, ne_eqb}
use Rattle.std.proofs.lemmas.List.{ext_get_or, length_push, get_or_append_left, get_or_push, get_or_past}
use Rattle.std.proofs.lemmas.List.FromFn.{length-map-range_with_len, get_or-map-range_with_len}
use Rattle.asset_name_groups.specs.declared.links.Link.{Link}
use Rattle.asset_name_groups.specs.declared.links.Link.TheVariants.{Below, Root}
use Rattle.asset_name_groups.specs.declared.trees.Tree.{Tree}
use Rattle.asset_name_groups.specs.NamesInGroups.{flag_at, flags_with}
use Rattle.asset_name_groups.specs.Trees.{link_at, rank_of, steps_bound, root_in, label_in, flag_in, labels_in, flags_in, label_by, flag_by, IsUpward, IsForest}
use Rattle.asset_name_groups.specs.Roots.{root_link, IsTree}
use Rattle.asset_name_groups.proofs.TreeLemmas.{root_own, root_above, by_steps}
use Rattle.asset_name_groups.proofs.LabelLemmas.{is_root, not_both, labels_long, flags_long, label_at, flag_is, label_is_its, has_tree, first_within, first_root, root_by_label}

-- Each link below another node stays, and so does each root with its rank, whatever it says of its group.
pub record IsLike (links later : List Link) : Type 0 where
  pub upward : IsUpward links
  pub size : length links ≤ length later
  pub ranks : (k : ℕ) → rank_of (link_at later k) ≡ rank_of (link_at links k)
  pub below : (k rank above : ℕ) → link_at links k ≡ Below rank above → link_at later k ≡ Below rank above
  pub roots : (k : ℕ) → is_root (link_at links k) ≡ true → is_root (link_at later k) ≡ true

-- a root is its own, whatever it says
pub own_root : (links : List Link) (k : ℕ) → is_root (link_at links k) ≡ true → root_in links k ≡ k
unfolding is_root
own_root links k root = go (link_at links k) refl root where
  go : (link : Link) → link_at links k ≡ link → is_root link ≡ true → root_in links k ≡ k
  go (Root rank m first) is root = root_own links k rank first m is
  go (Below rank above) is root = absurd (true≢false (sym root))

module _ (links later : List Link) (is : IsLike links later) where
  same_steps : (k : ℕ) → steps_bound later k ≡ steps_bound links k
  unfolding steps_bound
  same_steps k = ap (λ rank. (255 - rank) * 0x1_0000_0000 + k) (is.ranks k)

  -- a link below another node was there
  was_below : (k rank above : ℕ) → link_at later k ≡ Below rank above → link_at links k ≡ Below rank above
  unfolding is_root
  was_below k rank above now = go (link_at links k) refl where
    go : (link : Link) → link_at links k ≡ link → link_at links k ≡ Below rank above
    go (Root r m first) was = absurd (true≢false (sym (is.roots k (ap is_root was)) ∙ ap is_root now))
    go (Below r a) was = was ∙ sym (is.below k r a was) ∙ now

  pub like_upward : IsUpward later
  like_upward k rank above now =
      let was = is.upward k rank above (was_below k rank above now) in
      (omega (arith, was.0, is.size), omega (arith, was.1, same_steps above, same_steps k))

  pub like_root : (k : ℕ) → k < length links → root_in later k ≡ root_in links k
  unfolding is_root
  like_root k within = by_steps (λ k. root_in later k ≡ root_in links k) links is.upward at_root at_below k within where
    at_root : (k rank first : ℕ) (m : Bool) → k < length links → link_at links k ≡ Root rank m first → root_in later k ≡ root_in links k
    at_root k rank first m within root = own_root later k (is.roots k (ap is_root root)) ∙ sym (root_own links k rank first m root)

    at_below : (k rank above : ℕ) → k < length links → above < length links → link_at links k ≡ Below rank above → root_in later above ≡ root_in links above → root_in later k ≡ root_in links k
    at_below k rank above within there below rest =
        root_above later like_upward k rank above (is.below k rank above below) ∙ rest ∙ sym (root_above links is.upward k rank above below)

-- ---- one group is flagged
module _ (links later : List Link) (forest : IsForest links) (group : Tree) (there : IsTree links group) (at_root : link_at later group.root ≡ Root group.rank true group.label)
    (others : (k : ℕ) → k ≢ group.root → link_at later k ≡ link_at links k) (size : length later ≡ length links) where
  flagged_like : IsLike links later
  unfolding is_root rank_of root_link
  flagged_like = record {
    upward = forest.upward;
    size = omega (arith, size);
    ranks = λ k. elim (cases_eq k group.root) [
      | inl at ↦ rw at (ap rank_of at_root ∙ sym (ap rank_of there.link))
      | inr not ↦ ap rank_of (others k not)
    ];
    below = λ k rank above was. elim (cases_eq k group.root) [
      | inl at ↦ absurd (not_both (link_at links k) rank above group.rank group.label group.is_flagged was (ap (link_at links) at ∙ there.link))
      | inr not ↦ others k not ∙ was
    ];
    roots = λ k root. elim (cases_eq k group.root) [
      | inl at ↦ ap is_root (ap (link_at later) at ∙ at_root)
      | inr not ↦ ap is_root (others k not) ∙ root
    ];
  }

  flagged_root : (k : ℕ) → k < length links → root_in later k ≡ root_in links k
  flagged_root k within = like_root links later flagged_like k within

  first_stays : (k : ℕ) → label_by (link_at later k) ≡ label_by (link_at links k)
  unfolding label_by root_link
  first_stays k = elim (cases_eq k group.root) [
    | inl at ↦ rw at (ap label_by at_root ∙ sym (ap label_by there.link))
    | inr not ↦ ap label_by (others k not)
  ]

  label_stays : (k : ℕ) → k < length links → label_in later k ≡ label_in links k
  unfolding label_in
  label_stays k within = ap (λ n. label_by (link_at later n)) (flagged_root k within) ∙ first_stays (root_in links k)

  flagged_own : (k rank first : ℕ) (m : Bool) → k < length later → link_at later k ≡ Root rank m first → root_in later first ≡ k
  unfolding root_link label_by
  flagged_own k rank first m within root = elim (cases_eq k group.root) [
    | inl at ↦
        let same : first ≡ group.label = ap label_by (sym root ∙ ap (link_at later) at ∙ at_root) in
        ap (root_in later) same ∙ flagged_root group.label (first_within links forest group there) ∙ first_root links forest group there ∙ sym at
    | inr not ↦
        let own : Tree = record { root = k; rank = rank; is_flagged = m; label = first } in
        let here : IsTree links own = record { within = omega (arith, within, size); link = sym (others k not) ∙ root } in
        flagged_root first (first_within links forest own here) ∙ first_root links forest own here
  ]

  pub flagged_forest : IsForest later
  flagged_forest = record {
    upward = like_upward links later flagged_like;
    own = flagged_own;
    least = λ k within. let inside : k < length links = omega (arith, within, size) in omega (arith, label_stays k inside, forest.least k inside);
  }

  pub flagged_labels : labels_in later ≡ labels_in links
  flagged_labels = ext_get_or 0 (labels_in later) (labels_in links) (labels_long later ∙ size ∙ sym (labels_long links))
      (λ k below.
      let within : k < length links = omega (arith, below, labels_long later, size) in
      label_at later k (omega (arith, within, size)) ∙ label_stays k within ∙ sym (label_at links k within))

  flag_after : (k : ℕ) → k < length links → flag_in later k ≡ (eqb (label_in links k) group.label || flag_in links k)
  unfolding flag_in flag_by
  flag_after k within = elim (cases_eq (root_in links k) group.root) [
    | inl at ↦
        ap (λ n. flag_by (link_at later n)) (flagged_root k within ∙ at) ∙ ap flag_by at_root
        ∙ (λ i. sym (eq-eqb (label_in links k) group.label (label_is_its links group k there at)) i || flag_in links k)
    | inr not ↦
        ap (λ n. flag_by (link_at later n)) (flagged_root k within) ∙ ap flag_by (others (root_in links k) not)
        ∙ (λ i. sym (ne_eqb (label_in links k) group.label (λ label. not (root_by_label links forest group there k within label))) i || flag_in links k)
  ]

  pub flagged_flags : flags_in later ≡ flags_with (labels_in links) (flags_in links) group.label
  unfolding flags_with flag_at
  flagged_flags =
      let f : ℕ → Bool = λ k. eqb (get_or (labels_in links) k 0) group.label || flag_at (flags_in links) k in
      ext_get_or false (flags_in later) (map f (range_with_len 0 (length (labels_in links))))
      (flags_long later ∙ size ∙ sym (labels_long links) ∙ sym (length-map-range_with_len f 0 (length (labels_in links))))
      (λ k below.
      let within : k < length links = omega (arith, below, flags_long later, size) in
      flag_is later k (omega (arith, within, size)) ∙ flag_after k within
      ∙ (λ i. eqb (sym (label_at links k within) i) group.label || sym (flag_is links k within) i)
      ∙ sym (get_or-map-range_with_len f 0 (length (labels_in links)) k k false (omega (arith, within, labels_long links)) (omega arith)))

-- ---- one more node
module _ (links : List Link) (forest : IsForest links) where
  abbrev pub more : List Link
  more = links ++ Root 0 false (length links) ∷ []

  old_link : (k : ℕ) → k < length links → link_at more k ≡ link_at links k
  old_link k within = get_or_append_left links (Root 0 false (length links) ∷ []) (Root 0 false 0) k within

  new_link : link_at more (length links) ≡ Root 0 false (length links)
  new_link = get_or_push links (Root 0 false (length links)) (Root 0 false 0) (length links) refl

  more_long : length more ≡ length links + 1
  more_long = length_push links (Root 0 false (length links))

  past : (k : ℕ) → length links ≤ k → link_at links k ≡ Root 0 false 0
  past k beyond = get_or_past links k (Root 0 false 0) beyond

  past_more : (k : ℕ) → length links < k → link_at more k ≡ Root 0 false 0
  past_more k beyond = get_or_past more k (Root 0 false 0) (omega (arith, beyond, more_long))

  more_like : IsLike links more
  unfolding is_root rank_of
  more_like = record {
    upward = forest.upward;
    size = omega (arith, more_long);
    ranks = λ k. elim (cases_lt k (length links)) [
      | inl within ↦ ap rank_of (old_link k within)
      | inr beyond ↦ elim (cases_eq k (length links)) [
        | inl at ↦ ap rank_of (ap (link_at more) at ∙ new_link) ∙ sym (ap rank_of (past k beyond))
        | inr not ↦ ap rank_of (past_more k (omega (arith, beyond, not)) ∙ sym (past k beyond))
      ]
    ];
    below = λ k rank above was. elim (cases_lt k (length links)) [
      | inl within ↦ old_link k within ∙ was
      | inr beyond ↦ absurd (not_both (link_at links k) rank above 0 0 false was (past k beyond))
    ];
    roots = λ k root. elim (cases_lt k (length links)) [
      | inl within ↦ ap is_root (old_link k within) ∙ root
      | inr beyond ↦ elim (cases_eq k (length links)) [
        | inl at ↦ ap is_root (ap (link_at more) at ∙ new_link)
        | inr not ↦ ap is_root (past_more k (omega (arith, beyond, not)))
      ]
    ];
  }

  more_root : (k : ℕ) → k < length links → root_in more k ≡ root_in links k
  more_root k within = like_root links more more_like k within

  new_root : root_in more (length links) ≡ length links
  new_root = root_own more (length links) 0 (length links) false new_link

  root_link_stays : (k : ℕ) → k < length links → link_at more (root_in more k) ≡ link_at links (root_in links k)
  root_link_stays k within =
      let own = has_tree links forest.upward k within in
      ap (link_at more) (more_root k within) ∙ old_link (root_in links k) (omega (arith, own.root, own.is.within))

  old_label : (k : ℕ) → k < length links → label_in more k ≡ label_in links k
  unfolding label_in
  old_label k within = ap label_by (root_link_stays k within)

  old_flag : (k : ℕ) → k < length links → flag_in more k ≡ flag_in links k
  unfolding flag_in
  old_flag k within = ap flag_by (root_link_stays k within)

  new_label : label_in more (length links) ≡ length links
  unfolding label_in label_by
  new_label = ap (λ n. label_by (link_at more n)) new_root ∙ ap label_by new_link

  new_flag : flag_in more (length links) ≡ false
  unfolding flag_in flag_by
  new_flag = ap (λ n. flag_by (link_at more n)) new_root ∙ ap flag_by new_link

  more_own : (k rank first : ℕ) (m : Bool) → k < length more → link_at more k ≡ Root rank m first → root_in more first ≡ k
  unfolding label_by root_link
  more_own k rank first m within root = elim (cases_eq k (length links)) [
    | inl at ↦
        let same : first ≡ length links = ap label_by (sym root ∙ ap (link_at more) at ∙ new_link) in
        ap (root_in more) same ∙ new_root ∙ sym at
    | inr not ↦
        let inside : k < length links = omega (arith, within, more_long, not) in
        let own : Tree = record { root = k; rank = rank; is_flagged = m; label = first } in
        let here : IsTree links own = own_is k rank first m inside (sym (old_link k inside) ∙ root) in
        more_root first (first_within links forest own here) ∙ first_root links forest own here
  ] where
    own_is : (k rank first : ℕ) (m : Bool) → k < length links → link_at links k ≡ Root rank m first → IsTree links (record { root = k; rank = rank; is_flagged = m; label = first })
    own_is k rank first m inside is = record { within = inside; link = is }

  pub more_forest : IsForest more
  more_forest = record {
    upward = like_upward links more more_like;
    own = more_own;
    least = λ k within. elim (cases_eq k (length links)) [
      | inl at ↦ rw at (omega (arith, new_label))
      | inr not ↦ let inside : k < length links = omega (arith, within, more_long, not) in omega (arith, old_label k inside, forest.least k inside)
    ];
  }

  pub more_labels : labels_in more ≡ labels_in links ++ length links ∷ []
  more_labels = ext_get_or 0 (labels_in more) (labels_in links ++ length links ∷ []) (labels_long more ∙ more_long ∙ sym (length_push (labels_in links) (length links) ∙ ap (λ n. n + 1) (labels_long links)))
      (λ k below. elim (cases_eq k (length links)) [
        | inl at ↦ rw at (label_at more (length links) (omega (arith, more_long)) ∙ new_label ∙ sym (get_or_push (labels_in links) (length links) 0 (length links) (labels_long links)))
        | inr not ↦
            let inside : k < length links = omega (arith, below, labels_long more, more_long, not) in
            label_at more k (omega (arith, inside, more_long)) ∙ old_label k inside ∙ sym (label_at links k inside)
            ∙ sym (get_or_append_left (labels_in links) (length links ∷ []) 0 k (omega (arith, inside, labels_long links)))
      ])

  pub more_flags : flags_in more ≡ flags_in links ++ false ∷ []
  unfolding flag_at
  more_flags = ext_get_or false (flags_in more) (flags_in links ++ false ∷ []) (flags_long more ∙ more_long ∙ sym (length_push (flags_in links) false ∙ ap (λ n. n + 1) (flags_long links)))
      (λ k below. elim (cases_eq k (length links)) [
        | inl at ↦ rw at (flag_is more (length links) (omega (arith, more_long)) ∙ new_flag ∙ sym (get_or_push (flags_in links) false false (length links) (flags_long links)))
        | inr not ↦
            let inside : k < length links = omega (arith, below, flags_long more, more_long, not) in
            flag_is more k (omega (arith, inside, more_long)) ∙ old_flag k inside ∙ sym (flag_is links k inside)
            ∙ sym (get_or_append_left (flags_in links) (false ∷ []) false k (omega (arith, inside, flags_long links)))
      ])
