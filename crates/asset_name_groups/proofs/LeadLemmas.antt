-- How the groups change as the root of one is led to that of another.
use Rattle.std.proofs.Common.{◌≡◌, ◌≢◌, ℕ, ◌+◌, ◌-◌, ◌*◌, ◌<◌, ◌≤◌, ◌^◌, ◌||◌, ◌⊎◌, min, cond, eqb, ltb, Bool, true, false, List, length, get_or, set, map, sym, ap, ◌∙◌, arith, inl, inr}
use Rattle.std.specs.List.{range_with_len}
use Rattle.std.proofs.lemmas.Bool.{or_left, or_right, or_cases, and_parts, ltb-true, cases_eq, cases_lt, eq-eqb, ne_eqb, eqb-true, cond-true, cond-false}
use Rattle.std.proofs.lemmas.List.{ext_get_or, length-map, length-set, get_or-map, get_or-set_same, get_or-set_other}
use Rattle.std.proofs.lemmas.List.FromFn.{length-map-range_with_len, get_or-map-range_with_len}
use Rattle.asset_name_groups.specs.declared.links.Link.{Link}
use Rattle.asset_name_groups.specs.declared.links.Link.TheVariants.{Below, Root}
use Rattle.asset_name_groups.specs.declared.trees.Tree.{Tree}
use Rattle.asset_name_groups.specs.Labelled.{merged}
use Rattle.asset_name_groups.specs.NamesInGroups.{flag_at, merged_flags}
use Rattle.asset_name_groups.specs.Trees.{link_at, rank_of, steps_bound, root_in, label_in, flag_in, labels_in, flags_in, label_by, flag_by, IsUpward, IsForest}
use Rattle.asset_name_groups.specs.Roots.{root_link, joined_tree, raised, stays_above, IsTree}
use Rattle.asset_name_groups.proofs.TreeLemmas.{root_own, root_above, by_steps}
use Rattle.asset_name_groups.proofs.LabelLemmas.{merged_is, not_both, same_above, labels_long, flags_long, label_at, flag_is, root_is_own, label_is_its, flag_is_its, first_within, first_root, root_by_label}

-- The root of the lower group is led to that of the upper one, which has what is to be said of both.
pub record IsLed (links later : List Link) (lower upper : Tree) : Type 0 where
  pub forest : IsForest links
  pub lower_is : IsTree links lower
  pub upper_is : IsTree links upper
  pub apart : lower.root ≢ upper.root
  pub size : length later ≡ length links
  pub led : link_at later lower.root ≡ Below lower.rank upper.root
  pub leads : link_at later upper.root ≡ root_link (joined_tree lower upper)
  pub others : (k : ℕ) → k ≢ lower.root → k ≢ upper.root → link_at later k ≡ link_at links k
  pub nearer : steps_bound later upper.root < steps_bound later lower.root
  pub falls : steps_bound later upper.root ≤ steps_bound links upper.root
  pub stays : steps_bound later lower.root ≡ steps_bound links lower.root

-- ---- one of two
one_of : {A : Type 0} (label a b : ℕ) (x y : A) → (label ≡ a) ⊎ (label ≡ b) → cond (eqb label a || eqb label b) x y ≡ x
one_of label a b x y which = cond-true (eqb label a || eqb label b) x y (elim which [
  | inl at ↦ or_left _ _ (eq-eqb label a at)
  | inr at ↦ or_right (eqb label a) _ (eq-eqb label b at)
])

none_of : {A : Type 0} (label a b : ℕ) (x y : A) → label ≢ a → label ≢ b → cond (eqb label a || eqb label b) x y ≡ y
none_of label a b x y not too = cond-false (eqb label a || eqb label b) x y (λ i. ne_eqb label a not i || ne_eqb label b too i)

module _ (links later : List Link) (lower upper : Tree) (is : IsLed links later lower upper) where
  other_steps : (k : ℕ) → k ≢ lower.root → k ≢ upper.root → steps_bound later k ≡ steps_bound links k
  unfolding steps_bound
  other_steps k a b = ap (λ link. (255 - rank_of link) * 0x1_0000_0000 + k) (is.others k a b)

  steps_fall : (k : ℕ) → steps_bound later k ≤ steps_bound links k
  steps_fall k = elim (cases_eq k lower.root) [
    | inl at ↦ rw at (omega (arith, is.stays))
    | inr not ↦ elim (cases_eq k upper.root) [
      | inl at ↦ rw at is.falls
      | inr too ↦ omega (arith, other_steps k not too)
    ]
  ]

  -- the upper root is no link below
  upper_is_root : (rank above : ℕ) → link_at later upper.root ≡ Below rank above → ⊥
  unfolding root_link joined_tree
  upper_is_root rank above below = not_both (link_at later upper.root) rank above (joined_tree lower upper).rank (joined_tree lower upper).label (joined_tree lower upper).is_flagged below is.leads

  pub led_upward : IsUpward later
  led_upward k rank above below = elim (cases_eq k lower.root) [
    | inl at ↦
        let there : above ≡ upper.root = sym (same_above lower.rank upper.root rank above (sym is.led ∙ sym (ap (link_at later) at) ∙ below)) in
        rw (there, at) (omega (arith, is.size, is.upper_is.within), is.nearer)
    | inr not ↦ elim (cases_eq k upper.root) [
      | inl at ↦ absurd (upper_is_root rank above (sym (ap (link_at later) at) ∙ below))
      | inr too ↦
          let was = is.forest.upward k rank above (sym (is.others k not too) ∙ below) in
          (omega (arith, was.0, is.size), omega (arith, was.1, steps_fall above, other_steps k not too))
    ]
  ]

  -- ---- the roots: the upper root in the place of the lower one
  pub led_root : ℕ → ℕ
  led_root root = cond (eqb root lower.root) upper.root root

  moved : (root : ℕ) → root ≡ lower.root → led_root root ≡ upper.root
  unfolding led_root
  moved root at = cond-true (eqb root lower.root) upper.root root (eq-eqb root lower.root at)

  stayed : (root : ℕ) → root ≢ lower.root → led_root root ≡ root
  unfolding led_root
  stayed root not = cond-false (eqb root lower.root) upper.root root (ne_eqb root lower.root not)

  upper_own : root_in later upper.root ≡ upper.root
  unfolding root_link joined_tree
  upper_own = root_own later upper.root (joined_tree lower upper).rank (joined_tree lower upper).label (joined_tree lower upper).is_flagged is.leads

  upper_stays : led_root upper.root ≡ upper.root
  upper_stays = stayed upper.root (λ same. is.apart (sym same))

  pub led_roots : (k : ℕ) → k < length later → root_in later k ≡ led_root (root_in links k)
  led_roots k within = by_steps (λ k. root_in later k ≡ led_root (root_in links k)) later led_upward at_root at_below k within where
    at_root : (k rank first : ℕ) (m : Bool) → k < length later → link_at later k ≡ Root rank m first → root_in later k ≡ led_root (root_in links k)
    at_root k rank first m within root = elim (cases_eq k lower.root) [
      | inl at ↦ absurd (not_both (link_at later k) lower.rank upper.root rank first m (ap (link_at later) at ∙ is.led) root)
      | inr not ↦ elim (cases_eq k upper.root) [
        | inl at ↦ rw at (upper_own ∙ sym upper_stays ∙ ap led_root (sym (root_is_own links upper is.upper_is)))
        | inr too ↦
            let was : root_in links k ≡ k = root_own links k rank first m (sym (is.others k not too) ∙ root) in
            root_own later k rank first m root ∙ sym (stayed k not) ∙ ap led_root (sym was)
      ]
    ]

    at_below : (k rank above : ℕ) → k < length later → above < length later → link_at later k ≡ Below rank above → root_in later above ≡ led_root (root_in links above) → root_in later k ≡ led_root (root_in links k)
    at_below k rank above within there below rest = elim (cases_eq k lower.root) [
      | inl at ↦
          root_above later led_upward k lower.rank upper.root (ap (link_at later) at ∙ is.led) ∙ upper_own
          ∙ sym (moved (root_in links k) (ap (root_in links) at ∙ root_is_own links lower is.lower_is))
      | inr not ↦ elim (cases_eq k upper.root) [
        | inl at ↦ absurd (upper_is_root rank above (sym (ap (link_at later) at) ∙ below))
        | inr too ↦
            root_above later led_upward k rank above below ∙ rest
            ∙ ap led_root (sym (root_above links is.forest.upward k rank above (sym (is.others k not too) ∙ below)))
      ]
    ]

  -- ---- the labels and flags of one node
  -- a node of either group has the upper root
  root_of_both : (k : ℕ) → k < length later → (root_in links k ≡ lower.root) ⊎ (root_in links k ≡ upper.root) → root_in later k ≡ upper.root
  root_of_both k within which = led_roots k within ∙ elim which [
    | inl at ↦ moved (root_in links k) at
    | inr at ↦ ap led_root at ∙ upper_stays
  ]

  label_of_both : (k : ℕ) → k < length later → (root_in links k ≡ lower.root) ⊎ (root_in links k ≡ upper.root) → label_in later k ≡ min lower.label upper.label
  unfolding label_in root_link joined_tree label_by
  label_of_both k within which = ap (λ n. label_by (link_at later n)) (root_of_both k within which) ∙ ap label_by is.leads

  flag_of_both : (k : ℕ) → k < length later → (root_in links k ≡ lower.root) ⊎ (root_in links k ≡ upper.root) → flag_in later k ≡ (lower.is_flagged || upper.is_flagged)
  unfolding flag_in root_link joined_tree flag_by
  flag_of_both k within which = ap (λ n. flag_by (link_at later n)) (root_of_both k within which) ∙ ap flag_by is.leads

  -- the link of the root of any other group stays
  other_link : (k : ℕ) → k < length later → root_in links k ≢ lower.root → root_in links k ≢ upper.root → link_at later (root_in later k) ≡ link_at links (root_in links k)
  other_link k within not too = ap (link_at later) (led_roots k within ∙ stayed (root_in links k) not) ∙ is.others (root_in links k) not too

  label_of_other : (k : ℕ) → k < length later → root_in links k ≢ lower.root → root_in links k ≢ upper.root → label_in later k ≡ label_in links k
  unfolding label_in
  label_of_other k within not too = ap label_by (other_link k within not too)

  flag_of_other : (k : ℕ) → k < length later → root_in links k ≢ lower.root → root_in links k ≢ upper.root → flag_in later k ≡ flag_in links k
  unfolding flag_in
  flag_of_other k within not too = ap flag_by (other_link k within not too)

  -- ---- the forest
  first_of_both : root_in later (min lower.label upper.label) ≡ upper.root
  first_of_both = elim (cases_lt lower.label upper.label) [
    | inl less ↦
        let at : min lower.label upper.label ≡ lower.label = omega (arith, less) in
        ap (root_in later) at ∙ root_of_both lower.label (omega (arith, is.size, first_within links is.forest lower is.lower_is)) (inl (first_root links is.forest lower is.lower_is))
    | inr more ↦
        let at : min lower.label upper.label ≡ upper.label = omega (arith, more) in
        ap (root_in later) at ∙ root_of_both upper.label (omega (arith, is.size, first_within links is.forest upper is.upper_is)) (inr (first_root links is.forest upper is.upper_is))
  ]

  led_own : (k rank first : ℕ) (m : Bool) → k < length later → link_at later k ≡ Root rank m first → root_in later first ≡ k
  unfolding root_link joined_tree label_by
  led_own k rank first m within root = elim (cases_eq k lower.root) [
    | inl at ↦ absurd (not_both (link_at later k) lower.rank upper.root rank first m (ap (link_at later) at ∙ is.led) root)
    | inr not ↦ elim (cases_eq k upper.root) [
      | inl at ↦
          let same : first ≡ min lower.label upper.label = ap label_by (sym root ∙ ap (link_at later) at ∙ is.leads) in
          ap (root_in later) same ∙ first_of_both ∙ sym at
      | inr too ↦
          let inside : k < length links = omega (arith, within, is.size) in
          let here : IsTree links (record { root = k; rank = rank; is_flagged = m; label = first }) = record { within = inside; link = sym (is.others k not too) ∙ root } in
          let was : root_in links first ≡ k = first_root links is.forest (record { root = k; rank = rank; is_flagged = m; label = first }) here in
          led_roots first (omega (arith, is.size, first_within links is.forest (record { root = k; rank = rank; is_flagged = m; label = first }) here)) ∙ ap led_root was ∙ stayed k not
    ]
  ]

  led_least : (k : ℕ) → k < length later → label_in later k ≤ k
  led_least k within =
      let inside : k < length links = omega (arith, within, is.size) in
      let low = is.forest.least k inside in
      elim (cases_eq (root_in links k) lower.root) [
        | inl at ↦ omega (arith, label_of_both k within (inl at), low, label_is_its links lower k is.lower_is at)
        | inr not ↦ elim (cases_eq (root_in links k) upper.root) [
          | inl at ↦ omega (arith, label_of_both k within (inr at), low, label_is_its links upper k is.upper_is at)
          | inr too ↦ omega (arith, label_of_other k within not too, low)
        ]
      ]

  pub led_forest : IsForest later
  led_forest = record { upward = led_upward; own = led_own; least = led_least }

  -- ---- all labels and flags
  -- what a node of either group has, and any other node
  by_group : {A : Type 0} (k : ℕ) (x joint own : A) → k < length links → ((root_in links k ≡ lower.root) ⊎ (root_in links k ≡ upper.root) → x ≡ joint) → (root_in links k ≢ lower.root → root_in links k ≢ upper.root → x ≡ own)
      → x ≡ cond (eqb (label_in links k) lower.label || eqb (label_in links k) upper.label) joint own
  by_group k x joint own within either neither = elim (cases_eq (root_in links k) lower.root) [
    | inl at ↦ either (inl at) ∙ sym (one_of (label_in links k) lower.label upper.label joint own (inl (label_is_its links lower k is.lower_is at)))
    | inr not ↦ elim (cases_eq (root_in links k) upper.root) [
      | inl at ↦ either (inr at) ∙ sym (one_of (label_in links k) lower.label upper.label joint own (inr (label_is_its links upper k is.upper_is at)))
      | inr too ↦
          neither not too
          ∙ sym (none_of (label_in links k) lower.label upper.label joint own (λ label. not (root_by_label links is.forest lower is.lower_is k within label)) (λ label. too (root_by_label links is.forest upper is.upper_is k within label)))
    ]
  ]

  label_merged : (k : ℕ) → k < length links → label_in later k ≡ cond (eqb (label_in links k) lower.label || eqb (label_in links k) upper.label) (min lower.label upper.label) (label_in links k)
  label_merged k within = let inside : k < length later = omega (arith, within, is.size) in by_group k _ _ _ within (label_of_both k inside) (label_of_other k inside)

  pub led_labels : labels_in later ≡ merged (labels_in links) lower.label upper.label
  led_labels =
      let f : ℕ → ℕ = λ label. cond (eqb label lower.label || eqb label upper.label) (min lower.label upper.label) label in
      ext_get_or 0 (labels_in later) (map f (labels_in links)) (labels_long later ∙ is.size ∙ sym (labels_long links) ∙ sym (length-map (labels_in links) f))
      (λ k below.
      let within : k < length links = omega (arith, below, labels_long later, is.size) in
      label_at later k (omega (arith, below, labels_long later)) ∙ label_merged k within ∙ ap f (sym (label_at links k within))
      ∙ sym (get_or-map f (labels_in links) k 0 0 (omega (arith, within, labels_long links))))
      ∙ merged_is (labels_in links) lower.label upper.label

  flag_merged : (k : ℕ) → k < length links → flag_in later k ≡ cond (eqb (label_in links k) lower.label || eqb (label_in links k) upper.label) (lower.is_flagged || upper.is_flagged) (flag_in links k)
  flag_merged k within = let inside : k < length later = omega (arith, within, is.size) in by_group k _ _ _ within (flag_of_both k inside) (flag_of_other k inside)

  -- the flag at the label of a group is that of the group
  flag_at_label : (group : Tree) → IsTree links group → flag_at (flags_in links) group.label ≡ group.is_flagged
  flag_at_label group there = flag_is links group.label (first_within links is.forest group there) ∙ flag_is_its links group group.label there (first_root links is.forest group there)

  pub led_flags : flags_in later ≡ merged_flags (labels_in links) (flags_in links) lower.label upper.label
  unfolding merged_flags flag_at
  led_flags =
      let f : ℕ → Bool = λ k.
      cond (eqb (get_or (labels_in links) k 0) lower.label || eqb (get_or (labels_in links) k 0) upper.label) (flag_at (flags_in links) lower.label || flag_at (flags_in links) upper.label) (flag_at (flags_in links) k) in
      ext_get_or false (flags_in later) (map f (range_with_len 0 (length (labels_in links))))
      (flags_long later ∙ is.size ∙ sym (labels_long links) ∙ sym (length-map-range_with_len f 0 (length (labels_in links))))
      (λ k below.
      let within : k < length links = omega (arith, below, flags_long later, is.size) in
      flag_is later k (omega (arith, below, flags_long later)) ∙ flag_merged k within
      ∙ (λ i. cond (eqb (sym (label_at links k within) i) lower.label || eqb (sym (label_at links k within) i) upper.label)
      (sym (flag_at_label lower is.lower_is) i || sym (flag_at_label upper is.upper_is) i) (sym (flag_is links k within) i))
      ∙ sym (get_or-map-range_with_len f 0 (length (labels_in links)) k k false (omega (arith, within, labels_long links)) (omega arith)))

-- ---- the links as they are written
above_cases : (lower upper : Tree) → stays_above upper lower ≡ true → (lower.rank < upper.rank) ⊎ ((lower.rank ≡ upper.rank) × (upper.root < lower.root))
unfolding stays_above
above_cases lower upper above = elim (or_cases (ltb lower.rank upper.rank) _ above) [
  | inl greater ↦ inl (ltb-true lower.rank upper.rank greater)
  | inr rest ↦ let parts = and_parts (eqb lower.rank upper.rank) _ rest in inr (eqb-true lower.rank upper.rank parts.0, ltb-true upper.root lower.root parts.1)
]

-- one root has one rank
same_rank : (links : List Link) (one other : Tree) → IsTree links one → IsTree links other → one.root ≡ other.root → one.rank ≡ other.rank
unfolding root_link rank_of
same_rank links one other is too same = ap rank_of (sym is.link ∙ ap (link_at links) same ∙ too.link)

above_apart : (links : List Link) (lower upper : Tree) → IsTree links lower → IsTree links upper → stays_above upper lower ≡ true → lower.root ≢ upper.root
above_apart links lower upper is too above same = elim (above_cases lower upper above) [
  | inl greater ↦ omega (arith, greater, same_rank links lower upper is too same)
  | inr earlier ↦ omega (arith, earlier.1, same)
]

raised_up : (lower upper : ℕ) → 255 - raised lower upper ≤ 255 - upper
unfolding raised
raised_up lower upper = go (eqb lower upper) where
  go : (same : Bool) → 255 - cond same (min (upper + 1) 255) upper ≤ 255 - upper
  go true = omega arith
  go false = omega arith

raised_other : (lower upper : ℕ) → lower < upper → raised lower upper ≡ upper
unfolding raised
raised_other lower upper less = cond-false (eqb lower upper) (min (upper + 1) 255) upper (ne_eqb lower upper (λ same. omega (arith, less, same)))

unfoldable pub written : List Link → Tree → Tree → List Link
written links lower upper = set (set links lower.root (Below lower.rank upper.root)) upper.root (root_link (joined_tree lower upper))

pub led_as_written : (links : List Link) (lower upper : Tree) → IsForest links → IsTree links lower → IsTree links upper → stays_above upper lower ≡ true → length links ≤ 2 ^ 32 → raised lower.rank upper.rank < 2 ^ 8
    → IsLed links (written links lower upper) lower upper
unfolding written steps_bound root_link joined_tree rank_of
led_as_written links lower upper forest lower_is upper_is above small byte =
    let apart = above_apart links lower upper lower_is upper_is above in
    let one = set links lower.root (Below lower.rank upper.root) in
    let later = set one upper.root (root_link (joined_tree lower upper)) in
    let inside : upper.root < length one = omega (arith, length-set links lower.root (Below lower.rank upper.root), upper_is.within) in
    let led : link_at later lower.root ≡ Below lower.rank upper.root =
    get_or-set_other one upper.root lower.root (root_link (joined_tree lower upper)) (Root 0 false 0) apart ∙ get_or-set_same links lower.root (Below lower.rank upper.root) (Root 0 false 0) lower_is.within in
    let leads : link_at later upper.root ≡ root_link (joined_tree lower upper) = get_or-set_same one upper.root (root_link (joined_tree lower upper)) (Root 0 false 0) inside in
    let up = raised_up lower.rank upper.rank in
    let led_rank : rank_of (link_at later lower.root) ≡ lower.rank = ap rank_of led in
    let leads_rank : rank_of (link_at later upper.root) ≡ raised lower.rank upper.rank = ap rank_of leads in
    let lower_rank : rank_of (link_at links lower.root) ≡ lower.rank = ap rank_of lower_is.link in
    let upper_rank : rank_of (link_at links upper.root) ≡ upper.rank = ap rank_of upper_is.link in
    record {
      forest = forest;
      lower_is = lower_is;
      upper_is = upper_is;
      apart = apart;
      size = length-set one upper.root (root_link (joined_tree lower upper)) ∙ length-set links lower.root (Below lower.rank upper.root);
      led = led;
      leads = leads;
      others = λ k not too. get_or-set_other one upper.root k (root_link (joined_tree lower upper)) (Root 0 false 0) too ∙ get_or-set_other links lower.root k (Below lower.rank upper.root) (Root 0 false 0) not;
      nearer = elim (above_cases lower upper above) [
        | inl greater ↦ omega (arith, greater, led_rank, leads_rank, raised_other lower.rank upper.rank greater, small, upper_is.within, byte)
        | inr earlier ↦ omega (arith, earlier.0, earlier.1, led_rank, leads_rank, up)
      ];
      falls = omega (arith, leads_rank, upper_rank, up);
      stays = ap (λ rank. (255 - rank) * 0x1_0000_0000 + lower.root) (led_rank ∙ sym lower_rank);
    }
