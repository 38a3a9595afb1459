-- The labels of nodes, and the nodes by their labels.
use Rattle.std.specs.Prelude.{◌≡◌, ℕ, ◌<◌, ◌==◌, Bool, false, List, length, map, slice_index_or, unwrap_or, Option, Some, None}
use Rattle.std.specs.List.{filter, range_with_len}
use Rattle.asset_buckets.specs.Bucketed.{buckets_of}

-- whether there is a label, and it is this one
abbrev pub is_label : Option ℕ → ℕ → Bool
is_label None label = false
is_label (Some other) label = other == label

-- the nodes with the label, rising
unfoldable pub members_of : List (Option ℕ) → ℕ → List ℕ
members_of labels label = filter (λ k. is_label (slice_index_or labels k None) label) (range_with_len 0 (length labels))

-- the labels, rising: the nodes that are their own labels
unfoldable pub own_labels : List (Option ℕ) → List ℕ
own_labels labels = filter (λ k. is_label (slice_index_or labels k None) k) (range_with_len 0 (length labels))

-- a number for each node: its label, or how many nodes there are if it has none
unfoldable pub label_numbers : List (Option ℕ) → List ℕ
label_numbers labels = map (λ label. unwrap_or label (length labels)) labels

-- what is kept beside the labels: the labels once each, and the nodes in buckets by their labels, which are nodes
pub record IsValid (labels : List (Option ℕ)) (own : List ℕ) (members : List (List ℕ)) : Type 0 where
  pub labels_once : own ≡ own_labels labels
  pub in_buckets : members ≡ buckets_of (label_numbers labels) (length labels)
  pub below : (k label : ℕ) → slice_index_or labels k None ≡ Some label → label < length labels
