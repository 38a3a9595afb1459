-- Groups of nodes by labels: the label of each node is the least node of its group.
use Rattle.std.specs.Prelude.{ℕ, cond, ◌==◌, nat_lt, List, map}

-- the labels with one group's label changed
unfoldable pub relabelled : List ℕ → ℕ → ℕ → List ℕ
relabelled labels old new = map (λ label. cond (label == old) new label) labels

-- the labels once two groups are one, which takes the lesser label
unfoldable pub merged : List ℕ → ℕ → ℕ → List ℕ
merged labels a b = cond (nat_lt a b) (relabelled labels b a) (relabelled labels a b)
