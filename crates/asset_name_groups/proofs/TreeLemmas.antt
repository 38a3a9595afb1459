-- The way from a node to the root of its tree.
use Rattle.std.proofs.Common.{◌≡◌, ℕ, zero, suc, ◌<◌, Bool, List, length, refl, ap, ◌∙◌, arith}
use Rattle.asset_name_groups.specs.declared.links.Link.{Link}
use Rattle.asset_name_groups.specs.declared.links.Link.TheVariants.{Below, Root}
use Rattle.asset_name_groups.specs.Trees.{link_at, steps_bound, walk_end, after_steps, root_in, IsUpward}

-- more steps than there are lead to the same node
pub enough : (links : List Link) → IsUpward links → (n m k : ℕ) → steps_bound links k < n → steps_bound links k < m → after_steps links n k ≡ after_steps links m k
unfolding after_steps walk_end
enough links up zero m k below within = absurd (omega (arith, below))
enough links up (suc n) zero k below within = absurd (omega (arith, within))
enough links up (suc n) (suc m) k below within = go (link_at links k) refl (enough links up n m) where
  go : (link : Link) → link_at links k ≡ link → ((above : ℕ) → steps_bound links above < n → steps_bound links above < m → after_steps links n above ≡ after_steps links m above)
      → walk_end (after_steps links n) k link ≡ walk_end (after_steps links m) k link
  go (Below rank above) is rest = let nearer = (up k rank above is).1 in rest above (omega (arith, nearer, below)) (omega (arith, nearer, within))
  go (Root rank is_flagged first) is rest = refl

-- the root of a node is that of the one above
pub root_above : (links : List Link) → IsUpward links → (k rank above : ℕ) → link_at links k ≡ Below rank above → root_in links k ≡ root_in links above
unfolding root_in after_steps walk_end
root_above links up k rank above is =
    ap (λ link. walk_end (after_steps links (steps_bound links k)) k link) is ∙ enough links up (steps_bound links k) (suc (steps_bound links above)) above (up k rank above is).1 (omega arith)

-- a root is its own
pub root_own : (links : List Link) (k rank first : ℕ) (is_flagged : Bool) → link_at links k ≡ Root rank is_flagged first → root_in links k ≡ k
unfolding root_in after_steps walk_end
root_own links k rank first is_flagged is = ap (λ link. walk_end (after_steps links (steps_bound links k)) k link) is

-- what is true of roots, and of a node if it is true of the one above, is true of all
pub by_steps : (P : ℕ → Type 0) (links : List Link) → IsUpward links
    → ((k rank first : ℕ) (is_flagged : Bool) → k < length links → link_at links k ≡ Root rank is_flagged first → P k)
    → ((k rank above : ℕ) → k < length links → above < length links → link_at links k ≡ Below rank above → P above → P k)
    → (k : ℕ) → k < length links → P k
by_steps P links up root next k within = go (suc (steps_bound links k)) k (omega arith) within where
  here : (n k : ℕ) → steps_bound links k < suc n → k < length links → ((above : ℕ) → steps_bound links above < n → above < length links → P above) → (link : Link) → link_at links k ≡ link → P k
  here n k below within rest (Below rank above) is = let nearer = up k rank above is in next k rank above within nearer.0 is (rest above (omega (arith, nearer.1, below)) nearer.0)
  here n k below within rest (Root rank is_flagged first) is = root k rank first is_flagged within is

  go : (n k : ℕ) → steps_bound links k < n → k < length links → P k
  go zero k below within = absurd (omega (arith, below))
  go (suc n) k below within = here n k below within (go n) (link_at links k) refl
