use Rattle.std.proofs.Common.{◌≡◌, ℕ, ◌≤◌, ◌⊎◌, true, List, length}
use Rattle.asset_names.specs.Steps.{Entry}
use Rattle.asset_names.specs.Groups.{same_group}
use Rattle.asset_history.specs.Links.{IsIn}
use Rattle.asset_history.specs.Together.{name_at, label_at, AreJoined, HaveGrown}
use Rattle.asset_history.proofs.joining.join_chain.Given as goal

-- each node of the chain is joined, or in what is left of it
abbrev pub invariant-links : goal.invariant-links
invariant-links l = record {
  names : l.groups.names ≡ l.fn.groups.names;
  linked : l.at ≤ length l.links.links;
  rest : (other : ℕ) → IsIn l.links.links l.at other → IsIn l.links.links l.chain other;
  joined : (entries : List Entry) → ((other : ℕ) → IsIn l.links.links l.chain other → same_group entries (name_at l.fn.groups l.node) (name_at l.fn.groups other) ≡ true) → AreJoined entries l.fn.groups l.groups;
  grown : HaveGrown l.fn.groups l.groups;
  done : (other : ℕ) → IsIn l.links.links l.chain other → (label_at l.groups other ≡ label_at l.groups l.node) ⊎ IsIn l.links.links l.at other;
}

abbrev pub decreases-links : goal.decreases-links
decreases-links l = l.at
