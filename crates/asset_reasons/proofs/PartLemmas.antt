-- Parts that are cut off a text.
use Rattle.std.proofs.Common.{◌≡◌, ℕ, ◌+◌, List, [], ◌∷◌, take, drop, None, Some}
use Rattle.std.specs.Prelude.{position, ◌==◌}
use Rattle.asset_grammar.specs.Words.{parts}
use Rattle.asset_grammar.proofs.LineLemmas.{cut_at_position, lacks_without_position, parts_cut, parts_last}

-- a part that is cut off, and the last one
pub parts_at : (byte : ℕ) (text : List ℕ) (i : ℕ) → position (λ b. b == byte) text ≡ Some i → parts byte text ≡ take i text ∷ parts byte (drop (i + 1) text)
parts_at byte text i h = parts_cut byte text _ _ (cut_at_position byte text i h)

pub parts_end : (byte : ℕ) (text : List ℕ) → position (λ b. b == byte) text ≡ None → parts byte text ≡ text ∷ []
parts_end byte text h = parts_last byte text (lacks_without_position byte text h)
