-- What a conversation prints in all.
use Rattle.std.specs.Prelude.{ℕ, ◌==◌, cond, List, [], ◌∷◌}
use Rattle.std.specs.List.{list_any}
use Rattle.asset_grammar.specs.Lines.{lines}
use Rattle.asset_check.specs.Checked.{checked}
use Rattle.asset_shell.specs.Sessions.{new_session, reply_to, said_of_each}

-- The text of the answers to the lines of some bytes, over a history with room for `capacity` entries. A bad line is answered
-- that it is bad, and the conversation goes on.
unfoldable pub shell_text : List ℕ → ℕ → List ℕ
shell_text bytes capacity = said_of_each reply_to (lines bytes) 1 (new_session capacity)

-- the reasons of the bad lines of some bytes: what a check of them prints
unfoldable pub shell_reasons : List ℕ → List ℕ
shell_reasons bytes = (checked bytes).text

-- the complete lines of some bytes: all up to the last line feed
unfoldable pub complete : List ℕ → List ℕ
complete [] = []
complete (b ∷ bytes) = cond (list_any (λ x. x == 10) (b ∷ bytes)) (b ∷ complete bytes) []
