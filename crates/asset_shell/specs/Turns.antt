-- What a conversation does to its reader and its writers.
use Rattle.std.specs.Prelude.{◌≡◌, ◌≤◌, ◌⊎◌, ℕ, List, ◌++◌, Option, true}
use Rattle.std.specs.Io.KnownBytes.{Appends, Consumes, IsAtEnd}
use Rattle.asset_scripts.specs.declared.ends.RunEnd.{RunEnd}
use Rattle.asset_scripts.specs.declared.faults.ScriptFault.{ScriptFault}
use Rattle.asset_scripts.specs.declared.faults.ScriptFault.TheVariants.{Read, Write, NoMemory}
use Rattle.asset_scripts.specs.Device.{DeviceState, counted}
use Rattle.asset_check.specs.Checked.{checked}
use Rattle.asset_shell.specs.Shelled.{complete, shell_reasons, shell_text}
use Rattle.asset_shell.specs.Talking.{Talk, after, new_talk}

-- what the reader has left, what the writer of answers has, and what the writer of reasons has, if these are known
pub record Streams : Type 0 where
  pub left : Option (List ℕ)
  pub answers : Option (List ℕ)
  pub reasons : Option (List ℕ)

-- the same, made of its three parts
abbrev pub streams : Option (List ℕ) → Option (List ℕ) → Option (List ℕ) → Streams
streams left answers reasons = record { left = left; answers = answers; reasons = reasons }

-- Nobody waits for an answer: of the bytes that the reader has given since the start each complete line was answered, and its
-- answer was written, with the reason if the line is bad. Nothing else was written.
pub record IsUpToDate (start now : Streams) (capacity : ℕ) (talk : Talk) : Type 0 where
  pub bytes : List ℕ
  pub read : Consumes start.left now.left bytes
  pub reached : talk ≡ after (new_talk capacity) bytes
  pub answers : Appends start.answers now.answers (shell_text (complete bytes) capacity)
  pub reasons : Appends start.reasons now.reasons (shell_reasons (complete bytes))

-- a writer took a prefix of the text since the start, and nothing else
abbrev pub TookPart : Option (List ℕ) → Option (List ℕ) → List ℕ → Type 0
TookPart old new text = (prefix : List ℕ) × (rest : List ℕ) × (text ≡ prefix ++ rest) × Appends old new prefix

-- the writers took a prefix each of what the bytes that the reader has given come to
pub record HasWrittenPart (start now : Streams) (capacity : ℕ) : Type 0 where
  pub bytes : List ℕ
  pub read : Consumes start.left now.left bytes
  pub answers : TookPart start.answers now.answers (shell_text bytes capacity)
  pub reasons : TookPart start.reasons now.reasons (shell_reasons bytes)

-- the writers took all that the bytes that the reader gave up to its end come to, and nothing else
pub record HasWrittenAll (start now : Streams) (capacity : ℕ) (end : RunEnd) : Type 0 where
  pub bytes : List ℕ
  pub read : Consumes start.left now.left bytes
  pub at_end : IsAtEnd now.left
  pub answers : Appends start.answers now.answers (shell_text bytes capacity)
  pub reasons : Appends start.reasons now.reasons (shell_reasons bytes)
  pub ends : end ≡ (checked bytes).end

-- what was written when a conversation stops: each complete line was answered if the reader is at fault, and a prefix of the
-- answers was written otherwise
unfoldable pub StopsWith : Streams → Streams → ℕ → ScriptFault → Type 0
StopsWith start now capacity Read = (talk : Talk) × IsUpToDate start now capacity talk
StopsWith start now capacity Write = HasWrittenPart start now capacity
StopsWith start now capacity NoMemory = HasWrittenPart start now capacity

-- how often the reader of a conversation is asked at most
abbrev pub turn_limit : ℕ
turn_limit = 70368744177664

-- why a conversation stops: its reader failed or was asked as often as is allowed; a writer failed; or there is no memory
unfoldable pub StopsFor : {R W E : Type 0} → DeviceState R → DeviceState R → DeviceState W → DeviceState E → ScriptFault → Type 0
StopsFor input input' output' reasons' Read = (input'.failed ≡ true) ⊎ (counted input.asked turn_limit ≤ input'.asked)
StopsFor input input' output' reasons' Write = (output'.failed ≡ true) ⊎ (reasons'.failed ≡ true)
StopsFor input input' output' reasons' NoMemory = Unit {0}
