-- The calls of a manager's client.
use Rattle.std.specs.Prelude.{List, map, reverse}
use Rattle.atomic_table.specs.Seated.{TableId}
use Rattle.asset_names.specs.Steps.{Entry}
use Rattle.asset_audit.specs.Audited.{Call}
use Rattle.asset_manager.specs.Asker.{Asker}

-- what contracts see of a client: the word of its manager, and its session
pub record ClientSession : Type 0 where
  pub manager : TableId
  pub session : Asker

-- the entry of a call of a session: its step and its reply, without the number
abbrev pub entry_of : Call → Entry
entry_of call = (call.1, call.2)

-- the recorded calls of a client's session, without their numbers, newest first
unfoldable pub calls_by : ClientSession → List Entry
calls_by client = reverse (map entry_of client.session.list.calls)
