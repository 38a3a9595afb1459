use Rattle.std.proofs.Common.{◌≡◌, ◌++◌, string_bytes, take}
use Rattle.asset_names.specs.Steps.{applied}
use Rattle.asset_waits.specs.Texts.{waiters_text}
use Rattle.asset_waits.proofs.waiters.push_waiters.Given as goal

-- the lines of those so far are appended, and the facility is the same
abbrev pub invariant-names : goal.invariant-names
invariant-names l = record {
  same : l.core ≡ l.fn.core;
  text : string_bytes l.text ≡ string_bytes l.fn.text ++ waiters_text (applied l.fn.core.history.entries) l.fn.core.pending (take l.n-index l.names);
}
