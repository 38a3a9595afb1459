-- What was read so far is what the reader gave, and the device has counted it, since it had moved nothing
-- before it was asked.
use Rattle.std.proofs.Common.{◌≡◌, ◌≤◌, false, length, vec_len}
use Rattle.std.specs.Io.KnownBytes.{Consumes}
use Rattle.asset_scripts.specs.Transfers.{input_limit}
use Rattle.asset_scripts.proofs.reading.read_into.Given as goal

abbrev pub invariant-requests : goal.invariant-requests
invariant-requests g l = record {
  gave : Consumes (g.R.Read.remaining l.fn.input.inner) (g.R.Read.remaining l.input.inner) l.bytes.items;
  failed : l.input.failed ≡ false;
  asked : l.input.asked ≡ l.counter;
  moved : (l.input.asked ≡ 0 → l.input.moved ≡ 0) → l.input.moved ≡ vec_len l.bytes;
  limit : vec_len l.bytes ≤ input_limit;
  room : length l.piece ≡ 65536;
}
