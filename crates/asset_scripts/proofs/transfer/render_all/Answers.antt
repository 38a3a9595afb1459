use Rattle.std.proofs.Common.{Err, arith, ap, rules}
use Rattle.std.proofs.lemmas.Result.{err_from_is_err_and}
use Rattle.asset_scripts.proofs.RunLemmas.{stops_reading, stops_rendering, stops_writing}
use Rattle.asset_scripts.proofs.transfer.render_all.Goals as goal

pub returns-in_err-bytes-clause-stopped : goal.returns-in_err-bytes-clause-stopped
returns-in_err-bytes-clause-stopped g c =
    let p = err_from_is_err_and c.from_residual.result c.from_residual.ensures.1 in
    let read = c.in_err-bytes.ensures in
    rw (p.1, p.2) (stops_reading _ _ _ _ _ _ c.in_err-bytes.field-0.0 (λ e. read.fault (ap Err e)) (λ e. read.reads_only (ap Err e)))

pub returns-in_err-end-clause-stopped : goal.returns-in_err-end-clause-stopped
returns-in_err-end-clause-stopped g c =
    let p = err_from_is_err_and c.from_residual-in_err-end.result c.from_residual-in_err-end.ensures.1 in
    rw (p.1, p.2, c.in_err-end.ensures.memory) (stops_rendering _ _ _ _ _ _)

pub returns-in_err-write_all-clause-stopped : goal.returns-in_err-write_all-clause-stopped
returns-in_err-write_all-clause-stopped g c =
    let p = err_from_is_err_and c.from_residual-in_err-write_all.result c.from_residual-in_err-write_all.ensures.1 in
    let read = c.in_ok-bytes.ensures in
    let wrote = c.in_err-write_all.ensures in
    let prefix = rw (c.as_bytes.ensures.value, c.in_ok-end.ensures.rendered.text, c.new-text.ensures.bytes, c.deref.ensures.value) at wrote.prefix in
    rw (p.1, p.2, wrote.writes_only) (stops_writing _ _ _ _ _ _ _ c.in_ok-bytes.bytes.items (record { gave = read.gave; end = read.end; limit = omega (arith, read.limit); sound = read.sound; counted = omega (arith, read.counted) }) prefix wrote.failed)

pub returns-clause-wrote : goal.returns-clause-wrote
returns-clause-wrote g c =
    let read = c.in_ok-bytes.ensures in
    let end = c.in_ok-end.ensures.rendered in
    let wrote = c.in_ok-write_all.ensures in
    record {
      bytes = c.in_ok-bytes.bytes.items;
      all = record { gave = read.gave; end = read.end; limit = omega (arith, read.limit); sound = read.sound; counted = omega (arith, read.counted) };
      wrote = rw (c.as_bytes.ensures.value, end.text, c.new-text.ensures.bytes, c.deref.ensures.value) at wrote.took;
      ends = rw c.deref.ensures.value at end.ends;
      sound = search (rules, wrote.sound);
    }
