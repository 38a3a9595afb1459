-- Why the reader is given up: it failed, it gave too much, or it was asked as often as is allowed.
use Rattle.std.proofs.Common.{◌≡◌, ◌++◌, vec_len, length, take, length-append, arith}
use Rattle.std.proofs.lemmas.List.{length-take-le}
use Rattle.std.proofs.KnownBytes.{Consumes-trans}
use Rattle.asset_scripts.specs.Device.{counted}
use Rattle.asset_scripts.proofs.TransferLemmas.{fault_of_failure, fault_of_requests, fault_of_excess}
use Rattle.asset_scripts.proofs.reading.read_into.Goals as goal

pub returns-in_default-clause-fault : goal.returns-in_default-clause-fault
returns-in_default-clause-fault g c _ = fault_of_failure _ _ _ (rw c.requests.invariant.failed at c.in_default.ensures.failed)

pub returns-then-len-count-gt-MOST_BYTES-clause-fault : goal.returns-then-len-count-gt-MOST_BYTES-clause-fault
unfolding counted
returns-then-len-count-gt-MOST_BYTES-clause-fault g c _ =
    let piece = take c.in-Some.count c.read.new.buf in
    let got : length piece ≡ c.in-Some.count = length-take-le _ _ c.in-Some.ensures.bound in
    let moved = c.requests.invariant.moved c.in-Some.ensures.unmoved in
    let before : vec_len c.requests.bytes ≡ length c.requests.bytes.items = c.requests.bytes.ok.0 in
    fault_of_excess _ _ _ (c.requests.bytes.items ++ piece) (Consumes-trans _ _ _ _ _ c.requests.invariant.gave c.in-Some.ensures.gave)
    (omega (arith, length-append c.requests.bytes.items piece, got, before)) (omega (arith, c.in-Some.ensures.moved, moved, c.in-Some.ensures.bound))

pub returns-clause-fault : goal.returns-clause-fault
returns-clause-fault g c _ = fault_of_requests _ _ _ (omega arith)

pub requests-preserved : goal.requests-preserved
unfolding counted
requests-preserved g c =
    let read = c.in-Some.ensures in
    let moved = c.requests.invariant.moved read.unmoved in
    let added = c.in_ok-extend_from_slice.ensures in
    let got : length (take c.in-Some.count c.read.new.buf) ≡ c.in-Some.count = length-take-le _ _ read.bound in
    record {
      gave = rw added.items (Consumes-trans _ _ _ _ _ c.requests.invariant.gave read.gave);
      failed = rw c.requests.invariant.failed at read.failed;
      asked = omega (arith, read.asked);
      moved = λ _. omega (arith, read.moved, moved, added.len, got);
      limit = omega (arith, added.len, got);
      room = omega arith;
    }

pub returns-then-count-eq0-clause-counted : goal.returns-then-count-eq0-clause-counted
unfolding counted
returns-then-count-eq0-clause-counted g c = omega (arith, c.in-Some.ensures.moved, c.requests.invariant.moved c.in-Some.ensures.unmoved)
