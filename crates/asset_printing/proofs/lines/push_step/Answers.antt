use Rattle.std.proofs.Common.{◌≡◌, w64, to_z, of_z, arith}
use Rattle.std.proofs.lemmas.Int.{to_z-of_z}
use Rattle.asset_names.specs.Steps.{value_asked}
use Rattle.asset_names.proofs.Common.{always_ok}
use Rattle.asset_printing.proofs.StepLemmas.{abort_reads, add_reads, begin_reads, commit_reads, complete_reads, depend_reads, read_reads, wait_reads, write_reads}
use Rattle.asset_printing.proofs.lines.push_step.Goals as goal

pub returns-in-Begin-clause-reads : goal.returns-in-Begin-clause-reads
returns-in-Begin-clause-reads c = rw c.in-Begin.is (always_ok c.push_one.result (begin_reads c.in-Begin.t c.push_one.ensures.small))

pub returns-in-Complete-clause-reads : goal.returns-in-Complete-clause-reads
returns-in-Complete-clause-reads c = rw c.in-Complete.is (always_ok c.push_one-in-Complete.result (complete_reads c.in-Complete.t c.push_one-in-Complete.ensures.small))

pub returns-in-Commit-clause-reads : goal.returns-in-Commit-clause-reads
returns-in-Commit-clause-reads c = rw c.in-Commit.is (always_ok c.push_one-in-Commit.result (commit_reads c.in-Commit.t c.push_one-in-Commit.ensures.small))

pub returns-in-Abort-clause-reads : goal.returns-in-Abort-clause-reads
returns-in-Abort-clause-reads c = rw c.in-Abort.is (always_ok c.push_one-in-Abort.result (abort_reads c.in-Abort.t c.push_one-in-Abort.ensures.small))

pub returns-in-WaitFor-clause-reads : goal.returns-in-WaitFor-clause-reads
returns-in-WaitFor-clause-reads c = rw c.in-WaitFor.is (always_ok c.push_one-in-WaitFor.result (wait_reads c.in-WaitFor.t c.push_one-in-WaitFor.ensures.small))

pub returns-in-Read-clause-reads : goal.returns-in-Read-clause-reads
returns-in-Read-clause-reads c =
    let pushed = c.push_two.ensures in
    rw c.in-Read.is (always_ok c.push_two.result (read_reads c.in-Read.t c.in-Read.x pushed.first pushed.second))

pub returns-in-Depend-clause-reads : goal.returns-in-Depend-clause-reads
returns-in-Depend-clause-reads c =
    let pushed = c.push_two-in-Depend.ensures in
    rw c.in-Depend.is (always_ok c.push_two-in-Depend.result (depend_reads c.in-Depend.kind c.in-Depend.a c.in-Depend.b pushed.first pushed.second))

pub returns-in_ok-push_two-in-Write-clause-reads : goal.returns-in_ok-push_two-in-Write-clause-reads
unfolding value_asked
returns-in_ok-push_two-in-Write-clause-reads c =
    let pushed = c.push_two-in-Write.ensures in
    let back : to_z w64 (of_z w64 c.value_asked.result) ≡ c.value_asked.result = grind (arith, to_z-of_z) in
    let asked : c.value_asked.result ≡ c.in-Write.v = rw c.in-Write.is at c.value_asked.ensures in
    let fits = rw (back, asked) at c.push_next_value.ensures.small in
    rw c.in-Write.is (always_ok c.push_next_value.result (write_reads c.in-Write.t c.in-Write.x c.in-Write.v pushed.first pushed.second fits))

pub returns-in_ok-push_two-in-Add-clause-reads : goal.returns-in_ok-push_two-in-Add-clause-reads
unfolding value_asked
returns-in_ok-push_two-in-Add-clause-reads c =
    let pushed = c.push_two-in-Add.ensures in
    let back : to_z w64 (of_z w64 c.value_asked-in-Add.result) ≡ c.value_asked-in-Add.result = grind (arith, to_z-of_z) in
    let asked : c.value_asked-in-Add.result ≡ c.in-Add.d = rw c.in-Add.is at c.value_asked-in-Add.ensures in
    let fits = rw (back, asked) at c.push_next_value-in-Add.ensures.small in
    rw c.in-Add.is (always_ok c.push_next_value-in-Add.result (add_reads c.in-Add.t c.in-Add.x c.in-Add.d pushed.first pushed.second fits))
