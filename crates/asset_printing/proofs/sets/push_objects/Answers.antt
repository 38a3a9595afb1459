use Rattle.asset_printing.proofs.SetLemmas.{set_reads_listed, set_lacks_listed}
use Rattle.asset_printing.proofs.sets.push_objects.Goals as goal
use Rattle.asset_names.proofs.Common.{on_ok}

pub returns-clause-reads : goal.returns-clause-reads
returns-clause-reads c =
    let listed = c.objects.ensures.listed in
    on_ok c.push_list.result (λ small. set_reads_listed c.args.list.now c.objects.ensures.some c.objects.ensures.few c.objects.ensures.rising (rw listed at small)) c.push_list.ensures.small

pub returns-clause-word : goal.returns-clause-word
returns-clause-word c =
    let listed = c.objects.ensures.listed in
    on_ok c.push_list.result (λ small. set_lacks_listed c.args.list.now (rw listed at small)) c.push_list.ensures.small
