use Rattle.std.proofs.Common.{true, sym, ap}
use Rattle.asset_records.specs.Listed.{is_owned, owner_of}
use Rattle.asset_records.proofs.records.Record.is_somebodys.Goals as goal

pub returns-in-Write : goal.returns-in-Write
unfolding is_owned owner_of
returns-in-Write c = sym (ap (is_owned (λ n. true)) c.in-Write.is)

pub returns-in-Add : goal.returns-in-Add
unfolding is_owned owner_of
returns-in-Add c = sym (ap (is_owned (λ n. true)) c.in-Add.is)

pub returns-in-Lasting : goal.returns-in-Lasting
unfolding is_owned owner_of
returns-in-Lasting c = sym (ap (is_owned (λ n. true)) c.in-Lasting.is)
