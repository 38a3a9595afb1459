use Rattle.std.proofs.Common.{◌≡◌, ℕ, Some, None, sym}
use Rattle.std.specs.Prelude.{Option, IfSome}
use Rattle.asset_chains.specs.Chained.{Chained, IsConsistent, chain_of, home_of, first_of}
use Rattle.asset_chains.specs.declared.side.Side.TheVariants.{Column}
use Rattle.asset_chains.proofs.Laws.{chain_at_first, chain_at_last}
use Rattle.asset_records.proofs.BackLemmas.{no_last}
use Rattle.asset_records.proofs.settling.next_to_settle.Goals as goal

pub returns-in_err-newest-clause-none : goal.returns-in_err-newest-clause-none
returns-in_err-newest-clause-none c = rw c.from_residual.ensures (no_last (chain_of c.args.records.now.columns c.args.column) (sym c.in_err-newest.ensures))

pub returns-then-is_none-clause-found : goal.returns-then-is_none-clause-found
returns-then-is_none-clause-found c = (chain_at_last c.in_ok-newest.newest c.args.column c.args.records.now.columns (c.laws.ensures.crossed.sound Column) (sym c.in_ok-newest.ensures)).0

first_home : (table : Chained) (column : ℕ) (o : Option ℕ) → IsConsistent table → o ≡ first_of (chain_of table column) → IfSome o (λ k. home_of table k ≡ Some column)
first_home table column None sound first = tt
first_home table column (Some k) sound first = (chain_at_first k column table sound (sym first)).0

pub returns-clause-found : goal.returns-clause-found
returns-clause-found c = first_home c.args.records.now.columns c.args.column c.first.result (c.laws.ensures.crossed.sound Column) c.first.ensures
