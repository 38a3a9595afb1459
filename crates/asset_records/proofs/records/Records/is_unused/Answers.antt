use Rattle.std.proofs.Common.{ℕ, List, suc, ap, sym, arith, rules}
use Rattle.std.specs.Prelude.{is_none}
use Rattle.asset_chains.specs.Chained.{first_of}
use Rattle.asset_chains.specs.declared.side.Side.TheVariants.{Column}
use Rattle.asset_records.proofs.SettleLemmas.{chain_past}
use Rattle.asset_records.proofs.records.Records.is_unused.Goals as goal

pub returns-in-None : goal.returns-in-None
returns-in-None c =
    rw (← c.self.view_is) (sym (ap (λ (keys : List ℕ). is_none (first_of keys)) (chain_past c.self.inside.records.columns (suc c.args.c) (omega (arith, c.laws.ensures.few Column, c.in-None.ensures)))))

pub returns-in-Some : goal.returns-in-Some
returns-in-Some c = search rules
