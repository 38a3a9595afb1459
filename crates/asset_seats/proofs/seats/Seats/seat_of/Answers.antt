use Rattle.std.proofs.Common.{◌≡◌, ℕ, ◌+◌, List, Some, subst}
use Rattle.std.specs.Prelude.{IfSome, IfNone}
use Rattle.asset_names.specs.declared.names.Txn.{Txn}
use Rattle.asset_chains.specs.Chained.{home_of}
use Rattle.asset_seats.specs.Bucketed.{name_in}
use Rattle.asset_seats.proofs.SeatLemmas.{found_seats, absent_seats, nobody_sits}
use Rattle.asset_seats.proofs.seats.Seats.seat_of.Goals as goal

pub returns-then-self-eq0-clause-absent : goal.returns-then-self-eq0-clause-absent
returns-then-self-eq0-clause-absent c = λ d. nobody_sits c.self.inside.names.items c.self.inside.chains c.self.inside.buckets c.args.self.now c.self.view_is c.self.invariant c.if-self-eq0.true d c.args.t

pub returns-clause-found : goal.returns-clause-found
returns-clause-found c =
    found_seats c.self.inside.names.items c.self.inside.chains c.self.inside.buckets c.args.self.now c.self.view_is c.self.invariant c.args.t c.bucket_of.result c.bucket_of.ensures.bucket c.find.result
    (subst (λ (l : List Txn). IfSome c.find.result (λ k. (home_of c.self.inside.chains k ≡ Some (1 + c.bucket_of.result)) × (name_in l k ≡ c.args.t))) c.deref.ensures.value c.find.ensures.found)

pub returns-clause-absent : goal.returns-clause-absent
returns-clause-absent c =
    absent_seats c.self.inside.names.items c.self.inside.chains c.self.inside.buckets c.args.self.now c.self.view_is c.self.invariant c.args.t c.bucket_of.result c.bucket_of.ensures.bucket c.find.result
    (subst (λ (l : List Txn). IfNone c.find.result ((k : ℕ) → home_of c.self.inside.chains k ≡ Some (1 + c.bucket_of.result) → name_in l k ≡ c.args.t → ⊥)) c.deref.ensures.value c.find.ensures.absent)
