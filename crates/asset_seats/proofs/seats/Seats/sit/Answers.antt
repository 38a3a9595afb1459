use Rattle.std.proofs.Common.{◌≡◌, ℕ, ◌+◌, ◌<◌, length, suc, Option, Some, sym, ap, ◌∙◌, arith}
use Rattle.std.proofs.lemmas.List.{length-set}
use Rattle.asset_chains.specs.Chained.{home_of}
use Rattle.asset_chains.proofs.Laws.{key_within}
use Rattle.asset_seats.specs.Bucketed.{taken, name_in, bucket_in}
use Rattle.asset_seats.proofs.SeatLemmas.{seat_is, many_at, many_are, vacant_home}
use Rattle.asset_seats.proofs.MoveLemmas.{sits_valid, sits_seats, name_here, name_there, sat_nowhere}
use Rattle.asset_seats.proofs.seats.Seats.sit.Goals as goal

pub bucket_of-requires : goal.bucket_of-requires
bucket_of-requires c =
    let inside = c.self.inside in
    let free = ap (home_of c.self.inside.chains) c.vacant-c.ensures ∙ vacant_home inside.names.items inside.chains inside.buckets c.args.self.now c.self.view_is c.self.invariant c.laws.ensures.sound c.requires.room in
    let within = key_within c.vacant-c.result 0 c.self.inside.chains free in
    c.self.invariant.ready (omega (arith, within))

pub move_to-requires-clause-key : goal.move_to-requires-clause-key
move_to-requires-clause-key c =
    let inside = c.self.inside in
    let free = ap (home_of c.self.inside.chains) c.vacant-c.ensures ∙ vacant_home inside.names.items inside.chains inside.buckets c.args.self.now c.self.view_is c.self.invariant c.laws.ensures.sound c.requires.room in
    key_within c.vacant-c.result 0 c.self.inside.chains free

pub index_mut-requires : goal.index_mut-requires
index_mut-requires c =
    let inside = c.self.inside in
    let free = ap (home_of c.self.inside.chains) c.vacant-c.ensures ∙ vacant_home inside.names.items inside.chains inside.buckets c.args.self.now c.self.view_is c.self.invariant c.laws.ensures.sound c.requires.room in
    let within = key_within c.vacant-c.result 0 c.self.inside.chains free in
    omega (arith, within, c.self.invariant.named)

pub invariant_of-self : goal.invariant_of-self
invariant_of-self c =
    let inside = c.self.inside in
    let free = ap (home_of c.self.inside.chains) c.vacant-c.ensures ∙ vacant_home inside.names.items inside.chains inside.buckets c.args.self.now c.self.view_is c.self.invariant c.laws.ensures.sound c.requires.room in
    let within = key_within c.vacant-c.result 0 c.self.inside.chains free in
    let place : c.vacant-c.result < length c.self.inside.names.items = omega (arith, within, c.self.invariant.named) in
    let chain : 1 + c.bucket_of.result ≡ suc (bucket_in c.args.t.0 c.self.inside.buckets) = omega (arith, c.bucket_of.ensures.bucket) in
    sits_valid inside.names.items _ inside.chains c.move_to.new.chains inside.buckets c.vacant-c.result c.args.t c.self.invariant
    (sat_nowhere inside.names.items inside.chains c.args.self.now c.args.t c.self.view_is c.requires.absent)
    (c.move_to.ensures.home ∙ ap (λ (n : ℕ). Some n) chain) c.move_to.ensures.homes c.move_to.ensures.sizes.0 c.move_to.ensures.sizes.1
    (name_here inside.names.items c.vacant-c.result c.args.t place) (name_there inside.names.items c.vacant-c.result c.args.t) (length-set inside.names.items c.vacant-c.result c.args.t)

pub returns-clause-free : goal.returns-clause-free
returns-clause-free c =
    let inside = c.self.inside in
    let free = ap (home_of c.self.inside.chains) c.vacant-c.ensures ∙ vacant_home inside.names.items inside.chains inside.buckets c.args.self.now c.self.view_is c.self.invariant c.laws.ensures.sound c.requires.room in
    seat_is inside.names.items inside.chains c.args.self.now c.vacant-c.result c.self.view_is ∙ ap (λ (o : Option ℕ). taken o (name_in c.self.inside.names.items c.vacant-c.result)) free

pub returns-clause-seats : goal.returns-clause-seats
returns-clause-seats c =
    let inside = c.self.inside in
    let free = ap (home_of c.self.inside.chains) c.vacant-c.ensures ∙ vacant_home inside.names.items inside.chains inside.buckets c.args.self.now c.self.view_is c.self.invariant c.laws.ensures.sound c.requires.room in
    let within = key_within c.vacant-c.result 0 c.self.inside.chains free in
    let place : c.vacant-c.result < length c.self.inside.names.items = omega (arith, within, c.self.invariant.named) in
    let chain : 1 + c.bucket_of.result ≡ suc (bucket_in c.args.t.0 c.self.inside.buckets) = omega (arith, c.bucket_of.ensures.bucket) in
    sits_seats inside.names.items _ inside.chains c.move_to.new.chains inside.buckets c.vacant-c.result c.args.t c.self.invariant
    (sat_nowhere inside.names.items inside.chains c.args.self.now c.args.t c.self.view_is c.requires.absent)
    (c.move_to.ensures.home ∙ ap (λ (n : ℕ). Some n) chain) c.move_to.ensures.homes c.move_to.ensures.sizes.0 c.move_to.ensures.sizes.1
    (name_here inside.names.items c.vacant-c.result c.args.t place) (name_there inside.names.items c.vacant-c.result c.args.t) (length-set inside.names.items c.vacant-c.result c.args.t)
    c.args.self.now c.self.view_is

pub returns-clause-many : goal.returns-clause-many
returns-clause-many c = many_at _ c.move_to.new.chains ∙ c.move_to.ensures.sizes.0 ∙ sym (many_are c.self.inside.names.items c.self.inside.chains c.args.self.now c.self.view_is)
