use Rattle.std.proofs.Common.{sym, ◌∙◌, arith}
use Rattle.asset_chains.proofs.Laws.{pushes}
use Rattle.asset_seats.proofs.MoveLemmas.{is_out}
use Rattle.asset_seats.proofs.buckets.move_to.Goals as goal

pub push-requires-clause-chain : goal.push-requires-clause-chain
push-requires-clause-chain c = let out = is_out c.args.key c.args.chains.now c.unlink.new.self c.unlink.ensures in omega (arith, out.same_chains, c.requires.chain)

pub push-requires-clause-key : goal.push-requires-clause-key
push-requires-clause-key c = let out = is_out c.args.key c.args.chains.now c.unlink.new.self c.unlink.ensures in omega (arith, out.same_keys, c.requires.key)

pub push-requires-clause-free : goal.push-requires-clause-free
push-requires-clause-free c = (is_out c.args.key c.args.chains.now c.unlink.new.self c.unlink.ensures).home

pub returns-clause-home : goal.returns-clause-home
returns-clause-home c =
    let out = is_out c.args.key c.args.chains.now c.unlink.new.self c.unlink.ensures in
    (pushes c.args.chain c.args.key c.unlink.new.self c.push.new.self (omega (arith, out.same_chains, c.requires.chain)) (omega (arith, out.same_keys, c.requires.key)) c.push.ensures).home

pub returns-clause-homes : goal.returns-clause-homes
returns-clause-homes c = λ k apart.
    let out = is_out c.args.key c.args.chains.now c.unlink.new.self c.unlink.ensures in
    (pushes c.args.chain c.args.key c.unlink.new.self c.push.new.self (omega (arith, out.same_chains, c.requires.chain)) (omega (arith, out.same_keys, c.requires.key)) c.push.ensures).homes k apart ∙ out.homes k apart

pub returns-clause-last : goal.returns-clause-last
returns-clause-last c = λ apart.
    let out = is_out c.args.key c.args.chains.now c.unlink.new.self c.unlink.ensures in
    rw (sym (out.chains c.args.chain apart))
    ((pushes c.args.chain c.args.key c.unlink.new.self c.push.new.self (omega (arith, out.same_chains, c.requires.chain)) (omega (arith, out.same_keys, c.requires.key)) c.push.ensures).chain)

pub returns-clause-others : goal.returns-clause-others
returns-clause-others c = λ d other apart.
    let out = is_out c.args.key c.args.chains.now c.unlink.new.self c.unlink.ensures in
    (pushes c.args.chain c.args.key c.unlink.new.self c.push.new.self (omega (arith, out.same_chains, c.requires.chain)) (omega (arith, out.same_keys, c.requires.key)) c.push.ensures).chains d other ∙ out.chains d apart

pub returns-clause-sizes : goal.returns-clause-sizes
returns-clause-sizes c =
    let out = is_out c.args.key c.args.chains.now c.unlink.new.self c.unlink.ensures in
    let change = pushes c.args.chain c.args.key c.unlink.new.self c.push.new.self (omega (arith, out.same_chains, c.requires.chain)) (omega (arith, out.same_keys, c.requires.key)) c.push.ensures in
    (change.same_keys ∙ out.same_keys, change.same_chains ∙ out.same_chains)
