use Rattle.std.proofs.Common.{◌≡◌, eqb, ltb, sym, ap, ◌∙◌, arith}
use Rattle.asset_history.specs.declared.links.Link.{Link}
use Rattle.asset_history.specs.Together.{label_at}
use Rattle.asset_history.proofs.ChainLemmas.{in_newest, known_here, known_if_newest, known_if_none}
use Rattle.asset_history.proofs.users.is_known.Goals as goal

pub label-requires-then-chain-gt0 : goal.label-requires-then-chain-gt0
label-requires-then-chain-gt0 c =
    let link = c.newest.result in
    c.requires.chained link.node (in_newest c.args.links.now.links c.args.chain link c.if-chain-gt0.true c.newest.ensures.link)

pub returns-then-label : goal.returns-then-label
returns-then-label c = sym (known_here c.args.groups.now c.args.links.now.links c.args.node c.args.chain c.args.other (sym c.label.ensures.label ∙ c.if-label.true ∙ c.label-label.ensures.label))

pub returns-then-chain-gt0 : goal.returns-then-chain-gt0
returns-then-chain-gt0 c =
    let g = c.args.groups.now in
    let node = c.label-then-chain-gt0.ensures.label ∙ ap (λ (l : Link). label_at g l.node) c.newest.ensures.link in
    (λ i. eqb (node i) (c.label-label.ensures.label i))
    ∙ sym (known_if_newest g c.args.links.now.links c.args.node c.args.chain c.args.other (λ same. c.if-label.false (c.label.ensures.label ∙ same ∙ sym c.label-label.ensures.label)) c.if-chain-gt0.true)

pub returns-else-chain-gt0 : goal.returns-else-chain-gt0
returns-else-chain-gt0 c =
    let none : c.args.chain ≡ 0 = omega (arith, c.if-chain-gt0.false) in
    ap (ltb 0) none ∙ sym (known_if_none c.args.groups.now c.args.links.now.links c.args.node c.args.chain c.args.other (λ same. c.if-label.false (c.label.ensures.label ∙ same ∙ sym c.label-label.ensures.label)) none)
