use Rattle.std.proofs.Common.{get_or, take, sym, ◌∙◌}
use Rattle.std.proofs.lemmas.List.{take_more}
use Rattle.asset_names.specs.Arrows.{with_name}
use Rattle.asset_history.proofs.NameLemmas.{with_new}
use Rattle.asset_deletion.proofs.NameLemmas.{inserted}
use Rattle.asset_deletion.proofs.ReadLemmas.{next_is_new}
use Rattle.asset_deletion.proofs.reading.read_name.Goals as goal

pub returns-clause-names : goal.returns-clause-names
returns-clause-names c =
    let all = c.args.kept.now.names in
    let node = c.args.node in
    let first = take node all in
    c.in_ok-insert.ensures.keys ∙ inserted c.args.names.now.keys c.name.result ∙ (λ i. with_name (c.requires.names i) (c.name.ensures i))
    ∙ with_new first (get_or all node 0) (next_is_new c.args.kept.now c.laws.ensures node c.requires.node) ∙ sym (take_more all node 0 c.requires.node)
