use Rattle.std.proofs.Common.{◌≡◌, ◌<◌, true, length, get_or, refl, sym, ap, subst, ◌∙◌, arith, inl, inr}
use Rattle.asset_names.specs.Groups.{same_group}
use Rattle.asset_history.specs.Links.{IsIn}
use Rattle.asset_history.specs.Together.{name_at, label_at}
use Rattle.asset_history.proofs.ChainLemmas.{in_none, in_next, in_newest, in_before}
use Rattle.asset_history.proofs.LabelLemmas.{joined_none, joined_trans, grown_trans}
use Rattle.asset_history.proofs.joining.join_chain.Goals as goal

pub links-init : goal.links-init
links-init c = record {
  names = refl;
  linked = c.requires.linked;
  rest = λ other h. h;
  joined = λ entries together. joined_none entries c.args.groups.now;
  grown = record { more = omega arith; names = λ k below. refl; stay = λ i j is_i is_j same. same };
  done = λ other h. inr h;
}

pub join_nodes-requires-clause-first : goal.join_nodes-requires-clause-first
join_nodes-requires-clause-first c = omega (arith, c.requires.node, ap length c.links.invariant.names)

pub join_nodes-requires-clause-second : goal.join_nodes-requires-clause-second
join_nodes-requires-clause-second c =
    let link = c.newest-link.result in
    let inside = c.requires.chained link.node (c.links.invariant.rest link.node (in_newest c.args.links.now.links c.links.at link c.links-test.true c.newest-link.ensures.link)) in
    omega (arith, inside, ap length c.links.invariant.names)

pub links-preserved : goal.links-preserved
links-preserved c =
    let links = c.args.links.now.links in
    let chain = c.args.chain in
    let node = c.args.node in
    let at = c.links.at in
    let link = c.newest-link.result in
    let old = c.args.groups.now in
    let now = c.links.groups in
    let after = c.join_nodes.new.groups in
    let kept = c.links.invariant in
    let here : IsIn links chain link.node = kept.rest link.node (in_newest links at link c.links-test.true c.newest-link.ensures.link) in
    let joined = c.join_nodes.ensures in
    let node_inside : node < length now.names = omega (arith, c.requires.node, ap length kept.names) in
    record {
      names = joined.names ∙ kept.names;
      linked = omega (arith, c.newest-link.ensures.earlier, kept.linked);
      rest = λ other h. kept.rest other (in_before links at link c.links-test.true c.newest-link.ensures.link other h);
      joined = λ entries together.
          let same : same_group entries (name_at now node) (name_at now link.node) ≡ true = rw (ap (λ l. get_or l node 0) kept.names, ap (λ l. get_or l link.node 0) kept.names) (together link.node here) in
          joined_trans entries old now after (kept.joined entries together) (joined.joined entries same);
      grown = grown_trans old now after kept.grown joined.grown;
      done = λ other h. elim (kept.done other h) [
        | inl same ↦ inl (joined.grown.stay other node (omega (arith, c.requires.chained other h, ap length kept.names)) node_inside same)
        | inr left ↦ elim (in_next links at link c.links-test.true c.newest-link.ensures.link other left) [
          | inl is ↦ inl (ap (label_at after) (sym is) ∙ sym joined.one)
          | inr before ↦ inr before
        ]
      ];
    }

pub returns-clause-joined : goal.returns-clause-joined
returns-clause-joined c = c.links.invariant.joined

pub returns-clause-names : goal.returns-clause-names
returns-clause-names c = c.links.invariant.names

pub returns-clause-grown : goal.returns-clause-grown
returns-clause-grown c = c.links.invariant.grown

pub returns-clause-one : goal.returns-clause-one
returns-clause-one c = λ other h. elim (c.links.invariant.done other h) [
  | inl same ↦ same
  | inr left ↦ absurd (in_none c.args.links.now.links other (let end : c.links.at ≡ 0 = omega (arith, c.links-test.false) in subst (λ at. IsIn c.args.links.now.links at other) end left))
]
