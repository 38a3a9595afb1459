use Rattle.std.proofs.Common.{◌≡◌, ◌<◌, true, ◌∷◌, length, get_or, refl, sym, ap, subst, ◌∙◌, arith}
use Rattle.std.specs.Option.{option_map}
use Rattle.asset_names.specs.declared.names.Txn.{Txn}
use Rattle.asset_names.specs.Groups.{actor, partner, same_group}
use Rattle.asset_laws.proofs.GroupLemmas.{own_join, joined_same}
use Rattle.asset_entries.specs.Acting.{both_of}
use Rattle.asset_entries.specs.Knowing.{is_of_known_at}
use Rattle.asset_name_groups.specs.NamesInGroups.{NamesInGroups}
use Rattle.asset_history.specs.Kept.{before}
use Rattle.asset_history.specs.Together.{name_at, HaveGrown}
use Rattle.asset_history.proofs.LabelLemmas.{grown_trans, joined_none}
use Rattle.asset_history.proofs.EntryLemmas.{split_newest, legal_at}
use Rattle.asset_history.proofs.KnownLemmas.{known_acts}
use Rattle.asset_history.proofs.NameLemmas.{all_acted, names_few, with_name_few}
use Rattle.asset_history.proofs.StepLemmas.{named_known, named_pair, named_at, with_node_grown, with_node_names, with_node_room, with_node_there}
use Rattle.asset_history.proofs.labelling.name_newest.Goals as goal

pub node_of-i-requires : goal.node_of-i-requires
node_of-i-requires c = λ new.
    let older = before c.args.entries.now.entries c.args.newest in
    let whole = split_newest c.args.entries.now.entries c.args.newest c.requires.newest in
    omega (arith, ap length c.requires.labels.names, names_few older, c.requires.room, ap length whole.2)

pub node_of-j-requires : goal.node_of-j-requires
node_of-j-requires c = λ new.
    let g = c.args.groups.now in
    let t = c.in-Some.t.0 in
    let older = before c.args.entries.now.entries c.args.newest in
    let whole = split_newest c.args.entries.now.entries c.args.newest c.requires.newest in
    let names = ap (λ (h : NamesInGroups). h.names) c.node_of-i.ensures.named ∙ with_node_names g c.laws.ensures t in
    let room = ap (λ (h : NamesInGroups). h.room) c.node_of-i.ensures.named ∙ with_node_room g c.laws.ensures t in
    omega (arith, ap length names, with_name_few g.names t, room, ap length c.requires.labels.names, names_few older, c.requires.room, ap length whole.2)

-- the first node is there after the second name
pub join_nodes-requires-clause-first : goal.join_nodes-requires-clause-first
join_nodes-requires-clause-first c =
    let first = c.node_of-i.new.self in
    omega (arith, c.node_of-i.ensures.node.0, (with_node_grown first c.laws-in-Some.ensures c.in-Some.u.0).more, ap (λ (h : NamesInGroups). length h.names) c.node_of-j.ensures.named)

pub returns-then-is_of_known-clause-named : goal.returns-then-is_of_known-clause-named
returns-then-is_of_known-clause-named c =
    let all = c.args.entries.now.entries in
    let n = c.args.newest in
    let split = split_newest all n c.requires.newest in
    let entry = split.0 in
    let older = before all n in
    let known = known_acts c.args.entries.now.opening older entry.0 entry.1 (legal_at c.args.entries.now.opening all n entry c.requires.legal split.1).0 (ap is_of_known_at (sym split.1) ∙ sym c.is_of_known.ensures ∙ c.if-is_of_known.true) in
    named_at all n entry c.args.groups.now split.1 split.2 (named_known entry older c.args.groups.now c.laws.ensures c.requires.labels (all_acted older (actor entry.0).0 ∙ known.0) known.1)

pub returns-then-is_of_known-clause-grown : goal.returns-then-is_of_known-clause-grown
returns-then-is_of_known-clause-grown c = record { more = omega arith; names = λ k below. refl; stay = λ i j is_i is_j same. same }

pub returns-then-t-u-clause-named : goal.returns-then-t-u-clause-named
returns-then-t-u-clause-named c =
    let all = c.args.entries.now.entries in
    let n = c.args.newest in
    let split = split_newest all n c.requires.newest in
    let entry = split.0 in
    let older = before all n in
    let g = c.args.groups.now in
    let first = c.node_of-i.new.self in
    let second = c.node_of-j.new.self in
    let after = c.join_nodes.new.groups in
    let t = c.in-Some.t.0 in
    let u = c.in-Some.u.0 in
    let i = c.node_of-i.result in
    let j = c.node_of-j.result in
    let both : ◌≡◌ {A = Txn × Txn} (c.in-Some.t, c.in-Some.u) (both_of entry) = let some = sym c.in-Some.is ∙ c.acted_on.ensures ∙ ap (option_map both_of) split.1 in cc in
    let is_t : t ≡ (actor entry.0).0 = ap (λ (p : Txn × Txn). p.0.0) both in
    let is_u : u ≡ (partner entry.0).0 = ap (λ (p : Txn × Txn). p.1.0) both in
    let grown = subst (λ (h : NamesInGroups). HaveGrown first h) (sym c.node_of-j.ensures.named) (with_node_grown first c.laws-in-Some.ensures u) in
    let second_i : name_at second i ≡ t = grown.names i c.node_of-i.ensures.node.0 ∙ c.node_of-i.ensures.node.1 in
    let name_i : name_at after i ≡ t = ap (λ l. get_or l i 0) c.join_nodes.ensures.names ∙ second_i in
    let name_j : name_at after j ≡ u = ap (λ l. get_or l j 0) c.join_nodes.ensures.names ∙ c.node_of-j.ensures.node.1 in
    let within_i : i < length after.names = omega (arith, c.node_of-i.ensures.node.0, grown.more, ap length c.join_nodes.ensures.names) in
    let within_j : j < length after.names = omega (arith, c.node_of-j.ensures.node.0, ap length c.join_nodes.ensures.names) in
    let same : same_group (entry ∷ older) (name_at second i) (name_at second j) ≡ true =
    (λ k. same_group (entry ∷ older) ((second_i ∙ is_t) k) ((c.node_of-j.ensures.node.1 ∙ is_u) k)) ∙ joined_same (entry ∷ older) (actor entry.0).0 (partner entry.0).0 (own_join entry older) in
    named_at all n entry after split.1 split.2
    (named_pair entry older g first second after t u i j c.laws.ensures c.requires.labels is_t is_u c.node_of-i.ensures.named c.laws-in-Some.ensures c.node_of-j.ensures.named (c.join_nodes.ensures.joined (entry ∷ older) same) c.laws-then-t-u.ensures within_i within_j name_i name_j c.join_nodes.ensures.one)

pub returns-then-t-u-clause-grown : goal.returns-then-t-u-clause-grown
returns-then-t-u-clause-grown c =
    let g = c.args.groups.now in
    let first = c.node_of-i.new.self in
    let one = subst (λ (h : NamesInGroups). HaveGrown g h) (sym c.node_of-i.ensures.named) (with_node_grown g c.laws.ensures c.in-Some.t.0) in
    let two = subst (λ (h : NamesInGroups). HaveGrown first h) (sym c.node_of-j.ensures.named) (with_node_grown first c.laws-in-Some.ensures c.in-Some.u.0) in
    grown_trans g first c.join_nodes.new.groups one (grown_trans first c.node_of-j.new.self c.join_nodes.new.groups two c.join_nodes.ensures.grown)

pub returns-then-t-u-clause-room : goal.returns-then-t-u-clause-room
returns-then-t-u-clause-room c =
    c.join_nodes.ensures.room ∙ ap (λ (h : NamesInGroups). h.room) c.node_of-j.ensures.named ∙ with_node_room c.node_of-i.new.self c.laws-in-Some.ensures c.in-Some.u.0
    ∙ ap (λ (h : NamesInGroups). h.room) c.node_of-i.ensures.named ∙ with_node_room c.args.groups.now c.laws.ensures c.in-Some.t.0

pub returns-else-t-u-clause-named : goal.returns-else-t-u-clause-named
returns-else-t-u-clause-named c =
    let all = c.args.entries.now.entries in
    let n = c.args.newest in
    let split = split_newest all n c.requires.newest in
    let entry = split.0 in
    let older = before all n in
    let g = c.args.groups.now in
    let first = c.node_of-i.new.self in
    let t = c.in-Some.t.0 in
    let i = c.node_of-i.result in
    let both : ◌≡◌ {A = Txn × Txn} (c.in-Some.t, c.in-Some.u) (both_of entry) = let some = sym c.in-Some.is ∙ c.acted_on.ensures ∙ ap (option_map both_of) split.1 in cc in
    let same : t ≡ c.in-Some.u.0 = cc (c.if-t-u.false) in
    let is_t : t ≡ (actor entry.0).0 = ap (λ (p : Txn × Txn). p.0.0) both in
    let is_u : t ≡ (partner entry.0).0 = same ∙ ap (λ (p : Txn × Txn). p.1.0) both in
    let node = c.node_of-i.ensures.node in
    named_at all n entry first split.1 split.2
    (named_pair entry older g first first first t t i i c.laws.ensures c.requires.labels is_t is_u c.node_of-i.ensures.named c.laws-in-Some.ensures (with_node_there first t i node.0 node.1) (joined_none (entry ∷ older) first) c.laws-in-Some.ensures node.0 node.0 node.1 node.1 refl)

pub returns-else-t-u-clause-grown : goal.returns-else-t-u-clause-grown
returns-else-t-u-clause-grown c = subst (λ (h : NamesInGroups). HaveGrown c.args.groups.now h) (sym c.node_of-i.ensures.named) (with_node_grown c.args.groups.now c.laws.ensures c.in-Some.t.0)

pub returns-else-t-u-clause-room : goal.returns-else-t-u-clause-room
returns-else-t-u-clause-room c = ap (λ (h : NamesInGroups). h.room) c.node_of-i.ensures.named ∙ with_node_room c.args.groups.now c.laws.ensures c.in-Some.t.0

pub returns-in_default-clause-named : goal.returns-in_default-clause-named
returns-in_default-clause-named c =
    let split = split_newest c.args.entries.now.entries c.args.newest c.requires.newest in
    let some = ap (option_map both_of) (sym split.1) ∙ sym c.acted_on.ensures ∙ c.in_default.is in
    absurd cc

pub returns-in_default-clause-grown : goal.returns-in_default-clause-grown
returns-in_default-clause-grown c = record { more = omega arith; names = λ k below. refl; stay = λ i j is_i is_j same. same }
