use Rattle.std.proofs.Common.{rules, ◌≡◌, ℕ, true, false, List, length, reverse, sym, ap, subst, ◌∙◌, arith, Some}
use Rattle.std.specs.Prelude.{nat_eq, slice_get}
use Rattle.indexmap.specs.IndexMap.{get}
use Rattle.asset_names.specs.declared.names.Txn.{Txn}
use Rattle.asset_names.specs.declared.names.Ob.{Ob}
use Rattle.asset_names.specs.Arrows.{lists}
use Rattle.asset_names.specs.Steps.{Entry, applied}
use Rattle.asset_entries.specs.Operating.{operator_at, operator_of, opener_at, opener_of}
use Rattle.asset_history.specs.Kept.{before}
use Rattle.asset_history.specs.Together.{name_at}
use Rattle.asset_history.specs.Uses.{opens, operates, has_object}
use Rattle.asset_history.specs.Users.{uses_as, users_or_nobody}
use Rattle.asset_history.proofs.EntryLemmas.{legal_at}
use Rattle.asset_history.proofs.NoteLemmas.{Opens, operator_parts, opener_parts, operated_exists, opened_exists, found_operator, found_opener, opener_among, operator_among, opens_among, operates_among}
use Rattle.asset_history.proofs.NextLemmas.{operator_said, opener_said, idle_said}
use Rattle.asset_history.proofs.SaidLemmas.{said_within}
use Rattle.asset_history.proofs.UseLemmas.{uses_listed, used_as_operator, actor_listed}
use Rattle.asset_history.proofs.NameLemmas.{all_acted}
use Rattle.asset_history.proofs.noting.note_entry.Goals as goal

-- who operates at the index, and by which entry
operator : (all : List Entry) (i : ℕ) (t : Txn) (x : Ob) → operator_at (slice_get (reverse all) i) ≡ Some (t, x) → (entry : Entry) × (slice_get (reverse all) i ≡ Some entry) × (operator_of entry.0 entry.1 ≡ Some (t, x))
operator all i t x is = found_operator (slice_get (reverse all) i) t x is

opener : (all : List Entry) (i : ℕ) (t : Txn) (obs : List Ob) → opener_at (slice_get (reverse all) i) ≡ Some (t, obs) → (entry : Entry) × (slice_get (reverse all) i ≡ Some entry) × (opener_of entry.0 entry.1 ≡ Some (t, obs))
opener all i t obs is = found_opener (slice_get (reverse all) i) t obs is

pub node_of_known-node-requires : goal.node_of_known-node-requires
node_of_known-node-requires c =
    let all = c.args.entries.now.entries in
    let t = c.in-Some.t in
    let x = c.in-Some.x.0 in
    let one = operator all c.args.index t c.in-Some.x (sym c.operator.ensures ∙ c.in-Some.is) in
    ap (λ l. lists l t.0) c.requires.named ∙ uses_listed all t.0 x (used_as_operator (applied all) t.0 x (operator_among all c.args.index one.0 t x one.1 (operator_parts one.0.0 one.0.1 t c.in-Some.x one.2)))

pub note_use-requires-clause-there : goal.note_use-requires-clause-there
note_use-requires-clause-there c =
    let all = c.args.entries.now.entries in
    let i = c.args.index in
    let one = operator all i c.in-Some.t c.in-Some.x (sym c.operator.ensures ∙ c.in-Some.is) in
    c.requires.there c.in-Some.x.0 (operated_exists c.args.entries.now.opening (applied (before all i)) one.0.0 one.0.1 c.in-Some.t c.in-Some.x (legal_at c.args.entries.now.opening all i one.0 c.requires.legal one.1).0 one.2)

pub note_use-requires-clause-within : goal.note_use-requires-clause-within
note_use-requires-clause-within c =
    let all = c.args.entries.now.entries in
    let older = before all c.args.index in
    let x = c.in-Some.x.0 in
    said_within c.args.groups.now c.args.users.now.links.links (λ a. opens (applied older) a x) (λ t. operates (applied older) t x) (λ a. opens (applied all) a x) (λ t. operates (applied all) t x) (users_or_nobody (get nat_eq c.args.users.now.found x))
    (omega (arith, c.node_of_known-node.ensures.0)) (c.requires.said x)

-- the operator uses its object
operates_now : (all : List Entry) (i : ℕ) (t : Txn) (x : Ob) (n : ℕ) → operator_at (slice_get (reverse all) i) ≡ Some (t, x) → n ≡ t.0 → uses_as false (applied all) n x.0 ≡ true
unfolding uses_as
operates_now all i t x n is named =
    let one = operator all i t x is in
    ap (λ m. operates (applied all) m x.0) named ∙ operator_among all i one.0 t x.0 one.1 (operator_parts one.0.0 one.0.1 t x one.2)

pub node_of_known-node-requires-in-Some-opener : goal.node_of_known-node-requires-in-Some-opener
node_of_known-node-requires-in-Some-opener c =
    let all = c.args.entries.now.entries in
    let t = c.in-Some-opener.t in
    let obs = c.in-Some-opener.obs in
    let one = opener all c.args.index t obs (sym c.opener.ensures ∙ c.in-Some-opener.is) in
    ap (λ l. lists l t.0) c.requires.named ∙ all_acted all t.0 ∙ actor_listed all c.args.index one.0 t one.1 (opener_parts one.0.0 one.0.1 t obs one.2).actor_is

pub note_opened-requires-clause-there : goal.note_opened-requires-clause-there
note_opened-requires-clause-there c = λ x has.
    let all = c.args.entries.now.entries in
    let i = c.args.index in
    let t = c.in-Some-opener.t in
    let obs = c.in-Some-opener.obs in
    let one = opener all i t obs (sym c.opener.ensures ∙ c.in-Some-opener.is) in
    c.requires.there x (opened_exists c.args.entries.now.opening (applied (before all i)) one.0.0 one.0.1 t obs (legal_at c.args.entries.now.opening all i one.0 c.requires.legal one.1).0 one.2 x (let same : obs ≡ c.objects.result.now = search rules in ap (λ l. has_object l x) same ∙ has))

pub note_opened-requires-clause-within : goal.note_opened-requires-clause-within
note_opened-requires-clause-within c = λ x.
    let all = c.args.entries.now.entries in
    let older = before all c.args.index in
    said_within c.args.groups.now c.args.users.now.links.links (λ a. opens (applied older) a x) (λ t. operates (applied older) t x) (λ a. opens (applied all) a x) (λ t. operates (applied all) t x) (users_or_nobody (get nat_eq c.args.users.now.found x))
    (omega (arith, c.node_of_known-node-in-Some-opener.ensures.0)) (c.requires.said x)

pub note_opened-requires-clause-links : goal.note_opened-requires-clause-links
note_opened-requires-clause-links c = omega (arith, c.requires.links, c.objects.ensures.few, ap length c.objects.ensures.listed)

-- the opener opens its objects
opens_now : (all : List Entry) (i : ℕ) (t : Txn) (obs : List Ob) (n : ℕ) → opener_at (slice_get (reverse all) i) ≡ Some (t, obs) → n ≡ t.0 → (x : ℕ) → has_object obs x ≡ true → opens (applied all) n x ≡ true
opens_now all i t obs n is named x has =
    let one = opener all i t obs is in
    ap (λ m. opens (applied all) m x) named ∙ opener_among all i one.0 t obs x one.1 (opener_parts one.0.0 one.0.1 t obs one.2) has

pub returns-in-Some-clause-joined : goal.returns-in-Some-clause-joined
returns-in-Some-clause-joined c =
    let all = c.args.entries.now.entries in
    let i = c.args.index in
    let older = before all i in
    let uses = operates_now all i c.in-Some.t c.in-Some.x _ (sym c.operator.ensures ∙ c.in-Some.is) c.node_of_known-node.ensures.1 in
    (c.note_use.ensures.said all (opens (applied older)) (operates (applied older)) uses (opens_among all i) (operates_among all i) c.requires.said).0

pub returns-in-Some-clause-said : goal.returns-in-Some-clause-said
returns-in-Some-clause-said c =
    let all = c.args.entries.now.entries in
    let i = c.args.index in
    let older = before all i in
    let t = c.in-Some.t in
    let is = sym c.operator.ensures ∙ c.in-Some.is in
    let one = operator all i t c.in-Some.x is in
    let uses = operates_now all i t c.in-Some.x _ is c.node_of_known-node.ensures.1 in
    operator_said c.note_use.new.groups c.note_use.new.users.links.links all i one.0 t c.in-Some.x.0 _ (get nat_eq c.note_use.new.users.found) one.1 (operator_parts one.0.0 one.0.1 t c.in-Some.x one.2) c.node_of_known-node.ensures.1
    (c.note_use.ensures.said all (opens (applied older)) (operates (applied older)) uses (opens_among all i) (operates_among all i) c.requires.said).1

pub returns-in-Some-opener-clause-joined : goal.returns-in-Some-opener-clause-joined
returns-in-Some-opener-clause-joined c =
    let all = c.args.entries.now.entries in
    let i = c.args.index in
    let older = before all i in
    let t = c.in-Some-opener.t in
    let obs = c.in-Some-opener.obs in
    let same : obs ≡ c.objects.result.now = search rules in
    let n = name_at c.args.groups.now c.node_of_known-node-in-Some-opener.result in
    let uses = subst (λ (l : List Ob). (x : ℕ) → has_object l x ≡ true → opens (applied all) n x ≡ true) same (opens_now all i t obs n (sym c.opener.ensures ∙ c.in-Some-opener.is) c.node_of_known-node-in-Some-opener.ensures.1) in
    (c.note_opened.ensures.said all (opens (applied older)) (operates (applied older)) uses (opens_among all i) (operates_among all i) c.requires.said).0

pub returns-in-Some-opener-clause-few : goal.returns-in-Some-opener-clause-few
returns-in-Some-opener-clause-few c = omega (arith, c.note_opened.ensures.few, c.objects.ensures.few, ap length c.objects.ensures.listed)

pub returns-in-Some-opener-clause-said : goal.returns-in-Some-opener-clause-said
returns-in-Some-opener-clause-said c =
    let all = c.args.entries.now.entries in
    let i = c.args.index in
    let older = before all i in
    let t = c.in-Some-opener.t in
    let obs = c.in-Some-opener.obs in
    let is = sym c.opener.ensures ∙ c.in-Some-opener.is in
    let one = opener all i t obs is in
    let same : obs ≡ c.objects.result.now = search rules in
    let n = name_at c.args.groups.now c.node_of_known-node-in-Some-opener.result in
    let uses = subst (λ (l : List Ob). (x : ℕ) → has_object l x ≡ true → opens (applied all) n x ≡ true) same (opens_now all i t obs n is c.node_of_known-node-in-Some-opener.ensures.1) in
    let said = (c.note_opened.ensures.said all (opens (applied older)) (operates (applied older)) uses (opens_among all i) (operates_among all i) c.requires.said).1 in
    let parts = subst (λ (l : List Ob). Opens one.0.0 one.0.1 t l) same (opener_parts one.0.0 one.0.1 t obs one.2) in
    opener_said c.note_opened.new.groups c.note_opened.new.users.links.links all i one.0 t c.objects.result.now _ (get nat_eq c.note_opened.new.users.found) one.1 parts c.node_of_known-node-in-Some-opener.ensures.1 said

pub returns-in_default-opener-clause-said : goal.returns-in_default-opener-clause-said
returns-in_default-opener-clause-said c =
    idle_said c.args.groups.now c.args.users.now.links.links c.args.entries.now.entries c.args.index (get nat_eq c.args.users.now.found) c.requires.index (sym c.operator.ensures ∙ c.in_default.is) (sym c.opener.ensures ∙ c.in_default-opener.is) c.requires.said
