use Rattle.std.proofs.Common.{Bool, true, false, cond, eqb, length, arith, sym, ap, subst, Some}
use Rattle.std.specs.Prelude.{nat_eq}
use Rattle.indexmap.specs.IndexMap.{get}
use Rattle.asset_names.specs.Steps.{applied}
use Rattle.asset_history.specs.Together.{name_at}
use Rattle.asset_history.specs.Uses.{opens, operates}
use Rattle.asset_history.specs.Users.{AreSaid, AreUsersWithin, users_or_nobody}
use Rattle.asset_history.proofs.LabelLemmas.{joined_grown}
use Rattle.asset_history.proofs.SaidLemmas.{noted, within_more}
use Rattle.asset_history.proofs.noting.note_use.Goals as goal

pub returns-clause-within : goal.returns-clause-within
unfolding users_or_nobody
returns-clause-within c = λ y within.
    let nodes = length c.args.groups.now.names in
    let more = length c.with_user-now.new.groups.names in
    let links = c.args.users.now.links.links in
    let later = c.with_user-now.new.links.links in
    let old = get nat_eq c.args.users.now.found in
    let result = c.with_user-now.result in
    let others = within_more nodes more links later (users_or_nobody (old y)) (omega (arith, ap length c.with_user-now.ensures.names)) c.with_user-now.ensures.more within in
    let go : (b : Bool) → AreUsersWithin more later (users_or_nobody (cond b (Some result) (old y))) = λ b. elim b as (λ b. AreUsersWithin more later (users_or_nobody (cond b (Some result) (old y)))) [ true ↦ c.with_user-now.ensures.within | false ↦ others ] in
    subst (λ at. AreUsersWithin more later (users_or_nobody at)) (sym (c.put_users.ensures y)) (go (eqb c.args.used.x.0 y))

pub returns-clause-said : goal.returns-clause-said
returns-clause-said c = λ all openers operators user among_openers among_operators say.
    let x = c.args.used.x.0 in
    let g = c.args.groups.now in
    let links = c.args.users.now.links.links in
    let after = c.with_user-now.new.groups in
    let later = c.with_user-now.new.links.links in
    let here = subst (λ users. AreSaid g links (λ u. openers u x) (λ u. operators u x) (λ a. opens (applied all) a x) (λ t. operates (applied all) t x) users) (sym c.users_of-was.ensures) (say x) in
    let now = c.with_user-now.ensures.said all (λ u. openers u x) (λ u. operators u x) user (λ u. among_openers u x) (λ u. among_operators u x) here in (
      now.0,
      noted all g after links later openers operators (get nat_eq c.args.users.now.found) (get nat_eq c.put_users.new.found) c.with_user-now.result c.args.used.opens (name_at g c.args.used.node) x c.put_users.ensures (joined_grown all g after now.0) c.with_user-now.ensures.more now.1 say,
    )
