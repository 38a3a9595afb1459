use Rattle.std.proofs.Common.{not, refl, ◌∙◌, ap}
use Rattle.std.proofs.lemmas.Bool.{eq-eqb, ne_eqb}
use Rattle.asset_laws.specs.Serial.{is_apart}
use Rattle.asset_deletion.proofs.NameLemmas.{listed_as}
use Rattle.asset_serial.proofs.sharing.are_apart.Goals as goal
use Rattle.asset_serial.proofs.sharing.are_apart.Goals.{then-contains, else-contains}

pub returns-then-t-u : goal.returns-then-t-u
unfolding is_apart
returns-then-t-u c = rw (eq-eqb c.args.t.0 c.args.u.0 c.if-t-u.true) refl

pub returns-after-contains : goal.returns-after-contains
unfolding is_apart
returns-after-contains c =
    let keys = c.args.names.now.keys in
    let first = c.contains.ensures ∙ listed_as keys c.args.t.0 in
    rw (ne_eqb c.args.t.0 c.args.u.0 c.if-t-u.false, ← first) (elim c.if-contains.branch [
      | then-contains w ↦ rw (w.result-is, w.if-contains.true) refl
      | else-contains w ↦ rw (w.result-is, w.if-contains.false) (ap not (w.contains-else-contains.ensures ∙ listed_as keys c.args.u.0))
    ])
