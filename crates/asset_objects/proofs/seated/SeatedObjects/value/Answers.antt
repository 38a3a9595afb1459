use Rattle.std.proofs.Common.{arith, w64, to_z, of_z, ◌≡◌, Some, is_some, sym, ap, ◌∙◌}
use Rattle.std.proofs.lemmas.Int.{to_z-of_z}
use Rattle.asset_names.proofs.NumberLemmas.{number_reads}
use Rattle.asset_objects.specs.Placed.{objects_in}
use Rattle.asset_objects.proofs.PlacedLemmas.{has_value, no_value}
use Rattle.asset_objects.proofs.seated.SeatedObjects.value.Goals as goal

pub value_at-requires : goal.value_at-requires
value_at-requires c = (number_reads c.args.self.now.objects c.args.x.0 c.in_ok-number.number (sym c.in_ok-number.ensures.number)).0

pub returns-in_err-number-clause-value : goal.returns-in_err-number-clause-value
returns-in_err-number-clause-value c = c.from_residual.ensures ∙ sym (no_value (objects_in c.args.self.now) c.args.x.0 (sym c.in_err-number.ensures.exists))

pub returns-in_err-number-clause-exists : goal.returns-in_err-number-clause-exists
returns-in_err-number-clause-exists c = ap is_some (returns-in_err-number-clause-value c) ∙ has_value (objects_in c.args.self.now) c.args.x.0

pub returns-clause-value : goal.returns-clause-value
returns-clause-value c =
    let fits : to_z w64 (of_z w64 c.value_at.result) ≡ c.value_at.result = grind (arith, to_z-of_z) in
    ap Some fits ∙ sym (c.value_at.ensures c.args.x.0 (sym c.in_ok-number.ensures.number))

pub returns-clause-exists : goal.returns-clause-exists
returns-clause-exists c = ap is_some (returns-clause-value c) ∙ has_value (objects_in c.args.self.now) c.args.x.0
