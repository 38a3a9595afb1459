use Rattle.std.proofs.Common.{◌≡◌, ◌≤◌, length, replicate, ◌∙◌, ap, arith}
use Rattle.std.proofs.lemmas.Slice.{drop-append-drop}
use Rattle.std.proofs.lemmas.List.{drop-replicate}
use Rattle.asset_names.specs.Sets.{no_object_name}
use Rattle.asset_names.proofs.sets.as_given.Goals as goal

pub returns-clause-rest : goal.returns-clause-rest
returns-clause-rest c =
    let n = length c.args.objects.now in
    let same : length c.copy_from_slice.new.self ≡ n = ap length c.copy_from_slice.ensures.after in
    let here : n ≤ n = omega arith in
    drop-append-drop n (replicate 16 no_object_name) c.copy_from_slice.new.self n here same ∙ drop-replicate n 16 no_object_name
