use Rattle.std.proofs.Common.{◌≡◌, length, sym, ap, ◌∙◌, arith}
use Rattle.std.proofs.lemmas.List.{length-map}
use Rattle.asset_entries.specs.StoredSets.{Sets, sets_of}
use Rattle.asset_entries.proofs.stored_sets.StoredSets.len.Goals as goal

pub returns : goal.returns
unfolding sets_of
returns c =
    let count : c.len.result ≡ length c.self.inside.stretches.items = omega (arith, c.len.ensures) in
    count ∙ sym (length-map c.self.inside.stretches.items _) ∙ ap (λ (s : Sets). length s.sets) c.self.view_is
