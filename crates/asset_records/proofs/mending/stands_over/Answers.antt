use Rattle.std.proofs.Common.{◌≡◌, is_some, sym, ap, ◌∙◌, w64, to_z, of_z, arith}
use Rattle.std.proofs.lemmas.Bool.{true≢false}
use Rattle.std.proofs.lemmas.Int.{to_z-of_z}
use Rattle.asset_chains.specs.Chained.{behind, chain_of}
use Rattle.asset_chains.specs.declared.side.Side.TheVariants.{Row}
use Rattle.asset_records.specs.declared.records.Record.{Record}
use Rattle.asset_records.specs.Listed.{at_keys}
use Rattle.asset_records.specs.Mended.{mend_by, mend_of, summed}
use Rattle.asset_records.proofs.DropLemmas.{read_some}
use Rattle.std.specs.Prelude.{ℤ}
use Rattle.asset_records.proofs.mending.stands_over.Goals as goal

pub unreachable-requires : goal.unreachable-requires
unreachable-requires c =
    true≢false (sym (ap is_some c.requires.home) ∙ c.laws.ensures.crossed.placed Row c.args.key ∙ sym (ap is_some c.get.ensures) ∙ sym (ap is_some c.in_default.ensures))

pub returns-clause-mend : goal.returns-clause-mend
returns-clause-mend c =
    let later = at_keys c.args.records.now.items (behind c.args.key (chain_of c.args.records.now.rows c.args.object)) in
    let fits : to_z w64 (of_z w64 c.content.result) ≡ c.content.result = grind (arith, to_z-of_z) in
    let kept : to_z w64 (of_z w64 c.climb-write.result.1) ≡ c.climb-write.result.1 = grind (arith, to_z-of_z) in
    c.mend.ensures
    ∙ ap (mend_by c.in-Some.one) (kept ∙ c.climb-write.ensures.value ∙ ap (λ (v : ℤ). summed v later) (fits ∙ c.content.ensures))
    ∙ sym (ap (λ (one : Record). mend_of one later) (read_some c.args.records.now.items c.args.key c.in-Some.one (sym c.get.ensures ∙ sym c.in-Some.ensures)))
