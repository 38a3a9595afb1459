use Rattle.std.proofs.Common.{ap, ◌∙◌, arith}
use Rattle.asset_grammar.proofs.LineLemmas.{length-lines}
use Rattle.asset_scripts.specs.Renders.{end_at}
use Rattle.asset_check.specs.Checked.{checked}
use Rattle.asset_check.proofs.checking.CheckRender.render.Goals as goal

pub check_lines-requires : goal.check_lines-requires
check_lines-requires c = omega (arith, length-lines c.args.bytes.now, c.requires)

pub returns-in-Ok-clause-rendered : goal.returns-in-Ok-clause-rendered
unfolding checked
returns-in-Ok-clause-rendered c = record {
  text = rw c.new-checker.ensures at c.in-Ok.ensures.text;
  ends = c.end_at.ensures ∙ ap end_at (rw c.new-checker.ensures at c.in-Ok.ensures.bad);
}
