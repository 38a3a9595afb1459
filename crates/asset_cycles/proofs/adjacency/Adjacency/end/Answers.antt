use Rattle.std.proofs.Common.{◌≡◌, ◌<◌, ◌∙◌, List, ℕ, length, get_or, ap, arith}
use Rattle.asset_names.specs.Arrows.{Arrow}
use Rattle.asset_cycles.proofs.LeavingLemmas.{no_arrow, row_leads, read_leads}
use Rattle.asset_cycles.proofs.adjacency.Adjacency.end.Goals as goal

pub index-requires : goal.index-requires
index-requires c =
    let way = c.args.self.now in
    let row = c.bucket.result.now in
    let inside : c.args.index < length row = omega (arith, ap (length {A = ℕ}) c.bucket.ensures, c.requires) in
    let leads = row_leads way.arrows.items way.leaving row c.args.node c.args.index way.by_start c.bucket.ensures inside in
    omega (arith, way.arrows.ok.0, leads.0)

pub returns : goal.returns
returns c =
    let way = c.args.self.now in
    let arrows = way.arrows.items in
    let row = c.bucket.result.now in
    let k = get_or row c.args.index 0 in
    let inside : c.args.index < length row = omega (arith, ap (length {A = ℕ}) c.bucket.ensures, c.requires) in
    let leads = row_leads arrows way.leaving row c.args.node c.args.index way.by_start c.bucket.ensures inside in
    let read = read_leads arrows c.args.node k c.index.result.now leads.0 leads.1 c.index.ensures in
    let within = way.below k c.index.result.now leads.0 in
    let end : c.index.result.now.1 ≡ (get_or arrows k c.index.result.now).1 = ap (λ (arrow : Arrow). arrow.1) c.index.ensures in
    record {
      end = read.1 ∙ ap (λ (l : List ℕ). (get_or arrows (get_or l c.args.index 0) no_arrow).1) c.bucket.ensures;
      arrow = read.0;
      below = omega (arith, within.1, end);
    }
