use Rattle.std.proofs.Common.{◌≡◌, ◌++◌, ◌∷◌, [], suc, length, get_or, ap, ◌∙◌, arith}
use Rattle.std.proofs.lemmas.List.{length_push, get_or_read}
use Rattle.asset_name_groups.specs.Index.{bucket_in}
use Rattle.asset_name_groups.proofs.IndexLemmas.{one_name_more}
use Rattle.asset_name_groups.proofs.index.add_name.Goals as goal

pub returns-clause-indexed : goal.returns-clause-indexed
returns-clause-indexed c =
    let names : c.push_reserved-2.new.self.items ≡ c.args.names.now.items ++ c.args.t ∷ [] = c.push_reserved-2.ensures.items in
    let before : c.push_reserved.new.self.items ≡ c.args.before.now.items ++ c.index.result.now ∷ [] = c.push_reserved.ensures.items in
    let read : c.index.result.now ≡ get_or c.args.last.now.items c.bucket_of-bucket.result 0 =
    get_or_read c.args.last.now.items c.bucket_of-bucket.result c.index.result.now (omega (arith, c.bucket_of-bucket.ensures.within, c.len.ensures)) c.index.ensures 0 in
    let count : c.len-2.result ≡ suc (length c.args.names.now.items) = omega (arith, c.len-2.ensures, ap length names, length_push c.args.names.now.items c.args.t) in
    let buckets : c.len.result ≡ length c.args.last.now.items = omega (arith, c.len.ensures) in
    rw (names, before, read, count) (one_name_more c.args.names.now.items c.args.before.now.items c.args.last.now.items c.args.t c.bucket_of-bucket.result c.requires.indexed
    (c.bucket_of-bucket.ensures.bucket ∙ ap (bucket_in c.args.t) buckets) (omega (arith, c.bucket_of-bucket.ensures.within, c.len.ensures)))
