use Rattle.asset_ends.proofs.TwiceLemmas.{nobody}
use Rattle.asset_ends.proofs.EndingLemmas.{none_ending, next_ending, next_live, all_ended}
use Rattle.asset_ends.proofs.ending.end_marked.Goals as goal

pub marked-init : goal.marked-init
unfolding nobody
marked-init c = none_ending c.args.how _ (c.laws.ensures c.args.how) c.requires.live c.requires.tied

pub next_marked_sitter-requires : goal.next_marked_sitter-requires
next_marked_sitter-requires c = record { tied = c.marked.invariant.tied.deps }

pub end_one-requires-clause-live : goal.end_one-requires-clause-live
end_one-requires-clause-live c = next_live c.args.how _ _ _ c.in-Some.one.t.0 c.marked.invariant c.in-Some.ensures.last.0

pub marked-preserved : goal.marked-preserved
marked-preserved c =
    next_ending c.args.how _ _ c.next_marked_sitter.new.self _ c.in-Some.one.t.0 c.marked.invariant c.in-Some.ensures.last.0 c.in-Some.ensures.last.1 c.next_marked_sitter.ensures.dependencies c.end_one.ensures.ended
    (c.end_one.ensures.marked c.in-Some.ensures.last.1) c.end_one.ensures.tied

pub returns-clause-ended : goal.returns-clause-ended
returns-clause-ended c = rw c.in_default.ensures.none.1 (all_ended c.args.how _ _ c.marked.invariant c.in_default.ensures.none.0)
