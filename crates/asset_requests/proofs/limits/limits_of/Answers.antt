use Rattle.asset_requests.proofs.limits.limits_of.Goals as goal

pub returns-clause-in_range : goal.returns-clause-in_range
returns-clause-in_range c = record {
  capacity = c.in_ok-capacity.ensures.in_range;
  some = c.in_ok-workers.ensures.in_range.0;
  few = c.in_ok-workers.ensures.in_range.1;
  turns = c.in_ok-turns.ensures.in_range;
}
