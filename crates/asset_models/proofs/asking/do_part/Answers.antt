use Rattle.asset_models.proofs.asking.do_part.Goals as goal

pub returns-clause-follows : goal.returns-clause-follows
returns-clause-follows g c = rw c.deref.ensures.value at c.do_acts.ensures.follows

pub returns-clause-cut : goal.returns-clause-cut
returns-clause-cut g c = rw c.deref.ensures.value at c.do_acts.ensures.cut
