use Rattle.filter.proofs.filtering.filter_from.Goals as goal

pub returns-clause-value : goal.returns-clause-value
returns-clause-value c = rw (← c.in_ok-bounded.ensures.1) c.filter_from-outcome.ensures.value
