use Rattle.sheet.proofs.bodies.+acts.Given as goal

abbrev pub decreases-acts : goal.decreases-acts
decreases-acts l = l.count
