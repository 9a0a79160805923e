use Rattle.survey.proofs.+survey.Given as goal

-- the limit of the height falls at each call
abbrev pub decreases-survey : goal.decreases-survey
decreases-survey l = l.limit
