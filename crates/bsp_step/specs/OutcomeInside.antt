-- An outcome's parts, from its fields.
use Rattle.bsp_step.specs.declared.outcome.Outcome.TheInside.{Inside}
use Rattle.bsp_step.specs.OutcomeParts.{OutcomeParts, IsOutcome}
use Rattle.bsp_step.specs.Inside.Turned.{outcome_left}

abbrev pub outcome_parts : Inside → OutcomeParts
outcome_parts o = outcome_left o.turned

abbrev pub IsLawful : Inside → Type 0
IsLawful o = IsOutcome (outcome_parts o)
