-- Complete answers.
-- Carried by: law `cert_check::a_job_is_complete_without_cycle_and_trap`.
use Rattle.flow_meaning.specs.declared.outcome.Outcome.{Outcome}
use Rattle.flow_meaning.specs.declared.outcome.Outcome.TheVariants.{Complete, Trapped, Stalled}

-- all tasks ran, and none trapped
abbrev pub IsComplete : Outcome → Type 0
IsComplete (Complete tasks final) = Unit {0}
IsComplete (Trapped rows) = ⊥
IsComplete (Stalled ran all rows) = ⊥
