use Rattle.type_rules.proofs.CallerLemmas.{closed_arguments, closed_indices, closed_option, no_ranges}
use Rattle.check_laws.proofs.resolved_parts.what_is_resolved_is_closed.Goals as goal

pub returns-clause-arguments : goal.returns-clause-arguments
returns-clause-arguments c = closed_arguments

pub returns-clause-indices : goal.returns-clause-indices
returns-clause-indices c = closed_indices

pub returns-clause-option : goal.returns-clause-option
returns-clause-option c = closed_option

pub returns-clause-ranges : goal.returns-clause-ranges
returns-clause-ranges c = no_ranges
