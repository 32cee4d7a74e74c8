use Rattle.check_laws.proofs.Least.{first_is_one, none_is_before}
use Rattle.type_rules.proofs.CallerLemmas.{first_append, first_none}
use Rattle.check_laws.proofs.Ordered.{neither_is_before}
use Rattle.check_laws.proofs.faults.the_first_fault_is_the_least.Goals as goal

pub returns-clause-one : goal.returns-clause-one
returns-clause-one c = first_is_one

pub returns-clause-least : goal.returns-clause-least
returns-clause-least c = none_is_before

pub returns-clause-together : goal.returns-clause-together
returns-clause-together c = first_append

pub returns-clause-none : goal.returns-clause-none
returns-clause-none c = first_none

pub returns-clause-order : goal.returns-clause-order
returns-clause-order c = neither_is_before
