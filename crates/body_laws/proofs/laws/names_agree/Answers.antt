use Rattle.std.proofs.Common.{inl, inr, ◌∙◌}
use Rattle.body_lang.specs.TokenScan.{at_first}
use Rattle.body_laws.proofs.Fronts.{none_or_whole, whatever_after}
use Rattle.body_laws.proofs.Nesting.{agrees}
use Rattle.body_laws.proofs.laws.names_agree.Goals as goal

pub returns-clause-whole : goal.returns-clause-whole
returns-clause-whole c scope tokens tree h = agrees scope tokens tree h

pub returns-clause-front : goal.returns-clause-front
returns-clause-front c scope tokens tree n h = elim (none_or_whole scope at_first n tokens) [ inl u ↦ inl u | inr u ↦ inr (u ∙ agrees scope tokens tree h) ]

pub returns-clause-next : goal.returns-clause-next
returns-clause-next c scope front rest other n h = whatever_after scope at_first n front rest other h
