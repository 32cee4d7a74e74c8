-- No limit of the grammar has the code Syntax.
use Rattle.std.proofs.Common.{◌≡◌, ℕ, Bool, true, false, cond, refl}
use Rattle.std.specs.Prelude.{Some, None, nat_le}
use Rattle.grammar_core.specs.declared.code.Code.{Code}
use Rattle.grammar_core.specs.Predictive.{is_limit, are_limits}
use Rattle.grammar_core.proofs.CallerLemmas.{LimitsOnly}
use Rattle.jdf_tree.specs.declared.part.Part.{Part}
use Rattle.jdf_tree.specs.declared.part.Part.TheVariants.{Class, Body}
use Rattle.jdf_tree.specs.Nonterminal.{Nonterminal, an_expr, a_unary, a_file, a_block}
use Rattle.jdf_tree.specs.ExpressionGrammar.{number, parens, index, reference, signed, unary, product, sum, relation, equality, conjunction}
use Rattle.jdf_tree.specs.ExpressionGrammar.{disjunction, branches, expr, outer, guard}
use Rattle.jdf_tree.specs.ClassGrammar.{full_at, argument, arguments, call, called, target, unguarded, guarded, arrow, datatype, dependence}
use Rattle.jdf_tree.specs.ClassGrammar.{dependences, kind_of_flow, flow, flows, parameters, parameter_list, definition, definitions, affinity}
use Rattle.jdf_tree.specs.ClassGrammar.{priority, properties, body_tokens, body, head, rest, class}
use Rattle.jdf_tree.specs.BodyGrammar.{block, value, declaration, element, assignment, condition, otherwise, choice, for_loop, trap_statement}
use Rattle.jdf_tree.specs.BodyGrammar.{statement, statements, block_rest, text, body as body_text}
use Rattle.jdf_tree.specs.Grammar.{skip, class_and_skips, classes, file_after_extern, file_after_option, file_after_properties, file_after_global}
use Rattle.jdf_tree.specs.Grammar.{file, productions}

-- ---- expressions

number_limits : LimitsOnly number
unfolding number
number_limits = refl

parens_limits : (part : Part) → LimitsOnly (parens part)
unfolding parens
parens_limits part = (tt, tt)

index_limits : LimitsOnly index
unfolding index
index_limits = (tt, tt)

reference_limits : (part : Part) → LimitsOnly (reference part)
unfolding reference
reference_limits Class = tt
reference_limits Body = (tt, index_limits)

signed_limits : (part : Part) → LimitsOnly (signed part)
unfolding signed
signed_limits part = tt

unary_limits : (part : Part) → LimitsOnly (unary part)
unfolding unary
unary_limits part = (signed_limits part, (number_limits, (reference_limits part, parens_limits part)))

product_limits : (part : Part) → LimitsOnly (product part)
unfolding product
product_limits part = (unary_limits part, ((tt, unary_limits part), λ i. refl))

sum_limits : (part : Part) → LimitsOnly (sum part)
unfolding sum
sum_limits part = (product_limits part, ((tt, product_limits part), λ i. refl))

relation_limits : (part : Part) → LimitsOnly (relation part)
unfolding relation
relation_limits part = (sum_limits part, ((tt, sum_limits part), λ i. refl))

equality_limits : (part : Part) → LimitsOnly (equality part)
unfolding equality
equality_limits part = (relation_limits part, ((tt, relation_limits part), λ i. refl))

conjunction_limits : (part : Part) → LimitsOnly (conjunction part)
unfolding conjunction
conjunction_limits part = (equality_limits part, ((tt, equality_limits part), λ i. refl))

disjunction_limits : (part : Part) → LimitsOnly (disjunction part)
unfolding disjunction
disjunction_limits part = (conjunction_limits part, ((tt, conjunction_limits part), λ i. refl))

branches_limits : (part : Part) → LimitsOnly (branches part)
unfolding branches
branches_limits part = (tt, tt)

expr_limits : (part : Part) → LimitsOnly (expr part)
unfolding expr
expr_limits part = (disjunction_limits part, branches_limits part)

pub outer_limits : (part : Part) → LimitsOnly (outer part)
unfolding outer
outer_limits part = (expr_limits part, refl)

guard_limits : LimitsOnly guard
unfolding guard
guard_limits = (disjunction_limits Class, refl)

-- ---- classes

from_number : (n : ℕ) (c : Code) → is_limit c ≡ true → (i : ℕ) → are_limits (full_at n c i) ≡ true
from_number n c h i = go (nat_le n i)
  where
    go : (b : Bool) → are_limits (cond b (Some c) None) ≡ true
    go true = h
    go false = refl

argument_limits : LimitsOnly argument
unfolding argument
argument_limits = (outer_limits Class, ((tt, outer_limits Class), (tt, outer_limits Class)))

arguments_limits : LimitsOnly arguments
unfolding arguments
arguments_limits = (argument_limits, ((tt, argument_limits), λ i. refl))

call_limits : LimitsOnly call
unfolding call
call_limits = (tt, (arguments_limits, tt))

called_limits : LimitsOnly called
unfolding called
called_limits = (tt, (tt, call_limits))

target_limits : LimitsOnly target
unfolding target
target_limits = (tt, (tt, called_limits))

unguarded_limits : LimitsOnly unguarded
unfolding unguarded
unguarded_limits = target_limits

guarded_limits : LimitsOnly guarded
unfolding guarded
guarded_limits = (guard_limits, (tt, (target_limits, (tt, target_limits))))

datatype_limits : LimitsOnly datatype
unfolding datatype
datatype_limits = (tt, (tt, (tt, (tt, tt))))

dependence_limits : LimitsOnly dependence
unfolding dependence arrow
dependence_limits = (tt, ((unguarded_limits, guarded_limits), datatype_limits))

dependences_limits : LimitsOnly dependences
unfolding dependences
dependences_limits = (dependence_limits, from_number 16 _ refl)

flow_limits : LimitsOnly flow
unfolding flow kind_of_flow
flow_limits = (tt, (tt, dependences_limits))

flows_limits : LimitsOnly flows
unfolding flows
flows_limits = (flow_limits, from_number 8 _ refl)

parameter_list_limits : LimitsOnly parameter_list
unfolding parameter_list parameters
parameter_list_limits = (tt, (((tt, ((tt, tt), λ i. refl)), refl), tt))

definition_limits : LimitsOnly definition
unfolding definition
definition_limits = (tt, (tt, argument_limits))

definitions_limits : LimitsOnly definitions
unfolding definitions
definitions_limits = (definition_limits, from_number 16 _ refl)

affinity_limits : LimitsOnly affinity
unfolding affinity
affinity_limits = (tt, (tt, call_limits))

priority_limits : LimitsOnly priority
unfolding priority
priority_limits = (tt, outer_limits Class)

properties_limits : LimitsOnly properties
unfolding properties
properties_limits = (tt, ((tt, λ i. refl), tt))

body_limits : LimitsOnly body
unfolding body body_tokens
body_limits = (tt, (properties_limits, ((tt, (tt, λ i. refl)), tt)))

class_limits : LimitsOnly class
unfolding class head rest
class_limits = ((tt, (parameter_list_limits, properties_limits)), (definitions_limits, (affinity_limits, (flows_limits, (priority_limits, body_limits)))))

-- ---- texts

skip_limits : LimitsOnly skip
unfolding skip
skip_limits = ((tt, (tt, tt)), tt)

class_and_skips_limits : LimitsOnly class_and_skips
unfolding class_and_skips
class_and_skips_limits = (class_limits, (skip_limits, λ i. refl))

classes_limits : LimitsOnly classes
unfolding classes
classes_limits = (class_and_skips_limits, (class_and_skips_limits, from_number 63 _ refl))

pub file_limits : LimitsOnly file
unfolding file file_after_extern file_after_option file_after_properties file_after_global
file_limits = ((tt, (tt, tt)), (tt, (classes_limits, ((tt, (tt, ((tt, λ i. refl), tt))), tt))))

-- ---- bodies

block_limits : LimitsOnly block
unfolding block
block_limits = tt

value_limits : LimitsOnly value
unfolding value
value_limits = (tt, (outer_limits Body, tt))

declaration_limits : LimitsOnly declaration
unfolding declaration
declaration_limits = (tt, (tt, value_limits))

element_limits : LimitsOnly element
unfolding element
element_limits = (tt, (outer_limits Body, tt))

assignment_limits : LimitsOnly assignment
unfolding assignment
assignment_limits = (tt, (element_limits, value_limits))

condition_limits : LimitsOnly condition
unfolding condition
condition_limits = (tt, (outer_limits Body, tt))

otherwise_limits : LimitsOnly otherwise
unfolding otherwise
otherwise_limits = (tt, block_limits)

choice_limits : LimitsOnly choice
unfolding choice
choice_limits = (tt, (condition_limits, (block_limits, otherwise_limits)))

for_loop_limits : LimitsOnly for_loop
unfolding for_loop
for_loop_limits = (tt, (tt, ((tt, outer_limits Body), ((tt, outer_limits Body), block_limits))))

stop_limits : LimitsOnly trap_statement
unfolding trap_statement
stop_limits = (tt, (tt, tt))

statement_limits : LimitsOnly statement
unfolding statement
statement_limits = (declaration_limits, (choice_limits, (for_loop_limits, (stop_limits, assignment_limits))))

statements_limits : LimitsOnly statements
unfolding statements
statements_limits = (statement_limits, λ i. refl)

block_rest_limits : LimitsOnly block_rest
unfolding block_rest
block_rest_limits = (statements_limits, tt)

pub text_limits : LimitsOnly text
unfolding text
text_limits = (block_limits, statements_limits)

pub body_text_limits : LimitsOnly body_text
unfolding body_text
body_text_limits = ((text_limits, refl), refl)

pub productions_limits : (n : Nonterminal) → LimitsOnly (productions n)
unfolding productions
productions_limits (an_expr part) = expr_limits part
productions_limits (a_unary part) = unary_limits part
productions_limits a_file = file_limits
productions_limits a_block = block_rest_limits
