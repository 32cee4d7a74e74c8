-- The grammar of a class of tasks. Source: the JDF documentation, except for `-> NULL`.
-- Carried by: `jdf_read::read`; law `trees_are_within_limits`.
-- Tested by: `spelling.txt`, `as_many_as_may_be.txt`.
use Rattle.std.proofs.Common.{arith}
use Rattle.std.specs.Prelude.{ℕ, ◌≤◌, ◌*◌, Bool, nat_le, not, List, ◌∷◌, Option, Some, None, option_map, ◌||◌, ◌&&◌, if◌then◌else◌}
use Rattle.ptg_base.specs.Limits.{most_dependences, most_flows, most_locals, most_params}
use Rattle.grammar_core.specs.declared.token.Spot.{Spot}
use Rattle.grammar_core.specs.declared.token.Token.{Token}
use Rattle.term_core.specs.declared.direction.Direction.{Direction}
use Rattle.term_core.specs.declared.direction.Direction.TheVariants.{In, Out}
use Rattle.term_core.specs.declared.flow.FlowKind.{FlowKind}
use Rattle.term_core.specs.declared.flow.FlowKind.TheVariants as kind
use Rattle.jdf_lex.specs.declared.terminal.Terminal.{Terminal}
use Rattle.jdf_lex.specs.declared.terminal.Terminal.TheVariants as terminal
use Rattle.grammar_core.specs.declared.code.Code.{Code}
use Rattle.jdf_lex.specs.Codes.{TooManyParams, TooManyLocals, TooManyFlows, TooManyDeps}
use Rattle.jdf_lex.specs.Terminals.{terminal_of, is}
use Rattle.jdf_lex.specs.Counted.{is_name}
use Rattle.grammar_core.specs.Production.{Limit, seq, map, alt, opt, star, limited}
use Rattle.jdf_lex.specs.Sets.{one_of, pick}
use Rattle.jdf_tree.specs.declared.expression.Word.{Word}
use Rattle.jdf_tree.specs.declared.expression.ExprWithSpot.{ExprWithSpot}
use Rattle.jdf_tree.specs.declared.part.Part.TheVariants.{Class}
use Rattle.jdf_tree.specs.declared.tree.ArgTree.{ArgTree}
use Rattle.jdf_tree.specs.declared.tree.ArgTree.TheVariants.{One, Span}
use Rattle.jdf_tree.specs.declared.tree.DefTree.{DefTree}
use Rattle.jdf_tree.specs.declared.tree.TargetTree.{TargetTree}
use Rattle.jdf_tree.specs.declared.tree.TargetTree.TheVariants.{Task, Element, New, Null}
use Rattle.jdf_tree.specs.declared.tree.DepTree.{DepTree}
use Rattle.jdf_tree.specs.declared.tree.FlowTree.{FlowTree}
use Rattle.jdf_tree.specs.declared.tree.ClassTree.{ClassTree}
use Rattle.jdf_tree.specs.Expression.{Expression}
use Rattle.jdf_tree.specs.Nonterminal.{Grammar}
use Rattle.jdf_tree.specs.GrammarParts.{word, prefixed_by, suffixed_by, any, listed, maybe, name}
use Rattle.jdf_tree.specs.ExpressionGrammar.{outer, guard}

-- the code for element i of a list: c from index n on, since these elements are too many
abbrev pub full_at : ℕ → Code → ℕ → Option Code
full_at n c i = if nat_le n i then Some c else None

-- ---- arguments

-- one expression is a value; two or three are a range
abbrev pub argument_of : ExprWithSpot × Option (ExprWithSpot × Option ExprWithSpot) → ArgTree
argument_of (a, None) = One a.tree
argument_of (a, Some (b, step)) = Span a.spot a.tree b.tree (option_map (λ s. s.tree) step)

-- argument = expr (".." expr (".." expr)?)?
unfoldable pub argument : Grammar ArgTree
argument =
    map argument_of
    (seq (outer Class)
    (opt (seq (prefixed_by terminal.Dots (outer Class)) (opt (prefixed_by terminal.Dots (outer Class))))))

-- arguments = argument ("," argument)*
unfoldable pub arguments : Grammar (List ArgTree)
arguments = listed argument

-- call = "(" arguments? ")"
unfoldable pub call : Grammar (List ArgTree)
call = prefixed_by terminal.LeftParen (suffixed_by terminal.RightParen (maybe arguments))

-- ---- dependences

-- one name is a collection's; of two names, the first is a flow's and the second a class's
abbrev pub target_of : Word × (Option Word × List ArgTree) → TargetTree
target_of (a, (None, args)) = Element a args
target_of (a, (Some b, args)) = Task a b args

-- called = name name? call
unfoldable pub called : Grammar TargetTree
called = map target_of (seq (name Class) (seq (opt (name Class)) call))

-- target = name name "(" arguments? ")" | name "(" arguments? ")" | NEW | NULL
unfoldable pub target : Grammar TargetTree
target = alt (map (λ x. New x.spot) (word terminal.New)) (alt (map (λ x. Null x.spot) (word terminal.Null)) called)

-- a dependence after its arrow: its guard, the target if the guard holds, and the target if it does not
abbrev pub Choice : Type 0
Choice = Option Expression × TargetTree × Option TargetTree

-- unguarded = target
unfoldable pub unguarded : Grammar Choice
unguarded = map (λ x. (None, x, None)) target

-- guarded = guard "?" target (":" target)?
unfoldable pub guarded : Grammar Choice
guarded =
    map (λ (condition, (one, other)). (Some condition.tree, one, other))
    (seq guard (prefixed_by terminal.Question (seq target (opt (prefixed_by terminal.Colon target)))))

-- whether a terminal is one of the two arrows
abbrev pub is_arrow : Terminal → Bool
is_arrow k = is terminal.Inward k || is terminal.Outward k

-- the direction of an arrow
abbrev pub direction_by : Terminal → Direction
direction_by terminal.Inward = In
direction_by _ = Out

-- arrow = "<-" | "->"
unfoldable pub arrow : Grammar Direction
arrow = map (λ x. direction_by (terminal_of x)) (one_of is_arrow)

-- the terminals that may follow the first name of a target
abbrev pub may_follow_target_name : Terminal → Bool
may_follow_target_name k = is_name k || is terminal.LeftParen k

-- datatype = "[" type "=" name "]"
unfoldable pub datatype : Grammar Word
datatype =
    prefixed_by terminal.LeftBracket
    (prefixed_by terminal.TypeWord (prefixed_by terminal.Assign (suffixed_by terminal.RightBracket (name Class))))

-- the dependence of an arrow, its targets and its datatype
abbrev pub dependence_of : Direction × (Choice × Option Word) → DepTree
dependence_of (direction, ((condition, one, other), type)) =
    record { direction = direction; guard = condition; yes = one; no = other; datatype = type }

-- dependence = ("<-" | "->") (target | guard "?" target (":" target)?) datatype?
unfoldable pub dependence : Grammar DepTree
dependence = map dependence_of (seq arrow (seq (pick may_follow_target_name unguarded guarded) (opt datatype)))

-- dependences = dependence*, at most 16
unfoldable pub dependences : Grammar (List DepTree)
dependences = star (full_at most_dependences TooManyDeps) dependence

-- ---- flows

-- the terminals that are kinds of flows
abbrev pub is_kind : Terminal → Bool
is_kind k = is terminal.Read k || is terminal.Write k || is terminal.Rw k || is terminal.Ctl k

-- the kind of a flow by its terminal
abbrev pub kind_by : Terminal → FlowKind
kind_by terminal.Read = kind.Read
kind_by terminal.Write = kind.Write
kind_by terminal.Rw = kind.Rw
kind_by _ = kind.Ctl

-- kind = READ | WRITE | RW | CTL
unfoldable pub kind_of_flow : Grammar FlowKind
kind_of_flow = map (λ x. kind_by (terminal_of x)) (one_of is_kind)

-- the flow with this kind, this name and these dependences
abbrev pub flow_of : FlowKind × (Word × List DepTree) → FlowTree
flow_of (k, (w, deps)) = record { kind = k; name = w; deps = deps }

-- flow = kind name dependence*
unfoldable pub flow : Grammar FlowTree
flow = map flow_of (seq kind_of_flow (seq (name Class) dependences))

-- flows = flow*, at most 8
unfoldable pub flows : Grammar (List FlowTree)
flows = star (full_at most_flows TooManyFlows) flow

-- ---- parameters, definitions, affinity, priority

-- how many tokens the greatest number of parameters has, with a comma after each; the token after these is the name
-- that is too many
abbrev pub most_parameter_tokens : ℕ
most_parameter_tokens = 2 * most_params

-- that is at least one token
pub some_tokens : 1 ≤ most_parameter_tokens
some_tokens = omega arith

-- the limit on the tokens of parameters, as a rule of the grammar
abbrev pub parameter_limit : Limit
parameter_limit =
    record { at = λ s. most_parameter_tokens; one = λ s. some_tokens; keeps = λ w r r' h. h; stays = λ w x r r' h. h }

-- parameters = name ("," name)*, at most 8
unfoldable pub parameters : Grammar (List Word)
parameters = limited parameter_limit TooManyParams (listed (name Class))

-- parameter list = "(" parameters? ")"
unfoldable pub parameter_list : Grammar (List Word)
parameter_list = prefixed_by terminal.LeftParen (suffixed_by terminal.RightParen (maybe parameters))

-- the definition with this name and this value
abbrev pub definition_of : Word × ArgTree → DefTree
definition_of (w, value) = record { name = w; value = value }

-- definition = name "=" argument
unfoldable pub definition : Grammar DefTree
definition = map definition_of (seq (name Class) (prefixed_by terminal.Assign argument))

-- definitions = definition*, at most 16
unfoldable pub definitions : Grammar (List DefTree)
definitions = star (full_at most_locals TooManyLocals) definition

-- affinity = ":" name "(" arguments? ")"
unfoldable pub affinity : Grammar (Word × List ArgTree)
affinity = prefixed_by terminal.Colon (seq (name Class) call)

-- priority = ";" expr
unfoldable pub priority : Grammar Expression
priority = map (λ x. x.tree) (prefixed_by terminal.Semicolon (outer Class))

-- ---- properties and bodies

-- the terminals other than "]"
abbrev pub is_no_right_bracket : Terminal → Bool
is_no_right_bracket k = not (is terminal.RightBracket k)

-- properties = "[", tokens other than "]", "]"
unfoldable pub properties : Grammar (List Token)
properties =
    prefixed_by terminal.LeftBracket (suffixed_by terminal.RightBracket (star any (one_of is_no_right_bracket)))

-- whether a token may be in a body: names, numbers, marks, and reserved words other than END
abbrev pub is_in_body : Terminal → Bool
is_in_body k =
    not
    (is terminal.End k || is terminal.Quoted k || is terminal.Raw k || is terminal.OptionLine k
    || is terminal.Other k)

-- whether a token may be the first one of a body: any of these but "["
abbrev pub begins_body : Terminal → Bool
begins_body k = is_in_body k && not (is terminal.LeftBracket k)

-- the tokens of a body, at least one
unfoldable pub body_tokens : Grammar (List Token)
body_tokens = map (λ (one, more). one ∷ more) (seq (one_of begins_body) (star any (one_of is_in_body)))

-- the tokens of a body, and the spot of END
abbrev pub body_of : Option (List Token) × (List Token × Token) → List Token × Spot
body_of (_, (tokens, end)) = (tokens, end.spot)

-- body = BODY properties? tokens? END: the tokens, and the spot of END
unfoldable pub body : Grammar (List Token × Spot)
body = prefixed_by terminal.Body (map body_of (seq (opt properties) (seq (maybe body_tokens) (word terminal.End))))

-- ---- classes

-- a class after its head: definitions, affinity, flows, priority and body
abbrev pub Rest : Type 0
Rest = List DefTree × ((Word × List ArgTree) × (List FlowTree × (Option Expression × (List Token × Spot))))

-- the class with this head and this rest
abbrev pub class_of : (Word × (List Word × Option (List Token))) × Rest → ClassTree
class_of ((name, (params, _)), (defs, ((coll, indices), (flows, (priority, (tokens, end)))))) =
    record {
      name = name;
      params = params;
      defs = defs;
      affinity = coll;
      affinity_args = indices;
      flows = flows;
      priority = priority;
      body = tokens;
      finish = end;
    }

-- head = name "(" parameters? ")" properties?
unfoldable pub head : Grammar (Word × (List Word × Option (List Token)))
head = seq (name Class) (seq parameter_list (opt properties))

-- rest = definition* affinity flow* priority? body
unfoldable pub rest : Grammar Rest
rest = seq definitions (seq affinity (seq flows (seq (opt priority) body)))

-- class = head rest
unfoldable pub class : Grammar ClassTree
class = map class_of (seq head rest)
