use Rattle.std.proofs.Common.{◌≡◌, ℕ, ◌+◌, ◌*◌, ◌≤◌, length}
use Rattle.grammar_core.specs.Reading.{reading}
use Rattle.jdf_tree.specs.Grammar.{productions}
use Rattle.expr_read.specs.declared.precedence.Precedence.{Precedence}
use Rattle.expr_read.specs.declared.precedence.Precedence.TheVariants as precedence
use Rattle.expr_read.specs.Precedences.{of_precedence}
use Rattle.expr_read.proofs.Loops.{tail, joined}
use Rattle.expr_read.proofs.operators.+expression.Given as goal

abbrev height : Precedence → ℕ
height precedence.Product = 3
height precedence.Sum = 5
height precedence.Relation = 7
height precedence.Equality = 9
height precedence.Conjunction = 11
height precedence.Disjunction = 13

abbrev pub decreases-expression : goal.decreases-expression
decreases-expression l = 16 * length l.tokens.now + 15

abbrev pub decreases-branches : goal.decreases-branches
decreases-branches l = 16 * length l.tokens.now

abbrev pub decreases-operands : goal.decreases-operands
decreases-operands l = 16 * length l.tokens.now + height l.precedence + 1

abbrev pub decreases-operand : goal.decreases-operand
decreases-operand l = 16 * length l.tokens.now + height l.precedence

abbrev pub decreases-unary : goal.decreases-unary
decreases-unary l = 16 * length l.tokens.now + 2

abbrev pub decreases-signed : goal.decreases-signed
decreases-signed l = 16 * length l.tokens.now

abbrev pub decreases-reference : goal.decreases-reference
decreases-reference l = 16 * length l.tokens.now + 1

abbrev pub decreases-element : goal.decreases-element
decreases-element l = 16 * length l.tokens.now

abbrev pub decreases-parens : goal.decreases-parens
decreases-parens l = 16 * length l.tokens.now

abbrev pub decreases-index : goal.decreases-index
decreases-index l = 16 * length l.tokens.now

abbrev pub invariant-operands-loop-operator : goal.invariant-operands-loop-operator
invariant-operands-loop-operator l = record {
  reads : joined l.spot l.left (tail l.part l.precedence l.rest) ≡ reading productions (of_precedence l.precedence l.part) l.tokens;
  shorter : length l.rest ≤ length l.tokens;
}

abbrev pub decreases-operands-loop-operator : goal.decreases-operands-loop-operator
decreases-operands-loop-operator l = length l.rest
