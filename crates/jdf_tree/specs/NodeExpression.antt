-- The expression of a tree of boxed nodes.
use Rattle.jdf_tree.specs.declared.expression.ExprNode.{ExprNode}
use Rattle.jdf_tree.specs.declared.expression.ExprNode.TheVariants as node
use Rattle.jdf_tree.specs.Expression.{Expression, Num, Name, Elem, Unary, Binary, Choose}

-- the expression of a tree of boxed nodes
abbrev pub expression_of : ExprNode → Expression
expression_of (node.Num z spot) = Num z spot
expression_of (node.Name w) = Name w
expression_of (node.Elem' w p a) = Elem w (expression_of a)
expression_of (node.Unary' o p a spot) = Unary o (expression_of a) spot
expression_of (node.Binary' o p a q b) = Binary o (expression_of a) (expression_of b)
expression_of (node.Choose' p a q b r c) = Choose (expression_of a) (expression_of b) (expression_of c)
