-- The tree of an expression, without its boxes; flat nodes are among its cases.
-- Carried by: `Expr::binary`, `eval`.
-- Tested by: `expressions.txt`.
use Rattle.term_core.specs.declared.expr.Leaf.{Leaf}
use Rattle.term_core.specs.declared.expr.Leaf.TheVariants as leaf
use Rattle.term_core.specs.declared.expr.Node.{Node}
use Rattle.term_core.specs.declared.expr.Node.TheVariants as node
use Rattle.term_core.specs.Term.{Term, Num, Local, Elem, Unary, Binary, Choose}

-- a leaf as a tree
abbrev pub leaf_term : Leaf → Term
leaf_term (leaf.Num z) = Num z
leaf_term (leaf.Local n) = Local n

-- the tree of boxed nodes
abbrev pub term_of : Node → Term
term_of (node.Num z) = Num z
term_of (node.Local n) = Local n
term_of (node.Elem' f p a) = Elem f (term_of a)
term_of (node.ElemAt f a) = Elem f (leaf_term a)
term_of (node.Unary' o p a) = Unary o (term_of a)
term_of (node.Binary' o p a q b) = Binary o (term_of a) (term_of b)
term_of (node.Flat o a b) = Binary o (leaf_term a) (leaf_term b)
term_of (node.LeafLeft' o a q b) = Binary o (leaf_term a) (term_of b)
term_of (node.LeafRight' o p a b) = Binary o (term_of a) (leaf_term b)
term_of (node.Choose' p a q b r c) = Choose (term_of a) (term_of b) (term_of c)
