-- The canonical spelling of a tree, which `show` prints: a line for each part, and every operator in parentheses.
-- Carried by: `print`; law `print_laws::reads_back`.
-- Tested by: `spelling.txt`, `expressions.txt`.
use Rattle.std.specs.Prelude.{ℕ, List, [], ◌∷◌, ◌++◌, map, flat_map, Option, Some, None, codes}
use Rattle.std.specs.Fmt.{signed_decimal}
use Rattle.grammar_core.specs.declared.token.Token.{Token}
use Rattle.term_core.specs.declared.operator.UnOp.{UnOp}
use Rattle.term_core.specs.declared.operator.UnOp.TheVariants as un
use Rattle.term_core.specs.declared.operator.BinOp.{BinOp}
use Rattle.term_core.specs.declared.operator.BinOp.TheVariants as bin
use Rattle.term_core.specs.declared.direction.Direction.{Direction}
use Rattle.term_core.specs.declared.direction.Direction.TheVariants.{In, Out}
use Rattle.term_core.specs.declared.flow.FlowKind.{FlowKind}
use Rattle.term_core.specs.declared.flow.FlowKind.TheVariants as kind
use Rattle.jdf_tree.specs.declared.expression.Word.{Word}
use Rattle.jdf_tree.specs.declared.tree.ArgTree.{ArgTree}
use Rattle.jdf_tree.specs.declared.tree.ArgTree.TheVariants.{One, Span}
use Rattle.jdf_tree.specs.declared.tree.DefTree.{DefTree}
use Rattle.jdf_tree.specs.declared.tree.TargetTree.{TargetTree}
use Rattle.jdf_tree.specs.declared.tree.TargetTree.TheVariants.{Task, Element, New, Null}
use Rattle.jdf_tree.specs.declared.tree.DepTree.{DepTree}
use Rattle.jdf_tree.specs.declared.tree.FlowTree.{FlowTree}
use Rattle.jdf_tree.specs.declared.tree.ClassTree.{ClassTree}
use Rattle.jdf_tree.specs.declared.tree.Jdf.{Jdf}
use Rattle.jdf_tree.specs.Expression as tree
use Rattle.jdf_tree.specs.Expression.{Expression}
use Rattle.jdf_print.specs.Fragments.{Fragment, token, blank, space, newline, text, line, between, separated, with_commas}

-- the word of a prefix operator
abbrev pub sign : UnOp → List ℕ
sign un.Neg = codes "-"
sign un.Not = codes "!"

-- The word of an infix operator; And is `&&`, and Or is `||`.
abbrev pub operator : BinOp → List ℕ
operator bin.Add = codes "+"
operator bin.Sub = codes "-"
operator bin.Mul = codes "*"
operator bin.Div = codes "/"
operator bin.Rem = codes "%"
operator bin.Eq = codes "=="
operator bin.Ne = codes "!="
operator bin.Lt = codes "<"
operator bin.Le = codes "<="
operator bin.Gt = codes ">"
operator bin.Ge = codes ">="
operator bin.And = codes "&&"
operator bin.Or = codes "||"

-- Fragments in parentheses.
abbrev pub enclosed : List Fragment → List Fragment
enclosed fragments = token (codes "(") ∷ (fragments ++ token (codes ")") ∷ [])

-- An expression: every operator is in parentheses with its operands.
abbrev pub expression : Expression → List Fragment
expression (tree.Num z spot) = token (signed_decimal z) ∷ []
expression (tree.Name w) = token w.text ∷ []
expression (tree.Elem w a) = token w.text ∷ token (codes "[") ∷ (expression a ++ token (codes "]") ∷ [])
expression (tree.Unary o a spot) = enclosed (token (sign o) ∷ expression a)
expression (tree.Binary o a b) = enclosed (expression a ++ (between (operator o) ++ expression b))
expression (tree.Choose c a b) =
    enclosed (expression c ++ (between (codes "?") ++ (expression a ++ (between (codes ":") ++ expression b))))

-- The step of a range, if there is one.
abbrev pub step : Option Expression → List Fragment
step None = []
step (Some e) = between (codes "..") ++ expression e

-- An argument, or the value of a definition.
abbrev pub argument : ArgTree → List Fragment
argument (One e) = expression e
argument (Span spot lo hi by) = expression lo ++ (between (codes "..") ++ (expression hi ++ step by))

-- the arguments of a task or a place, in parentheses
abbrev pub arguments : List ArgTree → List Fragment
arguments args = enclosed (with_commas (map argument args))

-- what a dependence names
abbrev pub target : TargetTree → List Fragment
target (Task flow class args) = token flow.text ∷ space ∷ token class.text ∷ arguments args
target (Element coll args) = token coll.text ∷ arguments args
target (New spot) = token (codes "NEW") ∷ []
target (Null spot) = token (codes "NULL") ∷ []

-- the guard of a dependence and its `?`, if there is one
abbrev pub guard : Option Expression → List Fragment
guard None = []
guard (Some c) = expression c ++ between (codes "?")

-- the target that is taken if the guard is false, after `:`, if there is one
abbrev pub other : Option TargetTree → List Fragment
other None = []
other (Some t) = between (codes ":") ++ target t

-- the type of the tile of a dependence in brackets, if there is one
abbrev pub datatype : Option Word → List Fragment
datatype None = []
datatype (Some w) =
    space ∷ token (codes "[") ∷ token (codes "type") ∷ (between (codes "=") ++ token w.text ∷ token (codes "]") ∷ [])

-- the arrow of a direction
abbrev pub arrow : Direction → List ℕ
arrow In = codes "<-"
arrow Out = codes "->"

-- A dependence, indented by two spaces.
abbrev pub dependence : DepTree → List Fragment
dependence d =
    line
    (blank (codes "  ") ∷ token (arrow d.direction) ∷ space
    ∷ (guard d.guard ++ (target d.yes ++ (other d.no ++ datatype d.datatype))))

-- the word of a kind of flow
abbrev pub kind_word : FlowKind → List ℕ
kind_word kind.Read = codes "READ"
kind_word kind.Write = codes "WRITE"
kind_word kind.Rw = codes "RW"
kind_word kind.Ctl = codes "CTL"

-- A flow, then its dependences.
abbrev pub flow : FlowTree → List Fragment
flow f = line (token (kind_word f.kind) ∷ space ∷ token f.name.text ∷ []) ++ flat_map dependence f.deps

-- a line with a definition
abbrev pub definition : DefTree → List Fragment
definition d = line (token d.name.text ∷ (between (codes "=") ++ argument d.value))

-- a line with the priority, if there is one
abbrev pub priority : Option Expression → List Fragment
priority None = []
priority (Some e) = line (token (codes ";") ∷ space ∷ expression e)

-- The tokens of a body on one line, with single spaces between them, or nothing if there are none.
abbrev pub body : List Token → List Fragment
body [] = []
body (x ∷ xs) = line (separated (space ∷ []) (map (λ t. token t.text ∷ []) (x ∷ xs)))

-- `Name(p, q)`
abbrev pub head : ClassTree → List Fragment
head c = line (token c.name.text ∷ enclosed (with_commas (map (λ w. token w.text ∷ []) c.params)))

-- `: D(a, b)`
abbrev pub affinity : ClassTree → List Fragment
affinity c = line (token (codes ":") ∷ space ∷ token c.affinity.text ∷ arguments c.affinity_args)

-- A class, an empty line before it.
abbrev pub class : ClassTree → List Fragment
class c =
    newline ∷ (head c ++ (flat_map definition c.defs ++ (affinity c ++ (flat_map flow c.flows ++ (priority c.priority
    ++ (line (token (codes "BODY") ∷ []) ++ (body c.body ++ line (token (codes "END") ∷ []))))))))

-- Each global on a line, then each class.
abbrev pub fragments : Jdf → List Fragment
fragments jdf = flat_map (λ w. line (token w.text ∷ [])) jdf.globals ++ flat_map class jdf.classes

-- The canonical spelling.
abbrev pub spelling : Jdf → List ℕ
spelling jdf = text (fragments jdf)
