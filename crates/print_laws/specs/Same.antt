-- Trees that are the same but for positions: each spot, and the start and end of each token, is replaced by one value.
-- Carried by: law `reads_back`.
use Rattle.std.specs.Prelude.{◌≡◌, map, option_map}
use Rattle.grammar_core.specs.declared.token.Spot.{Spot}
use Rattle.grammar_core.specs.declared.token.Token.{Token}
use Rattle.jdf_tree.specs.declared.expression.Word.{Word}
use Rattle.jdf_tree.specs.declared.tree.ArgTree.{ArgTree}
use Rattle.jdf_tree.specs.declared.tree.ArgTree.TheVariants.{One, Span}
use Rattle.jdf_tree.specs.declared.tree.DefTree.{DefTree}
use Rattle.jdf_tree.specs.declared.tree.TargetTree.{TargetTree}
use Rattle.jdf_tree.specs.declared.tree.TargetTree.TheVariants.{Task, Element, New, Null}
use Rattle.jdf_tree.specs.declared.tree.DepTree.{DepTree}
use Rattle.jdf_tree.specs.declared.tree.FlowTree.{FlowTree}
use Rattle.jdf_tree.specs.declared.tree.ClassTree.{ClassTree}
use Rattle.jdf_tree.specs.declared.tree.Jdf.{Jdf}
use Rattle.jdf_tree.specs.Expression.{Expression, Num, Name, Elem, Unary, Binary, Choose}

-- The spot that replaces every spot.
abbrev pub nowhere : Spot
nowhere = record { line = 1; column = 1 }

-- a name with its spot replaced
abbrev pub word : Word → Word
word w = record { text = w.text; spot = nowhere }

-- a token with its positions replaced; its text and its terminal stay
abbrev pub token : Token → Token
token x = record { terminal = x.terminal; text = x.text; start = 0; end = 0; spot = nowhere }

-- an expression with each spot replaced
abbrev pub expression : Expression → Expression
expression (Num z spot) = Num z nowhere
expression (Name w) = Name (word w)
expression (Elem w a) = Elem (word w) (expression a)
expression (Unary o a spot) = Unary o (expression a) nowhere
expression (Binary o a b) = Binary o (expression a) (expression b)
expression (Choose c a b) = Choose (expression c) (expression a) (expression b)

-- an argument with each spot replaced
abbrev pub argument : ArgTree → ArgTree
argument (One e) = One (expression e)
argument (Span spot lo hi by) = Span nowhere (expression lo) (expression hi) (option_map expression by)

-- a definition with each spot replaced
abbrev pub definition : DefTree → DefTree
definition d = record { name = word d.name; value = argument d.value }

-- a target with each spot replaced
abbrev pub target : TargetTree → TargetTree
target (Task flow class args) = Task (word flow) (word class) (map argument args)
target (Element coll args) = Element (word coll) (map argument args)
target (New spot) = New nowhere
target (Null spot) = Null nowhere

-- a dependence with each spot replaced
abbrev pub dependence : DepTree → DepTree
dependence d =
    record {
      direction = d.direction;
      guard = option_map expression d.guard;
      yes = target d.yes;
      no = option_map target d.no;
      datatype = option_map word d.datatype;
    }

-- a flow with each spot replaced
abbrev pub flow : FlowTree → FlowTree
flow f = record { kind = f.kind; name = word f.name; deps = map dependence f.deps }

-- a class with each spot replaced
abbrev pub class : ClassTree → ClassTree
class c =
    record {
      name = word c.name;
      params = map word c.params;
      defs = map definition c.defs;
      affinity = word c.affinity;
      affinity_args = map argument c.affinity_args;
      flows = map flow c.flows;
      priority = option_map expression c.priority;
      body = map token c.body;
      finish = nowhere;
    }

-- The tree without positions.
abbrev pub plain : Jdf → Jdf
plain jdf = record { globals = map word jdf.globals; classes = map class jdf.classes }

-- The trees are the same but for positions.
abbrev pub IsSame : Jdf → Jdf → Type 0
IsSame a b = plain a ≡ plain b
