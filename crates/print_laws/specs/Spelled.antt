-- The names of classes, and the numbers in definitions, in the tree of a text.
-- Carried by: law `trees_are_spelled`.
use Rattle.std.specs.Prelude.{Bool, true, false, ◌&&◌, IsTrue}
use Rattle.std.specs.List.{AllByRecursion, list_all}
use Rattle.std.specs.Option.{option_map_or}
use Rattle.ptg_base.specs.Names.{is_name}
use Rattle.term_core.specs.Arith.{is_number}
use Rattle.jdf_tree.specs.Expression.{Expression, Num, Name, Elem, Unary, Binary, Choose}
use Rattle.jdf_tree.specs.declared.tree.ArgTree.{ArgTree}
use Rattle.jdf_tree.specs.declared.tree.ArgTree.TheVariants.{One, Span}
use Rattle.jdf_tree.specs.declared.tree.ClassTree.{ClassTree}
use Rattle.jdf_tree.specs.declared.tree.DefTree.{DefTree}
use Rattle.jdf_tree.specs.declared.tree.Jdf.{Jdf}

-- whether an expression has no element, and each number in it has 64 bits
abbrev pub has_numbers : Expression → Bool
has_numbers (Num z spot) = is_number z
has_numbers (Name w) = true
has_numbers (Elem w at) = false
has_numbers (Unary o a spot) = has_numbers a
has_numbers (Binary o a b) = has_numbers a && has_numbers b
has_numbers (Choose c a b) = has_numbers c && (has_numbers a && has_numbers b)

-- the same for a range, or for a single expression
abbrev pub argument_has_numbers : ArgTree → Bool
argument_has_numbers (One e) = has_numbers e
argument_has_numbers (Span spot lo hi step) =
    has_numbers lo && (has_numbers hi && option_map_or has_numbers step true)

-- the same for the value of a definition
abbrev pub def_has_numbers : DefTree → Bool
def_has_numbers d = argument_has_numbers d.value

-- the name of a class is spelled as a name, and each number in its definitions has 64 bits
pub record IsSpelledClass (c : ClassTree) : Type 0 where
  pub name : IsTrue (is_name c.name.text)
  pub numbers : IsTrue (list_all def_has_numbers c.defs)

-- the same for each class
abbrev pub IsSpelled : Jdf → Type 0
IsSpelled jdf = AllByRecursion IsSpelledClass jdf.classes
