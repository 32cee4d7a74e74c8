-- The expressions of a class outside its body: the faults of their names, and their terms. Source: the JDF
-- documentation.
-- Carried by: `type_check::check`.
-- Tested by: `type_faults.txt`, `type_places.txt`.
use Rattle.std.specs.Prelude.{List, [], ◌∷◌, ◌++◌, Option}
use Rattle.std.specs.Result.{result_ok}
use Rattle.std.specs.Option.{option_map_or}
use Rattle.term_core.specs.Term.{Term}
use Rattle.jdf_tree.specs.Expression.{Expression, Num, Name, Elem, Unary, Binary, Choose}
use Rattle.expr_names.specs.Symbols.{SymbolTable, fault_at}
use Rattle.expr_names.specs.Meanings.{value_of}
use Rattle.expr_names.specs.Expressions as expression
use Rattle.type_rules.specs.TreesAndFaults.{JdfFault, DefTree, UnknownName}
use Rattle.type_rules.specs.Faults.{earlier, fault, resolved_faults}
use Rattle.type_rules.specs.Returns.{each_option}
use Rattle.type_rules.specs.Names.{Job, meaning_of}

-- the faults of the names in an expression that sees these definitions; only a body has flows before an index
abbrev pub expression_faults : Job → List DefTree → Expression → List JdfFault
expression_faults job seen (Num z spot) = []
expression_faults job seen (Name w) = resolved_faults (value_of w (meaning_of job seen w.text))
expression_faults job seen (Elem w at) = fault w.spot UnknownName ∷ expression_faults job seen at
expression_faults job seen (Unary o a spot) = expression_faults job seen a
expression_faults job seen (Binary o a b) = expression_faults job seen a ++ expression_faults job seen b
expression_faults job seen (Choose c a b) =
    expression_faults job seen c ++ (expression_faults job seen a ++ expression_faults job seen b)

-- the meanings of names when these definitions are seen; only a body has flows before an index
abbrev pub symbols_of : Job → List DefTree → SymbolTable
symbols_of job seen =
    record {
      meaning = meaning_of job seen;
      flow = λ w. fault_at w UnknownName;
      reported = earlier;
    }

-- the term of an expression, if each of its names means a number
unfoldable pub term_of : Job → List DefTree → Expression → Option Term
term_of job seen e = result_ok (expression.term_of (symbols_of job seen) e)

-- the faults of an expression that may be left out
abbrev pub option_faults : Job → List DefTree → Option Expression → List JdfFault
option_faults job seen e = option_map_or (expression_faults job seen) e []

-- the term of an expression that may be left out
abbrev pub option_term : Job → List DefTree → Option Expression → Option (Option Term)
option_term job seen e = each_option (term_of job seen) e
