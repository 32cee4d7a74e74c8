-- What a name in an expression means, and the number that it stands for. Source: the JDF documentation; the language of
-- bodies is this project's own choice.
-- Carried by: `term_of`, and with it `type_check::check`, `body_lang::resolve`.
-- Tested by: `type_faults.txt`, `body_names.txt`.
use Rattle.std.specs.Prelude.{ℕ, ℤ, Bool, Option, Ok, if◌then◌else◌}
use Rattle.std.specs.Option.{option_map_or}
use Rattle.jdf_lex.specs.declared.fault.JdfCode.TheVariants.{UnknownName, WrongKind}
use Rattle.term_core.specs.Term.{Term}
use Rattle.term_core.specs.Term as term
use Rattle.jdf_tree.specs.declared.expression.Word.{Word}
use Rattle.expr_names.specs.declared.meaning.Meaning.{Meaning}
use Rattle.expr_names.specs.declared.meaning.Meaning.TheVariants as meaning
use Rattle.expr_names.specs.Symbols.{Resolved, fault_at}

-- a collection, or nothing
abbrev pub collection_or_nothing : Bool → Meaning
collection_or_nothing b = if b then meaning.Collection else meaning.Nothing

-- A name that is no variable means a local of the class, or else a global.
abbrev pub outer_meaning : Option ℕ → Option ℤ → Bool → Meaning
outer_meaning local integer is_collection =
    option_map_or meaning.Local local (option_map_or meaning.Integer integer (collection_or_nothing is_collection))

-- the term of a name that means a number; a fault if it means a collection or nothing
abbrev pub value_of : Word → Meaning → Resolved Term
value_of w (meaning.Variable n) = Ok (term.Local n)
value_of w (meaning.LoopVariable n) = Ok (term.Local n)
value_of w (meaning.Local n) = Ok (term.Local n)
value_of w (meaning.Integer z) = Ok (term.Num z)
value_of w meaning.Collection = fault_at w WrongKind
value_of w meaning.Nothing = fault_at w UnknownName
