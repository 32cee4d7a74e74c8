-- Whether each number in the definitions of a class has 64 bits, as those of the text of a JDF and of its data do.
-- Carried by: law `parameters_have_64_bits`.
use Rattle.std.specs.Prelude.{Bool, true, ◌&&◌}
use Rattle.std.specs.Option.{option_map_or}
use Rattle.term_core.specs.Arith.{is_number}
use Rattle.term_core.specs.Term.{Term, Num, Local, Elem, Unary, Binary, Choose}
use Rattle.term_core.specs.declared.space.Def.{Def}
use Rattle.term_core.specs.declared.space.Def.TheVariants.{Span, Value}
use Rattle.term_core.specs.declared.space.Range.{Range}

-- whether each number in an expression has 64 bits
abbrev pub has_numbers : Term → Bool
has_numbers (Num z) = is_number z
has_numbers (Local n) = true
has_numbers (Elem flow at) = has_numbers at
has_numbers (Unary o a) = has_numbers a
has_numbers (Binary o a b) = has_numbers a && has_numbers b
has_numbers (Choose c a b) = has_numbers c && (has_numbers a && has_numbers b)

-- the same for a range
abbrev pub range_has_numbers : Range → Bool
range_has_numbers r = has_numbers r.lo && (has_numbers r.hi && option_map_or has_numbers r.step true)

-- the same for a definition
abbrev pub def_has_numbers : Def → Bool
def_has_numbers (Span r) = range_has_numbers r
def_has_numbers (Value e) = has_numbers e
