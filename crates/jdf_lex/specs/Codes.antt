-- The codes that the grammar of JDF states, and their numbers.
use Rattle.std.specs.Prelude.{ℕ, List, [], ◌∷◌, slice_get, unwrap_or}
use Rattle.grammar_core.specs.declared.code.Code.{Code}
use Rattle.grammar_core.specs.declared.code.Code.TheVariants.{Stated}
use Rattle.jdf_lex.specs.declared.code.GrammarCode.{GrammarCode}
use Rattle.jdf_lex.specs.declared.code.GrammarCode.TheVariants as grammar

-- the number of a code
abbrev pub code_number : GrammarCode → ℕ
code_number grammar.BadNumber = 0
code_number grammar.ExprTooLong = 1
code_number grammar.TooManyClasses = 2
code_number grammar.TooManyParams = 3
code_number grammar.TooManyLocals = 4
code_number grammar.TooManyFlows = 5
code_number grammar.TooManyDeps = 6
code_number grammar.TooDeep = 7
code_number grammar.TooManyVars = 8

-- all codes, in the order of their numbers
abbrev pub all_codes : List GrammarCode
all_codes =
    grammar.BadNumber ∷ grammar.ExprTooLong ∷ grammar.TooManyClasses ∷ grammar.TooManyParams ∷ grammar.TooManyLocals
    ∷ grammar.TooManyFlows ∷ grammar.TooManyDeps ∷ grammar.TooDeep ∷ grammar.TooManyVars ∷ []

-- The code with this number; BadNumber if there is none (the grammar states no other number).
unfoldable pub code_at : ℕ → GrammarCode
code_at n = unwrap_or (slice_get all_codes n) grammar.BadNumber

-- a code as the grammar states it; the definitions below are the codes by name
abbrev pub stated : GrammarCode → Code
stated c = Stated (code_number c)

abbrev pub BadNumber : Code
BadNumber = stated grammar.BadNumber

abbrev pub ExprTooLong : Code
ExprTooLong = stated grammar.ExprTooLong

abbrev pub TooManyClasses : Code
TooManyClasses = stated grammar.TooManyClasses

abbrev pub TooManyParams : Code
TooManyParams = stated grammar.TooManyParams

abbrev pub TooManyLocals : Code
TooManyLocals = stated grammar.TooManyLocals

abbrev pub TooManyFlows : Code
TooManyFlows = stated grammar.TooManyFlows

abbrev pub TooManyDeps : Code
TooManyDeps = stated grammar.TooManyDeps

abbrev pub TooDeep : Code
TooDeep = stated grammar.TooDeep

abbrev pub TooManyVars : Code
TooManyVars = stated grammar.TooManyVars
