-- What names are bound to between two tokens of a body: which variables are seen, and what has been numbered so far.
-- Carried by: `resolve`.
-- Tested by: `body_names.txt`, `body_variables.txt`.
use Rattle.std.specs.Prelude.{ℕ, ◌+◌, Bool, List, [], ◌∷◌, ◌++◌, length, take, drop, Option, Some, None, if◌then◌else◌, nat_lt, Ok}
use Rattle.std.specs.Str.{bytes_eq}
use Rattle.name_table.specs.Names.{index_named}
use Rattle.std.specs.List.{list_any}
use Rattle.ptg_base.specs.Limits.{most_variables}
use Rattle.jdf_lex.specs.declared.fault.JdfCode.TheVariants.{NameTwice, TooManyVars}
use Rattle.jdf_tree.specs.declared.expression.Word.{Word}
use Rattle.body_lang.specs.declared.bindings.BindingTable.{BindingTable}
use Rattle.body_lang.specs.declared.variable.Variable.{Variable}
use Rattle.body_lang.specs.Environment.{Environment}
use Rattle.expr_names.specs.Symbols.{Resolved, fault_at}

-- what names are bound to between two tokens of a body
pub record Bindings : Type 0 where
  -- the variables that are seen, in the order of their declarations
  pub seen : List Variable
  -- how many of these belong to blocks around the innermost one
  pub outside : ℕ
  -- how many variables the body has declared so far
  pub declared : ℕ
  -- the trap words so far, in the order of their first use
  pub words : List (List ℕ)

-- the bindings before a body
abbrev pub no_bindings : Bindings
no_bindings = record { seen = []; outside = 0; declared = 0; words = [] }

-- the bindings in a table of the code
abbrev pub bindings_of : BindingTable → Bindings
bindings_of names =
    record { seen = names.seen.items; outside = names.outside; declared = names.declared; words = names.words }

-- the bindings inside a block that opens here
abbrev pub block_opened : Bindings → Bindings
block_opened k = record k { outside = length k.seen }

-- the bindings after a block, from those before it: the block's variables are no longer seen
abbrev pub block_closed : Bindings → Bindings → Bindings
block_closed before inside = record inside { seen = take (length before.seen) inside.seen; outside = before.outside }

-- the slot of the next variable; the locals of the class have the first slots
abbrev pub next_slot : Environment → Bindings → ℕ
next_slot scope k = length scope.locals + k.declared

-- the bindings after the declaration of a variable, which may be a loop's
abbrev pub with_variable : Environment → List ℕ → Bool → Bindings → Bindings
with_variable scope name is_loop_variable k =
    record k {
      seen = k.seen ++ record { name = name; slot = next_slot scope k; is_loop_variable = is_loop_variable } ∷ [];
      declared = k.declared + 1;
    }

-- A fault at the name if there is no room for one more variable. In a body that was read there always is room: at the
-- `int` or `for` of the 257th variable, its text would have been refused.
abbrev pub require_room : Word → Bindings → Resolved (Unit {0})
require_room w k = if nat_lt k.declared most_variables then Ok tt else fault_at w TooManyVars

-- a fault at the name if the innermost block has a variable of this name
abbrev pub require_fresh : Word → Bindings → Resolved (Unit {0})
require_fresh w k =
    if list_any (λ (v : Variable). bytes_eq v.name w.text) (drop k.outside k.seen) then fault_at w NameTwice else Ok tt

-- the number of a trap word: its index among the words so far, or else the next number
abbrev pub numbered : List ℕ → Bindings → Option ℕ → ℕ × Bindings
numbered name k (Some n) = (n, k)
numbered name k None = (length k.words, record k { words = k.words ++ name ∷ [] })

-- the number of a trap word
abbrev pub word_number : List ℕ → Bindings → ℕ × Bindings
word_number name k = numbered name k (index_named k.words name)
