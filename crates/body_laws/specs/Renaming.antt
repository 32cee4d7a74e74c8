-- Another name for one variable of a body. A variable hides an outer one to the end of its block, as in most languages
-- with blocks.
-- Carried by: law `another_name_changes_nothing`.
use Rattle.std.specs.Prelude.{◌≡◌, ℕ, Bool, false, ◌||◌, List, ◌∷◌, ◌++◌, if◌then◌else◌, Ok}
use Rattle.std.specs.Str.{bytes_eq}
use Rattle.std.specs.List.{list_any}
use Rattle.term_core.specs.declared.body.Stmt.{Stmt}
use Rattle.term_core.specs.StatementList.{StatementList}
use Rattle.jdf_tree.specs.declared.expression.Word.{Word}
use Rattle.jdf_tree.specs.Expression.{Expression, Num, Name, Elem, Unary, Binary, Choose}
use Rattle.jdf_tree.specs.Statements.{Statements, Done, DeclareThen, SetThen, PutThen, IfThen, ForThen, TrapThen}
use Rattle.body_lang.specs.Environment.{Environment}
use Rattle.body_lang.specs.declared.variable.Variable.{Variable}
use Rattle.body_lang.specs.Bindings.{Bindings, next_slot}
use Rattle.body_lang.specs.Statements.{for_loop, resolved}

-- a word with another name
abbrev pub named : List ℕ → Word → Word
named new w = record w { text = new }

-- a word, with the new name if it has the old one
abbrev pub renamed_word : List ℕ → List ℕ → Word → Word
renamed_word old new w = if bytes_eq w.text old then named new w else w

-- an expression with `f` applied to each name of a value; a name before an index, which names a flow, stays
abbrev pub with_words : (Word → Word) → Expression → Expression
with_words f (Num z spot) = Num z spot
with_words f (Name w) = Name (f w)
with_words f (Elem w at) = Elem w (with_words f at)
with_words f (Unary o a spot) = Unary o (with_words f a) spot
with_words f (Binary o a b) = Binary o (with_words f a) (with_words f b)
with_words f (Choose c a b) = Choose (with_words f c) (with_words f a) (with_words f b)

-- an expression with the new name of a variable in place of the old one
abbrev pub renamed_term : List ℕ → List ℕ → Expression → Expression
renamed_term old new e = with_words (renamed_word old new) e

-- statements that see a variable, with its new name. It is seen to the end of its block, also in inner blocks, but not
-- once another variable of its old name is declared there.
abbrev pub renamed : List ℕ → List ℕ → Statements → Statements
renamed old new Done = Done
renamed old new (DeclareThen w e rest) =
    DeclareThen w (renamed_term old new e) (if bytes_eq w.text old then rest else renamed old new rest)
renamed old new (SetThen w e rest) = SetThen (renamed_word old new w) (renamed_term old new e) (renamed old new rest)
renamed old new (PutThen w at e rest) =
    PutThen w (renamed_term old new at) (renamed_term old new e) (renamed old new rest)
renamed old new (IfThen c first second rest) =
    IfThen (renamed_term old new c) (renamed old new first) (renamed old new second) (renamed old new rest)
renamed old new (ForThen w lo hi turn rest) =
    ForThen w (renamed_term old new lo) (renamed_term old new hi)
    (if bytes_eq w.text old then turn else renamed old new turn) (renamed old new rest)
renamed old new (TrapThen w rest) = TrapThen w (renamed old new rest)

-- whether an expression reads a variable, a local or a global of this name
abbrev pub reads : List ℕ → Expression → Bool
reads name (Num z spot) = false
reads name (Name w) = bytes_eq w.text name
reads name (Elem w at) = reads name at
reads name (Unary o a spot) = reads name a
reads name (Binary o a b) = reads name a || reads name b
reads name (Choose c a b) = reads name c || (reads name a || reads name b)

-- whether the name occurs in statements as a variable's may: declared, set or read
abbrev pub occurs : List ℕ → Statements → Bool
occurs name Done = false
occurs name (DeclareThen w e rest) = bytes_eq w.text name || (reads name e || occurs name rest)
occurs name (SetThen w e rest) = bytes_eq w.text name || (reads name e || occurs name rest)
occurs name (PutThen w at e rest) = reads name at || (reads name e || occurs name rest)
occurs name (IfThen c first second rest) =
    reads name c || (occurs name first || (occurs name second || occurs name rest))
occurs name (ForThen w lo hi turn rest) =
    bytes_eq w.text name || (reads name lo || (reads name hi || (occurs name turn || occurs name rest)))
occurs name (TrapThen w rest) = occurs name rest

-- the variable of this name that a declaration adds
abbrev pub declared_variable : Environment → List ℕ → Bindings → Variable
declared_variable scope name k = record { name = name; slot = next_slot scope k; is_loop_variable = false }

-- A declaration's variable gets another name, which occurs nowhere else. If the statements from there to the end of the
-- block have no fault, they stay the same, and of the bindings after them only that variable's name changes.
abbrev pub DeclaredSame : Type 0
DeclaredSame =
    (scope : Environment) (k : Bindings) (new : List ℕ) (w : Word) (e : Expression) (rest : Statements)
    (x : StatementList × Bindings)
    → list_any (λ (v : Variable). bytes_eq v.name new) k.seen ≡ false → occurs new (DeclareThen w e rest) ≡ false
    → resolved scope (DeclareThen w e rest) k ≡ Ok x
    → (more : List Variable) × (x.1.seen ≡ k.seen ++ declared_variable scope w.text k ∷ more)
    × (resolved scope (DeclareThen (named new w) e (renamed w.text new rest)) k
    ≡ Ok (x.0, record x.1 { seen = k.seen ++ declared_variable scope new k ∷ more }))

-- A loop's variable gets another name, which does not occur in the loop's block. If the loop has no fault, it stays the
-- same.
abbrev pub LoopedSame : Type 0
LoopedSame =
    (scope : Environment) (k : Bindings) (new : List ℕ) (w : Word) (lo hi : Expression) (turn : Statements)
    (x : Stmt × Bindings)
    → occurs new turn ≡ false → for_loop scope w lo hi (resolved scope turn) k ≡ Ok x
    → for_loop scope (named new w) lo hi (resolved scope (renamed w.text new turn)) k ≡ Ok x
