-- The statements of a body with their names resolved, or the first name in the text's order that has a fault.
-- Carried by: `resolve`.
-- Tested by: `body_names.txt`, `body_variables.txt`.
use Rattle.std.specs.Prelude.{ℕ, ◌+◌, true, false, List, length, Ok}
use Rattle.term_core.specs.declared.body.Body.{Body}
use Rattle.term_core.specs.declared.body.Stmt.{Stmt}
use Rattle.term_core.specs.declared.body.Stmt.TheVariants as stmt
use Rattle.term_core.specs.BlockStatementList.{then}
use Rattle.term_core.specs.StatementList.{StatementList}
use Rattle.term_core.specs.StatementList as list
use Rattle.ptg_base.specs.Returns.{and_then}
use Rattle.jdf_tree.specs.declared.expression.Word.{Word}
use Rattle.jdf_tree.specs.declared.body.StmtTree.{StmtTree}
use Rattle.jdf_tree.specs.declared.body.StmtTree.TheVariants as tree
use Rattle.jdf_tree.specs.Expression.{Expression}
use Rattle.jdf_tree.specs.Statements.{Statements, Done, DeclareThen, SetThen, PutThen, IfThen, ForThen, TrapThen}
use Rattle.body_lang.specs.Environment.{Environment}
use Rattle.body_lang.specs.Meanings.{meaning_of}
use Rattle.expr_names.specs.Symbols.{Resolved}
use Rattle.body_lang.specs.Expressions.{slot_of, written_flow, term_of}
use Rattle.body_lang.specs.Bindings.{Bindings, no_bindings, block_opened, block_closed, next_slot, with_variable, require_room, require_fresh, word_number}

-- resolves a block, from the bindings before it
abbrev pub Resolver : Type 0
Resolver = Bindings → Resolved (StatementList × Bindings)

-- `int x = e;`: the variable is seen after its declaration
abbrev pub declare : Environment → Word → Expression → Bindings → Resolved (Stmt × Bindings)
declare scope w e k =
    and_then (require_room w k) (λ _. and_then (require_fresh w k) (λ _. and_then (term_of scope k.seen e) (λ x.
    Ok (stmt.Set (next_slot scope k) x, with_variable scope w.text false k))))

-- `x = e;`
abbrev pub set : Environment → Word → Expression → Bindings → Resolved (Stmt × Bindings)
set scope w e k =
    and_then (slot_of w (meaning_of scope k.seen w.text)) (λ n.
    and_then (term_of scope k.seen e) (λ x. Ok (stmt.Set n x, k)))

-- `A[at] = e;`
abbrev pub put : Environment → Word → Expression → Expression → Bindings → Resolved (Stmt × Bindings)
put scope w at e k =
    and_then (written_flow scope w) (λ flow.
    and_then (term_of scope k.seen at) (λ i.
    and_then (term_of scope k.seen e) (λ x.
    Ok (stmt.Put flow i x, k))))

-- a block that opens with these bindings, and after which its variables are no longer seen
abbrev pub in_block : (Bindings → Bindings) → Resolver → Resolver
in_block opening block k = and_then (block (opening k)) (λ (statements, after). Ok (statements, block_closed k after))

-- `if (c) { .. } else { .. }`, given how its two blocks are resolved
abbrev pub if_else : Environment → Expression → Resolver → Resolver → Bindings → Resolved (Stmt × Bindings)
if_else scope c first second k =
    and_then (term_of scope k.seen c) (λ x.
    and_then (in_block block_opened first k) (λ a.
    and_then (in_block block_opened second a.1) (λ b.
    Ok (stmt.If x a.0 b.0, b.1))))

-- `for w = lo .. hi { .. }`, given how its block is resolved: the variable is one of the block's
abbrev pub for_loop : Environment → Word → Expression → Expression → Resolver → Bindings → Resolved (Stmt × Bindings)
for_loop scope w lo hi turn k =
    and_then (require_room w k) (λ _.
    and_then (term_of scope k.seen lo) (λ x.
    and_then (term_of scope k.seen hi) (λ y.
    and_then (in_block (λ m. with_variable scope w.text true (block_opened m)) turn k) (λ t.
    Ok (stmt.For (next_slot scope k) x y t.0, t.1)))))

-- `trap word;`
abbrev pub trap : Word → Bindings → Resolved (Stmt × Bindings)
trap w k = let n = word_number w.text k in Ok (stmt.Trap n.0, n.1)

-- a statement, and then what follows it
abbrev pub follow : Resolved (Stmt × Bindings) → Resolver → Resolved (StatementList × Bindings)
follow first rest = and_then first (λ (one, after). and_then (rest after) (λ (more, end). Ok (then one more, end)))

-- statements in order
abbrev pub resolved : Environment → Statements → Resolver
resolved scope Done k = Ok (list.Done, k)
resolved scope (DeclareThen w e rest) k = follow (declare scope w e k) (resolved scope rest)
resolved scope (SetThen w e rest) k = follow (set scope w e k) (resolved scope rest)
resolved scope (PutThen w at e rest) k = follow (put scope w at e k) (resolved scope rest)
resolved scope (IfThen c first second rest) k =
    follow (if_else scope c (resolved scope first) (resolved scope second) k) (resolved scope rest)
resolved scope (ForThen w lo hi turn rest) k =
    follow (for_loop scope w lo hi (resolved scope turn) k) (resolved scope rest)
resolved scope (TrapThen w rest) k = follow (trap w k) (resolved scope rest)

-- one statement alone
abbrev pub statement_of : Environment → StmtTree → Bindings → Resolved (Stmt × Bindings)
statement_of scope (tree.Declare w e) k = declare scope w e k
statement_of scope (tree.Set w e) k = set scope w e k
statement_of scope (tree.Put w at e) k = put scope w at e k
statement_of scope (tree.If c first second) k = if_else scope c (resolved scope first) (resolved scope second) k
statement_of scope (tree.For w lo hi turn) k = for_loop scope w lo hi (resolved scope turn) k
statement_of scope (tree.Trap w) k = trap w k

-- the body of these statements and its trap words, or the first fault of its names
abbrev pub body_of : Environment → Statements → Resolved (Body × List (List ℕ))
body_of scope statements =
    and_then (resolved scope statements no_bindings) (λ x.
    Ok (record { statements = x.0; slots = length scope.locals + x.1.declared }, x.1.words))
