-- How a block continues from one statement to the next.
use Rattle.std.proofs.Common.{◌≡◌, ℕ, zero, suc, ◌+◌, ◌<◌, ◌≤◌, List, [], ◌∷◌, length, get_or, drop, refl, ap, sym, ◌∙◌, arith}
use Rattle.std.proofs.lemmas.List.{drop_more}
use Rattle.term_core.specs.declared.body.Stmt.{Stmt}
use Rattle.term_core.specs.declared.body.Stmt.TheVariants as stmt
use Rattle.term_core.specs.StatementList.{StatementList, Done, statement_count}
use Rattle.term_core.specs.BlockStatementList.{then, statement_list}
use Rattle.body_eval.specs.State.{State}
use Rattle.body_eval.specs.Meaning.{run, first_then}
use Rattle.body_eval.specs.Statement.{statement_meaning}

-- a statement runs, and then what follows it
pub run-then : (s : Stmt) (rest : StatementList) (at : State) → run (then s rest) at ≡ first_then (statement_meaning s) (run rest) at
run-then (stmt.Set n e) rest at = refl
run-then (stmt.Put flow i e) rest at = refl
run-then (stmt.If c first second) rest at = refl
run-then (stmt.For n lo hi turn) rest at = refl
run-then (stmt.Trap w) rest at = refl

-- the same for a statement within a list
pub run-drop : (ss : List Stmt) (k : ℕ) (s : Stmt) → k < length ss → s ≡ get_or ss k s → (at : State)
    → run (statement_list (drop k ss)) at ≡ first_then (statement_meaning s) (run (statement_list (drop (k + 1) ss))) at
run-drop ss k s below is at =
    ap (λ xs. run (statement_list xs) at) (drop_more ss k s below ∙ ap (λ x. x ∷ drop (k + 1) ss) (sym is)) ∙ run-then s (statement_list (drop (k + 1) ss)) at

-- how many statements a statement contains, itself included
abbrev pub count_of : Stmt → ℕ
count_of s = statement_count (then s Done)

count-then : (s : Stmt) (rest : StatementList) → statement_count (then s rest) ≡ count_of s + statement_count rest
count-then (stmt.Set n e) rest = omega arith
count-then (stmt.Put flow i e) rest = omega arith
count-then (stmt.If c first second) rest = omega arith
count-then (stmt.For n lo hi turn) rest = omega arith
count-then (stmt.Trap w) rest = omega arith

-- a statement of a list contains no more statements than the list
pub count_le : (ss : List Stmt) (k : ℕ) (s : Stmt) → k < length ss → s ≡ get_or ss k s → count_of s ≤ statement_count (statement_list ss)
count_le [] k s below is = absurd (omega arith)
count_le (x ∷ ss) zero s below is = let e = count-then x (statement_list ss) in rw is (omega (arith, e))
count_le (x ∷ ss) (suc k) s below is =
    let e = count-then x (statement_list ss) in let h = count_le ss k s (omega arith) is in omega (arith, e, h)
