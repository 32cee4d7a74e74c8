-- How the statements of a block are resolved, one after another.
use Rattle.std.proofs.Common.{◌≡◌, ℕ, zero, suc, ◌+◌, ◌<◌, ◌≤◌, List, [], ◌∷◌, ◌++◌, length, get_or, drop, Ok, Err, refl, ap, sym, ◌∙◌, arith}
use Rattle.std.proofs.lemmas.List.{drop_more, drop_all}
use Rattle.jdf_lex.specs.declared.fault.JdfFault.{JdfFault}
use Rattle.ptg_base.specs.declared.refusal.Refusal.{Refusal}
use Rattle.term_core.specs.declared.body.Stmt.{Stmt}
use Rattle.term_core.specs.BlockStatementList.{statement_list}
use Rattle.term_core.specs.BlockStatementList as block
use Rattle.term_core.specs.StatementList.{StatementList}
use Rattle.term_core.specs.StatementList as list
use Rattle.ptg_base.specs.Returns.{ReturnsRefusal, and_then}
use Rattle.jdf_tree.specs.declared.body.StmtTree.{StmtTree}
use Rattle.jdf_tree.specs.declared.body.StmtTree.TheVariants as tree
use Rattle.jdf_tree.specs.BlockStatements.{then, statements_of}
use Rattle.jdf_tree.specs.Statements.{Statements, Done, count_of_statements}
use Rattle.body_lang.specs.Environment.{Environment}
use Rattle.expr_names.specs.Symbols.{Resolved}
use Rattle.body_lang.specs.Bindings.{Bindings}
use Rattle.body_lang.specs.Statements.{Resolver, follow, resolved, statement_of}
use Rattle.ptg_base.proofs.CallerLemmas.{refuses_before}

-- a list of statements, and then others
abbrev steps_onto : List Stmt → StatementList → StatementList
steps_onto [] rest = rest
steps_onto (s ∷ ss) rest = block.then s (steps_onto ss rest)

onto_one : (ss : List Stmt) (s : Stmt) (rest : StatementList) → steps_onto (ss ++ s ∷ []) rest ≡ steps_onto ss (block.then s rest)
onto_one [] s rest = refl
onto_one (x ∷ ss) s rest = ap (block.then x) (onto_one ss s rest)

onto_done : (ss : List Stmt) → steps_onto ss list.Done ≡ statement_list ss
onto_done [] = refl
onto_done (x ∷ ss) = ap (block.then x) (onto_done ss)

-- statements that were resolved before, and then the result for the rest
unfoldable pub so_far : List Stmt → Resolved (StatementList × Bindings) → Resolved (StatementList × Bindings)
so_far front read = and_then read (λ y. Ok (steps_onto front y.0, y.1))

pub nothing_yet : (r : Resolved (StatementList × Bindings)) → so_far [] r ≡ r
unfolding so_far
nothing_yet (Ok y) = refl
nothing_yet (Err e) = refl

-- resolved statements, with the bindings after them
abbrev with_known : Bindings → StatementList → Resolved (StatementList × Bindings)
with_known k t = Ok (t, k)

-- a statement, and then what was resolved
abbrev in_front : Stmt → StatementList × Bindings → Resolved (StatementList × Bindings)
in_front s y = Ok (block.then s y.0, y.1)

-- one more statement before the rest
one_more : (front : List Stmt) (s : Stmt) (k : Bindings) (rest : Resolver) → so_far front (follow (Ok (s, k)) rest) ≡ so_far (front ++ s ∷ []) (rest k)
unfolding so_far
one_more front s k rest = go (rest k)
  where
    go : (r : Resolved (StatementList × Bindings)) → so_far front (and_then r (in_front s)) ≡ so_far (front ++ s ∷ []) r
    go (Ok y) = ap (λ (t : StatementList). with_known y.1 t) (sym (onto_one front s y.0))
    go (Err e) = refl

pub resolved-then : (scope : Environment) (s : StmtTree) (rest : Statements) (k : Bindings)
    → resolved scope (then s rest) k ≡ follow (statement_of scope s k) (resolved scope rest)
resolved-then scope (tree.Declare w e) rest k = refl
resolved-then scope (tree.Set w e) rest k = refl
resolved-then scope (tree.Put w at e) rest k = refl
resolved-then scope (tree.If c first second) rest k = refl
resolved-then scope (tree.For w lo hi turn) rest k = refl
resolved-then scope (tree.Trap w) rest k = refl

resolved-drop : (scope : Environment) (ss : List StmtTree) (i : ℕ) (s : StmtTree) → i < length ss → s ≡ get_or ss i s → (k : Bindings)
    → resolved scope (statements_of (drop i ss)) k ≡ follow (statement_of scope s k) (resolved scope (statements_of (drop (i + 1) ss)))
resolved-drop scope ss i s below is k =
    ap (λ xs. resolved scope (statements_of xs) k) (drop_more ss i s below ∙ ap (λ x. x ∷ drop (i + 1) ss) (sym is))
    ∙ resolved-then scope s (statements_of (drop (i + 1) ss)) k

module _ (scope : Environment) (ss : List StmtTree) (i : ℕ) (s : StmtTree) (below : i < length ss)
    (is : s ≡ get_or ss i s) (front : List Stmt) (k : Bindings) (total : Resolved (StatementList × Bindings))
    (before : so_far front (resolved scope (statements_of (drop i ss)) k) ≡ total) where
  pub goes_on : (x : Stmt) (m : Bindings) (new : List Stmt) → new ≡ front ++ x ∷ []
      → statement_of scope s k ≡ Ok (x, m) → so_far new (resolved scope (statements_of (drop (i + 1) ss)) m) ≡ total
  goes_on x m new e h =
      ap (λ (l : List Stmt). so_far l (resolved scope (statements_of (drop (i + 1) ss)) m)) e
      ∙ (sym (one_more front x m (resolved scope (statements_of (drop (i + 1) ss))))
      ∙ (ap (λ (r : Resolved (Stmt × Bindings)). so_far front (follow r (resolved scope (statements_of (drop (i + 1) ss))))) (sym h)
      ∙ (ap (so_far front) (sym (resolved-drop scope ss i s below is k)) ∙ before)))

  pub fails : (e : Refusal JdfFault) → ReturnsRefusal e (statement_of scope s k) → ReturnsRefusal e total
  unfolding so_far
  fails e h =
      rw (← before, resolved-drop scope ss i s below is k)
      (refuses_before e (follow (statement_of scope s k) (resolved scope (statements_of (drop (i + 1) ss)))) (λ y. Ok (steps_onto front y.0, y.1))
      (refuses_before e (statement_of scope s k) (λ x. and_then (resolved scope (statements_of (drop (i + 1) ss)) x.1) (λ y. Ok (block.then x.0 y.0, y.1))) h))

pub ends : (scope : Environment) (ss : List StmtTree) (i : ℕ) (front : List Stmt) (k : Bindings) (total : Resolved (StatementList × Bindings)) → length ss ≤ i
    → so_far front (resolved scope (statements_of (drop i ss)) k) ≡ total → total ≡ Ok (statement_list front, k)
unfolding so_far
ends scope ss i front k total all before =
    sym before ∙ (ap (λ (l : List StmtTree). so_far front (resolved scope (statements_of l) k)) (drop_all i ss all)
    ∙ ap (λ (t : StatementList). Ok (t, k)) (onto_done front))

-- ---- how many statements there are

-- how many statements a statement contains, itself included
abbrev pub count_of : StmtTree → ℕ
count_of s = count_of_statements (then s Done)

count-then : (s : StmtTree) (rest : Statements) → count_of_statements (then s rest) ≡ count_of s + count_of_statements rest
count-then (tree.Declare w e) rest = omega arith
count-then (tree.Set w e) rest = omega arith
count-then (tree.Put w at e) rest = omega arith
count-then (tree.If c first second) rest = omega arith
count-then (tree.For w lo hi turn) rest = omega arith
count-then (tree.Trap w) rest = omega arith

-- a statement of a list contains no more statements than the list
pub count_le : (ss : List StmtTree) (i : ℕ) (s : StmtTree) → i < length ss → s ≡ get_or ss i s → count_of s ≤ count_of_statements (statements_of ss)
count_le [] i s below is = absurd (omega arith)
count_le (x ∷ ss) zero s below is = let e = count-then x (statements_of ss) in rw is (omega (arith, e))
count_le (x ∷ ss) (suc i) s below is = let e = count-then x (statements_of ss) in let h = count_le ss i s (omega arith) is in omega (arith, e, h)
