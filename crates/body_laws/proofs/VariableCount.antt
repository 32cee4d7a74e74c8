-- If a tree declares at most as many variables as a body may, no name is refused for declaring one too many.
use Rattle.std.proofs.Common.{◌≡◌, ◌≢◌, ℕ, ◌+◌, ◌<◌, ◌≤◌, Bool, true, false, cond, List, length, Ok, Err, refl, sym, ap, ◌∙◌, subst, arith}
use Rattle.std.specs.Prelude.{Option, Some, None, slice_get, drop}
use Rattle.std.specs.Str.{bytes_eq}
use Rattle.std.specs.List.{list_any}
use Rattle.std.proofs.lemmas.Bool.{lt-ltb}
use Rattle.jdf_lex.specs.declared.fault.JdfCode.TheVariants.{NameTwice, TooManyVars}
use Rattle.jdf_lex.specs.declared.fault.JdfFault.{JdfFault}
use Rattle.term_core.specs.declared.body.Body.{Body}
use Rattle.term_core.specs.declared.body.Stmt.{Stmt}
use Rattle.term_core.specs.declared.body.Stmt.TheVariants as stmt
use Rattle.term_core.specs.declared.flow.FlowKind.{FlowKind}
use Rattle.term_core.specs.declared.flow.FlowKind.TheVariants as kind
use Rattle.term_core.specs.BlockStatementList.{then}
use Rattle.term_core.specs.StatementList.{StatementList}
use Rattle.term_core.specs.Term.{Term}
use Rattle.term_core.specs.Term as term
use Rattle.ptg_base.specs.Returns.{and_then}
use Rattle.jdf_tree.specs.declared.expression.Word.{Word}
use Rattle.jdf_tree.specs.Expression.{Expression, Num, Name, Elem, Unary, Binary, Choose}
use Rattle.jdf_tree.specs.Statements.{Statements, Done, DeclareThen, SetThen, PutThen, IfThen, ForThen, TrapThen}
use Rattle.body_lang.proofs.CallerLemmas.{Anything}
use Rattle.expr_names.specs.declared.meaning.Meaning.{Meaning}
use Rattle.expr_names.specs.declared.meaning.Meaning.TheVariants as meaning
use Rattle.body_lang.specs.declared.scope.FlowName.{FlowName}
use Rattle.body_lang.specs.Environment.{Environment}
use Rattle.body_lang.specs.declared.variable.Variable.{Variable}
use Rattle.body_lang.specs.Meanings.{meaning_of, flow_named}
use Rattle.expr_names.specs.Symbols.{Resolved}
use Rattle.expr_names.specs.Expressions.{together}
use Rattle.body_lang.specs.Expressions.{value_of, slot_of, readable, writable, if_flow, flow_by, read_flow, written_flow, term_of}
use Rattle.body_lang.specs.Bindings.{Bindings, no_bindings, block_opened, block_closed, next_slot, with_variable, require_room, require_fresh, numbered}
use Rattle.body_lang.specs.Statements.{Resolver, declare, set, put, in_block, if_else, for_loop, trap, follow, resolved, body_of}
use Rattle.body_laws.specs.Declarations.{declarations}

-- the value satisfies P, or the fault is not TooManyVars
abbrev pub NotTooMany : {A : Type 0} → (A → Type 0) → Resolved A → Type 0
NotTooMany P (Ok x) = P x
NotTooMany P (Err f) = f.code ≡ TooManyVars → ⊥

after_not_too_many : {A B : Type 0} (P : A → Type 0) (Q : B → Type 0) (r : Resolved A) (f : A → Resolved B)
    → NotTooMany P r → ((x : A) → P x → NotTooMany Q (f x)) → NotTooMany Q (and_then r f)
after_not_too_many P Q (Ok x) f h k = k x h
after_not_too_many P Q (Err e) f h k = h

-- two parts of an expression
pair_not_too_many : {A B : Type 0} (r : Resolved A) (q : Resolved B) → NotTooMany (Anything {A = A}) r
    → NotTooMany (Anything {A = B}) q → NotTooMany (Anything {A = A × B}) (together (λ first _. first) r q)
pair_not_too_many (Ok x) (Ok y) h k = tt
pair_not_too_many (Ok x) (Err g) h k = k
pair_not_too_many (Err f) (Ok y) h k = h
pair_not_too_many (Err f) (Err g) h k = h

-- an operation that cannot fail
of_not_too_many : {A : Type 0} (r : Resolved A) (f : A → Term) → NotTooMany (Anything {A = A}) r → NotTooMany (Anything {A = Term}) (and_then r (λ x. Ok (f x)))
of_not_too_many (Ok x) f h = tt
of_not_too_many (Err e) f h = h

-- ---- names and expressions

value_not_too_many : (w : Word) (m : Meaning) → NotTooMany (Anything {A = Term}) (value_of w m)
value_not_too_many w (meaning.Variable n) = tt
value_not_too_many w (meaning.LoopVariable n) = tt
value_not_too_many w (meaning.Local n) = tt
value_not_too_many w (meaning.Integer z) = tt
value_not_too_many w meaning.Collection = λ e. cc
value_not_too_many w meaning.Nothing = λ e. cc

slot_not_too_many : (w : Word) (m : Meaning) → NotTooMany (Anything {A = ℕ}) (slot_of w m)
slot_not_too_many w (meaning.Variable n) = tt
slot_not_too_many w (meaning.LoopVariable n) = λ e. cc
slot_not_too_many w (meaning.Local n) = λ e. cc
slot_not_too_many w (meaning.Integer z) = λ e. cc
slot_not_too_many w meaning.Collection = λ e. cc
slot_not_too_many w meaning.Nothing = λ e. cc

readable_not_too_many : (w : Word) (k : FlowKind) (n : ℕ) → NotTooMany (Anything {A = ℕ}) (readable w k n)
readable_not_too_many w kind.Ctl n = λ e. cc
readable_not_too_many w _ n = tt

writable_not_too_many : (w : Word) (k : FlowKind) (n : ℕ) → NotTooMany (Anything {A = ℕ}) (writable w k n)
writable_not_too_many w kind.Ctl n = λ e. cc
writable_not_too_many w kind.Read n = λ e. cc
writable_not_too_many w _ n = tt

flow_not_too_many : (use_of : Word → FlowKind → ℕ → Resolved ℕ)
    → ((w : Word) (k : FlowKind) (n : ℕ) → NotTooMany (Anything {A = ℕ}) (use_of w k n))
    → (w : Word) (n : ℕ) (o : Option FlowName) → NotTooMany (Anything {A = ℕ}) (if_flow use_of w n o)
flow_not_too_many use_of h w n None = λ e. cc
flow_not_too_many use_of h w n (Some flow) = h w flow.kind n

by_not_too_many : (use_of : Word → FlowKind → ℕ → Resolved ℕ)
    → ((w : Word) (k : FlowKind) (n : ℕ) → NotTooMany (Anything {A = ℕ}) (use_of w k n))
    → (scope : Environment) (w : Word) (o : Option ℕ) → NotTooMany (Anything {A = ℕ}) (flow_by use_of scope w o)
by_not_too_many use_of h scope w None = λ e. cc
by_not_too_many use_of h scope w (Some n) = flow_not_too_many use_of h w n (slice_get scope.flows n)

module _ (scope : Environment) where
  pub term_not_too_many : (seen : List Variable) (e : Expression) → NotTooMany (Anything {A = Term}) (term_of scope seen e)
  term_not_too_many seen (Num z spot) = tt
  term_not_too_many seen (Name w) = value_not_too_many w (meaning_of scope seen w.text)
  term_not_too_many seen (Elem w at) =
      of_not_too_many (together (λ first _. first) (read_flow scope w) (term_of scope seen at)) (λ (x : ℕ × Term). term.Elem x.0 x.1)
      (pair_not_too_many (read_flow scope w) (term_of scope seen at)
      (by_not_too_many readable readable_not_too_many scope w (flow_named scope w.text))
      (term_not_too_many seen at))
  term_not_too_many seen (Unary o a spot) = of_not_too_many (term_of scope seen a) (term.Unary o) (term_not_too_many seen a)
  term_not_too_many seen (Binary o a b) =
      of_not_too_many (together (λ first _. first) (term_of scope seen a) (term_of scope seen b)) (λ (x : Term × Term). term.Binary o x.0 x.1)
      (pair_not_too_many (term_of scope seen a) (term_of scope seen b) (term_not_too_many seen a) (term_not_too_many seen b))
  term_not_too_many seen (Choose c a b) =
      let branches = together (λ first _. first) (term_of scope seen a) (term_of scope seen b) in
      of_not_too_many (together (λ first _. first) (term_of scope seen c) branches) (λ (x : Term × (Term × Term)). term.Choose x.0 x.1.0 x.1.1)
      (pair_not_too_many (term_of scope seen c) branches (term_not_too_many seen c)
      (pair_not_too_many (term_of scope seen a) (term_of scope seen b) (term_not_too_many seen a) (term_not_too_many seen b)))

  -- ---- statements

  pub room_not_too_many : (w : Word) (k : Bindings) → k.declared < 256 → NotTooMany (Anything {A = Unit {0}}) (require_room w k)
  room_not_too_many w k h = let t = lt-ltb k.declared 256 h in rw t tt

  pub fresh_not_too_many : (w : Word) (k : Bindings) → NotTooMany (Anything {A = Unit {0}}) (require_fresh w k)
  fresh_not_too_many w k = go (list_any (λ (v : Variable). bytes_eq v.name w.text) (drop k.outside k.seen))
    where
      go : (b : Bool) → NotTooMany (Anything {A = Unit {0}}) (cond b (Err (record { spot = w.spot; code = NameTwice })) (Ok tt))
      go true = λ e. cc
      go false = tt

  -- n more variables are declared
  abbrev pub Adds : {A : Type 0} → Bindings → ℕ → A × Bindings → Type 0
  Adds k n x = x.1.declared ≡ k.declared + n

  abbrev pub AddsVariables : Resolver → ℕ → Type 0
  AddsVariables block n = (k : Bindings) → k.declared + n ≤ 256 → NotTooMany (Adds k n) (block k)

  pub declare_bounded : (w : Word) (e : Expression) (k : Bindings) → k.declared < 256 → NotTooMany (Adds {A = Stmt} k 1) (declare scope w e k)
  declare_bounded w e k h =
      after_not_too_many Anything (Adds k 1) (require_room w k)
      (λ _. and_then (require_fresh w k) (λ _. and_then (term_of scope k.seen e)
      (λ x. Ok (stmt.Set (next_slot scope k) x, with_variable scope w.text false k)))) (room_not_too_many w k h)
      (λ _ _. after_not_too_many Anything (Adds k 1) (require_fresh w k)
      (λ _. and_then (term_of scope k.seen e) (λ x. Ok (
        stmt.Set (next_slot scope k) x,
        with_variable scope w.text
            false k,
      ))) (fresh_not_too_many w k)
      (λ _ _. after_not_too_many Anything (Adds k 1) (term_of scope k.seen e)
      (λ x. Ok (stmt.Set (next_slot scope k) x, with_variable scope w.text false k)) (term_not_too_many k.seen e)
      (λ x _. refl)))

  nothing_added : (k : Bindings) → k.declared ≡ k.declared + 0
  nothing_added k = omega arith

  pub set_bounded : (w : Word) (e : Expression) (k : Bindings) → NotTooMany (Adds {A = Stmt} k 0) (set scope w e k)
  set_bounded w e k =
      after_not_too_many Anything (Adds k 0) (slot_of w (meaning_of scope k.seen w.text))
      (λ n. and_then (term_of scope k.seen e) (λ x. Ok (stmt.Set n x, k)))
      (slot_not_too_many w (meaning_of scope k.seen w.text))
      (λ n _. after_not_too_many Anything (Adds k 0) (term_of scope k.seen e) (λ x. Ok (stmt.Set n x, k)) (term_not_too_many k.seen e) (λ x _. nothing_added k))

  pub put_bounded : (w : Word) (at e : Expression) (k : Bindings) → NotTooMany (Adds {A = Stmt} k 0) (put scope w at e k)
  put_bounded w at e k =
      after_not_too_many Anything (Adds k 0) (written_flow scope w)
      (λ flow. and_then (term_of scope k.seen at) (λ i. and_then (term_of scope k.seen e)
      (λ x. Ok (stmt.Put flow i x, k)))) (by_not_too_many writable writable_not_too_many scope w
      (flow_named scope w.text))
      (λ flow _. after_not_too_many Anything (Adds k 0) (term_of scope k.seen at)
      (λ i. and_then (term_of scope k.seen e) (λ x. Ok (stmt.Put flow i x, k))) (term_not_too_many k.seen at)
      (λ i _. after_not_too_many Anything (Adds k 0) (term_of scope k.seen e) (λ x. Ok (stmt.Put flow i x, k))
      (term_not_too_many k.seen e) (λ x _. nothing_added k)))

  inside_bounded : (opening : Bindings → Bindings) (block : Resolver) (n m : ℕ) → AddsVariables block n → (k : Bindings)
      → (opening k).declared ≡ k.declared + m → k.declared + m + n ≤ 256
      → NotTooMany (Adds {A = StatementList} k (m + n)) (in_block opening block k)
  inside_bounded opening block n m at_most k e le =
      after_not_too_many (Adds (opening k) n) (Adds k (m + n)) (block (opening k)) (λ x. Ok (x.0, block_closed k x.1))
      (at_most (opening k) (omega (arith, e, le))) (λ x h. omega (arith, h, e))

  pub choice_bounded : (c : Expression) (first second : Resolver) (n m : ℕ) → AddsVariables first n
      → AddsVariables second m → (k : Bindings) → k.declared + (n + m) ≤ 256
      → NotTooMany (Adds {A = Stmt} k (n + m)) (if_else scope c first second k)
  choice_bounded c first second n m one two k le =
      after_not_too_many Anything (Adds k (n + m)) (term_of scope k.seen c)
      (λ x. and_then (in_block block_opened first k) (λ a. and_then (in_block block_opened second a.1)
      (λ b. Ok (stmt.If x a.0 b.0, b.1)))) (term_not_too_many k.seen c)
      (λ x _. after_not_too_many (Adds k (0 + n)) (Adds k (n + m)) (in_block block_opened first k)
      (λ a. and_then (in_block block_opened second a.1) (λ b. Ok (stmt.If x a.0 b.0, b.1)))
      (inside_bounded block_opened first n 0 one k (omega arith) (omega (arith, le)))
      (λ a h. after_not_too_many (Adds a.1 (0 + m)) (Adds k (n + m)) (in_block block_opened second a.1)
      (λ b. Ok (stmt.If x a.0 b.0, b.1)) (inside_bounded block_opened second m 0 two a.1 (omega arith)
      (omega (arith, le, h))) (λ b i. omega (arith, h, i))))

  pub loop_bounded : (w : Word) (lo hi : Expression) (turn : Resolver) (n : ℕ) → AddsVariables turn n → (k : Bindings)
      → k.declared + (1 + n) ≤ 256 → NotTooMany (Adds {A = Stmt} k (1 + n)) (for_loop scope w lo hi turn k)
  loop_bounded w lo hi turn n at_most k le =
      let opening : Bindings → Bindings = λ m. with_variable scope w.text true (block_opened m) in
      after_not_too_many Anything (Adds k (1 + n)) (require_room w k)
      (λ _. and_then (term_of scope k.seen lo) (λ x. and_then (term_of scope k.seen hi)
      (λ y. and_then (in_block opening turn k) (λ t. Ok (stmt.For (next_slot scope k) x y t.0, t.1)))))
      (room_not_too_many w k (omega (arith, le)))
      (λ _ _. after_not_too_many Anything (Adds k (1 + n)) (term_of scope k.seen lo)
      (λ x. and_then (term_of scope k.seen hi) (λ y. and_then (in_block opening turn k)
      (λ t. Ok (stmt.For (next_slot scope k) x y t.0, t.1)))) (term_not_too_many k.seen lo)
      (λ x _. after_not_too_many Anything (Adds k (1 + n)) (term_of scope k.seen hi)
      (λ y. and_then (in_block opening turn k) (λ t. Ok (stmt.For (next_slot scope k) x y t.0, t.1)))
      (term_not_too_many k.seen hi)
      (λ y _. after_not_too_many (Adds k (1 + n)) (Adds k (1 + n)) (in_block opening turn k)
      (λ t. Ok (stmt.For (next_slot scope k) x y t.0, t.1))
      (inside_bounded opening turn n 1 at_most k refl (omega (arith, le))) (λ t h. h))))

  pub trap_bounded : (w : Word) (k : Bindings) → NotTooMany (Adds {A = Stmt} k 0) (trap w k)
  trap_bounded w k = go _
    where
      go : (o : Option ℕ) → (numbered w.text k o).1.declared ≡ k.declared + 0
      go (Some n) = nothing_added k
      go None = nothing_added k

  follow_bounded : (k : Bindings) (n m : ℕ) (first : Resolved (Stmt × Bindings)) (rest : Resolver)
      → k.declared + (n + m) ≤ 256 → NotTooMany (Adds k n) first → AddsVariables rest m
      → NotTooMany (Adds {A = StatementList} k (n + m)) (follow first rest)
  follow_bounded k n m first rest le one more =
      after_not_too_many (Adds k n) (Adds k (n + m)) first (λ x. and_then (rest x.1) (λ y. Ok (then x.0 y.0, y.1))) one
      (λ x h. after_not_too_many (Adds x.1 m) (Adds k (n + m)) (rest x.1) (λ y. Ok (then x.0 y.0, y.1))
      (more x.1 (omega (arith, h, le))) (λ y i. omega (arith, h, i)))

  -- no variable, and then n more
  none_first : (k : Bindings) (n : ℕ) (r : Resolved (StatementList × Bindings))
      → NotTooMany (Adds {A = StatementList} k (0 + n)) r → NotTooMany (Adds {A = StatementList} k n) r
  none_first k n r h = let e : 0 + n ≡ n = omega arith in subst (λ (m : ℕ). NotTooMany (Adds {A = StatementList} k m) r) e h

  pub block_bounded : (statements : Statements) → AddsVariables (resolved scope statements) (declarations statements)
  block_bounded Done k le = nothing_added k
  block_bounded (DeclareThen w e rest) k le = follow_bounded k 1 (declarations rest) (declare scope w e k)
      (resolved scope rest) le (declare_bounded w e k (omega (arith, le))) (block_bounded rest)
  block_bounded (SetThen w e rest) k le =
      none_first k (declarations rest) (resolved scope (SetThen w e rest) k)
      (follow_bounded k 0 (declarations rest) (set scope w e k) (resolved scope rest) (omega (arith, le))
      (set_bounded w e k) (block_bounded rest))
  block_bounded (PutThen w at e rest) k le =
      none_first k (declarations rest) (resolved scope (PutThen w at e rest) k)
      (follow_bounded k 0 (declarations rest) (put scope w at e k) (resolved scope rest) (omega (arith, le))
      (put_bounded w at e k) (block_bounded rest))
  block_bounded (IfThen c first second rest) k le =
      follow_bounded k (declarations first + declarations second) (declarations rest)
      (if_else scope c (resolved scope first) (resolved scope second) k) (resolved scope rest) le
      (choice_bounded c (resolved scope first) (resolved scope second) (declarations first) (declarations second)
      (block_bounded first) (block_bounded second) k (omega (arith, le))) (block_bounded rest)
  block_bounded (ForThen w lo hi turn rest) k le =
      follow_bounded k (1 + declarations turn) (declarations rest) (for_loop scope w lo hi (resolved scope turn) k)
      (resolved scope rest) le (loop_bounded w lo hi (resolved scope turn) (declarations turn) (block_bounded turn)
      k (omega (arith, le))) (block_bounded rest)
  block_bounded (TrapThen w rest) k le =
      none_first k (declarations rest) (resolved scope (TrapThen w rest) k)
      (follow_bounded k 0 (declarations rest) (trap w k) (resolved scope rest) (omega (arith, le))
      (trap_bounded w k) (block_bounded rest))

  -- a body of at most 256 variables is not refused because of their number
  pub no_fault_of_number : (statements : Statements) (f : JdfFault) → declarations statements ≤ 256 → body_of scope statements ≡ Err f → f.code ≢ TooManyVars
  no_fault_of_number statements f le e =
      let other : NotTooMany (Anything {A = Body × List (List ℕ)}) (body_of scope statements) =
      after_not_too_many (Adds no_bindings (declarations statements)) Anything (resolved scope statements no_bindings) _
      (block_bounded statements no_bindings (omega (arith, le))) (λ x h. tt) in
      subst (λ (r : Resolved (Body × List (List ℕ))). NotTooMany Anything r) e other

  -- a body of at most 256 variables has a slot for each of them
  pub slots_are : (statements : Statements) (x : Body × List (List ℕ)) → declarations statements ≤ 256
      → body_of scope statements ≡ Ok x → x.0.slots ≡ length scope.locals + declarations statements
  slots_are statements x le e = go (resolved scope statements no_bindings) (block_bounded statements no_bindings (omega (arith, le))) e
    where
      slots : Resolved (Body × List (List ℕ)) → ℕ
      slots (Ok y) = y.0.slots
      slots (Err f) = 0

      go : (a : Resolved (StatementList × Bindings)) → NotTooMany (Adds {A = StatementList} no_bindings (declarations statements)) a
          → and_then a (λ x. Ok (record { statements = x.0; slots = length scope.locals + x.1.declared }, x.1.words))
          ≡ Ok x → x.0.slots ≡ length scope.locals + declarations statements
      go (Ok y) h e = let declared_is : y.1.declared ≡ declarations statements = omega (arith, h) in sym (ap slots e)
          ∙ ap (λ (n : ℕ). length scope.locals + n) declared_is
      go (Err f) h e = absurd cc
