-- In a resolved body, no loop assigns to its own variable.
use Rattle.std.proofs.Common.{◌≡◌, ◌≢◌, ℕ, ℤ, ◌+◌, ◌<◌, Bool, true, false, not, ◌&&◌, ◌==◌, cond, List, [], ◌∷◌, length, Option, Some, None, refl}
use Rattle.std.proofs.Common.{sym, ap, arith}
use Rattle.std.specs.List.{AllByRecursion}
use Rattle.std.specs.Str.{bytes_eq}
use Rattle.std.proofs.lemmas.Bool.{false≢true, ne_eqb, and_from}
use Rattle.std.specs.Option.{option_map_or}
use Rattle.name_table.specs.Names.{index_named}
use Rattle.term_core.specs.declared.body.Stmt.{Stmt}
use Rattle.term_core.specs.declared.body.Stmt.TheVariants as stmt
use Rattle.term_core.specs.BlockStatementList.{then}
use Rattle.term_core.specs.StatementList.{StatementList}
use Rattle.jdf_tree.specs.declared.expression.Word.{Word}
use Rattle.jdf_tree.specs.Expression.{Expression}
use Rattle.jdf_tree.specs.Statements.{Statements, Done, DeclareThen, SetThen, PutThen, IfThen, ForThen, TrapThen}
use Rattle.plan_core.specs.Bodies.{never_sets, keeps_loop_variables}
use Rattle.expr_names.specs.declared.meaning.Meaning.{Meaning}
use Rattle.expr_names.specs.declared.meaning.Meaning.TheVariants as meaning
use Rattle.body_lang.specs.Environment.{Environment}
use Rattle.body_lang.specs.declared.variable.Variable.{Variable}
use Rattle.body_lang.specs.Meanings.{last_named, variable_or, collection_or_nothing, meaning_of, outer_meaning}
use Rattle.expr_names.specs.Symbols.{Resolved}
use Rattle.body_lang.specs.Expressions.{slot_of, written_flow, term_of}
use Rattle.body_lang.specs.Bindings.{Bindings, block_opened, next_slot, with_variable, require_room, require_fresh, numbered}
use Rattle.body_lang.specs.Statements.{Resolver, declare, set, put, in_block, if_else, for_loop, trap, follow, resolved}
use Rattle.list_lemmas.proofs.Places.{each_weaker}
use Rattle.type_check.proofs.BodyParts.{good_both, all_append, all_take, all_last}
use Rattle.body_lang.proofs.CallerLemmas.{IfValue, after_if_value, past}

module _ (scope : Environment) where
  -- ---- a variable that is not set

  module _ (v : ℕ) where
    -- this variable has another slot than `v`, if it may be assigned to
    abbrev IsOther : Variable → Type 0
    IsOther u = u.is_loop_variable ≡ false → u.slot ≢ v

    -- slot `v` is taken, and by no variable that may be assigned to
    abbrev IsFree : Bindings → Type 0
    IsFree k = (v < next_slot scope k) × AllByRecursion IsOther k.seen

    nothing_set : (w : Word) (b : Bool) → IfValue (λ n. n ≢ v) (slot_of w (collection_or_nothing b))
    nothing_set w true = tt
    nothing_set w false = tt

    integer_set : (w : Word) (o : Option ℤ) (b : Bool) → IfValue (λ n. n ≢ v) (slot_of w (option_map_or meaning.Integer o (collection_or_nothing b)))
    integer_set w None b = nothing_set w b
    integer_set w (Some z) b = tt

    local_set : (w : Word) (o : Option ℕ) (m : Meaning) → IfValue (λ n. n ≢ v) (slot_of w m)
        → IfValue (λ n. n ≢ v) (slot_of w (option_map_or meaning.Local o m))
    local_set w None m h = h
    local_set w (Some n) m h = tt

    variable_set : (w : Word) (o : Option Variable) (m : Meaning) → ((u : Variable) → o ≡ Some u → IsOther u)
        → IfValue (λ n. n ≢ v) (slot_of w m) → IfValue (λ n. n ≢ v) (slot_of w (variable_or o m))
    variable_set w None m found h = h
    variable_set w (Some u) m found h = go u.is_loop_variable refl
      where
        go : (b : Bool) → u.is_loop_variable ≡ b → IfValue (λ n. n ≢ v) (slot_of w (cond b (meaning.LoopVariable u.slot) (meaning.Variable u.slot)))
        go true e = tt
        go false e = found u refl e

    slot_good : (w : Word) (seen : List Variable) → AllByRecursion IsOther seen → IfValue (λ n. n ≢ v) (slot_of w (meaning_of scope seen w.text))
    slot_good w seen h =
        variable_set w (last_named seen w.text) (outer_meaning (index_named scope.locals w.text) (scope.integer w.text) (scope.is_collection w.text))
        (λ u e. all_last IsOther (λ (x : Variable). bytes_eq x.name w.text) seen u h e)
        (local_set w (index_named scope.locals w.text)
        (option_map_or meaning.Integer (scope.integer w.text)
        (collection_or_nothing (scope.is_collection w.text)))
        (integer_set w (scope.integer w.text) (scope.is_collection w.text)))

    abbrev never : Stmt → Bool
    never (stmt.Set n e) = not (n == v)
    never (stmt.Put flow at e) = true
    never (stmt.If c first second) = never_sets v first && never_sets v second
    never (stmt.For n lo hi turn) = not (n == v) && never_sets v turn
    never (stmt.Trap w) = true

    then_never : (s : Stmt) (rest : StatementList) → never s ≡ true → never_sets v rest ≡ true → never_sets v (then s rest) ≡ true
    then_never (stmt.Set n e) rest h k = and_from (never (stmt.Set n e)) (never_sets v rest) h k
    then_never (stmt.Put flow at e) rest h k = k
    then_never (stmt.If c first second) rest h k = and_from (never (stmt.If c first second)) (never_sets v rest) h k
    then_never (stmt.For n lo hi turn) rest h k = and_from (never (stmt.For n lo hi turn)) (never_sets v rest) h k
    then_never (stmt.Trap w) rest h k = k

    abbrev NeverOne : Stmt × Bindings → Type 0
    NeverOne x = (never x.0 ≡ true) × IsFree x.1

    abbrev NeverAll : StatementList × Bindings → Type 0
    NeverAll x = (never_sets v x.0 ≡ true) × IsFree x.1

    abbrev NeverBlock : Resolver → Type 0
    NeverBlock block = (k : Bindings) → IsFree k → IfValue NeverAll (block k)

    other_slot : (n : ℕ) → n ≢ v → not (n == v) ≡ true
    other_slot n h = ap not (ne_eqb n v h)

    -- the next variable gets another slot than `v`
    next_other : (k : Bindings) → v < next_slot scope k → next_slot scope k ≢ v
    next_other k h e = absurd (omega (arith, h, e))

    declared_free : (k : Bindings) (name : List ℕ) (loop : Bool) → IsFree k → IsFree (with_variable scope name loop k)
    declared_free k name loop free =
        let below : v < length scope.locals + k.declared = free.0 in (
          omega (arith, below),
          all_append IsOther k.seen
              (record { name = name; slot = next_slot scope k; is_loop_variable = loop } ∷ []) free.1
              ((λ e. next_other k free.0), tt),
        )

    declare_never : (w : Word) (e : Expression) (k : Bindings) → IsFree k → IfValue NeverOne (declare scope w e k)
    declare_never w e k free =
        past NeverOne (require_room w k) _
        (λ _. past NeverOne (require_fresh w k) _
        (λ _. past NeverOne (term_of scope k.seen e) _
        (λ x. (other_slot (next_slot scope k) (next_other k free.0), declared_free k w.text false free))))

    set_never : (w : Word) (e : Expression) (k : Bindings) → IsFree k → IfValue NeverOne (set scope w e k)
    set_never w e k free = after_if_value (λ n. n ≢ v) NeverOne (slot_of w (meaning_of scope k.seen w.text)) _
        (slot_good w k.seen free.1) (λ n h. past NeverOne (term_of scope k.seen e) _ (λ x. (other_slot n h, free)))

    put_never : (w : Word) (at e : Expression) (k : Bindings) → IsFree k → IfValue NeverOne (put scope w at e k)
    put_never w at e k free = past NeverOne (written_flow scope w) _
        (λ flow. past NeverOne (term_of scope k.seen at) _
        (λ i. past NeverOne (term_of scope k.seen e) _ (λ x. (refl, free))))

    inside_never : (opening : Bindings → Bindings) (block : Resolver) → NeverBlock block → (k : Bindings)
        → IsFree (opening k) → IfValue NeverAll (in_block opening block k)
    inside_never opening block good k free =
        after_if_value NeverAll NeverAll (block (opening k)) _ (good (opening k) free)
        (λ x h. (h.0, (h.1.0, all_take IsOther (length k.seen) x.1.seen h.1.1)))

    choice_never : (c : Expression) (first second : Resolver) → NeverBlock first → NeverBlock second
        → (k : Bindings) → IsFree k → IfValue NeverOne (if_else scope c first second k)
    choice_never c first second one two k free =
        past NeverOne (term_of scope k.seen c) _
        (λ x. after_if_value NeverAll NeverOne (in_block block_opened first k) _ (inside_never block_opened first one k free)
        (λ a h. after_if_value NeverAll NeverOne (in_block block_opened second a.1) _ (inside_never block_opened second two a.1 h.1)
        (λ b l. (and_from (never_sets v a.0) (never_sets v b.0) h.0 l.0, l.1))))

    counted_never : (w : Word) (lo hi : Expression) (turn : Resolver) → NeverBlock turn → (k : Bindings) → IsFree k
        → IfValue NeverOne (for_loop scope w lo hi turn k)
    counted_never w lo hi turn good k free =
        past NeverOne (require_room w k) _
        (λ _. past NeverOne (term_of scope k.seen lo) _
        (λ x. past NeverOne (term_of scope k.seen hi) _
        (λ y. after_if_value NeverAll NeverOne (in_block (λ m. with_variable scope w.text true (block_opened m)) turn k) _
        (inside_never (λ m. with_variable scope w.text true (block_opened m)) turn good k (declared_free (block_opened k) w.text true free))
        (λ t h. (and_from (not (next_slot scope k == v)) (never_sets v t.0) (other_slot (next_slot scope k) (next_other k free.0)) h.0, h.1)))))

    trap_never : (w : Word) (k : Bindings) → IsFree k → IfValue NeverOne (trap w k)
    trap_never w k free = (refl, go _)
      where
        go : (o : Option ℕ) → IsFree (numbered w.text k o).1
        go None = free
        go (Some n) = free

    follow_never : (first : Resolved (Stmt × Bindings)) (rest : Resolver) → IfValue NeverOne first → NeverBlock rest → IfValue NeverAll (follow first rest)
    follow_never first rest one more = after_if_value NeverOne NeverAll first _ one
        (λ x h. after_if_value NeverAll NeverAll (rest x.1) _ (more x.1 h.1)
        (λ y l. (then_never x.0 y.0 h.0 l.0, l.1)))

    never_set : (t : Statements) → NeverBlock (resolved scope t)
    never_set Done k free = (refl, free)
    never_set (DeclareThen w e rest) k free = follow_never (declare scope w e k) (resolved scope rest) (declare_never w e k free) (never_set rest)
    never_set (SetThen w e rest) k free = follow_never (set scope w e k) (resolved scope rest) (set_never w e k free) (never_set rest)
    never_set (PutThen w at e rest) k free = follow_never (put scope w at e k) (resolved scope rest) (put_never w at e k free) (never_set rest)
    never_set (IfThen c first second rest) k free =
        follow_never (if_else scope c (resolved scope first) (resolved scope second) k) (resolved scope rest)
        (choice_never c (resolved scope first) (resolved scope second) (never_set first) (never_set second) k
        free) (never_set rest)
    never_set (ForThen w lo hi turn rest) k free =
        follow_never (for_loop scope w lo hi (resolved scope turn) k) (resolved scope rest)
        (counted_never w lo hi (resolved scope turn) (never_set turn) k free) (never_set rest)
    never_set (TrapThen w rest) k free = follow_never (trap w k) (resolved scope rest) (trap_never w k free) (never_set rest)

  -- ---- loops

  -- the slot of this variable is below `end`
  abbrev IsBelow : ℕ → Variable → Type 0
  IsBelow end u = u.slot < end

  abbrev pub AreBelow : Bindings → Type 0
  AreBelow k = AllByRecursion (IsBelow (next_slot scope k)) k.seen

  declared_below : (k : Bindings) (name : List ℕ) (loop : Bool) → AreBelow k → AreBelow (with_variable scope name loop k)
  declared_below k name loop h =
      let end = length scope.locals + (k.declared + 1) in
      all_append (IsBelow end) k.seen (record { name = name; slot = next_slot scope k; is_loop_variable = loop } ∷
      []) (each_weaker (IsBelow (next_slot scope k)) (IsBelow end) k.seen
      (λ u b. let c : u.slot < length scope.locals + k.declared = b in omega (arith, c)) h) (omega arith, tt)

  -- at the start of a loop's block, no variable that may be assigned to has the slot of the loop's variable
  loop_free : (k : Bindings) (name : List ℕ) → AreBelow k → IsFree (next_slot scope k) (with_variable scope name true (block_opened k))
  loop_free k name h = (
    omega arith,
    all_append (IsOther (next_slot scope k)) k.seen (record { name = name; slot = next_slot scope k; is_loop_variable = true } ∷ [])
        (each_weaker (IsBelow (next_slot scope k)) (IsOther (next_slot scope k)) k.seen
        (λ u b e s. let c : u.slot < length scope.locals + k.declared = b in let t : u.slot
        ≡ length scope.locals + k.declared = s in absurd (omega (arith, c, t))) h)
        ((λ e. absurd (false≢true (sym e))), tt),
  )

  abbrev keeps : Stmt → Bool
  keeps (stmt.Set n e) = true
  keeps (stmt.Put flow at e) = true
  keeps (stmt.If c first second) = keeps_loop_variables first && keeps_loop_variables second
  keeps (stmt.For n lo hi turn) = never_sets n turn && keeps_loop_variables turn
  keeps (stmt.Trap w) = true

  then_keeps : (s : Stmt) (rest : StatementList) → keeps s ≡ true → keeps_loop_variables rest ≡ true → keeps_loop_variables (then s rest) ≡ true
  then_keeps (stmt.Set n e) rest h k = k
  then_keeps (stmt.Put flow at e) rest h k = k
  then_keeps (stmt.If c first second) rest h k = and_from (keeps (stmt.If c first second)) (keeps_loop_variables rest) h k
  then_keeps (stmt.For n lo hi turn) rest h k = and_from (keeps (stmt.For n lo hi turn)) (keeps_loop_variables rest) h k
  then_keeps (stmt.Trap w) rest h k = k

  abbrev KeepsOne : Stmt × Bindings → Type 0
  KeepsOne x = (keeps x.0 ≡ true) × AreBelow x.1

  abbrev KeepsAll : StatementList × Bindings → Type 0
  KeepsAll x = (keeps_loop_variables x.0 ≡ true) × AreBelow x.1

  abbrev KeepsBlock : Resolver → Type 0
  KeepsBlock block = (k : Bindings) → AreBelow k → IfValue KeepsAll (block k)

  declare_keeps : (w : Word) (e : Expression) (k : Bindings) → AreBelow k → IfValue KeepsOne (declare scope w e k)
  declare_keeps w e k h = past KeepsOne (require_room w k) _
      (λ _. past KeepsOne (require_fresh w k) _
      (λ _. past KeepsOne (term_of scope k.seen e) _ (λ x. (refl, declared_below k w.text false h))))

  set_keeps : (w : Word) (e : Expression) (k : Bindings) → AreBelow k → IfValue KeepsOne (set scope w e k)
  set_keeps w e k h = past KeepsOne (slot_of w (meaning_of scope k.seen w.text)) _ (λ n. past KeepsOne (term_of scope k.seen e) _ (λ x. (refl, h)))

  put_keeps : (w : Word) (at e : Expression) (k : Bindings) → AreBelow k → IfValue KeepsOne (put scope w at e k)
  put_keeps w at e k h = past KeepsOne (written_flow scope w) _
      (λ flow. past KeepsOne (term_of scope k.seen at) _
      (λ i. past KeepsOne (term_of scope k.seen e) _ (λ x. (refl, h))))

  inside_keeps : (block : Resolver) → KeepsBlock block → (k : Bindings) → AreBelow k → IfValue KeepsAll (in_block block_opened block k)
  inside_keeps block good k h = after_if_value KeepsAll KeepsAll (block (block_opened k)) _
      (good (block_opened k) h) (λ x l. (
        l.0,
        all_take (IsBelow (next_slot scope x.1)) (length k.seen) x.1.seen
            l.1,
      ))

  choice_keeps : (c : Expression) (first second : Resolver) → KeepsBlock first → KeepsBlock second → (k : Bindings)
      → AreBelow k → IfValue KeepsOne (if_else scope c first second k)
  choice_keeps c first second one two k h =
      past KeepsOne (term_of scope k.seen c) _
      (λ x. after_if_value KeepsAll KeepsOne (in_block block_opened first k) _ (inside_keeps first one k h)
      (λ a l. after_if_value KeepsAll KeepsOne (in_block block_opened second a.1) _ (inside_keeps second two a.1 l.1)
      (λ b m. (and_from (keeps_loop_variables a.0) (keeps_loop_variables b.0) l.0 m.0, m.1))))

  abbrev LoopAll : ℕ → StatementList × Bindings → Type 0
  LoopAll v x = (never_sets v x.0 ≡ true) × (keeps_loop_variables x.0 ≡ true) × AreBelow x.1

  -- the block of a loop does not assign to the loop's variable
  turn_keeps : (w : Word) (turn : Resolver) → ((v : ℕ) → NeverBlock v turn) → KeepsBlock turn → (k : Bindings)
      → AreBelow k → IfValue (LoopAll (next_slot scope k))
      (in_block (λ m. with_variable scope w.text true (block_opened m)) turn k)
  turn_keeps w turn free good k h =
      let v = next_slot scope k in
      let inner = with_variable scope w.text true (block_opened k) in
      after_if_value (λ x. NeverAll v x × KeepsAll x) (LoopAll v) (turn inner) _
      (good_both (NeverAll v) KeepsAll (turn inner) (free v inner (loop_free k w.text h))
      (good inner (declared_below (block_opened k) w.text true h)))
      (λ x l. (l.0.0, l.1.0, all_take (IsBelow (next_slot scope x.1)) (length k.seen) x.1.seen l.1.1))

  counted_keeps : (w : Word) (lo hi : Expression) (turn : Resolver) → ((v : ℕ) → NeverBlock v turn)
      → KeepsBlock turn → (k : Bindings) → AreBelow k → IfValue KeepsOne (for_loop scope w lo hi turn k)
  counted_keeps w lo hi turn free good k h =
      past KeepsOne (require_room w k) _
      (λ _. past KeepsOne (term_of scope k.seen lo) _
      (λ x. past KeepsOne (term_of scope k.seen hi) _
      (λ y. after_if_value (LoopAll (next_slot scope k)) KeepsOne
      (in_block (λ m. with_variable scope w.text true (block_opened m)) turn k) _
      (turn_keeps w turn free good k h)
      (λ t l. (and_from (never_sets (next_slot scope k) t.0) (keeps_loop_variables t.0) l.0 l.1, l.2)))))

  trap_keeps : (w : Word) (k : Bindings) → AreBelow k → IfValue KeepsOne (trap w k)
  trap_keeps w k h = (refl, go _)
    where
      go : (o : Option ℕ) → AreBelow (numbered w.text k o).1
      go None = h
      go (Some n) = h

  follow_keeps : (first : Resolved (Stmt × Bindings)) (rest : Resolver) → IfValue KeepsOne first → KeepsBlock rest → IfValue KeepsAll (follow first rest)
  follow_keeps first rest one more = after_if_value KeepsOne KeepsAll first _ one
      (λ x h. after_if_value KeepsAll KeepsAll (rest x.1) _ (more x.1 h.1)
      (λ y l. (then_keeps x.0 y.0 h.0 l.0, l.1)))

  -- in resolved statements no loop assigns to its own variable
  pub loops_kept : (t : Statements) → KeepsBlock (resolved scope t)
  loops_kept Done k h = (refl, h)
  loops_kept (DeclareThen w e rest) k h = follow_keeps (declare scope w e k) (resolved scope rest) (declare_keeps w e k h) (loops_kept rest)
  loops_kept (SetThen w e rest) k h = follow_keeps (set scope w e k) (resolved scope rest) (set_keeps w e k h) (loops_kept rest)
  loops_kept (PutThen w at e rest) k h = follow_keeps (put scope w at e k) (resolved scope rest) (put_keeps w at e k h) (loops_kept rest)
  loops_kept (IfThen c first second rest) k h =
      follow_keeps (if_else scope c (resolved scope first) (resolved scope second) k) (resolved scope rest)
      (choice_keeps c (resolved scope first) (resolved scope second) (loops_kept first) (loops_kept second) k h)
      (loops_kept rest)
  loops_kept (ForThen w lo hi turn rest) k h =
      follow_keeps (for_loop scope w lo hi (resolved scope turn) k) (resolved scope rest)
      (counted_keeps w lo hi (resolved scope turn) (λ v. never_set v turn) (loops_kept turn) k h)
      (loops_kept rest)
  loops_kept (TrapThen w rest) k h = follow_keeps (trap w k) (resolved scope rest) (trap_keeps w k h) (loops_kept rest)
