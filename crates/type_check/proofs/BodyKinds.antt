-- A resolved body reads only flows that have a tile, and changes no tile of a READ flow.
use Rattle.std.proofs.Common.{◌≡◌, ℕ, Bool, true, ◌&&◌, List, map, Option, Some, None, option_map, slice_get, refl, sym, ◌∙◌, ap}
use Rattle.std.proofs.lemmas.Option.{slice_get-map}
use Rattle.term_core.specs.declared.body.Stmt.{Stmt}
use Rattle.term_core.specs.declared.body.Stmt.TheVariants as stmt
use Rattle.term_core.specs.declared.flow.FlowKind.{FlowKind}
use Rattle.term_core.specs.declared.flow.FlowKind.TheVariants as kind
use Rattle.term_core.specs.BlockStatementList.{then}
use Rattle.term_core.specs.StatementList.{StatementList}
use Rattle.term_core.specs.Term.{Term}
use Rattle.jdf_tree.specs.declared.expression.Word.{Word}
use Rattle.jdf_tree.specs.Expression.{Expression, Num, Name, Elem, Unary, Binary, Choose}
use Rattle.jdf_tree.specs.Statements.{Statements, Done, DeclareThen, SetThen, PutThen, IfThen, ForThen, TrapThen}
use Rattle.plan_core.specs.Kinds.{is_data, is_writable}
use Rattle.plan_core.specs.Bodies.{reads_data, respects_kinds}
use Rattle.expr_names.specs.declared.meaning.Meaning.{Meaning}
use Rattle.expr_names.specs.declared.meaning.Meaning.TheVariants as meaning
use Rattle.body_lang.specs.Environment.{Environment}
use Rattle.body_lang.specs.declared.scope.FlowName.{FlowName}
use Rattle.body_lang.specs.declared.variable.Variable.{Variable}
use Rattle.body_lang.specs.Meanings.{meaning_of, flow_named}
use Rattle.expr_names.specs.Symbols.{Resolved}
use Rattle.expr_names.specs.Expressions.{together}
use Rattle.body_lang.specs.Expressions.{value_of, slot_of, readable, writable, if_flow, flow_by, read_flow, written_flow, term_of}
use Rattle.body_lang.specs.Bindings.{Bindings, block_opened, with_variable, require_room, require_fresh}
use Rattle.body_lang.specs.Statements.{Resolver, declare, set, put, in_block, if_else, for_loop, trap, follow, resolved}
use Rattle.std.proofs.lemmas.Bool.{and_from}
use Rattle.type_check.proofs.BodyParts.{pair_good, good_then}
use Rattle.body_lang.proofs.CallerLemmas.{IfValue, after_if_value, past}

-- the kinds of the flows
abbrev pub kinds_of : Environment → List FlowKind
kinds_of scope = map (λ (x : FlowName). x.kind) scope.flows

module _ (scope : Environment) where
  -- ---- flows

  abbrev IsUse : (Option FlowKind → Bool) → (Word → FlowKind → ℕ → Resolved ℕ) → Type 0
  IsUse test use_of = (w : Word) (k : FlowKind) (n : ℕ) → IfValue (λ m. (n ≡ m) × (test (Some k) ≡ true)) (use_of w k n)

  flow_good : (test : Option FlowKind → Bool) (use_of : Word → FlowKind → ℕ → Resolved ℕ) → IsUse test use_of
      → (w : Word) (o : Option ℕ) → IfValue (λ m. test (slice_get (kinds_of scope) m) ≡ true)
      (flow_by use_of scope w o)
  flow_good test use_of good w None = tt
  flow_good test use_of good w (Some n) = go (slice_get scope.flows n) refl
    where
      go : (o : Option FlowName) → slice_get scope.flows n ≡ o → IfValue (λ m. test (slice_get (kinds_of scope) m) ≡ true) (if_flow use_of w n o)
      go None s = tt
      go (Some x) s =
          let at : slice_get (kinds_of scope) n ≡ Some x.kind =
          slice_get-map (λ (x : FlowName). x.kind) scope.flows n
          ∙ ap (option_map (λ (x : FlowName). x.kind)) s in
          good_then (λ m. (n ≡ m) × (test (Some x.kind) ≡ true)) (λ m. test (slice_get (kinds_of scope) m) ≡ true) (use_of w x.kind n) (good w x.kind n)
          (λ m h. ap (λ j. test (slice_get (kinds_of scope) j)) (sym h.0) ∙ (ap test at ∙ h.1))

  readable_use : IsUse is_data readable
  readable_use w kind.Read n = (refl, refl)
  readable_use w kind.Write n = (refl, refl)
  readable_use w kind.Rw n = (refl, refl)
  readable_use w kind.Ctl n = tt

  writable_use : IsUse is_writable writable
  writable_use w kind.Read n = tt
  writable_use w kind.Write n = (refl, refl)
  writable_use w kind.Rw n = (refl, refl)
  writable_use w kind.Ctl n = tt

  abbrev IsRead : ℕ → Type 0
  IsRead n = is_data (slice_get (kinds_of scope) n) ≡ true

  abbrev IsWritten : ℕ → Type 0
  IsWritten n = is_writable (slice_get (kinds_of scope) n) ≡ true

  -- ---- expressions

  abbrev Reads : Term → Type 0
  Reads t = reads_data (kinds_of scope) t ≡ true

  abbrev BothRead : Term × Term → Type 0
  BothRead x = Reads x.0 × Reads x.1

  both_read : (x y : Term) → Reads x → Reads y → reads_data (kinds_of scope) x && reads_data (kinds_of scope) y ≡ true
  both_read x y h k = and_from (reads_data (kinds_of scope) x) (reads_data (kinds_of scope) y) h k

  value_good : (w : Word) (m : Meaning) → IfValue Reads (value_of w m)
  value_good w (meaning.Variable n) = refl
  value_good w (meaning.LoopVariable n) = refl
  value_good w (meaning.Local n) = refl
  value_good w (meaning.Integer z) = refl
  value_good w meaning.Collection = tt
  value_good w meaning.Nothing = tt

  reads : (seen : List Variable) (e : Expression) → IfValue Reads (term_of scope seen e)
  reads seen (Num z spot) = refl
  reads seen (Name w) = value_good w (meaning_of scope seen w.text)
  reads seen (Elem w at) =
      after_if_value (λ (x : ℕ × Term). IsRead x.0 × Reads x.1) Reads (together (λ first _. first) (read_flow scope w) (term_of scope seen at)) _
      (pair_good IsRead Reads (read_flow scope w) (term_of scope seen at) (flow_good is_data readable readable_use w (flow_named scope w.text)) (reads seen at))
      (λ x h. and_from (is_data (slice_get (kinds_of scope) x.0)) (reads_data (kinds_of scope) x.1) h.0 h.1)
  reads seen (Unary o a spot) = after_if_value Reads Reads (term_of scope seen a) _ (reads seen a) (λ x h. h)
  reads seen (Binary o a b) =
      after_if_value BothRead Reads (together (λ first _. first) (term_of scope seen a) (term_of scope seen b)) _
      (pair_good Reads Reads (term_of scope seen a) (term_of scope seen b) (reads seen a) (reads seen b)) (λ x h. both_read x.0 x.1 h.0 h.1)
  reads seen (Choose c a b) =
      let branches = together (λ first _. first) (term_of scope seen a) (term_of scope seen b) in
      after_if_value (λ (x : Term × (Term × Term)). Reads x.0 × BothRead x.1) Reads (together (λ first _. first) (term_of scope seen c) branches) _
      (pair_good Reads BothRead (term_of scope seen c) branches (reads seen c)
      (pair_good Reads Reads (term_of scope seen a) (term_of scope seen b) (reads seen a) (reads seen b)))
      (λ x h. and_from (reads_data (kinds_of scope) x.0 && reads_data (kinds_of scope) x.1.0)
      (reads_data (kinds_of scope) x.1.1) (both_read x.0 x.1.0 h.0 h.1.0) h.1.1)

  -- ---- statements

  abbrev respects : Stmt → Bool
  respects (stmt.Set n e) = reads_data (kinds_of scope) e
  respects (stmt.Put flow at e) = is_writable (slice_get (kinds_of scope) flow) && reads_data (kinds_of scope) at && reads_data (kinds_of scope) e
  respects (stmt.If c first second) = reads_data (kinds_of scope) c && respects_kinds (kinds_of scope) first && respects_kinds (kinds_of scope) second
  respects (stmt.For n lo hi turn) = reads_data (kinds_of scope) lo && reads_data (kinds_of scope) hi && respects_kinds (kinds_of scope) turn
  respects (stmt.Trap w) = true

  then_respects : (s : Stmt) (rest : StatementList) → respects s ≡ true
      → respects_kinds (kinds_of scope) rest ≡ true → respects_kinds (kinds_of scope) (then s rest) ≡ true
  then_respects (stmt.Set n e) rest h k = and_from (respects (stmt.Set n e)) (respects_kinds (kinds_of scope) rest) h k
  then_respects (stmt.Put flow at e) rest h k = and_from (respects (stmt.Put flow at e)) (respects_kinds (kinds_of scope) rest) h k
  then_respects (stmt.If c first second) rest h k = and_from (respects (stmt.If c first second)) (respects_kinds (kinds_of scope) rest) h k
  then_respects (stmt.For n lo hi turn) rest h k = and_from (respects (stmt.For n lo hi turn)) (respects_kinds (kinds_of scope) rest) h k
  then_respects (stmt.Trap w) rest h k = k

  abbrev IsOne : Stmt × Bindings → Type 0
  IsOne x = respects x.0 ≡ true

  abbrev AreAll : StatementList × Bindings → Type 0
  AreAll x = respects_kinds (kinds_of scope) x.0 ≡ true

  abbrev IsBlock : Resolver → Type 0
  IsBlock block = (k : Bindings) → IfValue AreAll (block k)

  declare_good : (w : Word) (e : Expression) (k : Bindings) → IfValue IsOne (declare scope w e k)
  declare_good w e k = past IsOne (require_room w k) _
      (λ _. past IsOne (require_fresh w k) _
      (λ _. after_if_value Reads IsOne (term_of scope k.seen e) _ (reads k.seen e) (λ x h. h)))

  set_good : (w : Word) (e : Expression) (k : Bindings) → IfValue IsOne (set scope w e k)
  set_good w e k = past IsOne (slot_of w (meaning_of scope k.seen w.text)) _
      (λ n. after_if_value Reads IsOne (term_of scope k.seen e) _ (reads k.seen e) (λ x h. h))

  put_good : (w : Word) (at e : Expression) (k : Bindings) → IfValue IsOne (put scope w at e k)
  put_good w at e k =
      after_if_value IsWritten IsOne (written_flow scope w) _ (flow_good is_writable writable writable_use w (flow_named scope w.text))
      (λ flow h. after_if_value Reads IsOne (term_of scope k.seen at) _ (reads k.seen at)
      (λ i l. after_if_value Reads IsOne (term_of scope k.seen e) _ (reads k.seen e)
      (λ x m. and_from (is_writable (slice_get (kinds_of scope) flow) && reads_data (kinds_of scope) i)
      (reads_data (kinds_of scope) x)
      (and_from (is_writable (slice_get (kinds_of scope) flow)) (reads_data (kinds_of scope) i) h l) m)))

  inside_good : (opening : Bindings → Bindings) (block : Resolver) → IsBlock block → (k : Bindings) → IfValue AreAll (in_block opening block k)
  inside_good opening block h k = after_if_value AreAll AreAll (block (opening k)) _ (h (opening k)) (λ x g. g)

  choice_good : (c : Expression) (first second : Resolver) → IsBlock first → IsBlock second → (k : Bindings) → IfValue IsOne (if_else scope c first second k)
  choice_good c first second one two k =
      after_if_value Reads IsOne (term_of scope k.seen c) _ (reads k.seen c)
      (λ x h. after_if_value AreAll IsOne (in_block block_opened first k) _ (inside_good block_opened first one k)
      (λ a l. after_if_value AreAll IsOne (in_block block_opened second a.1) _ (inside_good block_opened second two a.1)
      (λ b m. and_from (reads_data (kinds_of scope) x && respects_kinds (kinds_of scope) a.0)
      (respects_kinds (kinds_of scope) b.0)
      (and_from (reads_data (kinds_of scope) x) (respects_kinds (kinds_of scope) a.0) h l) m)))

  counted_good : (w : Word) (lo hi : Expression) (turn : Resolver) → IsBlock turn → (k : Bindings) → IfValue IsOne (for_loop scope w lo hi turn k)
  counted_good w lo hi turn good k =
      past IsOne (require_room w k) _
      (λ _. after_if_value Reads IsOne (term_of scope k.seen lo) _ (reads k.seen lo)
      (λ x h. after_if_value Reads IsOne (term_of scope k.seen hi) _ (reads k.seen hi)
      (λ y l. after_if_value AreAll IsOne (in_block (λ m. with_variable scope w.text true (block_opened m)) turn k)
      _ (inside_good (λ m. with_variable scope w.text true (block_opened m)) turn good k)
      (λ t m. and_from (reads_data (kinds_of scope) x && reads_data (kinds_of scope) y)
      (respects_kinds (kinds_of scope) t.0)
      (and_from (reads_data (kinds_of scope) x) (reads_data (kinds_of scope) y) h l) m))))

  follow_good : (first : Resolved (Stmt × Bindings)) (rest : Resolver) → IfValue IsOne first → IsBlock rest → IfValue AreAll (follow first rest)
  follow_good first rest one more = after_if_value IsOne AreAll first _ one
      (λ x h. after_if_value AreAll AreAll (rest x.1) _ (more x.1) (λ y k. then_respects x.0 y.0 h k))

  -- resolved statements respect the kinds of the flows
  pub kinds_respected : (t : Statements) (k : Bindings) → IfValue AreAll (resolved scope t k)
  kinds_respected Done k = refl
  kinds_respected (DeclareThen w e rest) k = follow_good (declare scope w e k) (resolved scope rest) (declare_good w e k) (kinds_respected rest)
  kinds_respected (SetThen w e rest) k = follow_good (set scope w e k) (resolved scope rest) (set_good w e k) (kinds_respected rest)
  kinds_respected (PutThen w at e rest) k = follow_good (put scope w at e k) (resolved scope rest) (put_good w at e k) (kinds_respected rest)
  kinds_respected (IfThen c first second rest) k =
      follow_good (if_else scope c (resolved scope first) (resolved scope second) k) (resolved scope rest)
      (choice_good c (resolved scope first) (resolved scope second) (kinds_respected first)
      (kinds_respected second) k) (kinds_respected rest)
  kinds_respected (ForThen w lo hi turn rest) k =
      follow_good (for_loop scope w lo hi (resolved scope turn) k) (resolved scope rest)
      (counted_good w lo hi (resolved scope turn) (kinds_respected turn) k) (kinds_respected rest)
  kinds_respected (TrapThen w rest) k = follow_good (trap w k) (resolved scope rest) refl (kinds_respected rest)
