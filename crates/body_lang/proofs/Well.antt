-- A resolved body is well made: its expressions.
use Rattle.std.proofs.Common.{◌≡◌, ℕ, ◌<◌, ◌≤◌, Bool, true, false, cond, List, length, Ok, refl, subst, arith}
use Rattle.std.specs.Prelude.{Option, Some, None, slice_get}
use Rattle.std.specs.Str.{bytes_eq}
use Rattle.std.proofs.lemmas.Bool.{lt-ltb}
use Rattle.std.specs.Option.{option_map_or}
use Rattle.name_table.specs.Names.{index_named}
use Rattle.term_core.specs.declared.flow.FlowKind.{FlowKind}
use Rattle.term_core.specs.declared.flow.FlowKind.TheVariants as kind
use Rattle.term_core.specs.Term.{Term}
use Rattle.term_core.specs.Term as term
use Rattle.term_core.specs.Value.{is_closed_with}
use Rattle.jdf_tree.specs.declared.expression.Word.{Word}
use Rattle.jdf_tree.specs.Expression.{Expression}
use Rattle.expr_names.specs.declared.meaning.Meaning.{Meaning}
use Rattle.expr_names.specs.declared.meaning.Meaning.TheVariants as meaning
use Rattle.body_lang.specs.Environment.{Environment}
use Rattle.body_lang.specs.declared.scope.FlowName.{FlowName}
use Rattle.body_lang.specs.declared.variable.Variable.{Variable}
use Rattle.body_lang.specs.Meanings.{last_named, variable_or, collection_or_nothing, meaning_of, flow_named, outer_meaning}
use Rattle.expr_names.specs.Symbols.{Resolved}
use Rattle.body_lang.specs.Expressions.{value_of, slot_of, readable, writable, if_flow, flow_by, read_flow, written_flow, symbols_of, term_of}
use Rattle.expr_names.proofs.CallerLemmas as closed
use Rattle.body_lang.proofs.Slots.{AreSlots, last_found}
use Rattle.list_lemmas.proofs.Places.{position_within}
use Rattle.list_lemmas.proofs.Options.{same_Ok}

-- ---- names

module _ (scope : Environment) (end : ℕ) (room : length scope.locals ≤ end) where
  -- a slot or number that a meaning has exists
  abbrev IsThere : Meaning → Type 0
  IsThere (meaning.Variable n) = (length scope.locals ≤ n) × (n < end)
  IsThere (meaning.LoopVariable n) = (length scope.locals ≤ n) × (n < end)
  IsThere (meaning.Local n) = n < length scope.locals
  IsThere (meaning.Integer z) = Unit {0}
  IsThere meaning.Collection = Unit {0}
  IsThere meaning.Nothing = Unit {0}

  global_there : (o : Option _) (b : Bool) → IsThere (option_map_or meaning.Integer o (collection_or_nothing b))
  global_there None true = tt
  global_there None false = tt
  global_there (Some z) b = tt

  local_there : (o : Option ℕ) (m : Meaning) → ((n : ℕ) → o ≡ Some n → n < length scope.locals) → IsThere m → IsThere (option_map_or meaning.Local o m)
  local_there None m below h = h
  local_there (Some n) m below h = below n refl

  variable_there : (o : Option Variable) (m : Meaning)
      → ((v : Variable) → o ≡ Some v → (length scope.locals ≤ v.slot) × (v.slot < end)) → IsThere m
      → IsThere (variable_or o m)
  variable_there None m found h = h
  variable_there (Some v) m found h = go v.is_loop_variable
    where
      go : (b : Bool) → IsThere (cond b (meaning.LoopVariable v.slot) (meaning.Variable v.slot))
      go true = found v refl
      go false = found v refl

  module _ (seen : List Variable) (slots : AreSlots (length scope.locals) end seen) where
    meaning_there : (name : List ℕ) → IsThere (meaning_of scope seen name)
    meaning_there name =
        variable_there (last_named seen name) (outer_meaning (index_named scope.locals name) (scope.integer name) (scope.is_collection name))
        (λ v e. last_found (length scope.locals) end (λ (v : Variable). bytes_eq v.name name) seen v slots e)
        (local_there (index_named scope.locals name) (option_map_or meaning.Integer (scope.integer name) (collection_or_nothing (scope.is_collection name)))
        (λ n e. position_within (λ (text : List ℕ). bytes_eq text name) scope.locals n e) (global_there (scope.integer name) (scope.is_collection name)))

    -- the term of a name is closed
    value_closed : (w : Word) (m : Meaning) (t : Term) → IsThere m → value_of w m ≡ Ok t → is_closed_with end (length scope.flows) t ≡ true
    value_closed w (meaning.Variable n) t h e = rw (← (same_Ok (term.Local n) t e)) (lt-ltb n end h.1)
    value_closed w (meaning.LoopVariable n) t h e = rw (← (same_Ok (term.Local n) t e)) (lt-ltb n end h.1)
    value_closed w (meaning.Local n) t h e = rw (← (same_Ok (term.Local n) t e)) (lt-ltb n end (omega (arith, h, room)))
    value_closed w (meaning.Integer z) t h e = rw (← (same_Ok (term.Num z) t e)) refl
    value_closed w meaning.Collection t h e = absurd cc
    value_closed w meaning.Nothing t h e = absurd cc

    slot_there : (w : Word) (m : Meaning) (n : ℕ) → IsThere m → slot_of w m ≡ Ok n → (length scope.locals ≤ n) × (n < end)
    slot_there w (meaning.Variable k) n h e = let same = same_Ok k n e in subst (λ (j : ℕ). (length scope.locals ≤ j) × (j < end)) same h
    slot_there w (meaning.LoopVariable k) n h e = absurd cc
    slot_there w (meaning.Local k) n h e = absurd cc
    slot_there w (meaning.Integer z) n h e = absurd cc
    slot_there w meaning.Collection n h e = absurd cc
    slot_there w meaning.Nothing n h e = absurd cc

    pub set_there : (w : Word) (n : ℕ) → slot_of w (meaning_of scope seen w.text) ≡ Ok n → (length scope.locals ≤ n) × (n < end)
    set_there w n e = slot_there w (meaning_of scope seen w.text) n (meaning_there w.text) e

    -- ---- flows

    readable_is : (w : Word) (n m : ℕ) (k : FlowKind) → readable w k n ≡ Ok m → n ≡ m
    readable_is w n m kind.Ctl e = absurd cc
    readable_is w n m _ e = same_Ok n m e

    writable_is : (w : Word) (n m : ℕ) (k : FlowKind) → writable w k n ≡ Ok m → n ≡ m
    writable_is w n m kind.Ctl e = absurd cc
    writable_is w n m kind.Read e = absurd cc
    writable_is w n m _ e = same_Ok n m e

    flow_is : (use_of : Word → FlowKind → ℕ → Resolved ℕ)
        → ((w : Word) (n m : ℕ) (k : FlowKind) → use_of w k n ≡ Ok m → n ≡ m)
        → (w : Word) (n m : ℕ) (o : Option FlowName) → if_flow use_of w n o ≡ Ok m → n ≡ m
    flow_is use_of same w n m None e = absurd cc
    flow_is use_of same w n m (Some flow) e = same w n m flow.kind e

    flow_below : (use_of : Word → FlowKind → ℕ → Resolved ℕ)
        → ((w : Word) (n m : ℕ) (k : FlowKind) → use_of w k n ≡ Ok m → n ≡ m) → (w : Word) (m : ℕ) (o : Option ℕ)
        → ((n : ℕ) → o ≡ Some n → n < length scope.flows)
        → flow_by use_of scope w o ≡ Ok m → m < length scope.flows
    flow_below use_of same w m None below e = absurd cc
    flow_below use_of same w m (Some n) below e = let k = flow_is use_of same w n m (slice_get scope.flows n) e in let b = below n refl in omega (arith, k, b)

    pub read_below : (w : Word) (m : ℕ) → read_flow scope w ≡ Ok m → m < length scope.flows
    read_below w m e = flow_below readable readable_is w m (flow_named scope w.text)
        (λ n h. position_within (λ (x : FlowName). bytes_eq x.name w.text) scope.flows n h) e

    pub written_below : (w : Word) (m : ℕ) → written_flow scope w ≡ Ok m → m < length scope.flows
    written_below w m e = flow_below writable writable_is w m (flow_named scope w.text)
        (λ n h. position_within (λ (x : FlowName). bytes_eq x.name w.text) scope.flows n h) e

    -- ---- expressions

    pub term_closed : (e : Expression) (t : Term) → term_of scope seen e ≡ Ok t → is_closed_with end (length scope.flows) t ≡ true
    term_closed e t h =
        closed.term_closed (symbols_of scope seen) end (length scope.flows) (λ w x k. value_closed w (meaning_of scope seen w.text) x (meaning_there w.text) k)
        (λ w n k. read_below w n k) e t h
