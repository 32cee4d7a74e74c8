-- A resolved body is well made: its statements.
use Rattle.std.proofs.Common.{◌≡◌, ℕ, ◌+◌, ◌<◌, ◌≤◌, Bool, true, false, cond, List, [], ◌∷◌, length, Ok, refl, subst, arith}
use Rattle.std.specs.Prelude.{◌&&◌, nat_lt, nat_le, Some, None}
use Rattle.std.proofs.lemmas.Bool.{lt-ltb, ltb-true, and_from}
use Rattle.std.proofs.lemmas.Bool.Decides.{nat_tests}
use Rattle.jdf_lex.specs.declared.fault.JdfCode.TheVariants.{TooManyVars}
use Rattle.term_core.specs.declared.body.Stmt.{Stmt}
use Rattle.term_core.specs.declared.body.Stmt.TheVariants as stmt
use Rattle.term_core.specs.BlockStatementList.{then}
use Rattle.term_core.specs.StatementList.{StatementList}
use Rattle.term_core.specs.StatementList as list
use Rattle.term_core.specs.Term.{Term}
use Rattle.ptg_base.specs.Returns.{and_then}
use Rattle.term_core.specs.Value.{is_closed_with}
use Rattle.term_core.specs.WellBody.{is_variable, are_well_made, IsWellBody}
use Rattle.jdf_tree.specs.declared.expression.Word.{Word}
use Rattle.jdf_tree.specs.Expression.{Expression}
use Rattle.jdf_tree.specs.Statements.{Statements, Done, DeclareThen, SetThen, PutThen, IfThen, ForThen, TrapThen}
use Rattle.body_lang.specs.Environment.{Environment}
use Rattle.body_lang.specs.Meanings.{meaning_of}
use Rattle.expr_names.specs.Symbols.{Resolved, fault_at}
use Rattle.body_lang.specs.Expressions.{slot_of, written_flow, term_of}
use Rattle.body_lang.specs.Bindings.{Bindings, no_bindings, block_opened, block_closed, next_slot, with_variable, require_room, require_fresh}
use Rattle.body_lang.specs.Bindings.{numbered, word_number}
use Rattle.body_lang.specs.Statements.{Resolver, declare, set, put, in_block, if_else, for_loop, trap, follow, resolved}
use Rattle.body_lang.proofs.Slots.{AreSlots, slots_append, slots_take, slots_raise}
use Rattle.body_lang.proofs.Well.{set_there, written_below, term_closed}
use Rattle.list_lemmas.proofs.Options.{same_Ok, steps_of}

slot_test : (locals end n : ℕ) → locals ≤ n → n < end → is_variable locals end n ≡ true
slot_test locals end n h k = and_from (nat_le locals n) (nat_lt n end) (grind (arith, nat_tests)) (lt-ltb n end k)

module _ (scope : Environment) where
  -- each variable that is seen has the slot of a variable declared so far
  record IsSound (k : Bindings) : Type 0 where
    at_most : k.declared ≤ 256
    slots : AreSlots (length scope.locals) (length scope.locals + k.declared) k.seen

  -- a statement names only what exists, if there are this many slots
  abbrev is_well : ℕ → Stmt → Bool
  is_well end (stmt.Set n e) = is_variable (length scope.locals) end n && is_closed_with end (length scope.flows) e
  is_well end (stmt.Put flow at e) = nat_lt flow (length scope.flows) && is_closed_with end (length scope.flows) at && is_closed_with end (length scope.flows) e
  is_well end (stmt.If c first second) =
      is_closed_with end (length scope.flows) c && are_well_made (length scope.locals) end (length scope.flows)
      first && are_well_made (length scope.locals) end (length scope.flows) second
  is_well end (stmt.For n lo hi turn) =
      is_variable (length scope.locals) end n && is_closed_with end (length scope.flows) lo && is_closed_with end
      (length scope.flows) hi && are_well_made (length scope.locals) end (length scope.flows) turn
  is_well end (stmt.Trap w) = true

  then_well : (end : ℕ) (s : Stmt) (rest : StatementList) → is_well end s ≡ true
      → are_well_made (length scope.locals) end (length scope.flows) rest ≡ true
      → are_well_made (length scope.locals) end (length scope.flows) (then s rest) ≡ true
  then_well end (stmt.Set n e) rest h k = and_from (is_well end (stmt.Set n e)) (are_well_made (length scope.locals) end (length scope.flows) rest) h k
  then_well end (stmt.Put flow at e) rest h k =
      and_from (is_well end (stmt.Put flow at e))
      (are_well_made (length scope.locals) end (length scope.flows) rest) h k
  then_well end (stmt.If c first second) rest h k =
      and_from (is_well end (stmt.If c first second))
      (are_well_made (length scope.locals) end (length scope.flows) rest) h k
  then_well end (stmt.For n lo hi turn) rest h k =
      and_from (is_well end (stmt.For n lo hi turn))
      (are_well_made (length scope.locals) end (length scope.flows) rest) h k
  then_well end (stmt.Trap w) rest h k = k

  -- the bindings follow earlier ones, and each number of slots from theirs on passes the test
  record Keeps (k m : Bindings) (test : ℕ → Bool) : Type 0 where
    rises : k.declared ≤ m.declared
    sound : IsSound m
    well : (end : ℕ) → length scope.locals + m.declared ≤ end → test end ≡ true

  abbrev IsStatement : Bindings → Resolved (Stmt × Bindings) → Type 0
  IsStatement k r = (x : Stmt × Bindings) → r ≡ Ok x → Keeps k x.1 (λ end. is_well end x.0)

  abbrev IsBlock : Resolver → Type 0
  IsBlock block = (k : Bindings) → IsSound k → (x : StatementList × Bindings) → block k ≡ Ok x
      → Keeps k x.1 (λ end. are_well_made (length scope.locals) end (length scope.flows) x.0)

  -- expressions, also if there are slots for more variables
  closed_at : (k : Bindings) → IsSound k → (e : Expression) (t : Term) → term_of scope k.seen e ≡ Ok t → (end : ℕ)
      → length scope.locals + k.declared ≤ end → is_closed_with end (length scope.flows) t ≡ true
  closed_at k sound e t h end le =
      term_closed scope end (omega (arith, le)) k.seen (slots_raise (length scope.locals) (length scope.locals + k.declared) end k.seen le sound.slots) e t h

  has_room : (w : Word) (k : Bindings) (u : Unit {0}) → require_room w k ≡ Ok u → k.declared < 256
  has_room w k u e = go (nat_lt k.declared 256) refl e
    where
      go : (b : Bool) → nat_lt k.declared 256 ≡ b → (let r : Resolved (Unit {0}) = cond b (Ok tt) (fault_at w TooManyVars) in r ≡ Ok u) → k.declared < 256
      go true t e = ltb-true k.declared 256 t
      go false t e = absurd cc

  declared_sound : (k : Bindings) (name : List ℕ) (is_loop_variable : Bool) → IsSound k → k.declared < 256
      → IsSound (with_variable scope name is_loop_variable k)
  declared_sound k name is_loop_variable sound room =
      let one : AreSlots (length scope.locals) (length scope.locals + (k.declared + 1))
      (record { name = name; slot = next_slot scope k; is_loop_variable = is_loop_variable } ∷ []) =
      (omega arith, omega arith, tt) in
      record {
        at_most = omega (arith, room);
        slots =
            slots_append (length scope.locals) (length scope.locals + (k.declared + 1)) k.seen
            (record { name = name; slot = next_slot scope k; is_loop_variable = is_loop_variable } ∷ [])
            (slots_raise (length scope.locals) (length scope.locals + k.declared)
            (length scope.locals + (k.declared + 1)) k.seen (omega arith) sound.slots) one;
      }

  declare_well : (w : Word) (e : Expression) (k : Bindings) → IsSound k → IsStatement k (declare scope w e k)
  declare_well w e k sound x h =
      let a = steps_of (require_room w k)
      (λ _. and_then (require_fresh w k)
      (λ _. and_then (term_of scope k.seen e)
      (λ t. Ok (stmt.Set (next_slot scope k) t, with_variable scope w.text false k)))) x h in
      let b = steps_of (require_fresh w k)
      (λ _. and_then (term_of scope k.seen e)
      (λ t. Ok (stmt.Set (next_slot scope k) t, with_variable scope w.text false k))) x a.2 in
      let d = steps_of (term_of scope k.seen e) (λ t. Ok (stmt.Set (next_slot scope k) t, with_variable scope w.text false k)) x b.2 in
      subst (λ (y : Stmt × Bindings). Keeps k y.1 (λ end. is_well end y.0))
      (same_Ok (stmt.Set (next_slot scope k) d.0, with_variable scope w.text false k) x d.2)
      (record {
        rises = omega arith;
        sound = declared_sound k w.text false sound (has_room w k a.0 a.1);
        well = λ end le.
            and_from (is_variable (length scope.locals) end (next_slot scope k)) (is_closed_with end (length scope.flows) d.0)
            (slot_test (length scope.locals) end (next_slot scope k) (omega arith) (omega (arith, le))) (closed_at k sound e d.0 d.1 end (omega (arith, le)));
      })

  set_well : (w : Word) (e : Expression) (k : Bindings) → IsSound k → IsStatement k (set scope w e k)
  set_well w e k sound x h =
      let a = steps_of (slot_of w (meaning_of scope k.seen w.text)) (λ n. and_then (term_of scope k.seen e) (λ t. Ok (stmt.Set n t, k))) x h in
      let b = steps_of (term_of scope k.seen e) (λ t. Ok (stmt.Set a.0 t, k)) x a.2 in
      let there = set_there scope (length scope.locals + k.declared) (omega arith) k.seen sound.slots w a.0 a.1 in
      subst (λ (y : Stmt × Bindings). Keeps k y.1 (λ end. is_well end y.0)) (same_Ok (stmt.Set a.0 b.0, k) x b.2)
      (record {
        rises = omega arith;
        sound = sound;
        well = λ end le.
            and_from (is_variable (length scope.locals) end a.0) (is_closed_with end (length scope.flows) b.0)
            (slot_test (length scope.locals) end a.0 there.0 (let t = there.1 in omega (arith, t, le))) (closed_at k sound e b.0 b.1 end le);
      })

  put_well : (w : Word) (at e : Expression) (k : Bindings) → IsSound k → IsStatement k (put scope w at e k)
  put_well w at e k sound x h =
      let a = steps_of (written_flow scope w)
      (λ flow. and_then (term_of scope k.seen at)
      (λ i. and_then (term_of scope k.seen e) (λ t. Ok (stmt.Put flow i t, k)))) x h in
      let b = steps_of (term_of scope k.seen at) (λ i. and_then (term_of scope k.seen e) (λ t. Ok (stmt.Put a.0 i t, k))) x a.2 in
      let d = steps_of (term_of scope k.seen e) (λ t. Ok (stmt.Put a.0 b.0 t, k)) x b.2 in
      let there = written_below scope (length scope.locals + k.declared) (omega arith) k.seen sound.slots w a.0 a.1 in
      subst (λ (y : Stmt × Bindings). Keeps k y.1 (λ end. is_well end y.0)) (same_Ok (stmt.Put a.0 b.0 d.0, k) x d.2)
      (record {
        rises = omega arith;
        sound = sound;
        well = λ end le.
            and_from (nat_lt a.0 (length scope.flows) && is_closed_with end (length scope.flows) b.0) (is_closed_with end (length scope.flows) d.0)
            (and_from (nat_lt a.0 (length scope.flows)) (is_closed_with end (length scope.flows) b.0)
            (lt-ltb a.0 (length scope.flows) there) (closed_at k sound at b.0 b.1 end le))
            (closed_at k sound e d.0 d.1 end le);
      })

  opened_sound : (k : Bindings) → IsSound k → IsSound (block_opened k)
  opened_sound k sound = record { at_most = sound.at_most; slots = sound.slots }

  inside_well : (opening : Bindings → Bindings) (block : Resolver) → IsBlock block → (k : Bindings)
      → IsSound (opening k) → k.declared ≤ (opening k).declared → (x : StatementList × Bindings)
      → in_block opening block k ≡ Ok x
      → ((opening k).declared ≤ x.1.declared) × Keeps k x.1 (λ end. are_well_made (length scope.locals) end (length scope.flows) x.0)
  inside_well opening block good k sound rises x h =
      let a = steps_of (block (opening k)) (λ y. Ok (y.0, block_closed k y.1)) x h in
      let g = good (opening k) sound a.0 a.1 in
      let up = g.rises in
      subst (λ (y : StatementList × Bindings). ((opening k).declared ≤ y.1.declared)
      × Keeps k y.1 (λ end. are_well_made (length scope.locals) end (length scope.flows) y.0))
      (same_Ok (a.0.0, block_closed k a.0.1) x a.2) (
        up,
        record {
          rises = omega (arith, rises, up);
          sound = record {
            at_most = g.sound.at_most;
            slots =
                slots_take (length scope.locals) (length scope.locals + a.0.1.declared) (length k.seen) a.0.1.seen
                g.sound.slots;
          };
          well = g.well;
        },
      )

  choice_well : (c : Expression) (first second : Resolver) → IsBlock first → IsBlock second → (k : Bindings)
      → IsSound k → IsStatement k (if_else scope c first second k)
  choice_well c first second one two k sound x h =
      let a = steps_of (term_of scope k.seen c)
      (λ t. and_then (in_block block_opened first k)
      (λ u. and_then (in_block block_opened second u.1) (λ v. Ok (stmt.If t u.0 v.0, v.1)))) x h in
      let b = steps_of (in_block block_opened first k) (λ u. and_then (in_block block_opened second u.1) (λ v. Ok (stmt.If a.0 u.0 v.0, v.1))) x a.2 in
      let d = steps_of (in_block block_opened second b.0.1) (λ v. Ok (stmt.If a.0 b.0.0 v.0, v.1)) x b.2 in
      let g = (inside_well block_opened first one k (opened_sound k sound) (omega arith) b.0 b.1).1 in
      let i = (inside_well block_opened second two b.0.1 (opened_sound b.0.1 g.sound) (omega arith) d.0 d.1).1 in
      let up = g.rises in
      let on = i.rises in
      subst (λ (y : Stmt × Bindings). Keeps k y.1 (λ end. is_well end y.0)) (same_Ok (stmt.If a.0 b.0.0 d.0.0, d.0.1) x d.2)
      (record {
        rises = omega (arith, up, on);
        sound = i.sound;
        well = λ end le.
            and_from (is_closed_with end (length scope.flows) a.0 && are_well_made (length scope.locals) end
            (length scope.flows) b.0.0) (are_well_made (length scope.locals) end (length scope.flows) d.0.0)
            (and_from (is_closed_with end (length scope.flows) a.0)
            (are_well_made (length scope.locals) end (length scope.flows) b.0.0)
            (closed_at k sound c a.0 a.1 end (omega (arith, le, up, on))) (g.well end (omega (arith, le, on))))
            (i.well end le);
      })

  counted_well : (w : Word) (lo hi : Expression) (turn : Resolver) → IsBlock turn → (k : Bindings) → IsSound k → IsStatement k (for_loop scope w lo hi turn k)
  counted_well w lo hi turn good k sound x h =
      let opening : Bindings → Bindings = λ m. with_variable scope w.text true (block_opened m) in
      let a = steps_of (require_room w k)
      (λ _. and_then (term_of scope k.seen lo)
      (λ t. and_then (term_of scope k.seen hi)
      (λ u. and_then (in_block opening turn k) (λ v. Ok (stmt.For (next_slot scope k) t u v.0, v.1))))) x h in
      let b = steps_of (term_of scope k.seen lo)
      (λ t. and_then (term_of scope k.seen hi)
      (λ u. and_then (in_block opening turn k) (λ v. Ok (stmt.For (next_slot scope k) t u v.0, v.1)))) x a.2 in
      let d = steps_of (term_of scope k.seen hi) (λ u. and_then (in_block opening turn k) (λ v. Ok (stmt.For (next_slot scope k) b.0 u v.0, v.1))) x b.2 in
      let f = steps_of (in_block opening turn k) (λ v. Ok (stmt.For (next_slot scope k) b.0 d.0 v.0, v.1)) x d.2 in
      let room = has_room w k a.0 a.1 in
      let g = inside_well opening turn good k (declared_sound (block_opened k) w.text true (opened_sound k sound) room) (omega arith) f.0 f.1 in
      let up : k.declared + 1 ≤ f.0.1.declared = g.0 in
      subst (λ (y : Stmt × Bindings). Keeps k y.1 (λ end. is_well end y.0)) (same_Ok (stmt.For (next_slot scope k) b.0 d.0 f.0.0, f.0.1) x f.2)
      (record {
        rises = omega (arith, up);
        sound = g.1.sound;
        well = λ end le.
            and_from (is_variable (length scope.locals) end (next_slot scope k) && is_closed_with end
            (length scope.flows) b.0 && is_closed_with end (length scope.flows) d.0)
            (are_well_made (length scope.locals) end (length scope.flows) f.0.0)
            (and_from (is_variable (length scope.locals) end (next_slot scope k) && is_closed_with end
            (length scope.flows) b.0) (is_closed_with end (length scope.flows) d.0)
            (and_from (is_variable (length scope.locals) end (next_slot scope k)) (is_closed_with end (length scope.flows) b.0)
            (slot_test (length scope.locals) end (next_slot scope k) (omega arith) (omega (arith, le, up)))
            (closed_at k sound lo b.0 b.1 end (omega (arith, le, up))))
            (closed_at k sound hi d.0 d.1 end (omega (arith, le, up)))) (g.1.well end le);
      })

  stop_well : (w : Word) (k : Bindings) → IsSound k → IsStatement k (trap w k)
  stop_well w k sound x h = subst (λ (y : Stmt × Bindings). Keeps k y.1 (λ end. is_well end y.0))
      (same_Ok (stmt.Trap (word_number w.text k).0, (word_number w.text k).1) x h) (go _)
    where
      go : (o : _) → Keeps k (numbered w.text k o).1 (λ end. true)
      go (Some n) = record { rises = omega arith; sound = sound; well = λ end le. refl }
      go None = record { rises = omega arith; sound = record { at_most = sound.at_most; slots = sound.slots }; well = λ end le. refl }

  follow_well : (k : Bindings) (first : Resolved (Stmt × Bindings)) (rest : Resolver) → IsStatement k first
      → IsBlock rest → (x : StatementList × Bindings) → follow first rest ≡ Ok x
      → Keeps k x.1 (λ end. are_well_made (length scope.locals) end (length scope.flows) x.0)
  follow_well k first rest one more x h =
      let a = steps_of first (λ s. and_then (rest s.1) (λ y. Ok (then s.0 y.0, y.1))) x h in
      let b = steps_of (rest a.0.1) (λ y. Ok (then a.0.0 y.0, y.1)) x a.2 in
      let g = one a.0 a.1 in
      let i = more a.0.1 g.sound b.0 b.1 in
      let up = g.rises in
      let on = i.rises in
      subst (λ (y : StatementList × Bindings). Keeps k y.1
      (λ end. are_well_made (length scope.locals) end (length scope.flows) y.0))
      (same_Ok (then a.0.0 b.0.0, b.0.1) x b.2)
      (record {
        rises = omega (arith, up, on);
        sound = i.sound;
        well = λ end le. then_well end a.0.0 b.0.0 (g.well end (omega (arith, le, on))) (i.well end le);
      })

  block_well : (statements : Statements) → IsBlock (resolved scope statements)
  block_well Done k sound x h =
      subst (λ (y : StatementList × Bindings). Keeps k y.1
      (λ end. are_well_made (length scope.locals) end (length scope.flows) y.0)) (same_Ok (list.Done, k) x h)
      (record { rises = omega arith; sound = sound; well = λ end le. refl })
  block_well (DeclareThen w e rest) k sound x h = follow_well k (declare scope w e k) (resolved scope rest) (declare_well w e k sound) (block_well rest) x h
  block_well (SetThen w e rest) k sound x h = follow_well k (set scope w e k) (resolved scope rest) (set_well w e k sound) (block_well rest) x h
  block_well (PutThen w at e rest) k sound x h = follow_well k (put scope w at e k) (resolved scope rest) (put_well w at e k sound) (block_well rest) x h
  block_well (IfThen c first second rest) k sound x h =
      follow_well k (if_else scope c (resolved scope first) (resolved scope second) k) (resolved scope rest)
      (choice_well c (resolved scope first) (resolved scope second) (block_well first) (block_well second) k
      sound) (block_well rest) x h
  block_well (ForThen w lo hi turn rest) k sound x h =
      follow_well k (for_loop scope w lo hi (resolved scope turn) k) (resolved scope rest)
      (counted_well w lo hi (resolved scope turn) (block_well turn) k sound) (block_well rest) x h
  block_well (TrapThen w rest) k sound x h = follow_well k (trap w k) (resolved scope rest) (stop_well w k sound) (block_well rest) x h

  -- the bindings after a whole body, and that the body is well made
  pub whole_well : (statements : Statements) (x : StatementList × Bindings) → resolved scope statements no_bindings ≡ Ok x
      → (x.1.declared ≤ 256) × IsWellBody (length scope.locals) (length scope.flows) (record { statements = x.0; slots = length scope.locals + x.1.declared })
  whole_well statements x h =
      let g = block_well statements no_bindings (record { at_most = omega arith; slots = tt }) x h in
      let at_most : x.1.declared ≤ 256 = g.sound.at_most in (
        at_most,
        record {
          locals_at_most = scope.locals_at_most;
          flows_at_most = scope.flows_at_most;
          slots_hold_locals = omega arith;
          variables_at_most = omega (arith, at_most);
          statements = g.well (length scope.locals + x.1.declared) (omega arith);
        },
      )
