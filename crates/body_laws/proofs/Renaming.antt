-- A body with another name for one variable: under both names the same is seen, and the statements are the same.
use Rattle.std.proofs.Common.{◌≡◌, ℕ, zero, suc, ◌+◌, Bool, true, false, cond, List, [], ◌∷◌, ◌++◌, length, take, drop}
use Rattle.std.proofs.Common.{Ok, refl, sym, ap, ◌∙◌, subst, append_assoc, append-nil, length-append}
use Rattle.std.specs.Prelude.{◌||◌, Option, Some, None, find, reverse}
use Rattle.std.specs.Str.{bytes_eq}
use Rattle.std.specs.List.{list_any}
use Rattle.std.proofs.lemmas.List.{reverse-append, take_at}
use Rattle.std.proofs.lemmas.Slice.Eq.{bytes_eq-Decides}
use Rattle.std.specs.Option.{option_or}
use Rattle.std.proofs.lemmas.List.Folds.{find-append}
use Rattle.name_table.specs.Names.{index_named}
use Rattle.jdf_lex.specs.declared.fault.JdfCode.TheVariants.{NameTwice}
use Rattle.term_core.specs.declared.body.Stmt.{Stmt}
use Rattle.term_core.specs.declared.body.Stmt.TheVariants as stmt
use Rattle.term_core.specs.BlockStatementList.{then}
use Rattle.term_core.specs.StatementList.{StatementList}
use Rattle.term_core.specs.StatementList as list
use Rattle.term_core.specs.Term.{Term}
use Rattle.term_core.specs.Term as term
use Rattle.ptg_base.specs.Returns.{and_then}
use Rattle.jdf_tree.specs.declared.expression.Word.{Word}
use Rattle.jdf_tree.specs.Expression.{Expression, Num, Name, Elem, Unary, Binary, Choose}
use Rattle.jdf_tree.specs.Statements.{Statements, Done, DeclareThen, SetThen, PutThen, IfThen, ForThen, TrapThen}
use Rattle.expr_names.specs.declared.meaning.Meaning.{Meaning}
use Rattle.expr_names.specs.declared.meaning.Meaning.TheVariants as meaning
use Rattle.body_lang.specs.Environment.{Environment}
use Rattle.body_lang.specs.declared.variable.Variable.{Variable}
use Rattle.body_lang.specs.Meanings.{last_named, variable_or, meaning_of, outer_meaning}
use Rattle.expr_names.specs.Symbols.{Resolved, fault_at}
use Rattle.expr_names.specs.Expressions.{together}
use Rattle.body_lang.specs.Expressions.{value_of, slot_of, read_flow, written_flow, term_of}
use Rattle.body_lang.specs.Bindings.{Bindings, block_opened, block_closed, next_slot, with_variable, require_room, require_fresh, numbered}
use Rattle.body_lang.specs.Statements.{Resolver, declare, set, put, in_block, if_else, for_loop, trap, follow, resolved}
use Rattle.body_laws.specs.Renaming.{named, renamed_word, with_words, renamed_term, renamed, reads, occurs, DeclaredSame, LoopedSame}
use Rattle.list_lemmas.proofs.Truth.{first_false, second_false, or-false, or-assoc}
use Rattle.list_lemmas.proofs.Texts.{bytes_eq-sym_false}
use Rattle.list_lemmas.proofs.Options.{same_Ok, steps_of}

-- ---- tests

other_true : (a b : Bool) → (a || b) ≡ true → b ≡ false → a ≡ true
other_true true b h k = refl
other_true false b h k = absurd cc

-- ---- a name that is new in the innermost block

abbrev fresh_test : Word → Bool → Resolved (Unit {0})
fresh_test w b = cond b (fault_at w NameTwice) (Ok tt)

fresh_is : (b : Bool) (w : Word) (u : Unit {0}) → fresh_test w b ≡ Ok u → b ≡ false
fresh_is true w u e = absurd cc
fresh_is false w u e = refl

-- ---- the last variable of a name

last_append : (us ws : List Variable) (z : List ℕ) → last_named (us ++ ws) z ≡ option_or (last_named ws z) (last_named us z)
last_append us ws z =
    ap (λ (l : List Variable). find (λ (v : Variable). bytes_eq v.name z) l) (reverse-append us ws)
    ∙ find-append (λ (v : Variable). bytes_eq v.name z) (reverse ws) (reverse us)

-- whether one of the variables has the name
abbrev has : List ℕ → List Variable → Bool
has z vs = list_any (λ (u : Variable). bytes_eq u.name z) vs

has_append : (z : List ℕ) (us ws : List Variable) → has z (us ++ ws) ≡ (has z us || has z ws)
has_append z [] ws = refl
has_append z (u ∷ us) ws = ap (λ (b : Bool). bytes_eq u.name z || b) (has_append z us ws) ∙ sym (or-assoc (bytes_eq u.name z) (has z us) (has z ws))

none_named : (vs : List Variable) (z : List ℕ) → has z vs ≡ false → last_named vs z ≡ None
none_named [] z h = refl
none_named (u ∷ us) z h =
    let rest = none_named us z (second_false (bytes_eq u.name z) (has z us) h) in
    let here = first_false (bytes_eq u.name z) (has z us) h in
    last_append (u ∷ []) us z ∙ (ap (λ (o : Option Variable). option_or o (last_named (u ∷ []) z)) rest ∙ ap (λ (b : Bool). cond b (Some u) None) here)

some_named : (vs : List Variable) (z : List ℕ) → has z vs ≡ true → (u : Variable) × (last_named vs z ≡ Some u)
some_named [] z h = absurd cc
some_named (u ∷ us) z h = go (has z us) refl (some_named us z)
  where
    go : (b : Bool) → has z us ≡ b → (has z us ≡ true → (w : Variable) × (last_named us z ≡ Some w)) → (w : Variable) × (last_named (u ∷ us) z ≡ Some w)
    go true k later = let r = later k in (r.0, last_append (u ∷ []) us z ∙ ap (λ (o : Option Variable). option_or o (last_named (u ∷ []) z)) r.1)
    go false k later =
        let here : bytes_eq u.name z ≡ true = other_true (bytes_eq u.name z) (has z us) h k in (
          u,
          last_append (u ∷ []) us z ∙ (ap (λ (o : Option Variable). option_or o (last_named (u ∷ []) z))
              (none_named us z k) ∙ ap (λ (b : Bool). cond b (Some u) None) here),
        )

-- one variable replaced by another that does not have the name
drop_has : (v u : Variable) (z : List ℕ) → bytes_eq u.name z ≡ false → (o : ℕ) (pre post : List Variable)
    → has z (drop o (pre ++ v ∷ post)) ≡ false → has z (drop o (pre ++ u ∷ post)) ≡ false
drop_has v u z a zero [] post h = ap (λ (b : Bool). b || has z post) a ∙ second_false (bytes_eq v.name z) (has z post) h
drop_has v u z a zero (p ∷ pre) post h =
    ap (λ (b : Bool). b || has z (pre ++ u ∷ post)) (first_false (bytes_eq p.name z) (has z (pre ++ v ∷ post)) h)
    ∙ drop_has v u z a zero pre post (second_false (bytes_eq p.name z) (has z (pre ++ v ∷ post)) h)
drop_has v u z a (suc o) [] post h = h
drop_has v u z a (suc o) (p ∷ pre) post h = drop_has v u z a o pre post h

-- a trap, given the number that its word has so far
abbrev trap_by : List ℕ → Bindings → Option ℕ → Resolved (Stmt × Bindings)
trap_by name k o = let n = numbered name k o in Ok (stmt.Trap n.0, n.1)

-- ---- one variable under two names

module _ (scope : Environment) (old new : List ℕ) (pre : List Variable) (v : Variable) (is_old : v.name ≡ old) where
  abbrev pub other : Variable
  other = record v { name = new }

  -- the variables that are seen, with the one in the middle under its old name and under its new one
  abbrev pub under_old : List Variable → List Variable
  under_old post = pre ++ v ∷ post

  abbrev pub under_new : List Variable → List Variable
  under_new post = pre ++ other ∷ post

  -- the last variable of a name, given whether the variable in the middle has the name
  abbrev by_test : Variable → List Variable → List ℕ → Bool → Option Variable
  by_test u post z b = option_or (option_or (last_named post z) (cond b (Some u) None)) (last_named pre z)

  looked : (u : Variable) (post : List Variable) (z : List ℕ) → last_named (pre ++ u ∷ post) z ≡ by_test u post z (bytes_eq u.name z)
  looked u post z = last_append pre (u ∷ post) z ∙ ap (λ (o : Option Variable). option_or o (last_named pre z)) (last_append (u ∷ []) post z)

  old_apart : (z : List ℕ) → bytes_eq old z ≡ false → bytes_eq v.name z ≡ false
  old_apart z h = ap (λ (n : List ℕ). bytes_eq n z) is_old ∙ h

  look_apart : (post : List Variable) (z : List ℕ) → bytes_eq old z ≡ false → bytes_eq new z ≡ false
      → last_named (under_new post) z ≡ last_named (under_old post) z
  look_apart post z a b = looked other post z ∙ (ap (by_test other post z) b ∙ (sym (ap (by_test v post z) (old_apart z a)) ∙ sym (looked v post z)))

  look_hidden : (post : List Variable) (z : List ℕ) → has z post ≡ true → last_named (under_new post) z ≡ last_named (under_old post) z
  look_hidden post z h =
      let r = some_named post z h in
      looked other post z
      ∙ (ap (λ (o : Option Variable). option_or (option_or o (cond (bytes_eq new z) (Some other) None)) (last_named pre z)) r.1
      ∙ (sym (ap (λ (o : Option Variable). option_or (option_or o (cond (bytes_eq v.name z) (Some v) None)) (last_named pre z)) r.1) ∙ sym (looked v post z)))

  sees : (u : Variable) (post : List Variable) (z : List ℕ) → u.name ≡ z → has z post ≡ false → last_named (pre ++ u ∷ post) z ≡ Some u
  sees u post z e h =
      looked u post z
      ∙ (ap (λ (o : Option Variable). option_or (option_or o (cond (bytes_eq u.name z) (Some u) None)) (last_named pre z)) (none_named post z h)
      ∙ ap (λ (b : Bool). option_or (cond b (Some u) None) (last_named pre z)) ((bytes_eq-Decides u.name z).1 e))

  -- ---- words

  -- a word under the new name, unless a later variable hides the renamed one
  abbrev pub changed : Bool → Word → Word
  changed true w = w
  changed false w = renamed_word old new w

  -- what a name means if it is no variable
  abbrev no_variable : List ℕ → Meaning
  no_variable z = outer_meaning (index_named scope.locals z) (scope.integer z) (scope.is_collection z)

  module _ (post : List Variable) (no_new : has new post ≡ false) where
    pub word_same : (h : Bool) → has old post ≡ h → (w : Word) → bytes_eq w.text new ≡ false
        → meaning_of scope (under_new post) (changed h w).text ≡ meaning_of scope (under_old post) w.text
    word_same true hidden w apart = go (bytes_eq w.text old) refl
      where
        go : (b : Bool) → bytes_eq w.text old ≡ b → meaning_of scope (under_new post) w.text ≡ meaning_of scope (under_old post) w.text
        go true e =
            let there : has w.text post ≡ true = subst (λ (z : List ℕ). has z post ≡ true) (sym ((bytes_eq-Decides w.text old).0 e)) hidden in
            ap (λ (o : Option Variable). variable_or o (no_variable w.text)) (look_hidden post w.text there)
        go false e = ap (λ (o : Option Variable). variable_or o (no_variable w.text))
            (look_apart post w.text (bytes_eq-sym_false w.text old e) (bytes_eq-sym_false w.text new apart))
    word_same false hidden w apart = go (bytes_eq w.text old) refl
      where
        go : (b : Bool) → bytes_eq w.text old ≡ b → meaning_of scope (under_new post) (cond b (named new w) w).text ≡ meaning_of scope (under_old post) w.text
        go true e =
            let same : w.text ≡ old = (bytes_eq-Decides w.text old).0 e in
            let seen : last_named (under_old post) w.text ≡ Some v = ap (last_named (under_old post)) same ∙ sees v post old is_old hidden in
            ap (λ (o : Option Variable). variable_or o (no_variable new)) (sees other post new refl no_new)
            ∙ sym (ap (λ (o : Option Variable). variable_or o (no_variable w.text)) seen)
        go false e = ap (λ (o : Option Variable). variable_or o (no_variable w.text))
            (look_apart post w.text (bytes_eq-sym_false w.text old e) (bytes_eq-sym_false w.text new apart))

    value_spot : (b : Bool) (w : Word) (m : Meaning) → value_of (cond b (named new w) w) m ≡ value_of w m
    value_spot true w (meaning.Variable n) = refl
    value_spot true w (meaning.LoopVariable n) = refl
    value_spot true w (meaning.Local n) = refl
    value_spot true w (meaning.Integer z) = refl
    value_spot true w meaning.Collection = refl
    value_spot true w meaning.Nothing = refl
    value_spot false w m = refl

    slot_spot : (b : Bool) (w : Word) (m : Meaning) → slot_of (cond b (named new w) w) m ≡ slot_of w m
    slot_spot true w (meaning.Variable n) = refl
    slot_spot true w (meaning.LoopVariable n) = refl
    slot_spot true w (meaning.Local n) = refl
    slot_spot true w (meaning.Integer z) = refl
    slot_spot true w meaning.Collection = refl
    slot_spot true w meaning.Nothing = refl
    slot_spot false w m = refl

    changed_value : (h : Bool) (w : Word) (m : Meaning) → value_of (changed h w) m ≡ value_of w m
    changed_value true w m = refl
    changed_value false w m = value_spot (bytes_eq w.text old) w m

    changed_slot : (h : Bool) (w : Word) (m : Meaning) → slot_of (changed h w) m ≡ slot_of w m
    changed_slot true w m = refl
    changed_slot false w m = slot_spot (bytes_eq w.text old) w m

    -- two parts of an expression, for which the first fault is reported
    abbrev in_turn : {A B : Type 0} → Resolved A → Resolved B → Resolved (A × B)
    in_turn r q = together (λ first _. first) r q

    abbrev choice : Term × (Term × Term) → Resolved Term
    choice x = Ok (term.Choose x.0 x.1.0 x.1.1)

    module _ (h : Bool) (hidden : has old post ≡ h) where
      pub slot_same : (w : Word) → bytes_eq w.text new ≡ false
          → slot_of (changed h w) (meaning_of scope (under_new post) (changed h w).text)
          ≡ slot_of w (meaning_of scope (under_old post) w.text)
      slot_same w apart = changed_slot h w (meaning_of scope (under_new post) (changed h w).text) ∙ ap (slot_of w) (word_same h hidden w apart)

      -- ---- expressions

      pub term_same : (e : Expression) → reads new e ≡ false → term_of scope (under_new post) (with_words (changed h) e) ≡ term_of scope (under_old post) e
      term_same (Num z spot) apart = refl
      term_same (Name w) apart = changed_value h w (meaning_of scope (under_new post) (changed h w).text) ∙ ap (value_of w) (word_same h hidden w apart)
      term_same (Elem w at) apart =
          ap (λ (r : Resolved Term). and_then (in_turn (read_flow scope w) r) (λ x. Ok (term.Elem x.0 x.1))) (term_same at apart)
      term_same (Unary o a spot) apart = ap (λ (r : Resolved Term). and_then r (λ x. Ok (term.Unary o x))) (term_same a apart)
      term_same (Binary o a b) apart =
          ap (λ (r : Resolved Term). and_then (in_turn r (term_of scope (under_new post) (with_words (changed h) b)))
          (λ x. Ok (term.Binary o x.0 x.1))) (term_same a (first_false (reads new a) (reads new b) apart))
          ∙ ap (λ (r : Resolved Term). and_then (in_turn (term_of scope (under_old post) a) r)
          (λ x. Ok (term.Binary o x.0 x.1))) (term_same b (second_false (reads new a) (reads new b) apart))
      term_same (Choose c a b) apart =
          let more = second_false (reads new c) (reads new a || reads new b) apart in
          ap (λ (r : Resolved Term). and_then (in_turn r (in_turn
          (term_of scope (under_new post) (with_words (changed h) a))
          (term_of scope (under_new post) (with_words (changed h) b)))) choice)
          (term_same c (first_false (reads new c) (reads new a || reads new b) apart))
          ∙ (ap (λ (r : Resolved Term). and_then (in_turn (term_of scope (under_old post) c)
          (in_turn r (term_of scope (under_new post) (with_words (changed h) b)))) choice)
          (term_same a (first_false (reads new a) (reads new b) more))
          ∙ ap (λ (r : Resolved Term). and_then (in_turn (term_of scope (under_old post) c)
          (in_turn (term_of scope (under_old post) a) r)) choice)
          (term_same b (second_false (reads new a) (reads new b) more)))

  -- ---- what agrees under both names

  -- the same bindings, with this list as the variables that are seen
  abbrev seeing : Bindings → List Variable → Bindings
  seeing k vs = record k { seen = vs }

  -- the statements under the new name, unless a later variable hides the renamed one
  abbrev pub chosen : Bool → Statements → Statements
  chosen true t = t
  chosen false t = renamed old new t

  -- a result under the old name, and the one under the new name: the same, with more variables seen under both
  record Along {A : Type 0} (post : List Variable) (x : A × Bindings) (r : Resolved (A × Bindings)) : Type 0 where
    more : List Variable
    apart : has new (post ++ more) ≡ false
    seen : x.1.seen ≡ under_old (post ++ more)
    same : r ≡ Ok (x.0, seeing x.1 (under_new (post ++ more)))

  stays : {A : Type 0} (post : List Variable) (s : A) (k : Bindings) (r : Resolved (A × Bindings))
      → has new post ≡ false → r ≡ Ok (s, seeing k (under_new post)) → Along post (s, seeing k (under_old post)) r
  stays post s k r no_new e =
      record {
        more = [];
        apart = ap (has new) (append-nil post) ∙ no_new;
        seen = ap under_old (sym (append-nil post));
        same = e ∙ ap (λ (vs : List Variable). Ok (s, seeing k (under_new vs))) (sym (append-nil post));
      }

  further : {A : Type 0} (post first : List Variable) (x : A × Bindings) (r : Resolved (A × Bindings)) → Along (post ++ first) x r → Along post x r
  further post first x r a =
      record {
        more = first ++ a.more;
        apart = ap (has new) (sym (append_assoc post first a.more)) ∙ a.apart;
        seen = a.seen ∙ ap under_old (append_assoc post first a.more);
        same = a.same ∙ ap (λ (vs : List Variable). Ok (x.0, seeing x.1 (under_new vs))) (append_assoc post first a.more);
      }

  -- a block agrees with the same block under the new name, given whether the variable is hidden where it begins
  abbrev Goes : Resolver → (Bool → Resolver) → Type 0
  Goes block other_block = (h : Bool) (post : List Variable) → has old post ≡ h → has new post ≡ false
      → (k : Bindings) (x : StatementList × Bindings) → block (seeing k (under_old post)) ≡ Ok x
      → Along post x (other_block h (seeing k (under_new post)))

  -- a statement, and then what follows it
  follow_goes : (post : List Variable) (first other_first : Resolved (Stmt × Bindings)) (rest : Resolver) (other_rest : Bool → Resolver) (f : Bool)
      → ((y : Stmt × Bindings) → first ≡ Ok y → (a : Along post y other_first) × (has old (post ++ a.more) ≡ f)) → Goes rest other_rest
      → (x : StatementList × Bindings) → follow first rest ≡ Ok x → Along post x (follow other_first (other_rest f))
  follow_goes post first other_first rest other_rest f one goes x e =
      let a = steps_of first (λ s. and_then (rest s.1) (λ y. Ok (then s.0 y.0, y.1))) x e in
      let b = steps_of (rest a.0.1) (λ y. Ok (then a.0.0 y.0, y.1)) x a.2 in
      let g = one a.0 a.1 in
      let seen_so : a.0.1 ≡ seeing a.0.1 (under_old (post ++ g.0.more)) = ap (seeing a.0.1) g.0.seen in
      let q = goes f (post ++ g.0.more) g.1 g.0.apart a.0.1 b.0 (ap rest (sym seen_so) ∙ b.1) in
      let both : follow other_first (other_rest f) ≡ Ok (then a.0.0 b.0.0, seeing b.0.1 (under_new ((post ++ g.0.more) ++ q.more))) =
      ap (λ (r : Resolved (Stmt × Bindings)). follow r (other_rest f)) g.0.same
      ∙ ap (λ (r : Resolved (StatementList × Bindings)). and_then r (λ y. Ok (then a.0.0 y.0, y.1))) q.same in
      subst (λ (y : StatementList × Bindings). Along post y (follow other_first (other_rest f))) (same_Ok (then a.0.0 b.0.0, b.0.1) x b.2)
      (further post g.0.more (then a.0.0 b.0.0, b.0.1) (follow other_first (other_rest f))
      (record { more = q.more; apart = q.apart; seen = q.seen; same = both }))

  -- ---- statements

  abbrev old_of : List Variable → Bindings → Bindings
  old_of post k = seeing k (under_old post)

  abbrev new_of : List Variable → Bindings → Bindings
  new_of post k = seeing k (under_new post)

  module _ (post : List Variable) (no_new : has new post ≡ false) (h : Bool) (hidden : has old post ≡ h) where
    abbrev e_new : Expression → Expression
    e_new e = with_words (changed h) e

    -- a statement agrees under both names, and `f` says whether the variable is hidden after it
    abbrev One : Bool → Stmt × Bindings → Resolved (Stmt × Bindings) → Type 0
    One f y r = (a : Along post y r) × (has old (post ++ a.more) ≡ f)

    adds_none : (k : Bindings) (s : Stmt) (r : Resolved (Stmt × Bindings)) → r ≡ Ok (s, (new_of post k))
        → (y : Stmt × Bindings) → (let p : Resolved (Stmt × Bindings) = Ok (s, (old_of post k)) in p ≡ Ok y) → One h y r
    unfolding stays
    adds_none k s r e y is =
        subst (λ (y : Stmt × Bindings). One h y r) (same_Ok (s, (old_of post k)) y is)
        (stays post s k r no_new e, ap (has old) (append-nil post) ∙ hidden)

    set_goes : (k : Bindings) (w : Word) (e : Expression) → bytes_eq w.text new ≡ false → reads new e ≡ false
        → (y : Stmt × Bindings) → set scope w e (old_of post k) ≡ Ok y
        → One h y (set scope (changed h w) (e_new e) (new_of post k))
    set_goes k w e aw ae y is =
        let a = steps_of (slot_of w (meaning_of scope (under_old post) w.text))
        (λ n. and_then (term_of scope (under_old post) e) (λ x. Ok (stmt.Set n x, (old_of post k)))) y is in
        let b = steps_of (term_of scope (under_old post) e) (λ x. Ok (stmt.Set a.0 x, (old_of post k))) y a.2 in
        adds_none k (stmt.Set a.0 b.0) (set scope (changed h w) (e_new e) (new_of post k))
        (ap (λ (r : Resolved ℕ). and_then r (λ n. and_then (term_of scope (under_new post) (e_new e))
        (λ x. Ok (stmt.Set n x, (new_of post k))))) (slot_same post no_new h hidden w aw ∙ a.1)
        ∙ ap (λ (r : Resolved Term). and_then r (λ x. Ok (stmt.Set a.0 x, (new_of post k)))) (term_same post no_new h hidden e ae ∙ b.1)) y b.2

    put_goes : (k : Bindings) (w : Word) (at e : Expression) → reads new at ≡ false → reads new e ≡ false
        → (y : Stmt × Bindings) → put scope w at e (old_of post k) ≡ Ok y
        → One h y (put scope w (e_new at) (e_new e) (new_of post k))
    put_goes k w at e ai ae y is =
        let a = steps_of (written_flow scope w) (λ f. and_then (term_of scope (under_old post) at)
        (λ i. and_then (term_of scope (under_old post) e) (λ x. Ok (stmt.Put f i x, (old_of post k))))) y is in
        let b = steps_of (term_of scope (under_old post) at)
        (λ i. and_then (term_of scope (under_old post) e) (λ x. Ok (stmt.Put a.0 i x, (old_of post k)))) y a.2 in
        let d = steps_of (term_of scope (under_old post) e) (λ x. Ok (stmt.Put a.0 b.0 x, (old_of post k))) y b.2 in
        adds_none k (stmt.Put a.0 b.0 d.0) (put scope w (e_new at) (e_new e) (new_of post k))
        (ap (λ (r : Resolved ℕ). and_then r (λ f. and_then (term_of scope (under_new post) (e_new at))
        (λ i. and_then (term_of scope (under_new post) (e_new e)) (λ x. Ok (stmt.Put f i x, (new_of post k)))))) a.1
        ∙ (ap (λ (r : Resolved Term). and_then r (λ i. and_then (term_of scope (under_new post) (e_new e))
        (λ x. Ok (stmt.Put a.0 i x, (new_of post k))))) (term_same post no_new h hidden at ai ∙ b.1)
        ∙ ap (λ (r : Resolved Term). and_then r (λ x. Ok (stmt.Put a.0 b.0 x, (new_of post k)))) (term_same post no_new h hidden e ae ∙ d.1))) y d.2

    trap_goes : (k : Bindings) (w : Word) (y : Stmt × Bindings) → trap w (old_of post k) ≡ Ok y → One h y (trap w (new_of post k))
    unfolding stays
    trap_goes k w y is = go (index_named k.words w.text) y is
      where
        go : (o : Option ℕ) (y : Stmt × Bindings) → trap_by w.text (old_of post k) o ≡ Ok y → One h y (trap_by w.text (new_of post k) o)
        go (Some n) y is =
            subst (λ (y : Stmt × Bindings). One h y (trap_by w.text (new_of post k) (Some n))) (same_Ok (stmt.Trap n, (old_of post k)) y is)
            (stays post (stmt.Trap n) k (trap_by w.text (new_of post k) (Some n)) no_new refl, ap (has old) (append-nil post) ∙ hidden)
        go None y is =
            let one_more = record k { words = k.words ++ w.text ∷ [] } in
            subst (λ (y : Stmt × Bindings). One h y (trap_by w.text (new_of post k) None))
            (same_Ok (stmt.Trap (length k.words), seeing one_more (under_old post)) y is)
            (stays post (stmt.Trap (length k.words)) one_more (trap_by w.text (new_of post k) None) no_new refl, ap (has old) (append-nil post) ∙ hidden)

    new_apart : (u : Variable) → bytes_eq u.name new ≡ false → has new (post ++ u ∷ []) ≡ false
    new_apart u a = has_append new post (u ∷ []) ∙ rw (no_new, a) refl

    old_hides : (u : Variable) → has old (post ++ u ∷ []) ≡ (h || bytes_eq u.name old)
    old_hides u = has_append old post (u ∷ []) ∙ (ap (λ (b : Bool). b || (bytes_eq u.name old || false)) hidden
        ∙ ap (λ (b : Bool). h || b) (or-false (bytes_eq u.name old)))

    -- the variable that a declaration adds
    abbrev added : Bindings → Word → Bool → Variable
    added k w is_loop_variable = record { name = w.text; slot = next_slot scope k; is_loop_variable = is_loop_variable }

    fresh_new : (k : Bindings) (w : Word) (u : Unit {0}) → bytes_eq w.text new ≡ false
        → require_fresh w (old_of post k) ≡ Ok u → require_fresh w (new_of post k) ≡ Ok tt
    fresh_new k w u a is =
        let none = fresh_is (has w.text (drop k.outside (under_old post))) w u is in
        let same = drop_has v other w.text (bytes_eq-sym_false w.text new a) k.outside pre post none in
        ap (fresh_test w) same

    declare_goes : (k : Bindings) (w : Word) (e : Expression) → bytes_eq w.text new ≡ false → reads new e ≡ false
        → (y : Stmt × Bindings) → declare scope w e (old_of post k) ≡ Ok y
        → One (h || bytes_eq w.text old) y (declare scope w (e_new e) (new_of post k))
    declare_goes k w e aw ae y is =
        let end : Bindings → Term → Resolved (Stmt × Bindings) = λ m x. Ok (stmt.Set (next_slot scope m) x, with_variable scope w.text false m) in
        let a = steps_of (require_room w (old_of post k)) (λ _. and_then (require_fresh w (old_of post k))
        (λ _. and_then (term_of scope (under_old post) e) (end (old_of post k)))) y is in
        let b = steps_of (require_fresh w (old_of post k)) (λ _. and_then (term_of scope (under_old post) e) (end (old_of post k))) y a.2 in
        let d = steps_of (term_of scope (under_old post) e) (end (old_of post k)) y b.2 in
        let u = added k w false in
        let same : declare scope w (e_new e) (new_of post k) ≡ Ok
        (stmt.Set (next_slot scope k) d.0, seeing (with_variable scope w.text false k) (under_new (post ++ u ∷ [])))
        =
        ap (λ (r : Resolved (Unit {0})). and_then r (λ _. and_then (require_fresh w (new_of post k))
        (λ _. and_then (term_of scope (under_new post) (e_new e)) (end (new_of post k))))) a.1
        ∙ (ap (λ (r : Resolved (Unit {0})). and_then r (λ _. and_then (term_of scope (under_new post) (e_new e))
        (end (new_of post k)))) (fresh_new k w b.0 aw b.1)
        ∙ (ap (λ (r : Resolved Term). and_then r (end (new_of post k))) (term_same post no_new h hidden e ae ∙ d.1)
        ∙ ap (λ (vs : List Variable). Ok (
          stmt.Set (next_slot scope k) d.0,
          seeing (with_variable scope w.text false k)
              vs,
        )) (append_assoc pre (other ∷ post) (u ∷ [])))) in
        subst (λ (y : Stmt × Bindings). One (h || bytes_eq w.text old) y (declare scope w (e_new e) (new_of post k)))
        (same_Ok (stmt.Set (next_slot scope k) d.0, with_variable scope w.text false (old_of post k)) y d.2)
        (record { more = u ∷ []; apart = new_apart u aw; seen = append_assoc pre (v ∷ post) (u ∷ []); same = same }, old_hides u)

    -- ---- blocks

    lengths : length (under_new post) ≡ length (under_old post)
    lengths = length-append pre (other ∷ post) ∙ sym (length-append pre (v ∷ post))

    closed_old : (k m : Bindings) (more : List Variable) → m.seen ≡ under_old (post ++ more)
        → block_closed (old_of post k) m ≡ old_of post (record m { outside = k.outside })
    closed_old k m more e =
        ap (λ (vs : List Variable). seeing (record m { outside = k.outside }) vs)
        (ap (take (length (under_old post))) (e ∙ sym (append_assoc pre (v ∷ post) more)) ∙ take_at (under_old post) more (length (under_old post)) refl)

    closed_new : (k m : Bindings) (more : List Variable) → block_closed (new_of post k)
        (seeing m (under_new (post ++ more))) ≡ new_of post (record m { outside = k.outside })
    closed_new k m more =
        ap (λ (vs : List Variable). seeing (record m { outside = k.outside }) vs)
        (ap (take (length (under_new post))) (sym (append_assoc pre (other ∷ post) more)) ∙ take_at (under_new post) more (length (under_new post)) refl)

    block_goes : (k : Bindings) (opening : Bindings → Bindings) (block other_block : Resolver)
        → ((x : StatementList × Bindings) → block (opening (old_of post k)) ≡ Ok x
        → Along post x (other_block (opening (new_of post k))))
        → (y : StatementList × Bindings) → in_block opening block (old_of post k) ≡ Ok y
        → (m : Bindings) × (y.1 ≡ old_of post m) × (in_block opening other_block (new_of post k) ≡ Ok (y.0, new_of post m))
    block_goes k opening block other_block goes y is =
        let a = steps_of (block (opening (old_of post k))) (λ x. Ok (x.0, block_closed (old_of post k) x.1)) y is in
        let g = goes a.0 a.1 in
        let m = record a.0.1 { outside = k.outside } in
        let y_is = same_Ok (a.0.0, block_closed (old_of post k) a.0.1) y a.2 in (
          m,
          sym (ap (λ (p : StatementList × Bindings). p.1) y_is) ∙ closed_old k a.0.1 g.more g.seen,
          ap (λ (r : Resolved (StatementList × Bindings)). and_then r (λ x. Ok (x.0, block_closed (new_of post k) x.1))) g.same
              ∙ (ap (λ (c : Bindings). Ok (a.0.0, c)) (closed_new k a.0.1 g.more) ∙ ap (λ (p : StatementList × Bindings). Ok (p.0, new_of post m)) y_is),
        )

    opened_goes : (k : Bindings) (block : Resolver) (other_block : Bool → Resolver) → Goes block other_block
        → (x : StatementList × Bindings) → block (block_opened (old_of post k)) ≡ Ok x
        → Along post x (other_block h (block_opened (new_of post k)))
    opened_goes k block other_block goes x is =
        subst (λ (n : ℕ). Along post x (other_block h (new_of post (record k { outside = n })))) (sym lengths)
        (goes h post hidden no_new (record k { outside = length (under_old post) }) x is)

    if_goes : (k : Bindings) (c : Expression) (first second : Resolver) (other_first other_second : Bool → Resolver)
        → reads new c ≡ false → Goes first other_first → Goes second other_second
        → (y : Stmt × Bindings) → if_else scope c first second (old_of post k) ≡ Ok y
        → One h y (if_else scope (e_new c) (other_first h) (other_second h) (new_of post k))
    if_goes k c first second other_first other_second ac one two y is =
        let a = steps_of (term_of scope (under_old post) c) (λ x. and_then (in_block block_opened first (old_of post k))
        (λ p. and_then (in_block block_opened second p.1) (λ q. Ok (stmt.If x p.0 q.0, q.1)))) y is in
        let b = steps_of (in_block block_opened first (old_of post k))
        (λ p. and_then (in_block block_opened second p.1) (λ q. Ok (stmt.If a.0 p.0 q.0, q.1))) y a.2 in
        let d = steps_of (in_block block_opened second b.0.1) (λ q. Ok (stmt.If a.0 b.0.0 q.0, q.1)) y b.2 in
        let f = block_goes k block_opened first (other_first h) (opened_goes k first other_first one) b.0 b.1 in
        let g = block_goes f.0 block_opened second (other_second h) (opened_goes f.0 second other_second two) d.0
        (ap (in_block block_opened second) (sym f.1) ∙ d.1) in
        let same : if_else scope (e_new c) (other_first h) (other_second h) (new_of post k) ≡ Ok (stmt.If a.0 b.0.0 d.0.0, new_of post g.0) =
        ap (λ (r : Resolved Term). and_then r (λ x. and_then (in_block block_opened (other_first h) (new_of post k))
        (λ p. and_then (in_block block_opened (other_second h) p.1) (λ q. Ok (stmt.If x p.0 q.0, q.1)))))
        (term_same post no_new h hidden c ac ∙ a.1)
        ∙ (ap (λ (r : Resolved (StatementList × Bindings)). and_then r
        (λ p. and_then (in_block block_opened (other_second h) p.1) (λ q. Ok (stmt.If a.0 p.0 q.0, q.1)))) f.2
        ∙ ap (λ (r : Resolved (StatementList × Bindings)). and_then r (λ q. Ok (stmt.If a.0 b.0.0 q.0, q.1))) g.2) in
        adds_none g.0 (stmt.If a.0 b.0.0 d.0.0) (if_else scope (e_new c) (other_first h) (other_second h)
        (new_of post k)) same y (ap (λ (m : Bindings). Ok (stmt.If a.0 b.0.0 d.0.0, m)) (sym g.1) ∙ d.2)

    looped_goes : (k : Bindings) (w : Word) (turn : Resolver) (other_turn : Bool → Resolver) → bytes_eq w.text new ≡ false → Goes turn other_turn
        → (x : StatementList × Bindings) → turn (with_variable scope w.text true (block_opened (old_of post k))) ≡ Ok x
        → Along post x (other_turn (h || bytes_eq w.text old) (with_variable scope w.text true (block_opened (new_of post k))))
    looped_goes k w turn other_turn aw goes x is =
        let u = added k w true in
        let f = h || bytes_eq w.text old in
        let at : ℕ → List Variable → Bindings = λ n vs. record k { seen = vs; outside = n; declared = k.declared + 1 } in
        let before : turn (at (length (under_old post)) (under_old (post ++ u ∷ [])))
        ≡ Ok x = ap (λ (vs : List Variable). turn (at (length (under_old post)) vs))
        (sym (append_assoc pre (v ∷ post) (u ∷ []))) ∙ is in
        let q = goes f (post ++ u ∷ []) (old_hides u) (new_apart u aw) (at (length (under_old post)) []) x before in
        further post (u ∷ []) x (other_turn f (with_variable scope w.text true (block_opened (new_of post k))))
        (subst (λ (vs : List Variable). Along (post ++ u ∷ []) x (other_turn f (at (length (under_new post)) vs)))
        (sym (append_assoc pre (other ∷ post) (u ∷ [])))
        (subst (λ (n : ℕ). Along (post ++ u ∷ []) x (other_turn f (at n (under_new (post ++ u ∷ []))))) (sym lengths) q))

    for_goes : (k : Bindings) (w : Word) (lo hi : Expression) (turn : Resolver) (other_turn : Bool → Resolver)
        → bytes_eq w.text new ≡ false → reads new lo ≡ false → reads new hi ≡ false → Goes turn other_turn
        → (y : Stmt × Bindings) → for_loop scope w lo hi turn (old_of post k) ≡ Ok y
        → One h y (for_loop scope w (e_new lo) (e_new hi) (other_turn (h || bytes_eq w.text old)) (new_of post k))
    for_goes k w lo hi turn other_turn aw al ah goes y is =
        let opening : Bindings → Bindings = λ m. with_variable scope w.text true (block_opened m) in
        let o = other_turn (h || bytes_eq w.text old) in
        let a = steps_of (require_room w (old_of post k)) (λ _. and_then (term_of scope (under_old post) lo)
        (λ p. and_then (term_of scope (under_old post) hi)
        (λ q. and_then (in_block opening turn (old_of post k))
        (λ t. Ok (stmt.For (next_slot scope k) p q t.0, t.1))))) y is in
        let b = steps_of (term_of scope (under_old post) lo)
        (λ p. and_then (term_of scope (under_old post) hi)
        (λ q. and_then (in_block opening turn (old_of post k))
        (λ t. Ok (stmt.For (next_slot scope k) p q t.0, t.1)))) y a.2 in
        let c = steps_of (term_of scope (under_old post) hi)
        (λ q. and_then (in_block opening turn (old_of post k))
        (λ t. Ok (stmt.For (next_slot scope k) b.0 q t.0, t.1))) y b.2 in
        let d = steps_of (in_block opening turn (old_of post k)) (λ t. Ok (stmt.For (next_slot scope k) b.0 c.0 t.0, t.1)) y c.2 in
        let g = block_goes k opening turn o (looped_goes k w turn other_turn aw goes) d.0 d.1 in
        let same : for_loop scope w (e_new lo) (e_new hi) o (new_of post k) ≡ Ok (stmt.For (next_slot scope k) b.0 c.0 d.0.0, new_of post g.0) =
        ap (λ (r : Resolved (Unit {0})). and_then r (λ _. and_then (term_of scope (under_new post) (e_new lo))
        (λ p. and_then (term_of scope (under_new post) (e_new hi))
        (λ q. and_then (in_block opening o (new_of post k))
        (λ t. Ok (stmt.For (next_slot scope k) p q t.0, t.1)))))) a.1
        ∙ (ap (λ (r : Resolved Term). and_then r (λ p. and_then (term_of scope (under_new post) (e_new hi))
        (λ q. and_then (in_block opening o (new_of post k)) (λ t. Ok (stmt.For (next_slot scope k) p q t.0, t.1)))))
        (term_same post no_new h hidden lo al ∙ b.1)
        ∙ (ap (λ (r : Resolved Term). and_then r (λ q. and_then (in_block opening o (new_of post k))
        (λ t. Ok (stmt.For (next_slot scope k) b.0 q t.0, t.1)))) (term_same post no_new h hidden hi ah ∙ c.1)
        ∙ ap (λ (r : Resolved (StatementList × Bindings)). and_then r (λ t. Ok (stmt.For (next_slot scope k) b.0 c.0 t.0, t.1))) g.2)) in
        adds_none g.0 (stmt.For (next_slot scope k) b.0 c.0 d.0.0)
        (for_loop scope w (e_new lo) (e_new hi) o (new_of post k)) same y
        (ap (λ (m : Bindings). Ok (stmt.For (next_slot scope k) b.0 c.0 d.0.0, m)) (sym g.1) ∙ d.2)

  -- ---- the statements that are chosen

  words_stay : (e : Expression) → with_words (changed true) e ≡ e
  words_stay (Num z spot) = refl
  words_stay (Name w) = refl
  words_stay (Elem w at) = ap (Elem w) (words_stay at)
  words_stay (Unary o a spot) = ap (λ (x : Expression). Unary o x spot) (words_stay a)
  words_stay (Binary o a b) = ap (λ (x : Expression). Binary o x (with_words (changed true) b)) (words_stay a) ∙ ap (Binary o a) (words_stay b)
  words_stay (Choose c a b) =
      ap (λ (x : Expression). Choose x (with_words (changed true) a) (with_words (changed true) b)) (words_stay c)
      ∙ (ap (λ (x : Expression). Choose c x (with_words (changed true) b)) (words_stay a) ∙ ap (Choose c a) (words_stay b))

  done_chosen : (h : Bool) → chosen h Done ≡ Done
  done_chosen true = refl
  done_chosen false = refl

  by_hiding : (b : Bool) (t : Statements) → cond b t (renamed old new t) ≡ chosen b t
  by_hiding true t = refl
  by_hiding false t = refl

  declare_chosen : (h : Bool) (w : Word) (e : Expression) (rest : Statements)
      → DeclareThen w (with_words (changed h) e) (chosen (h || bytes_eq w.text old) rest)
      ≡ chosen h (DeclareThen w e rest)
  declare_chosen true w e rest = ap (λ (x : Expression). DeclareThen w x rest) (words_stay e)
  declare_chosen false w e rest = ap (DeclareThen w (renamed_term old new e)) (sym (by_hiding (bytes_eq w.text old) rest))

  set_chosen : (h : Bool) (w : Word) (e : Expression) (rest : Statements)
      → SetThen (changed h w) (with_words (changed h) e) (chosen h rest) ≡ chosen h (SetThen w e rest)
  set_chosen true w e rest = ap (λ (x : Expression). SetThen w x rest) (words_stay e)
  set_chosen false w e rest = refl

  put_chosen : (h : Bool) (w : Word) (at e : Expression) (rest : Statements)
      → PutThen w (with_words (changed h) at) (with_words (changed h) e) (chosen h rest)
      ≡ chosen h (PutThen w at e rest)
  put_chosen true w at e rest = ap (λ (x : Expression). PutThen w x (with_words (changed true) e) rest) (words_stay at)
      ∙ ap (λ (x : Expression). PutThen w at x rest) (words_stay e)
  put_chosen false w at e rest = refl

  if_chosen : (h : Bool) (c : Expression) (first second rest : Statements)
      → IfThen (with_words (changed h) c) (chosen h first) (chosen h second) (chosen h rest)
      ≡ chosen h (IfThen c first second rest)
  if_chosen true c first second rest = ap (λ (x : Expression). IfThen x first second rest) (words_stay c)
  if_chosen false c first second rest = refl

  for_chosen : (h : Bool) (w : Word) (lo hi : Expression) (turn rest : Statements)
      → ForThen w (with_words (changed h) lo) (with_words (changed h) hi) (chosen (h || bytes_eq w.text old) turn)
      (chosen h rest) ≡ chosen h (ForThen w lo hi turn rest)
  for_chosen true w lo hi turn rest = ap (λ (x : Expression). ForThen w x (with_words (changed true) hi) turn rest)
      (words_stay lo) ∙ ap (λ (x : Expression). ForThen w lo x turn rest) (words_stay hi)
  for_chosen false w lo hi turn rest = ap (λ (t : Statements). ForThen w (renamed_term old new lo)
      (renamed_term old new hi) t (renamed old new rest)) (sym (by_hiding (bytes_eq w.text old) turn))

  trap_chosen : (h : Bool) (w : Word) (rest : Statements) → TrapThen w (chosen h rest) ≡ chosen h (TrapThen w rest)
  trap_chosen true w rest = refl
  trap_chosen false w rest = refl

  -- ---- statements in order

  goes : (t : Statements) → occurs new t ≡ false → Goes (resolved scope t) (λ h. resolved scope (chosen h t))
  goes Done apart h post hidden no_new k x is =
      subst (λ (y : StatementList × Bindings). Along post y (resolved scope (chosen h Done) (new_of post k))) (same_Ok (list.Done, old_of post k) x is)
      (stays post list.Done k (resolved scope (chosen h Done) (new_of post k)) no_new
      (ap (λ (t : Statements). resolved scope t (new_of post k)) (done_chosen h)))
  goes (DeclareThen w e rest) apart h post hidden no_new k x is =
      let aw = first_false (bytes_eq w.text new) (reads new e || occurs new rest) apart in
      let more = second_false (bytes_eq w.text new) (reads new e || occurs new rest) apart in
      let ae = first_false (reads new e) (occurs new rest) more in
      let ar = second_false (reads new e) (occurs new rest) more in
      subst (λ (t : Statements). Along post x (resolved scope t (new_of post k))) (declare_chosen h w e rest)
      (follow_goes post (declare scope w e (old_of post k)) (declare scope w (with_words (changed h) e) (new_of post k))
      (resolved scope rest) (λ f. resolved scope (chosen f rest)) (h || bytes_eq w.text old)
      (declare_goes post no_new h hidden k w e aw ae) (goes rest ar) x is)
  goes (SetThen w e rest) apart h post hidden no_new k x is =
      let aw = first_false (bytes_eq w.text new) (reads new e || occurs new rest) apart in
      let more = second_false (bytes_eq w.text new) (reads new e || occurs new rest) apart in
      let ae = first_false (reads new e) (occurs new rest) more in
      let ar = second_false (reads new e) (occurs new rest) more in
      subst (λ (t : Statements). Along post x (resolved scope t (new_of post k))) (set_chosen h w e rest)
      (follow_goes post (set scope w e (old_of post k)) (set scope (changed h w) (with_words (changed h) e)
      (new_of post k)) (resolved scope rest) (λ f. resolved scope (chosen f rest)) h
      (set_goes post no_new h hidden k w e aw ae) (goes rest ar) x is)
  goes (PutThen w at e rest) apart h post hidden no_new k x is =
      let ai = first_false (reads new at) (reads new e || occurs new rest) apart in
      let more = second_false (reads new at) (reads new e || occurs new rest) apart in
      let ae = first_false (reads new e) (occurs new rest) more in
      let ar = second_false (reads new e) (occurs new rest) more in
      subst (λ (t : Statements). Along post x (resolved scope t (new_of post k))) (put_chosen h w at e rest)
      (follow_goes post (put scope w at e (old_of post k)) (put scope w (with_words (changed h) at)
      (with_words (changed h) e) (new_of post k)) (resolved scope rest) (λ f. resolved scope (chosen f rest)) h
      (put_goes post no_new h hidden k w at e ai ae) (goes rest ar) x is)
  goes (IfThen c first second rest) apart h post hidden no_new k x is =
      let ac = first_false (reads new c) (occurs new first || (occurs new second || occurs new rest)) apart in
      let more = second_false (reads new c) (occurs new first || (occurs new second || occurs new rest)) apart in
      let af = first_false (occurs new first) (occurs new second || occurs new rest) more in
      let last = second_false (occurs new first) (occurs new second || occurs new rest) more in
      let a2 = first_false (occurs new second) (occurs new rest) last in
      let ar = second_false (occurs new second) (occurs new rest) last in
      subst (λ (t : Statements). Along post x (resolved scope t (new_of post k))) (if_chosen h c first second rest)
      (follow_goes post (if_else scope c (resolved scope first) (resolved scope second) (old_of post k))
      (if_else scope (with_words (changed h) c) (resolved scope (chosen h first)) (resolved scope (chosen h second))
      (new_of post k)) (resolved scope rest) (λ f. resolved scope (chosen f rest)) h
      (if_goes post no_new h hidden k c (resolved scope first) (resolved scope second)
      (λ f. resolved scope (chosen f first)) (λ f. resolved scope (chosen f second)) ac (goes first af)
      (goes second a2)) (goes rest ar) x is)
  goes (ForThen w lo hi turn rest) apart h post hidden no_new k x is =
      let aw = first_false (bytes_eq w.text new) (reads new lo || (reads new hi || (occurs new turn || occurs new rest))) apart in
      let more = second_false (bytes_eq w.text new) (reads new lo || (reads new hi || (occurs new turn || occurs new rest))) apart in
      let al = first_false (reads new lo) (reads new hi || (occurs new turn || occurs new rest)) more in
      let two = second_false (reads new lo) (reads new hi || (occurs new turn || occurs new rest)) more in
      let ah = first_false (reads new hi) (occurs new turn || occurs new rest) two in
      let last = second_false (reads new hi) (occurs new turn || occurs new rest) two in
      let at = first_false (occurs new turn) (occurs new rest) last in
      let ar = second_false (occurs new turn) (occurs new rest) last in
      subst (λ (t : Statements). Along post x (resolved scope t (new_of post k))) (for_chosen h w lo hi turn rest)
      (follow_goes post (for_loop scope w lo hi (resolved scope turn) (old_of post k))
      (for_loop scope w (with_words (changed h) lo) (with_words (changed h) hi)
      (resolved scope (chosen (h || bytes_eq w.text old) turn)) (new_of post k)) (resolved scope rest)
      (λ f. resolved scope (chosen f rest)) h
      (for_goes post no_new h hidden k w lo hi (resolved scope turn) (λ f. resolved scope (chosen f turn)) aw al ah (goes turn at)) (goes rest ar) x is)
  goes (TrapThen w rest) apart h post hidden no_new k x is =
      subst (λ (t : Statements). Along post x (resolved scope t (new_of post k))) (trap_chosen h w rest)
      (follow_goes post (trap w (old_of post k)) (trap w (new_of post k)) (resolved scope rest)
      (λ f. resolved scope (chosen f rest)) h (trap_goes post no_new h hidden k w) (goes rest apart) x is)

-- ---- the variable of a declaration, and that of a loop

has_drop : (z : List ℕ) (o : ℕ) (vs : List Variable) → has z vs ≡ false → has z (drop o vs) ≡ false
has_drop z zero vs h = h
has_drop z (suc o) [] h = refl
has_drop z (suc o) (u ∷ us) h = has_drop z o us (second_false (bytes_eq u.name z) (has z us) h)

abbrev added_by : Environment → List ℕ → Bool → Bindings → Variable
added_by scope name is_loop_variable k = record { name = name; slot = next_slot scope k; is_loop_variable = is_loop_variable }

-- the declaration itself, under both names
declare_other : (scope : Environment) (k : Bindings) (new : List ℕ) (w : Word) (e : Expression) → has new k.seen ≡ false
    → (y : Stmt × Bindings) → declare scope w e k ≡ Ok y
    → (t : Stmt) × (y ≡ (t, with_variable scope w.text false k)) × (declare scope (named new w) e k ≡ Ok (t, with_variable scope new false k))
declare_other scope k new w e none y is =
    let end : List ℕ → Term → Resolved (Stmt × Bindings) = λ name x. Ok (stmt.Set (next_slot scope k) x, with_variable scope name false k) in
    let a = steps_of (require_room w k) (λ _. and_then (require_fresh w k) (λ _. and_then (term_of scope k.seen e) (end w.text))) y is in
    let b = steps_of (require_fresh w k) (λ _. and_then (term_of scope k.seen e) (end w.text)) y a.2 in
    let d = steps_of (term_of scope k.seen e) (end w.text) y b.2 in
    let fresh : require_fresh (named new w) k ≡ Ok tt = ap (fresh_test w) (has_drop new k.outside k.seen none) in (
      stmt.Set (next_slot scope k) d.0,
      sym (same_Ok (stmt.Set (next_slot scope k) d.0, with_variable scope w.text false k) y d.2),
      ap (λ (r : Resolved (Unit {0})). and_then r (λ _. and_then (require_fresh (named new w) k) (λ _. and_then (term_of scope k.seen e) (end new)))) a.1
          ∙ (ap (λ (r : Resolved (Unit {0})). and_then r (λ _. and_then (term_of scope k.seen e) (end new))) fresh
          ∙ ap (λ (r : Resolved Term). and_then r (end new)) d.1),
    )

pub declared_same : DeclaredSame
declared_same scope k new w e rest x none apart is =
    let more = second_false (bytes_eq w.text new) (reads new e || occurs new rest) apart in
    let ar = second_false (reads new e) (occurs new rest) more in
    let a = steps_of (declare scope w e k) (λ s. and_then (resolved scope rest s.1) (λ y. Ok (then s.0 y.0, y.1))) x is in
    let b = steps_of (resolved scope rest a.0.1) (λ y. Ok (then a.0.0 y.0, y.1)) x a.2 in
    let d = declare_other scope k new w e none a.0 a.1 in
    let k1 = with_variable scope w.text false k in
    let u = added_by scope w.text false k in
    let q = goes scope w.text new k.seen u refl rest ar false [] refl refl k1 b.0 (ap (λ (y : Stmt × Bindings). resolved scope rest y.1) (sym d.1) ∙ b.1) in
    let seen : List Variable = k.seen ++ record u { name = new } ∷ q.more in
    let x_is : (then d.0 b.0.0, b.0.1) ≡ x = ap (λ (s : Stmt × Bindings). (then s.0 b.0.0, b.0.1)) (sym d.1) ∙ same_Ok (then a.0.0 b.0.0, b.0.1) x b.2 in (
      q.more,
      ap (λ (s : StatementList × Bindings). s.1.seen) (sym x_is) ∙ q.seen,
      ap (λ (r : Resolved (Stmt × Bindings)). follow r (resolved scope (renamed w.text new rest))) d.2
          ∙ (ap (λ (r : Resolved (StatementList × Bindings)). and_then r (λ y. Ok (then d.0 y.0, y.1))) q.same
          ∙ ap (λ (p : StatementList × Bindings). Ok (p.0, record p.1 { seen = seen })) x_is),
    )

pub looped_same : LoopedSame
looped_same scope k new w lo hi turn x apart is =
    let opening : List ℕ → Bindings → Bindings = λ name m. with_variable scope name true (block_opened m) in
    let turned : Resolver = resolved scope turn in
    let other_turn : Resolver = resolved scope (renamed w.text new turn) in
    let a = steps_of (require_room w k) (λ _. and_then (term_of scope k.seen lo)
    (λ p. and_then (term_of scope k.seen hi) (λ q. and_then (in_block (opening w.text) turned k)
    (λ t. Ok (stmt.For (next_slot scope k) p q t.0, t.1))))) x is in
    let b = steps_of (term_of scope k.seen lo) (λ p. and_then (term_of scope k.seen hi)
    (λ q. and_then (in_block (opening w.text) turned k) (λ t. Ok (stmt.For (next_slot scope k) p q t.0, t.1)))) x
    a.2 in
    let c = steps_of (term_of scope k.seen hi) (λ q. and_then (in_block (opening w.text) turned k)
    (λ t. Ok (stmt.For (next_slot scope k) b.0 q t.0, t.1))) x b.2 in
    let d = steps_of (in_block (opening w.text) turned k) (λ t. Ok (stmt.For (next_slot scope k) b.0 c.0 t.0, t.1)) x c.2 in
    let e = steps_of (turned (opening w.text k)) (λ y. Ok (y.0, block_closed k y.1)) d.0 d.1 in
    let u = added_by scope w.text true k in
    let q = goes scope w.text new k.seen u refl turn apart false [] refl refl (opening w.text k) e.0 e.1 in
    let front : (vs ws : List Variable) → take (length k.seen) (k.seen ++ vs)
    ≡ take (length k.seen) (k.seen ++ ws) = λ vs ws. take_at k.seen vs (length k.seen) refl
    ∙ sym (take_at k.seen ws (length k.seen) refl) in
    let m = record e.0.1 { outside = k.outside } in
    let closed : block_closed k (record e.0.1 { seen = k.seen ++ record u { name = new } ∷ q.more }) ≡ block_closed k e.0.1 =
    ap (λ (vs : List Variable). record m { seen = vs }) (front (record u { name = new } ∷ q.more) (u ∷ q.more) ∙ ap (take (length k.seen)) (sym q.seen)) in
    let whole : in_block (opening new) other_turn k ≡ Ok d.0 =
    ap (λ (r : Resolved (StatementList × Bindings)). and_then r (λ y. Ok (y.0, block_closed k y.1))) q.same
    ∙ (ap (λ (c : Bindings). Ok (e.0.0, c)) closed ∙ e.2) in
    ap (λ (r : Resolved (Unit {0})). and_then r (λ _. and_then (term_of scope k.seen lo)
    (λ p. and_then (term_of scope k.seen hi) (λ q. and_then (in_block (opening new) other_turn k)
    (λ t. Ok (stmt.For (next_slot scope k) p q t.0, t.1)))))) a.1
    ∙ (ap (λ (r : Resolved Term). and_then r (λ p. and_then (term_of scope k.seen hi)
    (λ q. and_then (in_block (opening new) other_turn k) (λ t. Ok (stmt.For (next_slot scope k) p q t.0, t.1)))))
    b.1
    ∙ (ap (λ (r : Resolved Term). and_then r (λ q. and_then (in_block (opening new) other_turn k) (λ t. Ok (stmt.For (next_slot scope k) b.0 q t.0, t.1)))) c.1
    ∙ (ap (λ (r : Resolved (StatementList × Bindings)). and_then r (λ t. Ok (stmt.For (next_slot scope k) b.0 c.0 t.0, t.1))) whole ∙ d.2)))
