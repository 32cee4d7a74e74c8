-- Judged by its tokens, the names of a whole body have the fault of its tree: blocks, and statements in order.
use Rattle.std.proofs.Common.{◌≡◌, ℕ, zero, suc, ◌+◌, ◌-◌, ◌≤◌, Bool, true, false, List, [], ◌∷◌, ◌++◌, length, take}
use Rattle.std.proofs.Common.{Ok, Err, refl, sym, ap, ◌∙◌, subst, inl, inr, append_assoc, arith}
use Rattle.std.specs.Prelude.{Option, Some, None, slice_get}
use Rattle.std.proofs.lemmas.List.{append-nil, take_all}
use Rattle.std.specs.Option.{unwrap_or}
use Rattle.grammar_core.specs.declared.token.Token.{Token}
use Rattle.jdf_lex.specs.declared.terminal.Terminal.{Terminal}
use Rattle.jdf_lex.specs.declared.terminal.Terminal.TheVariants as terminal
use Rattle.grammar_core.specs.Production.{seq, opt, Fault, Language, Many, Derives, DerivedWithin, Derived, IsText}
use Rattle.jdf_lex.specs.Terminals.{terminal_of, is}
use Rattle.term_core.specs.declared.body.Stmt.{Stmt}
use Rattle.term_core.specs.declared.body.Stmt.TheVariants as out
use Rattle.term_core.specs.BlockStatementList as block_steps
use Rattle.term_core.specs.StatementList.{StatementList}
use Rattle.ptg_base.specs.Returns.{and_then}
use Rattle.jdf_tree.specs.declared.body.StmtTree.{StmtTree}
use Rattle.jdf_tree.specs.declared.body.StmtTree.TheVariants as stmt
use Rattle.jdf_tree.specs.declared.expression.ExprWithSpot.{ExprWithSpot}
use Rattle.jdf_tree.specs.declared.expression.Word.{Word}
use Rattle.jdf_tree.specs.declared.part.Part.TheVariants as part
use Rattle.jdf_tree.specs.BlockStatements.{then, statements_of}
use Rattle.jdf_tree.specs.BodyGrammar.{block, if_of, condition, otherwise, choice, for_of, for_loop, statement, statements, block_rest, text, body}
use Rattle.jdf_tree.specs.ExpressionGrammar.{outer}
use Rattle.jdf_tree.specs.Grammar.{productions}
use Rattle.jdf_tree.specs.Nonterminal.{Nonterminal, a_block, TreeOf}
use Rattle.jdf_tree.specs.GrammarParts.{any, word_of, name}
use Rattle.jdf_tree.specs.GrammarParts as piece
use Rattle.jdf_tree.specs.Statements.{Statements, Done}
use Rattle.body_lang.specs.Environment.{Environment}
use Rattle.expr_names.specs.Symbols.{Resolved}
use Rattle.body_lang.specs.Expressions.{term_of}
use Rattle.body_lang.specs.Bindings.{Bindings, no_bindings, block_opened, block_closed, next_slot, with_variable, require_room}
use Rattle.body_lang.specs.Statements.{in_block, resolved, statement_of, body_of}
use Rattle.body_lang.specs.Statements as resolving
use Rattle.body_lang.proofs.CallerLemmas.{resolved-then}
use Rattle.body_lang.specs.TokenScan.{TokenScan, at_first, declared_by, declared, block_entered, block_left_by, block_left, fault_of, front_fault}
use Rattle.body_laws.specs.Declarations.{declarations}
use Rattle.body_laws.proofs.Along.{along, along_append, after_after, after_same, among_all, with_previous, is_inside}
use Rattle.body_laws.proofs.Alike.{Alike, names_of, names_append, names_take, names_length, term_alike}
use Rattle.body_laws.proofs.Declared as count
use Rattle.body_laws.proofs.VariableCount.{NotTooMany, Adds, declare_bounded, set_bounded, put_bounded, choice_bounded}
use Rattle.body_laws.proofs.VariableCount.{loop_bounded, trap_bounded, block_bounded}
use Rattle.body_laws.proofs.Judging.{NoIndex, no_index, Names, of_fault, outer_judges, names_at, names_judge}
use Rattle.body_laws.proofs.Walking.{is_for, silent_as, inside_as, is_silent, silent, left_brace, right_brace, begun}
use Rattle.body_laws.proofs.Walking.{counter_name, expression, Ready, Follows, first_step, known_step, last_step}
use Rattle.body_laws.proofs.Walking.{walked}
use Rattle.body_laws.proofs.Agreeing.{room_is, last_is, front_is, Walks, Indexes, declaration_walks, assignment_walks, stop_walks}
use Rattle.list_lemmas.specs.Counting.{weigh}

-- ---- what is known at the braces of a block

declared_around : (o : Option (List ℕ)) (st : TokenScan) → (declared_by o true st).open_blocks ≡ st.open_blocks
declared_around None st = refl
declared_around (Some name) st = refl

same_length : (k m : Bindings) → Alike k m → length k.seen ≡ length m.seen
same_length k m h = sym (names_length k.seen) ∙ (ap length h.seen ∙ names_length m.seen)

-- what is noted at the opening of a block, for its end
abbrev both : Bindings → ℕ × ℕ
both k = (length k.seen, k.outside)

-- inside a block of `if` or `else`
ready_inside : (k : Bindings) (st : TokenScan) → Alike k st.bindings → st.naming ≡ None
    → Ready (block_opened k) (with_previous terminal.LeftBrace (declared true (block_entered st)))
ready_inside k st h e = rw e (record { alike = record { seen = h.seen; outside = same_length k st.bindings h }; naming = refl; begins = refl })

-- inside the block of a loop
ready_counted : (scope : Environment) (k : Bindings) (st : TokenScan) (name : List ℕ) → Alike k st.bindings → st.naming ≡ Some name
    → Ready (with_variable scope name true (block_opened k)) (with_previous terminal.LeftBrace (declared true (block_entered st)))
ready_counted scope k st name h e =
    rw e
    (record {
      alike = record {
        seen = names_append k.seen _ ∙ (ap (λ (l : List (List ℕ × Bool)). l ++ (name, true) ∷ []) h.seen ∙ sym (names_append st.bindings.seen _));
        outside = same_length k st.bindings h;
      };
      naming = refl;
      begins = refl;
    })

-- a last step that cannot fail changes nothing
mapped : {X Y : Type 0} (around : List (ℕ × ℕ)) (g : X × Bindings → Y) (a : Resolved (X × Bindings))
    (v : Resolved TokenScan) → Follows around a v → Follows around (and_then a (λ x. Ok (g x, x.1))) v
mapped around g (Ok x) (Ok m) h = h
mapped around g (Ok x) (Err e) h = absurd h
mapped around g (Err e) (Ok m) h = absurd h
mapped around g (Err e) (Err f) h = h

module _ (scope : Environment) where
  -- the statements of a block and its closing brace
  record Closes (s r : List Token) (t : Statements) : Type 0 where
    word : List Token
    parts : s ≡ word ++ r
    follows : (opening : Bindings → Bindings) (k : Bindings) (st : TokenScan) (beyond : List (ℕ × ℕ))
        → Ready (opening k) st → st.open_blocks ≡ beyond ++ (length k.seen, k.outside) ∷ []
        → (opening k).declared + declarations t ≤ 256 → Follows beyond (in_block opening (resolved scope t) k) (along scope st word r)

  -- what is known after the brace that opens a block
  abbrev Opens : (Bindings → Bindings) → Bindings → Option (List ℕ) → Type 0
  Opens opening k naming = (st : TokenScan) → Alike k st.bindings → st.naming ≡ naming
      → Ready (opening k) (with_previous terminal.LeftBrace (declared true (block_entered st)))

  -- a block with both braces
  record Blocks (s r : List Token) (t : Statements) : Type 0 where
    word : List Token
    parts : s ≡ word ++ r
    follows : (opening : Bindings → Bindings) (k : Bindings) (naming : Option (List ℕ)) → Opens opening k naming
        → (st : TokenScan) → Alike k st.bindings → st.naming ≡ naming
        → (opening k).declared + declarations t ≤ 256 → Follows st.open_blocks (in_block opening (resolved scope t) k) (along scope st word r)

  -- after the closing brace as many variables are seen as before the block
  left_known : (k m : Bindings) (st : TokenScan) (beyond : List (ℕ × ℕ)) → Ready m st
      → st.open_blocks ≡ beyond ++ (length k.seen, k.outside) ∷ []
      → ((block_left st).open_blocks ≡ beyond) × Ready (block_closed k m)
      (with_previous terminal.RightBrace (block_left st))
  left_known k m st beyond ready e =
      subst (λ (o : Option (ℕ × ℕ)). ((block_left_by o st).open_blocks ≡ beyond)
      × Ready (block_closed k m) (with_previous terminal.RightBrace (block_left_by o st))) (sym last) (
        front,
        record {
          alike = record {
            seen = names_take (length k.seen) m.seen ∙ (ap (take (length k.seen)) ready.alike.seen ∙ sym (names_take (length k.seen) st.bindings.seen));
            outside = refl;
          };
          naming = ready.naming;
          begins = refl;
        },
      )
    where
      last : slice_get st.open_blocks (length st.open_blocks - 1) ≡ Some (length k.seen, k.outside)
      last = rw e (last_is beyond (length k.seen, k.outside))

      front : take (length st.open_blocks - 1) st.open_blocks ≡ beyond
      front = rw e (front_is beyond (length k.seen, k.outside))

  -- a block that is left out
  nothing_inside : (k : Bindings) (m : Bindings) → Alike k m → Alike (block_closed k (block_opened k)) m
  nothing_inside k m h = record { seen = ap names_of (take_all (length k.seen) k.seen (omega arith)) ∙ h.seen; outside = h.outside }

  statement_bounded : (t : StmtTree) (k : Bindings) → k.declared + count.declared t ≤ 256
      → NotTooMany (Adds scope {A = Stmt} k (count.declared t)) (statement_of scope t k)
  statement_bounded (stmt.Declare w e) k le = declare_bounded scope w e k (omega (arith, le))
  statement_bounded (stmt.Set w e) k le = set_bounded scope w e k
  statement_bounded (stmt.Put w i e) k le = put_bounded scope w i e k
  statement_bounded (stmt.If c first second) k le =
      choice_bounded scope c (resolved scope first) (resolved scope second) (declarations first) (declarations second)
      (block_bounded scope first) (block_bounded scope second) k le
  statement_bounded (stmt.For w lo hi turn) k le = loop_bounded scope w lo hi (resolved scope turn) (declarations turn) (block_bounded scope turn) k le
  statement_bounded (stmt.Trap w) k le = trap_bounded scope w k

  adds_of : (k : Bindings) (n : ℕ) (a : Resolved (Stmt × Bindings)) (x : Stmt × Bindings)
      → NotTooMany (Adds scope {A = Stmt} k n) a → a ≡ Ok x → x.1.declared ≡ k.declared + n
  adds_of k n a x h e = subst (λ (a : Resolved (Stmt × Bindings)). NotTooMany (Adds scope {A = Stmt} k n) a) e h

  block_adds : (k : Bindings) (t : Statements) (opening : Bindings → Bindings) (x : StatementList × Bindings)
      → (opening k).declared + declarations t ≤ 256 → in_block opening (resolved scope t) k ≡ Ok x
      → x.1.declared ≡ (opening k).declared + declarations t
  block_adds k t opening x le e = go (resolved scope t (opening k)) (block_bounded scope t (opening k) le) e
    where
      declared_of : Resolved (StatementList × Bindings) → ℕ
      declared_of (Ok y) = y.1.declared
      declared_of (Err f) = 0

      go : (a : Resolved (StatementList × Bindings)) → NotTooMany
          (Adds scope {A = StatementList} (opening k) (declarations t)) a
          → and_then a (λ x. Ok (x.0, block_closed k x.1)) ≡ Ok x → x.1.declared ≡ (opening k).declared + declarations t
      go (Ok y) h e = sym (ap declared_of e) ∙ h
      go (Err f) h e = absurd cc

  module _ (R : (n : Nonterminal) → Language (TreeOf n)) (N : Names scope R)
      (B : (s : List Token) (t : Statements) (o : Fault) (r : List Token) → R a_block s t o r → Closes s r t) where
    -- ---- blocks

    block_walks : (s : List Token) (t : Statements) (o : Fault) (r : List Token) → Derives R block s t o r → Blocks s r t
    unfolding block
    block_walks s t o r h =
        let pair = h.1 in
        let x = h.0.0 in
        let c = B pair.0 h.0.1 pair.1 r pair.3 in
        subst (λ (t : Statements). Blocks s r t) h.2
        (record {
          word = x ∷ c.word;
          parts = pair.2.0 ∙ ap (λ (l : List Token). x ∷ l) c.parts;
          follows = λ opening k naming opens st alike is_naming at_most.
              walked st.open_blocks (in_block opening (resolved scope h.0.1) k) _ _ (left_brace scope x c.word r st pair.2.1)
              (c.follows opening k (with_previous terminal.LeftBrace (declared true (block_entered st))) st.open_blocks (opens st alike is_naming)
              (declared_around st.naming (block_entered st) ∙ ap (λ (p : ℕ × ℕ). st.open_blocks ++ p ∷ []) (same_pair k st.bindings alike)) at_most);
        })
      where
        same_pair : (k m : Bindings) → Alike k m → both m ≡ both k
        same_pair k m h = let e = same_length k m h in let f = h.outside in cc

    block_begins : (s : List Token) (t : Statements) (o : Fault) (r : List Token) → Derives R block s t o r → NoIndex s
    unfolding block
    block_begins s t o r h = no_index (is terminal.LeftBrace) s h.1.0 h.0.0 refl h.1.2.0 h.1.2.1

    -- ---- choices

    condition_walks : (s : List Token) (t : ExprWithSpot) (o : Fault) (r : List Token) → Derives R condition s t o r → Indexes scope s r t
    unfolding condition
    condition_walks s t o r h =
        let mark = h.1.3 in
        let inner_part = h.1.4 in
        let e = inner_part.1.3 in
        let stop = inner_part.1.4 in
        let tree : h.0.1 ≡ t = h.2 in
        let same : inner_part.0.0 ≡ h.0.1 = inner_part.2 in
        let x = h.0.0 in
        let y = inner_part.0.1 in
        let j = outer_judges scope R N h.1.0 inner_part.0.0 inner_part.1.1 inner_part.1.0 e
        (no_index (is terminal.RightParen) inner_part.1.0 r y refl stop.0.0 stop.0.1) in
        subst (λ (t : ExprWithSpot). Indexes scope s r t) (same ∙ tree)
        (record {
          word = x ∷ (j.word ++ y ∷ []);
          parts = mark.0.0 ∙ ap (λ (l : List Token). x ∷ l) (j.parts ∙ (ap (λ (l : List Token). j.word ++ l) stop.0.0 ∙ sym (append_assoc j.word (y ∷ []) r)));
          ends = terminal_of y;
          walks = λ st.
              silent scope x (j.word ++ y ∷ []) r st (silent_as terminal.LeftParen (terminal_of x) refl mark.0.1)
              ∙ (expression scope h.1.0 inner_part.1.0 (y ∷ []) r
              (λ seen. fault_of (term_of scope seen inner_part.0.0.tree)) j stop.0.0
              (with_previous (terminal_of x) st) (inside_as terminal.LeftParen (terminal_of x) refl mark.0.1)
              ∙ after_same (fault_of (term_of scope st.bindings.seen inner_part.0.0.tree))
              (λ _. along scope (with_previous j.ends (with_previous (terminal_of x) st)) (y ∷ []) r)
              (λ _. Ok (with_previous (terminal_of y) st))
              (λ _. silent scope y [] r (with_previous j.ends (with_previous (terminal_of x) st))
              (silent_as terminal.RightParen (terminal_of y) refl stop.0.1)));
        })

    -- the block after `else`
    otherwise_walks : (s : List Token) (t : Statements) (o : Fault) (r : List Token) → Derives R otherwise s t o r → Blocks s r t
    unfolding otherwise
    otherwise_walks s t o r h =
        let mark = h.1.3 in
        let x = h.0.0 in
        let b = block_walks h.1.0 h.0.1 h.1.2 r h.1.4 in
        subst (λ (t : Statements). Blocks s r t) h.2
        (record {
          word = x ∷ b.word;
          parts = mark.0.0 ∙ ap (λ (l : List Token). x ∷ l) b.parts;
          follows = λ opening k naming opens st alike is_naming at_most.
              walked st.open_blocks (in_block opening (resolved scope h.0.1) k) _ _
              (silent scope x b.word r st (silent_as terminal.Else (terminal_of x) refl mark.0.1))
              (b.follows opening k naming opens (with_previous (terminal_of x) st) alike is_naming at_most);
        })

    -- an else part, if there is one
    may_walk : (s : List Token) (t : Option Statements) (o : Fault) (r : List Token) → Derives R (opt otherwise) s t o r
        → Walks scope s r (declarations (unwrap_or t Done)) (in_block block_opened (resolved scope (unwrap_or t Done)))
    may_walk s None o r h =
        record {
          word = [];
          parts = h.0;
          follows = λ k st ready at_most. (refl, record { alike = nothing_inside k st.bindings ready.alike; naming = ready.naming; begins = ready.begins });
        }
    may_walk s (Some t) o r h =
        let b = otherwise_walks s t o r h in
        record {
          word = b.word;
          parts = b.parts;
          follows = λ k st ready at_most. b.follows block_opened k None
              (ready_inside k) st ready.alike ready.naming at_most;
        }

    -- after an expression
    past_index : (s m w r : List Token) (t : ExprWithSpot) (c : Indexes scope s m t) → m ≡ w ++ r → (st : TokenScan)
        → along scope st (c.word ++ w) r ≡ and_then (fault_of (term_of scope st.bindings.seen t.tree)) (λ _. along scope (with_previous c.ends st) w r)
    past_index s m w r t c e st =
        along_append scope st c.word w r
        ∙ (ap (λ (l : List Token). and_then (along scope st c.word l) (λ q. along scope q w r)) (sym e)
        ∙ (ap (λ (u : Resolved TokenScan). and_then u (λ q. along scope q w r)) (c.walks st)
        ∙ after_after (fault_of (term_of scope st.bindings.seen t.tree)) (λ _. Ok (with_previous c.ends st))
        (λ q. along scope q w r)))

    choice_walks : (s : List Token) (t : StmtTree) (o : Fault) (r : List Token) → Derives R choice s t o r
        → Walks scope s r (count.declared t) (statement_of scope t)
    unfolding choice
    choice_walks s t o r h =
        let mark = h.1.1.3 in
        let inside_is : h.1.0.1 ≡ h.0 = h.1.2 in
        subst (λ (t : StmtTree). Walks scope s r (count.declared t) (statement_of scope t)) (ap if_of inside_is ∙ h.2)
        (by_parts h.1.0.0 h.1.1.0 mark.0.0 mark.0.1 h.1.0.1.0 h.1.0.1.1.0 h.1.0.1.1.1 h.1.1.2 h.1.1.4)
      where
        by_parts : (x : Token) (m : List Token) → s ≡ x ∷ m → is terminal.If (terminal_of x) ≡ true
            → (c : ExprWithSpot) (first : Statements) (second : Option Statements) (o : Fault)
            → Derives R (seq condition (seq block (opt otherwise))) m (c, (first, second)) o r
            → Walks scope s r (declarations first + declarations (unwrap_or second Done))
            (resolving.if_else scope c.tree (resolved scope first) (resolved scope (unwrap_or second Done)))
        by_parts x m e is_if c first second o h =
            let rest = h.4 in
            let i = condition_walks m c h.1 h.0 h.3 in
            let a = block_walks h.0 first rest.1 rest.0 rest.3 in
            let b = may_walk rest.0 second rest.2 r rest.4 in
            let behind_it : h.0 ≡ (a.word ++ b.word) ++ r = a.parts ∙ (ap (λ (l : List Token). a.word ++ l) b.parts ∙ sym (append_assoc a.word b.word r)) in
            record {
              word = x ∷ (i.word ++ (a.word ++ b.word));
              parts = e ∙ ap (λ (l : List Token). x ∷ l) (i.parts
                  ∙ (ap (λ (l : List Token). i.word ++ l) behind_it ∙ sym (append_assoc i.word (a.word ++ b.word) r)));
              follows = λ k st ready at_most.
                  let st1 = with_previous (terminal_of x) st in
                  let st2 = with_previous i.ends st1 in
                  let along_is : along scope st (x ∷ (i.word ++ (a.word ++ b.word))) r
                  ≡ and_then (fault_of (term_of scope st.bindings.seen c.tree))
                  (λ _. and_then (along scope st2 a.word rest.0) (λ q. along scope q b.word r)) =
                  silent scope x (i.word ++ (a.word ++ b.word)) r st (silent_as terminal.If (terminal_of x) refl is_if)
                  ∙ (past_index m h.0 (a.word ++ b.word) r c i behind_it st1
                  ∙ after_same (fault_of (term_of scope st.bindings.seen c.tree))
                  (λ _. along scope st2 (a.word ++ b.word) r)
                  (λ _. and_then (along scope st2 a.word rest.0) (λ q. along scope q b.word r))
                  (λ _. along_append scope st2 a.word b.word r
                  ∙ ap (λ (l : List Token). and_then (along scope st2 a.word l) (λ q. along scope q b.word r))
                  (sym b.parts))) in
                  walked st.open_blocks (resolving.if_else scope c.tree (resolved scope first) (resolved scope (unwrap_or second Done)) k) _ _ along_is
                  (first_step st.open_blocks (term_of scope k.seen c.tree) _
                  (fault_of (term_of scope st.bindings.seen c.tree)) _
                  (term_alike scope k.seen st.bindings.seen ready.alike.seen c.tree)
                  (λ y _. last_step st.open_blocks st.open_blocks (in_block block_opened (resolved scope first) k) _
                  (along scope st2 a.word rest.0) (λ q. along scope q b.word r)
                  (a.follows block_opened k None (ready_inside k) st2 ready.alike ready.naming (omega (arith, at_most)))
                  (λ z q is around_is ready'.
                  let adds = block_adds k first block_opened z (omega (arith, at_most)) is in
                  subst (λ (l : List (ℕ × ℕ)). Follows l (and_then
                  (in_block block_opened (resolved scope (unwrap_or second Done)) z.1)
                  (λ v. Ok (out.If y z.0 v.0, v.1))) (along scope q b.word r)) around_is
                  (mapped q.open_blocks (λ v. out.If y z.0 v.0)
                  (in_block block_opened (resolved scope (unwrap_or second Done)) z.1) (along scope q b.word r)
                  (b.follows z.1 q ready' (omega (arith, at_most, adds)))))));
            }

    -- ---- loops

    -- an expression after a mark, with no index after the expression
    marked_walks : (j : Terminal) → ((k : Terminal) → is j k ≡ true → (is_silent k ≡ true) × (is_inside (Some k) ≡ true))
        → (s : List Token) (t : ExprWithSpot) (o : Fault) (r : List Token)
        → Derives R (piece.prefixed_by j (outer part.Body)) s t o r → NoIndex r → Indexes scope s r t
    marked_walks j terminals s t o r h apart =
        let mark = h.1.3 in
        let x = h.0.0 in
        let q = outer_judges scope R N h.1.0 h.0.1 h.1.2 r h.1.4 apart in
        let of_terminal = terminals (terminal_of x) mark.0.1 in
        subst (λ (t : ExprWithSpot). Indexes scope s r t) h.2
        (record {
          word = x ∷ q.word;
          parts = mark.0.0 ∙ ap (λ (l : List Token). x ∷ l) q.parts;
          ends = q.ends;
          walks = λ st. silent scope x q.word r st of_terminal.0 ∙ q.judges (with_previous (terminal_of x) st) of_terminal.1;
        })

    assign_terminals : (k : Terminal) → is terminal.Assign k ≡ true → (is_silent k ≡ true) × (is_inside (Some k) ≡ true)
    assign_terminals terminal.Assign h = (refl, refl)
    assign_terminals _ h = absurd cc

    dots_terminals : (k : Terminal) → is terminal.Dots k ≡ true → (is_silent k ≡ true) × (is_inside (Some k) ≡ true)
    dots_terminals terminal.Dots h = (refl, refl)
    dots_terminals _ h = absurd cc

    marked_begins : (j : Terminal) → ((k : Terminal) → is j k ≡ true → is terminal.LeftBracket k ≡ false)
        → (s : List Token) (t : ExprWithSpot) (o : Fault) (r : List Token)
        → Derives R (piece.prefixed_by j (outer part.Body)) s t o r → NoIndex s
    marked_begins j apart s t o r h =
        let mark = h.1.3 in
        subst (λ (l : List Token). NoIndex l) (sym mark.0.0) (apart (terminal_of h.0.0) mark.0.1)

    dots_apart : (k : Terminal) → is terminal.Dots k ≡ true → is terminal.LeftBracket k ≡ false
    dots_apart terminal.Dots h = refl
    dots_apart _ h = absurd cc

    for_walks : (s : List Token) (t : StmtTree) (o : Fault) (r : List Token) → Derives R for_loop s t o r
        → Walks scope s r (count.declared t) (statement_of scope t)
    unfolding for_loop
    for_walks s t o r h =
        let mark = h.1.1.3 in
        let inside_is : h.1.0.1 ≡ h.0 = h.1.2 in
        subst (λ (t : StmtTree). Walks scope s r (count.declared t) (statement_of scope t)) (ap for_of inside_is ∙ h.2)
        (by_parts h.1.0.0 h.1.1.0 mark.0.0 mark.0.1 h.1.0.1.0 h.1.0.1.1.0 h.1.0.1.1.1.0 h.1.0.1.1.1.1 h.1.1.2 h.1.1.4)
      where
        by_parts : (x : Token) (m : List Token) → s ≡ x ∷ m → is terminal.For (terminal_of x) ≡ true
            → (w : Word) (lo hi : ExprWithSpot) (turn : Statements) (o : Fault)
            → Derives R (seq (name part.Body) (seq (piece.prefixed_by terminal.Assign (outer part.Body))
            (seq (piece.prefixed_by terminal.Dots (outer part.Body)) block))) m (w, (lo, (hi, turn))) o r
            → Walks scope s r (1 + declarations turn) (resolving.for_loop scope w lo.tree hi.tree (resolved scope turn))
        by_parts x m e is_for_word w lo hi turn o h =
            let word = h.3 in
            let bounds = h.4 in
            let upper = bounds.4 in
            let y = word.0 in
            let b = block_walks upper.0 turn upper.2 r upper.4 in
            let j = marked_walks terminal.Dots dots_terminals bounds.0 hi upper.1 upper.0 upper.3 (block_begins upper.0 turn upper.2 r upper.4) in
            let i = marked_walks terminal.Assign assign_terminals h.0 lo bounds.1 bounds.0 bounds.3
            (marked_begins terminal.Dots dots_apart bounds.0 hi upper.1 upper.0 upper.3) in
            let behind_lo : bounds.0 ≡ (j.word ++ b.word) ++ r = j.parts
            ∙ (ap (λ (l : List Token). j.word ++ l) b.parts ∙ sym (append_assoc j.word b.word r)) in
            subst (λ (w : Word). Walks scope s r (1 + declarations turn) (resolving.for_loop scope w lo.tree hi.tree (resolved scope turn))) word.2
            (record {
              word = x ∷ (y ∷ (i.word ++ (j.word ++ b.word)));
              parts = e ∙ ap (λ (l : List Token). x ∷ l) (word.1.0.0
                  ∙ ap (λ (l : List Token). y ∷ l) (i.parts ∙
                  (ap (λ (l : List Token). i.word ++ l) behind_lo ∙ sym (append_assoc i.word (j.word ++ b.word) r))));
              follows = λ k st ready at_most.
                  let st1 = with_previous (terminal_of x) st in
                  let st2 = begun scope y st1 in
                  let st3 = with_previous i.ends st2 in
                  let st4 = with_previous j.ends st3 in
                  let last_for : st1.previous ≡ Some terminal.For = ap (λ (j : Terminal). Some j) (is_for (terminal_of x) is_for_word) in
                  let along_is : along scope st (x ∷ (y ∷ (i.word ++ (j.word ++ b.word)))) r
                  ≡ and_then (fault_of (term_of scope st.bindings.seen lo.tree))
                  (λ _. and_then (fault_of (term_of scope st.bindings.seen hi.tree))
                  (λ _. along scope st4 b.word r)) =
                  silent scope x (y ∷ (i.word ++ (j.word ++ b.word))) r st (silent_as terminal.For (terminal_of x) refl is_for_word)
                  ∙ (counter_name scope y (i.word ++ (j.word ++ b.word)) r st1 word.1.0.1 last_for
                  ∙ (past_index h.0 bounds.0 (j.word ++ b.word) r lo i behind_lo st2
                  ∙ after_same (fault_of (term_of scope st.bindings.seen lo.tree))
                  (λ _. along scope st3 (j.word ++ b.word) r)
                  (λ _. and_then (fault_of (term_of scope st.bindings.seen hi.tree))
                  (λ _. along scope st4 b.word r))
                  (λ _. past_index bounds.0 upper.0 b.word r hi j b.parts st3))) in
                  walked st.open_blocks (resolving.for_loop scope (word_of y) lo.tree hi.tree (resolved scope turn) k) _ _ along_is
                  (known_step st.open_blocks (require_room (word_of y) k) _ tt _ (room_is (word_of y) k (omega (arith, at_most)))
                  (first_step st.open_blocks (term_of scope k.seen lo.tree) _
                  (fault_of (term_of scope st.bindings.seen lo.tree)) _
                  (term_alike scope k.seen st.bindings.seen ready.alike.seen lo.tree)
                  (λ u _. first_step st.open_blocks (term_of scope k.seen hi.tree) _
                  (fault_of (term_of scope st.bindings.seen hi.tree)) _
                  (term_alike scope k.seen st.bindings.seen ready.alike.seen hi.tree)
                  (λ v _. mapped st.open_blocks (λ t. out.For (next_slot scope k) u v t.0)
                  (in_block (λ m. with_variable scope y.text true (block_opened m)) (resolved scope turn) k)
                  (along scope st4 b.word r)
                  (b.follows (λ m. with_variable scope y.text true (block_opened m)) k (Some y.text)
                  (λ q alike named. ready_counted scope k q y.text alike named) st4 ready.alike refl
                  (omega (arith, at_most)))))));
            })

    -- ---- statements in order

    statement_walks : (s : List Token) (t : StmtTree) (o : Fault) (r : List Token) → Derives R statement s t o r
        → Walks scope s r (count.declared t) (statement_of scope t)
    unfolding statement
    statement_walks s t o r h =
        elim h [
          | inl u ↦ declaration_walks scope R N s t o r u
          | inr u ↦ elim u [
            | inl v ↦ choice_walks s t o r v
            | inr v ↦ elim v [
              | inl x ↦ for_walks s t o r x
              | inr x ↦ elim x [
                | inl y ↦ stop_walks scope R N s t o r y
                | inr y ↦ assignment_walks scope R N s t o r y
              ]
            ]
          ]
        ]

    many_walk : (i : ℕ) (ts : List StmtTree) (s : List Token) (o : Fault) (r : List Token)
        → Many any (Derives R statement) i s ts o r → Walks scope s r (weigh count.declared ts)
        (resolved scope (statements_of ts))
    many_walk i [] s o r h = record { word = []; parts = h.0; follows = λ k st ready at_most. (refl, ready) }
    many_walk i (t ∷ ts) s o r h =
        let a = statement_walks s t h.1 h.0 h.3 in
        let b = many_walk (suc i) ts h.0 h.2 r h.4 in
        record {
          word = a.word ++ b.word;
          parts = a.parts ∙ (ap (λ (l : List Token). a.word ++ l) b.parts ∙ sym (append_assoc a.word b.word r));
          follows = λ k st ready at_most.
              let along_is : along scope st (a.word ++ b.word) r ≡ and_then (along scope st a.word h.0) (λ q. along scope q b.word r) =
              along_append scope st a.word b.word r ∙ ap (λ (l : List Token). and_then (along scope st a.word l) (λ q. along scope q b.word r)) (sym b.parts) in
              walked st.open_blocks (resolved scope (then t (statements_of ts)) k) _ _ along_is
              (subst (λ (v : Resolved (StatementList × Bindings)). Follows st.open_blocks v
              (and_then (along scope st a.word h.0) (λ q. along scope q b.word r)))
              (sym (resolved-then scope t (statements_of ts) k))
              (last_step st.open_blocks st.open_blocks (statement_of scope t k) _ (along scope st a.word h.0)
              (λ q. along scope q b.word r) (a.follows k st ready (omega (arith, at_most)))
              (λ z q is around_is ready'.
              let adds = adds_of k (count.declared t) (statement_of scope t k) z (statement_bounded t k (omega (arith, at_most))) is in
              subst (λ (l : List (ℕ × ℕ)). Follows l (and_then (resolved scope (statements_of ts) z.1)
              (λ v. Ok (block_steps.then z.0 v.0, v.1))) (along scope q b.word r)) around_is
              (mapped q.open_blocks (λ v. block_steps.then z.0 v.0) (resolved scope (statements_of ts) z.1)
              (along scope q b.word r) (b.follows z.1 q ready' (omega (arith, at_most, adds)))))));
        }

    statements_walk : (s : List Token) (t : Statements) (o : Fault) (r : List Token) → Derives R statements s t o r
        → Walks scope s r (declarations t) (resolved scope t)
    unfolding statements
    statements_walk s t o r h =
        subst (λ (t : Statements). Walks scope s r (declarations t) (resolved scope t)) h.2
        (subst (λ (n : ℕ). Walks scope s r n (resolved scope (statements_of h.0))) (sym (count.statements_declare h.0)) (many_walk 0 h.0 s o r h.1))

    block_closes : (s : List Token) (t : Statements) (o : Fault) (r : List Token) → Derives R block_rest s t o r → Closes s r t
    unfolding block_rest
    block_closes s t o r h =
        let brace = h.1.4 in
        let y = h.0.1 in
        let a = statements_walk s h.0.0 h.1.1 h.1.0 h.1.3 in
        subst (λ (t : Statements). Closes s r t) h.2
        (record {
          word = a.word ++ y ∷ [];
          parts = a.parts ∙ (ap (λ (l : List Token). a.word ++ l) brace.0.0 ∙ sym (append_assoc a.word (y ∷ []) r));
          follows = λ opening k st beyond ready open_is at_most.
              let along_is : along scope st (a.word ++ y ∷ []) r ≡ and_then (along scope st a.word h.1.0) (λ q. along scope q (y ∷ []) r) =
              along_append scope st a.word (y ∷ []) r ∙ ap (λ (l : List Token). and_then (along scope st a.word l)
              (λ q. along scope q (y ∷ []) r)) (sym brace.0.0) in
              walked beyond (in_block opening (resolved scope h.0.0) k) _ _ along_is
              (last_step st.open_blocks beyond (resolved scope h.0.0 (opening k)) _ (along scope st a.word h.1.0)
              (λ q. along scope q (y ∷ []) r) (a.follows (opening k) st ready at_most)
              (λ z q is around_is ready'.
              walked beyond (Ok (z.0, block_closed k z.1)) _ _ (right_brace scope y [] r q brace.0.1)
              (left_known k z.1 q beyond ready' (around_is ∙ open_is))));
        })

  -- ---- names of any depth

  closes_at : (d : ℕ) (s : List Token) (t : Statements) (o : Fault) (r : List Token) → DerivedWithin productions d a_block s t o r → Closes s r t
  unfolding productions
  closes_at zero s t o r h = absurd h
  closes_at (suc d) s t o r h = block_closes (DerivedWithin productions d) (names_at scope d) (closes_at d) s t o r h

  blocks_close : (s : List Token) (t : Statements) (o : Fault) (r : List Token) → Derived productions a_block s t o r → Closes s r t
  blocks_close s t o r h = closes_at h.depth s t o r h.derives

  -- ---- a whole text

  same_fault : {A : Type 0} (around : List (ℕ × ℕ)) (a : Resolved (A × Bindings)) (v : Resolved TokenScan) → Follows around a v → fault_of v ≡ fault_of a
  same_fault around (Ok x) (Ok m) h = refl
  same_fault around (Ok x) (Err e) h = absurd h
  same_fault around (Err e) (Ok m) h = absurd h
  same_fault around (Err e) (Err f) h = ap (λ e. Err e) (sym h)

  abbrev text_fault : Statements → Resolved (Unit {0})
  text_fault t = fault_of (resolved scope t no_bindings)

  at_start : Ready no_bindings at_first
  at_start = record { alike = record { seen = refl; outside = refl }; naming = refl; begins = refl }

  all_along : (w s : List Token) → s ≡ w ++ [] → along scope at_first s [] ≡ along scope at_first w []
  all_along w s e = ap (λ (l : List Token). along scope at_first l []) (e ∙ append-nil w)

  text_agrees : (s : List Token) (t : Statements) (o : Fault) → declarations t ≤ 256
      → Derives (Derived productions) text s t o [] → fault_of (along scope at_first s []) ≡ text_fault t
  unfolding text
  text_agrees s t o at_most h = elim h [ inl u ↦ in_braces u | inr u ↦ plain u ]
    where
      in_braces : Derives (Derived productions) block s t o [] → fault_of (along scope at_first s []) ≡ text_fault t
      in_braces u =
          let b = block_walks (Derived productions) (names_judge scope) blocks_close s t o [] u in
          ap fault_of (all_along b.word s b.parts)
          ∙ (same_fault [] (in_block block_opened (resolved scope t) no_bindings) (along scope at_first b.word [])
          (b.follows block_opened no_bindings None (ready_inside no_bindings) at_first at_start.alike refl
          (omega (arith, at_most)))
          ∙ sym (of_fault scope (resolved scope t no_bindings) (λ x. (x.0, block_closed no_bindings x.1))))

      plain : Derives (Derived productions) statements s t o [] → fault_of (along scope at_first s []) ≡ text_fault t
      plain u =
          let a = statements_walk (Derived productions) (names_judge scope) blocks_close s t o [] u in
          ap fault_of (all_along a.word s a.parts) ∙ same_fault [] (resolved scope t no_bindings)
          (along scope at_first a.word []) (a.follows no_bindings at_first at_start (omega (arith, at_most)))

  -- In a whole text, its tokens and its tree give the names the same first fault.
  pub agrees : (s : List Token) (t : Statements) → IsText productions body s t None → front_fault scope s (length s) ≡ fault_of (body_of scope t)
  unfolding body
  agrees s t h =
      among_all scope at_first s
      ∙ (text_agrees s t h.1.0 (count.variables_at_most s t h) h.1.1
      ∙ of_fault scope (resolved scope t no_bindings) (λ x.
      (record { statements = x.0; slots = length scope.locals + x.1.declared }, x.1.words)))
