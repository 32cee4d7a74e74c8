-- Judged by its tokens, the names of a whole body have the fault of its tree: statements.
use Rattle.std.proofs.Common.{◌≡◌, ℕ, ◌+◌, ◌-◌, ◌<◌, ◌≤◌, Bool, true, false, List, [], ◌∷◌, ◌++◌, length, take, Ok, Err}
use Rattle.std.proofs.Common.{refl, sym, ap, ◌∙◌, subst, append_assoc, arith}
use Rattle.std.specs.Prelude.{Option, Some, None, slice_get}
use Rattle.std.proofs.lemmas.List.{length-append, take_at}
use Rattle.std.proofs.lemmas.Bool.{lt-ltb}
use Rattle.grammar_core.specs.declared.token.Token.{Token}
use Rattle.jdf_lex.specs.declared.terminal.Terminal.{Terminal}
use Rattle.jdf_lex.specs.declared.terminal.Terminal.TheVariants as terminal
use Rattle.grammar_core.specs.Production.{seq, opt, Fault, Language, Derives}
use Rattle.jdf_lex.specs.Sets.{starts}
use Rattle.jdf_lex.specs.Terminals.{terminal_of, is}
use Rattle.ptg_base.specs.Returns.{and_then}
use Rattle.jdf_tree.specs.declared.body.StmtTree.{StmtTree}
use Rattle.jdf_tree.specs.declared.body.StmtTree.TheVariants as stmt
use Rattle.jdf_tree.specs.declared.expression.ExprWithSpot.{ExprWithSpot}
use Rattle.jdf_tree.specs.declared.expression.Word.{Word}
use Rattle.jdf_tree.specs.declared.part.Part.TheVariants.{Body}
use Rattle.jdf_tree.specs.BodyGrammar.{value, declare_of, declaration, element, assign_of, assignment, trap_statement, text}
use Rattle.jdf_tree.specs.Nonterminal.{Nonterminal, TreeOf}
use Rattle.jdf_tree.specs.GrammarParts.{word_of, name}
use Rattle.body_lang.specs.Environment.{Environment}
use Rattle.body_lang.specs.Meanings.{meaning_of}
use Rattle.expr_names.specs.Symbols.{Resolved}
use Rattle.body_lang.specs.Expressions.{slot_of, written_flow, term_of}
use Rattle.body_lang.specs.Bindings.{Bindings, require_room, require_fresh, numbered}
use Rattle.body_lang.specs.Statements.{declare, set, put, resolved, statement_of}
use Rattle.body_lang.specs.Statements as resolving
use Rattle.body_lang.specs.TokenScan.{TokenScan, declared, fault_of}
use Rattle.body_laws.proofs.Along.{along, along_append, after_after, after_same, with_previous}
use Rattle.body_laws.proofs.Alike.{Alike, names_append, fresh_alike, slot_alike, term_alike}
use Rattle.body_laws.proofs.Declared as count
use Rattle.body_laws.proofs.Judging.{NoIndex, no_index, Names, outer_judges}
use Rattle.body_laws.proofs.Walking.{is_int, is_trap, silent_as, inside_as, silent, semicolon, begun, declared_name}
use Rattle.body_laws.proofs.Walking.{trap_name, assigned_name, element_name, expression, Ready, Follows, first_step}
use Rattle.body_laws.proofs.Walking.{known_step, walked}

-- a fault alone is itself
fault_again : (v : Resolved (Unit {0})) → fault_of v ≡ v
fault_again (Ok x) = refl
fault_again (Err e) = refl

pub room_is : (w : Word) (k : Bindings) → k.declared < 256 → require_room w k ≡ Ok tt
room_is w k h = rw (lt-ltb k.declared 256 h) refl

-- the last of a list of pairs, and those before it
pub last_is : (xs : List (ℕ × ℕ)) (p : ℕ × ℕ) → slice_get (xs ++ p ∷ []) (length (xs ++ p ∷ []) - 1) ≡ Some p
last_is xs p = ap (slice_get (xs ++ p ∷ [])) (let e = length-append xs (p ∷ []) in omega (arith, e)) ∙ at_end xs
  where
    at_end : (xs : List (ℕ × ℕ)) → slice_get (xs ++ p ∷ []) (length xs) ≡ Some p
    at_end [] = refl
    at_end (y ∷ ys) = at_end ys

pub front_is : (xs : List (ℕ × ℕ)) (p : ℕ × ℕ) → take (length (xs ++ p ∷ []) - 1) (xs ++ p ∷ []) ≡ xs
front_is xs p = take_at xs (p ∷ []) (length (xs ++ p ∷ []) - 1) (let e = length-append xs (p ∷ []) in omega (arith, e))

module _ (scope : Environment) where
  -- Scanning the tokens of s before r agrees with resolving their tree, which declares n variables.
  pub record Walks {A : Type 0} (s r : List Token) (n : ℕ) (given : Bindings → Resolved (A × Bindings)) : Type 0 where
    pub word : List Token
    pub parts : s ≡ word ++ r
    pub follows : (k : Bindings) (st : TokenScan) → Ready k st → k.declared + n ≤ 256 → Follows st.open_blocks (given k) (along scope st word r)

  -- ---- a value and its semicolon

  abbrev done : TokenScan → TokenScan
  done st = with_previous terminal.Semicolon (declared false st)

  done_after : (k : Terminal) (j : Terminal) (st : TokenScan) → done (with_previous k (with_previous j st)) ≡ done st
  done_after k j st = go st.naming refl
    where
      go : (o : Option (List ℕ)) → st.naming ≡ o → done (with_previous k (with_previous j st)) ≡ done st
      go None e = rw e refl
      go (Some name) e = rw e refl

  record Values (s r : List Token) (t : ExprWithSpot) : Type 0 where
    word : List Token
    parts : s ≡ word ++ r
    walks : (st : TokenScan) → along scope st word r ≡ and_then (fault_of (term_of scope st.bindings.seen t.tree)) (λ _. Ok (done st))

  -- an expression after a token, and perhaps a token that closes it
  pub record Indexes (s r : List Token) (t : ExprWithSpot) : Type 0 where
    pub word : List Token
    pub parts : s ≡ word ++ r
    pub ends : Terminal
    pub walks : (st : TokenScan) → along scope st word r ≡ and_then (fault_of (term_of scope st.bindings.seen t.tree)) (λ _. Ok (with_previous ends st))

  module _ (R : (n : Nonterminal) → Language (TreeOf n)) (N : Names scope R) where
    value_walks : (s : List Token) (t : ExprWithSpot) (o : Fault) (r : List Token) → Derives R value s t o r → Values s r t
    unfolding value
    value_walks s t o r h =
        let mark = h.1.3 in
        let inside = h.1.4 in
        let e = inside.1.3 in
        let stop = inside.1.4 in
        let tree : h.0.1 ≡ t = h.2 in
        let same : inside.0.0 ≡ h.0.1 = inside.2 in
        let x = h.0.0 in
        let y = inside.0.1 in
        let j = outer_judges scope R N h.1.0 inside.0.0 inside.1.1 inside.1.0 e (no_index (is terminal.Semicolon) inside.1.0 r y refl stop.0.0 stop.0.1) in
        let assign : is terminal.Assign (terminal_of x) ≡ true = mark.0.1 in
        subst (λ (t : ExprWithSpot). Values s r t) (same ∙ tree)
        (record {
          word = x ∷ (j.word ++ y ∷ []);
          parts = mark.0.0 ∙ ap (λ (l : List Token). x ∷ l) (j.parts ∙ (ap (λ (l : List Token). j.word ++ l) stop.0.0 ∙ sym (append_assoc j.word (y ∷ []) r)));
          walks = λ st.
              silent scope x (j.word ++ y ∷ []) r st (silent_as terminal.Assign (terminal_of x) refl assign)
              ∙ (expression scope h.1.0 inside.1.0 (y ∷ []) r (λ seen. fault_of (term_of scope seen inside.0.0.tree)) j
              stop.0.0 (with_previous (terminal_of x) st) (inside_as terminal.Assign (terminal_of x) refl assign)
              ∙ after_same (fault_of (term_of scope st.bindings.seen inside.0.0.tree))
              (λ _. along scope (with_previous j.ends (with_previous (terminal_of x) st)) (y ∷ []) r)
              (λ _. Ok (done st))
              (λ _. semicolon scope y [] r (with_previous j.ends (with_previous (terminal_of x) st)) stop.0.1
              ∙ ap (λ (m : TokenScan). Ok m) (done_after j.ends (terminal_of x) st)));
        })

    -- ---- declarations

    pub declaration_walks : (s : List Token) (t : StmtTree) (o : Fault) (r : List Token) → Derives R declaration s t o r
        → Walks s r (count.declared t) (statement_of scope t)
    unfolding declaration
    declaration_walks s t o r h =
        let whole = h.1.1 in
        let mark = whole.3 in
        let rest = whole.4 in
        let word = rest.3 in
        let v = value_walks rest.0 h.1.0.1.1 rest.2 r rest.4 in
        let x = h.1.0.0 in
        let y = word.0 in
        let w : Word = word_of y in
        let e : ExprWithSpot = h.1.0.1.1 in
        let inside_is : h.1.0.1 ≡ h.0 = h.1.2 in
        let named_is : w ≡ h.1.0.1.0 = word.2 in
        subst (λ (t : StmtTree). Walks s r (count.declared t) (statement_of scope t))
        (ap (λ (n : Word). declare_of (n, e)) named_is ∙ (ap declare_of inside_is ∙ h.2))
        (record {
          word = x ∷ (y ∷ v.word);
          parts = mark.0.0 ∙ ap (λ (l : List Token). x ∷ l) (word.1.0.0 ∙ ap (λ (l : List Token). y ∷ l) v.parts);
          follows = λ k st ready at_most.
              let st1 = with_previous (terminal_of x) st in
              let last_int : st1.previous ≡ Some terminal.Int = ap (λ (j : Terminal). Some j) (is_int (terminal_of x) mark.0.1) in
              let along_is : along scope st (x ∷ (y ∷ v.word)) r ≡ and_then (require_fresh w st.bindings)
              (λ _. and_then (fault_of (term_of scope st.bindings.seen e.tree))
              (λ _. Ok (done (begun scope y st1)))) =
              silent scope x (y ∷ v.word) r st (silent_as terminal.Int (terminal_of x) refl mark.0.1)
              ∙ (declared_name scope y v.word r st1 word.1.0.1 last_int
              ∙ after_same (require_fresh w st.bindings) (λ _. along scope (begun scope y st1) v.word r)
              (λ _. and_then (fault_of (term_of scope st.bindings.seen e.tree))
              (λ _. Ok (done (begun scope y st1)))) (λ _. v.walks (begun scope y st1))) in
              walked st.open_blocks (declare scope w e.tree k) _ _ along_is
              (known_step st.open_blocks (require_room w k) _ tt _ (room_is w k (omega (arith, at_most)))
              (first_step st.open_blocks (require_fresh w k) _ (require_fresh w st.bindings) _
              (fault_again (require_fresh w k) ∙ fresh_alike w k st.bindings ready.alike)
              (λ _ _. first_step st.open_blocks (term_of scope k.seen e.tree) _
              (fault_of (term_of scope st.bindings.seen e.tree)) _
              (term_alike scope k.seen st.bindings.seen ready.alike.seen e.tree)
              (λ z _. (
                refl,
                record {
                  alike = record {
                    seen = names_append k.seen _ ∙ (ap (λ (l : List (List ℕ × Bool)). l ++ (y.text, false) ∷ [])
                        ready.alike.seen ∙ sym (names_append st.bindings.seen _));
                    outside = ready.alike.outside;
                  };
                  naming = refl;
                  begins = refl;
                },
              )))));
        })

    -- ---- assignments

    value_begins : (s : List Token) (t : ExprWithSpot) (o : Fault) (r : List Token) → Derives R value s t o r
        → (starts (is terminal.Assign) s ≡ true) × NoIndex s
    unfolding value
    value_begins s t o r h =
        let mark = h.1.3 in (
          subst (λ (l : List Token). starts (is terminal.Assign) l ≡ true) (sym mark.0.0) mark.0.1,
          no_index (is terminal.Assign) s h.1.0 h.0.0 refl mark.0.0 mark.0.1,
        )

    element_walks : (s : List Token) (t : ExprWithSpot) (o : Fault) (r : List Token) → Derives R element s t o r
        → Indexes s r t × (starts (is terminal.LeftBracket) s ≡ true)
    unfolding element
    element_walks s t o r h =
        let mark = h.1.3 in
        let inside = h.1.4 in
        let e = inside.1.3 in
        let stop = inside.1.4 in
        let tree : h.0.1 ≡ t = h.2 in
        let same : inside.0.0 ≡ h.0.1 = inside.2 in
        let x = h.0.0 in
        let y = inside.0.1 in
        let j = outer_judges scope R N h.1.0 inside.0.0 inside.1.1 inside.1.0 e (no_index (is terminal.RightBracket) inside.1.0 r y refl stop.0.0 stop.0.1) in (
          subst (λ (t : ExprWithSpot). Indexes s r t) (same ∙ tree)
              (record {
                word = x ∷ (j.word ++ y ∷ []);
                parts = mark.0.0 ∙ ap (λ (l : List Token). x ∷ l)
                    (j.parts ∙ (ap (λ (l : List Token). j.word ++ l) stop.0.0 ∙ sym (append_assoc j.word (y ∷ []) r)));
                ends = terminal_of y;
                walks = λ st.
                    silent scope x (j.word ++ y ∷ []) r st (silent_as terminal.LeftBracket (terminal_of x) refl mark.0.1)
                    ∙ (expression scope h.1.0 inside.1.0 (y ∷ []) r
                    (λ seen. fault_of (term_of scope seen inside.0.0.tree)) j stop.0.0
                    (with_previous (terminal_of x) st) (inside_as terminal.LeftBracket (terminal_of x) refl
                    mark.0.1)
                    ∙ after_same (fault_of (term_of scope st.bindings.seen inside.0.0.tree))
                    (λ _. along scope (with_previous j.ends (with_previous (terminal_of x) st)) (y ∷ []) r)
                    (λ _. Ok (with_previous (terminal_of y) st))
                    (λ _. silent scope y [] r (with_previous j.ends (with_previous (terminal_of x) st))
                    (silent_as terminal.RightBracket (terminal_of y) refl stop.0.1)));
              }),
          subst (λ (l : List Token). starts (is terminal.LeftBracket) l ≡ true) (sym mark.0.0) mark.0.1,
        )

    settled : (st : TokenScan) → st.naming ≡ None → done st ≡ with_previous terminal.Semicolon st
    settled st e = rw e refl

    pub assignment_walks : (s : List Token) (t : StmtTree) (o : Fault) (r : List Token) → Derives R assignment s t o r
        → Walks s r (count.declared t) (statement_of scope t)
    unfolding assignment
    assignment_walks s t o r h = subst (λ (t : StmtTree). Walks s r (count.declared t) (statement_of scope t)) h.2 (by_index h.0.0 h.0.1.0 h.0.1.1 h.1)
      where
        by_index : (w : Word) (i : Option ExprWithSpot) (e : ExprWithSpot)
            → Derives R (seq (name Body) (seq (opt element) value)) s (w, (i, e)) o r
            → Walks s r (count.declared (assign_of (w, (i, e)))) (statement_of scope (assign_of (w, (i, e))))
        by_index w None e h =
            let word = h.3 in
            let rest = h.4 in
            let y = word.0 in
            let v = value_walks rest.0 e rest.2 r rest.4 in
            let begins = value_begins rest.0 e rest.2 r rest.4 in
            let assign : starts (is terminal.Assign) (v.word ++ r) ≡ true = subst (λ (l : List Token). starts (is terminal.Assign) l ≡ true) v.parts begins.0 in
            let no : NoIndex (v.word ++ r) = subst (λ (l : List Token). NoIndex l) v.parts begins.1 in
            subst (λ (w : Word). Walks s r 0 (statement_of scope (stmt.Set w e.tree))) word.2
            (record {
              word = y ∷ v.word;
              parts = word.1.0.0 ∙ ap (λ (l : List Token). y ∷ l) (rest.3.0 ∙ v.parts);
              follows = λ k st ready at_most.
                  let st1 = with_previous (terminal_of y) st in
                  let along_is : along scope st (y ∷ v.word) r ≡ and_then
                  (fault_of (slot_of (word_of y) (meaning_of scope st.bindings.seen y.text)))
                  (λ _. and_then (fault_of (term_of scope st.bindings.seen e.tree))
                  (λ _. Ok (with_previous terminal.Semicolon st1))) =
                  assigned_name scope y v.word r st word.1.0.1 ready.begins no assign
                  ∙ after_same (fault_of (slot_of (word_of y) (meaning_of scope st.bindings.seen y.text)))
                  (λ _. along scope st1 v.word r) (λ _. and_then (fault_of (term_of scope st.bindings.seen e.tree))
                  (λ _. Ok (with_previous terminal.Semicolon st1)))
                  (λ _. v.walks st1 ∙ ap (λ (m : TokenScan). and_then (fault_of (term_of scope st.bindings.seen e.tree))
                  (λ _. Ok m)) (settled st1 ready.naming)) in
                  walked st.open_blocks (set scope (word_of y) e.tree k) _ _ along_is
                  (first_step st.open_blocks (slot_of (word_of y) (meaning_of scope k.seen y.text)) _
                  (fault_of (slot_of (word_of y) (meaning_of scope st.bindings.seen y.text))) _
                  (slot_alike scope k.seen st.bindings.seen ready.alike.seen (word_of y))
                  (λ _ _. first_step st.open_blocks (term_of scope k.seen e.tree) _
                  (fault_of (term_of scope st.bindings.seen e.tree)) _
                  (term_alike scope k.seen st.bindings.seen ready.alike.seen e.tree)
                  (λ _ _. (refl, record { alike = ready.alike; naming = ready.naming; begins = refl }))));
            })
        by_index w (Some i) e h =
            let word = h.3 in
            let rest = h.4 in
            let y = word.0 in
            let v = value_walks rest.0 e rest.2 r rest.4 in
            let el = element_walks h.0 i rest.1 rest.0 rest.3 in
            let ix = el.0 in
            let bracket : starts (is terminal.LeftBracket) ((ix.word ++ v.word) ++ r) ≡ true =
            subst (λ (l : List Token). starts (is terminal.LeftBracket) l ≡ true)
            (ix.parts ∙ (ap (λ (l : List Token). ix.word ++ l) v.parts ∙ sym (append_assoc ix.word v.word r)))
            el.1 in
            subst (λ (w : Word). Walks s r 0 (statement_of scope (stmt.Put w i.tree e.tree))) word.2
            (record {
              word = y ∷ (ix.word ++ v.word);
              parts = word.1.0.0 ∙ ap (λ (l : List Token). y ∷ l)
                  (ix.parts ∙ (ap (λ (l : List Token). ix.word ++ l) v.parts ∙ sym (append_assoc ix.word v.word r)));
              follows = λ k st ready at_most.
                  let st1 = with_previous (terminal_of y) st in
                  let after_index : along scope st1 (ix.word ++ v.word) r
                  ≡ and_then (fault_of (term_of scope st.bindings.seen i.tree))
                  (λ _. and_then (fault_of (term_of scope st.bindings.seen e.tree))
                  (λ _. Ok (with_previous terminal.Semicolon st1))) =
                  along_append scope st1 ix.word v.word r
                  ∙ (ap (λ (l : List Token). and_then (along scope st1 ix.word l) (λ q. along scope q v.word r)) (sym v.parts)
                  ∙ (ap (λ (u : Resolved TokenScan). and_then u (λ q. along scope q v.word r)) (ix.walks st1)
                  ∙ (after_after (fault_of (term_of scope st.bindings.seen i.tree)) (λ _. Ok (with_previous ix.ends st1)) (λ q. along scope q v.word r)
                  ∙ after_same (fault_of (term_of scope st.bindings.seen i.tree))
                  (λ _. along scope (with_previous ix.ends st1) v.word r)
                  (λ _. and_then (fault_of (term_of scope st.bindings.seen e.tree))
                  (λ _. Ok (with_previous terminal.Semicolon st1)))
                  (λ _. v.walks (with_previous ix.ends st1) ∙ ap
                  (λ (m : TokenScan). and_then (fault_of (term_of scope st.bindings.seen e.tree)) (λ _. Ok m))
                  (settled (with_previous ix.ends st1) ready.naming))))) in
                  let along_is : along scope st (y ∷ (ix.word ++ v.word)) r
                  ≡ and_then (fault_of (written_flow scope (word_of y)))
                  (λ _. and_then (fault_of (term_of scope st.bindings.seen i.tree))
                  (λ _. and_then (fault_of (term_of scope st.bindings.seen e.tree))
                  (λ _. Ok (with_previous terminal.Semicolon st1)))) =
                  element_name scope y (ix.word ++ v.word) r st word.1.0.1 ready.begins bracket
                  ∙ after_same (fault_of (written_flow scope (word_of y))) (λ _. along scope st1 (ix.word ++ v.word) r)
                  (λ _. and_then (fault_of (term_of scope st.bindings.seen i.tree))
                  (λ _. and_then (fault_of (term_of scope st.bindings.seen e.tree))
                  (λ _. Ok (with_previous terminal.Semicolon st1)))) (λ _. after_index) in
                  walked st.open_blocks (put scope (word_of y) i.tree e.tree k) _ _ along_is
                  (first_step st.open_blocks (written_flow scope (word_of y)) _ (fault_of (written_flow scope (word_of y))) _ refl
                  (λ _ _. first_step st.open_blocks (term_of scope k.seen i.tree) _
                  (fault_of (term_of scope st.bindings.seen i.tree)) _
                  (term_alike scope k.seen st.bindings.seen ready.alike.seen i.tree)
                  (λ _ _. first_step st.open_blocks (term_of scope k.seen e.tree) _
                  (fault_of (term_of scope st.bindings.seen e.tree)) _
                  (term_alike scope k.seen st.bindings.seen ready.alike.seen e.tree)
                  (λ _ _. (refl, record { alike = ready.alike; naming = ready.naming; begins = refl })))));
            })

    -- ---- trap words

    numbered_alike : (text : List ℕ) (k : Bindings) (o : Option ℕ) (m : Bindings) → Alike k m → Alike (numbered text k o).1 m
    numbered_alike text k None m h = record { seen = h.seen; outside = h.outside }
    numbered_alike text k (Some n) m h = h

    pub stop_walks : (s : List Token) (t : StmtTree) (o : Fault) (r : List Token) → Derives R trap_statement s t o r
        → Walks s r (count.declared t) (statement_of scope t)
    unfolding trap_statement
    stop_walks s t o r h =
        let whole = h.1.1 in
        let mark = whole.3 in
        let rest = whole.4 in
        let word = rest.1.3 in
        let last = rest.1.4 in
        let x = h.1.0.0 in
        let y = word.0 in
        let z = rest.0.1 in
        let named_is : word_of y ≡ rest.0.0 = word.2 in
        let inner_is : rest.0.0 ≡ h.1.0.1 = rest.2 in
        let outer_is : h.1.0.1 ≡ h.0 = h.1.2 in
        subst (λ (t : StmtTree). Walks s r (count.declared t) (statement_of scope t)) (ap stmt.Trap (named_is ∙ (inner_is ∙ outer_is)) ∙ h.2)
        (record {
          word = x ∷ (y ∷ z ∷ []);
          parts = mark.0.0 ∙ ap (λ (l : List Token). x ∷ l) (word.1.0.0 ∙ ap (λ (l : List Token). y ∷ l) last.0.0);
          follows = λ k st ready at_most.
              let st1 = with_previous (terminal_of x) st in
              let last_trap : st1.previous ≡ Some terminal.Trap = ap (λ (j : Terminal). Some j) (is_trap (terminal_of x) mark.0.1) in
              let along_is : along scope st (x ∷ (y ∷ z ∷ [])) r ≡ Ok (with_previous terminal.Semicolon st) =
              silent scope x (y ∷ z ∷ []) r st (silent_as terminal.Trap (terminal_of x) refl mark.0.1)
              ∙ (trap_name scope y (z ∷ []) r st1 word.1.0.1 last_trap
              ∙ (semicolon scope z [] r (with_previous (terminal_of y) st1) last.0.1
              ∙ ap (λ (m : TokenScan). Ok m) (settled (with_previous (terminal_of y) st1) ready.naming))) in
              walked st.open_blocks (resolving.trap (word_of y) k) _ _ along_is (
                refl,
                record {
                  alike = numbered_alike y.text k _ st.bindings ready.alike;
                  naming = ready.naming;
                  begins = refl;
                },
              );
        })
