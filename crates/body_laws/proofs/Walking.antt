-- How single tokens of statements are judged, and when the scan of the tokens agrees with the bindings of the tree.
use Rattle.std.proofs.Common.{◌≡◌, ℕ, Bool, true, false, List, ◌∷◌, ◌++◌, Ok, Err, refl, sym, ap, ◌∙◌, subst, arith}
use Rattle.std.specs.Prelude.{Option, Some, None, ◌||◌, not}
use Rattle.std.proofs.lemmas.Bool.Decides.{nat_tests}
use Rattle.grammar_core.specs.declared.token.Token.{Token}
use Rattle.jdf_lex.specs.declared.terminal.Terminal.{Terminal}
use Rattle.jdf_lex.specs.declared.terminal.Terminal.TheVariants as terminal
use Rattle.jdf_lex.specs.Sets.{starts}
use Rattle.jdf_lex.specs.Terminals.{terminal_of, is, number_of}
use Rattle.ptg_base.specs.Returns.{and_then}
use Rattle.jdf_tree.specs.declared.part.Part.TheVariants.{Body}
use Rattle.jdf_tree.specs.GrammarParts.{names, word_of}
use Rattle.body_lang.specs.Environment.{Environment}
use Rattle.body_lang.specs.declared.variable.Variable.{Variable}
use Rattle.body_lang.specs.Meanings.{meaning_of}
use Rattle.expr_names.specs.Symbols.{Resolved}
use Rattle.body_lang.specs.Expressions.{slot_of, written_flow}
use Rattle.body_lang.specs.Bindings.{Bindings, require_fresh}
use Rattle.body_lang.specs.TokenScan.{TokenScan, after_terminal, after_token, named_by, previous_is, begins_here, fault_of, judged, declared, block_left}
use Rattle.body_laws.proofs.Along.{along, along_append, after_after, with_previous, is_inside, Judges}
use Rattle.body_laws.proofs.Alike.{Alike}

-- ---- terminals that change what is known

pub is_semicolon : (k : Terminal) → is terminal.Semicolon k ≡ true → k ≡ terminal.Semicolon
is_semicolon terminal.Semicolon h = refl
is_semicolon _ h = absurd cc

pub is_left : (k : Terminal) → is terminal.LeftBrace k ≡ true → k ≡ terminal.LeftBrace
is_left terminal.LeftBrace h = refl
is_left _ h = absurd cc

pub is_right : (k : Terminal) → is terminal.RightBrace k ≡ true → k ≡ terminal.RightBrace
is_right terminal.RightBrace h = refl
is_right _ h = absurd cc

pub is_int : (k : Terminal) → is terminal.Int k ≡ true → k ≡ terminal.Int
is_int terminal.Int h = refl
is_int _ h = absurd cc

pub is_for : (k : Terminal) → is terminal.For k ≡ true → k ≡ terminal.For
is_for terminal.For h = refl
is_for _ h = absurd cc

pub is_trap : (k : Terminal) → is terminal.Trap k ≡ true → k ≡ terminal.Trap
is_trap terminal.Trap h = refl
is_trap _ h = absurd cc

-- a terminal that changes nothing but the token before, and is no name
abbrev pub is_silent : Terminal → Bool
is_silent k = not (is terminal.Semicolon k || (is terminal.LeftBrace k || (is terminal.RightBrace k || names Body k)))

-- a terminal that is the same as a silent one is silent
pub silent_as : (j k : Terminal) → is_silent j ≡ true → is j k ≡ true → is_silent k ≡ true
silent_as j k h e = let same : number_of j ≡ number_of k = grind (arith, nat_tests) in rw (← same) h

pub inside_as : (j k : Terminal) → is_inside (Some j) ≡ true → is j k ≡ true → is_inside (Some k) ≡ true
inside_as j k h e = let same : number_of j ≡ number_of k = grind (arith, nat_tests) in rw (← same) h

silent_terminal : (k : Terminal) (text : List ℕ) (st : TokenScan) → is_silent k ≡ true → after_terminal k text st ≡ st
silent_terminal terminal.Semicolon text st h = absurd cc
silent_terminal terminal.LeftBrace text st h = absurd cc
silent_terminal terminal.RightBrace text st h = absurd cc
silent_terminal terminal.Name text st h = absurd cc
silent_terminal terminal.TypeWord text st h = absurd cc
silent_terminal _ text st h = refl

no_name : (k : Terminal) → is_silent k ≡ true → names Body k ≡ false
no_name terminal.Name h = absurd cc
no_name terminal.TypeWord h = absurd cc
no_name _ h = refl

-- what is known after a name
name_terminal : (k : Terminal) (text : List ℕ) (st : TokenScan) → names Body k ≡ true → after_terminal k text st ≡ named_by text st
name_terminal terminal.Name text st h = refl
name_terminal terminal.TypeWord text st h = refl
name_terminal _ text st h = absurd cc

-- if a statement begins here, no declaration has begun
begins_apart : (last : Option Terminal) → begins_here last ≡ true
    → (previous_is terminal.Int last ≡ false) × (previous_is terminal.For last ≡ false)
    × (previous_is terminal.Trap last ≡ false)
begins_apart None h = (refl, refl, refl)
begins_apart (Some k) h = of_terminal k h
  where
    of_terminal : (k : Terminal) → begins_here (Some k) ≡ true
        → (previous_is terminal.Int (Some k) ≡ false) × (previous_is terminal.For (Some k) ≡ false)
        × (previous_is terminal.Trap (Some k) ≡ false)
    of_terminal terminal.Int h = absurd cc
    of_terminal terminal.For h = absurd cc
    of_terminal terminal.Trap h = absurd cc
    of_terminal _ h = (refl, refl, refl)

module _ (scope : Environment) where
  -- ---- single tokens

  -- what a token that is no name changes
  mute : (x : Token) (w r : List Token) (st m : TokenScan) → names Body (terminal_of x) ≡ false → after_token x st ≡ m
      → along scope st (x ∷ w) r ≡ along scope m w r
  mute x w r st m n e = rw n (ap (λ (q : TokenScan). along scope q w r) e)

  pub silent : (x : Token) (w r : List Token) (st : TokenScan) → is_silent (terminal_of x) ≡ true
      → along scope st (x ∷ w) r ≡ along scope (with_previous (terminal_of x) st) w r
  silent x w r st h = mute x w r st (with_previous (terminal_of x) st) (no_name (terminal_of x) h)
      (ap (with_previous (terminal_of x)) (silent_terminal (terminal_of x) x.text st h))

  pub semicolon : (x : Token) (w r : List Token) (st : TokenScan) → is terminal.Semicolon (terminal_of x) ≡ true
      → along scope st (x ∷ w) r ≡ along scope (with_previous terminal.Semicolon (declared false st)) w r
  semicolon x w r st h =
      let e = is_semicolon (terminal_of x) h in
      mute x w r st (with_previous terminal.Semicolon (declared false st)) (ap (names Body) e)
      (ap (λ (k : Terminal). with_previous k (after_terminal k x.text st)) e)

  pub left_brace : (x : Token) (w r : List Token) (st : TokenScan) → is terminal.LeftBrace (terminal_of x) ≡ true
      → along scope st (x ∷ w) r ≡ along scope (with_previous terminal.LeftBrace
      (after_terminal terminal.LeftBrace x.text st)) w r
  left_brace x w r st h =
      let e = is_left (terminal_of x) h in
      mute x w r st (with_previous terminal.LeftBrace (after_terminal terminal.LeftBrace x.text st)) (ap (names Body) e)
      (ap (λ (k : Terminal). with_previous k (after_terminal k x.text st)) e)

  pub right_brace : (x : Token) (w r : List Token) (st : TokenScan) → is terminal.RightBrace (terminal_of x) ≡ true
      → along scope st (x ∷ w) r ≡ along scope (with_previous terminal.RightBrace (block_left st)) w r
  right_brace x w r st h =
      let e = is_right (terminal_of x) h in
      mute x w r st (with_previous terminal.RightBrace (block_left st)) (ap (names Body) e)
      (ap (λ (k : Terminal). with_previous k (after_terminal k x.text st)) e)

  -- ---- names

  -- a declaration has begun
  abbrev pub begun : Token → TokenScan → TokenScan
  begun x st = with_previous (terminal_of x) (record st { naming = Some x.text })

  -- a name is judged, and then passed
  a_name : (x : Token) (w r : List Token) (st m : TokenScan) (v : Resolved (Unit {0}))
      → judged scope st (x ∷ (w ++ r)) ≡ v → after_token x st ≡ m
      → along scope st (x ∷ w) r ≡ and_then v (λ _. along scope m w r)
  a_name x w r st m v h e =
      ap (λ (u : Resolved (Unit {0})). and_then u (λ _. along scope (after_token x st) w r)) h ∙ ap (λ (q : TokenScan). and_then v (λ _. along scope q w r)) e

  past_name : (x : Token) (st m : TokenScan) → names Body (terminal_of x) ≡ true → named_by x.text st ≡ m → after_token x st ≡ with_previous (terminal_of x) m
  past_name x st m n e = ap (λ (q : TokenScan). with_previous (terminal_of x) q) (name_terminal (terminal_of x) x.text st n ∙ e)

  begins_naming : (x : Token) (st : TokenScan) (k : Terminal)
      → (previous_is terminal.Int (Some k) || previous_is terminal.For (Some k)) ≡ true → st.previous ≡ Some k
      → named_by x.text st ≡ record st { naming = Some x.text }
  begins_naming x st k d e = rw (e, d) refl

  pub declared_name : (x : Token) (w r : List Token) (st : TokenScan) → names Body (terminal_of x) ≡ true
      → st.previous ≡ Some terminal.Int → along scope st (x ∷ w) r ≡ and_then (require_fresh (word_of x) st.bindings)
      (λ _. along scope (begun x st) w r)
  declared_name x w r st n e =
      a_name x w r st (begun x st) (require_fresh (word_of x) st.bindings) (rw (n, e) refl)
      (past_name x st (record st { naming = Some x.text }) n (begins_naming x st terminal.Int refl e))

  abbrev no_fault : Resolved (Unit {0})
  no_fault = Ok tt

  pub counter_name : (x : Token) (w r : List Token) (st : TokenScan) → names Body (terminal_of x) ≡ true
      → st.previous ≡ Some terminal.For → along scope st (x ∷ w) r ≡ along scope (begun x st) w r
  counter_name x w r st n e = a_name x w r st (begun x st) no_fault (rw (n, e) refl)
      (past_name x st (record st { naming = Some x.text }) n (begins_naming x st terminal.For refl e))

  pub trap_name : (x : Token) (w r : List Token) (st : TokenScan) → names Body (terminal_of x) ≡ true
      → st.previous ≡ Some terminal.Trap → along scope st (x ∷ w) r ≡ along scope (with_previous (terminal_of x) st) w r
  trap_name x w r st n e = a_name x w r st (with_previous (terminal_of x) st) no_fault (rw (n, e) refl) (past_name x st st n (rw e refl))

  -- a name that begins a statement
  first_past : (x : Token) (st : TokenScan) → names Body (terminal_of x) ≡ true → begins_here st.previous ≡ true
      → after_token x st ≡ with_previous (terminal_of x) st
  first_past x st n b = let f = begins_apart st.previous b in past_name x st st n (rw (f.0, f.1) refl)

  pub assigned_name : (x : Token) (w r : List Token) (st : TokenScan) → names Body (terminal_of x) ≡ true
      → begins_here st.previous ≡ true → starts (is terminal.LeftBracket) (w ++ r) ≡ false
      → starts (is terminal.Assign) (w ++ r) ≡ true
      → along scope st (x ∷ w) r ≡ and_then (fault_of (slot_of (word_of x) (meaning_of scope st.bindings.seen x.text)))
      (λ _. along scope (with_previous (terminal_of x) st) w r)
  assigned_name x w r st n b no_bracket assign =
      let f = begins_apart st.previous b in
      a_name x w r st (with_previous (terminal_of x) st) (fault_of
      (slot_of (word_of x) (meaning_of scope st.bindings.seen x.text)))
      (rw (n, f.0, f.1, f.2, b, no_bracket, assign) refl) (first_past x st n b)

  pub element_name : (x : Token) (w r : List Token) (st : TokenScan) → names Body (terminal_of x) ≡ true
      → begins_here st.previous ≡ true → starts (is terminal.LeftBracket) (w ++ r) ≡ true
      → along scope st (x ∷ w) r ≡ and_then (fault_of (written_flow scope (word_of x))) (λ _. along scope (with_previous (terminal_of x) st) w r)
  element_name x w r st n b bracket =
      let f = begins_apart st.previous b in
      a_name x w r st (with_previous (terminal_of x) st) (fault_of (written_flow scope (word_of x)))
      (rw (n, f.0, f.1, f.2, b, bracket) refl) (first_past x st n b)

  -- ---- expressions

  pub expression : (s m w r : List Token) (V : List Variable → Resolved (Unit {0})) (j : Judges scope s m V)
      → m ≡ w ++ r → (st : TokenScan) → is_inside st.previous ≡ true
      → along scope st (j.word ++ w) r ≡ and_then (V st.bindings.seen) (λ _. along scope (with_previous j.ends st) w r)
  expression s m w r V j e st i =
      along_append scope st j.word w r
      ∙ (ap (λ (l : List Token). and_then (along scope st j.word l) (λ q. along scope q w r)) (sym e)
      ∙ (ap (λ (v : Resolved TokenScan). and_then v (λ q. along scope q w r)) (j.judges st i)
      ∙ after_after (V st.bindings.seen) (λ _. Ok (with_previous j.ends st)) (λ q. along scope q w r)))

-- ---- what is known of the tree, and along the tokens

pub record Ready (k : Bindings) (st : TokenScan) : Type 0 where
  pub alike : Alike k st.bindings
  pub naming : st.naming ≡ None
  pub begins : begins_here st.previous ≡ true

-- the scan agrees with the bindings, and the same blocks are open around
abbrev pub Follows : {A : Type 0} → List (ℕ × ℕ) → Resolved (A × Bindings) → Resolved TokenScan → Type 0
Follows around (Ok x) (Ok m) = (m.open_blocks ≡ around) × Ready x.1 m
Follows around (Ok x) (Err g) = ⊥
Follows around (Err f) (Ok m) = ⊥
Follows around (Err f) (Err g) = f ≡ g

-- the first step of both
pub first_step : {X Y : Type 0} (around : List (ℕ × ℕ)) (a : Resolved X) (g : X → Resolved (Y × Bindings))
    (v : Resolved (Unit {0})) (w : Unit {0} → Resolved TokenScan) → fault_of a ≡ v
    → ((x : X) → a ≡ Ok x → Follows around (g x) (w tt)) → Follows around (and_then a g) (and_then v w)
first_step around (Ok x) g (Ok u) w e h = h x refl
first_step around (Ok x) g (Err f) w e h = absurd cc
first_step around (Err f) g (Ok u) w e h = absurd cc
first_step around (Err f) g (Err f') w e h = cc

-- a step of the tree alone, whose value is known
pub known_step : {X Y : Type 0} (around : List (ℕ × ℕ)) (a : Resolved X) (g : X → Resolved (Y × Bindings)) (x : X)
    (w : Resolved TokenScan) → a ≡ Ok x → Follows around (g x) w → Follows around (and_then a g) w
known_step around a g x w e h = rw e h

-- the last step of both
pub last_step : {X Y : Type 0} (inner around : List (ℕ × ℕ)) (a : Resolved (X × Bindings))
    (g : X × Bindings → Resolved (Y × Bindings)) (v : Resolved TokenScan) (w : TokenScan → Resolved TokenScan)
    → Follows inner a v
    → ((x : X × Bindings) (m : TokenScan) → a ≡ Ok x → m.open_blocks ≡ inner → Ready x.1 m → Follows around (g x) (w m))
    → Follows around (and_then a g) (and_then v w)
last_step inner around (Ok x) g (Ok m) w f h = h x m refl f.0 f.1
last_step inner around (Ok x) g (Err e) w f h = absurd f
last_step inner around (Err e) g (Ok m) w f h = absurd f
last_step inner around (Err e) g (Err e') w f h = f

-- the same walk, written in another way
pub walked : {A : Type 0} (around : List (ℕ × ℕ)) (given : Resolved (A × Bindings)) (v w : Resolved TokenScan) → v ≡ w
    → Follows around given w → Follows around given v
walked around given v w e h = subst (λ (q : Resolved TokenScan). Follows around given q) (sym e) h
