-- Each trap of a body has the number of its own word.
use Rattle.std.proofs.Common.{◌≡◌, ℕ, zero, suc, true, List, [], ◌∷◌, ◌++◌, length, get_or, map, Ok, Err, refl, sym, ap, ◌∙◌, subst, append_assoc}
use Rattle.std.specs.Prelude.{Option, Some, None, slice_get, position}
use Rattle.std.specs.Str.{bytes_eq}
use Rattle.std.proofs.lemmas.List.{append-nil, map-append}
use Rattle.std.proofs.lemmas.List.Quantifiers.{position-Some}
use Rattle.std.proofs.lemmas.Option.{slice_get-get_or}
use Rattle.std.specs.Cmp.Lexicographic.{bytes_decides}
use Rattle.jdf_tree.specs.declared.expression.Word.{Word}
use Rattle.jdf_tree.specs.Expression.{Expression}
use Rattle.jdf_tree.specs.Statements.{Statements, Done, DeclareThen, SetThen, PutThen, IfThen, ForThen, TrapThen}
use Rattle.term_core.specs.declared.body.Body.{Body}
use Rattle.term_core.specs.declared.body.Stmt.{Stmt}
use Rattle.term_core.specs.declared.body.Stmt.TheVariants as stmt
use Rattle.term_core.specs.BlockStatementList.{then}
use Rattle.term_core.specs.StatementList.{StatementList}
use Rattle.ptg_base.specs.Returns.{and_then}
use Rattle.body_lang.specs.Environment.{Environment}
use Rattle.body_lang.specs.Meanings.{meaning_of}
use Rattle.expr_names.specs.Symbols.{Resolved}
use Rattle.body_lang.specs.Expressions.{slot_of, written_flow, term_of}
use Rattle.body_lang.specs.Bindings.{Bindings, no_bindings, block_opened, with_variable, require_room, require_fresh, numbered}
use Rattle.body_lang.specs.Statements.{Resolver, declare, set, put, in_block, if_else, for_loop, trap, follow, resolved, body_of}
use Rattle.body_lang.specs.TrapWords.{words_of, numbers_of, with_word, words_in_order}

-- what holds for everything
abbrev pub Anything : {A : Type 0} → A → Type 0
Anything x = Unit {0}

-- ---- words in the order of their first use

once_append : (front ws vs : List (List ℕ)) → words_in_order front (ws ++ vs) ≡ words_in_order (words_in_order front ws) vs
once_append front [] vs = refl
once_append front (w ∷ ws) vs = once_append (with_word front w (position (λ (v : List ℕ). bytes_eq v w) front)) ws vs

-- the first list is a front of the second
record Longer (front all : List (List ℕ)) : Type 0 where
  more : List (List ℕ)
  is : all ≡ front ++ more

one_longer : (front : List (List ℕ)) (w : List ℕ) (o : Option ℕ) → Longer front (with_word front w o)
one_longer front w None = record { more = w ∷ []; is = refl }
one_longer front w (Some n) = record { more = []; is = sym (append-nil front) }

once_longer : (front ws : List (List ℕ)) → Longer front (words_in_order front ws)
once_longer front [] = record { more = []; is = sym (append-nil front) }
once_longer front (w ∷ ws) =
    let next = with_word front w (position (λ (v : List ℕ). bytes_eq v w) front) in
    let a = one_longer front w (position (λ (v : List ℕ). bytes_eq v w) front) in
    let b = once_longer next ws in
    record { more = a.more ++ b.more; is = b.is ∙ (ap (λ (l : List (List ℕ)). l ++ b.more) a.is ∙ append_assoc front a.more b.more) }

-- ---- which words are known after statements

abbrev looked_up : List (List ℕ) → List ℕ → List (Option (List ℕ))
looked_up words ns = map (λ (n : ℕ). slice_get words n) ns

abbrev each_some : List (List ℕ) → List (Option (List ℕ))
each_some ws = map (λ (w : List ℕ). Some w) ws

-- between the bindings k and m there are traps of these words, with these numbers
record HasTraps (k m : Bindings) (ws : List (List ℕ)) (ns : List ℕ) : Type 0 where
  words : m.words ≡ words_in_order k.words ws
  own : (more : List (List ℕ)) → looked_up (m.words ++ more) ns ≡ each_some ws

no_traps : (k m : Bindings) → m.words ≡ k.words → HasTraps k m [] []
no_traps k m e = record { words = e; own = λ more. refl }

traps_of_both : (k m q : Bindings) (ws vs : List (List ℕ)) (ns ms : List ℕ) → HasTraps k m ws ns → HasTraps m q vs ms → HasTraps k q (ws ++ vs) (ns ++ ms)
traps_of_both k m q ws vs ns ms a b =
    let l = once_longer m.words vs in
    record {
      words = b.words ∙ (ap (λ (f : List (List ℕ)). words_in_order f vs) a.words ∙ sym (once_append k.words ws vs));
      own = λ more.
          map-append (λ (n : ℕ). slice_get (q.words ++ more) n) ns ms
          ∙ (ap (λ (l : List (Option (List ℕ))). l ++ looked_up (q.words ++ more) ms)
          (ap (λ (l : List (List ℕ)). looked_up (l ++ more) ns) (b.words ∙ l.is)
          ∙ (ap (λ (l : List (List ℕ)). looked_up l ns) (append_assoc m.words l.more more)
          ∙ a.own (l.more ++ more)))
          ∙ (ap (λ (l : List (Option (List ℕ))). each_some ws ++ l) (b.own more) ∙ sym (map-append (λ (w : List ℕ). Some w) ws vs)));
    }

-- ---- statements

-- the value satisfies P, if there is no fault
abbrev pub IfValue : {A : Type 0} → (A → Type 0) → Resolved A → Type 0
IfValue P (Ok x) = P x
IfValue P (Err f) = Unit {0}

pub after_if_value : {A B : Type 0} (P : A → Type 0) (Q : B → Type 0) (r : Resolved A) (f : A → Resolved B)
    → IfValue P r → ((x : A) → P x → IfValue Q (f x)) → IfValue Q (and_then r f)
after_if_value P Q (Ok x) f h k = k x h
after_if_value P Q (Err e) f h k = tt

any_if_value : {A : Type 0} (r : Resolved A) → IfValue (Anything {A = A}) r
any_if_value (Ok x) = tt
any_if_value (Err e) = tt

-- a first step that adds no words
pub past : {A B : Type 0} (Q : B → Type 0) (r : Resolved A) (f : A → Resolved B) → ((x : A) → IfValue Q (f x)) → IfValue Q (and_then r f)
past Q r f k = after_if_value Anything Q r f (any_if_value r) (λ x _. k x)

-- the numbers of the traps of one statement
abbrev numbers_in : Stmt → List ℕ
numbers_in (stmt.Set n e) = []
numbers_in (stmt.Put flow i e) = []
numbers_in (stmt.If c first second) = numbers_of first ++ numbers_of second
numbers_in (stmt.For n lo hi turn) = numbers_of turn
numbers_in (stmt.Trap n) = n ∷ []

numbers_then : (s : Stmt) (rest : StatementList) → numbers_of (then s rest) ≡ numbers_in s ++ numbers_of rest
numbers_then (stmt.Set n e) rest = refl
numbers_then (stmt.Put flow i e) rest = refl
numbers_then (stmt.If c first second) rest = refl
numbers_then (stmt.For n lo hi turn) rest = refl
numbers_then (stmt.Trap n) rest = refl

abbrev HasTrapsOfOne : Bindings → List (List ℕ) → Stmt × Bindings → Type 0
HasTrapsOfOne k ws x = HasTraps k x.1 ws (numbers_in x.0)

abbrev HasTrapsOfAll : Bindings → List (List ℕ) → StatementList × Bindings → Type 0
HasTrapsOfAll k ws x = HasTraps k x.1 ws (numbers_of x.0)

abbrev GivesTraps : Resolver → List (List ℕ) → Type 0
GivesTraps block ws = (k : Bindings) → IfValue (HasTrapsOfAll k ws) (block k)

-- the word of a trap and its number, by what looking it up returned
traps_of_trap_by : (text : List ℕ) (k : Bindings) (o : Option ℕ)
    → position (λ (v : List ℕ). bytes_eq v text) k.words ≡ o
    → HasTraps k (numbered text k o).1 (text ∷ []) ((numbered text k o).0 ∷ [])
traps_of_trap_by text k None e =
    record {
      words = sym (ap (with_word k.words text) e);
      own = λ more. ap (λ (x : Option (List ℕ)). x ∷ [])
          (ap (λ (l : List (List ℕ)). slice_get l (length k.words)) (append_assoc k.words (text ∷ []) more)
          ∙ at_end k.words more);
    }
  where
    at_end : (xs more : List (List ℕ)) → slice_get (xs ++ text ∷ more) (length xs) ≡ Some text
    at_end [] more = refl
    at_end (x ∷ xs) more = at_end xs more
traps_of_trap_by text k (Some n) e =
    let found = position-Some (λ (v : List ℕ). bytes_eq v text) k.words n [] e in
    let same : get_or k.words n [] ≡ text = (bytes_decides (get_or k.words n []) text).0 found.1 in
    let there : slice_get k.words n ≡ Some text = slice_get-get_or k.words n [] found.0 ∙ ap (λ (w : List ℕ). Some w) same in
    record {
      words = sym (ap (with_word k.words text) e);
      own = λ more. ap (λ (x : Option (List ℕ)). x ∷ []) (at_front k.words more n there);
    }
  where
    at_front : (xs more : List (List ℕ)) (n : ℕ) → slice_get xs n ≡ Some text → slice_get (xs ++ more) n ≡ Some text
    at_front [] more n h = absurd cc
    at_front (x ∷ xs) more zero h = h
    at_front (x ∷ xs) more (suc n) h = at_front xs more n h

module _ (scope : Environment) where
  traps_of_declare : (w : Word) (e : Expression) (k : Bindings) → IfValue (HasTrapsOfOne k []) (declare scope w e k)
  traps_of_declare w e k =
      past (HasTrapsOfOne k []) (require_room w k) _
      (λ _. past (HasTrapsOfOne k []) (require_fresh w k) _
      (λ _. past (HasTrapsOfOne k []) (term_of scope k.seen e) _ (λ x. no_traps k _ refl)))

  traps_of_set : (w : Word) (e : Expression) (k : Bindings) → IfValue (HasTrapsOfOne k []) (set scope w e k)
  traps_of_set w e k = past (HasTrapsOfOne k []) (slot_of w (meaning_of scope k.seen w.text)) _
      (λ n. past (HasTrapsOfOne k []) (term_of scope k.seen e) _ (λ x. no_traps k _ refl))

  traps_of_put : (w : Word) (i e : Expression) (k : Bindings) → IfValue (HasTrapsOfOne k []) (put scope w i e k)
  traps_of_put w i e k =
      past (HasTrapsOfOne k []) (written_flow scope w) _
      (λ flow. past (HasTrapsOfOne k []) (term_of scope k.seen i) _
      (λ x. past (HasTrapsOfOne k []) (term_of scope k.seen e) _ (λ y. no_traps k _ refl)))

  traps_inside : (opening : Bindings → Bindings) (block : Resolver) (ws : List (List ℕ)) → GivesTraps block ws
      → (k : Bindings) → (opening k).words ≡ k.words → IfValue (HasTrapsOfAll k ws) (in_block opening block k)
  traps_inside opening block ws h k e =
      after_if_value (HasTrapsOfAll (opening k) ws) (HasTrapsOfAll k ws) (block (opening k)) _ (h (opening k))
      (λ x t. record { words = t.words ∙ ap (λ (f : List (List ℕ)). words_in_order f ws) e; own = t.own })

  traps_of_choice : (c : Expression) (first second : Resolver) (ws vs : List (List ℕ)) → GivesTraps first ws
      → GivesTraps second vs → (k : Bindings)
      → IfValue (HasTrapsOfOne k (ws ++ vs)) (if_else scope c first second k)
  traps_of_choice c first second ws vs one two k =
      past (HasTrapsOfOne k (ws ++ vs)) (term_of scope k.seen c) _
      (λ x. after_if_value (HasTrapsOfAll k ws) (HasTrapsOfOne k (ws ++ vs)) (in_block block_opened first k) _ (traps_inside block_opened first ws one k refl)
      (λ a s. after_if_value (HasTrapsOfAll a.1 vs) (HasTrapsOfOne k (ws ++ vs)) (in_block block_opened second a.1)
      _ (traps_inside block_opened second vs two a.1 refl)
      (λ b t. traps_of_both k a.1 b.1 ws vs (numbers_of a.0) (numbers_of b.0) s t)))

  traps_of_loop : (w : Word) (lo hi : Expression) (turn : Resolver) (ws : List (List ℕ)) → GivesTraps turn ws
      → (k : Bindings) → IfValue (HasTrapsOfOne k ws) (for_loop scope w lo hi turn k)
  traps_of_loop w lo hi turn ws h k =
      past (HasTrapsOfOne k ws) (require_room w k) _
      (λ _. past (HasTrapsOfOne k ws) (term_of scope k.seen lo) _
      (λ x. past (HasTrapsOfOne k ws) (term_of scope k.seen hi) _
      (λ y. after_if_value (HasTrapsOfAll k ws) (HasTrapsOfOne k ws)
      (in_block (λ m. with_variable scope w.text true (block_opened m)) turn k) _
      (traps_inside (λ m. with_variable scope w.text true (block_opened m)) turn ws h k refl) (λ t s. s))))

  traps_of_trap : (w : Word) (k : Bindings) → IfValue (HasTrapsOfOne k (w.text ∷ [])) (trap w k)
  traps_of_trap w k = traps_of_trap_by w.text k (position (λ (v : List ℕ). bytes_eq v w.text) k.words) refl

  traps_of_follow : (k : Bindings) (ws vs : List (List ℕ)) (first : Resolved (Stmt × Bindings)) (rest : Resolver)
      → IfValue (HasTrapsOfOne k ws) first → GivesTraps rest vs
      → IfValue (HasTrapsOfAll k (ws ++ vs)) (follow first rest)
  traps_of_follow k ws vs first rest one more =
      after_if_value (HasTrapsOfOne k ws) (HasTrapsOfAll k (ws ++ vs)) first _ one
      (λ x s. after_if_value (HasTrapsOfAll x.1 vs) (HasTrapsOfAll k (ws ++ vs)) (rest x.1) _ (more x.1)
      (λ y t. subst (λ (ns : List ℕ). HasTraps k y.1 (ws ++ vs) ns) (sym (numbers_then x.0 y.0))
      (traps_of_both k x.1 y.1 ws vs (numbers_in x.0) (numbers_of y.0) s t)))

  traps_of : (t : Statements) → GivesTraps (resolved scope t) (words_of t)
  traps_of Done k = no_traps k k refl
  traps_of (DeclareThen w e rest) k = traps_of_follow k [] (words_of rest) (declare scope w e k) (resolved scope rest) (traps_of_declare w e k) (traps_of rest)
  traps_of (SetThen w e rest) k = traps_of_follow k [] (words_of rest) (set scope w e k) (resolved scope rest) (traps_of_set w e k) (traps_of rest)
  traps_of (PutThen w i e rest) k = traps_of_follow k [] (words_of rest) (put scope w i e k) (resolved scope rest) (traps_of_put w i e k) (traps_of rest)
  traps_of (IfThen c first second rest) k =
      traps_of_follow k (words_of first ++ words_of second) (words_of rest)
      (if_else scope c (resolved scope first) (resolved scope second) k) (resolved scope rest)
      (traps_of_choice c (resolved scope first) (resolved scope second) (words_of first) (words_of second) (traps_of first) (traps_of second) k) (traps_of rest)
  traps_of (ForThen w lo hi turn rest) k =
      traps_of_follow k (words_of turn) (words_of rest) (for_loop scope w lo hi (resolved scope turn) k)
      (resolved scope rest) (traps_of_loop w lo hi (resolved scope turn) (words_of turn) (traps_of turn) k)
      (traps_of rest)
  traps_of (TrapThen w rest) k = traps_of_follow k (w.text ∷ []) (words_of rest) (trap w k) (resolved scope rest) (traps_of_trap w k) (traps_of rest)

  -- ---- a whole body

  abbrev HasTrapsOfBody : Statements → Body × List (List ℕ) → Type 0
  HasTrapsOfBody t x = (looked_up x.1 (numbers_of x.0.statements) ≡ each_some (words_of t)) × (x.1 ≡ words_in_order [] (words_of t))

  traps_of_body : (t : Statements) → IfValue (HasTrapsOfBody t) (body_of scope t)
  traps_of_body t =
      after_if_value (HasTrapsOfAll no_bindings (words_of t)) (HasTrapsOfBody t) (resolved scope t no_bindings) _ (traps_of t no_bindings)
      (λ x h. (ap (λ (l : List (List ℕ)). looked_up l (numbers_of x.0)) (sym (append-nil x.1.words)) ∙ h.own [], h.words))

  of_body : (t : Statements) (x : Body × List (List ℕ)) → body_of scope t ≡ Ok x → HasTrapsOfBody t x
  of_body t x e = subst (λ (r : Resolved (Body × List (List ℕ))). IfValue (HasTrapsOfBody t) r) e (traps_of_body t)

  pub own_words : (t : Statements) (x : Body × List (List ℕ)) → body_of scope t ≡ Ok x
      → map (λ (n : ℕ). slice_get x.1 n) (numbers_of x.0.statements) ≡ map (λ (w : List ℕ). Some w) (words_of t)
  own_words t x e = (of_body t x e).0

  pub words_once : (t : Statements) (x : Body × List (List ℕ)) → body_of scope t ≡ Ok x → x.1 ≡ words_in_order [] (words_of t)
  words_once t x e = (of_body t x e).1
