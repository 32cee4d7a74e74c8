-- If all of the tokens were read as a text, a token after them is never a syntax fault: reading continues with it, or
-- ends before it.
use Rattle.std.proofs.Common.{◌≡◌, ℕ, zero, suc, ◌-◌, ◌<◌, ◌≤◌, Bool, true, false, cond, List, [], ◌∷◌, ◌++◌, length, Ok, Err, refl, ◌⊎◌, inl, inr}
use Rattle.std.proofs.Common.{sym, ap, ◌∙◌, append_assoc, arith, subst}
use Rattle.std.specs.Prelude.{Option, Some, None, not}
use Rattle.std.proofs.lemmas.Bool.{and_parts, and_from, not-true, both_ways, cases_order}
use Rattle.std.proofs.lemmas.List.{length-append, nil_from_length}
use Rattle.grammar_core.specs.declared.fault.ReadFault.{ReadFault}
use Rattle.grammar_core.specs.declared.token.Token.{Token}
use Rattle.grammar_core.specs.Terminals.{Terminal, terminal_of}
use Rattle.grammar_core.specs.declared.code.Code.{Code}
use Rattle.grammar_core.specs.declared.code.Code.TheVariants.{Syntax}
use Rattle.grammar_core.specs.Production.{Production, one_of, checked, seq, map, alt, opt, star, pick, after_token, limited, Language, Derives, Derived}
use Rattle.grammar_core.specs.Reading.{◌>>=◌, Read, refuse, check, may_be_empty, first, starts, picks, token_at, many_at, nonterminal_at, reading}
use Rattle.grammar_core.specs.Reading.{fault_from_end}
use Rattle.grammar_core.specs.Predictive.{Claims, alone, both_first, is_limit, are_limits, is_fine, are_names}
use Rattle.grammar_core.proofs.ReadCases.{bind_ok, bind_err, token_ok, refuse_ok, refuse_err, check_err, judge_ok, judge_err}
use Rattle.grammar_core.proofs.Begins.{seconds}
use Rattle.grammar_core.proofs.Fuel.{nonterminal_is, nonterminal_shrinks, run_shrinks, many_is}
use Rattle.grammar_core.proofs.Passes.{FaultsWithin, Passes, passes, safe_true}
use Rattle.grammar_core.proofs.Sound.{SameHead, Sound}
use Rattle.grammar_core.proofs.Whole.{LimitsOnly, name_fine, nonterminal_faults, sound, within_begins}
use Rattle.list_lemmas.proofs.Truth.{chosen}
use Rattle.list_lemmas.proofs.Options.{same_Ok, Ok≢Err}
use Rattle.list_lemmas.proofs.Joins.{longer_front}

not_syntax : (d : Code) → is_limit d ≡ true → d ≡ Syntax → ⊥
not_syntax d h e = both_ways (is_limit d) (rw e refl) h

-- the code of a limit is not Syntax
no_limit : (d : Code) → is_limit d ≡ true → (a b : ReadFault) → a ≡ b → a.code ≡ Syntax → b.code ≡ d → ⊥
no_limit d h a b e f g = not_syntax d h (sym g ∙ (sym (ap (λ (x : ReadFault). x.code) e) ∙ f))

some_starts : (q : Terminal → Bool) (w : List Token) → starts q w ≡ true → 0 < length w
some_starts q [] e = absurd cc
some_starts q (x ∷ w) e = omega arith

starts_front : (q : Terminal → Bool) (w r : List Token) → 0 < length w → starts q (w ++ r) ≡ starts q w
starts_front q [] r lt = absurd (omega arith)
starts_front q (x ∷ w) r lt = refl

token_front : (q : Terminal → Bool) (w r : List Token) (x : Token × List Token) → token_at q w ≡ Ok x → token_at q (w ++ r) ≡ Ok (x.0, x.1 ++ r)
token_front q w r x e = let t = token_ok q w x e in rw (t.0, t.1) refl

-- a list is empty or not
cases_nil : (w : List Token) → (w ≡ []) ⊎ (0 < length w)
cases_nil [] = inl refl
cases_nil (x ∷ w) = inr (omega arith)

-- ---- sequences

module _ {A B : Type 0} (G : Language A) (q : List Token → Read A) (known : (s : List Token) → Sound G q s)
    (K : List Token → Read B) (later : FaultsWithin K) where
  then_goes_on : (w r : List Token) (a : A × List Token) → q w ≡ Ok a
      → (K (a.1 ++ r) ≡ Err (fault_from_end (length r) Syntax) → ⊥)
      → (a.1 ≡ [] → q (w ++ r) ≡ Err (fault_from_end (length r) Syntax) → ⊥)
      → (q (w ++ r) ≡ Err (fault_from_end (length r) Syntax))
      ⊎ ((x : A × List Token) × (q (w ++ r) ≡ Ok x) × (K x.1 ≡ Err (fault_from_end (length r) Syntax))) → ⊥
  then_goes_on w r a e live alive h = go a.1 refl
    where
      go : (m : List Token) → a.1 ≡ m → ⊥
      go (y ∷ m) is =
          let t = (known w).accepted a e in
          let same : SameHead a.1 (a.1 ++ r) = subst (λ (l : List Token). SameHead l (l ++ r)) (sym is) refl in
          let all : t.word ++ (a.1 ++ r) ≡ w ++ r = sym (append_assoc t.word a.1 r) ∙ ap (λ (l : List Token). l ++ r) (sym t.parts) in
          let goes : q (w ++ r) ≡ Ok (a.0, a.1 ++ r) = ap q (sym all) ∙ t.same (a.1 ++ r) same in
          elim h [
            | inl u ↦ Ok≢Err (a.0, a.1 ++ r) (fault_from_end (length r) Syntax) (sym goes ∙ u)
            | inr u ↦ let x = same_Ok (a.0, a.1 ++ r) u.0 (sym goes ∙ u.1) in live (ap (λ (z : A × List Token). K z.1) x ∙ u.2)
          ]
      go [] is = elim h [ inl u ↦ alive is u | inr u ↦ by_length u.0 u.1 u.2 (cases_order (length u.0.1) (length r)) ]
        where
          by_length : (x : A × List Token) → q (w ++ r) ≡ Ok x → K x.1 ≡ Err (fault_from_end (length r) Syntax)
              → (length x.1 ≡ length r) ⊎ ((length x.1 < length r) ⊎ (length r < length x.1)) → ⊥
          by_length x f g (inr (inl lt)) = let z = later x.1 (fault_from_end (length r) Syntax) g in omega (arith, z, lt)
          by_length x f g (inl same) =
              let t = (known (w ++ r)).accepted x f in
              let n = ap (λ (l : List Token). length l) t.parts in
              let v = longer_front w r t.word x.1 t.parts (omega (arith, n, same, length-append w r, length-append t.word x.1)) in
              let none : v.0 ≡ [] = nil_from_length v.0 (omega (arith, ap (λ (l : List Token). length l) v.2, length-append v.0 x.1, same)) in
              let rest : r ≡ x.1 = v.2 ∙ ap (λ (l : List Token). l ++ x.1) none in
              live (ap (λ (l : List Token). K (l ++ r)) is ∙ ap K rest ∙ g)
          by_length x f g (inr (inr lt)) =
              let t = (known (w ++ r)).accepted x f in
              let n = ap (λ (l : List Token). length l) t.parts in
              let v = longer_front t.word x.1 w r (sym t.parts) (omega (arith, n, lt, length-append w r, length-append t.word x.1)) in
              let some : 0 < length v.0 = omega (arith, ap (λ (l : List Token). length l) v.2, length-append v.0 r, lt) in
              let goes : q w ≡ Ok (x.0, v.0) = ap q v.1 ∙ t.same v.0 (subst (λ (l : List Token). SameHead l v.0) (sym v.2) (heads v.0 some)) in
              let one = same_Ok (x.0, v.0) a (sym goes ∙ e) in
              let none = ap (λ (z : A × List Token). length z.1) one in
              omega (arith, none, some, ap (λ (l : List Token). length l) is)
            where
              heads : (v : List Token) → 0 < length v → SameHead (v ++ r) v
              heads [] lt = absurd (omega arith)
              heads (y ∷ v) lt = refl

module _ {N : Type 0} {Tree : N → Type 0} (body : (n : N) → Production N Tree (Tree n)) (c : Claims N)
    (fine : (n : N) → are_names body c n ≡ true) (names_only : (n : N) → LimitsOnly (body n)) where
  form_faults : {A : Type 0} (g : Production N Tree A) → is_fine c g ≡ true → FaultsWithin (reading body g)
  form_faults g ok s n e =
      let k = (sound body c fine g ok s).faulted n e in
      let left = k.left in
      omega (arith, left, ap (λ (l : List Token). length l) k.parts, length-append k.word k.rest)

  -- if the next token is in the first set, it is no syntax fault
  goes_past : {A : Type 0} (g : Production N Tree A) → is_fine c g ≡ true → (s : List Token) → starts (first g) s ≡ true → Passes true (reading body g) s
  goes_past g ok s b = passes c (nonterminal_at body) (nonterminal_shrinks body) (nonterminal_faults body c fine)
      true (λ _. false) g ok (safe_true (λ _. false) g) s (λ e. absurd cc) b

  no_fault_at : {A : Type 0} (g : Production N Tree A) → is_fine c g ≡ true → (s : List Token)
      → starts (first g) s ≡ true → reading body g s ≡ Err (fault_from_end (length s) Syntax) → ⊥
  no_fault_at g ok s b e = let k = (goes_past g ok s b).0 (fault_from_end (length s) Syntax) e (λ _. refl) in omega (arith, k)

  -- a single token that is in both first sets is no whole text
  not_alone : (a : Terminal → Bool) (y : Token) → a (terminal_of y) ≡ true → {A : Type 0} (g : Production N Tree A)
      → is_fine c g ≡ true → may_be_empty g ≡ false → alone a g ≡ false → (x : A × List Token)
      → reading body g (y ∷ []) ≡ Ok x → x.1 ≡ [] → ⊥
  not_alone a y at g ok full single x e none =
      let t = (sound body c fine g ok (y ∷ [])).accepted x e in
      let all : t.word ++ [] ≡ y ∷ [] = ap (λ (l : List Token). t.word ++ l) (sym none) ∙ sym t.parts in
      elim (seconds c (Derived body) (λ n s t o r d. within_begins body c fine d.depth n s t o r d.derives) a y []
      at g ok (t.word ++ []) x.0 None [] all (t.derives [])) [
        | inl u ↦ absurd cc
        | inr (inl u) ↦ both_ways (alone a g) single u.1
        | inr (inr u) ↦ both_ways (may_be_empty g) full u.1
      ]

  -- which of two productions a whole text is read as does not depend on what follows it
  same_pick : {A : Type 0} (q : Terminal → Bool) (g h : Production N Tree A) → is_fine c (pick q g h) ≡ true
      → (w r : List Token) (x : A × List Token) → reading body (pick q g h) w ≡ Ok x → x.1 ≡ []
      → picks (first g) (first h) q (w ++ r) ≡ picks (first g) (first h) q w
  same_pick q g h ok [] r x e none =
      let f2 = and_parts (is_fine c h) _ (and_parts (is_fine c g) _ ok).1 in
      let f3 = and_parts (not (may_be_empty g)) _ f2.1 in
      let f4 = and_parts (not (may_be_empty h)) _ f3.1 in
      let less = (run_shrinks (nonterminal_at body) (nonterminal_shrinks body) h [] x e).1 (not-true (may_be_empty h) f4.0) in
      absurd (omega (arith, less))
  same_pick q g h ok (y ∷ z ∷ w) r x e none = refl
  same_pick {A} q g h ok (y ∷ []) r x e none = go (first h (terminal_of y)) refl (first g (terminal_of y)) refl
    where
      go : (b : Bool) → first h (terminal_of y) ≡ b → (a : Bool) → first g (terminal_of y) ≡ a
          → picks (first g) (first h) q ((y ∷ []) ++ r) ≡ picks (first g) (first h) q (y ∷ [])
      go false eb a ea = rw (eb, ea) refl
      go true eb false ea = rw (eb, ea) refl
      go true eb true ea =
          let f1 = and_parts (is_fine c g) _ ok in
          let f2 = and_parts (is_fine c h) _ f1.1 in
          let f3 = and_parts (not (may_be_empty g)) _ f2.1 in
          let f4 = and_parts (not (may_be_empty h)) _ f3.1 in
          let f5 = and_parts (not (alone (both_first g h) g)) _ f4.1 in
          let f6 = and_parts (not (alone (both_first g h) h)) _ f5.1 in
          let both : both_first g h (terminal_of y) ≡ true = and_from (first g (terminal_of y)) (first h (terminal_of y)) ea eb in
          absurd (elim (chosen (picks (first g) (first h) q (y ∷ [])) (reading body g (y ∷ [])) (reading body h (y ∷ [])) (Ok x) e) [
            | inl u ↦ not_alone (both_first g h) y both g f1.0 (not-true (may_be_empty g) f3.0) (not-true (alone (both_first g h) g) f5.0) x u.1 none
            | inr u ↦ not_alone (both_first g h) y both h f2.0 (not-true (may_be_empty h) f4.0) (not-true (alone (both_first g h) h) f6.0) x u.1 none
          ])

  -- No whole text of at most k tokens has a syntax fault right after it.
  abbrev GoesOn : {A : Type 0} → ℕ → (List Token → Read A) → Type 0
  GoesOn {A} k q = (w r : List Token) (x : A × List Token) → length w ≤ k → q w ≡ Ok x → x.1 ≡ [] → q (w ++ r) ≡ Err (fault_from_end (length r) Syntax) → ⊥

  -- ---- lists

  module _ {A : Type 0} (full : ℕ → Option Code) (g : Production N Tree A) (ok : is_fine c g ≡ true) (never : may_be_empty g ≡ false) where
    -- the elements from index i on
    abbrev many : ℕ → List Token → Read (List A)
    many i s = many_at full (first g) (reading body g) i (length s) s

    abbrev and_more : ℕ → A × List Token → Read (List A)
    and_more i a = many (suc i) a.1 >>= λ more. Ok (a.0 ∷ more.0, more.1)

    many_step : (i : ℕ) (s : List Token) → many i s ≡ cond (starts (first g) s) (refuse (full i) s (reading body g s >>= and_more i)) (Ok ([], s))
    many_step i s = many_is full (first g) (reading body g) (λ s' x e. (run_shrinks (nonterminal_at body) (nonterminal_shrinks body) g s' x e).1 never) i s

    many_faults : (j i : ℕ) (s : List Token) (n : ReadFault) → length s < j → many i s ≡ Err n → n.left ≤ length s
    many_faults zero i s n lt e = absurd (omega arith)
    many_faults (suc j) i s n lt e =
        elim (chosen (starts (first g) s) (refuse (full i) s (reading body g s >>= and_more i)) (Ok ([], s)) (Err n) (sym (many_step i s) ∙ e)) [
          | inr u ↦ absurd (Ok≢Err ([], s) n u.1)
          | inl u ↦ elim (refuse_err (full i) s (reading body g s >>= and_more i) n u.1) [
            | inl v ↦ let x = ap (λ (y : ReadFault). y.left) v.2 in omega (arith, x)
            | inr v ↦ elim (bind_err (reading body g s) (and_more i) n v.1) [
              | inl y ↦ form_faults g ok s n y
              | inr a ↦ elim (bind_err (many (suc i) a.0.1) (λ more. Ok (a.0.0 ∷ more.0, more.1)) n a.2) [
                | inr y ↦ absurd (Ok≢Err _ n y.2)
                | inl y ↦
                    let less = (run_shrinks (nonterminal_at body) (nonterminal_shrinks body) g s a.0 a.1).1 never in
                    let k = many_faults j (suc i) a.0.1 n (omega (arith, less, lt)) y in
                    omega (arith, k, less)
              ]
            ]
          ]
        ]

    module _ (limits : (i : ℕ) → are_limits (full i) ≡ true) (k : ℕ) (one : GoesOn k (reading body g)) where
      -- an empty list was read, and an element may begin
      from_nothing : (i : ℕ) (r : List Token) → many i r ≡ Err (fault_from_end (length r) Syntax) → ⊥
      from_nothing i r f =
          elim (chosen (starts (first g) r) (refuse (full i) r (reading body g r >>= and_more i)) (Ok ([], r))
          (Err (fault_from_end (length r) Syntax)) (sym (many_step i r) ∙ f)) [
            | inr u ↦ Ok≢Err ([], r) (fault_from_end (length r) Syntax) u.1
            | inl u ↦ elim (refuse_err (full i) r (reading body g r >>= and_more i) (fault_from_end (length r) Syntax) u.1) [
              | inl v ↦ no_limit v.0 (ap are_limits (sym v.1) ∙ limits i) (fault_from_end (length r) Syntax) (fault_from_end (length r) v.0) v.2 refl refl
              | inr v ↦ elim (bind_err (reading body g r) (and_more i) (fault_from_end (length r) Syntax) v.1) [
                | inl y ↦ no_fault_at g ok r u.0 y
                | inr a ↦ elim (bind_err (many (suc i) a.0.1) (λ more. Ok (a.0.0 ∷ more.0, more.1)) (fault_from_end (length r) Syntax) a.2) [
                  | inr y ↦ Ok≢Err _ (fault_from_end (length r) Syntax) y.2
                  | inl y ↦
                      let less = (run_shrinks (nonterminal_at body) (nonterminal_shrinks body) g r a.0 a.1).1 never in
                      let m = many_faults (suc (length a.0.1)) (suc i) a.0.1 (fault_from_end (length r) Syntax) (omega arith) y in
                      omega (arith, m, less)
                ]
              ]
            ]
          ]

      many_goes_on : (j i : ℕ) (w r : List Token) (x : List A × List Token) → length w < j → length w ≤ k
          → many i w ≡ Ok x → x.1 ≡ [] → many i (w ++ r) ≡ Err (fault_from_end (length r) Syntax) → ⊥
      many_goes_on zero i w r x lt le e none f = omega (arith, lt)
      many_goes_on (suc j) i w r x lt le e none f =
          elim (chosen (starts (first g) w) (refuse (full i) w (reading body g w >>= and_more i)) (Ok ([], w)) (Ok x) (sym (many_step i w) ∙ e)) [
            | inr u ↦
                let empty : w ≡ [] = ap (λ (z : List A × List Token). z.1) (same_Ok ([], w) x u.1) ∙ none in
                from_nothing i r (ap (λ (z : List Token). many i (z ++ r)) (sym empty) ∙ f)
            | inl u ↦
                let room = refuse_ok (full i) w (reading body g w >>= and_more i) x u.1 in
                let a = bind_ok (reading body g w) (and_more i) x room.1 in
                let b = bind_ok (many (suc i) a.0.1) (λ more. Ok (a.0.0 ∷ more.0, more.1)) x a.2 in
                let empty : b.0.1 ≡ [] = ap (λ (z : List A × List Token). z.1) (same_Ok (a.0.0 ∷ b.0.0, b.0.1) x b.2) ∙ none in
                let less = (run_shrinks (nonterminal_at body) (nonterminal_shrinks body) g w a.0 a.1).1 never in
                let comes : starts (first g) (w ++ r) ≡ true = starts_front (first g) w r (some_starts (first g) w u.0) ∙ u.0 in
                let goes : (reading body g (w ++ r) >>= and_more i) ≡ Err (fault_from_end (length r) Syntax) =
                sym (many_step i (w ++ r) ∙ rw (comes, room.0) refl) ∙ f in
                then_goes_on (Derives (Derived body) g) (reading body g) (sound body c fine g ok) (many (suc i))
                (λ s n y. many_faults (suc (length s)) (suc i) s n (omega arith) y) w r a.0 a.1
                (λ y. many_goes_on j (suc i) a.0.1 r b.0 (omega (arith, less, lt)) (omega (arith, less, le)) b.1 empty y)
                (λ z y. one w r a.0 le a.1 z y)
                (elim (bind_err (reading body g (w ++ r)) (and_more i) (fault_from_end (length r) Syntax) goes) [
                  | inl v ↦ inl v
                  | inr v ↦ elim (bind_err (many (suc i) v.0.1) (λ more. Ok (v.0.0 ∷ more.0, more.1))
                      (fault_from_end (length r) Syntax) v.2) [
                        | inl y ↦ inr (v.0, v.1, y)
                        | inr y ↦
                            absurd (Ok≢Err _ (fault_from_end (length r) Syntax) y.2)
                      ]
                ])
          ]

  module _ (k : ℕ) (names : (n : N) (w r : List Token) (x : Tree n × List Token) → length w < k
      → nonterminal_at body n w ≡ Ok x → x.1 ≡ []
      → nonterminal_at body n (w ++ r) ≡ Err (fault_from_end (length r) Syntax) → ⊥) where
    run_goes_on : {A : Type 0} (g : Production N Tree A) → is_fine c g ≡ true → LimitsOnly g → GoesOn k (reading body g)
    run_goes_on (one_of q) ok l w r x le e none f = Ok≢Err (x.0, x.1 ++ r) (fault_from_end (length r) Syntax) (sym (token_front q w r x e) ∙ f)
    run_goes_on (checked q good d) ok l w r x le e none f =
        let a = bind_ok (token_at q w) (check good d w) x e in
        elim (bind_err (token_at q (w ++ r)) (check good d (w ++ r)) (fault_from_end (length r) Syntax) f) [
          | inl u ↦ Ok≢Err (a.0.0, a.0.1 ++ r) (fault_from_end (length r) Syntax) (sym (token_front q w r a.0 a.1) ∙ u)
          | inr b ↦ no_limit d l (fault_from_end (length r) Syntax) (fault_from_end (length (w ++ r)) d)
              (check_err good d (w ++ r) b.0 (fault_from_end (length r) Syntax) b.2).1 refl refl
        ]
    run_goes_on (map h g) ok l w r x le e none f =
        let a = bind_ok (reading body g w) (λ a. Ok (h a.0, a.1)) x e in
        let empty : a.0.1 ≡ [] = ap (λ (z : _ × List Token). z.1) (same_Ok (h a.0.0, a.0.1) x a.2) ∙ none in
        elim (bind_err (reading body g (w ++ r)) (λ a. Ok (h a.0, a.1)) (fault_from_end (length r) Syntax) f) [
          | inl u ↦ run_goes_on g ok l w r a.0 le a.1 empty u
          | inr u ↦
              Ok≢Err _ (fault_from_end (length r) Syntax) u.2
        ]
    run_goes_on (limited d b g) ok l w r x le e none f =
        let a = (judge_ok (d.at w) b w (reading body g w) x e).0 in
        elim (judge_err (d.at (w ++ r)) b (w ++ r) (reading body g (w ++ r)) (fault_from_end (length r) Syntax) f) [
          | inl u ↦ no_limit b l.1 (fault_from_end (length r) Syntax) (fault_from_end (length (w ++ r) - d.at (w ++ r)) b) u.3 refl refl
          | inr (inl u) ↦ no_limit b l.1 (fault_from_end (length r) Syntax) (fault_from_end (length (w ++ r) - d.at (w ++ r)) b) u.3 refl refl
          | inr (inr u) ↦ run_goes_on g ok l.0 w r x le a none u.0
        ]
    run_goes_on (seq {A = A1} {B = B1} g h) ok l w r x le e none f =
        let f1 = and_parts (is_fine c g) _ ok in
        let f2 = and_parts (is_fine c h) _ f1.1 in
        let R : A1 × List Token → Read (A1 × B1) = λ a. reading body h a.1 >>= λ b. Ok ((a.0, b.0), b.1) in
        let a = bind_ok (reading body g w) R x e in
        let b = bind_ok (reading body h a.0.1) (λ b. Ok ((a.0.0, b.0), b.1)) x a.2 in
        let empty : b.0.1 ≡ [] = ap (λ (z : (A1 × B1) × List Token). z.1) (same_Ok ((a.0.0, b.0.0), b.0.1) x b.2) ∙ none in
        let small = (run_shrinks (nonterminal_at body) (nonterminal_shrinks body) g w a.0 a.1).0 in
        then_goes_on (Derives (Derived body) g) (reading body g) (sound body c fine g f1.0) (reading body h) (form_faults h f2.0) w r a.0 a.1
        (λ y. run_goes_on h f2.0 l.1 a.0.1 r b.0 (omega (arith, small, le)) b.1 empty y)
        (λ z y. run_goes_on g f1.0 l.0 w r a.0 le a.1 z y)
        (elim (bind_err (reading body g (w ++ r)) R (fault_from_end (length r) Syntax) f) [
          | inl u ↦ inl u
          | inr u ↦ elim (bind_err (reading body h u.0.1) (λ b. Ok ((u.0.0, b.0), b.1))
              (fault_from_end (length r) Syntax) u.2)
              [ inl v ↦ inr (u.0, u.1, v) | inr v ↦ absurd (Ok≢Err _ (fault_from_end (length r) Syntax) v.2) ]
        ])
    run_goes_on (alt g h) ok l w r x le e none f =
        let f1 = and_parts (is_fine c g) _ ok in
        let f2 = and_parts (is_fine c h) _ f1.1 in
        elim (chosen (starts (first g) w) (reading body g w) (reading body h w) (Ok x) e) [
          | inl u ↦ run_goes_on g f1.0 l.0 w r x le u.1 none (sym (rw (starts_front (first g) w r (some_starts (first g) w u.0) ∙ u.0) refl) ∙ f)
          | inr u ↦ elim (chosen (starts (first g) (w ++ r)) (reading body g (w ++ r)) (reading body h (w ++ r)) (Err (fault_from_end (length r) Syntax)) f) [
            | inr v ↦ run_goes_on h f2.0 l.1 w r x le u.1 none v.1
            | inl v ↦ elim (cases_nil w) [
              | inr some ↦ both_ways (starts (first g) w) u.0 (sym (starts_front (first g) w r some) ∙ v.0)
              | inl empty ↦ no_fault_at g f1.0 r
                  (ap (λ (z : List Token). starts (first g) (z ++ r)) (sym empty) ∙ v.0)
                  (ap (λ (z : List Token). reading body g (z ++ r)) (sym empty) ∙ v.1)
            ]
          ]
        ]
    run_goes_on (pick q g h) ok l w r x le e none f =
        let f1 = and_parts (is_fine c g) _ ok in
        let f2 = and_parts (is_fine c h) _ f1.1 in
        let same = same_pick q g h ok w r x e none in
        elim (chosen (picks (first g) (first h) q w) (reading body g w) (reading body h w) (Ok x) e) [
          | inl u ↦ run_goes_on g f1.0 l.0 w r x le u.1 none (sym (rw (same ∙ u.0) refl) ∙ f)
          | inr u ↦ run_goes_on h f2.0 l.1 w r x le u.1 none (sym (rw (same ∙ u.0) refl) ∙ f)
        ]
    run_goes_on (opt g) ok l w r x le e none f =
        let f1 = and_parts (is_fine c g) _ ok in
        elim (chosen (starts (first g) (w ++ r)) (reading body g (w ++ r) >>= λ a. Ok (Some a.0, a.1))
        (Ok (None, w ++ r)) (Err (fault_from_end (length r) Syntax)) f) [
          | inr v ↦ Ok≢Err (None, w ++ r) (fault_from_end (length r) Syntax) v.1
          | inl v ↦ elim (bind_err (reading body g (w ++ r)) (λ a. Ok (Some a.0, a.1)) (fault_from_end (length r) Syntax) v.1) [
            | inr y ↦ Ok≢Err _ (fault_from_end (length r) Syntax) y.2
            | inl y ↦ elim (chosen (starts (first g) w) (reading body g w >>= λ a. Ok (Some a.0, a.1)) (Ok (None, w)) (Ok x) e) [
              | inl u ↦
                  let a = bind_ok (reading body g w) (λ a. Ok (Some a.0, a.1)) x u.1 in
                  let empty : a.0.1 ≡ [] = ap (λ (z : _ × List Token). z.1) (same_Ok (Some a.0.0, a.0.1) x a.2) ∙ none in
                  run_goes_on g f1.0 l w r a.0 le a.1 empty y
              | inr u ↦
                  let empty : w ≡ [] = ap (λ (z : _ × List Token). z.1) (same_Ok (None, w) x u.1) ∙ none in
                  no_fault_at g f1.0 r (ap (λ (z : List Token). starts (first g) (z ++ r)) (sym empty) ∙ v.0)
                  (ap (λ (z : List Token). reading body g (z ++ r)) (sym empty) ∙ y)
            ]
          ]
        ]
    run_goes_on (star full g) ok l w r x le e none f =
        let f1 = and_parts (is_fine c g) _ ok in
        let never = not-true (may_be_empty g) (and_parts (not (may_be_empty g)) _ f1.1).0 in
        many_goes_on full g f1.0 never l.1 k (run_goes_on g f1.0 l.0) (suc (length w)) 0 w r x (omega arith) le e none f
    run_goes_on (after_token q n) ok l w r x le e none f =
        let a = bind_ok (token_at q w) (λ t. nonterminal_at body n t.1 >>= λ b. Ok ((t.0, b.0), b.1)) x e in
        let b = bind_ok (nonterminal_at body n a.0.1) (λ b. Ok ((a.0.0, b.0), b.1)) x a.2 in
        let empty : b.0.1 ≡ [] = ap (λ (z : _ × List Token). z.1) (same_Ok ((a.0.0, b.0.0), b.0.1) x b.2) ∙ none in
        let small = ap (λ (l : List Token). length l) (token_ok q w a.0 a.1).0 in
        let R : Tree n × List Token → Read (Token × Tree n) = λ b. Ok ((a.0.0, b.0), b.1) in
        let goes : (nonterminal_at body n (a.0.1 ++ r) >>= R) ≡ Err (fault_from_end (length r) Syntax) = sym (rw (token_front q w r a.0 a.1) refl) ∙ f in
        elim (bind_err (nonterminal_at body n (a.0.1 ++ r)) R (fault_from_end (length r) Syntax) goes) [
          | inl u ↦ names n a.0.1 r b.0 (omega (arith, small, le)) b.1 empty u
          | inr u ↦
              Ok≢Err _ (fault_from_end (length r) Syntax) u.2
        ]

  name_goes_on : (k : ℕ) (n : N) (w r : List Token) (x : Tree n × List Token) → length w < k
      → nonterminal_at body n w ≡ Ok x → x.1 ≡ []
      → nonterminal_at body n (w ++ r) ≡ Err (fault_from_end (length r) Syntax) → ⊥
  name_goes_on zero n w r x lt e none f = omega (arith, lt)
  name_goes_on (suc k) n w r x lt e none f =
      run_goes_on k (name_goes_on k) (body n) (name_fine body c fine n) (names_only n) w r x (omega (arith, lt))
      (sym (nonterminal_is body n w) ∙ e) none (sym (nonterminal_is body n (w ++ r)) ∙ f)

  -- If all of w was read, reading more tokens never has a syntax fault right after w.
  pub no_syntax_fault_after : {A : Type 0} (g : Production N Tree A) → is_fine c g ≡ true → LimitsOnly g
      → (w r : List Token) (x : A × List Token) → reading body g w ≡ Ok x → x.1 ≡ []
      → reading body g (w ++ r) ≡ Err (fault_from_end (length r) Syntax) → ⊥
  no_syntax_fault_after g ok l w r x e none f = run_goes_on (length w) (name_goes_on (length w)) g ok l w r x (omega arith) e none f
