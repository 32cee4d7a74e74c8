-- A list is read soundly.
use Rattle.std.proofs.Common.{◌≡◌, ℕ, zero, suc, ◌<◌, ◌≤◌, Bool, true, false, List, [], ◌∷◌, ◌++◌, length, Ok, Err, refl, inl, inr, sym, ap, ◌∙◌}
use Rattle.std.proofs.Common.{append_assoc, length-append, arith, subst}
use Rattle.std.specs.Prelude.{Option, Some, None}
use Rattle.std.specs.Option.{option_or}
use Rattle.grammar_core.specs.declared.fault.ReadFault.{ReadFault}
use Rattle.grammar_core.specs.Terminals.{Terminal}
use Rattle.grammar_core.specs.declared.token.Token.{Token}
use Rattle.grammar_core.specs.declared.code.Code.{Code}
use Rattle.grammar_core.specs.declared.code.Code.TheVariants.{Syntax}
use Rattle.grammar_core.specs.Production.{Language, Fault, then_fault, at_start, taken, Many}
use Rattle.grammar_core.specs.Reading.{◌>>=◌, Read, refuse, starts, many_at, fault_from_end}
use Rattle.grammar_core.proofs.ReadCases.{bind_ok, bind_err, refuse_ok, refuse_err}
use Rattle.grammar_core.proofs.Fuel.{Consumes, many_is}
use Rattle.grammar_core.proofs.Passes.{Passes}
use Rattle.grammar_core.proofs.Sound.{Accepted, Faulted, Late, SameHead, Sound, code_is, late_after, late_here, late_then, left_is, same_head_after}
use Rattle.grammar_core.proofs.Sound.{starts_same, taken_is}
use Rattle.grammar_core.proofs.SoundChoices.{starts_along}
use Rattle.list_lemmas.proofs.Truth.{chosen}
use Rattle.list_lemmas.proofs.Options.{same_Ok, Ok≢Err}

-- a text that begins with this token
record Led {A : Type 0} (G : Language A) (x : Token) : Type 0 where
  more : List Token
  tree : A
  fault : List Token → Fault
  derives : (z : List Token) → G (x ∷ (more ++ z)) tree (fault z) z

led : {A : Type 0} (G : Language A) (p : List Token → Read A) (x : Token) (m : List Token) → Consumes p → Passes true p (x ∷ m) → Sound G p (x ∷ m) → Led G x
led {A} G p x m consumes pass sound = go (p (x ∷ m)) refl
  where
    from_accepted : (a : A × List Token) → length a.1 < suc (length m) → Accepted G p (x ∷ m) a → Led G x
    from_accepted a lt t = by_word t.word t.parts t.derives
      where
        by_word : (w : List Token) → x ∷ m ≡ w ++ a.1 → ((z : List Token) → G (w ++ z) a.0 None z) → Led G x
        by_word [] e g = let k = ap (λ (l : List Token). length l) e in absurd (omega (arith, k, lt))
        by_word (y ∷ w) e g = let same : y ≡ x = cc in
            record {
              more = w;
              tree = a.0;
              fault = λ z. None;
              derives =
                  λ z. subst (λ (u : Token). G (u ∷ (w ++ z)) a.0 None z) same (g z);
            }

    from_faulted : (n : ReadFault) → p (x ∷ m) ≡ Err n → Faulted G p (x ∷ m) n → Led G x
    from_faulted n e t = by_word t.word t.parts t.derives
      where
        at_once : (c : Code) → n.code ≡ c → x ∷ m ≡ t.rest → ((z : List Token) → G (t.more ++ z) t.tree (t.fault z) z) → Led G x
        at_once Syntax is e' g = let lt = pass.0 n e (λ _. is) in let k = ap (λ (l : List Token). length l) e' in absurd (omega (arith, lt, k, t.left))
        at_once c is e' g =
            let ext = t.extends (λ h. absurd (differs (sym is ∙ h))) in
            let same : ext.head ≡ x = head_is (sym ext.rest_is ∙ sym e') in
            record {
              more = ext.more_tail;
              tree = t.tree;
              fault = t.fault;
              derives =
                  λ z. subst (λ (u : Token). G (u ∷ (ext.more_tail ++ z)) t.tree (t.fault z) z) same
                  (subst (λ (l : List Token). G (l ++ z) t.tree (t.fault z) z) ext.more_is (g z));
            }
          where
            differs : c ≡ Syntax → ⊥
            differs h = cc

            head_is : {a b : Token} {k l : List Token} → a ∷ k ≡ b ∷ l → a ≡ b
            head_is h = cc

        by_word : (w : List Token) → x ∷ m ≡ w ++ t.rest → ((z : List Token) → G (w ++ (t.more ++ z)) t.tree (t.fault z) z) → Led G x
        by_word [] e' g = at_once n.code refl e' g
        by_word (y ∷ w) e' g =
            let same : y ≡ x = cc in
            record {
              more = w ++ t.more;
              tree = t.tree;
              fault = t.fault;
              derives =
                  λ z. rw append_assoc (subst (λ (u : Token). G (u ∷ (w ++ (t.more ++ z))) t.tree (t.fault z) z) same
                  (g z));
            }

    go : (r : Read A) → p (x ∷ m) ≡ r → Led G x
    go (Ok a) e = from_accepted a (consumes (x ∷ m) a e) (sound.accepted a e)
    go (Err n) e = from_faulted n e (sound.faulted n e)

module _ {A : Type 0} (full : ℕ → Option Code) (G : Language A) (p : List Token → Read A) (f : Terminal → Bool)
    (consumes : Consumes p) (sound : (s : List Token) → Sound G p s)
    (pass : (s : List Token) → starts f s ≡ true → Passes true p s) where
  abbrev pub many : ℕ → List Token → Read (List A)
  many i l = many_at full f p i (length l) l

  abbrev pub rest_of : ℕ → A × List Token → Read (List A)
  rest_of i a = many (suc i) a.1 >>= λ more. Ok (a.0 ∷ more.0, more.1)

  -- one more element, which is not too many
  many_derive : (i : ℕ) (w m z : List Token) (n : ℕ) (a : A) (b : List A) (x y : Fault) → full i ≡ None
      → length w ≡ n → G (w ++ m) a x m → Many full G (suc i) m b y z
      → Many full G i (w ++ m) (a ∷ b) (then_fault x n y) z
  many_derive i w m z n a b x y none e g h = (
    m,
    x,
    y,
    g,
    h,
    ap (λ (k : ℕ). then_fault x k y) (sym (taken_is w m ∙ e))
        ∙ ap (λ (d : Option Code). then_fault (option_or (at_start d) x) (taken (w ++ m) m) y) (sym none),
  )

  many_accepted : (i : ℕ) (s : List Token) (a : A × List Token) (b : List A × List Token) → starts f s ≡ true
      → full i ≡ None → Accepted G p s a → Accepted (Many full G (suc i)) (many (suc i)) a.1 b
      → Accepted (Many full G i) (many i) s (a.0 ∷ b.0, b.1)
  many_accepted i s a b t none g h =
      record {
        word = g.word ++ h.word;
        parts = g.parts ∙ ap (λ (l : List Token). g.word ++ l) h.parts ∙ sym (append_assoc g.word h.word b.1);
        derives = λ z. rw append_assoc (many_derive i g.word (h.word ++ z) z (length g.word) a.0 b.0 None None none
            refl (g.derives (h.word ++ z)) (h.derives z));
        same = λ r same.
            let ahead : SameHead a.1 (h.word ++ r) = rw h.parts (same_head_after h.word b.1 r same) in
            let go : starts f (g.word ++ (h.word ++ r)) ≡ true = starts_along f s g.word a.1 (h.word ++ r) true g.parts ahead t in
            rw append_assoc (many_is full f p consumes i (g.word ++ (h.word ++ r)) ∙ rw (go, none, g.same (h.word ++ r) ahead, h.same r same) refl);
      }

  many_faulted : (i : ℕ) (s : List Token) (n : ReadFault) (a : A × List Token) → starts f s ≡ true → full i ≡ None
      → Accepted G p s a → Faulted (Many full G (suc i)) (many (suc i)) a.1 n → Faulted (Many full G i) (many i) s n
  many_faulted i s n a t none g h =
      record {
        word = g.word ++ h.word;
        rest = h.rest;
        parts = g.parts ∙ ap (λ (l : List Token). g.word ++ l) h.parts ∙ sym (append_assoc g.word h.word h.rest);
        left = h.left;
        more = h.more;
        tree = a.0 ∷ h.tree;
        fault = λ z. then_fault None (length g.word) (h.fault z);
        late = λ z. late_after n.code (length (g.word ++ h.word)) (length h.word) (length g.word) (h.fault z) (length-append g.word h.word) (h.late z);
        extends = h.extends;
        derives = λ z. rw append_assoc (many_derive i g.word (h.word ++ (h.more ++ z)) z (length g.word) a.0 h.tree
            None _ none refl (g.derives (h.word ++ (h.more ++ z))) (h.derives z));
        same = λ r same.
            let ahead : SameHead a.1 (h.word ++ r) = rw h.parts (same_head_after h.word h.rest r same) in
            let go : starts f (g.word ++ (h.word ++ r)) ≡ true = starts_along f s g.word a.1 (h.word ++ r) true g.parts ahead t in
            rw append_assoc (many_is full f p consumes i (g.word ++ (h.word ++ r)) ∙ rw (go, none, g.same (h.word ++ r) ahead, h.same r same) refl);
      }

  one_faulted : (i : ℕ) (s : List Token) (n : ReadFault) → starts f s ≡ true → full i ≡ None → Faulted G p s n → Faulted (Many full G i) (many i) s n
  one_faulted i s n t none g =
      record {
        word = g.word;
        rest = g.rest;
        parts = g.parts;
        left = g.left;
        more = g.more;
        tree = g.tree ∷ [];
        fault = λ z. then_fault (g.fault z) (length (g.word ++ g.more)) None;
        late = λ z. late_then n.code (length g.word) (length (g.word ++ g.more)) _ None (omega (arith, length-append g.word g.more)) (g.late z);
        extends = g.extends;
        derives = λ z.
            let g' : G ((g.word ++ g.more) ++ z) g.tree (g.fault z) z = rw append_assoc (g.derives z) in
            let many' = many_derive i (g.word ++ g.more) z z (length (g.word ++ g.more)) g.tree [] (g.fault z) None none refl g' (refl, refl) in
            subst (λ (l : List Token). Many full G i l (g.tree ∷ [])
            (then_fault (g.fault z) (length (g.word ++ g.more)) None) z) (append_assoc g.word g.more z) many';
        same = λ r same.
            let go : starts f (g.word ++ r) ≡ true = starts_along f s g.word g.rest r true g.parts same t in
            many_is full f p consumes i (g.word ++ r) ∙ rw (go, none, g.same r same) refl;
      }

  too_many : (i : ℕ) (s : List Token) (n : ReadFault) (c : Code) → starts f s ≡ true → full i ≡ Some c
      → n ≡ fault_from_end (length s) c → Faulted (Many full G i) (many i) s n
  too_many i [] n c t is e = absurd cc
  too_many i (x ∷ m) n c t is e =
      let l = led G p x m consumes (pass (x ∷ m) t) (sound (x ∷ m)) in
      let code = code_is e in
      record {
        word = [];
        rest = x ∷ m;
        parts = refl;
        left = sym (left_is e);
        more = x ∷ l.more;
        tree = l.tree ∷ [];
        fault = λ z. Some (0, c);
        late = λ z. subst (λ (d : Code). Late d 0 (Some (0, c))) (sym code) (late_here c 0);
        extends = λ d. record { head = x; rest_tail = m; more_tail = l.more; rest_is = refl; more_is = refl };
        derives = λ z. (
          z,
          l.fault z,
          None,
          l.derives z,
          (refl, refl),
          ap
              (λ (d : Option Code). then_fault (option_or (at_start d) (l.fault z)) (taken (x ∷ (l.more ++ z)) z)
              None) (sym is),
        );
        same = λ r same.
            let go : starts f r ≡ true = sym (starts_same f (x ∷ m) r same) ∙ t in
            many_is full f p consumes i r ∙ rw (go, is) (ap (λ (d : Code). Err (fault_from_end (length r) d)) (sym code));
      }

  none_accepted : (i : ℕ) (s : List Token) → starts f s ≡ false → Accepted (Many full G i) (many i) s ([], s)
  none_accepted i s t = record {
    word = [];
    parts = refl;
    derives = λ z. (refl, refl);
    same =
        λ r same. many_is full f p consumes i r ∙ rw (starts_along f s [] s r false refl same t) refl;
  }

  many_step : (i : ℕ) (s : List Token) → ((s' : List Token) → length s' < length s
      → Sound (Many full G (suc i)) (many (suc i)) s') → Sound (Many full G i) (many i) s
  many_step i s later =
      record {
        accepted = λ x e.
            elim (chosen (starts f s) (refuse (full i) s (p s >>= rest_of i)) (Ok ([], s)) (Ok x) (sym (many_is full f p consumes i s) ∙ e)) [
              | inl u ↦
                  let ge = refuse_ok (full i) s (p s >>= rest_of i) x u.1 in
                  let a = bind_ok (p s) (rest_of i) x ge.1 in
                  let b = bind_ok (many (suc i) a.0.1) (λ more. Ok (a.0.0 ∷ more.0, more.1)) x a.2 in
                  let same = same_Ok (a.0.0 ∷ b.0.0, b.0.1) x b.2 in
                  subst (λ (y : List A × List Token). Accepted (Many full G i) (many i) s y) same
                  (many_accepted i s a.0 b.0 u.0 ge.0 ((sound s).accepted a.0 a.1)
                  ((later a.0.1 (consumes s a.0 a.1)).accepted b.0 b.1))
              | inr u ↦ subst (λ (y : List A × List Token). Accepted (Many full G i) (many i) s y) (same_Ok ([], s) x u.1) (none_accepted i s u.0)
            ];
        faulted = λ n e.
            elim (chosen (starts f s) (refuse (full i) s (p s >>= rest_of i)) (Ok ([], s)) (Err n) (sym (many_is full f p consumes i s) ∙ e)) [
              | inl u ↦ elim (refuse_err (full i) s (p s >>= rest_of i) n u.1) [
                | inl v ↦ too_many i s n v.0 u.0 v.1 v.2
                | inr ge ↦ elim (bind_err (p s) (rest_of i) n ge.1) [
                  | inl v ↦ one_faulted i s n u.0 ge.0 ((sound s).faulted n v)
                  | inr a ↦ elim (bind_err (many (suc i) a.0.1) (λ more. Ok (a.0.0 ∷ more.0, more.1)) n a.2) [
                    | inl v ↦ many_faulted i s n a.0 u.0 ge.0 ((sound s).accepted a.0 a.1) ((later a.0.1 (consumes s a.0 a.1)).faulted n v)
                    | inr v ↦ absurd (Ok≢Err _ n v.2)
                  ]
                ]
              ]
              | inr u ↦ absurd (Ok≢Err _ n u.1)
            ];
      }

  pub many_sound : (m i : ℕ) (s : List Token) → length s ≤ m → Sound (Many full G i) (many i) s
  many_sound zero i s le = many_step i s (λ s' lt. absurd (omega arith))
  many_sound (suc m) i s le = many_step i s (λ s' lt. many_sound m (suc i) s' (omega arith))
