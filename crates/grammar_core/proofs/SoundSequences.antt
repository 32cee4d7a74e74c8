-- One text after another is read soundly.
use Rattle.std.proofs.Common.{◌≡◌, ℕ, List, ◌++◌, length, Ok, refl, inl, inr, sym, ap, ◌∙◌, append_assoc, length-append, arith, subst}
use Rattle.std.specs.Prelude.{None}
use Rattle.grammar_core.specs.declared.fault.ReadFault.{ReadFault}
use Rattle.grammar_core.specs.declared.token.Token.{Token}
use Rattle.grammar_core.specs.Production.{Language, Fault, then_fault, taken}
use Rattle.grammar_core.specs.Reading.{◌>>=◌, Read}
use Rattle.grammar_core.proofs.ReadCases.{bind_ok, bind_err}
use Rattle.grammar_core.proofs.Sound.{Accepted, Faulted, SameHead, Sound, Text, extends_more, late_after, late_then, same_head_after, taken_is}
use Rattle.list_lemmas.proofs.Options.{same_Ok, Ok≢Err}

abbrev pub Both : {A B : Type 0} → Language A → Language B → Language (A × B)
Both G H s t o r = (m : List Token) × (x y : Fault) × G s t.0 x m × H m t.1 y r × (o ≡ then_fault x (taken s m) y)

abbrev pub both_at : {A B : Type 0} → (List Token → Read A) → (List Token → Read B) → List Token → Read (A × B)
both_at p q s = p s >>= λ a. q a.1 >>= λ b. Ok ((a.0, b.0), b.1)

-- both texts, of which the first has n tokens
both_derive : {A B : Type 0} (G : Language A) (H : Language B) (w m z : List Token) (n : ℕ) (a : A) (b : B)
    (x y : Fault) → length w ≡ n → G (w ++ m) a x m → H m b y z → Both G H (w ++ m) (a, b) (then_fault x n y) z
both_derive G H w m z n a b x y e g h = (m, x, y, g, h, ap (λ (k : ℕ). then_fault x k y) (sym (taken_is w m ∙ e)))

pub both_text : {A B : Type 0} (G : Language A) (H : Language B) → Text G → Text H → Text (Both G H)
both_text G H g h =
    record {
      word = g.word ++ h.word;
      tree = (g.tree, h.tree);
      fault = λ z. then_fault (g.fault (h.word ++ z)) (length g.word) (h.fault z);
      derives = λ z. rw append_assoc (both_derive G H g.word (h.word ++ z) z (length g.word) g.tree h.tree _ _ refl (g.derives (h.word ++ z)) (h.derives z));
    }

module _ {A B : Type 0} (G : Language A) (H : Language B) (p : List Token → Read A) (q : List Token → Read B) where
  both_accepted : (s : List Token) (x : (A × B) × List Token) (a : A × List Token) → Accepted G p s a
      → Accepted H q a.1 (x.0.1, x.1) → x.0.0 ≡ a.0 → Accepted (Both G H) (both_at p q) s x
  both_accepted s x a g h is =
      record {
        word = g.word ++ h.word;
        parts = g.parts ∙ ap (λ (l : List Token). g.word ++ l) h.parts ∙ sym (append_assoc g.word h.word x.1);
        derives = λ z. rw (append_assoc, is)
            (both_derive G H g.word (h.word ++ z) z (length g.word) a.0 x.0.1 None None refl
            (g.derives (h.word ++ z)) (h.derives z));
        same = λ r same.
            let ahead : SameHead a.1 (h.word ++ r) = rw h.parts (same_head_after h.word x.1 r same) in
            rw (append_assoc, g.same (h.word ++ r) ahead, h.same r same, is) refl;
      }

  both_faulted_first : (s : List Token) (n : ReadFault) → Faulted G p s n → Text H → Faulted (Both G H) (both_at p q) s n
  both_faulted_first s n g h =
      record {
        word = g.word;
        rest = g.rest;
        parts = g.parts;
        left = g.left;
        more = g.more ++ h.word;
        tree = (g.tree, h.tree);
        fault = λ z. then_fault (g.fault (h.word ++ z)) (length (g.word ++ g.more)) (h.fault z);
        late = λ z. late_then n.code (length g.word) (length (g.word ++ g.more)) _ _ (omega (arith, length-append g.word g.more)) (g.late (h.word ++ z));
        extends = λ d. extends_more g.rest g.more h.word (g.extends d);
        derives = λ z.
            let g' : G ((g.word ++ g.more) ++ (h.word ++ z)) g.tree (g.fault (h.word ++ z)) (h.word ++ z) = rw append_assoc (g.derives (h.word ++ z)) in
            let both = both_derive G H (g.word ++ g.more) (h.word ++ z) z (length (g.word ++ g.more)) g.tree h.tree _ _ refl g' (h.derives z) in
            let along : (g.word ++ g.more) ++ (h.word ++ z) ≡ g.word ++ ((g.more ++ h.word) ++ z) =
            append_assoc g.word g.more (h.word ++ z)
            ∙ ap (λ (l : List Token). g.word ++ l) (sym (append_assoc g.more h.word z)) in
            subst (λ (l : List Token). Both G H l (g.tree, h.tree) (then_fault (g.fault (h.word ++ z)) (length (g.word ++ g.more)) (h.fault z)) z) along both;
        same = λ r same. rw (g.same r same) refl;
      }

  both_faulted_second : (s : List Token) (n : ReadFault) (a : A × List Token) → Accepted G p s a → Faulted H q a.1 n → Faulted (Both G H) (both_at p q) s n
  both_faulted_second s n a g h =
      record {
        word = g.word ++ h.word;
        rest = h.rest;
        parts = g.parts ∙ ap (λ (l : List Token). g.word ++ l) h.parts ∙ sym (append_assoc g.word h.word h.rest);
        left = h.left;
        more = h.more;
        tree = (a.0, h.tree);
        fault = λ z. then_fault None (length g.word) (h.fault z);
        late = λ z. late_after n.code (length (g.word ++ h.word)) (length h.word) (length g.word) (h.fault z) (length-append g.word h.word) (h.late z);
        extends = h.extends;
        derives = λ z. rw append_assoc (both_derive G H g.word (h.word ++ (h.more ++ z)) z (length g.word) a.0
            h.tree None _ refl (g.derives (h.word ++ (h.more ++ z))) (h.derives z));
        same = λ r same.
            let ahead : SameHead a.1 (h.word ++ r) = rw h.parts (same_head_after h.word h.rest r same) in
            rw (append_assoc, g.same (h.word ++ r) ahead, h.same r same) refl;
      }

  pub both_sound : (s : List Token) → Sound G p s → ((m : List Token) → Sound H q m) → Text H → Sound (Both G H) (both_at p q) s
  both_sound s g h text =
      record {
        accepted = λ x e.
            let a = bind_ok (p s) (λ a. q a.1 >>= λ b. Ok ((a.0, b.0), b.1)) x e in
            let b = bind_ok (q a.0.1) (λ b. Ok ((a.0.0, b.0), b.1)) x a.2 in
            let same = same_Ok ((a.0.0, b.0.0), b.0.1) x b.2 in
            subst (λ (y : (A × B) × List Token). Accepted (Both G H) (both_at p q) s y) same
            (both_accepted s ((a.0.0, b.0.0), b.0.1) a.0 (g.accepted a.0 a.1) ((h a.0.1).accepted b.0 b.1)
            refl);
        faulted = λ n e.
            elim (bind_err (p s) (λ a. q a.1 >>= λ b. Ok ((a.0, b.0), b.1)) n e) [
              | inl u ↦ both_faulted_first s n (g.faulted n u) text
              | inr a ↦ elim (bind_err (q a.0.1) (λ b. Ok ((a.0.0, b.0), b.1)) n a.2) [
                | inl u ↦ both_faulted_second s n a.0 (g.accepted a.0 a.1) ((h a.0.1).faulted n u)
                | inr b ↦ absurd (Ok≢Err _ n b.2)
              ]
            ];
      }
