-- A text of limited length is read soundly.
use Rattle.std.proofs.Common.{◌≡◌, ℕ, zero, suc, ◌+◌, ◌-◌, ◌<◌, ◌≤◌, Bool, true, false, cond, List, [], ◌∷◌, ◌++◌, length, Ok, Err, refl, inl, inr}
use Rattle.std.proofs.Common.{sym, ap, ◌∙◌, append_assoc, length-append, arith, subst}
use Rattle.std.specs.Prelude.{Some, None, nat_lt}
use Rattle.std.proofs.lemmas.Bool.{le-ltb, lt-ltb, ltb-true, ltb-false, cases_lt}
use Rattle.grammar_core.specs.declared.fault.ReadFault.{ReadFault}
use Rattle.grammar_core.specs.declared.token.Token.{Token}
use Rattle.grammar_core.specs.declared.code.Code.{Code}
use Rattle.grammar_core.specs.Production.{Limit, Language, Fault, cut_at, taken, IsFrom}
use Rattle.grammar_core.specs.Reading.{Read, judge, fault_from_end}
use Rattle.grammar_core.proofs.ReadCases.{judge_ok, judge_err}
use Rattle.grammar_core.proofs.Sound.{Accepted, Faulted, Late, SameHead, Sound, code_is, late_here, left_is, same_head_after, taken_is}
use Rattle.list_lemmas.proofs.Options.{same_Ok, Ok≢Err, same_Err}
use Rattle.list_lemmas.proofs.Joins.{longer_front}

abbrev pub failed : {A : Type 0} → ReadFault → Read A
failed n = Err n

pub above : (n l u : ℕ) → l ≡ u → (n ≤ u → ⊥) → l < n
above n l u e never = elim (cases_lt u n) [ inl lt ↦ omega (arith, e, lt) | inr le ↦ absurd (never le) ]

-- a list, split at an index
cut_list : (l : ℕ) (w : List Token) → l < length w → (u : List Token) × (y : Token) × (v : List Token) × (w ≡ u ++ y ∷ v) × (length u ≡ l)
cut_list l [] lt = absurd (omega arith)
cut_list zero (y ∷ v) lt = ([], y, v, refl, refl)
cut_list (suc l) (x ∷ w) lt = let c = cut_list l w (omega arith) in (x ∷ c.0, c.1, c.2, ap (λ (k : List Token). x ∷ k) c.3, ap suc c.4)

abbrev pub Limited : {A : Type 0} → Limit → Code → Language A → Language A
Limited L c G s t o r = (x : Fault) × G s t x r × (o ≡ cut_at (L.at s) c (taken s r) x)

cut_none : (l : ℕ) (c : Code) (n : ℕ) → n ≤ l → cut_at l c n None ≡ None
cut_none l c n le = rw (le-ltb l n le) refl

cut_early : (l : ℕ) (c : Code) (n : ℕ) (f : ℕ × Code) → f.0 ≤ l → cut_at l c n (Some f) ≡ Some f
cut_early l c n f le = rw (le-ltb l f.0 le) refl

cut_here : (l : ℕ) (c : Code) (n : ℕ) (x : Fault) → l < n → IsFrom (suc l) x → cut_at l c n x ≡ Some (l, c)
cut_here l c n None lt from = rw (lt-ltb l n lt) refl
cut_here l c n (Some f) lt from = rw (lt-ltb l f.0 (omega (arith, from))) refl

cut_from : (l : ℕ) (c : Code) (n w : ℕ) (x : Fault) → w ≤ l → IsFrom w x → IsFrom w (cut_at l c n x)
cut_from l c n w None le from = go (nat_lt l n)
  where
    go : (b : Bool) → IsFrom w (cond b (Some (l, c)) None)
    go true = le
    go false = tt
cut_from l c n w (Some f) le from = go (nat_lt l f.0)
  where
    go : (b : Bool) → IsFrom w (cond b (Some (l, c)) (Some f))
    go true = le
    go false = from

module _ {A : Type 0} (L : Limit) (c : Code) (G : Language A) (p : List Token → Read A) (sound : (s : List Token) → Sound G p s) where
  abbrev pub judged : List Token → Read A
  judged l = judge (L.at l) c l (p l)

  judge_accepted : (s : List Token) (x : A × List Token) → p s ≡ Ok x → length s - length x.1 ≤ L.at s → Accepted (Limited L c G) judged s x
  judge_accepted s x e le =
      let t = (sound s).accepted x e in
      let n : length s - length x.1 ≡ length t.word = ap (λ (l : List Token). length l - length x.1) t.parts ∙ taken_is t.word x.1 in
      let fits : (z : List Token) → length t.word ≤ L.at (t.word ++ z) =
      λ z. L.keeps t.word x.1 z (subst (λ (l : List Token). length t.word ≤ L.at l) t.parts
      (omega (arith, n, le))) in
      record {
        word = t.word;
        parts = t.parts;
        derives = λ z. (
          None,
          t.derives z,
          sym
              (cut_none (L.at (t.word ++ z)) c (taken (t.word ++ z) z)
              (let k = taken_is t.word z in let f = fits z in omega (arith, k, f))),
        );
        same = λ r same.
            let k = taken_is t.word r in let f = fits r in
            let low : nat_lt (L.at (t.word ++ r)) (length (t.word ++ r) - length r) ≡ false = le-ltb _ _ (omega (arith, k, f)) in
            rw (t.same r same, low) refl;
      }

  judge_inside : (s : List Token) (n : ReadFault) → p s ≡ Err n → length s - n.left ≤ L.at s → Faulted (Limited L c G) judged s n
  judge_inside s n e le =
      let t = (sound s).faulted n e in
      let m : length s - n.left ≡ length t.word = ap (λ (l : List Token). length l - n.left) t.parts
      ∙ ap (λ (k : ℕ). length (t.word ++ t.rest) - k) (sym t.left) ∙ taken_is t.word t.rest in
      let fits : (z : List Token) → length t.word ≤ L.at (t.word ++ z) =
      λ z. L.keeps t.word t.rest z (subst (λ (l : List Token). length t.word ≤ L.at l) t.parts
      (omega (arith, m, le))) in
      record {
        word = t.word;
        rest = t.rest;
        parts = t.parts;
        left = t.left;
        more = t.more;
        tree = t.tree;
        fault = λ z. cut_at (L.at (t.word ++ (t.more ++ z))) c (taken (t.word ++ (t.more ++ z)) z) (t.fault z);
        late = λ z. record {
          from = cut_from _ c (taken (t.word ++ (t.more ++ z)) z) (length t.word) (t.fault z) (fits (t.more ++ z)) (t.late z).from;
          exact = λ d. rw ((t.late z).exact d) (cut_early _ c (taken (t.word ++ (t.more ++ z)) z) (length t.word, n.code) (fits (t.more ++ z)));
        };
        extends = t.extends;
        derives = λ z. (t.fault z, t.derives z, refl);
        same = λ r same.
            let k = taken_is t.word r in let f = fits r in
            let low : nat_lt (L.at (t.word ++ r)) (length (t.word ++ r) - length r) ≡ false = le-ltb _ _ (omega (arith, k, f)) in
            rw (t.same r same, low) refl;
      }

  -- past the limit reading returns the code at the limit, whatever follows
  past : (s u : List Token) (y : Token) (v r : List Token) → s ≡ u ++ y ∷ v → L.at (u ++ y ∷ r) ≡ length u
      → ((x : A × List Token) → p s ≡ Ok x → length x.1 < suc (length v)) → ((d : ReadFault) → p s ≡ Err d → d.left < suc (length v))
      → judged (u ++ y ∷ r) ≡ Err (fault_from_end (length (y ∷ r)) c)
  past s u y v r parts at ok err = go (p (u ++ y ∷ r)) refl
    where
      len : length (u ++ y ∷ r) ≡ length u + suc (length r)
      len = length-append u (y ∷ r)

      -- what is read from one list is read from the other
      meets : (w a : List Token) → u ++ y ∷ r ≡ w ++ a → length w ≤ length u
          → (v' : List Token) × (SameHead a (v' ++ y ∷ v)) × (s ≡ w ++ (v' ++ y ∷ v))
          × (suc (length v) ≤ length (v' ++ y ∷ v))
      meets w a e le =
          let f = longer_front w a u (y ∷ r) (sym e) le in (
            f.0,
            subst (λ (l : List Token). SameHead l (f.0 ++ y ∷ v)) (sym f.2)
                (same_head_after f.0 (y ∷ r) (y ∷ v) refl),
            parts ∙ ap (λ (l : List Token). l ++ y ∷ v) f.1
                ∙ append_assoc w f.0 (y ∷ v),
            omega (arith, length-append f.0 (y ∷ v)),
          )

      high : (n : ℕ) → (n ≤ length u → ⊥) → nat_lt (L.at (u ++ y ∷ r)) n ≡ true
      high n never = lt-ltb _ _ (above n (L.at (u ++ y ∷ r)) (length u) at never)

      out : failed {A = A} (fault_from_end (length (u ++ y ∷ r) - L.at (u ++ y ∷ r)) c) ≡ Err (fault_from_end (length (y ∷ r)) c)
      out = ap (λ (n : ℕ). Err (fault_from_end n c)) (omega (arith, len, at))

      go : (res : Read A) → p (u ++ y ∷ r) ≡ res → judge (L.at (u ++ y ∷ r)) c (u ++ y ∷ r) (p (u ++ y ∷ r)) ≡ Err (fault_from_end (length (y ∷ r)) c)
      go (Ok x) e =
          let t = (sound (u ++ y ∷ r)).accepted x e in
          let n : length (u ++ y ∷ r) - length x.1 ≡ length t.word = ap (λ (l : List Token). length l - length x.1) t.parts ∙ taken_is t.word x.1 in
          let never : length (u ++ y ∷ r) - length x.1 ≤ length u → ⊥ = λ le.
          let m = meets t.word x.1 t.parts (omega (arith, n, le)) in
          let k = ok (x.0, m.0 ++ y ∷ v) (ap p m.2 ∙ t.same (m.0 ++ y ∷ v) m.1) in
          omega (arith, k, m.3) in
          rw (e, high (length (u ++ y ∷ r) - length x.1) never) out
      go (Err d) e =
          let t = (sound (u ++ y ∷ r)).faulted d e in
          let n : length (u ++ y ∷ r) - d.left ≡ length t.word = ap (λ (l : List Token). length l - d.left) t.parts
          ∙ ap (λ (k : ℕ). length (t.word ++ t.rest) - k) (sym t.left) ∙ taken_is t.word t.rest in
          let never : length (u ++ y ∷ r) - d.left ≤ length u → ⊥ = λ le.
          let m = meets t.word t.rest t.parts (omega (arith, n, le)) in
          let k = err (fault_from_end (length (m.0 ++ y ∷ v)) d.code) (ap p m.2 ∙ t.same (m.0 ++ y ∷ v) m.1) in
          omega (arith, k, m.3) in
          rw (e, high (length (u ++ y ∷ r) - d.left) never) out

  -- a text that is longer than its limit
  judge_past : (s : List Token) (n : ReadFault) (word rest more : List Token) (tree : A)
      (fault : List Token → Fault) → s ≡ word ++ rest → L.at s < length word
      → n ≡ fault_from_end (length s - L.at s) c
      → ((z : List Token) → IsFrom (length word) (fault z)) → ((z : List Token) → G (word ++ (more ++ z)) tree (fault z) z)
      → ((x : A × List Token) → p s ≡ Ok x → length x.1 ≤ length rest) → ((d : ReadFault) → p s ≡ Err d → d.left ≤ length rest)
      → Faulted (Limited L c G) judged s n
  judge_past s n word rest more tree fault parts lt is from derives ok err =
      let k = cut_list (L.at s) word lt in
      let u = k.0 in let y = k.1 in let v = k.2 in
      let whole : s ≡ u ++ y ∷ (v ++ rest) = parts ∙ ap (λ (l : List Token). l ++ rest) k.3 ∙ append_assoc u (y ∷ v) rest in
      let at : (r : List Token) → L.at (u ++ y ∷ r) ≡ length u = λ r. L.stays u y (v ++ rest) r (ap L.at (sym whole) ∙ sym k.4) in
      let long : length word ≡ length u + suc (length v) = ap (λ (l : List Token). length l) k.3 ∙ length-append u (y ∷ v) in
      let all : length s ≡ length word + length rest = ap (λ (l : List Token). length l) parts ∙ length-append word rest in
      let back = length-append v rest in
      let code = code_is is in
      record {
        word = u;
        rest = y ∷ (v ++ rest);
        parts = whole;
        left = let f = left_is is in omega (arith, f, all, long, k.4, back);
        more = y ∷ (v ++ more);
        tree = tree;
        fault = λ z. Some (length u, c);
        late = λ z. subst (λ (d : Code). Late d (length u) (Some (length u, c))) (sym code) (late_here c (length u));
        extends = λ d. record { head = y; rest_tail = v ++ rest; more_tail = v ++ more; rest_is = refl; more_is = refl };
        derives = λ z.
            let along : u ++ ((y ∷ (v ++ more)) ++ z) ≡ word ++ (more ++ z) =
            ap (λ (l : List Token). u ++ (y ∷ l)) (append_assoc v more z) ∙ sym (append_assoc u (y ∷ v) (more ++ z))
            ∙ ap (λ (l : List Token). l ++ (more ++ z)) (sym k.3) in
            let g : G (u ++ ((y ∷ (v ++ more)) ++ z)) tree (fault z) z = subst (λ (l : List Token). G l tree (fault z) z) (sym along) (derives z) in
            let size : taken (u ++ ((y ∷ (v ++ more)) ++ z)) z ≡ length word + length more =
            ap (λ (l : List Token). taken l z) along
            ∙ omega (arith, length-append word (more ++ z), length-append more z) in
            let lim : L.at (u ++ ((y ∷ (v ++ more)) ++ z)) ≡ length u = at ((v ++ more) ++ z) in (
              fault z,
              g,
              sym (ap (λ (l : ℕ). cut_at l c (taken (u ++ ((y ∷ (v ++ more)) ++ z)) z) (fault z)) lim
                  ∙ cut_here (length u) c _ (fault z) (omega (arith, size, long))
                  (from_less (length word) (suc (length u)) (fault z) (omega (arith, long)) (from z))),
            );
        same = λ r same. again u y (v ++ rest) r whole at same
            (λ x e. let f = ok x e in omega (arith, f, back)) (λ d e. let f = err d e in omega (arith, f, back))
            ∙ ap (λ (d : Code). Err (fault_from_end (length r) d)) (sym code);
      }
    where
      from_less : (w m : ℕ) (o : Fault) → m ≤ w → IsFrom w o → IsFrom m o
      from_less w m None le h = tt
      from_less w m (Some f) le h = omega (arith, le, h)

      again : (u : List Token) (y : Token) (v r : List Token) → s ≡ u ++ y ∷ v → ((r : List Token) → L.at (u ++ y ∷ r) ≡ length u) → SameHead (y ∷ v) r
          → ((x : A × List Token) → p s ≡ Ok x → length x.1 < suc (length v))
          → ((d : ReadFault) → p s ≡ Err d → d.left < suc (length v))
          → judged (u ++ r) ≡ Err (fault_from_end (length r) c)
      again u y v [] e at same ok err = absurd same
      again u y v (y' ∷ r) e at same ok err =
          subst (λ (t : Token). judged (u ++ t ∷ r) ≡ Err (fault_from_end (suc (length r)) c)) same
          (past s u y v r e (at r) ok err)

  pub limited_sound : (s : List Token) → Sound (Limited L c G) judged s
  limited_sound s =
      record {
        accepted = λ x e. let j = judge_ok (L.at s) c s (p s) x e in judge_accepted s x j.0 (ltb-false _ _ j.1);
        faulted = λ n e.
            elim (judge_err (L.at s) c s (p s) n e) [
              | inl u ↦
                  let t = (sound s).accepted u.0 u.1 in
                  let k : length s - length u.0.1 ≡ length t.word = ap (λ (l : List Token). length l - length u.0.1) t.parts ∙ taken_is t.word u.0.1 in
                  let lt = ltb-true _ _ u.2 in
                  judge_past s n t.word u.0.1 [] u.0.0 (λ z. None) t.parts (omega (arith, k, lt)) u.3 (λ z. tt) t.derives
                  (λ x e'. let same = same_Ok u.0 x (sym u.1 ∙ e') in let f = ap (λ (y : A × List Token). length y.1) same in omega (arith, f))
                  (λ d e'. absurd (Ok≢Err u.0 d (sym u.1 ∙ e')))
              | inr (inl u) ↦
                  let t = (sound s).faulted u.0 u.1 in
                  let k : length s - u.0.left ≡ length t.word = ap (λ (l : List Token). length l - u.0.left) t.parts
                  ∙ ap (λ (m : ℕ). length (t.word ++ t.rest) - m) (sym t.left) ∙ taken_is t.word t.rest in
                  let lt = ltb-true _ _ u.2 in
                  judge_past s n t.word t.rest t.more t.tree t.fault t.parts (omega (arith, k, lt)) u.3 (λ z. (t.late z).from) t.derives
                  (λ x e'. absurd (Ok≢Err x u.0 (sym e' ∙ u.1)))
                  (λ d e'. let same : u.0 ≡ d = same_Err u.0 d (sym u.1 ∙ e') in let f = ap (λ (y : ReadFault). y.left) same in omega (arith, f, t.left))
              | inr (inr u) ↦ judge_inside s n u.0 (ltb-false _ _ u.1)
            ];
      }
