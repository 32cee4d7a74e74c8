-- A choice by the next token or by the one after it, an optional text, and a mapped tree are read soundly.
use Rattle.std.proofs.Common.{◌≡◌, Bool, true, false, cond, List, [], ◌∷◌, ◌++◌, length, Ok, Err, refl, ◌⊎◌, inl, inr, sym, ap, ◌∙◌, arith, subst}
use Rattle.std.specs.Prelude.{Option, Some, None, ◌&&◌}
use Rattle.std.proofs.lemmas.Bool.{cases_Bool}
use Rattle.grammar_core.specs.declared.fault.ReadFault.{ReadFault}
use Rattle.grammar_core.specs.Terminals.{Terminal}
use Rattle.grammar_core.specs.declared.token.Token.{Token}
use Rattle.grammar_core.specs.Terminals.{terminal_of}
use Rattle.grammar_core.specs.Production.{Language, Maybe}
use Rattle.grammar_core.specs.Reading.{◌>>=◌, Read, starts, picks}
use Rattle.grammar_core.proofs.ReadCases.{bind_ok, bind_err}
use Rattle.grammar_core.proofs.Passes.{Passes}
use Rattle.grammar_core.proofs.Sound.{Accepted, Faulted, SameHead, Sound, same_head_after, starts_same}
use Rattle.list_lemmas.proofs.Truth.{chosen}
use Rattle.list_lemmas.proofs.Options.{same_Ok, Ok≢Err}

-- ---- a choice by the next token

abbrev pub Either : {A : Type 0} → Language A → Language A → Language A
Either G H s t o r = G s t o r ⊎ H s t o r

module _ {A : Type 0} (G : Language A) (H : Language A) (p : List Token → Read A) (q : List Token → Read A) (test : List Token → Bool) where
  -- the test has the same result for lists that begin alike
  left_accepted : (s : List Token) (x : A × List Token) → (g : Accepted G p s x)
      → ((r : List Token) → SameHead x.1 r → test (g.word ++ r) ≡ true)
      → Accepted (Either G H) (λ l. cond (test l) (p l) (q l)) s x
  left_accepted s x g is = record { word = g.word; parts = g.parts; derives = λ z. inl (g.derives z); same = λ r same. rw (is r same) (g.same r same) }

  right_accepted : (s : List Token) (x : A × List Token) → (h : Accepted H q s x)
      → ((r : List Token) → SameHead x.1 r → test (h.word ++ r) ≡ false)
      → Accepted (Either G H) (λ l. cond (test l) (p l) (q l)) s x
  right_accepted s x h is = record { word = h.word; parts = h.parts; derives = λ z. inr (h.derives z); same = λ r same. rw (is r same) (h.same r same) }

  left_faulted : (s : List Token) (n : ReadFault) → (g : Faulted G p s n)
      → ((r : List Token) → SameHead g.rest r → test (g.word ++ r) ≡ true)
      → Faulted (Either G H) (λ l. cond (test l) (p l) (q l)) s n
  left_faulted s n g is = record {
    word = g.word;
    rest = g.rest;
    parts = g.parts;
    left = g.left;
    more =
        g.more;
    tree = g.tree;
    fault = g.fault;
    late = g.late;
    extends = g.extends;
    derives =
        λ z. inl (g.derives z);
    same = λ r same. rw (is r same) (g.same r same);
  }

  right_faulted : (s : List Token) (n : ReadFault) → (h : Faulted H q s n)
      → ((r : List Token) → SameHead h.rest r → test (h.word ++ r) ≡ false)
      → Faulted (Either G H) (λ l. cond (test l) (p l) (q l)) s n
  right_faulted s n h is = record {
    word = h.word;
    rest = h.rest;
    parts = h.parts;
    left = h.left;
    more =
        h.more;
    tree = h.tree;
    fault = h.fault;
    late = h.late;
    extends = h.extends;
    derives =
        λ z. inr (h.derives z);
    same = λ r same. rw (is r same) (h.same r same);
  }

-- a test of the next token is the same for lists that begin alike
pub starts_along : (f : Terminal → Bool) (s w r r' : List Token) (b : Bool) → s ≡ w ++ r → SameHead r r' → starts f s ≡ b → starts f (w ++ r') ≡ b
starts_along f s w r r' b parts same is = sym (starts_same f (w ++ r) (w ++ r') (same_head_after w r r' same))
    ∙ ap (λ (l : List Token). starts f l) (sym parts) ∙ is

pub alt_sound : {A : Type 0} (G H : Language A) (p q : List Token → Read A) (f : Terminal → Bool) (s : List Token)
    → Sound G p s → Sound H q s → Sound (Either G H) (λ l. cond (starts f l) (p l) (q l)) s
alt_sound G H p q f s g h =
    record {
      accepted = λ x e.
          elim (chosen (starts f s) (p s) (q s) (Ok x) e) [
            | inl u ↦ let t = g.accepted x u.1 in left_accepted G H p q (starts f) s x t (λ r same. starts_along f s t.word x.1 r true t.parts same u.0)
            | inr u ↦ let t = h.accepted x u.1 in right_accepted G H p q (starts f) s x t (λ r same. starts_along f s t.word x.1 r false t.parts same u.0)
          ];
      faulted = λ n e.
          elim (chosen (starts f s) (p s) (q s) (Err n) e) [
            | inl u ↦ let t = g.faulted n u.1 in left_faulted G H p q (starts f) s n t (λ r same. starts_along f s t.word t.rest r true t.parts same u.0)
            | inr u ↦ let t = h.faulted n u.1 in right_faulted G H p q (starts f) s n t (λ r same. starts_along f s t.word t.rest r false t.parts same u.0)
          ];
    }

-- ---- a mapped tree

abbrev pub Mapped : {A B : Type 0} → (A → B) → Language A → Language B
Mapped {A} f G s t o r = (a : A) × G s a o r × (f a ≡ t)

pub map_sound : {A B : Type 0} (f : A → B) (G : Language A) (p : List Token → Read A) (s : List Token) → Sound G p s
    → Sound (Mapped f G) (λ l. p l >>= λ a. Ok (f a.0, a.1)) s
map_sound f G p s g =
    record {
      accepted = λ x e.
          let a = bind_ok (p s) (λ a. Ok (f a.0, a.1)) x e in
          let same = same_Ok (f a.0.0, a.0.1) x a.2 in
          let t = g.accepted a.0 a.1 in
          subst (λ (y : _ × List Token). Accepted (Mapped f G) (λ l. p l >>= λ a. Ok (f a.0, a.1)) s y) same
          (record { word = t.word; parts = t.parts; derives = λ z. (a.0.0, t.derives z, refl); same = λ r same. rw (t.same r same) refl });
      faulted = λ n e.
          elim (bind_err (p s) (λ a. Ok (f a.0, a.1)) n e) [
            | inl u ↦
                let t = g.faulted n u in
                record {
                  word = t.word;
                  rest = t.rest;
                  parts = t.parts;
                  left = t.left;
                  more = t.more;
                  tree =
                      f t.tree;
                  fault = t.fault;
                  late = t.late;
                  extends = t.extends;
                  derives =
                      λ z. (t.tree, t.derives z, refl);
                  same = λ r same. rw (t.same r same) refl;
                }
            | inr u ↦ absurd (Ok≢Err _ n u.2)
          ];
    }

-- ---- an optional text

pub opt_sound : {A : Type 0} (G : Language A) (p : List Token → Read A) (f : Terminal → Bool) (s : List Token)
    → Sound G p s → Sound (Maybe G) (λ l. cond (starts f l) (p l >>= λ a. Ok (Some a.0, a.1)) (Ok (None, l))) s
opt_sound {A} G p f s g =
    record {
      accepted = λ x e.
          elim (chosen (starts f s) (p s >>= λ a. Ok (Some a.0, a.1)) (Ok (None, s)) (Ok x) e) [
            | inl u ↦
                let a = bind_ok (p s) (λ a. Ok (Some a.0, a.1)) x u.1 in
                let same = same_Ok (Some a.0.0, a.0.1) x a.2 in
                let t = g.accepted a.0 a.1 in
                subst (λ (y : Option A × List Token). Accepted (Maybe G) (λ l. cond (starts f l) (p l >>= λ a. Ok (Some a.0, a.1)) (Ok (None, l))) s y) same
                (record {
                  word = t.word;
                  parts = t.parts;
                  derives = t.derives;
                  same =
                      λ r same. rw (starts_along f s t.word a.0.1 r true t.parts same u.0, t.same r same) refl;
                })
            | inr u ↦
                let same = same_Ok (None, s) x u.1 in
                subst (λ (y : Option A × List Token). Accepted (Maybe G) (λ l. cond (starts f l) (p l >>= λ a. Ok (Some a.0, a.1)) (Ok (None, l))) s y) same
                (record { word = []; parts = refl; derives = λ z. (refl, refl); same = λ r same. rw (starts_along f s [] s r false refl same u.0) refl })
          ];
      faulted = λ n e.
          elim (chosen (starts f s) (p s >>= λ a. Ok (Some a.0, a.1)) (Ok (None, s)) (Err n) e) [
            | inl u ↦ elim (bind_err (p s) (λ a. Ok (Some a.0, a.1)) n u.1) [
              | inl v ↦
                  let t = g.faulted n v in
                  record {
                    word = t.word;
                    rest = t.rest;
                    parts = t.parts;
                    left = t.left;
                    more = t.more;
                    tree =
                        Some t.tree;
                    fault = t.fault;
                    late = t.late;
                    extends = t.extends;
                    derives = t.derives;
                    same =
                        λ r same. rw (starts_along f s t.word t.rest r true t.parts same u.0, t.same r same) refl;
                  }
              | inr v ↦ absurd (Ok≢Err _ n v.2)
            ]
            | inr u ↦ absurd (Ok≢Err _ n u.1)
          ];
    }

-- ---- a choice by the token after the next one

-- a test of the next two tokens is the same for lists that begin alike, if a token was taken or the next one decides
picks_along : (a b q : Terminal → Bool) (s w r r' : List Token) (t : Bool) → s ≡ w ++ r → SameHead r r'
    → (w ≡ [] → starts a s ≡ true → starts b s ≡ true → ⊥) → picks a b q s ≡ t → picks a b q (w ++ r') ≡ t
picks_along a b q s [] [] [] t e same full is = sym (ap (λ (l : List Token). picks a b q l) e) ∙ is
picks_along a b q s [] [] (y ∷ r') t e same full is = absurd same
picks_along a b q s [] (x ∷ r) [] t e same full is = absurd same
picks_along a b q s [] (x ∷ r) (y ∷ r') t e same full is =
    let first_is : starts b (y ∷ r') ≡ starts b s = rw e (ap (λ (k : Token). b (terminal_of k)) (sym same)) in
    let second_is : starts a (y ∷ r') ≡ starts a s = rw e (ap (λ (k : Token). a (terminal_of k)) (sym same)) in
    let at : picks a b q (x ∷ r) ≡ t = sym (ap (λ (l : List Token). picks a b q l) e) ∙ is in
    elim (cases_Bool (b (terminal_of x))) [
      | inl bt ↦ elim (cases_Bool (a (terminal_of x))) [
        | inl at' ↦ absurd (full refl (rw (e, at') refl) (rw (e, bt) refl))
        | inr af ↦
            let one : picks a b q (x ∷ r) ≡ false = rw (bt, af) refl in
            let two : picks a b q (y ∷ r') ≡ false = rw (← same, bt, af) refl in
            two ∙ sym one ∙ at
      ]
      | inr bf ↦
          let one : picks a b q (x ∷ r) ≡ a (terminal_of x) = rw bf refl in
          let two : picks a b q (y ∷ r') ≡ a (terminal_of x) = rw (← same, bf) refl in
          two ∙ sym one ∙ at
    ]
picks_along a b q s (x ∷ w) r r' t e same full is =
    let along : starts q (w ++ r') ≡ starts q (w ++ r) = sym (starts_same q (w ++ r) (w ++ r') (same_head_after w r r' same)) in
    let at : picks a b q (x ∷ (w ++ r)) ≡ t = sym (ap (λ (l : List Token). picks a b q l) e) ∙ is in
    ap (λ (v : Bool). cond (b (terminal_of x)) (a (terminal_of x) && v) (a (terminal_of x))) along ∙ at

pub pick_sound : {A : Type 0} (G H : Language A) (p q : List Token → Read A) (a b f : Terminal → Bool) (s : List Token) → Sound G p s → Sound H q s
    → (starts a s ≡ true → starts b s ≡ true → Passes false p s)
    → (starts b s ≡ true → starts a s ≡ true → Passes false q s)
    → Sound (Either G H) (λ l. cond (picks a b f l) (p l) (q l)) s
pick_sound G H p q a b f s g h pg ph =
    record {
      accepted = λ x e.
          elim (chosen (picks a b f s) (p s) (q s) (Ok x) e) [
            | inl u ↦ let t = g.accepted x u.1 in
                left_accepted G H p q (picks a b f) s x t
                (λ r same. picks_along a b f s t.word x.1 r true t.parts same
                (λ w sa sb. let lt = (pg sa sb).1 x u.1 in let k =
                ap (λ (l : List Token). length l) (t.parts ∙ ap (λ (v : List Token). v ++ x.1) w) in
                omega (arith, lt, k)) u.0)
            | inr u ↦ let t = h.accepted x u.1 in
                right_accepted G H p q (picks a b f) s x t
                (λ r same. picks_along a b f s t.word x.1 r false t.parts same
                (λ w sa sb. let lt = (ph sb sa).1 x u.1 in let k =
                ap (λ (l : List Token). length l) (t.parts ∙ ap (λ (v : List Token). v ++ x.1) w) in
                omega (arith, lt, k)) u.0)
          ];
      faulted = λ n e.
          elim (chosen (picks a b f s) (p s) (q s) (Err n) e) [
            | inl u ↦ let t = g.faulted n u.1 in
                left_faulted G H p q (picks a b f) s n t
                (λ r same. picks_along a b f s t.word t.rest r true t.parts same
                (λ w sa sb. let lt = (pg sa sb).0 n u.1 (λ e. absurd cc) in let k =
                ap (λ (l : List Token). length l) (t.parts ∙ ap (λ (v : List Token). v ++ t.rest) w) in let d =
                t.left in omega (arith, lt, k, d)) u.0)
            | inr u ↦ let t = h.faulted n u.1 in
                right_faulted G H p q (picks a b f) s n t
                (λ r same. picks_along a b f s t.word t.rest r false t.parts same
                (λ w sa sb. let lt = (ph sb sa).0 n u.1 (λ e. absurd cc) in let k =
                ap (λ (l : List Token). length l) (t.parts ∙ ap (λ (v : List Token). v ++ t.rest) w) in let d =
                t.left in omega (arith, lt, k, d)) u.0)
          ];
    }
