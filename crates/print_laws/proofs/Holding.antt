-- Properties of the trees of a production, from properties of the trees of its parts.
use Rattle.std.proofs.Common.{◌≡◌, ℕ, suc, ◌+◌, ◌≤◌, Bool, true, false, cond, List, [], ◌∷◌, length, refl, sym, subst, ◌∙◌, inl, inr, arith}
use Rattle.std.specs.Prelude.{Option, Some, None, nat_le}
use Rattle.std.proofs.lemmas.Bool.{leb-false}
use Rattle.std.specs.Option.{option_or, unwrap_or}
use Rattle.grammar_core.specs.declared.token.Token.{Token}
use Rattle.jdf_lex.specs.declared.terminal.Terminal.{Terminal}
use Rattle.jdf_lex.specs.declared.terminal.Terminal.TheVariants as terminal
use Rattle.grammar_core.specs.declared.code.Code.{Code}
use Rattle.grammar_core.specs.Production.{map, seq, alt, opt, star, Fault, Language, Many, Derives, taken, at_start}
use Rattle.jdf_lex.specs.Sets.{pick}
use Rattle.jdf_tree.specs.declared.expression.Word.{Word}
use Rattle.jdf_tree.specs.declared.part.Part.TheVariants.{Class}
use Rattle.jdf_tree.specs.Nonterminal.{Nonterminal, TreeOf, Grammar}
use Rattle.jdf_tree.specs.GrammarParts.{word, prefixed_by, suffixed_by, any, listed, maybe, name}
use Rattle.jdf_tree.specs.ClassGrammar.{full_at}
use Rattle.print_laws.proofs.Expressions.{IsName}
use Rattle.print_laws.proofs.Forms.{Every}
use Rattle.jdf_tree.proofs.CallerLemmas.{both_none}
use Rattle.print_laws.proofs.Ends.{Shortens, derives_has_end, none_or}
use Rattle.print_laws.proofs.Known.{IsKnown, name_known}
use Rattle.print_laws.proofs.WellFormedExpressions.{known_rest}

-- The property holds for the tree, if there is one.
abbrev pub IfPresent : {A : Type 0} → (A → Type 0) → Option A → Type 0
IfPresent P None = Unit {0}
IfPresent P (Some a) = P a

-- The property holds for each tree, and there are at most n.
abbrev pub AtMostEvery : {A : Type 0} → ℕ → (A → Type 0) → List A → Type 0
AtMostEvery n P ts = (length ts ≤ n) × Every P ts

module _ (R : (n : Nonterminal) → Language (TreeOf n)) (B : (n : Nonterminal) → Shortens (R n)) where
  abbrev pub Holds : {A : Type 0} → Grammar A → (A → Type 0) → Type 0
  Holds {A = A} g P = (s : List Token) (t : A) (o : Fault) (r : List Token) → Derives R g s t o r → o ≡ None → Every IsKnown s → P t

  rest : {A : Type 0} (g : Grammar A) (s : List Token) (t : A) (o : Fault) (r : List Token) → Derives R g s t o r → Every IsKnown s → Every IsKnown r
  rest g s t o r h known = known_rest s r (derives_has_end R B g s t o r h) known

  pub free : {A : Type 0} (g : Grammar A) → Holds g (λ t. Unit {0})
  free g s t o r h e known = tt

  pub both : {A C : Type 0} (g : Grammar A) (k : Grammar C) (P : A → Type 0) (Q : C → Type 0) → Holds g P → Holds k Q → Holds (seq g k) (λ t. P t.0 × Q t.1)
  both g k P Q f q s t o r h e known =
      let parts = both_none h.1 (taken s h.0) h.2 (sym e ∙ h.5) in
      (f s t.0 h.1 h.0 h.3 parts.0 known, q h.0 t.1 h.2 r h.4 parts.1 (rest g s t.0 h.1 h.0 h.3 known))

  pub mapped : {A C : Type 0} (v : A → C) (g : Grammar A) (P : A → Type 0) (Q : C → Type 0) → Holds g P → ((a : A) → P a → Q (v a)) → Holds (map v g) Q
  mapped v g P Q f q s t o r h e known = subst Q h.2 (q h.0 (f s h.0 o r h.1 e known))

  pub one_or : {A : Type 0} (g k : Grammar A) (P : A → Type 0) → Holds g P → Holds k P → Holds (alt g k) P
  one_or g k P f q s t o r h e known = elim h [ inl u ↦ f s t o r u e known | inr u ↦ q s t o r u e known ]

  pub picked : {A : Type 0} (a : Terminal → Bool) (g k : Grammar A) (P : A → Type 0) → Holds g P → Holds k P → Holds (pick a g k) P
  picked a g k P f q s t o r h e known = elim h [ inl u ↦ f s t o r u e known | inr u ↦ q s t o r u e known ]

  pub if_present : {A : Type 0} (g : Grammar A) (P : A → Type 0) → Holds g P → Holds (opt g) (IfPresent P)
  if_present g P f s None o r h e known = tt
  if_present g P f s (Some t) o r h e known = f s t o r h e known

  many_hold : {A : Type 0} (full : ℕ → Option Code) (g : Grammar A) (P : A → Type 0) → Holds g P
      → (i : ℕ) (ts : List A) (s : List Token) (o : Fault) (r : List Token) → Many full (Derives R g) i s ts o r
      → o ≡ None → Every IsKnown s → Every P ts
  many_hold full g P f i [] s o r h e known = tt
  many_hold full g P f i (t ∷ ts) s o r h e known =
      let parts = both_none (option_or (at_start (full i)) h.1) (taken s h.0) h.2 (sym e ∙ h.5) in
      let start = none_or (full i) h.1 parts.0 in
      (f s t h.1 h.0 h.3 start.1 known, many_hold full g P f (suc i) ts h.0 h.2 r h.4 parts.1 (rest g s t h.1 h.0 h.3 known))

  pub all : {A : Type 0} (full : ℕ → Option Code) (g : Grammar A) (P : A → Type 0) → Holds g P → Holds (star full g) (Every P)
  all full g P f s t o r h e known = many_hold full g P f 0 t s o r h e known

  not_yet : (n i : ℕ) (c : Code) → full_at n c i ≡ None → suc i ≤ n
  not_yet n i c h = go (nat_le n i) refl h
    where
      go : (b : Bool) → nat_le n i ≡ b → cond b (Some c) None ≡ None → suc i ≤ n
      go true e k = absurd (cc)
      go false e k = let low = leb-false n i e in omega (arith, low)

  many_at_most : {A : Type 0} (n : ℕ) (c : Code) (g : Grammar A) (i : ℕ) (ts : List A) (s : List Token) (o : Fault)
      (r : List Token) → i ≤ n → Many (full_at n c) (Derives R g) i s ts o r → o ≡ None → i + length ts ≤ n
  many_at_most n c g i [] s o r le h e = omega arith
  many_at_most n c g i (t ∷ ts) s o r le h e =
      let parts = both_none (option_or (at_start (full_at n c i)) h.1) (taken s h.0) h.2 (sym e ∙ h.5) in
      let start = none_or (full_at n c i) h.1 parts.0 in
      let more = many_at_most n c g (suc i) ts h.0 h.2 r (not_yet n i c start.0) h.4 parts.1 in
      omega (arith, more)

  pub few : {A : Type 0} (n : ℕ) (c : Code) (g : Grammar A) (P : A → Type 0) → Holds g P → Holds (star (full_at n c) g) (AtMostEvery n P)
  few n c g P f s t o r h e known = (
    let k = many_at_most n c g 0 t s o r (omega arith) h e in omega (arith, k),
    many_hold (full_at n c) g P f 0 t s o r h e known,
  )

  pub after_word : {A : Type 0} (k : Terminal) (g : Grammar A) (P : A → Type 0) → Holds g P → Holds (prefixed_by k g) P
  after_word k g P f = mapped (λ x. x.1) (seq (word k) g) (λ x. Unit {0} × P x.1) P (both (word k) g (λ x. Unit {0}) P (free (word k)) f) (λ a h. h.1)

  pub before_word : {A : Type 0} (k : Terminal) (g : Grammar A) (P : A → Type 0) → Holds g P → Holds (suffixed_by k g) P
  before_word k g P f = mapped (λ x. x.0) (seq g (word k)) (λ x. P x.0 × Unit {0}) P (both g (word k) P (λ x. Unit {0}) f (free (word k))) (λ a h. h.0)

  pub in_list : {A : Type 0} (g : Grammar A) (P : A → Type 0) → Holds g P → Holds (listed g) (Every P)
  in_list g P f =
      mapped (λ x. x.0 ∷ x.1) (seq g (star any (prefixed_by terminal.Comma g))) (λ x. P x.0 × Every P x.1) (Every P)
      (both g (star any (prefixed_by terminal.Comma g)) P (Every P) f (all any (prefixed_by terminal.Comma g) P (after_word terminal.Comma g P f))) (λ a h. h)

  pub or_nothing : {A : Type 0} (g : Grammar (List A)) (P : List A → Type 0) → P [] → Holds g P → Holds (maybe g) P
  or_nothing {A = A} g P nil f = mapped (λ o. unwrap_or o []) (opt g) (IfPresent P) P (if_present g P f) go
    where
      go : (a : Option (List A)) → IfPresent P a → P (unwrap_or a [])
      go None h = nil
      go (Some a) h = h

  pub name_well_formed : Holds (name Class) (λ w. IsName w.text)
  name_well_formed s t o r h e known =
      let q = h.1 in
      let K : List Token → Type 0 = λ l. Every IsKnown l in
      let all_known = subst K q.0.0 known in
      let W : Word → Type 0 = λ w. IsName w.text in
      subst W h.2 (name_known h.0 q.0.1 all_known.0)
