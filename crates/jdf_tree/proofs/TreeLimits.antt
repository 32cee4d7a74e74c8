-- The tree of a text without a fault is within the limits.
use Rattle.std.proofs.Common.{◌≡◌, ℕ, zero, suc, ◌+◌, ◌*◌, ◌≤◌, ◌<◌, Bool, true, false, cond, List, [], ◌∷◌, length, refl, ◌⊎◌, inl, inr, sym, ap, arith, subst}
use Rattle.std.specs.Prelude.{Option, Some, None, nat_le, nat_lt, IsSome}
use Rattle.std.specs.List.{AllByRecursion}
use Rattle.std.proofs.lemmas.Bool.Decides.{nat_tests}
use Rattle.std.specs.Option.{option_or, unwrap_or}
use Rattle.grammar_core.specs.declared.token.Token.{Token}
use Rattle.grammar_core.specs.declared.code.Code.{Code}
use Rattle.grammar_core.specs.Production.{seq, opt, star, Language, Fault, then_fault, at_start, cut_at, taken, Many, Derives, DerivedWithin, Derived}
use Rattle.jdf_lex.specs.declared.terminal.Terminal.{Terminal}
use Rattle.jdf_lex.specs.declared.terminal.Terminal.TheVariants as terminal
use Rattle.jdf_lex.specs.Codes.{TooManyParams, TooManyLocals, TooManyFlows, TooManyDeps, TooManyClasses}
use Rattle.jdf_tree.specs.declared.expression.Word.{Word}
use Rattle.jdf_tree.specs.declared.part.Part.TheVariants.{Class}
use Rattle.jdf_tree.specs.declared.tree.DepTree.{DepTree}
use Rattle.jdf_tree.specs.declared.tree.FlowTree.{FlowTree}
use Rattle.jdf_tree.specs.declared.tree.ClassTree.{ClassTree}
use Rattle.jdf_tree.specs.declared.tree.Jdf.{Jdf}
use Rattle.jdf_tree.specs.Nonterminal.{Nonterminal, a_file, TreeOf, Grammar}
use Rattle.jdf_lex.specs.Terminals.{is}
use Rattle.jdf_lex.specs.Counted.{is_name}
use Rattle.jdf_lex.specs.Sets.{one_of, pick, after_token}
use Rattle.jdf_tree.specs.GrammarParts.{word, prefixed_by, suffixed_by, any, maybe, name, word_of}
use Rattle.jdf_tree.specs.ClassGrammar.{full_at, Choice, unguarded, guarded, arrow, datatype, may_follow_target_name, dependence, dependences}
use Rattle.jdf_tree.specs.ClassGrammar.{kind_of_flow, flow, flows, parameters, parameter_list, definition, definitions, affinity, priority}
use Rattle.jdf_tree.specs.ClassGrammar.{is_no_right_bracket, properties, body, head, rest, class}
use Rattle.jdf_tree.specs.Grammar.{skip, class_and_skips, classes, without_globals, with_global, file_after_extern, file_after_option}
use Rattle.jdf_tree.specs.Grammar.{file_after_properties, file_after_global, file, productions}
use Rattle.jdf_tree.specs.Jdf.{IsJdf}
use Rattle.jdf_tree.specs.TreeLimits.{HasGuardForSecond, IsFlowWithinLimits, IsClassWithinLimits, IsWithinLimits}

-- ---- faults

pub both_none : (x : Fault) (n : ℕ) (y : Fault) → None ≡ then_fault x n y → (x ≡ None) × (y ≡ None)
both_none None n None e = (refl, refl)
both_none None n (Some f) e = absurd (cc)
both_none (Some f) n y e = absurd (cc)

either_none : (x y : Fault) → option_or x y ≡ None → (x ≡ None) × (y ≡ None)
either_none None y e = (refl, e)
either_none (Some f) y e = absurd (cc)

start_none : (c : Option Code) → at_start c ≡ None → c ≡ None
start_none None e = refl
start_none (Some c) e = absurd (cc)

full_none : (n : ℕ) (c : Code) (i : ℕ) → full_at n c i ≡ None → i < n
full_none n c i e = by_test (nat_le n i) refl
  where
    some_code : Option Code
    some_code = Some c

    by_test : (b : Bool) → nat_le n i ≡ b → i < n
    by_test true t = let no : some_code ≡ None = subst (λ (b : Bool). cond b (Some c) None ≡ None) t e in absurd (cc)
    by_test false t = grind (arith, nat_tests)

-- a text without a fault at the limit has no other fault, and no more tokens than the limit
pub cut_none : (l : ℕ) (c : Code) (n : ℕ) (x : Fault) → None ≡ cut_at l c n x → (x ≡ None) × (n ≤ l)
cut_none l c n None e = (refl, by_test (nat_lt l n) refl)
  where
    some_fault : Fault
    some_fault = Some (l, c)

    by_test : (b : Bool) → nat_lt l n ≡ b → n ≤ l
    by_test true t = let no : None ≡ some_fault = subst (λ (b : Bool). None ≡ cond b some_fault None) t e in absurd (cc)
    by_test false t = grind (arith, nat_tests)
cut_none l c n (Some f) e = absurd (by_test (nat_lt l f.0) refl)
  where
    by_test : (b : Bool) → nat_lt l f.0 ≡ b → ⊥
    by_test true t = let no : None ≡ cond true (Some (l, c)) (Some f) = subst (λ (b : Bool). None ≡ cond b (Some (l, c)) (Some f)) t e in cc
    by_test false t = let no : None ≡ cond false (Some (l, c)) (Some f) = subst (λ (b : Bool). None ≡ cond b (Some (l, c)) (Some f)) t e in cc

-- ---- lists

module _ {A : Type 0} (n : ℕ) (c : Code) (G : Language A) (P : A → Type 0) (holds : (s : List Token) (t : A) (r : List Token) → G s t None r → P t) where
  many_within : (i : ℕ) (s : List Token) (ts : List A) (r : List Token) → Many (full_at n c) G i s ts None r → i ≤ n → (i + length ts ≤ n) × AllByRecursion P ts
  many_within i s [] r h le = (omega (arith, le), tt)
  many_within i s (a ∷ more) r h le =
      let faults = both_none (option_or (at_start (full_at n c i)) h.1) (taken s h.0) h.2 h.5 in
      let none = either_none (at_start (full_at n c i)) h.1 faults.0 in
      let lt = full_none n c i (start_none (full_at n c i) none.0) in
      let later = many_within (suc i) h.0 more r (subst (λ (o : Fault). Many (full_at n c) G (suc i) h.0 more o r) faults.1 h.4) lt in
      (omega (arith, later.0), (holds s a h.0 (subst (λ (o : Fault). G s a o h.0) none.1 h.3), later.1))

-- texts of G, each of which has two tokens
module _ {A : Type 0} (G : Language A) (two : (s : List Token) (t : A) (o : Fault) (r : List Token) → G s t o r → length s ≡ 2 + length r) where
  many_twos : (i : ℕ) (s : List Token) (ts : List A) (o : Fault) (r : List Token) → Many any G i s ts o r → length s ≡ 2 * length ts + length r
  many_twos i s [] o r h = let same = ap (λ (l : List Token). length l) h.0 in omega (arith, same)
  many_twos i s (a ∷ more) o r h =
      let here = two s a h.1 h.0 h.3 in
      let later = many_twos (suc i) h.0 more h.2 r h.4 in
      omega (arith, here, later)

abbrev choice : Grammar Choice
choice = pick may_follow_target_name unguarded guarded

-- ---- texts without a fault, given the languages R of the nonterminals

module _ (R : (n : Nonterminal) → Language (TreeOf n)) where
  seq_none : {A B : Type 0} (g : Grammar A) (h : Grammar B) (s : List Token) (t : A × B) (r : List Token) → Derives R (seq g h) s t None r
      → (m : List Token) × Derives R g s t.0 None m × Derives R h m t.1 None r
  seq_none g h s t r d =
      let none = both_none d.1 (taken s d.0) d.2 d.5 in
      (d.0, subst (λ (o : Fault). Derives R g s t.0 o d.0) none.0 d.3, subst (λ (o : Fault). Derives R h d.0 t.1 o r) none.1 d.4)

  prefixed_none : {A : Type 0} (k : Terminal) (g : Grammar A) (s : List Token) (t : A) (r : List Token)
      → Derives R (prefixed_by k g) s t None r → (m : List Token) × Derives R g m t None r
  prefixed_none {A} k g s t r d =
      let parts = seq_none (word k) g s d.0 r d.1 in
      (parts.0, subst (λ (u : A). Derives R g parts.0 u None r) d.2 parts.2)

  suffixed_none : {A : Type 0} (k : Terminal) (g : Grammar A) (s : List Token) (t : A) (r : List Token)
      → Derives R (suffixed_by k g) s t None r → (m : List Token) × Derives R g s t None m
  suffixed_none {A} k g s t r d =
      let parts = seq_none g (word k) s d.0 r d.1 in
      (parts.0, subst (λ (u : A). Derives R g s u None parts.0) d.2 parts.1)

  -- ---- dependences and flows

  unguarded_has : (s : List Token) (t : Choice) (o : Fault) (r : List Token) → Derives R unguarded s t o r → IsSome t.2 → IsSome t.0
  unfolding unguarded
  unguarded_has s t o r d some = let same : t.2 ≡ None = sym (ap (λ (c : Choice). c.2) d.2) in absurd (cc)

  guarded_has : (s : List Token) (t : Choice) (o : Fault) (r : List Token) → Derives R guarded s t o r → IsSome t.2 → IsSome t.0
  unfolding guarded
  guarded_has s t o r d some = subst (λ (c : Choice). IsSome c.0) d.2 refl

  choice_has : (s : List Token) (t : Choice) (o : Fault) (r : List Token) → (Derives R unguarded s t o r ⊎ Derives R guarded s t o r) → IsSome t.2 → IsSome t.0
  choice_has s t o r (inl u) = unguarded_has s t o r u
  choice_has s t o r (inr u) = guarded_has s t o r u

  dependence_has : (s : List Token) (t : DepTree) (r : List Token) → Derives R dependence s t None r → HasGuardForSecond t
  unfolding dependence
  dependence_has s t r d =
      let after_arrow = seq_none arrow (seq choice (opt datatype)) s d.0 r d.1 in
      let parts = seq_none choice (opt datatype) after_arrow.0 d.0.1 r after_arrow.2 in
      subst HasGuardForSecond d.2 (choice_has after_arrow.0 d.0.1.0 None parts.0 parts.1)

  flow_within : (s : List Token) (t : FlowTree) (r : List Token) → Derives R flow s t None r → IsFlowWithinLimits t
  unfolding flow dependences
  flow_within s t r d =
      let after_kind = seq_none kind_of_flow (seq (name Class) dependences) s d.0 r d.1 in
      let after_name = seq_none (name Class) dependences after_kind.0 d.0.1 r after_kind.2 in
      let within = many_within 16 TooManyDeps (Derives R dependence) HasGuardForSecond dependence_has 0 after_name.0 d.0.1.1 r after_name.2 (omega arith) in
      subst IsFlowWithinLimits d.2 (record { count = omega (arith, within.0); deps = within.1 })

  -- ---- parameters

  name_takes : (s : List Token) (t : Word) (o : Fault) (r : List Token) → Derives R (name Class) s t o r → length s ≡ 1 + length r
  name_takes s t o r d = let same = ap (λ (l : List Token). length l) d.1.0.0 in omega (arith, same)

  next_takes : (s : List Token) (t : Word) (o : Fault) (r : List Token) → Derives R (prefixed_by terminal.Comma (name Class)) s t o r → length s ≡ 2 + length r
  next_takes s t o r d =
      let comma = ap (λ (l : List Token). length l) d.1.3.0.0 in
      let named = name_takes d.1.0 d.0.1 d.1.2 r d.1.4 in
      omega (arith, comma, named)

  parameters_within : (s : List Token) (t : List Word) (r : List Token) → Derives R parameters s t None r → length t ≤ 8
  unfolding parameters
  parameters_within s t r d =
      let cut = cut_none 16 TooManyParams (taken s r) d.0 d.2 in
      let list = d.1 in
      let first = name_takes s list.0.0 list.1.1 list.1.0 list.1.3 in
      let others = many_twos (Derives R (prefixed_by terminal.Comma (name Class))) next_takes 0 list.1.0 list.0.1 list.1.2 r list.1.4 in
      let count = ap (λ (l : List Word). length l) (sym list.2) in
      omega (arith, cut.1, first, others, count)

  parameter_list_within : (s : List Token) (t : List Word) (r : List Token) → Derives R parameter_list s t None r → length t ≤ 8
  unfolding parameter_list
  parameter_list_within s t r d =
      let inside = prefixed_none terminal.LeftParen (suffixed_by terminal.RightParen (maybe parameters)) s t r d in
      let list = suffixed_none terminal.RightParen (maybe parameters) inside.0 t r inside.1 in
      subst (λ (ws : List Word). length ws ≤ 8) list.1.2 (go inside.0 list.0 list.1.0 list.1.1)
    where
      go : (s' r' : List Token) (o : Option (List Word)) → Derives R (opt parameters) s' o None r' → length (unwrap_or o []) ≤ 8
      go s' r' None d' = omega arith
      go s' r' (Some ws) d' = parameters_within s' ws r' d'

  -- ---- classes

  class_within : (s : List Token) (t : ClassTree) (r : List Token) → Derives R class s t None r → IsClassWithinLimits t
  unfolding class head rest definitions flows
  class_within s t r d =
      let parts = seq_none head rest s d.0 r d.1 in
      let named = seq_none (name Class) (seq parameter_list (opt properties)) s d.0.0 parts.0 parts.1 in
      let listed = seq_none parameter_list (opt properties) named.0 d.0.0.1 parts.0 named.2 in
      let defined = seq_none definitions (seq affinity (seq flows (seq (opt priority) body))) parts.0 d.0.1 r parts.2 in
      let placed = seq_none affinity (seq flows (seq (opt priority) body)) defined.0 d.0.1.1 r defined.2 in
      let flowing = seq_none flows (seq (opt priority) body) placed.0 d.0.1.1.1 r placed.2 in
      let defs = many_within 16 TooManyLocals (Derives R definition) (λ _. Unit {0}) (λ s' t' r' d'. tt) 0 parts.0 d.0.1.0 defined.0 defined.1 (omega arith) in
      let all_flows = many_within 8 TooManyFlows (Derives R flow) IsFlowWithinLimits flow_within 0 placed.0 d.0.1.1.1.0 flowing.0 flowing.1 (omega arith) in
      subst IsClassWithinLimits d.2 (record {
        params = parameter_list_within named.0 d.0.0.1.0 listed.0 listed.1;
        defs =
            omega (arith, defs.0);
        count = omega (arith, all_flows.0);
        flows = all_flows.1;
      })

  class_and_skips_within : (s : List Token) (t : ClassTree) (r : List Token) → Derives R class_and_skips s t None r → IsClassWithinLimits t
  unfolding class_and_skips
  class_and_skips_within s t r d =
      let parts = seq_none class (star any skip) s d.0 r d.1 in
      subst IsClassWithinLimits d.2 (class_within s d.0.0 parts.0 parts.1)

  -- ---- texts

  classes_within : (s : List Token) (t : List ClassTree) (r : List Token) → Derives R classes s t None r → IsWithinLimits (without_globals t)
  unfolding classes
  classes_within s t r d =
      let parts = seq_none class_and_skips (star (full_at 63 TooManyClasses) class_and_skips) s d.0 r d.1 in
      let first = class_and_skips_within s d.0.0 parts.0 parts.1 in
      let others = many_within 63 TooManyClasses (Derives R class_and_skips) IsClassWithinLimits
      class_and_skips_within 0 parts.0 d.0.1 r parts.2 (omega arith) in
      subst (λ (ts : List ClassTree). IsWithinLimits (without_globals ts)) d.2 (record { count = omega (arith, others.0); classes = (first, others.1) })

  abbrev with_global_within : {jdf : Jdf} (name : Word) → IsWithinLimits jdf → IsWithinLimits (with_global name jdf)
  with_global_within name w = record { count = w.count; classes = w.classes }

  module _ (known : (s : List Token) (t : Jdf) (r : List Token) → R a_file s t None r → IsWithinLimits t) where
    after_none : (q : Terminal → Bool) (s : List Token) (t : Token × Jdf) (r : List Token) → Derives R (after_token q a_file) s t None r → IsWithinLimits t.1
    after_none q s t r d = known d.0 t.1 r (subst (λ (o : Fault). R a_file d.0 t.1 o r) (both_none None 1 d.1 d.4).1 d.3)

    after_extern : (s : List Token) (t : Jdf) (r : List Token) → Derives R file_after_extern s t None r → IsWithinLimits t
    unfolding file_after_extern
    after_extern s t r d =
        let quoted = seq_none (word terminal.Extern) (seq (word terminal.Quoted) (after_token (is terminal.Raw) a_file)) s d.0 r d.1 in
        let raw = seq_none (word terminal.Quoted) (after_token (is terminal.Raw) a_file) quoted.0 d.0.1 r quoted.2 in
        subst IsWithinLimits d.2 (after_none (is terminal.Raw) raw.0 d.0.1.1 r raw.2)

    after_option : (s : List Token) (t : Jdf) (r : List Token) → Derives R file_after_option s t None r → IsWithinLimits t
    unfolding file_after_option
    after_option s t r d = subst IsWithinLimits d.2 (after_none (is terminal.OptionLine) s d.0 r d.1)

    after_properties : (s : List Token) (t : Jdf) (r : List Token) → Derives R file_after_properties s t None r → IsWithinLimits t
    unfolding file_after_properties
    after_properties s t r d =
        let inside = seq (star any (one_of is_no_right_bracket)) (after_token (is terminal.RightBracket) a_file) in
        let named = seq_none (name Class) (seq (word terminal.LeftBracket) inside) s d.0 r d.1 in
        let bracketed = seq_none (word terminal.LeftBracket) inside named.0 d.0.1 r named.2 in
        let skipped = seq_none (star any (one_of is_no_right_bracket)) (after_token (is terminal.RightBracket) a_file) bracketed.0 d.0.1.1 r bracketed.2 in
        subst IsWithinLimits d.2 (with_global_within d.0.0 (after_none (is terminal.RightBracket) skipped.0 d.0.1.1.1 r skipped.2))

    after_global : (s : List Token) (t : Jdf) (r : List Token) → Derives R file_after_global s t None r → IsWithinLimits t
    unfolding file_after_global
    after_global s t r d = subst IsWithinLimits d.2 (with_global_within (word_of d.0.0) (after_none is_name s d.0 r d.1))

    file_within : (s : List Token) (t : Jdf) (r : List Token) → Derives R file s t None r → IsWithinLimits t
    unfolding file
    file_within s t r (inl d) = after_extern s t r d
    file_within s t r (inr (inl d)) = after_option s t r d
    file_within s t r (inr (inr (inl d))) = subst IsWithinLimits d.2 (classes_within s d.0 r d.1)
    file_within s t r (inr (inr (inr (inl d)))) = after_properties s t r d
    file_within s t r (inr (inr (inr (inr d)))) = after_global s t r d

deep_within : (depth : ℕ) (s : List Token) (t : Jdf) (r : List Token) → DerivedWithin productions depth a_file s t None r → IsWithinLimits t
unfolding productions
deep_within zero s t r d = absurd d
deep_within (suc depth) s t r d = file_within (DerivedWithin productions depth) (deep_within depth) s t r d

derived_within : (s : List Token) (t : Jdf) (r : List Token) → Derived productions a_file s t None r → IsWithinLimits t
derived_within s t r d = deep_within d.depth s t r d.derives

pub texts_within : (bytes : List ℕ) (jdf : Jdf) → IsJdf bytes jdf → IsWithinLimits jdf
texts_within bytes jdf h = file_within (Derived productions) derived_within h.tokens jdf [] h.text
