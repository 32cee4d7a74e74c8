-- In a consistent job of two texts, the names of classes are spelled as names, and the parameters of tasks have 64
-- bits.
use Rattle.std.proofs.Common.{◌≡◌, ℕ, zero, suc, ℤ, Bool, true, false, cond, ◌&&◌, List, [], ◌∷◌, ◌++◌, Option, Some}
use Rattle.std.proofs.Common.{None, is_some, option_map, IsTrue, Result, Ok, Err, refl, ap, sym, ◌∙◌, subst, arith, inl}
use Rattle.std.proofs.Common.{inr, length, slice_get}
use Rattle.std.specs.List.{AllByRecursion, list_all}
use Rattle.std.specs.Map.{lookup}
use Rattle.std.specs.Option.{option_map_or}
use Rattle.std.specs.Result.{result_ok}
use Rattle.std.specs.Str.{bytes_eq}
use Rattle.std.proofs.lemmas.Bool.{and_from, and_parts}
use Rattle.std.proofs.lemmas.Option.{same_Some, slice_get_within}
use Rattle.ptg_base.specs.Lists.{IsIn}
use Rattle.ptg_base.specs.Names.{is_name}
use Rattle.ptg_base.specs.Returns.{and_then}
use Rattle.ptg_base.specs.Task.{Task}
use Rattle.list_lemmas.proofs.Options.{from_is_some_and, from_option_map, same_Ok}
use Rattle.list_lemmas.proofs.Places.{slice_get_there}
use Rattle.list_lemmas.proofs.Truth.{chosen}
use Rattle.term_core.specs.Arith.{is_number}
use Rattle.term_core.specs.Term.{Term}
use Rattle.term_core.specs.Term as term
use Rattle.term_core.specs.declared.space.ClassSpace.{ClassSpace}
use Rattle.term_core.specs.declared.space.Def.{Def}
use Rattle.term_core.specs.declared.space.Def.TheVariants as def
use Rattle.term_core.specs.declared.space.Range.{Range}
use Rattle.range_space.specs.Tasks.{tasks}
use Rattle.edge_laws.specs.Numbers as terms
use Rattle.edge_laws.proofs.CallerLemmas.{parameters_numbers}
use Rattle.jdf_lex.specs.declared.fault.JdfFault.{JdfFault}
use Rattle.jdf_tree.specs.Expression.{Expression, Num, Name, Elem, Unary, Binary, Choose}
use Rattle.jdf_tree.specs.declared.expression.Word.{Word}
use Rattle.jdf_tree.specs.declared.tree.ArgTree.{ArgTree}
use Rattle.jdf_tree.specs.declared.tree.ArgTree.TheVariants as tree
use Rattle.jdf_tree.specs.declared.tree.ClassTree.{ClassTree}
use Rattle.jdf_tree.specs.declared.tree.DefTree.{DefTree}
use Rattle.print_laws.specs.Spelled.{IsSpelledClass, argument_has_numbers, def_has_numbers, has_numbers}
use Rattle.print_laws.proofs.CallerLemmas.{tree_spelled}
use Rattle.expr_names.specs.Expressions as expression
use Rattle.expr_names.specs.Expressions.{together}
use Rattle.expr_names.specs.Meanings.{collection_or_nothing, outer_meaning, value_of}
use Rattle.expr_names.specs.Symbols.{Resolved}
use Rattle.expr_names.specs.declared.meaning.Meaning.{Meaning}
use Rattle.expr_names.specs.declared.meaning.Meaning.TheVariants as meaning
use Rattle.plan_core.specs.declared.class.ClassPlan.{ClassPlan}
use Rattle.plan_core.specs.NamesByNumber.{class_name}
use Rattle.plan_core.specs.declared.plan.Plan.{Plan}
use Rattle.coll_data.specs.Data.{Data}
use Rattle.data_laws.specs.Integers.{has_64_bits}
use Rattle.data_laws.proofs.CallerLemmas.{integers_numbers}
use Rattle.dep_iter.specs.Tasks.{IsTask}
use Rattle.type_rules.specs.Arguments.{range_of}
use Rattle.type_rules.specs.Definitions.{definition_of, definitions_of, parameter_of, space_of}
use Rattle.type_rules.specs.Expressions.{option_term, symbols_of, term_of}
use Rattle.type_rules.specs.Names.{Job, coll_named, int_named, is_declared, local_named, meaning_of}
use Rattle.type_rules.specs.Returns.{both, each, each_option}
use Rattle.type_rules.proofs.CallerLemmas.{option_there, pair_of, parts_of}
use Rattle.type_check.specs.Bodies.{BodyResult}
use Rattle.type_check.specs.Check.{classes_plan}
use Rattle.type_check.specs.Classes.{class_plan}
use Rattle.type_check.proofs.CallerLemmas.{class_of}
use Rattle.job_stages.specs.Verdict.{TextsDenote}
use Rattle.job_stages.specs.declared.verdict.JobVerdict.TheVariants as verdicts

-- ---- the numbers of a resolved expression are those of its tree and of the data

listed_number : (test : List ℕ → Bool) (ints : List (List ℕ × ℤ)) (z : ℤ) → list_all has_64_bits ints ≡ true
    → lookup test ints ≡ Some z → is_number z ≡ true
listed_number test [] z h e = absurd cc
listed_number test (p ∷ ps) z h e =
    let parts = and_parts (has_64_bits p) (list_all has_64_bits ps) h in
    elim (chosen (test p.0) (Some p.1) (lookup test ps) (Some z) e) [
      | inl q ↦ subst (λ x. is_number x ≡ true) (same_Some p.1 z q.1) parts.0
      | inr q ↦ listed_number test ps z parts.1 q.1
    ]

then_parts : {A B E : Type 0} (r : Result A E) (f : A → Result B E) (z : B) → and_then r f ≡ Ok z
    → (x : A) × (r ≡ Ok x) × (f x ≡ Ok z)
then_parts (Ok x) f z e = (x, refl, e)
then_parts (Err d) f z e = absurd cc

together_parts : {A B : Type 0} (reported : JdfFault → JdfFault → JdfFault) (r : Resolved A) (s : Resolved B) (z : A × B)
    → together reported r s ≡ Ok z → (r ≡ Ok z.0) × (s ≡ Ok z.1)
together_parts reported (Ok x) (Ok y) z e = let same = same_Ok (x, y) z e in (ap (λ p. Ok p.0) same, ap (λ p. Ok p.1) same)
together_parts reported (Ok x) (Err g) z e = absurd cc
together_parts reported (Err f) (Ok y) z e = absurd cc
together_parts reported (Err f) (Err g) z e = absurd cc

module _ (job : Job) (fit : list_all has_64_bits job.given.ints ≡ true) where
  int_number : (name : List ℕ) (z : ℤ) → int_named job name ≡ Some z → is_number z ≡ true
  int_number name z e =
      elim (chosen (is_declared job name) (lookup (bytes_eq name) job.given.ints) None (Some z) e) [
        | inl p ↦ listed_number (bytes_eq name) job.given.ints z fit p.1
        | inr p ↦ let k = p.1 in absurd cc
      ]

  name_numbers : (w : Word) (local : Option ℕ) (integer : Option ℤ) (coll : Bool) (t : Term)
      → ((z : ℤ) → integer ≡ Some z → is_number z ≡ true)
      → value_of w (outer_meaning local integer coll) ≡ Ok t → terms.has_numbers t ≡ true
  name_numbers w (Some n) integer coll t h e = subst (λ x. terms.has_numbers x ≡ true) (same_Ok (term.Local n) t e) refl
  name_numbers w None (Some z) coll t h e = subst (λ x. terms.has_numbers x ≡ true) (same_Ok (term.Num z) t e) (h z refl)
  name_numbers w None None true t h e = absurd cc
  name_numbers w None None false t h e = absurd cc

  resolved_numbers : (seen : List DefTree) (e : Expression) (t : Term) → has_numbers e ≡ true
      → expression.term_of (symbols_of job seen) e ≡ Ok t → terms.has_numbers t ≡ true
  resolved_numbers seen (Num z spot) t h e = subst (λ x. terms.has_numbers x ≡ true) (same_Ok (term.Num z) t e) h
  resolved_numbers seen (Name w) t h e =
      name_numbers w (local_named seen w.text) (int_named job w.text) (is_some (coll_named job w.text)) t (int_number w.text) e
  resolved_numbers seen (Elem w at) t h e = absurd cc
  resolved_numbers seen (Unary o a spot) t h e =
      let p = then_parts (expression.term_of (symbols_of job seen) a) (λ x. Ok (term.Unary o x)) t e in
      subst (λ x. terms.has_numbers x ≡ true) (same_Ok (term.Unary o p.0) t p.2) (resolved_numbers seen a p.0 h p.1)
  resolved_numbers seen (Binary o a b) t h e =
      let names = symbols_of job seen in
      let left = expression.term_of names a in
      let right = expression.term_of names b in
      let p = then_parts (together names.reported left right) (λ (x : Term × Term). Ok (term.Binary o x.0 x.1)) t e in
      let q = together_parts names.reported left right p.0 p.1 in
      let k = and_parts (has_numbers a) (has_numbers b) h in
      subst (λ x. terms.has_numbers x ≡ true) (same_Ok (term.Binary o p.0.0 p.0.1) t p.2)
      (and_from (terms.has_numbers p.0.0) (terms.has_numbers p.0.1) (resolved_numbers seen a p.0.0 k.0 q.0) (resolved_numbers seen b p.0.1 k.1 q.1))
  resolved_numbers seen (Choose c a b) t h e =
      let names = symbols_of job seen in
      let test = expression.term_of names c in
      let first = expression.term_of names a in
      let second = expression.term_of names b in
      let p = then_parts (together names.reported test (together names.reported first second))
      (λ (x : Term × (Term × Term)). Ok (term.Choose x.0 x.1.0 x.1.1)) t e in
      let q = together_parts names.reported test (together names.reported first second) p.0 p.1 in
      let r = together_parts names.reported first second p.0.1 q.1 in
      let k = and_parts (has_numbers c) (has_numbers a && has_numbers b) h in
      let l = and_parts (has_numbers a) (has_numbers b) k.1 in
      subst (λ x. terms.has_numbers x ≡ true) (same_Ok (term.Choose p.0.0 p.0.1.0 p.0.1.1) t p.2)
      (and_from (terms.has_numbers p.0.0) (terms.has_numbers p.0.1.0 && terms.has_numbers p.0.1.1) (resolved_numbers seen c p.0.0 k.0 q.0)
      (and_from (terms.has_numbers p.0.1.0) (terms.has_numbers p.0.1.1) (resolved_numbers seen a p.0.1.0 l.0 r.0) (resolved_numbers seen b p.0.1.1 l.1 r.1)))

  ok_value : (r : Resolved Term) (t : Term) → result_ok r ≡ Some t → r ≡ Ok t
  ok_value (Ok x) t e = ap Ok (same_Some x t e)
  ok_value (Err f) t e = absurd cc

  term_numbers : (seen : List DefTree) (e : Expression) (t : Term) → has_numbers e ≡ true → term_of job seen e ≡ Some t
      → terms.has_numbers t ≡ true
  unfolding term_of
  term_numbers seen e t h k = resolved_numbers seen e t h (ok_value (expression.term_of (symbols_of job seen) e) t k)

  -- ---- definitions

  option_numbers : (seen : List DefTree) (e : Option Expression) (o : Option Term) → option_map_or has_numbers e true ≡ true
      → option_term job seen e ≡ Some o → option_map_or terms.has_numbers o true ≡ true
  option_numbers seen None o h k = subst (λ o. option_map_or terms.has_numbers o true ≡ true) (same_Some None o k) refl
  option_numbers seen (Some e) o h k =
      let p = option_there (term_of job seen) e o k in
      subst (λ o. option_map_or terms.has_numbers o true ≡ true) p.2 (term_numbers seen e p.0 h p.1)

  range_numbers : (seen : List DefTree) (lo hi : Expression) (step : Option Expression) (r : Range)
      → (has_numbers lo && (has_numbers hi && option_map_or has_numbers step true)) ≡ true
      → range_of job seen lo hi step ≡ Some r → terms.range_has_numbers r ≡ true
  range_numbers seen lo hi step r h k =
      let p = parts_of (λ x (y : Term × Option Term). record { lo = x; hi = y.0; step = y.1 }) (term_of job seen lo)
      (both (λ x y. (x, y)) (term_of job seen hi) (option_term job seen step)) r k in
      let q = parts_of (λ x y. (x, y)) (term_of job seen hi) (option_term job seen step) p.1 p.3 in
      let l = and_parts (has_numbers lo) (has_numbers hi && option_map_or has_numbers step true) h in
      let m = and_parts (has_numbers hi) (option_map_or has_numbers step true) l.1 in
      let second = subst (λ (y : Term × Option Term). (terms.has_numbers y.0 && option_map_or terms.has_numbers y.1 true) ≡ true) q.4
      (and_from (terms.has_numbers q.0) (option_map_or terms.has_numbers q.1 true) (term_numbers seen hi q.0 m.0 q.2) (option_numbers seen step q.1 m.1 q.3)) in
      subst (λ (r : Range). terms.range_has_numbers r ≡ true) p.4
      (and_from (terms.has_numbers p.0) (terms.has_numbers p.1.0 && option_map_or terms.has_numbers p.1.1 true) (term_numbers seen lo p.0 l.0 p.2) second)

  definition_numbers : (seen : List DefTree) (a : ArgTree) (d : Def) → argument_has_numbers a ≡ true → definition_of job seen a ≡ Some d
      → terms.def_has_numbers d ≡ true
  definition_numbers seen (tree.One e) d h k =
      let p = from_option_map def.Value (term_of job seen e) d k in
      subst (λ d. terms.def_has_numbers d ≡ true) p.2 (term_numbers seen e p.0 h p.1)
  definition_numbers seen (tree.Span spot lo hi step) d h k =
      let p = from_option_map def.Span (range_of job seen lo hi step) d k in
      subst (λ d. terms.def_has_numbers d ≡ true) p.2 (range_numbers seen lo hi step p.0 h p.1)

  definitions_numbers : (seen ds : List DefTree) (xs : List Def) → list_all def_has_numbers ds ≡ true → definitions_of job seen ds ≡ Some xs
      → list_all terms.def_has_numbers xs ≡ true
  definitions_numbers seen [] xs h k = subst (λ xs. list_all terms.def_has_numbers xs ≡ true) (same_Some [] xs k) refl
  definitions_numbers seen (d ∷ ds) xs h k =
      let p = parts_of (λ x xs. x ∷ xs) (definition_of job seen d.value) (definitions_of job (seen ++ d ∷ []) ds) xs k in
      let l = and_parts (def_has_numbers d) (list_all def_has_numbers ds) h in
      subst (λ xs. list_all terms.def_has_numbers xs ≡ true) p.4
      (and_from (terms.def_has_numbers p.0) (list_all terms.def_has_numbers p.1)
      (definition_numbers seen d.value p.0 l.0 p.2) (definitions_numbers (seen ++ d ∷ []) ds p.1 l.1 p.3))

  space_numbers : (class : ClassTree) (s : ClassSpace) → list_all def_has_numbers class.defs ≡ true
      → space_of job class.params class.defs ≡ Some s → list_all terms.def_has_numbers s.defs ≡ true
  space_numbers class s h e =
      let p = pair_of (definitions_of job [] class.defs) (each (parameter_of class.defs) class.params) s e in
      subst (λ (s : ClassSpace). list_all terms.def_has_numbers s.defs ≡ true) p.4 (definitions_numbers [] class.defs p.0 h p.2)

  -- ---- classes

  abbrev AreSpelled : List ClassPlan × List ClassSpace → Type 0
  AreSpelled ps =
      (length ps.0 ≡ length ps.1)
      × AllByRecursion (λ (c : ClassPlan). IsTrue (is_name c.name)) ps.0
      × AllByRecursion (λ (s : ClassSpace). list_all terms.def_has_numbers s.defs ≡ true) ps.1

  plans_spelled : (cs : List ClassTree) (bs : List BodyResult) (ps : List ClassPlan × List ClassSpace)
      → AllByRecursion IsSpelledClass cs → classes_plan job cs bs ≡ Some ps → AreSpelled ps
  plans_spelled [] bs ps h e = subst AreSpelled (same_Some ([], []) ps e) (refl, tt, tt)
  plans_spelled (c ∷ cs) [] ps h e = absurd cc
  plans_spelled (c ∷ cs) (b ∷ bs) ps h e =
      let q = parts_of (λ (x : ClassPlan × ClassSpace) (xs : List ClassPlan × List ClassSpace).
      (x.0 ∷ xs.0, x.1 ∷ xs.1)) (class_plan job c b) (classes_plan job cs bs) ps e in
      let parts = class_of job c b q.0 q.2 in
      let rest = plans_spelled cs bs q.1 h.1 q.3 in
      subst AreSpelled q.4 (
        ap suc rest.0,
        (subst (λ n. IsTrue (is_name n)) (sym parts.name) h.0.name, rest.1),
        (space_numbers c q.0.1 h.0.numbers parts.space, rest.2),
      )

each_at : {A : Type 0} (Q : A → Type 0) (xs : List A) (n : ℕ) (x : A) → AllByRecursion Q xs → slice_get xs n ≡ Some x → Q x
each_at Q [] n x h e = absurd (nowhere n e)
  where
    nowhere : {A : Type 0} {x : A} (n : ℕ) → slice_get [] n ≡ Some x → ⊥
    nowhere zero e = cc
    nowhere (suc n) e = cc
each_at Q (y ∷ ys) zero x h e = subst Q (same_Some y x e) h.0
each_at Q (y ∷ ys) (suc n) x h e = each_at Q ys n x h.1 e

module _ (jdf_text data_text : List ℕ) (P : Plan) (given : Data) where
  abbrev IsSpelledPlan : Type 0
  IsSpelledPlan =
      (length P.classes ≡ length P.spaces)
      × AllByRecursion (λ (c : ClassPlan). IsTrue (is_name c.name)) P.classes
      × AllByRecursion (λ (s : ClassSpace). list_all terms.def_has_numbers s.defs ≡ true) P.spaces

  spelled : TextsDenote jdf_text data_text (verdicts.Consistent P given) → IsSpelledPlan
  spelled (inl h) = let e = h.2 in absurd cc
  spelled (inr (inl h)) = let e = h.4 in absurd cc
  spelled (inr (inr h)) =
      let job = h.0 in
      let resolved = h.2.0.plan.resolved in
      plans_spelled job (integers_numbers data_text job.given h.1.spelled.spelled) job.jdf.classes resolved.bodies (P.classes, P.spaces)
      (tree_spelled jdf_text job.jdf h.1.tree) resolved.plans

  -- the class of a task has a name, since each class has a space
  pub names_spelled : TextsDenote jdf_text data_text (verdicts.Consistent P given) → (t : Task) → IsTask P t → IsTrue (is_name (class_name P t.class))
  names_spelled h t job =
      let all = spelled h in
      let p = from_is_some_and (slice_get P.spaces t.class) (λ s. IsIn t.params (tasks s)) job in
      let within = slice_get_within P.spaces t.class p.0 p.1 in
      let counts = all.0 in
      let c = slice_get_there P.classes t.class (omega arith) in
      subst (λ o. IsTrue (is_name (option_map_or (λ (c : ClassPlan). c.name) o []))) (sym c.1)
      (each_at (λ (c : ClassPlan). IsTrue (is_name c.name)) P.classes t.class c.0 all.1 c.1)

  pub params_numbers : TextsDenote jdf_text data_text (verdicts.Consistent P given) → (t : Task) → IsTask P t → list_all is_number t.params ≡ true
  params_numbers h t job =
      let p = from_is_some_and (slice_get P.spaces t.class) (λ s. IsIn t.params (tasks s)) job in
      parameters_numbers p.0 t.params (each_at (λ (s : ClassSpace). list_all terms.def_has_numbers s.defs ≡ true) P.spaces t.class p.0 (spelled h).2 p.1) p.2
