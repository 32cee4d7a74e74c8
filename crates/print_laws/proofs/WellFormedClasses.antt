-- Each tree of a text is well formed.
use Rattle.std.proofs.Common.{◌≡◌, ℕ, zero, suc, ◌+◌, ◌*◌, ◌≤◌, Bool, true, List, [], ◌∷◌, length, refl, sym, ap, subst, ◌∙◌, arith}
use Rattle.std.specs.Prelude.{Option, Some, None, not}
use Rattle.std.proofs.lemmas.Bool.{and_parts}
use Rattle.grammar_core.specs.declared.token.Token.{Token}
use Rattle.jdf_lex.specs.declared.terminal.Terminal.{Terminal}
use Rattle.jdf_lex.specs.declared.terminal.Terminal.TheVariants as terminal
use Rattle.jdf_lex.specs.Codes.{TooManyParams, TooManyLocals, TooManyFlows, TooManyDeps, TooManyClasses}
use Rattle.jdf_lex.specs.Terminals.{is, terminal_of}
use Rattle.jdf_lex.specs.Counted.{is_name}
use Rattle.grammar_core.specs.Production.{map, seq, alt, opt, star, Fault, Language, Many, Derives, DerivedWithin, IsText, taken}
use Rattle.jdf_lex.specs.Sets.{pick, one_of, after_token}
use Rattle.term_core.specs.declared.direction.Direction.{Direction}
use Rattle.jdf_tree.specs.declared.expression.Word.{Word}
use Rattle.jdf_tree.specs.declared.expression.ExprWithSpot.{ExprWithSpot}
use Rattle.jdf_tree.specs.declared.part.Part.TheVariants.{Class}
use Rattle.jdf_tree.specs.declared.tree.ArgTree.{ArgTree}
use Rattle.jdf_tree.specs.declared.tree.TargetTree.{TargetTree}
use Rattle.jdf_tree.specs.declared.tree.TargetTree.TheVariants.{New, Null}
use Rattle.jdf_tree.specs.declared.tree.ClassTree.{ClassTree}
use Rattle.jdf_tree.specs.declared.tree.Jdf.{Jdf}
use Rattle.jdf_tree.specs.Expression.{Expression}
use Rattle.jdf_tree.specs.Nonterminal.{Nonterminal, an_expr, a_unary, a_file, TreeOf, Grammar}
use Rattle.jdf_tree.specs.GrammarParts.{word, prefixed_by, suffixed_by, any, maybe, name, word_of}
use Rattle.jdf_tree.specs.ExpressionGrammar.{outer, guard}
use Rattle.jdf_tree.specs.ClassGrammar as grammar
use Rattle.jdf_tree.specs.ClassGrammar.{Choice}
use Rattle.jdf_tree.specs.Grammar as whole
use Rattle.jdf_tree.specs.Grammar.{productions}
use Rattle.print_laws.proofs.Depth.{at_depth}
use Rattle.print_laws.proofs.Expressions.{IsName}
use Rattle.print_laws.proofs.Forms.{Every, IsOuter}
use Rattle.print_laws.proofs.Targets.{IsArgument, IsTarget, IsChoice, IsDependence}
use Rattle.print_laws.proofs.Classes.{IsFlow, IsDefinition, IsParameter, IsPriority, IsInBody, IsBody, IsClass, IsJob}
use Rattle.jdf_tree.proofs.CallerLemmas.{both_none, cut_none}
use Rattle.print_laws.proofs.Ends.{Shortens, derives_has_end}
use Rattle.print_laws.proofs.Known.{IsKnown, name_known, body_known}
use Rattle.print_laws.proofs.WellFormedExpressions as expression
use Rattle.print_laws.proofs.WellFormedExpressions.{FactsOf, known_rest}
use Rattle.print_laws.proofs.Holding as holding
use Rattle.print_laws.proofs.Holding.{IfPresent, AtMostEvery}

-- The trees that this language derives from known tokens without a fault are well-formed jobs.
abbrev pub JobsOf : Language Jdf → Type 0
JobsOf G = (s : List Token) (t : Jdf) (o : Fault) (r : List Token) → G s t o r → o ≡ None → Every IsKnown s → IsJob t

module _ (R : (n : Nonterminal) → Language (TreeOf n)) (B : (n : Nonterminal) → Shortens (R n))
    (E : FactsOf (R (an_expr Class))) (U : FactsOf (R (a_unary Class))) where
  abbrev pub Holds : {A : Type 0} → Grammar A → (A → Type 0) → Type 0
  Holds g P = holding.Holds R B g P

  outer_well_formed : Holds (outer Class) (λ p. IsOuter p.tree)
  outer_well_formed = expression.outer_well_formed R B E U

  guard_well_formed : Holds guard (λ p. IsOuter p.tree)
  guard_well_formed = expression.guard_well_formed R B E U

  -- ---- arguments

  argument_well_formed : Holds grammar.argument IsArgument
  unfolding grammar.argument
  argument_well_formed =
      holding.mapped R B grammar.argument_of (seq (outer Class)
      (opt (seq (prefixed_by terminal.Dots (outer Class)) (opt (prefixed_by terminal.Dots (outer Class))))))
      (λ x. IsOuter x.0.tree × IfPresent (λ y. IsOuter y.0.tree × IfPresent (λ z. IsOuter z.tree) y.1) x.1) IsArgument
      (holding.both R B (outer Class) (opt (seq (prefixed_by terminal.Dots (outer Class))
      (opt (prefixed_by terminal.Dots (outer Class))))) (λ p. IsOuter p.tree)
      (IfPresent (λ y. IsOuter y.0.tree × IfPresent (λ z. IsOuter z.tree) y.1))
      outer_well_formed
      (holding.if_present R B (seq (prefixed_by terminal.Dots (outer Class))
      (opt (prefixed_by terminal.Dots (outer Class)))) (λ y. IsOuter y.0.tree × IfPresent (λ z. IsOuter z.tree) y.1)
      (holding.both R B (prefixed_by terminal.Dots (outer Class)) (opt (prefixed_by terminal.Dots (outer Class)))
      (λ p. IsOuter p.tree) (IfPresent (λ z. IsOuter z.tree))
      (holding.after_word R B terminal.Dots (outer Class) (λ p. IsOuter p.tree) outer_well_formed)
      (holding.if_present R B (prefixed_by terminal.Dots (outer Class)) (λ p. IsOuter p.tree)
      (holding.after_word R B terminal.Dots (outer Class) (λ p. IsOuter p.tree) outer_well_formed)))))
      go
    where
      go : (x : ExprWithSpot × Option (ExprWithSpot × Option ExprWithSpot))
          → IsOuter x.0.tree × IfPresent (λ y. IsOuter y.0.tree × IfPresent (λ z. IsOuter z.tree) y.1) x.1
          → IsArgument (grammar.argument_of x)
      go (a, None) h = h.0
      go (a, Some (b, None)) h = (h.0, h.1.0)
      go (a, Some (b, Some c)) h = (h.0, h.1.0, h.1.1)

  arguments_well_formed : Holds grammar.arguments (Every IsArgument)
  unfolding grammar.arguments
  arguments_well_formed = holding.in_list R B grammar.argument IsArgument argument_well_formed

  call_well_formed : Holds grammar.call (Every IsArgument)
  unfolding grammar.call
  call_well_formed =
      holding.after_word R B terminal.LeftParen (suffixed_by terminal.RightParen (maybe grammar.arguments)) (Every IsArgument)
      (holding.before_word R B terminal.RightParen (maybe grammar.arguments) (Every IsArgument)
      (holding.or_nothing R B grammar.arguments (Every IsArgument) tt arguments_well_formed))

  -- ---- targets

  called_well_formed : Holds grammar.called IsTarget
  unfolding grammar.called
  called_well_formed =
      holding.mapped R B grammar.target_of (seq (name Class) (seq (opt (name Class)) grammar.call))
      (λ x. IsName x.0.text × (IfPresent (λ w. IsName w.text) x.1.0 × Every IsArgument x.1.1)) IsTarget
      (holding.both R B (name Class) (seq (opt (name Class)) grammar.call) (λ w. IsName w.text) (λ x. IfPresent (λ w. IsName w.text) x.0 × Every IsArgument x.1)
      (holding.name_well_formed R B)
      (holding.both R B (opt (name Class)) grammar.call (IfPresent (λ w. IsName w.text)) (Every IsArgument)
      (holding.if_present R B (name Class) (λ w. IsName w.text) (holding.name_well_formed R B)) call_well_formed))
      go
    where
      go : (x : Word × (Option Word × List ArgTree)) → IsName x.0.text
          × (IfPresent (λ w. IsName w.text) x.1.0 × Every IsArgument x.1.1) → IsTarget (grammar.target_of x)
      go (a, (None, args)) h = (h.0, h.1.1)
      go (a, (Some b, args)) h = (h.0, h.1.0, h.1.1)

  target_well_formed : Holds grammar.target IsTarget
  unfolding grammar.target
  target_well_formed =
      holding.one_or R B (map (λ x. New x.spot) (word terminal.New)) (alt (map (λ x. Null x.spot) (word terminal.Null)) grammar.called) IsTarget
      (holding.mapped R B (λ x. New x.spot) (word terminal.New) (λ x. Unit {0}) IsTarget (holding.free R B (word terminal.New)) (λ a h. tt))
      (holding.one_or R B (map (λ x. Null x.spot) (word terminal.Null)) grammar.called IsTarget
      (holding.mapped R B (λ x. Null x.spot) (word terminal.Null) (λ x. Unit {0}) IsTarget
      (holding.free R B (word terminal.Null)) (λ a h. tt)) called_well_formed)

  -- ---- dependences

  unguarded_well_formed : Holds grammar.unguarded IsChoice
  unfolding grammar.unguarded
  unguarded_well_formed = holding.mapped R B (λ x. (None, x, None)) grammar.target IsTarget IsChoice target_well_formed (λ a h. h)

  guarded_well_formed : Holds grammar.guarded IsChoice
  unfolding grammar.guarded
  guarded_well_formed =
      holding.mapped R B (λ x. (Some x.0.tree, x.1.0, x.1.1))
      (seq guard (prefixed_by terminal.Question (seq grammar.target
      (opt (prefixed_by terminal.Colon grammar.target)))))
      (λ x. IsOuter x.0.tree × (IsTarget x.1.0 × IfPresent IsTarget x.1.1)) IsChoice
      (holding.both R B guard (prefixed_by terminal.Question
      (seq grammar.target (opt (prefixed_by terminal.Colon grammar.target)))) (λ p. IsOuter p.tree)
      (λ x. IsTarget x.0 × IfPresent IsTarget x.1)
      guard_well_formed
      (holding.after_word R B terminal.Question (seq grammar.target (opt (prefixed_by terminal.Colon grammar.target)))
      (λ x. IsTarget x.0 × IfPresent IsTarget x.1)
      (holding.both R B grammar.target (opt (prefixed_by terminal.Colon grammar.target)) IsTarget (IfPresent IsTarget) target_well_formed
      (holding.if_present R B (prefixed_by terminal.Colon grammar.target) IsTarget
      (holding.after_word R B terminal.Colon grammar.target IsTarget target_well_formed)))))
      go
    where
      go : (x : ExprWithSpot × (TargetTree × Option TargetTree))
          → IsOuter x.0.tree × (IsTarget x.1.0 × IfPresent IsTarget x.1.1) → IsChoice (Some x.0.tree, x.1.0, x.1.1)
      go (c, (t, None)) h = (h.0, h.1.0)
      go (c, (t, Some u)) h = (h.0, h.1.0, h.1.1)

  datatype_well_formed : Holds grammar.datatype (λ w. IsName w.text)
  unfolding grammar.datatype
  datatype_well_formed =
      holding.after_word R B terminal.LeftBracket (prefixed_by terminal.TypeWord
      (prefixed_by terminal.Assign (suffixed_by terminal.RightBracket (name Class)))) (λ w. IsName w.text)
      (holding.after_word R B terminal.TypeWord (prefixed_by terminal.Assign (suffixed_by terminal.RightBracket (name Class))) (λ w. IsName w.text)
      (holding.after_word R B terminal.Assign (suffixed_by terminal.RightBracket (name Class)) (λ w. IsName w.text)
      (holding.before_word R B terminal.RightBracket (name Class) (λ w. IsName w.text) (holding.name_well_formed R B))))

  dependence_well_formed : Holds grammar.dependence IsDependence
  unfolding grammar.dependence
  dependence_well_formed =
      holding.mapped R B grammar.dependence_of (seq grammar.arrow
      (seq (pick grammar.may_follow_target_name grammar.unguarded grammar.guarded) (opt grammar.datatype)))
      (λ x. Unit {0} × (IsChoice x.1.0 × IfPresent (λ w. IsName w.text) x.1.1)) IsDependence
      (holding.both R B grammar.arrow (seq (pick grammar.may_follow_target_name grammar.unguarded grammar.guarded)
      (opt grammar.datatype)) (λ x. Unit {0}) (λ x. IsChoice x.0 × IfPresent (λ w. IsName w.text) x.1)
      (holding.free R B grammar.arrow)
      (holding.both R B (pick grammar.may_follow_target_name grammar.unguarded grammar.guarded) (opt grammar.datatype) IsChoice (IfPresent (λ w. IsName w.text))
      (holding.picked R B grammar.may_follow_target_name grammar.unguarded grammar.guarded IsChoice unguarded_well_formed guarded_well_formed)
      (holding.if_present R B grammar.datatype (λ w. IsName w.text) datatype_well_formed)))
      go
    where
      go : (x : Direction × (Choice × Option Word)) → Unit {0} × (IsChoice x.1.0 × IfPresent (λ w. IsName w.text) x.1.1)
          → IsDependence (grammar.dependence_of x)
      go (b, (c, None)) h = record { choice = h.1.0; datatype = tt }
      go (b, (c, Some w)) h = record { choice = h.1.0; datatype = h.1.1 }

  -- ---- flows

  flow_well_formed : Holds grammar.flow IsFlow
  unfolding grammar.flow grammar.dependences
  flow_well_formed =
      holding.mapped R B grammar.flow_of (seq grammar.kind_of_flow (seq (name Class) grammar.dependences))
      (λ x. Unit {0} × (IsName x.1.0.text × AtMostEvery 16 IsDependence x.1.1)) IsFlow
      (holding.both R B grammar.kind_of_flow (seq (name Class) grammar.dependences) (λ x. Unit {0}) (λ x. IsName x.0.text × AtMostEvery 16 IsDependence x.1)
      (holding.free R B grammar.kind_of_flow)
      (holding.both R B (name Class) grammar.dependences (λ w. IsName w.text) (AtMostEvery 16 IsDependence)
      (holding.name_well_formed R B) (holding.few R B 16 TooManyDeps grammar.dependence IsDependence
      dependence_well_formed)))
      (λ x h. record { name = h.1.0; few = h.1.1.0; deps = h.1.1.1 })

  flows_well_formed : Holds grammar.flows (AtMostEvery 8 IsFlow)
  unfolding grammar.flows
  flows_well_formed = holding.few R B 8 TooManyFlows grammar.flow IsFlow flow_well_formed

  -- ---- parameters, definitions, affinity, priority

  definition_well_formed : Holds grammar.definition IsDefinition
  unfolding grammar.definition
  definition_well_formed =
      holding.mapped R B grammar.definition_of (seq (name Class) (prefixed_by terminal.Assign grammar.argument))
      (λ x. IsName x.0.text × IsArgument x.1) IsDefinition
      (holding.both R B (name Class) (prefixed_by terminal.Assign grammar.argument) (λ w. IsName w.text) IsArgument
      (holding.name_well_formed R B) (holding.after_word R B terminal.Assign grammar.argument IsArgument
      argument_well_formed))
      (λ x h. record { name = h.0; value = h.1 })

  definitions_well_formed : Holds grammar.definitions (AtMostEvery 16 IsDefinition)
  unfolding grammar.definitions
  definitions_well_formed = holding.few R B 16 TooManyLocals grammar.definition IsDefinition definition_well_formed

  affinity_well_formed : Holds grammar.affinity (λ x. IsName x.0.text × Every IsArgument x.1)
  unfolding grammar.affinity
  affinity_well_formed =
      holding.after_word R B terminal.Colon (seq (name Class) grammar.call) (λ x. IsName x.0.text × Every IsArgument x.1)
      (holding.both R B (name Class) grammar.call (λ w. IsName w.text) (Every IsArgument) (holding.name_well_formed R B) call_well_formed)

  priority_well_formed : Holds grammar.priority IsOuter
  unfolding grammar.priority
  priority_well_formed =
      holding.mapped R B (λ x. x.tree) (prefixed_by terminal.Semicolon (outer Class)) (λ p. IsOuter p.tree) IsOuter
      (holding.after_word R B terminal.Semicolon (outer Class) (λ p. IsOuter p.tree) outer_well_formed) (λ a h. h)

  -- How many tokens names with commas between them have.
  name_long : (s : List Token) (w : Word) (o : Fault) (r : List Token) → Derives R (name Class) s w o r → length s ≡ 1 + length r
  name_long s w o r h = let e = ap (λ (l : List Token). length l) h.1.0.0 in omega (arith, e)

  later_long : (i : ℕ) (ws : List Word) (s : List Token) (o : Fault) (r : List Token)
      → Many any (Derives R (prefixed_by terminal.Comma (name Class))) i s ws o r → length s ≡ 2 * length ws + length r
  later_long i [] s o r h = let e = ap (λ (l : List Token). length l) h.0 in omega (arith, e)
  later_long i (w ∷ ws) s o r h =
      let q = h.3.1 in
      let comma = ap (λ (l : List Token). length l) q.3.0.0 in
      let one = name_long q.0 h.3.0.1 q.2 h.0 q.4 in
      omega (arith, comma, one, later_long (suc i) ws h.0 h.2 r h.4)

  parameters_well_formed : Holds grammar.parameters (AtMostEvery 8 IsParameter)
  unfolding grammar.parameters
  parameters_well_formed s ws o r h e known =
      let parts = cut_none 16 TooManyParams (taken s r) h.0 (sym e ∙ h.2) in
      let names_well_formed = holding.in_list R B (name Class) IsParameter (holding.name_well_formed R B) s ws h.0 r h.1 parts.0 known in
      let x = h.1.0 in
      let q = h.1.1 in
      let size : length s ≡ 2 * length x.1 + 1 + length r = omega (arith, name_long s x.0 q.1 q.0 q.3, later_long 0 x.1 q.0 q.2 r q.4) in
      (omega (arith, size, parts.1, ap (λ (l : List Word). length l) h.1.2), names_well_formed)

  parameter_list_well_formed : Holds grammar.parameter_list (AtMostEvery 8 IsParameter)
  unfolding grammar.parameter_list
  parameter_list_well_formed =
      holding.after_word R B terminal.LeftParen (suffixed_by terminal.RightParen (maybe grammar.parameters)) (AtMostEvery 8 IsParameter)
      (holding.before_word R B terminal.RightParen (maybe grammar.parameters) (AtMostEvery 8 IsParameter)
      (holding.or_nothing R B grammar.parameters (AtMostEvery 8 IsParameter) (omega arith, tt)
      parameters_well_formed))

  -- ---- bodies

  first_well_formed : Holds (one_of grammar.begins_body) (λ x. IsInBody x × (grammar.begins_body (terminal_of x) ≡ true))
  first_well_formed s x o r h e known =
      let K : List Token → Type 0 = λ l. Every IsKnown l in
      let all_known = subst K h.0.0 known in
      let inside = (and_parts (grammar.is_in_body (terminal_of x)) (not (is terminal.LeftBracket (terminal_of x))) h.0.1).0 in
      let facts = body_known x inside all_known.0 in
      (record { terminal = facts.0; written = facts.1; allowed = inside }, h.0.1)

  token_well_formed : Holds (one_of grammar.is_in_body) IsInBody
  token_well_formed s x o r h e known =
      let K : List Token → Type 0 = λ l. Every IsKnown l in
      let all_known = subst K h.0.0 known in
      let facts = body_known x h.0.1 all_known.0 in
      record { terminal = facts.0; written = facts.1; allowed = h.0.1 }

  tokens_well_formed : Holds grammar.body_tokens IsBody
  unfolding grammar.body_tokens
  tokens_well_formed =
      holding.mapped R B (λ x. x.0 ∷ x.1) (seq (one_of grammar.begins_body) (star any (one_of grammar.is_in_body)))
      (λ x. (IsInBody x.0 × (grammar.begins_body (terminal_of x.0) ≡ true)) × Every IsInBody x.1) IsBody
      (holding.both R B (one_of grammar.begins_body) (star any (one_of grammar.is_in_body))
      (λ x. IsInBody x × (grammar.begins_body (terminal_of x) ≡ true)) (Every IsInBody) first_well_formed
      (holding.all R B any (one_of grammar.is_in_body) IsInBody token_well_formed))
      (λ x h. (h.0.0, h.0.1, h.1))

  body_well_formed : Holds grammar.body (λ x. IsBody x.0)
  unfolding grammar.body
  body_well_formed =
      holding.after_word R B terminal.Body (map grammar.body_of
      (seq (opt grammar.properties) (seq (maybe grammar.body_tokens) (word terminal.End)))) (λ x. IsBody x.0)
      (holding.mapped R B grammar.body_of (seq (opt grammar.properties)
      (seq (maybe grammar.body_tokens) (word terminal.End))) (λ x. Unit {0} × (IsBody x.1.0 × Unit {0}))
      (λ x. IsBody x.0)
      (holding.both R B (opt grammar.properties) (seq (maybe grammar.body_tokens) (word terminal.End)) (λ x. Unit {0}) (λ x. IsBody x.0 × Unit {0})
      (holding.free R B (opt grammar.properties))
      (holding.both R B (maybe grammar.body_tokens) (word terminal.End) IsBody (λ x. Unit {0})
      (holding.or_nothing R B grammar.body_tokens IsBody tt tokens_well_formed)
      (holding.free R B (word terminal.End))))
      (λ x h. h.1.0))

  -- ---- classes

  head_well_formed : Holds grammar.head (λ x. IsName x.0.text × AtMostEvery 8 IsParameter x.1.0)
  unfolding grammar.head
  head_well_formed s x o r h e known =
      let all = holding.both R B (name Class) (seq grammar.parameter_list (opt grammar.properties)) (λ w. IsName w.text)
      (λ y. AtMostEvery 8 IsParameter y.0 × Unit {0}) (holding.name_well_formed R B)
      (holding.both R B grammar.parameter_list (opt grammar.properties) (AtMostEvery 8 IsParameter) (λ y. Unit {0})
      parameter_list_well_formed (holding.free R B (opt grammar.properties))) s x o r h e known in
      (all.0, all.1.0)

  abbrev IsRest : grammar.Rest → Type 0
  IsRest x = AtMostEvery 16 IsDefinition x.0 × ((IsName x.1.0.0.text × Every IsArgument x.1.0.1)
      × (AtMostEvery 8 IsFlow x.1.1.0 × (IfPresent IsOuter x.1.1.1.0 × IsBody x.1.1.1.1.0)))

  rest_well_formed : Holds grammar.rest IsRest
  unfolding grammar.rest
  rest_well_formed =
      holding.both R B grammar.definitions (seq grammar.affinity
      (seq grammar.flows (seq (opt grammar.priority) grammar.body))) (AtMostEvery 16 IsDefinition)
      (λ x. (IsName x.0.0.text × Every IsArgument x.0.1)
      × (AtMostEvery 8 IsFlow x.1.0 × (IfPresent IsOuter x.1.1.0 × IsBody x.1.1.1.0))) definitions_well_formed
      (holding.both R B grammar.affinity (seq grammar.flows (seq (opt grammar.priority) grammar.body))
      (λ x. IsName x.0.text × Every IsArgument x.1) (λ x. AtMostEvery 8 IsFlow x.0
      × (IfPresent IsOuter x.1.0 × IsBody x.1.1.0)) affinity_well_formed
      (holding.both R B grammar.flows (seq (opt grammar.priority) grammar.body) (AtMostEvery 8 IsFlow)
      (λ x. IfPresent IsOuter x.0 × IsBody x.1.0) flows_well_formed
      (holding.both R B (opt grammar.priority) grammar.body (IfPresent IsOuter) (λ x. IsBody x.0)
      (holding.if_present R B grammar.priority IsOuter priority_well_formed) body_well_formed)))

  priority_there : (p : Option Expression) → IfPresent IsOuter p → IsPriority p
  priority_there None h = tt
  priority_there (Some e) h = h

  class_well_formed : Holds grammar.class IsClass
  unfolding grammar.class
  class_well_formed =
      holding.mapped R B grammar.class_of (seq grammar.head grammar.rest) (λ x. (IsName x.0.0.text × AtMostEvery 8 IsParameter x.0.1.0) × IsRest x.1) IsClass
      (holding.both R B grammar.head grammar.rest (λ x. IsName x.0.text × AtMostEvery 8 IsParameter x.1.0) IsRest head_well_formed rest_well_formed)
      (λ x h. record {
        name = h.0.0;
        params_at_most = h.0.1.0;
        params = h.0.1.1;
        defs_at_most = h.1.0.0;
        defs = h.1.0.1;
        affinity = h.1.1.0.0;
        affinity_args = h.1.1.0.1;
        flows_at_most = h.1.1.1.0.0;
        flows = h.1.1.1.0.1;
        priority = priority_there x.1.1.1.1.0 h.1.1.1.1.0;
        body = h.1.1.1.1.1;
      })

  -- ---- whole texts

  and_skips_well_formed : Holds whole.class_and_skips IsClass
  unfolding whole.class_and_skips
  and_skips_well_formed =
      holding.mapped R B (λ x. x.0) (seq grammar.class (star any whole.skip)) (λ x. IsClass x.0 × Unit {0}) IsClass
      (holding.both R B grammar.class (star any whole.skip) IsClass (λ x. Unit {0}) class_well_formed (holding.free R B (star any whole.skip))) (λ x h. h.0)

  -- There are 1 to 64 classes, each well formed.
  abbrev AreClasses : List ClassTree → Type 0
  AreClasses cs = (length cs ≤ 64) × (1 ≤ length cs) × Every IsClass cs

  classes_well_formed : Holds whole.classes AreClasses
  unfolding whole.classes
  classes_well_formed =
      holding.mapped R B (λ x. x.0 ∷ x.1) (seq whole.class_and_skips
      (star (grammar.full_at 63 TooManyClasses) whole.class_and_skips))
      (λ x. IsClass x.0 × AtMostEvery 63 IsClass x.1) AreClasses
      (holding.both R B whole.class_and_skips (star (grammar.full_at 63 TooManyClasses) whole.class_and_skips) IsClass
      (AtMostEvery 63 IsClass) and_skips_well_formed
      (holding.few R B 63 TooManyClasses whole.class_and_skips IsClass and_skips_well_formed))
      (λ x h. let few = h.1.0 in (omega arith, omega arith, (h.0, h.1.1)))

  module _ (O : JobsOf (R a_file)) where
    -- A token and the rest of the text after it.
    behind_well_formed : (q : Terminal → Bool) → Holds (after_token q a_file) (λ x. IsJob x.1)
    behind_well_formed q s x o r h e known =
        let parts = both_none None 1 h.1 (sym e ∙ h.4) in
        O h.0 x.1 h.1 r h.3 parts.1 (known_rest s h.0 (x.0 ∷ [], h.2.0) known)

    with_one : (w : Word) (j : Jdf) → IsName w.text → IsJob j → IsJob (whole.with_global w j)
    with_one w j a b = record { globals = (a, b.globals); few = b.few; some = b.some; classes = b.classes }

    extern_well_formed : Holds whole.file_after_extern IsJob
    unfolding whole.file_after_extern
    extern_well_formed =
        holding.mapped R B (λ x. x.1.1.1) (seq (word terminal.Extern)
        (seq (word terminal.Quoted) (after_token (is terminal.Raw) a_file)))
        (λ x. Unit {0} × (Unit {0} × IsJob x.1.1.1)) IsJob
        (holding.both R B (word terminal.Extern) (seq (word terminal.Quoted) (after_token (is terminal.Raw) a_file))
        (λ x. Unit {0}) (λ x. Unit {0} × IsJob x.1.1) (holding.free R B (word terminal.Extern))
        (holding.both R B (word terminal.Quoted) (after_token (is terminal.Raw) a_file) (λ x. Unit {0}) (λ x. IsJob x.1)
        (holding.free R B (word terminal.Quoted)) (behind_well_formed (is terminal.Raw))))
        (λ x h. h.1.1)

    option_well_formed : Holds whole.file_after_option IsJob
    unfolding whole.file_after_option
    option_well_formed = holding.mapped R B (λ x. x.1) (after_token (is terminal.OptionLine) a_file) (λ x. IsJob x.1)
        IsJob (behind_well_formed (is terminal.OptionLine)) (λ x h. h)

    properties_well_formed : Holds whole.file_after_properties IsJob
    unfolding whole.file_after_properties
    properties_well_formed =
        holding.mapped R B (λ x. whole.with_global x.0 x.1.1.1.1)
        (seq (name Class) (seq (word terminal.LeftBracket)
        (seq (star any (one_of grammar.is_no_right_bracket)) (after_token (is terminal.RightBracket) a_file))))
        (λ x. IsName x.0.text × (Unit {0} × (Unit {0} × IsJob x.1.1.1.1))) IsJob
        (holding.both R B (name Class) (seq (word terminal.LeftBracket)
        (seq (star any (one_of grammar.is_no_right_bracket)) (after_token (is terminal.RightBracket) a_file)))
        (λ w. IsName w.text) (λ x. Unit {0} × (Unit {0} × IsJob x.1.1.1)) (holding.name_well_formed R B)
        (holding.both R B (word terminal.LeftBracket) (seq (star any (one_of grammar.is_no_right_bracket))
        (after_token (is terminal.RightBracket) a_file)) (λ x. Unit {0}) (λ x. Unit {0} × IsJob x.1.1)
        (holding.free R B (word terminal.LeftBracket))
        (holding.both R B (star any (one_of grammar.is_no_right_bracket))
        (after_token (is terminal.RightBracket) a_file) (λ x. Unit {0}) (λ x. IsJob x.1)
        (holding.free R B (star any (one_of grammar.is_no_right_bracket)))
        (behind_well_formed (is terminal.RightBracket)))))
        (λ x h. with_one x.0 x.1.1.1.1 h.0 h.1.1.1)

    global_well_formed : Holds whole.file_after_global IsJob
    unfolding whole.file_after_global
    global_well_formed s t o r h e known =
        let x = h.0 in
        let q = h.1 in
        let K : List Token → Type 0 = λ l. Every IsKnown l in
        let all_known = subst K q.2.0 known in
        subst IsJob h.2 (with_one (word_of x.0) x.1 (name_known x.0 q.2.1 all_known.0) (behind_well_formed is_name s x o r q e known))

    jobs_well_formed : Holds (map whole.without_globals whole.classes) IsJob
    jobs_well_formed = holding.mapped R B whole.without_globals whole.classes AreClasses IsJob classes_well_formed
        (λ cs h. record { globals = tt; few = h.0; some = h.1; classes = h.2 })

    pub file_well_formed : Holds whole.file IsJob
    unfolding whole.file
    file_well_formed =
        holding.one_or R B whole.file_after_extern (alt whole.file_after_option
        (pick (is terminal.LeftParen) (map whole.without_globals whole.classes)
        (pick (is terminal.LeftBracket) whole.file_after_properties whole.file_after_global))) IsJob
        extern_well_formed
        (holding.one_or R B whole.file_after_option (pick (is terminal.LeftParen)
        (map whole.without_globals whole.classes) (pick (is terminal.LeftBracket) whole.file_after_properties
        whole.file_after_global)) IsJob option_well_formed
        (holding.picked R B (is terminal.LeftParen) (map whole.without_globals whole.classes)
        (pick (is terminal.LeftBracket) whole.file_after_properties whole.file_after_global) IsJob jobs_well_formed
        (holding.picked R B (is terminal.LeftBracket) whole.file_after_properties whole.file_after_global IsJob properties_well_formed global_well_formed)))

-- ---- names of any depth

-- What the derivations of nonterminals at a depth satisfy.
record AreMade (R : (n : Nonterminal) → Language (TreeOf n)) : Type 0 where
  shortens : (n : Nonterminal) → Shortens (R n)
  exprs : FactsOf (R (an_expr Class))
  unaries : FactsOf (R (a_unary Class))
  jobs : JobsOf (R a_file)

abbrev At : ℕ → (n : Nonterminal) → Language (TreeOf n)
At k = DerivedWithin productions k

step : (k : ℕ) → AreMade (At k) → AreMade (At (suc k))
unfolding productions
step k m =
    record {
      shortens = λ n s t o r h. derives_has_end (At k) m.shortens (productions n) s t o r h;
      exprs = expression.expr_facts (At k) m.shortens m.exprs m.unaries;
      unaries = expression.unary_facts (At k) m.shortens m.exprs m.unaries;
      jobs = file_well_formed (At k) m.shortens m.exprs m.unaries m.jobs;
    }

made_at : (k : ℕ) → AreMade (At k)
made_at zero = record {
  shortens = λ n s t o r h. absurd h;
  exprs = λ s t o r h e known. absurd h;
  unaries = λ s t o r h
      e known. absurd h;
  jobs = λ s t o r h e known. absurd h;
}
made_at (suc k) = step k (made_at k)

-- Each tree that the grammar derives from tokens is well formed.
pub job_well_formed : (s : List Token) (t : Jdf) → IsText productions whole.file s t None → Every IsKnown s → IsJob t
job_well_formed s t h known =
    let a = at_depth productions whole.file s t None [] h in
    let m = made_at a.0 in
    file_well_formed (At a.0) m.shortens m.exprs m.unaries m.jobs s t None [] a.1 refl known
