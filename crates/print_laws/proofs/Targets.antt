-- The tokens of arguments and dependences derive them.
use Rattle.std.proofs.Common.{◌≡◌, true, List, [], ◌∷◌, ◌++◌, map, refl, ap, subst, ◌∙◌, inl, inr, append_assoc}
use Rattle.std.specs.Prelude.{Option, Some, None, option_map, codes}
use Rattle.grammar_core.specs.declared.token.Token.{Token}
use Rattle.jdf_lex.specs.declared.terminal.Terminal.TheVariants as terminal
use Rattle.jdf_lex.specs.Terminals.{words, marks, is}
use Rattle.term_core.specs.declared.direction.Direction.{Direction}
use Rattle.term_core.specs.declared.direction.Direction.TheVariants.{In, Out}
use Rattle.jdf_tree.specs.declared.expression.Word.{Word}
use Rattle.jdf_tree.specs.declared.part.Part.TheVariants.{Class}
use Rattle.jdf_tree.specs.declared.tree.ArgTree.{ArgTree}
use Rattle.jdf_tree.specs.declared.tree.ArgTree.TheVariants.{One, Span}
use Rattle.jdf_tree.specs.declared.tree.TargetTree.{TargetTree}
use Rattle.jdf_tree.specs.declared.tree.TargetTree.TheVariants.{Task, Element, New, Null}
use Rattle.jdf_tree.specs.declared.tree.DepTree.{DepTree}
use Rattle.jdf_tree.specs.Expression.{Expression}
use Rattle.grammar_core.specs.Production.{seq, opt}
use Rattle.jdf_lex.specs.Sets.{pick}
use Rattle.jdf_tree.specs.Nonterminal.{Grammar}
use Rattle.jdf_tree.specs.GrammarParts.{prefixed_by, suffixed_by, maybe, name, word_of}
use Rattle.jdf_tree.specs.ExpressionGrammar.{outer}
use Rattle.jdf_tree.specs.ClassGrammar as grammar
use Rattle.jdf_tree.specs.ClassGrammar.{Choice}
use Rattle.jdf_print.specs.Fragments.{Fragment, token, blank, space, between, with_commas}
use Rattle.jdf_print.specs.Spelling as print
use Rattle.print_laws.specs.Same as same
use Rattle.print_laws.specs.Same.{nowhere}
use Rattle.print_laws.proofs.Readable.{IsLike, Reads, reads_both, terminal_at, like_terminal, is_one}
use Rattle.print_laws.proofs.Expressions.{DerivesTree, IsName, left_paren, right_paren, question, colon}
use Rattle.print_laws.proofs.Forms.{ReadsBackAs, Every, IsOuter, outer_reads_back, guard_reads_back, listed_reads_back}
use Rattle.print_laws.proofs.Forms.{word_derives, after_derives, before_derives, name_derives, same_word, reads_line}

is_dots : is terminal.Dots (terminal_at (codes "..")) ≡ true
unfolding words marks
is_dots = refl

-- ---- arguments

abbrev pub IsArgument : ArgTree → Type 0
IsArgument (One e) = IsOuter e
IsArgument (Span spot lo hi None) = IsOuter lo × IsOuter hi
IsArgument (Span spot lo hi (Some by)) = IsOuter lo × IsOuter hi × IsOuter by

-- The tokens of an argument's spelling derive it.
pub argument_reads_back : (a : ArgTree) → IsArgument a → (s r : List Token) → Reads (print.argument a) s r
    → ReadsBackAs grammar.argument same.argument (same.argument a) s r
unfolding grammar.argument
argument_reads_back (One e) formed s r h =
    let k = outer_reads_back e formed s r h in
    record { tree = One k.tree.tree; derives = ((k.tree, None), (r, None, None, k.derives, (refl, refl), refl), refl); like = ap One k.like }
argument_reads_back (Span spot lo hi None) formed s r h =
    let split = reads_both (print.expression lo) (between (codes "..") ++ (print.expression hi ++ [])) s r h in
    let last = reads_both (print.expression hi) [] split.2.1 r split.2.4 in
    let a = outer_reads_back lo formed.0 s split.0 split.1 in
    let b = outer_reads_back hi formed.1 split.2.1 last.0 last.1 in
    record {
      tree = Span a.tree.spot a.tree.tree b.tree.tree None;
      derives = (
        (a.tree, Some (b.tree, None)),
        (
          split.0,
          None,
          None,
          a.derives,
          (
            last.0,
            None,
            None,
            after_derives terminal.Dots (outer Class) (codes "..") is_dots split.2.0 split.0
                split.2.1 b.tree last.0 split.2.2 split.2.3 b.derives,
            (last.2, refl),
            refl,
          ),
          refl,
        ),
        refl,
      );
      like = ap (λ (e : Expression). Span nowhere e (same.expression b.tree.tree) None) a.like
          ∙ ap (λ (e : Expression). Span nowhere (same.expression lo) e None) b.like;
    }
argument_reads_back (Span spot lo hi (Some by)) formed s r h =
    let split = reads_both (print.expression lo) (between (codes "..") ++ (print.expression hi ++ (between (codes "..") ++ print.expression by))) s r h in
    let last = reads_both (print.expression hi) (between (codes "..") ++ print.expression by) split.2.1 r split.2.4 in
    let a = outer_reads_back lo formed.0 s split.0 split.1 in
    let b = outer_reads_back hi formed.1 split.2.1 last.0 last.1 in
    let c = outer_reads_back by formed.2 last.2.1 r last.2.4 in
    record {
      tree = Span a.tree.spot a.tree.tree b.tree.tree (Some c.tree.tree);
      derives = (
        (a.tree, Some (b.tree, Some c.tree)),
        (
          split.0,
          None,
          None,
          a.derives,
          (
            last.0,
            None,
            None,
            after_derives terminal.Dots (outer Class) (codes "..") is_dots split.2.0 split.0 split.2.1 b.tree last.0 split.2.2 split.2.3 b.derives,
            after_derives terminal.Dots (outer Class) (codes "..") is_dots last.2.0 last.0 last.2.1 c.tree r last.2.2 last.2.3 c.derives,
            refl,
          ),
          refl,
        ),
        refl,
      );
      like = ap (λ (e : Expression). Span nowhere e (same.expression b.tree.tree) (Some (same.expression c.tree.tree))) a.like
          ∙ ap (λ (e : Expression). Span nowhere (same.expression lo) e (Some (same.expression c.tree.tree))) b.like
          ∙ ap (λ (e : Expression). Span nowhere (same.expression lo) (same.expression hi) (Some e)) c.like;
    }

maybe_reads_back : (args : List ArgTree) → Every IsArgument args → (s r : List Token)
    → Reads (with_commas (map print.argument args)) s r → ReadsBackAs (maybe grammar.arguments) (map same.argument)
    (map same.argument args) s r
unfolding grammar.arguments
maybe_reads_back [] formed s r h = record { tree = []; derives = (None, (h, refl), refl); like = refl }
maybe_reads_back (x ∷ xs) formed s r h =
    let k = listed_reads_back grammar.argument same.argument IsArgument print.argument argument_reads_back x xs formed.0 formed.1 s r h in
    record { tree = k.tree; derives = (Some k.tree, k.derives, refl); like = k.like }

pub call_reads_back : (args : List ArgTree) → Every IsArgument args → (s r : List Token)
    → Reads (print.arguments args) s r → ReadsBackAs grammar.call (map same.argument) (map same.argument args) s r
unfolding grammar.call
call_reads_back args formed s r h =
    let split = reads_both (with_commas (map print.argument args)) (token (codes ")") ∷ []) h.1 r h.4 in
    let k = maybe_reads_back args formed h.1 split.0 split.1 in
    let end : split.0 ≡ split.2.0 ∷ r = split.2.2 ∙ ap (λ (w : List Token). split.2.0 ∷ w) split.2.4 in
    record {
      tree = k.tree;
      derives =
          after_derives terminal.LeftParen (suffixed_by terminal.RightParen (maybe grammar.arguments)) (codes "(") left_paren h.0 s h.1 k.tree r h.2 h.3
          (before_derives terminal.RightParen (maybe grammar.arguments) (codes ")") right_paren split.2.0 h.1 split.0 k.tree r k.derives end split.2.3);
      like = k.like;
    }

-- ---- targets

abbrev pub IsTarget : TargetTree → Type 0
IsTarget (Task flow class args) = IsName flow.text × IsName class.text × Every IsArgument args
IsTarget (Element coll args) = IsName coll.text × Every IsArgument args
IsTarget (New spot) = Unit {0}
IsTarget (Null spot) = Unit {0}

is_new : is terminal.New (terminal_at (codes "NEW")) ≡ true
unfolding words marks
is_new = refl

is_null : is terminal.Null (terminal_at (codes "NULL")) ≡ true
unfolding words marks
is_null = refl

-- The tokens of a target's spelling derive it.
pub target_reads_back : (t : TargetTree) → IsTarget t → (s r : List Token) → Reads (print.target t) s r
    → ReadsBackAs grammar.target same.target (same.target t) s r
unfolding grammar.target grammar.called
target_reads_back (Task flow class args) formed s r h =
    let x = h.0 in
    let y = h.4.0 in
    let k = call_reads_back args formed.2 h.4.1 r h.4.4 in
    record {
      tree = Task (word_of x) (word_of y) k.tree;
      derives =
          inr
          (
          inr (
            (word_of x, (Some (word_of y), k.tree)),
            (
              h.1,
              None,
              None,
              name_derives flow.text formed.0 x s h.1 h.2 h.3,
              (h.4.1, None, None, name_derives class.text formed.1 y h.1 h.4.1 h.4.2 h.4.3, k.derives, refl),
              refl,
            ),
            refl,
          )
          );
      like = ap (λ (w : Word). Task w (same.word (word_of y)) (map same.argument k.tree)) (same_word x flow h.3)
          ∙ ap (λ (w : Word). Task (same.word flow) w (map same.argument k.tree)) (same_word y class h.4.3)
          ∙ ap (λ (l : List ArgTree). Task (same.word flow) (same.word class) l) k.like;
    }
target_reads_back (Element coll args) formed s r h =
    let x = h.0 in
    let k = call_reads_back args formed.1 h.1 r h.4 in
    record {
      tree = Element (word_of x) k.tree;
      derives = inr (inr (
        (word_of x, (None, k.tree)),
        (
          h.1,
          None,
          None,
          name_derives coll.text formed.0 x s h.1 h.2
              h.3,
          (h.1, None, None, (refl, refl), k.derives, refl),
          refl,
        ),
        refl,
      ));
      like = ap (λ (w : Word). Element w (map same.argument k.tree)) (same_word x coll h.3) ∙ ap (λ (l : List ArgTree). Element (same.word coll) l) k.like;
    }
target_reads_back (New spot) formed s r h =
    let x = h.0 in
    record {
      tree = New x.spot;
      derives = inl (
        x,
        word_derives terminal.New (codes "NEW") is_new x s r
            (h.2 ∙ ap (λ (w : List Token). x ∷ w) h.4) h.3,
        refl,
      );
      like = refl;
    }
target_reads_back (Null spot) formed s r h =
    let x = h.0 in
    record {
      tree = Null x.spot;
      derives = inr (inl (
        x,
        word_derives terminal.Null (codes "NULL") is_null x s r
            (h.2 ∙ ap (λ (w : List Token). x ∷ w) h.4) h.3,
        refl,
      ));
      like = refl;
    }

-- ---- dependences

-- The part of a dependence after its arrow, without positions.
abbrev pub choice : Choice → Choice
choice c = (option_map same.expression c.0, same.target c.1, option_map same.target c.2)

-- A target alone, or after a guard with or without a second one.
abbrev pub IsChoice : Choice → Type 0
IsChoice (None, t, None) = IsTarget t
IsChoice (None, t, Some u) = ⊥
IsChoice (Some c, t, None) = IsOuter c × IsTarget t
IsChoice (Some c, t, Some u) = IsOuter c × IsTarget t × IsTarget u

-- choices, made of their parts
abbrev nothing : TargetTree → Choice
nothing t = (None, t, None)

abbrev only_then : Expression → TargetTree → Choice
only_then e t = (Some e, t, None)

abbrev either : Expression → TargetTree → TargetTree → Choice
either e t u = (Some e, t, Some u)

abbrev built : Direction → Choice → Option Word → DepTree
built direction c w = record { direction = direction; guard = c.0; yes = c.1; no = c.2; datatype = w }

abbrev choice_form : Grammar Choice
choice_form = pick grammar.may_follow_target_name grammar.unguarded grammar.guarded

-- The tokens of the guard and the targets of a dependence derive them.
choice_reads_back : (c : Choice) → IsChoice c → (s r : List Token)
    → Reads (print.guard c.0 ++ (print.target c.1 ++ print.other c.2)) s r
    → ReadsBackAs choice_form choice (choice c) s r
unfolding grammar.unguarded grammar.guarded
choice_reads_back (None, t, None) formed s r h =
    let split = reads_both (print.target t) [] s r h in
    let k = target_reads_back t formed s split.0 split.1 in
    let L : List Token → Type 0 = λ m. DerivesTree grammar.target s k.tree m in
    record { tree = (None, k.tree, None); derives = inl (k.tree, subst L split.2 k.derives, refl); like = ap (λ (w : TargetTree). nothing w) k.like }
choice_reads_back (None, t, Some u) formed s r h = absurd formed
choice_reads_back (Some c, t, None) formed s r h =
    let front = reads_both (print.expression c ++ between (codes "?")) (print.target t ++ []) s r h in
    let ask = reads_both (print.expression c) (between (codes "?")) s front.0 front.1 in
    let last = reads_both (print.target t) [] front.0 r front.2 in
    let a = guard_reads_back c formed.0 s ask.0 ask.1 in
    let b = target_reads_back t formed.1 front.0 last.0 last.1 in
    let mark : ask.0 ≡ ask.2.0 ∷ front.0 = ask.2.2 ∙ ap (λ (w : List Token). ask.2.0 ∷ w) ask.2.4 in
    record {
      tree = (Some a.tree.tree, b.tree, None);
      derives =
          inr (
            (a.tree, (b.tree, None)),
            (
              ask.0,
              None,
              None,
              a.derives,
              after_derives terminal.Question (seq grammar.target (opt (prefixed_by terminal.Colon grammar.target)))
                  (codes "?") question ask.2.0 ask.0 front.0 (b.tree, None) r mark ask.2.3
                  (last.0, None, None, b.derives, (last.2, refl), refl),
              refl,
            ),
            refl,
          );
      like = ap (λ (e : Expression). only_then e (same.target b.tree)) a.like ∙ ap (λ (w : TargetTree). only_then (same.expression c) w) b.like;
    }
choice_reads_back (Some c, t, Some u) formed s r h =
    let front = reads_both (print.expression c ++ between (codes "?")) (print.target t ++ (between (codes ":") ++ print.target u)) s r h in
    let ask = reads_both (print.expression c) (between (codes "?")) s front.0 front.1 in
    let last = reads_both (print.target t) (between (codes ":") ++ print.target u) front.0 r front.2 in
    let a = guard_reads_back c formed.0 s ask.0 ask.1 in
    let b = target_reads_back t formed.1 front.0 last.0 last.1 in
    let d = target_reads_back u formed.2 last.2.1 r last.2.4 in
    let mark : ask.0 ≡ ask.2.0 ∷ front.0 = ask.2.2 ∙ ap (λ (w : List Token). ask.2.0 ∷ w) ask.2.4 in
    record {
      tree = (Some a.tree.tree, b.tree, Some d.tree);
      derives =
          inr (
            (a.tree, (b.tree, Some d.tree)),
            (
              ask.0,
              None,
              None,
              a.derives,
              after_derives terminal.Question (seq grammar.target (opt (prefixed_by terminal.Colon grammar.target)))
                  (codes "?") question ask.2.0 ask.0 front.0 (b.tree, Some d.tree) r mark ask.2.3 (
                    last.0,
                    None,
                    None,
                    b.derives,
                    after_derives terminal.Colon grammar.target (codes ":") colon last.2.0
                        last.0 last.2.1 d.tree r last.2.2 last.2.3 d.derives,
                    refl,
                  ),
              refl,
            ),
            refl,
          );
      like = ap (λ (e : Expression). either e (same.target b.tree) (same.target d.tree)) a.like
          ∙ ap (λ (w : TargetTree). either (same.expression c) w (same.target d.tree)) b.like
          ∙ ap (λ (w : TargetTree). either (same.expression c) (same.target t) w) d.like;
    }

-- ---- datatypes

is_left_bracket : is terminal.LeftBracket (terminal_at (codes "[")) ≡ true
unfolding words marks
is_left_bracket = refl

is_right_bracket : is terminal.RightBracket (terminal_at (codes "]")) ≡ true
unfolding words marks
is_right_bracket = refl

is_type : is terminal.TypeWord (terminal_at (codes "type")) ≡ true
unfolding words marks
is_type = refl

pub is_assign : is terminal.Assign (terminal_at (codes "=")) ≡ true
unfolding words marks
is_assign = refl

abbrev pub IsDatatype : Option Word → Type 0
IsDatatype None = Unit {0}
IsDatatype (Some w) = IsName w.text

datatype_reads_back : (d : Option Word) → IsDatatype d → (s r : List Token) → Reads (print.datatype d) s r
    → ReadsBackAs (opt grammar.datatype) (option_map same.word) (option_map same.word d) s r
unfolding grammar.datatype
datatype_reads_back None formed s r h = record { tree = None; derives = (h, refl); like = refl }
datatype_reads_back (Some w) formed s r h =
    let t = h.4 in
    let e = t.4 in
    let n = e.4 in
    let z = n.4 in
    let end : n.1 ≡ z.0 ∷ r = z.2 ∙ ap (λ (l : List Token). z.0 ∷ l) z.4 in
    record {
      tree = Some (word_of n.0);
      derives =
          after_derives terminal.LeftBracket (prefixed_by terminal.TypeWord
          (prefixed_by terminal.Assign (suffixed_by terminal.RightBracket (name Class)))) (codes "[")
          is_left_bracket h.0 s h.1 (word_of n.0) r h.2 h.3
          (after_derives terminal.TypeWord (prefixed_by terminal.Assign
          (suffixed_by terminal.RightBracket (name Class))) (codes "type") is_type t.0 h.1 t.1 (word_of n.0) r t.2
          t.3
          (after_derives terminal.Assign (suffixed_by terminal.RightBracket (name Class)) (codes "=") is_assign e.0 t.1 e.1 (word_of n.0) r e.2 e.3
          (before_derives terminal.RightBracket (name Class) (codes "]") is_right_bracket z.0 e.1 n.1 (word_of n.0) r
          (name_derives w.text formed n.0 e.1 n.1 n.2 n.3) end z.3)));
      like = ap Some (same_word n.0 w n.3);
    }

-- ---- a dependence

is_arrow_of : (d : Direction) → grammar.is_arrow (terminal_at (print.arrow d)) ≡ true
unfolding words marks
is_arrow_of In = refl
is_arrow_of Out = refl

arrow_back : (d : Direction) → grammar.direction_by (terminal_at (print.arrow d)) ≡ d
unfolding words marks
arrow_back In = refl
arrow_back Out = refl

arrow_derives : (d : Direction) (x : Token) (s m : List Token) → s ≡ x ∷ m → IsLike x (print.arrow d) → DerivesTree grammar.arrow s d m
unfolding grammar.arrow
arrow_derives d x s m h like = (
  x,
  (is_one grammar.is_arrow (print.arrow d) (is_arrow_of d) x s m h like, refl),
  ap grammar.direction_by
      (like_terminal x (print.arrow d) like) ∙ arrow_back d,
)

-- The part of a dependence after its arrow.
abbrev pub choice_of : DepTree → Choice
choice_of d = (d.guard, d.yes, d.no)

pub record IsDependence (d : DepTree) : Type 0 where
  pub choice : IsChoice (choice_of d)
  pub datatype : IsDatatype d.datatype

pub dependence_reads_back : (d : DepTree) → IsDependence d → (s r : List Token) → Reads (print.dependence d) s r
    → ReadsBackAs grammar.dependence same.dependence (same.dependence d) s r
unfolding grammar.dependence
dependence_reads_back d formed s r h =
    let l = reads_line (blank (codes "  ") ∷ token (print.arrow d.direction) ∷ space ∷
    (print.guard d.guard ++ (print.target d.yes ++ (print.other d.no ++ print.datatype d.datatype)))) s r h in
    let C = print.guard d.guard ++ (print.target d.yes ++ print.other d.no) in
    let regroup : print.guard d.guard ++ (print.target d.yes ++ (print.other d.no ++ print.datatype d.datatype))
    ≡ C ++ print.datatype d.datatype = simp append_assoc in
    let R : List Fragment → Type 0 = λ ps. Reads ps l.1 r in
    let split = reads_both C (print.datatype d.datatype) l.1 r (subst R regroup l.4) in
    let a = choice_reads_back (choice_of d) formed.choice l.1 split.0 split.1 in
    let b = datatype_reads_back d.datatype formed.datatype split.0 r split.2 in
    record {
      tree = grammar.dependence_of (d.direction, (a.tree, b.tree));
      derives = (
        (d.direction, (a.tree, b.tree)),
        (
          l.1,
          None,
          None,
          arrow_derives d.direction l.0 s l.1 l.2 l.3,
          (split.0, None, None, a.derives, b.derives, refl),
          refl,
        ),
        refl,
      );
      like = ap (λ (c : Choice). built d.direction c (option_map same.word b.tree)) a.like
          ∙ ap (λ (w : Option Word). built d.direction (choice (choice_of d)) w) b.like;
    }
