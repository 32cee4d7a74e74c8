-- The tokens of flows, classes and whole jobs derive them.
use Rattle.std.proofs.Common.{◌≡◌, ℕ, ◌+◌, ◌*◌, ◌≤◌, Bool, true, List, [], ◌∷◌, ◌++◌, length, map, refl, sym, ap, subst}
use Rattle.std.proofs.Common.{◌∙◌, inl, inr, arith, append_assoc, length-append}
use Rattle.std.specs.Prelude.{Option, Some, None, option_map, codes}
use Rattle.std.specs.List.{flat_map}
use Rattle.grammar_core.specs.declared.token.Spot.{Spot}
use Rattle.grammar_core.specs.declared.token.Token.{Token}
use Rattle.term_core.specs.declared.flow.FlowKind.{FlowKind}
use Rattle.term_core.specs.declared.flow.FlowKind.TheVariants as kind
use Rattle.jdf_lex.specs.declared.terminal.Terminal.{Terminal}
use Rattle.jdf_lex.specs.declared.terminal.Terminal.TheVariants as terminal
use Rattle.jdf_lex.specs.Codes.{TooManyParams, TooManyLocals, TooManyFlows, TooManyDeps, TooManyClasses}
use Rattle.jdf_lex.specs.Terminals.{words, marks, number_of, terminal_of, is}
use Rattle.jdf_lex.specs.Counted.{is_name}
use Rattle.grammar_core.specs.Production as form
use Rattle.grammar_core.specs.Production.{seq, opt, taken, Derived}
use Rattle.jdf_lex.specs.Sets.{one_of}
use Rattle.jdf_tree.specs.declared.expression.Word.{Word}
use Rattle.jdf_tree.specs.declared.part.Part.TheVariants.{Class}
use Rattle.jdf_tree.specs.declared.tree.ArgTree.{ArgTree}
use Rattle.jdf_tree.specs.declared.tree.DefTree.{DefTree}
use Rattle.jdf_tree.specs.declared.tree.DepTree.{DepTree}
use Rattle.jdf_tree.specs.declared.tree.FlowTree.{FlowTree}
use Rattle.jdf_tree.specs.declared.tree.ClassTree.{ClassTree}
use Rattle.jdf_tree.specs.declared.tree.Jdf.{Jdf}
use Rattle.jdf_tree.specs.Expression.{Expression}
use Rattle.jdf_tree.specs.Nonterminal.{a_file}
use Rattle.jdf_tree.specs.GrammarParts.{word, suffixed_by, any, maybe, name, word_of}
use Rattle.jdf_tree.specs.ExpressionGrammar.{outer}
use Rattle.jdf_tree.specs.ClassGrammar as grammar
use Rattle.jdf_tree.specs.ClassGrammar.{full_at}
use Rattle.jdf_tree.specs.Grammar as whole
use Rattle.jdf_tree.specs.Grammar.{productions}
use Rattle.jdf_print.specs.Fragments.{Fragment, token, space, between, separated, with_commas, line, token_count}
use Rattle.jdf_print.specs.Spelling as print
use Rattle.print_laws.specs.Same as same
use Rattle.print_laws.specs.Same.{nowhere}
use Rattle.print_laws.proofs.Depth.{named}
use Rattle.print_laws.proofs.Readable.{IsLike, IsWritten, Reads, reads_both, terminal_at, like_terminal, is_one}
use Rattle.print_laws.proofs.Limits.{no_cut}
use Rattle.jdf_print.proofs.CallerLemmas.{separated_is}
use Rattle.print_laws.proofs.Spent.{cover}
use Rattle.print_laws.proofs.Expressions.{DerivesTree, IsName, left_paren, right_paren, colon}
use Rattle.print_laws.proofs.Forms.{ReadsBackAs, Every, EachReadsBack, IsOuter, outer_reads_back, listed_reads_back}
use Rattle.print_laws.proofs.Forms.{star_reads_back, not_full, word_derives, after_derives, before_derives}
use Rattle.print_laws.proofs.Forms.{name_derives, same_word, reads_line}
use Rattle.print_laws.proofs.Targets.{IsArgument, argument_reads_back, call_reads_back, is_assign, IsDependence, dependence_reads_back}

-- ---- trees from their parts

abbrev flow_from : FlowKind → Word → List DepTree → FlowTree
flow_from k w ds = record { kind = k; name = w; deps = ds }

abbrev definition_from : Word → ArgTree → DefTree
definition_from w v = record { name = w; value = v }

abbrev pair : Word → List ArgTree → Word × List ArgTree
pair w a = (w, a)

abbrev head_pair : Word → List Word → Word × List Word
head_pair w ws = (w, ws)

abbrev plain_token : ℕ → List ℕ → Token
plain_token k t = record { terminal = k; text = t; start = 0; end = 0; spot = nowhere }

abbrev class_from : Word × List Word → List DefTree → Word × List ArgTree → List FlowTree → Option Expression → List Token → ClassTree
class_from h defs a flows priority body = record {
  name = h.0;
  params = h.1;
  defs = defs;
  affinity = a.0;
  affinity_args = a.1;
  flows = flows;
  priority = priority;
  body = body;
  finish = nowhere;
}

same_parts : (h h' : Word × List Word) → h ≡ h' → (d d' : List DefTree) → d ≡ d' → (a a' : Word × List ArgTree) → a ≡ a'
    → (f f' : List FlowTree) → f ≡ f' → (p p' : Option Expression) → p ≡ p' → (b b' : List Token) → b ≡ b'
    → class_from h d a f p b ≡ class_from h' d' a' f' p' b'
same_parts h h' eh d d' ed a a' ea f f' ef p p' ep b b' eb =
    ap (λ (x : Word × List Word). class_from x d a f p b) eh ∙ ap (λ (x : List DefTree). class_from h' x a f p b) ed
    ∙ ap (λ (x : Word × List ArgTree). class_from h' d' x f p b) ea
    ∙ ap (λ (x : List FlowTree). class_from h' d' a' x p b) ef
    ∙ ap (λ (x : Option Expression). class_from h' d' a' f' x b) ep
    ∙ ap (λ (x : List Token). class_from h' d' a' f' p' x) eb

abbrev job : List Word → List ClassTree → Jdf
job ws cs = record { globals = ws; classes = cs }

-- ---- flows

is_kind_of : (k : FlowKind) → grammar.is_kind (terminal_at (print.kind_word k)) ≡ true
unfolding words marks
is_kind_of kind.Read = refl
is_kind_of kind.Write = refl
is_kind_of kind.Rw = refl
is_kind_of kind.Ctl = refl

kind_back : (k : FlowKind) → grammar.kind_by (terminal_at (print.kind_word k)) ≡ k
unfolding words marks
kind_back kind.Read = refl
kind_back kind.Write = refl
kind_back kind.Rw = refl
kind_back kind.Ctl = refl

kind_derives : (k : FlowKind) (x : Token) (s m : List Token) → s ≡ x ∷ m → IsLike x (print.kind_word k) → DerivesTree grammar.kind_of_flow s k m
unfolding grammar.kind_of_flow
kind_derives k x s m h like = (
  x,
  (is_one grammar.is_kind (print.kind_word k) (is_kind_of k) x s m h like, refl),
  ap grammar.kind_by
      (like_terminal x (print.kind_word k) like) ∙ kind_back k,
)

pub record IsFlow (f : FlowTree) : Type 0 where
  pub name : IsName f.name.text
  pub few : length f.deps ≤ 16
  pub deps : Every IsDependence f.deps

pub flow_reads_back : (f : FlowTree) → IsFlow f → (s r : List Token) → Reads (print.flow f) s r → ReadsBackAs grammar.flow same.flow (same.flow f) s r
unfolding grammar.flow grammar.dependences
flow_reads_back f formed s r h =
    let split = reads_both (line (token (print.kind_word f.kind) ∷ space ∷ token f.name.text ∷ [])) (flat_map print.dependence f.deps) s r h in
    let l = reads_line (token (print.kind_word f.kind) ∷ space ∷ token f.name.text ∷ []) s split.0 split.1 in
    let n = l.4 in
    let end : l.1 ≡ n.0 ∷ split.0 = n.2 ∙ ap (λ (w : List Token). n.0 ∷ w) n.4 in
    let k = star_reads_back 16 (full_at 16 TooManyDeps) (λ i lt. not_full 16 i TooManyDeps lt) grammar.dependence
    same.dependence IsDependence print.dependence dependence_reads_back f.deps formed.few formed.deps split.0 r
    split.2 in
    record {
      tree = grammar.flow_of (f.kind, (word_of n.0, k.tree));
      derives = (
        (f.kind, (word_of n.0, k.tree)),
        (
          l.1,
          None,
          None,
          kind_derives f.kind l.0 s l.1 l.2 l.3,
          (split.0, None, None, name_derives f.name.text formed.name n.0 l.1 split.0 end n.3, k.derives, refl),
          refl,
        ),
        refl,
      );
      like = ap (λ (w : Word). flow_from f.kind w (map same.dependence k.tree)) (same_word n.0 f.name n.3)
          ∙ ap (λ (ds : List DepTree). flow_from f.kind (same.word f.name) ds) k.like;
    }

-- ---- definitions, parameters, affinity, priority

pub record IsDefinition (d : DefTree) : Type 0 where
  pub name : IsName d.name.text
  pub value : IsArgument d.value

pub definition_reads_back : (d : DefTree) → IsDefinition d → (s r : List Token) → Reads (print.definition d) s r
    → ReadsBackAs grammar.definition same.definition (same.definition d) s r
unfolding grammar.definition
definition_reads_back d formed s r h =
    let l = reads_line (token d.name.text ∷ (between (codes "=") ++ print.argument d.value)) s r h in
    let e = l.4 in
    let k = argument_reads_back d.value formed.value e.1 r e.4 in
    record {
      tree = grammar.definition_of (word_of l.0, k.tree);
      derives = (
        (word_of l.0, k.tree),
        (
          l.1,
          None,
          None,
          name_derives d.name.text formed.name l.0 s l.1 l.2 l.3,
          after_derives terminal.Assign grammar.argument (codes "=") is_assign e.0 l.1 e.1 k.tree r e.2 e.3 k.derives,
          refl,
        ),
        refl,
      );
      like = ap (λ (w : Word). definition_from w (same.argument k.tree)) (same_word l.0 d.name l.3)
          ∙ ap (λ (v : ArgTree). definition_from (same.word d.name) v) k.like;
    }

abbrev pub IsParameter : Word → Type 0
IsParameter w = IsName w.text

parameter_reads_back : EachReadsBack (name Class) same.word IsParameter (λ w. token w.text ∷ [])
parameter_reads_back w formed s r h =
    record { tree = word_of h.0; derives = name_derives w.text formed h.0 s r (h.2 ∙ ap (λ (l : List Token). h.0 ∷ l) h.4) h.3; like = same_word h.0 w h.3 }

-- Names with commas between them have one token less than twice their number.
names_count : (w : Word) (ws : List Word) → token_count (with_commas (map (λ v. token v.text ∷ []) (w ∷ ws))) + 1 ≡ 2 * (1 + length ws)
names_count w [] = refl
names_count w (v ∷ ws) = let k = names_count v ws in omega (arith, k)

parameters_tell : (w : Word) (ws : List Word) → IsParameter w → Every IsParameter ws → length ws ≤ 7 → (s r : List Token)
    → Reads (with_commas (map (λ v. token v.text ∷ []) (w ∷ ws))) s r → ReadsBackAs grammar.parameters (map same.word) (map same.word (w ∷ ws)) s r
unfolding grammar.parameters
parameters_tell w ws m ms few s r h =
    let k = listed_reads_back (name Class) same.word IsParameter (λ v. token v.text ∷ []) parameter_reads_back w ws m ms s r h in
    let c = cover is_name (with_commas (map (λ v. token v.text ∷ []) (w ∷ ws))) s r h in
    let size : length s ≡ length c.front + length r = ap (λ (l : List Token). length l) c.whole ∙ length-append c.front r in
    record { tree = k.tree; derives = (None, k.derives, no_cut 16 TooManyParams (taken s r) (omega (arith, size, c.size, names_count w ws))); like = k.like }

maybe_parameters : (ws : List Word) → Every IsParameter ws → length ws ≤ 8 → (s r : List Token)
    → Reads (with_commas (map (λ w. token w.text ∷ []) ws)) s r
    → ReadsBackAs (maybe grammar.parameters) (map same.word) (map same.word ws) s r
maybe_parameters [] formed few s r h = record { tree = []; derives = (None, (h, refl), refl); like = refl }
maybe_parameters (w ∷ ws) formed few s r h =
    let k = parameters_tell w ws formed.0 formed.1 (omega arith) s r h in
    record { tree = k.tree; derives = (Some k.tree, k.derives, refl); like = k.like }

parameter_list_reads_back : (ws : List Word) → Every IsParameter ws → length ws ≤ 8 → (s r : List Token)
    → Reads (print.enclosed (with_commas (map (λ w. token w.text ∷ []) ws))) s r
    → ReadsBackAs grammar.parameter_list (map same.word) (map same.word ws) s r
unfolding grammar.parameter_list
parameter_list_reads_back ws formed few s r h =
    let split = reads_both (with_commas (map (λ w. token w.text ∷ []) ws)) (token (codes ")") ∷ []) h.1 r h.4 in
    let k = maybe_parameters ws formed few h.1 split.0 split.1 in
    let end : split.0 ≡ split.2.0 ∷ r = split.2.2 ∙ ap (λ (l : List Token). split.2.0 ∷ l) split.2.4 in
    record {
      tree = k.tree;
      derives =
          after_derives terminal.LeftParen (suffixed_by terminal.RightParen (maybe grammar.parameters)) (codes "(") left_paren h.0 s h.1 k.tree r h.2 h.3
          (before_derives terminal.RightParen (maybe grammar.parameters) (codes ")") right_paren split.2.0 h.1 split.0 k.tree r k.derives end split.2.3);
      like = k.like;
    }

-- a collection and its indices, with spots replaced
abbrev affinity_plain : Word × List ArgTree → Word × List ArgTree
affinity_plain x = (same.word x.0, map same.argument x.1)

affinity_reads_back : (c : ClassTree) → IsName c.affinity.text → Every IsArgument c.affinity_args → (s r : List Token)
    → Reads (print.affinity c) s r → ReadsBackAs grammar.affinity affinity_plain
    (affinity_plain (c.affinity, c.affinity_args)) s r
unfolding grammar.affinity
affinity_reads_back c name_well_formed args_well_formed s r h =
    let l = reads_line (token (codes ":") ∷ space ∷ token c.affinity.text ∷ print.arguments c.affinity_args) s r h in
    let n = l.4 in
    let k = call_reads_back c.affinity_args args_well_formed n.1 r n.4 in
    record {
      tree = (word_of n.0, k.tree);
      derives = after_derives terminal.Colon (seq (name Class) grammar.call) (codes ":") colon l.0 s l.1
          (word_of n.0, k.tree) r l.2 l.3 (
            n.1,
            None,
            None,
            name_derives c.affinity.text name_well_formed n.0 l.1 n.1
                n.2 n.3,
            k.derives,
            refl,
          );
      like = ap (λ (w : Word). pair w (map same.argument k.tree)) (same_word n.0 c.affinity n.3)
          ∙ ap (λ (a : List ArgTree). pair (same.word c.affinity) a) k.like;
    }

is_semicolon : is terminal.Semicolon (terminal_at (codes ";")) ≡ true
unfolding words marks
is_semicolon = refl

abbrev pub IsPriority : Option Expression → Type 0
IsPriority None = Unit {0}
IsPriority (Some e) = IsOuter e

priority_reads_back : (p : Option Expression) → IsPriority p → (s r : List Token) → Reads (print.priority p) s r
    → ReadsBackAs (opt grammar.priority) (option_map same.expression) (option_map same.expression p) s r
unfolding grammar.priority
priority_reads_back None formed s r h = record { tree = None; derives = (h, refl); like = refl }
priority_reads_back (Some e) formed s r h =
    let l = reads_line (token (codes ";") ∷ space ∷ print.expression e) s r h in
    let k = outer_reads_back e formed l.1 r l.4 in
    record {
      tree = Some k.tree.tree;
      derives = (
        k.tree,
        after_derives terminal.Semicolon (outer Class) (codes ";")
            is_semicolon l.0 s l.1 k.tree r l.2 l.3 k.derives,
        refl,
      );
      like = ap Some k.like;
    }

-- ---- bodies

-- A token of a body, which is printed as it is.
pub record IsInBody (x : Token) : Type 0 where
  pub terminal : x.terminal ≡ number_of (terminal_at x.text)
  pub written : IsWritten x.text
  pub allowed : grammar.is_in_body (terminal_of x) ≡ true

-- The tokens of a body; the first one is not `[`.
abbrev pub IsBody : List Token → Type 0
IsBody [] = Unit {0}
IsBody (x ∷ xs) = IsInBody x × (grammar.begins_body (terminal_of x) ≡ true) × Every IsInBody xs

-- The terminal of a token that is read back is that of the printed one.
same_terminal : (x y : Token) → y.terminal ≡ number_of (terminal_at y.text) → IsLike x y.text → terminal_of x ≡ terminal_of y
same_terminal x y terminal like = like_terminal x y.text like ∙ sym (like_terminal y y.text (terminal, refl))

same_token : (x y : Token) → y.terminal ≡ number_of (terminal_at y.text) → IsLike x y.text → same.token x ≡ same.token y
same_token x y terminal like = ap (λ (k : ℕ). plain_token k x.text) (like.0 ∙ sym terminal) ∙ ap (λ (t : List ℕ). plain_token y.terminal t) like.1

body_token : (q : Terminal → Bool) (y : Token) → IsInBody y → q (terminal_of y) ≡ true → (s r : List Token)
    → Reads (token y.text ∷ []) s r → ReadsBackAs (one_of q) same.token (same.token y) s r
body_token q y formed t s r h =
    record {
      tree = h.0;
      derives = (
        (
          h.2 ∙ ap (λ (l : List Token). h.0 ∷ l) h.4,
          ap q
              (same_terminal h.0 y formed.terminal h.3) ∙ t,
        ),
        refl,
      );
      like = same_token h.0 y formed.terminal h.3;
    }

tokens_tell : (x : Token) (xs : List Token) → IsBody (x ∷ xs) → (s r : List Token) → Reads (separated (space ∷ []) (map (λ t. token t.text ∷ []) (x ∷ xs))) s r
    → ReadsBackAs grammar.body_tokens (map same.token) (map same.token (x ∷ xs)) s r
unfolding grammar.body_tokens
tokens_tell x xs formed s r h =
    let R : List Fragment → Type 0 = λ ps. Reads ps s r in
    let flat = subst R (separated_is (space ∷ []) (λ (t : Token). token t.text ∷ []) x xs) h in
    let split = reads_both (token x.text ∷ []) (flat_map (λ (t : Token). space ∷ token t.text ∷ []) xs) s r flat in
    let a = body_token grammar.begins_body x formed.0 formed.1 s split.0 split.1 in
    let b =
    star_reads_back (length xs) any (λ i lt. refl) (one_of grammar.is_in_body) same.token IsInBody (λ t. space ∷ token t.text ∷ [])
    (λ y m t u k. body_token grammar.is_in_body y m m.allowed t u k) xs (omega arith) formed.2 split.0 r split.2 in
    record {
      tree = a.tree ∷ b.tree;
      derives = (
        (a.tree, b.tree),
        (split.0, None, None, a.derives, b.derives, refl),
        refl,
      );
      like = ap (λ (t : Token). t ∷ map same.token b.tree) a.like
          ∙ ap (λ (l : List Token). same.token x ∷ l) b.like;
    }

maybe_tokens : (xs : List Token) → IsBody xs → (s r : List Token) → Reads (print.body xs) s r
    → ReadsBackAs (maybe grammar.body_tokens) (map same.token) (map same.token xs) s r
maybe_tokens [] formed s r h = record { tree = []; derives = (None, (h, refl), refl); like = refl }
maybe_tokens (x ∷ xs) formed s r h =
    let l = reads_line (separated (space ∷ []) (map (λ t. token t.text ∷ []) (x ∷ xs))) s r h in
    let k = tokens_tell x xs formed s r l in
    record { tree = k.tree; derives = (Some k.tree, k.derives, refl); like = k.like }

is_body : is terminal.Body (terminal_at (codes "BODY")) ≡ true
unfolding words marks
is_body = refl

is_end : is terminal.End (terminal_at (codes "END")) ≡ true
unfolding words marks
is_end = refl

abbrev body_plain : List Token × Spot → List Token
body_plain x = map same.token x.0

body_reads_back : (xs : List Token) → IsBody xs → (s r : List Token)
    → Reads (line (token (codes "BODY") ∷ []) ++ (print.body xs ++ line (token (codes "END") ∷ []))) s r
    → ReadsBackAs grammar.body body_plain (map same.token xs) s r
unfolding grammar.body
body_reads_back xs formed s r h =
    let first = reads_both (line (token (codes "BODY") ∷ [])) (print.body xs ++ line (token (codes "END") ∷ [])) s r h in
    let b = reads_line (token (codes "BODY") ∷ []) s first.0 first.1 in
    let second = reads_both (print.body xs) (line (token (codes "END") ∷ [])) first.0 r first.2 in
    let e = reads_line (token (codes "END") ∷ []) second.0 r second.2 in
    let k = maybe_tokens xs formed first.0 second.0 second.1 in
    let begin : s ≡ b.0 ∷ first.0 = b.2 ∙ ap (λ (l : List Token). b.0 ∷ l) b.4 in
    let end : second.0 ≡ e.0 ∷ r = e.2 ∙ ap (λ (l : List Token). e.0 ∷ l) e.4 in
    record {
      tree = (k.tree, e.0.spot);
      derives =
          after_derives terminal.Body (form.map grammar.body_of
          (seq (opt grammar.properties) (seq (maybe grammar.body_tokens) (word terminal.End)))) (codes "BODY")
          is_body b.0 s first.0 (k.tree, e.0.spot) r begin b.3 (
            (None, (k.tree, e.0)),
            (
              first.0,
              None,
              None,
              (refl, refl),
              (
                second.0,
                None,
                None,
                k.derives,
                word_derives terminal.End (codes "END") is_end e.0 second.0 r end e.3,
                refl,
              ),
              refl,
            ),
            refl,
          );
      like = k.like;
    }

-- ---- classes

pub record IsClass (c : ClassTree) : Type 0 where
  pub name : IsName c.name.text
  pub params_at_most : length c.params ≤ 8
  pub params : Every IsParameter c.params
  pub defs_at_most : length c.defs ≤ 16
  pub defs : Every IsDefinition c.defs
  pub affinity : IsName c.affinity.text
  pub affinity_args : Every IsArgument c.affinity_args
  pub flows_at_most : length c.flows ≤ 8
  pub flows : Every IsFlow c.flows
  pub priority : IsPriority c.priority
  pub body : IsBody c.body

abbrev head_plain : Word × (List Word × Option (List Token)) → Word × List Word
head_plain x = (same.word x.0, map same.word x.1.0)

head_reads_back : (c : ClassTree) → IsClass c → (s r : List Token) → Reads (print.head c) s r
    → ReadsBackAs grammar.head head_plain (head_pair (same.word c.name) (map same.word c.params)) s r
unfolding grammar.head
head_reads_back c formed s r h =
    let l = reads_line (token c.name.text ∷ print.enclosed (with_commas (map (λ w. token w.text ∷ []) c.params))) s r h in
    let k = parameter_list_reads_back c.params formed.params formed.params_at_most l.1 r l.4 in
    record {
      tree = (word_of l.0, (k.tree, None));
      derives = (l.1, None, None, name_derives c.name.text formed.name l.0 s l.1 l.2 l.3, (r, None, None, k.derives, (refl, refl), refl), refl);
      like = ap (λ (w : Word). head_pair w (map same.word k.tree)) (same_word l.0 c.name l.3) ∙ ap (λ (ws : List Word). head_pair (same.word c.name) ws) k.like;
    }

pub class_reads_back : (c : ClassTree) → IsClass c → (s r : List Token) → Reads (print.class c) s r → ReadsBackAs grammar.class same.class (same.class c) s r
unfolding grammar.class grammar.rest grammar.definitions grammar.flows
class_reads_back c formed s r h =
    let B = line (token (codes "BODY") ∷ []) ++ (print.body c.body ++ line (token (codes "END") ∷ [])) in
    let P = print.priority c.priority ++ B in
    let F = flat_map print.flow c.flows ++ P in
    let A = print.affinity c ++ F in
    let D = flat_map print.definition c.defs ++ A in
    let s1 = reads_both (print.head c) D s r h in
    let s2 = reads_both (flat_map print.definition c.defs) A s1.0 r s1.2 in
    let s3 = reads_both (print.affinity c) F s2.0 r s2.2 in
    let s4 = reads_both (flat_map print.flow c.flows) P s3.0 r s3.2 in
    let s5 = reads_both (print.priority c.priority) B s4.0 r s4.2 in
    let k1 = head_reads_back c formed s s1.0 s1.1 in
    let k2 = star_reads_back 16 (full_at 16 TooManyLocals) (λ i lt. not_full 16 i TooManyLocals lt) grammar.definition
    same.definition IsDefinition print.definition definition_reads_back c.defs formed.defs_at_most formed.defs s1.0
    s2.0 s2.1 in
    let k3 = affinity_reads_back c formed.affinity formed.affinity_args s2.0 s3.0 s3.1 in
    let k4 = star_reads_back 8 (full_at 8 TooManyFlows) (λ i lt. not_full 8 i TooManyFlows lt) grammar.flow same.flow
    IsFlow print.flow flow_reads_back c.flows formed.flows_at_most formed.flows s3.0 s4.0 s4.1 in
    let k5 = priority_reads_back c.priority formed.priority s4.0 s5.0 s5.1 in
    let k6 = body_reads_back c.body formed.body s5.0 r s5.2 in
    record {
      tree = grammar.class_of (k1.tree, (k2.tree, (k3.tree, (k4.tree, (k5.tree, k6.tree)))));
      derives = (
        (k1.tree, (k2.tree, (k3.tree, (k4.tree, (k5.tree, k6.tree))))),
        (
          s1.0,
          None,
          None,
          k1.derives,
          (
            s2.0,
            None,
            None,
            k2.derives,
            (
              s3.0,
              None,
              None,
              k3.derives,
              (
                s4.0,
                None,
                None,
                k4.derives,
                (s5.0, None, None, k5.derives, k6.derives, refl),
                refl,
              ),
              refl,
            ),
            refl,
          ),
          refl,
        ),
        refl,
      );
      like = same_parts (same.word k1.tree.0, map same.word k1.tree.1.0) _ k1.like _ _ k2.like (affinity_plain k3.tree)
          _ k3.like _ _ k4.like _ _ k5.like _ _ k6.like;
    }

-- ---- whole jobs

pub record IsJob (jdf : Jdf) : Type 0 where
  pub globals : Every IsParameter jdf.globals
  pub few : length jdf.classes ≤ 64
  pub some : 1 ≤ length jdf.classes
  pub classes : Every IsClass jdf.classes

and_skips : (c : ClassTree) → IsClass c → (s r : List Token) → Reads (print.class c) s r → ReadsBackAs whole.class_and_skips same.class (same.class c) s r
unfolding whole.class_and_skips
and_skips c formed s r h =
    let k = class_reads_back c formed s r h in
    record { tree = k.tree; derives = ((k.tree, []), (r, None, None, k.derives, (refl, refl), refl), refl); like = k.like }

classes_tell : (c : ClassTree) (cs : List ClassTree) → IsClass c → Every IsClass cs → length cs ≤ 63
    → (s r : List Token) → Reads (flat_map print.class (c ∷ cs)) s r
    → ReadsBackAs whole.classes (map same.class) (map same.class (c ∷ cs)) s r
unfolding whole.classes
classes_tell c cs m ms few s r h =
    let split = reads_both (print.class c) (flat_map print.class cs) s r h in
    let a = and_skips c m s split.0 split.1 in
    let b = star_reads_back 63 (full_at 63 TooManyClasses) (λ i lt. not_full 63 i TooManyClasses lt)
    whole.class_and_skips same.class IsClass print.class and_skips cs few ms split.0 r split.2 in
    record {
      tree = a.tree ∷ b.tree;
      derives = (
        (a.tree, b.tree),
        (split.0, None, None, a.derives, b.derives, refl),
        refl,
      );
      like = ap (λ (t : ClassTree). t ∷ map same.class b.tree) a.like
          ∙ ap (λ (l : List ClassTree). same.class c ∷ l) b.like;
    }

abbrev globals_pieces : List Word → List Fragment
globals_pieces ws = flat_map (λ w. line (token w.text ∷ [])) ws

file_name : (s : List Token) (t : Jdf) (r : List Token) → DerivesTree whole.file s t r → Derived productions a_file s t None r
unfolding productions
file_name s t r h = named productions a_file s t None r h

file_reads_back : (ws : List Word) (c : ClassTree) (cs : List ClassTree) → Every IsParameter ws → IsClass c
    → Every IsClass cs → length cs ≤ 63 → (s r : List Token)
    → Reads (globals_pieces ws ++ flat_map print.class (c ∷ cs)) s r
    → ReadsBackAs whole.file same.plain (same.plain (record { globals = ws; classes = c ∷ cs })) s r
unfolding whole.file whole.file_after_global
file_reads_back [] c cs wm m ms few s r h =
    let k = classes_tell c cs m ms few s r h in
    record { tree = whole.without_globals k.tree; derives = inr (inr (inl (k.tree, k.derives, refl))); like = ap (λ (l : List ClassTree). job [] l) k.like }
file_reads_back (w ∷ ws) c cs wm m ms few s r h =
    let R : List Fragment → Type 0 = λ ps. Reads ps s r in
    let split = reads_both (line (token w.text ∷ [])) (globals_pieces ws ++ flat_map print.class (c ∷ cs)) s r
    (subst R (append_assoc (line (token w.text ∷ [])) (globals_pieces ws) (flat_map print.class (c ∷ cs))) h) in
    let l = reads_line (token w.text ∷ []) s split.0 split.1 in
    let k = file_reads_back ws c cs wm.1 m ms few split.0 r split.2 in
    let begin : s ≡ l.0 ∷ split.0 = l.2 ∙ ap (λ (v : List Token). l.0 ∷ v) l.4 in
    record {
      tree = whole.with_global (word_of l.0) k.tree;
      derives = inr (inr (inr (inr (
        (l.0, k.tree),
        (
          split.0,
          None,
          is_one is_name w.text wm.0.1 l.0 s split.0 begin l.3,
          file_name split.0 k.tree r k.derives,
          refl,
        ),
        refl,
      ))));
      like = ap (λ (v : Word). job (v ∷ map same.word k.tree.globals) (map same.class k.tree.classes))
          (same_word l.0 w l.3) ∙ ap (λ (j : Jdf). job (same.word w ∷ j.globals) j.classes) k.like;
    }

-- The tokens of the spelling of a well-formed tree derive that tree but for positions.
pub job_reads_back : (jdf : Jdf) → IsJob jdf → (s r : List Token) → Reads (print.fragments jdf) s r → ReadsBackAs whole.file same.plain (same.plain jdf) s r
job_reads_back jdf formed s r h = go jdf.classes refl
  where
    go : (cs : List ClassTree) → jdf.classes ≡ cs → ReadsBackAs whole.file same.plain (same.plain jdf) s r
    go [] e = absurd (omega (arith, formed.some, ap (λ (l : List ClassTree). length l) e))
    go (c ∷ cs) e =
        let E : List ClassTree → Type 0 = λ l. Every IsClass l in
        let R : List ClassTree → Type 0 = λ l. Reads (globals_pieces jdf.globals ++ flat_map print.class l) s r in
        let G : List ClassTree → Type 0 = λ l. ReadsBackAs whole.file same.plain (same.plain (record { globals = jdf.globals; classes = l })) s r in
        let all = subst E e formed.classes in
        subst G (sym e) (file_reads_back jdf.globals c cs formed.globals all.0 all.1
        (omega (arith, formed.few, ap (λ (l : List ClassTree). length l) e)) s r (subst R e h))
