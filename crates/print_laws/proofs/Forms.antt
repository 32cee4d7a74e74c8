-- Derivations by the small productions that the grammar consists of.
use Rattle.std.proofs.Common.{◌≡◌, ℕ, suc, ◌+◌, ◌≤◌, ◌<◌, true, List, [], ◌∷◌, ◌++◌, length, map, refl, sym, ap, subst, ◌∙◌, arith}
use Rattle.std.specs.Prelude.{Option, Some, None, nat_le, codes}
use Rattle.std.specs.List.{flat_map}
use Rattle.std.proofs.lemmas.Bool.{cond-false, lt-leb}
use Rattle.std.specs.Option.{option_or}
use Rattle.grammar_core.specs.declared.token.Token.{Token}
use Rattle.jdf_lex.specs.declared.terminal.Terminal.{Terminal}
use Rattle.jdf_lex.specs.declared.terminal.Terminal.TheVariants as terminal
use Rattle.grammar_core.specs.declared.code.Code.{Code}
use Rattle.jdf_lex.specs.Terminals.{words, marks, is}
use Rattle.jdf_lex.specs.Counted.{is_counted}
use Rattle.jdf_lex.specs.Sets.{limit_at}
use Rattle.grammar_core.specs.Production.{Fault, then_fault, at_start, star, Derives, Many, Derived, taken}
use Rattle.jdf_lex.specs.Codes.{ExprTooLong}
use Rattle.jdf_tree.specs.declared.expression.Word.{Word}
use Rattle.jdf_tree.specs.declared.part.Part.TheVariants.{Class}
use Rattle.jdf_tree.specs.Expression.{Expression}
use Rattle.jdf_tree.specs.Nonterminal.{Grammar}
use Rattle.jdf_tree.specs.GrammarParts.{word, prefixed_by, suffixed_by, any, listed, names, name, word_of}
use Rattle.jdf_tree.specs.Grammar.{productions}
use Rattle.jdf_tree.specs.ExpressionGrammar.{outer, guard}
use Rattle.jdf_tree.specs.ClassGrammar.{full_at}
use Rattle.jdf_print.specs.Fragments.{Fragment, comma, with_commas, line}
use Rattle.jdf_print.specs.Spelling as print
use Rattle.print_laws.specs.Same as same
use Rattle.print_laws.proofs.Readable.{IsLike, Reads, reads_both, terminal_at, is_one}
use Rattle.print_laws.proofs.Limits.{no_cut}
use Rattle.print_laws.proofs.Spent.{weight, within_limit}
use Rattle.print_laws.proofs.Expressions.{DerivesTree, IsWellFormed, IsName, has_tree, up, up_expr}

-- The tokens derive a tree that is this one but for positions.
pub record ReadsBackAs {A B : Type 0} (g : Grammar A) (erase : A → B) (b : B) (s r : List Token) : Type 0 where
  pub tree : A
  pub derives : DerivesTree g s tree r
  pub like : erase tree ≡ b

-- The property holds for each element of a list.
abbrev pub Every : {A : Type 0} → (A → Type 0) → List A → Type 0
Every P [] = Unit {0}
Every P (x ∷ xs) = P x × Every P xs

-- ---- words

-- A word alone.
pub word_derives : (k : Terminal) (w : List ℕ) → is k (terminal_at w) ≡ true → (x : Token) (s m : List Token)
    → s ≡ x ∷ m → IsLike x w → DerivesTree (word k) s x m
word_derives k w e x s m h like = (is_one (is k) w e x s m h like, refl)

-- A word before a derivation.
pub after_derives : {A : Type 0} (k : Terminal) (g : Grammar A) (w : List ℕ) → is k (terminal_at w) ≡ true
    → (x : Token) (s m : List Token) (t : A) (r : List Token)
    → s ≡ x ∷ m → IsLike x w → DerivesTree g m t r → DerivesTree (prefixed_by k g) s t r
after_derives k g w e x s m t r h like derives = ((x, t), (m, None, None, word_derives k w e x s m h like, derives, refl), refl)

-- A word after a derivation.
pub before_derives : {A : Type 0} (k : Terminal) (g : Grammar A) (w : List ℕ) → is k (terminal_at w) ≡ true
    → (x : Token) (s m : List Token) (t : A) (r : List Token)
    → DerivesTree g s t m → m ≡ x ∷ r → IsLike x w → DerivesTree (suffixed_by k g) s t r
before_derives k g w e x s m t r derives h like = ((t, x), (m, None, None, derives, word_derives k w e x m r h like, refl), refl)

pub name_derives : (w : List ℕ) → IsName w → (x : Token) (s m : List Token) → s ≡ x ∷ m → IsLike x w → DerivesTree (name Class) s (word_of x) m
name_derives w formed x s m h like = (x, (is_one (names Class) w formed.1 x s m h like, refl), refl)

-- A token with the text of a word is the same word but for its spot.
pub same_word : (x : Token) (w : Word) → IsLike x w.text → same.word (word_of x) ≡ same.word w
same_word x w like = ap (λ (t : List ℕ). same.word (record { text = t; spot = w.spot })) like.1

-- The fragments of a line.
pub reads_line : (ps : List Fragment) (s r : List Token) → Reads (line ps) s r → Reads ps s r
reads_line ps s r h = let k = reads_both ps _ s r h in let R : List Token → Type 0 = λ m. Reads ps s m in subst R k.2 k.1

-- ---- outermost expressions

-- A well-formed expression of a class that is not too long.
abbrev pub IsOuter : Expression → Type 0
IsOuter e = IsWellFormed e × (weight e ≤ 128)

pub outer_reads_back : (e : Expression) → IsOuter e → (s r : List Token) → Reads (print.expression e) s r
    → ReadsBackAs (outer Class) (λ p. same.expression p.tree) (same.expression e) s r
unfolding outer
outer_reads_back e formed s r h =
    let k = has_tree e formed.0 s r h in
    record {
      tree = k.tree;
      derives = (
        None,
        up_expr s k.tree r k.derives,
        no_cut (limit_at is_counted 512 128 s)
            ExprTooLong (taken s r) (within_limit e formed.1 s r h),
      );
      like = k.like;
    }

pub guard_reads_back : (e : Expression) → IsOuter e → (s r : List Token) → Reads (print.expression e) s r
    → ReadsBackAs guard (λ p. same.expression p.tree) (same.expression e) s r
unfolding guard
guard_reads_back e formed s r h =
    let k = has_tree e formed.0 s r h in
    record {
      tree = k.tree;
      derives = (
        None,
        up s k.tree r k.derives,
        no_cut (limit_at is_counted 512 128 s) ExprTooLong
            (taken s r) (within_limit e formed.1 s r h),
      );
      like = k.like;
    }

-- ---- lists

-- The tokens of each element's spelling derive the element.
abbrev pub EachReadsBack : {A B : Type 0} → Grammar A → (A → B) → (A → Type 0) → (A → List Fragment) → Type 0
EachReadsBack {A = A} g erase formed spelled = (a : A) → formed a → (s r : List Token) → Reads (spelled a) s r → ReadsBackAs g erase (erase a) s r

is_comma : is terminal.Comma (terminal_at (codes ",")) ≡ true
unfolding words marks
is_comma = refl

-- A nonempty list with commas between its elements.
record ListReadsBack {A B : Type 0} (g : Grammar A) (erase : A → B) (bs : List B) (s r : List Token) : Type 0 where
  first : A
  later : List A
  middle : List Token
  derives_first : DerivesTree g s first middle
  derives_later : (i : ℕ) → Many any (Derives (Derived productions) (prefixed_by terminal.Comma g)) i middle later None r
  like : map erase (first ∷ later) ≡ bs

list_reads_back : {A B : Type 0} (g : Grammar A) (erase : A → B) (formed : A → Type 0) (spelled : A → List Fragment) → EachReadsBack g erase formed spelled
    → (x : A) (xs : List A) → formed x → Every formed xs → (s r : List Token)
    → Reads (with_commas (map spelled (x ∷ xs))) s r → ListReadsBack g erase (map erase (x ∷ xs)) s r
list_reads_back g erase formed spelled each x [] m ms s r h =
    let k = each x m s r h in
    record { first = k.tree; later = []; middle = r; derives_first = k.derives; derives_later = λ i. (refl, refl); like = ap (λ b. b ∷ []) k.like }
list_reads_back g erase formed spelled each x (y ∷ ys) m ms s r h =
    let split = reads_both (spelled x) (comma ++ with_commas (map spelled (y ∷ ys))) s r h in
    let k = each x m s split.0 split.1 in
    let more = list_reads_back g erase formed spelled each y ys ms.0 ms.1 split.2.1 r split.2.4 in
    record {
      first = k.tree;
      later = more.first ∷ more.later;
      middle = split.0;
      derives_first = k.derives;
      derives_later = λ i. (
        more.middle,
        None,
        None,
        after_derives terminal.Comma g (codes ",") is_comma split.2.0 split.0 split.2.1
            more.first more.middle split.2.2 split.2.3 more.derives_first,
        more.derives_later (suc i),
        refl,
      );
      like = ap (λ b. b ∷ map erase (more.first ∷ more.later)) k.like ∙ ap (λ bs. erase x ∷ bs) more.like;
    }

pub listed_reads_back : {A B : Type 0} (g : Grammar A) (erase : A → B) (formed : A → Type 0)
    (spelled : A → List Fragment) → EachReadsBack g erase formed spelled
    → (x : A) (xs : List A) → formed x → Every formed xs → (s r : List Token)
    → Reads (with_commas (map spelled (x ∷ xs))) s r → ReadsBackAs (listed g) (map erase) (map erase (x ∷ xs)) s r
listed_reads_back g erase formed spelled each x xs m ms s r h =
    let k = list_reads_back g erase formed spelled each x xs m ms s r h in
    record { tree = k.first ∷ k.later; derives = ((k.first, k.later), (k.middle, None, None, k.derives_first, k.derives_later 0, refl), refl); like = k.like }

pub not_full : (n i : ℕ) (c : Code) → i < n → full_at n c i ≡ None
not_full n i c h = cond-false (nat_le n i) (Some c) None (lt-leb n i h)

abbrev none : Fault
none = None

no_fault : (full : ℕ → Option Code) (i : ℕ) → full i ≡ None → (n : ℕ) → then_fault (option_or (at_start (full i)) None) n None ≡ none
no_fault full i e n = ap (λ (c : Option Code). then_fault (option_or (at_start c) None) n None) e

-- The elements of a list, derived one after the other.
record StarReadsBack {A B : Type 0} (full : ℕ → Option Code) (i : ℕ) (g : Grammar A) (erase : A → B) (bs : List B) (s r : List Token) : Type 0 where
  trees : List A
  derives : Many full (Derives (Derived productions) g) i s trees None r
  like : map erase trees ≡ bs

all_read_back : {A B : Type 0} (n : ℕ) (full : ℕ → Option Code) → ((i : ℕ) → i < n → full i ≡ None)
    → (g : Grammar A) (erase : A → B) (formed : A → Type 0) (spelled : A → List Fragment)
    → EachReadsBack g erase formed spelled
    → (i : ℕ) (xs : List A) → i + length xs ≤ n → Every formed xs → (s r : List Token) → Reads (flat_map spelled xs) s r
    → StarReadsBack full i g erase (map erase xs) s r
all_read_back n full room g erase formed spelled each i [] few ms s r h = record { trees = []; derives = (h, refl); like = refl }
all_read_back n full room g erase formed spelled each i (x ∷ xs) few ms s r h =
    let split = reads_both (spelled x) (flat_map spelled xs) s r h in
    let k = each x ms.0 s split.0 split.1 in
    let more = all_read_back n full room g erase formed spelled each (suc i) xs (omega arith) ms.1 split.0 r split.2 in
    record {
      trees = k.tree ∷ more.trees;
      derives = (split.0, None, None, k.derives, more.derives, sym (no_fault full i (room i (omega arith)) (taken s split.0)));
      like = ap (λ b. b ∷ map erase more.trees) k.like ∙ ap (λ bs. erase x ∷ bs) more.like;
    }

pub star_reads_back : {A B : Type 0} (n : ℕ) (full : ℕ → Option Code) → ((i : ℕ) → i < n → full i ≡ None)
    → (g : Grammar A) (erase : A → B) (formed : A → Type 0) (spelled : A → List Fragment)
    → EachReadsBack g erase formed spelled
    → (xs : List A) → length xs ≤ n → Every formed xs → (s r : List Token) → Reads (flat_map spelled xs) s r
    → ReadsBackAs (star full g) (map erase) (map erase xs) s r
star_reads_back n full room g erase formed spelled each xs few ms s r h =
    let k = all_read_back n full room g erase formed spelled each 0 xs (omega arith) ms s r h in
    record { tree = k.trees; derives = k.derives; like = k.like }
