-- The tests of the code are tests of first sets.
use Rattle.std.proofs.Common.{◌≡◌, ℕ, Bool, true, false, cond, List, [], ◌∷◌, Ok, Err, refl}
use Rattle.std.specs.Prelude.{◌&&◌, ◌||◌, Option}
use Rattle.grammar_core.specs.declared.token.Token.{Token}
use Rattle.jdf_lex.specs.declared.terminal.Terminal.{Terminal}
use Rattle.jdf_lex.specs.declared.terminal.Terminal.TheVariants as terminal
use Rattle.jdf_lex.specs.Terminals.{is, set, terminal_at}
use Rattle.jdf_lex.specs.Counted.{is_name}
use Rattle.grammar_core.specs.Production.{opt}
use Rattle.jdf_lex.specs.Sets.{pick, starts}
use Rattle.grammar_core.specs.Reading.{Read, ◌>>=◌, first, picks, reading}
use Rattle.grammar_core.specs.Reading as numbered
use Rattle.grammar_core.specs.Terminals as terminals
use Rattle.grammar_core.proofs.CallerLemmas.{alike_at, applied, pair_with}
use Rattle.term_core.specs.declared.direction.Direction.{Direction}
use Rattle.jdf_tree.specs.declared.expression.Word.{Word}
use Rattle.jdf_tree.specs.declared.tree.DepTree.{DepTree}
use Rattle.jdf_tree.specs.declared.part.Part.TheVariants.{Class}
use Rattle.jdf_tree.specs.ExpressionGrammar.{number, parens, reference, signed, unary, product, sum, relation, equality, conjunction, disjunction}
use Rattle.jdf_tree.specs.ExpressionGrammar.{expr, outer, guard}
use Rattle.jdf_tree.specs.ClassGrammar.{argument, arguments, called, target, Choice, unguarded, guarded, may_follow_target_name, arrow, datatype}
use Rattle.jdf_tree.specs.ClassGrammar.{dependence_of, dependence, parameters, properties}
use Rattle.jdf_tree.specs.GrammarParts.{names}
use Rattle.jdf_tree.specs.Grammar.{productions, begins_operand}
use Rattle.jdf_read.specs.Next.{is_target}

-- arguments begin with an operand
pub arguments_begin : (s : List Token) → numbered.starts (first arguments) s ≡ starts (begins_operand Class) s
unfolding terminal_at arguments argument outer expr disjunction conjunction equality relation sum product unary signed number reference parens
arguments_begin [] = refl
arguments_begin (x ∷ s) = alike_at (first arguments) (set (begins_operand Class)) refl refl x

target_goes_on : (s : List Token) → starts may_follow_target_name s ≡ (starts is_name s || starts (is terminal.LeftParen) s)
target_goes_on [] = refl
target_goes_on (x ∷ s) = refl

-- whether an unguarded target is read if this terminal is next; b tells whether the token after it may follow a
-- target's name
abbrev begins_target : Bool → ℕ → Bool
begins_target b k = cond (first guarded k) (first unguarded k && b) (first unguarded k)

abbrev is_target_by : Bool → Terminal → Bool
is_target_by b k = is terminal.New k || is terminal.Null k || (is_name k && b)

target_begins_by : (b : Bool) (x : Token) → begins_target b (terminals.terminal_of x) ≡ set (is_target_by b) (terminals.terminal_of x)
unfolding terminal_at unguarded target called guarded guard disjunction conjunction equality relation sum product unary signed number reference parens
target_begins_by true x = alike_at (begins_target true) (set (is_target_by true)) refl refl x
target_begins_by false x = alike_at (begins_target false) (set (is_target_by false)) refl refl x

-- Which production is next after an arrow.
pub target_begins : (s : List Token) → picks (first unguarded) (first guarded) (set may_follow_target_name) s ≡ is_target s
target_begins [] = refl
target_begins (x ∷ s) = rw (target_goes_on s) (target_begins_by (starts is_name s || starts (is terminal.LeftParen) s) x)

pub choice_reads : (s : List Token) → reading productions (pick may_follow_target_name unguarded guarded) s
    ≡ cond (is_target s) (reading productions unguarded s) (reading productions guarded s)
choice_reads s = rw (target_begins s) refl

-- ---- dependences

pub datatype_begins : (s : List Token) → numbered.starts (first datatype) s ≡ starts (is terminal.LeftBracket) s
unfolding datatype
datatype_begins s = refl

-- three productions, one after another
pub thrice : {A B C D : Type 0} (r : Read A) (q : List Token → Read B) (p : List Token → Read C) (f : A × (B × C) → D)
    → ((r >>= λ a. (q a.1 >>= λ b. p b.1 >>= pair_with b.0) >>= pair_with a.0) >>= applied f)
    ≡ (r >>= λ a. q a.1 >>= λ b. p b.1 >>= applied (λ (c : C). f (a.0, (b.0, c))))
thrice {A} {B} {C} {D} (Ok a) q p f = go (q a.1)
  where
    last : (b : B) (c : Read C) → (((c >>= pair_with b) >>= pair_with a.0) >>= applied f) ≡ (c >>= applied (λ (z : C). f (a.0, (b, z))))
    last b (Ok c) = refl
    last b (Err e) = refl

    go : (b : Read B) → (((b >>= λ y. p y.1 >>= pair_with y.0) >>= pair_with a.0) >>= applied f) ≡ (b >>= λ y. p y.1 >>= applied (λ (c : C). f (a.0, (y.0, c))))
    go (Ok b) = last b.0 (p b.1)
    go (Err e) = refl
thrice (Err e) q p f = refl

abbrev after_arrow : Direction → Choice → Option Word → DepTree
after_arrow direction x datatype = dependence_of (direction, (x, datatype))

pub dependence_reads : (s : List Token) → reading productions dependence s
    ≡ (reading productions arrow s >>= λ a. reading productions (pick may_follow_target_name unguarded guarded) a.1
    >>= λ b. reading productions (opt datatype) b.1 >>= applied (λ c. after_arrow a.0 b.0 c))
unfolding dependence
dependence_reads s = thrice (reading productions arrow s)
    (reading productions (pick may_follow_target_name unguarded guarded)) (reading productions (opt datatype))
    dependence_of

-- ---- classes

pub parameters_begin : (s : List Token) → numbered.starts (first parameters) s ≡ starts (names Class) s
unfolding parameters
parameters_begin s = refl

pub properties_begin : (s : List Token) → numbered.starts (first properties) s ≡ starts (is terminal.LeftBracket) s
unfolding properties
properties_begin s = refl
