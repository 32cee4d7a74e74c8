-- The lists of the grammar: their elements are never empty, and have these first sets.
use Rattle.std.proofs.Common.{◌≡◌, List, [], ◌∷◌, ◌++◌, Ok, refl}
use Rattle.ptg_base.specs.Returns.{ReturnsRefusal}
use Rattle.grammar_core.specs.declared.token.Token.{Token}
use Rattle.jdf_lex.specs.declared.terminal.Terminal.TheVariants as terminal
use Rattle.jdf_lex.specs.Terminals.{is, set}
use Rattle.jdf_lex.specs.Codes.{TooManyClasses, TooManyLocals, TooManyFlows, TooManyDeps}
use Rattle.grammar_core.specs.Reading.{reading}
use Rattle.grammar_core.specs.Refusing.{ReadRefusal}
use Rattle.grammar_core.proofs.CallerLemmas.{IsListed, so_far}
use Rattle.jdf_tree.specs.declared.expression.Word.{Word}
use Rattle.jdf_tree.specs.declared.tree.ArgTree.{ArgTree}
use Rattle.jdf_tree.specs.declared.tree.ClassTree.{ClassTree}
use Rattle.jdf_tree.specs.declared.part.Part.TheVariants.{Class}
use Rattle.jdf_tree.specs.ClassGrammar.{argument, arguments, arrow, is_arrow, dependence, dependences, kind_of_flow, is_kind, flow, flows}
use Rattle.jdf_tree.specs.ClassGrammar.{definition, definitions, head, class, full_at}
use Rattle.jdf_tree.specs.Grammar.{productions, skip, class_and_skips, classes}
use Rattle.jdf_read.specs.Next.{next_argument, next_parameter, is_skip}
use Rattle.jdf_tree.proofs.CallerLemmas.{rest_of}
use Rattle.jdf_read.proofs.ListSteps.{some_begin, some_fail, counted, counted_begins, counted_after_first}
use Rattle.jdf_tree.specs.GrammarParts.{any, name, names, listed}

pub arguments_listed : IsListed productions next_argument (set (is terminal.Comma))
unfolding next_argument
arguments_listed = record { full = refl; begins = λ s. refl }

pub parameters_listed : IsListed productions next_parameter (set (is terminal.Comma))
unfolding next_parameter
parameters_listed = record { full = refl; begins = λ s. refl }

pub dependences_listed : IsListed productions dependence (set is_arrow)
unfolding dependence arrow
dependences_listed = record { full = refl; begins = λ s. refl }

pub flows_listed : IsListed productions flow (set is_kind)
unfolding flow kind_of_flow
flows_listed = record { full = refl; begins = λ s. refl }

pub definitions_listed : IsListed productions definition (set (names Class))
unfolding definition
definitions_listed = record { full = refl; begins = λ s. refl }

pub skips_listed : IsListed productions skip (set is_skip)
unfolding skip
skips_listed = record { full = refl; begins = λ s. refl }

pub classes_listed : IsListed productions class_and_skips (set (names Class))
unfolding class_and_skips class head
classes_listed = record { full = refl; begins = λ s. refl }

-- ---- if the first element of a list was read, and if it was refused

pub arguments_after_first : (s : List Token) (x : ArgTree) (next : List Token) (list : List ArgTree)
    → list ≡ [] ++ x ∷ [] → reading productions argument s ≡ Ok (x, next)
    → so_far list (rest_of next_argument next) ≡ reading productions arguments s
unfolding arguments next_argument
arguments_after_first s x next list e r = some_begin argument next_argument s x next list e r

pub arguments_fail : (e : ReadRefusal) (s : List Token) → ReturnsRefusal e (reading productions argument s) → ReturnsRefusal e (reading productions arguments s)
unfolding arguments next_argument
arguments_fail e s f = some_fail e any argument next_argument s f

pub parameters_after_first : (s : List Token) (x : Word) (next : List Token) (list : List Word)
    → list ≡ [] ++ x ∷ [] → reading productions (name Class) s ≡ Ok (x, next)
    → so_far list (rest_of next_parameter next) ≡ reading productions (listed (name Class)) s
unfolding next_parameter
parameters_after_first s x next list e r = some_begin (name Class) next_parameter s x next list e r

pub parameters_fail : (e : ReadRefusal) (s : List Token) → ReturnsRefusal e (reading productions (name Class) s)
    → ReturnsRefusal e (reading productions (listed (name Class)) s)
unfolding next_parameter
parameters_fail e s f = some_fail e any (name Class) next_parameter s f

-- ---- lists with a limit

pub dependences_begin : (s : List Token) → so_far [] (counted 16 TooManyDeps dependence 0 s) ≡ reading productions dependences s
unfolding dependences
dependences_begin s = counted_begins 16 TooManyDeps dependence s

pub flows_begin : (s : List Token) → so_far [] (counted 8 TooManyFlows flow 0 s) ≡ reading productions flows s
unfolding flows
flows_begin s = counted_begins 8 TooManyFlows flow s

pub definitions_begin : (s : List Token) → so_far [] (counted 16 TooManyLocals definition 0 s) ≡ reading productions definitions s
unfolding definitions
definitions_begin s = counted_begins 16 TooManyLocals definition s

pub classes_after_first : (s : List Token) (x : ClassTree) (next : List Token) (list : List ClassTree)
    → list ≡ [] ++ x ∷ [] → reading productions class_and_skips s ≡ Ok (x, next)
    → so_far list (counted 63 TooManyClasses class_and_skips 0 next) ≡ reading productions classes s
unfolding classes
classes_after_first s x next list e r = counted_after_first 63 TooManyClasses class_and_skips class_and_skips s x next list e r

pub classes_fail : (e : ReadRefusal) (s : List Token) → ReturnsRefusal e (reading productions class_and_skips s)
    → ReturnsRefusal e (reading productions classes s)
unfolding classes
classes_fail e s f = some_fail e (full_at 63 TooManyClasses) class_and_skips class_and_skips s f
