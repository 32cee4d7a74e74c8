-- In the tree of a text, the names of classes are spelled as names, and the numbers in definitions have 64 bits.
use Rattle.std.proofs.Common.{◌≡◌, ℕ, ◌<◌, ◌≤◌, ℤ, pos, Bool, true, false, cond, ◌&&◌, List, [], ◌∷◌, Option, Some, None, refl, ap, sym, ◌∙◌, subst, arith}
use Rattle.std.specs.Prelude.{◌||◌}
use Rattle.std.specs.List.{AllByRecursion, list_all}
use Rattle.std.proofs.lemmas.Bool.{and_from, lt-ltb}
use Rattle.ptg_base.specs.Names.{is_letter, is_part}
use Rattle.ptg_base.specs.Names as bytes
use Rattle.ptg_base.specs.Decimal.{is_digit}
use Rattle.term_core.specs.Arith.{is_number}
use Rattle.jdf_lex.specs.Counted.{is_name}
use Rattle.jdf_lex.specs.Spelling.{is_mark}
use Rattle.jdf_lex.specs.Terminals.{terminal_by}
use Rattle.jdf_lex.specs.declared.kind.TokenKind.TheVariants as kinds
use Rattle.jdf_tree.specs.Expression.{Expression, Num, Name, Elem, Unary, Binary, Choose}
use Rattle.jdf_tree.specs.Jdf.{IsJdf}
use Rattle.jdf_tree.specs.declared.tree.ArgTree.{ArgTree}
use Rattle.jdf_tree.specs.declared.tree.ArgTree.TheVariants.{One, Span}
use Rattle.jdf_tree.specs.declared.tree.ClassTree.{ClassTree}
use Rattle.jdf_tree.specs.declared.tree.DefTree.{DefTree}
use Rattle.jdf_tree.specs.declared.tree.Jdf.{Jdf}
use Rattle.print_laws.specs.Spelled.{IsSpelled, IsSpelledClass, argument_has_numbers, def_has_numbers, has_numbers}
use Rattle.print_laws.proofs.Classes.{IsClass, IsDefinition}
use Rattle.print_laws.proofs.Expressions.{IsName, IsWellFormed}
use Rattle.print_laws.proofs.Forms.{Every}
use Rattle.print_laws.proofs.Known.{no_mark_is_name}
use Rattle.print_laws.proofs.Targets.{IsArgument}
use Rattle.print_laws.proofs.Tokens.{tokens_known}
use Rattle.print_laws.proofs.WellFormedClasses.{job_well_formed}

-- ---- names

apart : (b : Bool) → b ≡ true → b ≡ false → ⊥
apart true h k = cc
apart false h k = cc

-- a word with the terminal of a name begins with a letter
named : (b : ℕ) (bs : List ℕ) (l d : Bool) → cond (l || d) (list_all is_part bs) (is_mark (b ∷ bs)) ≡ true
    → is_name (terminal_by (cond l kinds.Name (cond d kinds.Number kinds.Mark)) (b ∷ bs)) ≡ true
    → (l && list_all is_part bs) ≡ true
named b bs true d h k = h
named b bs false true h k = absurd cc
named b bs false false h k = absurd (apart _ k (no_mark_is_name (b ∷ bs)))

word_named : (w : List ℕ) → IsName w → bytes.is_name w ≡ true
word_named [] h = let k = h.0 in absurd cc
word_named (b ∷ bs) h = named b bs (is_letter b) (is_digit b) h.0 h.1

-- ---- numbers

expression_numbers : (e : Expression) → IsWellFormed e → has_numbers e ≡ true
expression_numbers (Num z spot) h =
    let within = h.2 in
    subst (λ x. is_number x ≡ true) (sym h.1) (lt-ltb h.0 9223372036854775808 (omega arith))
expression_numbers (Name w) h = refl
expression_numbers (Elem w a) h = absurd h
expression_numbers (Unary o a spot) h = expression_numbers a h
expression_numbers (Binary o a b) h =
    and_from (has_numbers a) (has_numbers b) (expression_numbers a h.0) (expression_numbers b h.1)
expression_numbers (Choose c a b) h =
    and_from (has_numbers c) (has_numbers a && has_numbers b) (expression_numbers c h.0)
    (and_from (has_numbers a) (has_numbers b) (expression_numbers a h.1) (expression_numbers b h.2))

argument_numbers : (a : ArgTree) → IsArgument a → argument_has_numbers a ≡ true
argument_numbers (One e) h = expression_numbers e h.0
argument_numbers (Span spot lo hi None) h =
    and_from (has_numbers lo) (has_numbers hi && true) (expression_numbers lo h.0.0)
    (and_from (has_numbers hi) true (expression_numbers hi h.1.0) refl)
argument_numbers (Span spot lo hi (Some step)) h =
    and_from (has_numbers lo) (has_numbers hi && has_numbers step) (expression_numbers lo h.0.0)
    (and_from (has_numbers hi) (has_numbers step) (expression_numbers hi h.1.0) (expression_numbers step h.2.0))

definitions_numbers : (ds : List DefTree) → Every IsDefinition ds → list_all def_has_numbers ds ≡ true
definitions_numbers [] h = refl
definitions_numbers (d ∷ ds) h =
    and_from (def_has_numbers d) (list_all def_has_numbers ds) (argument_numbers d.value h.0.value) (definitions_numbers ds h.1)

classes_spelled : (cs : List ClassTree) → Every IsClass cs → AllByRecursion IsSpelledClass cs
classes_spelled [] h = tt
classes_spelled (c ∷ cs) h =
    (record { name = word_named c.name.text h.0.name; numbers = definitions_numbers c.defs h.0.defs }, classes_spelled cs h.1)

pub tree_spelled : (text : List ℕ) (jdf : Jdf) → IsJdf text jdf → IsSpelled jdf
tree_spelled text jdf h =
    let formed = job_well_formed h.tokens jdf h.text (tokens_known text [] [] text h.tokens h.lexed.0) in
    classes_spelled jdf.classes formed.classes
