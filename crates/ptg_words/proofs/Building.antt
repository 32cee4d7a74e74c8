-- The steps that build a command and gather its operands.
use Rattle.std.proofs.Common.{◌≡◌, ℕ, zero, suc, ◌+◌, ◌<◌, ◌≤◌, false, List, [], ◌∷◌, ◌++◌, map, take, length, get_or, Option, Some, None, Result}
use Rattle.std.proofs.Common.{Ok, Err, IfOk, IsErrAnd, refl, sym, ap, ap₂, ◌∙◌, append_assoc, arith}
use Rattle.std.specs.Borrow.{Bor}
use Rattle.std.proofs.lemmas.List.{length-map, map_more, map-append}
use Rattle.std.specs.declared.alloc.AllocError.{AllocError}
use Rattle.clap.specs.Walk.{Rule, Text}
use Rattle.clap.specs.Simple.{App, with_rule, on_top}
use Rattle.clap.specs.Words.{AddsArg, app_of, rule_of}
use Rattle.clap.specs.declared.builder.arg.Arg.{Arg}
use Rattle.clap.specs.declared.builder.command.Command.{Command}
use Rattle.ptg_words.specs.Commands.{command, operand_rule, with_rules}
use Rattle.ptg_words.specs.Readings.{texts}

-- one more rule
pub one_more : (r : Result Command AllocError) (old : Command) (a : Arg) (app : App) (rules all : List Rule) (rule : Rule) → a.global ≡ false → rule_of a ≡ rule
    → app_of old ≡ with_rules app rules → rules ++ rule ∷ [] ≡ all → IfOk r (AddsArg old a) → IfOk r (λ c. app_of c ≡ with_rules app all)
one_more (Ok c) old a app rules all rule here is before after h =
    h.shape here ∙ ap (with_rule (app_of old)) is ∙ ap (λ x. with_rule x rule) before
    ∙ ap (λ rs. on_top (λ s. record s { rules = rs }) app) (append_assoc app.top.rules rules (rule ∷ []) ∙ ap (λ rs. app.top.rules ++ rs) after)
one_more (Err e) old a app rules all rule here is before after h = tt

-- one more operand
pub texts_more : (ids : List (Bor Text)) (i : ℕ) (d : Bor Text) → i < length ids → texts (take (i + 1) ids) ≡ texts (take i ids) ++ (get_or ids i d).now ∷ []
texts_more ids i d lt = map_more (λ (s : Bor Text). s.now) ids i d lt

pub operands_more : (name : Text) (new : App) (old : App) (rule : Rule) (ids : List (Bor Text)) (i : ℕ) (d : Bor Text) → i < length ids
    → old ≡ command name (map operand_rule (texts (take i ids))) → rule ≡ operand_rule (get_or ids i d).now → new ≡ with_rule old rule
    → new ≡ command name (map operand_rule (texts (take (i + 1) ids)))
operands_more name new old rule ids i d lt before is after =
    after ∙ ap₂ with_rule before is
    ∙ ap (command name) (sym (ap (map operand_rule) (texts_more ids i d lt) ∙ map-append operand_rule (texts (take i ids)) ((get_or ids i d).now ∷ [])))

-- ---- values

pub values_more : (g : Text → Option Text) (ids : List (Bor Text)) (i : ℕ) (d : Bor Text) (old new : List (Bor Text)) (word : Bor Text) → i < length ids
    → map g (texts (take i ids)) ≡ map Some (texts old) → Some word.now ≡ g (get_or ids i d).now → new ≡ old ++ word ∷ []
    → map g (texts (take (i + 1) ids)) ≡ map Some (texts new)
values_more g ids i d old new word lt before is pushed =
    ap (map g) (texts_more ids i d lt) ∙ map-append g (texts (take i ids)) ((get_or ids i d).now ∷ [])
    ∙ ap₂ (λ (xs : List (Option Text)) (x : Option Text). xs ++ x ∷ []) before (sym is)
    ∙ sym (ap (λ xs. map Some (texts xs)) pushed
    ∙ ap (map Some) (map-append (λ (s : Bor Text). s.now) old (word ∷ []))
    ∙ map-append Some (texts old) (word.now ∷ []))

pub all_have_values : (g : Text → Option Text) (ids : List (Bor Text)) (values : List Text) (i : ℕ) (d : Bor Text)
    → i < length ids → map g (texts ids) ≡ map Some values
    → None ≡ g (get_or ids i d).now → ⊥
all_have_values g [] values i d lt h e = absurd (omega (arith, lt))
all_have_values g (x ∷ xs) [] i d lt h e = absurd cc
all_have_values g (x ∷ xs) (v ∷ vs) zero d lt h e = let first : g x.now ≡ Some v = cc in absurd cc
all_have_values g (x ∷ xs) (v ∷ vs) (suc i) d lt h e = let rest : map g (texts xs) ≡ map Some vs = cc in all_have_values g xs vs i d (omega (arith, lt)) rest e

pub same_values : (xs ys : List Text) → map Some xs ≡ map Some ys → xs ≡ ys
same_values [] [] h = refl
same_values [] (y ∷ ys) h = absurd cc
same_values (x ∷ xs) [] h = absurd cc
same_values (x ∷ xs) (y ∷ ys) h =
    let first : x ≡ y = cc in
    let rest : map Some xs ≡ map Some ys = cc in
    ap₂ (λ (z : Text) (zs : List Text). z ∷ zs) first (same_values xs ys rest)

-- as many texts as references
pub count_of : (ids : List (Bor Text)) → length (texts ids) ≡ length ids
count_of ids = length-map ids (λ (s : Bor Text). s.now)

pub at_most_four : (ids : List (Bor Text)) → length ids ≤ 4 → length (texts ids) ≤ 4
at_most_four ids h = let same = count_of ids in omega (arith, same, h)

-- `?` passes an error up as it is
pub passed_up : {T E : Type 0} (r : Result T E) (x y : E) → IsErrAnd r (λ z. z ≡ x) → r ≡ Err y → x ≡ y
passed_up (Ok v) x y h e = absurd h
passed_up (Err z) x y h e = let same : z ≡ y = cc in sym h ∙ same
