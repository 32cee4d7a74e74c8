-- The files of a command are text, and its numbers are in range.
use Rattle.std.proofs.Common.{◌≡◌, ◌∙◌, ℕ, ◌≤◌, ◌<◌, ◌^◌, Bool, true, false, not, ◌&&◌, List, [], ◌∷◌, Option, Some, None, refl, sym, ap, subst, inl}
use Rattle.std.proofs.Common.{inr, arith}
use Rattle.ptg_base.specs.Limits.{AreRunCounts, most_rows}
use Rattle.std.specs.Prelude.{◌⊎◌, nat_le, length, option_map}
use Rattle.std.specs.List.{All, Any, AllByRecursion}
use Rattle.std.proofs.lemmas.Bool.Decides.{nat_tests}
use Rattle.ptg_base.specs.Decimal.{decimal, is_decimal}
use Rattle.ptg_words.specs.declared.options.Options.{Options}
use Rattle.ptg_words.specs.declared.order.Order.{Order}
use Rattle.ptg_words.specs.Parts.{Part, NumberOption, Form, plain, named, flag, unknown, workers, shards, after, form_of, parts, parts_from, operands, texts_of}
use Rattle.ptg_words.specs.declared.verbs.Verb.TheVariants as verbs
use Rattle.ptg_words.specs.declared.verbs.Verb.{Verb}
use Rattle.ptg_words.specs.Words.{IsProper, bad_number, improper_word, formed, has_bad_count, has_bad_number, has_bad_operand, has_no_number}
use Rattle.ptg_words.specs.Words.{is_number, number_or, operands_of, options_of, read, shards_of, verb_of, workers_of}
use Rattle.ptg_words.specs.Laws.{FilesAreText, HasNumbersInRange, NumbersInRange, files_of}
use Rattle.ptg_words.proofs.Rules.{all_proper, number_at_most, to_rule}
use Rattle.ptg_words.proofs.Proper.{all_or_any}
use Rattle.std.proofs.lemmas.Bool.{or_parts, not-false}
use Rattle.std.specs.Str.{IsUtf8}
use Rattle.list_lemmas.proofs.Places.{each_weaker}

-- ---- the operands of proper words are proper

by_form : (due : Option NumberOption) (f : Form) (w : List ℕ) (rest : Option NumberOption → List Part) → IsProper w
    → ((d : Option NumberOption) → AllByRecursion IsProper (operands (rest d)))
    → AllByRecursion IsProper (operands (after due f w rest))
by_form None plain w rest p more = (p, more None)
by_form None (named s None) w rest p more = more (Some s)
by_form None (named s (Some t)) w rest p more = more None
by_form None flag w rest p more = more None
by_form None unknown w rest p more = more None
by_form (Some s) plain w rest p more = more None
by_form (Some s) (named t None) w rest p more = more (Some t)
by_form (Some s) (named t (Some x)) w rest p more = more None
by_form (Some s) flag w rest p more = more None
by_form (Some s) unknown w rest p more = more None

operands_proper : (opts : Options) (due : Option NumberOption) (ws : List (List ℕ)) → AllByRecursion IsProper ws
    → AllByRecursion IsProper (operands (parts_from opts due ws))
unfolding parts_from
operands_proper opts None [] h = tt
operands_proper opts (Some s) [] h = tt
operands_proper opts due (w ∷ ws) h = by_form due (form_of opts w) w (λ next. parts_from opts next ws) h.0 (λ d. operands_proper opts d ws h.1)

-- ---- files

-- the command has this property, if there is a command
OnOrder : (Order → Type 0) → Option Order → Type 0
OnOrder P None = Unit {0}
OnOrder P (Some o) = P o

of_order : (P : Order → Type 0) (x : Option Order) (o : Order) → x ≡ Some o → OnOrder P x → P o
unfolding OnOrder
of_order P x o e h = subst (OnOrder P) e h

named_texts : (v : Verb) (ops : List (List ℕ)) (ps : List Part) → AllByRecursion IsUtf8 ops
    → OnOrder (λ o. AllByRecursion IsUtf8 (files_of o)) (formed v ops ps)
unfolding OnOrder
named_texts verbs.Run (jdf ∷ data_name ∷ []) ps t = t
named_texts verbs.Show (jdf ∷ []) ps t = t
named_texts verbs.Check (jdf ∷ data_name ∷ []) ps t = t
named_texts verbs.Demo (rows ∷ []) ps t = tt
named_texts verbs.Trace (jdf ∷ data_name ∷ []) ps t = t
named_texts verbs.Replay (jdf ∷ data_name ∷ list ∷ []) ps t = t
named_texts verbs.Certify (jdf ∷ data_name ∷ []) ps t = t
named_texts verbs.Ranks (jdf ∷ data_name ∷ count ∷ seed ∷ []) ps t = (t.0, (t.1.0, tt))
named_texts v ops ps t = tt

-- the parts of the words of a command
parts_of : (w : List ℕ) (ws : List (List ℕ)) (v : Verb) (ps : List Part) → read (w ∷ ws) ≡ Some (v, ps) → ps ≡ parts (options_of v) ws
parts_of w ws v ps e = go (verb_of w) e
  where
    read_of : Verb → Verb × List Part
    read_of u = (u, parts (options_of u) ws)

    go : (o : Option Verb) → option_map read_of o ≡ Some (v, ps) → ps ≡ parts (options_of v) ws
    go None h = absurd cc
    go (Some u) h =
        let pair : read_of u ≡ (v, ps) = cc in
        sym (ap (λ (r : Verb × List Part). r.1) pair) ∙ ap (λ (x : Verb). parts (options_of x) ws) (ap (λ (r : Verb × List Part). r.0) pair)

pub files_are_text : FilesAreText
files_are_text [] o h = let reads = h.reads in absurd cc
files_are_text (w ∷ ws) o h = go (all_or_any (w ∷ ws))
  where
    go : All IsProper (w ∷ ws) ⊎ Any (λ x. IsProper x → ⊥) (w ∷ ws) → AllByRecursion IsUtf8 (files_of o)
    go (inr any) = absurd (h.breaks_no_rule (improper_word any))
    go (inl all) =
        let proper = operands_proper (options_of h.verb) None ws (all_proper (w ∷ ws) all).1 in
        let ops = subst (λ (ps : List Part). AllByRecursion IsProper (operands ps)) (sym (parts_of w ws h.verb h.rest h.reads)) proper in
        of_order (λ x. AllByRecursion IsUtf8 (files_of x)) (formed h.verb (operands h.rest) h.rest) o h.asks
        (named_texts h.verb (operands h.rest) h.rest
        (each_weaker IsProper IsUtf8 (operands h.rest) (λ w p. p.0) ops))

-- ---- numbers

numbered : (least most : ℕ) (text : List ℕ) → not (is_number least most text) ≡ false → (least ≤ decimal text) × (decimal text ≤ most)
numbered least most text h =
    let yes : is_number least most text ≡ true = not-false (is_number least most text) h in
    let up : nat_le (decimal text) most ≡ true = number_at_most least most text yes in
    let down : nat_le least (decimal text) ≡ true = last (nat_le (length text) 20) (is_decimal most text) (nat_le least (decimal text)) yes in
    (grind (arith, nat_tests), grind (arith, nat_tests))
  where
    last : (a b c : Bool) → (a && (b && c)) ≡ true → c ≡ true
    last true true c e = e
    last true false c e = absurd cc
    last false b c e = absurd cc

counted : (most default : ℕ) (texts : List (List ℕ)) → 1 ≤ default → default ≤ most
    → has_no_number 1 most texts ≡ false → (1 ≤ number_or default texts) × (number_or default texts ≤ most)
counted most default [] low high h = (low, high)
counted most default (text ∷ texts) low high h = numbered 1 most text (or_parts _ _ h).0

are_counts : (ps : List Part) → has_bad_count ps ≡ false → AreRunCounts (workers_of ps) (shards_of ps)
are_counts ps h =
    let two = or_parts (has_no_number 1 64 (texts_of workers ps)) (has_no_number 1 256 (texts_of shards ps)) h in
    let w = counted 64 4 (texts_of workers ps) (omega arith) (omega arith) two.0 in
    let s = counted 256 16 (texts_of shards ps) (omega arith) (omega arith) two.1 in
    (w, s)

in_ranges : (v : Verb) (ops : List (List ℕ)) (ps : List Part) → has_bad_count ps ≡ false
    → has_bad_operand (operands_of v) ops ≡ false → OnOrder HasNumbersInRange (formed v ops ps)
unfolding OnOrder
in_ranges verbs.Run (jdf ∷ data_name ∷ []) ps c h = are_counts ps c
in_ranges verbs.Demo (rows ∷ []) ps c h = numbered 1 most_rows rows (or_parts _ _ h).0
in_ranges verbs.Trace (jdf ∷ data_name ∷ []) ps c h = are_counts ps c
in_ranges verbs.Ranks (jdf ∷ data_name ∷ count ∷ seed ∷ []) ps c h =
    let two = or_parts _ _ h in
    let r = numbered 1 64 count two.0 in
    let s = numbered 0 18446744073709551615 seed (or_parts _ _ two.1).0 in
    (r, below_two_to_64 (decimal seed) s.1)
  where
    below_two_to_64 : (n : ℕ) → n ≤ 18446744073709551615 → n < 2 ^ 64
    below_two_to_64 n h = omega (arith, h)
in_ranges verbs.Show (jdf ∷ []) ps c h = tt
in_ranges verbs.Check (jdf ∷ data_name ∷ []) ps c h = tt
in_ranges verbs.Replay (jdf ∷ data_name ∷ list ∷ []) ps c h = tt
in_ranges verbs.Certify (jdf ∷ data_name ∷ []) ps c h = tt
in_ranges v ops ps c h = tt

pub numbers_in_range : NumbersInRange
numbers_in_range words o h = go (has_bad_number h.verb h.rest) refl
  where
    go : (b : Bool) → has_bad_number h.verb h.rest ≡ b → HasNumbersInRange o
    go true e = absurd (h.breaks_no_rule (bad_number (to_rule has_bad_number words h.verb h.rest h.reads e)))
    go false e =
        let two = or_parts (has_bad_count h.rest) (has_bad_operand (operands_of h.verb) (operands h.rest)) e in
        of_order HasNumbersInRange (formed h.verb (operands h.rest) h.rest) o h.asks (in_ranges h.verb (operands h.rest) h.rest two.0 two.1)
