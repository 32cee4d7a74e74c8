-- The rules of a verb's command: those of its operands, then those of its options.
use Rattle.std.proofs.Common.{◌≡◌, ℕ, ◌+◌, ◌≤◌, Bool, true, false, not, cond, ◌&&◌, ◌||◌, List, [], ◌∷◌, ◌++◌, map, length, Some, None, refl, sym}
use Rattle.std.proofs.Common.{ap, ◌∙◌, arith, codes}
use Rattle.std.specs.Prelude.{fold, min, ◌==◌}
use Rattle.std.specs.List.{list_any, list_all}
use Rattle.std.specs.Str.{bytes_eq}
use Rattle.std.proofs.lemmas.Bool.Decides.{nat_tests}
use Rattle.std.proofs.lemmas.List.{append-nil}
use Rattle.clap.specs.Lexer.{usize_max}
use Rattle.clap.specs.Walk.{Row, Rule, Text, arg_by_id, arg_by_index, arg_by_long, arg_by_short, has_row, is_early_multiple, with_default, with_values}
use Rattle.clap.specs.Simple.{filled_from}
use Rattle.clap.specs.Takes.{is_given}
use Rattle.clap.specs.declared.builder.value_parser.Reading.TheVariants.{AsWritten}
use Rattle.clap.specs.declared.parser.matches.ValueSource.TheVariants.{DefaultValue}
use Rattle.ptg_words.specs.declared.options.Options.{Options}
use Rattle.ptg_words.specs.declared.options.Options.TheVariants.{NoOptions, Counts, CountsAndPreload}
use Rattle.ptg_words.specs.Parts.{NumberOption, name_of, workers, shards, has_counts}
use Rattle.ptg_words.specs.Commands.{operand_rule, option_rules}
use Rattle.ptg_words.proofs.ClapUses.{value_rule, preload_rule, number_option_rule, other_head}
use Rattle.ptg_words.proofs.ClapStates.{IsValue, Positions}
use Rattle.ptg_words.proofs.ClapViews.{long_rule}
use Rattle.ptg_words.proofs.PartsOfUses.{Apart}
use Rattle.list_lemmas.proofs.Texts.{bytes_eq-self}
use Rattle.ptg_words.proofs.ClapEnd.{Quiet, seen, value_default, value_kept, preload_default}
use Rattle.list_lemmas.proofs.Truth.{or-false}
use Rattle.std.proofs.lemmas.Bool.{or_parts}

-- the rules of operands with these ids, the first of which is at this index
abbrev pub operand_rules : ℕ → List Text → List Rule
operand_rules n [] = []
operand_rules n (i ∷ is) = value_rule i None (Some n) true ∷ operand_rules (n + 1) is

-- the rules of the options, once the command is built
abbrev pub built_options : Options → List Rule
built_options NoOptions = []
built_options Counts = number_option_rule workers ∷ number_option_rule shards ∷ []
built_options CountsAndPreload = number_option_rule workers ∷ number_option_rule shards ∷ preload_rule ∷ []

abbrev pub rules_from : ℕ → List Text → Options → List Rule
rules_from n ids o = operand_rules n ids ++ built_options o

counted : (n m : ℕ) → n + 1 ≤ m → min (n + 1) m ≡ n + 1
counted n m h = omega arith

below_max : (n : ℕ) → n ≤ 100 → n ≤ usize_max
below_max n h = omega arith

pub counted_here : (n : ℕ) (ids : List Text) (i : Text) → n + length (i ∷ ids) ≤ 100 → min (n + 1) usize_max ≡ n + 1
counted_here n ids i h = counted n usize_max (below_max (n + 1) (omega (arith, h)))

pub filled_is : (n : ℕ) (ids : List Text) (o : Options) → n + length ids ≤ 100 → filled_from n (map operand_rule ids ++ option_rules o) ≡ rules_from n ids o
filled_is n [] NoOptions h = refl
filled_is n [] Counts h = refl
filled_is n [] CountsAndPreload h = refl
filled_is n (i ∷ is) o h =
    ap (λ m. value_rule i None (Some n) true ∷ filled_from m (map operand_rule is ++ option_rules o)) (counted_here n is i h)
    ∙ ap (λ rest. value_rule i None (Some n) true ∷ rest) (filled_is (n + 1) is o (omega (arith, h)))

-- ---- the rules are simple

pub simple_new : (ids : List Text) (o : Options) → list_all (λ (a : Rule). a.is_simple) (map operand_rule ids ++ option_rules o) ≡ true
simple_new [] NoOptions = refl
simple_new [] Counts = refl
simple_new [] CountsAndPreload = refl
simple_new (i ∷ is) o = simple_new is o

pub simple_built : (n : ℕ) (ids : List Text) (o : Options) → list_all (λ (a : Rule). a.is_simple) (rules_from n ids o) ≡ true
simple_built n [] NoOptions = refl
simple_built n [] Counts = refl
simple_built n [] CountsAndPreload = refl
simple_built n (i ∷ is) o = simple_built (n + 1) is o

pub free_built : (n : ℕ) (ids : List Text) (o : Options) → list_all (λ (a : Rule). a.is_free) (rules_from n ids o) ≡ true
free_built n [] NoOptions = refl
free_built n [] Counts = refl
free_built n [] CountsAndPreload = refl
free_built n (i ∷ is) o = free_built (n + 1) is o

pub none_early : (m n : ℕ) (ids : List Text) (o : Options) → list_any (is_early_multiple m) (rules_from n ids o) ≡ false
none_early m n [] NoOptions = refl
none_early m n [] Counts = refl
none_early m n [] CountsAndPreload = refl
none_early m n (i ∷ is) o = none_early m (n + 1) is o

-- ---- rules by their names

pub by_short : (n : ℕ) (ids : List Text) (o : Options) (x : ℕ) → arg_by_short (rules_from n ids o) x ≡ None
by_short n [] NoOptions x = refl
by_short n [] Counts x = refl
by_short n [] CountsAndPreload x = refl
by_short n (i ∷ is) o x = by_short (n + 1) is o x

pub by_long : (n : ℕ) (ids : List Text) (o : Options) (name : Text) → arg_by_long (rules_from n ids o) name ≡ long_rule o name
by_long n [] NoOptions name = refl
by_long n [] Counts name = rw (or-false (bytes_eq (codes "workers") name), or-false (bytes_eq (codes "shards") name)) refl
by_long n [] CountsAndPreload name = rw (
  or-false (bytes_eq (codes "workers") name),
  or-false
      (bytes_eq (codes "shards") name),
  or-false (bytes_eq (codes "preload") name),
) refl
by_long n (i ∷ is) o name = by_long (n + 1) is o name

option_by_id : (n : ℕ) (ids : List Text) (o : Options) (s : NumberOption) → Apart ids → has_counts o ≡ true
    → arg_by_id (rules_from n ids o) (name_of s) ≡ Some (number_option_rule s)
option_by_id n [] NoOptions s a h = absurd cc
option_by_id n [] Counts workers a h = refl
option_by_id n [] Counts shards a h = refl
option_by_id n [] CountsAndPreload workers a h = refl
option_by_id n [] CountsAndPreload shards a h = refl
option_by_id n (i ∷ is) o s a h = rw ((a.0 s).1) (option_by_id (n + 1) is o s a.4 h)

pub option_value : (ids : List Text) (o : Options) → Apart ids → has_counts o ≡ true → (s : NumberOption) → IsValue (rules_from 1 ids o) (name_of s)
option_value ids o a h s = record { long = Some (name_of s); index = None; required = false; found = option_by_id 1 ids o s a h }

-- these ids name the same rules in both lists
abbrev pub SameIds : List Rule → List Rule → List Text → Type 0
SameIds c d [] = Unit {0}
SameIds c d (i ∷ is) = (arg_by_id c i ≡ arg_by_id d i) × SameIds c d is

all_same : (c : List Rule) (ids : List Text) → SameIds c c ids
all_same c [] = tt
all_same c (i ∷ is) = (refl, all_same c is)

still_same : (c d : List Rule) (i : Text) (n : ℕ) (ids : List Text)
    → SameIds c (value_rule i None (Some n) true ∷ d) ids → list_any (bytes_eq i) ids ≡ false → SameIds c d ids
still_same c d i n [] h e = tt
still_same c d i n (j ∷ js) h e =
    let two = or_parts (bytes_eq i j) (list_any (bytes_eq i) js) e in
    (h.0 ∙ rw (two.0) refl, still_same c d i n js h.1 two.1)

itself : (n : ℕ) → (n == n) ≡ true
itself n = grind (arith, nat_tests)

below : (n k : ℕ) → n + 1 ≤ k → (n == k) ≡ false
below n k h = grind (arith, nat_tests)

no_option_index : (o : Options) (k : ℕ) → arg_by_index (built_options o) k ≡ None
no_option_index NoOptions k = refl
no_option_index Counts k = refl
no_option_index CountsAndPreload k = refl

pub positions_from : (c : List Rule) (n : ℕ) (ids : List Text) (o : Options) → n + length ids ≤ 100
    → ((k : ℕ) → n ≤ k → arg_by_index c k ≡ arg_by_index (rules_from n ids o) k)
    → SameIds c (rules_from n ids o) ids → Apart ids → Positions c n ids
positions_from c n [] o h by found a = by n (omega arith) ∙ no_option_index o n
positions_from c n (i ∷ is) o h by found a = (
  by n (omega arith) ∙ rw (itself n) refl,
  record { long = None; index = Some n; required = true; found = found.0 ∙ rw (bytes_eq-self i) refl },
  counted_here n is i h,
  positions_from c (n + 1) is o (omega (arith, h)) (λ k le. by k (omega (arith, le)) ∙ rw (below n k le) refl)
      (still_same c (rules_from (n + 1) is o) i n is found.1 a.3) a.4,
)

pub positions : (ids : List Text) (o : Options) → 1 + length ids ≤ 100 → Apart ids → Positions (rules_from 1 ids o) 1 ids
positions ids o h a = positions_from (rules_from 1 ids o) 1 ids o h (λ k le. refl) (all_same (rules_from 1 ids o) ids) a

-- ---- what is added and required at the end

pub quiet_rules : (n : ℕ) (ids : List Text) (o : Options) → Quiet (rules_from n ids o)
quiet_rules n [] NoOptions = tt
quiet_rules n [] Counts = (
  (λ rows. value_default rows (codes "workers") (Some (codes "workers")) None false),
  ((λ rows. value_default rows (codes "shards") (Some (codes "shards")) None false), tt),
)
quiet_rules n [] CountsAndPreload = (
  (λ rows. value_default rows (codes "workers") (Some (codes "workers")) None false),
  ((λ rows. value_default rows (codes "shards") (Some (codes "shards")) None false), (preload_default, tt)),
)
quiet_rules n (i ∷ is) o = ((λ rows. value_default rows i None (Some n) true), quiet_rules (n + 1) is o)

-- the row that clap adds if `--preload` is not given
abbrev pub off_row : Row
off_row = record { id = codes "preload"; values = codes "false" ∷ []; count = None; source = Some DefaultValue; reading = AsWritten }

off_is : (rows : List Row) → has_row (codes "preload") rows ≡ false
    → with_values (codes "preload") AsWritten DefaultValue (codes "false" ∷ []) rows ≡ rows ++ off_row ∷ []
off_is [] h = refl
off_is (r ∷ rs) h = let p = other_head (codes "preload") r rs h in rw (p.0, off_is rs p.1) refl

abbrev pub off_tail : List Row → List Row
off_tail rows = cond (has_row (codes "preload") rows) [] (off_row ∷ [])

with_off : (rows : List Row) → with_default rows preload_rule ≡ rows ++ off_tail rows
with_off rows = go (has_row (codes "preload") rows) refl
  where
    go : (b : Bool) → has_row (codes "preload") rows ≡ b → with_default rows preload_rule ≡ rows ++ off_tail rows
    go true e = rw e (sym (append-nil rows))
    go false e = rw e (off_is rows e)

abbrev pub tail_of : Options → List Row → List Row
tail_of NoOptions rows = []
tail_of Counts rows = []
tail_of CountsAndPreload rows = off_tail rows

pub finished : (n : ℕ) (ids : List Text) (o : Options) (rows : List Row) → fold with_default rows (rules_from n ids o) ≡ rows ++ tail_of o rows
finished n [] NoOptions rows = sym (append-nil rows)
finished n [] Counts rows =
    ap (λ r. fold with_default r (number_option_rule shards ∷ [])) (value_kept rows (codes "workers") (Some (codes "workers")) None false)
    ∙ value_kept rows (codes "shards") (Some (codes "shards")) None false ∙ sym (append-nil rows)
finished n [] CountsAndPreload rows =
    ap (λ r. fold with_default r (number_option_rule shards ∷ preload_rule ∷ [])) (value_kept rows (codes "workers") (Some (codes "workers")) None false)
    ∙ ap (λ r. fold with_default r (preload_rule ∷ [])) (value_kept rows (codes "shards") (Some (codes "shards")) None false) ∙ with_off rows
finished n (i ∷ is) o rows = ap (λ r. fold with_default r (rules_from (n + 1) is o)) (value_kept rows i None (Some n) true) ∙ finished (n + 1) is o rows

pub nothing_added : (o : Options) (rows : List Row) (id : Text) → bytes_eq (codes "preload") id ≡ false → seen id (tail_of o rows) ≡ None
nothing_added NoOptions rows id h = refl
nothing_added Counts rows id h = refl
nothing_added CountsAndPreload rows id h = go (has_row (codes "preload") rows)
  where
    go : (b : Bool) → seen id (cond b [] (off_row ∷ [])) ≡ None
    go true = refl
    go false = rw h refl

pub required : (rows : List Row) (n : ℕ) (ids : List Text) (o : Options)
    → list_any (λ (a : Rule). a.required && not (is_given a.id rows)) (rules_from n ids o)
    ≡ not (list_all (λ i. is_given i rows) ids)
required rows n [] NoOptions = refl
required rows n [] Counts = refl
required rows n [] CountsAndPreload = refl
required rows n (i ∷ is) o = go (is_given i rows) (required rows (n + 1) is o)
  where
    go : (b : Bool) → list_any (λ (a : Rule). a.required && not (is_given a.id rows)) (rules_from (n + 1) is o) ≡ not (list_all (λ i. is_given i rows) is)
        → (not b || list_any (λ (a : Rule). a.required && not (is_given a.id rows)) (rules_from (n + 1) is o)) ≡ not (b && list_all (λ i. is_given i rows) is)
    go true e = e
    go false e = refl
