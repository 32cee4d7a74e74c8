-- The rules of the commands, and what clap keeps of one use of an argument.
use Rattle.std.proofs.Common.{◌≡◌, ℕ, Bool, true, false, not, ◌&&◌, List, [], ◌∷◌, ◌++◌, Option, Some, None, refl, sym, ap, ◌∙◌, codes}
use Rattle.std.specs.Str.{bytes_eq}
use Rattle.clap.specs.Walk.{Row, Rule, Text, has_row, without, with_values, used}
use Rattle.clap.specs.Simple.{new_rule, filled}
use Rattle.clap.specs.Kinds.{Kinds, or_else}
use Rattle.clap.specs.Faults.{use_fault}
use Rattle.clap.specs.declared.builder.action.ArgAction.TheVariants.{Set, SetTrue}
use Rattle.clap.specs.declared.builder.value_parser.Reading.TheVariants.{AsWritten}
use Rattle.clap.specs.declared.parser.matches.ValueSource.TheVariants.{CommandLine}
use Rattle.ptg_words.specs.Parts.{NumberOption, name_of}

-- ---- booleans and kinds

unfoldable pub none : Kinds → Bool
none [] = true
none (k ∷ ks) = false

pub none_nothing : none [] ≡ true
unfolding none
none_nothing = refl

pub none_else : (a b : Kinds) → none (or_else a b) ≡ (none a && none b)
unfolding none
none_else [] b = refl
none_else (k ∷ ks) b = refl

-- ---- the rules of the commands

-- a positional or an option with one value, once the command is built
abbrev pub value_rule : Text → Option Text → Option ℕ → Bool → Rule
value_rule id long index required =
    record (filled (record (new_rule id) { action = Some Set })) { long = long; index = index; required = required }

abbrev pub preload_rule : Rule
preload_rule = filled (record (new_rule (codes "preload")) { long = Some (codes "preload"); action = Some SetTrue })

abbrev pub number_option_rule : NumberOption → Rule
number_option_rule s = value_rule (name_of s) (Some (name_of s)) None false

-- what clap keeps of a use: the id and the value
abbrev pub Use : Type 0
Use = Text × Text

abbrev pub use_row : Use → Row
use_row u = record { id = u.0; values = u.1 ∷ []; count = None; source = Some CommandLine; reading = AsWritten }

abbrev pub added : List Row → List Use → List Row
added rows [] = rows
added rows (u ∷ us) = added (rows ++ use_row u ∷ []) us

-- whether each use is the first one of its id
abbrev pub fresh : List Row → List Use → Bool
fresh rows [] = true
fresh rows (u ∷ us) = not (has_row u.0 rows) && fresh (rows ++ use_row u ∷ []) us

-- a use of an id that has no row makes a row at the end
pub other_head : (id : Text) (r : Row) (rs : List Row) → has_row id (r ∷ rs) ≡ false → (bytes_eq r.id id ≡ false) × (has_row id rs ≡ false)
other_head id r rs h = go (bytes_eq r.id id) (has_row id rs) refl refl
  where
    go : (a b : Bool) → bytes_eq r.id id ≡ a → has_row id rs ≡ b → (bytes_eq r.id id ≡ false) × (has_row id rs ≡ false)
    go false false d e = (d, e)
    go true b d e = let bad : true ≡ false = sym (rw d refl) ∙ h in absurd cc
    go false true d e = let bad : true ≡ false = sym (rw (d, e) refl) ∙ h in absurd cc

pub without_is : (id : Text) (rows : List Row) → has_row id rows ≡ false → without id rows ≡ rows
without_is id [] h = refl
without_is id (r ∷ rs) h = let p = other_head id r rs h in rw (p.0, without_is id rs p.1) refl

pub used_is : (id v : Text) (rows : List Row) → has_row id rows ≡ false → with_values id AsWritten CommandLine (v ∷ []) rows ≡ rows ++ use_row (id, v) ∷ []
used_is id v [] h = refl
used_is id v (r ∷ rs) h = let p = other_head id r rs h in rw (p.0, used_is id v rs p.1) refl

pub value_fault : (id v : Text) (long : Option Text) (index : Option ℕ) (required : Bool) (rows : List Row)
    → none (use_fault false (value_rule id long index required) (v ∷ []) rows) ≡ not (has_row id rows)
unfolding none
value_fault id v long index required rows = go (has_row id rows) refl
  where
    go : (b : Bool) → has_row id rows ≡ b → none (use_fault false (value_rule id long index required) (v ∷ []) rows) ≡ not (has_row id rows)
    go true e = rw e refl
    go false e = rw e refl

pub value_used : (id v : Text) (long : Option Text) (index : Option ℕ) (required : Bool) (rows : List Row) → has_row id rows ≡ false
    → used (value_rule id long index required) (v ∷ []) rows ≡ rows ++ use_row (id, v) ∷ []
value_used id v long index required rows h = rw (without_is id rows h) (used_is id v rows h)

pub preload_fault : (rows : List Row) → none (use_fault false preload_rule [] rows) ≡ not (has_row (codes "preload") rows)
unfolding none
preload_fault rows = go (has_row (codes "preload") rows) refl
  where
    go : (b : Bool) → has_row (codes "preload") rows ≡ b → none (use_fault false preload_rule [] rows) ≡ not (has_row (codes "preload") rows)
    go true e = rw e refl
    go false e = rw e refl

pub preload_used : (rows : List Row) → has_row (codes "preload") rows ≡ false → used preload_rule [] rows ≡ rows ++ use_row (codes "preload", codes "true") ∷ []
preload_used rows h = rw (without_is (codes "preload") rows h) (used_is (codes "preload") (codes "true") rows h)

pub and_true : (b : Bool) → (b && true) ≡ b
and_true true = refl
and_true false = refl

pub and_swap : (g b f : Bool) → (g && (b && f)) ≡ (b && (g && f))
and_swap true b f = refl
and_swap false true f = refl
and_swap false false f = refl

pub and_assoc : (a b c : Bool) → ((a && b) && c) ≡ (a && (b && c))
and_assoc true b c = refl
and_assoc false b c = refl

pub fresh_split : (rows : List Row) (us vs : List Use) → fresh rows (us ++ vs) ≡ (fresh rows us && fresh (added rows us) vs)
fresh_split rows [] vs = refl
fresh_split rows (u ∷ us) vs =
    ap (λ b. not (has_row u.0 rows) && b) (fresh_split (rows ++ use_row u ∷ []) us vs) ∙ sym (and_assoc (not (has_row u.0 rows)) _ _)

pub added_split : (rows : List Row) (us vs : List Use) → added rows (us ++ vs) ≡ added (added rows us) vs
added_split rows [] vs = refl
added_split rows (u ∷ us) vs = added_split (rows ++ use_row u ∷ []) us vs
