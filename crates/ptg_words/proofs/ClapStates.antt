-- The state of clap's walk over the words between two of them.
use Rattle.std.proofs.Common.{◌≡◌, ℕ, ◌+◌, Bool, true, false, not, ◌&&◌, List, [], ◌∷◌, Option, Some, None, refl, sym, ap, ◌∙◌, codes}
use Rattle.std.specs.Prelude.{fold, min}
use Rattle.std.specs.Option.{option_map_or}
use Rattle.std.specs.Str.{bytes_eq}
use Rattle.clap.specs.Walk.{Held, Row, Rule, Text, Waiting, Walk, idle, option, arg_by_id, arg_by_index, arg_by_long, has_row, settled, settled_rows}
use Rattle.clap.specs.Walk.{used_by_id, walked}
use Rattle.clap.specs.Simple.{Shape, new_shape}
use Rattle.clap.specs.Kinds.{Kinds, or_else}
use Rattle.clap.specs.Faults.{use_fault, settle_fault, turn_fault, walk_fault, flag_word_fault}
use Rattle.clap.specs.Lexer.{usize_max}
use Rattle.clap.specs.Lexer.{long_of, short_of}
use Rattle.ptg_words.specs.declared.options.Options.{Options}
use Rattle.ptg_words.specs.Parts.{NumberOption, Part, name_of, after, form_of, operand, given, lacking, preload, stray, plain, named, flag, unknown}
use Rattle.ptg_words.proofs.ClapUses.{none, none_else, value_rule, preload_rule, number_option_rule, Use, added, fresh, value_fault, value_used}
use Rattle.ptg_words.proofs.ClapUses.{and_true, and_assoc}

-- ---- the walk between two words

-- between two words no option waits for its text, though a use may still be pending; or an option with a number does
pub data Pend : Type 0 where
  quiet : Option Use → Pend
  due : NumberOption → Pend

abbrev pub pending_of : Pend → Option (Text × List Text)
pending_of (quiet None) = None
pending_of (quiet (Some u)) = Some (u.0, u.1 ∷ [])
pending_of (due s) = Some (name_of s, [])

abbrev pub waiting_of : Pend → Waiting
waiting_of (quiet q) = idle
waiting_of (due s) = option (name_of s)

abbrev pub due_of : Pend → Option NumberOption
due_of (quiet q) = None
due_of (due s) = Some s

abbrev pub uses_of : Pend → List Use
uses_of (quiet None) = []
uses_of (quiet (Some u)) = u ∷ []
uses_of (due s) = []

abbrev pub held : List Row → Pend → Held
held rows p = record { rows = rows; pending = pending_of p; skip = 0 }

abbrev pub here : List Row → Pend → ℕ → Walk
here rows p n = record { held = held rows p; waiting = waiting_of p; position = n; is_trailing = false; stopped = None }

-- the id is that of an argument with one value
pub record IsValue (c : List Rule) (id : Text) : Type 0 where
  pub long : Option Text
  pub index : Option ℕ
  pub required : Bool
  pub found : arg_by_id c id ≡ Some (value_rule id long index required)

abbrev pub Known : List Rule → Pend → Type 0
Known c (quiet None) = Unit {0}
Known c (quiet (Some u)) = IsValue c u.0
Known c (due s) = IsValue c (name_of s)

-- the positionals from this index on have these ids
abbrev pub Positions : List Rule → ℕ → List Text → Type 0
Positions c n [] = arg_by_index c n ≡ None
Positions c n (i ∷ is) = (arg_by_index c n ≡ Some (value_rule i None (Some n) true)) × IsValue c i × (min (n + 1) usize_max ≡ n + 1) × Positions c (n + 1) is

-- what clap sees in a word, for each form
pub data View (c : List Rule) (opts : Options) (w : Text) : Type 0 where
  is_plain : form_of opts w ≡ plain → bytes_eq w (45 ∷ 45 ∷ []) ≡ false → long_of w ≡ None → short_of w ≡ None → View c opts w
  is_name : (s : NumberOption) → form_of opts w ≡ named s None → bytes_eq w (45 ∷ 45 ∷ []) ≡ false → long_of w ≡ Some (name_of s, None)
      → arg_by_long c (name_of s) ≡ Some (number_option_rule s) → IsValue c (name_of s) → View c opts w
  is_text : (s : NumberOption) (t : Text) → form_of opts w ≡ named s (Some t) → bytes_eq w (45 ∷ 45 ∷ []) ≡ false
      → long_of w ≡ Some (name_of s, Some t) → arg_by_long c (name_of s) ≡ Some (number_option_rule s) → View c opts w
  is_flag : form_of opts w ≡ flag → bytes_eq w (45 ∷ 45 ∷ []) ≡ false → long_of w ≡ Some (codes "preload", None)
      → arg_by_long c (codes "preload") ≡ Some preload_rule → View c opts w
  is_refused : form_of opts w ≡ unknown → bytes_eq w (45 ∷ 45 ∷ []) ≡ false
      → ((rows : List Row) (p : Pend) → none (flag_word_fault c false (long_of w) w (held rows p)) ≡ false) → View c opts w

-- whether no part is lacking or stray, and there are no more operands than positionals
abbrev pub good : List Text → List Part → Bool
good ids [] = true
good [] (operand w ∷ ps) = false
good (i ∷ is) (operand w ∷ ps) = good is ps
good ids (given s t ∷ ps) = good ids ps
good ids (lacking s ∷ ps) = false
good ids (preload ∷ ps) = good ids ps
good ids (stray ∷ ps) = false

-- the uses that clap keeps of the parts
abbrev pub uses : List Text → List Part → List Use
uses ids [] = []
uses [] (operand w ∷ ps) = uses [] ps
uses (i ∷ is) (operand w ∷ ps) = (i, w) ∷ uses is ps
uses ids (given s t ∷ ps) = (name_of s, t) ∷ uses ids ps
uses ids (lacking s ∷ ps) = uses ids ps
uses ids (preload ∷ ps) = (codes "preload", codes "true") ∷ uses ids ps
uses ids (stray ∷ ps) = uses ids ps

-- the walk has no fault if and only if `ok`, and then ends with the expected rows
pub record Ends (F : Kinds) (final expected : List Row) (ok : Bool) : Type 0 where
  pub sound : none F ≡ ok
  pub rows : ok ≡ true → final ≡ expected

module _ (name : Text) (c : List Rule) (opts : Options) where
  abbrev pub shape : Shape
  shape = record (new_shape name) { rules = c; disable_help_flag = true; disable_help_subcommand = true; is_built = true }

  abbrev pub total : Walk → List Text → Kinds
  total W ws = or_else (walk_fault shape [] W ws) (settle_fault c false (fold (walked c []) W ws).held)

  abbrev pub final : Walk → List Text → List Row
  final W ws = (settled c (fold (walked c []) W ws).held).rows

  -- the pending use is settled
  pub settle_none : (rows : List Row) (q : Option Use) → Known c (quiet q) → none (settle_fault c false (held rows (quiet q))) ≡ fresh rows (uses_of (quiet q))
  unfolding none
  settle_none rows None k = refl
  settle_none rows (Some u) k =
      ap (λ o. none (option_map_or (λ (a : Rule). use_fault false a (u.1 ∷ []) rows) o [])) k.found
      ∙ value_fault u.0 u.1 k.long k.index k.required rows ∙ sym (and_true (not (has_row u.0 rows)))

  pub settle_rows : (rows : List Row) (q : Option Use) → Known c (quiet q) → fresh rows (uses_of (quiet q)) ≡ true
      → settled_rows c (pending_of (quiet q)) rows ≡ added rows (uses_of (quiet q))
  settle_rows rows None k h = refl
  settle_rows rows (Some u) k h =
      ap (λ o. used_by_id o (u.1 ∷ []) rows) k.found
      ∙ value_used u.0 u.1 k.long k.index k.required rows (free (has_row u.0 rows) refl)
    where
      free : (b : Bool) → has_row u.0 rows ≡ b → has_row u.0 rows ≡ false
      free false e = e
      free true e = let bad : false ≡ true = sym (rw e refl) ∙ h in absurd cc

  pub due_fails : (rows : List Row) (s : NumberOption) → Known c (due s) → none (settle_fault c false (held rows (due s))) ≡ false
  unfolding none
  due_fails rows s k = ap (λ o. none (option_map_or (λ (a : Rule). use_fault false a [] rows) o [])) k.found

  pub total_is : (W : Walk) (w : Text) (ws : List Text) → none (total W (w ∷ ws)) ≡ (none (turn_fault shape [] W w) && none (total (walked c [] W w) ws))
  unfolding walk_fault
  total_is W w ws =
      let t = turn_fault shape [] W w in
      let x = walk_fault shape [] (walked c [] W w) ws in
      let y = settle_fault c false (fold (walked c []) (walked c [] W w) ws).held in
      none_else (or_else t x) y ∙ ap (λ b. b && none y) (none_else t x) ∙ and_assoc (none t) (none x) (none y) ∙ ap (λ b. none t && b) (sym (none_else x y))

  -- if a turn fails, so does the walk
  pub stops : (W : Walk) (w : Text) (ws : List Text) (ok : Bool) (expected : List Row) → none (turn_fault shape [] W w) ≡ false → ok ≡ false
      → Ends (total W (w ∷ ws)) (final W (w ∷ ws)) expected ok
  stops W w ws ok expected turn is_wrong = record {
    sound = total_is W w ws ∙ ap (λ b. b && none (total (walked c [] W w) ws)) turn ∙ sym is_wrong;
    rows = λ h. let bad : false ≡ true = sym is_wrong ∙ h in absurd cc;
  }

  -- if a turn passes, the walk goes on from the next state
  pub advance : (W next : Walk) (w : Text) (ws : List Text) (b ok rest : Bool) (expected after : List Row)
      → none (turn_fault shape [] W w) ≡ b → (b ≡ true → walked c [] W w ≡ next) → Ends (total next ws) (final next ws) after rest
      → ok ≡ (b && rest) → expected ≡ after → Ends (total W (w ∷ ws)) (final W (w ∷ ws)) expected ok
  advance W next w ws false ok rest expected after turn leads ends is same = stops W w ws ok expected turn is
  advance W next w ws true ok rest expected after turn leads ends is same = record {
    sound = total_is W w ws ∙ ap (λ b. b && none (total (walked c [] W w) ws)) turn ∙ ap (λ V. none (total V ws)) (leads refl) ∙ ends.sound ∙ sym is;
    rows = λ h. ap (λ V. final V ws) (leads refl) ∙ ends.rows (sym is ∙ h) ∙ sym same;
  }
