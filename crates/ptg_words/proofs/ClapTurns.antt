-- What one word does to clap's walk.
use Rattle.std.proofs.Common.{◌≡◌, ℕ, ◌+◌, Bool, true, false, not, ◌&&◌, List, [], ◌∷◌, ◌++◌, Option, Some, None, refl, sym, ap, ◌∙◌, codes}
use Rattle.std.specs.Prelude.{min}
use Rattle.std.specs.Str.{bytes_eq}
use Rattle.clap.specs.Walk.{Row, Rule, Text, idle, option, arg_by_index, arg_by_long, has_row, settled_rows, walked, used}
use Rattle.clap.specs.Kinds.{Kinds, or_else}
use Rattle.clap.specs.Faults.{use_fault, settle_fault, turn_fault, flag_word_fault, word_fault}
use Rattle.clap.specs.Lexer.{usize_max}
use Rattle.clap.specs.Lexer.{long_of, short_of}
use Rattle.ptg_words.specs.declared.options.Options.{Options}
use Rattle.ptg_words.specs.Parts.{NumberOption, name_of, workers, shards}
use Rattle.ptg_words.proofs.ClapUses.{none, none_else, value_rule, preload_rule, number_option_rule, Use, use_row, added, fresh, and_true, and_swap}
use Rattle.ptg_words.proofs.ClapUses.{fresh_split, added_split}
use Rattle.ptg_words.proofs.ClapStates.{Pend, pending_of, uses_of, held, here, IsValue, Known, quiet, due, shape, settle_none, settle_rows}
use Rattle.list_lemmas.proofs.Truth.{and-false}
use Rattle.std.proofs.lemmas.Bool.{and_left}

module _ (name : Text) (c : List Rule) (opts : Options) where
  -- ---- each word by its form

  pub turn_operand : (w i : Text) (rows : List Row) (q : Option Use) (n : ℕ) → arg_by_index c n ≡ Some (value_rule i None (Some n) true)
      → bytes_eq w (45 ∷ 45 ∷ []) ≡ false → long_of w ≡ None → short_of w ≡ None
      → turn_fault (shape name c opts) [] (here rows (quiet q) n) w ≡ settle_fault c false (held rows (quiet q))
  turn_operand w i rows None n found dd l sh = rw (dd, l, sh, found) refl
  turn_operand w i rows (Some u) n found dd l sh = rw (dd, l, sh, found, and-false (bytes_eq u.0 i)) refl

  pub operand_leads : (w i : Text) (rows : List Row) (q : Option Use) (n : ℕ)
      → arg_by_index c n ≡ Some (value_rule i None (Some n) true) → min (n + 1) usize_max ≡ n + 1
      → bytes_eq w (45 ∷ 45 ∷ []) ≡ false → long_of w ≡ None → short_of w ≡ None
      → walked c [] (here rows (quiet q) n) w ≡ here (settled_rows c (pending_of (quiet q)) rows) (quiet (Some (i, w))) (n + 1)
  unfolding walked
  operand_leads w i rows None n found counted dd l sh = rw (dd, l, sh, found, counted) refl
  operand_leads w i rows (Some u) n found counted dd l sh = rw (dd, l, sh, found, and-false (bytes_eq u.0 i), counted) refl

  pub turn_stray : (w : Text) (rows : List Row) (q : Option Use) (n : ℕ) → arg_by_index c n ≡ None
      → bytes_eq w (45 ∷ 45 ∷ []) ≡ false → long_of w ≡ None → short_of w ≡ None
      → none (turn_fault (shape name c opts) [] (here rows (quiet q) n) w) ≡ false
  unfolding none
  turn_stray w rows q n found dd l sh = rw (dd, l, sh, found) refl

  pub none_nil : (a : Kinds) → none (or_else a []) ≡ none a
  unfolding none
  none_nil [] = refl
  none_nil (k ∷ ks) = refl

  pub none_two : (a b : Kinds) → none (or_else (or_else a b) []) ≡ (none a && none b)
  none_two a b = none_nil (or_else a b) ∙ none_else a b

  pub turn_name : (w : Text) (s : NumberOption) (rows : List Row) (p : Pend) (n : ℕ) → bytes_eq w (45 ∷ 45 ∷ []) ≡ false → long_of w ≡ Some (name_of s, None)
      → arg_by_long c (name_of s) ≡ Some (number_option_rule s)
      → turn_fault (shape name c opts) [] (here rows p n) w ≡ or_else (settle_fault c false (held rows p)) []
  turn_name w s rows (quiet q) n dd l found = rw (dd, l, found) refl
  turn_name w s rows (due d) n dd l found = rw (dd, l, found) refl

  pub name_leads : (w : Text) (s : NumberOption) (rows : List Row) (q : Option Use) (n : ℕ)
      → bytes_eq w (45 ∷ 45 ∷ []) ≡ false → long_of w ≡ Some (name_of s, None)
      → arg_by_long c (name_of s) ≡ Some (number_option_rule s)
      → walked c [] (here rows (quiet q) n) w ≡ here (settled_rows c (pending_of (quiet q)) rows) (due s) n
  unfolding walked
  name_leads w s rows q n dd l found = rw (dd, l, found) refl

  pub turn_text : (w t : Text) (s : NumberOption) (rows : List Row) (p : Pend) (n : ℕ)
      → bytes_eq w (45 ∷ 45 ∷ []) ≡ false → long_of w ≡ Some (name_of s, Some t)
      → arg_by_long c (name_of s) ≡ Some (number_option_rule s)
      → turn_fault (shape name c opts) [] (here rows p n) w
      ≡ or_else (or_else (settle_fault c false (held rows p)) (use_fault false (number_option_rule s) (t ∷ []) (settled_rows c (pending_of p) rows))) []
  turn_text w t s rows (quiet q) n dd l found = rw (dd, l, found) refl
  turn_text w t s rows (due d) n dd l found = rw (dd, l, found) refl

  pub text_leads : (w t : Text) (s : NumberOption) (rows : List Row) (q : Option Use) (n : ℕ)
      → bytes_eq w (45 ∷ 45 ∷ []) ≡ false → long_of w ≡ Some (name_of s, Some t)
      → arg_by_long c (name_of s) ≡ Some (number_option_rule s)
      → walked c [] (here rows (quiet q) n) w ≡ here (used (number_option_rule s) (t ∷ []) (settled_rows c (pending_of (quiet q)) rows)) (quiet None) n
  unfolding walked
  text_leads w t s rows q n dd l found = rw (dd, l, found) refl

  pub turn_flag : (w : Text) (rows : List Row) (p : Pend) (n : ℕ) → bytes_eq w (45 ∷ 45 ∷ []) ≡ false → long_of w ≡ Some (codes "preload", None)
      → arg_by_long c (codes "preload") ≡ Some preload_rule
      → turn_fault (shape name c opts) [] (here rows p n) w
      ≡ or_else (or_else (settle_fault c false (held rows p)) (use_fault false preload_rule [] (settled_rows c (pending_of p) rows))) []
  turn_flag w rows (quiet q) n dd l found = rw (dd, l, found) refl
  turn_flag w rows (due d) n dd l found = rw (dd, l, found) refl

  pub flag_leads : (w : Text) (rows : List Row) (q : Option Use) (n : ℕ) → bytes_eq w (45 ∷ 45 ∷ []) ≡ false → long_of w ≡ Some (codes "preload", None)
      → arg_by_long c (codes "preload") ≡ Some preload_rule
      → walked c [] (here rows (quiet q) n) w ≡ here (used preload_rule [] (settled_rows c (pending_of (quiet q)) rows)) (quiet None) n
  unfolding walked
  flag_leads w rows q n dd l found = rw (dd, l, found) refl

  pub turn_refused : (w : Text) (rows : List Row) (p : Pend) (n : ℕ) → bytes_eq w (45 ∷ 45 ∷ []) ≡ false
      → ((rows : List Row) (p : Pend) → none (flag_word_fault c false (long_of w) w (held rows p)) ≡ false)
      → none (turn_fault (shape name c opts) [] (here rows p n) w) ≡ false
  turn_refused w rows (quiet q) n dd bad =
      let word : none (word_fault (shape name c opts) [] false idle w (held rows (quiet q))) ≡ false = rw dd (bad rows (quiet q)) in
      none_else (word_fault (shape name c opts) [] false idle w (held rows (quiet q))) _ ∙ and_left _ _ word
  turn_refused w rows (due d) n dd bad =
      let word : none (word_fault (shape name c opts) [] false (option (name_of d)) w (held rows (due d))) ≡ false = rw dd (bad rows (due d)) in
      none_else (word_fault (shape name c opts) [] false (option (name_of d)) w (held rows (due d))) _ ∙ and_left _ _ word

  pub turn_value : (w : Text) (s : NumberOption) (rows : List Row) (n : ℕ) → bytes_eq w (45 ∷ 45 ∷ []) ≡ false → long_of w ≡ None → short_of w ≡ None
      → turn_fault (shape name c opts) [] (here rows (due s) n) w ≡ []
  turn_value w s rows n dd l sh = rw (dd, l, sh) refl

  pub value_leads : (w : Text) (s : NumberOption) (rows : List Row) (n : ℕ) → IsValue c (name_of s)
      → bytes_eq w (45 ∷ 45 ∷ []) ≡ false → long_of w ≡ None → short_of w ≡ None
      → walked c [] (here rows (due s) n) w ≡ here rows (quiet (Some (name_of s, w))) n
  unfolding walked
  value_leads w workers rows n k dd l sh = rw (dd, l, sh, k.found) refl
  value_leads w shards rows n k dd l sh = rw (dd, l, sh, k.found) refl

  -- ---- a use that is settled at once

  pub react_none : (rows : List Row) (q : Option Use) (u : Use) (F : List Row → Kinds) → Known c (quiet q) → ((R : List Row) → none (F R) ≡ not (has_row u.0 R))
      → (none (settle_fault c false (held rows (quiet q))) && none (F (settled_rows c (pending_of (quiet q)) rows))) ≡ fresh rows (uses_of (quiet q) ++ u ∷ [])
  react_none rows q u F k fails = go (fresh rows (uses_of (quiet q))) refl
    where
      go : (b : Bool) → fresh rows (uses_of (quiet q)) ≡ b
          → (none (settle_fault c false (held rows (quiet q))) && none
          (F (settled_rows c (pending_of (quiet q)) rows))) ≡ fresh rows (uses_of (quiet q) ++ u ∷ [])
      go false e = ap (λ b. b && none (F (settled_rows c (pending_of (quiet q)) rows))) (settle_none name c opts rows q k ∙ e)
          ∙ sym (fresh_split rows (uses_of (quiet q)) (u ∷ []) ∙ ap (λ b. b && fresh (added rows (uses_of (quiet q))) (u ∷ [])) e)
      go true e = ap (λ b. b && none (F (settled_rows c (pending_of (quiet q)) rows))) (settle_none name c opts rows q k ∙ e)
          ∙ ap (λ R. none (F R)) (settle_rows name c opts rows q k e) ∙ fails (added rows (uses_of (quiet q))) ∙ sym (and_true _)
          ∙ sym (fresh_split rows (uses_of (quiet q)) (u ∷ []) ∙ ap (λ b. b && fresh (added rows (uses_of (quiet q))) (u ∷ [])) e)

  pub react_rows : (rows : List Row) (q : Option Use) (u : Use) (G : List Row → List Row) → Known c (quiet q)
      → ((R : List Row) → has_row u.0 R ≡ false → G R ≡ R ++ use_row u ∷ []) → fresh rows (uses_of (quiet q) ++ u ∷ []) ≡ true
      → G (settled_rows c (pending_of (quiet q)) rows) ≡ added rows (uses_of (quiet q) ++ u ∷ [])
  react_rows rows q u G k adds h = go (fresh rows (uses_of (quiet q))) (has_row u.0 (added rows (uses_of (quiet q)))) refl refl
    where
      split : fresh rows (uses_of (quiet q) ++ u ∷ []) ≡ (fresh rows (uses_of (quiet q)) && (not (has_row u.0 (added rows (uses_of (quiet q)))) && true))
      split = fresh_split rows (uses_of (quiet q)) (u ∷ [])

      go : (a b : Bool) → fresh rows (uses_of (quiet q)) ≡ a → has_row u.0 (added rows (uses_of (quiet q))) ≡ b
          → G (settled_rows c (pending_of (quiet q)) rows) ≡ added rows (uses_of (quiet q) ++ u ∷ [])
      go true false e f = ap G (settle_rows name c opts rows q k e) ∙ adds (added rows (uses_of (quiet q))) f
          ∙ sym (added_split rows (uses_of (quiet q)) (u ∷ []))
      go true true e f = let bad : false ≡ true = sym (split ∙ rw (e, f) refl) ∙ h in absurd cc
      go false b e f = let bad : false ≡ true = sym (split ∙ rw e refl) ∙ h in absurd cc

  pub more : (q : Option Use) (u : Use) (vs : List Use) → uses_of (quiet q) ++ u ∷ vs ≡ (uses_of (quiet q) ++ u ∷ []) ++ vs
  more None u vs = refl
  more (Some v) u vs = refl

  pub ok_split : (g : Bool) (rows : List Row) (us vs : List Use) → (g && fresh rows (us ++ vs)) ≡ (fresh rows us && (g && fresh (added rows us) vs))
  ok_split g rows us vs = ap (λ b. g && b) (fresh_split rows us vs) ∙ and_swap g (fresh rows us) (fresh (added rows us) vs)
