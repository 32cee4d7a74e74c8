-- What clap finds in the words of a verb with these operands and options.
use Rattle.std.proofs.Common.{◌≡◌, ◌≢◌, ℕ, ◌+◌, ◌≤◌, Bool, true, false, not, cond, ◌&&◌, ◌||◌, List, [], ◌∷◌, ◌++◌, map, length, Option, Some, None}
use Rattle.std.proofs.Common.{is_some, refl, sym, ap, ◌∙◌, arith, codes}
use Rattle.std.specs.Prelude.{slice_get, nat_le, ◌==◌, drop, find, option_map, option_and_then}
use Rattle.std.specs.List.{list_any, list_all, AllByRecursion}
use Rattle.std.specs.Str.{bytes_eq}
use Rattle.std.proofs.lemmas.Bool.Decides.{nat_tests}
use Rattle.list_lemmas.proofs.Texts.{bytes_eq-sym_false}
use Rattle.clap.specs.Walk.{Text, first_of, one_of, row_text, rows_after, rows_of, has_row, nothing_held}
use Rattle.clap.specs.Simple.{App, built, matches_of, is_simple}
use Rattle.clap.specs.Matches.{first_value, one_text}
use Rattle.clap.specs.Faults.{fault_of, level_fault, is_simple_and_free}
use Rattle.clap.specs.declared.parser.matches.Found.{Found}
use Rattle.clap.proofs.FaultLemmas.{leaf_fault}
use Rattle.clap.proofs.WalkLemmas.{first_value-rows, one_text-rows}
use Rattle.ptg_words.specs.declared.options.Options.{Options}
use Rattle.ptg_words.specs.declared.options.Options.TheVariants.{NoOptions, Counts, CountsAndPreload}
use Rattle.ptg_words.specs.Parts.{NumberOption, Part, name_of, workers, shards, operands, texts_of, is_preload, is_lacking, is_stray, has_twice, parts}
use Rattle.ptg_words.specs.Readings.{HasFirstValues, are_ids, is_free_id, is_read}
use Rattle.ptg_words.specs.Commands.{verb_command}
use Rattle.ptg_words.proofs.ClapUses.{Use, use_row, fresh, none}
use Rattle.ptg_words.proofs.ClapStates.{uses, shape}
use Rattle.ptg_words.proofs.ClapViews.{view, option_view}
use Rattle.ptg_words.proofs.PartsOfUses.{Apart, NoneIs, fresh_once, free_at, good_is, value_in, operand_at, all_there, all_values}
use Rattle.ptg_words.proofs.PartsOfUses.{number_option_value, preload_value}
use Rattle.ptg_words.proofs.ClapEnd.{Fits, passes, level_passes, final_rows, settle_terms, seen, or_seen, seen_append, first_seen}
use Rattle.ptg_words.proofs.ClapRules.{rules_from, filled_is, simple_new, simple_built, free_built, none_early, by_short, by_long, option_value}
use Rattle.ptg_words.proofs.ClapRules.{positions, quiet_rules, off_row, tail_of, finished, nothing_added, required}
use Rattle.ptg_words.proofs.ValuesRead.{none_is, some_is, counted}
use Rattle.std.specs.Cmp.{first_so}
use Rattle.std.proofs.lemmas.Bool.{not-true, and_parts}
use Rattle.ptg_words.specs.Words.{IsProper}

pub simple_first : (a : App) → is_simple_and_free a ≡ true → is_simple a ≡ true
simple_first a h = first_so _ _ h

-- ---- ids

pub apart_ids : (ids : List Text) → are_ids ids ≡ true → Apart ids
apart_ids [] h = tt
apart_ids (i ∷ is) h =
    let outer = and_parts (is_free_id i) _ h in
    let rest = and_parts (not (list_any (bytes_eq i) is)) _ outer.1 in
    let free = and_parts (not (bytes_eq (codes "workers") i)) _ outer.0 in
    let frees = and_parts (not (bytes_eq (codes "shards") i)) _ free.1 in
    let of_workers = not-true _ free.0 in
    let of_shards = not-true _ frees.0 in
    let of_preload = not-true _ frees.1 in
    (own of_workers of_shards, of_preload, bytes_eq-sym_false (codes "preload") i of_preload, not-true _ rest.0, apart_ids is rest.1)
  where
    own : bytes_eq (codes "workers") i ≡ false → bytes_eq (codes "shards") i ≡ false → (s : NumberOption)
        → (bytes_eq (name_of s) i ≡ false) × (bytes_eq i (name_of s) ≡ false)
    own w k workers = (w, bytes_eq-sym_false (codes "workers") i w)
    own w k shards = (k, bytes_eq-sym_false (codes "shards") i k)

no_id : (s : NumberOption) (ids : List Text) → Apart ids → NoneIs (name_of s) ids
no_id s [] a = tt
no_id s (i ∷ is) a = ((a.0 s).1, no_id s is a.4)

no_preload_id : (ids : List Text) → Apart ids → NoneIs (codes "preload") ids
no_preload_id [] a = tt
no_preload_id (i ∷ is) a = (a.2, no_preload_id is a.4)

-- ---- what clap passes

both_le : (a b : ℕ) → (nat_le a b && nat_le b a) ≡ (a == b)
both_le a b = grind (arith, nat_tests)

module _ (name : Text) (ids : List Text) (o : Options) (few : 1 + length ids ≤ 100) (apart : Apart ids) where
  fits : Fits (rules_from 1 ids o) ids o
  fits = record {
    views = view (rules_from 1 ids o) (by_short 1 ids o) o (option_view (rules_from 1 ids o) o (by_long 1 ids o) (option_value ids o apart));
    positions = positions ids o few apart;
    quiet_defaults = quiet_rules 1 ids o;
    tail = tail_of o;
    finished_is = finished 1 ids o;
    absent = nothing_added o;
    required = λ rows. required rows 1 ids o;
    apart = apart;
  }

  pub simple : is_simple_and_free (verb_command name ids o) ≡ true
  simple = rw (simple_new ids o, filled_is 1 ids o few, simple_built 1 ids o, none_early _ 1 ids o, free_built 1 ids o) refl

  fault_is : (ws : List Text) → fault_of (verb_command name ids o) ws ≡ level_fault (shape name (rules_from 1 ids o) o) [] nothing_held (drop 1 ws) false []
  fault_is ws =
      leaf_fault (built (verb_command name ids o)) nothing_held (drop 1 ws) refl
      ∙ ap (λ rules. level_fault (shape name rules o) [] nothing_held (drop 1 ws) false []) (filled_is 1 ids o few)

  rows_are : (ws : List Text) → matches_of (verb_command name ids o) ws ≡ rows_after (rules_from 1 ids o) [] (drop 1 ws)
  rows_are ws = ap (λ rules. rows_after rules [] (drop 1 ws)) (filled_is 1 ids o few)

  values_are : (ps : List Part) → (k : ℕ) (id : Text) → slice_get ids k ≡ Some id → value_in id (uses ids ps) ≡ slice_get (operands ps) k
  values_are ps k id e = operand_at ids ps k id apart e

  passes_is : (ws : List Text) → passes name (rules_from 1 ids o) ids o fits ws ≡ is_read (length ids) (parts o ws)
  passes_is ws =
      let ps = parts o ws in
      let us = uses ids ps in
      ap (λ g. (g && fresh [] us) && list_all (λ i. is_some (value_in i us)) ids) (good_is ids ps)
      ∙ ap (λ all. ((not (list_any is_stray ps) && (not (list_any is_lacking ps) && nat_le (length (operands ps)) (length ids))) && fresh [] us) && all)
      (all_there ids (operands ps) (λ i. value_in i us) (values_are ps))
      ∙ settle_terms (not (list_any is_stray ps)) (not (list_any is_lacking ps)) (nat_le (length (operands ps)) (length ids)) (fresh [] us) (not (has_twice ps))
      (nat_le (length ids) (length (operands ps))) (length (operands ps) == length ids)
      (λ h. fresh_once ids ps apart (good_is ids ps ∙ h)) (both_le (length (operands ps)) (length ids))

  pub reads : (ws : List Text) → AllByRecursion IsProper (drop 1 ws) → none (fault_of (verb_command name ids o) ws) ≡ is_read (length ids) (parts o (drop 1 ws))
  reads ws p = ap none (fault_is ws) ∙ level_passes name (rules_from 1 ids o) ids o fits (drop 1 ws) p ∙ passes_is (drop 1 ws)

  -- ---- what clap finds

  found_rows : (ws : List Text) → AllByRecursion IsProper (drop 1 ws) → none (fault_of (verb_command name ids o) ws) ≡ true
      → matches_of (verb_command name ids o) ws ≡ map use_row (uses ids (parts o (drop 1 ws))) ++ tail_of o (map use_row (uses ids (parts o (drop 1 ws))))
  unfolding fits
  found_rows ws p h =
      let ok = first_so _ _ (sym (ap none (fault_is ws) ∙ level_passes name (rules_from 1 ids o) ids o fits (drop 1 ws) p) ∙ h) in
      rows_are ws ∙ final_rows name (rules_from 1 ids o) ids o fits (drop 1 ws) p ok

has_first : (id : Text) (us : List Use) → has_row id (map use_row us) ≡ is_some (value_in id us)
has_first id [] = refl
has_first id (u ∷ us) = go (bytes_eq u.0 id) (has_first id us)
  where
    go : (b : Bool) → has_row id (map use_row us) ≡ is_some (value_in id us)
        → (b || has_row id (map use_row us))
        ≡ is_some (option_map (λ (v : Use). v.1) (cond b (Some u) (find (λ (v : Use). bytes_eq v.0 id) us)))
    go true e = refl
    go false e = e

-- the text of a flag that is not given: clap adds one if the verb has the flag
abbrev pub off_text : Options → Option Text
off_text NoOptions = None
off_text Counts = None
off_text CountsAndPreload = Some (codes "false")

abbrev pub flag_text : Options → Bool → Option Text
flag_text o b = cond b (Some (codes "true")) (off_text o)

flag_found : (o : Options) (us : List Use) (b : Bool) → value_in (codes "preload") us ≡ cond b (Some (codes "true")) None
    → one_of (codes "preload") (map use_row us ++ tail_of o (map use_row us)) ≡ flag_text o b
flag_found o us b e =
    ap (option_and_then row_text) (seen_append (codes "preload") us (tail_of o (map use_row us))) ∙ by o
  where
    bare : (f : Option Use) (b : Bool) → option_map (λ (u : Use). u.1) f ≡ cond b (Some (codes "true")) None
        → option_and_then row_text (or_seen (option_map use_row f) None) ≡ cond b (Some (codes "true")) None
    bare None true e = absurd cc
    bare None false e = refl
    bare (Some u) true e = e
    bare (Some u) false e = absurd cc

    with_off : (f : Option Use) (b : Bool) → option_map (λ (u : Use). u.1) f ≡ cond b (Some (codes "true")) None
        → option_and_then row_text (or_seen (option_map use_row f)
        (seen (codes "preload") (cond (is_some (option_map (λ (u : Use). u.1) f)) [] (off_row ∷ []))))
        ≡ flag_text CountsAndPreload b
    with_off None true e = absurd cc
    with_off None false e = refl
    with_off (Some u) true e = e
    with_off (Some u) false e = absurd cc

    by : (o : Options) → option_and_then row_text
        (or_seen (option_map use_row (find (λ (u : Use). bytes_eq u.0 (codes "preload")) us))
        (seen (codes "preload") (tail_of o (map use_row us)))) ≡ flag_text o b
    by NoOptions = bare (find (λ (u : Use). bytes_eq u.0 (codes "preload")) us) b e
    by Counts = bare (find (λ (u : Use). bytes_eq u.0 (codes "preload")) us) b e
    by CountsAndPreload =
        ap (λ h. option_and_then row_text
        (or_seen (option_map use_row (find (λ (u : Use). bytes_eq u.0 (codes "preload")) us))
        (seen (codes "preload") (cond h [] (off_row ∷ [])))))
        (has_first (codes "preload") us)
        ∙ with_off (find (λ (u : Use). bytes_eq u.0 (codes "preload")) us) b e

-- what a parse of the words of a verb found
pub record WordsFound (f : Found) (ids : List Text) (o : Options) (ps : List Part) : Type 0 where
  pub good : is_read (length ids) ps ≡ true
  pub operand_values : HasFirstValues f ids (operands ps)
  pub number_text : (s : NumberOption) → first_value f (name_of s) ≡ slice_get (texts_of s ps) 0
  pub preload_text : one_text f (codes "preload") ≡ flag_text o (list_any is_preload ps)

module _ (app : App) (name : Text) (ids : List Text) (o : Options) (ws : List Text)
    (is : app ≡ verb_command name ids o) (are : are_ids ids ≡ true) (few : length ids ≤ 4)
    (proper : AllByRecursion IsProper (drop 1 ws)) where
  in_bound : 1 + length ids ≤ 100
  in_bound = omega (arith, few)

  pub app_simple : is_simple_and_free app ≡ true
  app_simple = ap is_simple_and_free is ∙ simple name ids o in_bound (apart_ids ids are)

  pub words_refused : fault_of app ws ≢ [] → is_read (length ids) (parts o (drop 1 ws)) ≡ false
  words_refused h = sym (reads name ids o in_bound (apart_ids ids are) ws proper) ∙ ap (λ a. none (fault_of a ws)) (sym is) ∙ some_is (fault_of app ws) h

  pub words_found : (f : Found) → fault_of app ws ≡ [] → rows_of f ≡ matches_of app ws → WordsFound f ids o (parts o (drop 1 ws))
  words_found f h rows =
      let ps = parts o (drop 1 ws) in
      let us = uses ids ps in
      let apart = apart_ids ids are in
      let passed : none (fault_of (verb_command name ids o) ws) ≡ true = ap (λ a. none (fault_of a ws)) (sym is) ∙ none_is (fault_of app ws) h in
      let read : is_read (length ids) ps ≡ true = sym (reads name ids o in_bound apart ws proper) ∙ passed in
      let all = rows ∙ ap (λ a. matches_of a ws) is ∙ found_rows name ids o in_bound apart ws proper passed in
      let value : (id : Text) → bytes_eq (codes "preload") id ≡ false → first_value f id ≡ value_in id us
      = λ id free. first_value-rows f id ∙ ap (first_of id) all ∙ first_seen id us _ (nothing_added o (map use_row us) id free) in
      record {
        good = read;
        operand_values = all_values ids (operands ps) (first_value f) (counted (length ids) ps read).0
            (λ k id e. value id (free_of ids k id apart e) ∙ operand_at ids ps k id apart e);
        number_text = λ s. value (name_of s) (not_preload s) ∙ number_option_value s ids ps (no_id s ids apart);
        preload_text = one_text-rows f (codes "preload") ∙ ap (one_of (codes "preload")) all
            ∙ flag_found o us (list_any is_preload ps) (preload_value ids ps (no_preload_id ids apart));
      }
    where
      not_preload : (s : NumberOption) → bytes_eq (codes "preload") (name_of s) ≡ false
      not_preload workers = refl
      not_preload shards = refl

      free_of : (ids : List Text) (k : ℕ) (id : Text) → Apart ids → slice_get ids k ≡ Some id → bytes_eq (codes "preload") id ≡ false
      free_of ids k id a e = (free_at ids k id a e).1

-- ---- the flag

pub flag_is : (o : Options) (text : Option Text) (b result : Bool) → (text ≡ None → result ≡ false) → (text ≡ Some (codes "true") → result ≡ true)
    → (text ≡ Some (codes "false") → result ≡ false) → text ≡ flag_text o b → b ≡ result
flag_is o text true result n t f e = sym (t e)
flag_is NoOptions text false result n t f e = sym (n e)
flag_is Counts text false result n t f e = sym (n e)
flag_is CountsAndPreload text false result n t f e = sym (f e)
