-- What clap does with all words of a command: which it refuses, and the values that it finds.
use Rattle.std.proofs.Common.{◌≡◌, ℕ, Bool, true, false, not, cond, ◌&&◌, List, [], ◌∷◌, ◌++◌, map, Option, Some, None, is_some, refl, sym, ap, ◌∙◌}
use Rattle.std.proofs.Common.{codes, append_assoc}
use Rattle.std.specs.Prelude.{find, fold, option_map, option_and_then, slice_get}
use Rattle.std.specs.Option.{option_map_or}
use Rattle.std.specs.List.{list_any, list_all, AllByRecursion}
use Rattle.std.specs.Str.{bytes_eq}
use Rattle.std.proofs.lemmas.List.{append-nil}
use Rattle.std.proofs.Math.Bool.{not-not}
use Rattle.clap.specs.Walk.{Row, Rule, Text, first_of, has_row, with_default, nothing_held, settled, walked}
use Rattle.clap.specs.Facts.{explicit_source}
use Rattle.clap.specs.Takes.{is_given}
use Rattle.clap.specs.Kinds.{or_else}
use Rattle.clap.specs.Faults.{level_fault, default_fault, defaults_fault, check_fault, settle_fault, walk_fault}
use Rattle.ptg_words.specs.declared.options.Options.{Options}
use Rattle.ptg_words.specs.Parts.{parts}
use Rattle.ptg_words.proofs.ClapUses.{Use, use_row, added, fresh, none, none_else, and_assoc, value_rule, preload_rule}
use Rattle.ptg_words.proofs.ClapStates.{quiet, good, uses, shape, total, final, here, View, Positions, Ends}
use Rattle.ptg_words.proofs.ClapWalk.{Views, walks}
use Rattle.ptg_words.specs.Words.{IsProper}
use Rattle.ptg_words.proofs.PartsOfUses.{Apart, value_in}

-- ---- the rows of uses

pub added_is : (rows : List Row) (us : List Use) → added rows us ≡ rows ++ map use_row us
added_is rows [] = sym (append-nil rows)
added_is rows (u ∷ us) = added_is (rows ++ use_row u ∷ []) us ∙ append_assoc rows (use_row u ∷ []) (map use_row us)

abbrev pub seen : Text → List Row → Option Row
seen id rows = find (λ r. bytes_eq r.id id) rows

abbrev pub or_seen : Option Row → Option Row → Option Row
or_seen None later = later
or_seen (Some r) later = Some r

pub seen_append : (id : Text) (us : List Use) (t : List Row)
    → seen id (map use_row us ++ t) ≡ or_seen (option_map use_row (find (λ (u : Use). bytes_eq u.0 id) us)) (seen id t)
seen_append id [] t = refl
seen_append id (u ∷ us) t = go (bytes_eq u.0 id) (seen_append id us t)
  where
    go : (b : Bool) → seen id (map use_row us ++ t) ≡ or_seen (option_map use_row (find (λ (u : Use). bytes_eq u.0 id) us)) (seen id t)
        → cond b (Some (use_row u)) (seen id (map use_row us ++ t))
        ≡ or_seen (option_map use_row (cond b (Some u) (find (λ (u : Use). bytes_eq u.0 id) us))) (seen id t)
    go true e = refl
    go false e = e

module _ (id : Text) (us : List Use) (t : List Row) (absent : seen id t ≡ None) where
  pub first_seen : first_of id (map use_row us ++ t) ≡ value_in id us
  first_seen = ap (option_and_then (λ (r : Row). slice_get r.values 0)) (seen_append id us t) ∙ go (find (λ (u : Use). bytes_eq u.0 id) us)
    where
      go : (o : Option Use) → option_and_then (λ (r : Row). slice_get r.values 0) (or_seen (option_map use_row o) (seen id t)) ≡ option_map (λ (u : Use). u.1) o
      go None = ap (option_and_then (λ (r : Row). slice_get r.values 0)) absent
      go (Some u) = refl

  given_seen : is_given id (map use_row us ++ t) ≡ is_some (value_in id us)
  given_seen = ap (λ o. option_map_or (λ (r : Row). explicit_source r.source) o false) (seen_append id us t) ∙ go (find (λ (u : Use). bytes_eq u.0 id) us)
    where
      go : (o : Option Use) → option_map_or (λ (r : Row). explicit_source r.source)
          (or_seen (option_map use_row o) (seen id t)) false ≡ is_some (option_map (λ (u : Use). u.1) o)
      go None = ap (λ o. option_map_or (λ (r : Row). explicit_source r.source) o false) absent
      go (Some u) = refl

-- ---- defaults

pub value_default : (rows : List Row) (id : Text) (long : Option Text) (index : Option ℕ) (required : Bool)
    → default_fault rows (value_rule id long index required) ≡ []
value_default rows id long index required = go (has_row id rows) refl
  where
    go : (b : Bool) → has_row id rows ≡ b → default_fault rows (value_rule id long index required) ≡ []
    go true e = rw e refl
    go false e = rw e refl

pub value_kept : (rows : List Row) (id : Text) (long : Option Text) (index : Option ℕ) (required : Bool)
    → with_default rows (value_rule id long index required) ≡ rows
value_kept rows id long index required = go (has_row id rows) refl
  where
    go : (b : Bool) → has_row id rows ≡ b → with_default rows (value_rule id long index required) ≡ rows
    go true e = rw e refl
    go false e = rw e refl

pub preload_default : (rows : List Row) → default_fault rows preload_rule ≡ []
preload_default rows = go (has_row (codes "preload") rows) refl
  where
    go : (b : Bool) → has_row (codes "preload") rows ≡ b → default_fault rows preload_rule ≡ []
    go true e = rw e refl
    go false e = rw e refl

-- no rule's default has a fault
abbrev pub Quiet : List Rule → Type 0
Quiet [] = Unit {0}
Quiet (a ∷ rest) = ((rows : List Row) → default_fault rows a ≡ []) × Quiet rest

no_default_fault : (c : List Rule) (rows : List Row) → Quiet c → defaults_fault rows c ≡ []
unfolding defaults_fault
no_default_fault [] rows q = refl
no_default_fault (a ∷ rest) rows q = rw (q.0 rows) (no_default_fault rest (with_default rows a) q.1)

-- what is known of a command's rules
pub record Fits (c : List Rule) (ids : List Text) (opts : Options) : Type 0 where
  pub views : (w : Text) → IsProper w → View c opts w
  pub positions : Positions c 1 ids
  pub quiet_defaults : Quiet c
  pub tail : List Row → List Row
  pub finished_is : (rows : List Row) → fold with_default rows c ≡ rows ++ tail rows
  pub absent : (rows : List Row) (id : Text) → bytes_eq (codes "preload") id ≡ false → seen id (tail rows) ≡ None
  pub required : (rows : List Row) → list_any (λ (a : Rule). a.required && not (is_given a.id rows)) c ≡ not (list_all (λ i. is_given i rows) ids)
  pub apart : Apart ids

each_given : (ids : List Text) (us : List Use) (t : List Row) → ((id : Text) → bytes_eq (codes "preload") id ≡ false → seen id t ≡ None) → Apart ids
    → list_all (λ i. is_given i (map use_row us ++ t)) ids ≡ list_all (λ i. is_some (value_in i us)) ids
each_given [] us t h a = refl
each_given (i ∷ is) us t h a =
    ap (λ b. b && list_all (λ i. is_given i (map use_row us ++ t)) is) (given_seen i us t (h i a.1))
    ∙ ap (λ b. is_some (value_in i us) && b) (each_given is us t h a.4)

module _ (name : Text) (c : List Rule) (ids : List Text) (opts : Options) (fits : Fits c ids opts) where
  all_views : (ws : List Text) → AllByRecursion IsProper ws → Views name c opts ws
  all_views [] p = tt
  all_views (w ∷ ws) p = (fits.views w p.0, all_views ws p.1)

  -- whether clap passes the words: their parts fit, no option occurs twice, and each positional has a value
  abbrev pub passes : List Text → Bool
  passes ws = (good ids (parts opts ws) && fresh [] (uses ids (parts opts ws))) && list_all (λ i. is_some (value_in i (uses ids (parts opts ws)))) ids

  abbrev pub rows_at_end : List Text → List Row
  rows_at_end ws = fold with_default (final name c opts (here [] (quiet None) 1) ws) c

  check_is : (rows : List Row) → none (check_fault (shape name c opts) rows false) ≡ list_all (λ i. is_given i rows) ids
  unfolding none
  check_is rows = go (list_any (λ (a : Rule). a.required && not (is_given a.id rows)) c) refl
    where
      go : (b : Bool) → list_any (λ (a : Rule). a.required && not (is_given a.id rows)) c ≡ b
          → none (check_fault (shape name c opts) rows false) ≡ list_all (λ i. is_given i rows) ids
      go true e = rw e (sym (flip (sym (fits.required rows) ∙ e)))
        where
          flip : not (list_all (λ i. is_given i rows) ids) ≡ true → list_all (λ i. is_given i rows) ids ≡ false
          flip h = sym (not-not _) ∙ ap not h
      go false e = rw e (sym (flip (sym (fits.required rows) ∙ e)))
        where
          flip : not (list_all (λ i. is_given i rows) ids) ≡ false → list_all (λ i. is_given i rows) ids ≡ true
          flip h = sym (not-not _) ∙ ap not h

  level_is : (ws : List Text) → none (level_fault (shape name c opts) [] nothing_held ws false [])
      ≡ (none (total name c opts (here [] (quiet None) 1) ws) && list_all (λ i. is_given i (rows_at_end ws)) ids)
  level_is ws =
      let start = here [] (quiet None) 1 in
      let W = walk_fault (shape name c opts) [] start ws in
      let S = settle_fault c false (fold (walked c []) start ws).held in
      let D = defaults_fault (settled c (fold (walked c []) start ws).held).rows c in
      let C = check_fault (shape name c opts) (rows_at_end ws) false in
      none_else W (or_else S (or_else D C)) ∙ ap (λ b. none W && b) (none_else S (or_else D C)
      ∙ ap (λ k. none S && none (or_else k C)) (no_default_fault c _ fits.quiet_defaults))
      ∙ sym (and_assoc (none W) (none S) (none C)) ∙ ap (λ b. b && none C) (sym (none_else W S))
      ∙ ap (λ b. none (or_else W S) && b) (check_is (rows_at_end ws))

  pub ends : (ws : List Text) → AllByRecursion IsProper ws
      → Ends (total name c opts (here [] (quiet None) 1) ws) (final name c opts (here [] (quiet None) 1) ws)
      (added [] (uses ids (parts opts ws))) (good ids (parts opts ws) && fresh [] (uses ids (parts opts ws)))
  ends ws p = walks name c opts ws (all_views ws p) [] (quiet None) 1 ids tt fits.positions

  pub final_rows : (ws : List Text) → AllByRecursion IsProper ws → (good ids (parts opts ws) && fresh [] (uses ids (parts opts ws))) ≡ true
      → rows_at_end ws ≡ map use_row (uses ids (parts opts ws)) ++ fits.tail (map use_row (uses ids (parts opts ws)))
  final_rows ws p h =
      ap (λ rows. fold with_default rows c) ((ends ws p).rows h ∙ added_is [] (uses ids (parts opts ws)))
      ∙ fits.finished_is (map use_row (uses ids (parts opts ws)))

  pub level_passes : (ws : List Text) → AllByRecursion IsProper ws → none (level_fault (shape name c opts) [] nothing_held ws false []) ≡ passes ws
  level_passes ws p = level_is ws ∙ ap (λ b. b && list_all (λ i. is_given i (rows_at_end ws)) ids) (ends ws p).sound
      ∙ go (good ids (parts opts ws) && fresh [] (uses ids (parts opts ws))) refl
    where
      go : (b : Bool) → (good ids (parts opts ws) && fresh [] (uses ids (parts opts ws))) ≡ b
          → ((good ids (parts opts ws) && fresh [] (uses ids (parts opts ws))) && list_all (λ i. is_given i (rows_at_end ws)) ids) ≡ passes ws
      go false e = rw e refl
      go true e = ap (λ rows. (good ids (parts opts ws) && fresh [] (uses ids (parts opts ws))) && list_all (λ i. is_given i rows) ids) (final_rows ws p e)
          ∙ ap (λ b. (good ids (parts opts ws) && fresh [] (uses ids (parts opts ws))) && b)
          (each_given ids (uses ids (parts opts ws)) (fits.tail (map use_row (uses ids (parts opts ws))))
          (fits.absent (map use_row (uses ids (parts opts ws)))) fits.apart)

-- ---- the same in terms of the parts

pub settle_terms : (ns nl le fr nt gv cnt : Bool) → ((ns && (nl && le)) ≡ true → fr ≡ nt) → (le && gv) ≡ cnt
    → (((ns && (nl && le)) && fr) && gv) ≡ (ns && (nl && (nt && cnt)))
settle_terms false nl le fr nt gv cnt h e = refl
settle_terms true false le fr nt gv cnt h e = refl
settle_terms true true false fr true gv cnt h e = e
settle_terms true true false fr false gv cnt h e = refl
settle_terms true true true fr nt gv cnt h e = rw (h refl, e) refl
