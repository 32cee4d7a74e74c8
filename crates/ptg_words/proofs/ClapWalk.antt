-- The result of clap's walk over all words, in terms of their parts.
use Rattle.std.proofs.Common.{◌≡◌, ℕ, ◌+◌, true, false, ◌&&◌, List, [], ◌∷◌, ◌++◌, Option, Some, None, refl, sym, ap, ◌∙◌, subst, codes}
use Rattle.clap.specs.Walk.{Row, Rule, Text, walked, used}
use Rattle.clap.specs.Faults.{use_fault, turn_fault, walk_fault}
use Rattle.ptg_words.specs.declared.options.Options.{Options}
use Rattle.ptg_words.specs.Parts.{NumberOption, Part, Form, name_of, after, parts_from, form_of, plain, named, flag, unknown}
use Rattle.ptg_words.proofs.ClapUses.{none, none_nothing, preload_rule, number_option_rule, Use, added, fresh, value_fault, value_used}
use Rattle.ptg_words.proofs.ClapUses.{preload_fault, preload_used, added_split}
use Rattle.ptg_words.proofs.ClapStates.{Pend, due_of, uses_of, here, Known, Positions, View, good, uses, Ends, quiet, due, is_plain, is_name}
use Rattle.ptg_words.proofs.ClapStates.{is_text, is_flag, is_refused, shape, total, final, settle_none, settle_rows, due_fails, stops, advance}
use Rattle.ptg_words.proofs.ClapTurns.{turn_operand, operand_leads, turn_stray, none_nil, none_two, turn_name, name_leads, turn_text, text_leads}
use Rattle.ptg_words.proofs.ClapTurns.{turn_flag, flag_leads, turn_refused, turn_value, value_leads, react_none, react_rows, more, ok_split}
use Rattle.std.proofs.lemmas.Bool.{and_left}

module _ (name : Text) (c : List Rule) (opts : Options) where
  -- ---- the walk over all words

  pub parts_next : (d : Option NumberOption) (w : Text) (ws : List Text) (f : Form) → form_of opts w ≡ f
      → parts_from opts d (w ∷ ws) ≡ after d f w (λ next. parts_from opts next ws)
  unfolding parts_from
  parts_next d w ws f e = ap (λ g. after d g w (λ next. parts_from opts next ws)) e

  abbrev pub Walked : List Text → List Row → Pend → ℕ → List Text → List Part → Type 0
  Walked ws rows p n ids ps =
      Ends (total name c opts (here rows p n) ws) (final name c opts (here rows p n) ws)
      (added rows (uses_of p ++ uses ids ps)) (good ids ps && fresh rows (uses_of p ++ uses ids ps))

  abbrev pub Next : List Text → Type 0
  Next ws = (rows : List Row) (p : Pend) (n : ℕ) (ids : List Text) → Known c p → Positions c n ids → Walked ws rows p n ids (parts_from opts (due_of p) ws)

  pub by_parts : (ws : List Text) (rows : List Row) (p : Pend) (n : ℕ) (ids : List Text) (a b : List Part) → a ≡ b
      → Walked ws rows p n ids b → Walked ws rows p n ids a
  by_parts ws rows p n ids a b e h = subst (λ ps. Walked ws rows p n ids ps) (sym e) h

  -- a word that is a use by itself
  pub at_once : (w : Text) (ws : List Text) → Next ws → (rows : List Row) (q : Option Use) (n : ℕ) (ids : List Text) (u : Use) → Positions c n ids
      → none (turn_fault (shape name c opts) [] (here rows (quiet q) n) w) ≡ fresh rows (uses_of (quiet q) ++ u ∷ [])
      → (fresh rows (uses_of (quiet q) ++ u ∷ []) ≡ true
      → walked c [] (here rows (quiet q) n) w ≡ here (added rows (uses_of (quiet q) ++ u ∷ [])) (quiet None) n)
      → Ends (total name c opts (here rows (quiet q) n) (w ∷ ws)) (final name c opts (here rows (quiet q) n) (w ∷ ws))
      (added rows (uses_of (quiet q) ++ u ∷ uses ids (parts_from opts None ws)))
      (good ids (parts_from opts None ws) && fresh rows (uses_of (quiet q) ++ u ∷ uses ids (parts_from opts None ws)))
  at_once w ws next rows q n ids u pos turn leads =
      let ps = parts_from opts None ws in
      let us = uses_of (quiet q) ++ u ∷ [] in
      advance name c opts (here rows (quiet q) n) (here (added rows us) (quiet None) n) w ws (fresh rows us) _ _ _ _ turn leads
      (next (added rows us) (quiet None) n ids tt pos)
      (ap (λ xs. good ids ps && fresh rows xs) (more name c opts q u (uses ids ps)) ∙ ok_split name c opts (good ids ps) rows us (uses ids ps))
      (ap (added rows) (more name c opts q u (uses ids ps)) ∙ added_split rows us (uses ids ps))

  pub step_quiet : (w : Text) (ws : List Text) → View c opts w → Next ws → (rows : List Row) (q : Option Use) (n : ℕ) (ids : List Text)
      → Known c (quiet q) → Positions c n ids → Walked (w ∷ ws) rows (quiet q) n ids (parts_from opts None (w ∷ ws))
  step_quiet w ws (is_plain f dd l sh) next rows q n [] k pos =
      by_parts (w ∷ ws) rows (quiet q) n [] _ _ (parts_next None w ws plain f)
      (stops name c opts (here rows (quiet q) n) w ws _ _ (turn_stray name c opts w rows q n pos dd l sh) refl)
  step_quiet w ws (is_plain f dd l sh) next rows q n (i ∷ is) k pos =
      by_parts (w ∷ ws) rows (quiet q) n (i ∷ is) _ _ (parts_next None w ws plain f)
      (advance name c opts (here rows (quiet q) n)
      (here (added rows (uses_of (quiet q))) (quiet (Some (i, w))) (n + 1)) w ws
      (fresh rows (uses_of (quiet q))) _ _ _ _
      (ap none (turn_operand name c opts w i rows q n pos.0 dd l sh) ∙ settle_none name c opts rows q k)
      (λ h. operand_leads name c opts w i rows q n pos.0 pos.2 dd l sh ∙ ap (λ r. here r (quiet (Some (i, w))) (n + 1)) (settle_rows name c opts rows q k h))
      (next (added rows (uses_of (quiet q))) (quiet (Some (i, w))) (n + 1) is pos.1 pos.3)
      (ok_split name c opts (good is (parts_from opts None ws)) rows (uses_of (quiet q)) ((i, w) ∷ uses is (parts_from opts None ws)))
      (added_split rows (uses_of (quiet q)) ((i, w) ∷ uses is (parts_from opts None ws))))
  step_quiet w ws (is_name s f dd l found value) next rows q n ids k pos =
      by_parts (w ∷ ws) rows (quiet q) n ids _ _ (parts_next None w ws (named s None) f)
      (advance name c opts (here rows (quiet q) n) (here (added rows (uses_of (quiet q))) (due s) n) w ws (fresh rows (uses_of (quiet q))) _ _ _ _
      (ap none (turn_name name c opts w s rows (quiet q) n dd l found) ∙ none_nil name c opts _ ∙ settle_none name c opts rows q k)
      (λ h. name_leads name c opts w s rows q n dd l found ∙ ap (λ r. here r (due s) n) (settle_rows name c opts rows q k h))
      (next (added rows (uses_of (quiet q))) (due s) n ids value pos)
      (ok_split name c opts (good ids (parts_from opts (Some s) ws)) rows (uses_of (quiet q)) (uses ids (parts_from opts (Some s) ws)))
      (added_split rows (uses_of (quiet q)) (uses ids (parts_from opts (Some s) ws))))
  step_quiet w ws (is_text s t f dd l found) next rows q n ids k pos =
      by_parts (w ∷ ws) rows (quiet q) n ids _ _ (parts_next None w ws (named s (Some t)) f)
      (at_once w ws next rows q n ids (name_of s, t) pos
      (ap none (turn_text name c opts w t s rows (quiet q) n dd l found) ∙ none_two name c opts _ _
      ∙ react_none name c opts rows q (name_of s, t) (use_fault false (number_option_rule s) (t ∷ [])) k
      (value_fault (name_of s) t (Some (name_of s)) None false))
      (λ h. text_leads name c opts w t s rows q n dd l found ∙ ap (λ r. here r (quiet None) n)
      (react_rows name c opts rows q (name_of s, t) (used (number_option_rule s) (t ∷ [])) k (value_used (name_of s) t (Some (name_of s)) None false) h)))
  step_quiet w ws (is_flag f dd l found) next rows q n ids k pos =
      by_parts (w ∷ ws) rows (quiet q) n ids _ _ (parts_next None w ws flag f)
      (at_once w ws next rows q n ids (codes "preload", codes "true") pos
      (ap none (turn_flag name c opts w rows (quiet q) n dd l found) ∙ none_two name c opts _ _
      ∙ react_none name c opts rows q (codes "preload", codes "true") (use_fault false preload_rule []) k preload_fault)
      (λ h. flag_leads name c opts w rows q n dd l found ∙ ap (λ r. here r (quiet None) n)
      (react_rows name c opts rows q (codes "preload", codes "true") (used preload_rule []) k preload_used h)))
  step_quiet w ws (is_refused f dd bad) next rows q n ids k pos =
      by_parts (w ∷ ws) rows (quiet q) n ids _ _ (parts_next None w ws unknown f)
      (stops name c opts (here rows (quiet q) n) w ws _ _ (turn_refused name c opts w rows (quiet q) n dd bad) refl)

  pub step_due : (w : Text) (ws : List Text) → View c opts w → Next ws → (rows : List Row) (s : NumberOption) (n : ℕ) (ids : List Text)
      → Known c (due s) → Positions c n ids → Walked (w ∷ ws) rows (due s) n ids (parts_from opts (Some s) (w ∷ ws))
  step_due w ws (is_plain f dd l sh) next rows s n ids k pos =
      by_parts (w ∷ ws) rows (due s) n ids _ _ (parts_next (Some s) w ws plain f)
      (advance name c opts (here rows (due s) n) (here rows (quiet (Some (name_of s, w))) n) w ws true _ _ _ _
      (ap none (turn_value name c opts w s rows n dd l sh) ∙ none_nothing) (λ h. value_leads name c opts w s rows n k dd l sh)
      (next rows (quiet (Some (name_of s, w))) n ids k pos) refl refl)
  step_due w ws (is_name t f dd l found value) next rows s n ids k pos =
      by_parts (w ∷ ws) rows (due s) n ids _ _ (parts_next (Some s) w ws (named t None) f)
      (stops name c opts (here rows (due s) n) w ws _ _
      (ap none (turn_name name c opts w t rows (due s) n dd l found) ∙ none_nil name c opts _
      ∙ due_fails name c opts rows s k) refl)
  step_due w ws (is_text t text f dd l found) next rows s n ids k pos =
      by_parts (w ∷ ws) rows (due s) n ids _ _ (parts_next (Some s) w ws (named t (Some text)) f)
      (stops name c opts (here rows (due s) n) w ws _ _
      (ap none (turn_text name c opts w text t rows (due s) n dd l found) ∙ none_two name c opts _ _
      ∙ and_left _ _ (due_fails name c opts rows s k)) refl)
  step_due w ws (is_flag f dd l found) next rows s n ids k pos =
      by_parts (w ∷ ws) rows (due s) n ids _ _ (parts_next (Some s) w ws flag f)
      (stops name c opts (here rows (due s) n) w ws _ _
      (ap none (turn_flag name c opts w rows (due s) n dd l found) ∙ none_two name c opts _ _
      ∙ and_left _ _ (due_fails name c opts rows s k)) refl)
  step_due w ws (is_refused f dd bad) next rows s n ids k pos =
      by_parts (w ∷ ws) rows (due s) n ids _ _ (parts_next (Some s) w ws unknown f)
      (stops name c opts (here rows (due s) n) w ws _ _ (turn_refused name c opts w rows (due s) n dd bad) refl)

  abbrev pub Views : List Text → Type 0
  Views [] = Unit {0}
  Views (w ∷ ws) = View c opts w × Views ws

  pub walks : (ws : List Text) → Views ws → Next ws
  unfolding walk_fault parts_from none
  walks [] v rows (quiet None) n ids k pos = record { sound = refl; rows = λ h. refl }
  walks [] v rows (quiet (Some u)) n ids k pos =
      record {
        sound = settle_none name c opts rows (Some u) k;
        rows =
            λ h. settle_rows name c opts rows (Some u) k h;
      }
  walks [] v rows (due s) n ids k pos = record {
    sound = due_fails name c opts rows s k;
    rows = λ h. let bad : false ≡ true = h in absurd cc;
  }
  walks (w ∷ ws) v rows (quiet q) n ids k pos = step_quiet w ws v.0 (walks ws v.1) rows q n ids k pos
  walks (w ∷ ws) v rows (due s) n ids k pos = step_due w ws v.0 (walks ws v.1) rows s n ids k pos
