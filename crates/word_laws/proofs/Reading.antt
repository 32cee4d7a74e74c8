-- The parts of words, from the forms of the words.
use Rattle.std.proofs.Common.{◌≡◌, ℕ, ◌+◌, Bool, true, false, not, cond, ◌&&◌, ◌||◌, List, [], ◌∷◌, ◌++◌, ◌↔◌, Option}
use Rattle.std.proofs.Common.{Some, None, is_some, length, map, refl, sym, ap, ◌∙◌, arith}
use Rattle.std.proofs.lemmas.Bool.{false≢true, or_right}
use Rattle.std.specs.List.{filter, list_any, zip}
use Rattle.std.specs.Prelude.{IsTrue}
use Rattle.std.proofs.Math.Bool.{not-not}
use Rattle.ptg_base.specs.Lists.{IsIn}
use Rattle.ptg_words.specs.Parts.{Form, NumberOption, Part, after, flag, form_of, is_lacking, is_stray, named, operands, parts, parts_from, plain, unknown}
use Rattle.ptg_words.specs.declared.verbs.Verb.{Verb}
use Rattle.ptg_words.specs.Words.{options_of}
use Rattle.word_laws.specs.Forms.{HasForm, LacksValue, NoValueFollows, begins_with_dash, has_numbers, is_other, is_value, takes_next, with_previous}
use Rattle.word_laws.proofs.Forms.{dashed, is_name_alone, is_plain, is_unknown, known_has_form, taking, unknown_has_none}
use Rattle.list_lemmas.proofs.Truth.{by_test, and-false}
use Rattle.list_lemmas.proofs.Members.{some_member_passes, list_any-from_member}

-- ---- stray options

module _ (verb : Verb) where
  stray_next : (due : Option NumberOption) (f : Form) (word : List ℕ) (rest : Option NumberOption → List Part)
      (others : Bool) → ((next : Option NumberOption) → list_any is_stray (rest next) ≡ others)
      → list_any is_stray (after due f word rest) ≡ (is_unknown f || others)
  stray_next None plain word rest others same = same None
  stray_next None (named s None) word rest others same = same (Some s)
  stray_next None (named s (Some text)) word rest others same = same None
  stray_next None flag word rest others same = same None
  stray_next None unknown word rest others same = refl
  stray_next (Some d) plain word rest others same = same None
  stray_next (Some d) (named s None) word rest others same = same (Some s)
  stray_next (Some d) (named s (Some text)) word rest others same = same None
  stray_next (Some d) flag word rest others same = same None
  stray_next (Some d) unknown word rest others same = refl

  stray_is : (due : Option NumberOption) (words : List (List ℕ))
      → list_any is_stray (parts_from (options_of verb) due words) ≡ list_any
      (λ w. is_unknown (form_of (options_of verb) w)) words
  unfolding parts_from
  stray_is None [] = refl
  stray_is (Some s) [] = refl
  stray_is due (word ∷ words) = stray_next due (form_of (options_of verb) word) word
      (λ next. parts_from (options_of verb) next words) (list_any (λ w. is_unknown (form_of (options_of verb) w)) words)
      (λ next. stray_is next words)

pub stray_iff : (verb : Verb) (words : List (List ℕ)) → IsTrue (list_any is_stray (parts (options_of verb) words)) ↔
    ((word : List ℕ) × IsIn word words × (HasForm verb word → ⊥))
stray_iff verb words = (
  λ e. let p = some_member_passes (λ (w : List ℕ). is_unknown (form_of (options_of verb) w)) words
      (sym (stray_is verb None words) ∙ e) in (p.0, p.1, unknown_has_none verb p.0 p.2),
  λ p. stray_is verb None words ∙ list_any-from_member (λ (w : List ℕ). is_unknown (form_of (options_of verb) w)) words
      p.0 p.1 (by_test (is_unknown (form_of (options_of verb) p.0)) (λ e. e)
      (λ e. absurd (p.2 (known_has_form verb p.0 e)))),
)

-- ---- lacking values

module _ (verb : Verb) where
  -- whether no word follows, or one that is not plain
  abbrev none_next : List (List ℕ) → Bool
  none_next [] = true
  none_next (word ∷ words) = not (is_plain (form_of (options_of verb) word))

  abbrev lacks : List (List ℕ) → Bool
  lacks [] = false
  lacks (word ∷ words) = (is_name_alone (form_of (options_of verb) word) && none_next words) || lacks words

  lack_next : (due : Option NumberOption) (f : Form) (word : List ℕ) (rest : Option NumberOption → List Part) (none others : Bool)
      → ((next : Option NumberOption) → list_any is_lacking (rest next) ≡ ((is_some next && none) || others))
      → list_any is_lacking (after due f word rest) ≡ ((is_some due && not (is_plain f)) || ((is_name_alone f && none) || others))
  lack_next None plain word rest none others same = same None
  lack_next None (named s None) word rest none others same = same (Some s)
  lack_next None (named s (Some text)) word rest none others same = same None
  lack_next None flag word rest none others same = same None
  lack_next None unknown word rest none others same = same None
  lack_next (Some d) plain word rest none others same = same None
  lack_next (Some d) (named s None) word rest none others same = refl
  lack_next (Some d) (named s (Some text)) word rest none others same = refl
  lack_next (Some d) flag word rest none others same = refl
  lack_next (Some d) unknown word rest none others same = refl

  lack_is : (due : Option NumberOption) (words : List (List ℕ))
      → list_any is_lacking (parts_from (options_of verb) due words) ≡ ((is_some due && none_next words) || lacks words)
  unfolding parts_from
  lack_is None [] = refl
  lack_is (Some s) [] = refl
  lack_is due (word ∷ words) = lack_next due (form_of (options_of verb) word) word
      (λ next. parts_from (options_of verb) next words) (none_next words) (lacks words) (λ next. lack_is next words)

module _ (verb : Verb) where
  none_follows : (words : List (List ℕ)) → none_next verb words ≡ true → NoValueFollows words
  none_follows [] e = tt
  none_follows (word ∷ words) e = dashed verb word ∙ e

  follows_none : (words : List (List ℕ)) → NoValueFollows words → none_next verb words ≡ true
  follows_none [] n = refl
  follows_none (word ∷ words) n = sym (dashed verb word) ∙ n

  to_lacks : (words : List (List ℕ)) → lacks verb words ≡ true → LacksValue verb words
  to_lacks [] e = absurd (false≢true e)
  to_lacks (word ∷ words) e = by (λ k. later (to_lacks words k)) (is_name_alone (form_of (options_of verb) word)) (none_next verb words) refl refl e where
    later : LacksValue verb words → LacksValue verb (word ∷ words)
    later l = record {
      before = word ∷ l.before;
      option = l.option;
      after = l.after;
      listed = ap (λ ws. word ∷ ws)
          l.listed;
      takes = l.takes;
      none_follows = l.none_follows;
    }

    by : (lacks verb words ≡ true → LacksValue verb (word ∷ words)) → (x y : Bool)
        → is_name_alone (form_of (options_of verb) word) ≡ x → none_next verb words ≡ y
        → ((x && y) || lacks verb words) ≡ true → LacksValue verb (word ∷ words)
    by on true true at n k = record {
      before = [];
      option = word;
      after = words;
      listed = refl;
      takes = taking verb word
          ∙ at;
      none_follows = none_follows words n;
    }
    by on true false at n k = on k
    by on false y at n k = on k

  -- if a list of words lacks a value, it does after more words too
  from_lacks : (before : List (List ℕ)) (option : List ℕ) (rest : List (List ℕ)) → IsTrue (takes_next verb option)
      → NoValueFollows rest → lacks verb (before ++ option ∷ rest) ≡ true
  from_lacks [] option rest takes none =
      ap (λ x. (x && none_next verb rest) || lacks verb rest) (sym (taking verb option) ∙ takes)
      ∙ ap (λ x. x || lacks verb rest) (follows_none rest none)
  from_lacks (word ∷ before) option rest takes none =
      ap (λ x. (is_name_alone (form_of (options_of verb) word) && none_next verb (before ++ option ∷ rest)) || x) (from_lacks before option rest takes none)
      ∙ or_right (is_name_alone (form_of (options_of verb) word) && none_next verb (before ++ option ∷ rest)) true refl

  pub lacks_iff : (words : List (List ℕ)) → IsTrue (list_any is_lacking (parts (options_of verb) words)) ↔ LacksValue verb words
  lacks_iff words = (
    λ e. to_lacks words (sym (lack_is verb None words) ∙ e),
    λ l. lack_is verb None words ∙ ap (lacks verb) l.listed ∙ from_lacks l.before l.option l.after l.takes l.none_follows,
  )

-- ---- operands

module _ (verb : Verb) where
  -- the form of a word tells whether it is an operand, and whether the next one may be a value
  operands_next : (due : Option NumberOption) (f : Form) (word : List ℕ) (rest : Option NumberOption → List Part) (others : Bool → List (List ℕ))
      → ((next : Option NumberOption) → operands (rest next) ≡ others (is_some next))
      → operands (after due f word rest) ≡ cond (not (is_some due) && is_plain f) (word ∷ others (is_name_alone f)) (others (is_name_alone f))
  operands_next None plain word rest others same = ap (λ ws. word ∷ ws) (same None)
  operands_next None (named s None) word rest others same = same (Some s)
  operands_next None (named s (Some text)) word rest others same = same None
  operands_next None flag word rest others same = same None
  operands_next None unknown word rest others same = same None
  operands_next (Some d) plain word rest others same = same None
  operands_next (Some d) (named s None) word rest others same = same (Some s)
  operands_next (Some d) (named s (Some text)) word rest others same = same None
  operands_next (Some d) flag word rest others same = same None
  operands_next (Some d) unknown word rest others same = same None

  -- the operands from a word on; the flag tells whether the word before takes it as its value
  abbrev from_word : Bool → List (List ℕ) → List (List ℕ)
  from_word due [] = []
  from_word due (word ∷ words) = cond (not due && is_plain (form_of (options_of verb) word))
      (word ∷ from_word (is_name_alone (form_of (options_of verb) word)) words)
      (from_word (is_name_alone (form_of (options_of verb) word)) words)

  operands_are : (due : Option NumberOption) (words : List (List ℕ)) → operands (parts_from (options_of verb) due words) ≡ from_word (is_some due) words
  unfolding parts_from
  operands_are None [] = refl
  operands_are (Some s) [] = refl
  operands_are due (word ∷ words) = operands_next due (form_of (options_of verb) word) word
      (λ next. parts_from (options_of verb) next words) (λ next. from_word next words) (λ next. operands_are next words)

  plain_is : (word : List ℕ) → is_plain (form_of (options_of verb) word) ≡ not (begins_with_dash word)
  plain_is word = sym (ap not (dashed verb word) ∙ not-not (is_plain (form_of (options_of verb) word)))

  map_cond : (b : Bool) (p : List ℕ × List ℕ) (ps : List (List ℕ × List ℕ))
      → map (λ (q : List ℕ × List ℕ). q.1) (cond b (p ∷ ps) ps) ≡ cond b (p.1 ∷ map (λ (q : List ℕ × List ℕ). q.1) ps)
      (map (λ (q : List ℕ × List ℕ). q.1) ps)
  map_cond true p ps = refl
  map_cond false p ps = refl

  others_are : (due : Bool) (previous : List ℕ) (words : List (List ℕ)) → takes_next verb previous ≡ due
      → from_word due words ≡ map (λ (p : List ℕ × List ℕ). p.1) (filter (is_other verb) (zip (previous ∷ words) words))
  others_are due previous [] e = refl
  others_are due previous (word ∷ words) e =
      ap (λ x. cond (not due && x) (word ∷ from_word (is_name_alone (form_of (options_of verb) word)) words)
      (from_word (is_name_alone (form_of (options_of verb) word)) words)) (plain_is word)
      ∙ ap (λ x. cond (not x && not (begins_with_dash word))
      (word ∷ from_word (is_name_alone (form_of (options_of verb) word)) words)
      (from_word (is_name_alone (form_of (options_of verb) word)) words)) (sym e)
      ∙ ap (λ ws. cond (is_other verb (previous, word)) (word ∷ ws) ws)
      (others_are (is_name_alone (form_of (options_of verb) word)) word words (taking verb word))
      ∙ sym (map_cond (is_other verb (previous, word)) (previous, word) (filter (is_other verb) (zip (word ∷ words) words)))

  first_is : takes_next verb [] ≡ false
  first_is = and-false (has_numbers verb)

  pub which : (words : List (List ℕ)) → operands (parts (options_of verb) words)
      ≡ map (λ (p : List ℕ × List ℕ). p.1) (filter (is_other verb) (with_previous words))
  which words = operands_are None words ∙ others_are false [] words first_is

  -- each word begins with `-`, is a value, or is neither, and only one of these
  one_kind : (takes dash : Bool) (word : List ℕ) (values others : List (List ℕ × List ℕ)) (p : List ℕ × List ℕ) (dashes : List (List ℕ)) (n : ℕ)
      → length others + (length dashes + length values) ≡ n
      → length (cond (not takes && not dash) (p ∷ others) others) +
      (length (cond dash (word ∷ dashes) dashes) + length (cond (takes && not dash) (p ∷ values) values)) ≡ 1 + n
  one_kind true true word values others p dashes n e = omega (arith, e)
  one_kind true false word values others p dashes n e = omega (arith, e)
  one_kind false true word values others p dashes n e = omega (arith, e)
  one_kind false false word values others p dashes n e = omega (arith, e)

  counted : (previous : List ℕ) (words : List (List ℕ)) → length
      (filter (is_other verb) (zip (previous ∷ words) words)) +
      (length (filter begins_with_dash words) + length (filter (is_value verb) (zip (previous ∷ words) words)))
      ≡ length words
  counted previous [] = refl
  counted previous (word ∷ words) =
      let rest = counted word words in
      let one = one_kind (takes_next verb previous) (begins_with_dash word) word
      (filter (is_value verb) (zip (word ∷ words) words)) (filter (is_other verb) (zip (word ∷ words) words))
      (previous, word) (filter begins_with_dash words) (length words) rest in
      one ∙ omega arith

  length_map : (ps : List (List ℕ × List ℕ)) → length (map (λ (p : List ℕ × List ℕ). p.1) ps) ≡ length ps
  length_map [] = refl
  length_map (p ∷ ps) = omega (arith, length_map ps)

  pub count : (words : List (List ℕ)) → length (operands (parts (options_of verb) words)) +
      (length (filter begins_with_dash words) + length (filter (is_value verb) (with_previous words))) ≡ length words
  count words =
      let many : length (operands (parts (options_of verb) words)) ≡ length
      (filter (is_other verb) (with_previous words)) = ap length (which words)
      ∙ length_map (filter (is_other verb) (with_previous words)) in
      let all = counted [] words in
      omega (arith, many, all)
