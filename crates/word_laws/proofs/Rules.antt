-- The rules that arguments break, stated for the words themselves.
use Rattle.std.proofs.Common.{◌≡◌, ◌≢◌, ℕ, Bool, true, false, not, ◌==◌, List, ◌∷◌, ◌↔◌, inl, inr, length, Some, None, option_map, sym, ap, ◌∙◌, eq-eqb, ne_eqb}
use Rattle.std.proofs.lemmas.Bool.{false≢true, or_cases, or_left, or_right, not-true}
use Rattle.std.specs.List.{list_any}
use Rattle.std.specs.Option.{option_map_or}
use Rattle.ptg_base.specs.Lists.{IsIn}
use Rattle.list_lemmas.proofs.Members.{some_member_passes, list_any-from_member}
use Rattle.ptg_words.specs.Parts.{Part, has_twice, is_lacking, is_stray, operands, parts, shards, texts_of, workers}
use Rattle.ptg_words.specs.declared.verbs.Verb.{Verb}
use Rattle.ptg_words.specs.Words.{Breaks, IsUsage, bad_number, has_bad_count, has_bad_number, has_bad_operand}
use Rattle.ptg_words.specs.Words.{has_no_number, has_wrong_count, improper_word, is_number, lacking_number, no_verb}
use Rattle.ptg_words.specs.Words.{operand_count, operands_differ, operands_of, option_twice, options_of, read}
use Rattle.ptg_words.specs.Words.{stray_word, verb_of}
use Rattle.word_laws.specs.Rules.{BreaksRule, bad_operand, bad_shards, bad_workers, improper, no_form, no_value}
use Rattle.word_laws.specs.Rules.{other_words, preload_twice, shards_twice, workers_twice, wrong_count}
use Rattle.word_laws.proofs.Reading.{lacks_iff, stray_iff, which}
use Rattle.word_laws.proofs.Texts.{texts_iff}
use Rattle.word_laws.proofs.Twice.{twice_iff}

pub no_read : (first : List ℕ) (words : List (List ℕ)) → verb_of first ≡ None → IsUsage (first ∷ words)
no_read first words e = no_verb (ap (option_map (λ verb. (verb, parts (options_of verb) words))) e)

module _ (verb : Verb) (first : List ℕ) (words : List (List ℕ)) (verb_is : verb_of first ≡ Some verb) where
  abbrev ps : List Part
  ps = parts (options_of verb) words

  reads : read (first ∷ words) ≡ Some (verb, ps)
  reads = ap (option_map (λ v. (v, parts (options_of v) words))) verb_is

  by_parts : (rule : Verb → List Part → Bool) → Breaks rule (first ∷ words) → rule verb ps ≡ true
  by_parts rule h = sym (ap (λ o. option_map_or (λ (r : Verb × List Part). rule r.0 r.1) o false) reads) ∙ h

  to_rule : (rule : Verb → List Part → Bool) → rule verb ps ≡ true → Breaks rule (first ∷ words)
  to_rule rule h = ap (λ o. option_map_or (λ (r : Verb × List Part). rule r.0 r.1) o false) reads ∙ h

  some : read (first ∷ words) ≡ None → ⊥
  some e = let s = reads in cc

  others : operands ps ≡ other_words verb words
  others = which verb words

  -- the count of operands
  count_differs : has_wrong_count verb ps ≡ true → length (other_words verb words) ≢ operand_count verb
  count_differs h same =
      let is : (length (operands ps) == operand_count verb) ≡ true = eq-eqb (length (operands ps)) (operand_count verb) (ap length others ∙ same) in
      false≢true (sym (not-true (length (operands ps) == operand_count verb) h) ∙ is)

  differs_count : length (other_words verb words) ≢ operand_count verb → has_wrong_count verb ps ≡ true
  differs_count ne = ap not (ne_eqb (length (operands ps)) (operand_count verb) (λ e. ne (sym (ap length others) ∙ e)))

  -- numbers
  bad_text : (least most : ℕ) (texts : List (List ℕ)) → has_no_number least most texts ≡ true
      → (text : List ℕ) × IsIn text texts × (is_number least most text ≡ false)
  bad_text least most texts e = let p = some_member_passes (λ (text : List ℕ). not (is_number least most text)) texts
      e in (p.0, p.1, not-true (is_number least most p.0) p.2)

  text_bad : (least most : ℕ) (texts : List (List ℕ)) (text : List ℕ) → IsIn text texts
      → is_number least most text ≡ false → has_no_number least most texts ≡ true
  text_bad least most texts text among e = list_any-from_member (λ (t : List ℕ). not (is_number least most t)) texts text among (ap not e)

  from_number : has_bad_number verb ps ≡ true → BreaksRule verb first words
  from_number h = elim (or_cases (has_bad_count ps) (has_bad_operand (operands_of verb) (operands ps)) h) [
    | inl counts ↦ elim (or_cases (has_no_number 1 64 (texts_of workers ps)) (has_no_number 1 256 (texts_of shards ps)) counts) [
      | inl w ↦ let p = bad_text 1 64 (texts_of workers ps) w in bad_workers p.0 ((texts_iff verb workers words p.0).0 p.1) p.2
      | inr s ↦ let p = bad_text 1 256 (texts_of shards ps) s in bad_shards p.0 ((texts_iff verb shards words p.0).0 p.1) p.2
    ]
    | inr o ↦ bad_operand (sym (ap (has_bad_operand (operands_of verb)) others) ∙ o)
  ]

  to_words : IsUsage (first ∷ words) → BreaksRule verb first words
  to_words (no_verb h) = absurd (some h)
  to_words (improper_word h) = improper h
  to_words (stray_word h) = let p = (stray_iff verb words).0 (by_parts (λ v ps. list_any is_stray ps) h) in no_form p.0 p.1 p.2
  to_words (lacking_number h) = no_value ((lacks_iff verb words).0 (by_parts (λ v ps. list_any is_lacking ps) h))
  to_words (option_twice h) = elim ((twice_iff verb words).0 (by_parts (λ v ps. has_twice ps) h)) [
    | inl w ↦ workers_twice w
    | inr r ↦ elim r [ inl s ↦ shards_twice s | inr p ↦ preload_twice p ]
  ]
  to_words (operands_differ h) = wrong_count (count_differs (by_parts has_wrong_count h))
  to_words (bad_number h) = from_number (by_parts has_bad_number h)

  from_words : BreaksRule verb first words → IsUsage (first ∷ words)
  from_words (improper h) = improper_word h
  from_words (no_form word among none) = stray_word (to_rule (λ v ps. list_any is_stray ps) ((stray_iff verb words).1 (word, among, none)))
  from_words (no_value h) = lacking_number (to_rule (λ v ps. list_any is_lacking ps) ((lacks_iff verb words).1 h))
  from_words (workers_twice h) = option_twice (to_rule (λ v ps. has_twice ps) ((twice_iff verb words).1 (inl h)))
  from_words (shards_twice h) = option_twice (to_rule (λ v ps. has_twice ps) ((twice_iff verb words).1 (inr (inl h))))
  from_words (preload_twice h) = option_twice (to_rule (λ v ps. has_twice ps) ((twice_iff verb words).1 (inr (inr h))))
  from_words (wrong_count ne) = operands_differ (to_rule has_wrong_count (differs_count ne))
  from_words (bad_workers text given e) =
      bad_number (to_rule has_bad_number (or_left (has_bad_count ps) (has_bad_operand (operands_of verb) (operands ps))
      (or_left (has_no_number 1 64 (texts_of workers ps)) (has_no_number 1 256 (texts_of shards ps))
      (text_bad 1 64 (texts_of workers ps) text ((texts_iff verb workers words text).1 given) e))))
  from_words (bad_shards text given e) =
      bad_number (to_rule has_bad_number (or_left (has_bad_count ps) (has_bad_operand (operands_of verb) (operands ps))
      (or_right (has_no_number 1 64 (texts_of workers ps)) (has_no_number 1 256 (texts_of shards ps))
      (text_bad 1 256 (texts_of shards ps) text ((texts_iff verb shards words text).1 given) e))))
  from_words (bad_operand e) =
      bad_number (to_rule has_bad_number (or_right (has_bad_count ps) (has_bad_operand (operands_of verb) (operands ps))
      (ap (has_bad_operand (operands_of verb)) others ∙ e)))

pub rules_iff : (verb : Verb) (first : List ℕ) (words : List (List ℕ)) → verb_of first ≡ Some verb → IsUsage (first ∷ words) ↔ BreaksRule verb first words
rules_iff verb first words e = (to_words verb first words e, from_words verb first words e)
