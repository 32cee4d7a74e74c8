-- The texts of options with a number, from the words that give them.
use Rattle.std.proofs.Common.{◌≡◌, ℕ, Bool, true, false, cond, List, [], ◌∷◌, ◌++◌, ◌⊎◌, ◌↔◌, ◌==◌, inl, inr, Option}
use Rattle.std.proofs.Common.{Some, None, drop, codes, refl, sym, ap, ◌∙◌, subst, eq-eqb}
use Rattle.std.proofs.lemmas.Bool.{false≢true}
use Rattle.std.specs.List.{zip}
use Rattle.std.specs.Str.{bytes_eq}
use Rattle.ptg_base.specs.Lists.{IsIn}
use Rattle.ptg_words.specs.Parts.{Form, NumberOption, Part, after, flag, form_of, is_of, named, parts, parts_from, plain, shards, texts_of, unknown, workers}
use Rattle.ptg_words.specs.declared.verbs.Verb.{Verb}
use Rattle.ptg_words.specs.Words.{options_of}
use Rattle.word_laws.specs.Forms.{HasForm, begins_with_dash, has_numbers, shards_alone, shards_with, with_previous, workers_alone, workers_with}
use Rattle.word_laws.proofs.Forms.{Says, says}
use Rattle.list_lemmas.proofs.Members.{IsIn-append_left, IsIn-append_right, from_append}

-- an option with a number, alone and with a text
abbrev pub alone : NumberOption → List ℕ
alone workers = codes "--workers"
alone shards = codes "--shards"

abbrev pub with_text : NumberOption → List ℕ → List ℕ
with_text workers text = codes "--workers=" ++ text
with_text shards text = codes "--shards=" ++ text

-- the option that takes the word after one of this form, if there is one
abbrev next_due : Form → Option NumberOption
next_due (named s None) = Some s
next_due _ = None

abbrev one_if : Bool → List ℕ → List (List ℕ)
one_if b text = cond b (text ∷ []) []

one_more : (b : Bool) (text : List ℕ) (rest : List (List ℕ)) → cond b (text ∷ rest) rest ≡ one_if b text ++ rest
one_more true text rest = refl
one_more false text rest = refl

same_option : (s t : NumberOption) → is_of s t ≡ true → t ≡ s
same_option workers workers e = refl
same_option workers shards e = absurd (false≢true e)
same_option shards workers e = absurd (false≢true e)
same_option shards shards e = refl

of_itself : (s : NumberOption) → is_of s s ≡ true
of_itself workers = refl
of_itself shards = refl

-- a member of `one_if b x` is x, and b holds
only : (b : Bool) (x text : List ℕ) → IsIn text (one_if b x) → (b ≡ true) × (text ≡ x)
only true x text i = elim i [ inl e ↦ (refl, e) | inr none ↦ absurd none ]
only false x text i = absurd i

module _ (verb : Verb) (s : NumberOption) where
  -- the texts that a word gives by itself, or as the value of the word before it
  abbrev own : Option NumberOption → Form → List ℕ → List (List ℕ)
  own None plain word = []
  own (Some d) plain word = one_if (is_of s d) word
  own due (named d None) word = []
  own due (named d (Some text)) word = one_if (is_of s d) text
  own due flag word = []
  own due unknown word = []

  texts_next : (due : Option NumberOption) (f : Form) (word : List ℕ) (rest : Option NumberOption → List Part)
      → texts_of s (after due f word rest) ≡ own due f word ++ texts_of s (rest (next_due f))
  texts_next None plain word rest = refl
  texts_next None (named d None) word rest = refl
  texts_next None (named d (Some text)) word rest = one_more (is_of s d) text (texts_of s (rest None))
  texts_next None flag word rest = refl
  texts_next None unknown word rest = refl
  texts_next (Some e) plain word rest = one_more (is_of s e) word (texts_of s (rest None))
  texts_next (Some e) (named d None) word rest = refl
  texts_next (Some e) (named d (Some text)) word rest = one_more (is_of s d) text (texts_of s (rest None))
  texts_next (Some e) flag word rest = refl
  texts_next (Some e) unknown word rest = refl

  abbrev form : List ℕ → Form
  form word = form_of (options_of verb) word

  abbrev all_texts : Option NumberOption → List (List ℕ) → List (List ℕ)
  all_texts due [] = []
  all_texts due (word ∷ words) = own due (form word) word ++ all_texts (next_due (form word)) words

  texts_are : (due : Option NumberOption) (words : List (List ℕ)) → texts_of s (parts_from (options_of verb) due words) ≡ all_texts due words
  unfolding parts_from
  texts_are None [] = refl
  texts_are (Some d) [] = refl
  texts_are due (word ∷ words) =
      texts_next due (form word) word (λ next. parts_from (options_of verb) next words)
      ∙ ap (λ ts. own due (form word) word ++ ts) (texts_are (next_due (form word)) words)

  -- what the word is if it takes the next one
  due_is : (word : List ℕ) (f : Form) → Says verb word f → (d : NumberOption) → next_due f ≡ Some d → (has_numbers verb ≡ true) × (word ≡ alone d)
  due_is word plain says_it d e = absurd cc
  due_is word (named workers None) says_it d e = let same : workers ≡ d = cc in (says_it.0, says_it.1 ∙ ap alone same)
  due_is word (named shards None) says_it d e = let same : shards ≡ d = cc in (says_it.0, says_it.1 ∙ ap alone same)
  due_is word (named t (Some text)) says_it d e = absurd cc
  due_is word flag says_it d e = absurd cc
  due_is word unknown says_it d e = absurd cc

  text_is : (word : List ℕ) (d : NumberOption) (text : List ℕ) → Says verb word (named d (Some text)) → (has_numbers verb ≡ true) × (word ≡ with_text d text)
  text_is word workers text says_it = (says_it.0, says_it.1)
  text_is word shards text says_it = (says_it.0, says_it.1)

  -- a word's third character tells the options apart
  abbrev third : List ℕ → ℕ
  third (a ∷ b ∷ c ∷ rest) = c
  third _ = 0

  apart : {P : Type 0} (m n : ℕ) → (m == n) ≡ false → (word : List ℕ) → third word ≡ m → third word ≡ n → P
  apart m n ne word e f = absurd (false≢true (sym ne ∙ eq-eqb m n (sym e ∙ f)))

  ends_there : {P : Type 0} (t : NumberOption) (word text : List ℕ) → word ≡ alone t → word ≡ with_text t text → P
  ends_there workers word text e f = absurd (false≢true (ap (λ w. bytes_eq w (codes "--workers")) (sym f ∙ e)))
  ends_there shards word text e f = absurd (false≢true (ap (λ w. bytes_eq w (codes "--shards")) (sym f ∙ e)))

  alone_form : (t : NumberOption) (word : List ℕ) (f : Form) → Says verb word f → HasForm verb word → word ≡ alone t → f ≡ named t None
  alone_form workers word plain it has e = absurd (false≢true (sym it ∙ ap begins_with_dash e))
  alone_form workers word (named workers None) it has e = refl
  alone_form workers word (named workers (Some text)) it has e = ends_there workers word text e it.1
  alone_form workers word (named shards None) it has e = apart 119 115 refl word (ap third e) (ap third it.1)
  alone_form workers word (named shards (Some text)) it has e = apart 119 115 refl word (ap third e) (ap third it.1)
  alone_form workers word flag it has e = apart 119 112 refl word (ap third e) (ap third it.1)
  alone_form workers word unknown it has e = absurd (it.1 has)
  alone_form shards word plain it has e = absurd (false≢true (sym it ∙ ap begins_with_dash e))
  alone_form shards word (named shards None) it has e = refl
  alone_form shards word (named shards (Some text)) it has e = ends_there shards word text e it.1
  alone_form shards word (named workers None) it has e = apart 115 119 refl word (ap third e) (ap third it.1)
  alone_form shards word (named workers (Some text)) it has e = apart 115 119 refl word (ap third e) (ap third it.1)
  alone_form shards word flag it has e = apart 115 112 refl word (ap third e) (ap third it.1)
  alone_form shards word unknown it has e = absurd (it.1 has)

  text_form : (t : NumberOption) (word text : List ℕ) (f : Form) → Says verb word f → HasForm verb word → word ≡ with_text t text → f ≡ named t (Some text)
  text_form workers word text plain it has e = absurd (false≢true (sym it ∙ ap begins_with_dash e))
  text_form workers word text (named workers None) it has e = ends_there workers word text it.1 e
  text_form workers word text (named workers (Some other)) it has e = ap (λ z. named workers (Some z)) (ap (drop 10) (sym it.1 ∙ e))
  text_form workers word text (named shards None) it has e = apart 119 115 refl word (ap third e) (ap third it.1)
  text_form workers word text (named shards (Some other)) it has e = apart 119 115 refl word (ap third e) (ap third it.1)
  text_form workers word text flag it has e = apart 119 112 refl word (ap third e) (ap third it.1)
  text_form workers word text unknown it has e = absurd (it.1 has)
  text_form shards word text plain it has e = absurd (false≢true (sym it ∙ ap begins_with_dash e))
  text_form shards word text (named shards None) it has e = ends_there shards word text it.1 e
  text_form shards word text (named shards (Some other)) it has e = ap (λ z. named shards (Some z)) (ap (drop 9) (sym it.1 ∙ e))
  text_form shards word text (named workers None) it has e = apart 115 119 refl word (ap third e) (ap third it.1)
  text_form shards word text (named workers (Some other)) it has e = apart 115 119 refl word (ap third e) (ap third it.1)
  text_form shards word text flag it has e = apart 115 112 refl word (ap third e) (ap third it.1)
  text_form shards word text unknown it has e = absurd (it.1 has)

  alone_has : (t : NumberOption) (word : List ℕ) → has_numbers verb ≡ true → word ≡ alone t → HasForm verb word
  alone_has workers word has e = workers_alone has e
  alone_has shards word has e = shards_alone has e

  text_has : (t : NumberOption) (word text : List ℕ) → has_numbers verb ≡ true → word ≡ with_text t text → HasForm verb word
  text_has workers word text has e = workers_with text has e
  text_has shards word text has e = shards_with text has e

  plain_form : (word : List ℕ) (f : Form) → Says verb word f → begins_with_dash word ≡ false → f ≡ plain
  plain_form word plain it e = refl
  plain_form word (named workers None) it e = absurd (false≢true (sym e ∙ ap begins_with_dash it.1))
  plain_form word (named workers (Some text)) it e = absurd (false≢true (sym e ∙ ap begins_with_dash it.1))
  plain_form word (named shards None) it e = absurd (false≢true (sym e ∙ ap begins_with_dash it.1))
  plain_form word (named shards (Some text)) it e = absurd (false≢true (sym e ∙ ap begins_with_dash it.1))
  plain_form word flag it e = absurd (false≢true (sym e ∙ ap begins_with_dash it.1))
  plain_form word unknown it e = absurd (false≢true (sym e ∙ it.0))

  -- a text is given by these words, the first of which follows `previous`
  abbrev Given : List ℕ → List (List ℕ) → List ℕ → Type 0
  Given previous words text =
      (has_numbers verb ≡ true) × (IsIn (with_text s text) words ⊎ (IsIn (alone s, text) (zip (previous ∷ words) words) × (begins_with_dash text ≡ false)))

  later : (previous word : List ℕ) (words : List (List ℕ)) (text : List ℕ) → Given word words text → Given previous (word ∷ words) text
  later previous word words text g = (g.0, elim g.1 [ inl i ↦ inl (inr i) | inr p ↦ inr (inr p.0, p.1) ])

  by_text : (previous word : List ℕ) (words : List (List ℕ)) (text : List ℕ) (d : NumberOption) (given : List ℕ)
      → Says verb word (named d (Some given)) → IsIn text (one_if (is_of s d) given)
      → Given previous (word ∷ words) text
  by_text previous word words text d given it i =
      let o = only (is_of s d) given text i in
      let p = text_is word d given it in
      let is : with_text s text ≡ word = ap (with_text s) o.1 ∙ sym (p.1 ∙ ap (λ t. with_text t given) (same_option s d o.0)) in
      (p.0, inl (inl is))

  by_own : (previous word : List ℕ) (words : List (List ℕ)) (text : List ℕ) (due : Option NumberOption) (f : Form)
      → next_due (form previous) ≡ due → Says verb word f → IsIn text (own due f word)
      → Given previous (word ∷ words) text
  by_own previous word words text None plain at it i = absurd i
  by_own previous word words text (Some d) plain at it i =
      let o = only (is_of s d) word text i in
      let p = due_is previous (form previous) (says verb previous) d at in
      let is : alone s ≡ previous = sym (p.1 ∙ ap alone (same_option s d o.0)) in
      (p.0, inr (inl (λ k. (is k, o.1 k)), ap begins_with_dash o.1 ∙ it))
  by_own previous word words text None (named d None) at it i = absurd i
  by_own previous word words text (Some e) (named d None) at it i = absurd i
  by_own previous word words text None (named d (Some given)) at it i = by_text previous word words text d given it i
  by_own previous word words text (Some e) (named d (Some given)) at it i = by_text previous word words text d given it i
  by_own previous word words text None flag at it i = absurd i
  by_own previous word words text (Some e) flag at it i = absurd i
  by_own previous word words text None unknown at it i = absurd i
  by_own previous word words text (Some e) unknown at it i = absurd i

  to_given : (previous : List ℕ) (words : List (List ℕ)) (text : List ℕ) → IsIn text (all_texts (next_due (form previous)) words) → Given previous words text
  to_given previous [] text i = absurd i
  to_given previous (word ∷ words) text i = elim (from_append text (own (next_due (form previous)) (form word) word)
      (all_texts (next_due (form word)) words) i) [
        | inl own_one ↦ by_own previous word words text (next_due (form previous)) (form word) refl (says verb word) own_one
        | inr rest ↦ later previous word words text (to_given word words text rest)
      ]

  own_text : (due : Option NumberOption) (word text : List ℕ) (f : Form) → f ≡ named s (Some text) → IsIn text (own due f word)
  own_text None word text f e = subst (λ g. IsIn text (own None g word)) (sym e) (subst (λ b. IsIn text (one_if b text)) (sym (of_itself s)) (inl refl))
  own_text (Some d) word text f e = subst (λ g. IsIn text (own (Some d) g word)) (sym e) (subst (λ b. IsIn text (one_if b text)) (sym (of_itself s)) (inl refl))

  own_value : (due : Option NumberOption) (word : List ℕ) (f : Form) → due ≡ Some s → f ≡ plain → IsIn word (own due f word)
  own_value due word f d e =
      subst (λ u. IsIn word (own u f word)) (sym d) (subst (λ g. IsIn word (own (Some s) g word)) (sym e)
      (subst (λ b. IsIn word (one_if b word)) (sym (of_itself s)) (inl refl)))

  from_given : (previous : List ℕ) (words : List (List ℕ)) (text : List ℕ) → Given previous words text → IsIn text (all_texts (next_due (form previous)) words)
  from_given previous [] text g = elim g.1 [ inl i ↦ absurd i | inr p ↦ absurd p.0 ]
  from_given previous (word ∷ words) text g = elim g.1 [
    | inl i ↦ elim i [
      | inl e ↦ IsIn-append_left text (own (next_due (form previous)) (form word) word) (all_texts (next_due (form word)) words)
          (own_text (next_due (form previous)) word text (form word)
          (text_form s word text (form word) (says verb word) (text_has s word text g.0 (sym e)) (sym e)))
      | inr rest ↦ IsIn-append_right text (own (next_due (form previous)) (form word) word)
          (all_texts (next_due (form word)) words) (from_given word words text (g.0, inl rest))
    ]
    | inr p ↦ elim p.0 [
      | inl e ↦
          let before : alone s ≡ previous = ap (λ (q : List ℕ × List ℕ). q.0) e in
          let is : text ≡ word = ap (λ (q : List ℕ × List ℕ). q.1) e in
          let named_it = alone_form s previous (form previous) (says verb previous) (alone_has s previous g.0 (sym before)) (sym before) in
          let plain_it = plain_form word (form word) (says verb word) (ap begins_with_dash (sym is) ∙ p.1) in
          IsIn-append_left text (own (next_due (form previous)) (form word) word) (all_texts (next_due (form word)) words)
          (subst (λ z. IsIn z (own (next_due (form previous)) (form word) word)) (sym is)
          (own_value (next_due (form previous)) word (form word) (ap next_due named_it) plain_it))
      | inr rest ↦ IsIn-append_right text (own (next_due (form previous)) (form word) word)
          (all_texts (next_due (form word)) words) (from_given word words text (g.0, inr (rest, p.1)))
    ]
  ]

  pub given_iff : (words : List (List ℕ)) (text : List ℕ) → IsIn text (texts_of s (parts (options_of verb) words)) ↔ Given [] words text
  given_iff words text = (
    λ i. to_given [] words text (subst (IsIn text) (texts_are None words) i),
    λ g. subst (IsIn text) (sym (texts_are None words)) (from_given [] words text g),
  )

pub texts_iff : (verb : Verb) (s : NumberOption) (words : List (List ℕ)) (text : List ℕ)
    → IsIn text (texts_of s (parts (options_of verb) words)) ↔
    ((has_numbers verb ≡ true) × (IsIn (with_text s text) words
    ⊎ (IsIn (alone s, text) (with_previous words) × (begins_with_dash text ≡ false))))
texts_iff verb s words text = given_iff verb s words text
