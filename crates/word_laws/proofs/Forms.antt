-- What a word is, from its form.
use Rattle.std.proofs.Common.{◌≡◌, ℕ, Bool, true, false, not, ◌==◌, ◌&&◌, ◌||◌, List, [], ◌∷◌, ◌++◌, ◌⊎◌, inl, inr}
use Rattle.std.proofs.Common.{Option, Some, None, is_some, codes, refl, sym, ap, ◌∙◌, subst, eq-eqb}
use Rattle.std.proofs.lemmas.Bool.{eqb-true, false_from_ne_true, false≢true, and_parts, and_from}
use Rattle.std.proofs.lemmas.Slice.Eq.{bytes_eq-Decides}
use Rattle.std.specs.List.{before_first}
use Rattle.std.specs.Str.{bytes_eq}
use Rattle.std.specs.Prelude.{if◌then◌else◌}
use Rattle.ptg_words.specs.Parts.{Form, NumberOption, dashed_form, flag, form_of, has_counts, has_preload, named}
use Rattle.ptg_words.specs.Parts.{option_named, plain, shards, text_after, unknown, workers}
use Rattle.ptg_words.specs.declared.verbs.Verb.{Verb}
use Rattle.ptg_words.specs.declared.verbs.Verb.TheVariants.{Run, Show, Check, Demo, Trace, Replay, Certify, Ranks}
use Rattle.ptg_words.specs.Words.{options_of}
use Rattle.word_laws.specs.Forms.{HasForm, begins_with_dash, has_flag, has_numbers, operand_or_value, preload_alone}
use Rattle.word_laws.specs.Forms.{shards_alone, shards_with, takes_next, workers_alone, workers_with}
use Rattle.word_laws.proofs.Cutting.{cut}
use Rattle.list_lemmas.proofs.Truth.{and-false}

pub counts_are : (verb : Verb) → has_counts (options_of verb) ≡ has_numbers verb
counts_are Run = refl
counts_are Show = refl
counts_are Check = refl
counts_are Demo = refl
counts_are Trace = refl
counts_are Replay = refl
counts_are Certify = refl
counts_are Ranks = refl

pub flags_are : (verb : Verb) → has_preload (options_of verb) ≡ has_flag verb
flags_are Run = refl
flags_are Show = refl
flags_are Check = refl
flags_are Demo = refl
flags_are Trace = refl
flags_are Replay = refl
flags_are Certify = refl
flags_are Ranks = refl

-- what the word is if it has this form
abbrev pub Says : Verb → List ℕ → Form → Type 0
Says verb word plain = begins_with_dash word ≡ false
Says verb word (named workers None) = (has_numbers verb ≡ true) × (word ≡ codes "--workers")
Says verb word (named workers (Some text)) = (has_numbers verb ≡ true) × (word ≡ codes "--workers=" ++ text)
Says verb word (named shards None) = (has_numbers verb ≡ true) × (word ≡ codes "--shards")
Says verb word (named shards (Some text)) = (has_numbers verb ≡ true) × (word ≡ codes "--shards=" ++ text)
Says verb word flag = (has_flag verb ≡ true) × (word ≡ codes "--preload")
Says verb word unknown = (begins_with_dash word ≡ true) × (HasForm verb word → ⊥)

dash : (b : ℕ) (w : List ℕ) → (b == 45) ≡ true → begins_with_dash (b ∷ w) ≡ true
dash b w e = (bytes_eq-Decides (b ∷ []) (codes "-")).1 (ap (λ x. x ∷ []) (eqb-true b 45 e))

same_head : (b : ℕ) → b ∷ [] ≡ codes "-" → b ≡ 45
same_head b e = cc

no_dash : (b : ℕ) (w : List ℕ) → (b == 45) ≡ false → begins_with_dash (b ∷ w) ≡ false
no_dash b w e =
    false_from_ne_true (bytes_eq (b ∷ []) (codes "-"))
    (λ k. false≢true (sym e ∙ eq-eqb b 45 (same_head b ((bytes_eq-Decides (b ∷ []) (codes "-")).0 k))))

clash : {P : Type 0} (b : Bool) → b ≡ true → b ≡ false → P
clash b e f = absurd (false≢true (sym f ∙ e))

-- what follows `--` is an option of the verb
abbrev IsOption : Verb → List ℕ → Type 0
IsOption verb v =
    ((has_numbers verb ≡ true) × (before_first (λ b. b == 61) v ≡ codes "workers"))
    ⊎ (((has_numbers verb ≡ true) × (before_first (λ b. b == 61) v ≡ codes "shards"))
    ⊎ ((has_flag verb ≡ true) × (before_first (λ b. b == 61) v ≡ codes "preload") × (text_after v ≡ None)))

no_text : (o : Option (List ℕ)) → not (is_some o) ≡ true → o ≡ None
no_text None e = refl
no_text (Some t) e = absurd (false≢true e)

module _ (verb : Verb) where
  known_form : (word : List ℕ) → HasForm verb word → begins_with_dash word ≡ true → (v : List ℕ) × (word ≡ 45 ∷ 45 ∷ v) × IsOption verb v
  known_form word (operand_or_value e) h = clash (begins_with_dash word) h e
  known_form word (workers_alone has e) h = (codes "workers", e, inl (has, refl))
  known_form word (shards_alone has e) h = (codes "shards", e, inr (inl (has, refl)))
  known_form word (workers_with text has e) h = (codes "workers=" ++ text, e, inl (has, refl))
  known_form word (shards_with text has e) h = (codes "shards=" ++ text, e, inr (inl (has, refl)))
  known_form word (preload_alone has e) h = (codes "preload", e, inr (inr (has, refl, refl)))

  short : (b : ℕ) → (b == 45) ≡ true → HasForm verb (b ∷ []) → ⊥
  short b e has = let k = known_form (b ∷ []) has (dash b [] e) in let is = k.1 in absurd cc

  one_dash : (b c : ℕ) (v : List ℕ) → (b == 45) ≡ true → (c == 45) ≡ false → HasForm verb (b ∷ c ∷ v) → ⊥
  one_dash b c v e f has =
      let k = known_form (b ∷ c ∷ v) has (dash b (c ∷ v) e) in
      let is = k.1 in
      let second : c ≡ 45 = cc in
      false≢true (sym f ∙ eq-eqb c 45 second)

  -- the word that has these bytes after `--`
  module _ (b c : ℕ) (v : List ℕ) (e : (b == 45) ≡ true) (f : (c == 45) ≡ true) where
    begins : b ∷ c ∷ v ≡ 45 ∷ 45 ∷ v
    begins = ap (λ x. x ∷ c ∷ v) (eqb-true b 45 e) ∙ ap (λ x. 45 ∷ x ∷ v) (eqb-true c 45 f)

    of_workers : has_numbers verb ≡ true → before_first (λ x. x == 61) v ≡ codes "workers" → Says verb (b ∷ c ∷ v) (named workers (text_after v))
    of_workers has at = elim (cut v) [
      | inl p ↦ subst (λ o. Says verb (b ∷ c ∷ v) (named workers o)) (sym p.after)
          (has, begins ∙ ap (λ l. 45 ∷ 45 ∷ l) (p.is ∙ ap (λ n. n ++ 61 ∷ p.text) (sym p.before ∙ at)))
      | inr p ↦ subst (λ o. Says verb (b ∷ c ∷ v) (named workers o)) (sym p.after)
          (has, begins ∙ ap (λ l. 45 ∷ 45 ∷ l) (sym p.before ∙ at))
    ]

    of_shards : has_numbers verb ≡ true → before_first (λ x. x == 61) v ≡ codes "shards" → Says verb (b ∷ c ∷ v) (named shards (text_after v))
    of_shards has at = elim (cut v) [
      | inl p ↦ subst (λ o. Says verb (b ∷ c ∷ v) (named shards o)) (sym p.after)
          (has, begins ∙ ap (λ l. 45 ∷ 45 ∷ l) (p.is ∙ ap (λ n. n ++ 61 ∷ p.text) (sym p.before ∙ at)))
      | inr p ↦ subst (λ o. Says verb (b ∷ c ∷ v) (named shards o)) (sym p.after)
          (has, begins ∙ ap (λ l. 45 ∷ 45 ∷ l) (sym p.before ∙ at))
    ]

    of_preload : has_flag verb ≡ true → before_first (λ x. x == 61) v ≡ codes "preload" → text_after v ≡ None → Says verb (b ∷ c ∷ v) flag
    of_preload has at none = elim (cut v) [
      | inl p ↦ let some = p.after in absurd cc
      | inr p ↦ (has, begins ∙ ap (λ l. 45 ∷ 45 ∷ l) (sym p.before ∙ at))
    ]

    name_is : (name : List ℕ) → bytes_eq name (before_first (λ x. x == 61) v) ≡ true → before_first (λ x. x == 61) v ≡ name
    name_is name k = sym ((bytes_eq-Decides name (before_first (λ x. x == 61) v)).0 k)

    is_name : (name : List ℕ) → before_first (λ x. x == 61) v ≡ name → bytes_eq name (before_first (λ x. x == 61) v) ≡ true
    is_name name at = (bytes_eq-Decides name (before_first (λ x. x == 61) v)).1 (sym at)

    abbrev tests : NumberOption → Bool
    tests workers = has_counts (options_of verb) && bytes_eq (codes "workers") (before_first (λ x. x == 61) v)
    tests shards = has_counts (options_of verb) && bytes_eq (codes "shards") (before_first (λ x. x == 61) v)

    abbrev tests_flag : Bool
    tests_flag = has_preload (options_of verb) && (bytes_eq (codes "preload") (before_first (λ x. x == 61) v) && not (is_some (text_after v)))

    none_of_these : tests workers ≡ false → tests shards ≡ false → tests_flag ≡ false → HasForm verb (b ∷ c ∷ v) → ⊥
    none_of_these no_workers no_shards no_flag has =
        let k = known_form (b ∷ c ∷ v) has (dash b (c ∷ v) e) in
        let is = k.1 in
        let same : k.0 ≡ v = cc in
        elim (subst (IsOption verb) same k.2) [
          | inl p ↦ clash (tests workers) (and_from (has_counts (options_of verb)) _ (counts_are verb ∙ p.0) (is_name (codes "workers") p.1)) no_workers
          | inr q ↦ elim q [
            | inl p ↦ clash (tests shards) (and_from (has_counts (options_of verb)) _ (counts_are verb ∙ p.0) (is_name (codes "shards") p.1)) no_shards
            | inr p ↦ clash tests_flag (and_from (has_preload (options_of verb)) _ (flags_are verb ∙ p.0)
                (and_from (bytes_eq (codes "preload") (before_first (λ x. x == 61) v)) _ (is_name (codes "preload") p.1)
                (ap (λ o. not (is_some o)) p.2))) no_flag
          ]
        ]

    option_says : (x y z : Bool) → tests workers ≡ x → tests shards ≡ y → tests_flag ≡ z
        → Says verb (b ∷ c ∷ v) (if x then named workers (text_after v) else if y then named shards (text_after v) else if z then flag else unknown)
    option_says true y z p q r = let k = and_parts (has_counts (options_of verb)) _ p in of_workers
        (sym (counts_are verb) ∙ k.0) (name_is (codes "workers") k.1)
    option_says false true z p q r = let k = and_parts (has_counts (options_of verb)) _ q in of_shards
        (sym (counts_are verb) ∙ k.0) (name_is (codes "shards") k.1)
    option_says false false true p q r =
        let k = and_parts (has_preload (options_of verb)) _ r in
        let l = and_parts (bytes_eq (codes "preload") (before_first (λ x. x == 61) v)) _ k.1 in
        of_preload (sym (flags_are verb) ∙ k.0) (name_is (codes "preload") l.0) (no_text (text_after v) l.1)
    option_says false false false p q r = (dash b (c ∷ v) e, none_of_these p q r)

    named_says : Says verb (b ∷ c ∷ v) (option_named (options_of verb) (before_first (λ x. x == 61) v) (text_after v))
    named_says = option_says (tests workers) (tests shards) tests_flag refl refl refl

  second_says : (b c : ℕ) (v : List ℕ) → (b == 45) ≡ true → (x : Bool) → (c == 45) ≡ x
      → Says verb (b ∷ c ∷ v) (if x then option_named (options_of verb) (before_first (λ x. x == 61) v) (text_after v) else unknown)
  second_says b c v e true f = named_says b c v e f
  second_says b c v e false f = (dash b (c ∷ v) e, one_dash b c v e f)

  dashed_says : (b : ℕ) (w : List ℕ) → (b == 45) ≡ true → Says verb (b ∷ w) (dashed_form (options_of verb) w)
  dashed_says b [] e = (dash b [] e, short b e)
  dashed_says b (c ∷ v) e = second_says b c v e (c == 45) refl

  first_says : (b : ℕ) (w : List ℕ) (x : Bool) → (b == 45) ≡ x → Says verb (b ∷ w) (if x then dashed_form (options_of verb) w else plain)
  first_says b w true e = dashed_says b w e
  first_says b w false e = no_dash b w e

  pub says : (word : List ℕ) → Says verb word (form_of (options_of verb) word)
  says [] = refl
  says (b ∷ w) = first_says b w (b == 45) refl

  pub has_form : (word : List ℕ) (f : Form) → Says verb word f → (f ≡ unknown → ⊥) → HasForm verb word
  has_form word plain s ne = operand_or_value s
  has_form word (named workers None) s ne = workers_alone s.0 s.1
  has_form word (named workers (Some text)) s ne = workers_with text s.0 s.1
  has_form word (named shards None) s ne = shards_alone s.0 s.1
  has_form word (named shards (Some text)) s ne = shards_with text s.0 s.1
  has_form word flag s ne = preload_alone s.0 s.1
  has_form word unknown s ne = absurd (ne refl)

-- two tests of a form: plain words do not begin with `-`, and an option's name alone takes the next word
abbrev pub is_plain : Form → Bool
is_plain plain = true
is_plain _ = false

abbrev pub is_name_alone : Form → Bool
is_name_alone (named s None) = true
is_name_alone _ = false

abbrev pub is_unknown : Form → Bool
is_unknown unknown = true
is_unknown _ = false

module _ (verb : Verb) (word : List ℕ) where
  not_next : (takes_next verb word ≡ true → ⊥) → takes_next verb word ≡ false
  not_next never = false_from_ne_true (takes_next verb word) never

  next_cases : takes_next verb word ≡ true → (has_numbers verb ≡ true) × ((word ≡ codes "--workers") ⊎ (word ≡ codes "--shards"))
  next_cases e =
      let k = and_parts (has_numbers verb) (bytes_eq word (codes "--workers") || bytes_eq word (codes "--shards")) e in
      (k.0, by (bytes_eq word (codes "--workers")) refl k.1)
    where
      by : (x : Bool) → bytes_eq word (codes "--workers") ≡ x → (x || bytes_eq word (codes "--shards")) ≡ true
          → (word ≡ codes "--workers") ⊎ (word ≡ codes "--shards")
      by true at k = inl ((bytes_eq-Decides word (codes "--workers")).0 at)
      by false at k = inr ((bytes_eq-Decides word (codes "--shards")).0 k)

  takes_of : has_numbers verb ≡ true → (other : List ℕ) → word ≡ other
      → (bytes_eq other (codes "--workers") || bytes_eq other (codes "--shards")) ≡ true → takes_next verb word ≡ true
  takes_of has other is test = and_from (has_numbers verb) (bytes_eq word (codes "--workers") || bytes_eq word
      (codes "--shards")) has (ap (λ w. bytes_eq w (codes "--workers") || bytes_eq w (codes "--shards")) is ∙ test)

  not_by : (other : List ℕ) → word ≡ other → (bytes_eq other (codes "--workers") || bytes_eq other (codes "--shards")) ≡ false → takes_next verb word ≡ false
  not_by other is test = ap (λ w. has_numbers verb && (bytes_eq w (codes "--workers") || bytes_eq w (codes "--shards")))
      is ∙ ap (λ x. has_numbers verb && x) test ∙ and-false (has_numbers verb)

  dash_is : (f : Form) → Says verb word f → begins_with_dash word ≡ not (is_plain f)
  dash_is plain s = s
  dash_is (named workers None) s = ap begins_with_dash s.1
  dash_is (named workers (Some text)) s = ap begins_with_dash s.1
  dash_is (named shards None) s = ap begins_with_dash s.1
  dash_is (named shards (Some text)) s = ap begins_with_dash s.1
  dash_is flag s = ap begins_with_dash s.1
  dash_is unknown s = s.0

  takes_is : (f : Form) → Says verb word f → takes_next verb word ≡ is_name_alone f
  takes_is plain s = not_next (λ t. elim (next_cases t).1 [
    | inl e ↦ clash (begins_with_dash word)
        (ap begins_with_dash e) s
    | inr e ↦ clash (begins_with_dash word) (ap begins_with_dash e) s
  ])
  takes_is (named workers None) s = takes_of s.0 (codes "--workers") s.1 refl
  takes_is (named workers (Some text)) s = not_by (codes "--workers=" ++ text) s.1 refl
  takes_is (named shards None) s = takes_of s.0 (codes "--shards") s.1 refl
  takes_is (named shards (Some text)) s = not_by (codes "--shards=" ++ text) s.1 refl
  takes_is flag s = not_by (codes "--preload") s.1 refl
  takes_is unknown s = not_next (λ t. let k = next_cases t in s.1 (elim k.1 [ inl e ↦ workers_alone k.0 e | inr e ↦ shards_alone k.0 e ]))

  pub dashed : begins_with_dash word ≡ not (is_plain (form_of (options_of verb) word))
  dashed = dash_is (form_of (options_of verb) word) (says verb word)

  pub taking : takes_next verb word ≡ is_name_alone (form_of (options_of verb) word)
  taking = takes_is (form_of (options_of verb) word) (says verb word)

  by_unknown : (f : Form) → Says verb word f → (is_unknown f ≡ true → HasForm verb word → ⊥) × (is_unknown f ≡ false → HasForm verb word)
  by_unknown plain s = (λ e. absurd (false≢true e), λ e. has_form verb word plain s (λ k. absurd cc))
  by_unknown (named w t) s = (λ e. absurd (false≢true e), λ e. has_form verb word (named w t) s (λ k. absurd cc))
  by_unknown flag s = (λ e. absurd (false≢true e), λ e. has_form verb word flag s (λ k. absurd cc))
  by_unknown unknown s = (λ e. s.1, λ e. absurd (false≢true (sym e)))

  pub unknown_has_none : is_unknown (form_of (options_of verb) word) ≡ true → HasForm verb word → ⊥
  unknown_has_none = (by_unknown (form_of (options_of verb) word) (says verb word)).0

  pub known_has_form : is_unknown (form_of (options_of verb) word) ≡ false → HasForm verb word
  known_has_form = (by_unknown (form_of (options_of verb) word) (says verb word)).1
