-- Options that occur twice, from the names of the words.
use Rattle.std.proofs.Common.{◌≡◌, ℕ, Bool, true, false, ◌||◌, List, [], ◌∷◌, ◌++◌, ◌⊎◌, ◌↔◌, inl, inr, Option, Some}
use Rattle.std.proofs.Common.{None, ◌==◌, codes, refl, sym, ap, ◌∙◌, eq-eqb}
use Rattle.std.proofs.lemmas.Bool.{false≢true, or_right}
use Rattle.std.proofs.lemmas.Slice.Eq.{bytes_eq-Decides}
use Rattle.std.specs.List.{filter_map, list_any}
use Rattle.std.specs.Str.{bytes_eq}
use Rattle.std.specs.Prelude.{IsTrue}
use Rattle.ptg_words.specs.Parts.{Form, NumberOption, Part, after, flag, form_of, given, has_twice, is_named, lacking}
use Rattle.ptg_words.specs.Parts.{name_of, named, operand, option_of, parts, parts_from, plain, preload, shards, stray}
use Rattle.ptg_words.specs.Parts.{unknown, workers}
use Rattle.ptg_words.specs.declared.verbs.Verb.{Verb}
use Rattle.ptg_words.specs.Words.{options_of}
use Rattle.word_laws.specs.Forms.{HasForm, IsPreload, IsShards, IsWorkers, OccursTwice, begins_with_dash, preload_alone}
use Rattle.word_laws.specs.Forms.{shards_alone, shards_with, workers_alone, workers_with}
use Rattle.word_laws.proofs.Forms.{Says, says}

-- the names of the options that parts are, and whether one occurs twice
abbrev names : List Part → List (List ℕ)
names ps = filter_map option_of ps

abbrev twice : List (List ℕ) → Bool
twice [] = false
twice (name ∷ rest) = list_any (bytes_eq name) rest || twice rest

named_is : (name : List ℕ) (ps : List Part) → list_any (is_named name) ps ≡ list_any (bytes_eq name) (names ps)
named_is name [] = refl
named_is name (operand word ∷ ps) = named_is name ps
named_is name (given s text ∷ ps) = ap (λ b. bytes_eq name (name_of s) || b) (named_is name ps)
named_is name (lacking s ∷ ps) = ap (λ b. bytes_eq name (name_of s) || b) (named_is name ps)
named_is name (preload ∷ ps) = ap (λ b. bytes_eq name (codes "preload") || b) (named_is name ps)
named_is name (stray ∷ ps) = named_is name ps

twice_is : (ps : List Part) → has_twice ps ≡ twice (names ps)
twice_is [] = refl
twice_is (operand word ∷ ps) = twice_is ps
twice_is (given s text ∷ ps) = λ i. named_is (name_of s) ps i || twice_is ps i
twice_is (lacking s ∷ ps) = λ i. named_is (name_of s) ps i || twice_is ps i
twice_is (preload ∷ ps) = λ i. named_is (codes "preload") ps i || twice_is ps i
twice_is (stray ∷ ps) = twice_is ps

-- the name of the option that a word of this form is, if it is one
abbrev form_name : Form → Option (List ℕ)
form_name plain = None
form_name (named s text) = Some (name_of s)
form_name flag = Some (codes "preload")
form_name unknown = None

abbrev due_name : Option NumberOption → List (List ℕ)
due_name None = []
due_name (Some s) = name_of s ∷ []

abbrev with_name : Option (List ℕ) → List (List ℕ) → List (List ℕ)
with_name None rest = rest
with_name (Some name) rest = name ∷ rest

module _ (verb : Verb) where
  abbrev word_name : List ℕ → Option (List ℕ)
  word_name word = form_name (form_of (options_of verb) word)

  names_next : (due : Option NumberOption) (f : Form) (word : List ℕ) (rest : Option NumberOption → List Part)
      (others : List (List ℕ)) → ((next : Option NumberOption) → names (rest next) ≡ due_name next ++ others)
      → names (after due f word rest) ≡ due_name due ++ with_name (form_name f) others
  names_next None plain word rest others same = same None
  names_next None (named s None) word rest others same = same (Some s)
  names_next None (named s (Some text)) word rest others same = ap (λ ns. name_of s ∷ ns) (same None)
  names_next None flag word rest others same = ap (λ ns. codes "preload" ∷ ns) (same None)
  names_next None unknown word rest others same = same None
  names_next (Some d) plain word rest others same = ap (λ ns. name_of d ∷ ns) (same None)
  names_next (Some d) (named s None) word rest others same = ap (λ ns. name_of d ∷ ns) (same (Some s))
  names_next (Some d) (named s (Some text)) word rest others same = ap (λ ns. name_of d ∷ name_of s ∷ ns) (same None)
  names_next (Some d) flag word rest others same = ap (λ ns. name_of d ∷ codes "preload" ∷ ns) (same None)
  names_next (Some d) unknown word rest others same = ap (λ ns. name_of d ∷ ns) (same None)

  -- the names of the options among the words, in their order
  abbrev word_names : List (List ℕ) → List (List ℕ)
  word_names [] = []
  word_names (word ∷ words) = with_name (word_name word) (word_names words)

  names_are : (due : Option NumberOption) (words : List (List ℕ)) → names (parts_from (options_of verb) due words) ≡ due_name due ++ word_names words
  unfolding parts_from
  names_are None [] = refl
  names_are (Some s) [] = refl
  names_are due (word ∷ words) = names_next due (form_of (options_of verb) word) word
      (λ next. parts_from (options_of verb) next words) (word_names words) (λ next. names_are next words)

  -- two of the words have one name
  record SameName (words : List (List ℕ)) : Type 0 where
    name : List ℕ
    before : List (List ℕ)
    first : List ℕ
    between : List (List ℕ)
    second : List ℕ
    after : List (List ℕ)
    listed : words ≡ before ++ first ∷ (between ++ second ∷ after)
    first_is : word_name first ≡ Some name
    second_is : word_name second ≡ Some name

  record HasWord (name : List ℕ) (words : List (List ℕ)) : Type 0 where
    before : List (List ℕ)
    word : List ℕ
    after : List (List ℕ)
    listed : words ≡ before ++ word ∷ after
    is : word_name word ≡ Some name

  find_word : (name : List ℕ) (words : List (List ℕ)) → list_any (bytes_eq name) (word_names words) ≡ true → HasWord name words
  find_word name [] e = absurd (false≢true e)
  find_word name (word ∷ words) e = by (find_word name words) (word_name word) refl e where
    later : HasWord name words → HasWord name (word ∷ words)
    later h = record { before = word ∷ h.before; word = h.word; after = h.after; listed = ap (λ ws. word ∷ ws) h.listed; is = h.is }

    one : (n : List ℕ) → word_name word ≡ Some n → (b : Bool) → bytes_eq name n ≡ b
        → (list_any (bytes_eq name) (word_names words) ≡ true → HasWord name words)
        → (b || list_any (bytes_eq name) (word_names words)) ≡ true → HasWord name (word ∷ words)
    one n at true same on k = record { before = []; word = word; after = words; listed = refl; is = at ∙ ap Some (sym ((bytes_eq-Decides name n).0 same)) }
    one n at false same on k = later (on k)

    by : (list_any (bytes_eq name) (word_names words) ≡ true → HasWord name words) → (o : Option (List ℕ))
        → word_name word ≡ o → list_any (bytes_eq name) (with_name o (word_names words)) ≡ true
        → HasWord name (word ∷ words)
    by on None at k = later (on k)
    by on (Some n) at k = one n at (bytes_eq name n) refl on k

  to_same : (words : List (List ℕ)) → twice (word_names words) ≡ true → SameName words
  to_same [] e = absurd (false≢true e)
  to_same (word ∷ words) e = by (to_same words) (word_name word) refl e where
    later : SameName words → SameName (word ∷ words)
    later h = record {
      name = h.name;
      before = word ∷ h.before;
      first = h.first;
      between = h.between;
      second = h.second;
      after = h.after;
      listed = ap (λ ws. word ∷ ws) h.listed;
      first_is = h.first_is;
      second_is = h.second_is;
    }

    here : (n : List ℕ) → word_name word ≡ Some n → HasWord n words → SameName (word ∷ words)
    here n at h = record {
      name = n;
      before = [];
      first = word;
      between = h.before;
      second = h.word;
      after = h.after;
      listed = ap (λ ws. word ∷ ws) h.listed;
      first_is = at;
      second_is = h.is;
    }

    one : (n : List ℕ) → word_name word ≡ Some n → (b : Bool) → list_any (bytes_eq n) (word_names words) ≡ b
        → (twice (word_names words) ≡ true → SameName words) → (b || twice (word_names words)) ≡ true
        → SameName (word ∷ words)
    one n at true any on k = here n at (find_word n words any)
    one n at false any on k = later (on k)

    by : (twice (word_names words) ≡ true → SameName words) → (o : Option (List ℕ)) → word_name word ≡ o
        → twice (with_name o (word_names words)) ≡ true → SameName (word ∷ words)
    by on None at k = later (on k)
    by on (Some n) at k = one n at (list_any (bytes_eq n) (word_names words)) refl on k

  has_one : (name : List ℕ) (before : List (List ℕ)) (word : List ℕ) (rest : List (List ℕ)) → word_name word ≡ Some name
      → list_any (bytes_eq name) (word_names (before ++ word ∷ rest)) ≡ true
  has_one name [] word rest is =
      ap (λ o. list_any (bytes_eq name) (with_name o (word_names rest))) is
      ∙ ap (λ b. b || list_any (bytes_eq name) (word_names rest)) ((bytes_eq-Decides name name).1 refl)
  has_one name (w ∷ before) word rest is = more (word_name w) (has_one name before word rest is) where
    more : (o : Option (List ℕ)) → list_any (bytes_eq name) (word_names (before ++ word ∷ rest)) ≡ true
        → list_any (bytes_eq name) (with_name o (word_names (before ++ word ∷ rest))) ≡ true
    more None e = e
    more (Some n) e = ap (λ b. bytes_eq name n || b) e ∙ or_right (bytes_eq name n) true refl

  has_two : (name : List ℕ) (before : List (List ℕ)) (first : List ℕ) (between : List (List ℕ)) (second : List ℕ)
      (rest : List (List ℕ)) → word_name first ≡ Some name → word_name second ≡ Some name
      → twice (word_names (before ++ first ∷ (between ++ second ∷ rest))) ≡ true
  has_two name [] first between second rest e f =
      ap (λ o. twice (with_name o (word_names (between ++ second ∷ rest)))) e
      ∙ ap (λ b. b || twice (word_names (between ++ second ∷ rest))) (has_one name between second rest f)
  has_two name (w ∷ before) first between second rest e f = more (word_name w) (has_two name before first between second rest e f) where
    more : (o : Option (List ℕ)) → twice (word_names (before ++ first ∷ (between ++ second ∷ rest))) ≡ true
        → twice (with_name o (word_names (before ++ first ∷ (between ++ second ∷ rest)))) ≡ true
    more None k = k
    more (Some n) k = ap (λ b. list_any (bytes_eq n) (word_names (before ++ first ∷ (between ++ second ∷ rest))) || b) k
        ∙ or_right (list_any (bytes_eq n) (word_names (before ++ first ∷ (between ++ second ∷ rest)))) true refl

  -- a word is the option of this name
  abbrev IsNamed : List ℕ → List ℕ → Type 0
  IsNamed name word =
      ((name ≡ codes "workers") × IsWorkers verb word) ⊎ (((name ≡ codes "shards") × IsShards verb word) ⊎ ((name ≡ codes "preload") × IsPreload verb word))

  option_is : (word : List ℕ) (f : Form) (name : List ℕ) → Says verb word f → form_name f ≡ Some name → IsNamed name word
  option_is word plain name s e = absurd cc
  option_is word (named workers None) name s e = let same : codes "workers" ≡ name = cc in inl (sym same, (s.0, inl s.1))
  option_is word (named workers (Some text)) name s e = let same : codes "workers" ≡ name = cc in inl (sym same, (s.0, inr (text, s.1)))
  option_is word (named shards None) name s e = let same : codes "shards" ≡ name = cc in inr (inl (sym same, (s.0, inl s.1)))
  option_is word (named shards (Some text)) name s e = let same : codes "shards" ≡ name = cc in inr (inl (sym same, (s.0, inr (text, s.1))))
  option_is word flag name s e = let same : codes "preload" ≡ name = cc in inr (inr (sym same, (s.0, s.1)))
  option_is word unknown name s e = absurd cc

  named_word : (word name : List ℕ) → word_name word ≡ Some name → IsNamed name word
  named_word word name e = option_is word (form_of (options_of verb) word) name (says verb word) e

  -- two words of one name are twice the same option
  apart : {P : Type 0} (a b : List ℕ) → bytes_eq a b ≡ false → (n : List ℕ) → n ≡ a → n ≡ b → P
  apart a b differ n e f = absurd (false≢true (sym differ ∙ (bytes_eq-Decides a b).1 (sym e ∙ f)))

  abbrev AnyTwice : List (List ℕ) → Type 0
  AnyTwice words = OccursTwice (IsWorkers verb) words ⊎ (OccursTwice (IsShards verb) words ⊎ OccursTwice (IsPreload verb) words)

  module _ (words : List (List ℕ)) (h : SameName words) where
    as_twice : (Is : List ℕ → Type 0) → Is h.first → Is h.second → OccursTwice Is words
    as_twice Is a b = record {
      before = h.before;
      first = h.first;
      between = h.between;
      second = h.second;
      after = h.after;
      listed = h.listed;
      first_is = a;
      second_is = b;
    }

    to_twice : AnyTwice words
    to_twice = by (named_word h.first h.name h.first_is) (named_word h.second h.name h.second_is) where
      by : IsNamed h.name h.first → IsNamed h.name h.second → OccursTwice (IsWorkers verb) words
          ⊎ (OccursTwice (IsShards verb) words ⊎ OccursTwice (IsPreload verb) words)
      by (inl a) (inl b) = inl (as_twice (IsWorkers verb) a.1 b.1)
      by (inl a) (inr (inl b)) = apart (codes "workers") (codes "shards") refl h.name a.0 b.0
      by (inl a) (inr (inr b)) = apart (codes "workers") (codes "preload") refl h.name a.0 b.0
      by (inr (inl a)) (inl b) = apart (codes "shards") (codes "workers") refl h.name a.0 b.0
      by (inr (inl a)) (inr (inl b)) = inr (inl (as_twice (IsShards verb) a.1 b.1))
      by (inr (inl a)) (inr (inr b)) = apart (codes "shards") (codes "preload") refl h.name a.0 b.0
      by (inr (inr a)) (inl b) = apart (codes "preload") (codes "workers") refl h.name a.0 b.0
      by (inr (inr a)) (inr (inl b)) = apart (codes "preload") (codes "shards") refl h.name a.0 b.0
      by (inr (inr a)) (inr (inr b)) = inr (inr (as_twice (IsPreload verb) a.1 b.1))

  -- the form of a word that is an option, by its third character: `w`, `s` or `p`
  abbrev third : List ℕ → ℕ
  third (a ∷ b ∷ c ∷ rest) = c
  third _ = 0

  differ : {P : Type 0} (m n : ℕ) → (m == n) ≡ false → (word : List ℕ) → third word ≡ m → third word ≡ n → P
  differ m n ne word e f = absurd (false≢true (sym ne ∙ eq-eqb m n (sym e ∙ f)))

  workers_named : (word : List ℕ) (f : Form) → Says verb word f → HasForm verb word → begins_with_dash word ≡ true
      → third word ≡ 119 → form_name f ≡ Some (codes "workers")
  workers_named word plain s has dash t = absurd (false≢true (sym s ∙ dash))
  workers_named word (named workers text) s has dash t = refl
  workers_named word (named shards None) s has dash t = differ 119 115 refl word t (ap third s.1)
  workers_named word (named shards (Some text)) s has dash t = differ 119 115 refl word t (ap third s.1)
  workers_named word flag s has dash t = differ 119 112 refl word t (ap third s.1)
  workers_named word unknown s has dash t = absurd (s.1 has)

  shards_named : (word : List ℕ) (f : Form) → Says verb word f → HasForm verb word → begins_with_dash word ≡ true
      → third word ≡ 115 → form_name f ≡ Some (codes "shards")
  shards_named word plain s has dash t = absurd (false≢true (sym s ∙ dash))
  shards_named word (named shards text) s has dash t = refl
  shards_named word (named workers None) s has dash t = differ 115 119 refl word t (ap third s.1)
  shards_named word (named workers (Some text)) s has dash t = differ 115 119 refl word t (ap third s.1)
  shards_named word flag s has dash t = differ 115 112 refl word t (ap third s.1)
  shards_named word unknown s has dash t = absurd (s.1 has)

  preload_named : (word : List ℕ) (f : Form) → Says verb word f → HasForm verb word → begins_with_dash word ≡ true
      → third word ≡ 112 → form_name f ≡ Some (codes "preload")
  preload_named word plain s has dash t = absurd (false≢true (sym s ∙ dash))
  preload_named word (named shards None) s has dash t = differ 112 115 refl word t (ap third s.1)
  preload_named word (named shards (Some text)) s has dash t = differ 112 115 refl word t (ap third s.1)
  preload_named word (named workers None) s has dash t = differ 112 119 refl word t (ap third s.1)
  preload_named word (named workers (Some text)) s has dash t = differ 112 119 refl word t (ap third s.1)
  preload_named word flag s has dash t = refl
  preload_named word unknown s has dash t = absurd (s.1 has)

  is_workers : (word : List ℕ) → IsWorkers verb word → word_name word ≡ Some (codes "workers")
  is_workers word w = elim w.1 [
    | inl e ↦ workers_named word (form_of (options_of verb) word) (says verb word) (workers_alone w.0 e) (ap begins_with_dash e) (ap third e)
    | inr p ↦ workers_named word (form_of (options_of verb) word) (says verb word) (workers_with p.0 w.0 p.1) (ap begins_with_dash p.1) (ap third p.1)
  ]

  is_shards : (word : List ℕ) → IsShards verb word → word_name word ≡ Some (codes "shards")
  is_shards word w = elim w.1 [
    | inl e ↦ shards_named word (form_of (options_of verb) word) (says verb word) (shards_alone w.0 e) (ap begins_with_dash e) (ap third e)
    | inr p ↦ shards_named word (form_of (options_of verb) word) (says verb word) (shards_with p.0 w.0 p.1) (ap begins_with_dash p.1) (ap third p.1)
  ]

  is_preload : (word : List ℕ) → IsPreload verb word → word_name word ≡ Some (codes "preload")
  is_preload word w = preload_named word (form_of (options_of verb) word) (says verb word) (preload_alone w.0 w.1) (ap begins_with_dash w.1) (ap third w.1)

  from_twice : (words : List (List ℕ)) (name : List ℕ) (Is : List ℕ → Type 0)
      → ((word : List ℕ) → Is word → word_name word ≡ Some name) → OccursTwice Is words
      → twice (word_names words) ≡ true
  from_twice words name Is named_so t =
      ap (λ ws. twice (word_names ws)) t.listed ∙ has_two name t.before t.first t.between t.second t.after
      (named_so t.first t.first_is) (named_so t.second t.second_is)

  all_names : (words : List (List ℕ)) → has_twice (parts (options_of verb) words) ≡ twice (word_names words)
  all_names words = twice_is (parts (options_of verb) words) ∙ ap twice (names_are None words)

  pub twice_iff : (words : List (List ℕ)) → IsTrue (has_twice (parts (options_of verb) words)) ↔
      (OccursTwice (IsWorkers verb) words ⊎ (OccursTwice (IsShards verb) words ⊎ OccursTwice (IsPreload verb) words))
  twice_iff words = (
    λ e. to_twice words (to_same words (sym (all_names words) ∙ e)),
    λ t. all_names words ∙ elim t [
      | inl w ↦ from_twice words (codes "workers") (IsWorkers verb) is_workers w
      | inr r ↦ elim r [
        | inl w ↦ from_twice words (codes "shards") (IsShards verb) is_shards w
        | inr w ↦ from_twice words (codes "preload") (IsPreload verb) is_preload w
      ]
    ],
  )
