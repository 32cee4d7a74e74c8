-- An index finds the number of the name among all names.
use Rattle.std.proofs.Common.{◌≡◌, ℕ, zero, suc, ◌+◌, ◌<◌, Bool, true, false, ◌&&◌, cond, List, [], ◌∷◌, length, Option, Some, None, nat_eq, get_or}
use Rattle.std.proofs.Common.{refl, sym, ap, subst, ◌∙◌, arith}
use Rattle.std.specs.Prelude.{slice_get}
use Rattle.std.specs.Cmp.{second_so}
use Rattle.std.specs.List.{position_from}
use Rattle.std.specs.Map.{keys_of, lookup}
use Rattle.std.specs.Option.{option_map, option_or}
use Rattle.std.specs.Str.{bytes_eq}
use Rattle.std.proofs.lemmas.Iterator.Adapters.{position_from-zero}
use Rattle.std.proofs.lemmas.Option.{slice_get_within, slice_get_read, same_Some}
use Rattle.std.proofs.lemmas.Map.Entries.{length-keys_of}
use Rattle.name_table.specs.declared.bucket.Slot.{Slot}
use Rattle.name_table.specs.declared.index.Index.{Index}
use Rattle.name_table.specs.Index.{has_number, in_bucket, has_room, bucket_at, mark_of, among_others, found, IsIndexOf}
use Rattle.name_table.specs.Names.{index_named, value_named, IsEachOnce}
use Rattle.name_table.proofs.Items.{same_bytes, bytes_same, number_has}

-- a name found in a bucket has that number
pub slot_sound : (names : List (List ℕ)) (name : List ℕ) (mark i : ℕ) (slots : List Slot)
    → in_bucket names name mark slots ≡ Some i → slice_get names i ≡ Some name
slot_sound names name mark i [] h = absurd cc
slot_sound names name mark i (s ∷ slots) h = go (nat_eq s.mark mark && has_number names name s.number) refl h (λ e. slot_sound names name mark i slots e)
  where
    go : (b : Bool) → (nat_eq s.mark mark && has_number names name s.number) ≡ b
        → cond b (Some s.number) (in_bucket names name mark slots) ≡ Some i
        → (in_bucket names name mark slots ≡ Some i → slice_get names i ≡ Some name) → slice_get names i ≡ Some name
    go true t e ih = subst (λ n. slice_get names n ≡ Some name) (same_Some s.number i e)
        (number_has names name s.number (second_so (nat_eq s.mark mark) (has_number names name s.number) t))
    go false t e ih = ih e

-- a name that is found has that number
pub found_sound : (names : List (List ℕ)) (x : Index) (name : List ℕ) (i : ℕ) → IsIndexOf names x → found names x name ≡ Some i → slice_get names i ≡ Some name
found_sound names x name i is h =
    go (in_bucket names name (mark_of name) (bucket_at x.buckets.items name))
    (λ j e. slot_sound names name (mark_of name) j (bucket_at x.buckets.items name) e) h
  where
    rest : (b : Bool) → cond b None (among_others x name) ≡ Some i → slice_get names i ≡ Some name
    rest true e = absurd cc
    rest false e = is.others name i e

    go : (r : Option ℕ) → ((j : ℕ) → r ≡ Some j → slice_get names j ≡ Some name)
        → option_or r (cond (has_room (bucket_at x.buckets.items name)) None (among_others x name)) ≡ Some i
        → slice_get names i ≡ Some name
    go (Some j) s e = s i e
    go None s e = rest (has_room (bucket_at x.buckets.items name)) e

-- no name of an index occurs twice
pub each_once : (names : List (List ℕ)) (x : Index) → IsIndexOf names x → IsEachOnce names
each_once names x is i j name p q = same_Some i j (sym (is.finds name i p) ∙ is.finds name j q)

position_at : (names : List (List ℕ)) (name : List ℕ) (k i : ℕ)
    → position_from (λ (n : List ℕ). bytes_eq n name) k names ≡ Some i
    → (j : ℕ) × (i ≡ k + j) × (slice_get names j ≡ Some name)
position_at [] name k i h = absurd cc
position_at (n ∷ names) name k i h = go (bytes_eq n name) refl h (λ e. position_at names name (k + 1) i e)
  where
    go : (b : Bool) → bytes_eq n name ≡ b → cond b (Some k) (position_from (λ (n : List ℕ). bytes_eq n name) (k + 1) names) ≡ Some i
        → (position_from (λ (n : List ℕ). bytes_eq n name) (k + 1) names ≡ Some i
        → (j : ℕ) × (i ≡ k + 1 + j) × (slice_get names j ≡ Some name))
        → (j : ℕ) × (i ≡ k + j) × (slice_get (n ∷ names) j ≡ Some name)
    go true t e ih = (0, omega (arith, same_Some k i e), ap Some (same_bytes n name t))
    go false t e ih = let r = ih e in (suc r.0, omega (arith, r.1), r.2)

nowhere : (names : List (List ℕ)) (name : List ℕ) (k j : ℕ)
    → position_from (λ (n : List ℕ). bytes_eq n name) k names ≡ None → slice_get names j ≡ Some name → Some j ≡ None
nowhere [] name k j h e = absurd cc
nowhere (n ∷ names) name k zero h e = go (bytes_eq n name) (bytes_same n name (same_Some n name e)) h
  where
    go : (b : Bool) → b ≡ true → cond b (Some k) (position_from (λ (n : List ℕ). bytes_eq n name) (k + 1) names) ≡ None → Some zero ≡ None
    go true t f = absurd cc
    go false t f = absurd cc
nowhere (n ∷ names) name k (suc j) h e = go (bytes_eq n name) h (λ f. nowhere names name (k + 1) j f e)
  where
    go : (b : Bool) → cond b (Some k) (position_from (λ (n : List ℕ). bytes_eq n name) (k + 1) names) ≡ None
        → (position_from (λ (n : List ℕ). bytes_eq n name) (k + 1) names ≡ None → Some j ≡ None)
        → Some (suc j) ≡ None
    go true f later = absurd cc
    go false f later = let g : Some j ≡ None = later f in absurd cc

pub index_found : (names : List (List ℕ)) (x : Index) (name : List ℕ) → IsIndexOf names x → found names x name ≡ index_named names name
index_found names x name is = go (position_from (λ (n : List ℕ). bytes_eq n name) 0 names) refl
    ∙ sym (position_from-zero (λ (n : List ℕ). bytes_eq n name) names)
  where
    none : (r : Option ℕ) → ((j : ℕ) → r ≡ Some j → Some j ≡ None) → r ≡ None
    none (Some j) h = h j refl
    none None h = refl

    go : (r : Option ℕ) → position_from (λ (n : List ℕ). bytes_eq n name) 0 names ≡ r → found names x name ≡ r
    go (Some i) e = let p = position_at names name 0 i e in subst (λ k. found names x name ≡ Some k) (omega (arith, p.1)) (is.finds name p.0 p.2)
    go None e = none (found names x name) (λ j f. nowhere names name 0 j e (found_sound names x name j is f))

-- if one index does not find a name, no other index of the same names does
pub still_new : (names : List (List ℕ)) (x y : Index) (name : List ℕ) → IsIndexOf names x → IsIndexOf names y
    → found names x name ≡ None → found names y name ≡ None
still_new names x y name is it none = index_found names y name it ∙ (sym (index_found names x name is) ∙ none)

module _ {V : Type 0} where
  value_first : (pairs : List (List ℕ × V)) (name : List ℕ) (i : ℕ)
      → ((j : ℕ) → slice_get (keys_of pairs) j ≡ Some name → j ≡ i) → slice_get (keys_of pairs) i ≡ Some name
      → lookup (bytes_eq name) pairs ≡ option_map (λ (p : List ℕ × V). p.1) (slice_get pairs i)
  value_first [] name i once h = absurd cc
  value_first (p ∷ pairs) name zero once h = go (bytes_eq name p.0) (bytes_same name p.0 (sym (same_Some p.0 name h)))
    where
      go : (b : Bool) → b ≡ true → cond b (Some p.1) (lookup (bytes_eq name) pairs) ≡ Some p.1
      go true t = refl
      go false t = absurd cc
  value_first (p ∷ pairs) name (suc i) once h = go (bytes_eq name p.0) refl (value_first pairs name i (λ j e. omega (arith, once (suc j) e)) h)
    where
      go : (b : Bool) → bytes_eq name p.0 ≡ b
          → lookup (bytes_eq name) pairs ≡ option_map (λ (p : List ℕ × V). p.1) (slice_get pairs i)
          → cond b (Some p.1) (lookup (bytes_eq name) pairs)
          ≡ option_map (λ (p : List ℕ × V). p.1) (slice_get pairs i)
      go true t ih = absurd (omega (arith, once zero (ap Some (sym (same_bytes name p.0 t)))))
      go false t ih = ih

  value_none : (pairs : List (List ℕ × V)) (name : List ℕ)
      → ((j : ℕ) → slice_get (keys_of pairs) j ≡ Some name → Some j ≡ None) → lookup (bytes_eq name) pairs ≡ None
  value_none [] name none = refl
  value_none (p ∷ pairs) name none = go (bytes_eq name p.0) refl (value_none pairs name (λ j e. shifted j (none (suc j) e)))
    where
      shifted : (j : ℕ) → Some (suc j) ≡ None → Some j ≡ None
      shifted j f = absurd cc

      go : (b : Bool) → bytes_eq name p.0 ≡ b → lookup (bytes_eq name) pairs ≡ None → cond b (Some p.1) (lookup (bytes_eq name) pairs) ≡ None
      go true t ih = let f : Some zero ≡ None = none zero (ap Some (sym (same_bytes name p.0 t))) in absurd cc
      go false t ih = ih

  -- the value at the number that was found is that of the name
  pub value_found : (pairs : List (List ℕ × V)) (x : Index) (name : List ℕ) (i : ℕ) (p : List ℕ × V)
      → IsIndexOf (keys_of pairs) x → found (keys_of pairs) x name ≡ Some i → slice_get pairs i ≡ Some p
      → Some p.1 ≡ value_named pairs name
  value_found pairs x name i p is f e =
      ap (option_map (λ (q : List ℕ × V). q.1)) (sym e)
      ∙ sym (value_first pairs name i (λ j g. same_Some j i (sym (is.finds name j g) ∙ f)) (found_sound (keys_of pairs) x name i is f))

  pub value_missing : (pairs : List (List ℕ × V)) (x : Index) (name : List ℕ) → IsIndexOf (keys_of pairs) x
      → found (keys_of pairs) x name ≡ None → None ≡ value_named pairs name
  value_missing pairs x name is f = sym (value_none pairs name (λ j e. sym (is.finds name j e) ∙ f))

  pub found_within : (pairs shown : List (List ℕ × V)) (x : Index) (name : List ℕ) (i : ℕ)
      → IsIndexOf (keys_of pairs) x → shown ≡ pairs → found (keys_of shown) x name ≡ Some i → i < length shown
  found_within pairs shown x name i is same f =
      let is' : IsIndexOf (keys_of shown) x = subst (λ (l : List (List ℕ × V)). IsIndexOf (keys_of l) x) (sym same) is in
      omega (arith, slice_get_within (keys_of shown) i name (found_sound (keys_of shown) x name i is' f), length-keys_of shown)

  -- the value at the number that was found is that of the name
  pub value_there : (self pairs shown : List (List ℕ × V)) (x : Index) (name : List ℕ) (i : ℕ) (p : List ℕ × V)
      → IsIndexOf (keys_of pairs) x → pairs ≡ self → shown ≡ pairs → found (keys_of shown) x name ≡ Some i
      → p ≡ get_or pairs i p
      → Some p.1 ≡ value_named self name
  value_there self pairs shown x name i p is view same f e =
      let f' : found (keys_of pairs) x name ≡ Some i = subst (λ (l : List (List ℕ × V)). found (keys_of l) x name ≡ Some i) same f in
      let lt : i < length shown = found_within pairs shown x name i is same f in
      value_found pairs x name i p is f' (slice_get_read pairs (length pairs) i p refl
      (omega (arith, lt, ap length same)) e) ∙ ap (λ l. value_named l name) view

  pub value_missing_there : (self pairs shown : List (List ℕ × V)) (x : Index) (name : List ℕ)
      → IsIndexOf (keys_of pairs) x → pairs ≡ self → shown ≡ pairs → found (keys_of shown) x name ≡ None
      → None ≡ value_named self name
  value_missing_there self pairs shown x name is view same f =
      value_missing pairs x name is (subst (λ (l : List (List ℕ × V)). found (keys_of l) x name ≡ None) same f) ∙ ap (λ l. value_named l name) view

  pub number_there : (self pairs shown : List (List ℕ × V)) (x : Index) (name : List ℕ)
      → IsIndexOf (keys_of pairs) x → pairs ≡ self → shown ≡ pairs
      → found (keys_of shown) x name ≡ index_named (keys_of self) name
  number_there self pairs shown x name is view same =
      ap (λ (l : List (List ℕ × V)). found (keys_of l) x name) same
      ∙ (index_found (keys_of pairs) x name is
      ∙ ap (λ (l : List (List ℕ × V)). index_named (keys_of l) name) view)
