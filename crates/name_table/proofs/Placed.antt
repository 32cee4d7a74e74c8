-- An index to which a name was added.
use Rattle.std.proofs.Common.{◌≡◌, ℕ, ◌<◌, Bool, true, false, ◌&&◌, cond, List, [], ◌∷◌, ◌++◌, length, Option, Some, None, nat_eq, get_or, refl, sym}
use Rattle.std.proofs.Common.{ap, subst, ◌∙◌, arith, eq-eqb, eqb-true, ◌%◌, ◌^◌}
use Rattle.std.specs.Prelude.{slice_get, slice_set}
use Rattle.std.specs.Cmp.{second_so}
use Rattle.std.specs.BTreeMap.{get, is_at}
use Rattle.std.specs.Cmp.Lexicographic.{slice_cmp}
use Rattle.std.specs.Ordering.{nat_cmp}
use Rattle.std.specs.Str.{bytes_eq}
use Rattle.std.proofs.lemmas.Bool.{eqb-false}
use Rattle.std.proofs.lemmas.Map.Text.{is_eq-slice_cmp}
use Rattle.std.proofs.lemmas.Option.{get_or_from_slice_get, slice_get_read, same_Some}
use Rattle.std.proofs.lemmas.List.{get_or-set_same, get_or-set_other}
use Rattle.std.proofs.Math.ListN.{length-set}
use Rattle.std.specs.Option.{option_or}
use Rattle.name_table.specs.declared.bucket.Slot.{Slot}
use Rattle.name_table.specs.declared.index.Index.{Index}
use Rattle.name_table.specs.Index.{has_number, in_bucket, has_room, bucket_at, bucket_of, mark_of, mixed, among_others, found, IsIndexOf}
use Rattle.name_table.proofs.Items.{same_bytes, bytes_same, number_has, has_number_of, kept_at, last_at, old_or_last, number_kept}
use Rattle.name_table.proofs.Found.{slot_sound}

-- other names are found in a bucket as before once a name was added
same_names : (names : List (List ℕ)) (new name : List ℕ) (mark : ℕ) (slots : List Slot) → bytes_eq new name ≡ false
    → in_bucket (names ++ new ∷ []) name mark slots ≡ in_bucket names name mark slots
same_names names new name mark [] h = refl
same_names names new name mark (s ∷ slots) h =
    ap (λ b. cond (nat_eq s.mark mark && b) (Some s.number) (in_bucket (names ++ new ∷ []) name mark slots)) (number_kept names new name s.number h)
    ∙ ap (λ r. cond (nat_eq s.mark mark && has_number names name s.number) (Some s.number) r) (same_names names new name mark slots h)

-- what a bucket has, it has with one more slot too
slot_kept : (names : List (List ℕ)) (name : List ℕ) (mark i : ℕ) (slots : List Slot) (t : Slot)
    → in_bucket names name mark slots ≡ Some i → in_bucket names name mark (slots ++ t ∷ []) ≡ Some i
slot_kept names name mark i [] t h = absurd cc
slot_kept names name mark i (s ∷ slots) t h = go (nat_eq s.mark mark && has_number names name s.number) h (λ e. slot_kept names name mark i slots t e)
  where
    go : (b : Bool) → cond b (Some s.number) (in_bucket names name mark slots) ≡ Some i
        → (in_bucket names name mark slots ≡ Some i → in_bucket names name mark (slots ++ t ∷ []) ≡ Some i)
        → cond b (Some s.number) (in_bucket names name mark (slots ++ t ∷ [])) ≡ Some i
    go true e ih = e
    go false e ih = ih e

slot_added : (names : List (List ℕ)) (name : List ℕ) (mark k : ℕ) (slots : List Slot)
    → ((j : ℕ) → has_number names name j ≡ true → j ≡ k) → has_number names name k ≡ true
    → in_bucket names name mark (slots ++ record { mark = mark; number = k } ∷ []) ≡ Some k
slot_added names name mark k [] once has = ap (λ b. cond b (Some k) None) (ap (λ b. b && has_number names name k) (eq-eqb mark mark refl) ∙ has)
slot_added names name mark k (s ∷ slots) once has = go (nat_eq s.mark mark && has_number names name s.number) refl (slot_added names name mark k slots once has)
  where
    go : (b : Bool) → (nat_eq s.mark mark && has_number names name s.number) ≡ b
        → in_bucket names name mark (slots ++ record { mark = mark; number = k } ∷ []) ≡ Some k
        → cond b (Some s.number) (in_bucket names name mark (slots ++ record { mark = mark; number = k } ∷ [])) ≡ Some k
    go true t ih = ap Some (once s.number (second_so (nat_eq s.mark mark) (has_number names name s.number) t))
    go false t ih = ih

-- the buckets, with one more slot in one of them
abbrev pub one_more : List (List Slot) → ℕ → Slot → List (List Slot)
one_more buckets at t = slice_set buckets at (get_or buckets at [] ++ t ∷ [])

bucket_hit : (buckets : List (List Slot)) (at : ℕ) (t : Slot) (name : List ℕ) → at < length buckets
    → bucket_of (length buckets) name ≡ at
    → bucket_at (one_more buckets at t) name ≡ bucket_at buckets name ++ t ∷ []
bucket_hit buckets at t name lt s =
    ap (λ n. get_or (one_more buckets at t) (bucket_of n name) []) (length-set buckets at (get_or buckets at [] ++ t ∷ []))
    ∙ (ap (λ k. get_or (one_more buckets at t) k []) s
    ∙ (get_or-set_same buckets at (get_or buckets at [] ++ t ∷ []) [] lt
    ∙ ap (λ k. get_or buckets k [] ++ t ∷ []) (sym s)))

bucket_missed : (buckets : List (List Slot)) (at : ℕ) (t : Slot) (name : List ℕ)
    → nat_eq (bucket_of (length buckets) name) at ≡ false
    → bucket_at (one_more buckets at t) name ≡ bucket_at buckets name
bucket_missed buckets at t name s =
    ap (λ n. get_or (one_more buckets at t) (bucket_of n name) []) (length-set buckets at (get_or buckets at [] ++ t ∷ []))
    ∙ get_or-set_other buckets at (bucket_of (length buckets) name) (get_or buckets at [] ++ t ∷ []) [] (eqb-false (bucket_of (length buckets) name) at s)

module _ (names : List (List ℕ)) (x : Index) (new : List ℕ) (is : IsIndexOf names x) (none : found names x new ≡ None) where
  -- an earlier name differs from the new one
  apart : (name : List ℕ) (i : ℕ) → slice_get names i ≡ Some name → bytes_eq new name ≡ false
  apart name i e = go (bytes_eq new name) refl
    where
      go : (b : Bool) → bytes_eq new name ≡ b → b ≡ false
      go true t = let f : found names x new ≡ Some i = subst (λ n. found names x n ≡ Some i) (sym (same_bytes new name t)) (is.finds name i e) in absurd cc
      go false t = refl

  -- the new name has the last number, and no other
  last_alone : (j : ℕ) → has_number (names ++ new ∷ []) new j ≡ true → j ≡ length names
  last_alone j h = old_or_last (j ≡ length names) names new new j (number_has (names ++ new ∷ []) new j h)
      (λ e. let f : found names x new ≡ Some j = is.finds new j e in absurd cc) (λ e s. e)

  has_last : has_number (names ++ new ∷ []) new (length names) ≡ true
  has_last = has_number_of (names ++ new ∷ []) new (length names) (last_at names new)

  module _ (y : Index) where
    abbrev after : List (List ℕ)
    after = names ++ new ∷ []

    in_its_bucket : (name : List ℕ) (i : ℕ) → in_bucket after name (mark_of name) (bucket_at y.buckets.items name) ≡ Some i → found after y name ≡ Some i
    in_its_bucket name i e = ap (λ r. option_or r (cond (has_room (bucket_at y.buckets.items name)) None (among_others y name))) e

    -- a name is found as before if nothing changes in its bucket and for it in the map
    finds_unchanged : (name : List ℕ) (i : ℕ) → slice_get names i ≡ Some name
        → bucket_at y.buckets.items name ≡ bucket_at x.buckets.items name
        → among_others y name ≡ among_others x name → found after y name ≡ Some i
    finds_unchanged name i e b o =
        ap (λ l. option_or (in_bucket after name (mark_of name) l) (cond (has_room l) None (among_others y name))) b
        ∙ (ap (λ r. option_or r (cond (has_room (bucket_at x.buckets.items name)) None (among_others y name)))
        (same_names names new name (mark_of name) (bucket_at x.buckets.items name) (apart name i e))
        ∙ (ap (λ r. option_or (in_bucket names name (mark_of name) (bucket_at x.buckets.items name))
        (cond (has_room (bucket_at x.buckets.items name)) None r)) o
        ∙ is.finds name i e))

    finds_all : found after y new ≡ Some (length names)
        → ((name : List ℕ) (i : ℕ) → slice_get names i ≡ Some name → found after y name ≡ Some i)
        → (name : List ℕ) (i : ℕ) → slice_get after i ≡ Some name → found after y name ≡ Some i
    finds_all last old name i e =
        old_or_last (found after y name ≡ Some i) names new name i e (old name i)
        (λ s t. subst (λ k. found after y name ≡ Some k) (sym s) (subst (λ n. found after y n ≡ Some (length names)) t last))

    module _ (room : has_room (bucket_at x.buckets.items new) ≡ true) (lt : bucket_of (length x.buckets.items) new < length x.buckets.items)
        (put : y.buckets.items ≡ one_more x.buckets.items (bucket_of (length x.buckets.items) new)
        (record { mark = mark_of new; number = length names })) (same : y.others ≡ x.others) where
      others_same : (name : List ℕ) → among_others y name ≡ among_others x name
      others_same name = ap (λ o. get (slice_cmp nat_cmp) o name) same

      slot_finds_new : found after y new ≡ Some (length names)
      slot_finds_new = in_its_bucket new (length names) (
          ap (λ b. in_bucket after new (mark_of new) (bucket_at b new)) put
          ∙ (ap (λ l. in_bucket after new (mark_of new) l)
          (bucket_hit x.buckets.items (bucket_of (length x.buckets.items) new)
          (record { mark = mark_of new; number = length names }) new lt refl)
          ∙ slot_added after new (mark_of new) (length names) (bucket_at x.buckets.items new) last_alone has_last)
          )

      slot_finds_old : (name : List ℕ) (i : ℕ) → slice_get names i ≡ Some name → found after y name ≡ Some i
      slot_finds_old name i e = go (nat_eq (bucket_of (length x.buckets.items) name) (bucket_of (length x.buckets.items) new)) refl
        where
          with_room : (r : Option ℕ) (b : Bool) → b ≡ true → option_or r (cond b None (among_others x name)) ≡ Some i → r ≡ Some i
          with_room (Some j) b t f = f
          with_room None true t f = absurd cc
          with_room None false t f = absurd cc

          go : (b : Bool) → nat_eq (bucket_of (length x.buckets.items) name) (bucket_of (length x.buckets.items) new) ≡ b → found after y name ≡ Some i
          go true s =
              let at : bucket_of (length x.buckets.items) name ≡ bucket_of (length x.buckets.items) new =
              eqb-true (bucket_of (length x.buckets.items) name) (bucket_of (length x.buckets.items) new) s in
              let there : in_bucket names name (mark_of name) (bucket_at x.buckets.items name) ≡ Some i =
              with_room (in_bucket names name (mark_of name) (bucket_at x.buckets.items name))
              (has_room (bucket_at x.buckets.items name))
              (ap (λ k. has_room (get_or x.buckets.items k [])) at ∙ room) (is.finds name i e) in
              in_its_bucket name i (
              ap (λ b. in_bucket after name (mark_of name) (bucket_at b name)) put
              ∙ (ap (λ l. in_bucket after name (mark_of name) l)
              (bucket_hit x.buckets.items (bucket_of (length x.buckets.items) new)
              (record { mark = mark_of new; number = length names }) name lt at)
              ∙ slot_kept after name (mark_of name) i (bucket_at x.buckets.items name) (record { mark = mark_of new; number = length names })
              (same_names names new name (mark_of name) (bucket_at x.buckets.items name) (apart name i e) ∙ there))
              )
          go false s =
              finds_unchanged name i e
              (ap (λ b. bucket_at b name) put
              ∙ bucket_missed x.buckets.items (bucket_of (length x.buckets.items) new)
              (record { mark = mark_of new; number = length names }) name s)
              (others_same name)

      pub slot_indexed : IsIndexOf (names ++ new ∷ []) y
      slot_indexed = record {
        others = λ name i e. kept_at names new name i (is.others name i (sym (others_same name) ∙ e));
        finds = finds_all slot_finds_new slot_finds_old;
      }

    module _ (full : has_room (bucket_at x.buckets.items new) ≡ false) (same : y.buckets.items ≡ x.buckets.items)
        (put : (name : List ℕ) → among_others y name
        ≡ cond (bytes_eq new name) (Some (length names)) (among_others x name)) where
      bucket_same : (name : List ℕ) → bucket_at y.buckets.items name ≡ bucket_at x.buckets.items name
      bucket_same name = ap (λ b. bucket_at b name) same

      other_finds_new : found after y new ≡ Some (length names)
      other_finds_new = go (in_bucket after new (mark_of new) (bucket_at y.buckets.items new))
          (λ j e. slot_sound after new (mark_of new) j (bucket_at y.buckets.items new) e)
        where
          last : (b : Bool) → b ≡ false → cond b None (among_others y new) ≡ Some (length names)
          last true t = absurd cc
          last false t = put new ∙ ap (λ b. cond b (Some (length names)) (among_others x new)) (bytes_same new new refl)

          go : (r : Option ℕ) → ((j : ℕ) → r ≡ Some j → slice_get after j ≡ Some new)
              → option_or r (cond (has_room (bucket_at y.buckets.items new)) None (among_others y new))
              ≡ Some (length names)
          go (Some j) s = ap Some (last_alone j (has_number_of after new j (s j refl)))
          go None s = last (has_room (bucket_at y.buckets.items new)) (ap has_room (bucket_same new) ∙ full)

      other_finds_old : (name : List ℕ) (i : ℕ) → slice_get names i ≡ Some name → found after y name ≡ Some i
      other_finds_old name i e = finds_unchanged name i e (bucket_same name)
          (put name ∙ ap (λ b. cond b (Some (length names)) (among_others x name)) (apart name i e))

      other_sound : (name : List ℕ) (i : ℕ) → among_others y name ≡ Some i → slice_get (names ++ new ∷ []) i ≡ Some name
      other_sound name i e = go (bytes_eq new name) refl (sym (put name) ∙ e)
        where
          go : (b : Bool) → bytes_eq new name ≡ b → cond b (Some (length names)) (among_others x name) ≡ Some i → slice_get (names ++ new ∷ []) i ≡ Some name
          go true t f = subst (λ k. slice_get (names ++ new ∷ []) k ≡ Some name) (same_Some (length names) i f)
              (subst (λ n. slice_get (names ++ new ∷ []) (length names) ≡ Some n) (same_bytes new name t)
              (last_at names new))
          go false t f = kept_at names new name i (is.others name i f)

      pub other_indexed : IsIndexOf (names ++ new ∷ []) y
      other_indexed = record { others = other_sound; finds = finds_all other_finds_new other_finds_old }

module _ (names : List (List ℕ)) (x y : Index) (name shown : List ℕ) (mixed_to at count number : ℕ)
    (old : List Slot) (is : IsIndexOf names x) (none : found names x name ≡ None) (long : length names ≡ number)
    (s : shown ≡ name) (m : mixed_to ≡ mixed shown) (n : count ≡ length x.buckets.items) (a : at ≡ mixed_to % count)
    (lt : at < count) (o : old ≡ get_or x.buckets.items at old) where
  bucket_is : at ≡ bucket_of (length x.buckets.items) name
  bucket_is = a ∙ (ap (λ (k : ℕ). k % count) (m ∙ ap mixed s) ∙ ap (λ (k : ℕ). mixed name % k) n)

  at_is : (bucket : List Slot) → bucket ≡ get_or x.buckets.items at bucket → get_or x.buckets.items at [] ≡ bucket
  at_is bucket b = get_or_from_slice_get x.buckets.items at bucket []
      (slice_get_read x.buckets.items (length x.buckets.items) at bucket refl (omega (arith, lt, n)) b)

  room_is : (b : Bool) → b ≡ has_room old → has_room (bucket_at x.buckets.items name) ≡ b
  room_is b r = ap (λ k. has_room (get_or x.buckets.items k [])) (sym bucket_is) ∙ (ap has_room (at_is old o) ∙ sym r)

  -- a slot was put into the bucket of the name
  pub slot_put : (mark : ℕ) (bucket after : List Slot) → mark ≡ mixed_to % 2 ^ 32 → true ≡ has_room old
      → bucket ≡ get_or x.buckets.items at bucket → after ≡ bucket ++ record { mark = mark; number = number } ∷ []
      → y.buckets.items ≡ slice_set x.buckets.items at after → y.others ≡ x.others → IsIndexOf (names ++ name ∷ []) y
  slot_put mark bucket after k r b f p same =
      slot_indexed names x name is none y (room_is true r) (omega (arith, lt, n, bucket_is)) (
      p
      ∙ (ap (λ l. slice_set x.buckets.items at l) f
      ∙ (ap (λ l. slice_set x.buckets.items at (l ++ record { mark = mark; number = number } ∷ [])) (sym (at_is bucket b))
      ∙ (ap (λ j. one_more x.buckets.items at (record { mark = j; number = number })) (k ∙ ap (λ (j : ℕ). j % 2 ^ 32) (m ∙ ap mixed s))
      ∙ (ap (λ j. one_more x.buckets.items at (record { mark = mark_of name; number = j })) (sym long)
      ∙ ap (λ j. one_more x.buckets.items j (record { mark = mark_of name; number = length names })) bucket_is))))
      ) same

  -- the name was put into the map
  pub other_put : (key : List ℕ) → false ≡ has_room old → key ≡ name → y.buckets ≡ x.buckets
      → ((q : List ℕ) → among_others y q ≡ cond (is_at (slice_cmp nat_cmp key) q) (Some number) (among_others x q))
      → IsIndexOf (names ++ name ∷ []) y
  other_put key r e same put =
      other_indexed names x name is none y (room_is false r) (ap (λ v. v.items) same)
      (λ q. put q ∙ (ap (λ b. cond b (Some number) (among_others x q))
      (is_eq-slice_cmp key q ∙ ap (λ k. bytes_eq k q) e)
      ∙ ap (λ k. cond (bytes_eq name q) (Some k) (among_others x q)) (sym long)))
