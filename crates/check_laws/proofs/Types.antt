-- The numbers of types, and which names have them.
use Rattle.std.proofs.Common.{◌≡◌, ℕ, zero, suc, ◌+◌, Bool, true, false, not, ◌&&◌, cond, List, [], ◌∷◌, Some, None}
use Rattle.std.proofs.Common.{option_map, slice_get, refl, sym, ◌∙◌, ap, arith}
use Rattle.std.specs.List.{position, position_from}
use Rattle.std.specs.Str.{bytes_eq}
use Rattle.std.specs.Cmp.Lexicographic.{bytes_decides}
use Rattle.std.proofs.lemmas.Iterator.Adapters.{position_from-zero}
use Rattle.term_core.specs.declared.flow.FlowKind.{FlowKind}
use Rattle.coll_data.specs.Data.{Data}
use Rattle.std.proofs.lemmas.Option.{same_Some}
use Rattle.list_lemmas.proofs.Options.{from_option_map}
use Rattle.type_rules.specs.Kinds.{is_control}
use Rattle.coll_data.specs.Types.{default_type}
use Rattle.type_rules.specs.Datatypes.{allowed_type, type_is, type_number}

-- an element that is found passes the test
found_from : {A : Type 0} (p : A → Bool) (i : ℕ) (xs : List A) (n : ℕ) → position_from p i xs ≡ Some n
    → (k : ℕ) × (x : A) × (n ≡ i + k) × (slice_get xs k ≡ Some x) × (p x ≡ true)
found_from p i [] n e = absurd cc
found_from {A} p i (x ∷ xs) n e = by (p x) refl e (found_from p (i + 1) xs n) where
  by : (b : Bool) → p x ≡ b → cond b (Some i) (position_from p (i + 1) xs) ≡ Some n
      → (position_from p (i + 1) xs ≡ Some n → (k : ℕ) × (y : A) × (n ≡ (i + 1) + k) × (slice_get xs k ≡ Some y)
      × (p y ≡ true)) → (k : ℕ) × (y : A) × (n ≡ i + k) × (slice_get (x ∷ xs) k ≡ Some y) × (p y ≡ true)
  by true at f later = let same : i ≡ n = same_Some i n f in (zero, x, omega (arith, same), refl, at)
  by false at f later = let q = later f in let sum = q.2 in (suc q.0, q.1, omega (arith, sum), q.3, q.4)

found : {A : Type 0} (p : A → Bool) (xs : List A) (n : ℕ) → position p xs ≡ Some n → (x : A) × (slice_get xs n ≡ Some x) × (p x ≡ true)
found p xs n e =
    let q = found_from p 0 xs n (sym (position_from-zero p xs) ∙ e) in
    let sum = q.2 in
    let same : q.0 ≡ n = omega (arith, sum) in
    (q.1, ap (slice_get xs) (sym same) ∙ q.3, q.4)

-- a type of the data, found by its number
numbered : (d : Data) (name : List ℕ) (n : ℕ) → option_map suc (position (type_is name) d.types) ≡ Some n
    → (k : ℕ) × (t : List ℕ × ℕ) × (suc k ≡ n) × (slice_get d.types k ≡ Some t) × (t.0 ≡ name)
numbered d name n e =
    let p = from_option_map suc (position (type_is name) d.types) n e in
    let q = found (type_is name) d.types p.0 p.1 in
    (p.0, q.0, p.2, q.1, (bytes_decides q.0.0 name).0 q.2)

pub one_name : (d : Data) (a b : List ℕ) (n : ℕ) → type_number d a ≡ Some n → type_number d b ≡ Some n → a ≡ b
one_name d a b n e f = by (bytes_eq a default_type) (bytes_eq b default_type) refl refl e f where
  by : (x y : Bool) → bytes_eq a default_type ≡ x → bytes_eq b default_type ≡ y
      → cond x (Some 0) (option_map suc (position (type_is a) d.types)) ≡ Some n
      → cond y (Some 0) (option_map suc (position (type_is b) d.types)) ≡ Some n → a ≡ b
  by true true p q g h = (bytes_decides a default_type).0 p ∙ sym ((bytes_decides b default_type).0 q)
  by true false p q g h =
      let first : 0 ≡ n = same_Some 0 n g in
      let s = numbered d b n h in
      let second = s.2 in
      absurd (omega (arith, first, second))
  by false true p q g h =
      let first : 0 ≡ n = same_Some 0 n h in
      let s = numbered d a n g in
      let second = s.2 in
      absurd (omega (arith, first, second))
  by false false p q g h =
      let s = numbered d a n g in
      let t = numbered d b n h in
      let left = s.2 in
      let right = t.2 in
      let same : s.0 ≡ t.0 = omega (arith, left, right) in
      let one : s.1 ≡ t.1 = same_Some s.1 t.1 (sym s.3 ∙ (ap (slice_get d.types) same ∙ t.3)) in
      sym s.4 ∙ (ap (λ (z : List ℕ × ℕ). z.0) one ∙ t.4)

-- the type that a flow may have, given its kind
pub control_name : (d : Data) (k : FlowKind) (name : List ℕ) (n : ℕ) → is_control k ≡ true → allowed_type d k name ≡ Some n → name ≡ default_type
control_name d k name n c e = by (bytes_eq name default_type) refl
    (ap (λ b. cond (b && not (bytes_eq name default_type)) None (type_number d name)) (sym c) ∙ e) where
      by : (b : Bool) → bytes_eq name default_type ≡ b → cond (not b) None (type_number d name) ≡ Some n → name ≡ default_type
      by true at f = (bytes_decides name default_type).0 at
      by false at f = absurd cc
