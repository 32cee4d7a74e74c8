-- Tables from names to values that grow by one name.
use Rattle.std.proofs.Common.{◌≡◌, ℕ, ◌+◌, ◌<◌, Bool, true, false, cond, not, List, [], ◌∷◌, ◌++◌, length, take, get_or, Option, Some, None, is_some}
use Rattle.std.proofs.Common.{if◌then◌else◌, bytes_eq, refl, sym, ◌∙◌, ap, subst, arith}
use Rattle.std.specs.Option.{option_or}
use Rattle.std.specs.List.{position, position_from}
use Rattle.std.specs.Cmp.Lexicographic.{bytes_decides}
use Rattle.std.proofs.lemmas.Iterator.Adapters.{position_from-zero}
use Rattle.std.proofs.lemmas.List.{take_more, length-take-le}
use Rattle.name_table.specs.Names.{value_named}

-- the value of a pair, if it has this name
abbrev pub if_named : {V : Type 0} → List ℕ → V → List ℕ → Option V
if_named x v n = cond (bytes_eq n x) (Some v) None

or_none : {V : Type 0} (o : Option V) → option_or o None ≡ o
or_none None = refl
or_none (Some x) = refl

-- the value of a name after a pair is appended to a list of pairs
pub value_pushed : {V : Type 0} (table : List (List ℕ × V)) (x : List ℕ) (v : V) (n : List ℕ)
    → value_named (table ++ (x, v) ∷ []) n ≡ option_or (value_named table n) (if_named x v n)
value_pushed [] x v n = refl
value_pushed (e ∷ table) x v n = go (value_pushed table x v n) (bytes_eq n e.0)
  where
    go : (value_named (table ++ (x, v) ∷ []) n ≡ option_or (value_named table n) (if_named x v n)) → (b : Bool)
        → cond b (Some e.1) (value_named (table ++ (x, v) ∷ []) n)
        ≡ option_or (cond b (Some e.1) (value_named table n)) (if_named x v n)
    go later true = refl
    go later false = later

-- the value of a name after a pair is added to a table
value_added : {V : Type 0} (table after : List (List ℕ × V)) (x : List ℕ) (v : V) (new : Bool)
    → new ≡ not (is_some (value_named table x)) → after ≡ (if new then table ++ (x, v) ∷ [] else table)
    → (n : List ℕ) → value_named after n ≡ option_or (value_named table n) (if_named x v n)
value_added {V} table after x v new e s n = go (is_some (value_named table x)) refl
  where
    there : (o : Option V) → is_some o ≡ true → o ≡ option_or o (Some v)
    there None h = absurd cc
    there (Some y) h = refl

    same : is_some (value_named table x) ≡ true → (b : Bool) → bytes_eq n x ≡ b → value_named table n ≡ option_or (value_named table n) (cond b (Some v) None)
    same h true q = there (value_named table n) (subst (λ m. is_some (value_named table m) ≡ true) (sym ((bytes_decides n x).0 q)) h)
    same h false q = sym (or_none (value_named table n))

    go : (b : Bool) → is_some (value_named table x) ≡ b → value_named after n ≡ option_or (value_named table n) (if_named x v n)
    go true h =
        let l : after ≡ table = s ∙ ap (λ b. if b then table ++ (x, v) ∷ [] else table) (e ∙ ap not h) in
        ap (λ t. value_named t n) l ∙ same h (bytes_eq n x) refl
    go false h =
        let l : after ≡ table ++ (x, v) ∷ [] = s ∙ ap (λ b. if b then table ++ (x, v) ∷ [] else table) (e ∙ ap not h) in
        ap (λ t. value_named t n) l ∙ value_pushed table x v n

-- a table of the declared names of a list, after the list gains a name that is declared
pub table_step : {V : Type 0} (declared : List ℕ → Bool) (old more : List ℕ → Option V) (table after : List (List ℕ × V)) (x : List ℕ) (v : V) (new : Bool)
    → ((n : List ℕ) → value_named table n ≡ cond (declared n) (old n) None)
    → ((n : List ℕ) → more n ≡ option_or (old n) (if_named x v n))
    → declared x ≡ true → new ≡ not (is_some (value_named table x)) → after ≡ (if new then table ++ (x, v) ∷ [] else table)
    → (n : List ℕ) → value_named after n ≡ cond (declared n) (more n) None
table_step declared old more table after x v new tables mores given e s n =
    value_added table after x v new e s n ∙ (ap (λ o. option_or o (if_named x v n)) (tables n) ∙ go (declared n) (bytes_eq n x) refl refl)
  where
    go : (d b : Bool) → declared n ≡ d → bytes_eq n x ≡ b → option_or (cond d (old n) None) (if_named x v n) ≡ cond d (more n) None
    go true b h q = sym (mores n)
    go false true h q = let d : declared n ≡ true = subst (λ m. declared m ≡ true) (sym ((bytes_decides n x).0 q)) given in absurd cc
    go false false h q = ap (λ b. cond b (Some v) None) q

-- and after it gains a name that is not declared
pub table_skip : {V : Type 0} (declared : List ℕ → Bool) (old more : List ℕ → Option V) (table : List (List ℕ × V)) (x : List ℕ) (v : V)
    → ((n : List ℕ) → value_named table n ≡ cond (declared n) (old n) None)
    → ((n : List ℕ) → more n ≡ option_or (old n) (if_named x v n))
    → declared x ≡ false → (n : List ℕ) → value_named table n ≡ cond (declared n) (more n) None
table_skip declared old more table x v tables mores other n = tables n ∙ go (declared n) (bytes_eq n x) refl refl
  where
    go : (d b : Bool) → declared n ≡ d → bytes_eq n x ≡ b → cond d (old n) None ≡ cond d (more n) None
    go true true h q = let d : declared n ≡ false = subst (λ m. declared m ≡ false) (sym ((bytes_decides n x).0 q)) other in absurd cc
    go true false h q = sym (mores n ∙ (ap (λ b. option_or (old n) (cond b (Some v) None)) q ∙ or_none (old n)))
    go false b h q = refl

-- the value of a name in one more pair of a list of pairs
pub value_more : {V : Type 0} (xs : List (List ℕ × V)) (i : ℕ) (d : List ℕ × V) (n : List ℕ) → i < length xs
    → value_named (take (i + 1) xs) n ≡ option_or (value_named (take i xs) n) (if_named (get_or xs i d).0 (get_or xs i d).1 n)
value_more xs i d n lt = ap (λ l. value_named l n) (take_more xs i d lt) ∙ value_pushed (take i xs) (get_or xs i d).0 (get_or xs i d).1 n

module _ {X : Type 0} (p : X → Bool) where
  from_push : (i : ℕ) (xs : List X) (y : X) → position_from p i (xs ++ y ∷ []) ≡ option_or (position_from p i xs) (cond (p y) (Some (i + length xs)) None)
  from_push i [] y = let e : i ≡ i + length {A = X} [] = omega arith in ap (λ k. cond (p y) (Some k) None) e
  from_push i (x ∷ xs) y =
      let e : (i + 1) + length xs ≡ i + length (x ∷ xs) = omega arith in
      go (p x) (from_push (i + 1) xs y ∙ ap (λ k. option_or (position_from p (i + 1) xs) (cond (p y) (Some k) None)) e)
    where
      go : (b : Bool) → position_from p (i + 1) (xs ++ y ∷ []) ≡ option_or (position_from p (i + 1) xs) (cond (p y) (Some (i + length (x ∷ xs))) None)
          → cond b (Some i) (position_from p (i + 1) (xs ++ y ∷ []))
          ≡ option_or (cond b (Some i) (position_from p (i + 1) xs))
          (cond (p y) (Some (i + length (x ∷ xs))) None)
      go true later = refl
      go false later = later

  position_push : (xs : List X) (y : X) → position p (xs ++ y ∷ []) ≡ option_or (position p xs) (cond (p y) (Some (length xs)) None)
  position_push xs y =
      let e : 0 + length xs ≡ length xs = omega arith in
      position_from-zero p (xs ++ y ∷ []) ∙ (from_push 0 xs y ∙ (λ i. option_or (sym (position_from-zero p xs) i) (cond (p y) (Some (e i)) None)))

  -- the first index among one more element
  pub position_more : (xs : List X) (i : ℕ) (d : X) → i < length xs
      → position p (take (i + 1) xs) ≡ option_or (position p (take i xs)) (cond (p (get_or xs i d)) (Some i) None)
  position_more xs i d lt =
      let count : length (take i xs) ≡ i = length-take-le i xs (omega arith) in
      ap (position p) (take_more xs i d lt)
      ∙ (position_push (take i xs) (get_or xs i d) ∙ ap (λ k. option_or (position p (take i xs)) (cond (p (get_or xs i d)) (Some k) None)) count)
