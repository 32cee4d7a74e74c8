-- If the same variables are seen, whatever their slots, names have the same faults.
use Rattle.std.proofs.Common.{◌≡◌, ℕ, zero, suc, Bool, true, false, cond, List, [], ◌∷◌, ◌++◌, length, take, drop, Ok, Err, refl, sym, ap, ◌∙◌}
use Rattle.std.specs.Prelude.{Option, Some, None, option_map, find, reverse, ◌||◌}
use Rattle.std.specs.Str.{bytes_eq}
use Rattle.std.specs.List.{list_any}
use Rattle.std.proofs.lemmas.List.{reverse-append}
use Rattle.name_table.specs.Names.{index_named}
use Rattle.jdf_lex.specs.declared.fault.JdfCode.TheVariants.{NameTwice}
use Rattle.jdf_tree.specs.declared.expression.Word.{Word}
use Rattle.jdf_tree.specs.Expression.{Expression, Num, Name, Elem, Unary, Binary, Choose}
use Rattle.ptg_base.specs.Returns.{and_then}
use Rattle.expr_names.specs.declared.meaning.Meaning.{Meaning}
use Rattle.expr_names.specs.declared.meaning.Meaning.TheVariants as meaning
use Rattle.body_lang.specs.Environment.{Environment}
use Rattle.body_lang.specs.declared.variable.Variable.{Variable}
use Rattle.body_lang.specs.Meanings.{last_named, variable_or, meaning_of, outer_meaning}
use Rattle.expr_names.specs.Symbols.{Resolved}
use Rattle.body_lang.specs.Expressions.{value_of, slot_of, read_flow, term_of}
use Rattle.body_lang.specs.Bindings.{Bindings, require_fresh}
use Rattle.body_lang.specs.TokenScan.{fault_of}
use Rattle.body_laws.proofs.Judging.{unary_fault, binary_fault, choose_fault, elem_fault}

-- variables without their slots
abbrev pub names_of : List Variable → List (List ℕ × Bool)
names_of [] = []
names_of (v ∷ vs) = (v.name, v.is_loop_variable) ∷ names_of vs

pub names_append : (xs ys : List Variable) → names_of (xs ++ ys) ≡ names_of xs ++ names_of ys
names_append [] ys = refl
names_append (v ∷ vs) ys = ap (λ (l : List (List ℕ × Bool)). (v.name, v.is_loop_variable) ∷ l) (names_append vs ys)

pub names_take : (n : ℕ) (xs : List Variable) → names_of (take n xs) ≡ take n (names_of xs)
names_take zero [] = refl
names_take zero (v ∷ vs) = refl
names_take (suc n) [] = refl
names_take (suc n) (v ∷ vs) = ap (λ (l : List (List ℕ × Bool)). (v.name, v.is_loop_variable) ∷ l) (names_take n vs)

names_drop : (n : ℕ) (xs : List Variable) → names_of (drop n xs) ≡ drop n (names_of xs)
names_drop zero [] = refl
names_drop zero (v ∷ vs) = refl
names_drop (suc n) [] = refl
names_drop (suc n) (v ∷ vs) = names_drop n vs

pub names_length : (xs : List Variable) → length (names_of xs) ≡ length xs
names_length [] = refl
names_length (v ∷ vs) = ap suc (names_length vs)

names_reverse : (xs : List Variable) → names_of (reverse xs) ≡ reverse (names_of xs)
names_reverse [] = refl
names_reverse (v ∷ vs) =
    ap names_of (reverse-append (v ∷ []) vs) ∙ (names_append (reverse vs) (v ∷ [])
    ∙ (ap (λ (l : List (List ℕ × Bool)). l ++ (v.name, v.is_loop_variable) ∷ []) (names_reverse vs)
    ∙ sym (reverse-append ((v.name, v.is_loop_variable) ∷ []) (names_of vs))))

-- the same variables are seen, apart from their slots
pub record Alike (k m : Bindings) : Type 0 where
  pub seen : names_of k.seen ≡ names_of m.seen
  pub outside : k.outside ≡ m.outside

-- ---- lookups

abbrev counts_of : Option Variable → Option Bool
counts_of o = option_map (λ (v : Variable). v.is_loop_variable) o

abbrev first_of : List ℕ → List (List ℕ × Bool) → Option Bool
first_of name [] = None
first_of name (x ∷ xs) = cond (bytes_eq x.0 name) (Some x.1) (first_of name xs)

found_is : (name : List ℕ) (xs : List Variable) → counts_of (find (λ (v : Variable). bytes_eq v.name name) xs) ≡ first_of name (names_of xs)
found_is name [] = refl
found_is name (v ∷ vs) = go (bytes_eq v.name name) (found_is name vs)
  where
    go : (b : Bool) → counts_of (find (λ (v : Variable). bytes_eq v.name name) vs) ≡ first_of name (names_of vs)
        → counts_of (cond b (Some v) (find (λ (v : Variable). bytes_eq v.name name) vs)) ≡ cond b (Some v.is_loop_variable) (first_of name (names_of vs))
    go true h = refl
    go false h = h

last_alike : (name : List ℕ) (xs ys : List Variable) → names_of xs ≡ names_of ys → counts_of (last_named xs name) ≡ counts_of (last_named ys name)
last_alike name xs ys e =
    found_is name (reverse xs) ∙ (ap (first_of name) (names_reverse xs ∙ (ap reverse e ∙ sym (names_reverse ys))) ∙ sym (found_is name (reverse ys)))

value_alike_by : (w : Word) (m : Meaning) (o p : Option Variable) → counts_of o ≡ counts_of p
    → fault_of (value_of w (variable_or o m)) ≡ fault_of (value_of w (variable_or p m))
value_alike_by w m None None e = refl
value_alike_by w m None (Some v) e = absurd cc
value_alike_by w m (Some v) None e = absurd cc
value_alike_by w m (Some v) (Some u) e = go v.is_loop_variable u.is_loop_variable
  where
    go : (a b : Bool) → fault_of (value_of w (cond a (meaning.LoopVariable v.slot) (meaning.Variable v.slot)))
        ≡ fault_of (value_of w (cond b (meaning.LoopVariable u.slot) (meaning.Variable u.slot)))
    go true true = refl
    go true false = refl
    go false true = refl
    go false false = refl

slot_alike_by : (w : Word) (m : Meaning) (o p : Option Variable) → counts_of o ≡ counts_of p
    → fault_of (slot_of w (variable_or o m)) ≡ fault_of (slot_of w (variable_or p m))
slot_alike_by w m None None e = refl
slot_alike_by w m None (Some v) e = absurd cc
slot_alike_by w m (Some v) None e = absurd cc
slot_alike_by w m (Some v) (Some u) e = go v.is_loop_variable u.is_loop_variable some_is
  where
    some_is : v.is_loop_variable ≡ u.is_loop_variable
    some_is = cc

    go : (a b : Bool) → a ≡ b → fault_of (slot_of w (cond a (meaning.LoopVariable v.slot) (meaning.Variable v.slot)))
        ≡ fault_of (slot_of w (cond b (meaning.LoopVariable u.slot) (meaning.Variable u.slot)))
    go true true h = refl
    go true false h = absurd cc
    go false true h = absurd cc
    go false false h = refl

module _ (scope : Environment) (xs ys : List Variable) (e : names_of xs ≡ names_of ys) where
  abbrev other : List ℕ → Meaning
  other name = outer_meaning (index_named scope.locals name) (scope.integer name) (scope.is_collection name)

  value_alike : (w : Word) → fault_of (value_of w (meaning_of scope xs w.text)) ≡ fault_of (value_of w (meaning_of scope ys w.text))
  value_alike w = value_alike_by w (other w.text) (last_named xs w.text) (last_named ys w.text) (last_alike w.text xs ys e)

  pub slot_alike : (w : Word) → fault_of (slot_of w (meaning_of scope xs w.text)) ≡ fault_of (slot_of w (meaning_of scope ys w.text))
  slot_alike w = slot_alike_by w (other w.text) (last_named xs w.text) (last_named ys w.text) (last_alike w.text xs ys e)

  pub term_alike : (x : Expression) → fault_of (term_of scope xs x) ≡ fault_of (term_of scope ys x)
  term_alike (Num z spot) = refl
  term_alike (Name w) = value_alike w
  term_alike (Elem w at) = sym (elem_fault scope w at xs) ∙ (ap
      (λ (v : Resolved (Unit {0})). and_then (fault_of (read_flow scope w)) (λ _. v)) (term_alike at)
      ∙ elem_fault scope w at ys)
  term_alike (Unary o a spot) = sym (unary_fault scope o a spot xs) ∙ (term_alike a ∙ unary_fault scope o a spot ys)
  term_alike (Binary o a b) =
      sym (binary_fault scope o a b xs)
      ∙ (ap (λ (v : Resolved (Unit {0})). and_then v (λ _. fault_of (term_of scope xs b))) (term_alike a)
      ∙ (ap (λ (v : Resolved (Unit {0})). and_then (fault_of (term_of scope ys a)) (λ _. v)) (term_alike b) ∙ binary_fault scope o a b ys))
  term_alike (Choose c a b) =
      sym (choose_fault scope c a b xs)
      ∙ (ap (λ (v : Resolved (Unit {0})). and_then v (λ _. and_then (fault_of (term_of scope xs a)) (λ _. fault_of (term_of scope xs b)))) (term_alike c)
      ∙ (ap (λ (v : Resolved (Unit {0})). and_then (fault_of (term_of scope ys c)) (λ _. and_then v (λ _. fault_of (term_of scope xs b)))) (term_alike a)
      ∙ (ap (λ (v : Resolved (Unit {0})). and_then (fault_of (term_of scope ys c))
      (λ _. and_then (fault_of (term_of scope ys a)) (λ _. v))) (term_alike b) ∙ choose_fault scope c a b ys)))

-- ---- declarations

abbrev any_named : List ℕ → List (List ℕ × Bool) → Bool
any_named name [] = false
any_named name (x ∷ xs) = bytes_eq x.0 name || any_named name xs

any_is : (name : List ℕ) (xs : List Variable) → list_any (λ (v : Variable). bytes_eq v.name name) xs ≡ any_named name (names_of xs)
any_is name [] = refl
any_is name (v ∷ vs) = ap (λ (b : Bool). bytes_eq v.name name || b) (any_is name vs)

pub fresh_alike : (w : Word) (k m : Bindings) → Alike k m → require_fresh w k ≡ require_fresh w m
fresh_alike w k m h =
    ap (λ (b : Bool). by_any b)
    (any_is w.text (drop k.outside k.seen)
    ∙ (ap (any_named w.text) (names_drop k.outside k.seen ∙ (ap (drop k.outside) h.seen
    ∙ (ap (λ (n : ℕ). drop n (names_of m.seen)) h.outside ∙ sym (names_drop m.outside m.seen))))
    ∙ sym (any_is w.text (drop m.outside m.seen))))
  where
    by_any : Bool → Resolved (Unit {0})
    by_any b = cond b (Err (record { spot = w.spot; code = NameTwice })) (Ok tt)
