-- If each number in the definitions of a class has 64 bits, so do its parameters.
use Rattle.std.proofs.Common.{◌≡◌, ℕ, zero, suc, ◌<◌, ℤ, pos, negsuc, Bool, true, false, cond, ◌&&◌, List, [], ◌∷◌}
use Rattle.std.proofs.Common.{◌++◌, refl, ap, sym, ◌∙◌, subst, arith, get_or, unsigned_abs, inl, inr}
use Rattle.std.proofs.lemmas.Int.{ints, rem_below}
use Rattle.std.proofs.lemmas.Bool.{and_from, and_parts, lt-ltb, ltb-true}
use Rattle.std.specs.Prelude.{int_div, int_rem, int_lt, int_le, neg_ℤ, not, ◌||◌, ◌+ℤ◌, ◌-ℤ◌, ◌*ℤ◌, Option, Some, None, Result, Ok, Err}
use Rattle.std.specs.Option.{option_map_or}
use Rattle.std.specs.Ordering.{int_eq}
use Rattle.std.specs.List.{list_all}
use Rattle.std.specs.Result.{result_unwrap_or}
use Rattle.ptg_base.specs.Lists.{IsIn}
use Rattle.ptg_base.specs.Returns.{and_then}
use Rattle.list_lemmas.proofs.Members.{from_flat_map, from_map, list_all-from_members}
use Rattle.list_lemmas.proofs.Truth.{chosen}
use Rattle.std.proofs.lemmas.Option.{same_Some}
use Rattle.term_core.specs.Arith.{arithmetic, decided, divided, fitted, holds, is_number, truth, unary_value}
use Rattle.term_core.specs.Term.{Term, Num, Local, Elem, Unary, Binary, Choose}
use Rattle.term_core.specs.Value.{map_fault, value}
use Rattle.term_core.specs.declared.fault.ExprFault.{ExprFault}
use Rattle.term_core.specs.declared.fault.ExprFault.TheVariants.{Divide, Overflow}
use Rattle.term_core.specs.declared.operator.UnOp.{UnOp}
use Rattle.term_core.specs.declared.operator.UnOp.TheVariants.{Neg, Not}
use Rattle.term_core.specs.declared.operator.BinOp.{BinOp}
use Rattle.term_core.specs.declared.operator.BinOp.TheVariants.{Add, Sub, Mul, Div, Rem, Eq, Ne, Lt, Le, Gt, Ge, And, Or}
use Rattle.term_core.specs.declared.space.Def.{Def}
use Rattle.term_core.specs.declared.space.Def.TheVariants.{Span, Value}
use Rattle.term_core.specs.declared.space.Range.{Range}
use Rattle.term_core.specs.declared.space.ClassSpace.{ClassSpace}
use Rattle.range_space.specs.Fault.{Bounds, bounds, number, range_values, step_number}
use Rattle.range_space.specs.Tasks.{all_locals, def_values, full_lists, params_of, tasks}
use Rattle.range_space.specs.Values.{is_within, values}
use Rattle.range_space.specs.declared.fault.SpanFault.{SpanFault}
use Rattle.range_space.specs.declared.fault.SpanFault.TheVariants.{Expr}
use Rattle.range_space.proofs.CallerLemmas.{values_way}
use Rattle.edge_laws.specs.Numbers.{def_has_numbers, has_numbers, range_has_numbers}

-- ---- values of expressions

-- a value and a fault, as results
abbrev good : {F : Type 0} → ℤ → Result ℤ F
good z = Ok z

abbrev bad : {F : Type 0} → F → Result ℤ F
bad d = Err d

ok_is : {F : Type 0} (a b : ℤ) → good {F = F} a ≡ good b → a ≡ b
ok_is a b e = cc

not_ok : {F : Type 0} (d : F) (z : ℤ) → bad d ≡ good z → ⊥
not_ok d z e = cc

small_number : (z : ℤ) → unsigned_abs z < 9223372036854775808 → is_number z ≡ true
small_number (pos n) h = lt-ltb n 9223372036854775808 h
small_number (negsuc n) h = lt-ltb n 9223372036854775808 (omega arith)

number_within : (z : ℤ) → is_number z ≡ true → unsigned_abs z < 9223372036854775809
number_within (pos n) h = let b = ltb-true n 9223372036854775808 h in omega arith
number_within (negsuc n) h = let b = ltb-true n 9223372036854775808 h in omega arith

truth_number : (b : Bool) → is_number (truth b) ≡ true
truth_number true = refl
truth_number false = refl

fitted_number : (w z : ℤ) → fitted w ≡ Ok z → is_number z ≡ true
fitted_number w z e = elim (chosen (is_number w) (Ok w) (Err Overflow) (Ok z) e) [
  | inl p ↦ subst (λ x. is_number x ≡ true) (ok_is w z p.1) p.0
  | inr p ↦ absurd (not_ok Overflow z p.1)
]

not_zero : (b : ℤ) → int_eq b (pos 0) ≡ false → 0 < unsigned_abs b
not_zero (pos zero) h = absurd cc
not_zero (pos (suc n)) h = omega arith
not_zero (negsuc n) h = omega arith

-- a quotient or a remainder exists only if the divisor is not 0 and the quotient has 64 bits
divided_parts : (a b w z : ℤ) → divided a b w ≡ Ok z → (0 < unsigned_abs b) × (is_number (int_div a b) ≡ true) × (w ≡ z)
divided_parts a b w z e =
    elim (chosen (int_eq b (pos 0)) (Err Divide) (cond (is_number (int_div a b)) (Ok w) (Err Overflow)) (Ok z) e) [
      | inl p ↦ absurd (not_ok Divide z p.1)
      | inr p ↦ elim (chosen (is_number (int_div a b)) (Ok w) (Err Overflow) (Ok z) p.1) [
        | inl q ↦ (not_zero b p.0, q.0, ok_is w z q.1)
        | inr q ↦ absurd (not_ok Overflow z q.1)
      ]
    ]

quotient_number : (a b z : ℤ) → divided a b (int_div a b) ≡ Ok z → is_number z ≡ true
quotient_number a b z e =
    let p = divided_parts a b (int_div a b) z e in
    subst (λ x. is_number x ≡ true) p.2 p.1

remainder_number : (a b z : ℤ) → is_number b ≡ true → divided a b (int_rem a b) ≡ Ok z → is_number z ≡ true
remainder_number a b z h e =
    let p = divided_parts a b (int_rem a b) z e in
    let below = rem_below a b p.0 in
    let most = number_within b h in
    subst (λ x. is_number x ≡ true) p.2 (small_number (int_rem a b) (omega arith))

truth_is : (b : Bool) (z : ℤ) → good {F = ExprFault} (truth b) ≡ good z → is_number z ≡ true
truth_is b z e = subst (λ x. is_number x ≡ true) (ok_is (truth b) z e) (truth_number b)

arithmetic_number : (o : BinOp) (a b z : ℤ) → is_number b ≡ true → arithmetic o a b ≡ Ok z → is_number z ≡ true
arithmetic_number Add a b z h e = fitted_number (a +ℤ b) z e
arithmetic_number Sub a b z h e = fitted_number (a -ℤ b) z e
arithmetic_number Mul a b z h e = fitted_number (a *ℤ b) z e
arithmetic_number Div a b z h e = quotient_number a b z e
arithmetic_number Rem a b z h e = remainder_number a b z h e
arithmetic_number Eq a b z h e = truth_is (int_eq a b) z e
arithmetic_number Ne a b z h e = truth_is (not (int_eq a b)) z e
arithmetic_number Lt a b z h e = truth_is (int_lt a b) z e
arithmetic_number Le a b z h e = truth_is (int_le a b) z e
arithmetic_number Gt a b z h e = truth_is (int_lt b a) z e
arithmetic_number Ge a b z h e = truth_is (int_le b a) z e
arithmetic_number And a b z h e = truth_is (holds a && holds b) z e
arithmetic_number Or a b z h e = truth_is (holds a || holds b) z e

unary_number : (o : UnOp) (a z : ℤ) → unary_value o a ≡ Ok z → is_number z ≡ true
unary_number Neg a z e = fitted_number (neg_ℤ a) z e
unary_number Not a z e = truth_is (not (holds a)) z e

decided_number : (o : BinOp) (a w : ℤ) → decided o a ≡ Some w → is_number w ≡ true
decided_number Add a w e = absurd cc
decided_number Sub a w e = absurd cc
decided_number Mul a w e = absurd cc
decided_number Div a w e = absurd cc
decided_number Rem a w e = absurd cc
decided_number Eq a w e = absurd cc
decided_number Ne a w e = absurd cc
decided_number Lt a w e = absurd cc
decided_number Le a w e = absurd cc
decided_number Gt a w e = absurd cc
decided_number Ge a w e = absurd cc
decided_number And a w e = elim (chosen (holds a) None (Some (pos 0)) (Some w) e) [
  | inl p ↦ let k = p.1 in absurd cc
  | inr p ↦ subst (λ x. is_number x ≡ true) (same_Some (pos 0) w p.1) refl
]
decided_number Or a w e = elim (chosen (holds a) (Some (pos 1)) None (Some w) e) [
  | inl p ↦ subst (λ x. is_number x ≡ true) (same_Some (pos 1) w p.1) refl
  | inr p ↦ let k = p.1 in absurd cc
]

then_parts : {A B E : Type 0} (r : Result A E) (f : A → Result B E) (z : B) → and_then r f ≡ Ok z
    → (x : A) × (r ≡ Ok x) × (f x ≡ Ok z)
then_parts (Ok x) f z e = (x, refl, e)
then_parts (Err d) f z e = absurd cc

mapped_parts : {F : Type 0} (f : ExprFault → F) (r : Result ℤ ExprFault) (z : ℤ) → map_fault f r ≡ Ok z → r ≡ Ok z
mapped_parts f (Ok x) z e = ap Ok (ok_is x z e)
mapped_parts f (Err d) z e = absurd cc

binary_number : (o : BinOp) (right : Result ℤ ExprFault) → ((y : ℤ) → right ≡ Ok y → is_number y ≡ true) → (x z : ℤ)
    → (d : Option ℤ) → decided o x ≡ d
    → option_map_or Ok d (and_then right (λ y. map_fault (λ f. f) (arithmetic o x y))) ≡ Ok z → is_number z ≡ true
binary_number o right numbers x z None f e =
    let q = then_parts right (λ y. map_fault (λ f. f) (arithmetic o x y)) z e in
    arithmetic_number o x q.0 z (numbers q.0 q.1) (mapped_parts (λ f. f) (arithmetic o x q.0) z q.2)
binary_number o right numbers x z (Some w) f e = subst (λ y. is_number y ≡ true) (ok_is w z e) (decided_number o x w f)

index_number : (env : List ℤ) (n : ℕ) → list_all is_number env ≡ true → is_number (get_or env n (pos 0)) ≡ true
index_number [] zero h = refl
index_number [] (suc n) h = refl
index_number (x ∷ xs) zero h = (and_parts (is_number x) (list_all is_number xs) h).0
index_number (x ∷ xs) (suc n) h = index_number xs n (and_parts (is_number x) (list_all is_number xs) h).1

module _ (env : List ℤ) (fit : list_all is_number env ≡ true) where
  pub value_number : (e : Term) (z : ℤ) → has_numbers e ≡ true → value e env ≡ Ok z → is_number z ≡ true
  value_number (Num w) z h e = subst (λ x. is_number x ≡ true) (ok_is w z e) h
  value_number (Local n) z h e = subst (λ x. is_number x ≡ true) (ok_is (get_or env n (pos 0)) z e) (index_number env n fit)
  value_number (Elem flow at) z h e =
      let p = then_parts (value at env) (λ i. Ok (pos 0)) z e in
      subst (λ x. is_number x ≡ true) (ok_is (pos 0) z p.2) refl
  value_number (Unary o a) z h e =
      let p = then_parts (value a env) (λ x. map_fault (λ f. f) (unary_value o x)) z e in
      unary_number o p.0 z (mapped_parts (λ f. f) (unary_value o p.0) z p.2)
  value_number (Binary o a b) z h e =
      let rest : ℤ → Result ℤ ExprFault = λ x. and_then (value b env) (λ y. map_fault (λ f. f) (arithmetic o x y)) in
      let p = then_parts (value a env) (λ x. option_map_or Ok (decided o x) (rest x)) z e in
      let right = (and_parts (has_numbers a) (has_numbers b) h).1 in
      binary_number o (value b env) (λ y f. value_number b y right f) p.0 z (decided o p.0) refl p.2
  value_number (Choose c a b) z h e =
      let p = then_parts (value c env) (λ x. cond (holds x) (value a env) (value b env)) z e in
      let parts = and_parts (has_numbers c) (has_numbers a && has_numbers b) h in
      let both = and_parts (has_numbers a) (has_numbers b) parts.1 in
      elim (chosen (holds p.0) (value a env) (value b env) (Ok z) p.2) [
        | inl q ↦ value_number a z both.0 q.1
        | inr q ↦ value_number b z both.1 q.1
      ]

only : {A : Type 0} (x y : A) → IsIn x (y ∷ []) → x ≡ y
only x y (inl e) = e
only x y (inr h) = absurd h

-- ---- values of ranges and of definitions

-- the numbers of 64 bits are those from -(2^63) to 2^63 - 1
abbrev IsBetween : ℤ → Type 0
IsBetween z = (int_le (negsuc 9223372036854775807) z ≡ true) × (int_le z (pos 9223372036854775807) ≡ true)

bounds_of : (z : ℤ) → is_number z ≡ true → IsBetween z
bounds_of (pos n) h = let b = ltb-true n 9223372036854775808 h in (grind (arith, ints), grind (arith, ints))
bounds_of (negsuc n) h = let b = ltb-true n 9223372036854775808 h in (grind (arith, ints), grind (arith, ints))

number_of : (z : ℤ) → int_le (negsuc 9223372036854775807) z ≡ true → int_le z (pos 9223372036854775807) ≡ true → is_number z ≡ true
number_of (pos n) h k = small_number (pos n) (grind (arith, ints))
number_of (negsuc n) h k = lt-ltb n 9223372036854775808 (grind (arith, ints))

le_trans : (a b c : ℤ) → int_le a b ≡ true → int_le b c ≡ true → int_le a c ≡ true
le_trans a b c h k = grind (arith, ints)

-- a number from one number of 64 bits on and within another one has 64 bits
between_numbers : (lo hi step x : ℤ) → is_within hi step x ≡ true → is_within x step lo ≡ true → is_number lo ≡ true
    → is_number hi ≡ true → is_number x ≡ true
between_numbers lo hi (pos zero) x h k l m = absurd cc
between_numbers lo hi (pos (suc n)) x h k l m =
    let from = bounds_of lo l in
    let to = bounds_of hi m in
    number_of x (le_trans (negsuc 9223372036854775807) lo x from.0 k) (le_trans x hi (pos 9223372036854775807) h to.1)
between_numbers lo hi (negsuc n) x h k l m =
    let from = bounds_of lo l in
    let to = bounds_of hi m in
    number_of x (le_trans (negsuc 9223372036854775807) hi x to.0 h) (le_trans x lo (pos 9223372036854775807) k from.1)

abbrev done : {A E : Type 0} → A → Result A E
done a = Ok a

done_is : {A E : Type 0} (a b : A) → done {E = E} a ≡ done b → a ≡ b
done_is a b e = cc

span_value : (e : Term) (env : List ℤ) (z : ℤ) → map_fault Expr (value e env) ≡ Ok z → value e env ≡ Ok z
span_value e env z h = mapped_parts Expr (value e env) z h

module _ (env : List ℤ) (fit : list_all is_number env ≡ true) where
  -- the values of a range whose numbers have 64 bits
  range_numbers : (r : Range) (vs : List ℤ) → range_has_numbers r ≡ true → range_values r env ≡ Ok vs → (v : ℤ) → IsIn v vs
      → is_number v ≡ true
  range_numbers r vs h e v i =
      let parts = and_parts (has_numbers r.lo) (has_numbers r.hi && option_map_or has_numbers r.step true) h in
      let more = and_parts (has_numbers r.hi) (option_map_or has_numbers r.step true) parts.1 in
      let b = then_parts (bounds r env) (λ b. Ok (values b.lo b.hi b.step)) vs e in
      let lo = then_parts (number r.lo env) (λ lo. and_then (number r.hi env)
      (λ hi. and_then (step_number r.step env) (λ step. Ok (record { lo = lo; hi = hi; step = step })))) b.0 b.1 in
      let hi = then_parts (number r.hi env) (λ hi. and_then (step_number r.step env) (λ step. Ok (record { lo = lo.0; hi = hi; step = step }))) b.0 lo.2 in
      let step = then_parts (step_number r.step env) (λ step. Ok (record { lo = lo.0; hi = hi.0; step = step })) b.0 hi.2 in
      let way = values_way lo.0 hi.0 step.0 v (subst (IsIn v)
      (sym (done_is {E = SpanFault} (values b.0.lo b.0.hi b.0.step) vs b.2)
      ∙ ap (λ (b : Bounds). values b.lo b.hi b.step) (sym
      (done_is {E = SpanFault} (record { lo = lo.0; hi = hi.0; step = step.0 }) b.0 step.2))) i) in
      between_numbers lo.0 hi.0 step.0 v way.before_end way.after_start
      (value_number env fit r.lo lo.0 parts.0 (span_value r.lo env lo.0 lo.1))
      (value_number env fit r.hi hi.0 more.0 (span_value r.hi env hi.0 hi.1))

  def_numbers : (d : Def) (vs : List ℤ) → def_has_numbers d ≡ true → def_values d env ≡ Ok vs → (v : ℤ) → IsIn v vs → is_number v ≡ true
  def_numbers (Span r) vs h e v i = range_numbers r vs h e v i
  def_numbers (Value t) vs h e v i =
      let p = then_parts (number t env) (λ z. Ok (z ∷ [])) vs e in
      let m : v ≡ p.0 = only v p.0 (subst (IsIn v) (sym (done_is {E = SpanFault} (p.0 ∷ []) vs p.2)) i) in
      subst (λ x. is_number x ≡ true) (sym m) (value_number env fit t p.0 h (span_value t env p.0 p.1))

  -- a definition with a fault has no values
  values_numbers : (d : Def) → def_has_numbers d ≡ true → (v : ℤ) → IsIn v (result_unwrap_or (def_values d env) []) → is_number v ≡ true
  values_numbers d h v i = go (def_values d env) refl i
    where
      go : (r : Result (List ℤ) SpanFault) → def_values d env ≡ r → IsIn v (result_unwrap_or r []) → is_number v ≡ true
      go (Ok vs) e i = def_numbers d vs h e v i
      go (Err f) e i = absurd i

pushed_number : (env : List ℤ) (v : ℤ) → list_all is_number env ≡ true → is_number v ≡ true → list_all is_number (env ++ v ∷ []) ≡ true
pushed_number [] v h k = and_from (is_number v) true k refl
pushed_number (x ∷ xs) v h k =
    let p = and_parts (is_number x) (list_all is_number xs) h in
    and_from (is_number x) (list_all is_number (xs ++ v ∷ [])) p.0 (pushed_number xs v p.1 k)

lists_numbers : (ds : List Def) (outer : List ℤ) → list_all def_has_numbers ds ≡ true → list_all is_number outer ≡ true → (l : List ℤ)
    → IsIn l (full_lists ds outer) → list_all is_number l ≡ true
lists_numbers [] outer h fit l i = subst (λ m. list_all is_number m ≡ true) (sym (only l outer i)) fit
lists_numbers (d ∷ ds) outer h fit l i =
    let p = and_parts (def_has_numbers d) (list_all def_has_numbers ds) h in
    let m = from_flat_map (λ v. full_lists ds (outer ++ v ∷ [])) (result_unwrap_or (def_values d outer) []) l i in
    lists_numbers ds (outer ++ m.0 ∷ []) p.1 (pushed_number outer m.0 fit (values_numbers outer fit d p.0 m.0 m.1)) l m.2

pub parameters_numbers : (s : ClassSpace) (params : List ℤ) → list_all def_has_numbers s.defs ≡ true → IsIn params (tasks s)
    → list_all is_number params ≡ true
parameters_numbers s params h i =
    let m = from_map (params_of s.params) (all_locals s) params i in
    let fit = lists_numbers s.defs [] h refl m.0 m.1 in
    subst (λ l. list_all is_number l ≡ true) (sym m.2) (list_all-from_members is_number (params_of s.params m.0) (λ x j.
    let p = from_map (λ p. get_or m.0 p (pos 0)) s.params x j in
    subst (λ y. is_number y ≡ true) (sym p.2) (index_number m.0 p.0 fit)))
