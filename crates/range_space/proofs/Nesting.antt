-- How the full lists of an iteration space continue from one to the next.
use Rattle.std.proofs.Common.{◌≡◌, ℕ, suc, ◌+◌, ◌<◌, ℤ, pos, ◌+ℤ◌, List, [], ◌∷◌, ◌++◌, length, take, drop, get_or}
use Rattle.std.proofs.Common.{refl, ap, sym, ◌∙◌, append_assoc, add-one, Option, Some, None, Result, Ok, Err}
use Rattle.std.proofs.Common.{MatchOption, arith}
use Rattle.std.proofs.lemmas.List.{append-nil, take_more, same_from_push}
use Rattle.std.proofs.lemmas.Int.{ints}
use Rattle.std.proofs.Math.Seq.{drop-cons}
use Rattle.std.specs.Result.{result_unwrap_or}
use Rattle.ptg_base.specs.Returns.{and_then}
use Rattle.term_core.specs.declared.space.Def.{Def}
use Rattle.term_core.specs.declared.space.Def.TheVariants.{Span, Value}
use Rattle.range_space.specs.declared.fault.SpanFault.{SpanFault}
use Rattle.range_space.specs.Values.{is_within, values}
use Rattle.term_core.specs.declared.expr.Expr.{Expr}
use Rattle.term_core.specs.declared.space.Range.{Range}
use Rattle.range_space.specs.Fault.{Bounds, bounds, number}
use Rattle.range_space.specs.Tasks.{full_lists, def_values}
use Rattle.range_space.specs.ListsAfter.{def_bounds, lists_over, lists_over_rest, lists_past, lists_after, IsFirstOf, IsFirstOver, IsFirstPast}
use Rattle.range_space.proofs.Stepping.{values_in, values_past}
use Rattle.list_lemmas.proofs.Truth.{by_test}

-- a range from a number to itself has that number alone
pub values-one : (z : ℤ) → values z z (pos 1) ≡ z ∷ []
values-one z =
    values_in z (pos 1) z (grind (arith, ints)) ∙ ap (λ vs. z ∷ vs) (values_past z (pos 1) (z +ℤ pos 1) (grind (arith, ints)))

-- the values of a definition are those of its bounds
values_of_number : (r : Result ℤ SpanFault) (b : Bounds) → and_then r
    (λ z. Ok (record { lo = z; hi = z; step = pos 1 })) ≡ Ok b
    → and_then r (λ z. Ok (z ∷ [])) ≡ Ok (values b.lo b.hi b.step)
values_of_number (Ok z) b e =
    let h : record { lo = z; hi = z; step = pos 1 } ≡ b = cc in
    ap Ok (sym (values-one z) ∙ ap (λ (x : Bounds). values x.lo x.hi x.step) h)
values_of_number (Err f) b e = absurd cc

fault_of_number : (r : Result ℤ SpanFault) (f : SpanFault) → ◌≡◌ {A = Result Bounds SpanFault}
    (and_then r (λ z. Ok (record { lo = z; hi = z; step = pos 1 }))) (Err f) → and_then r (λ z. Ok (z ∷ [])) ≡ Err f
fault_of_number (Ok z) f e = absurd cc
fault_of_number (Err g) f e = cc

pub def_values-bounds : (d : Def) (env : List ℤ) (b : Bounds) → def_bounds d env ≡ Ok b → def_values d env ≡ Ok (values b.lo b.hi b.step)
def_values-bounds (Span r) env b e = rw e refl
def_values-bounds (Value t) env b e = values_of_number (number t env) b e

pub def_values-fault : (d : Def) (env : List ℤ) (f : SpanFault) → def_bounds d env ≡ Err f → def_values d env ≡ Err f
def_values-fault (Span r) env f e = rw e refl
def_values-fault (Value t) env f e = fault_of_number (number t env) f e

-- the first value and the others
pub values-uncons : (at hi step x : ℤ) (xs : List ℤ) → values at hi step ≡ x ∷ xs → (x ≡ at) × (xs ≡ values (at +ℤ step) hi step)
values-uncons at hi step x xs e =
    by_test (is_within hi step at)
    (λ h. let f = sym e ∙ values_in hi step at h in (cc, cc))
    (λ h. let f = sym e ∙ values_past hi step at h in absurd cc)

not_empty : {A : Type 0} (xs : List A) (v : A) → xs ++ v ∷ [] ≡ [] → ⊥
not_empty [] v e = absurd cc
not_empty (x ∷ xs) v e = absurd cc

-- what is left once the last element is taken away
pub popped : {A : Type 0} (r : Option A) (xs ys : List A) (v : A) → MatchOption r ((xs ++ v ∷ [] ≡ []) × (ys ≡ [])) (λ w. xs ++ v ∷ [] ≡ ys ++ w ∷ []) → ys ≡ xs
popped None xs ys v h = absurd (not_empty xs v h.0)
popped (Some w) xs ys v h = (same_from_push ys xs w v (sym h)).0

module _ (r : Range) (ds : List Def) (outer now : List ℤ) (b : Bounds) (e : bounds r outer ≡ Ok b) where
  full-among : full_lists (Span r ∷ ds) outer ≡ lists_over ds outer (values b.lo b.hi b.step)
  full-among = ap (λ (x : Result (List ℤ) SpanFault). lists_over ds outer (result_unwrap_or x [])) (def_values-bounds (Span r) outer b e)

  pub first_of_among : IsFirstOver (Ok b) ds outer now (lists_over ds outer (values b.lo b.hi b.step))
      → IsFirstOf (Span r ∷ ds) outer now (full_lists (Span r ∷ ds) outer)
  first_of_among s = record {
    locals = s.value ∷ s.locals;
    extends = s.extends;
    one_each = ap suc s.one_each;
    first = full-among ∙ s.first ∙ ap (λ x. now ∷ lists_after ds (outer ++ s.value ∷ []) s.locals ++ lists_over_rest ds outer x s.value) (sym e);
  }

  pub none_of_among : lists_over ds outer (values b.lo b.hi b.step) ≡ [] → full_lists (Span r ∷ ds) outer ≡ []
  none_of_among h = full-among ∙ h

-- an expression has one value
module _ (t : Expr) (ds : List Def) (outer now : List ℤ) (z : ℤ) (e : number t outer ≡ Ok z) where
  full-with : full_lists (Value t ∷ ds) outer ≡ full_lists ds (outer ++ z ∷ [])
  full-with = ap (λ (x : Result ℤ SpanFault). lists_over ds outer (result_unwrap_or (and_then x (λ y. Ok (y ∷ []))) []))
      e ∙ append-nil (full_lists ds (outer ++ z ∷ []))

  pub first_of_value : IsFirstOf ds (outer ++ z ∷ []) now (full_lists ds (outer ++ z ∷ []))
      → IsFirstOf (Value t ∷ ds) outer now (full_lists (Value t ∷ ds) outer)
  first_of_value s = record {
    locals = z ∷ s.locals;
    extends = s.extends ∙ append_assoc outer (z ∷ []) s.locals;
    one_each = ap suc s.one_each;
    first = full-with ∙ s.first ∙ ap (λ l. now ∷ l) (sym (append-nil (lists_after ds (outer ++ z ∷ []) s.locals)));
  }

  pub none_of_value : full_lists ds (outer ++ z ∷ []) ≡ [] → full_lists (Value t ∷ ds) outer ≡ []
  none_of_value h = full-with ∙ h

module _ (ds : List Def) (outer : List ℤ) (b : Bounds) (at v : ℤ) (vs more : List ℤ)
    (so_far : lists_over ds outer (values b.lo b.hi b.step) ≡ lists_over ds outer vs)
    (in_steps : vs ≡ values at b.hi b.step) (next : vs ≡ v ∷ more) where
  pub others : more ≡ values (at +ℤ b.step) b.hi b.step
  others = (values-uncons at b.hi b.step v more (sym in_steps ∙ next)).1

  pub here : v ≡ at
  here = (values-uncons at b.hi b.step v more (sym in_steps ∙ next)).0

  among-here : lists_over ds outer (values b.lo b.hi b.step) ≡ full_lists ds (outer ++ v ∷ []) ++ lists_over ds outer more
  among-here = so_far ∙ ap (lists_over ds outer) next

  pub found_here : (now : List ℤ) → IsFirstOf ds (outer ++ v ∷ []) now (full_lists ds (outer ++ v ∷ []))
      → IsFirstOver (Ok b) ds outer now (lists_over ds outer (values b.lo b.hi b.step))
  found_here now s = record {
    value = v;
    locals = s.locals;
    extends = s.extends ∙ append_assoc outer (v ∷ []) s.locals;
    one_each = s.one_each;
    first = among-here ∙ ap (λ l. l ++ lists_over ds outer more) s.first
        ∙ ap (λ m. now ∷ lists_after ds (outer ++ v ∷ []) s.locals ++ lists_over ds outer m)
        (others ∙ ap (λ z. values (z +ℤ b.step) b.hi b.step) (sym here));
  }

  pub none_here : full_lists ds (outer ++ v ∷ []) ≡ [] → lists_over ds outer (values b.lo b.hi b.step) ≡ lists_over ds outer more
  none_here h = among-here ∙ ap (λ l. l ++ lists_over ds outer more) h

-- a list cut in three: the values before an index, the one at it, and those after it
pub record IsCut (old : List ℤ) (depth : ℕ) (v : ℤ) : Type 0 where
  pub before : take (depth + 1) old ≡ take depth old ++ v ∷ []
  pub from : drop depth old ≡ v ∷ drop (depth + 1) old

pub cut : (old : List ℤ) (depth : ℕ) → depth < length old → IsCut old depth (get_or old depth (pos 0))
cut old depth h = record { before = take_more old depth (pos 0) h; from = rw (add-one) (drop-cons old depth (pos 0) h) }

-- the first list with another value of the definition is the first list
first_past : (d : Def) (ds : List Def) (outer now : List ℤ) (v : ℤ)
    → IsFirstPast d ds outer now (lists_past d ds outer v) → IsFirstOf (d ∷ ds) outer now (lists_past d ds outer v)
first_past (Span r) ds outer now v s = record {
  locals = s.value ∷ s.locals;
  extends = s.extends;
  one_each = ap suc s.one_each;
  first = s.first;
}
first_past (Value t) ds outer now v s = absurd s

module _ (d : Def) (ds : List Def) (old : List ℤ) (depth : ℕ) (v : ℤ) (c : IsCut old depth v) where
  rest-cut : lists_after (d ∷ ds) (take depth old) (drop depth old) ≡ lists_after ds (take (depth + 1) old)
      (drop (depth + 1) old) ++ lists_past d ds (take depth old) v
  rest-cut =
      ap (lists_after (d ∷ ds) (take depth old)) c.from ∙ ap (λ t. lists_after ds t (drop (depth + 1) old) ++ lists_past d ds (take depth old) v) (sym c.before)

  pub found_deeper : (now : List ℤ) → IsFirstOf ds (take (depth + 1) old) now
      (lists_after ds (take (depth + 1) old) (drop (depth + 1) old))
      → IsFirstOf (d ∷ ds) (take depth old) now (lists_after (d ∷ ds) (take depth old) (drop depth old))
  found_deeper now s = record {
    locals = v ∷ s.locals;
    extends = s.extends ∙ ap (λ t. t ++ s.locals) c.before ∙ append_assoc (take depth old) (v ∷ []) s.locals;
    one_each = ap suc s.one_each;
    first = rest-cut ∙ ap (λ l. l ++ lists_past d ds (take depth old) v) s.first
        ∙ ap (λ t. now ∷ lists_after ds t s.locals ++ lists_past d ds (take depth old) v) c.before;
  }

  module _ (none : lists_after ds (take (depth + 1) old) (drop (depth + 1) old) ≡ []) where
    rest-past : lists_after (d ∷ ds) (take depth old) (drop depth old) ≡ lists_past d ds (take depth old) v
    rest-past = rest-cut ∙ ap (λ l. l ++ lists_past d ds (take depth old) v) none

    pub found_past : (now : List ℤ) → IsFirstPast d ds (take depth old) now (lists_past d ds (take depth old) v)
        → IsFirstOf (d ∷ ds) (take depth old) now (lists_after (d ∷ ds) (take depth old) (drop depth old))
    found_past now s = let p = first_past d ds (take depth old) now v s in record {
      locals = p.locals;
      extends = p.extends;
      one_each = p.one_each;
      first = rest-past ∙ p.first;
    }

    pub none_past : lists_past d ds (take depth old) v ≡ [] → lists_after (d ∷ ds) (take depth old) (drop depth old) ≡ []
    none_past h = rest-past ∙ h
