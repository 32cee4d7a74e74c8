-- The full lists of locals of an iteration space that come after one of them in walk order.
use Rattle.std.specs.Prelude.{◌≡◌, ℤ, pos, ◌+ℤ◌, List, [], ◌∷◌, ◌++◌, length, Result, Ok, Err}
use Rattle.std.specs.List.{flat_map}
use Rattle.ptg_base.specs.Returns.{and_then}
use Rattle.term_core.specs.declared.space.Def.{Def}
use Rattle.term_core.specs.declared.space.Def.TheVariants.{Span, Value}
use Rattle.range_space.specs.declared.fault.SpanFault.{SpanFault}
use Rattle.range_space.specs.Values.{values}
use Rattle.range_space.specs.Fault.{Bounds, bounds, number}
use Rattle.range_space.specs.Tasks.{full_lists}

-- the bounds of a definition: those of its range, or the value of its expression as both ends
abbrev pub def_bounds : Def → List ℤ → Result Bounds SpanFault
def_bounds (Span r) env = bounds r env
def_bounds (Value e) env = and_then (number e env) (λ z. Ok (record { lo = z; hi = z; step = pos 1 }))

-- the full lists that extend `outer` by one of these values
abbrev pub lists_over : List Def → List ℤ → List ℤ → List (List ℤ)
lists_over ds outer vs = flat_map (λ v. full_lists ds (outer ++ v ∷ [])) vs

-- the full lists that extend `outer` by a value after v, among the values within these bounds
abbrev pub lists_over_rest : List Def → List ℤ → Result Bounds SpanFault → ℤ → List (List ℤ)
lists_over_rest ds outer (Ok b) v = lists_over ds outer (values (v +ℤ b.step) b.hi b.step)
lists_over_rest ds outer (Err e) v = []

-- the full lists that extend `outer` by another value of the definition, after v; an expression has no other value
abbrev pub lists_past : Def → List Def → List ℤ → ℤ → List (List ℤ)
lists_past (Span r) ds outer v = lists_over_rest ds outer (bounds r outer) v
lists_past (Value e) ds outer v = []

-- the full lists that extend `outer` and come after the one that extends it by these locals
abbrev pub lists_after : List Def → List ℤ → List ℤ → List (List ℤ)
lists_after [] outer locals = []
lists_after (d ∷ ds) outer [] = []
lists_after (d ∷ ds) outer (v ∷ locals) = lists_after ds (outer ++ v ∷ []) locals ++ lists_past d ds outer v

-- `now` extends `outer` by one value for each definition; it is the first of the lists, and the others are those after
-- it
pub record IsFirstOf (ds : List Def) (outer now : List ℤ) (lists : List (List ℤ)) : Type 0 where
  pub locals : List ℤ
  pub extends : now ≡ outer ++ locals
  pub one_each : length locals ≡ length ds
  pub first : lists ≡ now ∷ lists_after ds outer locals

-- `now` extends `outer` by a value within these bounds and one value for each definition; it is the first of the lists,
-- and the others are those after it
pub record IsFirstOver (bounds : Result Bounds SpanFault) (ds : List Def) (outer now : List ℤ)
    (lists : List (List ℤ)) : Type 0 where
  pub value : ℤ
  pub locals : List ℤ
  pub extends : now ≡ outer ++ value ∷ locals
  pub one_each : length locals ≡ length ds
  pub first : lists ≡ now ∷ lists_after ds (outer ++ value ∷ []) locals ++ lists_over_rest ds outer bounds value

-- `now` extends `outer` by another value of this definition and one for each later definition; it is the first of the
-- lists, and the others are those after it
abbrev pub IsFirstPast : Def → List Def → List ℤ → List ℤ → List (List ℤ) → Type 0
IsFirstPast (Span r) ds outer now lists = IsFirstOver (bounds r outer) ds outer now lists
IsFirstPast (Value e) ds outer now lists = ⊥
