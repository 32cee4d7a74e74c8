-- For a type that keeps a consistent plan: that a plan is consistent has at most one proof, since no edge occurs twice.
-- Carried by: `Start`.
use Rattle.std.proofs.Common.{◌≡◌, ℕ, ℤ, List, [], ◌∷◌, ap, subst, inl, inr, Option, Some, None}
use Rattle.std.proofs.Props.{props}
use Rattle.ptg_base.specs.Lists.{HasNoRepeats, IsIn}
use Rattle.ptg_base.specs.Places.{IsColumn}
use Rattle.ptg_base.specs.Task.{Task}
use Rattle.ptg_base.specs.declared.edge.Edge.{Edge}
use Rattle.term_core.specs.declared.space.Def.{Def}
use Rattle.term_core.specs.declared.space.ClassSpace.{ClassSpace}
use Rattle.range_space.specs.Sound.{IsSound, IsSoundFrom}
use Rattle.plan_core.specs.declared.plan.Plan.{Plan}
use Rattle.dep_iter.specs.Consistent.{IsConsistent, IsWellConnected}
use Rattle.dep_iter.specs.OneTask.{IsTask-prop}

-- in a list without repeats, an element is there in one way only
one_place : {A : Type 0} → IsSet A → (x : A) (ys : List A) → HasNoRepeats ys → (a b : IsIn x ys) → a ≡ b
one_place set x [] once a b = absurd a
one_place set x (y ∷ ys) once (inl d) (inl e) = ap inl (set x y d e)
one_place set x (y ∷ ys) once (inl d) (inr k) = absurd (once.0 (subst (λ z. IsIn z ys) d k))
one_place set x (y ∷ ys) once (inr h) (inl e) = absurd (once.0 (subst (λ z. IsIn z ys) e h))
one_place set x (y ∷ ys) once (inr h) (inr k) = ap inr (one_place set x ys once.1 h k)

edge_set : IsSet Edge
edge_set = hlevel props

one_edge : (e : Edge) (es : List Edge) → HasNoRepeats es → IsProp (IsIn e es)
one_edge e es once = one_place edge_set e es once

no_repeats : {A : Type 0} (xs : List A) → IsProp (HasNoRepeats xs)
no_repeats [] = hlevel props
no_repeats (x ∷ xs) = hlevel (props, no_repeats xs)

column : (cols : Option ℕ) (j : ℤ) → IsProp (IsColumn cols j)
column None j = hlevel props
column (Some n) j = hlevel props

sound_from : (ds : List Def) (outer : List ℤ) → IsProp (IsSoundFrom ds outer)
sound_from [] outer = hlevel props
sound_from (d ∷ ds) outer = hlevel (props, sound_from ds)

sound : (s : ClassSpace) → IsProp (IsSound s)
sound s = sound_from s.defs []

connected : (P : Plan) (t : Task) → IsProp (IsWellConnected P t)
connected P t = hlevel (props, column, IsTask-prop P)

pub IsConsistent-prop : (P : Plan) → IsProp (IsConsistent P)
IsConsistent-prop P = hlevel (props, sound, connected P, no_repeats, one_edge)
