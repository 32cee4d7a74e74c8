-- Well made spaces: a definition names only those before it, and each range is the definition of a parameter. Source:
-- the JDF documentation.
-- Carried by: the conditions of the calls of `range_space` on spaces.
use Rattle.std.specs.Prelude.{ℕ, suc, List, [], ◌∷◌, length, Option, Some, None, Bool, true, ◌&&◌, ◌==◌, ◌≤◌, nat_lt, IsTrue}
use Rattle.std.specs.List.{list_all, list_any}
use Rattle.ptg_base.specs.Lists.{are_distinct}
use Rattle.ptg_base.specs.Limits.{most_locals}
use Rattle.term_core.specs.Term.{Term}
use Rattle.term_core.specs.Value.{is_closed}
use Rattle.term_core.specs.declared.space.Def.{Def}
use Rattle.term_core.specs.declared.space.Def.TheVariants.{Span, Value}
use Rattle.term_core.specs.declared.space.ClassSpace.{ClassSpace}

-- whether a step, a guard or a priority names only definitions with lower numbers than this; one that is not written
-- names none
abbrev pub is_closed_option : ℕ → Option Term → Bool
is_closed_option before None = true
is_closed_option before (Some e) = is_closed before e

-- whether a definition names only definitions with lower numbers than this, and no element of a tile
abbrev pub is_closed_def : ℕ → Def → Bool
is_closed_def before (Span r) = is_closed before r.lo && is_closed before r.hi && is_closed_option before r.step
is_closed_def before (Value e) = is_closed before e

-- whether each definition names only those before it, if this many come before the first
abbrev pub are_closed : ℕ → List Def → Bool
are_closed before [] = true
are_closed before (d ∷ ds) = is_closed_def before d && are_closed (suc before) ds

-- whether the number is one of the list
abbrev pub is_among : ℕ → List ℕ → Bool
is_among n ps = list_any (λ p. p == n) ps

-- whether each range is the definition of a parameter, if this many definitions come before the first
abbrev pub spans_are_params : ℕ → List Def → List ℕ → Bool
spans_are_params before [] params = true
spans_are_params before (Span r ∷ ds) params = is_among before params && spans_are_params (suc before) ds params
spans_are_params before (Value e ∷ ds) params = spans_are_params (suc before) ds params

-- at most 16 definitions that name only those before them; the parameters are different definitions, and include each
-- range
pub record IsWellSpace (s : ClassSpace) : Type 0 where
  pub definitions_at_most : length s.defs ≤ most_locals
  pub closed : IsTrue (are_closed 0 s.defs)
  pub within : IsTrue (list_all (λ p. nat_lt p (length s.defs)) s.params)
  pub different : IsTrue (are_distinct (λ p q. q == p) s.params)
  pub spans : IsTrue (spans_are_params 0 s.defs s.params)
