-- The first fault of a plan that is not consistent. There are three phases, each in walk order: the spaces, then all
-- tasks and what they name, then that the edges match.
-- Carried by: `match_edges`; laws `a_consistent_plan_has_no_fault`, `edge_laws::a_plan_has_one_first_fault`,
-- `edge_laws::a_plan_is_consistent_or_has_a_first_fault`, `edge_laws::a_first_fault_names_what_exists`.
-- Tested by: `check_codes.txt`, `check_limits.txt`.
use Rattle.std.specs.Prelude.{◌≡◌, List, ◌∷◌, ◌++◌, ◌⊎◌}
use Rattle.term_core.specs.declared.direction.Direction.TheVariants.{In, Out}
use Rattle.range_space.specs.declared.fault.SpaceFault.{SpaceFault}
use Rattle.range_space.specs.Walk as walk
use Rattle.plan_core.specs.declared.plan.Plan.{Plan}
use Rattle.edge_match.specs.declared.fault.MatchCode.{MatchCode}
use Rattle.edge_match.specs.declared.fault.MatchCode.TheVariants as code
use Rattle.edge_match.specs.declared.fault.MatchFault.{MatchFault}
use Rattle.edge_match.specs.Faults.{fault_at, space_fault}
use Rattle.edge_match.specs.Marks.{AllPass, Before, Check, Fact, Mark, Passes, add_all, marks, nothing}
use Rattle.edge_match.specs.Marks.{CountsIn, CountsItem, Is, IsNewPlace}
use Rattle.edge_match.specs.Marks.{HasInput, HasOther, HasSource, HasTile, HasValues, IsNewEdge, IsOfJob, IsPlace}

-- the code of a fact that does not hold
abbrev pub fact_code : Fact → MatchCode
fact_code (HasValues t) = code.BadExpr
fact_code (IsPlace p) = code.BadPlace
fact_code (HasInput kind s) = code.NoInput
fact_code (HasSource s) = code.BadPlace
fact_code (IsOfJob t) = code.OutOfSpace
fact_code (HasTile s) = code.NullSent
fact_code (HasOther In e) = code.NoMatchingOut
fact_code (HasOther Out e) = code.NoMatchingIn
fact_code (IsNewEdge earlier e) = code.DoubleEdge

-- the code of a check that does not pass
abbrev pub code_of : Check → MatchCode
code_of (Is f) = fact_code f
code_of (CountsIn e) = code.TooManyEdges
code_of (CountsItem i) = code.TooManyEdges
code_of (IsNewPlace p) = code.DoubleWrite

-- a mark does not pass, and this is its fault
abbrev pub FailsWith : Plan → Before → Mark → MatchFault → Type 0
FailsWith P b m f = (Passes P b m.check → ⊥) × (f ≡ fault_at (code_of m.check) m.task m.flow)

-- the fault of the first of these marks that does not pass: all before it pass
pub record IsFirstFailure (P : Plan) (b : Before) (ms : List Mark) (fault : MatchFault) : Type 0 where
  pub passed : List Mark
  pub failed : Mark
  pub rest : List Mark
  pub split : ms ≡ passed ++ failed ∷ rest
  pub all_pass : AllPass P b passed
  pub fails : FailsWith P (add_all b passed) failed fault

-- nothing stops the walk through the spaces, and the tasks and edges have this first fault
pub record IsTaskFault (P : Plan) (fault : MatchFault) : Type 0 where
  pub unstopped : walk.IsUnstopped 0 0 (walk.walk_all 0 P.spaces)
  pub first : IsFirstFailure P nothing (marks P) fault

-- the first fault of a plan: that of its spaces, else that of its tasks and edges
abbrev pub IsFirstFault : Plan → MatchFault → Type 0
IsFirstFault P fault =
    ((s : SpaceFault) × walk.IsFirstFault 0 0 (walk.walk_all 0 P.spaces) s × (fault ≡ space_fault s))
    ⊎ IsTaskFault P fault
