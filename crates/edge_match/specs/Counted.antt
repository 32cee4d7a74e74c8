-- What the pass has counted, compared with what came before a mark, and what a part of the pass shows.
use Rattle.std.specs.Prelude.{◌≡◌, ◌↔◌, List, length, filter, Bool, IsTrue, Result, MatchResult}
use Rattle.plan_core.specs.declared.plan.Plan.{Plan}
use Rattle.dep_iter.specs.Consistent.{is_data_edge}
use Rattle.edge_match.specs.declared.counted.Counted.{Counted}
use Rattle.edge_match.specs.declared.fault.MatchFault.{MatchFault}
use Rattle.edge_match.specs.declared.fault.MatchRefusal.{MatchRefusal}
use Rattle.edge_match.specs.declared.fault.MatchRefusal.TheVariants as refusal
use Rattle.edge_match.specs.Marks.{Before, Check, Mark, AllPass, Passes, add, add_all}
use Rattle.edge_match.specs.FirstFault.{IsFirstFailure, IsFirstFault}
use Rattle.edge_match.specs.Sets.{IsSetOf}

-- the counts are those of what came before
pub record IsCounted (P : Plan) (c : Counted) (b : Before) : Type 0 where
  pub ins : c.ins ≡ length b.ins
  pub data_edges : c.data_edges ≡ length (filter (is_data_edge P) b.ins)
  pub items : c.items ≡ length b.items
  pub writes : c.writes ≡ length b.places
  pub written : IsSetOf P.colls c.written b.places

-- a test that takes the old counts to the new ones holds if and only if this check passes, and then the check is
-- counted
pub record Decides (P : Plan) (old new : Counted) (holds : Bool) (c : Check) : Type 0 where
  pub passes : (b : Before) → IsCounted P old b → IsTrue holds ↔ Passes P b c
  pub counted : IsTrue holds → (b : Before) → IsCounted P old b → IsCounted P new (add b c)

-- a part of the pass that takes the old counts to the new ones. Either all of these marks pass and are counted, or the
-- result is the fault of the first that does not pass
pub record Checked (P : Plan) (old new : Counted) (r : Result (Unit {0}) MatchFault) (ms : List Mark) : Type 0 where
  pub after : (b : Before) → IsCounted P old b
      → MatchResult r (λ _. AllPass P b ms × IsCounted P new (add_all b ms)) (λ f. IsFirstFailure P b ms f)

-- a refusal of a plan is its first fault, or out of memory
abbrev pub IsRefusalOf : Plan → MatchRefusal → Type 0
IsRefusalOf P (refusal.Fault f) = IsFirstFault P f
IsRefusalOf P refusal.OutOfMemory = Unit {0}
