-- What the checkers find out about chains and cycles.
use Rattle.std.proofs.Common.{◌≡◌, ◌↔◌, Bool, false, List, [], ◌∷◌, ◌++◌, refl, sym, ◌∙◌, subst, inl, IsTrue}
use Rattle.std.proofs.lemmas.Bool.{false≢true}
use Rattle.std.specs.List.{list_any}
use Rattle.ptg_base.specs.Lists.{HasNoRepeats, IsIn}
use Rattle.ptg_base.specs.Task.{Task}
use Rattle.ptg_base.specs.TaskComparing.{same_task}
use Rattle.ptg_base.specs.TaskLaws.{same_task-decides}
use Rattle.plan_core.specs.declared.plan.Plan.{Plan}
use Rattle.list_lemmas.proofs.Members.{some_member_passes, list_any-from_member}
use Rattle.std.proofs.lemmas.List.{same_from_push}
use Rattle.dep_iter.specs.Tasks.{IsTask}
use Rattle.chain_cert.specs.Chains.{IsChain, IsCycle, IsSourceOf}
use Rattle.cert_check.specs.Checking.{IsLinked}
use Rattle.chain_cert.proofs.CallerLemmas.{chain_task}

-- a chain, from its first task and the others
pub linked_then : (P : Plan) (t : Task) (ts : List Task) → IsLinked P (t ∷ ts) → IsChain P ts → IsChain P (t ∷ ts)
linked_then P t [] l c = (l.0, tt, tt)
linked_then P t (u ∷ us) l c = (l.0, l.1.1, c)

pub then_linked : (P : Plan) (t : Task) (ts : List Task) → IsChain P (t ∷ ts) → IsLinked P (t ∷ ts) × IsChain P ts
then_linked P t [] c = ((c.0, tt), tt)
then_linked P t (u ∷ us) c = ((c.0, (c.2.0, c.1)), c.2)

-- the first of a list comes again
abbrev pub ComesAgain : List Task → Type 0
ComesAgain xs = (t : Task) × (ts : List Task) × (xs ≡ t ∷ ts) × IsIn t ts

pub once_split : (x : Task) (xs : List Task) → HasNoRepeats (x ∷ xs) → (ComesAgain (x ∷ xs) → ⊥) × HasNoRepeats xs
once_split x xs h = (λ w. let moved : HasNoRepeats (w.0 ∷ w.1) = subst HasNoRepeats w.2 h in moved.0 w.3, h.1)

pub once_join : (x : Task) (xs : List Task) → (ComesAgain (x ∷ xs) → ⊥) → HasNoRepeats xs → HasNoRepeats (x ∷ xs)
once_join x xs new h = (λ i. new (x, xs, refl, i), h)

pub same_first : (x y : Task) (xs ys : List Task) → x ∷ xs ≡ y ∷ ys → x ≡ y
same_first x y xs ys e = cc

-- a cycle, given its first task and its last
module _ (P : Plan) (ts front back : List Task) (first last : Task) (begins : ts ≡ first ∷ back) (ends : ts ≡ front ++ last ∷ []) where
  pub cycle_closed : IsCycle P ts → IsTask P first × IsSourceOf P last first
  cycle_closed c =
      let a : c.first ≡ first = same_first c.first first c.begins.0 back (sym c.begins.1 ∙ begins) in
      let z : c.last ≡ last = (same_from_push c.ends.0 front c.last last (sym c.ends.1 ∙ ends)).1 in (
        chain_task P ts c.chain first (subst (IsIn first) (sym begins) (inl refl)),
        subst (λ u. IsSourceOf P last u) a
            (subst (λ u. IsSourceOf P u c.first) z c.closed),
      )

  pub cycle_is : IsTask P first × IsSourceOf P last first → IsChain P ts → HasNoRepeats ts → IsCycle P ts
  cycle_is closed chain once = record {
    chain = chain;
    differ = once;
    first = first;
    begins = (back, begins);
    last = last;
    ends = (front, ends);
    closed = closed.1;
  }

  -- if one part fails, the tasks are no cycle
  pub no_link : (IsTask P first × IsSourceOf P last first → ⊥) → IsTrue false ↔ IsCycle P ts
  no_link h = (λ e. absurd (false≢true e), λ c. absurd (h (cycle_closed c)))

  pub no_chain : (IsChain P ts → ⊥) → IsTrue false ↔ IsCycle P ts
  no_chain h = (λ e. absurd (false≢true e), λ c. absurd (h c.chain))

  pub by_once : (b : Bool) → IsTask P first × IsSourceOf P last first → IsChain P ts → IsTrue b ↔ HasNoRepeats ts → IsTrue b ↔ IsCycle P ts
  by_once b closed chain h = (λ e. cycle_is closed chain (h.0 e), λ c. h.1 c.differ)

-- a task is one of these if and only if a test finds it
pub any_in : (t : Task) (ts : List Task) (b : Bool) → b ≡ list_any (λ (u : Task). same_task u t) ts → IsTrue b ↔ IsIn t ts
any_in t ts b e = (
  λ k. let p = some_member_passes (λ (u : Task). same_task u t) ts (sym e ∙ k) in subst (λ u. IsIn u ts) ((same_task-decides p.0 t).0 p.2) p.1,
  λ i. e ∙ list_any-from_member (λ (u : Task). same_task u t) ts t i ((same_task-decides t t).1 refl),
)
