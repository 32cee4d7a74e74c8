-- A walk back, reversed, is a chain, and the printed cycle is a cycle.
use Rattle.std.proofs.Common.{◌≡◌, List, [], ◌∷◌, ◌++◌, reverse, refl, ap, sym, ◌∙◌, subst, append_assoc, inl, inr}
use Rattle.std.proofs.lemmas.List.{append-nil, reverse-append}
use Rattle.ptg_base.specs.Lists.{HasNoRepeats, IsIn}
use Rattle.ptg_base.specs.Task.{Task}
use Rattle.ptg_base.specs.declared.edge.Edge.{Edge}
use Rattle.plan_core.specs.declared.plan.Plan.{Plan}
use Rattle.list_lemmas.proofs.Members.{from_map}
use Rattle.list_lemmas.proofs.Distinct.{HasNoRepeats-right}
use Rattle.dep_iter.specs.Tasks.{IsTask}
use Rattle.dep_iter.specs.Edges.{in_edges}
use Rattle.dep_iter.specs.Consistent.{IsConsistent}
use Rattle.chain_cert.specs.Chains.{BeginsWith, IsChain, IsCycle, IsSourceOf}
use Rattle.chain_cert.specs.Printed.{IsPrintedCycle, IsWalkBack, IsWalkedBack}

-- a list reversed, one element after another
abbrev pub turned : List Task → List Task → List Task
turned [] done = done
turned (t ∷ ts) done = turned ts (t ∷ done)

module _ (P : Plan) (con : IsConsistent P) where
  pub source_task : (s t : Task) → IsTask P t → IsSourceOf P s t → IsTask P s
  source_task s t job link =
      let e = from_map (λ (d : Edge). d.from) (in_edges P t) s link in
      subst (IsTask P) (sym e.2) ((con.connected t job).from_tasks e.0 e.1)

  -- tasks each of which is a source of the one before, put before a chain one after another
  abbrev pub IsBackFrom : Task → List Task → Type 0
  IsBackFrom t [] = Unit {0}
  IsBackFrom t (s ∷ ss) = IsSourceOf P s t × IsBackFrom s ss

  pub back_chain : (t : Task) (ss done : List Task) → IsBackFrom t ss → IsChain P (t ∷ done) → IsChain P (turned ss (t ∷ done))
  back_chain t [] done b c = c
  back_chain t (s ∷ ss) done b c = back_chain s ss (t ∷ done) b.1 (source_task s t c.0 b.0, b.0, c)

  walked_back : (R : List Task) (t : Task) (ss : List Task) → IsWalkedBack P R t ss → IsBackFrom t ss
  walked_back R t [] w = tt
  walked_back R t (s ∷ ss) w = (w.0.kind.source, walked_back R s ss w.1)

  -- the last of a walk
  abbrev pub last_of : Task → List Task → Task
  last_of t [] = t
  last_of t (s ∷ ss) = last_of s ss

  -- a task in the middle of a walk is one of the job, and the walk after it is one from there
  middle : (R : List Task) (t : Task) (xs : List Task) (u : Task) (ys : List Task) → IsTask P t
      → IsWalkedBack P R t (xs ++ u ∷ ys) → IsTask P u × IsWalkedBack P R u ys
  middle R t [] u ys job w = (source_task u t job w.0.kind.source, w.1)
  middle R t (x ∷ xs) u ys job w = middle R x xs u ys (source_task x t job w.0.kind.source) w.1

  from_start : (R before ys : List Task) (u : Task) → IsWalkBack P R (before ++ u ∷ ys) → IsTask P u × IsWalkedBack P R u ys
  from_start R [] ys u w = (w.0.kind.task, w.1)
  from_start R (t ∷ ts) ys u w = middle R t ts u ys w.0.kind.task w.1

  -- a walk up to its last task, and the step after it
  ends_at : (R : List Task) (t : Task) (ss : List Task) (u : Task) → IsWalkedBack P R t (ss ++ u ∷ []) → IsWalkedBack P R t ss × IsSourceOf P u (last_of t ss)
  ends_at R t [] u w = (tt, w.0.kind.source)
  ends_at R t (s ∷ ss) u w = let p = ends_at R s ss u w.1 in ((w.0, p.0), p.1)

  turned_begins : (t : Task) (ss done : List Task) → BeginsWith (last_of t ss) (turned ss (t ∷ done))
  turned_begins t [] done = (done, refl)
  turned_begins t (s ∷ ss) done = turned_begins s ss (t ∷ done)

turned_append : (ts done more : List Task) → turned ts (done ++ more) ≡ turned ts done ++ more
turned_append [] done more = refl
turned_append (t ∷ ts) done more = turned_append ts (t ∷ done) more

turned_once : (ts done : List Task) → HasNoRepeats ts → HasNoRepeats done → ((x : Task) → IsIn x ts → IsIn x done → ⊥) → HasNoRepeats (turned ts done)
turned_once [] done a b other = b
turned_once (t ∷ ts) done a b other =
    turned_once ts (t ∷ done) a.1 ((λ i. other t (inl refl) i), b) (λ x i j. elim j [
      | inl e ↦ a.0 (subst (λ u. IsIn u ts) e i)
      | inr deep ↦ other x (inr i) deep
    ])

pub turned_is : (ts done : List Task) → turned ts done ≡ reverse ts ++ done
turned_is [] done = refl
turned_is (t ∷ ts) done = turned_is ts (t ∷ done) ∙ sym (append_assoc (reverse ts) (t ∷ []) done) ∙ ap (λ l. l ++ done) (sym (reverse-append (t ∷ []) ts))

-- if each task is a source of the one before it, and the first a source of the last, the reversed tasks are a cycle
pub loop_is_cycle : (P : Plan) (con : IsConsistent P) (t : Task) (ss : List Task) → IsTask P t → IsBackFrom P con t ss
    → IsSourceOf P t (last_of P con t ss) → HasNoRepeats (t ∷ ss) → IsCycle P (turned ss (t ∷ []))
loop_is_cycle P con t ss job steps closed once = record {
  chain = back_chain P con t ss [] steps (job, tt, tt);
  differ = turned_once ss (t ∷ []) once.1 ((λ i. i), tt) (λ x i j. elim j [ inl e ↦ once.0 (subst (λ u. IsIn u ss) e i) | inr never ↦ never ]);
  first = last_of P con t ss;
  begins = turned_begins P con t ss [];
  last = t;
  ends = (turned ss [], turned_append ss [] (t ∷ []));
  closed = closed;
}

-- the printed cycle is a cycle
pub printed_is_cycle : (P : Plan) → IsConsistent P → (R c : List Task) → IsPrintedCycle P R c → IsCycle P c
printed_is_cycle P con R c p =
    let t = p.twice in
    let is : c ≡ turned p.between (t ∷ []) = p.turned ∙ sym (append-nil (reverse (t ∷ p.between))) ∙ sym (turned_is (t ∷ p.between) []) in
    let walk = from_start P con R p.before (p.between ++ t ∷ []) t (subst (IsWalkBack P R) (append_assoc p.before (t ∷ p.between) (t ∷ [])) p.walk) in
    let steps = ends_at P con R t p.between t walk.1 in
    subst (IsCycle P) (sym is) (loop_is_cycle P con t p.between walk.0 (walked_back P con R t p.between steps.0) steps.1
    (HasNoRepeats-right p.before (t ∷ p.between) p.once))
