-- The printed cycle, by a walk back over the tasks that are left.
use Rattle.std.proofs.Common.{◌≡◌, ℕ, suc, ◌<◌, ◌↔◌, true, false, cond, not, List, [], ◌∷◌, ◌++◌, length, drop, take}
use Rattle.std.proofs.Common.{find, slice_get, reverse, refl, ap, sym, ◌∙◌, subst, inl, inr, Option, Some, None}
use Rattle.std.proofs.Common.{is_some, MatchOption, IfSome, arith, length-append}
use Rattle.std.specs.List.{list_any}
use Rattle.std.specs.Map.{lookup}
use Rattle.std.proofs.lemmas.Bool.{false≢true, false_from_ne_true}
use Rattle.std.proofs.lemmas.List.{take-append-drop}
use Rattle.std.proofs.lemmas.Map.Made.{IfSome-find_same}
use Rattle.ptg_base.specs.Lists.{HasNoRepeats, IsIn}
use Rattle.ptg_base.specs.Task.{Task}
use Rattle.ptg_base.specs.TaskComparing.{same_task}
use Rattle.ptg_base.specs.TaskLaws.{same_task-decides}
use Rattle.ptg_base.specs.declared.edge.Edge.{Edge}
use Rattle.plan_core.specs.declared.plan.Plan.{Plan}
use Rattle.list_lemmas.proofs.Members.{IsIn-append_right, IsIn-map}
use Rattle.list_lemmas.proofs.Distinct.{no_longer, HasNoRepeats-append}
use Rattle.list_lemmas.proofs.Tasks.{member_or_not, none_member}
use Rattle.list_lemmas.proofs.Places.{drop_from}
use Rattle.dep_iter.specs.Tasks.{IsTask, all_tasks}
use Rattle.dep_iter.specs.Edges.{in_edges, sources}
use Rattle.dep_iter.specs.Consistent.{IsConsistent}
use Rattle.dep_iter.proofs.CallerLemmas.{listed, once-all_tasks}
use Rattle.chain_cert.proofs.Orders.{from_outside}
use Rattle.indexmap.specs.IndexSet.{insert_key}
use Rattle.chain_cert.specs.Greatest.{IsGreatestOrder}
use Rattle.chain_cert.specs.Finding.{HasLevels, IsLeastWhere, IsLevelAmong, LacksTasks, is_left}
use Rattle.chain_cert.specs.Printed.{IsLeast, IsPrintedCycle, IsSourceLeft, IsTaskLeft, IsWalkBack, IsWalkedBack}
use Rattle.chain_cert.proofs.Turning.{source_task}

-- a walk with one more step
walked_push : (P : Plan) (R : List Task) (t : Task) (ss : List Task) (u v : Task) → IsWalkedBack P R t (ss ++ u ∷ [])
    → IsLeast (IsSourceLeft P R u) v → IsWalkedBack P R t ((ss ++ u ∷ []) ++ v ∷ [])
walked_push P R t [] u v w step = (w.0, (step, tt))
walked_push P R t (s ∷ ss) u v w step = (w.0, walked_push P R s ss u v w.1 step)

walk_push : (P : Plan) (R : List Task) (ts : List Task) (u v : Task) → IsWalkBack P R (ts ++ u ∷ [])
    → IsLeast (IsSourceLeft P R u) v → IsWalkBack P R ((ts ++ u ∷ []) ++ v ∷ [])
walk_push P R [] u v w step = (w.0, (step, tt))
walk_push P R (t ∷ ts) u v w step = (w.0, walked_push P R t ts u v w.1 step)

module _ (P : Plan) (con : IsConsistent P) (R : List Task) where
  walked_left : (t : Task) (ss : List Task) → IsTask P t → IsWalkedBack P R t ss → (u : Task) → IsIn u ss → IsTaskLeft P R u
  walked_left t [] job w u i = absurd i
  walked_left t (s ∷ ss) job w u i =
      let there = source_task P con s t job w.0.kind.source in
      elim i [
        | inl e ↦ subst (IsTaskLeft P R) (sym e) (record { task = there; left = w.0.kind.left })
        | inr later ↦ walked_left s ss there w.1 u later
      ]

  -- each task of a walk is one that is left
  pub walk_left : (ts : List Task) → IsWalkBack P R ts → (u : Task) → IsIn u ts → IsTaskLeft P R u
  walk_left [] w u i = absurd i
  walk_left (t ∷ ts) w u i = elim i [
    | inl e ↦ subst (IsTaskLeft P R) (sym e) w.0.kind
    | inr later ↦ walked_left t ts w.0.kind.task w.1 u later
  ]

module _ (P : Plan) (order : List Task) (table : List (Task × ℕ)) (l : LacksTasks P order table) where
  -- what the table does not have is outside
  left_out : (t : Task) → is_left table t ≡ true → IsIn t order → ⊥
  left_out t passes i = false≢true (sym (ap not ((l.members t).0 i)) ∙ passes)

  out_left : (t : Task) → (IsIn t order → ⊥) → is_left table t ≡ true
  out_left t out = ap not (false_from_ne_true (is_some (lookup (same_task t) table)) (λ k. out ((l.members t).1 k)))

  some_out : (t : Task) × IsTask P t × (IsIn t order → ⊥)
  some_out = by (all_tasks P) (λ t i. (listed P t).1 i) none_all
    where
      none_all : ((t : Task) → IsIn t (all_tasks P) → IsIn t order) → ⊥
      none_all all = absurd (omega (arith, l.some_left, no_longer (all_tasks P) order (once-all_tasks P) all))

      by : (ts : List Task) → ((t : Task) → IsIn t ts → IsTask P t) → (((t : Task) → IsIn t ts → IsIn t order) → ⊥)
          → (t : Task) × IsTask P t × (IsIn t order → ⊥)
      by [] job not_all = absurd (not_all (λ t i. absurd i))
      by (t ∷ ts) job not_all = elim (member_or_not t order) [
        | inr out ↦ (t, job t (inl refl), out)
        | inl i ↦ by ts (λ u j. job u (inr j)) (λ all. not_all (λ u j. elim j [ inl e ↦ subst (λ v. IsIn v order) (sym e) i | inr later ↦ all u later ]))
      ]

  -- the walk begins at the least task that is left
  pub walk_start : (o : Option Task) → IsLeastWhere (is_left table) (all_tasks P) o → MatchOption o ⊥ (λ t. IsWalkBack P order (t ∷ []))
  walk_start None h = let p = some_out in false≢true (sym (h p.0 ((listed P p.0).0 p.1)) ∙ out_left p.0 p.2)
  walk_start (Some t) h = (
    record {
      kind = record { task = (listed P t).1 h.0; left = left_out t h.1 };
      least = λ u k. h.2 u ((listed P u).0 k.task) (out_left u k.left);
    },
    tt,
  )

  -- and continues with the least source that is left
  pub walk_next : IsConsistent P → (met : List Task) (t : Task) (o : Option Task) → IsWalkBack P order (met ++ t ∷ [])
      → IsLeastWhere (is_left table) (sources P t) o → MatchOption o ⊥
      (λ s. IsWalkBack P order ((met ++ t ∷ []) ++ s ∷ []))
  walk_next con met t None w h =
      let k = walk_left P con order (met ++ t ∷ []) w t (IsIn-append_right t met (t ∷ []) (inl refl)) in
      let p = from_outside P order l.greatest t k.task k.left in
      false≢true (sym (h p.0.from (IsIn-map (λ (e : Edge). e.from) (in_edges P t) p.0 p.1)) ∙ out_left p.0.from p.2)
  walk_next con met t (Some s) w h = walk_push P order met t s w (record {
    kind = record { source = h.0; left = left_out s h.1 };
    least = λ u k. h.2 u k.source (out_left u k.left);
  })

pub found_is : (t : Task) (ks : List Task) (u : Task) → find (same_task t) ks ≡ Some u → u ≡ t
found_is t ks u e = subst (λ o. IfSome o (λ k. k ≡ t)) e (IfSome-find_same {eq = same_task} same_task-decides t ks)

-- the walk so far: different tasks, and the next one
pub record IsWalking (P : Plan) (R met : List Task) (next : Option Task) : Type 0 where
  pub once : HasNoRepeats met
  pub walk : MatchOption next ⊥ (λ t. IsWalkBack P R (met ++ t ∷ []))

-- keys with one more that is new
pub met_push : (t : Task) (ks : List Task) → list_any (same_task t) ks ≡ false → HasNoRepeats ks → HasNoRepeats (ks ++ t ∷ [])
met_push t ks e once = HasNoRepeats-append ks (t ∷ []) once ((λ i. i), tt)
    (λ x i j. elim j [ inl q ↦ none_member t ks e (subst (λ u. IsIn u ks) q i) | inr never ↦ never ])

-- there is room for one more task
pub walk_room : (P : Plan) → IsConsistent P → (R met : List Task) (t : Task) → list_any (same_task t) met ≡ false
    → IsWalking P R met (Some t) → length met < length (all_tasks P)
walk_room P con R met t new w =
    let few = no_longer (met ++ t ∷ []) (all_tasks P) (met_push t met new w.once) (λ u i. (listed P u).0 (walk_left P con R (met ++ t ∷ []) w.walk u i).task) in
    omega (arith, few, length-append met (t ∷ []))

-- a task that occurs again closes the cycle
pub closes : (P : Plan) (R met : List Task) (t u : Task) (at : ℕ) (cycle : List Task) → slice_get met at ≡ Some u
    → u ≡ t → IsWalking P R met (Some t) → cycle ≡ reverse (drop at met) → IsPrintedCycle P R cycle
closes P R met t u at cycle here same w is =
    let from : drop at met ≡ t ∷ drop (suc at) met = drop_from met at u here ∙ ap (λ v. v ∷ drop (suc at) met) same in
    let split : met ≡ take at met ++ t ∷ drop (suc at) met = sym (take-append-drop at met) ∙ ap (λ l. take at met ++ l) from in
    record {
      before = take at met;
      twice = t;
      between = drop (suc at) met;
      walk = subst (IsWalkBack P R) (ap (λ l. l ++ t ∷ []) split) w.walk;
      once = subst HasNoRepeats split w.once;
      turned = is ∙ ap reverse from;
    }

-- the printed cycle is the same whichever list has the tasks that ran
pub same_printed : (P : Plan) (R S : List Task) → ((t : Task) → IsIn t R ↔ IsIn t S) → (c : List Task) → IsPrintedCycle P R c → IsPrintedCycle P S c
same_printed P R S same c p = record {
  before = p.before;
  twice = p.twice;
  between = p.between;
  walk = by (p.before ++ p.twice ∷ p.between ++ p.twice ∷ []) p.walk;
  once = p.once;
  turned = p.turned;
}
  where
    least_source : (t s : Task) → IsLeast (IsSourceLeft P R t) s → IsLeast (IsSourceLeft P S t) s
    least_source t s l = record {
      kind = record { source = l.kind.source; left = λ i. l.kind.left ((same s).1 i) };
      least = λ u k. l.least u (record { source = k.source; left = λ i. k.left ((same u).0 i) });
    }

    walked : (t : Task) (ss : List Task) → IsWalkedBack P R t ss → IsWalkedBack P S t ss
    walked t [] w = tt
    walked t (s ∷ ss) w = (least_source t s w.0, walked s ss w.1)

    by : (ts : List Task) → IsWalkBack P R ts → IsWalkBack P S ts
    by [] w = w
    by (t ∷ ts) w = (
      record {
        kind = record { task = w.0.kind.task; left = λ i. w.0.kind.left ((same t).1 i) };
        least = λ u k. w.0.least u (record { task = k.task; left = λ i. k.left ((same u).0 i) });
      },
      walked t ts w.1,
    )

-- the keys after a new one
pub inserted_keys : (t : Task) (ks new : List Task) → list_any (same_task t) ks ≡ false → new ≡ insert_key same_task ks t → new ≡ ks ++ t ∷ []
inserted_keys t ks new e is = is ∙ ap (λ b. cond b ks (ks ++ t ∷ [])) e

-- a walk with one more task met
pub walk_on : (P : Plan) (R met new : List Task) (t : Task) (o : Option Task) → list_any (same_task t) met ≡ false
    → new ≡ met ++ t ∷ [] → IsWalking P R met (Some t) → MatchOption o ⊥
    (λ s. IsWalkBack P R ((met ++ t ∷ []) ++ s ∷ [])) → IsWalking P R new o
walk_on P R met new t o unmet is w next = record {
  once = subst HasNoRepeats (sym is) (met_push t met unmet w.once);
  walk = subst (λ l. MatchOption o ⊥ (λ s. IsWalkBack P R (l ++ s ∷ []))) (sym is) next;
}

-- a table of the levels of a greatest legal order, if a task is outside
pub lacks : (P : Plan) (ws : List ℕ) (order : List Task) (table : List (Task × ℕ)) → IsGreatestOrder P order
    → HasLevels P ws order table → length order < length (all_tasks P) → LacksTasks P order table
lacks P ws order table g h left = record {
  greatest = g;
  members = λ t. by t (lookup (same_task t) table) (h t);
  some_left = left;
}
  where
    by : (t : Task) (o : Option ℕ) → IsLevelAmong P ws order t o → IsIn t order ↔ (is_some o ≡ true)
    by t None a = (λ i. absurd (a i), λ k. absurd (false≢true k))
    by t (Some n) a = (λ i. refl, λ k. a.0)
