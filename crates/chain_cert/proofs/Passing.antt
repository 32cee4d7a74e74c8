-- The edges out of a task, passed one after another.
use Rattle.std.proofs.Common.{◌≡◌, ℕ, List, [], ◌∷◌, ◌++◌, refl, sym, ◌∙◌, subst, append_assoc}
use Rattle.std.proofs.lemmas.List.{append-nil}
use Rattle.ptg_base.specs.Task.{Task}
use Rattle.ptg_base.specs.declared.edge.Edge.{Edge}
use Rattle.plan_core.specs.declared.plan.Plan.{Plan}
use Rattle.dep_iter.specs.Items.{out_edges}
use Rattle.dep_iter.specs.Consistent.{IsConsistent}
use Rattle.chain_cert.specs.Growing.{GrowsBy, HasGrown, HaveCome, IsNext, MayCome}
use Rattle.chain_cert.proofs.Coming.{come_first, come_longer, may_come}
use Rattle.chain_cert.proofs.Grown.{grows_not, grows_then, next_come}

-- of all these edges some are left, and those before them have come
pub record IsPassing (P : Plan) (all left : List Edge) (order : List Task) (table : List (Task × ℕ)) (new : List Task)
    (new_table : List (Task × ℕ)) : Type 0 where
  pub passed : List Edge
  pub split : all ≡ passed ++ left
  pub grows : GrowsBy P passed order table new new_table

pub pass_start : (P : Plan) (all : List Edge) (order : List Task) (table : List (Task × ℕ)) → IsPassing P all all order table order table
pass_start P all order table = record { passed = []; split = refl; grows = grows_not P order table }

pub pass_next : (P : Plan) (all left : List Edge) (e : Edge) (a b c : List Task) (x y z : List (Task × ℕ))
    → IsPassing P all (e ∷ left) a x b y → GrowsBy P (e ∷ []) b y c z → IsPassing P all left a x c z
pass_next P all left e a b c x y z w g = record {
  passed = w.passed ++ e ∷ [];
  split = w.split ∙ sym (append_assoc w.passed (e ∷ []) left);
  grows = grows_then P w.passed (e ∷ []) a b c x y z w.grows g;
}

pub pass_end : (P : Plan) (all : List Edge) (a b : List Task) (x y : List (Task × ℕ)) → IsPassing P all [] a x b y → GrowsBy P all a x b y
pass_end P all a b x y w = subst (λ es. GrowsBy P es a x b y) (sym (w.split ∙ append-nil w.passed)) w.grows

-- the next of the edges that are left may come
pub pass_may : (P : Plan) → IsConsistent P → (came : List Edge) (t : Task) (all left : List Edge) (e : Edge)
    (a b : List Task) (x y : List (Task × ℕ)) → HasGrown P came a x → IsNext P came a t → all ≡ out_edges P t
    → IsPassing P all (e ∷ left) a x b y → (came : List Edge) × HasGrown P came b y × MayCome P came b e
pass_may P con came t all left e a b x y g next is w =
    let all_of : HaveCome P a (came ++ (w.passed ++ e ∷ left)) = subst (λ es. HaveCome P a (came ++ es))
    (sym is ∙ w.split) (next_come P con came a x t g next) in
    let these : HaveCome P a ((came ++ w.passed) ++ e ∷ left) = subst (HaveCome P a) (sym (append_assoc came w.passed (e ∷ left))) all_of in
    let now : HaveCome P b ((came ++ w.passed) ++ e ∷ left) = subst (λ l. HaveCome P l ((came ++ w.passed) ++ e ∷ left))
    (sym w.grows.extends) (come_longer P a w.grows.more ((came ++ w.passed) ++ e ∷ left) these) in
    (came ++ w.passed, w.grows.grown came g (come_first P a (came ++ w.passed) (e ∷ left) these), may_come P b (came ++ w.passed) e left now)
