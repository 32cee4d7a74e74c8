-- The class and the task that a row names.
use Rattle.std.proofs.Common.{◌≡◌, ◌≢◌, ℕ, zero, suc, ◌+◌, ◌<◌, ◌≤◌, ℤ, Bool, true, false, not, ◌||◌, nat_eq, List, []}
use Rattle.std.proofs.Common.{◌∷◌, map, length, refl, ap, sym, ◌∙◌, subst, zero-add, Option, Some, None, MatchOption}
use Rattle.std.proofs.Common.{slice_get, arith}
use Rattle.std.specs.Cmp.Lexicographic.{pointwise}
use Rattle.std.specs.Option.{option_map_or}
use Rattle.std.specs.List.{list_any}
use Rattle.std.proofs.lemmas.Bool.{false≢true}
use Rattle.ptg_base.specs.Lists.{IsIn, are_distinct}
use Rattle.ptg_base.specs.Task.{Task}
use Rattle.plan_core.specs.NamesByNumber.{class_name}
use Rattle.plan_core.specs.declared.class.ClassPlan.{ClassPlan}
use Rattle.plan_core.specs.declared.plan.Plan.{Plan}
use Rattle.term_core.specs.declared.space.ClassSpace.{ClassSpace}
use Rattle.range_space.specs.Tasks.{tasks}
use Rattle.range_space.proofs.CallerLemmas.{arity_of_task}
use Rattle.dep_iter.specs.Tasks.{task}
use Rattle.flow_meaning.proofs.CallerLemmas.{class_of}
use Rattle.trace_core.specs.Naming.{IsNamed, Names}
use Rattle.trace_core.specs.Rows.{AreNumbers, IsRowOf}
use Rattle.trace_core.specs.Text.{TraceRow}
use Rattle.std.specs.Cmp.{first_so, second_so}
use Rattle.std.specs.Str.{bytes_eq}
use Rattle.list_lemmas.proofs.Texts.{equal_bytes}

pub later_class : (classes later : List ClassPlan) (first : ClassPlan) (name : List ℕ) (n : ℕ) (r : Option ℕ)
    → classes ≡ first ∷ later → (first.name ≡ name → ⊥)
    → MatchOption r ((k : ℕ) → IsNamed later name k → ⊥) (λ m. (k : ℕ) × IsNamed later name k × (m ≡ (n + 1) + k))
    → MatchOption r ((k : ℕ) → IsNamed classes name k → ⊥) (λ m. (k : ℕ) × IsNamed classes name k × (m ≡ n + k))
later_class classes later first name n None is other none = λ k p. by k (subst (λ l. IsNamed l name k) is p)
  where
    by : (k : ℕ) → IsNamed (first ∷ later) name k → ⊥
    by zero q = let e : Some first ≡ Some q.0 = q.1 in let same : first ≡ q.0 = cc in other (ap (λ (c : ClassPlan). c.name) same ∙ q.2)
    by (suc k) q = none k q
later_class classes later first name n (Some m) is other p = (suc p.0, subst (λ l. IsNamed l name (suc p.0)) (sym is) p.1, omega (arith, p.2))

pub named_from_first : (xs ys : List ClassPlan) (name : List ℕ) (r : Option ℕ) → xs ≡ ys
    → MatchOption r ((k : ℕ) → IsNamed xs name k → ⊥) (λ m. (k : ℕ) × IsNamed xs name k × (m ≡ 0 + k))
    → MatchOption r ((k : ℕ) → IsNamed ys name k → ⊥) (λ m. IsNamed ys name m)
named_from_first xs ys name None is none = λ k p. none k (subst (λ l. IsNamed l name k) (sym is) p)
named_from_first xs ys name (Some m) is p =
    let e : p.0 ≡ m = sym (p.2 ∙ zero-add p.0) in
    subst (λ l. IsNamed l name m) is (subst (IsNamed xs name) e p.1)

pub named_below : (cs : List ClassPlan) (name : List ℕ) (k : ℕ) → IsNamed cs name k → k < length cs
named_below [] name zero p = let e : None ≡ Some p.0 = p.1 in cc
named_below [] name (suc k) p = let e : None ≡ Some p.0 = p.1 in cc
named_below (c ∷ cs) name zero p = omega arith
named_below (c ∷ cs) name (suc k) p = omega (arith, named_below cs name k p)

-- no two classes have one name
any_named : (name : List ℕ) (cs : List ClassPlan) (k : ℕ) → IsNamed cs name k → list_any (pointwise nat_eq name) (map (λ (c : ClassPlan). c.name) cs) ≡ true
any_named name [] zero p = let e : None ≡ Some p.0 = p.1 in cc
any_named name [] (suc k) p = let e : None ≡ Some p.0 = p.1 in cc
any_named name (c ∷ cs) zero p =
    let e : Some c ≡ Some p.0 = p.1 in
    let same : p.0 ≡ c = cc in
    ap (λ b. b || list_any (pointwise nat_eq name) (map (λ (d : ClassPlan). d.name) cs))
    (equal_bytes name c.name (sym p.2 ∙ ap (λ (d : ClassPlan). d.name) same))
any_named name (c ∷ cs) (suc k) p = or_true (pointwise nat_eq name c.name)
    (list_any (pointwise nat_eq name) (map (λ (d : ClassPlan). d.name) cs)) (any_named name cs k p)
  where
    or_true : (a b : Bool) → b ≡ true → (a || b) ≡ true
    or_true true b h = refl
    or_true false b h = h

first_apart : (c : ClassPlan) (cs : List ClassPlan) (name : List ℕ) (k : ℕ)
    → are_distinct bytes_eq (map (λ (d : ClassPlan). d.name) (c ∷ cs)) ≡ true → c.name ≡ name → IsNamed cs name k → ⊥
first_apart c cs name k distinct here p =
    let there = any_named c.name cs k (p.0, p.1, p.2 ∙ sym here) in
    let none = first_so (not (list_any (pointwise nat_eq c.name) (map (λ (d : ClassPlan). d.name) cs)))
    (are_distinct bytes_eq (map (λ (d : ClassPlan). d.name) cs)) distinct in
    false≢true (sym (ap not there) ∙ none)

one_name : (cs : List ClassPlan) (name : List ℕ) → are_distinct bytes_eq (map (λ (d : ClassPlan). d.name) cs) ≡ true
    → (j k : ℕ) → IsNamed cs name j → IsNamed cs name k → j ≡ k
one_name [] name distinct zero k p q = let e : None ≡ Some p.0 = p.1 in cc
one_name [] name distinct (suc j) k p q = let e : None ≡ Some p.0 = p.1 in cc
one_name (c ∷ cs) name distinct zero zero p q = refl
one_name (c ∷ cs) name distinct zero (suc k) p q = absurd (first_apart c cs name k distinct (head_name p) q)
  where
    head_name : IsNamed (c ∷ cs) name zero → c.name ≡ name
    head_name p = let e : Some c ≡ Some p.0 = p.1 in let same : c ≡ p.0 = cc in ap (λ (d : ClassPlan). d.name) same ∙ p.2
one_name (c ∷ cs) name distinct (suc j) zero p q = absurd (first_apart c cs name j distinct (head_name q) p)
  where
    head_name : IsNamed (c ∷ cs) name zero → c.name ≡ name
    head_name p = let e : Some c ≡ Some p.0 = p.1 in let same : c ≡ p.0 = cc in ap (λ (d : ClassPlan). d.name) same ∙ p.2
one_name (c ∷ cs) name distinct (suc j) (suc k) p q =
    ap suc (one_name cs name (second_so (not (list_any (pointwise nat_eq c.name) (map (λ (d : ClassPlan). d.name) cs)))
    (are_distinct bytes_eq (map (λ (d : ClassPlan). d.name) cs)) distinct) j k p q)

pub class_name_at : (P : Plan) (n : ℕ) (c : ClassPlan) → slice_get P.classes n ≡ Some c → class_name P n ≡ c.name
class_name_at P n c e = ap (λ o. option_map_or (λ (d : ClassPlan). d.name) o []) e

-- the class of a task that a row names has its name
pub named_class : (P : Plan) (e : TraceRow) (t : Task) → Names P e t → IsNamed P.classes e.name t.class
named_class P e t h =
    let k = class_of P t h.0 in
    (k.class, k.class_is, sym (ap (λ (x : TraceRow). x.name) h.1 ∙ class_name_at P t.class k.class k.class_is))

-- a row names at most one task
pub one_task : (P : Plan) (e : TraceRow) (t u : Task) → Names P e t → Names P e u → t ≡ u
one_task P e t u h k =
    let class = one_name P.classes e.name P.well_made.class_names t.class u.class (named_class P e t h) (named_class P e u k) in
    let params : t.params ≡ u.params = sym (ap (λ (x : TraceRow). x.params) h.1) ∙ ap (λ (x : TraceRow). x.params) k.1 in
    λ i. record { class = class i; params = params i }

module _ (P : Plan) (e : TraceRow) (name numbers : List ℕ) (row : IsRowOf e name numbers) where
  pub no_such_class : ((k : ℕ) → IsNamed P.classes name k → ⊥) → (t : Task) → Names P e t → ⊥
  no_such_class none t h = none t.class (subst (λ l. IsNamed P.classes l t.class) (sym row.same_name) (named_class P e t h))

  pub are_its_numbers : AreNumbers numbers e.params
  are_its_numbers = record { spelled = row.same_numbers; fit = row.spelled.params }

  module _ (n : ℕ) (named : IsNamed P.classes name n) where
    its_class : (t : Task) → Names P e t → t.class ≡ n
    its_class t h = one_name P.classes e.name P.well_made.class_names t.class n (named_class P e t h) (subst (λ l. IsNamed P.classes l n) row.same_name named)

    -- a row with more numbers than a class may have parameters names no task
    pub too_many : ((s : ClassSpace) → slice_get P.spaces n ≡ Some s → length s.params ≤ 8) → 8 < length e.params → (t : Task) → Names P e t → ⊥
    too_many fits more t h =
        let k = class_of P t h.0 in
        let there : IsIn t.params (tasks k.space) = (rw k.space_is at h.0) in
        let same = ap (λ (x : TraceRow). length x.params) h.1 in
        let arity = arity_of_task k.space t.params there in
        let sized = fits k.space (ap (slice_get P.spaces) (sym (its_class t h)) ∙ k.space_is) in
        absurd (omega arith)

    pub it_is : (params : List ℤ) → params ≡ e.params → (t : Task) → Names P e t → t ≡ task n params
    it_is params is t h =
        let class = its_class t h in
        let same : t.params ≡ params = sym (ap (λ (x : TraceRow). x.params) h.1) ∙ sym is in
        λ i. record { class = class i; params = same i }
