-- A job has, with its data and weights, at most one certificate.
use Rattle.std.proofs.Common.{◌≡◌, ℕ, List, [], ◌∷◌, ◌++◌, reverse, refl, ap, sym, ◌∙◌, subst, append_assoc, ◌⊎◌, inl, inr}
use Rattle.std.proofs.lemmas.Bool.{false≢true}
use Rattle.std.proofs.lemmas.List.{append-nil, same_from_push}
use Rattle.std.specs.Map.{keys_of}
use Rattle.ptg_base.specs.Lists.{HasNoRepeats, IsIn}
use Rattle.ptg_base.specs.Task.{Task}
use Rattle.plan_core.specs.declared.plan.Plan.{Plan}
use Rattle.coll_data.specs.Data.{Data}
use Rattle.list_lemmas.proofs.Members.{IsIn-append_right}
use Rattle.list_lemmas.proofs.Distinct.{HasNoRepeats-apart}
use Rattle.dep_iter.specs.Tasks.{IsTask, all_tasks}
use Rattle.dep_iter.specs.Consistent.{IsConsistent}
use Rattle.dep_iter.proofs.CallerLemmas.{listed}
use Rattle.flow_meaning.specs.Answer.{ran}
use Rattle.chain_cert.specs.declared.certificate.Certificate.{Certificate}
use Rattle.chain_cert.specs.declared.certificate.Certificate.TheVariants.{Chain, Cycle, Trapped}
use Rattle.chain_cert.specs.Certificates.{AreLevels, IsCertificate}
use Rattle.chain_cert.specs.Levels.{IsLevel}
use Rattle.chain_cert.specs.Printed.{IsChainBack, IsHeaviestSource, HasGreatestLevel, IsLeast, IsPrintedChain}
use Rattle.chain_cert.specs.Printed.{IsPrintedCycle, IsSourceLeft, IsTaskLeft, IsTracedBack, IsWalkBack, IsWalkedBack}
use Rattle.chain_cert.proofs.CallerLemmas.{After, Before, Same, last_or_none, level_one, ordered, printed_is_cycle}

-- at most one task is the least of a kind
pub least_one : (Kind : Task → Type 0) (a b : Task) → IsLeast Kind a → IsLeast Kind b → a ≡ b
least_one Kind a b x y = elim (ordered a b) [
  | Before h ↦ absurd (false≢true (sym (y.least a x.kind) ∙ h))
  | Same e ↦ e
  | After h ↦ absurd (false≢true (sym (x.least b y.kind) ∙ h))
]

module _ (P : Plan) (ws : List ℕ) where
  traced_one : (t : Task) (xs ys : List Task) → IsTracedBack P ws t xs → IsTracedBack P ws t ys → xs ≡ ys
  traced_one t [] [] a b = refl
  traced_one t [] (r ∷ rs) a b = absurd (b.0 a)
  traced_one t (s ∷ ss) [] a b = absurd (a.0 b)
  traced_one t (s ∷ ss) (r ∷ rs) a b =
      let same : s ≡ r = least_one (IsHeaviestSource P ws t) s r a.1 b.1 in
      let rest : ss ≡ rs = traced_one s ss rs a.2 (subst (λ u. IsTracedBack P ws u rs) (sym same) b.2) in
      ap (λ u. u ∷ ss) same ∙ ap (λ l. r ∷ l) rest

  some_task : (t : Task) → IsTask P t → all_tasks P ≡ [] → ⊥
  some_task t job e = subst (IsIn t) e ((listed P t).0 job)

  back_one : (xs ys : List Task) → IsChainBack P ws xs → IsChainBack P ws ys → xs ≡ ys
  back_one [] [] a b = refl
  back_one [] (u ∷ us) a b = absurd (some_task u b.0.kind.task a)
  back_one (t ∷ ts) [] a b = absurd (some_task t a.0.kind.task b)
  back_one (t ∷ ts) (u ∷ us) a b =
      let same : t ≡ u = least_one (HasGreatestLevel P ws) t u a.0 b.0 in
      let rest : ts ≡ us = traced_one t ts us a.1 (subst (λ v. IsTracedBack P ws v us) (sym same) b.1) in
      ap (λ v. v ∷ ts) same ∙ ap (λ l. u ∷ l) rest

  pub chain_one : (c d : List Task) → IsPrintedChain P ws c → IsPrintedChain P ws d → c ≡ d
  chain_one c d a b = a.turned ∙ ap reverse (back_one a.back b.back a.is_back b.is_back) ∙ sym b.turned

  rows_one : (xs ys : List (Task × ℕ)) → keys_of xs ≡ keys_of ys
      → ((t : Task) (n : ℕ) → IsIn (t, n) xs → IsLevel P ws t n)
      → ((t : Task) (n : ℕ) → IsIn (t, n) ys → IsLevel P ws t n) → xs ≡ ys
  rows_one [] [] e a b = refl
  rows_one [] (y ∷ ys) e a b = absurd cc
  rows_one (x ∷ xs) [] e a b = absurd cc
  rows_one (x ∷ xs) (y ∷ ys) e a b =
      let task : x.0 ≡ y.0 = cc in
      let tasks : keys_of xs ≡ keys_of ys = cc in
      let level : x.1 ≡ y.1 = level_one P ws x.0 x.1 y.1 (a x.0 x.1 (inl refl)) (subst (λ t. IsLevel P ws t y.1) (sym task) (b y.0 y.1 (inl refl))) in
      let row : x ≡ y = λ i. (task i, level i) in
      let rest : xs ≡ ys = rows_one xs ys tasks (λ t n i. a t n (inr i)) (λ t n i. b t n (inr i)) in
      ap (λ r. r ∷ xs) row ∙ ap (λ l. y ∷ l) rest

  pub levels_one : (xs ys : List (Task × ℕ)) → AreLevels P ws xs → AreLevels P ws ys → xs ≡ ys
  levels_one xs ys a b = rows_one xs ys (a.tasks ∙ sym b.tasks) a.each b.each

-- a list without repeats splits at an element in one way only
one_split : (t : Task) (a b c d : List Task) → HasNoRepeats (a ++ t ∷ b) → a ++ t ∷ b ≡ c ++ t ∷ d → b ≡ d
one_split t [] b [] d once e = cc
one_split t [] b (z ∷ c) d once e =
    let tail : b ≡ c ++ t ∷ d = cc in
    absurd (once.0 (subst (IsIn t) (sym tail) (IsIn-append_right t c (t ∷ d) (inl refl))))
one_split t (z ∷ a) b [] d once e =
    let head : z ≡ t = cc in
    absurd (once.0 (subst (λ u. IsIn u (a ++ t ∷ b)) (sym head) (IsIn-append_right t a (t ∷ b) (inl refl))))
one_split t (z ∷ a) b (w ∷ c) d once e = let tail : a ++ t ∷ b ≡ c ++ t ∷ d = cc in one_split t a b c d once.1 tail

module _ (P : Plan) (R : List Task) where
  -- the second walk goes on where the first one ends
  abbrev GoesOn : List Task → List Task → Type 0
  GoesOn xs ys = (more : List Task) × (ys ≡ xs ++ more)

  walked_one : (t : Task) (xs ys : List Task) → IsWalkedBack P R t xs → IsWalkedBack P R t ys → GoesOn xs ys ⊎ GoesOn ys xs
  walked_one t [] ys a b = inl (ys, refl)
  walked_one t (s ∷ ss) [] a b = inr (s ∷ ss, refl)
  walked_one t (s ∷ ss) (r ∷ rs) a b =
      let same : s ≡ r = least_one (IsSourceLeft P R t) s r a.0 b.0 in
      elim (walked_one s ss rs a.1 (subst (λ u. IsWalkedBack P R u rs) (sym same) b.1)) [
        | inl p ↦ inl (p.0, ap (λ u. u ∷ rs) (sym same) ∙ ap (λ l. s ∷ l) p.1)
        | inr p ↦ inr (p.0, ap (λ u. u ∷ ss) same ∙ ap (λ l. r ∷ l) p.1)
      ]

  walk_one : (xs ys : List Task) → IsWalkBack P R xs → IsWalkBack P R ys → GoesOn xs ys ⊎ GoesOn ys xs
  walk_one [] ys a b = absurd a
  walk_one (t ∷ ts) [] a b = absurd b
  walk_one (t ∷ ts) (u ∷ us) a b =
      let same : t ≡ u = least_one (IsTaskLeft P R) t u a.0 b.0 in
      elim (walked_one t ts us a.1 (subst (λ v. IsWalkedBack P R v us) (sym same) b.1)) [
        | inl p ↦ inl (p.0, ap (λ v. v ∷ us) (sym same) ∙ ap (λ l. t ∷ l) p.1)
        | inr p ↦ inr (p.0, ap (λ v. v ∷ ts) same ∙ ap (λ l. u ∷ l) p.1)
      ]

  -- if a walk that ends at a task met before goes on to a walk without repeats before its last task, the two are the
  -- same
  stops : (a b : List Task) (t u : Task) → IsIn t a → HasNoRepeats b → GoesOn (a ++ t ∷ []) (b ++ u ∷ []) → (a ≡ b) × (t ≡ u)
  stops a b t u i once p = elim (last_or_none p.0) [
    | inl none ↦ same_from_push a b t u (sym (p.1 ∙ ap (λ l. a ++ t ∷ [] ++ l) none ∙ append-nil (a ++ t ∷ [])))
    | inr q ↦
        let whole : b ++ u ∷ [] ≡ ((a ++ t ∷ []) ++ q.0) ++ q.1 ∷ [] = p.1 ∙ ap (λ l. a ++ t ∷ [] ++ l) q.2 ∙ sym (append_assoc (a ++ t ∷ []) q.0 (q.1 ∷ [])) in
        let front : b ≡ a ++ (t ∷ [] ++ q.0) = (same_from_push b ((a ++ t ∷ []) ++ q.0) u q.1 whole).0 ∙ append_assoc a (t ∷ []) q.0 in
        absurd (HasNoRepeats-apart a (t ∷ [] ++ q.0) (subst HasNoRepeats front once) t i (inl refl))
  ]

  pub cycle_one : (c d : List Task) → IsPrintedCycle P R c → IsPrintedCycle P R d → c ≡ d
  cycle_one c d x y =
      let a = x.before ++ x.twice ∷ x.between in
      let b = y.before ++ y.twice ∷ y.between in
      let same : (a ≡ b) × (x.twice ≡ y.twice) = elim (walk_one (a ++ x.twice ∷ []) (b ++ y.twice ∷ []) x.walk y.walk) [
        | inl p ↦ stops a b x.twice y.twice (IsIn-append_right x.twice x.before (x.twice ∷ x.between) (inl refl)) y.once p
        | inr p ↦ let q = stops b a y.twice x.twice (IsIn-append_right y.twice y.before (y.twice ∷ y.between) (inl refl)) x.once p in (sym q.0, sym q.1)
      ] in
      let split : x.before ++ x.twice ∷ x.between ≡ y.before ++ x.twice ∷ y.between = same.0 ∙ ap (λ v. y.before ++ v ∷ y.between) (sym same.1) in
      let rest = one_split x.twice x.before x.between y.before y.between x.once split in
      x.turned ∙ ap (λ l. reverse (x.twice ∷ l)) rest ∙ ap (λ v. reverse (v ∷ y.between)) same.1 ∙ sym y.turned

pub one : (P : Plan) (G : Data) (ws : List ℕ) (c d : Certificate) → IsConsistent P → IsCertificate P G ws c → IsCertificate P G ws d → c ≡ d
one P G ws (Chain c k) (Chain d l) con a b = ap (λ x. Chain x k) (chain_one P ws c d a.2 b.2) ∙ ap (λ y. Chain d y) (levels_one P ws k l a.3 b.3)
one P G ws (Chain c k) (Cycle d) con a b = absurd (a.1 d (printed_is_cycle P con (ran P G) d b.1))
one P G ws (Chain c k) Trapped con a b = absurd (b a.0)
one P G ws (Cycle c) (Chain d l) con a b = absurd (b.1 c (printed_is_cycle P con (ran P G) c a.1))
one P G ws (Cycle c) (Cycle d) con a b = ap (λ x. Cycle x) (cycle_one P (ran P G) c d a.1 b.1)
one P G ws (Cycle c) Trapped con a b = absurd (b a.0)
one P G ws Trapped (Chain d l) con a b = absurd (a b.0)
one P G ws Trapped (Cycle d) con a b = absurd (a b.0)
one P G ws Trapped Trapped con a b = refl
