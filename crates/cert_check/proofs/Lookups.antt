-- What a binary search finds among rows in task order.
use Rattle.std.proofs.Common.{◌≡◌, ℕ, ◌<◌, IsTrue, slice_index_or, Option, Some, None, MatchOption, take, drop, length}
use Rattle.std.proofs.Common.{append_assoc, arith, ◌+◌, ◌↔◌, true, List, [], ◌∷◌, ◌++◌, refl, ap, sym, ◌∙◌, subst, inl}
use Rattle.std.proofs.Common.{inr}
use Rattle.std.specs.Prelude.{nat_le}
use Rattle.std.proofs.lemmas.Bool.{leb-true, le-leb}
use Rattle.std.proofs.lemmas.List.{append-nil, take-append-drop}
use Rattle.std.specs.Map.{keys_of}
use Rattle.ptg_base.specs.Lists.{IsIn}
use Rattle.ptg_base.specs.Task.{Task}
use Rattle.ptg_base.specs.TaskOrder.{task_before}
use Rattle.list_lemmas.proofs.Members.{IsIn-append_left, IsIn-append_right, IsIn-map, from_append, from_map}
use Rattle.list_lemmas.proofs.Places.{IsIn-slice_get, slice_get_at}
use Rattle.ptg_base.specs.declared.edge.Edge.{Edge}
use Rattle.plan_core.specs.declared.plan.Plan.{Plan}
use Rattle.dep_iter.specs.Edges.{in_edges}
use Rattle.chain_cert.specs.Chains.{IsSourceOf}
use Rattle.cert_check.specs.Checking.{IsAboveSource}
use Rattle.chain_cert.specs.Checking.{IsRising}
use Rattle.chain_cert.proofs.CallerLemmas.{not_both, not_itself}

row_task : (t : Task) (k : ℕ) (rows : List (Task × ℕ)) → IsIn (t, k) rows → IsIn t (keys_of rows)
row_task t k rows i = IsIn-map (λ (row : Task × ℕ). row.0) rows (t, k) i

-- each part of rising rows rises
pub rising_left : (before : List (Task × ℕ)) (row : Task × ℕ) (later : List (Task × ℕ)) → IsRising (keys_of (before ++ row ∷ later)) → IsRising (keys_of before)
rising_left [] row later up = tt
rising_left (r ∷ rs) row later up = (λ u i. up.0 u (in_left rs (row ∷ later) u i), rising_left rs row later up.1)
  where
    in_left : (xs ys : List (Task × ℕ)) (u : Task) → IsIn u (keys_of xs) → IsIn u (keys_of (xs ++ ys))
    in_left [] ys u i = absurd i
    in_left (x ∷ xs) ys u i = elim i [ inl e ↦ inl e | inr deep ↦ inr (in_left xs ys u deep) ]

pub rising_right : (before : List (Task × ℕ)) (row : Task × ℕ) (later : List (Task × ℕ))
    → IsRising (keys_of (before ++ row ∷ later)) → IsRising (keys_of (row ∷ later))
rising_right [] row later up = up
rising_right (r ∷ rs) row later up = rising_right rs row later up.1

-- the tasks of the rows before one are before its task
before_all : (before : List (Task × ℕ)) (row : Task × ℕ) (later : List (Task × ℕ))
    → IsRising (keys_of (before ++ row ∷ later)) → (u : Task) → IsIn u (keys_of before) → task_before u row.0 ≡ true
before_all [] row later up u i = absurd i
before_all (r ∷ rs) row later up u i = elim i [
  | inl e ↦ subst (λ v. task_before v row.0 ≡ true) (sym e) (up.0 row.0 (among rs row later))
  | inr deep ↦ before_all rs row later up.1 u deep
]
  where
    among : (rs : List (Task × ℕ)) (row : Task × ℕ) (later : List (Task × ℕ)) → IsIn row.0 (keys_of (rs ++ row ∷ later))
    among [] row later = inl refl
    among (r ∷ rs) row later = inr (among rs row later)

module _ (before : List (Task × ℕ)) (row : Task × ℕ) (later : List (Task × ℕ)) (up : IsRising (keys_of (before ++ row ∷ later))) (t : Task) (k : ℕ) where
  -- a task before the row's is looked up before the row, a later one after it
  pub left_of : task_before t row.0 ≡ true → IsIn (t, k) (before ++ row ∷ later) ↔ IsIn (t, k) before
  left_of h = (
    λ i. elim (from_append (t, k) before (row ∷ later) i) [
      | inl b ↦ b
      | inr here ↦ elim here [
        | inl e ↦ absurd (not_itself t (subst (λ u. task_before t u ≡ true) (sym (ap (λ (r : Task × ℕ). r.0) e)) h))
        | inr l ↦ absurd (not_both t row.0 h ((rising_right before row later up).0 t (row_task t k later l)))
      ]
    ],
    λ i. IsIn-append_left (t, k) before (row ∷ later) i,
  )

  pub right_of : task_before row.0 t ≡ true → IsIn (t, k) (before ++ row ∷ later) ↔ IsIn (t, k) later
  right_of h = (
    λ i. elim (from_append (t, k) before (row ∷ later) i) [
      | inl b ↦ absurd (not_both t row.0 (before_all before row later up t (row_task t k before b)) h)
      | inr here ↦ elim here [
        | inl e ↦ absurd (not_itself t (subst (λ u. task_before u t ≡ true) (sym (ap (λ (r : Task × ℕ). r.0) e)) h))
        | inr l ↦ l
      ]
    ],
    λ i. IsIn-append_right (t, k) before (row ∷ later) (inr i),
  )

  pub at_row : t ≡ row.0 → IsIn (t, k) (before ++ row ∷ later) ↔ (k ≡ row.1)
  at_row same = (
    λ i. elim (from_append (t, k) before (row ∷ later) i) [
      | inl b ↦ absurd (not_itself t (subst (λ u. task_before t u ≡ true) (sym same) (before_all before row later up t (row_task t k before b))))
      | inr here ↦ elim here [
        | inl e ↦ ap (λ (r : Task × ℕ). r.1) e
        | inr l ↦ absurd (not_itself t (subst (λ u. task_before u t ≡ true) (sym same) ((rising_right before row later up).0 t (row_task t k later l))))
      ]
    ],
    λ e. IsIn-append_right (t, k) before (row ∷ later) (inl (λ i. (same i, e i))),
  )

pub split_rows : (rows before after later : List (Task × ℕ)) (row : Task × ℕ) (n : ℕ) → before ≡ take n rows
    → after ≡ drop n rows → after ≡ row ∷ later → before ++ row ∷ later ≡ rows
split_rows rows before after later row n b a s = ap (λ l. l ++ row ∷ later) b ∙ ap (λ l. take n rows ++ l) (sym s ∙ a) ∙ take-append-drop n rows

-- the level n is high enough for the source of each edge before those that are left
pub record AboveSoFar (levels : List (Task × ℕ)) (w n : ℕ) (all left : List Edge) : Type 0 where
  pub passed : List Edge
  pub split : all ≡ passed ++ left
  pub above : (e : Edge) → IsIn e passed → IsAboveSource levels w n e.from

pub above_next : (levels : List (Task × ℕ)) (w n : ℕ) (all left : List Edge) (e : Edge)
    → AboveSoFar levels w n all (e ∷ left) → IsAboveSource levels w n e.from → AboveSoFar levels w n all left
above_next levels w n all left e a h = record {
  passed = a.passed ++ e ∷ [];
  split = a.split ∙ sym (append_assoc a.passed (e ∷ []) left);
  above = λ d i. elim (from_append d a.passed (e ∷ []) i) [
    | inl old ↦ a.above d old
    | inr new ↦ elim new [ inl q ↦ subst (λ (x : Edge). IsAboveSource levels w n x.from) (sym q) h | inr never ↦ absurd never ]
  ];
}

pub above_end : (P : Plan) (t : Task) (levels : List (Task × ℕ)) (w n : ℕ) (all : List Edge) → all ≡ in_edges P t
    → AboveSoFar levels w n all [] → (s : Task) → IsSourceOf P s t → IsAboveSource levels w n s
above_end P t levels w n all is a s link =
    let e = from_map (λ (d : Edge). d.from) (in_edges P t) s link in
    let these : in_edges P t ≡ a.passed = sym is ∙ a.split ∙ append-nil a.passed in
    subst (IsAboveSource levels w n) (sym e.2) (a.above e.0 (subst (IsIn e.0) these e.1))

-- an edge that is left comes from a source
pub above_source : (P : Plan) (t : Task) (levels : List (Task × ℕ)) (w n : ℕ) (all left : List Edge) (e : Edge)
    → all ≡ in_edges P t → AboveSoFar levels w n all (e ∷ left) → IsSourceOf P e.from t
above_source P t levels w n all left e is a =
    IsIn-map (λ (d : Edge). d.from) (in_edges P t) e (subst (IsIn e) (sym a.split ∙ is) (IsIn-append_right e a.passed (e ∷ left) (inl refl)))

-- what a look-up finds: the only level of the task among rows, or that there is none
abbrev pub LevelIs : List (Task × ℕ) → Task → Option ℕ → Type 0
LevelIs rows t o = MatchOption o ((k : ℕ) → IsIn (t, k) rows → ⊥) (λ n. (k : ℕ) → IsIn (t, k) rows ↔ (k ≡ n))

pub level_moves : (rows part : List (Task × ℕ)) (t : Task) (o : Option ℕ)
    → ((k : ℕ) → IsIn (t, k) rows ↔ IsIn (t, k) part) → LevelIs part t o → LevelIs rows t o
level_moves rows part t None h l = λ k i. l k ((h k).0 i)
level_moves rows part t (Some n) h l = λ k. (λ i. (l k).0 ((h k).0 i), λ e. (h k).1 ((l k).1 e))

pub above_by : (levels : List (Task × ℕ)) (s : Task) (w n level a b d : ℕ) → a ≡ level → b ≡ w → d ≡ n
    → ((k : ℕ) → IsIn (s, k) levels ↔ (k ≡ level)) → IsTrue (nat_le (a + b) d) ↔ IsAboveSource levels w n s
above_by levels s w n level a b d p q r found = (
  λ e k i. let same = (found k).0 i in let most = leb-true (a + b) d e in omega (arith, same, most, p, q, r),
  λ h. let most = h level ((found level).1 refl) in le-leb (a + b) d (omega (arith, most, p, q, r)),
)

-- what is read at an index is a member
pub read_in : {A : Type 0} (k : ℕ) (xs : List A) (x : A) → k < length xs → x ≡ slice_index_or xs k x → IsIn x xs
read_in k xs x h e = IsIn-slice_get xs k x (slice_get_at xs k x h e)
