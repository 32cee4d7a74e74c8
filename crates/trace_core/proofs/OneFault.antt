-- A text has at most one first fault. It has none if all its rows may run and no task that runs is missing.
use Rattle.std.proofs.Common.{◌≡◌, ◌≢◌, ℕ, ◌+◌, ◌≤◌, List, [], ◌∷◌, ◌++◌, map, length, refl, ap, sym, ◌∙◌, subst, ◌⊎◌, inl, inr, append_assoc, arith}
use Rattle.std.proofs.lemmas.Bool.{false≢true}
use Rattle.std.proofs.lemmas.List.{append-nil}
use Rattle.ptg_base.specs.Lists.{IsIn}
use Rattle.ptg_base.specs.Task.{Task}
use Rattle.ptg_base.specs.declared.edge.Edge.{Edge}
use Rattle.plan_core.specs.declared.plan.Plan.{Plan}
use Rattle.coll_data.specs.Data.{Data}
use Rattle.dep_iter.specs.Edges.{in_edges}
use Rattle.flow_meaning.specs.Answer.{ran}
use Rattle.trace_core.specs.declared.fault.TraceCode.{TraceCode}
use Rattle.trace_core.specs.declared.fault.TraceCode.TheVariants.{TooLong, BadTrace, UnknownTask, RanTwice, TooEarly, Unfinished}
use Rattle.trace_core.specs.declared.fault.TraceFault.{TraceFault}
use Rattle.trace_core.specs.Faults.{IsFaultOfRow, IsMissing, IsRowFault, IsTraceFault, of_spelling, of_tasks, IsUnfinished}
use Rattle.trace_core.specs.Orders.{MayAllRunAfter, MayRunAfter}
use Rattle.trace_core.specs.Reading.{IsSpellingFault, of_a_row, over_length}
use Rattle.trace_core.specs.Spelling.{IsWellSpelled}
use Rattle.trace_core.specs.Text.{TraceRow, row_of}
use Rattle.trace_core.proofs.Named.{one_task}
use Rattle.trace_core.proofs.OneText.{one_bad_row, one_spelling, spelled_or_bad}

pub same_fault : (f g : TraceFault) → f.row ≡ g.row → f.code ≡ g.code → f ≡ g
same_fault f g p q = λ i. record { row = p i; code = q i }

-- a text has at most one fault of its length or its spelling, and none if it is well spelled
pub one_spelling_fault : (text : List ℕ) (f g : TraceFault) → IsSpellingFault text f → IsSpellingFault text g → f ≡ g
one_spelling_fault text f g (over_length l p) (over_length m r) = p ∙ sym r
one_spelling_fault text f g (over_length l p) (of_a_row le b c) = absurd (omega arith)
one_spelling_fault text f g (of_a_row le a c) (over_length m r) = absurd (omega arith)
one_spelling_fault text f g (of_a_row le a c) (of_a_row ge b d) = same_fault f g (one_bad_row text f.row g.row a b) (c ∙ sym d)

pub no_spelling_fault : (text : List ℕ) (es : List TraceRow) (f : TraceFault) → length text ≤ 16777216 → IsWellSpelled text es → IsSpellingFault text f → ⊥
no_spelling_fault text es f le w (over_length l p) = absurd (omega arith)
no_spelling_fault text es f le w (of_a_row ge a c) = spelled_or_bad text es f.row w a

module _ (P : Plan) (G : Data) where
  pub not_missing : (before : List Task) (t : Task) → MayRunAfter P G before t → (x : Edge) → IsIn x (in_edges P t) → IsMissing P G before x → ⊥
  not_missing before t may x i m = elim m [
    | inl absent ↦ absent (may.follows.after_sources x i)
    | inr trap ↦ false≢true (sym trap ∙ may.have_outputs x i)
  ]

  -- a row whose task may run has no fault
  fault_or_run : (before : List Task) (e : TraceRow) (code : TraceCode) (t : Task) → IsRowFault P G before e code
      → e ≡ row_of P t → MayRunAfter P G before t → ⊥
  fault_or_run before e TooLong t f is may = f
  fault_or_run before e BadTrace t f is may = f
  fault_or_run before e UnknownTask t f is may = f t (may.follows.task, is)
  fault_or_run before e RanTwice t f is may =
      let same = one_task P e f.0 t f.1 (may.follows.task, is) in
      may.follows.first_time (subst (λ u. IsIn u before) same f.2)
  fault_or_run before e TooEarly t f is may =
      let same = one_task P e f.0 t f.1 (may.follows.task, is) in
      not_missing before t may f.3 (subst (λ u. IsIn f.3 (in_edges P u)) same f.4) f.5
  fault_or_run before e Unfinished t f is may = f

  -- a row has at most one code
  one_code : (before : List Task) (e : TraceRow) (c d : TraceCode) → IsRowFault P G before e c → IsRowFault P G before e d → c ≡ d
  one_code before e TooLong d f g = absurd f
  one_code before e BadTrace d f g = absurd f
  one_code before e Unfinished d f g = absurd f
  one_code before e UnknownTask TooLong f g = absurd g
  one_code before e UnknownTask BadTrace f g = absurd g
  one_code before e UnknownTask UnknownTask f g = refl
  one_code before e UnknownTask RanTwice f g = absurd (f g.0 g.1)
  one_code before e UnknownTask TooEarly f g = absurd (f g.0 g.1)
  one_code before e UnknownTask Unfinished f g = absurd g
  one_code before e RanTwice TooLong f g = absurd g
  one_code before e RanTwice BadTrace f g = absurd g
  one_code before e RanTwice UnknownTask f g = absurd (g f.0 f.1)
  one_code before e RanTwice RanTwice f g = refl
  one_code before e RanTwice TooEarly f g = absurd (g.2 (subst (λ u. IsIn u before) (one_task P e f.0 g.0 f.1 g.1) f.2))
  one_code before e RanTwice Unfinished f g = absurd g
  one_code before e TooEarly TooLong f g = absurd g
  one_code before e TooEarly BadTrace f g = absurd g
  one_code before e TooEarly UnknownTask f g = absurd (g f.0 f.1)
  one_code before e TooEarly RanTwice f g = absurd (f.2 (subst (λ u. IsIn u before) (one_task P e g.0 f.0 g.1 f.1) g.2))
  one_code before e TooEarly TooEarly f g = refl
  one_code before e TooEarly Unfinished f g = absurd g

  -- if all rows may run, none of them fails
  none_fails : (acc ts front : List Task) (e : TraceRow) (later : List TraceRow) (c : TraceCode)
      → map (row_of P) ts ≡ map (row_of P) front ++ e ∷ later → MayAllRunAfter P G acc ts → MayAllRunAfter P G acc front
      → IsRowFault P G (acc ++ front) e c → ⊥
  none_fails acc [] [] e later c h may mays f = let never : [] ≡ e ∷ later = h in absurd cc
  none_fails acc [] (u ∷ us) e later c h may mays f = let never : [] ≡ row_of P u ∷ (map (row_of P) us ++ e ∷ later) = h in absurd cc
  none_fails acc (t ∷ ts) [] e later c h may mays f =
      let whole : row_of P t ∷ map (row_of P) ts ≡ e ∷ later = h in
      let first : row_of P t ≡ e = cc in
      fault_or_run acc e c t (subst (λ b. IsRowFault P G b e c) (append-nil acc) f) (sym first) may.0
  none_fails acc (t ∷ ts) (u ∷ us) e later c h may mays f =
      let whole : row_of P t ∷ map (row_of P) ts ≡ row_of P u ∷ (map (row_of P) us ++ e ∷ later) = h in
      let first : row_of P t ≡ row_of P u = cc in
      let rest : map (row_of P) ts ≡ map (row_of P) us ++ e ∷ later = cc in
      let same = one_task P (row_of P t) t u (may.0.follows.task, refl) (mays.0.follows.task, first) in
      none_fails (acc ++ t ∷ []) ts us e later c rest may.1 (subst (λ v. MayAllRunAfter P G (acc ++ v ∷ []) us) (sym same) mays.1)
      (subst (λ b. IsRowFault P G b e c) ((λ i. acc ++ sym same i ∷ us) ∙ sym (append_assoc acc (t ∷ []) us)) f)

  -- two rows that fail, each after rows that may run, are the same
  one_row : (acc front rear : List Task) (d e : TraceRow) (ds es : List TraceRow) (b c : TraceCode)
      → map (row_of P) front ++ d ∷ ds ≡ map (row_of P) rear ++ e ∷ es → MayAllRunAfter P G acc front
      → MayAllRunAfter P G acc rear
      → IsRowFault P G (acc ++ front) d b → IsRowFault P G (acc ++ rear) e c → (length front ≡ length rear) × (b ≡ c)
  one_row acc [] [] d e ds es b c h may mays f g =
      let whole : d ∷ ds ≡ e ∷ es = h in
      let first : d ≡ e = cc in
      (refl, one_code (acc ++ []) d b c f (subst (λ x. IsRowFault P G (acc ++ []) x c) (sym first) g))
  one_row acc [] (u ∷ us) d e ds es b c h may mays f g =
      let whole : d ∷ ds ≡ row_of P u ∷ (map (row_of P) us ++ e ∷ es) = h in
      let first : d ≡ row_of P u = cc in
      absurd (fault_or_run acc d b u (subst (λ x. IsRowFault P G x d b) (append-nil acc) f) first mays.0)
  one_row acc (t ∷ ts) [] d e ds es b c h may mays f g =
      let whole : row_of P t ∷ (map (row_of P) ts ++ d ∷ ds) ≡ e ∷ es = h in
      let first : row_of P t ≡ e = cc in
      absurd (fault_or_run acc e c t (subst (λ x. IsRowFault P G x e c) (append-nil acc) g) (sym first) may.0)
  one_row acc (t ∷ ts) (u ∷ us) d e ds es b c h may mays f g =
      let whole : row_of P t ∷ (map (row_of P) ts ++ d ∷ ds) ≡ row_of P u ∷ (map (row_of P) us ++ e ∷ es) = h in
      let first : row_of P t ≡ row_of P u = cc in
      let rest : map (row_of P) ts ++ d ∷ ds ≡ map (row_of P) us ++ e ∷ es = cc in
      let same = one_task P (row_of P t) t u (may.0.follows.task, refl) (mays.0.follows.task, first) in
      let q = one_row (acc ++ t ∷ []) ts us d e ds es b c rest may.1 (subst (λ v. MayAllRunAfter P G (acc ++ v ∷ []) us) (sym same) mays.1)
      (subst (λ x. IsRowFault P G x d b) (sym (append_assoc acc (t ∷ []) ts)) f)
      (subst (λ x. IsRowFault P G x e c) ((λ i. acc ++ sym same i ∷ us) ∙ sym (append_assoc acc (t ∷ []) us)) g) in
      (omega (arith, q.0), q.1)

  -- lists of tasks that may run and have the same rows are the same
  pub same_tasks : (acc ts us : List Task) → map (row_of P) ts ≡ map (row_of P) us → MayAllRunAfter P G acc ts → MayAllRunAfter P G acc us → ts ≡ us
  same_tasks acc [] [] h may mays = refl
  same_tasks acc [] (u ∷ us) h may mays = let never : [] ≡ row_of P u ∷ map (row_of P) us = h in absurd cc
  same_tasks acc (t ∷ ts) [] h may mays = let never : row_of P t ∷ map (row_of P) ts ≡ [] = h in absurd cc
  same_tasks acc (t ∷ ts) (u ∷ us) h may mays =
      let whole : row_of P t ∷ map (row_of P) ts ≡ row_of P u ∷ map (row_of P) us = h in
      let first : row_of P t ≡ row_of P u = cc in
      let rest : map (row_of P) ts ≡ map (row_of P) us = cc in
      let same = one_task P (row_of P t) t u (may.0.follows.task, refl) (mays.0.follows.task, first) in
      let later = same_tasks (acc ++ t ∷ []) ts us rest may.1 (subst (λ v. MayAllRunAfter P G (acc ++ v ∷ []) us) (sym same) mays.1) in
      λ i. same i ∷ later i

  one_of_tasks : (es : List TraceRow) (f g : TraceFault) → IsFaultOfRow P G es f ⊎ IsUnfinished P G es f → IsFaultOfRow P G es g ⊎ IsUnfinished P G es g → f ≡ g
  one_of_tasks es f g (inl a) (inl b) =
      let q = one_row [] a.before b.before a.failed b.failed a.later b.later f.code g.code (sym a.split ∙ b.split) a.may_run b.may_run a.code b.code in
      same_fault f g (a.row ∙ ap (λ n. n + 2) q.0 ∙ sym b.row) q.1
  one_of_tasks es f g (inl a) (inr b) = absurd (none_fails [] b.tasks a.before a.failed a.later f.code (sym b.all ∙ a.split) b.may_run a.may_run a.code)
  one_of_tasks es f g (inr a) (inl b) = absurd (none_fails [] a.tasks b.before b.failed b.later g.code (sym a.all ∙ b.split) a.may_run b.may_run b.code)
  one_of_tasks es f g (inr a) (inr b) = same_fault f g (a.row ∙ sym b.row) (a.code ∙ sym b.code)

  pub one_fault : (text : List ℕ) (f g : TraceFault) → IsTraceFault P G text f → IsTraceFault P G text g → f ≡ g
  one_fault text f g (of_spelling a) (of_spelling b) = one_spelling_fault text f g a b
  one_fault text f g (of_spelling a) (of_tasks es le w b) = absurd (no_spelling_fault text es f le w a)
  one_fault text f g (of_tasks es le w a) (of_spelling b) = absurd (no_spelling_fault text es g le w b)
  one_fault text f g (of_tasks es le w a) (of_tasks ds ge v b) =
      one_of_tasks es f g a (subst (λ l. IsFaultOfRow P G l g ⊎ IsUnfinished P G l g) (sym (one_spelling text es ds w v)) b)

  -- a text whose rows are tasks that may run, with each task that runs among them, has no fault
  pub faultless : (text : List ℕ) (ts : List Task) → length text ≤ 16777216 → IsWellSpelled text (map (row_of P) ts)
      → MayAllRunAfter P G [] ts → ((t : Task) → IsIn t (ran P G) → IsIn t ts) → (f : TraceFault)
      → IsTraceFault P G text f → ⊥
  faultless text ts le w may all f (of_spelling a) = no_spelling_fault text (map (row_of P) ts) f le w a
  faultless text ts le w may all f (of_tasks es ge v a) = by
      (subst (λ l. IsFaultOfRow P G l f ⊎ IsUnfinished P G l f) (one_spelling text es (map (row_of P) ts) v w) a)
    where
      by : IsFaultOfRow P G (map (row_of P) ts) f ⊎ IsUnfinished P G (map (row_of P) ts) f → ⊥
      by (inl r) = none_fails [] ts r.before r.failed r.later f.code r.split may r.may_run r.code
      by (inr u) = u.missing.2 (subst (IsIn u.missing.0) (same_tasks [] ts u.tasks u.all may u.may_run) (all u.missing.0 u.missing.1))
