-- A text is read as one list of different tasks of a job, or has one first fault as such a list, and not both.
use Rattle.std.proofs.Common.{◌≡◌, ℕ, ◌+◌, List, [], ◌∷◌, ◌++◌, map, length, refl, ap, sym, ◌∙◌, subst, inl, inr, append_assoc, None, Result, Ok, Err, arith}
use Rattle.std.specs.Prelude.{IfOk}
use Rattle.std.specs.List.{AllByRecursion}
use Rattle.std.proofs.lemmas.List.{append-nil}
use Rattle.ptg_base.specs.Lists.{HasNoRepeats, IsIn}
use Rattle.ptg_base.specs.Returns.{FindsOrRefuses}
use Rattle.ptg_base.specs.Task.{Task}
use Rattle.ptg_base.specs.declared.refusal.Refusal.{Refusal}
use Rattle.ptg_base.specs.declared.refusal.Refusal.TheVariants.{Fault, OutOfMemory}
use Rattle.plan_core.specs.declared.plan.Plan.{Plan}
use Rattle.dep_iter.specs.Tasks.{IsTask}
use Rattle.list_lemmas.proofs.Distinct.{HasNoRepeats-apart}
use Rattle.trace_core.specs.declared.fault.TraceCode.{TraceCode}
use Rattle.trace_core.specs.declared.fault.TraceCode.TheVariants.{TooLong, BadTrace, UnknownTask, RanTwice, TooEarly, Unfinished}
use Rattle.trace_core.specs.declared.fault.TraceFault.{TraceFault}
use Rattle.trace_core.specs.Naming.{AreRowsBefore, AreRowsOf, IsNamingFault, Names}
use Rattle.trace_core.specs.Reading.{IsReadFault, IsReading}
use Rattle.trace_core.specs.Text.{TraceRow, row_of}
use Rattle.trace_core.proofs.Lists.{same_list}
use Rattle.trace_core.proofs.Named.{one_task}
use Rattle.trace_core.proofs.OneFault.{no_spelling_fault, one_spelling_fault, same_fault}
use Rattle.trace_core.proofs.OneText.{one_spelling}

module _ (P : Plan) where
  -- a row that names a new task has no fault
  no_fault : (before : List Task) (e : TraceRow) (t : Task) (c : TraceCode) → Names P e t → (IsIn t before → ⊥) → IsNamingFault P before e c → ⊥
  no_fault before e t TooLong names new f = f
  no_fault before e t BadTrace names new f = f
  no_fault before e t UnknownTask names new f = f t names
  no_fault before e t RanTwice names new f = new (subst (λ u. IsIn u before) (one_task P e f.0 t f.1 names) f.2)
  no_fault before e t TooEarly names new f = f
  no_fault before e t Unfinished names new f = f

  -- a row has at most one code
  one_code : (before : List Task) (e : TraceRow) (c d : TraceCode) → IsNamingFault P before e c → IsNamingFault P before e d → c ≡ d
  one_code before e TooLong d f g = absurd f
  one_code before e BadTrace d f g = absurd f
  one_code before e TooEarly d f g = absurd f
  one_code before e Unfinished d f g = absurd f
  one_code before e UnknownTask TooLong f g = absurd g
  one_code before e UnknownTask BadTrace f g = absurd g
  one_code before e UnknownTask UnknownTask f g = refl
  one_code before e UnknownTask RanTwice f g = absurd (f g.0 g.1)
  one_code before e UnknownTask TooEarly f g = absurd g
  one_code before e UnknownTask Unfinished f g = absurd g
  one_code before e RanTwice TooLong f g = absurd g
  one_code before e RanTwice BadTrace f g = absurd g
  one_code before e RanTwice UnknownTask f g = absurd (g f.0 f.1)
  one_code before e RanTwice RanTwice f g = refl
  one_code before e RanTwice TooEarly f g = absurd g
  one_code before e RanTwice Unfinished f g = absurd g

  -- a task after others that are different is new
  is_new : (acc ts : List Task) (t : Task) → HasNoRepeats (acc ++ t ∷ ts) → IsIn t acc → ⊥
  is_new acc ts t once i = HasNoRepeats-apart acc (t ∷ ts) once t i (inl refl)

  -- of rows of different tasks, none fails
  none_fails : (acc ts us : List Task) (e : TraceRow) (later : List TraceRow) (c : TraceCode) → map (row_of P) ts ≡ map (row_of P) us ++ e ∷ later
      → AllByRecursion (IsTask P) ts → AllByRecursion (IsTask P) us → HasNoRepeats (acc ++ ts) → IsNamingFault P (acc ++ us) e c → ⊥
  none_fails acc [] [] e later c h job jobs once f = let never : [] ≡ e ∷ later = h in absurd cc
  none_fails acc [] (u ∷ us) e later c h job jobs once f = let never : [] ≡ row_of P u ∷ (map (row_of P) us ++ e ∷ later) = h in absurd cc
  none_fails acc (t ∷ ts) [] e later c h job jobs once f =
      let whole : row_of P t ∷ map (row_of P) ts ≡ e ∷ later = h in
      let first : row_of P t ≡ e = cc in
      no_fault acc e t c (job.0, sym first) (is_new acc ts t once) (subst (λ b. IsNamingFault P b e c) (append-nil acc) f)
  none_fails acc (t ∷ ts) (u ∷ us) e later c h job jobs once f =
      let whole : row_of P t ∷ map (row_of P) ts ≡ row_of P u ∷ (map (row_of P) us ++ e ∷ later) = h in
      let first : row_of P t ≡ row_of P u = cc in
      let rest : map (row_of P) ts ≡ map (row_of P) us ++ e ∷ later = cc in
      let same = one_task P (row_of P t) t u (job.0, refl) (jobs.0, first) in
      none_fails (acc ++ t ∷ []) ts us e later c rest job.1 jobs.1 (subst HasNoRepeats (sym (append_assoc acc (t ∷ []) ts)) once)
      (subst (λ b. IsNamingFault P b e c) ((λ i. acc ++ sym same i ∷ us) ∙ sym (append_assoc acc (t ∷ []) us)) f)

  -- two rows that fail, each after rows of different tasks, are the same
  one_row : (acc ts us : List Task) (d e : TraceRow) (ds es : List TraceRow) (b c : TraceCode) → map (row_of P) ts ++ d ∷ ds ≡ map (row_of P) us ++ e ∷ es
      → AllByRecursion (IsTask P) ts → AllByRecursion (IsTask P) us → HasNoRepeats (acc ++ ts) → HasNoRepeats (acc ++ us)
      → IsNamingFault P (acc ++ ts) d b → IsNamingFault P (acc ++ us) e c → (length ts ≡ length us) × (b ≡ c)
  one_row acc [] [] d e ds es b c h job jobs once twice f g =
      let whole : d ∷ ds ≡ e ∷ es = h in
      let first : d ≡ e = cc in
      (refl, one_code (acc ++ []) d b c f (subst (λ x. IsNamingFault P (acc ++ []) x c) (sym first) g))
  one_row acc [] (u ∷ us) d e ds es b c h job jobs once twice f g =
      let whole : d ∷ ds ≡ row_of P u ∷ (map (row_of P) us ++ e ∷ es) = h in
      let first : d ≡ row_of P u = cc in
      absurd (no_fault acc d u b (jobs.0, first) (is_new acc us u twice) (subst (λ x. IsNamingFault P x d b) (append-nil acc) f))
  one_row acc (t ∷ ts) [] d e ds es b c h job jobs once twice f g =
      let whole : row_of P t ∷ (map (row_of P) ts ++ d ∷ ds) ≡ e ∷ es = h in
      let first : row_of P t ≡ e = cc in
      absurd (no_fault acc e t c (job.0, sym first) (is_new acc ts t once) (subst (λ x. IsNamingFault P x e c) (append-nil acc) g))
  one_row acc (t ∷ ts) (u ∷ us) d e ds es b c h job jobs once twice f g =
      let whole : row_of P t ∷ (map (row_of P) ts ++ d ∷ ds) ≡ row_of P u ∷ (map (row_of P) us ++ e ∷ es) = h in
      let first : row_of P t ≡ row_of P u = cc in
      let rest : map (row_of P) ts ++ d ∷ ds ≡ map (row_of P) us ++ e ∷ es = cc in
      let same = one_task P (row_of P t) t u (job.0, refl) (jobs.0, first) in
      let other : acc ++ u ∷ us ≡ acc ++ t ∷ us = λ i. acc ++ sym same i ∷ us in
      let q = one_row (acc ++ t ∷ []) ts us d e ds es b c rest job.1 jobs.1
      (subst HasNoRepeats (sym (append_assoc acc (t ∷ []) ts)) once)
      (subst HasNoRepeats (other ∙ sym (append_assoc acc (t ∷ []) us)) twice)
      (subst (λ x. IsNamingFault P x d b) (sym (append_assoc acc (t ∷ []) ts)) f)
      (subst (λ x. IsNamingFault P x e c) (other ∙ sym (append_assoc acc (t ∷ []) us)) g) in
      (omega (arith, q.0), q.1)

  module _ (text : List ℕ) where
    -- a text that is read as a list of different tasks has no fault
    no_fault_of_a_list : (ts : List Task) (f : TraceFault) → IsReading P text ts None → IsReadFault P text f → ⊥
    no_fault_of_a_list ts f r (inl a) = no_spelling_fault text r.entries f r.at_most r.spelled a
    no_fault_of_a_list ts f r (inr g) =
        let rows : AreRowsOf P r.entries ts = r.read in
        let front : AreRowsBefore P g.1.entries g.0 f.code = g.1.read.0 in
        let same = one_spelling text r.entries g.1.entries r.spelled g.1.spelled in
        none_fails [] ts g.0 front.failed front.later f.code
        (sym rows.named ∙ same ∙ front.split ∙ ap (λ l. l ++ front.failed ∷ front.later) front.rows.named) rows.tasks front.rows.tasks rows.once front.fault

    -- a text is read as at most one list
    one_reading : (ts us : List Task) → IsReading P text ts None → IsReading P text us None → ts ≡ us
    one_reading ts us r s =
        let rows : AreRowsOf P r.entries ts = r.read in
        let lines : AreRowsOf P s.entries us = s.read in
        same_list P ts us rows.tasks lines.tasks (sym rows.named ∙ one_spelling text r.entries s.entries r.spelled s.spelled ∙ lines.named)

    one_read_fault : (f g : TraceFault) → IsReadFault P text f → IsReadFault P text g → f ≡ g
    one_read_fault f g (inl a) (inl b) = one_spelling_fault text f g a b
    one_read_fault f g (inl a) (inr b) = absurd (no_spelling_fault text b.1.entries f b.1.at_most b.1.spelled a)
    one_read_fault f g (inr a) (inl b) = absurd (no_spelling_fault text a.1.entries g a.1.at_most a.1.spelled b)
    one_read_fault f g (inr a) (inr b) =
        let front : AreRowsBefore P a.1.entries a.0 f.code = a.1.read.0 in
        let before : AreRowsBefore P b.1.entries b.0 g.code = b.1.read.0 in
        let same = one_spelling text a.1.entries b.1.entries a.1.spelled b.1.spelled in
        let q = one_row [] a.0 b.0 front.failed before.failed front.later before.later f.code g.code
        (ap (λ l. l ++ front.failed ∷ front.later) (sym front.rows.named) ∙ sym front.split ∙ same ∙ before.split
        ∙ ap (λ l. l ++ before.failed ∷ before.later) before.rows.named)
        front.rows.tasks before.rows.tasks front.rows.once before.rows.once front.fault before.fault in
        same_fault f g (a.1.read.1 ∙ ap (λ n. n + 2) q.0 ∙ sym b.1.read.1) q.1

    -- so a call that returns only such lists and only such faults returns each exactly when there is one
    pub exactly : (r : Result (List Task) (Refusal TraceFault)) → IfOk r (λ ts. IsReading P text ts None)
        → ((f : TraceFault) → r ≡ Err (Fault f) → IsReadFault P text f)
        → FindsOrRefuses (λ ts. IsReading P text ts None) (IsReadFault P text) r
    exactly (Ok ts) found fault = record {
      found = found;
      only = λ us read. inl (ap (λ x. Ok x) (one_reading ts us found read));
      fault = fault;
      refused = λ f is. absurd (no_fault_of_a_list ts f found is);
    }
    exactly (Err (Fault g)) found fault = record {
      found = found;
      only = λ us read. absurd (no_fault_of_a_list us g read (fault g refl));
      fault = fault;
      refused = λ f is. inl (ap (λ x. Err (Fault x)) (one_read_fault g f (fault g refl) is));
    }
    exactly (Err OutOfMemory) found fault = record {
      found = found;
      only = λ us read. inr refl;
      fault = fault;
      refused = λ f is. inr refl;
    }
