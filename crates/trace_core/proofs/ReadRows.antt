-- How far a text has been read: the tasks of its first rows, and the rows that are left.
use Rattle.std.proofs.Common.{◌≡◌, ℕ, ◌+◌, Bool, true, false, cond, not, List, [], ◌∷◌, ◌++◌, refl, ap, sym, ◌∙◌, subst, append_assoc}
use Rattle.std.specs.List.{AllByRecursion, list_any}
use Rattle.std.proofs.lemmas.Bool.{not-false, not-true}
use Rattle.std.proofs.lemmas.List.{append-nil, map-append}
use Rattle.ptg_base.specs.Lists.{IsIn}
use Rattle.ptg_base.specs.Task.{Task}
use Rattle.ptg_base.specs.TaskComparing.{same_task}
use Rattle.ptg_base.specs.TaskLaws.{same_task-decides}
use Rattle.plan_core.specs.declared.plan.Plan.{Plan}
use Rattle.list_lemmas.proofs.Members.{some_member_passes}
use Rattle.list_lemmas.proofs.Places.{each_push}
use Rattle.list_lemmas.proofs.Tasks.{none_member}
use Rattle.list_lemmas.proofs.Distinct.{HasNoRepeats-push}
use Rattle.dep_iter.specs.Tasks.{IsTask}
use Rattle.trace_core.specs.declared.fault.TraceCode.{TraceCode}
use Rattle.trace_core.specs.Naming.{AreRowsBefore, AreRowsOf, IsNamingFault, Names}
use Rattle.trace_core.specs.Rows.{BeginsWithRow}
use Rattle.trace_core.specs.Spelling.{HasNoRow, IsSpelled}
use Rattle.trace_core.specs.Text.{TraceRow, row_of, row_line, rows_text}
use Rattle.trace_core.proofs.Spelled.{same_row}

-- these tasks are those of the first rows, and the rest of the text is that of the others
pub record IsReadTo (P : Plan) (es : List TraceRow) (ts : List Task) (left : List ℕ) : Type 0 where
  pub front : List TraceRow
  pub others : List TraceRow
  pub split : es ≡ front ++ others
  pub spelled : AllByRecursion IsSpelled others
  pub text : left ≡ rows_text others
  pub rows : AreRowsOf P front ts

pub nothing_read : (P : Plan) (es : List TraceRow) (text : List ℕ) → AllByRecursion IsSpelled es → text ≡ rows_text es → IsReadTo P es [] text
nothing_read P es text all is = record {
  front = [];
  others = es;
  split = refl;
  spelled = all;
  text = is;
  rows = record { named = refl; tasks = tt; once = tt };
}

-- if no row comes first, all were read
pub all_read : (P : Plan) (es : List TraceRow) (ts : List Task) (left : List ℕ) → IsReadTo P es ts left → HasNoRow left → AreRowsOf P es ts
all_read P es ts left r none = by r.others r.split r.spelled r.text
  where
    by : (others : List TraceRow) → es ≡ r.front ++ others → AllByRecursion IsSpelled others → left ≡ rows_text others → AreRowsOf P es ts
    by [] split s t = subst (λ l. AreRowsOf P l ts) (sym (split ∙ append-nil r.front)) r.rows
    by (e ∷ es) split s t = absurd (none e (rows_text es) s.0 t)

-- the row that comes first is the next one
pub record IsNextRow (P : Plan) (es : List TraceRow) (ts : List Task) (e : TraceRow) (later : List ℕ) : Type 0 where
  pub front : List TraceRow
  pub others : List TraceRow
  pub split : es ≡ front ++ e ∷ others
  pub spelled : AllByRecursion IsSpelled others
  pub text : later ≡ rows_text others
  pub rows : AreRowsOf P front ts

pub next_is : (P : Plan) (es : List TraceRow) (ts : List Task) (left name numbers later : List ℕ)
    → IsReadTo P es ts left → (w : BeginsWithRow left name numbers later) → IsNextRow P es ts w.entry later
next_is P es ts left name numbers later r w = by r.others r.split r.spelled r.text
  where
    by : (others : List TraceRow) → es ≡ r.front ++ others → AllByRecursion IsSpelled others → left ≡ rows_text others → IsNextRow P es ts w.entry later
    by [] split s t = let e : row_line w.entry ++ later ≡ [] = sym w.split ∙ t in absurd cc
    by (e ∷ es) split s t =
        let same = same_row w.entry e later (rows_text es) w.row.spelled s.0 (sym w.split ∙ t) in
        record { front = r.front; others = es; split = split ∙ (λ i. r.front ++ sym same.0 i ∷ es); spelled = s.1; text = same.1; rows = r.rows }

-- a task that a test finds among these is one of them
pub any_member : (t : Task) (ts : List Task) → list_any (same_task t) ts ≡ true → IsIn t ts
any_member t ts h = let p = some_member_passes (same_task t) ts h in subst (λ u. IsIn u ts) (sym ((same_task-decides t p.0).0 p.2)) p.1

module _ (P : Plan) (es : List TraceRow) (ts : List Task) (e : TraceRow) (later : List ℕ) (n : IsNextRow P es ts e later) where
  pub read_more : (t : Task) → Names P e t → (IsIn t ts → ⊥) → IsReadTo P es (ts ++ t ∷ []) later
  read_more t named new = record {
    front = n.front ++ e ∷ [];
    others = n.others;
    split = n.split ∙ sym (append_assoc n.front (e ∷ []) n.others);
    spelled = n.spelled;
    text = n.text;
    rows = record {
      named = (λ i. n.rows.named i ++ named.1 i ∷ []) ∙ sym (map-append (row_of P) ts (t ∷ []));
      tasks = each_push (IsTask P) ts t n.rows.tasks named.0;
      once = HasNoRepeats-push ts t n.rows.once new;
    };
  }

  pub stops_at : (code : TraceCode) → IsNamingFault P ts e code → AreRowsBefore P es ts code
  stops_at code fault = record { front = n.front; failed = e; later = n.others; split = n.split; rows = n.rows; fault = fault }

pub inserted_old : (t : Task) (ts new : List Task) (b : Bool) → b ≡ not (list_any (same_task t) ts) → b ≡ false
    → new ≡ cond (list_any (same_task t) ts) ts (ts ++ t ∷ []) → (new ≡ ts) × IsIn t ts
inserted_old t ts new b is h keys =
    let there = not-false (list_any (same_task t) ts) (sym is ∙ h) in
    (keys ∙ ap (λ c. cond c ts (ts ++ t ∷ [])) there, any_member t ts there)

pub inserted_new : (t : Task) (ts new : List Task) (b : Bool) → b ≡ not (list_any (same_task t) ts) → b ≡ true
    → new ≡ cond (list_any (same_task t) ts) ts (ts ++ t ∷ []) → (new ≡ ts ++ t ∷ []) × (IsIn t ts → ⊥)
inserted_new t ts new b is h keys =
    let absent = not-true (list_any (same_task t) ts) (sym is ∙ h) in
    (keys ∙ ap (λ c. cond c ts (ts ++ t ∷ [])) absent, none_member t ts absent)
