-- The opening of shards, task by task.
use Rattle.std.proofs.Common.{◌≡◌, ◌≢◌, ℕ, ◌<◌, ◌==◌, false, cond, List, [], ◌∷◌, ◌++◌, length, refl, ap, sym, ◌∙◌}
use Rattle.std.proofs.Common.{subst, Option, Some, None, slice_get, inl, inr, if◌then◌else◌, ne_eqb}
use Rattle.std.proofs.lemmas.Bool.{false≢true, cases_eq}
use Rattle.ptg_base.specs.Entry.{Entry}
use Rattle.ptg_base.specs.Lists.{IsIn}
use Rattle.ptg_base.specs.Task.{Task}
use Rattle.ptg_base.specs.TaskComparing.{same_task}
use Rattle.ptg_base.specs.TaskLaws.{same_task-decides}
use Rattle.list_lemmas.proofs.Members.{IsIn-append_left, IsIn-append_right, from_append}
use Rattle.list_lemmas.proofs.Truth.{by_test}
use Rattle.list_lemmas.proofs.Places.{slice_get_there}
use Rattle.plan_core.specs.declared.plan.Plan.{Plan}
use Rattle.dep_iter.specs.Edges.{goal}
use Rattle.dep_iter.specs.Hints.{priority}
use Rattle.dep_shard.specs.Content.{Content, entry_of, fresh}
use Rattle.shard_meaning.specs.Opening.{IsOpenedFor, opening_entry}
use Rattle.shard_meaning.specs.Share.{Placement}
use Rattle.shard_calls.specs.Opened.{Enters, EntersIn, Opens}

module _ (P : Plan) (of : Placement) where
  enters_none : (t : Task) → (goal P t == 0) ≡ false → opening_entry P t ≡ None
  enters_none t k = ap (λ b. if b then Some (fresh 0 (priority P t)) else None) k

  enters_one : (t : Task) → goal P t ≡ 0 → opening_entry P t ≡ Some (fresh 0 (priority P t))
  enters_one t z = ap (λ n. if n == 0 then Some (fresh 0 (priority P t)) else None) z

  module _ (k : ℕ) (done : List Task) (y : Content) (w : IsOpenedFor P of k (λ u. IsIn u done) y) where
    -- a task that an edge goes into has no entry, and one with an entry was opened before
    pub entry_now : (t : Task) → of t ≡ k → (goal P t == 0) ≡ false → entry_of y t ≡ opening_entry P t
    entry_now t own not = by (entry_of y t) refl
      where
        by : (v : Option Entry) → entry_of y t ≡ v → entry_of y t ≡ opening_entry P t
        by None e = e ∙ sym (enters_none t not)
        by (Some v) e = w.there t (w.only t v e).0 own

    -- more tasks are opened if their entries are there
    pub more_kept : (more : List Task) → ((t : Task) → IsIn t more → of t ≡ k → entry_of y t ≡ opening_entry P t)
        → IsOpenedFor P of k (λ u. IsIn u (done ++ more)) y
    more_kept more here = record {
      there = λ u i own. elim (from_append u done more i) [ inl before ↦ w.there u before own | inr later ↦ here u later own ];
      only = λ u e is. let p = w.only u e is in (IsIn-append_left u done more p.0, p.1);
      written = w.written;
      trapped = w.trapped;
      running = w.running;
      ended = w.ended;
      elems = w.elems;
    }

    module _ (t : Task) where
      one_more_kept : (of t ≡ k → entry_of y t ≡ opening_entry P t) → IsOpenedFor P of k (λ u. IsIn u (done ++ t ∷ [])) y
      one_more_kept here = more_kept (t ∷ []) (λ u i. elim i [
        | inl same ↦ subst (λ x. of x ≡ k → entry_of y x ≡ opening_entry P x) (sym same) here
        | inr none ↦ absurd none
      ])

      -- the shard of the task, after it was entered
      entered : of t ≡ k → goal P t ≡ 0 → (z : Content) → EntersIn t (priority P t) y z → (v : Option Entry)
          → entry_of y t ≡ v → IsOpenedFor P of k (λ u. IsIn u (done ++ t ∷ [])) z
      entered own root z e (Some v) is =
          let same : z.entries ≡ y.entries = e.again v is in
          let g = one_more_kept (λ o. w.there t (w.only t v is).0 o) in record {
            there = λ u i o. ap (λ (l : List (Task × Entry)). entry_of record z { entries = l } u) same ∙ g.there u i o;
            only = λ u f h. g.only u f (ap (λ (l : List (Task × Entry)). entry_of record z { entries = l } u) (sym same) ∙ h);
            written = e.rest.written ∙ w.written;
            trapped = e.rest.trapped ∙ w.trapped;
            running = e.rest.running ∙ w.running;
            ended = e.rest.ended ∙ w.ended;
            elems = e.rest.elems ∙ w.elems;
          }
      entered own root z e None is =
          let new = e.first is in
          let first : Entry = fresh 0 (priority P t) in record {
            there = λ u i o. by_test (same_task t u)
                (λ s.
                let eq : t ≡ u = (same_task-decides t u).0 s in
                new u ∙ ap (λ b. cond b (Some first) (entry_of y u)) s ∙ subst (λ x. Some first ≡ opening_entry P x) eq (sym (enters_one t root)))
                (λ s. elim (from_append u done (t ∷ []) i) [
                  | inl before ↦ new u ∙ ap (λ b. cond b (Some first) (entry_of y u)) s ∙ w.there u before o
                  | inr last ↦ elim last [ inl eq ↦ absurd (false≢true (sym s ∙ (same_task-decides t u).1 (sym eq))) | inr none ↦ absurd none ]
                ]);
            only = λ u f h. by_test (same_task t u)
                (λ s.
                let eq : t ≡ u = (same_task-decides t u).0 s in
                (IsIn-append_right u done (t ∷ []) (inl (sym eq)), subst (λ x. of x ≡ k) eq own))
                (λ s. let p = w.only u f (sym (new u ∙ ap (λ b. cond b (Some first) (entry_of y u)) s) ∙ h) in (IsIn-append_left u done (t ∷ []) p.0, p.1));
            written = e.rest.written ∙ w.written;
            trapped = e.rest.trapped ∙ w.trapped;
            running = e.rest.running ∙ w.running;
            ended = e.rest.ended ∙ w.ended;
            elems = e.rest.elems ∙ w.elems;
          }

  -- a task that an edge goes into needs no entry
  pub opens_other : (t : Task) (ys : List Content) → goal P t ≢ 0 → Opens P of t ys ys
  opens_other t ys some = record {
    count = refl;
    opened = λ done h k y at. one_more_kept k done y (h k y at) t (λ own. entry_now k done y (h k y at) t own (ne_eqb (goal P t) 0 some));
  }

  -- a task that no edge goes into is entered
  pub opens_root : (t : Task) (old new : List Content) → goal P t ≡ 0 → of t < length old → Enters (of t) t (priority P t) old new → Opens P of t old new
  opens_root t old new root near e = record {
    count = e.count;
    opened = λ done h k z at. elim (cases_eq k (of t)) [
      | inl here ↦
          let own : of t ≡ k = sym here in
          let y = slice_get_there old (of t) near in
          let z_at : slice_get new (of t) ≡ Some z = ap (λ n. slice_get new n) own ∙ at in
          entered k done y.0 (h k y.0 (ap (λ n. slice_get old n) here ∙ y.1)) t own root z (e.here y.0 z y.1 z_at) (entry_of y.0 t) refl
      | inr other ↦
          one_more_kept k done z (h k z (sym (e.others k other) ∙ at)) t (λ own. absurd (other (sym own)))
    ];
  }
