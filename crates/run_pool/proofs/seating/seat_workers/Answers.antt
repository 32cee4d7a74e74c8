use Rattle.std.proofs.Common.{◌≡◌, ◌<◌, ◌∙◌, ℕ, [], ◌∷◌, length, length-append, map, ap, sym, subst, inl, inr, refl, arith}
use Rattle.std.specs.Prelude.{◌++◌, option_to_list}
use Rattle.crossbeam_utils.specs.Padded.{padded_value}
use Rattle.list_lemmas.proofs.Members.{IsIn-append_left, IsIn-append_right}
use Rattle.plan_core.specs.declared.plan.Plan.{Plan}
use Rattle.task_run.specs.Bench.{IsBenchOf}
use Rattle.work_board.specs.declared.record.PassRecord.{PassRecord}
use Rattle.table_rule.specs.Changes.{after_split, first_pass, split_off}
use Rattle.table_rule.specs.Names.{AreAll}
use Rattle.dep_table.specs.Passes.{IsPassOf}
use Rattle.dep_table.specs.Tables.{id_of, job_of}
use Rattle.dep_table.specs.Views.{PassView, shown}
use Rattle.ptg_base.specs.Lists.{IsIn}
use Rattle.ready_deques.specs.Hands.{Account}
use Rattle.run_pool.specs.Desks.{AreReady}
use Rattle.run_pool.specs.Seated.{IsFresh, IsNumbered, record_on}
use Rattle.run_pool.proofs.SeatedAll.{all_more, all_seated, each_more, ready_desk, ready_more}
use Rattle.run_pool.proofs.seating.seat_workers.Goals as goal

pub loop-hands-init : goal.loop-hands-init
loop-hands-init c =
    let table = id_of c.args.table.now in
    let plan = (job_of c.args.table.now).matched in
    let rest = c.pop.new.self.items in
    let own = c.unwrap-own.result in
    let split = c.pop.ensures.items ∙ ap (λ o. rest ++ option_to_list o) c.unwrap-own.ensures in
    let same = c.into_iter-hands-iterator.ensures.into_iter_gives.0 in
    let first = c.requires.pass.1 in
    let empty = c.new-desks.ensures.items in
    record {
      can_next = tt;
      is_finite = tt;
      pass = c.requires.pass.0;
      idle = ap (λ (w : PassRecord). w.running) first;
      ready = subst (AreReady (IsPassOf table) shown plan) (sym empty) (λ k d at. absurd cc);
      unclaimed = ap (λ (w : PassRecord). w.claims) first;
      unused = ap (λ (w : PassRecord). w.stamps) first;
      fresh = λ d i. absurd (subst (IsIn d) empty i);
      numbered = λ d i. absurd (subst (IsIn d) empty i);
      below = λ h i. c.requires.numbered h (subst (IsIn h) (sym split) (IsIn-append_left h rest (own ∷ []) (subst (IsIn h) same i)));
      all = subst (λ (w : PassRecord). AreAll (w ∷ map record_on c.new-desks.result.items)) (sym first)
          (subst (λ ds. AreAll (first_pass ∷ map record_on ds)) (sym empty) c.all_passes_stay_all.ensures.first);
      count = omega (arith, ap length split ∙ length-append rest (own ∷ []), ap length same, ap length empty);
    }

pub loop-hands-preserved : goal.loop-hands-preserved
loop-hands-preserved c =
    let table = id_of c.args.table.now in
    let plan = (job_of c.args.table.now).matched in
    let v = shown c.loop-hands.first in
    let ds = c.loop-hands.desks.items in
    let es = c.push.new.self.items in
    let d = c.in_ok-new_desk.field-0 in
    let now : shown c.split-pass.new.pass ≡ after_split v = c.split-pass.ensures.records.0 in
    let off : shown c.split-pass.result ≡ split_off v = c.split-pass.ensures.records.1 in
    let on = c.in_ok-new_desk.ensures.pass in
    let pushed = c.in_ok-push.ensures.items in
    let one = ready_desk table plan d c.split-pass.result on c.split-pass.ensures.new
    (ap (λ (w : PassRecord). w.running) off) (subst (λ (P : Plan). IsBenchOf P (padded_value d).bench)
    c.matched.ensures c.in_ok-new_desk.ensures.bench) in
    let both = c.all_passes_stay_all.ensures.split v (map record_on ds) c.loop-hands.invariant.pass.clean.one_name c.loop-hands.invariant.all in
    let steps = ap length c.in-Some.ensures.steps.0 in
    let longer = ap length pushed ∙ length-append ds (d ∷ []) in
    let workers = length c.args.hands.items in
    let mine = c.in-Some.hands in
    let below = c.loop-hands.invariant.below mine (subst (IsIn mine) (sym c.in-Some.ensures.steps.0) (inl refl)) in
    let number = subst (λ (h : Account). h.number < workers) (sym c.in_ok-new_desk.ensures.hands) below in
    record {
      can_next = tt;
      is_finite = tt;
      pass = c.split-pass.ensures.pass;
      idle = ap (λ (w : PassRecord). w.running) now ∙ c.loop-hands.invariant.idle;
      ready = ready_more table plan ds d es c.loop-hands.invariant.ready one pushed;
      unclaimed = ap (λ (w : PassRecord). w.claims) now ∙ c.loop-hands.invariant.unclaimed;
      unused = ap (λ (w : PassRecord). w.stamps) now ∙ c.loop-hands.invariant.unused;
      fresh = each_more IsFresh ds d es c.loop-hands.invariant.fresh (record {
        no_claim = ap (λ (q : PassView). (shown q).claims) on ∙ ap (λ (w : PassRecord). w.claims) off;
        no_stamp = ap (λ (q : PassView). (shown q).stamps) on ∙ ap (λ (w : PassRecord). w.stamps) off;
        no_log = c.in_ok-new_desk.ensures.log;
      }) pushed;
      numbered = each_more (IsNumbered workers) ds d es c.loop-hands.invariant.numbered number pushed;
      below = λ h i. c.loop-hands.invariant.below h (subst (IsIn h) (sym c.in-Some.ensures.steps.0) (inr i));
      all = subst (λ (w : PassRecord). AreAll (w ∷ map record_on es)) (sym now)
          (all_more c.all_passes_stay_all.ensures.order (after_split v) (split_off v) ds d es both (ap shown on ∙ off)
          pushed);
      count = omega (arith, steps, longer, c.loop-hands.invariant.count);
    }

pub returns-clause-seated : goal.returns-clause-seated
returns-clause-seated c =
    let table = id_of c.args.table.now in
    let plan = (job_of c.args.table.now).matched in
    let ds = c.loop-hands.desks.items in
    let es = c.push-2.new.self.items in
    let d = c.in_ok-new_desk-2.field-0 in
    let on = c.in_ok-new_desk-2.ensures.pass in
    let pushed = c.in_ok-push-2.ensures.items in
    let workers = length c.args.hands.items in
    let own = c.unwrap-own.result in
    let split = c.pop.ensures.items ∙ ap (λ o. c.pop.new.self.items ++ option_to_list o) c.unwrap-own.ensures in
    let last = subst (IsIn own) (sym split) (IsIn-append_right own c.pop.new.self.items (own ∷ []) (inl refl)) in
    let number = subst (λ (h : Account). h.number < workers) (sym c.in_ok-new_desk-2.ensures.hands) (c.requires.numbered own last) in
    let count : length es ≡ workers = omega (
      arith,
      ap length pushed
          ∙ length-append ds (d ∷ []),
      c.in-None.ensures.steps.0,
      c.loop-hands.hands-iterator.rest.ok.0,
      c.loop-hands.invariant.count,
    ) in
    let one = ready_desk table plan d c.loop-hands.first on c.loop-hands.invariant.pass c.loop-hands.invariant.idle
    (subst (λ (P : Plan). IsBenchOf P (padded_value d).bench) c.matched-2.ensures c.in_ok-new_desk-2.ensures.bench)
    in
    record {
      ready = ready_more table plan ds d es c.loop-hands.invariant.ready one pushed;
      fresh = each_more IsFresh ds d es c.loop-hands.invariant.fresh (record {
        no_claim = ap (λ (q : PassView). (shown q).claims) on ∙ c.loop-hands.invariant.unclaimed;
        no_stamp = ap (λ (q : PassView). (shown q).stamps) on ∙ c.loop-hands.invariant.unused;
        no_log = c.in_ok-new_desk-2.ensures.log;
      }) pushed;
      numbered = λ x i. subst (λ (n : ℕ). IsNumbered n x) (sym count)
          (each_more (IsNumbered workers) ds d es c.loop-hands.invariant.numbered number pushed x i);
      all = all_seated c.all_passes_stay_all.ensures.order (shown c.loop-hands.first) ds d es c.loop-hands.invariant.all (ap shown on) pushed;
    }
