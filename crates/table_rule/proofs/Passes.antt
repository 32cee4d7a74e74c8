-- What changes in the list of all passes when the record of one changes.
use Rattle.std.proofs.Common.{◌≡◌, ℕ, ◌≢◌, List, [], ◌∷◌, ◌++◌, set, sym, ap, ◌∙◌, subst, ⊎_elim, arith}
use mathlib.Core.Option.{some}
use lib.ListN.{get_elem?}
use Rattle.atomic_table.proofs.Lists.{at_set, at_snoc}
use Rattle.ptg_base.specs.Task.{Task}
use Rattle.plan_core.specs.declared.plan.Plan.{Plan}
use Rattle.coll_data.specs.Data.{Data}
use Rattle.list_lemmas.specs.Counting.{weigh}
use Rattle.flow_meaning.specs.Machine.{SentItem, sent_with}
use Rattle.list_lemmas.proofs.Counts.{weigh-push}
use Rattle.shard_meaning.specs.Moment.{Moment, with_claim, with_send}
use Rattle.ptg_base.specs.declared.edge.Item.{Item}
use Rattle.work_board.specs.declared.record.PassRecord.{PassRecord}
use Rattle.table_rule.specs.Records.{AreRecordsOf, Each}
use Rattle.table_rule.proofs.Weighing.{weigh-set}

pub each_set : (P Q : PassRecord → Type 0) (vs : List PassRecord) (id : ℕ) (w : PassRecord)
    → ((i : ℕ) (v : PassRecord) → i ≢ id → get_elem? vs i ≡ some v → P v → Q v) → Q w → Each P vs → Each Q (set vs id w)
each_set P Q vs id w other here all i u e = ⊎_elim (λ (t : (i ≡ id) × (w ≡ u)). subst Q t.1 here)
    (λ (t : (i ≢ id) × (get_elem? vs i ≡ some u)). other i u t.0 t.1 (all i u t.1)) (at_set vs id i w u e)

-- if the new record has the property, each pass still has it
pub each_kept : (Q : PassRecord → Type 0) (vs : List PassRecord) (id : ℕ) (w : PassRecord) → Q w → Each Q vs → Each Q (set vs id w)
each_kept Q vs id w here all = each_set Q Q vs id w (λ i v ne e q. q) here all

pub each_snoc : (P : PassRecord → Type 0) (vs : List PassRecord) (w : PassRecord) → P w → Each P vs → Each P (vs ++ w ∷ [])
each_snoc P vs w here all i u e = ⊎_elim (λ (t : get_elem? vs i ≡ some u). all i u t) (λ (t : w ≡ u). subst P t here) (at_snoc vs w u i e)

module _ (vs : List PassRecord) (id : ℕ) (v w : PassRecord) (me : get_elem? vs id ≡ some v) where
  -- a weight that the old record and the new have in common
  pub same_weight : (g : PassRecord → ℕ) → g w ≡ g v → weigh g (set vs id w) ≡ weigh g vs
  same_weight g e = omega (arith, weigh-set g vs id v w me)

  pub same_records : (R : Moment) → w.claims ≡ v.claims → w.sends ≡ v.sends → w.running ≡ v.running → AreRecordsOf R vs → AreRecordsOf R (set vs id w)
  same_records R claims sends running r = record {
    claims = λ f. r.claims f ∙ sym (same_weight (λ (u : PassRecord). weigh f u.claims) (ap (weigh f) claims));
    sends = λ f. r.sends f ∙ sym (same_weight (λ (u : PassRecord). weigh f u.sends) (ap (weigh f) sends));
    running = λ f. r.running f ∙ sym (same_weight (λ (u : PassRecord). weigh f u.running) (ap (weigh f) running));
  }

  pub claim_records : (R : Moment) (t : Task) → w.claims ≡ v.claims ++ t ∷ [] → w.sends ≡ v.sends
      → w.running ≡ v.running ++ t ∷ [] → AreRecordsOf R vs → AreRecordsOf (with_claim R t) (set vs id w)
  claim_records R t claims sends running r = record {
    claims = λ f. omega (
      arith,
      r.claims f,
      weigh-set (λ (u : PassRecord). weigh f u.claims) vs id v w me,
      ap (weigh f)
          claims,
      weigh-push f v.claims t,
      weigh-push f R.state.claims t,
    );
    sends = λ f. r.sends f ∙ sym (same_weight (λ (u : PassRecord). weigh f u.sends) (ap (weigh f) sends));
    running = λ f. omega (
      arith,
      r.running f,
      weigh-set (λ (u : PassRecord). weigh f u.running) vs id v w me,
      ap
          (weigh f) running,
      weigh-push f v.running t,
      weigh-push f R.running t,
    );
  }

  pub send_records : (P : Plan) (G : Data) (R : Moment) (i : Item) (x : SentItem) → x ≡ sent_with P G R.state i
      → w.claims ≡ v.claims → w.sends ≡ v.sends ++ x ∷ [] → w.running ≡ v.running → AreRecordsOf R vs
      → AreRecordsOf (with_send P G R i) (set vs id w)
  send_records P G R i x is claims sends running r = record {
    claims = λ f. r.claims f ∙ sym (same_weight (λ (u : PassRecord). weigh f u.claims) (ap (weigh f) claims));
    sends = λ f. omega (
      arith,
      r.sends f,
      weigh-set (λ (u : PassRecord). weigh f u.sends) vs id v w me,
      ap (weigh f)
          sends,
      weigh-push f v.sends x,
      weigh-push f R.state.sends (sent_with P G R.state i),
      ap f is,
    );
    running = λ f. r.running f ∙ sym (same_weight (λ (u : PassRecord). weigh f u.running) (ap (weigh f) running));
  }
