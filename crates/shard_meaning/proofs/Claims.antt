-- A claim changes the shard of its task as the call that takes the entry does, and no other shard.
use Rattle.std.proofs.Common.{◌≡◌, ◌≢◌, ℕ, List, ap, ◌∙◌, arith, eq-eqb, ne_eqb}
use Rattle.ptg_base.specs.Entry.{FlowTile}
use Rattle.ptg_base.specs.Task.{Task}
use Rattle.plan_core.specs.declared.plan.Plan.{Plan}
use Rattle.coll_data.specs.Data.{Data}
use Rattle.dep_iter.specs.Consistent.{IsConsistent}
use Rattle.dep_shard.specs.Content.{Content, Takes}
use Rattle.list_lemmas.specs.Counting.{as_number, weigh}
use Rattle.flow_meaning.specs.Sound.{IsSoundState}
use Rattle.list_lemmas.proofs.Counts.{weigh-push}
use Rattle.shard_meaning.specs.Moment.{Moment, with_claim}
use Rattle.shard_meaning.specs.Share.{IsShardOf, Placement, is_of, trap_weight}
use Rattle.shard_meaning.proofs.Entries.{HoldsEntries, claim_entries, claim_entries_elsewhere}

pub one_here : (of : Placement) (k : ℕ) (t : Task) → of t ≡ k → as_number (is_of of k t) ≡ 1
one_here of k t at = ap as_number (eq-eqb (of t) k at)

pub none_away : (of : Placement) (k : ℕ) (t : Task) → of t ≢ k → as_number (is_of of k t) ≡ 0
none_away of k t away = ap as_number (ne_eqb (of t) k away)

pub entries_of : {P : Plan} {G : Data} {of : Placement} {k : ℕ} {R : Moment} {y : Content} → IsShardOf P G of k R y → HoldsEntries P of k R.state y
entries_of h = record { there = h.there; only = h.only }

module _ (P : Plan) (G : Data) (con : IsConsistent P) (of : Placement) (k : ℕ) (R : Moment) (sound : IsSoundState P G R.state) (t : Task) where
  pub claim_here : (y z : Content) (tiles : List FlowTile) → of t ≡ k → Takes y z t tiles → IsShardOf P G of k R y → IsShardOf P G of k (with_claim R t) z
  claim_here y z tiles at takes h =
      let es = claim_entries P G con R.state sound of k t y z takes.entries (entries_of h) in
      let one = one_here of k t at in
      let runs = weigh-push (λ u. as_number (is_of of k u)) R.running t in
      let claims = weigh-push (λ u. as_number (is_of of k u)) R.state.claims t in
      record {
        there = es.there;
        only = es.only;
        written = λ f. ap (weigh f) takes.written ∙ h.written f;
        trapped = λ f. omega (
          arith,
          ap (weigh f) takes.trapped,
          h.trapped f,
          weigh-push (trap_weight P G of k f)
              R.running t,
          weigh-push (trap_weight P G of k f) R.state.claims t,
        );
        running = omega (arith, takes.running, h.running, runs, one);
        ended = omega (arith, takes.running, takes.ended, h.ended, claims, one);
        elems = takes.elems ∙ h.elems;
      }

  pub claim_away : (y : Content) → of t ≢ k → IsShardOf P G of k R y → IsShardOf P G of k (with_claim R t) y
  claim_away y away h =
      let es = claim_entries_elsewhere P G con R.state sound of k t y away (entries_of h) in
      let none = none_away of k t away in
      let runs = weigh-push (λ u. as_number (is_of of k u)) R.running t in
      let claims = weigh-push (λ u. as_number (is_of of k u)) R.state.claims t in
      record {
        there = es.there;
        only = es.only;
        written = h.written;
        trapped = λ f. omega (arith, h.trapped f, weigh-push (trap_weight P G of k f) R.running t, weigh-push (trap_weight P G of k f) R.state.claims t);
        running = omega (arith, h.running, runs, none);
        ended = omega (arith, h.ended, claims, none);
        elems = h.elems;
      }
