-- A worker's tasks, one after another.
use Rattle.std.proofs.Common.{◌≡◌, ℕ, ◌+◌, List, [], ◌∷◌, ◌++◌, length, refl, ap, sym, ◌∙◌, subst, append_assoc, Bool}
use Rattle.std.proofs.Common.{true, IsTrue, inl, inr, nat_lt, arith, IsSome}
use Rattle.std.proofs.lemmas.Bool.Decides.{nat_tests}
use Rattle.std.proofs.lemmas.List.{append-nil, map-append, length_push}
use Rattle.std.specs.Map.{keys_of}
use Rattle.ptg_base.specs.Lists.{IsIn}
use Rattle.ptg_base.specs.Task.{Task}
use Rattle.ptg_base.specs.declared.edge.Item.{Item}
use Rattle.plan_core.specs.declared.plan.Plan.{Plan}
use Rattle.coll_data.specs.Data.{Data}
use Rattle.flow_meaning.specs.Backward.{ended}
use Rattle.list_lemmas.specs.Counting.{as_number}
use Rattle.flow_meaning.specs.Comparing.{same_item}
use Rattle.flow_meaning.specs.Machine.{SentItem, is_sent, send_count}
use Rattle.flow_meaning.specs.Sound.{IsFinished}
use Rattle.list_lemmas.proofs.Counts.{weigh-append}
use Rattle.list_lemmas.proofs.Members.{from_push}
use Rattle.work_board.specs.declared.record.PassRecord.{PassRecord}
use Rattle.work_board.specs.Records.{done_by}
use Rattle.worker_core.specs.declared.claiming.Found.{Found}
use Rattle.worker_core.specs.Claiming.{HasGotLogged}
use Rattle.worker_core.specs.Sending.{HasSentSome}
use Rattle.worker_core.specs.Working.{AreFollowed, HasClaimedMore, HasLogged, HasRun, logged}
use Rattle.work_board.specs.Stamps.{StampedTask}

more_positive : (m n : ℕ) → nat_lt 0 m ≡ true → nat_lt 0 (m + n) ≡ true
more_positive m n h = grind (arith, nat_tests)

-- an item that was sent stays sent
sent_stays : (i : Item) (claims after : List Task) (sends more : List SentItem)
    → IsTrue (is_sent (record { claims = claims; sends = sends }) i)
    → IsTrue (is_sent (record { claims = after; sends = sends ++ more }) i)
sent_stays i claims after sends more h =
    subst (λ n. nat_lt 0 n ≡ true) (sym (weigh-append (λ (x : SentItem). as_number (same_item i x.item)) sends more))
    (more_positive (send_count (record { claims = claims; sends = sends }) i)
    (send_count (record { claims = claims; sends = more }) i) h)

finished_stays : (P : Plan) (G : Data) (t : Task) (v w : PassRecord) (more : List SentItem) → w.sends ≡ v.sends ++ more
    → IsFinished P G (done_by v) t → IsFinished P G (done_by w) t
finished_stays P G t v w more e (inl none) = inl none
finished_stays P G t v w more e (inr all) = inr (λ i h. subst
    (λ l. IsTrue (is_sent (record { claims = w.claims; sends = l }) i)) (sym e)
    (sent_stays i v.claims w.claims v.sends more (all i h)))

-- what a worker has done so far, and what its log has gained
pub record IsWorked (P : Plan) (G : Data) (lets : Task → Type 0) (keeps : Bool) (ran : ℕ) (v w : PassRecord)
    (old new : List (ℕ × Task)) : Type 0 where
  pub more : List StampedTask
  pub claimed : HasClaimedMore more v w
  pub counted : length more ≡ ran
  pub followed : AreFollowed P G lets (keys_of more) w
  pub idle : w.running ≡ []
  pub gained : keeps ≡ true → new ≡ old ++ logged more

module _ (P : Plan) (G : Data) (of : Task → ℕ) (lets : Task → Type 0) (keeps : Bool) where
  pub nothing_done : (v : PassRecord) (log : List (ℕ × Task)) → v.running ≡ [] → IsWorked P G lets keeps 0 v v log log
  nothing_done v log idle = record {
    more = [];
    claimed = record {
      more_handed = [];
      more_sends = [];
      names = refl;
      claims = sym (append-nil v.claims);
      stamps = sym (append-nil v.stamps);
      handed = sym (append-nil v.handed);
      sends = sym (append-nil v.sends);
    };
    counted = refl;
    followed = record { ends = λ t h. absurd h; let_through = λ t h. absurd h; finished = λ t h. absurd h };
    idle = idle;
    gained = λ k. sym (append-nil log);
  }

  -- one claim more, and some sends after it
  claimed_more : (more : List StampedTask) (f : Found) (v w x y : PassRecord) (old mid new : List (ℕ × Task))
      → HasClaimedMore more v w → (got : HasGotLogged P G of keeps f w x mid new) → HasSentSome x y
      → HasClaimedMore (more ++ (f.task, got.got.added.stamp) ∷ []) v y
  claimed_more more f v w x y old mid new far got some = record {
    more_handed = far.more_handed ++ (f.task, f.arrivals) ∷ [];
    more_sends = far.more_sends ++ some.more_sends;
    names = some.names ∙ got.got.added.kept.names ∙ far.names;
    claims = some.claims ∙ got.got.added.claims ∙ ap (λ l. l ++ f.task ∷ []) far.claims
        ∙ append_assoc v.claims (keys_of more) (f.task ∷ [])
        ∙ ap (λ l. v.claims ++ l) (sym (map-append (λ (c : StampedTask). c.0) more
        ((f.task, got.got.added.stamp) ∷ [])));
    stamps = some.stamps ∙ got.got.added.stamps ∙ ap (λ l. l ++ (f.task, got.got.added.stamp) ∷ []) far.stamps
        ∙ append_assoc v.stamps more ((f.task, got.got.added.stamp) ∷ []);
    handed = some.handed ∙ got.got.added.handed ∙ ap (λ l. l ++ (f.task, f.arrivals) ∷ []) far.handed
        ∙ append_assoc v.handed far.more_handed ((f.task, f.arrivals) ∷ []);
    sends = some.sends ∙ ap (λ l. l ++ some.more_sends) (got.got.added.sends ∙ far.sends)
        ∙ append_assoc v.sends far.more_sends some.more_sends;
  }

  gained_more : (more : List StampedTask) (f : Found) (w x : PassRecord) (old mid new : List (ℕ × Task))
      → (keeps ≡ true → mid ≡ old ++ logged more) → (got : HasGotLogged P G of keeps f w x mid new) → keeps ≡ true
      → new ≡ old ++ logged (more ++ (f.task, got.got.added.stamp) ∷ [])
  gained_more more f w x old mid new far got k =
      got.noted k ∙ ap (λ l. l ++ (got.got.added.stamp, f.task) ∷ []) (far k)
      ∙ append_assoc old (logged more) ((got.got.added.stamp, f.task) ∷ [])
      ∙ ap (λ l. old ++ l) (sym (map-append (λ (c : StampedTask). (c.1, c.0)) more
      ((f.task, got.got.added.stamp) ∷ [])))

  pub one_task_more : (ran : ℕ) (f : Found) (v w x y : PassRecord) (old mid new : List (ℕ × Task))
      → IsWorked P G lets keeps ran v w old mid → HasGotLogged P G of keeps f w x mid new → HasSentSome x y
      → HasRun P G f.task x y → lets f.task → IsWorked P G lets keeps (ran + 1) v y old new
  one_task_more ran f v w x y old mid new far got some run through =
      let sends : y.sends ≡ w.sends ++ some.more_sends = some.sends
      ∙ ap (λ l. l ++ some.more_sends) got.got.added.sends in
      let counted = length_push far.more (f.task, got.got.added.stamp) in
      let tasks : keys_of (far.more ++ (f.task, got.got.added.stamp) ∷ [])
      ≡ keys_of far.more ++ f.task ∷ [] = map-append (λ (c : StampedTask). c.0) far.more
      ((f.task, got.got.added.stamp) ∷ []) in
      record {
        more = far.more ++ (f.task, got.got.added.stamp) ∷ [];
        claimed = claimed_more far.more f v w x y old mid new far.claimed got some;
        counted = counted ∙ ap (λ n. n + 1) far.counted;
        followed = record {
          ends = λ t h. elim (from_push t (keys_of far.more) f.task (subst (λ l. IsIn t l) tasks h)) [
            | inl k ↦ far.followed.ends t k
            | inr e ↦ subst (λ s. IsSome (ended P G s)) (sym e)
                got.got.may_start.run.runs
          ];
          let_through = λ t h. elim (from_push t (keys_of far.more) f.task (subst (λ l. IsIn t l) tasks h))
              [ inl k ↦ far.followed.let_through t k | inr e ↦ subst lets (sym e) through ];
          finished = λ t h. elim (from_push t (keys_of far.more) f.task (subst (λ l. IsIn t l) tasks h)) [
            | inl k ↦ finished_stays P G t w y some.more_sends sends (far.followed.finished t k)
            | inr e ↦ subst (λ s. IsFinished P G (done_by y) s) (sym e) run.finished
          ];
        };
        idle = run.idle;
        gained = gained_more far.more f w x old mid new far.gained got;
      }

  -- a claim counts even if memory was refused after it
  pub logged_claims : (ran : ℕ) (f : Found) (v w x y : PassRecord) (old mid new : List (ℕ × Task))
      → IsWorked P G lets keeps ran v w old mid → HasGotLogged P G of keeps f w x mid new → HasSentSome x y
      → HasLogged keeps v y old new
  logged_claims ran f v w x y old mid new far got some = record {
    more = far.more ++ (f.task, got.got.added.stamp) ∷ [];
    claimed = claimed_more far.more f v w x y old mid new far.claimed got some;
    gained = gained_more far.more f w x old mid new far.gained got;
  }
