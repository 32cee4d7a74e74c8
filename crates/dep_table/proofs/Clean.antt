-- A pass stays clean if its record keeps what a clean pass has.
use Rattle.std.proofs.Common.{ℕ, ◌≡◌, ◌==◌, List, [], ◌∷◌, ◌++◌, length, sym, ap, ◌∙◌, subst, refl}
use Rattle.table_rule.specs.Seats.{TableId}
use Rattle.ptg_base.specs.Lists.{IsIn}
use Rattle.dep_shard.specs.Content.{Content}
use Rattle.list_lemmas.specs.Counting.{count}
use Rattle.work_board.specs.Records.{FoundBusy, IsClean}
use Rattle.work_board.specs.Word.{Word}
use Rattle.work_board.specs.declared.record.PassRecord.{PassRecord}
use Rattle.table_rule.specs.Changes.{with_look}
use Rattle.table_rule.specs.Names.{Name, names_after_split}
use Rattle.table_rule.specs.Plays.{Seated}
use Rattle.table_rule.specs.Turns.{holds}
use Rattle.dep_table.specs.Passes.{IsPassOf}
use Rattle.dep_table.specs.Views.{PassView, shown}

-- the fields that make a pass clean are the same
pub record KeepsClean (v w : PassRecord) : Type 0 where
  pub turns : w.turns ≡ v.turns
  pub credit : w.credit ≡ v.credit
  pub claims : w.claims ≡ v.claims
  pub stamps : w.stamps ≡ v.stamps
  pub running : w.running ≡ v.running

pub still_clean : (v w : PassRecord) → KeepsClean v w → IsClean v → IsClean w
still_clean v w k c = record {
  no_turn = k.turns ∙ c.no_turn;
  no_credit = k.credit ∙ c.no_credit;
  stamped = λ t i. let s = c.stamped t (subst (IsIn t) k.claims i) in (s.0, subst (IsIn (t, s.0)) (sym k.stamps) s.1);
}

-- a pass after a step that keeps these, and the number of its names
pub still_pass : (table : TableId) (p q : PassView) → IsPassOf table p → q.table ≡ p.table → q.me.1 ≡ p.me.1
    → q.stamp ≡ p.stamp → length (shown q).names ≡ 1 → KeepsClean (shown p) (shown q) → IsPassOf table q
still_pass table p q h of slots stamp names k = record {
  of = of ∙ h.of;
  clean = record { no_shard = slots ∙ h.clean.no_shard; clean = still_clean (shown p) (shown q) k h.clean.clean; one_name = names };
  stamp = λ t runs. let s = h.stamp t (sym k.running ∙ runs) in record
      { earlier = s.earlier; is_last = k.stamps ∙ (s.is_last ∙ ap (λ n. s.earlier ++ (t, n) ∷ []) (sym stamp)) };
}

-- the same from what a step says of the seat: `i` is the pass before the step, taken apart
pub after_step : (table : TableId) (p i q : PassView) (w : PassRecord) → IsPassOf table p → i ≡ p → q.table ≡ i.table
    → q.stamp ≡ i.stamp → q.me ≡ (w, i.me.1) → length w.names ≡ length (shown i).names → KeepsClean (shown i) w
    → IsPassOf table q
after_step table p i q w h is of stamp me names k =
    let h' : IsPassOf table i = subst (IsPassOf table) (sym is) h in
    let me0 : shown q ≡ w = ap (λ (m : Seated). m.0) me in
    still_pass table i q h' of (ap (λ (m : Seated). m.1) me) stamp (ap (λ (u : PassRecord). length u.names) me0 ∙ (names ∙ h'.clean.one_name)) (record {
      turns = ap (λ (u : PassRecord). u.turns) me0 ∙ k.turns;
      credit = ap (λ (u : PassRecord). u.credit) me0 ∙ k.credit;
      claims = ap (λ (u : PassRecord). u.claims) me0 ∙ k.claims;
      stamps = ap (λ (u : PassRecord). u.stamps) me0 ∙ k.stamps;
      running = ap (λ (u : PassRecord). u.running) me0 ∙ k.running;
    })

pub split_length : (l : List Name) → length (names_after_split l) ≡ length l
split_length [] = refl
split_length (x ∷ xs) = refl

-- a clean pass, taken apart, has no turn of any shard
pub no_own_turn : (table : TableId) (p i : PassView) (k : ℕ) → IsPassOf table p → i ≡ p → holds k (shown i) ≡ 0
no_own_turn table p i k h is =
    ap (λ (q : PassView). holds k (shown q)) is
    ∙ ap (count (λ ((shard, y) : ℕ × Content). shard == k)) h.clean.clean.no_turn

-- nor a credit
pub no_own_credit : (table : TableId) (p i : PassView) → IsPassOf table p → i ≡ p → (shown i).credit ≡ 0
no_own_credit table p i h is = ap (λ (q : PassView). (shown q).credit) is ∙ h.clean.clean.no_credit

-- in its one look the pass found that a word was not 0
pub found_busy : (p i : PassView) (n : Seated) (word : Word) (r : ℕ) → i ≡ p → n ≡ (with_look i.me.0 word r, i.me.1)
    → (r ≡ 0 → ⊥) → FoundBusy word (shown p) n.0
found_busy p i n word r is me held = subst (λ (m : Seated). FoundBusy word (shown p) m.0) (sym me)
    (subst (λ (v : PassRecord). FoundBusy word v (with_look i.me.0 word r)) (ap shown is) (record {
      word = refl;
      taken = held;
      looks = refl;
      last = refl;
      still = record {
        kept = record { names = refl; turns = refl; quiet = refl; halts = refl; credit = refl };
        done = record { claims = refl; stamps = refl; handed = refl; sends = refl };
        running = refl;
      };
    }))
