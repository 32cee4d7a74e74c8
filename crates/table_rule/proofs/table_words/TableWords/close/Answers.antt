use Rattle.std.proofs.Common.{arith, ◌≡◌, ◌<◌, ◌++◌, ℕ, ◌+◌, false, Bool, List, [], ◌∷◌, length, take, sym, ap, ◌∙◌}
use Rattle.std.proofs.Common.{set, get_or, get_or-set_same, get_or-set_other}
use Rattle.std.proofs.Math.Seq.{take-length}
use mathlib.Core.Logic.{dite}
use native.Mathlib.Decide.{ℕ_discrete}
use Rattle.std.specs.Mem.Slots.{slots_counts, slots_filled, slots_items}
use Rattle.dep_shard.specs.Content.{Content}
use Rattle.table_rule.proofs.Leaving.{left_as, take_next}
use Rattle.table_rule.proofs.table_words.TableWords.close.Goals as goal

pub loop-k-preserved : goal.loop-k-preserved
loop-k-preserved c =
    let i = c.loop-k.invariant in
    let o = c.take-shard.ensures.others in
    let k : ℕ = c.loop-k.k in
    let filled : List Bool = slots_filled c.loop-k.closed.slots in
    let items : List Content = slots_items c.loop-k.closed.slots in
    let counts = slots_counts c.loop-k.closed.slots in
    let at : k < length filled = omega (arith, counts.1, i.2, c.loop-k-test.true) in (
      (λ j l near.
          ap (λ (x : List Bool). get_or x j false) o.1
          ∙ (get_or-set_other filled k j false false (λ e. absurd (omega arith))
          ∙ i.0 j (omega arith) (omega (arith, o.2)))),
      (λ j l.
          ap (λ (x : List Bool). get_or x j false) o.1
          ∙ dite (ℕ_discrete j k)
          (λ e. ap (λ n. get_or (set filled k false) n false) e ∙ get_or-set_same filled k false false at)
          (λ ne. get_or-set_other filled k j false false ne ∙ i.1 j (omega arith))),
      o.2 ∙ i.2,
      omega (arith, c.push_reserved.ensures.len, i.3),
      omega (arith, c.push_reserved.ensures.capacity, i.4),
      c.push_reserved.ensures.items
          ∙ (ap (λ (l : List Content). l ++ c.take-shard.result ∷ []) i.5
          ∙ (sym (take_next items k c.take-shard.result c.take-shard.ensures.value) ∙ ap (take (k + 1)) (sym o.0))),
      i.6,
      rw (o.0, o.3) i.7,
    )

pub returns : goal.returns
returns c =
    let i = c.loop-k.invariant in
    let items : List Content = slots_items c.loop-k.closed.slots in
    let counts = slots_counts c.loop-k.closed.slots in
    let all : c.loop-k.k ≡ length items = omega (arith, c.loop-k-test.false, c.loop-k.auto.k-end, counts.0, i.2) in
    left_as _ i.6 _ _ items _ i.7 (i.5 ∙ (ap (λ n. take n items) all ∙ take-length items))
