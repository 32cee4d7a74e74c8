use Rattle.std.proofs.Common.{rules, arith, refl, ◌≡◌, ◌<◌, subst, ap, ◌∙◌, Some, slice_get}
use Rattle.ptg_base.specs.Entry.{Entry}
use Rattle.indexmap.specs.IndexMap.{set_value_at}
use Rattle.dep_shard.specs.Content.{Content, IsReady, IsWaiting}
use Rattle.dep_shard.proofs.QueueLemmas.{arrives_at, lands, fires, one_row, some_wait, updates_at}
use Rattle.dep_shard.proofs.shard.Shard.land.Goals as goal

pub invariant_of-self : goal.invariant_of-self
invariant_of-self c =
    let es = c.self.inside.table.entries in
    let t = c.pair_mut-entry.result.0.now in
    let e : Entry = c.pair_mut-entry.result.1.now in
    let f : Entry = c.add.new.self in
    let at : slice_get es c.args.index ≡ Some (t, e) = c.pair_mut-entry.ensures.value in
    let asked : slice_get es c.args.index ≡ Some (c.requires.waits.task, c.requires.waits.entry) = ap
    (λ (y : Content). slice_get y.entries c.args.index) c.self.view_is ∙ c.requires.waits.at in
    let waits : IsWaiting e = subst IsWaiting ((one_row es c.args.index _ _ _ _ asked at).1) c.requires.waits.waits in
    let up = updates_at es c.args.index t e f c.pair_mut-entry.ensures.distinct at in
    lands es (set_value_at es c.args.index f) c.args.index t e f c.self.inside.queue _ c.self.invariant at refl up waits
    (omega (arith, c.if-arrived-goal.true, c.arrived.ensures, c.goal.ensures))

pub returns-then-arrived-goal-clause-entries : goal.returns-then-arrived-goal-clause-entries
returns-then-arrived-goal-clause-entries c =
    let es = c.self.inside.table.entries in
    let t = c.pair_mut-entry.result.0.now in
    let e : Entry = c.pair_mut-entry.result.1.now in
    let at : slice_get es c.args.index ≡ Some (t, e) = c.pair_mut-entry.ensures.value in
    let up = updates_at es c.args.index t e c.add.new.self c.pair_mut-entry.ensures.distinct at in
    arrives_at c.args.self.now.entries es _ c.args.index t e c.add.new.self c.args.flow _ (ap (λ (y : Content). y.entries) c.self.view_is) at c.add.ensures up

pub returns-clause-entries : goal.returns-clause-entries
returns-clause-entries c =
    let es = c.self.inside.table.entries in
    let t = c.pair_mut-entry.result.0.now in
    let e : Entry = c.pair_mut-entry.result.1.now in
    let at : slice_get es c.args.index ≡ Some (t, e) = c.pair_mut-entry.ensures.value in
    let up = updates_at es c.args.index t e c.add.new.self c.pair_mut-entry.ensures.distinct at in
    arrives_at c.args.self.now.entries es _ c.args.index t e c.add.new.self c.args.flow _ (ap (λ (y : Content). y.entries) c.self.view_is) at c.add.ensures up

pub overflow_sub-self : goal.overflow_sub-self
overflow_sub-self c =
    let es = c.self.inside.table.entries in
    let asked : slice_get es c.args.index ≡ Some (c.requires.waits.task, c.requires.waits.entry) = ap
    (λ (y : Content). slice_get y.entries c.args.index) c.self.view_is ∙ c.requires.waits.at in
    some_wait es c.args.index c.requires.waits.task c.requires.waits.entry c.self.inside.queue _ c.self.invariant asked c.requires.waits.waits

pub invariant_of-self-2 : goal.invariant_of-self-2
invariant_of-self-2 c =
    let es = c.self.inside.table.entries in
    let t = c.pair_mut-entry.result.0.now in
    let e : Entry = c.pair_mut-entry.result.1.now in
    let f : Entry = c.add.new.self in
    let at : slice_get es c.args.index ≡ Some (t, e) = c.pair_mut-entry.ensures.value in
    let asked : slice_get es c.args.index ≡ Some (c.requires.waits.task, c.requires.waits.entry) = ap
    (λ (y : Content). slice_get y.entries c.args.index) c.self.view_is ∙ c.requires.waits.at in
    let positive : 0 < c.self.inside.waiting = some_wait es c.args.index c.requires.waits.task c.requires.waits.entry
    c.self.inside.queue _ c.self.invariant asked c.requires.waits.waits in
    let waits : IsWaiting e = subst IsWaiting ((one_row es c.args.index _ _ _ _ asked at).1) c.requires.waits.waits in
    let up = updates_at es c.args.index t e f c.pair_mut-entry.ensures.distinct at in
    let ready : IsReady f = omega (
      arith,
      ap (λ (x : Entry). x.arrived) c.add.ensures,
      ap (λ (x : Entry). x.goal)
          c.add.ensures,
      waits,
      c.if-arrived-goal.false,
      c.arrived.ensures,
      c.goal.ensures,
    ) in
    fires es (set_value_at es c.args.index f) c.args.index t e f c.self.inside.queue c.add-2.new.self _ _
    c.self.invariant at refl up waits ready (search rules) (omega (arith, positive))
