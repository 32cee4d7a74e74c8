use Rattle.std.proofs.Common.{cond, length, None, ap, ◌∙◌}
use Rattle.dep_iter.specs.Edges.{data_source}
use Rattle.dep_iter.specs.Items.{item_flow}
use Rattle.flow_meaning.specs.Ending.{output_tile, size_from}
use Rattle.flow_meaning.specs.Machine.{sender}
use Rattle.flow_meaning.proofs.CallerLemmas.{ended_sized, with_tiles}
use Rattle.flow_core.proofs.laws.items_of_ctl_flows_carry_no_tile.Goals as goal
use Rattle.list_lemmas.proofs.Options.{none_from_option_map}

pub returns : goal.returns
returns c = λ P G r x f con fit well fits i here ctl.
    let out = fits.sound.sent_are_outputs x i in
    let job = (fits.sound.claimed_have_all (sender x.item) out.claimed).task in
    let left = with_tiles _ out.outputs in
    let size = ended_sized P G con fit well (sender x.item) job left.0 left.1 (item_flow x.item) f here in
    out.tile ∙ ap (λ o. output_tile o (item_flow x.item)) left.1
    ∙ none_from_option_map length _ (size ∙ ap (λ b. cond b
    (size_from P f (data_source P (sender x.item) (item_flow x.item))) None) ctl)
