use Rattle.flow_meaning.proofs.Reordering.{possible_there, reordered_quiescent, reordered_sound, table_same}
use Rattle.flow_meaning.proofs.machine.order_does_not_matter.Goals as goal

pub returns : goal.returns
returns c = record {
  sound = λ P G S T sound r. reordered_sound S T r P G sound;
  possible = λ P G S T e con sound r may. possible_there P G con S T sound r e may;
  quiescent = λ P G S T con sound r quiet. reordered_quiescent S T r P G con sound quiet;
  table = λ P G S T t con sound r. table_same P G con S T sound r t;
}
