use Rattle.table_rule.proofs.AllNames.{first_all, join_all, names_all, order_all, split_all}
use Rattle.table_rule.proofs.rules.all_passes_stay_all.Goals as goal

pub returns : goal.returns
returns c = record {
  first = first_all;
  split = λ v vs one all. split_all v vs one all;
  join = λ v w vs all. join_all v w vs all;
  order = λ vs ws same all. order_all vs ws same all;
  names = λ vs ws same all. names_all vs ws same all;
}
