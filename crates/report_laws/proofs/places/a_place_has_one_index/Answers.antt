use Rattle.coll_data.proofs.CallerLemmas.{one_index}
use Rattle.report_laws.proofs.Indexes.{found_from, has_index}
use Rattle.report_laws.proofs.places.a_place_has_one_index.Goals as goal

pub returns : goal.returns
returns c = record {
  index = has_index;
  place = λ rows cols i j n e. let f = found_from rows cols i j n e in (f.is_row, f.is_column);
  one = one_index;
}
