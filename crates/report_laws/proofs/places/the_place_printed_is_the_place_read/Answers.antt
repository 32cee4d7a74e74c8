use Rattle.report_text.proofs.CallerLemmas.{length_placed, length_places}
use Rattle.report_laws.proofs.Listing.{nth_index, beside_place}
use Rattle.report_laws.proofs.places.the_place_printed_is_the_place_read.Goals as goal

pub returns : goal.returns
returns c = record {
  count = length_places;
  nth = nth_index;
  beside = beside_place;
  all = length_placed;
}
