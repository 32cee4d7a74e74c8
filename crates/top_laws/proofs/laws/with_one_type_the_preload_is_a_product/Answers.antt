use Rattle.top_laws.proofs.OneType.{bytes_are}
use Rattle.top_laws.proofs.laws.with_one_type_the_preload_is_a_product.Goals as goal

pub returns : goal.returns
returns c = λ P elems workers one. bytes_are P elems one workers
