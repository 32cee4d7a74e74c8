use Rattle.edge_laws.proofs.Numbers.{parameters_numbers}
use Rattle.edge_laws.proofs.ranges.parameters_have_64_bits.Goals as goal

pub returns : goal.returns
returns c = λ s params h i. parameters_numbers s params h i
