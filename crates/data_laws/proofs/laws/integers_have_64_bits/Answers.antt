use Rattle.data_laws.proofs.Integers.{integers_numbers}
use Rattle.data_laws.proofs.laws.integers_have_64_bits.Goals as goal

pub returns : goal.returns
returns c = λ text given e. integers_numbers text given e
