use Rattle.data_read.proofs.Digits.{number_is, number_within}
use Rattle.data_read.proofs.field.digits_at_most.Goals as goal

pub returns-clause-number : goal.returns-clause-number
returns-clause-number c = number_is c.args.most c.args.digits.now c.decimal.result c.decimal.ensures

pub returns-clause-within : goal.returns-clause-within
returns-clause-within c = number_within c.args.most c.args.digits.now c.decimal.result c.decimal.ensures
