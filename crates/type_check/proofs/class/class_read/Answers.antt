use Rattle.type_check.proofs.class.class_read.Goals as goal

pub returns : goal.returns
returns c =
    record {
      body = c.in_ok-read.read;
      read = record { scope = _; means = c.in_ok-scope.ensures; reads = c.in_ok-read.ensures };
      checked = c.class.ensures;
    }
