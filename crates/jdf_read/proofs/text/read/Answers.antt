use Rattle.jdf_read.proofs.File.{only_tree, only_fault}
use Rattle.jdf_read.proofs.text.read.Goals as goal

pub returns : goal.returns
returns c =
    record {
      exact =
          record {
            found = c.read_bytes.ensures.found;
            only = only_tree c.args.bytes.now c.read_bytes.result c.read_bytes.ensures.found c.read_bytes.ensures.fault;
            fault = c.read_bytes.ensures.fault;
            refused = only_fault c.args.bytes.now c.read_bytes.result c.read_bytes.ensures.found c.read_bytes.ensures.fault;
          };
    }
