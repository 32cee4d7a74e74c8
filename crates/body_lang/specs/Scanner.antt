-- A scanner of the code, as what is known at a token.
use Rattle.body_lang.specs.declared.scanner.Scanner.{Scanner}
use Rattle.body_lang.specs.Bindings.{bindings_of}
use Rattle.body_lang.specs.TokenScan.{TokenScan}

-- what a scanner knows at a token
abbrev pub scan_of : Scanner → TokenScan
scan_of scanner =
    record {
      bindings = bindings_of scanner.bindings;
      open_blocks = scanner.open_blocks.items;
      naming = scanner.naming;
      previous = scanner.previous;
    }
