use Rattle.std.proofs.Common.{◌≡◌, map, drop}
use Rattle.jdf_lex.specs.Terminals.{spelled}
use Rattle.jdf_lex.proofs.terminal.spelled.Given as goal

-- the entries before this one have another spelling
abbrev pub invariant-loop-word : goal.invariant-loop-word
invariant-loop-word l =
    spelled (map (λ w. (w.0.now, w.1)) (drop l.word-index l.table)) l.text l.other ≡ spelled (map (λ w. (w.0.now, w.1)) l.table) l.text l.other
