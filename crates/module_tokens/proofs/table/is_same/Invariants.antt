use Rattle.std.proofs.Common.{◌≡◌, drop}
use Rattle.std.specs.Str.{bytes_eq}
use Rattle.module_tokens.proofs.table.is_same.Given as goal

-- the bytes that are left decide
abbrev pub invariant-loop-index : goal.invariant-loop-index
invariant-loop-index l = bytes_eq (drop l.index l.word) (drop l.index l.other) ≡ bytes_eq l.word l.other
