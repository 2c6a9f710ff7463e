use Rattle.std.proofs.Common.{◌≡◌, [], drop}
use Rattle.hint_format.specs.Form.{letters_of}
use Rattle.hint_format.proofs.blocks.LettersTextTextForm.read_text.Given as goal

abbrev pub invariant-loop-byte : goal.invariant-loop-byte
invariant-loop-byte l = letters_of l.letters (drop l.byte-index l.byte-items) ≡ letters_of [] l.byte-items
