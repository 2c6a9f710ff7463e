-- What a text is whose writing may have stopped for want of memory. These words are those of private functions.
use Rattle.std.specs.Prelude.{◌≡◌, ℕ, List, ◌++◌, IsTrue}
use Rattle.ir_printer.specs.declared.sink.Sink.{Sink}

-- where the second is whole, the first was, and the second is this text
abbrev pub IsWritten : Sink → Sink → List ℕ → Type 0
IsWritten old new text = IsTrue new.whole → IsTrue old.whole × (new.bytes.items ≡ text)

-- where the second is whole, the first was, and the second is the first with this behind it
abbrev pub IsTold : Sink → Sink → List ℕ → Type 0
IsTold old new piece = IsTrue new.whole → IsTrue old.whole × (new.bytes.items ≡ old.bytes.items ++ piece)
