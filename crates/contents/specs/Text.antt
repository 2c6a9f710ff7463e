-- The bytes of a text.
use Rattle.std.specs.Prelude.{ℕ, List, take, nat_eq}
use Rattle.std.specs.Hash.{Alike, u8}
use Rattle.std.proofs.Common.{ap}
use Rattle.std.proofs.lemmas.Bool.{eqb-true}
use Rattle.contents.specs.declared.text.Held.{Held}
use Rattle.contents.specs.declared.text.Held.TheVariants.{Short, Long}

abbrev pub bytes_held : Held → List ℕ
bytes_held (Short bytes) = take bytes.count bytes.bytes
bytes_held (Long bytes) = bytes.value

-- equal bytes are hashed alike
pub bytes_are_fed_alike : Alike nat_eq u8
bytes_are_fed_alike = record { fed = λ x y h. ap u8 (eqb-true x y h) }
