-- What a hash of a name is made from: its bytes or its number.
use Rattle.std.specs.Hash.{HashWrites, slice, u8, u32}
use Rattle.ir_types.specs.declared.names.Name.{Name}
use Rattle.ir_types.specs.declared.names.Name.TheVariants.{Text, Number}

abbrev pub hashed_name : Name → HashWrites
hashed_name (Text bytes) = slice u8 bytes
hashed_name (Number n) = u32 n
