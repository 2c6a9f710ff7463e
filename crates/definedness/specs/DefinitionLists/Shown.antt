-- Names that are lent, as names.
use Rattle.std.specs.Prelude.{List, map, option_map, Option, Vec}
use Rattle.std.specs.Borrow.{Bor}
use Rattle.std.specs.declared.alloc.Global.{Global}
use Rattle.ir_types.specs.declared.names.Name.{Name}

abbrev pub named : List (Bor Name) → List Name
named = map (λ lent. lent.now)

abbrev pub list_named : Option (Vec (Bor Name) Global) → Option (List Name)
list_named = option_map (λ names. named names.items)

abbrev pub lists_named : List (Option (Vec (Bor Name) Global)) → List (Option (List Name))
lists_named = map list_named
