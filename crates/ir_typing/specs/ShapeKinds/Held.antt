-- Words of private functions: names as they are held.
use Rattle.std.specs.Prelude.{List, map}
use Rattle.ir_types.specs.declared.names.Name.{Name}
use Rattle.ir_typing.specs.declared.shape_kinds.held.Held.{Held}
use Rattle.ir_typing.specs.declared.shape_kinds.held.Held.TheVariants.{Few, Many}
use Rattle.ir_typing.specs.declared.shape_kinds.marked.Marked.{Marked}

abbrev pub names_marked : List Marked → List Name
names_marked = map (λ (it : Marked). it.name.now)

abbrev pub names_held : Held → List Name
names_held (Few row) = names_marked row.items
names_held (Many names) = names
