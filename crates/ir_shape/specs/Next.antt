-- Words of private functions: what is wrong in a definition and in the declarations that stand right before it.
use Rattle.std.specs.Prelude.{List, ◌++◌}
use Rattle.ir_core.specs.declared.functions.Function.{Function}
use Rattle.ir_core.specs.declared.modules.Declaration.{Declaration}
use Rattle.ir_core.specs.declared.modules.Module.{Module}
use Rattle.ir_types.specs.declared.names.Name.{Name}
use Rattle.ir_core.specs.NameIndexes.Among.{is_among}
use Rattle.ir_shape.specs.declared.fault.ShapeFault.{ShapeFault}
use Rattle.ir_shape.specs.Shape.{in_declarations, in_function, with_declared}

abbrev pub in_next : Module → List Name → List Declaration → Function → List ShapeFault
in_next m taken before f = in_declarations m taken before ++ in_function m (is_among f.name (with_declared taken before)) f
