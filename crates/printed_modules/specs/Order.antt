-- When all names of a module are in the order of its text (LangRef 3.7, Identifiers): none is defined twice, and the unnamed ones are counted in
-- order of appearance.
use Rattle.std.specs.Prelude.{map}
use Rattle.std.specs.List.{AllByRecursion}
use Rattle.ir_core.specs.declared.functions.Function.{Function}
use Rattle.ir_core.specs.declared.modules.Module.{Module}
use Rattle.ir_core.specs.Functions.{names_of}
use Rattle.ir_core.specs.Order.{AreInOrder}
use Rattle.ir_types.specs.declared.named.NamedTy.{NamedTy}
use Rattle.named_modules.specs.Modules.{global_names}

-- Named types have a count of their own. Globals, definitions and declarations have one together, globals before the others, which are
-- counted as they stand in the file. Each function has one of its parameters, blocks and registers.
pub record IsInFileOrder (m : Module) : Type 0 where
  pub types : AreInOrder (map (λ (t : NamedTy). t.name) m.types)
  pub globals : AreInOrder (global_names m)
  pub functions : AllByRecursion (λ (f : Function). AreInOrder (names_of f)) m.functions
