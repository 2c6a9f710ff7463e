-- A register's name, whatever the register is of.
use Rattle.ir_types.specs.declared.names.Name.{Name}
use Rattle.ir_core.specs.declared.expressions.Reg.{Reg}
use Rattle.ir_core.specs.declared.expressions.Reg.TheVariants.{Now, Old, Ghost}

abbrev pub name_of : Reg → Name
name_of (Now x) = x
name_of (Old x) = x
name_of (Ghost x) = x
