-- Registers and types are printed in ASCII, as they stand in expressions.
use Rattle.std.proofs.Common.{◌≡◌, List, ℕ, ◌∷◌, ◌++◌, length, subst, sym}
use Rattle.std.specs.Str.{IsAscii}
use Rattle.std.proofs.Math.Seq.{take-append_seam, drop-append_seam}
use Rattle.std.proofs.lemmas.Str.{IsAscii-take, IsAscii-drop}
use Rattle.ir_types.specs.declared.ty.Ty.{Ty}
use Rattle.ir_types.specs.declared.ty.Ty.TheVariants.{Void}
use Rattle.ir_types.specs.declared.names.Name.TheVariants.{Number}
use Rattle.ir_core.specs.declared.operands.Atom.TheVariants as atom
use Rattle.ir_core.specs.declared.expressions.Reg.{Reg}
use Rattle.ir_core.specs.declared.expressions.Reg.TheVariants.{Now}
use Rattle.ir_core.specs.declared.expressions.Expr.TheVariants as expr
use Rattle.ir_printer.specs.ExpressionPrinter.Printed.{printed_register, printed_type}
use Rattle.ir_printer.proofs.ExpressionPrinter.AsciiTexts.{logic_is_ascii}

first_part : (xs ys : List ℕ) → IsAscii (xs ++ ys) → IsAscii xs
first_part xs ys h = subst IsAscii (take-append_seam xs ys) (IsAscii-take (xs ++ ys) (length xs) h)

last_part : (xs ys : List ℕ) → IsAscii (xs ++ ys) → IsAscii ys
last_part xs ys h = subst IsAscii (drop-append_seam xs ys) (IsAscii-drop (xs ++ ys) (length xs) h)

operand_is_ascii : (t : Ty) (r : Reg) → IsAscii (printed_type t ++ 32 ∷ printed_register r)
operand_is_ascii t r = logic_is_ascii (expr.Plain (record { ty = t; atom = atom.Register r }))

pub type_is_ascii : (t : Ty) (text : List ℕ) → text ≡ printed_type t → IsAscii text
type_is_ascii t text e = subst IsAscii (sym e) (first_part (printed_type t) (32 ∷ printed_register (Now (Number 0))) (operand_is_ascii t (Now (Number 0))))

pub register_is_ascii : (r : Reg) (text : List ℕ) → text ≡ printed_register r → IsAscii text
register_is_ascii r text e =
    subst IsAscii (sym e) (IsAscii-drop (32 ∷ printed_register r) 1 (last_part (printed_type Void) (32 ∷ printed_register r) (operand_is_ascii Void r)))
