-- Examples of how modules are printed.
use Rattle.std.specs.Prelude.{◌≡◌, ℕ, List, [], ◌∷◌, ◌++◌, codes, None, Some}
use Rattle.std.specs.List.{flat_map}
use Rattle.ir_types.specs.declared.names.Name.{Name}
use Rattle.ir_types.specs.declared.names.Name.TheVariants.{Text, Number}
use Rattle.ir_types.specs.declared.named.NamedTy.{NamedTy}
use Rattle.ir_types.specs.declared.ty.Ty.{Ty, Int, Ptr, Named, Void}
use Rattle.ir_core.specs.declared.operands.Atom.{Atom}
use Rattle.ir_core.specs.declared.operands.Atom.TheVariants.{Register}
use Rattle.ir_core.specs.declared.operands.Operand.{Operand}
use Rattle.ir_core.specs.declared.operands.Pred.TheVariants.{Ult}
use Rattle.ir_core.specs.declared.expressions.Expr.TheVariants as expr
use Rattle.ir_core.specs.declared.functions.Instr.{Instr}
use Rattle.ir_core.specs.declared.functions.Instr.TheVariants as line
use Rattle.ir_core.specs.declared.functions.Phi.{Phi}
use Rattle.ir_core.specs.declared.functions.Entry.{Entry}
use Rattle.ir_core.specs.declared.functions.Case.{Case}
use Rattle.ir_core.specs.declared.functions.Term.{Term}
use Rattle.ir_core.specs.declared.functions.Term.TheVariants.{Ret, RetVoid, Br, CondBr, Switch, Unreachable}
use Rattle.ir_core.specs.declared.functions.Block.{Block}
use Rattle.ir_core.specs.declared.functions.Param.{Param}
use Rattle.ir_core.specs.declared.functions.Function.{Function}
use Rattle.ir_core.specs.declared.modules.Module.{Module}
use Rattle.ir_core.specs.Examples.{add, number}
use Rattle.ir_printer.specs.Printed.{printed_module}
use Rattle.ir_core.specs.declared.modules.Linkage.TheVariants as linkage
use Rattle.ir_core.specs.Modules.{not_extended, plain_module, plain_param}

-- lines, each with its end
abbrev pub lines : List (List ℕ) → List ℕ
lines texts = flat_map (λ text. text ++ 10 ∷ []) texts

-- a text between quotes
abbrev pub quote : List ℕ → List ℕ
quote text = 34 ∷ (text ++ 34 ∷ [])

abbrev pub module_of : List Function → Module
module_of functions = plain_module [] functions

abbrev pub module_with : List NamedTy → List Function → Module
module_with types functions = plain_module types functions

abbrev pub named : List ℕ → Name
named bytes = Text bytes

abbrev pub register : List ℕ → Atom Name
register bytes = Register (named bytes)

abbrev pub typed : Ty → Atom Name → Operand Name
typed ty atom = record { ty = ty; atom = atom }

abbrev pub param : Ty → Name → Param
param ty name = plain_param ty name

abbrev pub block : Name → List Phi → List Instr → Term → Block
block name phis body term = record { name = name; phis = phis; body = body; term = term }

abbrev pub entry : Atom Name → List ℕ → Entry
entry value from = record { value = value; from = named from }

abbrev pub case : Ty → ℕ → Name → Case
case ty n label = record { ty = ty; number = n; label = label }

-- ---- modules

-- one function of one block, which has no name
abbrev pub smallest : Function
smallest = record {
  linkage = linkage.External;
  result_extensions = not_extended;
  result = Int 32;
  name = named (codes "f");
  params = param (Int 32) (named (codes "x")) ∷ [];
  blocks = block (Number 0) [] (add (named (codes "y")) (register (codes "x")) (number 0) ∷ []) (Ret (typed (Int 32) (register (codes "y")))) ∷ [];
}

abbrev pub smallest_text : List ℕ
smallest_text = lines (codes "define i32 @f(i32 %x) {" ∷ codes "  %y = add i32 %x, 0" ∷ codes "  ret i32 %y" ∷ codes "}" ∷ [])

-- a loop, whose blocks all have names
abbrev pub loop : Function
loop = record {
  linkage = linkage.External;
  result_extensions = not_extended;
  result = Void;
  name = named (codes "f");
  params = param (Int 8) (named (codes "n")) ∷ [];
  blocks =
      block (named (codes "entry")) [] [] (Br (named (codes "head")))
      ∷ block (named (codes "head"))
      (record { name = named (codes "i"); ty = Int 8; entries = entry (number 0) (codes "entry") ∷ entry (register (codes "i")) (codes "head") ∷ [] } ∷ [])
      (line.Calm (record { name = named (codes "c"); right = expr.Icmp (record { pred = Ult; ty = Int 8; left = register (codes "i"); right = register (codes "n") }) }) ∷ [])
      (CondBr (record { condition = typed (Int 1) (register (codes "c")); on_true = named (codes "head"); on_false = named (codes "done") }))
      ∷ block (named (codes "done")) [] [] RetVoid ∷ [];
}

abbrev pub loop_text : List ℕ
loop_text = lines (
    codes "define void @f(i8 %n) {"
    ∷ codes "entry:"
    ∷ codes "  br label %head"
    ∷ codes ""
    ∷ codes "head:"
    ∷ codes "  %i = phi i8 [ 0, %entry ], [ %i, %head ]"
    ∷ codes "  %c = icmp ult i8 %i, %n"
    ∷ codes "  br i1 %c, label %head, label %done"
    ∷ codes ""
    ∷ codes "done:"
    ∷ codes "  ret void"
    ∷ codes "}" ∷ []
    )

-- no parameter, block or result has a name
abbrev pub unnamed : Function
unnamed = record {
  linkage = linkage.External;
  result_extensions = not_extended;
  result = Int 8;
  name = Number 0;
  params = param (Int 8) (Number 0) ∷ param (Int 1) (Number 1) ∷ [];
  blocks =
      block (Number 2) [] [] (CondBr (record { condition = typed (Int 1) (Register (Number 1)); on_true = Number 3; on_false = Number 4 }))
      ∷ block (Number 3) [] [] (Switch (record { value = typed (Int 8) (Register (Number 0)); default = Number 4; cases = case (Int 8) 255 (Number 4) ∷ case (Int 8) 127 (Number 4) ∷ [] }))
      ∷ block (Number 4) [] [] (Switch (record { value = typed (Int 1) (number 1); default = Number 5; cases = case (Int 1) 1 (Number 5) ∷ case (Int 1) 0 (Number 5) ∷ [] }))
      ∷ block (Number 5) [] [] (Switch (record { value = typed (Int 8) (number 128); default = Number 6; cases = [] }))
      ∷ block (Number 6) [] [] Unreachable ∷ [];
}

abbrev pub unnamed_text : List ℕ
unnamed_text = lines (
    codes "define i8 @0(i8, i1) {"
    ∷ codes "  br i1 %1, label %3, label %4"
    ∷ codes ""
    ∷ codes "; <label>:3"
    ∷ codes "  switch i8 %0, label %4 ["
    ∷ codes "    i8 -1, label %4"
    ∷ codes "    i8 127, label %4"
    ∷ codes "  ]"
    ∷ codes ""
    ∷ codes "; <label>:4"
    ∷ codes "  switch i1 true, label %5 ["
    ∷ codes "    i1 true, label %5"
    ∷ codes "    i1 false, label %5"
    ∷ codes "  ]"
    ∷ codes ""
    ∷ codes "; <label>:5"
    ∷ codes "  switch i8 -128, label %6 ["
    ∷ codes "  ]"
    ∷ codes ""
    ∷ codes "; <label>:6"
    ∷ codes "  unreachable"
    ∷ codes "}" ∷ []
    )

-- names that are quoted: one with a blank, and one of digits, which isn't the number
abbrev pub quoted : Function
quoted = record {
  linkage = linkage.External;
  result_extensions = not_extended;
  result = Int 1;
  name = named (codes "a b");
  params = param (Int 1) (named (codes "0")) ∷ [];
  blocks =
      block (named (codes "5x")) [] [] (Br (named (codes "-")))
      ∷ block (named (codes "-")) [] [] (Ret (typed (Int 1) (register (codes "0")))) ∷ [];
}

abbrev pub quoted_text : List ℕ
quoted_text = lines (
    (codes "define i1 @" ++ quote (codes "a b") ++ codes "(i1 %" ++ quote (codes "0") ++ codes ") {")
    ∷ (quote (codes "5x") ++ codes ":")
    ∷ codes "  br label %-"
    ∷ codes ""
    ∷ codes "-:"
    ∷ (codes "  ret i1 %" ++ quote (codes "0"))
    ∷ codes "}" ∷ []
    )

-- a struct that points to its like, an empty one, and an opaque type
abbrev pub three_types : List NamedTy
three_types =
    record { name = named (codes "x"); fields = Some (Int 32 ∷ Ptr (Named (named (codes "x"))) ∷ []) }
    ∷ record { name = Number 0; fields = Some [] }
    ∷ record { name = named (codes "a b"); fields = None } ∷ []

abbrev pub three_types_text : List ℕ
three_types_text = lines (
    codes "%x = type { i32, %x* }"
    ∷ codes "%0 = type {}"
    ∷ (37 ∷ quote (codes "a b") ++ codes " = type opaque") ∷ []
    )

pub record ModulesArePrinted : Type 0 where
  pub nothing : printed_module (module_of []) ≡ []
  pub one_block : printed_module (module_of (smallest ∷ [])) ≡ smallest_text
  pub named_blocks : printed_module (module_of (loop ∷ [])) ≡ loop_text
  pub numbered_blocks : printed_module (module_of (unnamed ∷ [])) ≡ unnamed_text
  pub quoted_names : printed_module (module_of (quoted ∷ [])) ≡ quoted_text
  -- a blank line stands between any two functions
  pub functions : printed_module (module_of (smallest ∷ loop ∷ quoted ∷ [])) ≡ smallest_text ++ 10 ∷ (loop_text ++ 10 ∷ quoted_text)
  -- and one between types and functions
  pub types : printed_module (module_with three_types []) ≡ three_types_text
  pub types_and_functions : printed_module (module_with three_types (smallest ∷ [])) ≡ three_types_text ++ 10 ∷ smallest_text
