-- Functions of more than one block written out, with numbers for names.
use Rattle.std.specs.Prelude.{List, [], ◌∷◌, ℕ}
use Rattle.ir_core.specs.declared.functions.Block.{Block}
use Rattle.ir_core.specs.declared.functions.Case.{Case}
use Rattle.ir_core.specs.declared.functions.Entry.{Entry}
use Rattle.ir_core.specs.declared.functions.Function.{Function}
use Rattle.ir_core.specs.declared.modules.Module.{Module}
use Rattle.ir_core.specs.declared.functions.Phi.{Phi}
use Rattle.ir_core.specs.declared.functions.Term.{Term}
use Rattle.ir_core.specs.declared.functions.Term.TheVariants.{Ret, Br, CondBr, Switch}
use Rattle.ir_types.specs.declared.names.Name.{Name}
use Rattle.ir_types.specs.declared.names.Name.TheVariants.{Number}
use Rattle.ir_core.specs.declared.operands.Atom.{Atom}
use Rattle.ir_core.specs.declared.operands.Atom.TheVariants.{Register}
use Rattle.ir_types.specs.declared.ty.Ty.{Ty}
use Rattle.ir_types.specs.declared.ty.Ty.TheVariants.{Int, Void}
use Rattle.ir_machine.specs.Examples.{number}
use Rattle.ir_core.specs.Modules.{plain_function, plain_module}

-- [ VALUE, %from ]
abbrev pub entry : Atom Name → ℕ → Entry
entry value from = record { value = value; from = Number from }

-- %n = phi i32 ENTRIES
abbrev pub phi : ℕ → List Entry → Phi
phi n entries = record { name = Number n; ty = Int 32; entries = entries }

-- n: PHIS  TERM
abbrev pub block : ℕ → List Phi → Term → Block
block n phis term = record { name = Number n; phis = phis; body = []; term = term }

-- define TY @0() { BLOCKS }
abbrev pub function : Ty → List Block → Function
function ty blocks = plain_function ty (Number 0) [] blocks

abbrev pub alone : Function → Module
alone f = plain_module [] (f ∷ [])

-- define void @0() { 1: PHIS  TERM }
abbrev pub ending : List Phi → Term → Module
ending phis term = alone (function Void (block 1 phis term ∷ []))

-- define i32 @0() { 1: br label %2  2: %3 = phi i32 [ 7, %1 ]  ret i32 %3 }
abbrev pub passing : Module
passing = alone (function (Int 32) (
    block 1 [] (Br (Number 2))
    ∷ block 2 (phi 3 (entry (number 7) 1 ∷ []) ∷ []) (Ret (record { ty = Int 32; atom = Register (Number 3) }))
    ∷ []))

-- 2: %3 = phi i32 [ 1, %1 ], [ %4, %2 ]  %4 = phi i32 [ 2, %1 ], [ %3, %2 ]  br label %2
abbrev pub swapping_block : Block
swapping_block = block 2 (
    phi 3 (entry (number 1) 1 ∷ entry (Register (Number 4)) 2 ∷ [])
    ∷ phi 4 (entry (number 2) 1 ∷ entry (Register (Number 3)) 2 ∷ [])
    ∷ []) (Br (Number 2))

-- define void @0() { 1: br label %2  2: .. }
abbrev pub swapping : Function
swapping = function Void (block 1 [] (Br (Number 2)) ∷ swapping_block ∷ [])

-- br i1 CONDITION, label %1, label %2
abbrev pub branching : Atom Name → Term
branching condition = CondBr (record { condition = record { ty = Int 1; atom = condition }; on_true = Number 1; on_false = Number 2 })

-- i8 n, label %label
abbrev pub case : ℕ → ℕ → Case
case n label = record { ty = Int 8; number = n; label = Number label }

-- switch i8 VALUE, label %1 [ i8 1, label %1  i8 2, label %2  i8 2, label %3  i8 259, label %3 ]
abbrev pub switching : Atom Name → Term
switching value = Switch (record {
  value = record { ty = Int 8; atom = value };
  default = Number 1;
  cases = case 1 1 ∷ case 2 2 ∷ case 2 3 ∷ case 259 3 ∷ [];
})
