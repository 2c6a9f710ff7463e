-- Functions of more than one block written out, with their hints, for the laws that say what is judged of edges, phis and loops.
use Rattle.std.specs.Prelude.{ℕ, Bool, true, false, List, [], ◌∷◌, ◌++◌, map, None, Some}
use Rattle.ir_types.specs.declared.names.Name.{Name}
use Rattle.ir_types.specs.declared.names.Name.TheVariants.{Number}
use Rattle.ir_core.specs.declared.values.Kind.TheVariants as kind
use Rattle.ir_core.specs.declared.values.Value.TheVariants as value
use Rattle.ir_types.specs.declared.ty.Ty.{Ty}
use Rattle.ir_types.specs.declared.ty.Ty.TheVariants.{Int}
use Rattle.ir_core.specs.declared.operands.Atom.{Atom}
use Rattle.ir_core.specs.declared.operands.Atom.TheVariants.{Constant, Register}
use Rattle.ir_core.specs.declared.operands.Const.TheVariants as constant
use Rattle.ir_core.specs.declared.operands.Operand.{Operand}
use Rattle.ir_core.specs.declared.operands.BinOp.{BinOp}
use Rattle.ir_core.specs.declared.operands.BinOp.TheVariants.{Add, UDiv}
use Rattle.ir_core.specs.declared.expressions.Reg.{Reg}
use Rattle.ir_core.specs.declared.expressions.Reg.TheVariants.{Now, Old, Ghost}
use Rattle.ir_core.specs.declared.expressions.Expr.{Expr}
use Rattle.ir_core.specs.declared.expressions.Expr.TheVariants as expr
use Rattle.ir_core.specs.declared.functions.Instr.{Instr}
use Rattle.ir_core.specs.declared.functions.Instr.TheVariants as line
use Rattle.ir_core.specs.declared.functions.Phi.{Phi}
use Rattle.ir_core.specs.declared.functions.Term.{Term}
use Rattle.ir_core.specs.declared.functions.Term.TheVariants.{Ret, Br, CondBr}
use Rattle.ir_core.specs.declared.functions.Block.{Block}
use Rattle.ir_core.specs.declared.functions.Function.{Function}
use Rattle.ir_core.specs.declared.modules.Module.{Module}
use Rattle.ir_core.specs.Expressions.{Expr0}
use Rattle.ir_core.specs.Modules.{plain_function, plain_module, plain_param}
use Rattle.ir_machine.specs.Registers.{no_registers, set}
use Rattle.ir_machine.specs.State.{no_scope, no_world}
use Rattle.erhl_assert.specs.declared.facts.Fact.TheVariants.{LessDef}
use Rattle.erhl_assert.specs.declared.facts.Assertion.{Assertion}
use Rattle.erhl_assert.specs.declared.facts.Side.{Side}
use Rattle.erhl_assert.specs.declared.facts.Side.TheVariants.{Src, Tgt}
use Rattle.erhl_assert.specs.declared.hints.Letter.TheVariants.{Both, Source, Target}
use Rattle.erhl_assert.specs.declared.hints.HintStep.{HintStep}
use Rattle.erhl_assert.specs.declared.hints.HintStep.TheVariants as step
use Rattle.erhl_assert.specs.declared.hints.Hint.{Hint}
use Rattle.erhl_assert.specs.Alignment.{no_facts}
use Rattle.erhl_assert.specs.Edges.{Edge, register_at}
use Rattle.erhl_assert.specs.Sides.{SideState, side_of}
use Rattle.erhl_assert.specs.Steps.{Beside}
use Rattle.erhl_soundness.specs.Examples.{number, taking_all}

abbrev pub i32 : Ty
i32 = Int 32

-- %n
abbrev pub held : ℕ → Atom Name
held n = Register (Number n)

-- i32 a
abbrev pub of_i32 : Atom Name → Operand Name
of_i32 a = record { ty = i32; atom = a }

-- op i32 a, b, with `nuw` or without
abbrev pub binary : {R : Type 0} → BinOp → Bool → Atom R → Atom R → Expr R
binary op nuw a b = expr.Binary (record { op = op; flags = record { nuw = nuw; nsw = false; exact = false }; ty = i32; left = a; right = b })

-- %n = e
abbrev pub setting : ℕ → Expr Name → Instr
setting n e = line.Calm (record { name = Number n; right = e })

-- %n = phi i32 [ a, %b ], ..
abbrev pub phi : ℕ → List (Atom Name × ℕ) → Phi
phi n entries = record { name = Number n; ty = i32; entries = map (λ (e : Atom Name × ℕ). record { value = e.0; from = Number e.1 }) entries }

abbrev pub block : ℕ → List Phi → List Instr → Term → Block
block n phis body term = record { name = Number n; phis = phis; body = body; term = term }

abbrev pub returning : Atom Name → Term
returning a = Ret (of_i32 a)

-- define i32 @0(i32 %1, i1 %2) { blocks }
abbrev pub function : List Block → Function
function blocks = plain_function i32 (Number 0) (plain_param i32 (Number 1) ∷ plain_param (Int 1) (Number 2) ∷ []) blocks

-- i32 r, in the logic
abbrev pub at_i32 : Reg → Expr0
at_i32 r = register_at i32 r

abbrev pub now : ℕ → Expr0
now n = at_i32 (Now (Number n))

abbrev pub old : ℕ → Expr0
old n = at_i32 (Old (Number n))

abbrev pub ghost : ℕ → Expr0
ghost n = at_i32 (Ghost (Number n))

-- i32 n
abbrev pub numeral : ℕ → Expr0
numeral n = expr.Plain (record { ty = i32; atom = Constant (constant.Number n) })

-- add i32 r, n
abbrev pub adding_to : Reg → ℕ → Expr0
adding_to r n = binary Add false (Register r) (Constant (constant.Number n))

-- ---- a line is moved out of a loop

-- %3 = add i32 %1, 1
abbrev pub moved : Instr
moved = setting 3 (binary Add false (held 1) (number 1))

-- 11: %4 = phi i32 [ 0, %10 ], [ %5, %11 ]  lines  %5 = add i32 %4, 1  %6 = udiv i32 %5, %1  br i1 %2, label %11, label %12
abbrev pub head : List Instr → Bool → Block
head lines nuw = block 11 (phi 4 ((number 0, 10) ∷ (held 5, 11) ∷ []) ∷ [])
    (lines ++ (setting 5 (binary Add nuw (held 4) (number 1)) ∷ setting 6 (binary UDiv false (held 5) (held 1)) ∷ []))
    (CondBr (record { condition = record { ty = Int 1; atom = held 2 }; on_true = Number 11; on_false = Number 12 }))

-- in the loop, whose sum has `nuw`
abbrev pub in_loop : Function
in_loop = function (block 10 [] [] (Br (Number 11)) ∷ head (moved ∷ []) true ∷ block 12 [] [] (returning (held 3)) ∷ [])

-- before the loop, whose sum has no flag
abbrev pub before_loop : Function
before_loop = function (block 10 [] (moved ∷ []) (Br (Number 11)) ∷ head [] false ∷ block 12 [] [] (returning (held 3)) ∷ [])

-- In the loop the target's %3 is known, and may differ from the source's until the source's line. The steps come before the line after it.
abbrev pub moving : List HintStep → Hint
moving steps = record {
  blocks = record { at = Number 10; lines = Some (Target ∷ []); entry = no_facts; steps = []; edges = [] }
      ∷ record {
        at = Number 11;
        lines = Some (Source ∷ Both ∷ Both ∷ []);
        entry = record { src = []; tgt = LessDef (adding_to (Now (Number 1)) 1) (now 3) ∷ []; diff = Now (Number 3) ∷ [] };
        steps = map (λ s. record { at = 1; step = s }) steps;
        edges = [];
      } ∷ [];
}

-- from a >= b and b >= c follows a >= c
abbrev pub through : Side → Expr0 → Expr0 → Expr0 → HintStep
through side a b c = step.Rule (record { rule = []; side = side; schema = record { from = LessDef a b ∷ LessDef b c ∷ []; to = LessDef a c } })

-- `ghost %7 is add i32 %1, 1`; the source's %3 is it, and it is the target's; `same %3 by` it
abbrev pub by_the_ghost : List HintStep
by_the_ghost =
    step.Ghost (record { register = Ghost (Number 7); value = adding_to (Now (Number 1)) 1 })
    ∷ through Src (now 3) (adding_to (Now (Number 1)) 1) (ghost 7)
    ∷ through Tgt (ghost 7) (adding_to (Now (Number 1)) 1) (now 3)
    ∷ step.Same (record { register = Now (Number 3); by = ghost 7 }) ∷ []

abbrev pub out_of_loop : List HintStep → Beside
out_of_loop steps = taking_all in_loop before_loop (moving steps)

-- ---- a phi of the source, and a line of the target

-- define i32 @0(..) { 10: %4 = add i32 %1, 7  br label %12  12: %3 = phi i32 [ %4, %10 ]  ret i32 %3 }
abbrev pub by_phi : Function
by_phi = function (block 10 [] (setting 4 (binary Add false (held 1) (number 7)) ∷ []) (Br (Number 12)) ∷ block 12 (phi 3 ((held 4, 10) ∷ []) ∷ []) [] (returning (held 3)) ∷ [])

-- define i32 @0(..) { 10: %3 = add i32 %1, 7  br label %12  12: ret i32 %3 }
abbrev pub by_line : Function
by_line = function (block 10 [] (setting 3 (binary Add false (held 1) (number 7)) ∷ []) (Br (Number 12)) ∷ block 12 [] [] (returning (held 3)) ∷ [])

-- Before the edge a ghost register is chosen. On the edge the source's %3 is what %4 was before it, and so the ghost register; the target's
-- is it too.
abbrev pub on_the_edge : List HintStep
on_the_edge =
    through Src (now 3) (old 4) (adding_to (Old (Number 1)) 7)
    ∷ through Src (now 3) (adding_to (Old (Number 1)) 7) (ghost 7)
    ∷ through Tgt (ghost 7) (adding_to (Now (Number 1)) 7) (now 3)
    ∷ step.Same (record { register = Now (Number 3); by = ghost 7 }) ∷ []

abbrev pub crossing : List HintStep → Beside
crossing steps = taking_all by_phi by_line (record {
  blocks = record {
    at = Number 10;
    lines = Some (Source ∷ Target ∷ []);
    entry = no_facts;
    steps = record { at = 2; step = step.Ghost (record { register = Ghost (Number 7); value = adding_to (Now (Number 1)) 7 }) } ∷ [];
    edges = record { to = Number 12; steps = steps } ∷ [];
  }
      ∷ record { at = Number 12; lines = None; entry = record { src = []; tgt = []; diff = Now (Number 4) ∷ [] }; steps = []; edges = [] } ∷ [];
})

-- ---- two registers change places

-- %3 = phi i32 [ %4, %11 ]  %4 = phi i32 [ %3, %11 ]
abbrev pub swapping : List Phi
swapping = phi 3 ((held 4, 11) ∷ []) ∷ phi 4 ((held 3, 11) ∷ []) ∷ []

abbrev pub swap : Edge
swap = record { from = Number 11; source = swapping; target = swapping }

-- of the source's %3 it is known that it is 1, and %4 may differ
abbrev pub before_swap : Assertion
before_swap = record { src = LessDef (now 3) (numeral 1) ∷ []; tgt = []; diff = Now (Number 4) ∷ [] }

-- %3 holds 1, and %4 holds 2
abbrev pub one_and_two : SideState
one_and_two =
    let i32s = Some (kind.Int 32) in
    side_of no_scope (set (set no_registers (Number 3) i32s (value.Num 1)) (Number 4) i32s (value.Num 2)) [] no_world

-- ---- two phis of one register

abbrev pub twice : List Phi
twice = phi 3 ((number 1, 10) ∷ []) ∷ phi 3 ((number 2, 10) ∷ []) ∷ []

-- define i32 @0() { 10: br label %12  12: %3 = phi i32 [ 1, %10 ]  %3 = phi i32 [ 2, %10 ]  ret i32 a }
abbrev pub doubled : Atom Name → Function
doubled a = plain_function i32 (Number 0) [] (block 10 [] [] (Br (Number 12)) ∷ block 12 twice [] (returning a) ∷ [])

abbrev pub module_of : Function → Module
module_of f = plain_module [] (f ∷ [])

-- it claims that %3 is 1
abbrev pub claiming_one : Hint
claiming_one = record {
  blocks = record { at = Number 12; lines = None; entry = record { src = LessDef (now 3) (numeral 1) ∷ []; tgt = []; diff = Now (Number 3) ∷ [] }; steps = []; edges = [] } ∷ [];
}
