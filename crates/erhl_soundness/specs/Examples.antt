-- Functions, rules and hints written out, for the law that says how facts are counted.
use Rattle.std.specs.Prelude.{ℕ, Bool, true, false, List, [], ◌∷◌, Option, None, Some}
use Rattle.ir_types.specs.declared.names.Name.TheVariants.{Number}
use Rattle.ir_types.specs.declared.ty.Ty.{Ty}
use Rattle.ir_types.specs.declared.ty.Ty.TheVariants.{Int, Ptr, Struct, Void}
use Rattle.ir_core.specs.declared.operands.Const.TheVariants as constant
use Rattle.ir_types.specs.declared.names.Name.{Name}
use Rattle.ir_core.specs.declared.operands.Atom.{Atom}
use Rattle.ir_core.specs.declared.operands.Atom.TheVariants.{Constant, Register}
use Rattle.ir_core.specs.declared.operands.Operand.{Operand}
use Rattle.ir_core.specs.declared.operands.BinOp.{BinOp}
use Rattle.ir_core.specs.declared.operands.BinOp.TheVariants.{Add}
use Rattle.ir_core.specs.declared.functions.Calm.{Calm}
use Rattle.ir_core.specs.declared.expressions.Expr.TheVariants as expr
use Rattle.ir_core.specs.declared.expressions.Reg.TheVariants.{Now}
use Rattle.ir_core.specs.declared.functions.Instr.{Instr}
use Rattle.ir_core.specs.declared.functions.Instr.TheVariants as line
use Rattle.ir_core.specs.declared.functions.Term.TheVariants.{Ret}
use Rattle.ir_core.specs.declared.functions.Function.{Function}
use Rattle.ir_core.specs.Modules.{plain_function, plain_param}
use Rattle.ir_machine.specs.State.{no_scope}
use Rattle.erhl_assert.specs.declared.facts.Side.{Side}
use Rattle.erhl_assert.specs.declared.facts.Fact.{Fact}
use Rattle.erhl_assert.specs.declared.facts.Assertion.{Assertion}
use Rattle.erhl_assert.specs.declared.facts.Fact.TheVariants.{LessDef, Private, Ok}
use Rattle.erhl_assert.specs.declared.hints.Letter.{Letter}
use Rattle.erhl_assert.specs.declared.hints.HintStep.TheVariants.{Rule}
use Rattle.erhl_assert.specs.declared.hints.PlacedStep.{PlacedStep}
use Rattle.erhl_assert.specs.declared.hints.Hint.{Hint}
use Rattle.erhl_assert.specs.Alignment.{Line, no_facts}
use Rattle.erhl_assert.specs.Steps.{Beside, beside}

-- %x = add i32 %y, 0
abbrev pub adds_zero : ℕ → ℕ → Instr
adds_zero x y = line.Calm (record {
  name = Number x;
  right = expr.Binary (record {
    op = Add;
    flags = record { nuw = false; nsw = false; exact = false };
    ty = Int 32;
    left = Register (Number y);
    right = Constant (constant.Number 0);
  });
})

abbrev pub number : ℕ → Atom Name
number n = Constant (constant.Number n)

-- %2 = op iWIDTH %0, DIVISOR
abbrev pub dividing : BinOp → ℕ → Atom Name → Instr
dividing op width divisor = line.Calm (record {
  name = Number 2;
  right = expr.Binary (record {
    op = op;
    flags = record { nuw = false; nsw = false; exact = false };
    ty = Int width;
    left = Register (Number 0);
    right = divisor;
  });
})

-- %2 = add i8 %0, 1, with `nuw` or without
abbrev pub adding : Bool → Calm
adding nuw = record {
  name = Number 2;
  right = expr.Binary (record {
    op = Add;
    flags = record { nuw = nuw; nsw = false; exact = false };
    ty = Int 8;
    left = Register (Number 0);
    right = number 1;
  });
}

-- %2 = load i32, i32* %POINTER, with that alignment or without
abbrev pub loading : ℕ → Option ℕ → Instr
loading pointer align = line.Calm (record {
  name = Number 2;
  right = expr.Load (record { of = Int 32; pointer = record { ty = Ptr (Int 32); atom = Register (Number pointer) }; align = align });
})

-- a load of an i32 through %0 with that alignment doesn't trap
abbrev pub may_load : ℕ → Fact
may_load align = Ok (expr.Plain (record { ty = Ptr (Int 32); atom = Register (Now (Number 0)) })) (Int 32) align

abbrev pub pair : Ty
pair = Struct (Int 8 ∷ Int 32 ∷ [])

-- %2 = getelementptr { i8, i32 }, { i8, i32 }* %0, i64 %1, i32 FIELD, with `inbounds` or without
abbrev pub addressing : Bool → Atom Name → Calm
addressing inbounds field = record {
  name = Number 2;
  right = expr.Element (record {
    inbounds = inbounds;
    of = pair;
    base = record { ty = Ptr pair; atom = Register (Number 0) };
    indices = record { ty = Int 64; atom = Register (Number 1) } ∷ record { ty = Int 32; atom = field } ∷ [];
    to = Ptr (Int 32);
  });
}

-- i32 1 >= i32 %3 on the target, and the other way round
abbrev pub one_is_known : Assertion
one_is_known =
    let one = expr.Plain (record { ty = Int 32; atom = Constant (constant.Number 1) }) in
    let three = expr.Plain (record { ty = Int 32; atom = Register (Now (Number 3)) }) in
    record no_facts { tgt = LessDef one three ∷ LessDef three one ∷ [] }

-- %2 = alloca TYPE, with that alignment or without
abbrev pub allocating : Ty → Option ℕ → Instr
allocating t align = line.Alloca (record { name = Number 2; of = t; to = Ptr t; count = None; align = align })

-- i32* %POINTER
abbrev pub address : ℕ → Operand Name
address pointer = record { ty = Ptr (Int 32); atom = Register (Number pointer) }

-- store TYPE VALUE, TYPE* %POINTER, with that alignment or without
abbrev pub storing : Ty → ℕ → ℕ → Option ℕ → Instr
storing t value pointer align = line.Store (record {
  value = record { ty = t; atom = number value };
  pointer = record { ty = Ptr t; atom = Register (Number pointer) };
  align = align;
})

-- %0 is private
abbrev pub is_private : Fact
is_private = Private (Now (Number 0))

-- call void @3()
abbrev pub calling : Instr
calling = line.Call (record {
  name = None;
  result = Void;
  result_extensions = record { signed = false; zero = false };
  callee = Number 3;
  arguments = [];
})

abbrev pub of_source : Instr → Line
of_source i = record { source = Some i; target = None }

abbrev pub of_target : Instr → Line
of_target i = record { source = None; target = Some i }

abbrev pub of_both : Instr → Instr → Line
of_both i j = record { source = Some i; target = Some j }

-- define i32 @0(i32 %0) { 1: LINES  ret i32 %RESULT }
abbrev pub defining : List Instr → ℕ → Function
defining lines result =
    plain_function (Int 32) (Number 0) (plain_param (Int 32) (Number 0) ∷ [])
    (record { name = Number 1; phis = []; body = lines; term = Ret (record { ty = Int 32; atom = Register (Number result) }) } ∷ [])

-- two functions under a hint, beside one rule, whose name is of no letters, and which takes whatever it is given
abbrev pub taking_all : Function → Function → Hint → Beside
taking_all source target hint =
    beside (record { name = []; takes = λ scope schema. true } ∷ []) no_scope source target hint

-- undef >= undef
abbrev pub claim : Fact
claim =
    let undef = expr.Plain (record { ty = Int 32; atom = Constant constant.Undef }) in LessDef undef undef

-- a step before line k, by the rule of that name, to the claim
abbrev pub concluding : ℕ → List ℕ → Side → PlacedStep
concluding k name side = record { at = k; step = Rule (record { rule = name; side = side; schema = record { from = []; to = claim } }) }

abbrev pub hinting : List Letter → List PlacedStep → Hint
hinting letters steps = record { blocks = record { at = Number 1; lines = Some letters; entry = no_facts; steps = steps; edges = [] } ∷ [] }
