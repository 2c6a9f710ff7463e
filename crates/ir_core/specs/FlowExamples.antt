-- Functions of more than one block written out, for the laws that say which are well-formed.
use Rattle.std.specs.Prelude.{ℕ, List, [], ◌∷◌, codes}
use Rattle.ir_core.specs.declared.functions.Block.{Block}
use Rattle.ir_core.specs.declared.functions.Case.{Case}
use Rattle.ir_core.specs.declared.functions.Entry.{Entry}
use Rattle.ir_core.specs.declared.functions.Function.{Function}
use Rattle.ir_core.specs.declared.functions.Term.{Term}
use Rattle.ir_core.specs.declared.functions.Term.TheVariants.{Ret, RetVoid, Br, CondBr, Switch}
use Rattle.ir_types.specs.declared.names.Name.{Name}
use Rattle.ir_types.specs.declared.names.Name.TheVariants.{Text}
use Rattle.ir_core.specs.declared.operands.Atom.TheVariants.{Register}
use Rattle.ir_types.specs.declared.ty.Ty.{Ty}
use Rattle.ir_types.specs.declared.ty.Ty.TheVariants.{Int, Void}
use Rattle.ir_core.specs.Examples.{add, f, function, held, number, phi, typed, x, y}

abbrev pub z : Name
z = Text (codes "z")

-- name: term
abbrev pub ending : Name → Term → Block
ending name term = record { name = name; phis = []; body = []; term = term }

-- define void @f() { f: term }
abbrev pub of_end : Term → Function
of_end term = function Void f (ending f term ∷ [])

-- define void @f() { f: term  x: ret void }
abbrev pub before_return : Term → Function
before_return term = function Void f (ending f term ∷ ending x RetVoid ∷ [])

-- br ty 1, label %a, label %b
abbrev pub branching : Ty → Name → Name → Term
branching ty a b = CondBr (record { condition = typed ty 1; on_true = a; on_false = b })

-- x: %y = phi i32 entries  term
abbrev pub behind_phi : List Entry → Term → Block
behind_phi entries term = record { name = x; phis = phi y entries ∷ []; body = []; term = term }

-- define void @f() { f: br i1 1, label %x, label %x  x: %y = phi i32 entries  ret void }
abbrev pub joining : List Entry → Function
joining entries = function Void f (ending f (branching (Int 1) x x) ∷ behind_phi entries RetVoid ∷ [])

-- [ n, %f ]
abbrev pub from_f : ℕ → Entry
from_f n = record { value = number n; from = f }

-- define void @f() { f: br label %x  x: %y = phi i32 [ 0, %f ], [ %y, %x ]  br label %x }
abbrev pub looping : Function
looping = function Void f (ending f (Br x) ∷ behind_phi (from_f 0 ∷ record { value = Register y; from = x } ∷ []) (Br x) ∷ [])

-- ty n, label %x
abbrev pub to_x : Ty → ℕ → Case
to_x ty n = record { ty = ty; number = n; label = x }

-- switch i8 1, label %default [ cases ]
abbrev pub choosing : Name → List Case → Term
choosing default cases = Switch (record { value = typed (Int 8) 1; default = default; cases = cases })

-- define void @f() { f: switch i8 1, label %x [ cases ]  x: ret void }
abbrev pub switching : List Case → Function
switching cases = before_return (choosing x cases)

-- define i32 @f() { f: br i1 1, label %x, label %y  x: %z = add i32 1, 2  br label %y  y: ret i32 %z }
abbrev pub one_arm : Function
one_arm = function (Int 32) f (
    ending f (branching (Int 1) x y)
    ∷ record { name = x; phis = []; body = add z (number 1) (number 2) ∷ []; term = Br y }
    ∷ ending y (Ret (held (Int 32) z))
    ∷ [])
