-- What the rules of memory take and what they don't, worked out by hand: an example of each case. Beside a module with two globals, @g of i32
-- and @h of i64, whose types have their own alignments.
use Rattle.std.specs.Prelude.{◌≡◌, ℕ, Bool, true, false, codes, List, [], ◌∷◌, Option, None, Some}
use Rattle.ir_types.specs.declared.names.Name.TheVariants.{Text}
use Rattle.ir_types.specs.declared.ty.Ty.{Ty, Ptr}
use Rattle.ir_types.specs.declared.ty.Ty.TheVariants.{Int}
use Rattle.ir_core.specs.declared.modules.GlobalVar.{GlobalVar}
use Rattle.ir_core.specs.declared.modules.Linkage.TheVariants as linkage
use Rattle.ir_core.specs.declared.operands.Const.TheVariants as constant
use Rattle.ir_core.specs.declared.operands.Atom.{Atom}
use Rattle.ir_core.specs.declared.operands.Atom.TheVariants.{Constant, Register}
use Rattle.ir_core.specs.declared.operands.CastOp.TheVariants as conversion
use Rattle.ir_core.specs.declared.operands.Operand.{Operand}
use Rattle.ir_core.specs.declared.expressions.Reg.{Reg}
use Rattle.ir_core.specs.declared.expressions.Reg.TheVariants.{Now, Old, Ghost}
use Rattle.ir_core.specs.declared.expressions.Expr.TheVariants as expr
use Rattle.ir_core.specs.Expressions.{Expr0}
use Rattle.ir_values.specs.Constants.{Scope}
use Rattle.erhl_assert.specs.declared.facts.Fact.{Fact}
use Rattle.erhl_assert.specs.declared.facts.Fact.TheVariants.{LessDef, Unique, Private, NoAlias, Ok}
use Rattle.rules_memory.specs.Rows.{divides, is_gep_zero, is_load_align, is_load_ok, is_noalias_derived, is_noalias_globals, is_noalias_swap, is_noalias_unique, is_ok_align, is_ok_cast, is_ok_global, is_private_derived}

-- ---- what the examples are written with

abbrev pub global : List ℕ → ℕ → GlobalVar
global x width = record { name = Text x; linkage = linkage.External; constant = false; ty = Int width; init = None; align = None }

abbrev pub scope : Scope
scope = record { types = []; globals = global (codes "g") 32 ∷ global (codes "h") 64 ∷ [] }

abbrev pub now : List ℕ → Reg
now x = Now (Text x)

abbrev pub at : Ty → Atom Reg → Operand Reg
at t a = record { ty = t; atom = a }

abbrev pub bytes : Ty
bytes = Ptr (Int 8)

-- `%x`, `%x` as it was before the edge and the ghost `%x`, at i8*
abbrev pub register : List ℕ → Operand Reg
register x = at bytes (Register (Now (Text x)))

abbrev pub old : List ℕ → Operand Reg
old x = at bytes (Register (Old (Text x)))

abbrev pub ghost : List ℕ → Operand Reg
ghost x = at bytes (Register (Ghost (Text x)))

abbrev pub p : Operand Reg
p = register (codes "p")

abbrev pub q : Operand Reg
q = register (codes "q")

abbrev pub r : Operand Reg
r = register (codes "r")

-- `@x`, of so many bits
abbrev pub address : List ℕ → ℕ → Operand Reg
address x width = at (Ptr (Int width)) (Constant (constant.Global (Text x)))

abbrev pub g : Operand Reg
g = address (codes "g") 32

abbrev pub h : Operand Reg
h = address (codes "h") 64

abbrev pub null : Operand Reg
null = at bytes (Constant constant.Null)

-- `getelementptr i8, i8* %x, i64 n`
abbrev pub element : Operand Reg → Atom Reg → Expr0
element base n = expr.Element (record { inbounds = false; of = Int 8; base = base; indices = at (Int 64) n ∷ []; to = bytes })

abbrev pub number : ℕ → Atom Reg
number n = Constant (constant.Number n)

-- `bitcast i8* %x to i8*`
abbrev pub recast : Operand Reg → Expr0
recast o = expr.Cast (record { op = conversion.BitCast; operand = o; to = bytes })

-- `load i8, i8* %x, align n`
abbrev pub load : Operand Reg → Option ℕ → Expr0
load o n = expr.Load (record { of = Int 8; pointer = o; align = n })

abbrev pub plain : Operand Reg → Expr0
plain o = expr.Plain o

abbrev pub noalias : Operand Reg → Operand Reg → Fact
noalias a b = NoAlias (expr.Plain a) (expr.Plain b)

-- an access of so many bits
abbrev pub ok : Operand Reg → ℕ → ℕ → Fact
ok o width n = Ok (expr.Plain o) (Int width) n

abbrev pub gep_zero : Expr0 → Expr0 → Bool
gep_zero a b = is_gep_zero scope [] (LessDef a b)

abbrev pub unique : Reg → Operand Reg → Operand Reg → Bool
unique x a b = is_noalias_unique scope (Unique x ∷ []) (noalias a b)

-- of `noalias p, q`
abbrev pub swap : Operand Reg → Operand Reg → Bool
swap a b = is_noalias_swap scope (noalias p q ∷ []) (noalias a b)

-- of `noalias p, q` and `a >= b`
abbrev pub derived : Expr0 → Expr0 → Operand Reg → Operand Reg → Bool
derived a b c d = is_noalias_derived scope (noalias p q ∷ LessDef a b ∷ []) (noalias c d)

abbrev pub globals : Operand Reg → Operand Reg → Bool
globals a b = is_noalias_globals scope [] (noalias a b)

-- of `private p` and `a >= b`
abbrev pub private : Expr0 → Expr0 → Reg → Bool
private a b x = is_private_derived scope (Private (now (codes "p")) ∷ LessDef a b ∷ []) (Private x)

-- of `ok p, i8, 8`
abbrev pub ok_align : Operand Reg → ℕ → ℕ → Bool
ok_align a width n = is_ok_align scope (ok p 8 8 ∷ []) (ok a width n)

-- of `ok p, i8, 8` and `a >= b`
abbrev pub ok_cast : Expr0 → Expr0 → Operand Reg → ℕ → ℕ → Bool
ok_cast a b c width n = is_ok_cast scope (ok p 8 8 ∷ LessDef a b ∷ []) (ok c width n)

abbrev pub ok_global : Operand Reg → ℕ → ℕ → Bool
ok_global a width n = is_ok_global scope [] (ok a width n)

abbrev pub load_align : Expr0 → Expr0 → Bool
load_align a b = is_load_align scope [] (LessDef a b)

-- of `ok p, i8, 8`
abbrev pub load_ok : Expr0 → Expr0 → Bool
load_ok a b = is_load_ok scope (ok p 8 8 ∷ []) (LessDef a b)

-- ---- the examples

pub record GepZeroTakesThese : Type 0 where
  pub by_zero : gep_zero (element p (number 0)) (plain p) ≡ true
  pub by_one : gep_zero (element p (number 1)) (plain p) ≡ false
  pub by_register : gep_zero (element p (Register (now (codes "i")))) (plain p) ≡ false
  pub another_pointer : gep_zero (element p (number 0)) (plain q) ≡ false
  pub turned_round : gep_zero (plain p) (element p (number 0)) ≡ false

-- Of null, of an old or a ghost register and of undef nothing is said.
pub record NoAliasUniqueTakesThese : Type 0 where
  pub another_register : unique (now (codes "p")) p q ≡ true
  pub a_global : unique (now (codes "p")) p g ≡ true
  pub itself : unique (now (codes "p")) p p ≡ false
  pub of_another : unique (now (codes "q")) p q ≡ false
  pub turned_round : unique (now (codes "p")) q p ≡ false
  pub from_null : unique (now (codes "p")) p null ≡ false
  pub from_ghost : unique (now (codes "p")) p (ghost (codes "q")) ≡ false
  pub from_old : unique (now (codes "p")) p (old (codes "p")) ≡ false
  pub ghost_is_not_unique : unique (Ghost (Text (codes "p"))) (ghost (codes "p")) q ≡ false

pub record NoAliasSwapTakesThese : Type 0 where
  pub turned_round : swap q p ≡ true
  pub never_the_same : swap p q ≡ false
  pub never_another : swap q r ≡ false

pub record NoAliasDerivedTakesThese : Type 0 where
  pub of_element : derived (plain r) (element p (number 1)) r q ≡ true
  pub of_bitcast : derived (plain r) (recast p) r q ≡ true
  pub premise_turned_round : derived (element p (number 1)) (plain r) r q ≡ false
  pub of_the_other : derived (plain r) (element q (number 1)) r q ≡ false
  pub about_another : derived (plain r) (element p (number 1)) g q ≡ false
  pub from_another : derived (plain r) (element p (number 1)) r g ≡ false
  pub of_an_integer : derived (plain (at (Int 8) (Register (now (codes "r"))))) (recast p) (at (Int 8) (Register (now (codes "r")))) q ≡ false
  pub of_itself : derived (plain r) (plain p) r q ≡ false

pub record NoAliasGlobalsTakesThese : Type 0 where
  pub two : globals g h ≡ true
  pub turned_round : globals h g ≡ true
  pub one : globals g g ≡ false
  pub register_is_none : globals g p ≡ false
  pub at_another_type : globals g (address (codes "h") 32) ≡ false
  pub nowhere : globals g (address (codes "f") 32) ≡ false

pub record PrivateDerivedTakesThese : Type 0 where
  pub of_element : private (plain r) (element p (number 1)) (now (codes "r")) ≡ true
  pub of_bitcast : private (plain r) (recast p) (now (codes "r")) ≡ true
  pub premise_turned_round : private (element p (number 1)) (plain r) (now (codes "r")) ≡ false
  pub of_another : private (plain r) (element q (number 1)) (now (codes "r")) ≡ false
  pub about_another : private (plain r) (element p (number 1)) (now (codes "q")) ≡ false
  pub about_its_ghost : private (plain r) (element p (number 1)) (Ghost (Text (codes "r"))) ≡ false
  pub of_an_old_base : private (plain r) (element (old (codes "p")) (number 1)) (now (codes "r")) ≡ false

pub record OkAlignTakesThese : Type 0 where
  pub smaller : ok_align p 8 4 ≡ true
  pub itself : ok_align p 8 8 ≡ true
  pub larger : ok_align p 8 16 ≡ false
  pub no_divisor : ok_align p 8 3 ≡ false
  pub zero : ok_align p 8 0 ≡ false
  pub of_another : ok_align q 8 4 ≡ false
  pub at_another_type : ok_align p 16 4 ≡ false
  pub zero_divides_nothing : divides 0 0 ≡ false

pub record OkCastTakesThese : Type 0 where
  pub of_bitcast : ok_cast (recast p) (plain r) r 8 8 ≡ true
  pub premise_turned_round : ok_cast (plain r) (recast p) r 8 8 ≡ false
  pub of_element : ok_cast (element p (number 0)) (plain r) r 8 8 ≡ false
  pub of_another : ok_cast (recast q) (plain r) r 8 8 ≡ false
  pub about_another : ok_cast (recast p) (plain r) q 8 8 ≡ false
  pub at_another_type : ok_cast (recast p) (plain r) r 16 8 ≡ false
  pub at_another_alignment : ok_cast (recast p) (plain r) r 8 4 ≡ false

pub record OkGlobalTakesThese : Type 0 where
  pub whole : ok_global g 32 4 ≡ true
  pub part : ok_global g 8 2 ≡ true
  pub a_byte_too_wide : ok_global g 33 4 ≡ false
  pub aligned_too_far : ok_global g 32 8 ≡ false
  pub zero : ok_global g 32 0 ≡ false
  pub of_a_register : ok_global p 8 1 ≡ false
  pub nowhere : ok_global (address (codes "f") 32) 32 4 ≡ false

pub record LoadAlignTakesThese : Type 0 where
  pub smaller : load_align (load p (Some 8)) (load p (Some 4)) ≡ true
  pub itself : load_align (load p None) (load p (Some 1)) ≡ true
  pub larger : load_align (load p (Some 4)) (load p (Some 8)) ≡ false
  pub no_divisor : load_align (load p (Some 8)) (load p (Some 3)) ≡ false
  pub zero : load_align (load p (Some 8)) (load p (Some 0)) ≡ false
  pub of_another : load_align (load p (Some 8)) (load q (Some 4)) ≡ false

pub record LoadOkTakesThese : Type 0 where
  pub whatever : load_ok (load p (Some 16)) (load p (Some 8)) ≡ true
  pub turned_round : load_ok (load p (Some 8)) (load p (Some 16)) ≡ false
  pub of_another : load_ok (load q (Some 1)) (load q (Some 8)) ≡ false
