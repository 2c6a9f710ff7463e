-- The ranges of names, types, constants, flags, alignments, cases and lines within which text can write them; the types of the syntax tree
-- hold more (LangRef 3.7, Identifiers, Type System, Constants).
use Rattle.std.specs.Prelude.{◌≡◌, ℕ, ◌<◌, ◌≤◌, ◌^◌, Bool, true, false, not, ◌&&◌, ◌||◌, nat_lt, List, [], ◌∷◌, length, Option, None, Some}
use Rattle.std.specs.Int.{IsPowerOfTwo}
use Rattle.std.specs.List.{AllByRecursion, flat_map, list_all}
use Rattle.ir_core.specs.declared.expressions.Expr.{Expr}
use Rattle.ir_core.specs.declared.expressions.Expr.TheVariants as expr
use Rattle.ir_core.specs.declared.functions.Block.{Block}
use Rattle.ir_core.specs.declared.functions.Case.{Case}
use Rattle.ir_core.specs.declared.functions.Function.{Function}
use Rattle.ir_core.specs.declared.functions.Instr.{Instr}
use Rattle.ir_core.specs.declared.functions.Instr.TheVariants as instr
use Rattle.ir_core.specs.declared.modules.Declaration.{Declaration}
use Rattle.ir_core.specs.declared.modules.DeclaredParam.{DeclaredParam}
use Rattle.ir_core.specs.declared.modules.GlobalVar.{GlobalVar}
use Rattle.ir_core.specs.declared.modules.Init.{Init, fold-Init}
use Rattle.ir_core.specs.declared.modules.Init.TheOpen.{Init-F}
use Rattle.ir_core.specs.declared.modules.Init.TheOpen as init
use Rattle.ir_core.specs.declared.modules.Linkage.{Linkage}
use Rattle.ir_core.specs.declared.modules.Linkage.TheVariants as linkage
use Rattle.ir_core.specs.declared.modules.Module.{Module}
use Rattle.ir_types.specs.declared.named.NamedTy.{NamedTy}
use Rattle.ir_types.specs.declared.names.Name.{Name}
use Rattle.ir_types.specs.declared.names.Name.TheVariants.{Text, Number}
use Rattle.ir_core.specs.declared.operands.Atom.{Atom}
use Rattle.ir_core.specs.declared.operands.Atom.TheVariants.{Constant, Register}
use Rattle.ir_core.specs.declared.operands.BinOp.{BinOp}
use Rattle.ir_core.specs.declared.operands.BinOp.TheVariants.{Add, Sub, Mul, Shl, UDiv, SDiv, LShr, AShr}
use Rattle.ir_core.specs.declared.operands.Const.{Const, fold-Const}
use Rattle.ir_core.specs.declared.operands.Const.TheVariants as constant
use Rattle.ir_core.specs.declared.operands.Const.TheOpen.{Const-F}
use Rattle.ir_core.specs.declared.operands.Const.TheOpen as part
use Rattle.ir_core.specs.declared.operands.Flags.{Flags}
use Rattle.ir_core.specs.declared.operands.Operand.{Operand}
use Rattle.ir_types.specs.declared.ty.Ty.{Ty, fold-Ty}
use Rattle.ir_types.specs.declared.ty.Ty.TheVariants as ty
use Rattle.ir_types.specs.declared.ty.Ty.TheOpen.{Ty-F}
use Rattle.ir_types.specs.declared.ty.Ty.TheOpen as level
use Rattle.ir_types.specs.Named.{fields_or_none}
use Rattle.ir_core.specs.Functions.{cases_of, names_of, operands_in_block, typed_of}
use Rattle.ir_core.specs.Types.{constant_fits, is_width}

-- ---- names and numbers

abbrev pub AreBytes : List ℕ → Type 0
AreBytes = AllByRecursion (λ b. b < 2 ^ 8)

-- A name is a text of at least one byte, or a number below 2 to the 32.
abbrev pub IsNameInRange : Name → Type 0
IsNameInRange (Text bytes) = (0 < length bytes) × AreBytes bytes
IsNameInRange (Number n) = n < 2 ^ 32

-- An alignment that is written is a power of two, 2 to the 29 at most. `align 0` says what no alignment says, and isn't kept.
abbrev pub IsAlignInRange : Option ℕ → Type 0
IsAlignInRange None = Unit {0}
IsAlignInRange (Some align) = IsPowerOfTwo align × (align ≤ 2 ^ 29)

-- ---- types

-- what is asked of a type, where it is known of those in it; what stands behind a name has its own range
abbrev pub written_at_level : Ty-F Bool → Bool
written_at_level (level.Int width) = is_width width
written_at_level (level.Ptr t) = t
written_at_level (level.Array count t) = nat_lt count (2 ^ 64) && t
written_at_level (level.Struct ts) = list_all (λ t. t) ts
written_at_level (level.Named x) = true
written_at_level level.Void = false

abbrev pub is_written : Ty → Bool
is_written = fold-Ty Bool written_at_level

-- An integer has 1 to 64 bits, and an array fewer than 2 to the 64 elements, also in other types. `void` is none, and stands in none.
abbrev pub IsTypeInRange : Ty → Type 0
IsTypeInRange (ty.Int width) = is_width width ≡ true
IsTypeInRange t = is_written t ≡ true

-- a result may be `void` besides
abbrev pub IsResultInRange : Ty → Type 0
IsResultInRange ty.Void = Unit {0}
IsResultInRange t = IsTypeInRange t

-- ---- constants

-- each stands behind a type in range, of which it is in range
abbrev pub are_written : List (Ty × (Ty → Bool)) → Bool
are_written = list_all (λ p. is_written p.0 && p.1 p.0)

-- Of which types a constant is in range. A number has no more bits than its type, which is an integer.
abbrev pub constant_at_level : Const-F (Ty → Bool) → Ty → Bool
constant_at_level (part.Number n) t = constant_fits t (constant.Number n)
constant_at_level (part.Element e) t = is_written e.1 && are_written e.2
constant_at_level (part.Cast c) t = is_written c.0 && are_written c.1
constant_at_level other t = true

abbrev pub constant_written : Ty → Const → Bool
constant_written t c = fold-Const (Ty → Bool) constant_at_level c t

-- 255 is one of `i8`, 256 is none, also inside of another constant
abbrev pub IsAtomInRange : {R : Type 0} → Ty → Atom R → Type 0
IsAtomInRange t (Constant (constant.Number n)) = constant_fits t (constant.Number n) ≡ true
IsAtomInRange t (Constant c) = constant_written t c ≡ true
IsAtomInRange t (Register r) = Unit {0}

abbrev pub IsOperandInRange : {R : Type 0} → Operand R → Type 0
IsOperandInRange o = IsTypeInRange o.ty × IsAtomInRange o.ty o.atom

-- ---- lines

-- the operators on which `nuw` and `nsw` may stand
abbrev pub may_wrap : BinOp → Bool
may_wrap Add = true
may_wrap Sub = true
may_wrap Mul = true
may_wrap Shl = true
may_wrap op = false

-- the operators on which `exact` may stand
abbrev pub may_leave : BinOp → Bool
may_leave UDiv = true
may_leave SDiv = true
may_leave LShr = true
may_leave AShr = true
may_leave op = false

-- The operator may have its flags: `add nuw` and `udiv exact` are lines, `add exact` and `and nsw` are none.
abbrev pub may_have : BinOp → Flags → Bool
may_have op flags = (not flags.nuw || may_wrap op) && (not flags.nsw || may_wrap op) && (not flags.exact || may_leave op)

-- What an operator states beside its operands and the type of its register: flags that it may have, the type over which indices step, an
-- alignment.
abbrev pub IsRightInRange : {R : Type 0} → Expr R → Type 0
IsRightInRange (expr.Binary b) = may_have b.op b.flags ≡ true
IsRightInRange (expr.Element e) = IsTypeInRange e.of
IsRightInRange (expr.Load l) = IsAlignInRange l.align
IsRightInRange e = Unit {0}

-- A count is a number of its type. A count of 1 says what no count says, and isn't kept.
abbrev pub IsCountInRange : Option (Ty × ℕ) → Type 0
IsCountInRange None = Unit {0}
IsCountInRange (Some count) = IsTypeInRange count.0 × (constant_fits count.0 (constant.Number count.1) ≡ true) × (count.1 ≡ 1 → ⊥)

-- what a line states beside its operands and the type of its register
abbrev pub IsLineInRange : Instr → Type 0
IsLineInRange (instr.Calm c) = IsRightInRange c.right
IsLineInRange (instr.Alloca a) = IsTypeInRange a.of × IsCountInRange a.count × IsAlignInRange a.align
IsLineInRange (instr.Store s) = IsAlignInRange s.align
IsLineInRange (instr.Call c) = IsResultInRange c.result

-- a case's number has no more bits than its type
abbrev pub IsCaseInRange : Case → Type 0
IsCaseInRange c = IsTypeInRange c.ty × (constant_fits c.ty (constant.Number c.number) ≡ true)

-- ---- functions, globals and modules

pub record IsFunctionInRange (f : Function) : Type 0 where
  pub name : IsNameInRange f.name
  pub names : AllByRecursion IsNameInRange (names_of f)
  pub result : IsResultInRange f.result
  pub registers : AllByRecursion (λ register. IsTypeInRange register.1) (typed_of f)
  pub operands : AllByRecursion IsOperandInRange (flat_map operands_in_block f.blocks)
  pub lines : AllByRecursion IsLineInRange (flat_map (λ (b : Block). b.body) f.blocks)
  pub cases : AllByRecursion IsCaseInRange (flat_map (λ (b : Block). cases_of b.term) f.blocks)

-- a declaration's parameters have no names
pub record IsDeclarationInRange (d : Declaration) : Type 0 where
  pub name : IsNameInRange d.name
  pub result : IsResultInRange d.result
  pub params : AllByRecursion (λ (p : DeclaredParam). IsTypeInRange p.ty) d.params

-- declarations stand behind so many definitions or more, each behind no fewer than the one before it, and none behind more than there are
abbrev pub StandBehind : ℕ → ℕ → List Declaration → Type 0
StandBehind least most [] = Unit {0}
StandBehind least most (d ∷ ds) = (least ≤ d.before) × (d.before ≤ most) × StandBehind d.before most ds

-- of which types an initialiser is in range
abbrev pub init_at_level : Init-F (Ty → Bool) → Ty → Bool
init_at_level (init.Const c) t = constant_written t c
init_at_level init.Zero t = true
init_at_level (init.Bytes bytes) t = list_all (λ b. nat_lt b (2 ^ 8)) bytes
init_at_level (init.Array parts) t = are_written parts
init_at_level (init.Struct parts) t = are_written parts

abbrev pub init_written : Ty → Init → Bool
init_written t i = fold-Init (Ty → Bool) init_at_level i t

-- a global that holds nothing is another module's, which is said by the word `external`
abbrev pub IsStartInRange : Linkage → Ty → Option Init → Type 0
IsStartInRange link t None = link ≡ linkage.External
IsStartInRange link t (Some i) = init_written t i ≡ true

pub record IsGlobalInRange (g : GlobalVar) : Type 0 where
  pub name : IsNameInRange g.name
  pub ty : IsTypeInRange g.ty
  pub init : IsStartInRange g.linkage g.ty g.init
  pub align : IsAlignInRange g.align

-- a named type has a name, and fields whose types are in range
pub record IsNamedTypeInRange (t : NamedTy) : Type 0 where
  pub name : IsNameInRange t.name
  pub fields : AllByRecursion IsTypeInRange (fields_or_none t.fields)

pub record IsInRange (m : Module) : Type 0 where
  pub types : AllByRecursion IsNamedTypeInRange m.types
  pub globals : AllByRecursion IsGlobalInRange m.globals
  pub functions : AllByRecursion IsFunctionInRange m.functions
  pub declarations : AllByRecursion IsDeclarationInRange m.declarations
  pub order : StandBehind 0 (length m.functions) m.declarations
