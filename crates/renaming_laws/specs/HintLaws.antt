-- The laws that tie printing to reading.
use Rattle.std.specs.Prelude.{◌≡◌, ◌≤◌, ℕ, Bool, true, length, Some, is_some, Ok}
use Rattle.std.specs.List.{AllByRecursion}
use Rattle.serde_json.specs.Data.{Data}
use Rattle.serde_json.specs.Read.{read}
use Rattle.ir_core.specs.declared.expressions.Expr.TheVariants as expr
use Rattle.ir_core.specs.declared.expressions.Reg.{Reg}
use Rattle.ir_core.specs.declared.expressions.Reg.TheVariants.{Now, Old, Ghost}
use Rattle.ir_core.specs.declared.modules.GlobalVar.{GlobalVar}
use Rattle.ir_core.specs.declared.modules.Module.{Module}
use Rattle.ir_core.specs.declared.operands.Atom.{Atom}
use Rattle.ir_core.specs.declared.operands.Atom.TheVariants.{Constant, Register}
use Rattle.ir_types.specs.declared.names.Name.{Name}
use Rattle.ir_types.specs.declared.names.Sigil.{Sigil}
use Rattle.ir_types.specs.declared.names.Sigil.TheVariants.{Local}
use Rattle.ir_core.specs.declared.operands.Operand.{Operand}
use Rattle.ir_types.specs.declared.ty.Ty.{Ty}
use Rattle.ir_core.specs.Depths.{depth_of, depth_of_constant}
use Rattle.ir_core.specs.Expressions.{Expr0, operands_in}
use Rattle.ir_core.specs.Limits.{depth_limit, text_limit}
use Rattle.ir_core.specs.Ranges.{IsNameInRange, IsRightInRange, constant_written, is_written}
use Rattle.ir_core.specs.StatedTypes.{stated_in}
use Rattle.ir_core.specs.TypeNames.{names_in_type, type_names}
use Rattle.ir_core.specs.Types.{is_first_class, kind_of}
use Rattle.ir_core.specs.Typing.{is_constant_of}
use Rattle.ir_core.specs.WellFormed.{IsTypeKnown}
use Rattle.module_walk.specs.LogicExpressions.{pointed}
use Rattle.expression_reader.specs.Expressions.{SpellsExpression}
use Rattle.expression_reader.specs.Names.{SpellsName}
use Rattle.expression_reader.specs.Types.{SpellsType}
use Rattle.ir_printer.specs.ExpressionPrinter.Printed.{printed_name, printed_register, printed_expr, printed_type}
use Rattle.erhl_assert.specs.declared.facts.Fact.{Fact}
use Rattle.erhl_assert.specs.declared.facts.Fact.TheVariants.{LessDef}
use Rattle.erhl_assert.specs.declared.facts.Fact.TheVariants as fact
use Rattle.erhl_assert.specs.Edges.{is_old}
use Rattle.erhl_assert.specs.Facts.{fact_has}
use Rattle.hint_format.specs.Form.{Leaves, AreLeaves, fact_form, is_align, printed_fact}

-- A printed name spells that name, and nothing else.
abbrev pub PrintedNamesAreRead : Type 0
PrintedNamesAreRead = (sigil : Sigil) (name : Name) → IsNameInRange name → SpellsName sigil (printed_name sigil name) name

-- Two names with one printed text are one name.
abbrev pub PrintedNamesAreApart : Type 0
PrintedNamesAreApart = (sigil : Sigil) (a b : Name) → IsNameInRange a → IsNameInRange b → printed_name sigil a ≡ printed_name sigil b → a ≡ b

-- A printed name that isn't too long for a text is that name in a hint file, by whatever leaves the file is read.
abbrev pub PrintedNamesAreKeys : Type 0
PrintedNamesAreKeys = (leaves : Leaves) → AreLeaves leaves
    → (sigil : Sigil) (name : Name) → IsNameInRange name → length (printed_name sigil name) ≤ text_limit
    → leaves.name sigil (printed_name sigil name) ≡ Ok name

-- ---- expressions

-- a register of such a name: `%x`, `old %x`, `ghost %x`
abbrev pub IsWritableRegister : Reg → Type 0
IsWritableRegister (Now name) = IsNameInRange name
IsWritableRegister (Old name) = IsNameInRange name
IsWritableRegister (Ghost name) = IsNameInRange name

module _ (m : Module) where
  -- a type that the module knows, in range and within the limit on depths
  abbrev pub IsWritableType : Ty → Type 0
  IsWritableType t = (is_written t ≡ true) × IsTypeKnown m t × (depth_of t ≤ depth_limit)

  -- a constant of the type in the module, in range and within that limit, or such a register
  abbrev pub IsWritableAtom : Ty → Atom Reg → Type 0
  IsWritableAtom t (Constant c) =
      (constant_written t c ≡ true) × (is_constant_of m t c ≡ true) × AllByRecursion (IsTypeKnown m) (stated_in c) × (depth_of_constant c ≤ depth_limit)
  IsWritableAtom t (Register r) = IsWritableRegister r

  abbrev pub IsWritableOperand : Operand Reg → Type 0
  IsWritableOperand o = IsWritableType o.ty × (is_first_class o.ty ≡ true) × IsWritableAtom o.ty o.atom

  -- What stands beside the operands: such types. An address is of the type that follows where no name has fields, and a load states its alignment.
  abbrev pub IsWritableBeside : Expr0 → Type 0
  IsWritableBeside (expr.Cast c) = IsWritableType c.to
  IsWritableBeside (expr.Element e) = IsWritableType e.of × (e.to ≡ pointed e.base.ty e.of e.indices)
  IsWritableBeside (expr.Load l) = IsWritableType l.of × ((align : ℕ) × (l.align ≡ Some align))
  IsWritableBeside e = Unit {0}

-- An expression that can stand beside some module whose types and globals have names in range, with flags that its operator may have, and an
-- alignment in range: `udiv exact i8 %x, 3`, `zext i8 %x to i1`, `select i8 %x, i8 1, i16 2`, `load i32, i32* old %p, align 4`; `add exact i8 %x, 3` and
-- `i8 256` are none.
pub record IsWritableExpression (e : Expr0) : Type 0 where
  pub around : Module
  pub types : AllByRecursion IsNameInRange (type_names around)
  pub globals : AllByRecursion (λ (g : GlobalVar). IsNameInRange g.name) around.globals
  pub right : IsRightInRange e
  pub beside : IsWritableBeside around e
  pub operands : AllByRecursion (IsWritableOperand around) (operands_in e)

-- A printed expression spells that expression.
abbrev pub PrintedExpressionsAreRead : Type 0
PrintedExpressionsAreRead = (e : Expr0) → IsWritableExpression e → SpellsExpression (printed_expr printed_register e) e

-- Two expressions with one printed text are one expression.
abbrev pub PrintedExpressionsAreApart : Type 0
PrintedExpressionsAreApart = (a b : Expr0) → IsWritableExpression a → IsWritableExpression b → printed_expr printed_register a ≡ printed_expr printed_register b → a ≡ b

-- ---- types

-- widths, counts and names in range, within the limit on depths
abbrev pub IsTypeInRange : Ty → Type 0
IsTypeInRange t = (is_written t ≡ true) × AllByRecursion IsNameInRange (names_in_type t) × (depth_of t ≤ depth_limit)

-- A printed type spells that type.
abbrev pub PrintedTypesAreRead : Type 0
PrintedTypesAreRead = (t : Ty) → IsTypeInRange t → SpellsType (printed_type t) t

-- ---- facts

-- such an expression, printed within the limit of a text
abbrev pub IsShortExpression : Expr0 → Type 0
IsShortExpression e = IsWritableExpression e × (length (printed_expr printed_register e) ≤ text_limit)

-- a register as it is now, of such a name, printed within that limit
abbrev pub IsShortRegister : Reg → Type 0
IsShortRegister (Now name) = IsNameInRange name × (length (printed_name Local name) ≤ text_limit)
IsShortRegister r = ⊥

-- such an integer type or pointer type
abbrev pub IsShortType : Ty → Type 0
IsShortType t = IsTypeInRange t × (is_some (kind_of t) ≡ true) × (length (printed_type t) ≤ text_limit)

abbrev pub IsWritableFact : Fact → Type 0
IsWritableFact (LessDef a b) = IsShortExpression a × IsShortExpression b
IsWritableFact (fact.Unique r) = IsShortRegister r
IsWritableFact (fact.Private r) = IsShortRegister r
IsWritableFact (fact.NoAlias a b) = IsShortExpression a × IsShortExpression b
IsWritableFact (fact.Ok e t align) = IsShortExpression e × IsShortType t × (is_align align ≡ true)

-- A printed fact is JSON, which is read as that fact where old registers may stand; and elsewhere too, if it names none.
abbrev pub PrintedFactsAreRead : Type 0
PrintedFactsAreRead = (leaves : Leaves) → AreLeaves leaves
    → (fact : Fact) (may_be_old : Bool) → IsWritableFact fact → (fact_has is_old fact ≡ true → may_be_old ≡ true)
    → (d : Data) × (read (printed_fact fact) ≡ Some d) × (fact_form leaves may_be_old d ≡ Ok fact)
