-- What is asked of the parts of a module so that they can be written as text and are read again.
use Rattle.std.specs.Prelude.{◌≡◌, ◌<◌, ◌≤◌, true, false, List, [], ◌∷◌, length, map, Option, None, Some}
use Rattle.std.specs.List.{AllByRecursion, Contains}
use Rattle.ir_core.specs.declared.expressions.Expr.{Expr}
use Rattle.ir_core.specs.declared.expressions.Expr.TheVariants as expr
use Rattle.ir_core.specs.declared.functions.Alloca.{Alloca}
use Rattle.ir_core.specs.declared.functions.Argument.{Argument}
use Rattle.ir_core.specs.declared.functions.Block.{Block}
use Rattle.ir_core.specs.declared.functions.Call.{Call}
use Rattle.ir_core.specs.declared.functions.Case.{Case}
use Rattle.ir_core.specs.declared.functions.CondBr.{CondBr}
use Rattle.ir_core.specs.declared.functions.Entry.{Entry}
use Rattle.ir_core.specs.declared.functions.Function.{Function}
use Rattle.ir_core.specs.declared.functions.Instr.{Instr}
use Rattle.ir_core.specs.declared.functions.Instr.TheVariants as instr
use Rattle.ir_core.specs.declared.functions.Param.{Param}
use Rattle.ir_core.specs.declared.functions.Phi.{Phi}
use Rattle.ir_core.specs.declared.functions.Store.{Store}
use Rattle.ir_core.specs.declared.functions.Switch.{Switch}
use Rattle.ir_core.specs.declared.functions.Term.{Term}
use Rattle.ir_core.specs.declared.functions.Term.TheVariants as term
use Rattle.ir_core.specs.declared.modules.Declaration.{Declaration}
use Rattle.ir_core.specs.declared.modules.DeclaredParam.{DeclaredParam}
use Rattle.ir_core.specs.declared.modules.GlobalVar.{GlobalVar}
use Rattle.ir_core.specs.declared.modules.Init.{Init}
use Rattle.ir_core.specs.declared.modules.Module.{Module}
use Rattle.ir_core.specs.declared.operands.Atom.{Atom}
use Rattle.ir_core.specs.declared.operands.Atom.TheVariants.{Constant, Register}
use Rattle.ir_core.specs.declared.operands.Const.{Const}
use Rattle.ir_core.specs.declared.operands.Const.TheVariants as constant
use Rattle.ir_core.specs.declared.operands.Operand.{Operand}
use Rattle.ir_core.specs.Expressions.{operands_in}
use Rattle.ir_core.specs.Functions.{is_debug, line_count, names_of}
use Rattle.ir_core.specs.Depths.{depth_of}
use Rattle.ir_core.specs.Limits.{depth_limit, line_limit}
use Rattle.ir_core.specs.Order.{AreInOrder}
use Rattle.ir_core.specs.Ranges.{IsAlignInRange, IsCountInRange, IsNameInRange, IsRightInRange, IsStartInRange, StandBehind, constant_written, init_written, is_written}
use Rattle.ir_core.specs.StatedTypes.{stated_at_start, stated_by_count, stated_in}
use Rattle.ir_core.specs.Typing.{Signature, declared_signature, index_of, is_constant_of, is_init_of, signatures_of}
use Rattle.ir_core.specs.Types.{constant_fits, is_first_class}
use Rattle.ir_core.specs.WellFormed.{IsNamedResult, IsTypeKnown}
use Rattle.ir_types.specs.declared.named.NamedTy.{NamedTy}
use Rattle.ir_types.specs.declared.names.Name.{Name}
use Rattle.ir_types.specs.declared.ty.Ty.{Ty}
use Rattle.ir_types.specs.declared.ty.Ty.TheVariants as ty
use Rattle.ir_types.specs.Named.{fields_or_none}
use Rattle.ir_printer.specs.Printed.{called_in}
use Rattle.named_modules.specs.Addresses.{address_type}
use Rattle.named_modules.specs.Functions.{labels_of, registers_of}
use Rattle.named_modules.specs.Modules.{global_names}
use Rattle.named_modules.specs.Values.{IsRegister, Registers}

-- the name of a register, where there is one
abbrev pub named_of : Option Name → List Name
named_of None = []
named_of (Some x) = x ∷ []

module _ (m : Module) where
  -- ---- types and values

  -- a type that can be written, whose names are the module's
  abbrev pub FitsType : Ty → Type 0
  FitsType t = (is_written t ≡ true) × IsTypeKnown m t

  abbrev pub FitsValueType : Ty → Type 0
  FitsValueType t = FitsType t × (is_first_class t ≡ true)

  -- a type of values, or `void`
  abbrev pub FitsResult : Ty → Type 0
  FitsResult ty.Void = Unit {0}
  FitsResult t = FitsValueType t

  -- a constant of this type that can be written
  pub record FitsConst (t : Ty) (c : Const) : Type 0 where
    pub written : constant_written t c ≡ true
    pub typed : is_constant_of m t c ≡ true
    pub types : AllByRecursion (IsTypeKnown m) (stated_in c)

  pub record FitsInit (t : Ty) (i : Init) : Type 0 where
    pub written : init_written t i ≡ true
    pub typed : is_init_of m t i ≡ true
    pub types : AllByRecursion (IsTypeKnown m) (stated_at_start (Some i))

  -- a parameter of a declaration, whose type a call may state
  abbrev pub FitsDeclaredParam : DeclaredParam → Type 0
  FitsDeclaredParam p = FitsValueType p.ty × (depth_of p.ty ≤ depth_limit)

  -- what a call states of a function with this signature, where it is this one that is declared to take further arguments, or none is
  abbrev pub StatesAs : Option Declaration → Signature → Type 0
  StatesAs None s = s.variadic ≡ false
  StatesAs (Some d) s = (s ≡ declared_signature d) × (d.variadic ≡ true) × AllByRecursion FitsDeclaredParam d.params

  module _ (rs : Registers) (labels : List Name) where
    abbrev pub FitsAtom : Ty → Atom Name → Type 0
    FitsAtom t (Constant c) = FitsConst t c
    FitsAtom t (Register x) = IsNameInRange x × IsRegister rs t x

    abbrev pub FitsOperand : Operand Name → Type 0
    FitsOperand o = FitsValueType o.ty × FitsAtom o.ty o.atom

    abbrev pub FitsLabel : Name → Type 0
    FitsLabel x = IsNameInRange x × Contains labels x

    -- ---- lines

    -- the kept type of a `getelementptr` is that of the address; an operand alone is no line
    abbrev pub FitsOperator : Expr Name → Type 0
    FitsOperator (expr.Plain o) = ⊥
    FitsOperator (expr.Cast c) = FitsValueType c.to
    FitsOperator (expr.Element e) = FitsType e.of × (address_type m.types e.base.ty e.of (map index_of e.indices) ≡ Some e.to)
    FitsOperator (expr.Load l) = FitsValueType l.of
    FitsOperator e = Unit {0}

    pub record FitsRight (e : Expr Name) : Type 0 where
      pub operator : FitsOperator e
      pub range : IsRightInRange e
      pub operands : AllByRecursion FitsOperand (operands_in e)

    pub record FitsAlloca (a : Alloca) : Type 0 where
      pub name : IsNameInRange a.name
      pub of : FitsType a.of
      pub to : a.to ≡ ty.Ptr a.of
      pub count : IsCountInRange a.count
      pub counted : AllByRecursion (IsTypeKnown m) (stated_by_count a.count)
      pub align : IsAlignInRange a.align

    pub record FitsStore (s : Store) : Type 0 where
      pub value : FitsOperand s.value
      pub pointer : FitsOperand s.pointer
      pub align : IsAlignInRange s.align

    -- it calls a function of the module, whose name is none of debugging
    pub record FitsCall (c : Call) : Type 0 where
      pub result : FitsResult c.result
      pub names : AllByRecursion IsNameInRange (named_of c.name)
      pub named : IsNamedResult c.result c.name
      pub name : IsNameInRange c.callee
      pub plain : is_debug c.callee ≡ false
      pub signature : Signature
      pub known : Contains (signatures_of m) (c.callee, signature)
      pub states : StatesAs (called_in m.declarations c.callee) signature
      pub arguments : AllByRecursion (λ (a : Argument). FitsOperand a.operand) c.arguments

    abbrev pub FitsLine : Instr → Type 0
    FitsLine (instr.Calm c) = IsNameInRange c.name × FitsRight c.right
    FitsLine (instr.Alloca a) = FitsAlloca a
    FitsLine (instr.Store s) = FitsStore s
    FitsLine (instr.Call c) = FitsCall c

    -- ---- blocks

    abbrev pub FitsEntry : Ty → Entry → Type 0
    FitsEntry t e = FitsAtom t e.value × FitsLabel e.from

    pub record FitsPhi (p : Phi) : Type 0 where
      pub name : IsNameInRange p.name
      pub typed : FitsValueType p.ty
      pub some : 0 < length p.entries
      pub entries : AllByRecursion (FitsEntry p.ty) p.entries

    abbrev pub FitsCondition : CondBr → Type 0
    FitsCondition c = FitsOperand c.condition × FitsLabel c.on_true × FitsLabel c.on_false

    abbrev pub FitsCase : Case → Type 0
    FitsCase c = FitsType c.ty × (constant_fits c.ty (constant.Number c.number) ≡ true) × FitsLabel c.label

    abbrev pub FitsSwitch : Switch → Type 0
    FitsSwitch s = FitsOperand s.value × FitsLabel s.default × AllByRecursion FitsCase s.cases

    abbrev pub FitsTerm : Term → Type 0
    FitsTerm (term.Ret operand) = FitsOperand operand
    FitsTerm term.RetVoid = Unit {0}
    FitsTerm (term.Br label) = FitsLabel label
    FitsTerm (term.CondBr c) = FitsCondition c
    FitsTerm (term.Switch s) = FitsSwitch s
    FitsTerm term.Unreachable = Unit {0}

    pub record FitsBlock (b : Block) : Type 0 where
      pub name : IsNameInRange b.name
      pub phis : AllByRecursion FitsPhi b.phis
      pub lines : AllByRecursion FitsLine b.body
      pub ends : FitsTerm b.term

  -- ---- functions and globals

  abbrev pub FitsParam : Param → Type 0
  FitsParam p = IsNameInRange p.name × FitsValueType p.ty

  pub record FitsFunction (f : Function) : Type 0 where
    pub name : IsNameInRange f.name
    pub plain : is_debug f.name ≡ false
    pub result : FitsResult f.result
    pub params : AllByRecursion FitsParam f.params
    pub some : 0 < length f.blocks
    pub blocks : AllByRecursion (FitsBlock (registers_of m f) (labels_of f)) f.blocks
    pub order : AreInOrder (names_of f)
    pub few : line_count f ≤ line_limit

  pub record FitsDeclaration (d : Declaration) : Type 0 where
    pub name : IsNameInRange d.name
    pub plain : is_debug d.name ≡ false
    pub result : FitsResult d.result
    pub params : AllByRecursion FitsDeclaredParam d.params

  abbrev pub FitsStart : Ty → Option Init → Type 0
  FitsStart t None = Unit {0}
  FitsStart t (Some i) = FitsInit t i

  pub record FitsGlobal (g : GlobalVar) : Type 0 where
    pub name : IsNameInRange g.name
    pub ty : FitsType g.ty
    pub linkage : IsStartInRange g.linkage g.ty g.init
    pub start : FitsStart g.ty g.init
    pub align : IsAlignInRange g.align

  pub record FitsNamedType (t : NamedTy) : Type 0 where
    pub name : IsNameInRange t.name
    pub fields : AllByRecursion FitsType (fields_or_none t.fields)

pub record FitsModule (m : Module) : Type 0 where
  pub types : AllByRecursion (FitsNamedType m) m.types
  pub globals : AllByRecursion (FitsGlobal m) m.globals
  pub functions : AllByRecursion (FitsFunction m) m.functions
  pub declarations : AllByRecursion (FitsDeclaration m) m.declarations
  pub behind : StandBehind 0 (length m.functions) m.declarations
  pub type_order : AreInOrder (map (λ (t : NamedTy). t.name) m.types)
  pub order : AreInOrder (global_names m)
