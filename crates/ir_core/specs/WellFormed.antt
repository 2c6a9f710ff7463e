-- When a module is well-formed (LangRef 3.7, Well-Formedness): a predicate of the module alone, whatever text spells it.
use Rattle.std.specs.Prelude.{◌≡◌, ◌<◌, ◌≤◌, ℕ, true, false, List, [], ◌∷◌, ◌++◌, length, map, IsPermutation, Option, None, Some}
use Rattle.std.specs.List.{AllByRecursion, Contains, flat_map}
use Rattle.ir_core.specs.declared.expressions.Element.{Element}
use Rattle.ir_core.specs.declared.expressions.Expr.{Expr}
use Rattle.ir_core.specs.declared.expressions.Expr.TheVariants as expr
use Rattle.ir_core.specs.declared.expressions.Load.{Load}
use Rattle.ir_core.specs.declared.functions.Alloca.{Alloca}
use Rattle.ir_core.specs.declared.functions.Argument.{Argument}
use Rattle.ir_core.specs.declared.functions.Block.{Block}
use Rattle.ir_core.specs.declared.functions.Call.{Call}
use Rattle.ir_core.specs.declared.functions.Case.{Case}
use Rattle.ir_core.specs.declared.functions.Entry.{Entry}
use Rattle.ir_core.specs.declared.functions.Function.{Function}
use Rattle.ir_core.specs.declared.functions.Instr.{Instr}
use Rattle.ir_core.specs.declared.functions.Instr.TheVariants as instr
use Rattle.ir_core.specs.declared.functions.Store.{Store}
use Rattle.ir_core.specs.declared.modules.Declaration.{Declaration}
use Rattle.ir_core.specs.declared.modules.DeclaredParam.{DeclaredParam}
use Rattle.ir_core.specs.declared.modules.GlobalVar.{GlobalVar}
use Rattle.ir_core.specs.declared.modules.Init.{Init}
use Rattle.ir_core.specs.declared.modules.Module.{Module}
use Rattle.ir_core.specs.declared.functions.Phi.{Phi}
use Rattle.ir_core.specs.declared.functions.Term.{Term}
use Rattle.ir_core.specs.declared.functions.Term.TheVariants as term
use Rattle.ir_types.specs.declared.named.NamedTy.{NamedTy}
use Rattle.ir_types.specs.declared.names.Name.{Name}
use Rattle.ir_core.specs.declared.operands.Atom.{Atom}
use Rattle.ir_core.specs.declared.operands.Atom.TheVariants.{Constant, Register}
use Rattle.ir_core.specs.declared.operands.Operand.{Operand}
use Rattle.ir_types.specs.declared.ty.Ty.{Ty}
use Rattle.ir_types.specs.declared.ty.Ty.TheVariants as ty
use Rattle.ir_core.specs.Functions.{edges_into, function_names, is_debug, line_count, names_in, names_of, operands_at_end, operands_in_block, operands_of, params_of, phi_registers, registers_of, set_by, successors_of, typed_of}
use Rattle.ir_core.specs.Order.{AreNew}
use Rattle.ir_core.specs.Depths.{IsShallow}
use Rattle.ir_core.specs.Limits.{line_limit}
use Rattle.ir_core.specs.Ranges.{IsInRange}
use Rattle.ir_core.specs.Sizes.{IsSmall}
use Rattle.ir_core.specs.StatedTypes.{types_in, types_in_global}
use Rattle.ir_core.specs.TypeNames.{names_in_struct, names_in_type, type_names}
use Rattle.ir_core.specs.Types.{converts, is_first_class, is_integer, number_at}
use Rattle.ir_core.specs.Typing.{Signature, are_arguments, element_type, index_of, is_constant_of, is_init_of, signatures_of}
use Rattle.ir_types.specs.Named.{is_sized}

-- ---- shape: names and labels are unique and known, edges and phis agree, and so do types

-- the stated type is the register's own, or one of the constant's
abbrev pub HasType : Module → List (Name × Ty) → Ty → Atom Name → Type 0
HasType m registers t (Constant c) = is_constant_of m t c ≡ true
HasType m registers t (Register name) = Contains registers (name, t)

-- an address of what is stated, which has a size, and the indices lead to the type whose pointer is kept
abbrev pub IsElement : {R : Type 0} → Module → Element R → Type 0
IsElement m e = (e.base.ty ≡ ty.Ptr e.of) × (is_sized m.types e.of ≡ true) × (element_type m.types e.of (map index_of e.indices) ≡ Some e.to)

-- a value behind a pointer to its type
abbrev pub IsLoad : {R : Type 0} → Load R → Type 0
IsLoad l = (l.pointer.ty ≡ ty.Ptr l.of) × (is_first_class l.of ≡ true)

-- An operator over operands of types that it takes, and no operand alone: a binary one takes integers, `icmp` integers or pointers, and
-- `select` an i1 and two arms of one type.
abbrev pub IsOperator : {R : Type 0} → Module → Expr R → Type 0
IsOperator m (expr.Plain o) = ⊥
IsOperator m (expr.Binary b) = is_integer b.ty ≡ true
IsOperator m (expr.Icmp c) = is_first_class c.ty ≡ true
IsOperator m (expr.Cast c) = converts c.op c.operand.ty c.to ≡ true
IsOperator m (expr.Select s) = (s.condition.ty ≡ ty.Int 1) × (s.left.ty ≡ s.right.ty)
IsOperator m (expr.Element e) = IsElement m e
IsOperator m (expr.Load l) = IsLoad l

-- so many of a type that has a size, by an integer, and the register is a pointer to it
abbrev pub HasCount : Option (Ty × ℕ) → Type 0
HasCount None = Unit {0}
HasCount (Some count) = is_integer count.0 ≡ true

abbrev pub IsAlloca : Module → Alloca → Type 0
IsAlloca m a = (a.to ≡ ty.Ptr a.of) × (is_sized m.types a.of ≡ true) × HasCount a.count

abbrev pub IsStore : Store → Type 0
IsStore s = (s.pointer.ty ≡ ty.Ptr s.value.ty) × (is_first_class s.value.ty ≡ true)

-- a result is named, unless it is `void`
abbrev pub IsNamedResult : Ty → Option Name → Type 0
IsNamedResult ty.Void name = name ≡ None
IsNamedResult t name = (is_first_class t ≡ true) × ((x : Name) × (name ≡ Some x))

-- the types of arguments
abbrev pub argument_types : Call → List Ty
argument_types c = map (λ (a : Argument). a.operand.ty) c.arguments

-- A function of the module is called with arguments of its parameters' types, and further ones where it takes them, for its result.
pub record IsCall (m : Module) (c : Call) : Type 0 where
  pub signature : Signature
  pub callee : Contains (signatures_of m) (c.callee, signature)
  pub result : c.result ≡ signature.result
  pub arguments : are_arguments signature.variadic signature.params (argument_types c) ≡ true
  pub named : IsNamedResult c.result c.name

abbrev pub IsLine : Module → Instr → Type 0
IsLine m (instr.Calm c) = IsOperator m c.right
IsLine m (instr.Alloca a) = IsAlloca m a
IsLine m (instr.Store s) = IsStore s
IsLine m (instr.Call c) = IsCall m c

-- what is returned is of the function's result type, and nothing is where that is void
abbrev pub Returns : Ty → Term → Type 0
Returns result (term.Ret operand) = operand.ty ≡ result
Returns result term.RetVoid = result ≡ ty.Void
Returns result (term.Br label) = Unit {0}
Returns result (term.CondBr c) = Unit {0}
Returns result (term.Switch s) = Unit {0}
Returns result term.Unreachable = Unit {0}

-- a condition is an i1, and a switch is over integers
abbrev pub BranchesOn : Term → Type 0
BranchesOn (term.Ret operand) = Unit {0}
BranchesOn term.RetVoid = Unit {0}
BranchesOn (term.Br label) = Unit {0}
BranchesOn (term.CondBr c) = c.condition.ty ≡ ty.Int 1
BranchesOn (term.Switch s) = is_integer s.value.ty ≡ true
BranchesOn term.Unreachable = Unit {0}

-- The cases of a switch are different values of its type: their numbers are different modulo 2 to its width.
pub record AreCasesOf (value : Ty) (cases : List Case) : Type 0 where
  pub typed : AllByRecursion (λ (c : Case). c.ty ≡ value) cases
  pub apart : AreNew [] (map (λ (c : Case). number_at value c.number) cases)

abbrev pub HasCases : Term → Type 0
HasCases (term.Ret operand) = Unit {0}
HasCases term.RetVoid = Unit {0}
HasCases (term.Br label) = Unit {0}
HasCases (term.CondBr c) = Unit {0}
HasCases (term.Switch s) = AreCasesOf s.value.ty s.cases
HasCases term.Unreachable = Unit {0}

-- A phi has an entry, and one for each edge that enters its block; entries of one block are alike.
pub record FitsEdges (f : Function) (b : Block) (p : Phi) : Type 0 where
  pub some : 0 < length p.entries
  pub edges : IsPermutation (edges_into f b.name) (map (λ (e : Entry). e.from) p.entries)
  pub alike : (d e : Entry) → Contains p.entries d → Contains p.entries e → d.from ≡ e.from → d ≡ e

pub record HasBlockShape (m : Module) (f : Function) (b : Block) : Type 0 where
  pub phis : AllByRecursion (FitsEdges f b) b.phis
  pub lines : AllByRecursion (IsLine m) b.body
  pub labels : AllByRecursion (Contains (map (λ (c : Block). c.name) f.blocks)) (successors_of b.term)
  pub branches : BranchesOn b.term
  pub returns : Returns f.result b.term
  pub cases : HasCases b.term

-- each named type that stands in the type is one of the module's
abbrev pub IsTypeKnown : Module → Ty → Type 0
IsTypeKnown m t = AllByRecursion (Contains (type_names m)) (names_in_type t)

-- a type of values, or `void`
abbrev pub IsResult : Ty → Type 0
IsResult ty.Void = Unit {0}
IsResult t = is_first_class t ≡ true

-- A definition has a first block, which nothing enters.
pub record HasFunctionShape (m : Module) (f : Function) : Type 0 where
  pub first : Block
  pub further : List Block
  pub blocks : f.blocks ≡ first ∷ further
  pub not_entered : edges_into f first.name ≡ []
  pub name : is_debug f.name ≡ false
  pub names : AreNew [] (names_of f)
  pub types : AllByRecursion (IsTypeKnown m) (types_in f)
  pub result : IsResult f.result
  pub registers : AllByRecursion (λ register. is_first_class register.1 ≡ true) (typed_of f)
  pub operands : AllByRecursion (λ (o : Operand Name). HasType m (typed_of f) o.ty o.atom) (flat_map operands_in_block f.blocks)
  pub each : AllByRecursion (HasBlockShape m f) f.blocks

pub record HasDeclaredShape (m : Module) (d : Declaration) : Type 0 where
  pub name : is_debug d.name ≡ false
  pub types : AllByRecursion (IsTypeKnown m) (d.result ∷ map (λ (p : DeclaredParam). p.ty) d.params)
  pub result : IsResult d.result
  pub params : AllByRecursion (λ (p : DeclaredParam). is_first_class p.ty ≡ true) d.params

-- what a global holds at the start is of its type; one that another module defines holds nothing
abbrev pub HasInit : Module → Ty → Option Init → Type 0
HasInit m t None = Unit {0}
HasInit m t (Some init) = is_init_of m t init ≡ true

pub record HasGlobalShape (m : Module) (g : GlobalVar) : Type 0 where
  pub types : AllByRecursion (IsTypeKnown m) (types_in_global g)
  pub sized : is_sized m.types g.ty ≡ true
  pub init : HasInit m g.ty g.init

-- Each named type that stands in a type of those names is one of them: it may be the type itself, also without a pointer.
abbrev pub NamesTypes : List Name → NamedTy → Type 0
NamesTypes names t = AllByRecursion (Contains names) (names_in_struct t)

-- the names that stand behind `@`: globals, definitions and declarations
abbrev pub global_names : Module → List Name
global_names m = map (λ (g : GlobalVar). g.name) m.globals ++ (function_names m ++ map (λ (d : Declaration). d.name) m.declarations)

pub record HasShape (m : Module) : Type 0 where
  pub types_apart : AreNew [] (type_names m)
  pub types : AllByRecursion (NamesTypes (type_names m)) m.types
  pub globals : AllByRecursion (HasGlobalShape m) m.globals
  pub functions : AllByRecursion (HasFunctionShape m) m.functions
  pub declarations : AllByRecursion (HasDeclaredShape m) m.declarations
  pub names : AreNew [] (global_names m)

-- ---- definedness: on every path to a use, the register was defined before it

-- these blocks follow one another from the first one on, each by an edge of the one before it
abbrev pub IsPath : Function → Block → List Block → Type 0
IsPath f b [] = Unit {0}
IsPath f b (c ∷ path) = Contains f.blocks c × Contains (successors_of b.term) c.name × IsPath f c path

-- a register is one of those that are defined; a constant needs no definition
abbrev pub UsesDefined : List Name → Atom Name → Type 0
UsesDefined defined (Constant c) = Unit {0}
UsesDefined defined (Register name) = Contains defined name

abbrev pub AllUseDefined : List Name → List (Operand Name) → Type 0
AllUseDefined defined = AllByRecursion (λ (o : Operand Name). UsesDefined defined o.atom)

-- each line uses what is defined before it, and so does the terminator behind them
abbrev pub LinesUseDefined : List Name → List Instr → Term → Type 0
LinesUseDefined defined [] end = AllUseDefined defined (operands_at_end end)
LinesUseDefined defined (line ∷ lines) end =
    AllUseDefined defined (operands_of line) × LinesUseDefined (defined ++ names_in (set_by (line ∷ []))) lines end

abbrev pub BlockUsesDefined : List Name → Block → Type 0
BlockUsesDefined defined b = LinesUseDefined (defined ++ names_in (phi_registers b.phis)) b.body b.term

-- a phi's use stands at the end of the block from which the edge comes
abbrev pub PhisUseDefined : List Name → Name → Block → Type 0
PhisUseDefined defined from b =
    AllByRecursion (λ (p : Phi). AllByRecursion (λ (e : Entry). e.from ≡ from → UsesDefined defined e.value) p.entries) b.phis

-- along a path from b on, with these defined before it
abbrev pub PathUsesDefined : List Name → Block → List Block → Type 0
PathUsesDefined defined b [] = BlockUsesDefined defined b
PathUsesDefined defined b (c ∷ path) =
    BlockUsesDefined defined b × PhisUseDefined (defined ++ names_in (registers_of b)) b.name c
    × PathUsesDefined (defined ++ names_in (registers_of b)) c path

-- A path begins with the first block, where the parameters are defined.
abbrev pub IsFunctionDefined : Function → Type 0
IsFunctionDefined f = (first : Block) (further path : List Block) → f.blocks ≡ first ∷ further → IsPath f first path
    → PathUsesDefined (names_in (params_of f)) first path

abbrev pub IsDefined : Module → Type 0
IsDefined m = AllByRecursion IsFunctionDefined m.functions

-- ---- all together

-- Of modules with a function `f` of i32: two blocks that both return 0 are well-formed, since nothing enters the second one. A block
-- `%x = add i32 %y, 0 %y = add i32 1, 2 ret i32 %x` has shape but uses `%y` early; `ret i32 4294967296` is out of range. A function of more
-- lines than the limit is none of a well-formed module's either, nor is a type that is too deep, or a global that is too large.
pub record IsWellFormed (m : Module) : Type 0 where
  pub shape : HasShape m
  pub defined : IsDefined m
  pub range : IsInRange m
  pub depths : IsShallow m
  pub lines : AllByRecursion (λ f. line_count f ≤ line_limit) m.functions
  pub blocks : IsSmall m
