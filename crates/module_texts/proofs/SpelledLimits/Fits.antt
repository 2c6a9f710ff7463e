-- What it says of each written thing that all that counts in it is within the limit on depths, where so much stands around it.
use Rattle.std.proofs.Common.{◌≤◌, ◌+◌, ℕ, List, [], ◌∷◌, length, map, Option, Some, None}
use Rattle.std.specs.List.{AllByRecursion}
use Rattle.ir_core.specs.Depths.{deepest, depth_of, depth_of_constant, depth_of_init}
use Rattle.ir_types.specs.declared.ty.Ty.{Ty}
use Rattle.module_grammar.specs.declared.commas.NextCountText.{NextCountText}
use Rattle.module_grammar.specs.declared.commas.NextCountText.TheVariants as next_count
use Rattle.module_grammar.specs.declared.commas.NextEntryText.{NextEntryText}
use Rattle.module_grammar.specs.declared.commas.NextEntryText.TheVariants as next_entry
use Rattle.module_grammar.specs.declared.commas.NextIndexText.{NextIndexText}
use Rattle.module_grammar.specs.declared.commas.NextIndexText.TheVariants as next_index
use Rattle.module_grammar.specs.declared.constants.ConstText.{ConstText}
use Rattle.module_grammar.specs.declared.constants.InitText.{InitText}
use Rattle.module_grammar.specs.declared.constants.OperandText.{OperandText}
use Rattle.module_grammar.specs.declared.constants.ValueText.{ValueText}
use Rattle.module_grammar.specs.declared.constants.ValueText.TheVariants as value
use Rattle.module_grammar.specs.declared.flow.BehindText.{BehindText}
use Rattle.module_grammar.specs.declared.flow.BehindText.TheVariants as behind_text
use Rattle.module_grammar.specs.declared.flow.BlockText.{BlockText}
use Rattle.module_grammar.specs.declared.flow.BodyText.{BodyText}
use Rattle.module_grammar.specs.declared.flow.BranchText.{BranchText}
use Rattle.module_grammar.specs.declared.flow.BranchText.TheVariants as branch
use Rattle.module_grammar.specs.declared.flow.CaseText.{CaseText}
use Rattle.module_grammar.specs.declared.flow.EntryText.{EntryText}
use Rattle.module_grammar.specs.declared.flow.NodeText.{NodeText}
use Rattle.module_grammar.specs.declared.flow.PhiText.{PhiText}
use Rattle.module_grammar.specs.declared.flow.TermText.{TermText}
use Rattle.module_grammar.specs.declared.flow.TermText.TheVariants as term
use Rattle.module_grammar.specs.declared.functions.DeclarationText.{DeclarationText}
use Rattle.module_grammar.specs.declared.functions.DeclaredNameText.{DeclaredNameText}
use Rattle.module_grammar.specs.declared.functions.DeclaredNameText.TheVariants as declared
use Rattle.module_grammar.specs.declared.functions.DeclaredText.{DeclaredText}
use Rattle.module_grammar.specs.declared.functions.DefinitionText.{DefinitionText}
use Rattle.module_grammar.specs.declared.functions.HeadText.{HeadText}
use Rattle.module_grammar.specs.declared.functions.NextDeclaredText.{NextDeclaredText}
use Rattle.module_grammar.specs.declared.functions.NextDeclaredText.TheVariants as next_declared
use Rattle.module_grammar.specs.declared.functions.ParamText.{ParamText}
use Rattle.module_grammar.specs.declared.items.GlobalBodyText.{GlobalBodyText}
use Rattle.module_grammar.specs.declared.items.HeldText.{HeldText}
use Rattle.module_grammar.specs.declared.items.HeldText.TheVariants as start
use Rattle.module_grammar.specs.declared.items.ItemText.{ItemText}
use Rattle.module_grammar.specs.declared.items.ItemText.TheVariants as item
use Rattle.module_grammar.specs.declared.items.TypeBodyText.{TypeBodyText}
use Rattle.module_grammar.specs.declared.items.TypeBodyText.TheVariants as body
use Rattle.module_grammar.specs.declared.lines.ArgumentText.{ArgumentText}
use Rattle.module_grammar.specs.declared.lines.CallBodyText.{CallBodyText}
use Rattle.module_grammar.specs.declared.lines.CallBodyText.TheVariants as call
use Rattle.module_grammar.specs.declared.lines.CallEndText.{CallEndText}
use Rattle.module_grammar.specs.declared.lines.CountText.{CountText}
use Rattle.module_grammar.specs.declared.lines.InstructionText.{InstructionText}
use Rattle.module_grammar.specs.declared.lines.InstructionText.TheVariants as instruction
use Rattle.module_grammar.specs.declared.lines.LineText.{LineText}
use Rattle.module_grammar.specs.declared.lines.OperationText.{OperationText}
use Rattle.module_grammar.specs.declared.lines.OperationText.TheVariants as form
use Rattle.module_grammar.specs.declared.lines.VoidCallText.{VoidCallText}
use Rattle.module_grammar.specs.declared.lines.VoidCallText.TheVariants as of_void
use Rattle.module_grammar.specs.declared.types.TypeText.{TypeText}
use Rattle.module_grammar.specs.Sorts.{Sort, Holds, Module, Item, TypeBody, GlobalBody, DeclaredName, DeclaredParams, MoreDeclared, NextDeclared, Result, ResultType, Head, Params, MoreParams, Param, AnyType, BaseType, Stars, Types, MoreTypes, GlobalName, Int, Const, MoreConsts, Init, Inits, MoreInits, Value, Operand, Operation, Attach, CountBehind, NextCount, IndicesBehind, NextIndex, CallBody, Callee, VoidCallee, VoidCall, CallEnd, Arguments, MoreArguments, Argument, Line, Lines, Block, Blocks, Body, Behind, Node, EntriesBehind, NextEntry, Entry, End, Term, Returned, Branch, Cases, Case}
use Rattle.named_modules.specs.Constants.{const_of, init_of}
use Rattle.named_modules.specs.Flow.{entries_in}
use Rattle.named_modules.specs.Functions.{blocks_in}
use Rattle.named_modules.specs.Types.{type_of}

-- so much stands around, and the limit is this
module _ (n l : ℕ) where
  abbrev pub TypeFits : TypeText → Type 0
  TypeFits t = n + depth_of (type_of t) ≤ l

  abbrev pub StarsFit : List ℕ → Type 0
  StarsFit [] = Unit {0}
  StarsFit (at ∷ more) = n + length (at ∷ more) ≤ l

  abbrev pub ConstFits : ConstText → Type 0
  ConstFits c = (t : Ty) → n + depth_of_constant (const_of c t) ≤ l

  abbrev pub PairFits : TypeText × ConstText → Type 0
  PairFits p = TypeFits p.0 × ConstFits p.1

  abbrev pub InitFits : InitText → Type 0
  InitFits i = (t : Ty) → n + depth_of_init (init_of i t) ≤ l

  abbrev pub PartFits : TypeText × InitText → Type 0
  PartFits p = TypeFits p.0 × InitFits p.1

  abbrev pub ValueFits : ValueText → Type 0
  ValueFits (value.Const c) = ConstFits c
  ValueFits v = Unit {0}

  abbrev pub OperandFits : OperandText → Type 0
  OperandFits w = TypeFits w.ty × ValueFits w.value

  -- ---- lines

  abbrev pub OperationFits : OperationText → Type 0
  OperationFits (form.Binary w) = OperandFits w.left × ValueFits w.right
  OperationFits (form.Compare w) = OperandFits w.left × ValueFits w.right
  OperationFits (form.Cast w) = OperandFits w.from × TypeFits w.to
  OperationFits (form.Select w) = OperandFits w.condition × OperandFits w.then × OperandFits w.other

  abbrev pub CountFits : Option CountText → Type 0
  CountFits None = Unit {0}
  CountFits (Some c) = TypeFits c.ty

  abbrev pub ResultFits : Option TypeText → Type 0
  ResultFits None = Unit {0}
  ResultFits (Some t) = TypeFits t

  abbrev pub ArgumentFits : ArgumentText → Type 0
  ArgumentFits a = TypeFits a.ty × ValueFits a.value

  abbrev pub EndFits : CallEndText → Type 0
  EndFits e = AllByRecursion ArgumentFits e.arguments

  abbrev pub VoidFits : VoidCallText → Type 0
  VoidFits (of_void.Call name end) = EndFits end
  VoidFits (of_void.Debug name attributes) = Unit {0}

  abbrev pub CallFits : CallBodyText → Type 0
  CallFits (call.Convention attributes c end) = ResultFits c.result × EndFits end
  CallFits (call.Attributes first others c end) = ResultFits c.result × EndFits end
  CallFits (call.Typed t called name end) = TypeFits t × EndFits end
  CallFits (call.Void v) = VoidFits v.call

  abbrev pub InstructionFits : InstructionText → Type 0
  InstructionFits (instruction.Operation w) = OperationFits w
  InstructionFits (instruction.Element w) = TypeFits w.of × OperandFits w.base × AllByRecursion OperandFits w.indices
  InstructionFits (instruction.Alloca w) = TypeFits w.ty × CountFits w.count
  InstructionFits (instruction.Load w) = TypeFits w.ty × OperandFits w.address
  InstructionFits (instruction.Store w) = OperandFits w.value × OperandFits w.address
  InstructionFits (instruction.Call w) = CallFits w.body

  abbrev pub LineFits : LineText → Type 0
  LineFits w = InstructionFits w.attached.instruction

  -- ---- blocks

  abbrev pub EntryFits : EntryText → Type 0
  EntryFits w = ValueFits w.value

  abbrev pub NodeFits : NodeText → Type 0
  NodeFits w = TypeFits w.ty × AllByRecursion EntryFits (entries_in w)

  abbrev pub PhiFits : PhiText → Type 0
  PhiFits w = NodeFits w.node

  abbrev pub CaseFits : CaseText → Type 0
  CaseFits w = TypeFits w.ty

  abbrev pub ReturnFits : Option OperandText → Type 0
  ReturnFits None = Unit {0}
  ReturnFits (Some w) = OperandFits w

  abbrev pub BranchFits : BranchText → Type 0
  BranchFits (branch.Always label) = Unit {0}
  BranchFits (branch.Condition w) = OperandFits w.condition

  abbrev pub TermFits : TermText → Type 0
  TermFits (term.Ret w) = ReturnFits w
  TermFits (term.Br w) = BranchFits w
  TermFits (term.Switch w) = OperandFits w.value × AllByRecursion CaseFits w.cases
  TermFits term.Unreachable = Unit {0}

  abbrev pub BodyFits : BodyText → Type 0
  BodyFits w = AllByRecursion PhiFits w.phis × AllByRecursion LineFits w.lines

  abbrev pub BehindFits : BehindText → Type 0
  BehindFits (behind_text.Phi node b) = NodeFits node × BodyFits b
  BehindFits (behind_text.Line attached lines) = InstructionFits attached.instruction × AllByRecursion LineFits lines

  abbrev pub BlockFits : BlockText → Type 0
  BlockFits w = BodyFits w.body × TermFits w.end.term

  -- ---- items

  abbrev pub ParamFits : ParamText → Type 0
  ParamFits w = TypeFits w.ty

  abbrev pub HeadFits : HeadText → Type 0
  HeadFits w = ResultFits w.result.ty × AllByRecursion ParamFits w.params

  abbrev pub DefinitionFits : DefinitionText → Type 0
  DefinitionFits w = HeadFits w.head × AllByRecursion BlockFits (blocks_in w)

  abbrev pub DeclaredFits : DeclaredText → Type 0
  DeclaredFits w = AllByRecursion ParamFits w.params

  abbrev pub NextFits : NextDeclaredText → Type 0
  NextFits next_declared.Open = Unit {0}
  NextFits (next_declared.Param p more) = ParamFits p × DeclaredFits more

  abbrev pub NameFits : DeclaredNameText → Type 0
  NameFits (declared.Plain name params end) = DeclaredFits params
  NameFits (declared.Debug name end) = Unit {0}

  abbrev pub DeclarationFits : DeclarationText → Type 0
  DeclarationFits w = ResultFits w.result.ty × NameFits w.declared

  -- the fields stand in a struct
  abbrev pub BodyOfTypeFits : TypeBodyText → Type 0
  BodyOfTypeFits body.Opaque = Unit {0}
  BodyOfTypeFits (body.Struct at fields) = n + (deepest (map depth_of (map type_of fields)) + 1) ≤ l

  abbrev pub HeldFits : HeldText → Type 0
  HeldFits start.External = Unit {0}
  HeldFits (start.Init linkage i) = InitFits i

  abbrev pub GlobalFits : GlobalBodyText → Type 0
  GlobalFits w = TypeFits w.ty × HeldFits w.held

  abbrev pub ItemFits : ItemText → Type 0
  ItemFits (item.Type name b) = BodyOfTypeFits b
  ItemFits (item.Global name b) = GlobalFits b
  ItemFits (item.Declaration d) = DeclarationFits d
  ItemFits (item.Definition d) = DefinitionFits d
  ItemFits i = Unit {0}

  -- ---- what stands behind a comma

  abbrev pub NextCountFits : NextCountText → Type 0
  NextCountFits (next_count.Count c b) = TypeFits c.ty
  NextCountFits (next_count.Other x) = Unit {0}

  abbrev pub NextIndexFits : NextIndexText → Type 0
  NextIndexFits (next_index.Index o more) = OperandFits o × AllByRecursion OperandFits more.indices
  NextIndexFits (next_index.Attachment first others) = Unit {0}

  abbrev pub NextEntryFits : NextEntryText → Type 0
  NextEntryFits (next_entry.Entry e more) = EntryFits e × AllByRecursion EntryFits more.entries
  NextEntryFits (next_entry.Attachment first others) = Unit {0}

  -- ---- by sorts

  abbrev pub Fits : (s : Sort) → Holds s → Type 0
  Fits Module x = AllByRecursion ItemFits x.items
  Fits Item x = ItemFits x
  Fits TypeBody x = BodyOfTypeFits x
  Fits GlobalBody x = GlobalFits x
  Fits DeclaredName x = NameFits x
  Fits DeclaredParams x = DeclaredFits x
  Fits MoreDeclared x = DeclaredFits x
  Fits NextDeclared x = NextFits x
  Fits Result x = ResultFits x.ty
  Fits ResultType x = ResultFits x
  Fits Head x = HeadFits x
  Fits Params x = AllByRecursion ParamFits x
  Fits MoreParams x = AllByRecursion ParamFits x
  Fits Param x = ParamFits x
  Fits AnyType x = TypeFits x
  Fits BaseType x = TypeFits x
  Fits Stars x = StarsFit x
  Fits Types x = AllByRecursion TypeFits x
  Fits MoreTypes x = AllByRecursion TypeFits x
  Fits GlobalName x = n ≤ l
  Fits Int x = n ≤ l
  Fits Const x = ConstFits x
  Fits MoreConsts x = AllByRecursion PairFits x
  Fits Init x = InitFits x
  Fits Inits x = AllByRecursion PartFits x
  Fits MoreInits x = AllByRecursion PartFits x
  Fits Value x = ValueFits x
  Fits Operand x = OperandFits x
  Fits Operation x = OperationFits x
  Fits Attach x = InstructionFits x.instruction
  Fits CountBehind x = CountFits x.count
  Fits NextCount x = NextCountFits x
  Fits IndicesBehind x = AllByRecursion OperandFits x.indices
  Fits NextIndex x = NextIndexFits x
  Fits CallBody x = CallFits x
  Fits Callee x = ResultFits x.result
  Fits VoidCallee x = VoidFits x.call
  Fits VoidCall x = VoidFits x
  Fits CallEnd x = EndFits x
  Fits Arguments x = AllByRecursion ArgumentFits x
  Fits MoreArguments x = AllByRecursion ArgumentFits x
  Fits Argument x = ArgumentFits x
  Fits Line x = LineFits x
  Fits Lines x = AllByRecursion LineFits x
  Fits Block x = BlockFits x
  Fits Blocks x = AllByRecursion BlockFits x
  Fits Body x = BodyFits x
  Fits Behind x = BehindFits x
  Fits Node x = NodeFits x
  Fits EntriesBehind x = AllByRecursion EntryFits x.entries
  Fits NextEntry x = NextEntryFits x
  Fits Entry x = EntryFits x
  Fits End x = TermFits x.term
  Fits Term x = TermFits x
  Fits Returned x = ReturnFits x
  Fits Branch x = BranchFits x
  Fits Cases x = AllByRecursion CaseFits x
  Fits Case x = CaseFits x
  Fits s x = Unit {0}
