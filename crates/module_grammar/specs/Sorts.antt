-- What each nonterminal stands for, how that is written, and what part of the stack it is. A symbol that says more than its kind stands
-- on the stack as a leaf.
use Rattle.std.specs.Prelude.{ℕ, zero, suc, Bool, List, [], ◌∷◌, map, Option}
use Rattle.std.specs.List.{flat_map}
use Rattle.ir_lexer.specs.declared.token.Number.{Number}
use Rattle.ir_types.specs.declared.names.Name.{Name}
use Rattle.module_grammar.specs.Attributes as attributes
use Rattle.module_grammar.specs.Constants as constants
use Rattle.module_grammar.specs.Flow as flows
use Rattle.module_grammar.specs.Functions as functions
use Rattle.module_grammar.specs.Kinds.{kind, Says, symbol_by, kept, unkept, Given, give}
use Rattle.module_grammar.specs.Lines as lines
use Rattle.module_grammar.specs.Listed.{further}
use Rattle.module_grammar.specs.Modules as modules
use Rattle.module_grammar.specs.Parts.{the_item_module, the_item_item, the_item_type_body, the_item_global_body, the_atom_word, the_atom_align, the_item_declared, the_item_params, the_item_next_declared, the_item_result, the_atom_is, the_piece_result, the_item_head, the_item_head_end, the_atom_linkage, the_list_params, the_item_param, the_atom_name, the_list_param_attributes, the_piece_param_attribute, the_list_function_attributes, the_piece_function_attribute, the_atom_attached, the_list_attachments, the_atom_meta, the_atom_bang, the_piece_type, the_list_stars, the_list_types, the_piece_called, the_piece_next_called, the_piece_function_type, the_atom_global, the_atom_int, the_piece_const, the_list_consts, the_piece_init, the_list_inits, the_piece_value, the_piece_operand, the_line_operator, the_list_flags, the_line_operation, the_line_attached, the_line_align_behind, the_line_next_align, the_line_count_behind, the_line_next_count, the_line_indices_behind, the_line_next_index, the_line_call_body, the_line_callee, the_line_void_callee, the_line_void_call, the_line_call_end, the_list_arguments, the_line_argument, the_line_line, the_list_lines, the_line_expr, the_list_operands, the_leaf_local, the_flow_block, the_list_blocks, the_flow_body, the_flow_behind, the_flow_node, the_flow_entries_behind, the_flow_next_entry, the_flow_entry, the_flow_end, the_flow_term, the_flow_returned, the_flow_branch, the_list_cases, the_flow_case}
use Rattle.module_grammar.specs.Symbols as symbol
use Rattle.module_grammar.specs.Symbols.{Symbol, kind_of}
use Rattle.module_grammar.specs.Types as types
use Rattle.module_grammar.specs.declared.attributes.BangText.{BangText}
use Rattle.module_grammar.specs.declared.attributes.FunctionAttributeText.{FunctionAttributeText}
use Rattle.module_grammar.specs.declared.attributes.MetaText.{MetaText}
use Rattle.module_grammar.specs.declared.attributes.ParamAttributeText.{ParamAttributeText}
use Rattle.module_grammar.specs.declared.commas.AlignBehindText.{AlignBehindText}
use Rattle.module_grammar.specs.declared.commas.CountBehindText.{CountBehindText}
use Rattle.module_grammar.specs.declared.commas.EntriesBehindText.{EntriesBehindText}
use Rattle.module_grammar.specs.declared.commas.IndicesBehindText.{IndicesBehindText}
use Rattle.module_grammar.specs.declared.commas.NextAlignText.{NextAlignText}
use Rattle.module_grammar.specs.declared.commas.NextCountText.{NextCountText}
use Rattle.module_grammar.specs.declared.commas.NextEntryText.{NextEntryText}
use Rattle.module_grammar.specs.declared.commas.NextIndexText.{NextIndexText}
use Rattle.module_grammar.specs.declared.constants.ConstText.{ConstText}
use Rattle.module_grammar.specs.declared.constants.GlobalNameText.{GlobalNameText}
use Rattle.module_grammar.specs.declared.constants.InitText.{InitText}
use Rattle.module_grammar.specs.declared.constants.IntText.{IntText}
use Rattle.module_grammar.specs.declared.constants.OperandText.{OperandText}
use Rattle.module_grammar.specs.declared.constants.ValueText.{ValueText}
use Rattle.module_grammar.specs.declared.flow.BehindText.{BehindText}
use Rattle.module_grammar.specs.declared.flow.BlockText.{BlockText}
use Rattle.module_grammar.specs.declared.flow.BodyText.{BodyText}
use Rattle.module_grammar.specs.declared.flow.BranchText.{BranchText}
use Rattle.module_grammar.specs.declared.flow.CaseText.{CaseText}
use Rattle.module_grammar.specs.declared.flow.EndText.{EndText}
use Rattle.module_grammar.specs.declared.flow.EntryText.{EntryText}
use Rattle.module_grammar.specs.declared.flow.NodeText.{NodeText}
use Rattle.module_grammar.specs.declared.flow.TermText.{TermText}
use Rattle.module_grammar.specs.declared.functions.DeclaredNameText.{DeclaredNameText}
use Rattle.module_grammar.specs.declared.functions.DeclaredText.{DeclaredText}
use Rattle.module_grammar.specs.declared.functions.HeadEndText.{HeadEndText}
use Rattle.module_grammar.specs.declared.functions.HeadText.{HeadText}
use Rattle.module_grammar.specs.declared.functions.LinkageText.{LinkageText}
use Rattle.module_grammar.specs.declared.functions.NextDeclaredText.{NextDeclaredText}
use Rattle.module_grammar.specs.declared.functions.ParamText.{ParamText}
use Rattle.module_grammar.specs.declared.functions.ResultText.{ResultText}
use Rattle.module_grammar.specs.declared.items.GlobalBodyText.{GlobalBodyText}
use Rattle.module_grammar.specs.declared.items.ItemText.{ItemText}
use Rattle.module_grammar.specs.declared.items.ModuleText.{ModuleText}
use Rattle.module_grammar.specs.declared.items.TypeBodyText.{TypeBodyText}
use Rattle.module_grammar.specs.declared.lines.ArgumentText.{ArgumentText}
use Rattle.module_grammar.specs.declared.lines.AttachedText.{AttachedText}
use Rattle.module_grammar.specs.declared.lines.CallBodyText.{CallBodyText}
use Rattle.module_grammar.specs.declared.lines.CallEndText.{CallEndText}
use Rattle.module_grammar.specs.declared.lines.CalleeText.{CalleeText}
use Rattle.module_grammar.specs.declared.lines.ExprText.{ExprText}
use Rattle.module_grammar.specs.declared.lines.LineText.{LineText}
use Rattle.module_grammar.specs.declared.lines.OperationText.{OperationText}
use Rattle.module_grammar.specs.declared.lines.OperatorText.{OperatorText}
use Rattle.module_grammar.specs.declared.lines.VoidCallText.{VoidCallText}
use Rattle.module_grammar.specs.declared.lines.VoidCalleeText.{VoidCalleeText}
use Rattle.module_grammar.specs.declared.operators.FlagWord.{FlagWord}
use Rattle.module_grammar.specs.declared.operators.LinkageWord.{LinkageWord}
use Rattle.module_grammar.specs.declared.parts.Atom.TheVariants as atom
use Rattle.module_grammar.specs.declared.parts.Flow.TheVariants as flow
use Rattle.module_grammar.specs.declared.parts.Item.TheVariants as item
use Rattle.module_grammar.specs.declared.parts.Leaf.TheVariants as leaf
use Rattle.module_grammar.specs.declared.parts.Line.TheVariants as line
use Rattle.module_grammar.specs.declared.parts.List.TheVariants as list
use Rattle.module_grammar.specs.declared.parts.Part.TheVariants as part
use Rattle.module_grammar.specs.declared.parts.Part.{Part}
use Rattle.module_grammar.specs.declared.parts.Piece.TheVariants as piece
use Rattle.module_grammar.specs.declared.places.Placed.{Placed}
use Rattle.module_grammar.specs.declared.types.CalledText.{CalledText}
use Rattle.module_grammar.specs.declared.types.NextCalledText.{NextCalledText}
use Rattle.module_grammar.specs.declared.types.TypeText.{TypeText}
use Rattle.predictive.specs.Typed.{Vocabulary}

-- the nonterminals
pub data Sort : Type 0 where
  Module : Sort
  Item : Sort
  TypeBody : Sort
  GlobalBody : Sort
  GlobalLinkage : Sort
  Align : Sort
  DeclaredName : Sort
  DeclaredParams : Sort
  MoreDeclared : Sort
  NextDeclared : Sort
  Result : Sort
  Convention : Sort
  ResultType : Sort
  Head : Sort
  HeadEnd : Sort
  UnnamedAddr : Sort
  Linkage : Sort
  Params : Sort
  MoreParams : Sort
  Param : Sort
  ParamName : Sort
  ParamAttributes : Sort
  ParamAttribute : Sort
  FunctionAttributes : Sort
  FunctionAttribute : Sort
  AttributeValue : Sort
  Attached : Sort
  Attachments : Sort
  Attachment : Sort
  Meta : Sort
  MetaArguments : Sort
  Bang : Sort
  Distinct : Sort
  AnyType : Sort
  BaseType : Sort
  Stars : Sort
  Types : Sort
  MoreTypes : Sort
  Called : Sort
  MoreCalled : Sort
  NextCalled : Sort
  FunctionType : Sort
  GlobalName : Sort
  Int : Sort
  Inbounds : Sort
  Const : Sort
  MoreConsts : Sort
  Init : Sort
  Inits : Sort
  MoreInits : Sort
  Value : Sort
  Operand : Sort
  Operator : Sort
  Flags : Sort
  Exactness : Sort
  Operation : Sort
  Attach : Sort
  AlignBehind : Sort
  NextAlign : Sort
  CountBehind : Sort
  NextCount : Sort
  IndicesBehind : Sort
  NextIndex : Sort
  CallBody : Sort
  Callee : Sort
  VoidCallee : Sort
  VoidCall : Sort
  CallEnd : Sort
  Arguments : Sort
  MoreArguments : Sort
  Argument : Sort
  Line : Sort
  Register : Sort
  Lines : Sort
  Expr : Sort
  Indices : Sort
  LocalName : Sort
  Block : Sort
  BlockLabel : Sort
  Blocks : Sort
  Body : Sort
  Behind : Sort
  Node : Sort
  EntriesBehind : Sort
  NextEntry : Sort
  Entry : Sort
  End : Sort
  Term : Sort
  Returned : Sort
  Branch : Sort
  Cases : Sort
  Case : Sort

abbrev pub sort_at : List Sort → ℕ → Sort
sort_at [] n = Module
sort_at (x ∷ xs) zero = x
sort_at (x ∷ xs) (suc n) = sort_at xs n

-- nonterminals by number, from 0
abbrev pub sort : ℕ → Sort
sort n =
    sort_at
    (Module ∷ Item ∷ TypeBody ∷ GlobalBody ∷ GlobalLinkage ∷ Align ∷ DeclaredName ∷ DeclaredParams ∷ MoreDeclared ∷ NextDeclared ∷ Result ∷ Convention ∷ ResultType ∷ Head ∷ HeadEnd ∷ UnnamedAddr ∷ Linkage ∷ Params ∷ MoreParams ∷ Param ∷ ParamName ∷ ParamAttributes ∷ ParamAttribute ∷ FunctionAttributes ∷ FunctionAttribute ∷ AttributeValue ∷ Attached ∷ Attachments ∷ Attachment ∷ Meta ∷ MetaArguments ∷ Bang ∷ Distinct ∷ AnyType ∷ BaseType ∷ Stars ∷ Types ∷ MoreTypes ∷ Called ∷ MoreCalled ∷ NextCalled ∷ FunctionType ∷ GlobalName ∷ Int ∷ Inbounds ∷ Const ∷ MoreConsts ∷ Init ∷ Inits ∷ MoreInits ∷ Value ∷ Operand ∷ Operator ∷ Flags ∷ Exactness ∷ Operation ∷ Attach ∷ AlignBehind ∷ NextAlign ∷ CountBehind ∷ NextCount ∷ IndicesBehind ∷ NextIndex ∷ CallBody ∷ Callee ∷ VoidCallee ∷ VoidCall ∷ CallEnd ∷ Arguments ∷ MoreArguments ∷ Argument ∷ Line ∷ Register ∷ Lines ∷ Expr ∷ Indices ∷ LocalName ∷ Block ∷ BlockLabel ∷ Blocks ∷ Body ∷ Behind ∷ Node ∷ EntriesBehind ∷ NextEntry ∷ Entry ∷ End ∷ Term ∷ Returned ∷ Branch ∷ Cases ∷ Case ∷ [])
    n

-- what a nonterminal stands for
abbrev pub Holds : Sort → Type 0
Holds Module = ModuleText
Holds Item = ItemText
Holds TypeBody = TypeBodyText
Holds GlobalBody = GlobalBodyText
Holds GlobalLinkage = Option LinkageWord
Holds Align = Option (Placed Number)
Holds DeclaredName = DeclaredNameText
Holds DeclaredParams = DeclaredText
Holds MoreDeclared = DeclaredText
Holds NextDeclared = NextDeclaredText
Holds Result = ResultText
Holds Convention = Bool
Holds ResultType = Option TypeText
Holds Head = HeadText
Holds HeadEnd = HeadEndText
Holds UnnamedAddr = Bool
Holds Linkage = LinkageText
Holds Params = List ParamText
Holds MoreParams = List ParamText
Holds Param = ParamText
Holds ParamName = Option (Placed Name)
Holds ParamAttributes = List ParamAttributeText
Holds ParamAttribute = ParamAttributeText
Holds FunctionAttributes = List FunctionAttributeText
Holds FunctionAttribute = FunctionAttributeText
Holds AttributeValue = Bool
Holds Attached = Option MetaText
Holds Attachments = List MetaText
Holds Attachment = MetaText
Holds Meta = MetaText
Holds MetaArguments = Bool
Holds Bang = BangText
Holds Distinct = Bool
Holds AnyType = TypeText
Holds BaseType = TypeText
Holds Stars = List ℕ
Holds Types = List TypeText
Holds MoreTypes = List TypeText
Holds Called = CalledText
Holds MoreCalled = CalledText
Holds NextCalled = NextCalledText
Holds FunctionType = Option CalledText
Holds GlobalName = GlobalNameText
Holds Int = IntText
Holds Inbounds = Bool
Holds Const = ConstText
Holds MoreConsts = List (TypeText × ConstText)
Holds Init = InitText
Holds Inits = List (TypeText × InitText)
Holds MoreInits = List (TypeText × InitText)
Holds Value = ValueText
Holds Operand = OperandText
Holds Operator = OperatorText
Holds Flags = List FlagWord
Holds Exactness = Bool
Holds Operation = OperationText
Holds Attach = AttachedText
Holds AlignBehind = AlignBehindText
Holds NextAlign = NextAlignText
Holds CountBehind = CountBehindText
Holds NextCount = NextCountText
Holds IndicesBehind = IndicesBehindText
Holds NextIndex = NextIndexText
Holds CallBody = CallBodyText
Holds Callee = CalleeText
Holds VoidCallee = VoidCalleeText
Holds VoidCall = VoidCallText
Holds CallEnd = CallEndText
Holds Arguments = List ArgumentText
Holds MoreArguments = List ArgumentText
Holds Argument = ArgumentText
Holds Line = LineText
Holds Register = Option (Placed Name)
Holds Lines = List LineText
Holds Expr = ExprText
Holds Indices = List OperandText
Holds LocalName = Placed Name
Holds Block = BlockText
Holds BlockLabel = Option (Placed Name)
Holds Blocks = List BlockText
Holds Body = BodyText
Holds Behind = BehindText
Holds Node = NodeText
Holds EntriesBehind = EntriesBehindText
Holds NextEntry = NextEntryText
Holds Entry = EntryText
Holds End = EndText
Holds Term = TermText
Holds Returned = Option OperandText
Holds Branch = BranchText
Holds Cases = List CaseText
Holds Case = CaseText

-- how that is written
abbrev pub written : (s : Sort) → Holds s → List Symbol
written Module x = modules.written x
written Item x = modules.item x
written TypeBody x = modules.type_body x
written GlobalBody x = modules.global_body x
written GlobalLinkage x = modules.global_linkage x
written Align x = lines.align x
written DeclaredName x = functions.declared x
written DeclaredParams x = functions.declared_params x
written MoreDeclared x = functions.more_declared x
written NextDeclared x = functions.next_declared x
written Result x = functions.result x
written Convention x = attributes.convention x
written ResultType x = types.result x
written Head x = functions.head x
written HeadEnd x = functions.head_end x
written UnnamedAddr x = attributes.unnamed_addr x
written Linkage x = functions.linkage x
written Params x = functions.params x
written MoreParams x = further (map functions.param x)
written Param x = functions.param x
written ParamName x = functions.local x
written ParamAttributes x = flat_map attributes.param_attribute x
written ParamAttribute x = attributes.param_attribute x
written FunctionAttributes x = flat_map attributes.function_attribute x
written FunctionAttribute x = attributes.function_attribute x
written AttributeValue x = attributes.text_value x
written Attached x = attributes.attached x
written Attachments x = attributes.attachments x
written Attachment x = attributes.attachment x
written Meta x = attributes.meta x
written MetaArguments x = attributes.meta_arguments x
written Bang x = attributes.bang x
written Distinct x = attributes.distinct x
written AnyType x = types.ty x
written BaseType x = types.ty x
written Stars x = map symbol.Star x
written Types x = types.types x
written MoreTypes x = further (map types.ty x)
written Called x = types.called x
written MoreCalled x = types.more_called x
written NextCalled x = types.next_called x
written FunctionType x = types.function_type x
written GlobalName x = constants.global_name x ∷ []
written Int x = constants.int x ∷ []
written Inbounds x = constants.inbounds x
written Const x = constants.const x
written MoreConsts x = further (map constants.typed_const x)
written Init x = constants.init x
written Inits x = constants.inits x
written MoreInits x = further (map constants.typed_init x)
written Value x = constants.value x
written Operand x = constants.operand x
written Operator x = lines.operator x
written Flags x = map symbol.Flag x
written Exactness x = lines.exactness x
written Operation x = lines.operation x
written Attach x = lines.attached x
written AlignBehind x = lines.align_behind x
written NextAlign x = lines.next_align x
written CountBehind x = lines.count_behind x
written NextCount x = lines.next_count x
written IndicesBehind x = lines.indices_behind x
written NextIndex x = lines.next_index x
written CallBody x = lines.call_body x
written Callee x = lines.callee x
written VoidCallee x = lines.void_callee x
written VoidCall x = lines.void_call x
written CallEnd x = lines.call_end x
written Arguments x = lines.arguments x
written MoreArguments x = further (map lines.argument x)
written Argument x = lines.argument x
written Line x = lines.line x
written Register x = lines.register x
written Lines x = flat_map lines.line x
written Expr x = lines.expression x
written Indices x = further (map constants.operand x)
written LocalName x = symbol.Local x ∷ []
written Block x = flows.block x
written BlockLabel x = flows.label x
written Blocks x = flat_map flows.block x
written Body x = flows.body x
written Behind x = flows.behind x
written Node x = flows.node x
written EntriesBehind x = flows.entries_behind x
written NextEntry x = flows.next_entry x
written Entry x = flows.entry x
written End x = flows.end x
written Term x = flows.term x
written Returned x = flows.returned x
written Branch x = flows.branch x
written Cases x = flat_map flows.case x
written Case x = flows.case x

abbrev pub part_of : (s : Sort) → Holds s → Part
part_of Module x = part.Item (item.Module x)
part_of Item x = part.Item (item.Item x)
part_of TypeBody x = part.Item (item.TypeBody x)
part_of GlobalBody x = part.Item (item.GlobalBody x)
part_of GlobalLinkage x = part.Atom (atom.Word x)
part_of Align x = part.Atom (atom.Align x)
part_of DeclaredName x = part.Item (item.Declared x)
part_of DeclaredParams x = part.Item (item.Params x)
part_of MoreDeclared x = part.Item (item.Params x)
part_of NextDeclared x = part.Item (item.NextDeclared x)
part_of Result x = part.Item (item.Result x)
part_of Convention x = part.Atom (atom.Is x)
part_of ResultType x = part.Piece (piece.Result x)
part_of Head x = part.Item (item.Head x)
part_of HeadEnd x = part.Item (item.HeadEnd x)
part_of UnnamedAddr x = part.Atom (atom.Is x)
part_of Linkage x = part.Atom (atom.Linkage x)
part_of Params x = part.List (list.Params x)
part_of MoreParams x = part.List (list.Params x)
part_of Param x = part.Item (item.Param x)
part_of ParamName x = part.Atom (atom.Name x)
part_of ParamAttributes x = part.List (list.ParamAttributes x)
part_of ParamAttribute x = part.Piece (piece.ParamAttribute x)
part_of FunctionAttributes x = part.List (list.FunctionAttributes x)
part_of FunctionAttribute x = part.Piece (piece.FunctionAttribute x)
part_of AttributeValue x = part.Atom (atom.Is x)
part_of Attached x = part.Atom (atom.Attached x)
part_of Attachments x = part.List (list.Attachments x)
part_of Attachment x = part.Atom (atom.Meta x)
part_of Meta x = part.Atom (atom.Meta x)
part_of MetaArguments x = part.Atom (atom.Is x)
part_of Bang x = part.Atom (atom.Bang x)
part_of Distinct x = part.Atom (atom.Is x)
part_of AnyType x = part.Piece (piece.Type x)
part_of BaseType x = part.Piece (piece.Type x)
part_of Stars x = part.List (list.Stars x)
part_of Types x = part.List (list.Types x)
part_of MoreTypes x = part.List (list.Types x)
part_of Called x = part.Piece (piece.Called x)
part_of MoreCalled x = part.Piece (piece.Called x)
part_of NextCalled x = part.Piece (piece.NextCalled x)
part_of FunctionType x = part.Piece (piece.FunctionType x)
part_of GlobalName x = part.Atom (atom.Global x)
part_of Int x = part.Atom (atom.Int x)
part_of Inbounds x = part.Atom (atom.Is x)
part_of Const x = part.Piece (piece.Const x)
part_of MoreConsts x = part.List (list.Consts x)
part_of Init x = part.Piece (piece.Init x)
part_of Inits x = part.List (list.Inits x)
part_of MoreInits x = part.List (list.Inits x)
part_of Value x = part.Piece (piece.Value x)
part_of Operand x = part.Piece (piece.Operand x)
part_of Operator x = part.Line (line.Operator x)
part_of Flags x = part.List (list.Flags x)
part_of Exactness x = part.Atom (atom.Is x)
part_of Operation x = part.Line (line.Operation x)
part_of Attach x = part.Line (line.Attached x)
part_of AlignBehind x = part.Line (line.AlignBehind x)
part_of NextAlign x = part.Line (line.NextAlign x)
part_of CountBehind x = part.Line (line.CountBehind x)
part_of NextCount x = part.Line (line.NextCount x)
part_of IndicesBehind x = part.Line (line.IndicesBehind x)
part_of NextIndex x = part.Line (line.NextIndex x)
part_of CallBody x = part.Line (line.CallBody x)
part_of Callee x = part.Line (line.Callee x)
part_of VoidCallee x = part.Line (line.VoidCallee x)
part_of VoidCall x = part.Line (line.VoidCall x)
part_of CallEnd x = part.Line (line.CallEnd x)
part_of Arguments x = part.List (list.Arguments x)
part_of MoreArguments x = part.List (list.Arguments x)
part_of Argument x = part.Line (line.Argument x)
part_of Line x = part.Line (line.Line x)
part_of Register x = part.Atom (atom.Name x)
part_of Lines x = part.List (list.Lines x)
part_of Expr x = part.Line (line.Expr x)
part_of Indices x = part.List (list.Operands x)
part_of LocalName x = part.Leaf (leaf.Local x)
part_of Block x = part.Flow (flow.Block x)
part_of BlockLabel x = part.Atom (atom.Name x)
part_of Blocks x = part.List (list.Blocks x)
part_of Body x = part.Flow (flow.Body x)
part_of Behind x = part.Flow (flow.Behind x)
part_of Node x = part.Flow (flow.Node x)
part_of EntriesBehind x = part.Flow (flow.EntriesBehind x)
part_of NextEntry x = part.Flow (flow.NextEntry x)
part_of Entry x = part.Flow (flow.Entry x)
part_of End x = part.Flow (flow.End x)
part_of Term x = part.Flow (flow.Term x)
part_of Returned x = part.Flow (flow.Returned x)
part_of Branch x = part.Flow (flow.Branch x)
part_of Cases x = part.List (list.Cases x)
part_of Case x = part.Flow (flow.Case x)

abbrev pub value_of : (s : Sort) → Part → Option (Holds s)
value_of Module p = the_item_module p
value_of Item p = the_item_item p
value_of TypeBody p = the_item_type_body p
value_of GlobalBody p = the_item_global_body p
value_of GlobalLinkage p = the_atom_word p
value_of Align p = the_atom_align p
value_of DeclaredName p = the_item_declared p
value_of DeclaredParams p = the_item_params p
value_of MoreDeclared p = the_item_params p
value_of NextDeclared p = the_item_next_declared p
value_of Result p = the_item_result p
value_of Convention p = the_atom_is p
value_of ResultType p = the_piece_result p
value_of Head p = the_item_head p
value_of HeadEnd p = the_item_head_end p
value_of UnnamedAddr p = the_atom_is p
value_of Linkage p = the_atom_linkage p
value_of Params p = the_list_params p
value_of MoreParams p = the_list_params p
value_of Param p = the_item_param p
value_of ParamName p = the_atom_name p
value_of ParamAttributes p = the_list_param_attributes p
value_of ParamAttribute p = the_piece_param_attribute p
value_of FunctionAttributes p = the_list_function_attributes p
value_of FunctionAttribute p = the_piece_function_attribute p
value_of AttributeValue p = the_atom_is p
value_of Attached p = the_atom_attached p
value_of Attachments p = the_list_attachments p
value_of Attachment p = the_atom_meta p
value_of Meta p = the_atom_meta p
value_of MetaArguments p = the_atom_is p
value_of Bang p = the_atom_bang p
value_of Distinct p = the_atom_is p
value_of AnyType p = the_piece_type p
value_of BaseType p = the_piece_type p
value_of Stars p = the_list_stars p
value_of Types p = the_list_types p
value_of MoreTypes p = the_list_types p
value_of Called p = the_piece_called p
value_of MoreCalled p = the_piece_called p
value_of NextCalled p = the_piece_next_called p
value_of FunctionType p = the_piece_function_type p
value_of GlobalName p = the_atom_global p
value_of Int p = the_atom_int p
value_of Inbounds p = the_atom_is p
value_of Const p = the_piece_const p
value_of MoreConsts p = the_list_consts p
value_of Init p = the_piece_init p
value_of Inits p = the_list_inits p
value_of MoreInits p = the_list_inits p
value_of Value p = the_piece_value p
value_of Operand p = the_piece_operand p
value_of Operator p = the_line_operator p
value_of Flags p = the_list_flags p
value_of Exactness p = the_atom_is p
value_of Operation p = the_line_operation p
value_of Attach p = the_line_attached p
value_of AlignBehind p = the_line_align_behind p
value_of NextAlign p = the_line_next_align p
value_of CountBehind p = the_line_count_behind p
value_of NextCount p = the_line_next_count p
value_of IndicesBehind p = the_line_indices_behind p
value_of NextIndex p = the_line_next_index p
value_of CallBody p = the_line_call_body p
value_of Callee p = the_line_callee p
value_of VoidCallee p = the_line_void_callee p
value_of VoidCall p = the_line_void_call p
value_of CallEnd p = the_line_call_end p
value_of Arguments p = the_list_arguments p
value_of MoreArguments p = the_list_arguments p
value_of Argument p = the_line_argument p
value_of Line p = the_line_line p
value_of Register p = the_atom_name p
value_of Lines p = the_list_lines p
value_of Expr p = the_line_expr p
value_of Indices p = the_list_operands p
value_of LocalName p = the_leaf_local p
value_of Block p = the_flow_block p
value_of BlockLabel p = the_atom_name p
value_of Blocks p = the_list_blocks p
value_of Body p = the_flow_body p
value_of Behind p = the_flow_behind p
value_of Node p = the_flow_node p
value_of EntriesBehind p = the_flow_entries_behind p
value_of NextEntry p = the_flow_next_entry p
value_of Entry p = the_flow_entry p
value_of End p = the_flow_end p
value_of Term p = the_flow_term p
value_of Returned p = the_flow_returned p
value_of Branch p = the_flow_branch p
value_of Cases p = the_list_cases p
value_of Case p = the_flow_case p

abbrev pub vocabulary : Vocabulary
vocabulary = record {
  Token = Symbol;
  kind_of = kind_of;
  Content = λ k. Says (kind k);
  token = λ k c. symbol_by (kind k) k c;
  Given = λ k R. Given (kind k) R;
  give = λ k R f c. give (kind k) R f c;
  Value = λ n. Holds (sort n);
  Part = Part;
  kept = kept;
  unkept = λ k s then. unkept (kind k) s then;
  part = λ n v. part_of (sort n) v;
  value = λ n p. value_of (sort n) p;
}
