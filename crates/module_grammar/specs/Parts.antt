-- What a part of the stack is, if it is one of this form: of one of seven groups, and in that of one form.
use Rattle.std.specs.Prelude.{ℕ, Bool, List, Option, Some, None, option_and_then}
use Rattle.ir_core.specs.declared.operands.Pred.{Pred as Predicate}
use Rattle.ir_lexer.specs.declared.token.Number.{Number}
use Rattle.ir_types.specs.declared.names.Name.{Name}
use Rattle.module_grammar.specs.declared.attributes.BangText.{BangText}
use Rattle.module_grammar.specs.declared.attributes.FunctionAttributeText.{FunctionAttributeText}
use Rattle.module_grammar.specs.declared.attributes.MetaText.{MetaText}
use Rattle.module_grammar.specs.declared.attributes.ParamAttributeText.{ParamAttributeText}
use Rattle.module_grammar.specs.declared.commas.AlignBehindText.{AlignBehindText}
use Rattle.module_grammar.specs.declared.commas.CountBehindText.{CountBehindText}
use Rattle.module_grammar.specs.declared.commas.EntriesBehindText.{EntriesBehindText}
use Rattle.module_grammar.specs.declared.commas.IndicesBehindText.{IndicesBehindText}
use Rattle.module_grammar.specs.declared.commas.NextAlignText.{NextAlignText}
use Rattle.module_grammar.specs.declared.commas.NextCountText.{NextCountText}
use Rattle.module_grammar.specs.declared.commas.NextEntryText.{NextEntryText}
use Rattle.module_grammar.specs.declared.commas.NextIndexText.{NextIndexText}
use Rattle.module_grammar.specs.declared.constants.ConstText.{ConstText}
use Rattle.module_grammar.specs.declared.constants.GlobalNameText.{GlobalNameText}
use Rattle.module_grammar.specs.declared.constants.InitText.{InitText}
use Rattle.module_grammar.specs.declared.constants.IntText.{IntText}
use Rattle.module_grammar.specs.declared.constants.OperandText.{OperandText}
use Rattle.module_grammar.specs.declared.constants.ValueText.{ValueText}
use Rattle.module_grammar.specs.declared.flow.BehindText.{BehindText}
use Rattle.module_grammar.specs.declared.flow.BlockText.{BlockText}
use Rattle.module_grammar.specs.declared.flow.BodyText.{BodyText}
use Rattle.module_grammar.specs.declared.flow.BranchText.{BranchText}
use Rattle.module_grammar.specs.declared.flow.CaseText.{CaseText}
use Rattle.module_grammar.specs.declared.flow.EndText.{EndText}
use Rattle.module_grammar.specs.declared.flow.EntryText.{EntryText}
use Rattle.module_grammar.specs.declared.flow.NodeText.{NodeText}
use Rattle.module_grammar.specs.declared.flow.TermText.{TermText}
use Rattle.module_grammar.specs.declared.functions.DeclaredNameText.{DeclaredNameText}
use Rattle.module_grammar.specs.declared.functions.DeclaredText.{DeclaredText}
use Rattle.module_grammar.specs.declared.functions.HeadEndText.{HeadEndText}
use Rattle.module_grammar.specs.declared.functions.HeadText.{HeadText}
use Rattle.module_grammar.specs.declared.functions.LinkageText.{LinkageText}
use Rattle.module_grammar.specs.declared.functions.NextDeclaredText.{NextDeclaredText}
use Rattle.module_grammar.specs.declared.functions.ParamText.{ParamText}
use Rattle.module_grammar.specs.declared.functions.ResultText.{ResultText}
use Rattle.module_grammar.specs.declared.items.GlobalBodyText.{GlobalBodyText}
use Rattle.module_grammar.specs.declared.items.HoldingWord.{HoldingWord}
use Rattle.module_grammar.specs.declared.items.ItemText.{ItemText}
use Rattle.module_grammar.specs.declared.items.ModuleText.{ModuleText}
use Rattle.module_grammar.specs.declared.items.TypeBodyText.{TypeBodyText}
use Rattle.module_grammar.specs.declared.lines.ArgumentText.{ArgumentText}
use Rattle.module_grammar.specs.declared.lines.AttachedText.{AttachedText}
use Rattle.module_grammar.specs.declared.lines.CallBodyText.{CallBodyText}
use Rattle.module_grammar.specs.declared.lines.CallEndText.{CallEndText}
use Rattle.module_grammar.specs.declared.lines.CalleeText.{CalleeText}
use Rattle.module_grammar.specs.declared.lines.ExprText.{ExprText}
use Rattle.module_grammar.specs.declared.lines.LineText.{LineText}
use Rattle.module_grammar.specs.declared.lines.OperationText.{OperationText}
use Rattle.module_grammar.specs.declared.lines.OperatorText.{OperatorText}
use Rattle.module_grammar.specs.declared.lines.VoidCallText.{VoidCallText}
use Rattle.module_grammar.specs.declared.lines.VoidCalleeText.{VoidCalleeText}
use Rattle.module_grammar.specs.declared.operators.ExactOp.{ExactOp}
use Rattle.module_grammar.specs.declared.operators.ExtensionWord.{ExtensionWord}
use Rattle.module_grammar.specs.declared.operators.FlagWord.{FlagWord}
use Rattle.module_grammar.specs.declared.operators.LinkageWord.{LinkageWord}
use Rattle.module_grammar.specs.declared.operators.OverflowOp.{OverflowOp}
use Rattle.module_grammar.specs.declared.operators.PlainOp.{PlainOp}
use Rattle.module_grammar.specs.declared.operators.ResizeOp.{ResizeOp}
use Rattle.module_grammar.specs.declared.parts.Atom.TheVariants as atom
use Rattle.module_grammar.specs.declared.parts.Atom.{Atom}
use Rattle.module_grammar.specs.declared.parts.Flow.TheVariants as flow
use Rattle.module_grammar.specs.declared.parts.Flow.{Flow}
use Rattle.module_grammar.specs.declared.parts.Item.TheVariants as item
use Rattle.module_grammar.specs.declared.parts.Item.{Item}
use Rattle.module_grammar.specs.declared.parts.Leaf.TheVariants as leaf
use Rattle.module_grammar.specs.declared.parts.Leaf.{Leaf}
use Rattle.module_grammar.specs.declared.parts.Line.TheVariants as line
use Rattle.module_grammar.specs.declared.parts.Line.{Line}
use Rattle.module_grammar.specs.declared.parts.List.TheVariants as list
use Rattle.module_grammar.specs.declared.parts.List.{List as PartList}
use Rattle.module_grammar.specs.declared.parts.Part.TheVariants as part
use Rattle.module_grammar.specs.declared.parts.Part.{Part}
use Rattle.module_grammar.specs.declared.parts.Piece.TheVariants as piece
use Rattle.module_grammar.specs.declared.parts.Piece.{Piece}
use Rattle.module_grammar.specs.declared.places.Placed.{Placed}
use Rattle.module_grammar.specs.declared.types.CalledText.{CalledText}
use Rattle.module_grammar.specs.declared.types.NextCalledText.{NextCalledText}
use Rattle.module_grammar.specs.declared.types.TypeText.{TypeText}

-- ---- the groups

abbrev pub a_leaf : Part → Option Leaf
a_leaf (part.Leaf x) = Some x
a_leaf _ = None

abbrev pub a_atom : Part → Option Atom
a_atom (part.Atom x) = Some x
a_atom _ = None

abbrev pub a_list : Part → Option PartList
a_list (part.List x) = Some x
a_list _ = None

abbrev pub a_piece : Part → Option Piece
a_piece (part.Piece x) = Some x
a_piece _ = None

abbrev pub a_line : Part → Option Line
a_line (part.Line x) = Some x
a_line _ = None

abbrev pub a_flow : Part → Option Flow
a_flow (part.Flow x) = Some x
a_flow _ = None

abbrev pub a_item : Part → Option Item
a_item (part.Item x) = Some x
a_item _ = None

-- ---- the forms of each group

abbrev pub leaf_local : Leaf → Option (Placed Name)
leaf_local (leaf.Local x) = Some x
leaf_local _ = None

abbrev pub the_leaf_local : Part → Option (Placed Name)
the_leaf_local p = option_and_then leaf_local (a_leaf p)

abbrev pub leaf_global : Leaf → Option (Placed Name)
leaf_global (leaf.Global x) = Some x
leaf_global _ = None

abbrev pub the_leaf_global : Part → Option (Placed Name)
the_leaf_global p = option_and_then leaf_global (a_leaf p)

abbrev pub leaf_label : Leaf → Option (Placed Name)
leaf_label (leaf.Label x) = Some x
leaf_label _ = None

abbrev pub the_leaf_label : Part → Option (Placed Name)
the_leaf_label p = option_and_then leaf_label (a_leaf p)

abbrev pub leaf_number : Leaf → Option (Placed Number)
leaf_number (leaf.Number x) = Some x
leaf_number _ = None

abbrev pub the_leaf_number : Part → Option (Placed Number)
the_leaf_number p = option_and_then leaf_number (a_leaf p)

abbrev pub leaf_width : Leaf → Option (Placed ℕ)
leaf_width (leaf.Width x) = Some x
leaf_width _ = None

abbrev pub the_leaf_width : Part → Option (Placed ℕ)
the_leaf_width p = option_and_then leaf_width (a_leaf p)

abbrev pub leaf_truth : Leaf → Option (Placed Bool)
leaf_truth (leaf.Truth x) = Some x
leaf_truth _ = None

abbrev pub the_leaf_truth : Part → Option (Placed Bool)
the_leaf_truth p = option_and_then leaf_truth (a_leaf p)

abbrev pub leaf_bytes : Leaf → Option (Placed (List ℕ))
leaf_bytes (leaf.Bytes x) = Some x
leaf_bytes _ = None

abbrev pub the_leaf_bytes : Part → Option (Placed (List ℕ))
the_leaf_bytes p = option_and_then leaf_bytes (a_leaf p)

abbrev pub leaf_overflow : Leaf → Option OverflowOp
leaf_overflow (leaf.Overflow x) = Some x
leaf_overflow _ = None

abbrev pub the_leaf_overflow : Part → Option OverflowOp
the_leaf_overflow p = option_and_then leaf_overflow (a_leaf p)

abbrev pub leaf_exact : Leaf → Option ExactOp
leaf_exact (leaf.Exact x) = Some x
leaf_exact _ = None

abbrev pub the_leaf_exact : Part → Option ExactOp
the_leaf_exact p = option_and_then leaf_exact (a_leaf p)

abbrev pub leaf_plain : Leaf → Option PlainOp
leaf_plain (leaf.Plain x) = Some x
leaf_plain _ = None

abbrev pub the_leaf_plain : Part → Option PlainOp
the_leaf_plain p = option_and_then leaf_plain (a_leaf p)

abbrev pub leaf_resize : Leaf → Option ResizeOp
leaf_resize (leaf.Resize x) = Some x
leaf_resize _ = None

abbrev pub the_leaf_resize : Part → Option ResizeOp
the_leaf_resize p = option_and_then leaf_resize (a_leaf p)

abbrev pub leaf_pred : Leaf → Option Predicate
leaf_pred (leaf.Pred x) = Some x
leaf_pred _ = None

abbrev pub the_leaf_pred : Part → Option Predicate
the_leaf_pred p = option_and_then leaf_pred (a_leaf p)

abbrev pub leaf_flag : Leaf → Option FlagWord
leaf_flag (leaf.Flag x) = Some x
leaf_flag _ = None

abbrev pub the_leaf_flag : Part → Option FlagWord
the_leaf_flag p = option_and_then leaf_flag (a_leaf p)

abbrev pub leaf_linkage : Leaf → Option LinkageWord
leaf_linkage (leaf.Linkage x) = Some x
leaf_linkage _ = None

abbrev pub the_leaf_linkage : Part → Option LinkageWord
the_leaf_linkage p = option_and_then leaf_linkage (a_leaf p)

abbrev pub leaf_extension : Leaf → Option ExtensionWord
leaf_extension (leaf.Extension x) = Some x
leaf_extension _ = None

abbrev pub the_leaf_extension : Part → Option ExtensionWord
the_leaf_extension p = option_and_then leaf_extension (a_leaf p)

abbrev pub leaf_holding : Leaf → Option HoldingWord
leaf_holding (leaf.Holding x) = Some x
leaf_holding _ = None

abbrev pub the_leaf_holding : Part → Option HoldingWord
the_leaf_holding p = option_and_then leaf_holding (a_leaf p)

abbrev pub leaf_at : Leaf → Option ℕ
leaf_at (leaf.At x) = Some x
leaf_at _ = None

abbrev pub the_leaf_at : Part → Option ℕ
the_leaf_at p = option_and_then leaf_at (a_leaf p)

abbrev pub atom_name : Atom → Option (Option (Placed Name))
atom_name (atom.Name x) = Some x
atom_name _ = None

abbrev pub the_atom_name : Part → Option (Option (Placed Name))
the_atom_name p = option_and_then atom_name (a_atom p)

abbrev pub atom_is : Atom → Option Bool
atom_is (atom.Is x) = Some x
atom_is _ = None

abbrev pub the_atom_is : Part → Option Bool
the_atom_is p = option_and_then atom_is (a_atom p)

abbrev pub atom_align : Atom → Option (Option (Placed Number))
atom_align (atom.Align x) = Some x
atom_align _ = None

abbrev pub the_atom_align : Part → Option (Option (Placed Number))
the_atom_align p = option_and_then atom_align (a_atom p)

abbrev pub atom_linkage : Atom → Option LinkageText
atom_linkage (atom.Linkage x) = Some x
atom_linkage _ = None

abbrev pub the_atom_linkage : Part → Option LinkageText
the_atom_linkage p = option_and_then atom_linkage (a_atom p)

abbrev pub atom_word : Atom → Option (Option LinkageWord)
atom_word (atom.Word x) = Some x
atom_word _ = None

abbrev pub the_atom_word : Part → Option (Option LinkageWord)
the_atom_word p = option_and_then atom_word (a_atom p)

abbrev pub atom_meta : Atom → Option MetaText
atom_meta (atom.Meta x) = Some x
atom_meta _ = None

abbrev pub the_atom_meta : Part → Option MetaText
the_atom_meta p = option_and_then atom_meta (a_atom p)

abbrev pub atom_bang : Atom → Option BangText
atom_bang (atom.Bang x) = Some x
atom_bang _ = None

abbrev pub the_atom_bang : Part → Option BangText
the_atom_bang p = option_and_then atom_bang (a_atom p)

abbrev pub atom_attached : Atom → Option (Option MetaText)
atom_attached (atom.Attached x) = Some x
atom_attached _ = None

abbrev pub the_atom_attached : Part → Option (Option MetaText)
the_atom_attached p = option_and_then atom_attached (a_atom p)

abbrev pub atom_int : Atom → Option IntText
atom_int (atom.Int x) = Some x
atom_int _ = None

abbrev pub the_atom_int : Part → Option IntText
the_atom_int p = option_and_then atom_int (a_atom p)

abbrev pub atom_global : Atom → Option GlobalNameText
atom_global (atom.Global x) = Some x
atom_global _ = None

abbrev pub the_atom_global : Part → Option GlobalNameText
the_atom_global p = option_and_then atom_global (a_atom p)

abbrev pub list_stars : PartList → Option (List ℕ)
list_stars (list.Stars x) = Some x
list_stars _ = None

abbrev pub the_list_stars : Part → Option (List ℕ)
the_list_stars p = option_and_then list_stars (a_list p)

abbrev pub list_types : PartList → Option (List TypeText)
list_types (list.Types x) = Some x
list_types _ = None

abbrev pub the_list_types : Part → Option (List TypeText)
the_list_types p = option_and_then list_types (a_list p)

abbrev pub list_consts : PartList → Option (List (TypeText × ConstText))
list_consts (list.Consts x) = Some x
list_consts _ = None

abbrev pub the_list_consts : Part → Option (List (TypeText × ConstText))
the_list_consts p = option_and_then list_consts (a_list p)

abbrev pub list_inits : PartList → Option (List (TypeText × InitText))
list_inits (list.Inits x) = Some x
list_inits _ = None

abbrev pub the_list_inits : Part → Option (List (TypeText × InitText))
the_list_inits p = option_and_then list_inits (a_list p)

abbrev pub list_operands : PartList → Option (List OperandText)
list_operands (list.Operands x) = Some x
list_operands _ = None

abbrev pub the_list_operands : Part → Option (List OperandText)
the_list_operands p = option_and_then list_operands (a_list p)

abbrev pub list_param_attributes : PartList → Option (List ParamAttributeText)
list_param_attributes (list.ParamAttributes x) = Some x
list_param_attributes _ = None

abbrev pub the_list_param_attributes : Part → Option (List ParamAttributeText)
the_list_param_attributes p = option_and_then list_param_attributes (a_list p)

abbrev pub list_function_attributes : PartList → Option (List FunctionAttributeText)
list_function_attributes (list.FunctionAttributes x) = Some x
list_function_attributes _ = None

abbrev pub the_list_function_attributes : Part → Option (List FunctionAttributeText)
the_list_function_attributes p = option_and_then list_function_attributes (a_list p)

abbrev pub list_attachments : PartList → Option (List MetaText)
list_attachments (list.Attachments x) = Some x
list_attachments _ = None

abbrev pub the_list_attachments : Part → Option (List MetaText)
the_list_attachments p = option_and_then list_attachments (a_list p)

abbrev pub list_arguments : PartList → Option (List ArgumentText)
list_arguments (list.Arguments x) = Some x
list_arguments _ = None

abbrev pub the_list_arguments : Part → Option (List ArgumentText)
the_list_arguments p = option_and_then list_arguments (a_list p)

abbrev pub list_flags : PartList → Option (List FlagWord)
list_flags (list.Flags x) = Some x
list_flags _ = None

abbrev pub the_list_flags : Part → Option (List FlagWord)
the_list_flags p = option_and_then list_flags (a_list p)

abbrev pub list_params : PartList → Option (List ParamText)
list_params (list.Params x) = Some x
list_params _ = None

abbrev pub the_list_params : Part → Option (List ParamText)
the_list_params p = option_and_then list_params (a_list p)

abbrev pub list_lines : PartList → Option (List LineText)
list_lines (list.Lines x) = Some x
list_lines _ = None

abbrev pub the_list_lines : Part → Option (List LineText)
the_list_lines p = option_and_then list_lines (a_list p)

abbrev pub list_cases : PartList → Option (List CaseText)
list_cases (list.Cases x) = Some x
list_cases _ = None

abbrev pub the_list_cases : Part → Option (List CaseText)
the_list_cases p = option_and_then list_cases (a_list p)

abbrev pub list_blocks : PartList → Option (List BlockText)
list_blocks (list.Blocks x) = Some x
list_blocks _ = None

abbrev pub the_list_blocks : Part → Option (List BlockText)
the_list_blocks p = option_and_then list_blocks (a_list p)

abbrev pub piece_type : Piece → Option TypeText
piece_type (piece.Type x) = Some x
piece_type _ = None

abbrev pub the_piece_type : Part → Option TypeText
the_piece_type p = option_and_then piece_type (a_piece p)

abbrev pub piece_result : Piece → Option (Option TypeText)
piece_result (piece.Result x) = Some x
piece_result _ = None

abbrev pub the_piece_result : Part → Option (Option TypeText)
the_piece_result p = option_and_then piece_result (a_piece p)

abbrev pub piece_called : Piece → Option CalledText
piece_called (piece.Called x) = Some x
piece_called _ = None

abbrev pub the_piece_called : Part → Option CalledText
the_piece_called p = option_and_then piece_called (a_piece p)

abbrev pub piece_next_called : Piece → Option NextCalledText
piece_next_called (piece.NextCalled x) = Some x
piece_next_called _ = None

abbrev pub the_piece_next_called : Part → Option NextCalledText
the_piece_next_called p = option_and_then piece_next_called (a_piece p)

abbrev pub piece_function_type : Piece → Option (Option CalledText)
piece_function_type (piece.FunctionType x) = Some x
piece_function_type _ = None

abbrev pub the_piece_function_type : Part → Option (Option CalledText)
the_piece_function_type p = option_and_then piece_function_type (a_piece p)

abbrev pub piece_const : Piece → Option ConstText
piece_const (piece.Const x) = Some x
piece_const _ = None

abbrev pub the_piece_const : Part → Option ConstText
the_piece_const p = option_and_then piece_const (a_piece p)

abbrev pub piece_init : Piece → Option InitText
piece_init (piece.Init x) = Some x
piece_init _ = None

abbrev pub the_piece_init : Part → Option InitText
the_piece_init p = option_and_then piece_init (a_piece p)

abbrev pub piece_value : Piece → Option ValueText
piece_value (piece.Value x) = Some x
piece_value _ = None

abbrev pub the_piece_value : Part → Option ValueText
the_piece_value p = option_and_then piece_value (a_piece p)

abbrev pub piece_operand : Piece → Option OperandText
piece_operand (piece.Operand x) = Some x
piece_operand _ = None

abbrev pub the_piece_operand : Part → Option OperandText
the_piece_operand p = option_and_then piece_operand (a_piece p)

abbrev pub piece_param_attribute : Piece → Option ParamAttributeText
piece_param_attribute (piece.ParamAttribute x) = Some x
piece_param_attribute _ = None

abbrev pub the_piece_param_attribute : Part → Option ParamAttributeText
the_piece_param_attribute p = option_and_then piece_param_attribute (a_piece p)

abbrev pub piece_function_attribute : Piece → Option FunctionAttributeText
piece_function_attribute (piece.FunctionAttribute x) = Some x
piece_function_attribute _ = None

abbrev pub the_piece_function_attribute : Part → Option FunctionAttributeText
the_piece_function_attribute p = option_and_then piece_function_attribute (a_piece p)

abbrev pub line_operator : Line → Option OperatorText
line_operator (line.Operator x) = Some x
line_operator _ = None

abbrev pub the_line_operator : Part → Option OperatorText
the_line_operator p = option_and_then line_operator (a_line p)

abbrev pub line_operation : Line → Option OperationText
line_operation (line.Operation x) = Some x
line_operation _ = None

abbrev pub the_line_operation : Part → Option OperationText
the_line_operation p = option_and_then line_operation (a_line p)

abbrev pub line_attached : Line → Option AttachedText
line_attached (line.Attached x) = Some x
line_attached _ = None

abbrev pub the_line_attached : Part → Option AttachedText
the_line_attached p = option_and_then line_attached (a_line p)

abbrev pub line_align_behind : Line → Option AlignBehindText
line_align_behind (line.AlignBehind x) = Some x
line_align_behind _ = None

abbrev pub the_line_align_behind : Part → Option AlignBehindText
the_line_align_behind p = option_and_then line_align_behind (a_line p)

abbrev pub line_next_align : Line → Option NextAlignText
line_next_align (line.NextAlign x) = Some x
line_next_align _ = None

abbrev pub the_line_next_align : Part → Option NextAlignText
the_line_next_align p = option_and_then line_next_align (a_line p)

abbrev pub line_count_behind : Line → Option CountBehindText
line_count_behind (line.CountBehind x) = Some x
line_count_behind _ = None

abbrev pub the_line_count_behind : Part → Option CountBehindText
the_line_count_behind p = option_and_then line_count_behind (a_line p)

abbrev pub line_next_count : Line → Option NextCountText
line_next_count (line.NextCount x) = Some x
line_next_count _ = None

abbrev pub the_line_next_count : Part → Option NextCountText
the_line_next_count p = option_and_then line_next_count (a_line p)

abbrev pub line_indices_behind : Line → Option IndicesBehindText
line_indices_behind (line.IndicesBehind x) = Some x
line_indices_behind _ = None

abbrev pub the_line_indices_behind : Part → Option IndicesBehindText
the_line_indices_behind p = option_and_then line_indices_behind (a_line p)

abbrev pub line_next_index : Line → Option NextIndexText
line_next_index (line.NextIndex x) = Some x
line_next_index _ = None

abbrev pub the_line_next_index : Part → Option NextIndexText
the_line_next_index p = option_and_then line_next_index (a_line p)

abbrev pub line_call_body : Line → Option CallBodyText
line_call_body (line.CallBody x) = Some x
line_call_body _ = None

abbrev pub the_line_call_body : Part → Option CallBodyText
the_line_call_body p = option_and_then line_call_body (a_line p)

abbrev pub line_callee : Line → Option CalleeText
line_callee (line.Callee x) = Some x
line_callee _ = None

abbrev pub the_line_callee : Part → Option CalleeText
the_line_callee p = option_and_then line_callee (a_line p)

abbrev pub line_void_callee : Line → Option VoidCalleeText
line_void_callee (line.VoidCallee x) = Some x
line_void_callee _ = None

abbrev pub the_line_void_callee : Part → Option VoidCalleeText
the_line_void_callee p = option_and_then line_void_callee (a_line p)

abbrev pub line_void_call : Line → Option VoidCallText
line_void_call (line.VoidCall x) = Some x
line_void_call _ = None

abbrev pub the_line_void_call : Part → Option VoidCallText
the_line_void_call p = option_and_then line_void_call (a_line p)

abbrev pub line_call_end : Line → Option CallEndText
line_call_end (line.CallEnd x) = Some x
line_call_end _ = None

abbrev pub the_line_call_end : Part → Option CallEndText
the_line_call_end p = option_and_then line_call_end (a_line p)

abbrev pub line_argument : Line → Option ArgumentText
line_argument (line.Argument x) = Some x
line_argument _ = None

abbrev pub the_line_argument : Part → Option ArgumentText
the_line_argument p = option_and_then line_argument (a_line p)

abbrev pub line_line : Line → Option LineText
line_line (line.Line x) = Some x
line_line _ = None

abbrev pub the_line_line : Part → Option LineText
the_line_line p = option_and_then line_line (a_line p)

abbrev pub line_expr : Line → Option ExprText
line_expr (line.Expr x) = Some x
line_expr _ = None

abbrev pub the_line_expr : Part → Option ExprText
the_line_expr p = option_and_then line_expr (a_line p)

abbrev pub flow_block : Flow → Option BlockText
flow_block (flow.Block x) = Some x
flow_block _ = None

abbrev pub the_flow_block : Part → Option BlockText
the_flow_block p = option_and_then flow_block (a_flow p)

abbrev pub flow_body : Flow → Option BodyText
flow_body (flow.Body x) = Some x
flow_body _ = None

abbrev pub the_flow_body : Part → Option BodyText
the_flow_body p = option_and_then flow_body (a_flow p)

abbrev pub flow_behind : Flow → Option BehindText
flow_behind (flow.Behind x) = Some x
flow_behind _ = None

abbrev pub the_flow_behind : Part → Option BehindText
the_flow_behind p = option_and_then flow_behind (a_flow p)

abbrev pub flow_node : Flow → Option NodeText
flow_node (flow.Node x) = Some x
flow_node _ = None

abbrev pub the_flow_node : Part → Option NodeText
the_flow_node p = option_and_then flow_node (a_flow p)

abbrev pub flow_entries_behind : Flow → Option EntriesBehindText
flow_entries_behind (flow.EntriesBehind x) = Some x
flow_entries_behind _ = None

abbrev pub the_flow_entries_behind : Part → Option EntriesBehindText
the_flow_entries_behind p = option_and_then flow_entries_behind (a_flow p)

abbrev pub flow_next_entry : Flow → Option NextEntryText
flow_next_entry (flow.NextEntry x) = Some x
flow_next_entry _ = None

abbrev pub the_flow_next_entry : Part → Option NextEntryText
the_flow_next_entry p = option_and_then flow_next_entry (a_flow p)

abbrev pub flow_entry : Flow → Option EntryText
flow_entry (flow.Entry x) = Some x
flow_entry _ = None

abbrev pub the_flow_entry : Part → Option EntryText
the_flow_entry p = option_and_then flow_entry (a_flow p)

abbrev pub flow_end : Flow → Option EndText
flow_end (flow.End x) = Some x
flow_end _ = None

abbrev pub the_flow_end : Part → Option EndText
the_flow_end p = option_and_then flow_end (a_flow p)

abbrev pub flow_term : Flow → Option TermText
flow_term (flow.Term x) = Some x
flow_term _ = None

abbrev pub the_flow_term : Part → Option TermText
the_flow_term p = option_and_then flow_term (a_flow p)

abbrev pub flow_returned : Flow → Option (Option OperandText)
flow_returned (flow.Returned x) = Some x
flow_returned _ = None

abbrev pub the_flow_returned : Part → Option (Option OperandText)
the_flow_returned p = option_and_then flow_returned (a_flow p)

abbrev pub flow_branch : Flow → Option BranchText
flow_branch (flow.Branch x) = Some x
flow_branch _ = None

abbrev pub the_flow_branch : Part → Option BranchText
the_flow_branch p = option_and_then flow_branch (a_flow p)

abbrev pub flow_case : Flow → Option CaseText
flow_case (flow.Case x) = Some x
flow_case _ = None

abbrev pub the_flow_case : Part → Option CaseText
the_flow_case p = option_and_then flow_case (a_flow p)

abbrev pub item_module : Item → Option ModuleText
item_module (item.Module x) = Some x
item_module _ = None

abbrev pub the_item_module : Part → Option ModuleText
the_item_module p = option_and_then item_module (a_item p)

abbrev pub item_item : Item → Option ItemText
item_item (item.Item x) = Some x
item_item _ = None

abbrev pub the_item_item : Part → Option ItemText
the_item_item p = option_and_then item_item (a_item p)

abbrev pub item_type_body : Item → Option TypeBodyText
item_type_body (item.TypeBody x) = Some x
item_type_body _ = None

abbrev pub the_item_type_body : Part → Option TypeBodyText
the_item_type_body p = option_and_then item_type_body (a_item p)

abbrev pub item_global_body : Item → Option GlobalBodyText
item_global_body (item.GlobalBody x) = Some x
item_global_body _ = None

abbrev pub the_item_global_body : Part → Option GlobalBodyText
the_item_global_body p = option_and_then item_global_body (a_item p)

abbrev pub item_declared : Item → Option DeclaredNameText
item_declared (item.Declared x) = Some x
item_declared _ = None

abbrev pub the_item_declared : Part → Option DeclaredNameText
the_item_declared p = option_and_then item_declared (a_item p)

abbrev pub item_params : Item → Option DeclaredText
item_params (item.Params x) = Some x
item_params _ = None

abbrev pub the_item_params : Part → Option DeclaredText
the_item_params p = option_and_then item_params (a_item p)

abbrev pub item_next_declared : Item → Option NextDeclaredText
item_next_declared (item.NextDeclared x) = Some x
item_next_declared _ = None

abbrev pub the_item_next_declared : Part → Option NextDeclaredText
the_item_next_declared p = option_and_then item_next_declared (a_item p)

abbrev pub item_result : Item → Option ResultText
item_result (item.Result x) = Some x
item_result _ = None

abbrev pub the_item_result : Part → Option ResultText
the_item_result p = option_and_then item_result (a_item p)

abbrev pub item_head : Item → Option HeadText
item_head (item.Head x) = Some x
item_head _ = None

abbrev pub the_item_head : Part → Option HeadText
the_item_head p = option_and_then item_head (a_item p)

abbrev pub item_head_end : Item → Option HeadEndText
item_head_end (item.HeadEnd x) = Some x
item_head_end _ = None

abbrev pub the_item_head_end : Part → Option HeadEndText
the_item_head_end p = option_and_then item_head_end (a_item p)

abbrev pub item_param : Item → Option ParamText
item_param (item.Param x) = Some x
item_param _ = None

abbrev pub the_item_param : Part → Option ParamText
the_item_param p = option_and_then item_param (a_item p)
