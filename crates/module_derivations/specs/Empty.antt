-- What is seen where nothing is, or something of another kind.
use Rattle.std.specs.Prelude.{false, List, [], ◌∷◌, None}
use Rattle.ir_lexer.specs.declared.token.Number.{Number}
use Rattle.ir_types.specs.declared.names.Name.{Name}
use Rattle.module_grammar.specs.declared.attributes.MetaText.{MetaText}
use Rattle.module_grammar.specs.declared.commas.NextAlignText.{NextAlignText}
use Rattle.module_grammar.specs.declared.constants.ConstText.{ConstText}
use Rattle.module_grammar.specs.declared.constants.InitText.{InitText}
use Rattle.module_grammar.specs.declared.constants.OperandText.{OperandText}
use Rattle.module_grammar.specs.declared.constants.ValueText.{ValueText}
use Rattle.module_grammar.specs.declared.functions.HeadEndText.{HeadEndText}
use Rattle.module_grammar.specs.declared.items.GlobalBodyText.{GlobalBodyText}
use Rattle.module_grammar.specs.declared.lines.AttachedText.{AttachedText}
use Rattle.module_grammar.specs.declared.lines.OperationText.{OperationText}
use Rattle.module_grammar.specs.declared.lines.OperatorText.{OperatorText}
use Rattle.module_grammar.specs.declared.lines.VoidCallText.{VoidCallText}
use Rattle.module_grammar.specs.declared.lines.VoidCalleeText.{VoidCalleeText}
use Rattle.module_grammar.specs.declared.places.Placed.{Placed}
use Rattle.module_grammar.specs.declared.types.TypeText.{TypeText}
use Rattle.module_grammar.specs.declared.attributes.BangText.TheVariants as bang
use Rattle.module_grammar.specs.declared.attributes.FunctionAttributeText.TheVariants as function_attribute
use Rattle.module_grammar.specs.declared.attributes.MetaText.TheVariants as meta
use Rattle.module_grammar.specs.declared.attributes.ParamAttributeText.TheVariants as param_attribute
use Rattle.module_grammar.specs.declared.commas.NextAlignText.TheVariants as next_align
use Rattle.module_grammar.specs.declared.commas.NextCountText.TheVariants as next_count
use Rattle.module_grammar.specs.declared.commas.NextEntryText.TheVariants as next_entry
use Rattle.module_grammar.specs.declared.commas.NextIndexText.TheVariants as next_index
use Rattle.module_grammar.specs.declared.constants.ConstText as const
use Rattle.module_grammar.specs.declared.constants.GlobalNameText.TheVariants as global_name
use Rattle.module_grammar.specs.declared.constants.InitText as init
use Rattle.module_grammar.specs.declared.constants.IntText.TheVariants as integer
use Rattle.module_grammar.specs.declared.constants.ValueText.TheVariants as value
use Rattle.module_grammar.specs.declared.flow.BehindText.TheVariants as behind_text
use Rattle.module_grammar.specs.declared.flow.BranchText.TheVariants as branch_text
use Rattle.module_grammar.specs.declared.flow.TermText.TheVariants as term_text
use Rattle.module_grammar.specs.declared.functions.DeclaredNameText.TheVariants as declared_name
use Rattle.module_grammar.specs.declared.functions.LinkageText.TheVariants as linkage
use Rattle.module_grammar.specs.declared.functions.NextDeclaredText.TheVariants as next_declared
use Rattle.module_grammar.specs.declared.items.HeldText.TheVariants as held
use Rattle.module_grammar.specs.declared.items.ItemText.TheVariants as item
use Rattle.module_grammar.specs.declared.items.TypeBodyText.TheVariants as type_body
use Rattle.module_grammar.specs.declared.lines.CallBodyText.TheVariants as call_body
use Rattle.module_grammar.specs.declared.lines.ExprText.TheVariants as expression
use Rattle.module_grammar.specs.declared.lines.InstructionText.TheVariants as instruction
use Rattle.module_grammar.specs.declared.lines.OperationText.TheVariants as form
use Rattle.module_grammar.specs.declared.lines.OperatorText.TheVariants as operators
use Rattle.module_grammar.specs.declared.lines.VoidCallText.TheVariants as void_call
use Rattle.module_grammar.specs.declared.types.NextCalledText.TheVariants as next_called
use Rattle.module_grammar.specs.declared.types.TypeText as type_text
use Rattle.ir_types.specs.declared.names.Name.TheVariants as name
use Rattle.module_grammar.specs.declared.items.HoldingWord.TheVariants.{Constant}
use Rattle.module_grammar.specs.declared.operators.PlainOp.TheVariants.{And}
use Rattle.module_grammar.specs.Symbols.{Symbol, foreign}
use Rattle.module_derivations.specs.Parts.{Made, Part}

abbrev pub no_name : Placed Name
no_name = record { what = name.Number 0; start = 0; end = 0 }

abbrev pub no_number : Placed Number
no_number = record { what = record { negative = false; magnitude = 0 }; start = 0; end = 0 }

abbrev pub no_type : TypeText
no_type = type_text.Int (record { what = 1; start = 0; end = 0 })

abbrev pub no_value : ValueText
no_value = value.Const const.Undef

abbrev pub no_operand : OperandText
no_operand = record { ty = no_type; value = no_value }

abbrev pub no_meta : MetaText
no_meta = meta.Named false

abbrev pub no_head_end : HeadEndText
no_head_end = record { unnamed_addr = false; attributes = [] }

abbrev pub no_global_body : GlobalBodyText
no_global_body = record { held = held.External; unnamed_addr = false; word = Constant; ty = no_type; align = None }

abbrev pub no_operator : OperatorText
no_operator = operators.Plain And

abbrev pub no_operation : OperationText
no_operation = form.Binary (record { operator = no_operator; left = no_operand; right = no_value })

abbrev pub no_attached : AttachedText
no_attached = record { instruction = instruction.Operation no_operation; attachments = [] }

abbrev pub no_next_align : NextAlignText
no_next_align = next_align.Attachment no_meta []

abbrev pub no_void_call : VoidCallText
no_void_call = void_call.Debug no_name []

abbrev pub no_void_callee : VoidCalleeText
no_void_callee = record { is_stated = false; call = no_void_call }

-- as each nonterminal: what its empty rule makes, if it has one
abbrev pub nothing : Made
nothing = record {
  whole = record { items = [] };
  item = item.Target;
  type_body = type_body.Opaque;
  global_body = no_global_body;
  global_linkage = None;
  align = None;
  declared_name = declared_name.Debug no_name no_head_end;
  declared_params = record { params = []; is_open = false };
  more_declared = record { params = []; is_open = false };
  next_declared = next_declared.Open;
  convention = false;
  result_type = None;
  unnamed_addr = false;
  linkage = linkage.None;
  params = [];
  more_params = [];
  param_name = None;
  param_attributes = [];
  param_attribute = param_attribute.Word;
  function_attributes = [];
  function_attribute = function_attribute.Word;
  attribute_value = false;
  attached = None;
  attachments = [];
  meta = no_meta;
  meta_arguments = false;
  bang = bang.Text;
  distinct = false;
  base_type = no_type;
  stars = [];
  types = [];
  more_types = [];
  called = record { types = []; is_open = false };
  more_called = record { types = []; is_open = false };
  next_called = next_called.Open;
  function_type = None;
  global_name = global_name.Plain no_name;
  integer = integer.Number no_number;
  inbounds = false;
  constant = const.Undef;
  more_consts = [];
  init = init.Zero;
  inits = [];
  more_inits = [];
  value = no_value;
  operator = no_operator;
  flags = [];
  exactness = false;
  operation = no_operation;
  attach = no_attached;
  align_behind = record { align = None; attachments = [] };
  next_align = no_next_align;
  count_behind = record { count = None; behind = record { align = None; attachments = [] } };
  next_count = next_count.Other no_next_align;
  indices_behind = record { indices = []; attachments = [] };
  next_index = next_index.Attachment no_meta [];
  call_body = call_body.Void no_void_callee;
  void_callee = no_void_callee;
  void_call = no_void_call;
  arguments = [];
  more_arguments = [];
  register = None;
  lines = [];
  expr = expression.Plain no_operand;
  indices = [];
  block_label = None;
  blocks = [];
  body = record { phis = []; lines = [] };
  behind_register = behind_text.Line no_attached [];
  entries_behind = record { entries = []; attachments = [] };
  next_entry = next_entry.Attachment no_meta [];
  term = term_text.Unreachable;
  returned = None;
  branch = branch_text.Always no_name;
  cases = [];
}

-- ---- what stands in front

abbrev pub front : List Part → Part
front [] = record { leaf = foreign; made = nothing }
front (p ∷ ps) = p

abbrev pub said : List Part → Symbol
said ps = (front ps).leaf

abbrev pub made : List Part → Made
made ps = (front ps).made
