-- Parts: what stands ahead in a derivation, each as whatever nonterminal it is wanted.
use Rattle.std.specs.Prelude.{ℕ, Bool, cond, nat_eq, List, Option, Some, None}
use Rattle.ir_lexer.specs.declared.token.Number.{Number}
use Rattle.ir_types.specs.declared.names.Name.{Name}
use Rattle.module_grammar.specs.declared.attributes.BangText.{BangText}
use Rattle.module_grammar.specs.declared.attributes.FunctionAttributeText.{FunctionAttributeText}
use Rattle.module_grammar.specs.declared.attributes.MetaText.{MetaText}
use Rattle.module_grammar.specs.declared.attributes.ParamAttributeText.{ParamAttributeText}
use Rattle.module_grammar.specs.declared.commas.AlignBehindText.{AlignBehindText}
use Rattle.module_grammar.specs.declared.commas.CountBehindText.{CountBehindText}
use Rattle.module_grammar.specs.declared.commas.EntriesBehindText.{EntriesBehindText}
use Rattle.module_grammar.specs.declared.commas.IndicesBehindText.{IndicesBehindText}
use Rattle.module_grammar.specs.declared.commas.NextAlignText.{NextAlignText}
use Rattle.module_grammar.specs.declared.commas.NextCountText.{NextCountText}
use Rattle.module_grammar.specs.declared.commas.NextEntryText.{NextEntryText}
use Rattle.module_grammar.specs.declared.commas.NextIndexText.{NextIndexText}
use Rattle.module_grammar.specs.declared.constants.ConstText.{ConstText}
use Rattle.module_grammar.specs.declared.constants.GlobalNameText.{GlobalNameText}
use Rattle.module_grammar.specs.declared.constants.InitText.{InitText}
use Rattle.module_grammar.specs.declared.constants.IntText.{IntText}
use Rattle.module_grammar.specs.declared.constants.OperandText.{OperandText}
use Rattle.module_grammar.specs.declared.constants.ValueText.{ValueText}
use Rattle.module_grammar.specs.declared.flow.BehindText.{BehindText}
use Rattle.module_grammar.specs.declared.flow.BlockText.{BlockText}
use Rattle.module_grammar.specs.declared.flow.BodyText.{BodyText}
use Rattle.module_grammar.specs.declared.flow.BranchText.{BranchText}
use Rattle.module_grammar.specs.declared.flow.CaseText.{CaseText}
use Rattle.module_grammar.specs.declared.flow.TermText.{TermText}
use Rattle.module_grammar.specs.declared.functions.DeclaredNameText.{DeclaredNameText}
use Rattle.module_grammar.specs.declared.functions.DeclaredText.{DeclaredText}
use Rattle.module_grammar.specs.declared.functions.LinkageText.{LinkageText}
use Rattle.module_grammar.specs.declared.functions.NextDeclaredText.{NextDeclaredText}
use Rattle.module_grammar.specs.declared.functions.ParamText.{ParamText}
use Rattle.module_grammar.specs.declared.items.GlobalBodyText.{GlobalBodyText}
use Rattle.module_grammar.specs.declared.items.ItemText.{ItemText}
use Rattle.module_grammar.specs.declared.items.ModuleText.{ModuleText}
use Rattle.module_grammar.specs.declared.items.TypeBodyText.{TypeBodyText}
use Rattle.module_grammar.specs.declared.lines.ArgumentText.{ArgumentText}
use Rattle.module_grammar.specs.declared.lines.AttachedText.{AttachedText}
use Rattle.module_grammar.specs.declared.lines.CallBodyText.{CallBodyText}
use Rattle.module_grammar.specs.declared.lines.ExprText.{ExprText}
use Rattle.module_grammar.specs.declared.lines.LineText.{LineText}
use Rattle.module_grammar.specs.declared.lines.OperationText.{OperationText}
use Rattle.module_grammar.specs.declared.lines.OperatorText.{OperatorText}
use Rattle.module_grammar.specs.declared.lines.VoidCallText.{VoidCallText}
use Rattle.module_grammar.specs.declared.lines.VoidCalleeText.{VoidCalleeText}
use Rattle.module_grammar.specs.declared.operators.FlagWord.{FlagWord}
use Rattle.module_grammar.specs.declared.operators.LinkageWord.{LinkageWord}
use Rattle.module_grammar.specs.declared.places.Placed.{Placed}
use Rattle.module_grammar.specs.declared.types.CalledText.{CalledText}
use Rattle.module_grammar.specs.declared.types.NextCalledText.{NextCalledText}
use Rattle.module_grammar.specs.declared.types.TypeText.{TypeText}
use Rattle.module_grammar.specs.Symbols.{Symbol}

-- what a rule makes, as each nonterminal that has more than one
pub record Made : Type 0 where
  pub whole : ModuleText
  pub item : ItemText
  pub type_body : TypeBodyText
  pub global_body : GlobalBodyText
  pub global_linkage : Option LinkageWord
  pub align : Option (Placed Number)
  pub declared_name : DeclaredNameText
  pub declared_params : DeclaredText
  pub more_declared : DeclaredText
  pub next_declared : NextDeclaredText
  pub convention : Bool
  pub result_type : Option TypeText
  pub unnamed_addr : Bool
  pub linkage : LinkageText
  pub params : List ParamText
  pub more_params : List ParamText
  pub param_name : Option (Placed Name)
  pub param_attributes : List ParamAttributeText
  pub param_attribute : ParamAttributeText
  pub function_attributes : List FunctionAttributeText
  pub function_attribute : FunctionAttributeText
  pub attribute_value : Bool
  pub attached : Option MetaText
  pub attachments : List MetaText
  pub meta : MetaText
  pub meta_arguments : Bool
  pub bang : BangText
  pub distinct : Bool
  pub base_type : TypeText
  pub stars : List ℕ
  pub types : List TypeText
  pub more_types : List TypeText
  pub called : CalledText
  pub more_called : CalledText
  pub next_called : NextCalledText
  pub function_type : Option CalledText
  pub global_name : GlobalNameText
  pub integer : IntText
  pub inbounds : Bool
  pub constant : ConstText
  pub more_consts : List (TypeText × ConstText)
  pub init : InitText
  pub inits : List (TypeText × InitText)
  pub more_inits : List (TypeText × InitText)
  pub value : ValueText
  pub operator : OperatorText
  pub flags : List FlagWord
  pub exactness : Bool
  pub operation : OperationText
  pub attach : AttachedText
  pub align_behind : AlignBehindText
  pub next_align : NextAlignText
  pub count_behind : CountBehindText
  pub next_count : NextCountText
  pub indices_behind : IndicesBehindText
  pub next_index : NextIndexText
  pub call_body : CallBodyText
  pub void_callee : VoidCalleeText
  pub void_call : VoidCallText
  pub arguments : List ArgumentText
  pub more_arguments : List ArgumentText
  pub register : Option (Placed Name)
  pub lines : List LineText
  pub expr : ExprText
  pub indices : List OperandText
  pub block_label : Option (Placed Name)
  pub blocks : List BlockText
  pub body : BodyText
  pub behind_register : BehindText
  pub entries_behind : EntriesBehindText
  pub next_entry : NextEntryText
  pub term : TermText
  pub returned : Option OperandText
  pub branch : BranchText
  pub cases : List CaseText

-- what stands ahead: a token's symbol, or what a rule makes
pub record Part : Type 0 where
  pub leaf : Symbol
  pub made : Made

-- by the rule of this name, else that
abbrev pub if_rule : {T : Type 0} → Option ℕ → ℕ → T → T → T
if_rule None n then other = other
if_rule (Some p) n then other = cond (nat_eq p n) then other
