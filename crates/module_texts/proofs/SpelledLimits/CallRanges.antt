-- The result and the arguments of a call that is named are in range where what is written of it is.
use Rattle.std.proofs.Common.{Bool, true, false, List, [], ◌∷◌, ◌++◌, map, Option, Some, None}
use Rattle.std.specs.List.{AllByRecursion, flat_map}
use Rattle.ir_core.specs.Ranges.{IsOperandInRange, IsResultInRange}
use Rattle.ir_core.specs.declared.functions.Argument.{Argument}
use Rattle.ir_core.specs.declared.functions.Call.{Call}
use Rattle.ir_core.specs.declared.modules.Module.{Module}
use Rattle.ir_types.specs.declared.names.Name.{Name}
use Rattle.module_grammar.specs.Attributes.{function_attribute, param_attribute}
use Rattle.module_grammar.specs.Constants.{global_name as global, value}
use Rattle.module_grammar.specs.Lines as lines
use Rattle.module_grammar.specs.Symbols.{Symbol, close_paren}
use Rattle.module_grammar.specs.Types as types
use Rattle.module_grammar.specs.declared.attributes.ParamAttributeText.{ParamAttributeText}
use Rattle.module_grammar.specs.declared.lines.ArgumentText.{ArgumentText}
use Rattle.module_grammar.specs.declared.lines.CallBodyText.{CallBodyText}
use Rattle.module_grammar.specs.declared.lines.CallBodyText.TheVariants as body
use Rattle.module_grammar.specs.declared.lines.CallEndText.{CallEndText}
use Rattle.module_grammar.specs.declared.lines.CalleeText.{CalleeText}
use Rattle.module_grammar.specs.declared.lines.VoidCallText.{VoidCallText}
use Rattle.module_grammar.specs.declared.lines.VoidCallText.TheVariants as of_void
use Rattle.module_grammar.specs.declared.places.Placed.{Placed}
use Rattle.module_grammar.specs.declared.types.CalledText.{CalledText}
use Rattle.module_grammar.specs.declared.types.TypeText.{TypeText}
use Rattle.named_modules.proofs.Lists.{all_append, all_left, all_right}
use Rattle.named_modules.specs.Constants.{global_name}
use Rattle.named_modules.specs.Lines.{IsArgument, IsCall, IsVoidCall, IsVoidCallee, NamesCall, Stated}
use Rattle.named_modules.specs.Values.{Registers}
use Rattle.module_texts.proofs.SpelledLimits.Lists.{all_mapped, all_zipped, listed_each}
use Rattle.module_texts.proofs.SpelledLimits.SymbolRanges.{AllInRange, IsSymbolInRange}
use Rattle.module_texts.proofs.SpelledLimits.ValueRanges.{operand_range, result_there}

abbrev pub IsWholeCall : Call → Type 0
IsWholeCall c = IsResultInRange c.result × AllByRecursion IsOperandInRange (map (λ (a : Argument). a.operand) c.arguments)

module _ (m : Module) (rs : Registers) (stated : Stated) where
  argument_range : (w : ArgumentText) (a : Argument) → AllInRange (lines.argument w) → IsArgument m rs w a → IsOperandInRange a.operand
  argument_range w a all is =
      let attributes : List Symbol = flat_map param_attribute w.attributes in
      let front = all_left IsSymbolInRange (types.ty w.ty) (attributes ++ value w.value) all in
      let behind = all_right IsSymbolInRange attributes (value w.value) (all_right IsSymbolInRange (types.ty w.ty) (attributes ++ value w.value) all) in
      operand_range m rs (record { ty = w.ty; value = w.value }) a.operand (all_append IsSymbolInRange (types.ty w.ty) (value w.value) front behind) is.0

  call_range :
      (attributes : List ParamAttributeText) (of : Option TypeText) (called : Option CalledText) (name : Placed Name) (end : CallEndText) (c : Call)
      → AllInRange (types.result of) → AllInRange (lines.call_end end) → NamesCall m rs attributes of called name end c → IsWholeCall c
  call_range attributes of called name end c result all is =
      let row : List Symbol = close_paren ∷ flat_map function_attribute end.attributes in
      let each = listed_each IsSymbolInRange lines.argument end.arguments (all_left IsSymbolInRange (lines.arguments end.arguments) row all.1) in
      let Kept : Argument → Type 0 = λ a. IsOperandInRange a.operand in (
        result_there m of c.result result is.result,
        all_mapped Kept IsOperandInRange (λ (a : Argument). a.operand) (λ a there. there) c.arguments
            (all_zipped (λ (w : ArgumentText). AllInRange (lines.argument w)) (IsArgument m rs) Kept argument_range end.arguments c.arguments each is.arguments),
      )

  -- behind the attributes of its result
  callee_range :
      (attributes : List ParamAttributeText) (w : CalleeText) (end : CallEndText) (c : Call)
      → AllInRange (flat_map param_attribute attributes ++ (lines.callee w ++ lines.call_end end))
      → (as_named : List ParamAttributeText) → NamesCall m rs as_named w.result w.called (global_name w.name) end c → IsWholeCall c
  callee_range attributes w end c all as_named is =
      let behind = all_right IsSymbolInRange (flat_map param_attribute attributes) (lines.callee w ++ lines.call_end end) all in
      let callee = all_left IsSymbolInRange (lines.callee w) (lines.call_end end) behind in
      call_range as_named w.result w.called (global_name w.name) end c
      (all_left IsSymbolInRange (types.result w.result) (types.function_type w.called ++ (global w.name ∷ [])) callee)
      (all_right IsSymbolInRange (lines.callee w) (lines.call_end end) behind) is

  void_range : (is_stated : Bool) (name : Placed Name) (end : CallEndText) (c : Call) → AllInRange (lines.call_end end) → IsVoidCall m rs stated is_stated name end c → IsWholeCall c
  void_range false name end c all is = call_range [] None None name end c (tt, tt) all is
  void_range true name end c all is = call_range [] None (Some is.0) name end c (tt, tt) all is.2

  void_callee_range : (is_stated : Bool) (w : VoidCallText) (c : Call) → AllInRange (lines.void_call w) → IsVoidCallee m rs stated is_stated w c → IsWholeCall c
  void_callee_range is_stated (of_void.Call name end) c all is = void_range is_stated name end c all.1 is
  void_callee_range is_stated (of_void.Debug name attributes) c all is = absurd is

  pub body_range : (w : CallBodyText) (c : Call) → AllInRange (lines.call_body w) → IsCall m rs stated w c → IsWholeCall c
  body_range (body.Convention attributes callee end) c all is = callee_range attributes callee end c all.1 attributes is
  body_range (body.Attributes first others callee end) c all is =
      let rest : List Symbol = flat_map param_attribute others ++ (lines.callee callee ++ lines.call_end end) in
      callee_range others callee end c (all_right IsSymbolInRange (param_attribute first) rest all) (first ∷ others) is
  body_range (body.Typed t called name end) c all is =
      let row : List Symbol = types.function_type called ++ (global name ∷ lines.call_end end) in
      let behind = all_right IsSymbolInRange (types.function_type called) (global name ∷ lines.call_end end) (all_right IsSymbolInRange (types.ty t) row all) in
      call_range [] (Some t) called (global_name name) end c (all_left IsSymbolInRange (types.ty t) row all) behind.1 is
  body_range (body.Void v) c all is =
      void_callee_range v.is_stated v.call c (all_right IsSymbolInRange (lines.stated v.is_stated) (lines.void_call v.call) all.1) is
