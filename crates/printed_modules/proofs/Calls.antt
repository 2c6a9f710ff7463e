-- A printed call is laid as a call that names it. Where types stand behind `call void`, the tree has a gap for them.
use Rattle.std.proofs.Common.{◌≡◌, Bool, true, false, List, [], ◌∷◌, ◌++◌, Option, Some, None, append_assoc, append-nil, refl, ap, sym, ◌∙◌, subst}
use Rattle.std.specs.Prelude.{◌≤◌}
use Rattle.std.specs.List.{AllByRecursion, AllZip, flat_map}
use Rattle.ir_core.specs.declared.functions.Call.{Call}
use Rattle.ir_core.specs.declared.functions.Instr.TheVariants as instr
use Rattle.ir_core.specs.declared.modules.Module.{Module}
use Rattle.ir_core.specs.Depths.{depth_of}
use Rattle.ir_core.specs.Limits.{depth_limit}
use Rattle.ir_core.specs.Typing.{Signature}
use Rattle.ir_types.specs.declared.names.Name.{Name}
use Rattle.ir_printer.specs.Printed.{call_text, called_in, indented}
use Rattle.module_grammar.specs.declared.attributes.ParamAttributeText.{ParamAttributeText}
use Rattle.module_grammar.specs.declared.constants.GlobalNameText.TheVariants as global
use Rattle.module_grammar.specs.declared.lines.ArgumentText.{ArgumentText}
use Rattle.module_grammar.specs.declared.lines.CallBodyText.{CallBodyText}
use Rattle.module_grammar.specs.declared.lines.CallBodyText.TheVariants as body
use Rattle.module_grammar.specs.declared.lines.CallEndText.{CallEndText}
use Rattle.module_grammar.specs.declared.lines.InstructionText.TheVariants as instruction
use Rattle.module_grammar.specs.declared.lines.LineText.{LineText}
use Rattle.module_grammar.specs.declared.lines.VoidCallText.TheVariants as of_void
use Rattle.module_grammar.specs.declared.places.Placed.{Placed}
use Rattle.module_grammar.specs.declared.types.CalledText.{CalledText}
use Rattle.module_grammar.specs.declared.types.TypeText.{TypeText}
use Rattle.module_grammar.specs.declared.words.KeyWord.TheVariants as key
use Rattle.module_grammar.specs.declared.words.Language.TheVariants.{Ir}
use Rattle.module_grammar.specs.Attributes.{param_attribute}
use Rattle.module_grammar.specs.Lines as lines
use Rattle.module_grammar.specs.Sorts.{Called}
use Rattle.module_grammar.specs.Symbols.{Global, Symbol}
use Rattle.module_grammar.specs.Symbols as symbols
use Rattle.module_grammar.specs.Texts.{IsWritten}
use Rattle.module_grammar.specs.Types as types
use Rattle.module_spelling.specs.Context.{IsWhole, called_number}
use Rattle.module_spelling.specs.Spells.{StatesTypes}
use Rattle.named_modules.specs.Lines.{IsArgument, IsCall, IsResult, IsResultNamed, NamesCall, Stated, is_dropped_call}
use Rattle.named_modules.specs.Types.{type_of}
use Rattle.named_modules.specs.Values.{Registers, extensions_of}
use Rattle.printed_modules.proofs.BalancedTypes.{called_balanced}
use Rattle.printed_modules.proofs.Calm.{calm_arguments, calm_attributes, calm_called, calm_type}
use Rattle.printed_modules.proofs.CallParts.{AreShallow, NamesStated, arguments, register, result, states}
use Rattle.printed_modules.proofs.Fit.{FitsCall}
use Rattle.printed_modules.proofs.Guarded.{StatesBehind}
use Rattle.printed_modules.proofs.Laid.{AreCalm, FillsAll, IsShut, IsSound, both_calm, both_fill, both_sound, calm_fills, calm_guarded, calm_no_addr, calm_sound, filled_one, no_opener, same_more}
use Rattle.printed_modules.proofs.Lays.{AllStated, Lays, of_prints}
use Rattle.printed_modules.proofs.NamedLines.{NamesLine}
use Rattle.printed_modules.proofs.Phis.{on_line}
use Rattle.printed_tokens.proofs.Attributes.{extensions}
use Rattle.printed_tokens.proofs.Marks.{plain_global, space}
use Rattle.printed_tokens.proofs.Marks as marks
use Rattle.printed_tokens.proofs.ModuleTypes.{HasNames}
use Rattle.printed_tokens.proofs.Prints.{Prints, before, both, read_as, wherever}
use Rattle.printed_tokens.proofs.ReadTexts.{Any, Stops}

-- tokens of types that a call states have a derivation within the limits, where the types are no deeper than the limit
abbrev pub CalledAreWhole : Type 0
CalledAreWhole =
    (c : CalledText) (tokens : List Symbol) → IsWritten Called c tokens → AllByRecursion (λ (t : TypeText). depth_of (type_of t) ≤ depth_limit) c.types
    → IsWhole Called called_number tokens

-- ---- what is read of a call, types that are stated too

-- attributes of the result, the result, what is stated, the name, arguments
pub record Parts : Type 0 where
  pub attributes : List ParamAttributeText
  pub result : Option TypeText
  pub called : Option CalledText
  pub callee : Placed Name
  pub arguments : List ArgumentText

abbrev end_of : List ArgumentText → CallEndText
end_of ws = record { arguments = ws; attributes = [] }

-- from the name on
abbrev name_row : Placed Name → List ArgumentText → List Symbol
name_row x ws = Global x ∷ lines.call_end (end_of ws)

abbrev result_row : Option TypeText → Option CalledText → Placed Name → List ArgumentText → List Symbol
result_row r c x ws = types.result r ++ (types.function_type c ++ name_row x ws)

abbrev parts_written : Parts → List Symbol
parts_written w = flat_map param_attribute w.attributes ++ result_row w.result w.called w.callee w.arguments

-- ---- as a tree

abbrev is_stated : Option CalledText → Bool
is_stated None = false
is_stated (Some c) = true

abbrev body_of : List ParamAttributeText → Option TypeText → Option CalledText → Placed Name → List ArgumentText → CallBodyText
body_of (a ∷ es) r c x ws = body.Attributes a es (record { result = r; called = c; name = global.Plain x }) (end_of ws)
body_of [] (Some t) c x ws = body.Typed t c (global.Plain x) (end_of ws)
body_of [] None c x ws = body.Void (record { is_stated = is_stated c; call = of_void.Call x (end_of ws) })

abbrev body_in : Parts → CallBodyText
body_in w = body_of w.attributes w.result w.called w.callee w.arguments

-- ---- rows that are calm, and `void`

calm_name : (x : Placed Name) (ws : List ArgumentText) → AreCalm (name_row x ws)
calm_name x ws = both_calm (lines.arguments ws) (symbols.close_paren ∷ []) (calm_arguments ws) refl

calm_stated : (c : Option CalledText) → AreCalm (types.function_type c)
calm_stated None = refl
calm_stated (Some c) = both_calm (types.called c) (symbols.close_paren ∷ []) (calm_called c) refl

calm_behind : (c : Option CalledText) (x : Placed Name) (ws : List ArgumentText) → AreCalm (types.function_type c ++ name_row x ws)
calm_behind c x ws = both_calm (types.function_type c) (name_row x ws) (calm_stated c) (calm_name x ws)

-- ---- what fills the tree

own_result : (r : Option TypeText) (more : List Symbol) → AreCalm more → FillsAll (types.result r ++ more) (types.result r ++ more)
own_result None more calm = filled_one symbols.void more more refl (calm_fills more calm)
own_result (Some t) more calm = calm_fills (types.ty t ++ more) (both_calm (types.ty t) more (calm_type t) calm)

own_parts : (es : List ParamAttributeText) (r : Option TypeText) (c : Option CalledText) (x : Placed Name) (ws : List ArgumentText)
    → FillsAll (flat_map param_attribute es ++ result_row r c x ws) (flat_map param_attribute es ++ result_row r c x ws)
own_parts es r c x ws =
    both_fill (flat_map param_attribute es) (result_row r c x ws) (flat_map param_attribute es) (result_row r c x ws) (calm_fills (flat_map param_attribute es) (calm_attributes es))
    (own_result r (types.function_type c ++ name_row x ws) (calm_behind c x ws))

-- the name stands by itself in the callee
callee_written : (r : Option TypeText) (c : Option CalledText) (x : Placed Name) (ws : List ArgumentText)
    → lines.callee (record { result = r; called = c; name = global.Plain x }) ++ lines.call_end (end_of ws) ≡ result_row r c x ws
callee_written r c x ws =
    append_assoc (types.result r) (types.function_type c ++ (Global x ∷ [])) (lines.call_end (end_of ws))
    ∙ ap (λ l. types.result r ++ l) (append_assoc (types.function_type c) (Global x ∷ []) (lines.call_end (end_of ws)))

attributes_written : (a : ParamAttributeText) (es : List ParamAttributeText) (r : Option TypeText) (c : Option CalledText) (x : Placed Name) (ws : List ArgumentText)
    → flat_map param_attribute (a ∷ es) ++ result_row r c x ws ≡ lines.call_body (body_of (a ∷ es) r c x ws)
attributes_written a es r c x ws =
    append_assoc (param_attribute a) (flat_map param_attribute es) (result_row r c x ws)
    ∙ ap (λ l. param_attribute a ++ (flat_map param_attribute es ++ l)) (sym (callee_written r c x ws))

-- the types that are stated fill the gap behind `void`
gap_filled : (c : CalledText) (more : List Symbol) → AreCalm more
    → FillsAll (symbols.open_paren ∷ symbols.balanced ∷ symbols.close_paren ∷ more) (symbols.open_paren ∷ ((types.called c ++ (symbols.close_paren ∷ [])) ++ more))
gap_filled c more calm =
    filled_one symbols.open_paren (symbols.balanced ∷ symbols.close_paren ∷ more) ((types.called c ++ (symbols.close_paren ∷ [])) ++ more) refl
    (types.called c, symbols.close_paren ∷ more, sym (append_assoc (types.called c) (symbols.close_paren ∷ []) more), called_balanced c, calm_fills (symbols.close_paren ∷ more) calm)

body_filled : (es : List ParamAttributeText) (r : Option TypeText) (c : Option CalledText) (x : Placed Name) (ws : List ArgumentText)
    → FillsAll (lines.call_body (body_of es r c x ws)) (flat_map param_attribute es ++ result_row r c x ws)
body_filled (a ∷ es) r c x ws =
    subst (λ written. FillsAll written (flat_map param_attribute (a ∷ es) ++ result_row r c x ws)) (attributes_written a es r c x ws) (own_parts (a ∷ es) r c x ws)
body_filled [] (Some t) c x ws = own_parts [] (Some t) c x ws
body_filled [] None None x ws = own_parts [] None None x ws
body_filled [] None (Some c) x ws =
    filled_one symbols.void (symbols.open_paren ∷ symbols.balanced ∷ symbols.close_paren ∷ name_row x ws) (types.function_type (Some c) ++ name_row x ws) refl (gap_filled c (name_row x ws) (calm_name x ws))

-- ---- what may stand behind other rows

no_start : (s : Symbol) (ss : List Symbol) → (s ≡ symbols.open_paren → ⊥) → StatesBehind (s ∷ ss)
no_start s ss other = λ inside is. absurd (no_opener (s ∷ ss) inside other is)

void_sound : (row : List Symbol) → StatesBehind row → AreCalm row → IsSound (symbols.void ∷ row)
void_sound row states calm = record {
  shut = λ is. cc;
  guarded = (λ is. states, calm_guarded row calm);
  no_addr = (λ is. cc, calm_no_addr row calm);
}

module _ (whole : CalledAreWhole) where
  states_behind : (c : Option CalledText) (x : Placed Name) (ws : List ArgumentText) → AreShallow c → StatesBehind (types.function_type c ++ name_row x ws)
  states_behind None x ws shallow = no_start (Global x) (lines.call_end (end_of ws)) (λ is. cc)
  states_behind (Some c) x ws shallow = λ inside is. (
    types.called c,
    x,
    lines.call_end (end_of ws),
    sym (same_more symbols.open_paren symbols.open_paren ((types.called c ++ (symbols.close_paren ∷ [])) ++ name_row x ws) inside is)
        ∙ append_assoc (types.called c) (symbols.close_paren ∷ []) (name_row x ws),
    whole c (types.called c) (calm_fills (types.called c) (calm_called c)) shallow,
  )

  -- the word `call`, and what stands behind it
  void_call_sound : (es : List ParamAttributeText) (c : Option CalledText) (x : Placed Name) (ws : List ArgumentText) → AreShallow c
      → IsSound (symbols.call ∷ (flat_map param_attribute es ++ result_row None c x ws))
  void_call_sound es c x ws shallow =
      both_sound (symbols.call ∷ flat_map param_attribute es) (result_row None c x ws) (calm_sound (symbols.call ∷ flat_map param_attribute es) (λ is. cc) (calm_attributes es))
      (void_sound (types.function_type c ++ name_row x ws) (states_behind c x ws shallow) (calm_behind c x ws))

  typed_call_sound : (es : List ParamAttributeText) (t : TypeText) (c : Option CalledText) (x : Placed Name) (ws : List ArgumentText)
      → IsSound (symbols.call ∷ (flat_map param_attribute es ++ result_row (Some t) c x ws))
  typed_call_sound es t c x ws =
      calm_sound (symbols.call ∷ (flat_map param_attribute es ++ result_row (Some t) c x ws)) (λ is. cc)
      (both_calm (flat_map param_attribute es) (result_row (Some t) c x ws) (calm_attributes es)
      (both_calm (types.ty t) (types.function_type c ++ name_row x ws) (calm_type t) (calm_behind c x ws)))

  call_sound : (es : List ParamAttributeText) (r : Option TypeText) (c : Option CalledText) (x : Placed Name) (ws : List ArgumentText) → AreShallow c
      → IsSound (symbols.call ∷ (flat_map param_attribute es ++ result_row r c x ws))
  call_sound es None c x ws shallow = void_call_sound es c x ws shallow
  call_sound es (Some t) c x ws shallow = typed_call_sound es t c x ws

  -- ---- calls

  calm_register : (x : Option (Placed Name)) → AreCalm (lines.register x)
  calm_register None = refl
  calm_register (Some x) = refl

  shut_register : (x : Option (Placed Name)) → IsShut (lines.register x)
  shut_register None = tt
  shut_register (Some x) = λ is. cc

  -- the register that a call sets, and the call
  abbrev row_of : Option (Placed Name) × Parts → List Symbol
  row_of w = lines.register w.0 ++ (symbols.call ∷ parts_written w.1)

  abbrev line_of : Option (Placed Name) × Parts → LineText
  line_of w = record { register = w.0; attached = record { instruction = instruction.Call (record { tail = false; body = body_in w.1 }); attachments = [] } }

  row_sound : (w : Option (Placed Name) × Parts) → AreShallow w.1.called → IsSound (row_of w)
  row_sound w shallow =
      both_sound (lines.register w.0) (symbols.call ∷ parts_written w.1) (calm_sound (lines.register w.0) (shut_register w.0) (calm_register w.0))
      (call_sound w.1.attributes w.1.result w.1.called w.1.callee w.1.arguments shallow)

  line_filled : (w : Option (Placed Name) × Parts) → FillsAll (lines.line (line_of w)) (row_of w)
  line_filled w =
      both_fill (lines.register w.0) ((symbols.call ∷ lines.call_body (body_in w.1)) ++ []) (lines.register w.0) (symbols.call ∷ parts_written w.1)
      (calm_fills (lines.register w.0) (calm_register w.0))
      (subst (λ l. FillsAll l (symbols.call ∷ parts_written w.1)) (sym (append-nil (symbols.call ∷ lines.call_body (body_in w.1))))
      (filled_one symbols.call (lines.call_body (body_in w.1)) (parts_written w.1) refl (body_filled w.1.attributes w.1.result w.1.called w.1.callee w.1.arguments)))

  -- what stands behind a mere `void` states these types
  states_types : (w : Option (Placed Name)) (c : CalledText) (x : Placed Name) (ws : List ArgumentText)
      → StatesTypes (lines.register w ++ (symbols.call ∷ result_row None (Some c) x ws)) x c
  states_types w c x ws = record {
    before = lines.register w ++ (symbols.call ∷ []);
    types = types.called c;
    behind = lines.call_end (end_of ws);
    same = ap (λ l. lines.register w ++ (symbols.call ∷ symbols.void ∷ symbols.open_paren ∷ l)) (append_assoc (types.called c) (symbols.close_paren ∷ []) (name_row x ws))
        ∙ sym (append_assoc (lines.register w) (symbols.call ∷ []) (symbols.void ∷ symbols.open_paren ∷ (types.called c ++ (symbols.close_paren ∷ name_row x ws))));
    written = calm_fills (types.called c) (calm_called c);
  }

  module _ (m : Module) (names : HasNames m) (rs : Registers) (labels : List Name) where
    pub record NamesParts (s : Signature) (c : Call) (w : Option (Placed Name) × Parts) : Type 0 where
      pub register : IsResultNamed w.0 c.result c.name
      pub extensions : c.result_extensions ≡ extensions_of w.1.attributes
      pub result : IsResult m w.1.result c.result
      pub states : NamesStated m s w.1.called
      pub callee : c.callee ≡ w.1.callee.what
      pub arguments : AllZip (IsArgument m rs) w.1.arguments c.arguments

    -- what is read of the text
    parts : (c : Call) (fits : FitsCall m rs labels c) → Prints Ir Stops row_of (NamesParts fits.signature c) (call_text m.declarations c)
    parts c fits =
        read_as Ir row_of (NamesParts fits.signature c)
        (λ t. (t.0, record { attributes = t.1.0; result = t.1.1.0; called = t.1.1.1.0; callee = t.1.1.1.1.0; arguments = t.1.1.1.1.1 })) (λ t named. refl)
        (λ t named. record {
          register = named.0;
          extensions = sym named.1.0;
          result = named.1.1.0;
          states = named.1.1.1.0;
          callee = named.1.1.1.1.0;
          arguments = named.1.1.1.1.1;
        })
        (both Ir (register c.result c.name fits.names fits.named)
        (before Ir (marks.key Ir key.Call tt)
        (both Ir (extensions Ir c.result_extensions)
        (both Ir (result m names c.result fits.result)
        (before Ir (space Ir)
        (both Ir (states m names (called_in m.declarations c.callee) fits.signature fits.states)
        (both Ir (plain_global Ir c.callee fits.name fits.plain) (wherever Ir Stops (arguments m names rs labels c.arguments fits.arguments)) (λ rest end. refl))
        (λ rest end. tt))) (λ rest end. refl)) (λ rest end. tt))) (λ rest end. tt))

    names_call :
        (c : Call) (fits : FitsCall m rs labels c) (w : Option (Placed Name) × Parts) → NamesParts fits.signature c w
        → NamesCall m rs w.1.attributes w.1.result w.1.called w.1.callee (end_of w.1.arguments) c
    names_call c fits w named = record {
      extensions = named.extensions;
      result = named.result;
      callee = named.callee;
      signature = fits.signature;
      known = fits.known;
      called = named.states.0;
      arguments = named.arguments;
    }

    body_named :
        (c : Call) (stated : Stated) (w : Option (Placed Name)) (es : List ParamAttributeText) (r : Option TypeText) (of : Option CalledText) (x : Placed Name) (ws : List ArgumentText)
        → AllStated (lines.register w ++ (symbols.call ∷ (flat_map param_attribute es ++ result_row r of x ws))) stated
        → NamesCall m rs es r of x (end_of ws) c → IsCall m rs stated (body_of es r of x ws) c
    body_named c stated w (a ∷ es) r of x ws all named = named
    body_named c stated w [] (Some t) of x ws all named = named
    body_named c stated w [] None None x ws all named = named
    body_named c stated w [] None (Some d) x ws all named = (d, all x d (states_types w d x ws), named)

    no_drop : (es : List ParamAttributeText) (r : Option TypeText) (of : Option CalledText) (x : Placed Name) (ws : List ArgumentText) → is_dropped_call (body_of es r of x ws) ≡ false
    no_drop (a ∷ es) r of x ws = refl
    no_drop [] (Some t) of x ws = refl
    no_drop [] None of x ws = refl

    pub call : (c : Call) → FitsCall m rs labels c → Lays Any lines.line (λ stated (w : LineText). NamesLine m rs stated w (instr.Call c)) (indented (call_text m.declarations c))
    call c fits =
        of_prints lines.line (λ stated (w : LineText). NamesLine m rs stated w (instr.Call c)) line_of (λ t named. line_filled t)
        (λ stated t named all. record {
          is = (named.register, body_named c stated t.0 t.1.attributes t.1.result t.1.called t.1.callee t.1.arguments all (names_call c fits t named));
          kept = no_drop t.1.attributes t.1.result t.1.called t.1.callee t.1.arguments;
          tidy = tt;
        })
        (λ t named. row_sound t named.states.1) (on_line (parts c fits))
