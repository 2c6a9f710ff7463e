-- What is at fault in a tree rests on what stands around the names of which the tree doesn't keep it, and on nothing else that is told of names.
use Rattle.std.proofs.Common.{◌≡◌, ◌+◌, ℕ, Bool, true, false, cond, List, [], ◌∷◌, ◌++◌, map, Some, None, refl, ap, ◌∙◌}
use Rattle.std.specs.List.{AllByRecursion, filter_map, flat_map}
use Rattle.ir_core.specs.declared.modules.Declaration.{Declaration}
use Rattle.ir_core.specs.declared.modules.Module.{Module}
use Rattle.ir_types.specs.declared.names.Name.{Name}
use Rattle.module_grammar.specs.declared.flow.BlockText.{BlockText}
use Rattle.module_grammar.specs.declared.functions.DeclarationText.{DeclarationText}
use Rattle.module_grammar.specs.declared.functions.DeclaredNameText.{DeclaredNameText}
use Rattle.module_grammar.specs.declared.functions.DeclaredNameText.TheVariants as declared
use Rattle.module_grammar.specs.declared.functions.DeclaredText.{DeclaredText}
use Rattle.module_grammar.specs.declared.functions.DefinitionText.{DefinitionText}
use Rattle.module_grammar.specs.declared.items.ItemText.{ItemText}
use Rattle.module_grammar.specs.declared.items.ItemText.TheVariants as item
use Rattle.module_grammar.specs.declared.items.ModuleText.{ModuleText}
use Rattle.module_grammar.specs.declared.lines.CallBodyText.{CallBodyText}
use Rattle.module_grammar.specs.declared.lines.CallBodyText.TheVariants as call
use Rattle.module_grammar.specs.declared.lines.InstructionText.{InstructionText}
use Rattle.module_grammar.specs.declared.lines.InstructionText.TheVariants as instruction
use Rattle.module_grammar.specs.declared.lines.LineText.{LineText}
use Rattle.module_grammar.specs.declared.lines.VoidCallText.{VoidCallText}
use Rattle.module_grammar.specs.declared.lines.VoidCallText.TheVariants as of_void
use Rattle.module_grammar.specs.declared.places.Placed.{Placed}
use Rattle.module_grammar.specs.declared.types.CalledText.{CalledText}
use Rattle.named_modules.specs.Built.{declaration_of, declared_param, declared_params, function_of, global_of, module_of, result_of, types_of}
use Rattle.named_modules.specs.Constants.{global_name}
use Rattle.named_modules.specs.Faults.{Heads, Things, block_faults, call_faults, called_faults, declaration_faults, faults_of, function_faults, function_written, global_name_faults, heads_of, instruction_faults, item_faults, line_faults, param_faults, phi_faults, result_faults, term_faults, things_of, type_name_faults, void_faults, written_faults}
use Rattle.named_modules.specs.Functions.{blocks_in, is_dropped_name, name_declared}
use Rattle.named_modules.specs.Modules.{declarations_from, definition_item, global_item}
use Rattle.named_modules.specs.Values.{extensions_of}
use Rattle.module_spelling.specs.Around.{called_in_block, called_in_body, called_in_definition, called_in_instruction, called_in_line, called_names, called_of_void, debug_declared, debug_name, declared_names}
use Rattle.module_texts.proofs.Lists.{all_parted}

-- the same is told of each of these names
abbrev pub AreAlike : {C : Type 0} → (Placed Name → C) → (Placed Name → C) → List (Placed Name) → Type 0
AreAlike s t = AllByRecursion (λ x. s x ≡ t x)

flat_same :
    {A B C : Type 0} (s t : Placed Name → C) (f g : A → List B) (names : A → List (Placed Name)) → ((x : A) → AreAlike s t (names x) → f x ≡ g x)
    → (xs : List A) → AreAlike s t (flat_map names xs) → flat_map f xs ≡ flat_map g xs
flat_same s t f g names each [] same = refl
flat_same s t f g names each (x ∷ xs) same =
    let parts = all_parted (λ x. s x ≡ t x) (names x) (flat_map names xs) same in
    ap (λ l. l ++ flat_map f xs) (each x parts.0) ∙ ap (λ l. g x ++ l) (flat_same s t f g names each xs parts.1)

-- ---- functions

module _ (s t : Placed Name → CalledText) (h : Heads) where
  of_void_call : (ts : Things) (is_stated : Bool) (v : VoidCallText) → AreAlike s t (called_of_void is_stated v) → void_faults h s ts is_stated v ≡ void_faults h t ts is_stated v
  of_void_call ts true (of_void.Call x end) same = ap (λ c. called_faults h ts None (Some c) x end) same.0
  of_void_call ts false (of_void.Call x end) same = refl
  of_void_call ts is_stated (of_void.Debug x attributes) same = refl

  of_call : (ts : Things) (b : CallBodyText) → AreAlike s t (called_in_body b) → call_faults h s ts b ≡ call_faults h t ts b
  of_call ts (call.Convention attributes c end) same = refl
  of_call ts (call.Attributes first others c end) same = refl
  of_call ts (call.Typed ty called x end) same = refl
  of_call ts (call.Void v) same = of_void_call ts v.is_stated v.call same

  of_instruction : (ts : Things) (w : InstructionText) → AreAlike s t (called_in_instruction w) → instruction_faults h s ts w ≡ instruction_faults h t ts w
  of_instruction ts (instruction.Operation w) same = refl
  of_instruction ts (instruction.Element w) same = refl
  of_instruction ts (instruction.Alloca w) same = refl
  of_instruction ts (instruction.Load w) same = refl
  of_instruction ts (instruction.Store w) same = refl
  of_instruction ts (instruction.Call w) same = of_call ts w.body same

  of_line : (ts : Things) (w : LineText) → AreAlike s t (called_in_line w) → line_faults h s ts w ≡ line_faults h t ts w
  of_line ts w same = of_instruction ts w.attached.instruction same

  of_block : (ts : Things) (w : BlockText) → AreAlike s t (called_in_block w) → block_faults h s ts w ≡ block_faults h t ts w
  of_block ts w same =
      ap (λ l. flat_map (phi_faults h ts) w.body.phis ++ (l ++ term_faults h ts w.end.term))
      (flat_same s t (line_faults h s ts) (line_faults h t ts) called_in_line (of_line ts) w.body.lines same)

  of_function : (w : DefinitionText) → AreAlike s t (called_in_definition w) → function_faults h s w ≡ function_faults h t w
  of_function w same =
      let ts = things_of h.types (function_of h.types w) in
      ap
      (λ l. result_faults h w.head.result.ty ++ (flat_map (param_faults h) w.head.params ++ (l ++ written_faults (global_name w.head.name) [] 0 (function_written w))))
      (flat_same s t (block_faults h s ts) (block_faults h t ts) called_in_block (of_block ts) (blocks_in w) same)

-- ---- declarations

of_params : (p q : Placed Name → DeclaredText) (w : DeclaredNameText) → AreAlike p q (debug_name w) → declared_params p w ≡ declared_params q w
of_params p q (declared.Plain x params end) same = refl
of_params p q (declared.Debug x end) same = same.0

-- a declaration that is built with these parameters
abbrev with_params : ℕ × DeclarationText → DeclaredText → Declaration
with_params d w = record {
  result_extensions = extensions_of d.1.result.attributes;
  result = result_of d.1.result.ty;
  name = (name_declared d.1.declared).what;
  params = map declared_param w.params;
  variadic = w.is_open;
  before = d.0;
}

of_declarations : (p q : Placed Name → DeclaredText) (ds : List (ℕ × DeclarationText)) → AreAlike p q (flat_map debug_declared ds) → map (declaration_of p) ds ≡ map (declaration_of q) ds
of_declarations p q [] same = refl
of_declarations p q (d ∷ ds) same =
    let parts = all_parted (λ x. p x ≡ q x) (debug_declared d) (flat_map debug_declared ds) same in
    let first : declaration_of p d ≡ declaration_of q d = ap (with_params d) (of_params p q d.1.declared parts.0) in
    ap (λ e. e ∷ map (declaration_of p) ds) first ∙ ap (λ l. declaration_of q d ∷ l) (of_declarations p q ds parts.1)

abbrev with_declarations : ModuleText → List Declaration → Module
with_declarations w ds = record {
  types = types_of w;
  globals = map global_of (filter_map global_item w.items);
  functions = map (function_of (types_of w)) (filter_map definition_item w.items);
  declarations = ds;
}

pub built_same : (p q : Placed Name → DeclaredText) (w : ModuleText) → AreAlike p q (declared_names w) → module_of p w ≡ module_of q w
built_same p q w same = ap (with_declarations w) (of_declarations p q (declarations_from 0 w.items) same)

-- what is at fault in a declaration that is dropped or not, and what is told of those behind it
of_declaration :
    (h : Heads) (p q : Placed Name → DeclaredText) (count : ℕ) (d : DeclarationText) (more : List (ℕ × DeclarationText)) (dropped : Bool)
    → AreAlike p q (flat_map debug_declared (cond dropped [] ((count, d) ∷ []) ++ more))
    → (cond dropped [] (result_faults h d.result.ty ++ flat_map (param_faults h) (declared_params p d.declared).params)
    ≡ cond dropped [] (result_faults h d.result.ty ++ flat_map (param_faults h) (declared_params q d.declared).params))
    × AreAlike p q (flat_map debug_declared more)
of_declaration h p q count d more true same = (refl, same)
of_declaration h p q count d more false same =
    let parts = all_parted (λ x. p x ≡ q x) (debug_name d.declared) (flat_map debug_declared more) same in
    (ap (λ (w : DeclaredText). result_faults h d.result.ty ++ flat_map (param_faults h) w.params) (of_params p q d.declared parts.0), parts.1)

-- ---- modules

module _ (s t : Placed Name → CalledText) (p q : Placed Name → DeclaredText) (h : Heads) where
  of_items :
      (count : ℕ) (items : List ItemText) → AreAlike s t (flat_map called_in_definition (filter_map definition_item items))
      → AreAlike p q (flat_map debug_declared (declarations_from count items)) → flat_map (item_faults h s p) items ≡ flat_map (item_faults h t q) items
  of_items count [] calls params = refl
  of_items count (item.Declaration d ∷ items) calls params =
      let here = of_declaration h p q count d (declarations_from count items) (is_dropped_name d.declared) params in
      ap (λ l. l ++ flat_map (item_faults h s p) items) here.0 ∙ ap (λ l. declaration_faults h q d ++ l) (of_items count items calls here.1)
  of_items count (item.Definition d ∷ items) calls params =
      let parts = all_parted (λ x. s x ≡ t x) (called_in_definition d) (flat_map called_in_definition (filter_map definition_item items)) calls in
      ap (λ l. l ++ flat_map (item_faults h s p) items) (of_function s t h d parts.0) ∙ ap (λ l. function_faults h t d ++ l) (of_items (count + 1) items parts.1 params)
  of_items count (item.Type x b ∷ items) calls params = ap (λ l. item_faults h t q (item.Type x b) ++ l) (of_items count items calls params)
  of_items count (item.Global x b ∷ items) calls params = ap (λ l. item_faults h t q (item.Global x b) ++ l) (of_items count items calls params)
  of_items count (item.Target ∷ items) calls params = of_items count items calls params
  of_items count (item.Attributes at ∷ items) calls params = of_items count items calls params
  of_items count (item.Metadata is_distinct meta ∷ items) calls params = of_items count items calls params

pub faults_same :
    (s t : Placed Name → CalledText) (p q : Placed Name → DeclaredText) (w : ModuleText) → AreAlike s t (called_names w) → AreAlike p q (declared_names w)
    → faults_of s p w ≡ faults_of t q w
faults_same s t p q w calls params =
    ap (λ m. flat_map (item_faults (heads_of m) s p) w.items ++ (global_name_faults w.items ++ type_name_faults w.items)) (built_same p q w params)
    ∙ ap (λ l. l ++ (global_name_faults w.items ++ type_name_faults w.items)) (of_items s t p q (heads_of (module_of q w)) 0 w.items calls params)
