-- What a tree names rests on what stands around its names alone.
use Rattle.std.proofs.Common.{ℕ, Bool, true, false, List, [], Option}
use Rattle.std.specs.List.{Contains, filter, filter_map, flat_map}
use Rattle.ir_core.specs.declared.functions.Block.{Block}
use Rattle.ir_core.specs.declared.functions.Call.{Call}
use Rattle.ir_core.specs.declared.functions.Function.{Function}
use Rattle.ir_core.specs.declared.functions.Instr.{Instr}
use Rattle.ir_core.specs.declared.functions.Instr.TheVariants as instr
use Rattle.ir_core.specs.declared.modules.Declaration.{Declaration}
use Rattle.ir_core.specs.declared.modules.Module.{Module}
use Rattle.ir_types.specs.declared.names.Name.{Name}
use Rattle.module_grammar.specs.declared.flow.BlockText.{BlockText}
use Rattle.module_grammar.specs.declared.functions.DeclarationText.{DeclarationText}
use Rattle.module_grammar.specs.declared.functions.DeclaredNameText.{DeclaredNameText}
use Rattle.module_grammar.specs.declared.functions.DeclaredNameText.TheVariants as declared
use Rattle.module_grammar.specs.declared.functions.DeclaredText.{DeclaredText}
use Rattle.module_grammar.specs.declared.functions.DefinitionText.{DefinitionText}
use Rattle.module_grammar.specs.declared.items.ModuleText.{ModuleText}
use Rattle.module_grammar.specs.declared.lines.CallBodyText.{CallBodyText}
use Rattle.module_grammar.specs.declared.lines.CallBodyText.TheVariants as call
use Rattle.module_grammar.specs.declared.lines.InstructionText.{InstructionText}
use Rattle.module_grammar.specs.declared.lines.InstructionText.TheVariants as instruction
use Rattle.module_grammar.specs.declared.lines.LineText.{LineText}
use Rattle.module_grammar.specs.declared.lines.VoidCallText.{VoidCallText}
use Rattle.module_grammar.specs.declared.lines.VoidCallText.TheVariants as of_void
use Rattle.module_grammar.specs.declared.places.Placed.{Placed}
use Rattle.module_grammar.specs.declared.types.CalledText.{CalledText}
use Rattle.module_spelling.specs.Spells.{StatesParams, StatesTypes}
use Rattle.named_modules.specs.Flow.{NamesBlock}
use Rattle.named_modules.specs.Functions.{IsDeclared, NamesDeclaration, NamesFunction, StatedParams, blocks_in, labels_of, registers_of}
use Rattle.named_modules.specs.Laws.{Is}
use Rattle.named_modules.specs.Lines.{AreLines, IsCall, IsInstruction, IsLine, IsVoidCallee, Stated, is_kept}
use Rattle.named_modules.specs.Modules.{NamesModule, declarations_from, definition_item}
use Rattle.named_modules.specs.Values.{Registers}
use Rattle.named_modules.proofs.Lists.{contains_here}
use Rattle.module_spelling.specs.Around.{called_in_block, called_in_body, called_in_definition, called_in_instruction, called_in_line, called_names, called_of_void, debug_declared, debug_name, declared_names}
use Rattle.module_spelling.specs.TokenLaws.{NamesRestOnTheseAlone}
use Rattle.module_spelling.proofs.Lists.{contains_flat, contains_kept, zip_over}

module _ (R S : Stated) (m : Module) where
  -- at each of these names
  abbrev Over : List (Placed Name) → Type 0
  Over names = (x : Placed Name) (c : CalledText) → Contains names x → R x c → S x c

  void_over :
      (rs : Registers) (is_stated : Bool) (w : VoidCallText) (c : Call)
      → Over (called_of_void is_stated w) → IsVoidCallee m rs R is_stated w c → IsVoidCallee m rs S is_stated w c
  void_over rs true (of_void.Call name end) c over is = (is.0, over name is.0 (contains_here name []) is.1, is.2)
  void_over rs false (of_void.Call name end) c over is = is
  void_over rs is_stated (of_void.Debug name attributes) c over is = is

  call_over : (rs : Registers) (w : CallBodyText) (c : Call) → Over (called_in_body w) → IsCall m rs R w c → IsCall m rs S w c
  call_over rs (call.Convention attributes callee end) c over is = is
  call_over rs (call.Attributes first others callee end) c over is = is
  call_over rs (call.Typed t called name end) c over is = is
  call_over rs (call.Void v) c over is = void_over rs v.is_stated v.call c over is

  instruction_over :
      (rs : Registers) (register : Option (Placed Name)) (w : InstructionText) (i : Instr)
      → Over (called_in_instruction w) → IsInstruction m rs R register w i → IsInstruction m rs S register w i
  instruction_over rs register w (instr.Calm c) over is = is
  instruction_over rs register (instruction.Call w) (instr.Call c) over is = (is.0, call_over rs w.body c over is.1)
  instruction_over rs register (instruction.Alloca w) (instr.Alloca a) over is = is
  instruction_over rs register (instruction.Store w) (instr.Store s) over is = is
  instruction_over rs register w i over is = absurd is

  lines_over : (rs : Registers) (ws : List LineText) (is : List Instr) → Over (flat_map called_in_line ws) → AreLines m rs R ws is → AreLines m rs S ws is
  lines_over rs ws is over are = (
    are.0,
    zip_over (IsLine m rs R) (IsLine m rs S) (filter is_kept ws) is
        (λ w i there. instruction_over rs w.register w.attached.instruction i (λ x c inside. over x c (contains_flat called_in_line ws w x (contains_kept is_kept ws w there) inside)))
        are.1,
  )

  block_over : (rs : Registers) (labels : List Name) (w : BlockText) (b : Block) → Over (called_in_block w) → NamesBlock m rs R labels w b → NamesBlock m rs S labels w b
  block_over rs labels w b over names =
      record { label = names.label; phis = names.phis; lines = lines_over rs w.body.lines b.body over names.lines; ends = names.ends }

  function_over : (w : DefinitionText) (f : Function) → Over (called_in_definition w) → NamesFunction m R w f → NamesFunction m S w f
  function_over w f over names = record {
    linkage = names.linkage;
    extensions = names.extensions;
    result = names.result;
    name = names.name;
    params = names.params;
    blocks = zip_over (NamesBlock m (registers_of m f) R (labels_of f)) (NamesBlock m (registers_of m f) S (labels_of f)) (blocks_in w) f.blocks
        (λ b c there. block_over (registers_of m f) (labels_of f) b c (λ x t inside. over x t (contains_flat called_in_block (blocks_in w) b x there inside)))
        names.blocks;
    order = names.order;
    few = names.few;
  }

module _ (P Q : StatedParams) (m : Module) where
  abbrev OverDeclared : List (Placed Name) → Type 0
  OverDeclared names = (x : Placed Name) (c : DeclaredText) → Contains names x → P x c → Q x c

  declared_over : (w : DeclaredNameText) (d : Declaration) → OverDeclared (debug_name w) → IsDeclared m P w d → IsDeclared m Q w d
  declared_over (declared.Plain name params end) d over is = is
  declared_over (declared.Debug name end) d over is = (is.0, over name is.0 (contains_here name []) is.1, is.2)

  declaration_over : (w : ℕ × DeclarationText) (d : Declaration) → OverDeclared (debug_declared w) → NamesDeclaration m P w d → NamesDeclaration m Q w d
  declaration_over w d over names = record {
    before = names.before;
    extensions = names.extensions;
    result = names.result;
    name = names.name;
    params = declared_over w.1.declared d over names.params;
  }

-- whatever is told of what stands around names
pub names_rest :
    (R S : Stated) (P Q : StatedParams) (tree : ModuleText) (m : Module)
    → ((x : Placed Name) (c : CalledText) → Contains (called_names tree) x → R x c → S x c)
    → ((x : Placed Name) (c : DeclaredText) → Contains (declared_names tree) x → P x c → Q x c)
    → NamesModule R P tree m → NamesModule S Q tree m
names_rest R S P Q tree m over declared names = record {
  types = names.types;
  globals = names.globals;
  functions = zip_over (NamesFunction m R) (NamesFunction m S) definitions m.functions
      (λ w f there. function_over R S m w f (λ x c inside. over x c (contains_flat called_in_definition definitions w x there inside)))
      names.functions;
  declarations = zip_over (NamesDeclaration m P) (NamesDeclaration m Q) declarations m.declarations
      (λ w d there. declaration_over P Q m w d (λ x c inside. declared x c (contains_flat debug_declared declarations w x there inside)))
      names.declarations;
  type_order = names.type_order;
  order = names.order;
}
  where
    definitions : List DefinitionText
    definitions = filter_map definition_item tree.items

    declarations : List (ℕ × DeclarationText)
    declarations = declarations_from 0 tree.items

pub names_rest_on_these_alone : NamesRestOnTheseAlone
names_rest_on_these_alone stated params symbols tree m of_called of_declared = (
  names_rest (StatesTypes symbols) (Is stated) (StatesParams symbols) (Is params) tree m
      (λ x c there. (of_called x c there).0)
      (λ x c there. (of_declared x c there).0),
  names_rest (Is stated) (StatesTypes symbols) (Is params) (StatesParams symbols) tree m
      (λ x c there. (of_called x c there).1)
      (λ x c there. (of_declared x c there).1),
)
