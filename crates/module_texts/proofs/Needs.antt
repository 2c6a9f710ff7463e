-- What a named module needs to be told of the names around which stands what a tree doesn't keep: some pairs, and no more.
use Rattle.std.proofs.Common.{ℕ, Bool, true, false, List, [], ◌∷◌, ◌++◌, Option}
use Rattle.std.specs.List.{AllByRecursion, AllZip, filter, filter_map}
use Rattle.ir_core.specs.declared.functions.Block.{Block}
use Rattle.ir_core.specs.declared.functions.Call.{Call}
use Rattle.ir_core.specs.declared.functions.Function.{Function}
use Rattle.ir_core.specs.declared.functions.Instr.{Instr}
use Rattle.ir_core.specs.declared.functions.Instr.TheVariants as instr
use Rattle.ir_core.specs.declared.modules.Declaration.{Declaration}
use Rattle.ir_core.specs.declared.modules.Module.{Module}
use Rattle.ir_types.specs.declared.names.Name.{Name}
use Rattle.module_grammar.specs.declared.flow.BlockText.{BlockText}
use Rattle.module_grammar.specs.declared.functions.DeclarationText.{DeclarationText}
use Rattle.module_grammar.specs.declared.functions.DeclaredNameText.{DeclaredNameText}
use Rattle.module_grammar.specs.declared.functions.DeclaredNameText.TheVariants as declared
use Rattle.module_grammar.specs.declared.functions.DeclaredText.{DeclaredText}
use Rattle.module_grammar.specs.declared.functions.DefinitionText.{DefinitionText}
use Rattle.module_grammar.specs.declared.items.ModuleText.{ModuleText}
use Rattle.module_grammar.specs.declared.lines.CallBodyText.{CallBodyText}
use Rattle.module_grammar.specs.declared.lines.CallBodyText.TheVariants as body
use Rattle.module_grammar.specs.declared.lines.CallEndText.{CallEndText}
use Rattle.module_grammar.specs.declared.lines.InstructionText.{InstructionText}
use Rattle.module_grammar.specs.declared.lines.InstructionText.TheVariants as instruction
use Rattle.module_grammar.specs.declared.lines.LineText.{LineText}
use Rattle.module_grammar.specs.declared.lines.VoidCallText.{VoidCallText}
use Rattle.module_grammar.specs.declared.lines.VoidCallText.TheVariants as of_void
use Rattle.module_grammar.specs.declared.places.Placed.{Placed}
use Rattle.module_grammar.specs.declared.types.CalledText.{CalledText}
use Rattle.named_modules.specs.Flow.{NamesBlock}
use Rattle.named_modules.specs.Functions.{IsDeclared, NamesDeclaration, NamesFunction, StatedParams, blocks_in, labels_of, registers_of}
use Rattle.named_modules.specs.Lines.{IsCall, IsInstruction, IsLine, IsVoidCall, IsVoidCallee, Stated, is_kept}
use Rattle.named_modules.specs.Modules.{NamesModule, declarations_from, definition_item}
use Rattle.named_modules.specs.Values.{Registers}
use Rattle.module_texts.proofs.Lists.{all_joined, all_parted}

-- these are told, and it holds wherever they are
pub record Needs {T C : Type 0} (R : T → C → Type 0) (N : (T → C → Type 0) → Type 0) : Type 1 where
  pub pairs : List (T × C)
  pub told : AllByRecursion (λ (p : T × C). R p.0 p.1) pairs
  pub holds : (S : T → C → Type 0) → AllByRecursion (λ (p : T × C). S p.0 p.1) pairs → N S

module _ {T C : Type 0} (R : T → C → Type 0) where
  nothing : (N : Type 0) → N → Needs R (λ S. N)
  nothing N is = record { pairs = []; told = tt; holds = λ S h. is }

  each : {A B : Type 0} (N : (T → C → Type 0) → A → B → Type 0) → ((a : A) (b : B) → N R a b → Needs R (λ S. N S a b)) → (xs : List A) (ys : List B) → AllZip (N R) xs ys → Needs R (λ S. AllZip (N S) xs ys)
  each N f [] [] h = nothing (Unit {0}) tt
  each N f [] (y ∷ ys) h = absurd h
  each N f (x ∷ xs) [] h = absurd h
  each N f (x ∷ xs) (y ∷ ys) h =
      let first = f x y h.0 in
      let rest = each N f xs ys h.1 in
      record {
        pairs = first.pairs ++ rest.pairs;
        told = all_joined (λ (p : T × C). R p.0 p.1) first.pairs rest.pairs first.told rest.told;
        holds = λ S t. let parts = all_parted (λ (p : T × C). S p.0 p.1) first.pairs rest.pairs t in (first.holds S parts.0, rest.holds S parts.1);
      }

-- ---- calls

module _ (m : Module) (R : Stated) where
  void_call : (rs : Registers) (is_stated : Bool) (x : Placed Name) (end : CallEndText) (c : Call) → IsVoidCall m rs R is_stated x end c → Needs R (λ S. IsVoidCall m rs S is_stated x end c)
  void_call rs false x end c is = nothing R (IsVoidCall m rs R false x end c) is
  void_call rs true x end c is = record { pairs = (x, is.0) ∷ []; told = (is.1, tt); holds = λ S t. (is.0, t.0, is.2) }

  void_callee : (rs : Registers) (is_stated : Bool) (v : VoidCallText) (c : Call) → IsVoidCallee m rs R is_stated v c → Needs R (λ S. IsVoidCallee m rs S is_stated v c)
  void_callee rs is_stated (of_void.Call x end) c is = void_call rs is_stated x end c is
  void_callee rs is_stated (of_void.Debug x attributes) c is = absurd is

  call : (rs : Registers) (b : CallBodyText) (c : Call) → IsCall m rs R b c → Needs R (λ S. IsCall m rs S b c)
  call rs (body.Void v) c is = void_callee rs v.is_stated v.call c is
  call rs (body.Convention attributes callee end) c is = nothing R (IsCall m rs R (body.Convention attributes callee end) c) is
  call rs (body.Attributes first others callee end) c is = nothing R (IsCall m rs R (body.Attributes first others callee end) c) is
  call rs (body.Typed t called x end) c is = nothing R (IsCall m rs R (body.Typed t called x end) c) is

  line_of : (rs : Registers) (register : Option (Placed Name)) (w : InstructionText) (i : Instr) → IsInstruction m rs R register w i → Needs R (λ S. IsInstruction m rs S register w i)
  line_of rs register w (instr.Calm c) is = nothing R (IsInstruction m rs R register w (instr.Calm c)) is
  line_of rs register (instruction.Alloca w) (instr.Alloca a) is = nothing R (IsInstruction m rs R register (instruction.Alloca w) (instr.Alloca a)) is
  line_of rs register (instruction.Store w) (instr.Store s) is = nothing R (IsInstruction m rs R register (instruction.Store w) (instr.Store s)) is
  line_of rs register (instruction.Call w) (instr.Call c) is =
      let rest = call rs w.body c is.1 in
      record { pairs = rest.pairs; told = rest.told; holds = λ S t. (is.0, rest.holds S t) }
  line_of rs register w i is = absurd is

  line : (rs : Registers) (w : LineText) (i : Instr) → IsLine m rs R w i → Needs R (λ S. IsLine m rs S w i)
  line rs w i is = line_of rs w.register w.attached.instruction i is

  block : (rs : Registers) (labels : List Name) (w : BlockText) (b : Block) → NamesBlock m rs R labels w b → Needs R (λ S. NamesBlock m rs S labels w b)
  block rs labels w b is =
      let rest = each R (IsLine m rs) (line rs) (filter is_kept w.body.lines) b.body is.lines.1 in
      record {
        pairs = rest.pairs;
        told = rest.told;
        holds = λ S t. record { label = is.label; phis = is.phis; lines = (is.lines.0, rest.holds S t); ends = is.ends };
      }

  function : (w : DefinitionText) (f : Function) → NamesFunction m R w f → Needs R (λ S. NamesFunction m S w f)
  function w f is =
      let rest = each R (λ S. NamesBlock m (registers_of m f) S (labels_of f)) (block (registers_of m f) (labels_of f)) (blocks_in w) f.blocks is.blocks in
      record {
        pairs = rest.pairs;
        told = rest.told;
        holds = λ S t. record {
          linkage = is.linkage;
          extensions = is.extensions;
          result = is.result;
          name = is.name;
          params = is.params;
          blocks = rest.holds S t;
          order = is.order;
          few = is.few;
        };
      }

-- ---- declarations

module _ (m : Module) (R : StatedParams) where
  declared_name : (w : DeclaredNameText) (d : Declaration) → IsDeclared m R w d → Needs R (λ S. IsDeclared m S w d)
  declared_name (declared.Plain x params end) d is = nothing R (IsDeclared m R (declared.Plain x params end) d) is
  declared_name (declared.Debug x end) d is = record { pairs = (x, is.0) ∷ []; told = (is.1, tt); holds = λ S t. (is.0, t.0, is.2) }

  declaration : (w : ℕ × DeclarationText) (d : Declaration) → NamesDeclaration m R w d → Needs R (λ S. NamesDeclaration m S w d)
  declaration w d is =
      let rest = declared_name w.1.declared d is.params in
      record {
        pairs = rest.pairs;
        told = rest.told;
        holds = λ S t. record { before = is.before; extensions = is.extensions; result = is.result; name = is.name; params = rest.holds S t };
      }

-- ---- modules

-- pairs of both sorts are told, and wherever they are the tree names the module
pub record NeedsBoth (R : Stated) (P : StatedParams) (w : ModuleText) (m : Module) : Type 1 where
  pub calls : Needs R (λ S. AllZip (NamesFunction m S) (filter_map definition_item w.items) m.functions)
  pub declarations : Needs P (λ Q. AllZip (NamesDeclaration m Q) (declarations_from 0 w.items) m.declarations)
  pub names : NamesModule R P w m

pub needs : (R : Stated) (P : StatedParams) (w : ModuleText) (m : Module) → NamesModule R P w m → NeedsBoth R P w m
needs R P w m is = record {
  calls = each R (NamesFunction m) (function m R) (filter_map definition_item w.items) m.functions is.functions;
  declarations = each P (NamesDeclaration m) (declaration m P) (declarations_from 0 w.items) m.declarations is.declarations;
  names = is;
}

-- the tree names the same where these are told
pub retold :
    (R S : Stated) (P Q : StatedParams) (w : ModuleText) (m : Module) (n : NeedsBoth R P w m)
    → AllByRecursion (λ (p : Placed Name × CalledText). S p.0 p.1) n.calls.pairs
    → AllByRecursion (λ (p : Placed Name × DeclaredText). Q p.0 p.1) n.declarations.pairs → NamesModule S Q w m
retold R S P Q w m n called declared = record {
  types = n.names.types;
  globals = n.names.globals;
  functions = n.calls.holds S called;
  declarations = n.declarations.holds Q declared;
  type_order = n.names.type_order;
  order = n.names.order;
}
