-- What module a tree of the whole grammar names (LangRef 3.7, Module Structure, Identifiers).
use Rattle.std.specs.Prelude.{◌≡◌, ◌+◌, ℕ, Bool, true, false, cond, List, [], ◌∷◌, ◌++◌, map, Option, None, Some}
use Rattle.std.specs.List.{AllZip, filter_map}
use Rattle.ir_core.specs.declared.functions.Function.{Function}
use Rattle.ir_core.specs.declared.modules.Declaration.{Declaration}
use Rattle.ir_core.specs.declared.modules.GlobalVar.{GlobalVar}
use Rattle.ir_core.specs.declared.modules.Init.{Init}
use Rattle.ir_core.specs.declared.modules.Linkage.{Linkage}
use Rattle.ir_core.specs.declared.modules.Linkage.TheVariants as linkage
use Rattle.ir_core.specs.declared.modules.Module.{Module}
use Rattle.ir_core.specs.Modules.{those_before, those_behind}
use Rattle.ir_core.specs.Order.{AreInOrder}
use Rattle.ir_types.specs.declared.named.NamedTy.{NamedTy}
use Rattle.ir_types.specs.declared.names.Name.{Name}
use Rattle.ir_types.specs.declared.ty.Ty.{Ty}
use Rattle.module_grammar.specs.declared.constants.GlobalNameText.{GlobalNameText}
use Rattle.module_grammar.specs.declared.functions.DeclarationText.{DeclarationText}
use Rattle.module_grammar.specs.declared.functions.DefinitionText.{DefinitionText}
use Rattle.module_grammar.specs.declared.items.GlobalBodyText.{GlobalBodyText}
use Rattle.module_grammar.specs.declared.items.HeldText.{HeldText}
use Rattle.module_grammar.specs.declared.items.HeldText.TheVariants as held
use Rattle.module_grammar.specs.declared.items.HoldingWord.{HoldingWord}
use Rattle.module_grammar.specs.declared.items.HoldingWord.TheVariants as holding
use Rattle.module_grammar.specs.declared.items.ItemText.{ItemText}
use Rattle.module_grammar.specs.declared.items.ItemText.TheVariants as item
use Rattle.module_grammar.specs.declared.items.ModuleText.{ModuleText}
use Rattle.module_grammar.specs.declared.items.TypeBodyText.{TypeBodyText}
use Rattle.module_grammar.specs.declared.items.TypeBodyText.TheVariants as body
use Rattle.module_grammar.specs.declared.operators.LinkageWord.{LinkageWord}
use Rattle.module_grammar.specs.declared.places.Placed.{Placed}
use Rattle.module_grammar.specs.Operators.{linkage_of}
use Rattle.named_modules.specs.Constants.{IsInit, global_name}
use Rattle.named_modules.specs.Functions.{NamesDeclaration, NamesFunction, StatedParams, is_dropped_name}
use Rattle.named_modules.specs.Lines.{Stated}
use Rattle.named_modules.specs.Values.{IsAlign, IsType}

-- ---- items of a sort, in the order of the file

abbrev pub type_item : ItemText → Option (Placed Name × TypeBodyText)
type_item (item.Type name b) = Some (name, b)
type_item i = None

abbrev pub global_item : ItemText → Option (GlobalNameText × GlobalBodyText)
global_item (item.Global name b) = Some (name, b)
global_item i = None

abbrev pub definition_item : ItemText → Option DefinitionText
definition_item (item.Definition d) = Some d
definition_item i = None

-- a declaration that isn't dropped, behind so many definitions
abbrev pub declarations_at : ℕ → DeclarationText → List (ℕ × DeclarationText)
declarations_at count d = cond (is_dropped_name d.declared) [] ((count, d) ∷ [])

abbrev pub declarations_from : ℕ → List ItemText → List (ℕ × DeclarationText)
declarations_from count [] = []
declarations_from count (item.Declaration d ∷ is) = declarations_at count d ++ declarations_from count is
declarations_from count (item.Definition d ∷ is) = declarations_from (count + 1) is
declarations_from count (i ∷ is) = declarations_from count is

-- ---- named types

abbrev pub AreFields : Module → TypeBodyText → Option (List Ty) → Type 0
AreFields m body.Opaque fields = fields ≡ None
AreFields m (body.Struct at ws) None = ⊥
AreFields m (body.Struct at ws) (Some ts) = AllZip (IsType m) ws ts

-- `%pair = type { i32, i8* }`
abbrev pub IsNamedType : Module → Placed Name × TypeBodyText → NamedTy → Type 0
IsNamedType m w t = (t.name ≡ w.0.what) × AreFields m w.1 t.fields

-- ---- globals

abbrev pub is_constant : HoldingWord → Bool
is_constant holding.Global = false
is_constant holding.Constant = true

abbrev pub linkage_or_none : Option LinkageWord → Linkage
linkage_or_none None = linkage.External
linkage_or_none (Some w) = linkage_of w

-- one that is external holds nothing that is known
abbrev pub Holds : Module → Ty → HeldText → Linkage → Option Init → Type 0
Holds m t held.External l start = (l ≡ linkage.External) × (start ≡ None)
Holds m t (held.Init w i) l None = ⊥
Holds m t (held.Init w i) l (Some start) = (l ≡ linkage_or_none w) × IsInit m t i start

-- `@x = internal constant [2 x i8] c"a\00", align 1`
pub record IsGlobalVar (m : Module) (w : GlobalNameText × GlobalBodyText) (g : GlobalVar) : Type 0 where
  pub name : g.name ≡ (global_name w.0).what
  pub word : g.constant ≡ is_constant w.1.word
  pub ty : IsType m w.1.ty g.ty
  pub held : Holds m g.ty w.1.held g.linkage g.init
  pub align : IsAlign w.1.align g.align

-- ---- modules

-- the names of definitions and declarations in the order of the file, from the definition of that number on
abbrev pub names_in_file : ℕ → List Declaration → List Function → List Name
names_in_file count ds [] = map (λ (d : Declaration). d.name) ds
names_in_file count ds (f ∷ fs) =
    map (λ (d : Declaration). d.name) (those_before count ds) ++ f.name ∷ names_in_file (count + 1) (those_behind count ds) fs

-- globals come before all functions: what has no name among both has one count
abbrev pub global_names : Module → List Name
global_names m = map (λ (g : GlobalVar). g.name) m.globals ++ names_in_file 0 m.declarations m.functions

-- The items of a module, sort by sort. Named types have a count of their own, globals and functions one together. Targets, groups of
-- attributes and metadata name nothing.
pub record NamesModule (stated : Stated) (params : StatedParams) (w : ModuleText) (m : Module) : Type 0 where
  pub types : AllZip (IsNamedType m) (filter_map type_item w.items) m.types
  pub globals : AllZip (IsGlobalVar m) (filter_map global_item w.items) m.globals
  pub functions : AllZip (NamesFunction m stated) (filter_map definition_item w.items) m.functions
  pub declarations : AllZip (NamesDeclaration m params) (declarations_from 0 w.items) m.declarations
  pub type_order : AreInOrder (map (λ (t : NamedTy). t.name) m.types)
  pub order : AreInOrder (global_names m)
