-- A module that a text of bytes spells is in range.
use Rattle.std.proofs.Common.{◌≡◌, ℕ, suc, ◌+◌, ◌≤◌, Bool, true, false, cond, List, [], ◌∷◌, ◌++◌, length, Option, Some, None, refl, sym, ap, subst, arith}
use Rattle.std.specs.List.{AllByRecursion, AllZip, cons_option, filter_map, flat_map}
use Rattle.std.proofs.lemmas.Bool.{cond_both}
use Rattle.ir_core.proofs.Narrow.{all_so}
use Rattle.ir_core.specs.Ranges.{IsDeclarationInRange, IsFunctionInRange, IsGlobalInRange, IsInRange, IsNameInRange, IsNamedTypeInRange, IsStartInRange, IsTypeInRange, StandBehind, init_written}
use Rattle.ir_core.specs.declared.modules.Declaration.{Declaration}
use Rattle.ir_core.specs.declared.modules.GlobalVar.{GlobalVar}
use Rattle.ir_core.specs.declared.modules.Init.{Init}
use Rattle.ir_core.specs.declared.modules.Linkage.{Linkage}
use Rattle.ir_core.specs.declared.modules.Module.{Module}
use Rattle.ir_types.specs.Named.{fields_or_none}
use Rattle.ir_types.specs.declared.named.NamedTy.{NamedTy}
use Rattle.ir_types.specs.declared.names.Name.{Name}
use Rattle.ir_types.specs.declared.ty.Ty.{Ty}
use Rattle.module_grammar.specs.Attributes.{unnamed_addr}
use Rattle.module_grammar.specs.Functions as functions
use Rattle.module_grammar.specs.Lines.{align}
use Rattle.module_grammar.specs.Modules as modules
use Rattle.module_grammar.specs.Symbols.{Symbol, Holding, close_brace}
use Rattle.module_grammar.specs.Types as types
use Rattle.module_grammar.specs.declared.constants.GlobalNameText.{GlobalNameText}
use Rattle.module_grammar.specs.declared.functions.DeclarationText.{DeclarationText}
use Rattle.module_grammar.specs.declared.functions.DefinitionText.{DefinitionText}
use Rattle.module_grammar.specs.declared.items.GlobalBodyText.{GlobalBodyText}
use Rattle.module_grammar.specs.declared.items.HeldText.{HeldText}
use Rattle.module_grammar.specs.declared.items.HeldText.TheVariants as held
use Rattle.module_grammar.specs.declared.items.ItemText.{ItemText}
use Rattle.module_grammar.specs.declared.items.ItemText.TheVariants as item
use Rattle.module_grammar.specs.declared.items.ModuleText.{ModuleText}
use Rattle.module_grammar.specs.declared.items.TypeBodyText.{TypeBodyText}
use Rattle.module_grammar.specs.declared.items.TypeBodyText.TheVariants as body
use Rattle.module_grammar.specs.declared.places.Placed.{Placed}
use Rattle.module_spelling.specs.Spells.{StatesParams, StatesTypes}
use Rattle.named_modules.proofs.Lists.{all_append, all_left, all_right}
use Rattle.named_modules.specs.Functions.{NamesDeclaration, NamesFunction, StatedParams, is_dropped_name}
use Rattle.named_modules.specs.Modules.{AreFields, Holds, IsGlobalVar, IsNamedType, NamesModule, declarations_at, declarations_from, definition_item, global_item, type_item}
use Rattle.named_modules.specs.Values.{IsType}
use Rattle.module_texts.proofs.SpelledLimits.FunctionRanges.{declaration_range, function_range}
use Rattle.module_texts.proofs.SpelledLimits.InitRanges.{init_range}
use Rattle.module_texts.proofs.SpelledLimits.Lists.{all_zipped, listed_each}
use Rattle.module_texts.proofs.SpelledLimits.SymbolRanges.{AllInRange, IsSymbolInRange, text_in_range}
use Rattle.module_texts.proofs.SpelledLimits.SymbolRanges as symbols
use Rattle.module_texts.proofs.SpelledLimits.TypeRanges.{AreNamedWritten, IsTypeWritten, IsWritten, written_in_range}
use Rattle.module_texts.proofs.SpelledLimits.ValueRanges.{align_range, global_range, type_there}
use Rattle.module_texts.specs.SpelledLimits.Ranges.{ModulesAreInRange}

-- ---- items of a sort

abbrev IsSo : {A : Type 0} → (A → Type 0) → Option A → Type 0
IsSo P None = Unit {0}
IsSo P (Some x) = P x

with_first : {A : Type 0} (P : A → Type 0) (o : Option A) (xs : List A) → IsSo P o → AllByRecursion P xs → AllByRecursion P (cons_option o xs)
with_first P None xs one more = more
with_first P (Some x) xs one more = (one, more)

-- what holds of each item of a sort, as it is written
of_sort : {A : Type 0} (P : A → Type 0) (pick : ItemText → Option A) → ((i : ItemText) → AllInRange (modules.item i) → IsSo P (pick i)) → (is : List ItemText) → AllInRange (flat_map modules.item is) → AllByRecursion P (filter_map pick is)
of_sort P pick each [] all = tt
of_sort P pick each (i ∷ is) all =
    with_first P (pick i) (filter_map pick is) (each i (all_left IsSymbolInRange (modules.item i) (flat_map modules.item is) all))
    (of_sort P pick each is (all_right IsSymbolInRange (modules.item i) (flat_map modules.item is) all))

-- ---- named types

abbrev IsTypeItemWritten : Placed Name × TypeBodyText → Type 0
IsTypeItemWritten w = IsNameInRange w.0.what × AllInRange (modules.type_body w.1)

type_items : (i : ItemText) → AllInRange (modules.item i) → IsSo IsTypeItemWritten (type_item i)
type_items (item.Type name b) all = (all.0, all.1.1.1)
type_items i all = tt

fields_range : (m : Module) (w : TypeBodyText) (fields : Option (List Ty)) → AllInRange (modules.type_body w) → AreFields m w fields → AllByRecursion IsTypeInRange (fields_or_none fields)
fields_range m body.Opaque fields all is = subst (λ o. AllByRecursion IsTypeInRange (fields_or_none o)) (sym is) tt
fields_range m (body.Struct at ws) None all is = absurd is
fields_range m (body.Struct at ws) (Some ts) all is =
    all_zipped IsTypeWritten (IsType m) IsTypeInRange (λ w t there named. type_there w t there named.0) ws ts
    (listed_each IsSymbolInRange types.ty ws (all_left IsSymbolInRange (types.types ws) (close_brace ∷ []) all.1)) is

named_type_range : (m : Module) (w : Placed Name × TypeBodyText) (t : NamedTy) → IsTypeItemWritten w → IsNamedType m w t → IsNamedTypeInRange t
named_type_range m w t all is = record {
  name = subst IsNameInRange (sym is.0) all.0;
  fields = fields_range m w.1 t.fields all.1 is.1;
}

named_written : (ts : List NamedTy) → AllByRecursion IsNamedTypeInRange ts → AreNamedWritten ts
named_written ts all =
    all_so IsNamedTypeInRange (λ (t : NamedTy). AllByRecursion IsWritten (fields_or_none t.fields))
    (λ t one. all_so IsTypeInRange IsWritten written_in_range (fields_or_none t.fields) one.fields) ts all

-- ---- globals

abbrev IsGlobalItemWritten : GlobalNameText × GlobalBodyText → Type 0
IsGlobalItemWritten w = AllInRange (modules.item (item.Global w.0 w.1))

global_items : (i : ItemText) → AllInRange (modules.item i) → IsSo IsGlobalItemWritten (global_item i)
global_items (item.Global name b) all = all
global_items i all = tt

start_range : (m : Module) (t : Ty) (w : HeldText) (l : Linkage) (start : Option Init) → AllInRange (modules.held w) → Holds m t w l start → IsStartInRange l t start
start_range m t held.External l start all is = subst (IsStartInRange l t) (sym is.1) is.0
start_range m t (held.Init word w) l None all is = absurd is
start_range m t (held.Init word w) l (Some i) all is = subst (λ i. init_written t i ≡ true) (sym is.1.0) (init_range m w t all is.1.1)

global_var_range : (m : Module) (w : GlobalNameText × GlobalBodyText) (g : GlobalVar) → IsGlobalItemWritten w → IsGlobalVar m w g → IsGlobalInRange g
global_var_range m w g all is =
    let rest : List Symbol = modules.held w.1.held ++ align w.1.align in
    let typed : List Symbol = Holding w.1.word ∷ (types.ty w.1.ty ++ rest) in
    let behind = all_right IsSymbolInRange (modules.held_where w.1.held) (unnamed_addr w.1.unnamed_addr ++ typed) all.1.1 in
    let inside = (all_right IsSymbolInRange (unnamed_addr w.1.unnamed_addr) typed behind).1 in
    let start = all_left IsSymbolInRange (modules.held w.1.held) (align w.1.align) (all_right IsSymbolInRange (types.ty w.1.ty) rest inside) in
    record {
      name = subst IsNameInRange (sym is.name) (global_range w.0 all.0);
      ty = type_there w.1.ty g.ty (all_left IsSymbolInRange (types.ty w.1.ty) rest inside) is.ty.0;
      init = start_range m g.ty w.1.held g.linkage g.init start is.held;
      align = align_range w.1.align g.align is.align;
    }

-- ---- functions

abbrev IsDefinitionWritten : DefinitionText → Type 0
IsDefinitionWritten w = AllInRange (functions.definition w)

definition_items : (i : ItemText) → AllInRange (modules.item i) → IsSo IsDefinitionWritten (definition_item i)
definition_items (item.Definition d) all = all
definition_items i all = tt

abbrev IsDeclarationWritten : ℕ × DeclarationText → Type 0
IsDeclarationWritten w = AllInRange (functions.declaration w.1)

declaration_items : (count : ℕ) (is : List ItemText) → AllInRange (flat_map modules.item is) → AllByRecursion IsDeclarationWritten (declarations_from count is)
declaration_items count [] all = tt
declaration_items count (item.Declaration d ∷ is) all =
    all_append IsDeclarationWritten (declarations_at count d) (declarations_from count is)
    (cond_both (is_dropped_name d.declared) [] ((count, d) ∷ []) (AllByRecursion IsDeclarationWritten) (λ yes. tt)
    (λ no. (all_left IsSymbolInRange (functions.declaration d) (flat_map modules.item is) all, tt)))
    (declaration_items count is (all_right IsSymbolInRange (functions.declaration d) (flat_map modules.item is) all))
declaration_items count (item.Definition d ∷ is) all =
    declaration_items (count + 1) is (all_right IsSymbolInRange (functions.definition d) (flat_map modules.item is) all)
declaration_items count (i ∷ is) all = declaration_items count is (all_right IsSymbolInRange (modules.item i) (flat_map modules.item is) all)

-- ---- the order of declarations

same_length : {A B : Type 0} (R : A → B → Type 0) (xs : List A) (ys : List B) → AllZip R xs ys → length xs ≡ length ys
same_length R [] [] zip = refl
same_length R [] (y ∷ ys) zip = absurd zip
same_length R (x ∷ xs) [] zip = absurd zip
same_length R (x ∷ xs) (y ∷ ys) zip = ap (λ n. suc n) (same_length R xs ys zip.1)

-- how many definitions there are
abbrev definitions_in : List ItemText → ℕ
definitions_in is = length (filter_map definition_item is)

module _ (m : Module) (stated : StatedParams) (most : ℕ) where
  abbrev Named : List (ℕ × DeclarationText) → List Declaration → Type 0
  Named = AllZip (NamesDeclaration m stated)

  -- one that is declared behind so many, or dropped
  stand_behind :
      (dropped : Bool) (count least : ℕ) (w : DeclarationText) (more : List (ℕ × DeclarationText)) (ds : List Declaration) → least ≤ count → count ≤ most
      → ((least : ℕ) (ds : List Declaration) → least ≤ count → Named more ds → StandBehind least most ds)
      → Named (cond dropped [] ((count, w) ∷ []) ++ more) ds → StandBehind least most ds
  stand_behind true count least w more ds low high go zip = go least ds low zip
  stand_behind false count least w more [] low high go zip = absurd zip
  stand_behind false count least w more (d ∷ ds) low high go zip =
      let at : d.before ≡ count = zip.0.before in
      (omega (arith, at, low), omega (arith, at, high), go d.before ds (omega (arith, at)) zip.1)

  stand_from : (is : List ItemText) (count least : ℕ) (ds : List Declaration) → least ≤ count → count + definitions_in is ≤ most → Named (declarations_from count is) ds → StandBehind least most ds
  stand_from [] count least [] low high zip = tt
  stand_from [] count least (d ∷ ds) low high zip = absurd zip
  stand_from (item.Declaration w ∷ is) count least ds low high zip =
      stand_behind (is_dropped_name w.declared) count least w (declarations_from count is) ds low (omega (arith, high))
      (λ least ds low zip. stand_from is count least ds low high zip) zip
  stand_from (item.Definition w ∷ is) count least ds low high zip = stand_from is (count + 1) least ds (omega (arith, low)) (omega (arith, high)) zip
  stand_from (i ∷ is) count least ds low high zip = stand_from is count least ds low high zip

-- ---- modules

module _ (all_symbols : List Symbol) (tree : ModuleText) (m : Module) (range : AllInRange all_symbols) (all : AllInRange (modules.written tree)) (named : NamesModule (StatesTypes all_symbols) (StatesParams all_symbols) tree m) where
  types_range : AllByRecursion IsNamedTypeInRange m.types
  types_range =
      all_zipped IsTypeItemWritten (IsNamedType m) IsNamedTypeInRange (named_type_range m) (filter_map type_item tree.items) m.types
      (of_sort IsTypeItemWritten type_item type_items tree.items all) named.types

  pub module_range : IsInRange m
  module_range = record {
    types = types_range;
    globals =
        all_zipped IsGlobalItemWritten (IsGlobalVar m) IsGlobalInRange (global_var_range m) (filter_map global_item tree.items) m.globals
        (of_sort IsGlobalItemWritten global_item global_items tree.items all) named.globals;
    functions =
        all_zipped IsDefinitionWritten (NamesFunction m (StatesTypes all_symbols)) IsFunctionInRange
        (function_range m (StatesTypes all_symbols) (named_written m.types types_range)) (filter_map definition_item tree.items) m.functions
        (of_sort IsDefinitionWritten definition_item definition_items tree.items all) named.functions;
    declarations =
        all_zipped IsDeclarationWritten (NamesDeclaration m (StatesParams all_symbols)) IsDeclarationInRange (declaration_range m all_symbols range)
        (declarations_from 0 tree.items) m.declarations (declaration_items 0 tree.items all) named.declarations;
    order =
        let count = same_length (NamesFunction m (StatesTypes all_symbols)) (filter_map definition_item tree.items) m.functions named.functions in
        stand_from m (StatesParams all_symbols) (length m.functions) tree.items 0 0 m.declarations (omega arith) (omega (arith, count)) named.declarations;
  }

pub modules_are_in_range : ModulesAreInRange
modules_are_in_range bytes m small s =
    let range = text_in_range bytes s.tokens s.symbols small s.cut s.stand in
    module_range s.symbols s.tree m range (symbols.written_in_range (modules.written s.tree) s.symbols s.written range) s.names
