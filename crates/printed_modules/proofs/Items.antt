-- Items in the order of the file, and what they name, sort by sort.
use Rattle.std.proofs.Common.{◌≡◌, ℕ, ◌+◌, false, cond, List, [], ◌∷◌, ◌++◌, sym, ap, subst}
use Rattle.std.specs.List.{AllByRecursion, AllZip, filter_map}
use Rattle.ir_core.specs.declared.functions.Function.{Function}
use Rattle.ir_core.specs.declared.modules.Declaration.{Declaration}
use Rattle.ir_core.specs.declared.modules.GlobalVar.{GlobalVar}
use Rattle.ir_core.specs.declared.modules.Module.{Module}
use Rattle.ir_types.specs.declared.named.NamedTy.{NamedTy}
use Rattle.ir_types.specs.declared.names.Name.{Name}
use Rattle.module_grammar.specs.declared.constants.GlobalNameText.{GlobalNameText}
use Rattle.module_grammar.specs.declared.functions.DeclarationText.{DeclarationText}
use Rattle.module_grammar.specs.declared.functions.DefinitionText.{DefinitionText}
use Rattle.module_grammar.specs.declared.items.GlobalBodyText.{GlobalBodyText}
use Rattle.module_grammar.specs.declared.items.ItemText.{ItemText}
use Rattle.module_grammar.specs.declared.items.ItemText.TheVariants as item
use Rattle.module_grammar.specs.declared.items.TypeBodyText.{TypeBodyText}
use Rattle.module_grammar.specs.declared.places.Placed.{Placed}
use Rattle.named_modules.specs.Functions.{NamesDeclaration, NamesFunction, StatedParams, is_dropped_name}
use Rattle.named_modules.specs.Lines.{Stated}
use Rattle.named_modules.specs.Modules.{IsGlobalVar, IsNamedType, declarations_at, declarations_from, definition_item, global_item, type_item}
use Rattle.printed_modules.proofs.Tidy.{IsTidyDefinition, IsTidyItem}

-- no parameters are stated behind a name of debugging
abbrev pub NoParams : StatedParams
NoParams x c = ⊥

module _ (m : Module) (stated : Stated) where
  -- the items, behind so many definitions, name these types, globals, functions and declarations
  pub record NamesItems (count : ℕ) (items : List ItemText) (ts : List NamedTy) (gs : List GlobalVar) (fs : List Function) (ds : List Declaration) : Type 0 where
    pub types : AllZip (IsNamedType m) (filter_map type_item items) ts
    pub globals : AllZip (IsGlobalVar m) (filter_map global_item items) gs
    pub functions : AllZip (NamesFunction m stated) (filter_map definition_item items) fs
    pub declarations : AllZip (NamesDeclaration m NoParams) (declarations_from count items) ds
    pub tidy : AllByRecursion IsTidyItem items

  pub no_items : (count : ℕ) → NamesItems count [] [] [] [] []
  no_items count = record { types = tt; globals = tt; functions = tt; declarations = tt; tidy = tt }

  pub with_type :
      {count : ℕ} {items : List ItemText} {ts : List NamedTy} {gs : List GlobalVar} {fs : List Function} {ds : List Declaration}
      (name : Placed Name) (body : TypeBodyText) (t : NamedTy) → IsNamedType m (name, body) t → NamesItems count items ts gs fs ds
      → NamesItems count (item.Type name body ∷ items) (t ∷ ts) gs fs ds
  with_type name body t is more =
      record { types = (is, more.types); globals = more.globals; functions = more.functions; declarations = more.declarations; tidy = (tt, more.tidy) }

  pub with_global :
      {count : ℕ} {items : List ItemText} {ts : List NamedTy} {gs : List GlobalVar} {fs : List Function} {ds : List Declaration}
      (name : GlobalNameText) (body : GlobalBodyText) (g : GlobalVar) → IsGlobalVar m (name, body) g → NamesItems count items ts gs fs ds
      → NamesItems count (item.Global name body ∷ items) ts (g ∷ gs) fs ds
  with_global name body g is more =
      record { types = more.types; globals = (is, more.globals); functions = more.functions; declarations = more.declarations; tidy = (tt, more.tidy) }

  pub with_definition :
      {count : ℕ} {items : List ItemText} {ts : List NamedTy} {gs : List GlobalVar} {fs : List Function} {ds : List Declaration}
      (w : DefinitionText) (f : Function) → NamesFunction m stated w f → IsTidyDefinition w → NamesItems (count + 1) items ts gs fs ds
      → NamesItems count (item.Definition w ∷ items) ts gs (f ∷ fs) ds
  with_definition w f is tidy more =
      record { types = more.types; globals = more.globals; functions = (is, more.functions); declarations = more.declarations; tidy = (tidy, more.tidy) }

  -- a declaration that isn't dropped
  kept_behind : (count : ℕ) (w : DeclarationText) (more : List (ℕ × DeclarationText)) → is_dropped_name w.declared ≡ false → (count, w) ∷ more ≡ declarations_at count w ++ more
  kept_behind count w more kept = sym (ap (λ b. cond b [] ((count, w) ∷ []) ++ more) kept)

  pub with_declaration :
      {count : ℕ} {items : List ItemText} {ts : List NamedTy} {gs : List GlobalVar} {fs : List Function} {ds : List Declaration}
      (w : DeclarationText) (d : Declaration) → NamesDeclaration m NoParams (count, w) d → is_dropped_name w.declared ≡ false → NamesItems count items ts gs fs ds
      → NamesItems count (item.Declaration w ∷ items) ts gs fs (d ∷ ds)
  with_declaration {count = count} {items = items} {ds = ds} w d is kept more = record {
    types = more.types;
    globals = more.globals;
    functions = more.functions;
    declarations = subst (λ ws. AllZip (NamesDeclaration m NoParams) ws (d ∷ ds)) (kept_behind count w (declarations_from count items) kept) (is, more.declarations);
    tidy = (kept, more.tidy);
  }
