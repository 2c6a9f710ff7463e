-- A tree names one module alone, the one that is built, and nothing is at fault in it.
use Rattle.std.proofs.Common.{◌≡◌, ◌∙◌, ℕ, ◌≤◌, List, [], ◌∷◌, map, Option, Some, None, ap, subst}
use Rattle.std.specs.List.{AllByRecursion, AllZip, filter_map}
use Rattle.ir_core.specs.declared.functions.Function.{Function}
use Rattle.ir_core.specs.declared.modules.Declaration.{Declaration}
use Rattle.ir_core.specs.declared.modules.DeclaredParam.{DeclaredParam}
use Rattle.ir_core.specs.declared.modules.GlobalVar.{GlobalVar}
use Rattle.ir_core.specs.declared.modules.Init.{Init}
use Rattle.ir_core.specs.declared.modules.Linkage.{Linkage}
use Rattle.ir_core.specs.declared.modules.Module.{Module}
use Rattle.ir_core.specs.Functions.{line_count}
use Rattle.ir_core.specs.Limits.{line_limit}
use Rattle.ir_types.specs.declared.named.NamedTy.{NamedTy}
use Rattle.ir_types.specs.declared.names.Name.{Name}
use Rattle.ir_types.specs.declared.ty.Ty.{Ty}
use Rattle.module_grammar.specs.declared.constants.GlobalNameText.{GlobalNameText}
use Rattle.module_grammar.specs.declared.functions.DeclarationText.{DeclarationText}
use Rattle.module_grammar.specs.declared.functions.DeclaredNameText.{DeclaredNameText}
use Rattle.module_grammar.specs.declared.functions.DeclaredNameText.TheVariants as declared
use Rattle.module_grammar.specs.declared.functions.DeclaredText.{DeclaredText}
use Rattle.module_grammar.specs.declared.functions.DefinitionText.{DefinitionText}
use Rattle.module_grammar.specs.declared.functions.ParamText.{ParamText}
use Rattle.module_grammar.specs.declared.items.GlobalBodyText.{GlobalBodyText}
use Rattle.module_grammar.specs.declared.items.HeldText.{HeldText}
use Rattle.module_grammar.specs.declared.items.HeldText.TheVariants as holds
use Rattle.module_grammar.specs.declared.items.ModuleText.{ModuleText}
use Rattle.module_grammar.specs.declared.items.TypeBodyText.{TypeBodyText}
use Rattle.module_grammar.specs.declared.items.TypeBodyText.TheVariants as body
use Rattle.module_grammar.specs.declared.places.Placed.{Placed}
use Rattle.module_grammar.specs.declared.types.CalledText.{CalledText}
use Rattle.named_modules.specs.Built.{declaration_of, declared_param, declared_params, fields_of_body, function_of, global_of, linkage_held, module_of, result_of, start_held, type_named, types_of}
use Rattle.named_modules.specs.Constants.{global_name}
use Rattle.named_modules.specs.Functions.{IsDeclared, IsDeclaredParam, NamesDeclaration, NamesFunction, name_declared}
use Rattle.named_modules.specs.Laws.{Is, NamedTreesAreFaultless}
use Rattle.named_modules.specs.Modules.{AreFields, Holds, IsGlobalVar, IsNamedType, NamesModule, declarations_from, definition_item, global_item, is_constant, type_item}
use Rattle.named_modules.specs.Types.{type_of}
use Rattle.named_modules.specs.Values.{IsType, extensions_of}
use Rattle.named_modules.proofs.ModuleTies.{module_ties}
use Rattle.named_modules.proofs.OneFunction.{function_is}
use Rattle.named_modules.proofs.OneLine.{align_is, result_is}
use Rattle.named_modules.proofs.Ties.{zip_is}

module _ (m : Module) where
  fields_are : (b : TypeBodyText) (fields : Option (List Ty)) → AreFields m b fields → fields ≡ fields_of_body b
  fields_are body.Opaque fields is = is
  fields_are (body.Struct at ws) None is = absurd is
  fields_are (body.Struct at ws) (Some ts) is = ap Some (zip_is (IsType m) type_of (λ w t h. h.0) ws ts is)

  type_is : (w : Placed Name × TypeBodyText) (t : NamedTy) → IsNamedType m w t → t ≡ type_named w
  type_is w t is = ap (λ x. record t { name = x }) is.0 ∙ ap (λ fs. record t { name = w.0.what; fields = fs }) (fields_are w.1 t.fields is.1)

  linkage_is : (t : Ty) (h : HeldText) (l : Linkage) (start : Option Init) → Holds m t h l start → l ≡ linkage_held h
  linkage_is t holds.External l start is = is.0
  linkage_is t (holds.Init w i) l None is = absurd is
  linkage_is t (holds.Init w i) l (Some s) is = is.0

  start_is : (t : Ty) (h : HeldText) (l : Linkage) (start : Option Init) → Holds m t h l start → start ≡ start_held t h
  start_is t holds.External l start is = is.1
  start_is t (holds.Init w i) l None is = absurd is
  start_is t (holds.Init w i) l (Some s) is = ap Some is.1.0

  global_is : (w : GlobalNameText × GlobalBodyText) (g : GlobalVar) → IsGlobalVar m w g → g ≡ global_of w
  global_is w g n =
      let name = (global_name w.0).what in
      let linkage = linkage_held w.1.held in
      let constant = is_constant w.1.word in
      let start : g.init ≡ start_held (type_of w.1.ty) w.1.held = start_is g.ty w.1.held g.linkage g.init n.held ∙ ap (λ t. start_held t w.1.held) n.ty.0 in
      ap (λ x. record g { name = x }) n.name
      ∙ ap (λ l. record g { name = name; linkage = l }) (linkage_is g.ty w.1.held g.linkage g.init n.held)
      ∙ ap (λ c. record g { name = name; linkage = linkage; constant = c }) n.word
      ∙ ap (λ t. record g { name = name; linkage = linkage; constant = constant; ty = t }) n.ty.0
      ∙ ap (λ s. record g { name = name; linkage = linkage; constant = constant; ty = type_of w.1.ty; init = s }) start
      ∙ ap (λ a. record g { name = name; linkage = linkage; constant = constant; ty = type_of w.1.ty; init = start_held (type_of w.1.ty) w.1.held; align = a }) (align_is w.1.align g.align n.align)

  param_is : (w : ParamText) (p : DeclaredParam) → IsDeclaredParam m w p → p ≡ declared_param w
  param_is w p is = ap (λ t. record p { ty = t }) is.0.0 ∙ ap (λ e. record p { ty = type_of w.ty; extensions = e }) is.1

  module _ (told : Placed Name → DeclaredText) where
    params_are : (w : DeclaredNameText) (d : Declaration) → IsDeclared m (Is told) w d → (d.params ≡ map declared_param (declared_params told w).params) × (d.variadic ≡ (declared_params told w).is_open)
    params_are (declared.Plain x params end) d is = (zip_is (IsDeclaredParam m) declared_param param_is params.params d.params is.0, is.1)
    params_are (declared.Debug x end) d is = (
      zip_is (IsDeclaredParam m) declared_param param_is is.0.params d.params is.2.0 ∙ ap (λ (p : DeclaredText). map declared_param p.params) is.1,
      is.2.1 ∙ ap (λ (p : DeclaredText). p.is_open) is.1,
    )

    declaration_is : (w : ℕ × DeclarationText) (d : Declaration) → NamesDeclaration m (Is told) w d → d ≡ declaration_of told w
    declaration_is w d n =
        let extensions = extensions_of w.1.result.attributes in
        let result = result_of w.1.result.ty in
        let name = (name_declared w.1.declared).what in
        let stated = declared_params told w.1.declared in
        let are = params_are w.1.declared d n.params in
        ap (λ e. record d { result_extensions = e }) n.extensions
        ∙ ap (λ t. record d { result_extensions = extensions; result = t }) (result_is m w.1.result.ty d.result n.result)
        ∙ ap (λ x. record d { result_extensions = extensions; result = result; name = x }) n.name
        ∙ ap (λ ps. record d { result_extensions = extensions; result = result; name = name; params = ps }) are.0
        ∙ ap (λ v. record d { result_extensions = extensions; result = result; name = name; params = map declared_param stated.params; variadic = v }) are.1
        ∙ ap (λ k. record d { result_extensions = extensions; result = result; name = name; params = map declared_param stated.params; variadic = stated.is_open; before = k }) n.before

module_is : (stated : Placed Name → CalledText) (told : Placed Name → DeclaredText) (w : ModuleText) (m : Module) → NamesModule (Is stated) (Is told) w m → m ≡ module_of told w
module_is stated told w m n =
    let ds = filter_map definition_item w.items in
    let types : m.types ≡ types_of w = zip_is (IsNamedType m) type_named (type_is m) (filter_map type_item w.items) m.types n.types in
    let globals = zip_is (IsGlobalVar m) global_of (global_is m) (filter_map global_item w.items) m.globals n.globals in
    let functions : m.functions ≡ map (function_of (types_of w)) ds =
    zip_is (NamesFunction m (Is stated)) (function_of m.types) (function_is m stated) ds m.functions n.functions ∙ ap (λ ts. map (function_of ts) ds) types in
    let declarations = zip_is (NamesDeclaration m (Is told)) (declaration_of told) (declaration_is m told) (declarations_from 0 w.items) m.declarations n.declarations in
    ap (λ ts. record m { types = ts }) types
    ∙ ap (λ gs. record m { types = types_of w; globals = gs }) globals
    ∙ ap (λ fs. record m { types = types_of w; globals = map global_of (filter_map global_item w.items); functions = fs }) functions
    ∙ ap (λ es. record m { types = types_of w; globals = map global_of (filter_map global_item w.items); functions = map (function_of (types_of w)) ds; declarations = es }) declarations

-- what is named is within the limit
are_short : (m : Module) (stated : Placed Name → CalledText) (ws : List DefinitionText) (fs : List Function) → AllZip (NamesFunction m (Is stated)) ws fs → AllByRecursion (λ (f : Function). line_count f ≤ line_limit) fs
are_short m stated [] [] zip = tt
are_short m stated [] (f ∷ fs) zip = absurd zip
are_short m stated (w ∷ ws) [] zip = absurd zip
are_short m stated (w ∷ ws) (f ∷ fs) zip = (zip.0.few, are_short m stated ws fs zip.1)

pub named_faultless : NamedTreesAreFaultless
named_faultless stated told w m n =
    let same = module_is stated told w m n in
    let built : NamesModule (Is stated) (Is told) w (module_of told w) = subst (NamesModule (Is stated) (Is told) w) same n in
    let short = are_short (module_of told w) stated (filter_map definition_item w.items) (module_of told w).functions built.functions in
    (same, (module_ties stated told w short).back built)
