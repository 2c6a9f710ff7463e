-- Named types, globals and declarations are at fault exactly where they name nothing.
use Rattle.std.proofs.Common.{◌≡◌, ℕ, ◌++◌, refl, subst}
use Rattle.std.specs.List.{flat_map}
use Rattle.ir_core.specs.declared.modules.Module.{Module}
use Rattle.ir_types.specs.declared.names.Name.{Name}
use Rattle.ir_types.specs.declared.ty.Ty.{Ty}
use Rattle.module_grammar.specs.declared.constants.GlobalNameText.{GlobalNameText}
use Rattle.module_grammar.specs.declared.functions.DeclarationText.{DeclarationText}
use Rattle.module_grammar.specs.declared.functions.DeclaredNameText.{DeclaredNameText}
use Rattle.module_grammar.specs.declared.functions.DeclaredNameText.TheVariants as declared
use Rattle.module_grammar.specs.declared.functions.DeclaredText.{DeclaredText}
use Rattle.module_grammar.specs.declared.functions.ParamText.{ParamText}
use Rattle.module_grammar.specs.declared.items.GlobalBodyText.{GlobalBodyText}
use Rattle.module_grammar.specs.declared.items.HeldText.{HeldText}
use Rattle.module_grammar.specs.declared.items.HeldText.TheVariants as holds
use Rattle.module_grammar.specs.declared.items.TypeBodyText.{TypeBodyText}
use Rattle.module_grammar.specs.declared.items.TypeBodyText.TheVariants as body
use Rattle.module_grammar.specs.declared.places.Placed.{Placed}
use Rattle.named_modules.specs.Built.{declaration_of, declared_param, declared_params, global_of, linkage_held, start_held, type_named}
use Rattle.named_modules.specs.Faults.{align_faults, fields_of_type, global_var_faults, heads_of, held_faults, init_faults, param_faults, result_faults, type_faults}
use Rattle.named_modules.specs.Functions.{HasParams, IsDeclared, IsDeclaredParam, NamesDeclaration}
use Rattle.named_modules.specs.Laws.{Is}
use Rattle.named_modules.specs.Modules.{Holds, IsGlobalVar, IsNamedType}
use Rattle.named_modules.specs.Types.{type_of}
use Rattle.named_modules.specs.Values.{IsType}
use Rattle.named_modules.proofs.CallTies.{result_ties}
use Rattle.named_modules.proofs.InitTies.{init_ties}
use Rattle.named_modules.proofs.Ties.{Ties, both, each_built, none, through}
use Rattle.named_modules.proofs.ValueTies.{align_ties, type_at_ties, value_type_at_ties}

module _ (m : Module) where
  pub named_type_ties : (x : Placed Name) (b : TypeBodyText) → Ties (flat_map (type_faults (heads_of m)) (fields_of_type b)) (IsNamedType m (x, b) (type_named (x, b)))
  named_type_ties x body.Opaque = none (refl, refl)
  named_type_ties x (body.Struct at ws) =
      through (flat_map (type_faults (heads_of m)) ws) (each_built (type_faults (heads_of m)) (IsType m) type_of (type_at_ties m) ws) (λ h. (refl, h)) (λ h. h.1)

  held_ties : (t : Ty) (h : HeldText) → Ties (held_faults (heads_of m) t h) (Holds m t h (linkage_held h) (start_held t h))
  held_ties t holds.External = none (refl, refl)
  held_ties t (holds.Init linkage i) = through (init_faults (heads_of m) i t) (init_ties m i t) (λ h. (refl, (refl, h))) (λ h. h.1.1)

  pub global_ties : (g : GlobalNameText) (b : GlobalBodyText) → Ties (global_var_faults (heads_of m) b) (IsGlobalVar m (g, b) (global_of (g, b)))
  global_ties g b =
      let fs = type_faults (heads_of m) b.ty in
      let gs = held_faults (heads_of m) (type_of b.ty) b.held in
      let hs = align_faults b.align in
      through (fs ++ (gs ++ hs)) (both fs (gs ++ hs) (type_at_ties m b.ty) (both gs hs (held_ties (type_of b.ty) b.held) (align_ties b.align)))
      (λ h. record { name = refl; word = refl; ty = h.0; held = h.1.0; align = h.1.1 }) (λ n. (n.ty, (n.held, n.align)))

  param_ties : (p : ParamText) → Ties (param_faults (heads_of m) p) (IsDeclaredParam m p (declared_param p))
  param_ties p = through (param_faults (heads_of m) p) (value_type_at_ties m p.ty) (λ h. (h, refl)) (λ h. h.0)

  module _ (told : Placed Name → DeclaredText) where
    declared_ties : (count : ℕ) (w : DeclarationText) (n : DeclaredNameText) → w.declared ≡ n → Ties (flat_map (param_faults (heads_of m)) (declared_params told n).params) (IsDeclared m (Is told) n (declaration_of told (count, record { result = w.result; declared = n })))
    declared_ties count w (declared.Plain x params end) is =
        through (flat_map (param_faults (heads_of m)) params.params) (each_built (param_faults (heads_of m)) (IsDeclaredParam m) declared_param param_ties params.params) (λ h. (h, refl)) (λ h. h.0)
    declared_ties count w (declared.Debug x end) is =
        through (flat_map (param_faults (heads_of m)) (told x).params) (each_built (param_faults (heads_of m)) (IsDeclaredParam m) declared_param param_ties (told x).params)
        (λ h. (told x, refl, (h, refl)))
        (λ h. (subst (λ params. HasParams m params (declaration_of told (count, record { result = w.result; declared = declared.Debug x end }))) h.1 h.2).0)

    pub declaration_ties : (count : ℕ) (w : DeclarationText) → Ties (result_faults (heads_of m) w.result.ty ++ flat_map (param_faults (heads_of m)) (declared_params told w.declared).params) (NamesDeclaration m (Is told) (count, w) (declaration_of told (count, w)))
    declaration_ties count w =
        let fs = result_faults (heads_of m) w.result.ty in
        let gs = flat_map (param_faults (heads_of m)) (declared_params told w.declared).params in
        through (fs ++ gs) (both fs gs (result_ties m w.result.ty) (declared_ties count w w.declared refl))
        (λ h. record { before = refl; extensions = refl; result = h.0; name = refl; params = h.1 }) (λ n. (n.result, n.params))
