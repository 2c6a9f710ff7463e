-- Parts of items.
use Rattle.std.proofs.Common.{◌≡◌, ℕ, Bool, true, false, cond, [], ◌∷◌, map, None, refl, sym, ap}
use Rattle.ir_core.specs.declared.modules.GlobalVar.{GlobalVar}
use Rattle.ir_core.specs.declared.modules.Linkage.TheVariants as linkage
use Rattle.ir_types.specs.declared.names.Name.{Name}
use Rattle.ir_types.specs.declared.ty.Ty as ty
use Rattle.ir_types.specs.declared.ty.Ty.{Ty}
use Rattle.module_derivations.specs.Empty.{no_global_body}
use Rattle.module_grammar.specs.declared.functions.DeclarationText.{DeclarationText}
use Rattle.module_grammar.specs.declared.functions.DeclaredText.{DeclaredText}
use Rattle.module_grammar.specs.declared.places.Placed.{Placed}
use Rattle.module_walk.specs.Functions.{declared_at}
use Rattle.module_walk.specs.Items.{global_with}
use Rattle.named_modules.proofs.BuiltTypes.{of_int}
use Rattle.named_modules.specs.Built.{declaration_of, result_of}
use Rattle.named_modules.specs.Functions.{is_dropped_name}
use Rattle.named_modules.specs.Modules.{declarations_at}
use Rattle.named_modules.specs.Values.{extensions_of}

kept : {A B : Type 0} (f : A → B) (dropped : Bool) (x : A) → map f (cond dropped [] (x ∷ [])) ≡ cond dropped [] (f x ∷ [])
kept f true x = refl
kept f false x = refl

-- a declaration that is put by its result and its name
pub declared : (told : Placed Name → DeclaredText) (before : ℕ) (d : DeclarationText)
    → map (declaration_of told) (declarations_at before d) ≡ declared_at told before (extensions_of d.result.attributes) (result_of d.result.ty) d.declared
declared told before d = kept (declaration_of told) (is_dropped_name d.declared) (before, d)

global_of_type : Name → Ty → GlobalVar
global_of_type x t = record { name = x; linkage = linkage.External; constant = true; ty = t; init = None; align = None }

-- the global that stands where none is read
pub no_global_built : (x : Name) → record { name = x; linkage = linkage.External; constant = true; ty = ty.Int 1; init = None; align = None } ≡ global_with x no_global_body
unfolding global_of_type
no_global_built x = ap (global_of_type x) (sym (of_int (record { what = 1; start = 0; end = 0 })))
