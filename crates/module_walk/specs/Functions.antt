-- Words of private functions: heads of functions.
use Rattle.std.specs.Prelude.{ℕ, cond, List, [], ◌∷◌, map}
use Rattle.module_derivations.specs.FlatMarks.Flat.{skip}
use Rattle.ir_core.specs.declared.functions.Extensions.{Extensions}
use Rattle.ir_core.specs.declared.functions.Function.{Function}
use Rattle.ir_core.specs.declared.modules.Declaration.{Declaration}
use Rattle.ir_core.specs.declared.modules.Linkage.{Linkage}
use Rattle.ir_types.specs.declared.names.Name.{Name}
use Rattle.ir_types.specs.declared.ty.Ty.{Ty}
use Rattle.module_derivations.specs.Empty.{made}
use Rattle.module_derivations.specs.Functions as see
use Rattle.module_derivations.specs.Parts.{Part}
use Rattle.module_grammar.specs.declared.functions.DeclarationText.{DeclarationText}
use Rattle.module_grammar.specs.declared.functions.DeclaredNameText.{DeclaredNameText}
use Rattle.module_grammar.specs.declared.functions.DeclaredText.{DeclaredText}
use Rattle.module_grammar.specs.declared.functions.HeadText.{HeadText}
use Rattle.module_grammar.specs.declared.places.Placed.{Placed}
use Rattle.named_modules.specs.Built.{declared_param, declared_params, params_from, result_of}
use Rattle.named_modules.specs.Constants.{global_name}
use Rattle.named_modules.specs.Functions.{is_dropped_name, name_declared}
use Rattle.named_modules.specs.Values.{extensions_of}

-- a function of that linkage and head, without its blocks
abbrev pub headed : Linkage → HeadText → Function
headed linkage w = record {
  linkage = linkage;
  result_extensions = extensions_of w.result.attributes;
  result = result_of w.result.ty;
  name = (global_name w.name).what;
  params = params_from 0 w.params;
  blocks = [];
}

-- ---- declarations

-- result declared_name
abbrev pub declaration : List Part → DeclarationText
declaration s = record { result = see.result s; declared = (made (skip 3 s)).declared_name }

-- the declaration of that result
abbrev pub declared_as : (Placed Name → DeclaredText) → ℕ → Extensions → Ty → DeclaredNameText → Declaration
declared_as told before extensions result w = record {
  result_extensions = extensions;
  result = result;
  name = (name_declared w).what;
  params = map declared_param (declared_params told w).params;
  variadic = (declared_params told w).is_open;
  before = before;
}

-- the same, unless it is dropped
abbrev pub declared_at : (Placed Name → DeclaredText) → ℕ → Extensions → Ty → DeclaredNameText → List Declaration
declared_at told before extensions result w = cond (is_dropped_name w) [] (declared_as told before extensions result w ∷ [])
