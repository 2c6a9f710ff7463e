-- What is read of a module as a whole.
use Rattle.std.specs.Prelude.{ℕ, cond, false, nat_le, List, [], ◌∷◌, map}
use Rattle.ir_core.specs.declared.functions.Block.{Block}
use Rattle.ir_core.specs.declared.functions.Extensions.{Extensions}
use Rattle.ir_core.specs.declared.functions.Function.{Function}
use Rattle.ir_core.specs.declared.functions.Param.{Param}
use Rattle.ir_core.specs.declared.modules.Declaration.{Declaration}
use Rattle.ir_core.specs.declared.modules.Linkage.{Linkage}
use Rattle.ir_core.specs.declared.modules.Linkage.TheVariants as linkage
use Rattle.ir_core.specs.declared.modules.Module.{Module}
use Rattle.ir_types.specs.declared.named.NamedTy.{NamedTy}
use Rattle.ir_types.specs.declared.names.Name.{Name}
use Rattle.ir_types.specs.declared.ty.Ty.{Ty}

-- the functions that it defines, and those that it declares, each in their order
abbrev pub definitions_of : Module → List Function
definitions_of m = m.functions

abbrev pub declarations_of : Module → List Declaration
declarations_of m = m.declarations

-- ---- the order of the file

-- the first declarations, which stand before so many definitions and one more
abbrev pub those_before : ℕ → List Declaration → List Declaration
those_before count [] = []
those_before count (d ∷ ds) = cond (nat_le d.before count) (d ∷ those_before count ds) []

-- and those behind them
abbrev pub those_behind : ℕ → List Declaration → List Declaration
those_behind count [] = []
those_behind count (d ∷ ds) = cond (nat_le d.before count) (those_behind count ds) (d ∷ ds)

-- ---- linkage

-- a number for each linkage, in the order of their declaration
abbrev pub linkage_code : Linkage → ℕ
linkage_code linkage.External = 0
linkage_code linkage.Private = 1
linkage_code linkage.Internal = 2
linkage_code linkage.Common = 3
linkage_code linkage.AvailableExternally = 4
linkage_code linkage.LinkonceOdr = 5
linkage_code linkage.WeakOdr = 6

-- ---- what stands without a word that the language lets stand there

abbrev pub not_extended : Extensions
not_extended = record { signed = false; zero = false }

-- what is said of a result and of parameters, how they are made wider
abbrev pub extensions_of : Function → List Extensions
extensions_of f = f.result_extensions ∷ map (λ (p : Param). p.extensions) f.params

-- ty %name
abbrev pub plain_param : Ty → Name → Param
plain_param ty name = record { name = name; ty = ty; extensions = not_extended }

-- define result @name(params) { blocks }
abbrev pub plain_function : Ty → Name → List Param → List Block → Function
plain_function result name params blocks = record {
  linkage = linkage.External;
  result_extensions = not_extended;
  result = result;
  name = name;
  params = params;
  blocks = blocks;
}

-- a module of named types and definitions alone
abbrev pub plain_module : List NamedTy → List Function → Module
plain_module types functions = record { types = types; globals = []; functions = functions; declarations = [] }
