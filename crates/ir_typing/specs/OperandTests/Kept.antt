-- Words of private functions: what is kept beside a module, so that it is found without a walk.
use Rattle.std.specs.Prelude.{◌≡◌, Bool, true, List, map, Option, Some}
use Rattle.std.specs.Borrow.{Bor}
use Rattle.std.specs.List.{list_all}
use Rattle.std.specs.Option.{option_map}
use Rattle.std.specs.HashMap.{get_by}
use Rattle.ir_core.specs.declared.functions.Function.{Function}
use Rattle.ir_core.specs.declared.modules.Declaration.{Declaration}
use Rattle.ir_core.specs.declared.modules.Module.{Module}
use Rattle.ir_core.specs.TypeNames.{type_names}
use Rattle.ir_core.specs.Typing.{Signature, contents_of, declared_signature, defined_signature, signatures_of}
use Rattle.ir_types.specs.declared.named.NamedTy.{NamedTy}
use Rattle.ir_types.specs.declared.names.Name.{Name}
use Rattle.ir_types.specs.Named.{fields_or_none, is_sized}
use Rattle.ir_types.specs.Same.{same_name}
use Rattle.ir_core.specs.NameIndexes.Among.{is_among}
use Rattle.ir_typing.specs.declared.shape_kinds.lent_types.LentTypes.{LentTypes}
use Rattle.ir_typing.specs.ShapeKinds.Kept.{type_in}
use Rattle.ir_typing.specs.declared.operand_tests.callees.Callee.{Callee}
use Rattle.ir_typing.specs.declared.operand_tests.callees.Callee.TheVariants.{Defined, Declared}
use Rattle.ir_typing.specs.declared.operand_tests.callees.Callees.{Callees}
use Rattle.ir_typing.specs.OperandTests.Calls.{signature_in}

-- ---- functions

abbrev pub signature_of : Callee → Signature
signature_of (Defined f) = defined_signature f.now
signature_of (Declared d) = declared_signature d.now

-- the functions of a list, each with what a call of it asks
abbrev pub defined : List Function → List (Name × Signature)
defined = map (λ (f : Function). (f.name, defined_signature f))

abbrev pub declared : List Declaration → List (Name × Signature)
declared = map (λ (d : Declaration). (d.name, declared_signature d))

abbrev pub callee_in : Callees → Name → Option Callee
callee_in callees name = get_by (λ (key : Bor Name). same_name name key.now) callees.first

-- what a call of the function that is kept for that name asks
unfoldable pub signature_by : Callees → Name → Option Signature
signature_by callees name = option_map signature_of (callee_in callees name)

-- ---- types

-- the fields of each of these named types have sizes
abbrev pub are_named_sized : List NamedTy → List NamedTy → Bool
are_named_sized types = list_all (λ (t : NamedTy). list_all (is_sized types) (fields_or_none t.fields))

-- ---- a module

-- Beside a module the names of its types are kept, the types of its globals' contents and its functions, each as the first of its name, and
-- whether it is seen that the fields of its types have sizes.
pub record IsKept (m : Module) (names : List Name) (contents : LentTypes) (functions : Callees) (sized : Bool) : Type 0 where
  pub types : (x : Name) → is_among x names ≡ is_among x (type_names m)
  pub globals : (x : Name) → type_in contents x ≡ option_map Some (contents_of m.globals x)
  pub callees : (x : Name) → signature_by functions x ≡ signature_in (signatures_of m) x
  pub sizes : sized ≡ true → are_named_sized m.types m.types ≡ true
