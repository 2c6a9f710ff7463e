-- A module without fault has shape, and one that has shape is without fault.
use Rattle.std.proofs.Common.{◌≡◌, ◌∙◌, ◌&&◌, ℕ, ◌+◌, Bool, true, false, not, List, [], ◌∷◌, ◌++◌, map, None, refl, sym, ap, subst}
use Rattle.std.specs.List.{AllByRecursion, Contains, list_all}
use Rattle.ir_core.specs.declared.functions.Function.{Function}
use Rattle.ir_core.specs.declared.modules.Declaration.{Declaration}
use Rattle.ir_core.specs.declared.modules.DeclaredParam.{DeclaredParam}
use Rattle.ir_core.specs.declared.modules.GlobalVar.{GlobalVar}
use Rattle.ir_core.specs.declared.modules.Module.{Module}
use Rattle.ir_types.specs.declared.named.NamedTy.{NamedTy}
use Rattle.ir_types.specs.declared.names.Name.{Name}
use Rattle.ir_types.specs.declared.ty.Ty.{Ty}
use Rattle.ir_types.specs.Named.{fields_or_none}
use Rattle.ir_core.specs.Functions.{is_debug}
use Rattle.ir_core.specs.Modules.{those_before, those_behind}
use Rattle.ir_core.specs.TypeNames.{names_in_type, type_names}
use Rattle.ir_core.specs.Types.{is_first_class}
use Rattle.ir_core.specs.WellFormed.{HasDeclaredShape, HasFunctionShape, HasGlobalShape, NamesTypes}
use Rattle.ir_core.specs.NameIndexes.Among.{is_among}
use Rattle.ir_typing.specs.OperandTests.Inits.{global_var_kind}
use Rattle.ir_typing.specs.OperandTests.Known.{are_types_known}
use Rattle.ir_typing.proofs.OperandTests.Fits.{global_var_fits, types_known}
use Rattle.ir_shape.specs.declared.fault.ShapeFault.{ShapeFault}
use Rattle.ir_typing.specs.declared.shape_kinds.kind.ShapeKind.TheVariants as kind
use Rattle.ir_typing.specs.ShapeKinds.Kinds.{fault_unless}
use Rattle.ir_typing.specs.ShapeKinds.Names.{are_new, with_name, with_names}
use Rattle.ir_shape.specs.ShapeTests.Kinds.{is_result, name_kind}
use Rattle.ir_shape.proofs.ShapeTests.Fits.{result_by, result_is}
use Rattle.ir_shape.proofs.ShapeTests.Taken.{new_by, new_is, new_joined}
use Rattle.ir_shape.proofs.ShapeTests.Tests.{all_flat, all_joined, all_left, all_parts, all_right, all_tested, both_hold, both_left, both_none, both_right, each_tested, fits_by, joined_none, least_none_left, least_none_right, left_none, none_by, not_true, right_none}
use Rattle.ir_shape.specs.ShapeLaws.Laws.{FaultlessFunctionsHaveShape, FaultlessModulesHaveShape, ShapelyFunctionsAreFaultless, ShapelyModulesAreFaultless}
use Rattle.ir_shape.specs.Shape.{fault_at, first_of, in_declaration, in_declarations, in_function, in_functions, in_globals, in_type, in_types, with_declared, with_globals}
use Rattle.ir_shape.specs.LineShapes.Told.{declared_kind}
use Rattle.ir_shape.proofs.ShapeLaws.Faults.{first_none, no_fault, no_kind}
use Rattle.ir_shape.proofs.ShapeLaws.Functions.{function_by, function_is}
use Rattle.ir_shape.proofs.ShapeLaws.Lines.{AreApart}
use Rattle.ir_shape.proofs.ShapeLaws.Names.{declared_names, file_new, in_file, names_in_file, new_in_file, parted, signatures_apart}

pub faultless_functions_have_shape : FaultlessFunctionsHaveShape
faultless_functions_have_shape m f e = (function_by m f false e).1

pub shapely_functions_are_faultless : ShapelyFunctionsAreFaultless
shapely_functions_are_faultless m apart f shape = function_is m apart f false refl shape

-- ---- declarations

abbrev param_types : Declaration → List Ty
param_types d = map (λ (p : DeclaredParam). p.ty) d.params

abbrev are_values : Declaration → Bool
are_values d = list_all (λ (p : DeclaredParam). is_first_class p.ty) d.params

declaration_by : (m : Module) (taken : Bool) (d : Declaration) → in_declaration m taken d ≡ [] → (not taken ≡ true) × HasDeclaredShape m d
declaration_by m taken d e =
    let name = fault_at d.name None (name_kind taken d.name) in
    let known = are_types_known m (d.result ∷ param_types d) in
    let last = fault_unless (is_result d.result && are_values d) kind.OperandType in
    let own = fits_by (not taken && not (is_debug d.name)) kind.Name (no_kind _ d.name None (name_kind taken d.name) (left_none name (fault_at d.name None (declared_kind m d)) e)) in
    let header = no_kind _ d.name None (declared_kind m d) (right_none name (fault_at d.name None (declared_kind m d)) e) in
    let typed = fits_by (is_result d.result && are_values d) kind.OperandType (least_none_right (fault_unless known kind.Name) last header) in (
      both_left (not taken) (not (is_debug d.name)) own,
      record {
        name = not_true (is_debug d.name) (both_right (not taken) (not (is_debug d.name)) own);
        types = (types_known m (d.result ∷ param_types d)).0 (fits_by known kind.Name (least_none_left (fault_unless known kind.Name) last header));
        result = result_by d.result (both_left (is_result d.result) (are_values d) typed);
        params = each_tested (λ (p : DeclaredParam). is_first_class p.ty) d.params (both_right (is_result d.result) (are_values d) typed);
      },
    )

declaration_is : (m : Module) (taken : Bool) (d : Declaration) → taken ≡ false → HasDeclaredShape m d → in_declaration m taken d ≡ []
declaration_is m taken d free shape =
    let known = are_types_known m (d.result ∷ param_types d) in
    joined_none (fault_at d.name None (name_kind taken d.name)) (fault_at d.name None (declared_kind m d))
    (no_fault _ d.name None (name_kind taken d.name) (none_by (not taken && not (is_debug d.name)) kind.Name (both_hold (not taken) (not (is_debug d.name)) (ap not free) (ap not shape.name))))
    (no_fault _ d.name None (declared_kind m d)
    (both_none (fault_unless known kind.Name) (fault_unless (is_result d.result && are_values d) kind.OperandType)
    (none_by known kind.Name ((types_known m (d.result ∷ param_types d)).1 shape.types))
    (none_by (is_result d.result && are_values d) kind.OperandType
    (both_hold (is_result d.result) (are_values d) (result_is d.result shape.result) (all_tested (λ (p : DeclaredParam). is_first_class p.ty) d.params shape.params)))))

declarations_by : (m : Module) (taken : List Name) (ds : List Declaration) → in_declarations m taken ds ≡ []
    → (are_new taken (declared_names ds) ≡ true) × AllByRecursion (HasDeclaredShape m) ds
declarations_by m taken [] e = (refl, tt)
declarations_by m taken (d ∷ ds) e =
    let further = in_declarations m (with_name taken d.name) ds in
    let here = declaration_by m (is_among d.name taken) d (left_none (in_declaration m (is_among d.name taken) d) further e) in
    let more = declarations_by m (with_name taken d.name) ds (right_none (in_declaration m (is_among d.name taken) d) further e) in
    (both_hold (not (is_among d.name taken)) (are_new (with_name taken d.name) (declared_names ds)) here.0 more.0, (here.1, more.1))

declarations_are : (m : Module) (taken : List Name) (ds : List Declaration) → are_new taken (declared_names ds) ≡ true → AllByRecursion (HasDeclaredShape m) ds
    → in_declarations m taken ds ≡ []
declarations_are m taken [] new all = refl
declarations_are m taken (d ∷ ds) new all =
    let fresh = not (is_among d.name taken) in
    let rest = are_new (with_name taken d.name) (declared_names ds) in
    joined_none (in_declaration m (is_among d.name taken) d) (in_declarations m (with_name taken d.name) ds)
    (declaration_is m (is_among d.name taken) d (not_true (is_among d.name taken) (both_left fresh rest new)) all.0)
    (declarations_are m (with_name taken d.name) ds (both_right fresh rest new) all.1)

-- ---- definitions and declarations in the order of the file

functions_by : (m : Module) (taken : List Name) (count : ℕ) (ds : List Declaration) (fs : List Function) → in_functions m taken count ds fs ≡ []
    → (are_new taken (names_in_file count ds fs) ≡ true) × AllByRecursion (HasFunctionShape m) fs × AllByRecursion (HasDeclaredShape m) ds
functions_by m taken count ds [] e = let all = declarations_by m taken ds e in (all.0, tt, all.1)
functions_by m taken count ds (f ∷ fs) e =
    let before = those_before count ds in
    let behind = those_behind count ds in
    let names = with_declared taken before in
    let own = in_function m (is_among f.name names) f in
    let further = in_functions m (with_name names f.name) (count + 1) behind fs in
    let first = declarations_by m taken before (left_none (in_declarations m taken before) (own ++ further) e) in
    let later = right_none (in_declarations m taken before) (own ++ further) e in
    let here = function_by m f (is_among f.name names) (left_none own further later) in
    let more = functions_by m (with_name names f.name) (count + 1) behind fs (right_none own further later) in
    let rest = names_in_file (count + 1) behind fs in (
      new_joined taken (declared_names before) (f.name ∷ rest)
          ∙ both_hold (are_new taken (declared_names before)) (are_new names (f.name ∷ rest)) first.0 (both_hold (not (is_among f.name names)) (are_new (with_name names f.name) rest) here.0 more.0),
      (here.1, more.1),
      subst (AllByRecursion (HasDeclaredShape m)) (parted count ds) (all_joined (HasDeclaredShape m) before behind first.1 more.2),
    )

functions_are : (m : Module) → AreApart m → (taken : List Name) (count : ℕ) (ds : List Declaration) (fs : List Function) → are_new taken (names_in_file count ds fs) ≡ true
    → AllByRecursion (HasFunctionShape m) fs → AllByRecursion (HasDeclaredShape m) ds → in_functions m taken count ds fs ≡ []
functions_are m apart taken count ds [] new functions declarations = declarations_are m taken ds new declarations
functions_are m apart taken count ds (f ∷ fs) new functions declarations =
    let before = those_before count ds in
    let behind = those_behind count ds in
    let names = with_declared taken before in
    let rest = names_in_file (count + 1) behind fs in
    let fresh = not (is_among f.name names) in
    let own = in_function m (is_among f.name names) f in
    let further = in_functions m (with_name names f.name) (count + 1) behind fs in
    let both = sym (new_joined taken (declared_names before) (f.name ∷ rest)) ∙ new in
    let last = both_right (are_new taken (declared_names before)) (are_new names (f.name ∷ rest)) both in
    let all : AllByRecursion (HasDeclaredShape m) (before ++ behind) = subst (AllByRecursion (HasDeclaredShape m)) (sym (parted count ds)) declarations in
    joined_none (in_declarations m taken before) (own ++ further)
    (declarations_are m taken before (both_left (are_new taken (declared_names before)) (are_new names (f.name ∷ rest)) both) (all_left (HasDeclaredShape m) before behind all))
    (joined_none own further (function_is m apart f (is_among f.name names) (not_true (is_among f.name names) (both_left fresh (are_new (with_name names f.name) rest) last)) functions.0)
    (functions_are m apart (with_name names f.name) (count + 1) behind fs (both_right fresh (are_new (with_name names f.name) rest) last) functions.1 (all_right (HasDeclaredShape m) before behind all)))

-- ---- globals

abbrev names_of_globals : List GlobalVar → List Name
names_of_globals = map (λ (g : GlobalVar). g.name)

globals_by : (m : Module) (taken : List Name) (gs : List GlobalVar) → in_globals m taken gs ≡ []
    → (are_new taken (names_of_globals gs) ≡ true) × AllByRecursion (HasGlobalShape m) gs
globals_by m taken [] e = (refl, tt)
globals_by m taken (g ∷ gs) e =
    let fresh = not (is_among g.name taken) in
    let own = fault_at g.name None (global_var_kind m fresh g) in
    let further = in_globals m (with_name taken g.name) gs in
    let here = (global_var_fits m fresh g).0 (no_kind _ g.name None (global_var_kind m fresh g) (left_none own further e)) in
    let more = globals_by m (with_name taken g.name) gs (right_none own further e) in
    (both_hold fresh (are_new (with_name taken g.name) (names_of_globals gs)) here.0 more.0, (here.1, more.1))

globals_are : (m : Module) (taken : List Name) (gs : List GlobalVar) → are_new taken (names_of_globals gs) ≡ true → AllByRecursion (HasGlobalShape m) gs → in_globals m taken gs ≡ []
globals_are m taken [] new all = refl
globals_are m taken (g ∷ gs) new all =
    let fresh = not (is_among g.name taken) in
    let rest = are_new (with_name taken g.name) (names_of_globals gs) in
    joined_none (fault_at g.name None (global_var_kind m fresh g)) (in_globals m (with_name taken g.name) gs)
    (no_fault _ g.name None (global_var_kind m fresh g) ((global_var_fits m fresh g).1 (both_left fresh rest new, all.0)))
    (globals_are m (with_name taken g.name) gs (both_right fresh rest new) all.1)

-- ---- named types

abbrev names_of_types : List NamedTy → List Name
names_of_types = map (λ (t : NamedTy). t.name)

types_by : (m : Module) (taken : List Name) (ts : List NamedTy) → in_types m taken ts ≡ []
    → (are_new taken (names_of_types ts) ≡ true) × AllByRecursion (NamesTypes (type_names m)) ts
types_by m taken [] e = (refl, tt)
types_by m taken (t ∷ ts) e =
    let fresh = not (is_among t.name taken) in
    let fields = fields_or_none t.fields in
    let known = are_types_known m fields in
    let further = in_types m (with_name taken t.name) ts in
    let fits = fits_by (fresh && known) kind.Name (no_kind _ t.name None (fault_unless (fresh && known) kind.Name) (left_none (in_type m (is_among t.name taken) t) further e)) in
    let more = types_by m (with_name taken t.name) ts (right_none (in_type m (is_among t.name taken) t) further e) in (
      both_hold fresh (are_new (with_name taken t.name) (names_of_types ts)) (both_left fresh known fits) more.0,
      (all_flat (Contains (type_names m)) names_in_type fields ((types_known m fields).0 (both_right fresh known fits)), more.1),
    )

types_are : (m : Module) (taken : List Name) (ts : List NamedTy) → are_new taken (names_of_types ts) ≡ true → AllByRecursion (NamesTypes (type_names m)) ts → in_types m taken ts ≡ []
types_are m taken [] new all = refl
types_are m taken (t ∷ ts) new all =
    let fresh = not (is_among t.name taken) in
    let fields = fields_or_none t.fields in
    let known = are_types_known m fields in
    let rest = are_new (with_name taken t.name) (names_of_types ts) in
    joined_none (in_type m (is_among t.name taken) t) (in_types m (with_name taken t.name) ts)
    (no_fault _ t.name None (fault_unless (fresh && known) kind.Name)
    (none_by (fresh && known) kind.Name (both_hold fresh known (both_left fresh rest new) ((types_known m fields).1 (all_parts (Contains (type_names m)) names_in_type fields all.0)))))
    (types_are m (with_name taken t.name) ts (both_right fresh rest new) all.1)

-- ---- modules

abbrev of_types : Module → List ShapeFault
of_types m = in_types m [] m.types

abbrev of_globals : Module → List ShapeFault
of_globals m = in_globals m [] m.globals

abbrev of_functions : Module → List ShapeFault
of_functions m = in_functions m (with_globals [] m.globals) 0 m.declarations m.functions

pub faultless_modules_have_shape : FaultlessModulesHaveShape
faultless_modules_have_shape m e =
    let none = first_none (of_types m ++ (of_globals m ++ of_functions m)) e in
    let behind = right_none (of_types m) (of_globals m ++ of_functions m) none in
    let types = types_by m [] m.types (left_none (of_types m) (of_globals m ++ of_functions m) none) in
    let globals = globals_by m [] m.globals (left_none (of_globals m) (of_functions m) behind) in
    let functions = functions_by m (with_globals [] m.globals) 0 m.declarations m.functions (right_none (of_globals m) (of_functions m) behind) in
    let names = names_of_globals m.globals in
    record {
      types_apart = new_by [] (type_names m) types.0;
      types = types.1;
      globals = globals.1;
      functions = functions.1;
      declarations = functions.2;
      names = file_new names m
          (new_by [] (names ++ in_file m) (new_joined [] names (in_file m) ∙ both_hold (are_new [] names) (are_new (with_names [] names) (in_file m)) globals.0 functions.0));
    }

pub shapely_modules_are_faultless : ShapelyModulesAreFaultless
shapely_modules_are_faultless m shape =
    let names = names_of_globals m.globals in
    let new = sym (new_joined [] names (in_file m)) ∙ new_is [] (names ++ in_file m) (new_in_file names m shape.names) in
    let first = are_new [] names in
    let later = are_new (with_names [] names) (in_file m) in
    ap first_of
    (joined_none (of_types m) (of_globals m ++ of_functions m) (types_are m [] m.types (new_is [] (type_names m) shape.types_apart) shape.types)
    (joined_none (of_globals m) (of_functions m) (globals_are m [] m.globals (both_left first later new) shape.globals)
    (functions_are m (signatures_apart m shape.names) (with_globals [] m.globals) 0 m.declarations m.functions (both_right first later new) shape.functions shape.declarations)))
