-- What modules keep under other names.
use Rattle.std.proofs.Common.{◌≡◌, ◌∙◌, suc, List, [], ◌∷◌, ◌++◌, length, map, refl, sym, ap, subst}
use Rattle.std.specs.List.{AllByRecursion, AllZip}
use Rattle.ir_core.specs.declared.functions.Function.{Function}
use Rattle.ir_core.specs.declared.modules.Declaration.{Declaration}
use Rattle.ir_core.specs.declared.modules.GlobalVar.{GlobalVar}
use Rattle.ir_core.specs.declared.modules.Module.{Module}
use Rattle.ir_types.specs.declared.named.NamedTy.{NamedTy}
use Rattle.ir_types.specs.declared.names.Name.{Name}
use Rattle.ir_core.specs.Functions.{function_names, names_of}
use Rattle.ir_core.specs.Order.{AreNew}
use Rattle.ir_core.specs.Ranges.{IsDeclarationInRange, IsFunctionInRange, IsGlobalInRange, IsNamedTypeInRange, IsNameInRange, StandBehind}
use Rattle.ir_core.specs.WellFormed.{HasDeclaredShape, HasFunctionShape, HasGlobalShape, IsFunctionDefined, NamesTypes, global_names}
use Rattle.ir_rename.specs.Laws.{RenamedAreDefined, RenamedHaveShape}
use Rattle.ir_rename.specs.Renamed.{AreRenamed, IsRenamed}
use Rattle.ir_rename.proofs.Apart.{apart_from_new, are_new}
use Rattle.ir_rename.proofs.Beside.{declared, global, renamed_alike}
use Rattle.ir_rename.proofs.Renames.{names_renamed}
use Rattle.ir_rename.proofs.Shaped.{apart_mapped}
use Rattle.renaming_laws.specs.Kept.{DefinednessStays, FunctionNamesStay, NamesStayApart, RangeStays, ShapeStays, WellFormednessStays}
use Rattle.renaming_laws.proofs.Limits.{limits_stay}
use Rattle.renaming_laws.proofs.Ranges.{in_range}

-- ---- functions side by side

abbrev Renamed : Function → Function → Type 0
Renamed f g = (ρ : Name → Name) × IsRenamed ρ f g

-- what is known of each before and of each behind
over : (P N Q : Function → Type 0) → ((f g : Function) → Renamed f g → P f → N g → Q g) → (fs gs : List Function) → AllZip Renamed fs gs → AllByRecursion P fs → AllByRecursion N gs → AllByRecursion Q gs
over P N Q step [] [] zip all behind = tt
over P N Q step [] (g ∷ gs) zip all behind = absurd zip
over P N Q step (f ∷ fs) [] zip all behind = absurd zip
over P N Q step (f ∷ fs) (g ∷ gs) zip all behind =
    (step f g zip.0 all.0 behind.0, over P N Q step fs gs zip.1 all.1 behind.1)

nothing : (fs : List Function) → AllByRecursion (λ (f : Function). Unit {0}) fs
nothing [] = tt
nothing (f ∷ fs) = (tt, nothing fs)

-- what is known of each before
under : (P Q : Function → Type 0) → ((f g : Function) → Renamed f g → P f → Q g) → (fs gs : List Function) → AllZip Renamed fs gs → AllByRecursion P fs → AllByRecursion Q gs
under P Q step fs gs zip all = over P (λ f. Unit {0}) Q (λ f g is has none. step f g is has) fs gs zip all (nothing gs)

both : (P Q : Function → Type 0) (fs : List Function) → AllByRecursion P fs → AllByRecursion Q fs → AllByRecursion (λ f. P f × Q f) fs
both P Q [] all more = tt
both P Q (f ∷ fs) all more = ((all.0, more.0), both P Q fs all.1 more.1)

-- ---- names

own_names : (fs gs : List Function) → AllZip Renamed fs gs → map (λ (f : Function). f.name) gs ≡ map (λ (f : Function). f.name) fs
own_names [] [] zip = refl
own_names [] (g ∷ gs) zip = absurd zip
own_names (f ∷ fs) [] zip = absurd zip
own_names (f ∷ fs) (g ∷ gs) zip =
    ap (λ (h : Function). h.name ∷ map (λ (f : Function). f.name) gs) zip.0.1.same ∙ ap (λ names. f.name ∷ names) (own_names fs gs zip.1)

pub function_names_stay : FunctionNamesStay
function_names_stay m n is = own_names m.functions n.functions is.functions

abbrev AllNew : Function → Type 0
AllNew f = AreNew [] (names_of f)

new_names : (f g : Function) → Renamed f g → AllNew f → AllNew g
new_names f g (ρ, is) new =
    subst (AreNew []) (sym (ap names_of is.same ∙ names_renamed ρ f))
    (are_new (map ρ (names_of f)) (apart_mapped ρ (names_of f) is.injective (apart_from_new [] (names_of f) new)))

pub names_stay_apart : NamesStayApart
names_stay_apart m n is apart = under AllNew AllNew new_names m.functions n.functions is.functions apart

-- ---- shape

global_names_stay : (m n : Module) → AreRenamed m n → global_names n ≡ global_names m
global_names_stay m n is =
    ap (λ (gs : List GlobalVar). map (λ (g : GlobalVar). g.name) gs ++ (function_names n ++ map (λ (d : Declaration). d.name) n.declarations)) is.globals
    ∙ ap (λ (names : List Name). map (λ (g : GlobalVar). g.name) m.globals ++ (names ++ map (λ (d : Declaration). d.name) n.declarations)) (function_names_stay m n is)
    ∙ ap (λ (ds : List Declaration). map (λ (g : GlobalVar). g.name) m.globals ++ (function_names m ++ map (λ (d : Declaration). d.name) ds)) is.declarations

each : {A : Type 0} (P Q : A → Type 0) → ((x : A) → P x → Q x) → (xs : List A) → AllByRecursion P xs → AllByRecursion Q xs
each P Q step [] all = tt
each P Q step (x ∷ xs) all = (step x all.0, each P Q step xs all.1)

pub shape_stays : RenamedHaveShape → ShapeStays
shape_stays one m n is shape =
    let alike = renamed_alike m n is in
    record {
      types_apart = subst (λ (types : List NamedTy). AreNew [] (map (λ (t : NamedTy). t.name) types)) (sym is.types) shape.types_apart;
      types =
          subst (λ (types : List NamedTy). AllByRecursion (NamesTypes (map (λ (t : NamedTy). t.name) types)) types) (sym is.types) shape.types;
      globals =
          subst (AllByRecursion (HasGlobalShape n)) (sym is.globals)
          (each (HasGlobalShape m) (HasGlobalShape n) (global m n alike) m.globals shape.globals);
      functions =
          under (HasFunctionShape m) (HasFunctionShape n) (λ f g (ρ, renamed) has. one m n ρ f g is renamed has) m.functions n.functions is.functions shape.functions;
      declarations =
          subst (AllByRecursion (HasDeclaredShape n)) (sym is.declarations)
          (each (HasDeclaredShape m) (HasDeclaredShape n) (declared m n alike) m.declarations shape.declarations);
      names = subst (AreNew []) (sym (global_names_stay m n is)) shape.names;
    }

pub definedness_stays : RenamedAreDefined → DefinednessStays
definedness_stays one m n is shape defined =
    under (λ f. HasFunctionShape m f × IsFunctionDefined f) IsFunctionDefined (λ f g (ρ, renamed) has. one m ρ f g renamed has.0 has.1) m.functions n.functions is.functions
    (both (HasFunctionShape m) IsFunctionDefined m.functions shape defined)

-- ---- range

range_of : (f g : Function) → Renamed f g → IsFunctionInRange f → AllByRecursion IsNameInRange (names_of g) → IsFunctionInRange g
range_of f g (ρ, is) range names =
    subst IsFunctionInRange (sym is.same) (in_range ρ f range (subst (λ h. AllByRecursion IsNameInRange (names_of h)) is.same names))

as_many_functions : (fs gs : List Function) → AllZip Renamed fs gs → length gs ≡ length fs
as_many_functions [] [] zip = refl
as_many_functions [] (g ∷ gs) zip = absurd zip
as_many_functions (f ∷ fs) [] zip = absurd zip
as_many_functions (f ∷ fs) (g ∷ gs) zip = ap suc (as_many_functions fs gs zip.1)

pub range_stays : RangeStays
range_stays m n is range names = record {
  types = subst (AllByRecursion IsNamedTypeInRange) (sym is.types) range.types;
  globals = subst (AllByRecursion IsGlobalInRange) (sym is.globals) range.globals;
  functions =
      over IsFunctionInRange (λ g. AllByRecursion IsNameInRange (names_of g)) IsFunctionInRange range_of m.functions n.functions is.functions range.functions names;
  declarations = subst (AllByRecursion IsDeclarationInRange) (sym is.declarations) range.declarations;
  order =
      subst (λ (ds : List Declaration). StandBehind 0 (length n.functions) ds) (sym is.declarations)
      (subst (λ count. StandBehind 0 count m.declarations) (sym (as_many_functions m.functions n.functions is.functions)) range.order);
}

pub well_formedness_stays : RenamedHaveShape → RenamedAreDefined → WellFormednessStays
well_formedness_stays has are m n is well names =
    let within = limits_stay m n is (well.depths, well.lines, well.blocks) in
    record {
      shape = shape_stays has m n is well.shape;
      defined = definedness_stays are m n is well.shape.functions well.defined;
      range = range_stays m n is well.range names;
      depths = within.0;
      lines = within.1;
      blocks = within.2;
    }
