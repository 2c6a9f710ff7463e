-- Named and numbered modules are in range, in order and well-formed.
use Rattle.std.proofs.Common.{List, [], ◌∷◌, refl, sym, subst}
use Rattle.std.specs.List.{AllByRecursion}
use Rattle.ir_core.specs.declared.functions.Function.{Function}
use Rattle.ir_core.specs.declared.modules.Module.{Module}
use Rattle.ir_types.specs.declared.names.Name.{Name}
use Rattle.ir_types.specs.declared.names.Name.TheVariants.{Text, Number}
use Rattle.ir_core.specs.Functions.{names_of}
use Rattle.ir_core.specs.Order.{AreCounted, AreInOrder, AreNew}
use Rattle.ir_core.specs.Ranges.{IsFunctionInRange, IsInRange, IsNameInRange, StandBehind}
use Rattle.ir_core.specs.WellFormed.{HasFunctionShape}
use Rattle.ir_rename.specs.Laws.{HasNamesApart, HasNamesInRange, IsText, NamedAreTexts}
use Rattle.ir_rename.specs.Named.{named_all, named_function}
use Rattle.ir_rename.specs.Numbered.{numbered_function, numbered_in_order}
use Rattle.ir_rename.specs.Renamed.{AreRenamed}
use Rattle.ir_rename.proofs.Lists.{length_mapped}
use Rattle.ir_rename.proofs.Shaped.{all_under}
use Rattle.renaming_laws.specs.Kept.{DefinednessStays, FunctionNamesStay, NamesStayApart, ShapeStays, WellFormednessStays}
use Rattle.renaming_laws.specs.Laws.{GivesOrder, KeepsDefined, KeepsNamesInRange, KeepsRange, KeepsShape, KeepsWellFormed}
use Rattle.renaming_laws.proofs.Names.{by_count, by_text, named_in_range, numbered_in_range}
use Rattle.renaming_laws.proofs.Ranges.{in_range}

abbrev InRange : Function → Type 0
InRange f = AllByRecursion IsNameInRange (names_of f)

abbrev AllNew : Function → Type 0
AllNew f = AreNew [] (names_of f)

abbrev AllTexts : Function → Type 0
AllTexts f = AllByRecursion IsText (names_of f)

each : (P Q : Function → Type 0) → ((f : Function) → P f → Q f) → (fs : List Function) → AllByRecursion P fs → AllByRecursion Q fs
each P Q step [] all = tt
each P Q step (f ∷ fs) all = (step f all.0, each P Q step fs all.1)

pub names_in : (m : Module) → IsInRange m → HasNamesInRange m
names_in m range = each IsFunctionInRange InRange (λ f is. is.names) m.functions range.functions

pub apart_in : (m : Module) → AllByRecursion (HasFunctionShape m) m.functions → HasNamesApart m
apart_in m shape = each (HasFunctionShape m) AllNew (λ f has. has.names) m.functions shape

-- ---- range

pub named_names_in_range : KeepsNamesInRange named_all
named_names_in_range m range = all_under InRange InRange named_function named_in_range m.functions range

pub numbered_names_in_range : KeepsNamesInRange numbered_in_order
numbered_names_in_range m range = all_under InRange InRange numbered_function numbered_in_range m.functions range

pub named_range : KeepsRange named_all
named_range m range = record {
  types = range.types;
  globals = range.globals;
  declarations = range.declarations;
  functions =
      all_under IsFunctionInRange IsFunctionInRange named_function (λ f is. in_range (by_text f) f is (named_in_range f is.names)) m.functions range.functions;
  order = subst (λ count. StandBehind 0 count m.declarations) (sym (length_mapped named_function m.functions)) range.order;
}

pub numbered_range : KeepsRange numbered_in_order
numbered_range m range = record {
  types = range.types;
  globals = range.globals;
  declarations = range.declarations;
  functions =
      all_under IsFunctionInRange IsFunctionInRange numbered_function (λ f is. in_range (by_count f) f is (numbered_in_range f is.names)) m.functions range.functions;
  order = subst (λ count. StandBehind 0 count m.declarations) (sym (length_mapped numbered_function m.functions)) range.order;
}

-- ---- order

uncounted : (names : List Name) → AllByRecursion IsText names → AreCounted 0 names 0
uncounted [] texts = refl
uncounted (Text bytes ∷ names) texts = (0, refl, uncounted names texts.1)
uncounted (Number n ∷ names) texts = absurd texts.0

pub in_order : (fs : List Function) → AllByRecursion AllNew fs → AllByRecursion AllTexts fs → AllByRecursion (λ f. AreInOrder (names_of f)) fs
in_order [] new texts = tt
in_order (f ∷ fs) new texts = ((new.0, 0, uncounted (names_of f) texts.0), in_order fs new.1 texts.1)

abbrev pub Renames : (Module → Module) → Type 0
Renames given = (m : Module) → HasNamesInRange m → HasNamesApart m → AreRenamed m (given m)

pub named_order : Renames named_all → NamedAreTexts → FunctionNamesStay → NamesStayApart → GivesOrder named_all
named_order renames texts stay apart m range new order =
    let is = renames m range new in
    record {
      functions = in_order (named_all m).functions (apart m (named_all m) is new) (texts m);
      names = subst AreInOrder (sym (stay m (named_all m) is)) order;
    }

-- ---- shape, and what is well-formed

pub keeps_shape : (given : Module → Module) → Renames given → ShapeStays → KeepsShape given
keeps_shape given renames stays m range shape = stays m (given m) (renames m range (apart_in m shape.functions)) shape

pub keeps_defined : (given : Module → Module) → Renames given → DefinednessStays → KeepsDefined given
keeps_defined given renames stays m range shape defined = stays m (given m) (renames m range (apart_in m shape)) shape defined

pub keeps_well_formed : (given : Module → Module) → Renames given → KeepsNamesInRange given → WellFormednessStays → KeepsWellFormed given
keeps_well_formed given renames names stays m well =
    let range = names_in m well.range in
    stays m (given m) (renames m range (apart_in m well.shape.functions)) well (names m range)
