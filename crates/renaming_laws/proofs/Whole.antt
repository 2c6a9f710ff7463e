-- Named and numbered modules have their names in the order of the file, and so they are read of their own texts.
use Rattle.std.proofs.Common.{◌≡◌, ◌∙◌, ℕ, ◌+◌, List, [], ◌∷◌, ◌++◌, map, arith, refl, ap, sym, subst}
use Rattle.std.specs.List.{AllByRecursion}
use Rattle.ir_core.specs.declared.functions.Function.{Function}
use Rattle.ir_core.specs.declared.modules.Declaration.{Declaration}
use Rattle.ir_core.specs.declared.modules.GlobalVar.{GlobalVar}
use Rattle.ir_core.specs.declared.modules.Module.{Module}
use Rattle.ir_core.specs.Functions.{names_of}
use Rattle.ir_core.specs.Modules.{those_before, those_behind}
use Rattle.ir_core.specs.Order.{AreInOrder, AreNew}
use Rattle.ir_core.specs.Ranges.{IsNameInRange}
use Rattle.ir_rename.specs.Laws.{NamedAreTexts, NumberedIsInOrder}
use Rattle.ir_rename.specs.Named.{named_all, named_function}
use Rattle.ir_rename.specs.Numbered.{numbered_function, numbered_in_order}
use Rattle.ir_types.specs.declared.names.Name.{Name}
use Rattle.ir_types.specs.declared.names.Name.TheVariants.{Text}
use Rattle.named_modules.specs.Modules.{global_names, names_in_file}
use Rattle.printed_modules.specs.Laws.{PrintedModulesAreRead}
use Rattle.module_texts.specs.SpelledLimits.Laws.{ModulesAreWithin}
use Rattle.module_texts.specs.SpelledLimits.Ranges.{ModulesAreInRange}
use Rattle.renaming_laws.specs.Kept.{LimitsStay, NamesStayApart}
use Rattle.renaming_laws.specs.Laws.{CanBeRead, CanBeRun, KeepsRange, KeepsShape, KeepsWellFormed, SpelledCanBeRead, SpelledCanBeRun}
use Rattle.renaming_laws.proofs.Given.{Renames, apart_in, in_order, names_in}

-- ---- names in the order of the file

file_names :
    (g : Function → Function) → ((f : Function) → (g f).name ≡ f.name) → (count : ℕ) (ds : List Declaration) (fs : List Function)
    → names_in_file count ds (map g fs) ≡ names_in_file count ds fs
file_names g same count ds [] = refl
file_names g same count ds (f ∷ fs) =
    let before = map (λ (d : Declaration). d.name) (those_before count ds) in
    ap (λ (n : Name). before ++ n ∷ names_in_file (count + 1) (those_behind count ds) (map g fs)) (same f)
    ∙ ap (λ (names : List Name). before ++ f.name ∷ names) (file_names g same (count + 1) (those_behind count ds) fs)

named_names : (m : Module) → global_names (named_all m) ≡ global_names m
named_names m =
    ap (λ (names : List Name). map (λ (g : GlobalVar). g.name) m.globals ++ names) (file_names named_function (λ f. refl) 0 m.declarations m.functions)

numbered_names : (m : Module) → global_names (numbered_in_order m) ≡ global_names m
numbered_names m =
    ap (λ (names : List Name). map (λ (g : GlobalVar). g.name) m.globals ++ names) (file_names numbered_function (λ f. refl) 0 m.declarations m.functions)

-- ---- each function's names

abbrev AreOrdered : List Function → Type 0
AreOrdered = AllByRecursion (λ (f : Function). AreInOrder (names_of f))

-- the function alone, by a name that is none to count
abbrev alone : Function → Module
alone f = record { types = []; globals = []; functions = record f { name = Text (97 ∷ []) } ∷ []; declarations = [] }

one_name : AreInOrder (Text (97 ∷ []) ∷ [])
one_name = ((λ there. absurd (omega (arith, there.1)), tt), 0, (0, refl, refl))

numbered_order :
    NumberedIsInOrder → (fs : List Function) → AllByRecursion (λ (f : Function). AllByRecursion IsNameInRange (names_of f)) fs
    → AllByRecursion (λ (f : Function). AreNew [] (names_of f)) fs → AreOrdered (map numbered_function fs)
numbered_order law [] range apart = tt
numbered_order law (f ∷ fs) range apart =
    ((law (alone f) (range.0, tt) (apart.0, tt) one_name).functions.0, numbered_order law fs range.1 apart.1)

-- ---- what is read again

pub named_again :
    PrintedModulesAreRead → Renames named_all → NamedAreTexts → NamesStayApart → KeepsShape named_all → KeepsRange named_all → LimitsStay → CanBeRead named_all
named_again print renames texts apart shapes ranges limits m types globals shape range within =
    let names = names_in m range in
    let is = renames m names (apart_in m shape.functions) in
    print (named_all m)
    (record {
      types = types;
      globals = subst AreInOrder (sym (named_names m)) globals;
      functions = in_order (named_all m).functions (apart m (named_all m) is (apart_in m shape.functions)) (texts m);
    })
    (shapes m names shape) (ranges m range) (limits m (named_all m) is within)

pub numbered_again :
    PrintedModulesAreRead → Renames numbered_in_order → NumberedIsInOrder → KeepsShape numbered_in_order → KeepsRange numbered_in_order → LimitsStay
    → CanBeRead numbered_in_order
numbered_again print renames law shapes ranges limits m types globals shape range within =
    let names = names_in m range in
    let apart = apart_in m shape.functions in
    print (numbered_in_order m)
    (record {
      types = types;
      globals = subst AreInOrder (sym (numbered_names m)) globals;
      functions = numbered_order law m.functions names apart;
    })
    (shapes m names shape) (ranges m range) (limits m (numbered_in_order m) (renames m names apart) within)

pub spelled_again : (given : Module → Module) → CanBeRead given → ModulesAreInRange → ModulesAreWithin → SpelledCanBeRead given
spelled_again given again ranges within bytes m are_bytes spells shape =
    again m spells.names.type_order spells.names.order shape (ranges bytes m are_bytes spells) (within bytes m spells)

-- ---- what can be run

pub can_be_run : (given : Module → Module) → CanBeRead given → KeepsWellFormed given → CanBeRun given
can_be_run given read keeps m types globals well =
    (read m types globals well.shape well.range (well.depths, well.lines, well.blocks), keeps m well)

pub spelled_can_be_run : (given : Module → Module) → CanBeRun given → SpelledCanBeRun given
spelled_can_be_run given run bytes m (spells, well) = run m spells.names.type_order spells.names.order well
