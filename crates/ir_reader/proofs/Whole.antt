-- What a tree of a text names is what the text spells, and what is at fault in it is at fault in the text.
use Rattle.std.proofs.Common.{◌≡◌, ℕ, List, Result, Ok, Err, IfOk, sym, subst}
use Rattle.ir_core.specs.declared.modules.Module.{Module}
use Rattle.ir_types.specs.declared.names.Name.{Name}
use Rattle.module_grammar.specs.declared.functions.DeclaredText.{DeclaredText}
use Rattle.module_grammar.specs.declared.items.ModuleText.{ModuleText}
use Rattle.module_grammar.specs.declared.places.Placed.{Placed}
use Rattle.module_grammar.specs.declared.types.CalledText.{CalledText}
use Rattle.ir_reader.specs.Read.{IsTreeOf}
use Rattle.ir_reader.specs.Told.{of_names}
use Rattle.module_spelling.specs.Faults.{IsRead}
use Rattle.module_spelling.specs.Spells.{Spells, StatesParams, StatesTypes}
use Rattle.module_texts.specs.Texts.{IsTextFault}
use Rattle.named_modules.specs.Built.{module_of}
use Rattle.named_modules.specs.Laws.{FaultlessTreesNameWhatIsBuilt, Is}
use Rattle.named_modules.specs.Modules.{NamesModule}
use Rattle.ir_reader.specs.Naming.{IsFaultless, IsMisnamed}
use Rattle.ir_reader.specs.declared.misnamed.Misnamed.{Misnamed}
use Rattle.ir_reader.specs.declared.misnamed.Misnamed.TheVariants as misnamed
use Rattle.module_spelling.specs.TokenLaws.{CalledNamesStand, DeclaredNamesStand, NamesRestOnTheseAlone, WithinTreesAreShort}
use Rattle.ir_reader.proofs.Told.{of_reason}

pub record TreeLaws : Type 0 where
  pub short : WithinTreesAreShort
  pub named : FaultlessTreesNameWhatIsBuilt
  pub called : CalledNamesStand
  pub declared : DeclaredNamesStand
  pub rest : NamesRestOnTheseAlone

module _ (bytes : List ℕ) (tree : ModuleText) (stated : Placed Name → CalledText) (params : Placed Name → DeclaredText) (is : IsTreeOf bytes tree stated params) where
  names_by : TreeLaws → IsFaultless stated params tree → NamesModule (StatesTypes is.symbols) (StatesParams is.symbols) tree (module_of params tree)
  names_by laws none =
      let short = laws.short params tree is.symbols is.read.derivation is.read.written is.read.formed is.read.yields is.read.within in
      (laws.rest stated params is.symbols tree (module_of params tree)
      (λ x c has. (
        λ states. sym (is.around.types x c states),
        λ same.
            let at = laws.called tree is.symbols x is.read.written has in
            subst (StatesTypes is.symbols x) (sym same) (is.around.stated_so x at.0 at.1 at.2 at.3 at.4),
      ))
      (λ x c has. (
        λ states. sym (is.around.declared x c states),
        λ same.
            let at = laws.declared tree is.symbols x is.read.written has in
            subst (StatesParams is.symbols x) (sym same) (is.around.declared_so x at.0 at.1 at.2 at.3 at.4),
      ))).1
      (laws.named stated params tree short none.0)

  -- a tree without fault
  pub spelled_by : TreeLaws → IsFaultless stated params tree → (m : Module) → m ≡ module_of params tree → Spells bytes m
  spelled_by laws none m same =
      let spelled : Spells bytes (module_of params tree) = record {
        tokens = is.tokens;
        cut = is.has.0.1;
        symbols = is.symbols;
        stand = is.has.1;
        tree = tree;
        written = is.read.written;
        derivation = is.read.derivation;
        formed = is.read.formed;
        yields = is.read.yields;
        within = is.read.within;
        names = names_by laws none;
        small = none.1;
      } in
      subst (Spells bytes) (sym same) spelled

  abbrev reading : IsRead is.symbols
  reading = record {
    tree = tree;
    written = is.read.written;
    derivation = is.read.derivation;
    formed = is.read.formed;
    yields = is.read.yields;
    within = is.read.within;
    stated = stated;
    params = params;
    types = is.around.types;
    declared = is.around.declared;
  }

  -- a tree with a fault
  pub fault_by : (e : Misnamed) → IsMisnamed stated params tree e → IsTextFault bytes (of_names e)
  fault_by (misnamed.Fault f) first = of_reason bytes f.start f.end f.reason (is.tokens, is.symbols, is.has, (reading, first.0, first.1))
  fault_by misnamed.Block large = (is.tokens, is.symbols, is.has, (reading, large))

pub only_by : {E : Type 0} (Is : Module → Type 0) (answer : Result Module E) → ((a b : Module) → Is a → Is b → a ≡ b) → IfOk answer Is
    → IfOk answer (λ m. (other : Module) → Is other → other ≡ m)
only_by Is (Ok m) once is = λ other at. once other m at is
only_by Is (Err e) once is = tt
