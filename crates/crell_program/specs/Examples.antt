-- What statuses, headlines, readings and deliveries are not: laws that hold their words to what they mean.
use Rattle.std.specs.Prelude.{◌≡◌, ◌↔◌, ℕ, List, None, Some}
use Rattle.json_forms.specs.Forms.{Reading}
use Rattle.erhl_assert.specs.declared.hints.Hints.{Hints}
use Rattle.crell_io.specs.Shelf.{Told}
use Rattle.crell_io.specs.Shelf.Told.{Bytes}
use Rattle.crell_program.specs.declared.command_line.request.Listing.{Listing}
use Rattle.crell_program.specs.CommandLine.Words.{CheckFiles, Check, Print}
use Rattle.crell_program.specs.Delivery.{GotAll, GotPart, SinkSeen}
use Rattle.crell_program.specs.Due.{IsReadOnlyAs}
use Rattle.crell_program.specs.Modules.{SpellsOne}
use Rattle.crell_program.specs.Statuses.{AreRefined, IsRefinementOfBytes, IsStatus}

-- 0 and 10 are statuses, and 11 is none
pub record StatusesOfExamples : Type 0 where
  pub least : IsStatus 0
  pub most : IsStatus 10
  pub more : IsStatus 11 → ⊥

-- The headline doesn't hold of words that are no command's. Of told texts that of `check` says that they are refined, and that of `defs` and `fmt`
-- that theirs spells one module.
pub record HeadlinesAreOfTexts : Type 0 where
  pub no_command : (told : List ℕ → Told) → IsRefinementOfBytes told None → ⊥
  pub check : (told : List ℕ → Told) (names : CheckFiles) (source target : List ℕ) → told names.source ≡ Bytes source → told names.target ≡ Bytes target
      → IsRefinementOfBytes told (Some (Check names)) ↔ AreRefined source target
  pub print : (told : List ℕ → Told) (listing : Listing) (file text : List ℕ) → told file ≡ Bytes text
      → IsRefinementOfBytes told (Some (Print listing file)) ↔ SpellsOne text

-- A hint file's text is read as one thing alone.
abbrev pub ReadingsAreOne : Type 0
ReadingsAreOne = (text : List ℕ) (a b : Reading Hints) → IsReadOnlyAs text a → IsReadOnlyAs text b → a ≡ b

-- A sink that tells its bytes didn't get a text both whole and in part.
abbrev pub PartsAreNotAll : Type 0
PartsAreNotAll = (sink : SinkSeen) (bytes text : List ℕ) → sink.before ≡ Some bytes → GotAll sink text → GotPart sink text → ⊥
