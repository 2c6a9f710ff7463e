-- A printed name of a global or a function, which may be one of debugging.
use Rattle.std.proofs.Common.{◌≡◌, ℕ, Bool, true, false, [], ◌∷◌, refl, ap}
use Rattle.std.specs.Prelude.{if◌then◌else◌}
use Rattle.ir_types.specs.declared.names.Name.{Name}
use Rattle.ir_types.specs.declared.names.Sigil.TheVariants as sigil
use Rattle.ir_core.specs.Functions.{is_debug}
use Rattle.ir_core.specs.Ranges.{IsNameInRange}
use Rattle.module_grammar.specs.declared.constants.GlobalNameText.{GlobalNameText}
use Rattle.module_grammar.specs.declared.constants.GlobalNameText.TheVariants as text
use Rattle.module_grammar.specs.declared.words.Language.{Language}
use Rattle.module_grammar.specs.Constants as write
use Rattle.module_grammar.specs.Spelled.{at}
use Rattle.module_grammar.specs.Symbols.{Debug, Global}
use Rattle.named_modules.specs.Constants as naming
use Rattle.ir_printer.specs.ExpressionPrinter.Printed.{printed_name}
use Rattle.printed_tokens.proofs.Prints.{Prints, one_token}
use Rattle.printed_tokens.proofs.ReadTexts.{Stops}
use Rattle.printed_tokens.proofs.ReadTexts as reads
use Rattle.printed_tokens.proofs.TokenWords as kinds

tree_of : Bool → Name → ℕ → ℕ → GlobalNameText
tree_of true n start end = text.Debug (at n start end)
tree_of false n start end = text.Plain (at n start end)

written_so : (debug : Bool) (n : Name) (i j : ℕ) → (if debug then Debug (at n i j) else Global (at n i j)) ≡ write.global_name (tree_of debug n i j)
unfolding tree_of
written_so true n i j = refl
written_so false n i j = refl

named_so : (debug : Bool) (n : Name) (i j : ℕ) → (naming.global_name (tree_of debug n i j)).what ≡ n
unfolding tree_of
named_so true n i j = refl
named_so false n i j = refl

module _ (language : Language) where
  pub global_name : (n : Name) → IsNameInRange n
      → Prints language Stops (λ (w : GlobalNameText). write.global_name w ∷ []) (λ (w : GlobalNameText). (naming.global_name w).what ≡ n) (printed_name sigil.Global n)
  global_name n writable =
      one_token language Stops (λ (w : GlobalNameText). write.global_name w ∷ []) (λ (w : GlobalNameText). (naming.global_name w).what ≡ n) (printed_name sigil.Global n)
      (kinds.name sigil.Global n) (tree_of (is_debug n) n) (reads.name sigil.Global n writable)
      (λ i j. ap (λ s. s ∷ []) (written_so (is_debug n) n i j)) (λ i j. named_so (is_debug n) n i j)
