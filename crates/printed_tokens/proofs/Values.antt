-- Printed values, operands and alignments are the symbols of what names them.
use Rattle.std.proofs.Common.{◌≡◌, ℕ, ◌^◌, ◌<◌, true, List, ◌++◌, Option, Some, None, arith, refl, ap, sym}
use Rattle.std.specs.List.{AllByRecursion}
use Rattle.ir_types.specs.declared.names.Name.{Name}
use Rattle.ir_types.specs.declared.ty.Ty.{Ty}
use Rattle.ir_core.specs.declared.modules.Module.{Module}
use Rattle.ir_core.specs.declared.operands.Atom.{Atom}
use Rattle.ir_core.specs.declared.operands.Atom.TheVariants.{Constant, Register}
use Rattle.ir_core.specs.declared.operands.Operand.{Operand}
use Rattle.ir_core.specs.Ranges.{IsAlignInRange, IsNameInRange, constant_written, is_written}
use Rattle.ir_core.specs.StatedTypes.{stated_in}
use Rattle.ir_core.specs.Types.{is_first_class}
use Rattle.ir_core.specs.Typing.{is_constant_of}
use Rattle.ir_core.specs.WellFormed.{IsTypeKnown}
use Rattle.ir_lexer.specs.declared.token.Number.{Number}
use Rattle.module_grammar.specs.declared.constants.OperandText.{OperandText}
use Rattle.module_grammar.specs.declared.constants.ValueText.{ValueText}
use Rattle.module_grammar.specs.declared.constants.ValueText.TheVariants as text
use Rattle.module_grammar.specs.declared.places.Placed.{Placed}
use Rattle.module_grammar.specs.declared.words.KeyWord.TheVariants as key
use Rattle.module_grammar.specs.declared.words.Language.{Language}
use Rattle.module_grammar.specs.Constants as write
use Rattle.module_grammar.specs.Lines as lines
use Rattle.named_modules.specs.Values.{IsAlign, IsAlignOf, IsOperand, IsRegister, IsValue, Registers}
use Rattle.ir_printer.specs.ExpressionPrinter.Printed.{printed_align, printed_local, printed_operand, printed_value}
use Rattle.printed_tokens.proofs.Constants.{constant}
use Rattle.printed_tokens.proofs.Marks as marks
use Rattle.printed_tokens.proofs.ModuleTypes.{HasNames, value_type}
use Rattle.printed_tokens.proofs.Numbers.{numeral, unsigned}
use Rattle.printed_tokens.proofs.Prints.{Prints, before, both, empty, read_as}
use Rattle.printed_tokens.proofs.ReadTexts.{Stops}

-- ---- alignments

align_named : (a : ℕ) (w : Number) → IsAlignInRange (Some a) → w ≡ unsigned a → IsAlignOf w (Some a)
align_named a w ranged is = (ap (λ (n : Number). n.negative) is, sym (ap (λ (n : Number). n.magnitude) is), ranged)

-- an alignment, or nothing, does not go on as a word or a number does
pub align_stops : (a : Option ℕ) (rest : List ℕ) → Stops rest → Stops (printed_align a ++ rest)
align_stops None rest stop = stop
align_stops (Some a) rest stop = refl

module _ (language : Language) where
  -- `, align 4`
  pub align : (a : Option ℕ) → IsAlignInRange a → Prints language Stops lines.align (λ (w : Option (Placed Number)). IsAlign w a) (printed_align a)
  align None ranged = read_as language lines.align (λ (w : Option (Placed Number)). IsAlign w None) (λ t. None) (λ t named. refl) (λ t named. refl) (empty language Stops)
  align (Some a) ranged =
      let small : a < 2 ^ 64 = omega (arith, ranged.1) in
      read_as language lines.align (λ (w : Option (Placed Number)). IsAlign w (Some a)) Some (λ w named. refl) (λ w named. align_named a w.what ranged named)
      (before language (marks.comma language) (before language (marks.key language key.Align tt) (numeral language a small)))

-- ---- values

-- what is asked of a value at its type beside the registers
abbrev pub FitsValue : Module → Registers → Ty → Atom Name → Type 0
FitsValue m rs t (Constant c) = (constant_written t c ≡ true) × (is_constant_of m t c ≡ true) × AllByRecursion (IsTypeKnown m) (stated_in c)
FitsValue m rs t (Register x) = IsNameInRange x × IsRegister rs t x

module _ (m : Module) (language : Language) (names : HasNames m) (rs : Registers) where
  pub value : (t : Ty) (a : Atom Name) → is_written t ≡ true → FitsValue m rs t a → Prints language Stops write.value (λ (w : ValueText). IsValue m rs t w a) (printed_value t a)
  value t (Constant c) written fits =
      read_as language write.value (λ (w : ValueText). IsValue m rs t w (Constant c)) text.Const (λ w named. refl) (λ w named. named)
      (constant m language names t c written fits.0 fits.1 fits.2)
  value t (Register x) written fits =
      read_as language write.value (λ (w : ValueText). IsValue m rs t w (Register x)) text.Local (λ w named. refl) (λ w named. (named, fits.1))
      (marks.local language x fits.0)

  -- a value behind its type
  pub operand : (o : Operand Name) → is_written o.ty ≡ true → IsTypeKnown m o.ty → is_first_class o.ty ≡ true → FitsValue m rs o.ty o.atom
      → Prints language Stops write.operand (λ (w : OperandText). IsOperand m rs w o) (printed_operand printed_local o)
  operand o written known first fits =
      read_as language write.operand (λ (w : OperandText). IsOperand m rs w o) (λ w. record { ty = w.0; value = w.1 }) (λ w named. refl) (λ w named. (named.0, named.1))
      (both language (value_type m language names o.ty written known first) (before language (marks.space language) (value o.ty o.atom written fits)) (λ rest end. refl))
