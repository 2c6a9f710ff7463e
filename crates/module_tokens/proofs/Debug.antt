-- A name without quotes is one of debugging where its bytes say so and aren't all digits.
use Rattle.std.proofs.Common.{◌≡◌, Bool, true, false, List, ℕ, not, ◌&&◌, refl, if◌then◌else◌}
use Rattle.ir_types.specs.declared.names.Name.TheVariants as name
use Rattle.ir_core.specs.Functions.{is_debug}
use Rattle.ir_lexer.specs.Bytes.{are_digits, begins_with_quote}
use Rattle.ir_lexer.specs.Said.{name_said}
use Rattle.module_tokens.specs.Tokens.{begins_debug, is_plain_debug}

and_not : (a : Bool) → (a && not true ≡ false) × (a && not false ≡ a)
and_not true = (refl, refl)
and_not false = (refl, refl)

either : (digits : Bool) (n : ℕ) (bytes : List ℕ)
    → (begins_debug bytes && not digits) ≡ is_debug (if digits then name.Number n else name.Text bytes)
either true n bytes = (and_not (begins_debug bytes)).0
either false n bytes = (and_not (begins_debug bytes)).1

pub plain_debug : (bytes : List ℕ) → false ≡ begins_with_quote bytes → is_plain_debug bytes ≡ is_debug (name_said bytes)
unfolding name_said
plain_debug bytes plain = rw (← plain) (either (are_digits bytes) _ bytes)
