-- Of a name behind a sigil only how far it goes decides the outline, and of a number only whether it is in range.
use Rattle.std.proofs.Common.{◌≡◌, ℕ, Bool, Option, Some, None, refl}
use Rattle.ir_lexer.specs.declared.token.Kind.TheVariants as alone
use Rattle.ir_lexer.specs.declared.token.TokenKind.TheVariants as kind
use Rattle.ir_lexer.specs.Names.{NameAt, span_of}
use Rattle.ir_lexer.specs.Names.NameAt.{Found, EmptyOrOpen, Missing}
use Rattle.ir_lexer.specs.Pieces.{behind_sigil, named, number, number_outline, outline}

pub local_outline : (at : NameAt) → behind_sigil alone.Local (span_of at) ≡ outline (named kind.Local at)
local_outline (Found name len) = refl
local_outline EmptyOrOpen = refl
local_outline Missing = refl

pub global_outline : (at : NameAt) → behind_sigil alone.Global (span_of at) ≡ outline (named kind.Global at)
global_outline (Found name len) = refl
global_outline EmptyOrOpen = refl
global_outline Missing = refl

pub number_alone : (negative : Bool) (o : Option ℕ) (len : ℕ) → number_outline o len ≡ outline (number negative o len)
number_alone negative None len = refl
number_alone negative (Some n) len = refl
