-- Words of private functions: when a token is a name of debugging.
use Rattle.std.specs.Prelude.{ℕ, Bool, false, ◌&&◌, ◌-◌, ◌==◌, not, List, codes, get_or, nat_eq}
use Rattle.std.specs.List.{starts_with}
use Rattle.ir_core.specs.Functions.{is_debug}
use Rattle.ir_lexer.specs.Bytes.{are_digits}
use Rattle.ir_lexer.specs.declared.token.TokenKind.{TokenKind}
use Rattle.ir_lexer.specs.declared.token.TokenKind.TheVariants as kind

abbrev pub begins_debug : List ℕ → Bool
begins_debug bytes = starts_with nat_eq bytes (codes "llvm.dbg.")

-- a name without quotes, which is a number where all bytes are digits
abbrev pub is_plain_debug : List ℕ → Bool
is_plain_debug bytes = begins_debug bytes && not (are_digits bytes)

abbrev pub says_debug : TokenKind → Bool
says_debug (kind.Global name) = is_debug name
says_debug _ = false

-- directly behind a byte `c`
abbrev pub is_behind_c : List ℕ → ℕ → Bool
is_behind_c text start = get_or text (start - 1) 0 == 99
