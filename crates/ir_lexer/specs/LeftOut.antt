-- The words of the language (LangRef 3.7) that the profile leaves out: floating point, vectors, address spaces, atomics, exceptions,
-- indirect branches, calling conventions, and what else a module may say.
--
-- `float` and `i65` are left out; `i64`, `i065`, `@float`, `float:` and "float" aren't.
use Rattle.std.specs.Prelude.{ℕ, Bool, false, ◌==◌, ◌&&◌, ◌||◌, not, List, [], ◌∷◌, codes, nat_lt}
use Rattle.std.specs.List.{list_any}
use Rattle.std.specs.Str.{bytes_eq}
use Rattle.ir_lexer.specs.Bytes.{are_digits}
use Rattle.ir_lexer.specs.Numbers.{begins_with_zero, value_of}
use Rattle.ir_lexer.specs.declared.token.TokenKind.{TokenKind}
use Rattle.ir_lexer.specs.declared.token.TokenKind.TheVariants as kind

-- types (Type System)
abbrev pub left_out_types : List (List ℕ)
left_out_types =
    codes "half" ∷ codes "float" ∷ codes "double" ∷ codes "fp128" ∷ codes "x86_fp80" ∷ codes "ppc_fp128" ∷ codes "x86_mmx" ∷ codes "metadata"
    ∷ codes "addrspace" ∷ []

-- instructions (Instruction Reference)
abbrev pub left_out_instructions : List (List ℕ)
left_out_instructions =
    codes "fadd" ∷ codes "fsub" ∷ codes "fmul" ∷ codes "fdiv" ∷ codes "frem" ∷ codes "fcmp" ∷ codes "fptrunc" ∷ codes "fpext" ∷ codes "fptoui"
    ∷ codes "fptosi" ∷ codes "uitofp" ∷ codes "sitofp" ∷ codes "ptrtoint" ∷ codes "inttoptr" ∷ codes "addrspacecast" ∷ codes "extractvalue"
    ∷ codes "insertvalue" ∷ codes "extractelement" ∷ codes "insertelement" ∷ codes "shufflevector" ∷ codes "va_arg" ∷ codes "invoke"
    ∷ codes "landingpad" ∷ codes "resume" ∷ codes "indirectbr" ∷ codes "blockaddress" ∷ codes "fence" ∷ codes "cmpxchg" ∷ codes "atomicrmw"
    ∷ codes "atomic" ∷ codes "volatile" ∷ []

-- attributes and calling conventions (Parameter Attributes, Calling Conventions)
abbrev pub left_out_attributes : List (List ℕ)
left_out_attributes =
    codes "inalloca" ∷ codes "byval" ∷ codes "sret" ∷ codes "nest" ∷ codes "inreg" ∷ codes "musttail" ∷ codes "fastcc" ∷ codes "coldcc"
    ∷ codes "cc" ∷ []

-- what else a module may say (High Level Structure)
abbrev pub left_out_items : List (List ℕ)
left_out_items =
    codes "asm" ∷ codes "module" ∷ codes "alias" ∷ codes "thread_local" ∷ codes "comdat" ∷ codes "section" ∷ codes "gc" ∷ codes "prefix"
    ∷ codes "prologue" ∷ codes "personality" ∷ codes "weak" ∷ codes "linkonce" ∷ codes "extern_weak" ∷ codes "appending" ∷ codes "hidden"
    ∷ codes "protected" ∷ codes "dllimport" ∷ codes "dllexport" ∷ codes "externally_initialized" ∷ codes "uselistorder"
    ∷ codes "uselistorder_bb" ∷ []

abbrev pub is_among : List (List ℕ) → List ℕ → Bool
is_among words word = list_any (λ other. bytes_eq word other) words

-- the N of an integer type that is above 64, and has no leading zero
abbrev pub is_too_wide : List ℕ → Bool
is_too_wide digits = are_digits digits && (nat_lt 64 (value_of digits) && not (begins_with_zero digits))

-- `iN` with such an N
abbrev pub is_wide_integer : List ℕ → Bool
is_wide_integer [] = false
is_wide_integer (letter ∷ digits) = letter == 105 && is_too_wide digits

abbrev pub is_left_out_word : List ℕ → Bool
is_left_out_word word =
    is_among left_out_types word || (is_among left_out_instructions word || (is_among left_out_attributes word
    || (is_among left_out_items word || is_wide_integer word)))

-- such a word, or `<`, which begins a vector
abbrev pub is_left_out : TokenKind → Bool
is_left_out (kind.Word word) = is_left_out_word word
is_left_out (kind.Mark mark) = mark == 60
is_left_out _ = false
