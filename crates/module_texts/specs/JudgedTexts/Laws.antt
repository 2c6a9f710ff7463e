-- The law that each text is judged.
use Rattle.std.specs.Prelude.{◌⊎◌, ℕ, List}
use Rattle.ir_core.specs.declared.modules.Module.{Module}
use Rattle.module_spelling.specs.Spells.{Spells}
use Rattle.module_texts.specs.Laws.{IsToldFault}
use Rattle.module_texts.specs.Texts.{IsShort}
use Rattle.ir_lexer.specs.declared.fault.TextFault.{TextFault}

-- Each text is short and spells a module, or something is first at fault in it that isn't want of memory.
--
-- `define i32 @f() { ret i32 7 }` spells a module; of `define i32 @f() { ret i32 %x }` it is `%x` that is first at fault.
abbrev pub EachTextIsJudged : Type 0
EachTextIsJudged = (bytes : List ℕ) → ((m : Module) × IsShort bytes × Spells bytes m) ⊎ ((f : TextFault) × IsToldFault bytes f)
