-- What is built of what stands behind the type of an `alloca`.
use Rattle.std.specs.Prelude.{ℕ, Option}
use Rattle.ir_types.specs.declared.ty.Ty.{Ty}
use Rattle.module_grammar.specs.declared.commas.CountBehindText.{CountBehindText}
use Rattle.named_modules.specs.Built.{align_of, count_of}

-- the count and the alignment
abbrev pub count_built : CountBehindText → Option (Ty × ℕ) × Option ℕ
count_built w = (count_of w.count, align_of w.behind.align)
