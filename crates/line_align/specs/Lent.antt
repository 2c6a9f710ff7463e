-- The code's aligned blocks: bodies that are lent, with the letters of their lines.
use Rattle.std.specs.Prelude.{◌≡◌, List, [], ◌∷◌, map, Result, Ok, Err, ⊤}
use Rattle.ir_core.specs.declared.functions.Instr.{Instr}
use Rattle.erhl_assert.specs.declared.hints.Letter.{Letter}
use Rattle.erhl_assert.specs.Alignment as alignment
use Rattle.erhl_assert.specs.Alignment.{Line}
use Rattle.line_align.specs.declared.alignment.AlignedBlock.{AlignedBlock}
use Rattle.line_align.specs.declared.alignment.AlignEnd.{AlignEnd}
use Rattle.line_align.specs.declared.alignment.AlignEnd.TheVariants.{Differs, Memory}
use Rattle.line_align.specs.Cursor.{on_source, on_target, left, aligned_line}

-- the lines that letters take of two bodies
abbrev pub lines_under : List Letter → List Instr → List Instr → List Line
lines_under [] xs ys = []
lines_under (l ∷ ls) xs ys = aligned_line l xs ys ∷ lines_under ls (left (on_source l) xs) (left (on_target l) ys)

abbrev pub lent_block : AlignedBlock → alignment.AlignedBlock
lent_block b = record {
  lines = lines_under b.letters b.source.now.body b.target.now.body;
  source = b.source.now;
  target = b.target.now;
}

-- what aligning two functions answers: their blocks, or the block at fault, unless memory is lacking
abbrev pub Answers : Result (List AlignedBlock) AlignEnd → alignment.Alignment → Type 0
Answers (Ok bs) a = alignment.Aligned (map lent_block bs) ≡ a
Answers (Err (Differs x)) a = alignment.Differs x ≡ a
Answers (Err Memory) a = ⊤
