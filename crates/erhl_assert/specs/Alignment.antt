-- Alignment of two bodies line by line, with no-ops.
use Rattle.std.specs.Prelude.{ℕ, Bool, ◌&&◌, cond, List, [], ◌∷◌, length, replicate, nat_eq, Option, None, Some, find}
use Rattle.std.specs.List.{zip}
use Rattle.std.specs.Option.{option_map}
use Rattle.ir_types.specs.declared.names.Name.{Name}
use Rattle.ir_types.specs.declared.names.Name.TheVariants.{Number}
use Rattle.ir_core.specs.declared.functions.Instr.{Instr}
use Rattle.ir_core.specs.declared.functions.Param.{Param}
use Rattle.ir_core.specs.declared.functions.Block.{Block}
use Rattle.ir_core.specs.declared.functions.Function.{Function}
use Rattle.ir_types.specs.Same.{same_list, same_name, same_ty}
use Rattle.erhl_assert.specs.declared.hints.Letter.{Letter}
use Rattle.erhl_assert.specs.declared.hints.Letter.TheVariants.{Both, Source, Target}
use Rattle.erhl_assert.specs.declared.hints.HintBlock.{HintBlock}
use Rattle.erhl_assert.specs.declared.hints.Hint.{Hint}
use Rattle.erhl_assert.specs.declared.facts.Assertion.{Assertion}

-- an aligned line: the source's line or a no-op, and the target's line or a no-op
pub record Line : Type 0 where
  pub source : Option Instr
  pub target : Option Instr

abbrev pub after_first : Line → Option (List Line) → Option (List Line)
after_first l None = None
after_first l (Some ls) = Some (l ∷ ls)

-- The aligned lines: one for each letter, and together all lines of both bodies in their order. None where the letters
-- don't give them back.
abbrev pub aligned : List Letter → List Instr → List Instr → Option (List Line)
aligned [] [] [] = Some []
aligned [] [] (y ∷ ys) = None
aligned [] (x ∷ xs) ys = None
aligned (Both ∷ ls) (x ∷ xs) (y ∷ ys) = after_first (record { source = Some x; target = Some y }) (aligned ls xs ys)
aligned (Both ∷ ls) (x ∷ xs) [] = None
aligned (Both ∷ ls) [] ys = None
aligned (Source ∷ ls) (x ∷ xs) ys = after_first (record { source = Some x; target = None }) (aligned ls xs ys)
aligned (Source ∷ ls) [] ys = None
aligned (Target ∷ ls) xs (y ∷ ys) = after_first (record { source = None; target = Some y }) (aligned ls xs ys)
aligned (Target ∷ ls) xs [] = None

-- without letters all lines stand on both sides
abbrev pub letters_or_both : Option (List Letter) → ℕ → List Letter
letters_or_both None n = replicate n Both
letters_or_both (Some ls) n = ls

abbrev pub no_facts : Assertion
no_facts = record { src = []; tgt = []; diff = [] }

-- the block's hint: the first entry of its name, or an empty one
abbrev pub entry_or_empty : Name → Option HintBlock → HintBlock
entry_or_empty x (Some h) = h
entry_or_empty x None = record { at = x; lines = None; entry = no_facts; steps = []; edges = [] }

abbrev pub block_hint : Hint → Name → HintBlock
block_hint hint x = entry_or_empty x (find (λ h. same_name h.at x) hint.blocks)

-- the aligned lines of two blocks; the blocks must have one name
abbrev pub block_lines : Hint → Block → Block → Option (List Line)
block_lines hint b c = cond (same_name b.name c.name) (aligned (letters_or_both (block_hint hint b.name).lines (length b.body)) b.body c.body) None

-- two blocks of one name, and their aligned lines
pub record AlignedBlock : Type 0 where
  pub lines : List Line
  pub source : Block
  pub target : Block

abbrev pub block_aligned : Hint → Block → Block → Option AlignedBlock
block_aligned hint b c = option_map (λ ls. record { lines = ls; source = b; target = c }) (block_lines hint b c)

-- what aligning two functions gives: their blocks, or the block at fault
pub data Alignment : Type 0 where
  Aligned : List AlignedBlock → Alignment
  Differs : Name → Alignment

abbrev pub with_block : Name → Option AlignedBlock → Alignment → Alignment
with_block x None rest = Differs x
with_block x (Some b) (Aligned bs) = Aligned (b ∷ bs)
with_block x (Some b) (Differs y) = Differs y

-- pairs of blocks in their order: the first that doesn't align is at fault
abbrev pub blocks_aligned : Hint → List (Block × Block) → Alignment
blocks_aligned hint [] = Aligned []
blocks_aligned hint (p ∷ ps) = with_block p.0.name (block_aligned hint p.0 p.1) (blocks_aligned hint ps)

abbrev pub same_param : Param → Param → Bool
same_param p q = same_name p.name q.name && same_ty p.ty q.ty

-- return type, parameter types and parameter names are equal
abbrev pub same_header : Function → Function → Bool
same_header f g = same_ty f.result g.result && same_list same_param f.params g.params

-- the first block; a function that is well-formed has one
abbrev pub first_block : List Block → Name
first_block [] = Number 0
first_block (b ∷ bs) = b.name

-- All blocks align, or one is at fault: the source's first where headers or the numbers of blocks differ.
abbrev pub alignment : Hint → Function → Function → Alignment
alignment hint f g =
    cond (same_header f g && nat_eq (length f.blocks) (length g.blocks)) (blocks_aligned hint (zip f.blocks g.blocks)) (Differs (first_block f.blocks))
