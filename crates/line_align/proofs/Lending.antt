-- Blocks that align, one pair at a time.
use Rattle.std.proofs.Common.{◌≡◌, ◌∙◌, ℕ, ◌+◌, ◌<◌, ◌≤◌, ◌++◌, true, false, cond, List, [], ◌∷◌, length, map, drop, get_or, refl, sym, ap}
use Rattle.std.proofs.lemmas.Bool.{cond-true, cond-false}
use Rattle.std.proofs.lemmas.List.{drop_all}
use Rattle.std.specs.Prelude.{Option, None, Some}
use Rattle.std.specs.List.{zip}
use Rattle.std.specs.Option.{option_map}
use Rattle.ir_types.specs.declared.names.Name.{Name}
use Rattle.ir_core.specs.declared.functions.Block.{Block}
use Rattle.ir_types.specs.Same.{same_name}
use Rattle.ir_machine.proofs.Standing.{drop_at}
use Rattle.erhl_assert.specs.declared.hints.Letter.{Letter}
use Rattle.erhl_assert.specs.declared.hints.Hint.{Hint}
use Rattle.erhl_assert.specs.declared.hints.HintBlock.{HintBlock}
use Rattle.erhl_assert.specs.Alignment.{Line, AlignedBlock, Alignment, Aligned, Differs, aligned, letters_or_both, block_hint, block_aligned, with_block, blocks_aligned}
use Rattle.line_align.specs.declared.alignment.AlignedBlock.{AlignedBlock as LentBlock}
use Rattle.line_align.specs.Cursor.{is_aligned}
use Rattle.line_align.specs.Lent.{lines_under, lent_block}
use Rattle.line_align.proofs.Alignments.{aligned_under}

none_where_unaligned : (o : Option (List Line)) → is_aligned o ≡ false → o ≡ None
none_where_unaligned None h = refl
none_where_unaligned (Some ls) h = absurd (cc)

module _ (hints : List HintBlock) (b c : Block) where
  abbrev hint : Hint
  hint = record { blocks = hints }

  abbrev block_of : List Line → AlignedBlock
  block_of ls = record { lines = ls; source = b; target = c }

  abbrev lines : List Letter → Option (List Line)
  lines letters = aligned letters b.body c.body

  pub block_misnamed : same_name b.name c.name ≡ false → None ≡ block_aligned hint b c
  block_misnamed name = sym (ap (option_map block_of) (cond-false (same_name b.name c.name) (lines (letters_or_both (block_hint hint b.name).lines (length b.body))) None name))

  module _ (name : same_name b.name c.name ≡ true) (letters : List Letter) (theirs : letters ≡ letters_or_both (block_hint hint b.name).lines (length b.body)) where
    lines_theirs : cond (same_name b.name c.name) (lines (letters_or_both (block_hint hint b.name).lines (length b.body))) None ≡ lines letters
    lines_theirs = cond-true (same_name b.name c.name) (lines (letters_or_both (block_hint hint b.name).lines (length b.body))) None name ∙ ap lines (sym theirs)

    pub block_lent : is_aligned (aligned letters b.body c.body) ≡ true
        → Some (record { lines = lines_under letters b.body c.body; source = b; target = c }) ≡ block_aligned hint b c
    block_lent fits = sym (ap (option_map block_of) (lines_theirs ∙ aligned_under letters b.body c.body fits))

    pub block_unaligned : is_aligned (aligned letters b.body c.body) ≡ false → None ≡ block_aligned hint b c
    block_unaligned fits = sym (ap (option_map block_of) (lines_theirs ∙ none_where_unaligned (lines letters) fits))

-- aligned blocks before what is left
abbrev pub before : List AlignedBlock → Alignment → Alignment
before [] rest = rest
before (b ∷ bs) rest = with_block b.source.name (Some b) (before bs rest)

before_one_more : (bs : List LentBlock) (b : LentBlock) (x : Name) (rest : Alignment)
    → before (map lent_block bs) (with_block x (Some (lent_block b)) rest) ≡ before (map lent_block (bs ++ b ∷ [])) rest
before_one_more [] b x (Aligned cs) = refl
before_one_more [] b x (Differs y) = refl
before_one_more (a ∷ bs) b x rest = ap (with_block (lent_block a).source.name (Some (lent_block a))) (before_one_more bs b x rest)

before_differs : (bs : List AlignedBlock) (x : Name) → before bs (Differs x) ≡ Differs x
before_differs [] x = refl
before_differs (b ∷ bs) x = ap (with_block b.source.name (Some b)) (before_differs bs x)

before_none : (bs : List AlignedBlock) → before bs (Aligned []) ≡ Aligned bs
before_none [] = refl
before_none (b ∷ bs) = ap (with_block b.source.name (Some b)) (before_none bs)

zip_none : (bs cs : List Block) → length cs ≡ 0 → zip bs cs ≡ []
zip_none [] cs none = refl
zip_none (b ∷ bs) [] none = refl
zip_none (b ∷ bs) (c ∷ cs) none = absurd (cc)

-- what has aligned and what is left, from the block at k on, make up the whole
module _ (hint : Hint) (bs : List LentBlock) (k : ℕ) (xs ys : List Block) (whole : Alignment) (so_far : before (map lent_block bs) (blocks_aligned hint (zip (drop k xs) ys)) ≡ whole) where
  abbrev with_rest : List (Block × Block) → Alignment
  with_rest ps = before (map lent_block bs) (blocks_aligned hint ps)

  none_left : zip (drop k xs) ys ≡ [] → Aligned (map lent_block bs) ≡ whole
  none_left none = sym (before_none (map lent_block bs)) ∙ ap with_rest (sym none) ∙ so_far

  pub blocks_end : length xs ≤ k → Aligned (map lent_block bs) ≡ whole
  blocks_end past = none_left (ap (λ left. zip left ys) (drop_all k xs past))

  pub blocks_short : length ys ≡ 0 → Aligned (map lent_block bs) ≡ whole
  blocks_short none = none_left (zip_none (drop k xs) ys none)

  module _ (b c : Block) (others : List Block) (within : k < length xs) (first : b ≡ get_or xs k b) (second : ys ≡ c ∷ others) where
    abbrev with_next : Option AlignedBlock → Alignment
    with_next o = before (map lent_block bs) (with_block b.name o (blocks_aligned hint (zip (drop (k + 1) xs) others)))

    split : with_next (block_aligned hint b c) ≡ whole
    split = sym (ap (λ left. with_rest (zip left ys)) (drop_at xs k b within first) ∙ ap (λ left. with_rest (zip (b ∷ drop (k + 1) xs) left)) second) ∙ so_far

    pub blocks_more : (l : LentBlock) (after : List LentBlock) → Some (lent_block l) ≡ block_aligned hint b c → after ≡ bs ++ l ∷ []
        → before (map lent_block after) (blocks_aligned hint (zip (drop (k + 1) xs) others)) ≡ whole
    blocks_more l after aligned pushed =
        ap (λ ls. before (map lent_block ls) (blocks_aligned hint (zip (drop (k + 1) xs) others))) pushed
        ∙ sym (ap with_next (sym aligned) ∙ before_one_more bs l b.name (blocks_aligned hint (zip (drop (k + 1) xs) others))) ∙ split

    pub blocks_differ : (x : Name) → None ≡ block_aligned hint b c → x ≡ b.name → Differs x ≡ whole
    blocks_differ x unaligned named = ap (λ y. Differs y) named ∙ sym (ap with_next (sym unaligned) ∙ before_differs (map lent_block bs) b.name) ∙ split
