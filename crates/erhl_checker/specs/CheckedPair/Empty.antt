-- What a hint says of a block, and one that says nothing.
use Rattle.std.specs.Prelude.{◌≡◌, []}
use Rattle.erhl_assert.specs.declared.hints.HintBlock.{HintBlock}
use Rattle.erhl_assert.specs.Alignment.{no_facts}

-- the two say the same of a block's start, its steps and its edges
pub record AreParts (h k : HintBlock) : Type 0 where
  pub entry : h.entry ≡ k.entry
  pub steps : h.steps ≡ k.steps
  pub edges : h.edges ≡ k.edges

-- it says nothing of them
pub record IsEmpty (h : HintBlock) : Type 0 where
  pub entry : h.entry ≡ no_facts
  pub steps : h.steps ≡ []
  pub edges : h.edges ≡ []
