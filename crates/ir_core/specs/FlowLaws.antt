-- Which functions of more than one block are well-formed.
use Rattle.std.specs.Prelude.{◌≡◌, [], ◌∷◌}
use Rattle.ir_core.specs.declared.functions.Term.TheVariants.{Br, Unreachable}
use Rattle.ir_types.specs.declared.ty.Ty.TheVariants.{Int}
use Rattle.ir_core.specs.Examples.{alone, f, x, y}
use Rattle.ir_core.specs.FlowExamples.{before_return, branching, choosing, from_f, joining, looping, of_end, one_arm, switching, to_x}
use Rattle.ir_core.specs.Functions.{successors_of}
use Rattle.ir_core.specs.Laws.{IsOutOfRangeAlone, Lacks, Stands}
use Rattle.ir_core.specs.Ranges.{IsInRange}
use Rattle.ir_core.specs.WellFormed.{HasShape, IsDefined}

-- a label is that of a block, and of another one than the first; a condition is an i1
pub record JumpsGoToBlocks : Type 0 where
  pub known : Stands (before_return (Br x))
  pub unknown : Lacks (of_end (Br x))
  pub entry : Lacks (of_end (Br f))
  pub nowhere : Stands (of_end Unreachable)
  pub condition : Stands (before_return (branching (Int 1) x x))
  pub wide_condition : Lacks (before_return (branching (Int 8) x x))

-- a phi behind two edges from one block has two entries of that block, which are alike
pub record PhisFollowEdges : Type 0 where
  pub alike : Stands (joining (from_f 0 ∷ from_f 0 ∷ []))
  pub unlike : Lacks (joining (from_f 0 ∷ from_f 1 ∷ []))
  pub too_few : Lacks (joining (from_f 0 ∷ []))
  pub too_many : Lacks (joining (from_f 0 ∷ from_f 0 ∷ from_f 0 ∷ []))

-- The cases of a switch are of its type, and different: 255 and 511 are one number at i8.
pub record CasesAreApart : Type 0 where
  pub none : Stands (switching [])
  pub apart : Stands (switching (to_x (Int 8) 255 ∷ to_x (Int 8) 0 ∷ []))
  pub twice : Lacks (switching (to_x (Int 8) 255 ∷ to_x (Int 8) 255 ∷ []))
  pub other_type : Lacks (switching (to_x (Int 16) 255 ∷ []))
  pub modulo : HasShape (alone (switching (to_x (Int 8) 255 ∷ to_x (Int 8) 511 ∷ []))) → ⊥
  pub out_of_range : IsOutOfRangeAlone (switching (to_x (Int 8) 256 ∷ []))

-- A register that is set on one arm alone isn't defined where the arms join; a phi may use its own register on the edge back.
pub record PathsDefine : Type 0 where
  pub one_arm : HasShape (alone one_arm) × (IsDefined (alone one_arm) → ⊥) × IsInRange (alone one_arm)
  pub looping : Stands looping

-- the labels on true and on false, in this order; a switch's default stands before its cases
pub record SuccessorsInOrder : Type 0 where
  pub branch : successors_of (branching (Int 1) x y) ≡ x ∷ y ∷ []
  pub switch : successors_of (choosing y (to_x (Int 8) 0 ∷ [])) ≡ y ∷ x ∷ []
