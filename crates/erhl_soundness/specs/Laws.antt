-- The laws of the logic's words, and then its soundness laws (Crellvm's soundness theorem; the idea of checking each result
-- of a compiler and proving the checker is credible compilation).
use Rattle.std.specs.Prelude.{◌≡◌, ℕ, ◌<◌, ◌≤◌, true, false, List, [], ◌∷◌, map, Option, None, Some}
use Rattle.std.specs.List.{AllByRecursion}
use Rattle.ir_types.specs.declared.names.Name.{Name}
use Rattle.ir_types.specs.declared.named.NamedTy.{NamedTy}
use Rattle.ir_types.specs.declared.names.Name.TheVariants.{Number}
use Rattle.ir_core.specs.declared.operands.Operand.{Operand}
use Rattle.ir_types.specs.declared.ty.Ty.TheVariants.{Int, Ptr}
use Rattle.ir_core.specs.declared.operands.Const.TheVariants as constant
use Rattle.ir_core.specs.declared.operands.Atom.TheVariants.{Constant, Register}
use Rattle.ir_core.specs.declared.operands.BinOp.TheVariants.{UDiv, SDiv, URem, SRem, Shl}
use Rattle.ir_core.specs.declared.functions.Instr.TheVariants.{Calm}
use Rattle.ir_core.specs.declared.functions.Phi.{Phi}
use Rattle.ir_core.specs.declared.functions.Block.{Block}
use Rattle.ir_core.specs.declared.functions.Function.{Function}
use Rattle.ir_core.specs.declared.modules.Module.{Module}
use Rattle.ir_core.specs.Modules.{definitions_of}
use Rattle.ir_core.specs.Order.{AreNew}
use Rattle.ir_core.specs.WellFormed.{HasShape}
use Rattle.ir_values.specs.Related.{IsRelated, Pairing}
use Rattle.ir_machine.specs.Registers.{read, operand_value}
use Rattle.ir_machine.specs.State.{scope_of}
use Rattle.ir_machine.specs.Machine.{with_phis}
use Rattle.ir_machine.specs.Refinement.{Refines}
use Rattle.erhl_assert.specs.declared.facts.Assertion.{Assertion}
use Rattle.erhl_assert.specs.declared.facts.Side.TheVariants.{Src, Tgt}
use Rattle.erhl_assert.specs.declared.hints.HintStep.{HintStep}
use Rattle.erhl_assert.specs.declared.hints.Letter.TheVariants.{Both, Source, Target}
use Rattle.erhl_assert.specs.declared.verdict.Reason.{Reason}
use Rattle.erhl_assert.specs.declared.verdict.Reason.TheVariants.{KindsDiffer, NotPrivate, UnknownRule, TargetMayTrap, Unmatched}
use Rattle.erhl_assert.specs.declared.verdict.Spot.TheVariants as spot
use Rattle.erhl_assert.specs.Sides.{SideState, no_ghost}
use Rattle.erhl_assert.specs.Facts.{AssertionHolds, each_once}
use Rattle.erhl_assert.specs.Matched.{matched}
use Rattle.erhl_assert.specs.Alignment.{Line, no_facts}
use Rattle.erhl_assert.specs.Allowed.{line_fault}
use Rattle.erhl_assert.specs.Postcondition.{lines_agree, after_line}
use Rattle.erhl_assert.specs.Edges.{Edge, after_edge}
use Rattle.erhl_assert.specs.Course.{Gives, Course, refuses, Good, Bad}
use Rattle.erhl_assert.specs.Growth.{size, put_in, over_line, over_edge}
use Rattle.erhl_assert.specs.Steps.{Rules, Beside, AreSound, after_steps}
use Rattle.erhl_assert.specs.Acceptance.{function_judged, AreAccepted}
use Rattle.erhl_soundness.specs.TwoSides.{AreCommon, AreSides, Keeps, LineLeads}
use Rattle.erhl_soundness.specs.Examples.{adds_zero, number, dividing, adding, addressing, loading, may_load, one_is_known, of_target, of_both, defining, taking_all, concluding, hinting, address, allocating, calling, is_private, of_source, storing}
use Rattle.erhl_soundness.specs.FlowExamples.{by_line, swap, before_swap}

-- where an aligned line has no fault, a check comes to what is known after it; else it is refused, and nothing is added
abbrev pub ComesTo : List NamedTy → Option Reason → Line → Assertion → Type 0
ComesTo types None l known = (over_line types l known).ends ≡ Gives (after_line types known l)
ComesTo types (Some r) l known = over_line types l known ≡ refuses r

-- Over an aligned line that is allowed, fact by fact, a check comes to what is known after it, beside whatever types; and a line that isn't
-- allowed it refuses before any fact is added.
abbrev pub ALineComesToWhatIsKnown : Type 0
ALineComesToWhatIsKnown = (types : List NamedTy) (l : Line) (known : Assertion) → ComesTo types (line_fault types known l) l known

-- Over an edge, fact by fact, a check comes to what is known after it, before the edge's steps.
abbrev pub AnEdgeComesToWhatIsKnown : Type 0
AnEdgeComesToWhatIsKnown = (e : Edge) (known : Assertion) → (over_edge e known).ends ≡ Gives (after_edge known e)

-- A hint's lists, put in fact by fact, give each fact once.
abbrev pub HintsArePutIn : Type 0
HintsArePutIn = (lists : Assertion) → (put_in lists).ends ≡ Gives (each_once lists)

-- where none of its sizes is more than n, the course comes to no more than n facts
abbrev pub StaysWithin : ℕ → Course Assertion → Type 0
StaysWithin n c = (after : Assertion) → AllByRecursion (λ s. s ≤ n) c.sizes → c.ends ≡ Gives after → size after ≤ n

-- At a block's start, and from no more than n facts over whatever steps, lines and edges, sizes tell where more than n are known.
pub record SizesBoundWhatIsKnown : Type 0 where
  pub at_a_start : (n : ℕ) (lists : Assertion) → StaysWithin n (put_in lists)
  pub over_steps : (n : ℕ) (w : Beside) (steps : List HintStep) (known : Assertion) → size known ≤ n → StaysWithin n (after_steps w steps known)
  pub over_a_line : (n : ℕ) (types : List NamedTy) (l : Line) (known : Assertion) → size known ≤ n → StaysWithin n (over_line types l known)
  pub over_an_edge : (n : ℕ) (e : Edge) (known : Assertion) → size known ≤ n → StaysWithin n (over_edge e known)

-- how facts are counted: checks written out, with all of their sizes
pub record FactsAreCounted : Type 0 where
  -- The facts of both sides are counted together: two of the source and two of the target after a line of both, two more of the
  -- source after a line of its own, and one of a step. The second step adds what is there already, and no size.
  pub of_both_sides : function_judged (taking_all (defining (adds_zero 2 0 ∷ adds_zero 3 2 ∷ []) 2) (defining (adds_zero 2 0 ∷ []) 2)
      (hinting (Both ∷ Source ∷ []) (concluding 2 [] Tgt ∷ concluding 2 [] Tgt ∷ [])))
      ≡ Good (1 ∷ 2 ∷ 3 ∷ 4 ∷ 5 ∷ 6 ∷ 7 ∷ [])
  -- The same fact is counted of each side. A refusal comes after the sizes before it.
  pub up_to_a_refusal : function_judged (taking_all (defining [] 0) (defining [] 0)
      (hinting [] (concluding 0 [] Src ∷ concluding 0 [] Tgt ∷ concluding 0 (0 ∷ []) Tgt ∷ [])))
      ≡ Bad (1 ∷ 2 ∷ []) (Number 1) (spot.Line 0) (UnknownRule (0 ∷ []))
  -- A line of both sides adds to the source's facts before those of the target go.
  pub source_first : function_judged (taking_all (defining (adds_zero 2 0 ∷ []) 2) (defining (adds_zero 2 0 ∷ adds_zero 2 0 ∷ []) 2)
      (hinting (Target ∷ Both ∷ []) []))
      ≡ Good (1 ∷ 2 ∷ 3 ∷ 4 ∷ 3 ∷ 4 ∷ [])
  -- Over an edge each fact is there twice, as it is and as it was: two of the source, and then two of the target.
  pub along_an_edge : function_judged (taking_all by_line by_line (record { blocks = [] })) ≡ Good (1 ∷ 2 ∷ 3 ∷ 4 ∷ 5 ∷ 6 ∷ 7 ∷ 8 ∷ [])
  -- Over an edge with phis: one copy beside its original, which goes, as a phi sets its register; then four facts of two phis, of either side.
  pub over_phis : (over_edge swap before_swap).sizes ≡ 2 ∷ 2 ∷ 3 ∷ 4 ∷ 5 ∷ 6 ∷ 7 ∷ 8 ∷ 9 ∷ []

-- Where an assertion holds of two sides by pairs of their blocks, and an aligned line is allowed, the two lines lead them to sides of which holds
-- what `after_line` gives, by those pairs and perhaps one of two new blocks, unless the source's line is undefined behaviour. So where the target's
-- line is, the source's is.
abbrev pub ALineKeepsWhatHolds : Type 0
ALineKeepsWhatHolds = (ps : Pairing) (known : Assertion) (l : Line) (source target : SideState) → AreSides ps source target
    → AssertionHolds ps no_ghost known source target → line_fault source.scope.types known l ≡ None
    → (source_after target_after : Option SideState) × LineLeads source l.source source_after × LineLeads target l.target target_after
    × Keeps ps (after_line source.scope.types known l) source target source_after target_after

-- which lines are allowed, where nothing is known and no register may differ: lines written out
pub record LinesAreJudged : Type 0 where
  -- `%2 = udiv i8 %0, %1` of the target alone may trap, by 0 too; by 255 it can't, and `sdiv` by 255, which is -1, may.
  pub by_a_register : line_fault [] no_facts (of_target (dividing UDiv 8 (Register (Number 1)))) ≡ Some TargetMayTrap
  pub by_zero : line_fault [] no_facts (of_target (dividing URem 8 (number 0))) ≡ Some TargetMayTrap
  pub by_undef : line_fault [] no_facts (of_target (dividing UDiv 8 (Constant constant.Undef))) ≡ Some TargetMayTrap
  pub by_a_number : line_fault [] no_facts (of_target (dividing UDiv 8 (number 255))) ≡ None
  pub by_minus_one : line_fault [] no_facts (of_target (dividing SDiv 8 (number 255))) ≡ Some TargetMayTrap
  pub by_minus_two : line_fault [] no_facts (of_target (dividing SRem 8 (number 254))) ≡ None
  -- in i1 the number 1 is -1
  pub of_one_bit : line_fault [] no_facts (of_target (dividing SRem 1 (number 1))) ≡ Some TargetMayTrap
  -- a source that divides alone is undefined behaviour or isn't, and either way the target may do without
  pub of_the_source : line_fault [] no_facts (record { source = Some (dividing UDiv 8 (number 0)); target = None }) ≡ None
  -- a line that can't trap is allowed beside every line
  pub beside_another : line_fault [] no_facts (of_both (dividing UDiv 8 (number 0)) (dividing Shl 8 (number 9))) ≡ None
  -- a division is allowed beside itself, and not by another divisor, of another operator or of another type
  pub beside_itself : line_fault [] no_facts (of_both (dividing UDiv 8 (Register (Number 1))) (dividing UDiv 8 (Register (Number 1)))) ≡ None
  pub another_divisor : line_fault [] no_facts (of_both (dividing UDiv 8 (Register (Number 1))) (dividing UDiv 8 (Register (Number 3))))
      ≡ Some (Unmatched (record { ty = Int 8; atom = Register (Number 1) }) (record { ty = Int 8; atom = Register (Number 3) }))
  pub another_operator : line_fault [] no_facts (of_both (dividing UDiv 8 (Register (Number 1))) (dividing URem 8 (Register (Number 1)))) ≡ Some TargetMayTrap
  pub another_type : line_fault [] no_facts (of_both (dividing UDiv 8 (Register (Number 1))) (dividing UDiv 16 (Register (Number 1)))) ≡ Some TargetMayTrap
  -- a load of the target alone may trap, unless it is known on the target that at this alignment it doesn't
  pub of_a_load : line_fault [] no_facts (of_target (loading 0 (Some 4))) ≡ Some TargetMayTrap
  pub known_by_ok : line_fault [] (record no_facts { tgt = may_load 4 ∷ [] }) (of_target (loading 0 (Some 4))) ≡ None
  pub known_of_its_type : line_fault [] (record no_facts { tgt = may_load 4 ∷ [] }) (of_target (loading 0 None)) ≡ None
  pub known_of_another_alignment : line_fault [] (record no_facts { tgt = may_load 4 ∷ [] }) (of_target (loading 0 (Some 8))) ≡ Some TargetMayTrap
  pub known_of_another_address : line_fault [] (record no_facts { tgt = may_load 4 ∷ [] }) (of_target (loading 1 (Some 4))) ≡ Some TargetMayTrap
  pub known_of_the_source : line_fault [] (record no_facts { src = may_load 4 ∷ [] }) (of_target (loading 0 (Some 4))) ≡ Some TargetMayTrap
  -- It is allowed beside itself, at an alignment that divides the source's, or its type's, and through a matched address alone.
  pub load_beside_itself : line_fault [] no_facts (of_both (loading 0 (Some 4)) (loading 0 (Some 4))) ≡ None
  pub smaller_alignment : line_fault [] no_facts (of_both (loading 0 (Some 4)) (loading 0 (Some 2))) ≡ None
  pub greater_alignment : line_fault [] no_facts (of_both (loading 0 (Some 4)) (loading 0 (Some 8))) ≡ Some TargetMayTrap
  pub alignment_of_its_type : line_fault [] no_facts (of_both (loading 0 (Some 2)) (loading 0 None)) ≡ Some TargetMayTrap
  pub no_alignment : line_fault [] no_facts (of_both (loading 0 (Some 4)) (loading 0 (Some 0))) ≡ Some TargetMayTrap
  pub another_address : line_fault [] no_facts (of_both (loading 0 (Some 4)) (loading 1 (Some 4)))
      ≡ Some (Unmatched (record { ty = Ptr (Int 32); atom = Register (Number 0) }) (record { ty = Ptr (Int 32); atom = Register (Number 1) }))
  -- A store of the source alone is to a private block; one of the target alone too, and it is known that it doesn't trap.
  pub stored_alone : line_fault [] no_facts (of_source (storing (Int 32) 7 0 (Some 4))) ≡ Some (NotPrivate (address 0))
  pub stored_to_private : line_fault [] (record no_facts { src = is_private ∷ [] }) (of_source (storing (Int 32) 7 0 (Some 4))) ≡ None
  pub private_of_the_target : line_fault [] (record no_facts { tgt = is_private ∷ [] }) (of_source (storing (Int 32) 7 0 (Some 4))) ≡ Some (NotPrivate (address 0))
  pub may_store : line_fault [] (record no_facts { tgt = is_private ∷ [] }) (of_target (storing (Int 32) 7 0 (Some 4))) ≡ Some TargetMayTrap
  pub stored_by_target : line_fault [] (record no_facts { tgt = is_private ∷ may_load 4 ∷ [] }) (of_target (storing (Int 32) 7 0 (Some 4))) ≡ None
  pub stored_without_private : line_fault [] (record no_facts { tgt = may_load 4 ∷ [] }) (of_target (storing (Int 32) 7 0 (Some 4))) ≡ Some (NotPrivate (address 0))
  pub stored_at_more : line_fault [] (record no_facts { tgt = is_private ∷ may_load 4 ∷ [] }) (of_target (storing (Int 32) 7 0 (Some 8))) ≡ Some TargetMayTrap
  -- Beside a store of one type one is allowed at an alignment that divides its own, of a matched value through a matched address.
  pub store_beside_itself : line_fault [] no_facts (of_both (storing (Int 32) 7 0 (Some 4)) (storing (Int 32) 7 0 (Some 4))) ≡ None
  pub store_at_less : line_fault [] no_facts (of_both (storing (Int 32) 7 0 (Some 4)) (storing (Int 32) 7 0 (Some 2))) ≡ None
  pub store_at_more : line_fault [] no_facts (of_both (storing (Int 32) 7 0 (Some 4)) (storing (Int 32) 7 0 (Some 8))) ≡ Some KindsDiffer
  pub store_of_another_type : line_fault [] no_facts (of_both (storing (Int 32) 7 0 (Some 4)) (storing (Int 8) 7 0 (Some 4))) ≡ Some KindsDiffer
  pub another_value : line_fault [] no_facts (of_both (storing (Int 32) 7 0 (Some 4)) (storing (Int 32) 8 0 (Some 4)))
      ≡ Some (Unmatched (record { ty = Int 32; atom = number 7 }) (record { ty = Int 32; atom = number 8 }))
  pub stored_elsewhere : line_fault [] no_facts (of_both (storing (Int 32) 7 0 (Some 4)) (storing (Int 32) 7 1 (Some 4))) ≡ Some (Unmatched (address 0) (address 1))
  -- An alloca of one side is allowed, and beside another one of its size and alignment, whatever the types.
  pub slot_of_the_source : line_fault [] no_facts (of_source (allocating (Int 32) None)) ≡ None
  pub slot_of_the_target : line_fault [] no_facts (of_target (allocating (Int 32) None)) ≡ None
  pub slots_of_one_size : line_fault [] no_facts (of_both (allocating (Int 32) (Some 4)) (allocating (Int 25) (Some 4))) ≡ None
  pub slots_of_two_sizes : line_fault [] no_facts (of_both (allocating (Int 32) (Some 4)) (allocating (Int 64) (Some 4))) ≡ Some KindsDiffer
  pub slots_of_two_alignments : line_fault [] no_facts (of_both (allocating (Int 32) (Some 4)) (allocating (Int 32) (Some 8))) ≡ Some KindsDiffer
  -- lines of two kinds, and a call, aren't
  pub of_two_kinds : line_fault [] no_facts (of_both (storing (Int 32) 7 0 (Some 4)) (allocating (Int 32) None)) ≡ Some KindsDiffer
  pub called_by_the_source : line_fault [] no_facts (of_source calling) ≡ Some KindsDiffer
  pub called_by_the_target : line_fault [] no_facts (of_target calling) ≡ Some KindsDiffer
  pub called_by_both : line_fault [] no_facts (of_both calling calling) ≡ Some KindsDiffer
  -- an address can't trap
  pub of_an_address : line_fault [] no_facts (of_target (Calm (addressing true (number 1)))) ≡ None
  -- it agrees with itself, and without `inbounds`, and not by another field, nor by a register that is known to be the field's number
  pub address_beside_itself : lines_agree no_facts (addressing true (number 1)) (addressing true (number 1)) ≡ true
  pub without_inbounds : lines_agree no_facts (addressing true (number 1)) (addressing false (number 1)) ≡ true
  pub with_inbounds : lines_agree no_facts (addressing false (number 1)) (addressing true (number 1)) ≡ false
  pub another_field : lines_agree no_facts (addressing true (number 1)) (addressing true (number 0)) ≡ false
  pub field_by_a_register : matched one_is_known (record { ty = Int 32; atom = number 1 }) (record { ty = Int 32; atom = Register (Number 3) }) ≡ true
  pub not_by_a_register : lines_agree one_is_known (addressing true (number 1)) (addressing true (Register (Number 3))) ≡ false
  -- the target may leave flags out, and may not have others
  pub fewer_flags : lines_agree no_facts (adding true) (adding false) ≡ true
  pub more_flags : lines_agree no_facts (adding false) (adding true) ≡ false

-- Where an assertion holds of two sides by pairs of their blocks, and a and b are matched, a's value on the source and b's on the target are
-- related.
abbrev pub MatchedOperandsAreRelated : Type 0
MatchedOperandsAreRelated = (ps : Pairing) (known : Assertion) (source target : SideState) (a b : Operand Name)
    → AreCommon ps source target → AssertionHolds ps no_ghost known source target → matched known a b ≡ true
    → IsRelated ps (operand_value source.scope (read source.files.now) a) (operand_value target.scope (read target.files.now) b)

-- no two phis of a block set one register, as in every well-formed function
abbrev pub AreApart : List Phi → Type 0
AreApart phis = AreNew [] (map (λ (p : Phi). p.name) phis)

abbrev pub ArePhisApart : Function → Type 0
ArePhisApart f = AllByRecursion (λ (b : Block). AreApart b.phis) f.blocks

-- In a module of well-formed shape no two phis of a block set one register.
abbrev pub ShapesKeepPhisApart : Type 0
ShapesKeepPhisApart = (m : Module) → HasShape m → AllByRecursion ArePhisApart (definitions_of m)

-- a side behind the phis of a block that it enters from that one: its old registers are those before the edge
abbrev pub crossed : Name → List Phi → SideState → SideState
crossed from phis side = record side { files = record side.files { now = with_phis side.scope side.files.now from phis side.files.now; old = side.files.now } }

-- Where an assertion holds of two sides by pairs of their blocks, and each crosses the edge with its phis, the two behind them are sides again, by
-- the same pairs, of which holds what `after_edge` gives.
abbrev pub AnEdgeKeepsWhatHolds : Type 0
AnEdgeKeepsWhatHolds = (ps : Pairing) (known : Assertion) (e : Edge) (source target : SideState) → AreSides ps source target
    → AreApart e.source → AreApart e.target → AssertionHolds ps no_ghost known source target
    → AreSides ps (crossed e.from e.source source) (crossed e.from e.target target)
    × AssertionHolds ps no_ghost (after_edge known e) (crossed e.from e.source source) (crossed e.from e.target target)

-- Where the rules are sound, two modules have the same types and globals, no two phis of a block set one register, and each pair of functions
-- has one signature and is accepted under some hint, the target refines the source.
abbrev pub AcceptedModulesRefine : Type 0
AcceptedModulesRefine = (rules : Rules) (source target : Module) → AreSound rules → scope_of source ≡ scope_of target
    → AllByRecursion ArePhisApart (definitions_of source) → AllByRecursion ArePhisApart (definitions_of target)
    → AreAccepted rules (scope_of source) (definitions_of source) (definitions_of target) → Refines source target
