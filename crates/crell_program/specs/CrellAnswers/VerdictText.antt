-- The verdict, as it is printed.
use Rattle.std.specs.Prelude.{ℕ, List, [], ◌∷◌, ◌++◌, codes}
use Rattle.std.specs.Fmt.{decimal}
use Rattle.ir_types.specs.declared.names.Sigil.TheVariants.{Local, Global}
use Rattle.ir_core.specs.declared.operands.Operand.{Operand}
use Rattle.ir_types.specs.declared.names.Name.{Name}
use Rattle.ir_printer.specs.ExpressionPrinter.Printed.{printed_name, printed_register, printed_value}
use Rattle.hint_format.specs.Form.{printed_fact}
use Rattle.erhl_assert.specs.declared.verdict.Reason.{Reason}
use Rattle.erhl_assert.specs.declared.verdict.Reason.TheVariants.{AlignmentDiffers, KindsDiffer, NotPrivate, Unmatched, TargetMayTrap, UnknownRule, RuleUnfit, MissingPremise, MissingFact, DiffLeft}
use Rattle.erhl_assert.specs.declared.verdict.Spot.{Spot}
use Rattle.erhl_assert.specs.declared.verdict.Spot.TheVariants.{Start, Line, Edge}
use Rattle.erhl_assert.specs.declared.verdict.Difference.{Difference}
use Rattle.erhl_assert.specs.declared.verdict.Difference.TheVariants.{Types, Globals, Declarations, Functions}
use Rattle.erhl_assert.specs.declared.verdict.ModuleVerdict.{ModuleVerdict}
use Rattle.erhl_assert.specs.declared.verdict.ModuleVerdict.TheVariants as modules
use Rattle.crell_program.specs.declared.crell_answers.answer.Answer.{Answer}
use Rattle.crell_program.specs.CrellAnswers.Answer.{line}

abbrev pub spot_text : Spot → List ℕ
spot_text Start = codes "start"
spot_text (Line k) = decimal k
spot_text (Edge to) = codes "edge " ++ printed_name Local to

-- operands are printed without their types
abbrev pub operand_text : Operand Name → List ℕ
operand_text o = printed_value o.ty o.atom

abbrev pub reason_text : Reason → List ℕ
reason_text AlignmentDiffers = codes "alignment differs"
reason_text KindsDiffer = codes "kinds differ"
reason_text (Unmatched a b) = codes "unmatched " ++ (operand_text a ++ (32 ∷ operand_text b))
reason_text TargetMayTrap = codes "target may trap"
reason_text (NotPrivate address) = codes "not private " ++ operand_text address
reason_text (UnknownRule rule) = codes "unknown rule " ++ rule
reason_text (RuleUnfit rule) = codes "rule unfit " ++ rule
reason_text (MissingPremise f) = codes "missing premise " ++ printed_fact f
reason_text (MissingFact f) = codes "missing fact " ++ printed_fact f
reason_text (DiffLeft register) = codes "diff left " ++ printed_register register

abbrev pub difference_text : Difference → List ℕ
difference_text Types = codes "types"
difference_text Globals = codes "globals"
difference_text Declarations = codes "declarations"
difference_text Functions = codes "functions"

-- `SPOT: REASON`
abbrev pub at_spot_text : Spot → Reason → List ℕ
at_spot_text spot reason = spot_text spot ++ (codes ": " ++ reason_text reason)

-- `%block SPOT: REASON`
abbrev pub in_block_text : Name → Spot → Reason → List ℕ
in_block_text block spot reason = printed_name Local block ++ (32 ∷ at_spot_text spot reason)

-- `refused @f %block SPOT: REASON`
abbrev pub refusal_text : Name → Name → Spot → Reason → List ℕ
refusal_text function block spot reason = codes "refused " ++ (printed_name Global function ++ (32 ∷ in_block_text block spot reason))

abbrev pub verdict_text : ModuleVerdict → List ℕ
verdict_text modules.Valid = codes "valid"
verdict_text (modules.Differs what) = codes "refused module: " ++ difference_text what
verdict_text (modules.Refused function block spot reason) = refusal_text function block spot reason

-- 0 for a pair that is valid, 1 for one that is refused or differs
abbrev pub verdict_status : ModuleVerdict → ℕ
verdict_status modules.Valid = 0
verdict_status (modules.Differs what) = 1
verdict_status (modules.Refused function block spot reason) = 1

abbrev pub verdict_answer : ModuleVerdict → Answer
verdict_answer v = record { status = verdict_status v; out = line (verdict_text v); err = [] }
