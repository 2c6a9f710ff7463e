-- What the checker says of two functions, and of two modules: the first test that fails decides.
use Rattle.std.specs.Prelude.{◌≡◌, ℕ, ◌+◌, Bool, true, false, ◌&&◌, not, cond, nat_eq, List, [], ◌∷◌, ◌++◌, map, filter, Option, None, Some, find}
use Rattle.std.specs.Option.{option_map}
use Rattle.std.specs.Ordering.{is_lt, nat_cmp}
use Rattle.std.specs.Cmp.Lexicographic.{slice_cmp}
use Rattle.ir_types.specs.declared.named.NamedTy.{NamedTy}
use Rattle.ir_types.specs.declared.names.Name.{Name}
use Rattle.ir_types.specs.declared.ty.Ty.{Ty}
use Rattle.ir_core.specs.declared.operands.Operand.{Operand}
use Rattle.ir_core.specs.declared.expressions.Reg.{Reg}
use Rattle.ir_core.specs.declared.functions.Case.{Case}
use Rattle.ir_core.specs.declared.functions.Term.{Term}
use Rattle.ir_core.specs.declared.functions.Term.TheVariants.{Ret, RetVoid, Br, CondBr, Switch, Unreachable}
use Rattle.ir_core.specs.declared.functions.Function.{Function}
use Rattle.ir_core.specs.declared.modules.Module.{Module}
use Rattle.ir_types.specs.Same.{same_list, same_name, same_ty}
use Rattle.ir_core.specs.Functions.{successors_of}
use Rattle.ir_core.specs.Modules.{definitions_of, declarations_of}
use Rattle.ir_values.specs.Constants.{Scope}
use Rattle.ir_machine.specs.State.{scope_of}
use Rattle.ir_printer.specs.ExpressionPrinter.Printed.{printed_register}
use Rattle.flow_solver.specs.Near.{reached_nodes}
use Rattle.definedness.specs.Graph.{flow_of}
use Rattle.erhl_assert.specs.declared.facts.Fact.{Fact}
use Rattle.erhl_assert.specs.declared.facts.Assertion.{Assertion}
use Rattle.erhl_assert.specs.declared.hints.HintBlock.{HintBlock}
use Rattle.erhl_assert.specs.declared.hints.Hint.{Hint}
use Rattle.erhl_assert.specs.declared.hints.FunctionHint.{FunctionHint}
use Rattle.erhl_assert.specs.declared.hints.Hints.{Hints}
use Rattle.erhl_assert.specs.declared.verdict.Reason.{Reason}
use Rattle.erhl_assert.specs.declared.verdict.Reason.TheVariants.{AlignmentDiffers, KindsDiffer, Unmatched, MissingFact, DiffLeft}
use Rattle.erhl_assert.specs.declared.verdict.Spot.TheVariants as spot
use Rattle.erhl_assert.specs.declared.verdict.Verdict.{Verdict}
use Rattle.erhl_assert.specs.declared.verdict.Verdict.TheVariants as verdict
use Rattle.erhl_assert.specs.declared.verdict.Difference.TheVariants as difference
use Rattle.erhl_assert.specs.declared.verdict.ModuleVerdict.{ModuleVerdict}
use Rattle.erhl_assert.specs.declared.verdict.ModuleVerdict.TheVariants as modules
use Rattle.erhl_assert.specs.Globals.{same_global, same_declaration, AreDeclaredAlike}
use Rattle.erhl_assert.specs.Sides.{has_reg}
use Rattle.erhl_assert.specs.Matched.{matched}
use Rattle.erhl_assert.specs.Edges.{is_old, without_old, edge_between}
use Rattle.erhl_assert.specs.Alignment.{Line, AlignedBlock, Alignment, Aligned, Differs, block_hint, alignment}
use Rattle.erhl_assert.specs.Course.{Course, and_then, tested, first_fault, Judged, Good, Bad, placed, then_also, judged_answer, IsGood}
use Rattle.erhl_assert.specs.Growth.{put_in, over_line, over_edge}
use Rattle.erhl_assert.specs.Steps.{Rules, Beside, beside, after_steps, first_missing, steps_at, steps_on}

-- ---- terminators

abbrev pub same_case : Case → Case → Bool
same_case c d = same_ty c.ty d.ty && nat_eq c.number d.number && same_name c.label d.label

-- the operands are matched
abbrev pub operand_fault : Assertion → Operand Name → Operand Name → Option Reason
operand_fault known a b = cond (matched known a b) None (Some (Unmatched a b))

-- one kind, with the same labels and cases in the same order, and then whatever else is tested
abbrev pub of_one_kind : Bool → Option Reason → Option Reason
of_one_kind true rest = rest
of_one_kind false rest = Some KindsDiffer

-- Both are of one kind, with the same labels and cases, and their operands are matched. `br i1 %c, label %a, label %b` beside the same with
-- the labels turned round is `kinds differ`, whatever %c is known to be.
abbrev pub term_fault : Assertion → Term → Term → Option Reason
term_fault known (Ret a) (Ret b) = operand_fault known a b
term_fault known RetVoid RetVoid = None
term_fault known (Br x) (Br y) = of_one_kind (same_name x y) None
term_fault known (CondBr c) (CondBr d) =
    of_one_kind (same_name c.on_true d.on_true && same_name c.on_false d.on_false) (operand_fault known c.condition d.condition)
term_fault known (Switch s) (Switch t) =
    of_one_kind (same_name s.default t.default && same_list same_case s.cases t.cases) (operand_fault known s.value t.value)
term_fault known Unreachable Unreachable = None
term_fault known s t = Some KindsDiffer

-- ---- edges

-- the first of these facts that isn't known
abbrev pub missing_fault : List Fact → List Fact → Option Reason
missing_fault fs wanted = option_map MissingFact (first_missing fs wanted)

-- of two registers the one whose printed form comes first by its bytes
abbrev pub comes_first : Reg → Reg → Bool
comes_first r s = is_lt (slice_cmp nat_cmp (printed_register r) (printed_register s))

abbrev pub first_of_two : Reg → Option Reg → Reg
first_of_two r None = r
first_of_two r (Some s) = cond (comes_first s r) s r

abbrev pub first_printed : List Reg → Option Reg
first_printed [] = None
first_printed (r ∷ rs) = Some (first_of_two r (first_printed rs))

-- registers that may differ, and mustn't where the block begins; old ones are forgotten there
abbrev pub left_over : List Reg → List Reg → List Reg
left_over wanted diff = filter (λ r. not (is_old r) && not (has_reg r wanted)) diff

-- What the hint claims at a block's start is known: each fact of the source, then of the target, and that no other registers may differ.
abbrev pub arrival_fault : Assertion → Assertion → Option Reason
arrival_fault wanted known = first_fault (
    missing_fault known.src wanted.src
    ∷ missing_fault known.tgt wanted.tgt
    ∷ option_map DiffLeft (first_printed (left_over wanted.diff known.diff))
    ∷ []
    )

-- over the edge with its phis, the steps on it, and what the block claims that it enters
abbrev pub along_edge : Beside → Name → Name → Assertion → Course Assertion
along_edge w from to known =
    and_then (over_edge (edge_between w.source w.target from to) known) (λ crossed.
    and_then (after_steps w (steps_on to (block_hint w.hint from).edges) crossed) (λ after.
    tested (arrival_fault (block_hint w.hint to).entry (without_old after)) after))

abbrev pub edge_judged : Beside → Name → Assertion → Name → Judged
edge_judged w from known to = placed from (spot.Edge to) (along_edge w from to known) (λ done. Good [])

abbrev pub edges_judged : Beside → Name → Assertion → List Name → Judged
edges_judged w from known [] = Good []
edges_judged w from known (to ∷ more) = then_also (edge_judged w from known to) (edges_judged w from known more)

-- the labels, each where it first stands
abbrev pub labels_once : List Name → List Name
labels_once [] = []
labels_once (x ∷ xs) = x ∷ filter (λ y. not (same_name x y)) (labels_once xs)

-- ---- blocks

abbrev pub hint_of_block : Beside → AlignedBlock → HintBlock
hint_of_block w b = block_hint w.hint b.source.name

-- the terminators, and then each edge once
abbrev pub end_judged : Beside → AlignedBlock → ℕ → Assertion → Judged
end_judged w b k known =
    placed b.source.name (spot.Line k) (tested (term_fault known b.source.term b.target.term) known) (λ after.
    edges_judged w b.source.name after (labels_once (successors_of b.source.term)))

-- Along a block from line k on: the steps before the line, then the line; at the end the steps before the terminator, then
-- the terminator and its edges.
abbrev pub lines_judged : Beside → AlignedBlock → ℕ → List Line → Assertion → Judged
lines_judged w b k [] known =
    placed b.source.name (spot.Line k) (after_steps w (steps_at k (hint_of_block w b).steps) known) (end_judged w b k)
lines_judged w b k (l ∷ ls) known =
    placed b.source.name (spot.Line k) (and_then (after_steps w (steps_at k (hint_of_block w b).steps) known) (over_line w.scope.types l)) (lines_judged w b (k + 1) ls)

-- a block, from what the hint claims at its start
abbrev pub block_judged : Beside → AlignedBlock → Judged
block_judged w b = placed b.source.name spot.Start (put_in (hint_of_block w b).entry) (lines_judged w b 0 b.lines)

-- the blocks that are reached, in their order
abbrev pub blocks_judged : Beside → List Bool → List AlignedBlock → Judged
blocks_judged w (true ∷ marks) (b ∷ bs) = then_also (block_judged w b) (blocks_judged w marks bs)
blocks_judged w (false ∷ marks) (b ∷ bs) = blocks_judged w marks bs
blocks_judged w marks [] = Good []
blocks_judged w [] (b ∷ bs) = Good []

abbrev pub first_missing_of : List Fact → Option Reason
first_missing_of [] = None
first_missing_of (f ∷ fs) = Some (MissingFact f)

-- nothing is known of registers on entry, so the entry may claim no fact: the first of the source's, else of the target's
abbrev pub entry_fault : Assertion → Option Reason
entry_fault known = first_missing_of (known.src ++ known.tgt)

-- the entry's claims, and then the blocks of the source that a path from the first one reaches
abbrev pub reached_judged : Beside → List AlignedBlock → Judged
reached_judged w [] = Good []
reached_judged w (b ∷ bs) =
    placed b.source.name spot.Start (tested (entry_fault (hint_of_block w b).entry) (hint_of_block w b).entry) (λ done.
    blocks_judged w (reached_nodes (flow_of w.source)) (b ∷ bs))

abbrev pub aligned_judged : Beside → Alignment → Judged
aligned_judged w (Differs block) = Bad [] block spot.Start AlignmentDiffers
aligned_judged w (Aligned blocks) = reached_judged w blocks

-- THE check of a function pair: the alignment of all blocks, then the blocks that are reached
abbrev pub function_judged : Beside → Judged
function_judged w = aligned_judged w (alignment w.hint w.source w.target)

-- and what it answers: a verdict, unless the limit on facts is passed
abbrev pub function_answer : Beside → Option Verdict
function_answer w = judged_answer (function_judged w)

-- The pair is accepted: all tests are passed.
abbrev pub Accepts : Beside → Type 0
Accepts w = IsGood (function_judged w)

-- the function's hint: the first of its name, or an empty one
abbrev pub hint_or_empty : Option FunctionHint → Hint
hint_or_empty (Some h) = h.hint
hint_or_empty None = record { blocks = [] }

abbrev pub hint_for : Hints → Name → Hint
hint_for hints x = hint_or_empty (find (λ h. same_name h.function x) hints.functions)

-- name, return type and parameter types are equal
abbrev pub same_signature : Function → Function → Bool
same_signature f g = same_name f.name g.name && same_ty f.result g.result && same_list same_ty (map (λ p. p.ty) f.params) (map (λ p. p.ty) g.params)

-- the first function that isn't valid decides
abbrev pub of_function : Name → Option Verdict → Option ModuleVerdict → Option ModuleVerdict
of_function x None rest = None
of_function x (Some verdict.Valid) rest = rest
of_function x (Some (verdict.Refused block where_ why)) rest = Some (modules.Refused x block where_ why)

abbrev pub functions_answer : Rules → Scope → Hints → List Function → List Function → Option ModuleVerdict
functions_answer rules scope hints (f ∷ fs) (g ∷ gs) =
    of_function f.name (function_answer (beside rules scope f g (hint_for hints f.name))) (functions_answer rules scope hints fs gs)
functions_answer rules scope hints [] [] = Some modules.Valid
functions_answer rules scope hints (f ∷ fs) [] = Some (modules.Differs difference.Functions)
functions_answer rules scope hints [] (g ∷ gs) = Some (modules.Differs difference.Functions)

-- each pair of functions has one signature and is accepted under its hint, and no function is left over
abbrev pub AreAcceptedUnder : Hints → Rules → Scope → List Function → List Function → Type 0
AreAcceptedUnder hints rules scope [] [] = Unit {0}
AreAcceptedUnder hints rules scope (f ∷ fs) (g ∷ gs) =
    (same_signature f g ≡ true) × Accepts (beside rules scope f g (hint_for hints f.name)) × AreAcceptedUnder hints rules scope fs gs
AreAcceptedUnder hints rules scope (f ∷ fs) [] = ⊥
AreAcceptedUnder hints rules scope [] (g ∷ gs) = ⊥

-- each pair has one signature and is accepted under some hint, and no function is left over
abbrev pub AreAccepted : Rules → Scope → List Function → List Function → Type 0
AreAccepted rules scope [] [] = Unit {0}
AreAccepted rules scope (f ∷ fs) (g ∷ gs) =
    (same_signature f g ≡ true) × ((hint : Hint) × Accepts (beside rules scope f g hint)) × AreAccepted rules scope fs gs
AreAccepted rules scope (f ∷ fs) [] = ⊥
AreAccepted rules scope [] (g ∷ gs) = ⊥

-- The modules are accepted: they name the same types, have the same globals, declare the same, and each pair of their functions is accepted.
pub record AreModulesAccepted (hints : Hints) (rules : Rules) (source target : Module) : Type 0 where
  pub types : source.types ≡ target.types
  pub globals : source.globals ≡ target.globals
  pub declarations : AreDeclaredAlike (declarations_of source) (declarations_of target)
  pub functions : AreAcceptedUnder hints rules (scope_of source) (definitions_of source) (definitions_of target)

-- name and fields are equal, in their order; an opaque type has none
abbrev pub same_fields : Option (List Ty) → Option (List Ty) → Bool
same_fields None None = true
same_fields None (Some ts) = false
same_fields (Some ss) None = false
same_fields (Some ss) (Some ts) = same_list same_ty ss ts

abbrev pub same_named_type : NamedTy → NamedTy → Bool
same_named_type s t = same_name s.name t.name && same_fields s.fields t.fields

-- the answer on the functions of two modules: they have equal names, return and parameter types; then each pair in its order, of which the
-- first decides that isn't valid, or on which too many facts are known
abbrev pub definitions_answer : Rules → Module → Module → Hints → Option ModuleVerdict
definitions_answer rules source target hints =
    cond (same_list same_signature (definitions_of source) (definitions_of target))
    (functions_answer rules (scope_of source) hints (definitions_of source) (definitions_of target))
    (Some (modules.Differs difference.Functions))

-- and on their declarations before: each says what the one at its place does, wherever they stand among the functions
abbrev pub declarations_answer : Rules → Module → Module → Hints → Option ModuleVerdict
declarations_answer rules source target hints =
    cond (same_list same_declaration (declarations_of source) (declarations_of target))
    (definitions_answer rules source target hints)
    (Some (modules.Differs difference.Declarations))

-- and on their globals before these: they are equal, in their order
abbrev pub globals_answer : Rules → Module → Module → Hints → Option ModuleVerdict
globals_answer rules source target hints =
    cond (same_list same_global source.globals target.globals) (declarations_answer rules source target hints) (Some (modules.Differs difference.Globals))

-- THE answer on two modules: their named types are equal, in their order; then what is answered on their globals, declarations and functions.
abbrev pub module_answer : Rules → Module → Module → Hints → Option ModuleVerdict
module_answer rules source target hints =
    cond (same_list same_named_type source.types target.types) (globals_answer rules source target hints) (Some (modules.Differs difference.Types))
