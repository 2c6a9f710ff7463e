-- What is built where a number is due is the same where the number is counted up to the greatest one.
use Rattle.std.proofs.Common.{◌≡◌, ◌∙◌, ◌<◌, ◌^◌, ℕ, List, [], ◌∷◌, map, Option, None, Some, refl, sym, ap}
use Rattle.ir_core.specs.declared.expressions.Expr.{Expr}
use Rattle.ir_core.specs.declared.expressions.Expr.TheVariants as expr
use Rattle.ir_core.specs.declared.functions.Block.{Block}
use Rattle.ir_core.specs.declared.functions.Function.{Function}
use Rattle.ir_core.specs.declared.functions.Instr.{Instr}
use Rattle.ir_core.specs.declared.functions.Instr.TheVariants as instr
use Rattle.ir_core.specs.declared.functions.Phi.{Phi}
use Rattle.ir_core.specs.Functions.{name_set}
use Rattle.ir_types.specs.declared.named.NamedTy.{NamedTy}
use Rattle.ir_types.specs.declared.names.Name.{Name}
use Rattle.module_grammar.specs.declared.attributes.ParamAttributeText.{ParamAttributeText}
use Rattle.module_grammar.specs.declared.flow.BlockText.{BlockText}
use Rattle.module_grammar.specs.declared.flow.PhiText.{PhiText}
use Rattle.module_grammar.specs.declared.functions.DefinitionText.{DefinitionText}
use Rattle.module_grammar.specs.declared.lines.CallBodyText.{CallBodyText}
use Rattle.module_grammar.specs.declared.lines.CallBodyText.TheVariants as call
use Rattle.module_grammar.specs.declared.lines.CallEndText.{CallEndText}
use Rattle.module_grammar.specs.declared.lines.InstructionText.{InstructionText}
use Rattle.module_grammar.specs.declared.lines.InstructionText.TheVariants as instruction
use Rattle.module_grammar.specs.declared.lines.LineText.{LineText}
use Rattle.module_grammar.specs.declared.lines.VoidCallText.{VoidCallText}
use Rattle.module_grammar.specs.declared.lines.VoidCallText.TheVariants as of_void
use Rattle.module_grammar.specs.declared.places.Placed.{Placed}
use Rattle.module_grammar.specs.declared.types.TypeText.{TypeText}
use Rattle.module_walk.proofs.Counted.{alike, behind_capped, capped_is, from_capped, name_capped, twice_capped}
use Rattle.module_walk.specs.Counted.{capped, due_or, names_of_params, registers_of}
use Rattle.module_walk.specs.Functions.{headed}
use Rattle.module_walk.specs.Lines.{alloca_at}
use Rattle.module_walk.specs.Operations.{element_at}
use Rattle.named_modules.specs.Built.{align_of, argument_of, block_from, blocks_from, call_of, called, calm, count_of, due_after_line, due_behind, due_behind_line, due_behind_lines, due_behind_phis, due_from, due_in, function_of, kept_lines, label_name, line_at, lines_from, name_due, operand_of, operation_of, phi_at, phis_from, result_name, result_of, void_called}
use Rattle.named_modules.specs.Constants.{global_name}
use Rattle.named_modules.specs.Functions.{blocks_in, linkage_said}
use Rattle.named_modules.specs.Types.{type_of}
use Rattle.named_modules.specs.Values.{extensions_of}

pub small : (n d : ℕ) → n ≡ capped d → n ≡ capped n
small n d e = e ∙ sym (twice_capped d) ∙ ap capped (sym e)

-- ---- lines

result_capped : (d : ℕ) (r : Option (Placed Name)) (of : Option TypeText) → result_name (capped d) r of ≡ result_name d r of
result_capped d r None = refl
result_capped d r (Some w) = ap Some (name_capped d r)

abbrev call_named : List ParamAttributeText → Option TypeText → Placed Name → CallEndText → Option Name → Instr
call_named attributes of callee end x = instr.Call (record {
  name = x;
  result = result_of of;
  result_extensions = extensions_of attributes;
  callee = callee.what;
  arguments = map argument_of end.arguments;
})

called_capped : (d : ℕ) (r : Option (Placed Name)) (attributes : List ParamAttributeText) (of : Option TypeText) (callee : Placed Name) (end : CallEndText)
    → called (capped d) r attributes of callee end ≡ called d r attributes of callee end
called_capped d r attributes of callee end = ap (call_named attributes of callee end) (result_capped d r of)

void_capped : (d : ℕ) (c : VoidCallText) → void_called (capped d) c ≡ void_called d c
void_capped d (of_void.Call x end) = refl
void_capped d (of_void.Debug x attributes) = refl

call_capped : (d : ℕ) (r : Option (Placed Name)) (c : CallBodyText) → call_of (capped d) r c ≡ call_of d r c
call_capped d r (call.Convention attributes c end) = called_capped d r attributes c.result (global_name c.name) end
call_capped d r (call.Attributes first others c end) = called_capped d r (first ∷ others) c.result (global_name c.name) end
call_capped d r (call.Typed t types callee end) = called_capped d r [] (Some t) (global_name callee) end
call_capped d r (call.Void v) = void_capped d v.call

calm_capped : (d : ℕ) (r : Option (Placed Name)) (e : Expr Name) → calm (capped d) r e ≡ calm d r e
calm_capped d r e = ap (λ (x : Name). instr.Calm (record { name = x; right = e })) (name_capped d r)

line_capped : (types : List NamedTy) (d : ℕ) (r : Option (Placed Name)) (i : InstructionText) → line_at types (capped d) r i ≡ line_at types d r i
line_capped types d r (instruction.Operation w) = calm_capped d r (operation_of w)
line_capped types d r (instruction.Element w) = calm_capped d r (expr.Element (element_at types w.inbounds (type_of w.of) (operand_of w.base) (map operand_of w.indices)))
line_capped types d r (instruction.Alloca w) = ap (λ (x : Name). alloca_at x (type_of w.ty) (count_of w.count) (align_of w.align)) (name_capped d r)
line_capped types d r (instruction.Load w) = calm_capped d r (expr.Load (record { of = type_of w.ty; pointer = operand_of w.address; align = align_of w.align }))
line_capped types d r (instruction.Store w) = refl
line_capped types d r (instruction.Call w) = call_capped d r w.body

pub or_capped : (d : ℕ) (o : Option Name) (r : Option (Placed Name)) → d < 2 ^ 64 → due_or d (capped (due_behind d r)) o ≡ capped (due_after_line d o r)
or_capped d None r less = capped_is d less
or_capped d (Some x) r less = refl

after_capped : (d : ℕ) (o : Option Name) (r : Option (Placed Name)) → capped (due_after_line (capped d) o r) ≡ capped (due_after_line d o r)
after_capped d None r = twice_capped d
after_capped d (Some x) r = behind_capped d r

behind_line_capped : (types : List NamedTy) (d : ℕ) (w : LineText) → capped (due_behind_line types (capped d) w) ≡ capped (due_behind_line types d w)
behind_line_capped types d w =
    ap (λ i. capped (due_after_line (capped d) (name_set i) w.register)) (line_capped types d w.register w.attached.instruction)
    ∙ after_capped d (name_set (line_at types d w.register w.attached.instruction)) w.register

pub lines_capped : (types : List NamedTy) (d : ℕ) (ws : List LineText) → lines_from types (capped d) ws ≡ lines_from types d ws
lines_capped types d [] = refl
lines_capped types d (w ∷ ws) =
    ap (λ i. i ∷ lines_from types (due_behind_line types (capped d) w) ws) (line_capped types d w.register w.attached.instruction)
    ∙ ap (λ is. line_at types d w.register w.attached.instruction ∷ is) (alike (λ n. lines_from types n ws) (λ n. lines_capped types n ws) (due_behind_line types (capped d) w) (due_behind_line types d w) (behind_line_capped types d w))

pub behind_lines_capped : (types : List NamedTy) (d : ℕ) (ws : List LineText) → capped (due_behind_lines types (capped d) ws) ≡ capped (due_behind_lines types d ws)
behind_lines_capped types d [] = twice_capped d
behind_lines_capped types d (w ∷ ws) =
    alike (λ n. capped (due_behind_lines types n ws)) (λ n. behind_lines_capped types n ws) (due_behind_line types (capped d) w) (due_behind_line types d w) (behind_line_capped types d w)

-- ---- phi nodes

phi_capped : (d : ℕ) (w : PhiText) → phi_at (capped d) w ≡ phi_at d w
phi_capped d w = ap (λ (x : Name). let p : Phi = record (phi_at d w) { name = x } in p) (name_capped d w.register)

pub phis_capped : (d : ℕ) (ws : List PhiText) → phis_from (capped d) ws ≡ phis_from d ws
phis_capped d [] = refl
phis_capped d (w ∷ ws) =
    ap (λ p. p ∷ phis_from (due_behind (capped d) w.register) ws) (phi_capped d w)
    ∙ ap (λ ps. phi_at d w ∷ ps) (alike (λ n. phis_from n ws) (λ n. phis_capped n ws) (due_behind (capped d) w.register) (due_behind d w.register) (behind_capped d w.register))

-- ---- blocks

pub lines_behind : (types : List NamedTy) (d : ℕ) (rs : List (Option (Placed Name))) (ws : List LineText) → lines_from types (due_from (capped d) rs) ws ≡ lines_from types (due_from d rs) ws
lines_behind types d rs ws = alike (λ n. lines_from types n ws) (λ n. lines_capped types n ws) (due_from (capped d) rs) (due_from d rs) (from_capped d rs)

pub behind_phis : (types : List NamedTy) (d : ℕ) (rs : List (Option (Placed Name))) (ws : List LineText)
    → capped (due_behind_lines types (due_from (capped d) rs) ws) ≡ capped (due_behind_lines types (due_from d rs) ws)
behind_phis types d rs ws = alike (λ n. capped (due_behind_lines types n ws)) (λ n. behind_lines_capped types n ws) (due_from (capped d) rs) (due_from d rs) (from_capped d rs)

-- the block of that name, where this number is due behind it
abbrev block_named : List NamedTy → ℕ → BlockText → Name → Block
block_named types d w x = record {
  name = x;
  phis = phis_from d w.body.phis;
  body = lines_from types (due_from d (registers_of w.body.phis)) (kept_lines w);
  term = (block_from types d w).term;
}

named_capped : (types : List NamedTy) (d : ℕ) (w : BlockText) (x : Name) → block_named types (capped d) w x ≡ block_named types d w x
named_capped types d w x =
    ap (λ (ps : List Phi). let b : Block = record (block_named types (capped d) w x) { phis = ps } in b) (phis_capped d w.body.phis)
    ∙ ap (λ (is : List Instr). let b : Block = record (block_named types d w x) { body = is } in b) (lines_behind types d (registers_of w.body.phis) (kept_lines w))

block_capped : (types : List NamedTy) (d : ℕ) (w : BlockText) → block_from types (capped d) w ≡ block_from types d w
block_capped types d w =
    alike (λ n. block_named types n w (name_due (capped d) (label_name w.label))) (λ n. named_capped types n w (name_due (capped d) (label_name w.label))) (due_in (capped d) w) (due_in d w)
    (behind_capped d (label_name w.label))
    ∙ ap (block_named types (due_in d w) w) (name_capped d (label_name w.label))

behind_block_capped : (types : List NamedTy) (d : ℕ) (w : BlockText)
    → capped (due_behind_lines types (due_behind_phis (capped d) w) (kept_lines w)) ≡ capped (due_behind_lines types (due_behind_phis d w) (kept_lines w))
behind_block_capped types d w =
    alike (λ n. capped (due_behind_lines types (due_from n (registers_of w.body.phis)) (kept_lines w))) (λ n. behind_phis types n (registers_of w.body.phis) (kept_lines w)) (due_in (capped d) w) (due_in d w)
    (behind_capped d (label_name w.label))

pub blocks_capped : (types : List NamedTy) (d : ℕ) (ws : List BlockText) → blocks_from types (capped d) ws ≡ blocks_from types d ws
blocks_capped types d [] = refl
blocks_capped types d (w ∷ ws) =
    let here = due_behind_lines types (due_behind_phis (capped d) w) (kept_lines w) in
    let there = due_behind_lines types (due_behind_phis d w) (kept_lines w) in
    ap (λ b. b ∷ blocks_from types here ws) (block_capped types d w)
    ∙ ap (λ bs. block_from types d w ∷ bs) (alike (λ n. blocks_from types n ws) (λ n. blocks_capped types n ws) here there (behind_block_capped types d w))

-- ---- functions

abbrev bare_with : Function → List Block → Function
bare_with f bs = record f { blocks = bs }

-- a function's head and its blocks make the function
pub with_blocks : (types : List NamedTy) (d : DefinitionText) (f : Function) (due : ℕ) (bs : List Block)
    → f ≡ headed (linkage_said d.linkage) d.head → due ≡ capped (due_from 0 (names_of_params d.head.params)) → bs ≡ blocks_from types due (blocks_in d) → bare_with f bs ≡ function_of types d
with_blocks types d f due bs head counts built =
    ap (λ h. bare_with h bs) head
    ∙ ap (bare_with (headed (linkage_said d.linkage) d.head)) (built ∙ ap (λ n. blocks_from types n (blocks_in d)) counts ∙ blocks_capped types (due_from 0 (names_of_params d.head.params)) (blocks_in d))
