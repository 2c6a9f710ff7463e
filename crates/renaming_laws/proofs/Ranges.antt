-- A function under other names that are in range is in range where it was.
use Rattle.std.proofs.Common.{◌≡◌, ◌∙◌, ◌+◌, ℕ, List, [], ◌∷◌, ◌++◌, length, map, refl, sym, ap, subst}
use Rattle.std.proofs.lemmas.List.{map-append}
use Rattle.std.specs.List.{AllByRecursion, flat_map, fold, sum_by}
use Rattle.ir_core.specs.declared.expressions.Expr.{Expr}
use Rattle.ir_core.specs.declared.expressions.Expr.TheVariants as expr
use Rattle.ir_core.specs.declared.functions.Block.{Block}
use Rattle.ir_core.specs.declared.functions.Case.{Case}
use Rattle.ir_core.specs.declared.functions.Function.{Function}
use Rattle.ir_core.specs.declared.functions.Instr.{Instr}
use Rattle.ir_core.specs.declared.functions.Instr.TheVariants as instr
use Rattle.ir_core.specs.declared.functions.Term.{Term}
use Rattle.ir_core.specs.declared.functions.Term.TheVariants as term
use Rattle.ir_core.specs.declared.operands.Atom.{Atom}
use Rattle.ir_core.specs.declared.operands.Atom.TheVariants.{Constant, Register}
use Rattle.ir_core.specs.declared.operands.Operand.{Operand}
use Rattle.ir_types.specs.declared.names.Name.{Name}
use Rattle.ir_types.specs.declared.ty.Ty.{Ty}
use Rattle.ir_core.specs.Expressions.{map_expr, map_operand}
use Rattle.ir_core.specs.Functions.{cases_of, names_of, operands_in_block, typed_of}
use Rattle.ir_core.specs.Ranges.{IsCaseInRange, IsFunctionInRange, IsLineInRange, IsNameInRange, IsOperandInRange, IsRightInRange, IsTypeInRange}
use Rattle.ir_rename.specs.Renamed.{rename_block, rename_case, rename_function, rename_line, rename_phi, rename_term}
use Rattle.ir_rename.proofs.Lists.{length_mapped}
use Rattle.ir_rename.proofs.Shaped.{all_operands, all_types, all_under, typed}

-- ---- lines

abbrev lines_in : Block → ℕ
lines_in b = length b.phis + length b.body + 1

as_many_of : (ρ : Name → Name) (b : Block) → lines_in (rename_block ρ b) ≡ lines_in b
as_many_of ρ b =
    ap (λ n. n + length (map (rename_line ρ) b.body) + 1) (length_mapped (rename_phi ρ) b.phis)
    ∙ ap (λ n. length b.phis + n + 1) (length_mapped (rename_line ρ) b.body)

abbrev more_lines : ℕ → Block → ℕ
more_lines n b = n + lines_in b

as_many_from : (ρ : Name → Name) (n : ℕ) (bs : List Block) → fold more_lines n (map (rename_block ρ) bs) ≡ fold more_lines n bs
as_many_from ρ n [] = refl
as_many_from ρ n (b ∷ bs) =
    ap (λ k. fold more_lines (n + k) (map (rename_block ρ) bs)) (as_many_of ρ b) ∙ as_many_from ρ (n + lines_in b) bs

pub as_many : (ρ : Name → Name) (bs : List Block) → sum_by lines_in (map (rename_block ρ) bs) ≡ sum_by lines_in bs
as_many ρ bs = as_many_from ρ 0 bs

abbrev lines_of : Block → List Instr
lines_of b = b.body

all_lines : (ρ : Name → Name) (bs : List Block) → flat_map lines_of (map (rename_block ρ) bs) ≡ map (rename_line ρ) (flat_map lines_of bs)
all_lines ρ [] = refl
all_lines ρ (b ∷ bs) =
    ap (λ ls. map (rename_line ρ) b.body ++ ls) (all_lines ρ bs) ∙ sym (map-append (rename_line ρ) b.body (flat_map lines_of bs))

right : (ρ : Name → Name) (e : Expr Name) → IsRightInRange e → IsRightInRange (map_expr ρ e)
right ρ (expr.Plain o) is = is
right ρ (expr.Binary b) is = is
right ρ (expr.Icmp c) is = is
right ρ (expr.Cast c) is = is
right ρ (expr.Select s) is = is
right ρ (expr.Element e) is = is
right ρ (expr.Load l) is = is

line : (ρ : Name → Name) (l : Instr) → IsLineInRange l → IsLineInRange (rename_line ρ l)
line ρ (instr.Calm c) is = right ρ c.right is
line ρ (instr.Alloca a) is = is
line ρ (instr.Store s) is = is
line ρ (instr.Call c) is = is

-- ---- operands

operand_of : (ρ : Name → Name) (t : Ty) (a : Atom Name) → IsOperandInRange (record { ty = t; atom = a }) → IsOperandInRange (map_operand ρ (record { ty = t; atom = a }))
operand_of ρ t (Constant c) is = is
operand_of ρ t (Register r) is = is

operand : (ρ : Name → Name) (o : Operand Name) → IsOperandInRange o → IsOperandInRange (map_operand ρ o)
operand ρ o is = operand_of ρ o.ty o.atom is

-- ---- cases

own_cases : (ρ : Name → Name) (t : Term) → cases_of (rename_term ρ t) ≡ map (rename_case ρ) (cases_of t)
own_cases ρ (term.Ret o) = refl
own_cases ρ term.RetVoid = refl
own_cases ρ (term.Br label) = refl
own_cases ρ (term.CondBr c) = refl
own_cases ρ (term.Switch s) = refl
own_cases ρ term.Unreachable = refl

abbrev cases_in : Block → List Case
cases_in b = cases_of b.term

all_cases : (ρ : Name → Name) (bs : List Block) → flat_map cases_in (map (rename_block ρ) bs) ≡ map (rename_case ρ) (flat_map cases_in bs)
all_cases ρ [] = refl
all_cases ρ (b ∷ bs) =
    ap (λ cs. cs ++ flat_map cases_in (map (rename_block ρ) bs)) (own_cases ρ b.term)
    ∙ ap (λ cs. map (rename_case ρ) (cases_in b) ++ cs) (all_cases ρ bs)
    ∙ sym (map-append (rename_case ρ) (cases_in b) (flat_map cases_in bs))

-- ---- functions

abbrev HasTypeInRange : Name × Ty → Type 0
HasTypeInRange r = IsTypeInRange r.1

pub in_range : (ρ : Name → Name) (f : Function) → IsFunctionInRange f → AllByRecursion IsNameInRange (names_of (rename_function ρ f)) → IsFunctionInRange (rename_function ρ f)
in_range ρ f range names = record {
  name = range.name;
  names = names;
  result = range.result;
  registers =
      subst (AllByRecursion HasTypeInRange) (sym (all_types ρ f)) (all_under HasTypeInRange HasTypeInRange (typed ρ) (λ r is. is) (typed_of f) range.registers);
  operands =
      subst (AllByRecursion (λ (o : Operand Name). IsOperandInRange o)) (sym (all_operands ρ f))
      (all_under (λ (o : Operand Name). IsOperandInRange o) (λ (o : Operand Name). IsOperandInRange o) (map_operand ρ) (operand ρ) (flat_map operands_in_block f.blocks) range.operands);
  lines =
      subst (AllByRecursion IsLineInRange) (sym (all_lines ρ f.blocks)) (all_under IsLineInRange IsLineInRange (rename_line ρ) (line ρ) (flat_map lines_of f.blocks) range.lines);
  cases =
      subst (AllByRecursion IsCaseInRange) (sym (all_cases ρ f.blocks)) (all_under IsCaseInRange IsCaseInRange (rename_case ρ) (λ c is. is) (flat_map cases_in f.blocks) range.cases);
}
