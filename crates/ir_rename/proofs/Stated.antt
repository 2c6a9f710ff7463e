-- Under other names a function states the types that it stated.
use Rattle.std.proofs.Common.{◌≡◌, ◌∙◌, List, [], ◌∷◌, ◌++◌, map, refl, ap}
use Rattle.std.specs.List.{flat_map}
use Rattle.ir_core.specs.declared.expressions.Expr.{Expr}
use Rattle.ir_core.specs.declared.expressions.Expr.TheVariants as expr
use Rattle.ir_core.specs.declared.functions.Argument.{Argument}
use Rattle.ir_core.specs.declared.functions.Block.{Block}
use Rattle.ir_core.specs.declared.functions.Case.{Case}
use Rattle.ir_core.specs.declared.functions.Function.{Function}
use Rattle.ir_core.specs.declared.functions.Instr.{Instr}
use Rattle.ir_core.specs.declared.functions.Instr.TheVariants as instr
use Rattle.ir_core.specs.declared.functions.Param.{Param}
use Rattle.ir_core.specs.declared.functions.Phi.{Phi}
use Rattle.ir_core.specs.declared.functions.Term.{Term}
use Rattle.ir_core.specs.declared.functions.Term.TheVariants as term
use Rattle.ir_core.specs.declared.operands.Atom.{Atom}
use Rattle.ir_core.specs.declared.operands.Atom.TheVariants.{Constant, Register}
use Rattle.ir_core.specs.declared.operands.Operand.{Operand}
use Rattle.ir_types.specs.declared.names.Name.{Name}
use Rattle.ir_types.specs.declared.ty.Ty.{Ty}
use Rattle.ir_core.specs.Expressions.{map_atom, map_expr, map_operand, operands_in}
use Rattle.ir_core.specs.Functions.{cases_of, operands_at_end, operands_of_phi}
use Rattle.ir_core.specs.StatedTypes.{stated_apart, stated_by_atom, stated_by_block, stated_by_line, stated_by_operand, stated_by_phi, types_in}
use Rattle.ir_rename.specs.Renamed.{rename_argument, rename_block, rename_case, rename_function, rename_line, rename_param, rename_phi, rename_term}
use Rattle.ir_rename.proofs.Shaped.{end_operands, line_operands, phi_operands, twice}

-- lists of lists, where a word changes none
flat_twice : {A B C : Type 0} (h : B → List C) (k : A → B) (l : A → List C) → ((x : A) → h (k x) ≡ l x) → (xs : List A) → flat_map h (map k xs) ≡ flat_map l xs
flat_twice h k l same [] = refl
flat_twice h k l same (x ∷ xs) = ap (λ ys. ys ++ flat_map h (map k xs)) (same x) ∙ ap (λ ys. l x ++ ys) (flat_twice h k l same xs)

by_atom : (ρ : Name → Name) (a : Atom Name) → stated_by_atom (map_atom ρ a) ≡ stated_by_atom a
by_atom ρ (Constant c) = refl
by_atom ρ (Register r) = refl

by_operand : (ρ : Name → Name) (o : Operand Name) → stated_by_operand (map_operand ρ o) ≡ stated_by_operand o
by_operand ρ o = ap (λ (ts : List Ty). o.ty ∷ ts) (by_atom ρ o.atom)

by_operands : (ρ : Name → Name) (os : List (Operand Name)) → flat_map stated_by_operand (map (map_operand ρ) os) ≡ flat_map stated_by_operand os
by_operands ρ = flat_twice stated_by_operand (map_operand ρ) stated_by_operand (by_operand ρ)

-- operands that are others under other names
of_operands : (ρ : Name → Name) (now os : List (Operand Name)) → now ≡ map (map_operand ρ) os → flat_map stated_by_operand now ≡ flat_map stated_by_operand os
of_operands ρ now os is = ap (flat_map stated_by_operand) is ∙ by_operands ρ os

apart_stays : (ρ : Name → Name) (e : Expr Name) → stated_apart (map_expr ρ e) ≡ stated_apart e
apart_stays ρ (expr.Plain o) = refl
apart_stays ρ (expr.Binary b) = refl
apart_stays ρ (expr.Icmp c) = refl
apart_stays ρ (expr.Cast c) = refl
apart_stays ρ (expr.Select s) = refl
apart_stays ρ (expr.Element e) = refl
apart_stays ρ (expr.Load l) = refl

by_argument : (ρ : Name → Name) (a : Argument) → stated_by_operand (rename_argument ρ a).operand ≡ stated_by_operand a.operand
by_argument ρ a = by_operand ρ a.operand

by_line : (ρ : Name → Name) (l : Instr) → stated_by_line (rename_line ρ l) ≡ stated_by_line l
by_line ρ (instr.Calm c) =
    ap (λ ts. ts ++ flat_map stated_by_operand (operands_in (map_expr ρ c.right))) (apart_stays ρ c.right)
    ∙ ap (λ ts. stated_apart c.right ++ ts) (of_operands ρ (operands_in (map_expr ρ c.right)) (operands_in c.right) (line_operands ρ (instr.Calm c)))
by_line ρ (instr.Alloca a) = refl
by_line ρ (instr.Store s) =
    ap (λ ts. ts ++ stated_by_operand (map_operand ρ s.pointer)) (by_operand ρ s.value)
    ∙ ap (λ ts. stated_by_operand s.value ++ ts) (by_operand ρ s.pointer)
by_line ρ (instr.Call c) =
    ap (λ (ts : List Ty). c.result ∷ ts)
    (flat_twice (λ (a : Argument). stated_by_operand a.operand) (rename_argument ρ) (λ (a : Argument). stated_by_operand a.operand) (by_argument ρ) c.arguments)

by_phi : (ρ : Name → Name) (p : Phi) → stated_by_phi (rename_phi ρ p) ≡ stated_by_phi p
by_phi ρ p =
    ap (λ (ts : List Ty). p.ty ∷ ts) (of_operands ρ (operands_of_phi (rename_phi ρ p)) (operands_of_phi p) (phi_operands ρ p))

by_cases : (ρ : Name → Name) (t : Term) → map (λ (c : Case). c.ty) (cases_of (rename_term ρ t)) ≡ map (λ (c : Case). c.ty) (cases_of t)
by_cases ρ (term.Ret o) = refl
by_cases ρ term.RetVoid = refl
by_cases ρ (term.Br label) = refl
by_cases ρ (term.CondBr c) = refl
by_cases ρ (term.Switch s) = twice (λ (c : Case). c.ty) (rename_case ρ) (λ (c : Case). c.ty) (λ c. refl) s.cases
by_cases ρ term.Unreachable = refl

by_block : (ρ : Name → Name) (b : Block) → stated_by_block (rename_block ρ b) ≡ stated_by_block b
by_block ρ b =
    let new = rename_block ρ b in
    ap (λ ts. ts ++ (flat_map stated_by_line new.body ++ (flat_map stated_by_operand (operands_at_end new.term) ++ map (λ (c : Case). c.ty) (cases_of new.term))))
    (flat_twice stated_by_phi (rename_phi ρ) stated_by_phi (by_phi ρ) b.phis)
    ∙ ap (λ ts. flat_map stated_by_phi b.phis ++ (ts ++ (flat_map stated_by_operand (operands_at_end new.term) ++ map (λ (c : Case). c.ty) (cases_of new.term))))
    (flat_twice stated_by_line (rename_line ρ) stated_by_line (by_line ρ) b.body)
    ∙ ap (λ ts. flat_map stated_by_phi b.phis ++ (flat_map stated_by_line b.body ++ (ts ++ map (λ (c : Case). c.ty) (cases_of new.term))))
    (of_operands ρ (operands_at_end new.term) (operands_at_end b.term) (end_operands ρ b.term))
    ∙ ap (λ ts. flat_map stated_by_phi b.phis ++ (flat_map stated_by_line b.body ++ (flat_map stated_by_operand (operands_at_end b.term) ++ ts)))
    (by_cases ρ b.term)

pub param_types_stay : (ρ : Name → Name) (ps : List Param) → map (λ (p : Param). p.ty) (map (rename_param ρ) ps) ≡ map (λ (p : Param). p.ty) ps
param_types_stay ρ ps = twice (λ (p : Param). p.ty) (rename_param ρ) (λ (p : Param). p.ty) (λ p. refl) ps

pub types_stay : (ρ : Name → Name) (f : Function) → types_in (rename_function ρ f) ≡ types_in f
types_stay ρ f =
    ap (λ (ts : List Ty). f.result ∷ (ts ++ flat_map stated_by_block (map (rename_block ρ) f.blocks))) (param_types_stay ρ f.params)
    ∙ ap (λ (ts : List Ty). f.result ∷ (map (λ (p : Param). p.ty) f.params ++ ts))
    (flat_twice stated_by_block (rename_block ρ) stated_by_block (by_block ρ) f.blocks)
