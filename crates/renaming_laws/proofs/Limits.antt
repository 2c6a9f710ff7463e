-- Under other names types and constants stay as deep, what is wanted at once as large, and lines as many.
use Rattle.std.proofs.Common.{◌≡◌, ◌∙◌, ◌≤◌, ◌++◌, ℕ, max, List, [], ◌∷◌, map, refl, sym, ap, subst}
use Rattle.std.specs.List.{AllByRecursion, AllZip, flat_map}
use Rattle.ir_types.specs.declared.named.NamedTy.{NamedTy}
use Rattle.ir_types.specs.declared.names.Name.{Name}
use Rattle.ir_types.specs.declared.ty.Ty.{Ty}
use Rattle.ir_core.specs.declared.expressions.Expr.{Expr}
use Rattle.ir_core.specs.declared.expressions.Expr.TheVariants as expr
use Rattle.ir_core.specs.declared.functions.Argument.{Argument}
use Rattle.ir_core.specs.declared.functions.Block.{Block}
use Rattle.ir_core.specs.declared.functions.Case.{Case}
use Rattle.ir_core.specs.declared.functions.Entry.{Entry}
use Rattle.ir_core.specs.declared.functions.Function.{Function}
use Rattle.ir_core.specs.declared.functions.Instr.{Instr}
use Rattle.ir_core.specs.declared.functions.Instr.TheVariants as instr
use Rattle.ir_core.specs.declared.functions.Param.{Param}
use Rattle.ir_core.specs.declared.functions.Phi.{Phi}
use Rattle.ir_core.specs.declared.functions.Term.{Term}
use Rattle.ir_core.specs.declared.functions.Term.TheVariants as term
use Rattle.ir_core.specs.declared.modules.Declaration.{Declaration}
use Rattle.ir_core.specs.declared.modules.GlobalVar.{GlobalVar}
use Rattle.ir_core.specs.declared.modules.Module.{Module}
use Rattle.ir_core.specs.declared.operands.Atom.{Atom}
use Rattle.ir_core.specs.declared.operands.Atom.TheVariants.{Constant, Register}
use Rattle.ir_core.specs.declared.operands.Operand.{Operand}
use Rattle.ir_core.specs.Depths.{AreShallow, depth_of, depth_of_atom, depth_of_operand, depths_at_line, depths_at_phi, depths_in, depths_in_block, depths_in_declaration, depths_in_function, depths_in_global, depths_in_named}
use Rattle.ir_core.specs.Expressions.{map_atom, map_expr, map_operand, operands_in}
use Rattle.ir_core.specs.Functions.{cases_of, line_count, operands_at_end, operands_of_phi}
use Rattle.ir_core.specs.Limits.{line_limit}
use Rattle.ir_core.specs.Sizes.{AreSmall, Blocks, one_of_each, stepped, wanted_apart, wanted_by_atom, wanted_by_global, wanted_by_line, wanted_by_operands, wanted_in, wanted_in_block, wanted_in_function}
use Rattle.ir_core.specs.StatedTypes.{stated_apart}
use Rattle.ir_core.specs.Typing.{Index, index_of, number_in}
use Rattle.ir_rename.specs.Renamed.{AreRenamed, IsRenamed, rename_argument, rename_block, rename_case, rename_entry, rename_function, rename_line, rename_param, rename_phi, rename_term}
use Rattle.ir_rename.proofs.Shaped.{line_operands}
use Rattle.renaming_laws.specs.Kept.{LimitsStay}
use Rattle.renaming_laws.proofs.Ranges.{as_many}

-- what is read of each is read of each under other names, part by part
flat_same : {A B : Type 0} (h : A → List B) (k : A → A) → ((x : A) → h (k x) ≡ h x) → (xs : List A) → flat_map h (map k xs) ≡ flat_map h xs
flat_same h k same [] = refl
flat_same h k same (x ∷ xs) = ap (λ ys. ys ++ flat_map h (map k xs)) (same x) ∙ ap (λ ys. h x ++ ys) (flat_same h k same xs)

each_same : {A B : Type 0} (h : A → B) (k : A → A) → ((x : A) → h (k x) ≡ h x) → (xs : List A) → map h (map k xs) ≡ map h xs
each_same h k same [] = refl
each_same h k same (x ∷ xs) = ap (λ y. y ∷ map h (map k xs)) (same x) ∙ ap (λ ys. h x ∷ ys) (each_same h k same xs)

module _ (ρ : Name → Name) where
  -- ---- operands

  ends : (t : Term) → operands_at_end (rename_term ρ t) ≡ map (map_operand ρ) (operands_at_end t)
  ends (term.Ret o) = refl
  ends term.RetVoid = refl
  ends (term.Br label) = refl
  ends (term.CondBr c) = refl
  ends (term.Switch s) = refl
  ends term.Unreachable = refl

  entries : (t : Ty) (es : List Entry)
      → map (λ (e : Entry). record { ty = t; atom = e.value }) (map (rename_entry ρ) es) ≡ map (map_operand ρ) (map (λ (e : Entry). record { ty = t; atom = e.value }) es)
  entries t [] = refl
  entries t (e ∷ es) = ap (λ (os : List (Operand Name)). record { ty = t; atom = map_atom ρ e.value } ∷ os) (entries t es)

  phi_operands : (p : Phi) → operands_of_phi (rename_phi ρ p) ≡ map (map_operand ρ) (operands_of_phi p)
  phi_operands p = entries p.ty p.entries

  arguments : (given : List Argument) → map (λ (a : Argument). a.operand) (map (rename_argument ρ) given) ≡ map (map_operand ρ) (map (λ (a : Argument). a.operand) given)
  arguments [] = refl
  arguments (a ∷ more) = ap (λ (os : List (Operand Name)). map_operand ρ a.operand ∷ os) (arguments more)

  -- ---- depths

  atom_depth : (a : Atom Name) → depth_of_atom (map_atom ρ a) ≡ depth_of_atom a
  atom_depth (Constant c) = refl
  atom_depth (Register r) = refl

  operand_depth : (o : Operand Name) → depth_of_operand (map_operand ρ o) ≡ depth_of_operand o
  operand_depth o = ap (λ d. max (depth_of o.ty) d) (atom_depth o.atom)

  abbrev depths : List (Operand Name) → List ℕ
  depths = map (λ o. depth_of_operand o)

  operand_depths : (os : List (Operand Name)) → depths (map (map_operand ρ) os) ≡ depths os
  operand_depths = each_same (λ o. depth_of_operand o) (map_operand ρ) operand_depth

  apart : (e : Expr Name) → stated_apart (map_expr ρ e) ≡ stated_apart e
  apart (expr.Plain o) = refl
  apart (expr.Binary b) = refl
  apart (expr.Icmp c) = refl
  apart (expr.Cast c) = refl
  apart (expr.Select s) = refl
  apart (expr.Element e) = refl
  apart (expr.Load l) = refl

  line_depths : (l : Instr) → depths_at_line (rename_line ρ l) ≡ depths_at_line l
  line_depths (instr.Calm c) =
      ap (λ (ts : List Ty). map depth_of ts ++ depths (operands_in (map_expr ρ c.right))) (apart c.right)
      ∙ ap (λ (os : List (Operand Name)). map depth_of (stated_apart c.right) ++ depths os) (line_operands ρ (instr.Calm c))
      ∙ ap (λ (ds : List ℕ). map depth_of (stated_apart c.right) ++ ds) (operand_depths (operands_in c.right))
  line_depths (instr.Alloca a) = refl
  line_depths (instr.Store s) = operand_depths (s.value ∷ s.pointer ∷ [])
  line_depths (instr.Call c) =
      ap (λ (ds : List ℕ). depth_of c.result ∷ ds)
      (each_same (λ (a : Argument). depth_of_operand a.operand) (rename_argument ρ) (λ a. operand_depth a.operand) c.arguments)

  phi_depths : (p : Phi) → depths_at_phi (rename_phi ρ p) ≡ depths_at_phi p
  phi_depths p =
      ap (λ (os : List (Operand Name)). depth_of p.ty ∷ depths os) (phi_operands p)
      ∙ ap (λ (ds : List ℕ). depth_of p.ty ∷ ds) (operand_depths (operands_of_phi p))

  abbrev case_depths : List Case → List ℕ
  case_depths = map (λ (c : Case). depth_of c.ty)

  end_cases : (t : Term) → case_depths (cases_of (rename_term ρ t)) ≡ case_depths (cases_of t)
  end_cases (term.Ret o) = refl
  end_cases term.RetVoid = refl
  end_cases (term.Br label) = refl
  end_cases (term.CondBr c) = refl
  end_cases (term.Switch s) = each_same (λ (c : Case). depth_of c.ty) (rename_case ρ) (λ c. refl) s.cases
  end_cases term.Unreachable = refl

  end_depths : (t : Term) → depths (operands_at_end (rename_term ρ t)) ≡ depths (operands_at_end t)
  end_depths t = ap depths (ends t) ∙ operand_depths (operands_at_end t)

  block_depths : (b : Block) → depths_in_block (rename_block ρ b) ≡ depths_in_block b
  block_depths b =
      let phis = flat_map depths_at_phi b.phis in
      let lines = flat_map depths_at_line b.body in
      let new_lines = flat_map depths_at_line (map (rename_line ρ) b.body) in
      let new_end = depths (operands_at_end (rename_term ρ b.term)) in
      let new_cases = case_depths (cases_of (rename_term ρ b.term)) in
      ap (λ ds. ds ++ (new_lines ++ (new_end ++ new_cases))) (flat_same depths_at_phi (rename_phi ρ) phi_depths b.phis)
      ∙ ap (λ ds. phis ++ (ds ++ (new_end ++ new_cases))) (flat_same depths_at_line (rename_line ρ) line_depths b.body)
      ∙ ap (λ ds. phis ++ (lines ++ (ds ++ new_cases))) (end_depths b.term)
      ∙ ap (λ ds. phis ++ (lines ++ (depths (operands_at_end b.term) ++ ds))) (end_cases b.term)

  function_depths : (f : Function) → depths_in_function (rename_function ρ f) ≡ depths_in_function f
  function_depths f =
      let blocks = flat_map depths_in_block (map (rename_block ρ) f.blocks) in
      ap (λ ds. depth_of f.result ∷ (ds ++ blocks)) (each_same (λ (p : Param). depth_of p.ty) (rename_param ρ) (λ p. refl) f.params)
      ∙ ap (λ ds. depth_of f.result ∷ (map (λ (p : Param). depth_of p.ty) f.params ++ ds)) (flat_same depths_in_block (rename_block ρ) block_depths f.blocks)

  -- ---- sizes

  module _ (types : List NamedTy) where
    atom_wants : (a : Atom Name) → wanted_by_atom types (map_atom ρ a) ≡ wanted_by_atom types a
    atom_wants (Constant c) = refl
    atom_wants (Register r) = refl

    operands_want : (os : List (Operand Name)) → wanted_by_operands types (map (map_operand ρ) os) ≡ wanted_by_operands types os
    operands_want = flat_same (λ (o : Operand Name). wanted_by_atom types o.atom) (map_operand ρ) (λ o. atom_wants o.atom)

    index_number : (a : Atom Name) → number_in (map_atom ρ a) ≡ number_in a
    index_number (Constant c) = refl
    index_number (Register r) = refl

    indices : (os : List (Operand Name)) → map (λ o. index_of o) (map (map_operand ρ) os) ≡ map (λ o. index_of o) os
    indices = each_same (λ o. index_of o) (map_operand ρ) (λ o. ap (λ n. record { ty = o.ty; number = n }) (index_number o.atom))

    apart_wants : (e : Expr Name) → wanted_apart types (map_expr ρ e) ≡ wanted_apart types e
    apart_wants (expr.Plain o) = refl
    apart_wants (expr.Binary b) = refl
    apart_wants (expr.Icmp c) = refl
    apart_wants (expr.Cast c) = refl
    apart_wants (expr.Select s) = refl
    apart_wants (expr.Element e) = ap (λ (is : List Index). one_of_each (stepped types e.of is)) (indices e.indices)
    apart_wants (expr.Load l) = refl

    line_wants : (l : Instr) → wanted_by_line types (rename_line ρ l) ≡ wanted_by_line types l
    line_wants (instr.Calm c) =
        ap (λ (bs : Blocks). bs ++ wanted_by_operands types (operands_in (map_expr ρ c.right))) (apart_wants c.right)
        ∙ ap (λ (os : List (Operand Name)). wanted_apart types c.right ++ wanted_by_operands types os) (line_operands ρ (instr.Calm c))
        ∙ ap (λ (bs : Blocks). wanted_apart types c.right ++ bs) (operands_want (operands_in c.right))
    line_wants (instr.Alloca a) = refl
    line_wants (instr.Store s) = operands_want (s.value ∷ s.pointer ∷ [])
    line_wants (instr.Call c) = ap (wanted_by_operands types) (arguments c.arguments) ∙ operands_want (map (λ (a : Argument). a.operand) c.arguments)

    phi_wants : (p : Phi) → wanted_by_operands types (operands_of_phi (rename_phi ρ p)) ≡ wanted_by_operands types (operands_of_phi p)
    phi_wants p = ap (wanted_by_operands types) (phi_operands p) ∙ operands_want (operands_of_phi p)

    end_wants : (t : Term) → wanted_by_operands types (operands_at_end (rename_term ρ t)) ≡ wanted_by_operands types (operands_at_end t)
    end_wants t = ap (wanted_by_operands types) (ends t) ∙ operands_want (operands_at_end t)

    block_wants : (b : Block) → wanted_in_block types (rename_block ρ b) ≡ wanted_in_block types b
    block_wants b =
        let by_phi : Phi → Blocks = λ p. wanted_by_operands types (operands_of_phi p) in
        let new_lines : Blocks = flat_map (wanted_by_line types) (map (rename_line ρ) b.body) in
        let new_end : Blocks = wanted_by_operands types (operands_at_end (rename_term ρ b.term)) in
        ap (λ (bs : Blocks). bs ++ (new_lines ++ new_end)) (flat_same by_phi (rename_phi ρ) phi_wants b.phis)
        ∙ ap (λ (bs : Blocks). flat_map by_phi b.phis ++ (bs ++ new_end)) (flat_same (wanted_by_line types) (rename_line ρ) line_wants b.body)
        ∙ ap (λ (bs : Blocks). flat_map by_phi b.phis ++ (flat_map (wanted_by_line types) b.body ++ bs)) (end_wants b.term)

    function_wants : (f : Function) → wanted_in_function types (rename_function ρ f) ≡ wanted_in_function types f
    function_wants f = flat_same (wanted_in_block types) (rename_block ρ) block_wants f.blocks

-- ---- modules

abbrev Renamed : Function → Function → Type 0
Renamed f g = (ρ : Name → Name) × IsRenamed ρ f g

-- what is read alike of each function under other names
zip_same : {B : Type 0} (h : Function → List B) → ((ρ : Name → Name) (f : Function) → h (rename_function ρ f) ≡ h f) → (fs gs : List Function)
    → AllZip Renamed fs gs → flat_map h gs ≡ flat_map h fs
zip_same h same [] [] zip = refl
zip_same h same [] (g ∷ gs) zip = absurd zip
zip_same h same (f ∷ fs) [] zip = absurd zip
zip_same h same (f ∷ fs) (g ∷ gs) zip =
    ap (λ ys. ys ++ flat_map h gs) (ap h zip.0.1.same ∙ same zip.0.0 f) ∙ ap (λ ys. h f ++ ys) (zip_same h same fs gs zip.1)

abbrev depths_of : List NamedTy → List GlobalVar → List ℕ → List Declaration → List ℕ
depths_of types globals functions declarations =
    flat_map depths_in_named types ++ (flat_map depths_in_global globals ++ (functions ++ flat_map depths_in_declaration declarations))

same_depths : (m n : Module) → AreRenamed m n → depths_in n ≡ depths_in m
same_depths m n is =
    let functions = flat_map depths_in_function n.functions in
    ap (λ (ts : List NamedTy). depths_of ts n.globals functions n.declarations) is.types
    ∙ ap (λ (gs : List GlobalVar). depths_of m.types gs functions n.declarations) is.globals
    ∙ ap (λ (ds : List Declaration). depths_of m.types m.globals functions ds) is.declarations
    ∙ ap (λ fs. depths_of m.types m.globals fs m.declarations) (zip_same depths_in_function function_depths m.functions n.functions is.functions)

abbrev wanted_of : List NamedTy → List GlobalVar → List Function → Blocks
wanted_of types globals functions = flat_map (wanted_by_global types) globals ++ flat_map (wanted_in_function types) functions

same_sizes : (m n : Module) → AreRenamed m n → wanted_in n ≡ wanted_in m
same_sizes m n is =
    ap (λ (ts : List NamedTy). wanted_of ts n.globals n.functions) is.types
    ∙ ap (λ (gs : List GlobalVar). wanted_of m.types gs n.functions) is.globals
    ∙ ap (λ (bs : Blocks). flat_map (wanted_by_global m.types) m.globals ++ bs)
    (zip_same (wanted_in_function m.types) (λ ρ f. function_wants ρ m.types f) m.functions n.functions is.functions)

lines_stay : (fs gs : List Function) → AllZip Renamed fs gs → AllByRecursion (λ (f : Function). line_count f ≤ line_limit) fs
    → AllByRecursion (λ (f : Function). line_count f ≤ line_limit) gs
lines_stay [] [] zip all = tt
lines_stay [] (g ∷ gs) zip all = absurd zip
lines_stay (f ∷ fs) [] zip all = absurd zip
lines_stay (f ∷ fs) (g ∷ gs) zip all = (
  subst (λ n. n ≤ line_limit) (sym (ap line_count zip.0.1.same ∙ as_many zip.0.0 f.blocks)) all.0,
  lines_stay fs gs zip.1 all.1,
)

pub limits_stay : LimitsStay
limits_stay m n is within = (
  subst AreShallow (sym (same_depths m n is)) within.0,
  lines_stay m.functions n.functions is.functions within.1,
  subst (λ (types : List NamedTy). AreSmall types (wanted_in n)) (sym is.types) (subst (AreSmall m.types) (sym (same_sizes m n is)) within.2),
)
