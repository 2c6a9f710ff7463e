-- A function under other names has shape where it had.
use Rattle.std.proofs.Common.{◌≡◌, ◌∙◌, ◌<◌, true, List, [], ◌∷◌, length, map, Option, refl, sym, ap, subst, arith}
use Rattle.std.proofs.lemmas.List.Sorted.{IsPermutation-map}
use Rattle.std.specs.Prelude.{IsPermutation}
use Rattle.std.specs.List.{AllByRecursion, Contains, flat_map}
use Rattle.std.specs.Option.{option_map}
use Rattle.ir_core.specs.declared.expressions.Expr.{Expr}
use Rattle.ir_core.specs.declared.expressions.Expr.TheVariants as expr
use Rattle.ir_core.specs.declared.functions.Argument.{Argument}
use Rattle.ir_core.specs.declared.functions.Block.{Block}
use Rattle.ir_core.specs.declared.functions.Call.{Call}
use Rattle.ir_core.specs.declared.functions.Case.{Case}
use Rattle.ir_core.specs.declared.functions.Entry.{Entry}
use Rattle.ir_core.specs.declared.functions.Function.{Function}
use Rattle.ir_core.specs.declared.functions.Instr.{Instr}
use Rattle.ir_core.specs.declared.functions.Instr.TheVariants as instr
use Rattle.ir_core.specs.declared.functions.Phi.{Phi}
use Rattle.ir_core.specs.declared.functions.Term.{Term}
use Rattle.ir_core.specs.declared.functions.Term.TheVariants as term
use Rattle.ir_core.specs.declared.modules.Module.{Module}
use Rattle.ir_core.specs.declared.operands.Atom.{Atom}
use Rattle.ir_core.specs.declared.operands.Atom.TheVariants.{Constant, Register}
use Rattle.ir_core.specs.declared.operands.Operand.{Operand}
use Rattle.ir_types.specs.declared.names.Name.{Name}
use Rattle.ir_types.specs.declared.ty.Ty.{Ty}
use Rattle.ir_types.specs.declared.ty.Ty.TheVariants as ty
use Rattle.ir_core.specs.Expressions.{map_expr, map_operand}
use Rattle.ir_core.specs.Functions.{edges_into, names_of, operands_in_block, successors_of, typed_of}
use Rattle.ir_core.specs.Order.{AreNew}
use Rattle.ir_core.specs.Types.{is_first_class, number_at}
use Rattle.ir_core.specs.Typing.{are_arguments, element_type, index_of}
use Rattle.ir_core.specs.WellFormed.{AreCasesOf, BranchesOn, FitsEdges, HasBlockShape, HasCases, HasFunctionShape, HasType, IsLine, IsNamedResult, IsOperator, IsTypeKnown, Returns, argument_types}
use Rattle.ir_rename.specs.Laws.{RenamedHaveShape}
use Rattle.ir_rename.specs.Renamed.{IsInjectiveOn, rename_argument, rename_block, rename_call, rename_case, rename_entry, rename_function, rename_line, rename_phi, rename_term}
use Rattle.ir_rename.proofs.Apart.{apart_from_new, are_new}
use Rattle.ir_rename.proofs.Beside.{function, renamed_alike}
use Rattle.ir_rename.proofs.Lists.{all_from, all_to, here}
use Rattle.ir_rename.proofs.Renames.{names_renamed}
use Rattle.ir_rename.proofs.Shaped.{all_operands, all_types, all_under, apart_mapped, block_in, edges, from_in, from_mapped, in_mapped, knows_labels, successors, twice, typed, typed_operand}
use Rattle.ir_rename.proofs.Stated.{types_stay}

-- ---- a phi

same_length : {A B : Type 0} (h : A → B) (xs : List A) → 0 < length xs → 0 < length (map h xs)
same_length h [] some = some
same_length h (x ∷ xs) some = omega arith

fits : (m : Module) (ρ : Name → Name) (f : Function) → IsInjectiveOn (names_of f) ρ → HasFunctionShape m f → (b : Block) → Contains f.blocks b → (p : Phi) → FitsEdges f b p → FitsEdges (rename_function ρ f) (rename_block ρ b) (rename_phi ρ p)
fits m ρ f one shape b there p fit = record {
  some = same_length (rename_entry ρ) p.entries fit.some;
  edges =
      subst (λ (xs : List Name). IsPermutation xs (map (λ (e : Entry). e.from) (map (rename_entry ρ) p.entries)))
      (sym (edges ρ f one (knows_labels m f shape) b.name (block_in f b there)))
      (subst (λ (ys : List Name). IsPermutation (map ρ (edges_into f b.name)) ys)
      (twice ρ (λ (e : Entry). e.from) (λ (e : Entry). ρ e.from) (λ e. refl) p.entries ∙ sym (twice (λ (e : Entry). e.from) (rename_entry ρ) (λ (e : Entry). ρ e.from) (λ e. refl) p.entries))
      (IsPermutation-map ρ (edges_into f b.name) (map (λ (e : Entry). e.from) p.entries) fit.edges));
  alike =
      λ d e in_d in_e same.
      let x = from_mapped (rename_entry ρ) p.entries d in_d in
      let y = from_mapped (rename_entry ρ) p.entries e in_e in
      let froms : ρ x.0.from ≡ ρ y.0.from = ap (λ (z : Entry). z.from) x.2 ∙ same ∙ sym (ap (λ (z : Entry). z.from) y.2) in
      let one_from = one x.0.from y.0.from (from_in f b p fit x.0 x.1) (from_in f b p fit y.0 y.1) froms in
      sym x.2 ∙ ap (rename_entry ρ) (fit.alike x.0 y.0 x.1 y.1 one_from) ∙ y.2;
}

-- ---- lines and terminators

index_stays : (ρ : Name → Name) (o : Operand Name) → index_of (map_operand ρ o) ≡ index_of o
index_stays ρ o = by o.ty o.atom
  where
    by : (t : Ty) (a : Atom Name) → index_of (map_operand ρ (record { ty = t; atom = a })) ≡ index_of (record { ty = t; atom = a })
    by t (Constant c) = refl
    by t (Register r) = refl

operator : (m : Module) (ρ : Name → Name) (e : Expr Name) → IsOperator m e → IsOperator m (map_expr ρ e)
operator m ρ (expr.Plain o) is = is
operator m ρ (expr.Binary b) is = is
operator m ρ (expr.Icmp c) is = is
operator m ρ (expr.Cast c) is = is
operator m ρ (expr.Select s) is = is
operator m ρ (expr.Element e) is = (
  is.0,
  is.1,
  ap (element_type m.types e.of) (twice index_of (map_operand ρ) index_of (index_stays ρ) e.indices) ∙ is.2,
)
operator m ρ (expr.Load l) is = is

named_result : (ρ : Name → Name) (t : Ty) (name : Option Name) → IsNamedResult t name → IsNamedResult t (option_map ρ name)
named_result ρ ty.Void name is = ap (option_map ρ) is
named_result ρ t name is = (is.0, (ρ is.1.0, ap (option_map ρ) is.1.1))

argument_types_stay : (ρ : Name → Name) (c : Call) → argument_types (rename_call ρ c) ≡ argument_types c
argument_types_stay ρ c =
    twice (λ (a : Argument). a.operand.ty) (rename_argument ρ) (λ (a : Argument). a.operand.ty) (λ a. refl) c.arguments

-- each line, whichever it is
line : (m : Module) (ρ : Name → Name) (l : Instr) → IsLine m l → IsLine m (rename_line ρ l)
line m ρ (instr.Calm c) is = operator m ρ c.right is
line m ρ (instr.Alloca a) is = is
line m ρ (instr.Store s) is = is
line m ρ (instr.Call c) is = record {
  signature = is.signature;
  callee = is.callee;
  result = is.result;
  arguments = ap (are_arguments is.signature.variadic is.signature.params) (argument_types_stay ρ c) ∙ is.arguments;
  named = named_result ρ c.result c.name is.named;
}

returns : (ρ : Name → Name) (result : Ty) (t : Term) → Returns result t → Returns result (rename_term ρ t)
returns ρ result (term.Ret operand) is = is
returns ρ result term.RetVoid is = is
returns ρ result (term.Br label) is = is
returns ρ result (term.CondBr c) is = is
returns ρ result (term.Switch s) is = is
returns ρ result term.Unreachable is = is

branches : (ρ : Name → Name) (t : Term) → BranchesOn t → BranchesOn (rename_term ρ t)
branches ρ (term.Ret operand) is = is
branches ρ term.RetVoid is = is
branches ρ (term.Br label) is = is
branches ρ (term.CondBr c) is = is
branches ρ (term.Switch s) is = is
branches ρ term.Unreachable is = is

cases_of_type : (ρ : Name → Name) (value : Ty) (cs : List Case) → AreCasesOf value cs → AreCasesOf value (map (rename_case ρ) cs)
cases_of_type ρ value cs are = record {
  typed = all_under (λ (c : Case). c.ty ≡ value) (λ (c : Case). c.ty ≡ value) (rename_case ρ) (λ c is. is) cs are.typed;
  apart =
      subst (AreNew [])
      (sym (twice (λ (c : Case). number_at value c.number) (rename_case ρ) (λ (c : Case). number_at value c.number) (λ c. refl) cs)) are.apart;
}

has_cases : (ρ : Name → Name) (t : Term) → HasCases t → HasCases (rename_term ρ t)
has_cases ρ (term.Ret operand) has = has
has_cases ρ term.RetVoid has = has
has_cases ρ (term.Br label) has = has
has_cases ρ (term.CondBr c) has = has
has_cases ρ (term.Switch s) has = cases_of_type ρ s.value.ty s.cases has
has_cases ρ term.Unreachable has = has

-- ---- blocks and the function

labels : (ρ : Name → Name) (f : Function) (b : Block) → AllByRecursion (Contains (map (λ (c : Block). c.name) f.blocks)) (successors_of b.term)
    → AllByRecursion (Contains (map (λ (c : Block). c.name) (map (rename_block ρ) f.blocks))) (successors_of (rename_term ρ b.term))
labels ρ f b known =
    let names = twice (λ (c : Block). c.name) (rename_block ρ) (λ (c : Block). ρ c.name) (λ c. refl) f.blocks in
    let own = twice ρ (λ (c : Block). c.name) (λ (c : Block). ρ c.name) (λ c. refl) f.blocks in
    subst (AllByRecursion (Contains (map (λ (c : Block). c.name) (map (rename_block ρ) f.blocks)))) (sym (successors ρ b.term))
    (all_under (Contains (map (λ (c : Block). c.name) f.blocks)) (Contains (map (λ (c : Block). c.name) (map (rename_block ρ) f.blocks))) ρ
    (λ s there. subst (λ ns. Contains ns (ρ s)) (own ∙ sym names) (in_mapped ρ (map (λ (c : Block). c.name) f.blocks) s there)) (successors_of b.term) known)

block_shape : (m : Module) (ρ : Name → Name) (f : Function) → IsInjectiveOn (names_of f) ρ → HasFunctionShape m f → (b : Block) → Contains f.blocks b → HasBlockShape m f b → HasBlockShape m (rename_function ρ f) (rename_block ρ b)
block_shape m ρ f one shape b there has = record {
  phis = all_under (FitsEdges f b) (FitsEdges (rename_function ρ f) (rename_block ρ b)) (rename_phi ρ) (λ p fit. fits m ρ f one shape b there p fit) b.phis has.phis;
  lines = all_under (IsLine m) (IsLine m) (rename_line ρ) (line m ρ) b.body has.lines;
  labels = labels ρ f b has.labels;
  branches = branches ρ b.term has.branches;
  returns = returns ρ f.result b.term has.returns;
  cases = has_cases ρ b.term has.cases;
}

of_renamed : (m : Module) (ρ : Name → Name) (f : Function) → IsInjectiveOn (names_of f) ρ → HasFunctionShape m f → HasFunctionShape m (rename_function ρ f)
of_renamed m ρ f one shape =
    let first_there : Contains f.blocks shape.first = subst (λ bs. Contains bs shape.first) (sym shape.blocks) (here shape.first shape.further) in
    record {
      first = rename_block ρ shape.first;
      further = map (rename_block ρ) shape.further;
      blocks = ap (map (rename_block ρ)) shape.blocks;
      not_entered = edges ρ f one (knows_labels m f shape) shape.first.name (block_in f shape.first first_there) ∙ ap (map ρ) shape.not_entered;
      name = shape.name;
      names =
          subst (AreNew []) (sym (names_renamed ρ f))
          (are_new (map ρ (names_of f)) (apart_mapped ρ (names_of f) one (apart_from_new [] (names_of f) shape.names)));
      types = subst (AllByRecursion (IsTypeKnown m)) (sym (types_stay ρ f)) shape.types;
      result = shape.result;
      registers =
          subst (AllByRecursion (λ (r : Name × Ty). is_first_class r.1 ≡ true)) (sym (all_types ρ f))
          (all_under (λ (r : Name × Ty). is_first_class r.1 ≡ true) (λ (r : Name × Ty). is_first_class r.1 ≡ true) (typed ρ) (λ r is. is) (typed_of f) shape.registers);
      operands =
          subst (AllByRecursion (λ (o : Operand Name). HasType m (typed_of (rename_function ρ f)) o.ty o.atom)) (sym (all_operands ρ f))
          (all_under (λ (o : Operand Name). HasType m (typed_of f) o.ty o.atom) (λ (o : Operand Name). HasType m (typed_of (rename_function ρ f)) o.ty o.atom) (map_operand ρ)
          (λ o has. subst (λ rs. HasType m rs o.ty (map_operand ρ o).atom) (sym (all_types ρ f)) (typed_operand m ρ (typed_of f) o.ty o.atom has)) (flat_map operands_in_block f.blocks) shape.operands);
      each =
          all_under (λ (b : Block). Contains f.blocks b × HasBlockShape m f b) (HasBlockShape m (rename_function ρ f)) (rename_block ρ)
          (λ b both. block_shape m ρ f one shape b both.0 both.1) f.blocks
          (all_from (λ (b : Block). Contains f.blocks b × HasBlockShape m f b) f.blocks (λ b there. (there, all_to (HasBlockShape m f) f.blocks shape.each b there)));
    }

pub keeps_shape : RenamedHaveShape
keeps_shape m n ρ f g beside is shape =
    function m n (renamed_alike m n beside) g (subst (HasFunctionShape m) (sym is.same) (of_renamed m ρ f is.injective shape))
