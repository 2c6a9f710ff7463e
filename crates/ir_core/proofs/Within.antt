-- Such a module passes no limit: none of its parts is deep, and it wants no memory.
use Rattle.std.proofs.Common.{◌≡◌, ◌≤◌, ◌++◌, ℕ, true, List, [], ◌∷◌, map, Option, None, Some, Err, refl, sym, ap, subst, arith}
use Rattle.std.specs.List.{AllByRecursion, flat_map}
use Rattle.ir_types.specs.declared.named.NamedTy.{NamedTy}
use Rattle.ir_types.specs.declared.names.Name.{Name}
use Rattle.ir_types.specs.declared.ty.Ty.{Ty, Int, Void}
use Rattle.ir_types.specs.declared.sizes.SizeFault.TheVariants.{TooLarge}
use Rattle.ir_types.specs.Named.{block_of, fields_or_none}
use Rattle.ir_types.proofs.Induction as types
use Rattle.ir_core.specs.declared.expressions.Expr.{Expr}
use Rattle.ir_core.specs.declared.expressions.Expr.TheVariants as expr
use Rattle.ir_core.specs.declared.functions.Block.{Block}
use Rattle.ir_core.specs.declared.functions.Case.{Case}
use Rattle.ir_core.specs.declared.functions.Function.{Function}
use Rattle.ir_core.specs.declared.functions.Instr.{Instr}
use Rattle.ir_core.specs.declared.functions.Instr.TheVariants as instr
use Rattle.ir_core.specs.declared.functions.Param.{Param}
use Rattle.ir_core.specs.declared.functions.Phi.{Phi}
use Rattle.ir_core.specs.declared.modules.Declaration.{Declaration}
use Rattle.ir_core.specs.declared.modules.GlobalVar.{GlobalVar}
use Rattle.ir_core.specs.declared.modules.Module.{Module}
use Rattle.ir_core.specs.declared.operands.Atom.{Atom}
use Rattle.ir_core.specs.declared.operands.Atom.TheVariants.{Constant, Register}
use Rattle.ir_core.specs.declared.operands.Const.{Const, Number, Undef}
use Rattle.ir_core.specs.declared.operands.Operand.{Operand}
use Rattle.ir_core.specs.Depths.{AreShallow, IsShallow, deepest, depth_at_level, depth_at_part, depth_of, depth_of_atom, depth_of_constant, depth_of_operand, depths_at_line, depths_at_phi, depths_in_block, depths_in_declaration, depths_in_fields, depths_in_function, depths_in_global, depths_in_named}
use Rattle.ir_core.specs.Expressions.{operands_in, type_of}
use Rattle.ir_core.specs.Functions.{cases_of, line_count, operands_at_end, operands_in_block, operands_of, operands_of_phi, params_of, phi_registers, registers_of, set_by}
use Rattle.ir_core.specs.Limits.{depth_limit, line_limit}
use Rattle.ir_core.proofs.Narrow.{AreNarrowFlags, IsNarrowAtom, IsNarrowCase, IsNarrowFunction, IsNarrow, IsNarrowLine, IsNarrowNamedType, IsNarrowOperand, IsNarrowResult, IsNarrowType, wide}
use Rattle.ir_core.specs.Sizes.{AreSmall, Blocks, IsSmall, Wanted, wanted_apart, wanted_at_level, wanted_by_atom, wanted_by_constant, wanted_by_global, wanted_by_line, wanted_by_operands, wanted_in_block, wanted_in_function}
use Rattle.ir_core.specs.StatedTypes.{stated_apart}
use Rattle.ir_core.specs.Types.{constant_fits}
use Rattle.ir_core.specs.WellFormed.{HasShape, IsDefined, IsWellFormed}
use Rattle.ir_core.proofs.Constants as constants

abbrev wanted_by_phi : List NamedTy → Phi → Blocks
wanted_by_phi types p = wanted_by_operands types (operands_of_phi p)

module _ {A : Type 0} (P : A → Type 0) where
  pub all_joined : (xs ys : List A) → AllByRecursion P xs → AllByRecursion P ys → AllByRecursion P (xs ++ ys)
  all_joined [] ys this that = that
  all_joined (x ∷ xs) ys this that = (this.0, all_joined xs ys this.1 that)

  all_left : (xs ys : List A) → AllByRecursion P (xs ++ ys) → AllByRecursion P xs
  all_left [] ys all = tt
  all_left (x ∷ xs) ys all = (all.0, all_left xs ys all.1)

  all_right : (xs ys : List A) → AllByRecursion P (xs ++ ys) → AllByRecursion P ys
  all_right [] ys all = all
  all_right (x ∷ xs) ys all = all_right xs ys all.1

abbrev IsLow : ℕ → Type 0
IsLow d = d ≤ depth_limit

low_by : (d : ℕ) → d ≡ 1 → IsLow d
low_by d e = omega arith

-- a register with its type, which is in range
abbrev IsTyped : Name × Ty → Type 0
IsTyped register = IsNarrowType register.1

-- ---- types

type_one : (t : Ty) → IsNarrowType t → depth_of t ≡ 1
type_one (Int width) range = types.at_int ℕ depth_at_level width
type_one t range = absurd range

type_low : (t : Ty) → IsNarrowType t → IsLow (depth_of t)
type_low t range = low_by (depth_of t) (type_one t range)

result_low : (t : Ty) → IsNarrowResult t → IsLow (depth_of t)
result_low Void range = low_by (depth_of Void) (types.at_void ℕ depth_at_level)
result_low (Int width) range = type_low (Int width) range
result_low t range = absurd range

deepest_one : (ts : List Ty) → AllByRecursion IsNarrowType ts → deepest (map depth_of ts) ≤ 1
deepest_one [] range = omega arith
deepest_one (t ∷ ts) range = omega (arith, type_one t range.0, deepest_one ts range.1)

fields_low : (fields : Option (List Ty)) → AllByRecursion IsNarrowType (fields_or_none fields) → AreShallow (depths_in_fields fields)
fields_low None range = tt
fields_low (Some ts) range = (omega (arith, deepest_one ts range), tt)

named_low : (ts : List NamedTy) → AllByRecursion IsNarrowNamedType ts → AreShallow (flat_map depths_in_named ts)
named_low [] range = tt
named_low (t ∷ ts) range =
    all_joined IsLow (depths_in_named t) (flat_map depths_in_named ts) (fields_low t.fields range.0.fields) (named_low ts range.1)

-- ---- operands

constant_one : (t : Ty) (c : Const) → constant_fits t c ≡ true → depth_of_constant c ≡ 1
constant_one t (Number n) fits = constants.at_number ℕ depth_at_part n
constant_one t Undef fits = constants.at_undef ℕ depth_at_part
constant_one (Int width) c fits = absurd cc
constant_one t c fits = absurd cc

atom_one : {R : Type 0} (t : Ty) (a : Atom R) → IsNarrowAtom t a → depth_of_atom a ≡ 1
atom_one t (Constant c) range = constant_one t c range
atom_one t (Register r) range = refl

operands_low : {R : Type 0} (os : List (Operand R)) → AllByRecursion (λ o. IsNarrowOperand o) os → AreShallow (map (λ o. depth_of_operand o) os)
operands_low [] range = tt
operands_low (o ∷ os) range = (omega (arith, type_one o.ty range.0.0, atom_one o.ty o.atom range.0.1), operands_low os range.1)

module _ (types : List NamedTy) where
  constant_none : (t : Ty) (c : Const) → constant_fits t c ≡ true → wanted_by_constant types c ≡ []
  constant_none t (Number n) fits = ap (λ (w : Wanted). w.blocks) (constants.at_number Wanted (wanted_at_level types) n)
  constant_none t Undef fits = ap (λ (w : Wanted). w.blocks) (constants.at_undef Wanted (wanted_at_level types))
  constant_none (Int width) c fits = absurd cc
  constant_none t c fits = absurd cc

  atom_small : {R : Type 0} (t : Ty) (a : Atom R) → IsNarrowAtom t a → AreSmall types (wanted_by_atom types a)
  atom_small t (Constant c) range = subst (AreSmall types) (sym (constant_none t c range)) tt
  atom_small t (Register r) range = tt

  abbrev pub IsSmallBlock : Ty × ℕ → Type 0
  IsSmallBlock b = block_of types b.0 b.1 ≡ Err TooLarge → ⊥

  operands_small : {R : Type 0} (os : List (Operand R)) → AllByRecursion (λ o. IsNarrowOperand o) os → AreSmall types (wanted_by_operands types os)
  operands_small [] range = tt
  operands_small (o ∷ os) range =
      all_joined IsSmallBlock (wanted_by_atom types o.atom) (wanted_by_operands types os) (atom_small o.ty o.atom range.0.1) (operands_small os range.1)

-- ---- lines

apart_low : {R : Type 0} (e : Expr R) → AreNarrowFlags e → IsNarrowType (type_of e) → AreShallow (map depth_of (stated_apart e))
apart_low (expr.Plain o) flags typed = tt
apart_low (expr.Binary b) flags typed = tt
apart_low (expr.Icmp c) flags typed = tt
apart_low (expr.Cast c) flags typed = (type_low c.to typed, tt)
apart_low (expr.Select s) flags typed = tt
apart_low (expr.Element e) flags typed = absurd flags
apart_low (expr.Load l) flags typed = absurd flags

apart_none : {R : Type 0} (types : List NamedTy) (e : Expr R) → AreNarrowFlags e → wanted_apart types e ≡ []
apart_none types (expr.Plain o) flags = refl
apart_none types (expr.Binary b) flags = refl
apart_none types (expr.Icmp c) flags = refl
apart_none types (expr.Cast c) flags = refl
apart_none types (expr.Select s) flags = refl
apart_none types (expr.Element e) flags = absurd flags
apart_none types (expr.Load l) flags = absurd flags

lines_low : (ls : List Instr) → AllByRecursion IsNarrowLine ls → AllByRecursion (λ o. IsNarrowOperand o) (flat_map operands_of ls)
    → AllByRecursion IsTyped (set_by ls) → AreShallow (flat_map depths_at_line ls)
lines_low [] range operands typed = tt
lines_low (instr.Calm c ∷ ls) range operands typed =
    all_joined IsLow (depths_at_line (instr.Calm c)) (flat_map depths_at_line ls)
    (all_joined IsLow (map depth_of (stated_apart c.right)) (map (λ o. depth_of_operand o) (operands_in c.right))
    (apart_low c.right range.0 typed.0)
    (operands_low (operands_in c.right) (all_left (λ o. IsNarrowOperand o) (operands_in c.right) (flat_map operands_of ls) operands)))
    (lines_low ls range.1 (all_right (λ o. IsNarrowOperand o) (operands_in c.right) (flat_map operands_of ls) operands) typed.1)
lines_low (l ∷ ls) range operands typed = absurd range.0

module _ (types : List NamedTy) where
  lines_small : (ls : List Instr) → AllByRecursion IsNarrowLine ls → AllByRecursion (λ o. IsNarrowOperand o) (flat_map operands_of ls)
      → AreSmall types (flat_map (wanted_by_line types) ls)
  lines_small [] range operands = tt
  lines_small (instr.Calm c ∷ ls) range operands =
      all_joined (IsSmallBlock types) (wanted_by_line types (instr.Calm c)) (flat_map (wanted_by_line types) ls)
      (subst (λ (bs : Blocks). AreSmall types (bs ++ wanted_by_operands types (operands_in c.right))) (sym (apart_none types c.right range.0))
      (operands_small types (operands_in c.right) (all_left (λ o. IsNarrowOperand o) (operands_in c.right) (flat_map operands_of ls) operands)))
      (lines_small ls range.1 (all_right (λ o. IsNarrowOperand o) (operands_in c.right) (flat_map operands_of ls) operands))
  lines_small (l ∷ ls) range operands = absurd range.0

  phis_small : (ps : List Phi) → AllByRecursion (λ o. IsNarrowOperand o) (flat_map operands_of_phi ps) → AreSmall types (flat_map (wanted_by_phi types) ps)
  phis_small [] operands = tt
  phis_small (p ∷ ps) operands =
      all_joined (IsSmallBlock types) (wanted_by_phi types p) (flat_map (wanted_by_phi types) ps)
      (operands_small types (operands_of_phi p) (all_left (λ o. IsNarrowOperand o) (operands_of_phi p) (flat_map operands_of_phi ps) operands))
      (phis_small ps (all_right (λ o. IsNarrowOperand o) (operands_of_phi p) (flat_map operands_of_phi ps) operands))

phis_low : (ps : List Phi) → AllByRecursion IsTyped (phi_registers ps) → AllByRecursion (λ o. IsNarrowOperand o) (flat_map operands_of_phi ps)
    → AreShallow (flat_map depths_at_phi ps)
phis_low [] typed operands = tt
phis_low (p ∷ ps) typed operands =
    all_joined IsLow (depths_at_phi p) (flat_map depths_at_phi ps)
    (type_low p.ty typed.0, operands_low (operands_of_phi p) (all_left (λ o. IsNarrowOperand o) (operands_of_phi p) (flat_map operands_of_phi ps) operands))
    (phis_low ps typed.1 (all_right (λ o. IsNarrowOperand o) (operands_of_phi p) (flat_map operands_of_phi ps) operands))

cases_low : (cs : List Case) → AllByRecursion IsNarrowCase cs → AreShallow (map (λ (c : Case). depth_of c.ty) cs)
cases_low [] range = tt
cases_low (c ∷ cs) range = (type_low c.ty range.0.0, cases_low cs range.1)

-- ---- blocks

-- what is asked of a block in range
pub record IsNarrowBlock (b : Block) : Type 0 where
  pub typed : AllByRecursion IsTyped (registers_of b)
  pub phis : AllByRecursion (λ o. IsNarrowOperand o) (flat_map operands_of_phi b.phis)
  pub operands : AllByRecursion (λ o. IsNarrowOperand o) (flat_map operands_of b.body)
  pub end : AllByRecursion (λ o. IsNarrowOperand o) (operands_at_end b.term)
  pub lines : AllByRecursion IsNarrowLine b.body
  pub cases : AllByRecursion IsNarrowCase (cases_of b.term)

block_in_range : (b : Block) → AllByRecursion IsTyped (registers_of b) → AllByRecursion (λ o. IsNarrowOperand o) (operands_in_block b)
    → AllByRecursion IsNarrowLine b.body → AllByRecursion IsNarrowCase (cases_of b.term) → IsNarrowBlock b
block_in_range b typed operands lines cases =
    let phis : List (Operand Name) = flat_map operands_of_phi b.phis in
    let body : List (Operand Name) = flat_map operands_of b.body in
    let behind = all_right (λ o. IsNarrowOperand o) phis (body ++ operands_at_end b.term) operands in
    record {
      typed = typed;
      phis = all_left (λ o. IsNarrowOperand o) phis (body ++ operands_at_end b.term) operands;
      operands = all_left (λ o. IsNarrowOperand o) body (operands_at_end b.term) behind;
      end = all_right (λ o. IsNarrowOperand o) body (operands_at_end b.term) behind;
      lines = lines;
      cases = cases;
    }

blocks_in_range : (bs : List Block) → AllByRecursion IsTyped (flat_map registers_of bs) → AllByRecursion (λ o. IsNarrowOperand o) (flat_map operands_in_block bs)
    → AllByRecursion IsNarrowLine (flat_map (λ (b : Block). b.body) bs) → AllByRecursion IsNarrowCase (flat_map (λ (b : Block). cases_of b.term) bs)
    → AllByRecursion IsNarrowBlock bs
blocks_in_range [] typed operands lines cases = tt
blocks_in_range (b ∷ bs) typed operands lines cases = (
  block_in_range b
      (all_left IsTyped (registers_of b) (flat_map registers_of bs) typed)
      (all_left (λ o. IsNarrowOperand o) (operands_in_block b) (flat_map operands_in_block bs) operands)
      (all_left IsNarrowLine b.body (flat_map (λ (b : Block). b.body) bs) lines)
      (all_left IsNarrowCase (cases_of b.term) (flat_map (λ (b : Block). cases_of b.term) bs) cases),
  blocks_in_range bs
      (all_right IsTyped (registers_of b) (flat_map registers_of bs) typed)
      (all_right (λ o. IsNarrowOperand o) (operands_in_block b) (flat_map operands_in_block bs) operands)
      (all_right IsNarrowLine b.body (flat_map (λ (b : Block). b.body) bs) lines)
      (all_right IsNarrowCase (cases_of b.term) (flat_map (λ (b : Block). cases_of b.term) bs) cases),
)

block_low : (b : Block) → IsNarrowBlock b → AreShallow (depths_in_block b)
block_low b range =
    let phis = flat_map depths_at_phi b.phis in
    let lines = flat_map depths_at_line b.body in
    let operands = map (λ o. depth_of_operand o) (operands_at_end b.term) in
    let cases = map (λ (c : Case). depth_of c.ty) (cases_of b.term) in
    all_joined IsLow phis (lines ++ (operands ++ cases))
    (phis_low b.phis (all_left IsTyped (phi_registers b.phis) (set_by b.body) range.typed) range.phis)
    (all_joined IsLow lines (operands ++ cases)
    (lines_low b.body range.lines range.operands (all_right IsTyped (phi_registers b.phis) (set_by b.body) range.typed))
    (all_joined IsLow operands cases (operands_low (operands_at_end b.term) range.end) (cases_low (cases_of b.term) range.cases)))

blocks_low : (bs : List Block) → AllByRecursion IsNarrowBlock bs → AreShallow (flat_map depths_in_block bs)
blocks_low [] range = tt
blocks_low (b ∷ bs) range =
    all_joined IsLow (depths_in_block b) (flat_map depths_in_block bs) (block_low b range.0) (blocks_low bs range.1)

module _ (types : List NamedTy) where
  block_small : (b : Block) → IsNarrowBlock b → AreSmall types (wanted_in_block types b)
  block_small b range =
      let phis : Blocks = flat_map (wanted_by_phi types) b.phis in
      let lines : Blocks = flat_map (wanted_by_line types) b.body in
      let operands : Blocks = wanted_by_operands types (operands_at_end b.term) in
      all_joined (IsSmallBlock types) phis (lines ++ operands) (phis_small types b.phis range.phis)
      (all_joined (IsSmallBlock types) lines operands (lines_small types b.body range.lines range.operands)
      (operands_small types (operands_at_end b.term) range.end))

  pub blocks_small : (bs : List Block) → AllByRecursion IsNarrowBlock bs → AreSmall types (flat_map (wanted_in_block types) bs)
  blocks_small [] range = tt
  blocks_small (b ∷ bs) range =
      all_joined (IsSmallBlock types) (wanted_in_block types b) (flat_map (wanted_in_block types) bs) (block_small b range.0) (blocks_small bs range.1)

-- ---- functions

params_low : (ps : List Param) → AllByRecursion IsTyped (map (λ (p : Param). (p.name, p.ty)) ps) → AreShallow (map (λ (p : Param). depth_of p.ty) ps)
params_low [] typed = tt
params_low (p ∷ ps) typed = (type_low p.ty typed.0, params_low ps typed.1)

function_blocks : (f : Function) → IsNarrowFunction f → AllByRecursion IsNarrowBlock f.blocks
function_blocks f range =
    blocks_in_range f.blocks (all_right IsTyped (params_of f) (flat_map registers_of f.blocks) range.registers) range.operands range.flags range.cases

function_low : (f : Function) → IsNarrowFunction f → AreShallow (depths_in_function f)
function_low f range = (
  result_low f.result range.result,
  all_joined IsLow (map (λ (p : Param). depth_of p.ty) f.params) (flat_map depths_in_block f.blocks)
      (params_low f.params (all_left IsTyped (params_of f) (flat_map registers_of f.blocks) range.registers))
      (blocks_low f.blocks (function_blocks f range)),
)

functions_low : (fs : List Function) → AllByRecursion IsNarrowFunction fs → AreShallow (flat_map depths_in_function fs)
functions_low [] range = tt
functions_low (f ∷ fs) range =
    all_joined IsLow (depths_in_function f) (flat_map depths_in_function fs) (function_low f range.0) (functions_low fs range.1)

functions_small : (types : List NamedTy) (fs : List Function) → AllByRecursion IsNarrowFunction fs → AreSmall types (flat_map (wanted_in_function types) fs)
functions_small types [] range = tt
functions_small types (f ∷ fs) range =
    all_joined (IsSmallBlock types) (wanted_in_function types f) (flat_map (wanted_in_function types) fs)
    (blocks_small types f.blocks (function_blocks f range.0)) (functions_small types fs range.1)

-- ---- modules

globals_low : (gs : List GlobalVar) → gs ≡ [] → AreShallow (flat_map depths_in_global gs)
globals_low [] none = tt
globals_low (g ∷ gs) none = absurd cc

globals_small : (types : List NamedTy) (gs : List GlobalVar) → gs ≡ [] → AreSmall types (flat_map (wanted_by_global types) gs)
globals_small types [] none = tt
globals_small types (g ∷ gs) none = absurd cc

declarations_low : (ds : List Declaration) → ds ≡ [] → AreShallow (flat_map depths_in_declaration ds)
declarations_low [] none = tt
declarations_low (d ∷ ds) none = absurd cc

pub shallow : (m : Module) → IsNarrow m → IsShallow m
shallow m range =
    let named = flat_map depths_in_named m.types in
    let globals = flat_map depths_in_global m.globals in
    let functions = flat_map depths_in_function m.functions in
    let declarations = flat_map depths_in_declaration m.declarations in
    all_joined IsLow named (globals ++ (functions ++ declarations)) (named_low m.types range.types)
    (all_joined IsLow globals (functions ++ declarations) (globals_low m.globals range.globals)
    (all_joined IsLow functions declarations (functions_low m.functions range.functions) (declarations_low m.declarations range.declarations)))

pub small : (m : Module) → IsNarrow m → IsSmall m
small m range =
    all_joined (IsSmallBlock m.types) (flat_map (wanted_by_global m.types) m.globals) (flat_map (wanted_in_function m.types) m.functions)
    (globals_small m.types m.globals range.globals) (functions_small m.types m.functions range.functions)

-- what has shape and definedness is well-formed, where it is narrow and its functions are short
pub well_formed : (m : Module) → HasShape m → IsDefined m → IsNarrow m → AllByRecursion (λ (f : Function). line_count f ≤ line_limit) m.functions → IsWellFormed m
well_formed m shape defined narrow lines = record {
  shape = shape;
  defined = defined;
  range = wide m narrow;
  depths = shallow m narrow;
  lines = lines;
  blocks = small m narrow;
}
