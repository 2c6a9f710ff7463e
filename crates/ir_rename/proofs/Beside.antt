-- What is asked of a module beside its functions, globals and declarations depends on its types, its globals and its functions' signatures
-- alone. A module whose functions are renamed has these.
use Rattle.std.proofs.Common.{◌≡◌, ◌∙◌, true, false, List, [], ◌∷◌, ◌++◌, map, Option, None, Some, refl, sym, ap, subst}
use Rattle.std.specs.List.{AllByRecursion, AllZip, Contains, flat_map}
use Rattle.ir_core.specs.declared.expressions.Expr.{Expr}
use Rattle.ir_core.specs.declared.expressions.Expr.TheVariants as expr
use Rattle.ir_core.specs.declared.functions.Block.{Block}
use Rattle.ir_core.specs.declared.functions.Function.{Function}
use Rattle.ir_core.specs.declared.functions.Instr.{Instr}
use Rattle.ir_core.specs.declared.functions.Instr.TheVariants as instr
use Rattle.ir_core.specs.declared.modules.Declaration.{Declaration}
use Rattle.ir_core.specs.declared.modules.DeclaredParam.{DeclaredParam}
use Rattle.ir_core.specs.declared.modules.GlobalVar.{GlobalVar}
use Rattle.ir_core.specs.declared.modules.Init.{Init}
use Rattle.ir_core.specs.declared.modules.Module.{Module}
use Rattle.ir_core.specs.declared.operands.Atom.{Atom}
use Rattle.ir_core.specs.declared.operands.Atom.TheVariants.{Constant, Register}
use Rattle.ir_core.specs.declared.operands.Operand.{Operand}
use Rattle.ir_types.specs.Named.{is_sized}
use Rattle.ir_types.specs.declared.named.NamedTy.{NamedTy}
use Rattle.ir_types.specs.declared.names.Name.{Name}
use Rattle.ir_types.specs.declared.ty.Ty.{Ty}
use Rattle.ir_core.specs.Functions.{operands_in_block, typed_of}
use Rattle.ir_core.specs.StatedTypes.{types_in, types_in_global}
use Rattle.ir_core.specs.Typing.{Signature, declared_signature, defined_signature, element_type, index_of, is_constant_of, is_init_of, signatures_of}
use Rattle.ir_core.specs.WellFormed.{HasBlockShape, HasDeclaredShape, HasFunctionShape, HasGlobalShape, HasInit, HasType, IsLine, IsOperator, IsTypeKnown}
use Rattle.ir_rename.specs.Renamed.{AreRenamed, IsRenamed, rename_function}
use Rattle.ir_rename.proofs.Stated.{param_types_stay}

-- a module of these types and globals alone
abbrev bare : List NamedTy → List GlobalVar → Module
bare types globals = record { types = types; globals = globals; functions = []; declarations = [] }

-- what is asked of both beside a part is one
pub record AreAlike (m n : Module) : Type 0 where
  pub parts : bare n.types n.globals ≡ bare m.types m.globals
  pub signatures : signatures_of n ≡ signatures_of m

each : {A : Type 0} (P Q : A → Type 0) → ((x : A) → P x → Q x) → (xs : List A) → AllByRecursion P xs → AllByRecursion Q xs
each P Q step [] all = tt
each P Q step (x ∷ xs) all = (step x all.0, each P Q step xs all.1)

module _ (m n : Module) (alike : AreAlike m n) where
  known : (t : Ty) → IsTypeKnown m t → IsTypeKnown n t
  known t is = subst (λ (k : Module). IsTypeKnown k t) (sym alike.parts) is

  all_known : (ts : List Ty) → AllByRecursion (IsTypeKnown m) ts → AllByRecursion (IsTypeKnown n) ts
  all_known = each (IsTypeKnown m) (IsTypeKnown n) known

  sized : (t : Ty) → is_sized m.types t ≡ true → is_sized n.types t ≡ true
  sized t is = subst (λ (k : Module). is_sized k.types t ≡ true) (sym alike.parts) is

  -- ---- functions

  operator : (e : Expr Name) → IsOperator m e → IsOperator n e
  operator (expr.Plain o) is = is
  operator (expr.Binary b) is = is
  operator (expr.Icmp c) is = is
  operator (expr.Cast c) is = is
  operator (expr.Select s) is = is
  operator (expr.Element e) is = (
    is.0,
    sized e.of is.1,
    subst (λ (k : Module). element_type k.types e.of (map index_of e.indices) ≡ Some e.to) (sym alike.parts) is.2,
  )
  operator (expr.Load l) is = is

  line : (l : Instr) → IsLine m l → IsLine n l
  line (instr.Calm c) is = operator c.right is
  line (instr.Alloca a) is = (is.0, sized a.of is.1, is.2)
  line (instr.Store s) is = is
  line (instr.Call c) is = record {
    signature = is.signature;
    callee = subst (λ (ss : List (Name × Signature)). Contains ss (c.callee, is.signature)) (sym alike.signatures) is.callee;
    result = is.result;
    arguments = is.arguments;
    named = is.named;
  }

  operand : (rs : List (Name × Ty)) (t : Ty) (a : Atom Name) → HasType m rs t a → HasType n rs t a
  operand rs t (Constant c) has = subst (λ (k : Module). is_constant_of k t c ≡ true) (sym alike.parts) has
  operand rs t (Register name) has = has

  block : (f : Function) (b : Block) → HasBlockShape m f b → HasBlockShape n f b
  block f b has = record {
    phis = has.phis;
    lines = each (IsLine m) (IsLine n) line b.body has.lines;
    labels = has.labels;
    branches = has.branches;
    returns = has.returns;
    cases = has.cases;
  }

  pub function : (f : Function) → HasFunctionShape m f → HasFunctionShape n f
  function f has = record {
    first = has.first;
    further = has.further;
    blocks = has.blocks;
    not_entered = has.not_entered;
    name = has.name;
    names = has.names;
    types = all_known (types_in f) has.types;
    result = has.result;
    registers = has.registers;
    operands =
        each (λ (o : Operand Name). HasType m (typed_of f) o.ty o.atom) (λ (o : Operand Name). HasType n (typed_of f) o.ty o.atom)
        (λ o typed. operand (typed_of f) o.ty o.atom typed) (flat_map operands_in_block f.blocks) has.operands;
    each = each (HasBlockShape m f) (HasBlockShape n f) (block f) f.blocks has.each;
  }

  -- ---- declarations and globals

  pub declared : (d : Declaration) → HasDeclaredShape m d → HasDeclaredShape n d
  declared d has = record {
    name = has.name;
    types = all_known (d.result ∷ map (λ (p : DeclaredParam). p.ty) d.params) has.types;
    result = has.result;
    params = has.params;
  }

  at_start : (t : Ty) (i : Option Init) → HasInit m t i → HasInit n t i
  at_start t None has = has
  at_start t (Some i) has = subst (λ (k : Module). is_init_of k t i ≡ true) (sym alike.parts) has

  pub global : (g : GlobalVar) → HasGlobalShape m g → HasGlobalShape n g
  global g has = record {
    types = all_known (types_in_global g) has.types;
    sized = sized g.ty has.sized;
    init = at_start g.ty g.init has.init;
  }

-- ---- under other names

abbrev signed : Function → Name × Signature
signed f = (f.name, defined_signature f)

signed_renamed : (ρ : Name → Name) (f : Function) → signed (rename_function ρ f) ≡ signed f
signed_renamed ρ f =
    ap (λ (ts : List Ty). (f.name, record { result = f.result; params = ts; variadic = false })) (param_types_stay ρ f.params)

all_signed : (fs gs : List Function) → AllZip (λ f g. (ρ : Name → Name) × IsRenamed ρ f g) fs gs → map signed gs ≡ map signed fs
all_signed [] [] are = refl
all_signed [] (g ∷ gs) are = absurd are
all_signed (f ∷ fs) [] are = absurd are
all_signed (f ∷ fs) (g ∷ gs) are =
    ap (λ (s : Name × Signature). s ∷ map signed gs) (ap signed are.0.1.same ∙ signed_renamed are.0.0 f)
    ∙ ap (λ (ss : List (Name × Signature)). signed f ∷ ss) (all_signed fs gs are.1)

pub renamed_alike : (m n : Module) → AreRenamed m n → AreAlike m n
renamed_alike m n are = record {
  parts = ap (λ (ts : List NamedTy). bare ts n.globals) are.types ∙ ap (bare m.types) are.globals;
  signatures =
      ap (λ (ss : List (Name × Signature)). ss ++ map (λ (d : Declaration). (d.name, declared_signature d)) n.declarations) (all_signed m.functions n.functions are.functions)
      ∙ ap (λ (ds : List Declaration). map signed m.functions ++ map (λ (d : Declaration). (d.name, declared_signature d)) ds) are.declarations;
}
