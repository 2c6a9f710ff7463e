-- The registers with which a function begins: they are of their kinds, it defines them, and functions with equal headers begin with the same.
use Rattle.std.proofs.Common.{◌≡◌, ℕ, suc, true, List, [], ◌∷◌, length, nat_eq, Option, None, Some, refl, ap, ap₂, ◌∙◌}
use Rattle.std.specs.Option.{option_or}
use Rattle.std.proofs.lemmas.Bool.{false≢true}
use Rattle.ir_types.specs.declared.names.Name.{Name}
use Rattle.ir_types.specs.declared.ty.Ty.{Ty}
use Rattle.ir_types.specs.NameLaws.{left_true, right_true, same_name_true}
use Rattle.ir_types.specs.Same.{same_list, same_name, same_ty}
use Rattle.ir_types.proofs.SameLaws.{same_ty_true}
use Rattle.ir_core.specs.declared.values.Kind.{Kind}
use Rattle.ir_core.specs.declared.values.Value.{Value}
use Rattle.ir_core.specs.declared.functions.Param.{Param}
use Rattle.ir_core.specs.declared.functions.Block.{Block}
use Rattle.ir_core.specs.declared.functions.Function.{Function}
use Rattle.ir_core.specs.Types.{kind_of}
use Rattle.ir_values.specs.Constants.{Scope}
use Rattle.block_memory.specs.declared.items.Shown.{Shown}
use Rattle.block_memory.specs.Names.{Names}
use Rattle.ir_machine.specs.declared.inputs.Input.{Input}
use Rattle.ir_machine.specs.declared.inputs.InputPath.{InputPath}
use Rattle.ir_machine.specs.declared.inputs.InputPath.TheVariants as path
use Rattle.ir_machine.specs.Registers.{Registers, AreInKind, no_registers, set}
use Rattle.ir_machine.specs.State.{World, State, Running}
use Rattle.ir_machine.specs.Machine.{at_block, at_kind, passed, resolve}
use Rattle.ir_machine.specs.Starting.{argument_misfit, arguments_misfit, at_entry, handed, misfit, names_at_start, unless}
use Rattle.ir_machine.proofs.InKind.{no_registers_in_kind}
use Rattle.ir_machine.proofs.Passing.{handed_in_kind, of_outside, passed_in_kind}
use Rattle.erhl_assert.specs.Alignment.{same_param}
use Rattle.erhl_soundness.proofs.Definitions.{AreDefined, AreParamsDefined, none_defined, set_defined}

module _ (world : World) where
  -- the registers with which a function begins
  abbrev pub entering : List Param → List Shown → Registers
  entering ps args = passed ps (handed world ps args) no_registers

  abbrev pub entry_at : Function → List Block → Registers → Option State
  entry_at f [] registers = None
  entry_at f (b ∷ bs) registers = Some (Running (at_block f b registers []) [] world)

  pub at_entry_is : (f : Function) (bs : List Block) (args : List Shown) → at_entry world f bs args ≡ entry_at f bs (entering f.params args)
  at_entry_is f [] args = refl
  at_entry_is f (b ∷ bs) args = refl

passed_defined : (f : Function) (ps : List Param) (vs : List (Option Kind × Value)) (registers : Registers) → AreParamsDefined f ps → AreDefined f registers
    → AreDefined f (passed ps vs registers)
passed_defined f [] vs registers defined h = h
passed_defined f (p ∷ ps) [] registers defined h = h
passed_defined f (p ∷ ps) (v ∷ vs) registers defined h =
    let held = at_kind (kind_of p.ty) v.0 v.1 in
    passed_defined f ps vs (set registers p.name (kind_of p.ty) held) defined.1 (set_defined f registers p.name (kind_of p.ty) held h defined.0)

pub entering_in_kind : (world : World) (ps : List Param) (args : List Shown) → arguments_misfit world.names 0 ps args ≡ None → AreInKind (entering world ps args)
entering_in_kind world ps args fit = passed_in_kind ps (handed world ps args) no_registers (handed_in_kind world 0 ps args fit) no_registers_in_kind

pub entering_defined : (world : World) (f : Function) (ps : List Param) (args : List Shown) → AreParamsDefined f ps → AreDefined f (entering world ps args)
entering_defined world f ps args defined = passed_defined f ps (handed world ps args) no_registers defined (none_defined f)

-- ---- parameters of the same names and types

param_same : (p q : Param) → same_param p q ≡ true → ◌≡◌ {A = Name × Ty} (p.name, p.ty) (q.name, q.ty)
param_same p q h =
    let name = same_name_true p.name q.name (left_true (same_name p.name q.name) (same_ty p.ty q.ty) h) in
    let type = same_ty_true p.ty q.ty (right_true (same_name p.name q.name) (same_ty p.ty q.ty) h) in cc

length_same : (ps qs : List Param) → same_list same_param ps qs ≡ true → length ps ≡ length qs
length_same [] [] h = refl
length_same [] (q ∷ qs) h = absurd (false≢true h)
length_same (p ∷ ps) [] h = absurd (false≢true h)
length_same (p ∷ ps) (q ∷ qs) h = ap suc (length_same ps qs (right_true (same_param p q) (same_list same_param ps qs) h))

arguments_same : (names : Names) (at : ℕ) (ps qs : List Param) (args : List Shown) → same_list same_param ps qs ≡ true
    → arguments_misfit names at ps args ≡ arguments_misfit names at qs args
arguments_same names at [] [] args h = refl
arguments_same names at [] (q ∷ qs) args h = absurd (false≢true h)
arguments_same names at (p ∷ ps) [] args h = absurd (false≢true h)
arguments_same names at (p ∷ ps) (q ∷ qs) [] h = refl
arguments_same names at (p ∷ ps) (q ∷ qs) (a ∷ args) h =
    let one = param_same p q (left_true (same_param p q) (same_list same_param ps qs) h) in
    let rest = arguments_same names (suc at) ps qs args (right_true (same_param p q) (same_list same_param ps qs) h) in
    ap (λ (x : Name × Ty). option_or (argument_misfit names (kind_of x.1) a at) (arguments_misfit names (suc at) ps args)) one
    ∙ ap (option_or (argument_misfit names (kind_of q.ty) a at)) rest

module _ (world : World) where
  passed_same : (ps qs : List Param) (args : List Shown) (registers : Registers) → same_list same_param ps qs ≡ true
      → passed ps (handed world ps args) registers ≡ passed qs (handed world qs args) registers
  passed_same [] [] args registers h = refl
  passed_same [] (q ∷ qs) args registers h = absurd (false≢true h)
  passed_same (p ∷ ps) [] args registers h = absurd (false≢true h)
  passed_same (p ∷ ps) (q ∷ qs) [] registers h = refl
  passed_same (p ∷ ps) (q ∷ qs) (a ∷ args) registers h =
      let one = param_same p q (left_true (same_param p q) (same_list same_param ps qs) h) in
      let with_one : Name × Ty → Registers = λ x. set registers x.0 (kind_of x.1) (at_kind (kind_of x.1) (kind_of x.1) (resolve world a)) in
      ap (λ (x : Name × Ty). passed ps (handed world ps args) (with_one x)) one
      ∙ passed_same ps qs args (with_one (q.name, q.ty)) (right_true (same_param p q) (same_list same_param ps qs) h)

  pub entering_same : (ps qs : List Param) (args : List Shown) → same_list same_param ps qs ≡ true → entering world ps args ≡ entering world qs args
  entering_same ps qs args h = passed_same ps qs args no_registers h

module _ (scope : Scope) (input : Input) where
  abbrev names : Names
  names = names_at_start scope input

  pub misfit_same : (ps qs : List Param) → same_list same_param ps qs ≡ true → misfit scope ps input ≡ misfit scope qs input
  misfit_same ps qs h =
      ap₂ (λ (n : ℕ) (o : Option InputPath). option_or (unless (nat_eq n (length input.args)) path.Arguments) (option_or o (of_outside scope input)))
      (length_same ps qs h) (arguments_same names 0 ps qs input.args h)
