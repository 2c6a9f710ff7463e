-- What is passed is of its kind: at the start of a run, on an input that fits, and in a call.
use Rattle.std.proofs.Common.{◌≡◌, ◌^◌, ℕ, suc, ◌&&◌, List, [], ◌∷◌, length, Option, None, Some, subst, slice_get}
use Rattle.std.specs.Prelude.{nat_lt}
use Rattle.std.specs.List.{AllByRecursion}
use Rattle.std.specs.Option.{option_or}
use Rattle.std.proofs.lemmas.Bool.{cond_both, ltb-true}
use Rattle.ir_types.specs.NameLaws.{left_true}
use Rattle.ir_core.specs.declared.values.Kind.{Kind}
use Rattle.ir_core.specs.declared.values.Kind.TheVariants.{Int, Ptr}
use Rattle.ir_core.specs.declared.values.Value.{Value}
use Rattle.ir_core.specs.declared.values.Value.TheVariants as value
use Rattle.ir_core.specs.declared.functions.Param.{Param}
use Rattle.ir_core.specs.Types.{fits, kind_of}
use Rattle.ir_values.specs.Constants.{Scope}
use Rattle.ir_values.specs.Values.{IsInKind, IsInKindOf, same_kind}
use Rattle.ir_values.proofs.KindLaws.{poison_in_kind, same_kind_true}
use Rattle.block_memory.specs.declared.items.Shown.{Shown}
use Rattle.block_memory.specs.declared.items.Shown.TheVariants as shown
use Rattle.block_memory.specs.Names.{Names}
use Rattle.ir_machine.specs.declared.inputs.Input.{Input}
use Rattle.ir_machine.specs.declared.inputs.InputPath.{InputPath}
use Rattle.ir_machine.specs.declared.inputs.InputPath.TheVariants as path
use Rattle.ir_machine.specs.Registers.{Registers, AreInKind, set}
use Rattle.ir_machine.specs.State.{World}
use Rattle.ir_machine.specs.Machine.{at_kind, is_offset, passed, resolve}
use Rattle.ir_machine.specs.Starting.{argument_misfit, arguments_misfit, block_misfit, external_misfit, first_of, handed, misfit, names_at_start, number_misfit}
use Rattle.ir_machine.proofs.InKind.{bound_in_kind, offset_in_range}
use Rattle.ir_machine.proofs.Runs.{set_in_kind}
use Rattle.ir_machine.proofs.Unfitting.{or_none, unless_none}

-- a value, behind the kind that it is of
abbrev pub IsPassable : Option Kind × Value → Type 0
IsPassable v = IsInKindOf v.0 v.1

-- ---- an input that fits

-- an argument that fits is of its kind
pub argument_in_kind : (world : World) (k : Option Kind) (a : Shown) (at : ℕ) → argument_misfit world.names k a at ≡ None → IsInKindOf k (resolve world a)
argument_in_kind world None a at fit = tt
argument_in_kind world (Some (Int width)) (shown.Num n) at fit = ltb-true n (2 ^ width) (unless_none (fits n width) (path.Argument at) fit)
argument_in_kind world (Some (Int width)) (shown.Name x offset) at fit = absurd (cc)
argument_in_kind world (Some (Int width)) (shown.Bare address) at fit = absurd (cc)
argument_in_kind world (Some Ptr) (shown.Num n) at fit = absurd (cc)
argument_in_kind world (Some Ptr) (shown.Name x offset) at fit =
    let there = nat_lt x (length world.names) in
    bound_in_kind (slice_get world.names x) offset (offset_in_range offset (left_true (is_offset offset) there (unless_none (is_offset offset && there) (path.ArgumentName at) fit)))
argument_in_kind world (Some Ptr) (shown.Bare address) at fit = ltb-true address (2 ^ 64) (unless_none (nat_lt address (2 ^ 64)) (path.Argument at) fit)

pub handed_in_kind : (world : World) (at : ℕ) (ps : List Param) (args : List Shown) → arguments_misfit world.names at ps args ≡ None
    → AllByRecursion IsPassable (handed world ps args)
handed_in_kind world at [] args fit = tt
handed_in_kind world at (p ∷ ps) [] fit = tt
handed_in_kind world at (p ∷ ps) (a ∷ args) fit =
    let parts = or_none (argument_misfit world.names (kind_of p.ty) a at) (arguments_misfit world.names (suc at) ps args) fit in
    (argument_in_kind world (kind_of p.ty) a at parts.0, handed_in_kind world (suc at) ps args parts.1)

-- ---- the registers that it sets

pub read_at_kind : (own k : Option Kind) (v : Value) → IsInKindOf k v → IsInKindOf own (at_kind own k v)
read_at_kind None k v h = tt
read_at_kind (Some j) None v h = poison_in_kind j
read_at_kind (Some j) (Some k) v h =
    cond_both (same_kind k j) v value.Poison (IsInKind j) (λ e. subst (λ i. IsInKind i v) (same_kind_true k j e) h) (λ e. poison_in_kind j)

pub passed_in_kind : (ps : List Param) (vs : List (Option Kind × Value)) (registers : Registers) → AllByRecursion IsPassable vs → AreInKind registers
    → AreInKind (passed ps vs registers)
passed_in_kind [] vs registers all h = h
passed_in_kind (p ∷ ps) [] registers all h = h
passed_in_kind (p ∷ ps) (v ∷ vs) registers all h =
    let held = at_kind (kind_of p.ty) v.0 v.1 in
    passed_in_kind ps vs (set registers p.name (kind_of p.ty) held) all.1
    (set_in_kind registers p.name (kind_of p.ty) held h (read_at_kind (kind_of p.ty) v.0 v.1 all.0))

-- ---- what an input that fits comes to

module _ (scope : Scope) (input : Input) where
  abbrev names : Names
  names = names_at_start scope input

  abbrev pub of_outside : Option InputPath
  of_outside = option_or (first_of (block_misfit names) 0 input.blocks) (first_of (external_misfit scope names) 0 input.externals)

  pub record IsFitting (ps : List Param) : Type 0 where
    pub arguments : arguments_misfit names 0 ps input.args ≡ None
    pub blocks : first_of (block_misfit names) 0 input.blocks ≡ None
    pub externals : first_of (external_misfit scope names) 0 input.externals ≡ None

  pub fitting : (ps : List Param) → misfit scope ps input ≡ None → IsFitting ps
  fitting ps h =
      let counted = or_none (number_misfit ps input.args) (option_or (arguments_misfit names 0 ps input.args) of_outside) h in
      let told = or_none (arguments_misfit names 0 ps input.args) of_outside counted.1 in
      let outside = or_none (first_of (block_misfit names) 0 input.blocks) (first_of (external_misfit scope names) 0 input.externals) told.1 in
      record { arguments = told.0; blocks = outside.0; externals = outside.1 }
