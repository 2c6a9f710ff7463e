-- Where all fits in each block of a function, the function has shape.
use Rattle.std.proofs.Common.{◌≡◌, ◌∙◌, true, false, List, [], ◌∷◌, map, refl, sym, ap, subst}
use Rattle.std.specs.List.{AllByRecursion, flat_map, list_all}
use Rattle.ir_core.specs.declared.functions.Block.{Block}
use Rattle.ir_core.specs.declared.functions.Function.{Function}
use Rattle.ir_core.specs.declared.functions.Param.{Param}
use Rattle.ir_core.specs.declared.modules.Module.{Module}
use Rattle.ir_types.specs.declared.names.Name.{Name}
use Rattle.ir_types.specs.declared.ty.Ty.{Ty}
use Rattle.ir_core.specs.Functions.{block_names, is_debug, names_in, names_of, operands_in_block, params_of, registers_of, typed_of}
use Rattle.ir_core.specs.StatedTypes.{stated_by_block}
use Rattle.ir_core.specs.Types.{is_first_class}
use Rattle.ir_core.specs.WellFormed.{HasBlockShape, HasFunctionShape, IsResult, IsTypeKnown}
use Rattle.ir_shape.specs.ShapeTests.Kinds.{are_new, leads_to, with_names}
use Rattle.ir_shape.proofs.ShapeTests.Fits.{edges_from, no_edge}
use Rattle.ir_shape.proofs.ShapeTests.Taken.{new_by, new_joined}
use Rattle.ir_shape.proofs.ShapeTests.Tests.{all_flat, all_joined, both_hold, both_left, both_right, joined_none, mapped_all}
use Rattle.ir_shape.proofs.ShapeTests.Typed.{AreTyped}

abbrev pub IsValue : Name × Ty → Type 0
IsValue register = is_first_class register.1 ≡ true

pub record BlockFits (m : Module) (f : Function) (entry : Name) (b : Block) : Type 0 where
  pub values : AllByRecursion IsValue (registers_of b)
  pub operands : AreTyped m (typed_of f) (operands_in_block b)
  pub types : AllByRecursion (IsTypeKnown m) (stated_by_block b)
  pub not_entered : leads_to entry b.term ≡ false
  pub shape : HasBlockShape m f b

-- what is so of a function but for its blocks and the names in them
pub record HeaderFits (m : Module) (f : Function) : Type 0 where
  pub name : is_debug f.name ≡ false
  pub params : are_new [] (names_in (params_of f)) ≡ true
  pub values : list_all (λ (p : Param). is_first_class p.ty) f.params ≡ true
  pub result : IsResult f.result
  pub types : AllByRecursion (IsTypeKnown m) (f.result ∷ map (λ (p : Param). p.ty) f.params)

abbrev param_names : Function → List Name
param_names f = names_in (params_of f)

values_by : (ps : List Param) → list_all (λ (p : Param). is_first_class p.ty) ps ≡ true → AllByRecursion IsValue (map (λ (p : Param). (p.name, p.ty)) ps)
values_by [] e = tt
values_by (p ∷ ps) e =
    let rest = list_all (λ (q : Param). is_first_class q.ty) ps in
    (both_left (is_first_class p.ty) rest e, values_by ps (both_right (is_first_class p.ty) rest e))

module _ (m : Module) (f : Function) where
  not_entered_by : (name : Name) (bs : List Block) → AllByRecursion (BlockFits m f name) bs → flat_map (edges_from name) bs ≡ []
  not_entered_by name [] all = refl
  not_entered_by name (b ∷ bs) all = joined_none (edges_from name b) (flat_map (edges_from name) bs) (no_edge name b all.0.not_entered) (not_entered_by name bs all.1)

  pub shape_by : (first : Block) (further : List Block) → f.blocks ≡ first ∷ further → HeaderFits m f
      → are_new (with_names [] (param_names f)) (flat_map block_names (first ∷ further)) ≡ true
      → AllByRecursion (BlockFits m f first.name) (first ∷ further) → HasFunctionShape m f
  shape_by first further are header names all =
      let blocks : AllByRecursion (BlockFits m f first.name) f.blocks = subst (AllByRecursion (BlockFits m f first.name)) (sym are) all in
      record {
        first = first;
        further = further;
        blocks = are;
        not_entered = ap (flat_map (edges_from first.name)) are ∙ not_entered_by first.name (first ∷ further) all;
        name = header.name;
        names = new_by [] (names_of f)
            (new_joined [] (param_names f) (flat_map block_names f.blocks)
            ∙ both_hold (are_new [] (param_names f)) (are_new (with_names [] (param_names f)) (flat_map block_names f.blocks)) header.params
            (subst (λ (bs : List Block). are_new (with_names [] (param_names f)) (flat_map block_names bs) ≡ true) (sym are) names));
        types = all_joined (IsTypeKnown m) (f.result ∷ map (λ (p : Param). p.ty) f.params) (flat_map stated_by_block f.blocks) header.types
            (all_flat (IsTypeKnown m) stated_by_block f.blocks (mapped_all (BlockFits m f first.name) (λ (b : Block). AllByRecursion (IsTypeKnown m) (stated_by_block b)) (λ b fit. fit.types) f.blocks blocks));
        result = header.result;
        registers = all_joined IsValue (params_of f) (flat_map registers_of f.blocks) (values_by f.params header.values)
            (all_flat IsValue registers_of f.blocks (mapped_all (BlockFits m f first.name) (λ (b : Block). AllByRecursion IsValue (registers_of b)) (λ b fit. fit.values) f.blocks blocks));
        operands = all_flat _ operands_in_block f.blocks (mapped_all (BlockFits m f first.name) (λ (b : Block). AreTyped m (typed_of f) (operands_in_block b)) (λ b fit. fit.operands) f.blocks blocks);
        each = mapped_all (BlockFits m f first.name) (HasBlockShape m f) (λ b fit. fit.shape) f.blocks blocks;
      }
