-- A function has no fault exactly where it has shape.
use Rattle.std.proofs.Common.{◌≡◌, ◌∙◌, ◌&&◌, Bool, true, false, not, List, [], ◌∷◌, ◌++◌, length, map, nat_lt, Option, None, refl, sym, ap, subst, arith}
use Rattle.std.proofs.lemmas.Bool.{lt-ltb}
use Rattle.std.specs.List.{AllByRecursion, flat_map, list_all}
use Rattle.ir_core.specs.declared.functions.Block.{Block}
use Rattle.ir_core.specs.declared.functions.Function.{Function}
use Rattle.ir_core.specs.declared.functions.Param.{Param}
use Rattle.ir_core.specs.declared.modules.Module.{Module}
use Rattle.ir_types.specs.declared.names.Name.{Name}
use Rattle.ir_types.specs.declared.ty.Ty.{Ty}
use Rattle.ir_core.specs.Functions.{block_names, is_debug, names_in, names_of, operands_in_block, params_of, registers_of, typed_of}
use Rattle.ir_core.specs.Order.{AreNew}
use Rattle.ir_core.specs.StatedTypes.{stated_by_block}
use Rattle.ir_core.specs.Types.{is_first_class}
use Rattle.ir_core.specs.WellFormed.{HasBlockShape, HasFunctionShape, IsResult, IsTypeKnown}
use Rattle.ir_typing.specs.OperandTests.Known.{are_types_known}
use Rattle.ir_typing.proofs.OperandTests.Fits.{types_known}
use Rattle.ir_shape.specs.declared.fault.ShapeFault.{ShapeFault}
use Rattle.ir_typing.specs.declared.shape_kinds.kind.ShapeKind.{ShapeKind}
use Rattle.ir_typing.specs.declared.shape_kinds.kind.ShapeKind.TheVariants as kind
use Rattle.ir_typing.specs.ShapeKinds.Kinds.{fault_unless, least}
use Rattle.ir_typing.specs.ShapeKinds.Names.{are_new, with_names}
use Rattle.ir_typing.specs.ShapeKinds.Typed.{Types}
use Rattle.ir_shape.specs.ShapeTests.Kinds.{is_result, labels_of, leads_to, name_kind, types_of}
use Rattle.ir_shape.proofs.ShapeTests.Fits.{edge_none, edges_from, no_edge, result_by, result_is}
use Rattle.ir_shape.proofs.ShapeTests.Taken.{new_by, new_is, new_joined, registers_new}
use Rattle.ir_shape.proofs.ShapeTests.Tests.{all_flat, all_joined, all_left, all_parts, all_right, both_hold, both_left, both_none, both_right, fits_by, joined_none, least_none_left, least_none_right, left_none, mapped_all, none_by, not_true, right_none}
use Rattle.ir_shape.proofs.ShapeTests.Typed.{AllGive, AreTyped, all_typed}
use Rattle.ir_shape.specs.Shape.{fault_at, in_body, in_function}
use Rattle.ir_shape.specs.LineShapes.Told.{header_kind}
use Rattle.ir_shape.proofs.ShapeLaws.Blocks.{BlockFits, blocks_are, blocks_by, in_these}
use Rattle.ir_shape.proofs.ShapeLaws.Faults.{no_fault, no_kind}
use Rattle.ir_shape.proofs.ShapeLaws.Leading.{blocks_with_shape, body_gives}
use Rattle.ir_shape.proofs.ShapeLaws.Lines.{AreApart, IsValue, all_told}

abbrev param_names : Function → List Name
param_names f = names_in (params_of f)

abbrev param_types : Function → List Ty
param_types f = map (λ (p : Param). p.ty) f.params

-- ---- headers

-- what is so of a header without fault
record HeaderFits (m : Module) (f : Function) : Type 0 where
  pub known : AllByRecursion (IsTypeKnown m) (f.result ∷ param_types f)
  pub some : nat_lt 0 (length f.blocks) ≡ true
  pub result : IsResult f.result
  pub params : AllByRecursion IsValue (params_of f)

values_by : (ps : List Param) → list_all (λ (p : Param). is_first_class p.ty) ps ≡ true → AllByRecursion IsValue (map (λ (p : Param). (p.name, p.ty)) ps)
values_by [] e = tt
values_by (p ∷ ps) e =
    let rest = list_all (λ (q : Param). is_first_class q.ty) ps in
    (both_left (is_first_class p.ty) rest e, values_by ps (both_right (is_first_class p.ty) rest e))

values_are : (ps : List Param) → AllByRecursion IsValue (map (λ (p : Param). (p.name, p.ty)) ps) → list_all (λ (p : Param). is_first_class p.ty) ps ≡ true
values_are [] all = refl
values_are (p ∷ ps) all = both_hold (is_first_class p.ty) (list_all (λ (q : Param). is_first_class q.ty) ps) all.0 (values_are ps all.1)

header_by : (m : Module) (new : Bool) (f : Function) → header_kind m new f ≡ None → (new ≡ true) × HeaderFits m f
header_by m new f e =
    let known = are_types_known m (f.result ∷ param_types f) in
    let some = nat_lt 0 (length f.blocks) in
    let values = list_all (λ (p : Param). is_first_class p.ty) f.params in
    let last = fault_unless (is_result f.result && values) kind.OperandType in
    let behind = least (fault_unless some kind.Label) last in
    let own = fits_by (new && known) kind.Name (least_none_left (fault_unless (new && known) kind.Name) behind e) in
    let after = least_none_right (fault_unless (new && known) kind.Name) behind e in
    let typed = fits_by (is_result f.result && values) kind.OperandType (least_none_right (fault_unless some kind.Label) last after) in (
      both_left new known own,
      record {
        known = (types_known m (f.result ∷ param_types f)).0 (both_right new known own);
        some = fits_by some kind.Label (least_none_left (fault_unless some kind.Label) last after);
        result = result_by f.result (both_left (is_result f.result) values typed);
        params = values_by f.params (both_right (is_result f.result) values typed);
      },
    )

header_is : (m : Module) (new : Bool) (f : Function) → new ≡ true → HeaderFits m f → header_kind m new f ≡ None
header_is m new f fresh fit =
    let known = are_types_known m (f.result ∷ param_types f) in
    let some = nat_lt 0 (length f.blocks) in
    let values = list_all (λ (p : Param). is_first_class p.ty) f.params in
    both_none (fault_unless (new && known) kind.Name) (least (fault_unless some kind.Label) (fault_unless (is_result f.result && values) kind.OperandType))
    (none_by (new && known) kind.Name (both_hold new known fresh ((types_known m (f.result ∷ param_types f)).1 fit.known)))
    (both_none (fault_unless some kind.Label) (fault_unless (is_result f.result && values) kind.OperandType) (none_by some kind.Label fit.some)
    (none_by (is_result f.result && values) kind.OperandType (both_hold (is_result f.result) values (result_is f.result fit.result) (values_are f.params fit.params))))

-- ---- functions whose blocks fit

not_entered_by : (m : Module) (f : Function) (name : Name) (bs : List Block) → AllByRecursion (BlockFits m f name) bs → flat_map (edges_from name) bs ≡ []
not_entered_by m f name [] all = refl
not_entered_by m f name (b ∷ bs) all =
    joined_none (edges_from name b) (flat_map (edges_from name) bs) (no_edge name b all.0.not_entered) (not_entered_by m f name bs all.1)

not_entered_is : (name : Name) (bs : List Block) → flat_map (edges_from name) bs ≡ [] → AllByRecursion (λ (b : Block). leads_to name b.term ≡ false) bs
not_entered_is name [] e = tt
not_entered_is name (b ∷ bs) e =
    (edge_none name b (left_none (edges_from name b) (flat_map (edges_from name) bs) e), not_entered_is name bs (right_none (edges_from name b) (flat_map (edges_from name) bs) e))

shape_by : (m : Module) (f : Function) (first : Block) (further : List Block) → f.blocks ≡ first ∷ further → is_debug f.name ≡ false → are_new [] (param_names f) ≡ true → HeaderFits m f
    → are_new (with_names [] (param_names f)) (flat_map block_names (first ∷ further)) ≡ true → AllByRecursion (BlockFits m f first.name) (first ∷ further) → HasFunctionShape m f
shape_by m f first further are plain params header names all =
    let Fits = BlockFits m f first.name in
    let blocks : AllByRecursion Fits f.blocks = subst (AllByRecursion Fits) (sym are) all in
    let types = all_flat (IsTypeKnown m) stated_by_block f.blocks (mapped_all Fits (λ (b : Block). AllByRecursion (IsTypeKnown m) (stated_by_block b)) (λ b fit. fit.known) f.blocks blocks) in
    record {
      first = first;
      further = further;
      blocks = are;
      not_entered = ap (flat_map (edges_from first.name)) are ∙ not_entered_by m f first.name (first ∷ further) all;
      name = plain;
      names = new_by [] (names_of f)
          (new_joined [] (param_names f) (flat_map block_names f.blocks)
          ∙ both_hold (are_new [] (param_names f)) (are_new (with_names [] (param_names f)) (flat_map block_names f.blocks)) params
          (subst (λ (bs : List Block). are_new (with_names [] (param_names f)) (flat_map block_names bs) ≡ true) (sym are) names));
      types = (header.known.0, all_joined (IsTypeKnown m) (param_types f) (flat_map stated_by_block f.blocks) header.known.1 types);
      result = header.result;
      registers = all_joined IsValue (params_of f) (flat_map registers_of f.blocks) header.params
          (all_flat IsValue registers_of f.blocks (mapped_all Fits (λ (b : Block). AllByRecursion IsValue (registers_of b)) (λ b fit. fit.values) f.blocks blocks));
      operands = all_flat _ operands_in_block f.blocks (mapped_all Fits (λ (b : Block). AreTyped m (typed_of f) (operands_in_block b)) (λ b fit. fit.operands) f.blocks blocks);
      each = mapped_all Fits (HasBlockShape m f) (λ b fit. fit.shape) f.blocks blocks;
    }

fits_all : (m : Module) (f : Function) (entry : Name) (bs : List Block) → AllByRecursion (λ (b : Block). AllByRecursion (IsTypeKnown m) (stated_by_block b)) bs
    → AllByRecursion (λ (b : Block). AllByRecursion IsValue (registers_of b)) bs → AllByRecursion (λ (b : Block). AreTyped m (typed_of f) (operands_in_block b)) bs
    → AllByRecursion (λ (b : Block). leads_to entry b.term ≡ false) bs → AllByRecursion (HasBlockShape m f) bs → AllByRecursion (BlockFits m f entry) bs
fits_all m f entry [] known values operands leads shape = tt
fits_all m f entry (b ∷ bs) known values operands leads shape =
    (record { known = known.0; values = values.0; operands = operands.0; not_entered = leads.0; shape = shape.0 }, fits_all m f entry bs known.1 values.1 operands.1 leads.1 shape.1)

-- all fits in the blocks of a function that has shape
blocks_fit : (m : Module) (f : Function) (shape : HasFunctionShape m f) → AllByRecursion (BlockFits m f shape.first.name) f.blocks
blocks_fit m f shape =
    fits_all m f shape.first.name f.blocks
    (all_parts (IsTypeKnown m) stated_by_block f.blocks (all_right (IsTypeKnown m) (param_types f) (flat_map stated_by_block f.blocks) shape.types.1))
    (all_parts IsValue registers_of f.blocks (all_right IsValue (params_of f) (flat_map registers_of f.blocks) shape.registers))
    (all_parts _ operands_in_block f.blocks shape.operands) (not_entered_is shape.first.name f.blocks shape.not_entered) shape.each

header_fits : (m : Module) (f : Function) → HasFunctionShape m f → HeaderFits m f
header_fits m f shape = record {
  known = (shape.types.0, all_left (IsTypeKnown m) (param_types f) (flat_map stated_by_block f.blocks) shape.types.1);
  some = ap (λ (bs : List Block). nat_lt 0 (length bs)) shape.blocks ∙ lt-ltb 0 (length (shape.first ∷ shape.further)) (omega arith);
  result = shape.result;
  params = all_left IsValue (params_of f) (flat_map registers_of f.blocks) shape.registers;
}

-- ---- functions

abbrev in_all : Module → Function → List Block → List ShapeFault
in_all m f = in_body m f (labels_of f) (all_told (typed_of f)) (with_names [] (param_names f))

-- as it is told
abbrev in_told : Module → Function → List Block → List ShapeFault
in_told m f = in_body m f (labels_of f) (types_of m f) (with_names [] (param_names f))

-- where each line gives its register a type, this is the same
told_is : (m : Module) (f : Function) → AllByRecursion (λ (b : Block). AllGive m.types b.body) f.blocks → in_told m f f.blocks ≡ in_all m f f.blocks
told_is m f all = ap (λ (types : Types). in_body m f (labels_of f) types (with_names [] (param_names f)) f.blocks) (all_typed m f all)

told_none : (m : Module) (f : Function) → in_told m f f.blocks ≡ [] → in_all m f f.blocks ≡ []
told_none m f none = sym (told_is m f (body_gives m f (labels_of f) (types_of m f) (with_names [] (param_names f)) f.blocks none)) ∙ none

abbrev of_header : Module → Function → Option ShapeKind
of_header m f = header_kind m (are_new [] (param_names f)) f

pub function_by : (m : Module) (f : Function) (taken : Bool) → in_function m taken f ≡ [] → (not taken ≡ true) × HasFunctionShape m f
function_by m f taken e =
    let name = fault_at f.name None (name_kind taken f.name) in
    let header = fault_at f.name None (of_header m f) in
    let own = fits_by (not taken && not (is_debug f.name)) kind.Name (no_kind _ f.name None (name_kind taken f.name) (left_none name (header ++ in_told m f f.blocks) e)) in
    let behind = right_none name (header ++ in_told m f f.blocks) e in
    let top = header_by m (are_new [] (param_names f)) f (no_kind _ f.name None (of_header m f) (left_none header (in_told m f f.blocks) behind)) in
    let plain = not_true (is_debug f.name) (both_right (not taken) (not (is_debug f.name)) own) in
    (both_left (not taken) (not (is_debug f.name)) own, go f.blocks refl plain top.0 top.1 (told_none m f (right_none header (in_told m f f.blocks) behind)))
  where
    go : (bs : List Block) → f.blocks ≡ bs → is_debug f.name ≡ false → are_new [] (param_names f) ≡ true → HeaderFits m f → in_all m f f.blocks ≡ [] → HasFunctionShape m f
    go [] are plain params header none = let never = sym (ap (λ (bs : List Block). nat_lt 0 (length bs)) are) ∙ header.some in absurd (cc)
    go (first ∷ further) are plain params header none =
        let all = blocks_by m f first.name [] (with_names [] (param_names f)) (first ∷ further) (sym (ap (in_all m f) are) ∙ none) in
        shape_by m f first further are plain params header all.0 all.1

pub function_is : (m : Module) → AreApart m → (f : Function) (taken : Bool) → taken ≡ false → HasFunctionShape m f → in_function m taken f ≡ []
function_is m apart f taken free shape =
    let entry = shape.first.name in
    let new = sym (new_joined [] (param_names f) (flat_map block_names f.blocks)) ∙ new_is [] (names_of f) shape.names in
    let params_new = are_new [] (param_names f) in
    let blocks_new = are_new (with_names [] (param_names f)) (flat_map block_names f.blocks) in
    let unique : AreNew [] (names_in (typed_of f)) = registers_new (params_of f) f.blocks shape.names in
    let body : in_these m f entry [] (with_names [] (param_names f)) f.blocks ≡ [] =
    blocks_are m apart f unique entry [] (with_names [] (param_names f)) f.blocks (λ n there. absurd (omega (arith, there.1))) (both_right params_new blocks_new new) (blocks_fit m f shape) in
    joined_none (fault_at f.name None (name_kind taken f.name)) _
    (no_fault _ f.name None (name_kind taken f.name) (none_by (not taken && not (is_debug f.name)) kind.Name (both_hold (not taken) (not (is_debug f.name)) (ap not free) (ap not shape.name))))
    (joined_none (fault_at f.name None (of_header m f)) (in_told m f f.blocks)
    (no_fault _ f.name None (of_header m f) (header_is m params_new f (both_left params_new blocks_new new) (header_fits m f shape)))
    (told_is m f (blocks_with_shape m f f.blocks shape.each) ∙ ap (in_all m f) shape.blocks ∙ sym (ap (in_these m f entry [] (with_names [] (param_names f))) shape.blocks) ∙ body))
