-- Where each block of a function is whole, the function has shape beside whatever module.
use Rattle.std.proofs.Common.{◌≡◌, ◌∙◌, true, false, not, List, [], ◌∷◌, ◌++◌, ◌<◌, arith, get_or, length, map, None, sym, ap, subst}
use Rattle.std.specs.List.{AllByRecursion, Contains, flat_map, list_all}
use Rattle.ir_core.specs.declared.functions.Block.{Block}
use Rattle.ir_core.specs.declared.functions.Case.{Case}
use Rattle.ir_core.specs.declared.functions.Function.{Function}
use Rattle.ir_core.specs.declared.functions.Instr.{Instr}
use Rattle.ir_core.specs.declared.functions.Instr.TheVariants as instr
use Rattle.ir_core.specs.declared.functions.Param.{Param}
use Rattle.ir_core.specs.declared.functions.Phi.{Phi}
use Rattle.ir_core.specs.declared.modules.Module.{Module}
use Rattle.ir_types.specs.declared.names.Name.{Name}
use Rattle.ir_types.specs.declared.ty.Ty.{Ty}
use Rattle.ir_core.specs.Expressions.{operands_in}
use Rattle.ir_core.specs.Functions.{block_names, cases_of, is_debug, names_in, names_of, operands_at_end, operands_of, operands_of_phi, params_of, phi_registers, registers_of, set_by, typed_of}
use Rattle.ir_core.specs.StatedTypes.{stated_by_line, stated_by_operand, stated_by_phi}
use Rattle.ir_core.specs.Types.{is_integer}
use Rattle.ir_core.specs.WellFormed.{FitsEdges, HasFunctionShape, IsLine, IsTypeKnown}
use Rattle.ir_typing.specs.declared.shape_kinds.kind.ShapeKind.TheVariants as kind
use Rattle.ir_shape.specs.ShapeTests.Kinds.{are_new, name_kind, with_names}
use Rattle.whole_shapes.specs.Whole.{IsBlockWhole, IsLineWhole, IsPhiWhole, LeadsToLabels, is_header_whole, is_whole_result}
use Rattle.whole_shapes.proofs.Fitted.{BlockFits, HeaderFits, IsValue, shape_by}
use Rattle.whole_shapes.proofs.OverIntegers.{IsInteger, end_known, is_value, known, line_is, line_known, operands_known, operands_typed, params_integers, params_known, params_values, result_is, result_known}
use Rattle.ir_shape.proofs.ShapeTests.Taken.{all_put, new_joined}
use Rattle.ir_shape.proofs.ShapeTests.Tests.{all_flat, all_joined, all_parts, all_right, both_left, both_right, fits_by, mapped_all, not_true}
use Rattle.ir_shape.proofs.ShapeTests.Typed as fits

phi_integers : (f : Function) (b : Block) (ps : List Phi) → AllByRecursion (IsPhiWhole f b) ps → AllByRecursion IsInteger (phi_registers ps)
phi_integers f b [] all = tt
phi_integers f b (p ∷ ps) all = (all.0.0, phi_integers f b ps all.1)

line_integers : (rs : List (Name × Ty)) (ls : List Instr) → AllByRecursion (IsLineWhole rs) ls → AllByRecursion IsInteger (set_by ls)
line_integers rs [] all = tt
line_integers rs (instr.Calm c ∷ ls) all = (all.0.0, line_integers rs ls all.1)
line_integers rs (l ∷ ls) all = absurd all.0

block_integers : (f : Function) (entry : Name) (bs : List Block) → AllByRecursion (IsBlockWhole f entry) bs → AllByRecursion IsInteger (flat_map registers_of bs)
block_integers f entry [] all = tt
block_integers f entry (b ∷ bs) all =
    all_joined IsInteger (registers_of b) (flat_map registers_of bs)
    (all_joined IsInteger (phi_registers b.phis) (set_by b.body) (phi_integers f b b.phis all.0.0) (line_integers (typed_of f) b.body all.0.1))
    (block_integers f entry bs all.1)

-- where all registers are integers
module _ (m : Module) (f : Function) (ints : AllByRecursion IsInteger (typed_of f)) where
  abbrev AreKnown : List Ty → Type 0
  AreKnown = AllByRecursion (IsTypeKnown m)

  phi_operands : (b : Block) (ps : List Phi) → AllByRecursion (IsPhiWhole f b) ps → fits.AreTyped m (typed_of f) (flat_map operands_of_phi ps)
  phi_operands b [] all = tt
  phi_operands b (p ∷ ps) all =
      all_joined _ (operands_of_phi p) (flat_map operands_of_phi ps) (operands_typed m (typed_of f) ints (operands_of_phi p) all.0.1) (phi_operands b ps all.1)

  phi_types : (b : Block) (ps : List Phi) → AllByRecursion (IsPhiWhole f b) ps → AreKnown (flat_map stated_by_phi ps)
  phi_types b [] all = tt
  phi_types b (p ∷ ps) all =
      all_joined (IsTypeKnown m) (stated_by_phi p) (flat_map stated_by_phi ps)
      (known m p.ty all.0.0, operands_known m (typed_of f) ints (operands_of_phi p) all.0.1) (phi_types b ps all.1)

  line_operands : (ls : List Instr) → AllByRecursion (IsLineWhole (typed_of f)) ls → fits.AreTyped m (typed_of f) (flat_map operands_of ls)
  line_operands [] all = tt
  line_operands (instr.Calm c ∷ ls) all =
      all_joined _ (operands_in c.right) (flat_map operands_of ls) (operands_typed m (typed_of f) ints (operands_in c.right) all.0.1) (line_operands ls all.1)
  line_operands (l ∷ ls) all = absurd all.0

  line_types : (ls : List Instr) → AllByRecursion (IsLineWhole (typed_of f)) ls → AreKnown (flat_map stated_by_line ls)
  line_types ls all = all_flat (IsTypeKnown m) stated_by_line ls (mapped_all _ (λ (l : Instr). AreKnown (stated_by_line l)) (line_known m (typed_of f) ints) ls all)

  block_fits : (entry : Name) (b : Block) → LeadsToLabels f.blocks b → IsBlockWhole f entry b → BlockFits m f entry b
  block_fits entry b labels (phis, lines, end) = record {
    values = mapped_all IsInteger IsValue (λ r int. is_value r.1 int) (registers_of b)
        (all_joined IsInteger (phi_registers b.phis) (set_by b.body) (phi_integers f b b.phis phis) (line_integers (typed_of f) b.body lines));
    operands = all_joined _ (flat_map operands_of_phi b.phis) (flat_map operands_of b.body ++ operands_at_end b.term) (phi_operands b b.phis phis)
        (all_joined _ (flat_map operands_of b.body) (operands_at_end b.term) (line_operands b.body lines) (operands_typed m (typed_of f) ints (operands_at_end b.term) end.0));
    types = all_joined (IsTypeKnown m) (flat_map stated_by_phi b.phis) _ (phi_types b b.phis phis)
        (all_joined (IsTypeKnown m) (flat_map stated_by_line b.body) _ (line_types b.body lines)
        (all_joined (IsTypeKnown m) (flat_map stated_by_operand (operands_at_end b.term)) (map (λ (c : Case). c.ty) (cases_of b.term))
        (operands_known m (typed_of f) ints (operands_at_end b.term) end.0) (end_known m (typed_of f) ints b.term end.2 end.4)));
    not_entered = end.1;
    shape = record {
      phis = mapped_all (IsPhiWhole f b) (FitsEdges f b) (λ p is. is.2) b.phis phis;
      lines = mapped_all (IsLineWhole (typed_of f)) (IsLine m) (line_is m (typed_of f)) b.body lines;
      labels = labels;
      branches = end.2;
      returns = end.3;
      cases = end.4;
    };
  }

  blocks_fit : (entry : Name) (bs : List Block) → AllByRecursion (LeadsToLabels f.blocks) bs → AllByRecursion (IsBlockWhole f entry) bs
      → AllByRecursion (BlockFits m f entry) bs
  blocks_fit entry [] labels all = tt
  blocks_fit entry (b ∷ bs) labels all = (block_fits entry b labels.0 all.0, blocks_fit entry bs labels.1 all.1)

header_fits : (m : Module) (f : Function) → name_kind false f.name ≡ None → is_header_whole f ≡ true → are_new [] (names_in (params_of f)) ≡ true → HeaderFits m f
header_fits m f named header params =
    let result = both_left (is_whole_result f.result) (list_all (λ (p : Param). is_integer p.ty) f.params) header in
    let ints = both_right (is_whole_result f.result) (list_all (λ (p : Param). is_integer p.ty) f.params) header in
    record {
      name = not_true (is_debug f.name) (fits_by (not (is_debug f.name)) kind.Name named);
      params = params;
      values = params_values f.params ints;
      result = result_is f.result result;
      types = (result_known m f.result result, params_known m f.params ints);
    }

pub whole_shape : (f : Function) (first : Block) (further : List Block) → f.blocks ≡ first ∷ further → name_kind false f.name ≡ None → is_header_whole f ≡ true
    → are_new [] (names_of f) ≡ true → AllByRecursion (LeadsToLabels f.blocks) f.blocks → AllByRecursion (IsBlockWhole f first.name) f.blocks
    → (m : Module) → HasFunctionShape m f
whole_shape f first further are named header new labels all m =
    let params = names_in (params_of f) in
    let both = sym (new_joined [] params (flat_map block_names f.blocks)) ∙ new in
    let blocks_new = are_new (with_names [] params) (flat_map block_names f.blocks) in
    let ints : AllByRecursion IsInteger (typed_of f) = all_joined IsInteger (params_of f) (flat_map registers_of f.blocks)
    (params_integers f.params (both_right (is_whole_result f.result) (list_all (λ (p : Param). is_integer p.ty) f.params) header))
    (block_integers f first.name f.blocks all) in
    shape_by m f first further are (header_fits m f named header (both_left (are_new [] params) blocks_new both))
    (subst (λ (bs : List Block). are_new (with_names [] params) (flat_map block_names bs) ≡ true) are (both_right (are_new [] params) blocks_new both))
    (subst (AllByRecursion (BlockFits m f first.name)) are (blocks_fit m f ints first.name f.blocks labels all))

pub whole_at : (f : Function) (bs : List Block) (first : Block) → bs ≡ f.blocks → 0 < length bs → first ≡ get_or bs 0 first → name_kind false f.name ≡ None → is_header_whole f ≡ true
    → are_new [] (names_of f) ≡ true → AllByRecursion (LeadsToLabels f.blocks) f.blocks → AllByRecursion (IsBlockWhole f first.name) f.blocks
    → (m : Module) → HasFunctionShape m f
whole_at f [] first are some is named header new labels all = absurd (omega arith)
whole_at f (b ∷ bs) first are some is named header new labels all = whole_shape f first bs (sym are ∙ ap (λ (c : Block). c ∷ bs) (sym is)) named header new labels all

-- the names of a function's blocks are among all
pub names_there : (f : Function) (names : List Name) → names ≡ with_names [] (names_of f) → AllByRecursion (λ (b : Block). Contains names b.name) f.blocks
names_there f names are =
    let all = subst (λ (ns : List Name). AllByRecursion (Contains ns) (names_of f)) (sym are) (all_put (names_of f) []) in
    mapped_all (λ (b : Block). AllByRecursion (Contains names) (block_names b)) (λ (b : Block). Contains names b.name) (λ b is. is.0) f.blocks
    (all_parts (Contains names) block_names f.blocks (all_right (Contains names) (names_in (params_of f)) (flat_map block_names f.blocks) all))
