-- Terminators have no fault exactly where they fit.
use Rattle.std.proofs.Common.{◌≡◌, false, not, [], Option, None, ap}
use Rattle.std.specs.List.{AllByRecursion, Contains}
use Rattle.ir_core.specs.declared.functions.Function.{Function}
use Rattle.ir_core.specs.declared.functions.Term.{Term}
use Rattle.ir_core.specs.declared.modules.Module.{Module}
use Rattle.ir_types.specs.declared.names.Name.{Name}
use Rattle.ir_core.specs.Functions.{names_in, operands_at_end, successors_of, typed_of}
use Rattle.ir_core.specs.Order.{AreNew}
use Rattle.ir_core.specs.WellFormed.{BranchesOn, HasCases, IsTypeKnown, Returns}
use Rattle.ir_typing.specs.OperandTests.Known.{are_types_known}
use Rattle.ir_typing.proofs.OperandTests.Fits.{types_known}
use Rattle.ir_typing.specs.declared.shape_kinds.kind.ShapeKind.{ShapeKind}
use Rattle.ir_typing.specs.declared.shape_kinds.kind.ShapeKind.TheVariants as kind
use Rattle.ir_typing.specs.ShapeKinds.Kinds.{fault_unless, least}
use Rattle.ir_shape.specs.ShapeTests.Kinds.{are_labels, branch_fits, cases_fit, labels_of, leads_to, return_fits}
use Rattle.ir_shape.proofs.ShapeTests.Fits.{branch_by, branch_is, cases_by, cases_is, return_by, return_is}
use Rattle.ir_shape.proofs.ShapeTests.Taken.{labels_are, labels_by}
use Rattle.ir_shape.proofs.ShapeTests.Tests.{both_none, fits_by, least_none_left, least_none_right, none_by, not_true}
use Rattle.ir_shape.proofs.ShapeTests.Typed.{AreTyped}
use Rattle.ir_shape.specs.LineShapes.Told.{end_kind, operands_kind, stated_at_end}
use Rattle.ir_shape.proofs.ShapeLaws.Lines.{all_told, operands_are, operands_by}
use Rattle.ir_shape.proofs.ShapeLaws.Phis.{names_of_blocks}

pub record EndFits (m : Module) (f : Function) (entry : Name) (end : Term) : Type 0 where
  pub known : AllByRecursion (IsTypeKnown m) (stated_at_end end)
  pub operands : AreTyped m (typed_of f) (operands_at_end end)
  pub labels : AllByRecursion (Contains (names_of_blocks f.blocks)) (successors_of end)
  pub not_entered : leads_to entry end ≡ false
  pub branches : BranchesOn end
  pub returns : Returns f.result end
  pub cases : HasCases end

abbrev pub of_end : Module → Function → Name → Term → Option ShapeKind
of_end m f entry end = end_kind m (labels_of f) (all_told (typed_of f)) entry f.result end

pub end_by : (m : Module) (f : Function) (entry : Name) (end : Term) → of_end m f entry end ≡ None → EndFits m f entry end
end_by m f entry end none =
    let known = are_types_known m (stated_at_end end) in
    let labels = are_labels (labels_of f) (successors_of end) in
    let outside = not (leads_to entry end) in
    let operands = operands_kind m (all_told (typed_of f)) (operands_at_end end) in
    let last = least (fault_unless (return_fits f.result end) kind.ReturnType) (fault_unless (cases_fit end) kind.CaseTwice) in
    let branch = least (fault_unless (branch_fits end) kind.OperandType) last in
    let typed = least operands branch in
    let entered = least (fault_unless outside kind.EntryEntered) typed in
    let labelled = least (fault_unless labels kind.Label) entered in
    let after_name = least_none_right (fault_unless known kind.Name) labelled none in
    let after_label = least_none_right (fault_unless labels kind.Label) entered after_name in
    let after_entry = least_none_right (fault_unless outside kind.EntryEntered) typed after_label in
    let after_operands = least_none_right operands branch after_entry in
    let after_branch = least_none_right (fault_unless (branch_fits end) kind.OperandType) last after_operands in
    record {
      known = (types_known m (stated_at_end end)).0 (fits_by known kind.Name (least_none_left (fault_unless known kind.Name) labelled none));
      operands = operands_by m (typed_of f) (operands_at_end end) (least_none_left operands branch after_entry);
      labels = labels_by (names_of_blocks f.blocks) (successors_of end) (fits_by labels kind.Label (least_none_left (fault_unless labels kind.Label) entered after_name));
      not_entered = not_true (leads_to entry end) (fits_by outside kind.EntryEntered (least_none_left (fault_unless outside kind.EntryEntered) typed after_label));
      branches = branch_by end (fits_by (branch_fits end) kind.OperandType (least_none_left (fault_unless (branch_fits end) kind.OperandType) last after_operands));
      returns = return_by f.result end
          (fits_by (return_fits f.result end) kind.ReturnType (least_none_left (fault_unless (return_fits f.result end) kind.ReturnType) (fault_unless (cases_fit end) kind.CaseTwice) after_branch));
      cases = cases_by end (fits_by (cases_fit end) kind.CaseTwice (least_none_right (fault_unless (return_fits f.result end) kind.ReturnType) (fault_unless (cases_fit end) kind.CaseTwice) after_branch));
    }

pub end_is : (m : Module) (f : Function) (entry : Name) (end : Term) → AreNew [] (names_in (typed_of f)) → EndFits m f entry end → of_end m f entry end ≡ None
end_is m f entry end unique fit =
    let known = are_types_known m (stated_at_end end) in
    let labels = are_labels (labels_of f) (successors_of end) in
    let outside = not (leads_to entry end) in
    let operands = operands_kind m (all_told (typed_of f)) (operands_at_end end) in
    both_none (fault_unless known kind.Name) _ (none_by known kind.Name ((types_known m (stated_at_end end)).1 fit.known))
    (both_none (fault_unless labels kind.Label) _ (none_by labels kind.Label (labels_are (names_of_blocks f.blocks) (successors_of end) fit.labels))
    (both_none (fault_unless outside kind.EntryEntered) _ (none_by outside kind.EntryEntered (ap not fit.not_entered))
    (both_none operands _ (operands_are m (typed_of f) unique (operands_at_end end) fit.operands)
    (both_none (fault_unless (branch_fits end) kind.OperandType) _ (none_by (branch_fits end) kind.OperandType (branch_is end fit.branches))
    (both_none (fault_unless (return_fits f.result end) kind.ReturnType) (fault_unless (cases_fit end) kind.CaseTwice)
    (none_by (return_fits f.result end) kind.ReturnType (return_is f.result end fit.returns)) (none_by (cases_fit end) kind.CaseTwice (cases_is end fit.cases)))))))
