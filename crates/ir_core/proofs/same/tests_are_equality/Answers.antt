use Rattle.ir_types.specs.NameLaws.{same_name_true, same_name_refl}
use Rattle.ir_types.proofs.SameLaws.{equality, same_ty_true, same_ty_refl}
use Rattle.ir_core.proofs.SameLaws as law
use Rattle.ir_core.proofs.same.tests_are_equality.Goals as goal

pub returns-clause-names : goal.returns-clause-names
returns-clause-names c = equality _ same_name_true same_name_refl

pub returns-clause-types : goal.returns-clause-types
returns-clause-types c = equality _ same_ty_true same_ty_refl

pub returns-clause-constants : goal.returns-clause-constants
returns-clause-constants c = equality _ law.same_const_true law.same_const_refl

pub returns-clause-operators : goal.returns-clause-operators
returns-clause-operators c = equality _ law.same_op_true law.same_op_refl

pub returns-clause-conversions : goal.returns-clause-conversions
returns-clause-conversions c = equality _ law.same_cast_true law.same_cast_refl

pub returns-clause-predicates : goal.returns-clause-predicates
returns-clause-predicates c = equality _ law.same_pred_true law.same_pred_refl

pub returns-clause-flags : goal.returns-clause-flags
returns-clause-flags c = equality _ law.same_flags_true law.same_flags_refl

pub returns-clause-registers : goal.returns-clause-registers
returns-clause-registers c = equality _ law.same_reg_true law.same_reg_refl

pub returns-clause-atoms : goal.returns-clause-atoms
returns-clause-atoms c = equality _ law.same_name_atom_true law.same_name_atom_refl

pub returns-clause-operands : goal.returns-clause-operands
returns-clause-operands c = equality _ law.same_name_operand_true law.same_name_operand_refl

pub returns-clause-atoms_in_logic : goal.returns-clause-atoms_in_logic
returns-clause-atoms_in_logic c = equality _ law.same_reg_atom_true law.same_reg_atom_refl

pub returns-clause-operands_in_logic : goal.returns-clause-operands_in_logic
returns-clause-operands_in_logic c = equality _ law.same_reg_operand_true law.same_reg_operand_refl

pub returns-clause-lines : goal.returns-clause-lines
returns-clause-lines c = equality _ law.same_name_expr_true law.same_name_expr_refl

pub returns-clause-expressions : goal.returns-clause-expressions
returns-clause-expressions c = equality _ law.same_reg_expr_true law.same_reg_expr_refl
