-- Which types have values.
use Rattle.std.proofs.Common.{◌≡◌, ◌∙◌, ◌+◌, ℕ, [], ◌∷◌, Option, None, Some, cond, refl, ap, arith}
use Rattle.ir_types.specs.declared.ty.Ty.{Ty, Int, Ptr, Array, Struct, Named}
use Rattle.ir_types.specs.declared.ty.Ty.TheOpen.{Ty-F}
use Rattle.ir_types.specs.declared.ty.Ty.TheViews.{outs-Ptr, outs-Array, outs-Struct, outs-Named, outs-Void}
use Rattle.ir_core.specs.declared.values.Kind.{Kind}
use Rattle.ir_core.specs.declared.values.Kind.TheVariants as kind
use Rattle.ir_types.proofs.Induction as types
use Rattle.ir_core.specs.declared.operands.Const.{Number}
use Rattle.ir_core.specs.Depths.{depth_at_level, depth_at_part, depth_of, depth_of_constant}
use Rattle.ir_core.specs.Sizes.{wanted_in_function}
use Rattle.ir_core.specs.declared.functions.Function.{Function}
use Rattle.ir_core.specs.Examples.{alone, f, number, passing, x, y}
use Rattle.ir_core.specs.Types.{is_pointer_at_level}
use Rattle.ir_core.specs.TypeLaws.{TypesHaveKinds, OtherTypesAreNot, beside_type, never_returning}
use Rattle.ir_core.specs.WellFormed.{HasShape}
use Rattle.ir_core.proofs.TypeNames.{at_int, at_ptr}
use Rattle.ir_core.proofs.Typing as typing
use Rattle.ir_core.proofs.Typing.{in_number, is_no_number, nameless, no_values, number_is}
use Rattle.ir_core.proofs.Constants as constants
use Rattle.ir_core.proofs.Ranges as ranges
use Rattle.ir_core.proofs.Ranges.{no_void}
use Rattle.ir_core.proofs.WellFormed.{defined, in_none, in_one, name_f, name_x, name_y}
use Rattle.ir_core.proofs.Within.{IsSmallBlock, all_joined, blocks_small}

abbrev kind_at_level : Ty-F Ty → Option Kind
kind_at_level level = cond (is_pointer_at_level level) (Some kind.Ptr) None

pub types_have_kinds : TypesHaveKinds
types_have_kinds = record {
  one_bit = refl;
  widest = refl;
  no_bits = refl;
  too_wide = refl;
  void = ap kind_at_level outs-Void;
  pointer = ap kind_at_level (outs-Ptr (Int 8));
  array = ap kind_at_level (outs-Array 4 (Int 8));
  struct = ap kind_at_level (outs-Struct (Int 32 ∷ []));
  named = ap kind_at_level (outs-Named x);
}

abbrev taking : Ty → Function
taking t = passing (Int 32) t (Int 32) (number 0)

pointer_shape : HasShape (alone (taking (Ptr (Int 8))))
pointer_shape = record {
  types_apart = tt;
  types = tt;
  globals = tt;
  functions = (
    record {
      first = _;
      further = [];
      blocks = refl;
      not_entered = refl;
      name = refl;
      names = (in_none x, (in_one x y refl refl, tt));
      types = nameless (taking (Ptr (Int 8))) (simp (in_number, at_int, at_ptr) refl);
      result = refl;
      registers = (typing.at_ptr (Int 8), tt);
      operands = (number_is (alone (taking (Ptr (Int 8)))) (Int 32) 0, tt);
      each = (record { phis = tt; lines = tt; labels = tt; branches = tt; returns = refl; cases = tt }, tt);
    },
    tt,
  );
  declarations = tt;
  names = (in_none f, tt);
}

result_shape : HasShape (alone (never_returning (Ptr (Int 8))))
result_shape = record {
  types_apart = tt;
  types = tt;
  globals = tt;
  functions = (
    record {
      first = _;
      further = [];
      blocks = refl;
      not_entered = refl;
      name = refl;
      names = (in_none f, tt);
      types = nameless (never_returning (Ptr (Int 8))) (simp (at_int, at_ptr) refl);
      result = typing.at_ptr (Int 8);
      registers = tt;
      operands = tt;
      each = (record { phis = tt; lines = tt; labels = tt; branches = tt; returns = tt; cases = tt }, tt);
    },
    tt,
  );
  declarations = tt;
  names = (in_none f, tt);
}

depth_of_int : (width : ℕ) → depth_of (Int width) ≡ 1
depth_of_int = types.at_int ℕ depth_at_level

depth_of_pointer : depth_of (Ptr (Int 8)) ≡ 2
depth_of_pointer = types.at_ptr ℕ depth_at_level (Int 8) ∙ ap (λ d. d + 1) (depth_of_int 8)

depth_of_zero : depth_of_constant (Number 0) ≡ 1
depth_of_zero = constants.at_number ℕ depth_at_part 0

pub other_types_are_not : OtherTypesAreNot
other_types_are_not = record {
  pointer = record {
    shape = pointer_shape;
    defined = (defined (taking (Ptr (Int 8))) _ [] refl refl (tt, tt), tt);
    range = record {
      types = tt;
      globals = tt;
      functions = (
        record {
          name = name_f;
          names = (name_x, (name_y, tt));
          result = refl;
          registers = (simp (ranges.at_ptr, ranges.at_int) refl, tt);
          operands = ((refl, refl), tt);
          lines = tt;
          cases = tt;
        },
        tt,
      );
      declarations = tt;
      order = tt;
    };
    depths = (omega (arith, depth_of_int 32), (omega (arith, depth_of_pointer), (omega (arith, depth_of_int 32, depth_of_zero), tt)));
    lines = (omega arith, tt);
    blocks =
        all_joined (IsSmallBlock []) (wanted_in_function [] (taking (Ptr (Int 8)))) []
        (blocks_small [] (taking (Ptr (Int 8))).blocks (record { typed = tt; phis = tt; operands = tt; end = ((refl, refl), tt); lines = tt; cases = tt }, tt)) tt;
  };
  array = λ shape. no_values (Array 4 (Int 8)) (typing.at_array 4 (Int 8)) shape.functions.0.registers.0;
  struct = λ shape. no_values (Struct (Int 8 ∷ [])) (typing.at_struct (Int 8 ∷ [])) shape.functions.0.registers.0;
  named_parameter = λ shape. no_values (Named x) (typing.at_named x) shape.functions.0.registers.0;
  named = λ shape. is_no_number (beside_type (passing (Named x) (Int 32) (Named x) (number 0))) (Named x) 0 refl shape.functions.0.operands.0;
  result = record {
    shape = result_shape;
    defined = (defined (never_returning (Ptr (Int 8))) _ [] refl refl tt, tt);
    range = record {
      types = tt;
      globals = tt;
      functions = (
        record { name = name_f; names = (name_f, tt); result = simp (ranges.at_ptr, ranges.at_int) refl; registers = tt; operands = tt; lines = tt; cases = tt },
        tt,
      );
      declarations = tt;
      order = tt;
    };
    depths = (omega (arith, depth_of_pointer), tt);
    lines = (omega arith, tt);
    blocks = tt;
  };
  array_result = λ shape. no_values (Array 4 (Int 8)) (typing.at_array 4 (Int 8)) shape.functions.0.result;
  struct_result = λ shape. no_values (Struct (Int 8 ∷ [])) (typing.at_struct (Int 8 ∷ [])) shape.functions.0.result;
  named_result = λ shape. no_values (Named x) (typing.at_named x) shape.functions.0.result;
  void_field = λ range. no_void range.types.0.fields.0;
}
