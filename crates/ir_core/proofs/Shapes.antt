-- The examples that lack shape alone.
use Rattle.std.proofs.Common.{◌≡◌, zero, suc, ◌<◌, true, false, [], ◌∷◌, codes, refl, ap, arith}
use Rattle.std.proofs.lemmas.List.Sorted.{length_permutation}
use Rattle.std.specs.List.{Contains}
use Rattle.ir_types.specs.declared.names.Name.{Name}
use Rattle.ir_types.specs.declared.names.Name.TheVariants.{Text}
use Rattle.ir_core.specs.declared.operands.Atom.TheVariants.{Register}
use Rattle.ir_types.specs.declared.ty.Ty.{Ty}
use Rattle.ir_types.specs.declared.ty.Ty.TheVariants.{Int, Void}
use Rattle.ir_core.specs.Examples.{alone, block, f, name_set_twice, no_operator, number, other_result, other_width, phi_of_no_edge, phi_of_nothing, returning, void_number, void_parameter, x, y}
use Rattle.ir_core.specs.Laws.{DebugNamesAreNot, FunctionsOfOneNameAreNot, FunctionsWithoutBlocksAreNot, LinesWithoutOperatorsAreNot, NamesSetTwiceAreNot, OtherResultsAreNot, OtherWidthsAreNot, PhisOfNoEdgeAreNot, PhisOfNothingAreNot, VoidNumbersAreNot, VoidParametersAreNot}
use Rattle.ir_core.proofs.Narrow.{IsNarrowFunction, wide}
use Rattle.ir_core.proofs.Ranges.{no_void}
use Rattle.ir_core.specs.Ranges.{IsNameInRange}
use Rattle.ir_types.specs.Same.{same_ty}
use Rattle.ir_core.specs.WellFormed.{IsFunctionDefined}
use Rattle.ir_core.proofs.Typing.{at_void, is_no_number, no_values}
use Rattle.ir_core.proofs.WellFormed.{defined, name_f, name_x, name_y}

-- a register is not of another width than the only one that there is
no_other_width : (v w : Ty) (name : Name) → same_ty v w ≡ false → same_ty w w ≡ true → Contains {X = Name × Ty} ((name, v) ∷ []) (name, w) → ⊥
no_other_width v w name other same (zero, inside, is) =
    let both : same_ty v w ≡ same_ty w w = ap (λ (register : Name × Ty). same_ty register.1 w) is in cc
no_other_width v w name other same (suc k, inside, is) = absurd (omega (arith, inside))

-- ---- types

pub other_widths_are_not : OtherWidthsAreNot
other_widths_are_not = (
  λ shape. no_other_width (Int 64) (Int 32) x refl refl shape.functions.0.operands.0,
  (defined other_width (block y [] (Int 32) (Register x)) [] refl refl ((zero, omega arith, refl), tt), tt),
  wide _ (record {
    types = tt;
    globals = refl;
    functions = (
      record {
        name = name_f;
        names = (name_x, (name_y, tt));
        result = refl;
        registers = (refl, tt);
        operands = ((refl, tt), tt);
        flags = tt;
        cases = tt;
        linkage = refl;
        extensions = (refl, (refl, tt));
      },
      tt,
    );
    declarations = refl;
  }),
)

pub other_results_are_not : OtherResultsAreNot
other_results_are_not = (
  λ shape.
      let returns : Int 64 ≡ Int 32 = shape.functions.0.each.0.returns in
      let both : true ≡ false = ap (same_ty (Int 64)) returns in
      cc,
  (defined other_result (block y [] (Int 64) (Register x)) [] refl refl ((zero, omega arith, refl), tt), tt),
  wide _ (record {
    types = tt;
    globals = refl;
    functions = (
      record {
        name = name_f;
        names = (name_x, (name_y, tt));
        result = refl;
        registers = (refl, tt);
        operands = ((refl, tt), tt);
        flags = tt;
        cases = tt;
        linkage = refl;
        extensions = (refl, (refl, tt));
      },
      tt,
    );
    declarations = refl;
  }),
)

pub void_parameters_are_not : VoidParametersAreNot
void_parameters_are_not = (
  λ shape. no_values Void at_void shape.functions.0.registers.0,
  (defined void_parameter (block y [] (Int 32) (number 0)) [] refl refl (tt, tt), tt),
  λ range. no_void range.functions.0.registers.0,
)

pub void_numbers_are_not : VoidNumbersAreNot
void_numbers_are_not = (
  λ shape. is_no_number (alone void_number) Void 0 refl shape.functions.0.operands.0,
  (defined void_number (block y [] Void (number 0)) [] refl refl (tt, tt), tt),
)

-- ---- lines and phis

pub lines_without_operators_are_not : LinesWithoutOperatorsAreNot
lines_without_operators_are_not = (
  λ shape. shape.functions.0.each.0.lines.0,
  (defined no_operator _ [] refl refl ((tt, tt), ((zero, omega arith, refl), tt)), tt),
  wide _ (record {
    types = tt;
    globals = refl;
    functions = (
      record {
        name = name_f;
        names = (name_f, (name_x, tt));
        result = refl;
        registers = (refl, tt);
        operands = ((refl, refl), ((refl, tt), tt));
        flags = (tt, tt);
        cases = tt;
        linkage = refl;
        extensions = (refl, tt);
      },
      tt,
    );
    declarations = refl;
  }),
)

pub phis_of_no_edge_are_not : PhisOfNoEdgeAreNot
phis_of_no_edge_are_not = (
  λ shape.
      let many : 1 ≡ 0 = length_permutation _ _ shape.functions.0.each.0.phis.0.edges in
      absurd (omega (arith, many)),
  (defined phi_of_no_edge _ [] refl refl ((zero, omega arith, refl), tt), tt),
  wide _ (record {
    types = tt;
    globals = refl;
    functions = (
      record {
        name = name_f;
        names = (name_y, (name_x, tt));
        result = refl;
        registers = (refl, tt);
        operands = ((refl, refl), ((refl, tt), tt));
        flags = tt;
        cases = tt;
        linkage = refl;
        extensions = (refl, tt);
      },
      tt,
    );
    declarations = refl;
  }),
)

pub phis_of_nothing_are_not : PhisOfNothingAreNot
phis_of_nothing_are_not = (
  λ shape.
      let some : 0 < 0 = shape.functions.0.each.0.phis.0.some in
      absurd (omega (arith, some)),
  (defined phi_of_nothing _ [] refl refl ((zero, omega arith, refl), tt), tt),
  wide _ (record {
    types = tt;
    globals = refl;
    functions = (
      record {
        name = name_f;
        names = (name_y, (name_x, tt));
        result = refl;
        registers = (refl, tt);
        operands = ((refl, tt), tt);
        flags = tt;
        cases = tt;
        linkage = refl;
        extensions = (refl, tt);
      },
      tt,
    );
    declarations = refl;
  }),
)

-- ---- names and blocks

returning_in_range : (name : Name) → IsNameInRange name → IsNarrowFunction (returning name)
returning_in_range name h = record {
  name = h;
  names = (name_x, tt);
  result = refl;
  registers = tt;
  operands = ((refl, refl), tt);
  flags = tt;
  cases = tt;
  linkage = refl;
  extensions = (refl, tt);
}

returning_defined : (name : Name) → IsFunctionDefined (returning name)
returning_defined name = defined (returning name) (block x [] (Int 32) (number 0)) [] refl refl (tt, tt)

pub functions_of_one_name_are_not : FunctionsOfOneNameAreNot
functions_of_one_name_are_not = (
  λ shape. shape.names.1.0 (zero, omega arith, refl),
  (returning_defined f, (returning_defined f, tt)),
  wide _ (record { types = tt; globals = refl; functions = (returning_in_range f name_f, (returning_in_range f name_f, tt)); declarations = refl }),
)

pub names_set_twice_are_not : NamesSetTwiceAreNot
names_set_twice_are_not = (
  λ shape. shape.functions.0.names.1.1.0 (1, omega arith, refl),
  (defined name_set_twice _ [] refl refl ((tt, (tt, tt)), ((tt, (tt, tt)), ((1, omega arith, refl), tt))), tt),
  wide _ (record {
    types = tt;
    globals = refl;
    functions = (
      record {
        name = name_f;
        names = (name_f, (name_x, (name_x, tt)));
        result = refl;
        registers = (refl, (refl, tt));
        operands = ((refl, refl), ((refl, refl), ((refl, refl), ((refl, refl), ((refl, tt), tt)))));
        flags = (refl, (refl, tt));
        cases = tt;
        linkage = refl;
        extensions = (refl, tt);
      },
      tt,
    );
    declarations = refl;
  }),
)

pub debug_names_are_not : DebugNamesAreNot
debug_names_are_not = (
  λ shape.
      let name : true ≡ false = shape.functions.0.name in
      cc,
  (returning_defined (Text (codes "llvm.dbg.value")), tt),
  wide _ (record {
    types = tt;
    globals = refl;
    functions = (
      returning_in_range (Text (codes "llvm.dbg.value")) (omega arith, (omega arith, (omega arith, (omega arith, (omega arith, (omega arith, (omega arith, (omega arith, (omega arith, (omega arith, (omega arith, (omega arith, (omega arith, (omega arith, (omega arith, tt))))))))))))))),
      tt,
    );
    declarations = refl;
  }),
)

pub functions_without_blocks_are_not : FunctionsWithoutBlocksAreNot
functions_without_blocks_are_not = (
  λ shape.
      let blocks : [] ≡ shape.functions.0.first ∷ shape.functions.0.further = shape.functions.0.blocks in
      cc,
  (
    λ first further path blocks goes.
        let none : [] ≡ first ∷ further = blocks in
        absurd cc,
    tt,
  ),
  wide _ (record {
    types = tt;
    globals = refl;
    functions = (
      record {
        name = name_f;
        names = tt;
        result = refl;
        registers = tt;
        operands = tt;
        flags = tt;
        cases = tt;
        linkage = refl;
        extensions = (refl, tt);
      },
      tt,
    );
    declarations = refl;
  }),
)
