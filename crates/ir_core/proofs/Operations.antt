-- Functions of one line: which conversions, selections, comparisons and flags are well-formed.
use Rattle.std.proofs.Common.{◌≡◌, ℕ, zero, true, false, [], refl, ap, arith}
use Rattle.ir_core.specs.declared.modules.Module.{Module}
use Rattle.ir_core.specs.declared.operands.BinOp.{BinOp}
use Rattle.ir_core.specs.declared.operands.BinOp.TheVariants.{Add, UDiv, And}
use Rattle.ir_core.specs.declared.operands.CastOp.{CastOp}
use Rattle.ir_core.specs.declared.operands.CastOp.TheVariants.{ZExt, SExt, Trunc, BitCast}
use Rattle.ir_core.specs.declared.operands.Flags.{Flags}
use Rattle.ir_types.specs.declared.ty.Ty.{Ty}
use Rattle.ir_types.specs.declared.ty.Ty.TheVariants.{Int, Void}
use Rattle.ir_core.specs.Examples.{alone, compared, f, of_cast, of_flags, of_select, returning_nothing, x}
use Rattle.ir_core.specs.Laws.{ComparisonsGiveBits, ConversionsChangeWidths, FlagsHaveOperators, LacksShapeAlone, SelectionsHaveOneType, VoidReturns}
use Rattle.ir_core.proofs.Narrow.{IsNarrow, IsNarrowResult, wide}
use Rattle.ir_core.specs.Ranges.{IsInRange, may_have}
use Rattle.ir_types.specs.Same.{same_ty}
use Rattle.ir_core.specs.Types.{converts, fits, is_width}
use Rattle.ir_core.specs.WellFormed.{HasShape, IsDefined, IsWellFormed}
use Rattle.ir_core.proofs.TypeNames.{at_int, at_void}
use Rattle.ir_core.proofs.Typing.{in_number, nameless, number_is}
use Rattle.ir_core.proofs.Within.{well_formed}
use Rattle.ir_core.proofs.WellFormed.{defined, in_none, in_one, name_f, name_x}

pub other_type : (v w : Ty) → same_ty v v ≡ true → same_ty v w ≡ false → v ≡ w → ⊥
other_type v w same other e =
    let both : same_ty v v ≡ same_ty v w = ap (same_ty v) e in cc

-- ---- conversions

cast_shape : (op : CastOp) (v w : ℕ) → converts op (Int v) (Int w) ≡ true → HasShape (alone (of_cast op (Int v) (Int w)))
cast_shape op v w h = record {
  types_apart = tt;
  types = tt;
  globals = tt;
  functions = (
    record {
      first = _;
      further = [];
      blocks = refl;
      not_entered = refl;
      name = refl;
      names = (in_none f, (in_one f x refl refl, tt));
      types = nameless (of_cast op (Int v) (Int w)) (simp (in_number, at_int) refl);
      result = refl;
      registers = (refl, tt);
      operands = (number_is (alone (of_cast op (Int v) (Int w))) (Int v) 1, (number_is (alone (of_cast op (Int v) (Int w))) (Int 32) 0, tt));
      each = (record { phis = tt; lines = (h, tt); labels = tt; branches = tt; returns = refl; cases = tt }, tt);
    },
    tt,
  );
  declarations = tt;
  names = (in_none f, tt);
}

cast_defined : (op : CastOp) (v w : ℕ) → IsDefined (alone (of_cast op (Int v) (Int w)))
cast_defined op v w = (defined (of_cast op (Int v) (Int w)) _ [] refl refl ((tt, tt), (tt, tt)), tt)

cast_range : (op : CastOp) (v w : ℕ) → is_width v ≡ true → fits 1 v ≡ true → is_width w ≡ true → IsNarrow (alone (of_cast op (Int v) (Int w)))
cast_range op v w width one to = record {
  types = tt;
  globals = refl;
  functions = (
    record {
      name = name_f;
      names = (name_f, (name_x, tt));
      result = refl;
      registers = (to, tt);
      operands = ((width, one), ((refl, refl), tt));
      flags = (tt, tt);
      cases = tt;
      linkage = refl;
      extensions = (refl, tt);
    },
    tt,
  );
  declarations = refl;
}

cast_stands : (op : CastOp) (v w : ℕ) → converts op (Int v) (Int w) ≡ true → is_width v ≡ true → fits 1 v ≡ true → is_width w ≡ true
    → IsWellFormed (alone (of_cast op (Int v) (Int w)))
cast_stands op v w h width one to = well_formed _ (cast_shape op v w h) (cast_defined op v w) (cast_range op v w width one to) (omega arith, tt)

no_conversion : (op : CastOp) (v w : ℕ) → converts op (Int v) (Int w) ≡ false → converts op (Int v) (Int w) ≡ true → ⊥
no_conversion op v w not is = cc

cast_lacks : (op : CastOp) (v w : ℕ) → converts op (Int v) (Int w) ≡ false → is_width v ≡ true → fits 1 v ≡ true → is_width w ≡ true
    → LacksShapeAlone (alone (of_cast op (Int v) (Int w)))
cast_lacks op v w not width one to = (λ shape. no_conversion op v w not shape.functions.0.each.0.lines.0, cast_defined op v w, wide _ (cast_range op v w width one to))

pub conversions_change_widths : ConversionsChangeWidths
conversions_change_widths = record {
  zext = cast_stands ZExt 8 16 refl refl refl refl;
  sext = cast_stands SExt 8 16 refl refl refl refl;
  trunc = cast_stands Trunc 16 8 refl refl refl refl;
  bitcast = cast_stands BitCast 8 8 refl refl refl refl;
  zext_same = cast_lacks ZExt 8 8 refl refl refl refl;
  zext_narrower = cast_lacks ZExt 16 8 refl refl refl refl;
  sext_same = cast_lacks SExt 8 8 refl refl refl refl;
  sext_narrower = cast_lacks SExt 16 8 refl refl refl refl;
  trunc_same = cast_lacks Trunc 8 8 refl refl refl refl;
  trunc_wider = cast_lacks Trunc 8 16 refl refl refl refl;
  bitcast_wider = cast_lacks BitCast 8 16 refl refl refl refl;
}

-- ---- selections

select_defined : (c l r : ℕ) → IsDefined (alone (of_select (Int c) (Int l) (Int r)))
select_defined c l r = (defined (of_select (Int c) (Int l) (Int r)) _ [] refl refl ((tt, (tt, (tt, tt))), (tt, tt)), tt)

select_range : (c l r : ℕ) → is_width c ≡ true → fits 1 c ≡ true → is_width l ≡ true → fits 1 l ≡ true → is_width r ≡ true → fits 1 r ≡ true
    → IsNarrow (alone (of_select (Int c) (Int l) (Int r)))
select_range c l r c_width c_fits l_width l_fits r_width r_fits = record {
  types = tt;
  globals = refl;
  functions = (
    record {
      name = name_f;
      names = (name_f, (name_x, tt));
      result = refl;
      registers = (l_width, tt);
      operands = ((c_width, c_fits), ((l_width, l_fits), ((r_width, r_fits), ((refl, refl), tt))));
      flags = (tt, tt);
      cases = tt;
      linkage = refl;
      extensions = (refl, tt);
    },
    tt,
  );
  declarations = refl;
}

abbrev selecting_one : Module
selecting_one = alone (of_select (Int 1) (Int 8) (Int 8))

pub selections_have_one_type : SelectionsHaveOneType
selections_have_one_type = record {
  select = well_formed _ (record {
    types_apart = tt;
    types = tt;
    globals = tt;
    functions = (
      record {
        first = _;
        further = [];
        blocks = refl;
        not_entered = refl;
        name = refl;
        names = (in_none f, (in_one f x refl refl, tt));
        types = nameless (of_select (Int 1) (Int 8) (Int 8)) (simp (in_number, at_int) refl);
        result = refl;
        registers = (refl, tt);
        operands = (number_is selecting_one (Int 1) 1, (number_is selecting_one (Int 8) 1, (number_is selecting_one (Int 8) 1, (number_is selecting_one (Int 32) 0, tt))));
        each = (record { phis = tt; lines = ((refl, refl), tt); labels = tt; branches = tt; returns = refl; cases = tt }, tt);
      },
      tt,
    );
    declarations = tt;
    names = (in_none f, tt);
  }) (select_defined 1 8 8) (select_range 1 8 8 refl refl refl refl refl refl) (omega arith, tt);
  wide_condition = (
    λ shape. other_type (Int 8) (Int 1) refl refl shape.functions.0.each.0.lines.0.0,
    select_defined 8 8 8,
    wide _ (select_range 8 8 8 refl refl refl refl refl refl),
  );
  two_types = (
    λ shape. other_type (Int 8) (Int 16) refl refl shape.functions.0.each.0.lines.0.1,
    select_defined 1 8 16,
    wide _ (select_range 1 8 16 refl refl refl refl refl refl),
  );
}

-- ---- comparisons

pub comparisons_give_bits : ComparisonsGiveBits
comparisons_give_bits = well_formed _ (record {
  types_apart = tt;
  types = tt;
  globals = tt;
  functions = (
    record {
      first = _;
      further = [];
      blocks = refl;
      not_entered = refl;
      name = refl;
      names = (in_none f, (in_one f x refl refl, tt));
      types = nameless compared (simp (in_number, at_int) refl);
      result = refl;
      registers = (refl, tt);
      operands = (number_is (alone compared) (Int 8) 1, (number_is (alone compared) (Int 8) 1, ((zero, omega arith, refl), tt)));
      each = (record { phis = tt; lines = (refl, tt); labels = tt; branches = tt; returns = refl; cases = tt }, tt);
    },
    tt,
  );
  declarations = tt;
  names = (in_none f, tt);
}) ((defined compared _ [] refl refl ((tt, (tt, tt)), ((zero, omega arith, refl), tt)), tt)) (record {
  types = tt;
  globals = refl;
  functions = (
    record {
      name = name_f;
      names = (name_f, (name_x, tt));
      result = refl;
      registers = (refl, tt);
      operands = ((refl, refl), ((refl, refl), ((refl, tt), tt)));
      flags = (tt, tt);
      cases = tt;
      linkage = refl;
      extensions = (refl, tt);
    },
    tt,
  );
  declarations = refl;
}) (omega arith, tt)

-- ---- flags

flags_shape : (op : BinOp) (flags : Flags) → HasShape (alone (of_flags op flags))
flags_shape op flags = record {
  types_apart = tt;
  types = tt;
  globals = tt;
  functions = (
    record {
      first = _;
      further = [];
      blocks = refl;
      not_entered = refl;
      name = refl;
      names = (in_none f, (in_one f x refl refl, tt));
      types = nameless (of_flags op flags) (simp (in_number, at_int) refl);
      result = refl;
      registers = (refl, tt);
      operands = (number_is (alone (of_flags op flags)) (Int 8) 1, (number_is (alone (of_flags op flags)) (Int 8) 1, (number_is (alone (of_flags op flags)) (Int 32) 0, tt)));
      each = (record { phis = tt; lines = (refl, tt); labels = tt; branches = tt; returns = refl; cases = tt }, tt);
    },
    tt,
  );
  declarations = tt;
  names = (in_none f, tt);
}

flags_defined : (op : BinOp) (flags : Flags) → IsDefined (alone (of_flags op flags))
flags_defined op flags = (defined (of_flags op flags) _ [] refl refl ((tt, (tt, tt)), (tt, tt)), tt)

flags_stand : (op : BinOp) (flags : Flags) → may_have op flags ≡ true → IsWellFormed (alone (of_flags op flags))
flags_stand op flags h = well_formed _ (flags_shape op flags) (flags_defined op flags) (record {
  types = tt;
  globals = refl;
  functions = (
    record {
      name = name_f;
      names = (name_f, (name_x, tt));
      result = refl;
      registers = (refl, tt);
      operands = ((refl, refl), ((refl, refl), ((refl, refl), tt)));
      flags = (h, tt);
      cases = tt;
      linkage = refl;
      extensions = (refl, tt);
    },
    tt,
  );
  declarations = refl;
}) (omega arith, tt)

may_not : (op : BinOp) (flags : Flags) → may_have op flags ≡ false → IsInRange (alone (of_flags op flags)) → ⊥
may_not op flags not range =
    let may : may_have op flags ≡ true = range.functions.0.lines.0 in
    cc

pub flags_have_operators : FlagsHaveOperators
flags_have_operators = record {
  wraps = flags_stand Add _ refl;
  leaves = flags_stand UDiv _ refl;
  add_exact = (flags_shape Add _, flags_defined Add _, may_not Add _ refl);
  udiv_nuw = (flags_shape UDiv _, flags_defined UDiv _, may_not UDiv _ refl);
  and_nsw = (flags_shape And _, flags_defined And _, may_not And _ refl);
}

-- ---- `ret void`

nothing_defined : (ty : Ty) → IsDefined (alone (returning_nothing ty))
nothing_defined ty = (defined (returning_nothing ty) _ [] refl refl tt, tt)

nothing_range : (ty : Ty) → IsNarrowResult ty → IsNarrow (alone (returning_nothing ty))
nothing_range ty result = record {
  types = tt;
  globals = refl;
  functions = (
    record {
      name = name_f;
      names = (name_f, tt);
      result = result;
      registers = tt;
      operands = tt;
      flags = tt;
      cases = tt;
      linkage = refl;
      extensions = (refl, tt);
    },
    tt,
  );
  declarations = refl;
}

pub void_returns : VoidReturns
void_returns = record {
  void = well_formed _ (record {
    types_apart = tt;
    types = tt;
    globals = tt;
    functions = (
      record {
        first = _;
        further = [];
        blocks = refl;
        not_entered = refl;
        name = refl;
        names = (in_none f, tt);
        types = nameless (returning_nothing Void) (simp (at_void) refl);
        result = tt;
        registers = tt;
        operands = tt;
        each = (record { phis = tt; lines = tt; labels = tt; branches = tt; returns = refl; cases = tt }, tt);
      },
      tt,
    );
    declarations = tt;
    names = (in_none f, tt);
  }) (nothing_defined Void) (nothing_range Void tt) (omega arith, tt);
  other = (
    λ shape. other_type (Int 32) Void refl refl shape.functions.0.each.0.returns,
    nothing_defined (Int 32),
    wide _ (nothing_range (Int 32) refl),
  );
}
