-- Modules of blocks that return: which parts of well-formedness they have.
use Rattle.std.proofs.Common.{◌≡◌, suc, zero, true, false, List, [], ◌∷◌, refl, ap, subst, arith}
use Rattle.std.specs.List.{Contains}
use Rattle.ir_core.specs.declared.functions.Block.{Block}
use Rattle.ir_core.specs.declared.functions.Function.{Function}
use Rattle.ir_types.specs.declared.names.Name.{Name}
use Rattle.ir_types.specs.declared.names.Name.TheVariants.{Text}
use Rattle.ir_core.specs.declared.operands.Atom.TheVariants.{Register}
use Rattle.ir_types.specs.declared.ty.Ty.TheVariants.{Int}
use Rattle.ir_core.specs.Examples.{add, block, early_use, empty_name, f, function, number, two_blocks, wide_number, x, y}
use Rattle.ir_core.specs.Functions.{names_in, params_of, successors_of}
use Rattle.ir_core.specs.Laws.{EarlyUsesAreNot, EmptyNamesAreNot, TwoBlocksAreWellFormed, WideNumbersAreNot}
use Rattle.ir_core.specs.Ranges.{IsNameInRange}
use Rattle.ir_types.specs.Same.{same_name}
use Rattle.ir_core.specs.WellFormed.{BlockUsesDefined, IsFunctionDefined}
use Rattle.ir_core.proofs.Narrow.{wide}
use Rattle.ir_core.proofs.TypeNames.{at_int}
use Rattle.ir_core.proofs.Typing.{in_number, nameless, number_is}
use Rattle.ir_core.proofs.Within.{well_formed}

pub in_none : (name : Name) → Contains [] name → ⊥
in_none name there = absurd (omega (arith, there.1))

pub in_one : (a b : Name) → same_name a b ≡ false → same_name a a ≡ true → Contains (a ∷ []) b → ⊥
in_one a b other same (zero, inside, is) =
    let both : same_name a a ≡ same_name a b = ap (same_name a) is in cc
in_one a b other same (suc k, inside, is) = absurd (omega (arith, inside))

pub in_two : (a b c : Name) → same_name a c ≡ false → same_name a a ≡ true → same_name b c ≡ false → same_name b b ≡ true → Contains (a ∷ b ∷ []) c → ⊥
in_two a b c other same further also (zero, inside, is) =
    let both : same_name a a ≡ same_name a c = ap (same_name a) is in cc
in_two a b c other same further also (suc k, inside, is) = in_one b c further also (k, omega (arith, inside), is)

-- where the first block leads to no other and uses what is defined, each path does: it goes no further
pub defined : (g : Function) (b : Block) (more : List Block) → g.blocks ≡ b ∷ more → successors_of b.term ≡ [] → BlockUsesDefined (names_in (params_of g)) b → IsFunctionDefined g
defined g b more are last uses first further [] blocks path =
    let same : b ≡ first = cc (are, blocks) in
    subst (BlockUsesDefined (names_in (params_of g))) same uses
defined g b more are last uses first further (c ∷ path) blocks goes =
    let same : b ≡ first = cc (are, blocks) in
    let none : successors_of first.term ≡ [] = subst (λ (a : Block). successors_of a.term ≡ []) same last in
    let there = subst (λ names. Contains names c.name) none goes.1 in
    absurd (in_none c.name there)

pub name_f : IsNameInRange f
name_f = (omega arith, (omega arith, tt))

pub name_x : IsNameInRange x
name_x = (omega arith, (omega arith, tt))

pub name_y : IsNameInRange y
name_y = (omega arith, (omega arith, tt))

pub two_blocks_are_well_formed : TwoBlocksAreWellFormed
two_blocks_are_well_formed = well_formed _ (record {
  types_apart = tt;
  types = tt;
  globals = tt;
  functions = (
    record {
      first = block x [] (Int 32) (number 0);
      further = block y [] (Int 32) (number 0) ∷ [];
      blocks = refl;
      not_entered = refl;
      name = refl;
      names = (in_none x, (in_one x y refl refl, tt));
      types = nameless (function (Int 32) f (block x [] (Int 32) (number 0) ∷ block y [] (Int 32) (number 0) ∷ [])) (simp (in_number, at_int) refl);
      result = refl;
      registers = tt;
      operands = (number_is two_blocks (Int 32) 0, (number_is two_blocks (Int 32) 0, tt));
      each = (record { phis = tt; lines = tt; labels = tt; branches = tt; returns = refl; cases = tt }, (record { phis = tt; lines = tt; labels = tt; branches = tt; returns = refl; cases = tt }, tt));
    },
    tt,
  );
  declarations = tt;
  names = (in_none f, tt);
}) ((defined (function (Int 32) f (block x [] (Int 32) (number 0) ∷ block y [] (Int 32) (number 0) ∷ [])) (block x [] (Int 32) (number 0)) (block y [] (Int 32) (number 0) ∷ []) refl refl (tt, tt), tt)) (record {
  types = tt;
  globals = refl;
  functions = (
    record {
      name = name_f;
      names = (name_x, (name_y, tt));
      result = refl;
      registers = tt;
      operands = ((refl, refl), ((refl, refl), tt));
      flags = tt;
      cases = tt;
      linkage = refl;
      extensions = (refl, tt);
    },
    tt,
  );
  declarations = refl;
}) (omega arith, tt)

pub empty_names_are_not : EmptyNamesAreNot
empty_names_are_not = (
  record {
    types_apart = tt;
    types = tt;
    globals = tt;
    functions = (
      record {
        first = block x [] (Int 32) (number 0);
        further = [];
        blocks = refl;
        not_entered = refl;
        name = refl;
        names = (in_none x, tt);
        types = nameless (function (Int 32) (Text []) (block x [] (Int 32) (number 0) ∷ [])) (simp (in_number, at_int) refl);
        result = refl;
        registers = tt;
        operands = (number_is empty_name (Int 32) 0, tt);
        each = (record { phis = tt; lines = tt; labels = tt; branches = tt; returns = refl; cases = tt }, tt);
      },
      tt,
    );
    declarations = tt;
    names = (in_none _, tt);
  },
  (defined (function (Int 32) (Text []) (block x [] (Int 32) (number 0) ∷ [])) (block x [] (Int 32) (number 0)) [] refl refl (tt, tt), tt),
  λ range. absurd (omega (arith, range.functions.0.name.0)),
)

pub early_uses_are_not : EarlyUsesAreNot
early_uses_are_not = (
  record {
    types_apart = tt;
    types = tt;
    globals = tt;
    functions = (
      record {
        first = block f (add x (Register y) (number 0) ∷ add y (number 1) (number 2) ∷ []) (Int 32) (Register x);
        further = [];
        blocks = refl;
        not_entered = refl;
        name = refl;
        names = (in_none f, (in_one f x refl refl, (in_two f x y refl refl refl refl, tt)));
        types = nameless (function (Int 32) f (block f (add x (Register y) (number 0) ∷ add y (number 1) (number 2) ∷ []) (Int 32) (Register x) ∷ [])) (simp (in_number, at_int) refl);
        result = refl;
        registers = (refl, (refl, tt));
        operands = ((1, omega arith, refl), (number_is early_use (Int 32) 0, (number_is early_use (Int 32) 1, (number_is early_use (Int 32) 2, ((0, omega arith, refl), tt)))));
        each = (record { phis = tt; lines = (refl, (refl, tt)); labels = tt; branches = tt; returns = refl; cases = tt }, tt);
      },
      tt,
    );
    declarations = tt;
    names = (in_none f, tt);
  },
  λ defined.
      let uses = defined.0 (block f (add x (Register y) (number 0) ∷ add y (number 1) (number 2) ∷ []) (Int 32) (Register x)) [] [] refl tt in
      in_none y uses.0.0,
  wide _ (record {
    types = tt;
    globals = refl;
    functions = (
      record {
        name = name_f;
        names = (name_f, (name_x, (name_y, tt)));
        result = refl;
        registers = (refl, (refl, tt));
        operands = ((refl, tt), ((refl, refl), ((refl, refl), ((refl, refl), ((refl, tt), tt)))));
        flags = (refl, (refl, tt));
        cases = tt;
        linkage = refl;
        extensions = (refl, tt);
      },
      tt,
    );
    declarations = refl;
  }),
)

pub wide_numbers_are_not : WideNumbersAreNot
wide_numbers_are_not = (
  record {
    types_apart = tt;
    types = tt;
    globals = tt;
    functions = (
      record {
        first = block x [] (Int 8) (number 256);
        further = [];
        blocks = refl;
        not_entered = refl;
        name = refl;
        names = (in_none x, tt);
        types = nameless (function (Int 8) f (block x [] (Int 8) (number 256) ∷ [])) (simp (in_number, at_int) refl);
        result = refl;
        registers = tt;
        operands = (number_is wide_number (Int 8) 256, tt);
        each = (record { phis = tt; lines = tt; labels = tt; branches = tt; returns = refl; cases = tt }, tt);
      },
      tt,
    );
    declarations = tt;
    names = (in_none f, tt);
  },
  (defined (function (Int 8) f (block x [] (Int 8) (number 256) ∷ [])) (block x [] (Int 8) (number 256)) [] refl refl (tt, tt), tt),
  λ range. let wide = range.functions.0.operands.0.1 in cc,
)
