-- The tree with a line of each kind names its module: part by part.
use Rattle.std.proofs.Common.{true, Some, [], ◌∷◌, refl, arith}
use Rattle.std.specs.List.{Contains}
use Rattle.ir_core.specs.Order.{AreInOrder}
use Rattle.ir_core.specs.Functions.{names_of}
use Rattle.ir_core.specs.Typing.{Signature}
use Rattle.ir_types.specs.declared.names.Name.{Name}
use Rattle.ir_types.specs.declared.names.Name.TheVariants.{Number}
use Rattle.ir_types.specs.declared.ty.Ty.{Ty, Int, Ptr}
use Rattle.named_modules.specs.Functions.{labels_of, registers_of}
use Rattle.named_modules.specs.Values.{IsRegister}
use Rattle.module_texts.proofs.NamedModuleLaws.Fits.{named}
use Rattle.module_texts.proofs.NamedModuleLaws.New.{are_new}
use Rattle.module_texts.specs.NamedModuleLaws.NamedLines.{EachKindOfLineIsNamed, every_kind, named_kinds}
use Rattle.module_texts.specs.NamedModuleLaws.Words.{b, g, x, y, z}

abbrev Has : Ty → Name → Type 0
Has = IsRegister (registers_of named_kinds every_kind)

has_x : Has (Int 8) x
has_x = (Some (Int 8), (0, omega arith, refl), refl)

has_y : Has (Ptr (Int 8)) y
has_y = (Some (Ptr (Int 8)), (1, omega arith, refl), refl)

has_z : Has (Int 1) z
has_z = (Some (Int 1), (2, omega arith, refl), refl)

has_1 : Has (Int 32) (Number 1)
has_1 = (Some (Int 32), (3, omega arith, refl), refl)

has_2 : Has (Int 32) (Number 2)
has_2 = (Some (Int 32), (4, omega arith, refl), refl)

has_3 : Has (Ptr (Int 8)) (Number 3)
has_3 = (Some (Ptr (Int 8)), (5, omega arith, refl), refl)

has_4 : Has (Ptr (Int 8)) (Number 4)
has_4 = (Some (Ptr (Int 8)), (6, omega arith, refl), refl)

has_5 : Has (Int 8) (Number 5)
has_5 = (Some (Int 8), (7, omega arith, refl), refl)

has_6 : Has (Int 8) (Number 6)
has_6 = (Some (Int 8), (8, omega arith, refl), refl)

has_8 : Has (Int 8) (Number 8)
has_8 = (Some (Int 8), (9, omega arith, refl), refl)

-- the blocks
at_0 : Contains (labels_of every_kind) (Number 0)
at_0 = (0, omega arith, refl)

at_7 : Contains (labels_of every_kind) (Number 7)
at_7 = (1, omega arith, refl)

at_b : Contains (labels_of every_kind) b
at_b = (2, omega arith, refl)

abbrev called : Signature
called = record { result = Int 8; params = Int 8 ∷ []; variadic = true }

in_order : AreInOrder (names_of every_kind)
in_order = (
  are_new [] (names_of every_kind) refl,
  9,
  (0, refl, (0, refl, (1, (refl, refl), (1, refl, (2, (refl, refl), (3, (refl, refl), (4, (refl, refl), (5, (refl, refl), (6, (refl, refl), (7, (refl, refl), (8, (refl, refl), (9, (refl, refl), (9, refl, refl))))))))))))),
)

pub each_kind_of_line_is_named : EachKindOfLineIsNamed
each_kind_of_line_is_named = record {
  types = tt;
  globals = tt;
  functions = (
    record {
      linkage = refl;
      extensions = refl;
      result = refl;
      name = refl;
      params = ((refl, (simp named refl, simp named refl), refl), ((refl, (simp named refl, simp named refl), refl), tt));
      blocks = (
        record {
          label = omega arith;
          phis = tt;
          lines = (
            (refl, (tt, (tt, (tt, (tt, (tt, (tt, (tt, (tt, tt))))))))),
            (
              (refl, (refl, ((simp named refl, simp named refl), (refl, has_x)), (simp named refl, simp named refl))),
              (
                (omega arith, (refl, ((simp named refl, simp named refl), (refl, has_z)), (simp named refl, simp named refl))),
                (
                  (omega arith, (((simp named refl, simp named refl), (refl, has_z)), ((simp named refl, simp named refl), (refl, has_1)), ((simp named refl, simp named refl), (simp named refl, simp named refl)))),
                  (
                    (omega arith, (refl, (simp named refl, simp named refl), ((simp named refl, simp named refl), (refl, has_y)), (((simp named refl, simp named refl), (refl, has_2)), tt), refl)),
                    (
                      (omega arith, ((simp named refl, simp named refl), refl, ((refl, simp named refl), simp named refl), (refl, refl, ((3, refl), omega arith)))),
                      (
                        (omega arith, ((simp named refl, simp named refl), ((simp named refl, simp named refl), (refl, has_3)), refl)),
                        (
                          (refl, (((simp named refl, simp named refl), (refl, has_5)), ((simp named refl, simp named refl), (simp named refl, simp named refl)), (refl, refl, ((2, refl), omega arith)))),
                          (
                            (
                              (omega arith, λ e. cc),
                              record {
                                extensions = refl;
                                result = (simp named refl, simp named refl);
                                callee = refl;
                                signature = called;
                                known = (1, omega arith, refl);
                                called = (((simp named refl, simp named refl), tt), refl);
                                arguments = ((((simp named refl, simp named refl), (simp named refl, simp named refl)), refl), ((((simp named refl, simp named refl), (refl, has_4)), refl), tt));
                              },
                            ),
                            tt,
                          ),
                        ),
                      ),
                    ),
                  ),
                ),
              ),
            ),
          );
          ends = (((simp named refl, simp named refl), (refl, has_z)), (at_7, refl), (at_b, refl));
        },
        (
          record {
            label = omega arith;
            phis = ((omega arith, (simp named refl, simp named refl), (((refl, has_6), (at_0, refl)), tt)), tt);
            lines = (tt, tt);
            ends = (((simp named refl, simp named refl), (refl, has_8)), (at_b, refl), (((simp named refl, simp named refl), simp named refl, (at_b, refl)), tt));
          },
          (record { label = refl; phis = tt; lines = (tt, tt); ends = tt }, tt),
        ),
      );
      order = in_order;
      few = omega arith;
    },
    tt,
  );
  declarations = (
    record {
      before = refl;
      extensions = refl;
      result = (simp named refl, simp named refl);
      name = refl;
      params = ((((simp named refl, simp named refl), refl), tt), refl);
    },
    tt,
  );
  type_order = (tt, 0, refl);
  order = (are_new [] (g ∷ every_kind.name ∷ []) refl, 0, (0, refl, (0, refl, refl)));
}
