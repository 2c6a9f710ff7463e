-- The tree with an item of each sort names its module: part by part.
use Rattle.std.proofs.Common.{false, [], ◌∷◌, Some, refl, arith}
use Rattle.std.specs.List.{Contains}
use Rattle.ir_core.specs.Typing.{Signature}
use Rattle.ir_types.specs.declared.names.Name.TheVariants.{Number}
use Rattle.ir_types.specs.declared.ty.Ty as ty
use Rattle.named_modules.specs.Functions.{registers_of}
use Rattle.module_texts.specs.NamedModuleLaws.NamedTrees.{EachSortIsNamed, named_sorts, sole}
use Rattle.module_texts.specs.NamedModuleLaws.Words.{f, g, x, y, z}
use Rattle.module_texts.proofs.NamedModuleLaws.Fits.{named}
use Rattle.module_texts.proofs.NamedModuleLaws.New.{are_new}

-- the registers, and the functions
has_x : Contains (registers_of named_sorts sole) (x, Some (ty.Int 8))
has_x = (0, omega arith, refl)

has_z : Contains (registers_of named_sorts sole) (z, Some (ty.Int 8))
has_z = (1, omega arith, refl)

abbrev called : Signature
called = record { result = ty.Void; params = ty.Int 8 ∷ []; variadic = false }

pub each_sort_is_named : EachSortIsNamed
each_sort_is_named = record {
  types = ((refl, ((simp named refl, simp named refl), tt)), tt);
  globals = (
    record {
      name = refl;
      word = refl;
      ty = (simp named refl, simp named refl);
      held = (refl, (simp named refl, simp named refl));
      align = (refl, refl, ((2, refl), omega arith));
    },
    tt,
  );
  functions = (
    record {
      linkage = refl;
      extensions = refl;
      result = (simp named refl, simp named refl);
      name = refl;
      params = ((refl, (simp named refl, simp named refl), refl), tt);
      blocks = (
        record {
          label = omega arith;
          phis = tt;
          lines = (
            (tt, (tt, tt)),
            (
              (refl, (refl, refl, ((simp named refl, simp named refl), (refl, (Some (ty.Int 8), has_x, refl))), (simp named refl, simp named refl))),
              (
                (
                  (refl, refl),
                  record {
                    extensions = refl;
                    result = refl;
                    callee = refl;
                    signature = called;
                    known = (1, omega arith, refl);
                    called = refl;
                    arguments = ((((simp named refl, simp named refl), (refl, (Some (ty.Int 8), has_z, refl))), refl), tt);
                  },
                ),
                tt,
              ),
            ),
          );
          ends = ((simp named refl, simp named refl), (refl, (Some (ty.Int 8), has_z, refl)));
        },
        tt,
      );
      order = (
        are_new [] (x ∷ Number 0 ∷ z ∷ []) refl,
        1,
        (0, refl, (1, (refl, refl), (1, refl, refl))),
      );
      few = omega arith;
    },
    tt,
  );
  declarations = (record { before = refl; extensions = refl; result = refl; name = refl; params = ((((simp named refl, simp named refl), refl), tt), refl) }, tt);
  type_order = (are_new [] (x ∷ []) refl, 0, (0, refl, refl));
  order = (
    are_new [] (y ∷ g ∷ f ∷ []) refl,
    0,
    (0, refl, (0, refl, (0, refl, refl))),
  );
}
