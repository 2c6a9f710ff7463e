-- Modules of named types alone: which parts of well-formedness they have.
use Rattle.std.proofs.Common.{◌≡◌, ℕ, zero, List, [], ◌∷◌, refl, subst, sym, arith}
use Rattle.std.specs.List.{AllByRecursion, Contains}
use Rattle.ir_types.specs.declared.named.NamedTy.{NamedTy}
use Rattle.ir_types.specs.declared.names.Name.{Name}
use Rattle.ir_types.specs.declared.names.Name.TheVariants.{Text}
use Rattle.ir_types.specs.declared.ty.Ty.{Int, Ptr, Array, Struct, Named}
use Rattle.ir_core.specs.Examples.{f, struct, x, y}
use Rattle.ir_core.specs.TypeLaws.{NamedTypesAreInRange, NamedTypesAreKnown}
use Rattle.ir_core.specs.TypeNames.{names_in_struct}
use Rattle.ir_core.specs.WellFormed.{NamesTypes}
use Rattle.ir_core.proofs.Narrow.{wide}
use Rattle.ir_core.proofs.TypeNames.{at_array, at_int, at_named, at_ptr, at_struct}
use Rattle.ir_core.proofs.WellFormed.{in_none, in_one, in_two, name_x, name_y}
use Rattle.ir_core.proofs.Within.{well_formed}

-- the names that stand in it are these
naming : (names found : List Name) (t : NamedTy) → names_in_struct t ≡ found → AllByRecursion (Contains names) found → NamesTypes names t
naming names found t same all = subst (AllByRecursion (Contains names)) (sym same) all

no_integer_names : (names : List Name) (name : Name) (width : ℕ) → NamesTypes names (struct name (Int width ∷ []))
no_integer_names names name width = naming names [] (struct name (Int width ∷ [])) (simp (at_int) refl) tt

pub named_types_are_known : NamedTypesAreKnown
named_types_are_known = record {
  different = well_formed _ (record {
    types_apart = (in_none x, (in_one x y refl refl, tt));
    types = (no_integer_names (x ∷ y ∷ []) x 32, (no_integer_names (x ∷ y ∷ []) y 8, tt));
    globals = tt;
    functions = tt;
    declarations = tt;
    names = tt;
  }) (tt) (record {
    types = (record { name = name_x; fields = (refl, tt) }, (record { name = name_y; fields = (refl, tt) }, tt));
    globals = refl;
    functions = tt;
    declarations = refl;
  }) tt;
  one_name = (
    λ shape. shape.types_apart.1.0 (zero, omega arith, refl),
    tt,
    wide _ (record {
      types = (record { name = name_x; fields = (refl, tt) }, (record { name = name_x; fields = (refl, tt) }, tt));
      globals = refl;
      functions = tt;
      declarations = refl;
    }),
  );
  known = record {
    types_apart = (in_none x, (in_one x y refl refl, (in_two x y f refl refl refl refl, tt)));
    types = (
      naming (x ∷ y ∷ f ∷ []) (y ∷ []) (struct x (Int 32 ∷ Ptr (Named y) ∷ [])) (simp (at_int, at_ptr, at_named) refl) ((1, omega arith, refl), tt),
      (
        naming (x ∷ y ∷ f ∷ []) (x ∷ f ∷ []) (struct y (Named x ∷ Ptr (Named f) ∷ [])) (simp (at_ptr, at_named) refl) ((zero, omega arith, refl), ((2, omega arith, refl), tt)),
        (tt, tt),
      ),
    );
    globals = tt;
    functions = tt;
    declarations = tt;
    names = tt;
  };
  unknown = λ shape.
      let same : names_in_struct (struct x (Int 32 ∷ Struct (Int 8 ∷ Ptr (Named y) ∷ []) ∷ [])) ≡ y ∷ [] = simp (at_int, at_ptr, at_named, at_struct) refl in
      let all = subst (AllByRecursion (Contains (x ∷ []))) same shape.types.0 in
      in_one x y refl refl all.0;
  behind_pointer = record {
    types_apart = (in_none x, tt);
    types = (naming (x ∷ []) (x ∷ []) (struct x (Int 32 ∷ Ptr (Named x) ∷ [])) (simp (at_int, at_ptr, at_named) refl) ((zero, omega arith, refl), tt), tt);
    globals = tt;
    functions = tt;
    declarations = tt;
    names = tt;
  };
  in_itself = record {
    types_apart = (in_none x, tt);
    types = (naming (x ∷ []) (x ∷ []) (struct x (Array 2 (Named x) ∷ [])) (simp (at_array, at_named) refl) ((zero, omega arith, refl), tt), tt);
    globals = tt;
    functions = tt;
    declarations = tt;
    names = tt;
  };
}

pub named_types_are_in_range : NamedTypesAreInRange
named_types_are_in_range = (
  (
    record { types_apart = (in_none x, tt); types = (no_integer_names (x ∷ []) x 65, tt); globals = tt; functions = tt; declarations = tt; names = tt },
    tt,
    λ range. let wide = range.types.0.fields.0 in cc,
  ),
  (
    record { types_apart = (in_none (Text []), tt); types = (no_integer_names (Text [] ∷ []) (Text []) 32, tt); globals = tt; functions = tt; declarations = tt; names = tt },
    tt,
    λ range. absurd (omega (arith, range.types.0.name.0)),
  ),
)
