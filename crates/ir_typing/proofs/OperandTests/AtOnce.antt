-- Addresses of fields of named types, with which it is seen at once that nothing is wrong but for their operands.
use Rattle.std.proofs.Common.{◌≡◌, ◌∙◌, ◌&&◌, ◌||◌, ◌≤◌, ℕ, Bool, true, false, cond, List, [], ◌∷◌, map, Option, None, Some, slice_get, length, refl, sym, ap, subst, arith}
use Rattle.std.specs.List.{list_all}
use Rattle.std.specs.Option.{is_some, option_and_then, option_map}
use Rattle.ir_core.specs.declared.expressions.Element.{Element}
use Rattle.ir_core.specs.declared.modules.Module.{Module}
use Rattle.ir_core.specs.declared.operands.Operand.{Operand}
use Rattle.ir_core.specs.TypeNames.{type_names}
use Rattle.ir_core.specs.Types.{is_first_class, is_integer}
use Rattle.ir_core.specs.Typing.{Index, element_type, entered, field_at, index_of, led_to}
use Rattle.ir_core.proofs.Typing as typing
use Rattle.ir_types.specs.declared.layout.Layout.{Layout}
use Rattle.ir_types.specs.declared.named.NamedTy.{NamedTy}
use Rattle.ir_types.specs.declared.names.Name.{Name}
use Rattle.ir_types.specs.declared.ty.Ty.{Ty, Int, Named, Ptr, Struct}
use Rattle.ir_types.specs.Layout.{layout_by, layout_level}
use Rattle.ir_types.specs.Named.{fields_of, fields_or_none, found_in, is_sized, layout_of_name}
use Rattle.ir_types.specs.NameLaws.{name_equivalence}
use Rattle.ir_types.specs.Same.{same_name, same_ty}
use Rattle.ir_types.proofs.Induction as fold
use Rattle.ir_types.proofs.Rounds.{names_are_structs}
use Rattle.ir_types.proofs.SameLaws.{same_ty_true}
use Rattle.ir_core.specs.NameIndexes.Among.{is_among}
use Rattle.ir_typing.specs.declared.shape_kinds.kind.ShapeKind.{ShapeKind}
use Rattle.ir_typing.specs.ShapeKinds.Kinds.{fault_unless, least, points_to}
use Rattle.ir_typing.specs.OperandTests.Addresses.{FitsAtOnce, named_field}
use Rattle.ir_typing.specs.OperandTests.Constants.{element_kind, may_be}
use Rattle.ir_typing.specs.OperandTests.Kept.{are_named_sized}
use Rattle.ir_typing.specs.OperandTests.Known.{is_type_known}
use Rattle.ir_typing.proofs.OperandTests.Enters.{of_named}
use Rattle.ir_typing.proofs.OperandTests.HasSize.{struct_sized}
use Rattle.ir_typing.proofs.OperandTests.Lent.{turned}
use Rattle.ir_typing.proofs.OperandTests.TypeNames.{name_known, ptr_known}

none_is : {A B : Type 0} (a : A) → None ≡ Some a → B
none_is a e = cc

left : (a b : Bool) → (a && b) ≡ true → a ≡ true
left true b e = refl
left false b e = e

right : (a b : Bool) → (a && b) ≡ true → b ≡ true
right true b e = e
right false b e = cc

or_right : (a b : Bool) → b ≡ true → (a || b) ≡ true
or_right true b e = refl
or_right false b e = e

-- ---- names that have fields

module _ (types : List NamedTy) where
  of_first : (is : Bool) (own rest : Option (List Ty)) (fs : List Ty) → cond is own rest ≡ Some fs → list_all (is_sized types) (fields_or_none own) ≡ true
      → (rest ≡ Some fs → list_all (is_sized types) fs ≡ true) → list_all (is_sized types) fs ≡ true
  of_first true own rest fs e one other = subst (λ o. list_all (is_sized types) (fields_or_none o) ≡ true) e one
  of_first false own rest fs e one other = other e

  fields_sized : (ts : List NamedTy) → are_named_sized types ts ≡ true → (x : Name) (fs : List Ty) → fields_of ts x ≡ Some fs → list_all (is_sized types) fs ≡ true
  fields_sized [] all x fs e = none_is fs e
  fields_sized (t ∷ ts) all x fs e =
      of_first (same_name t.name x) t.fields (fields_of ts x) fs e (left (list_all (is_sized types) (fields_or_none t.fields)) (are_named_sized types ts) all)
      (fields_sized ts (right (list_all (is_sized types) (fields_or_none t.fields)) (are_named_sized types ts) all) x fs)

  name_sized : (x : Name) (fs : List Ty) → fields_of types x ≡ Some fs → is_sized types (Named x) ≡ is_sized types (Struct fs)
  name_sized x fs e =
      ap is_some (fold.at_named (Option Layout) (layout_level (layout_of_name (found_in types))) x)
      ∙ ap is_some (names_are_structs types x)
      ∙ ap (λ o. is_some (option_and_then (λ fields. layout_by (layout_of_name (found_in types)) (Struct fields)) o)) e

  -- a name has a size whose fields are there, where all have
  pub sized_by_fields : are_named_sized types types ≡ true → (x : Name) → is_some (fields_of types x) ≡ true → is_sized types (Named x) ≡ true
  sized_by_fields all x there = go (fields_of types x) refl there
    where
      go : (o : Option (List Ty)) → fields_of types x ≡ o → is_some o ≡ true → is_sized types (Named x) ≡ true
      go None e is = cc
      go (Some fs) e is = name_sized x fs e ∙ struct_sized types fs ∙ fields_sized types all x fs e

  abbrev nth : Option ℕ → Option Ty
  nth number = option_and_then (slice_get []) number

  abbrev chosen : Bool → Option ℕ → Option Ty
  chosen is number = cond is (nth number) None

  no_field : (is : Bool) (number : Option ℕ) → is_some (chosen is number) ≡ false
  no_field false number = refl
  no_field true None = refl
  no_field true (Some k) = refl

  behind : (o : Option Ty) (is : List Index) → is_some o ≡ false → is_some (option_and_then (λ u. led_to types u is) o) ≡ false
  behind None is e = refl
  behind (Some u) is e = cc

  -- a name has fields in which indices lead somewhere
  pub led_by_fields : (x : Name) (i : Index) (is : List Index) → is_some (led_to types (Named x) (i ∷ is)) ≡ true → is_some (fields_of types x) ≡ true
  led_by_fields x i is led = go (fields_of types x) refl
    where
      go : (o : Option (List Ty)) → fields_of types x ≡ o → is_some o ≡ true
      go (Some fs) e = refl
      go None e =
          let none : is_some (entered types (Named x) i) ≡ false = ap is_some (of_named types x i) ∙ ap (λ o. is_some (field_at (fields_or_none o) i)) e ∙ no_field (same_ty i.ty (Int 32)) i.number in
          let nowhere = behind (entered types (Named x) i) is none in
          cc

-- a name is one of those that are named, where its fields are there
or_by : (is here rest : Bool) (own others : Option (List Ty)) → here ≡ is → is_some (cond is own others) ≡ true → (is_some others ≡ true → rest ≡ true) → (here || rest) ≡ true
or_by true here rest own others same there law = ap (λ b. b || rest) same
or_by false here rest own others same there law = or_right here rest (law there)

among_fields : (ts : List NamedTy) (x : Name) → is_some (fields_of ts x) ≡ true → is_among x (map (λ (t : NamedTy). t.name) ts) ≡ true
among_fields [] x e = cc
among_fields (t ∷ ts) x e =
    or_by (same_name t.name x) (same_name x t.name) (is_among x (map (λ (t : NamedTy). t.name) ts)) t.fields (fields_of ts x) (name_equivalence.symm x t.name) e (among_fields ts x)

pub known_by_fields : (m : Module) (x : Name) → is_some (fields_of m.types x) ≡ true → is_type_known m (Named x) ≡ true
known_by_fields m x there = name_known m x ∙ among_fields m.types x there

-- ---- an address

nothing : (a b c d : Bool) (k l n o : ShapeKind) → a ≡ true → b ≡ true → c ≡ true → d ≡ true
    → least (fault_unless a k) (least (fault_unless b l) (least (fault_unless c n) (fault_unless d o))) ≡ None
nothing a b c d k l n o is_a is_b is_c is_d = cc

mapped : (is : Bool) (o : Option Ty) (v : Ty) → cond is (option_map Ptr o) None ≡ Some v → is_some o ≡ true
mapped true (Some t) v e = refl
mapped true None v e = none_is v e
mapped false o v e = none_is v e

-- it leads to a field of a named type
module _ (m : Module) (e : Element Name) (x : Name) (of_is : e.of ≡ Named x) where
  pub fields_there : (i j : Index) (is : List Index) (u : Ty) → map index_of e.indices ≡ i ∷ j ∷ is → element_type m.types e.of (map index_of e.indices) ≡ Some (Ptr u)
      → is_some (fields_of m.types x) ≡ true
  fields_there i j is u indices leads =
      let led : element_type m.types (Named x) (i ∷ j ∷ is) ≡ Some (Ptr u) = ap (element_type m.types (Named x)) (sym indices) ∙ ap (λ t. element_type m.types t (map index_of e.indices)) (sym of_is) ∙ leads in
      led_by_fields m.types x j is (mapped (is_integer i.ty) (led_to m.types (Named x) (j ∷ is)) (Ptr u) led)

  pub fits_at_once : (u : Ty) → element_type m.types e.of (map index_of e.indices) ≡ Some (Ptr u) → is_some (fields_of m.types x) ≡ true → points_to e.to u ≡ true
      → points_to e.base.ty e.of ≡ true → is_sized m.types (Named x) ≡ true → FitsAtOnce m e
  fits_at_once u leads there to based sized =
      let known : is_type_known m e.of ≡ true = ap (is_type_known m) of_is ∙ known_by_fields m x there in
      record {
        fits = nothing (points_to e.base.ty e.of) (may_be (element_type m.types e.of (map index_of e.indices)) e.to) (is_sized m.types e.of)
            (is_some (element_type m.types e.of (map index_of e.indices))) _ _ _ _ based (ap (λ o. may_be o e.to) leads ∙ turned (Ptr u) e.to ∙ to)
            (ap (is_sized m.types) of_is ∙ sized) (ap is_some leads);
        leads = ap is_first_class (same_ty_true e.to (Ptr u) to) ∙ typing.at_ptr u;
        known = known;
        based = ap (is_type_known m) (same_ty_true e.base.ty (Ptr e.of) based) ∙ ptr_known m e.of ∙ known;
      }

  pub there_by_length : (u : Ty) → 2 ≤ length e.indices → element_type m.types e.of (map index_of e.indices) ≡ Some (Ptr u) → is_some (fields_of m.types x) ≡ true
  there_by_length u long leads = go e.indices refl long
    where
      go : (os : List (Operand Name)) → e.indices ≡ os → 2 ≤ length os → is_some (fields_of m.types x) ≡ true
      go [] is two = absurd (omega arith)
      go (i ∷ []) is two = absurd (omega arith)
      go (i ∷ j ∷ os) is two = fields_there (index_of i) (index_of j) (map index_of os) u (ap (map index_of) is) leads
