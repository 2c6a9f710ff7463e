-- A type that is named is in range where what is written of it is, and so is a type to which indices lead from it.
use Rattle.std.proofs.Common.{◌≡◌, ◌∙◌, ℕ, ◌^◌, zero, suc, true, nat_lt, List, [], ◌∷◌, map, Option, Some, None, refl, sym, ap, subst}
use Rattle.std.specs.Prelude.{◌||◌, not, nat_eq, slice_get, unwrap_or}
use Rattle.std.specs.List.{AllByRecursion, list_all}
use Rattle.std.specs.Option.{option_and_then, option_map}
use Rattle.std.proofs.lemmas.Bool.{and_from, and_parts, cond_both}
use Rattle.ir_core.proofs.Ranges as ranges
use Rattle.ir_core.specs.Ranges.{IsResultInRange, IsTypeInRange, is_written}
use Rattle.ir_core.specs.Types.{is_integer}
use Rattle.ir_core.specs.Typing.{Index, element_type, entered, entered_at_level, field_at, led_to}
use Rattle.ir_lexer.specs.declared.token.Number.{Number}
use Rattle.ir_types.proofs.Induction as kinds
use Rattle.ir_types.specs.Named.{fields_of, fields_or_none}
use Rattle.ir_types.specs.Same.{same_name, same_ty}
use Rattle.ir_types.specs.declared.named.NamedTy.{NamedTy}
use Rattle.ir_types.specs.declared.names.Name.{Name}
use Rattle.ir_types.specs.declared.ty.Ty as ty
use Rattle.ir_types.specs.declared.ty.Ty.{Ty}
use Rattle.ir_types.specs.declared.ty.Ty.TheOpen.{Ty-F}
use Rattle.ir_types.specs.declared.ty.Ty.TheViews.{outs-Int, outs-Ptr, outs-Array, outs-Struct, outs-Named, outs-Void}
use Rattle.module_grammar.proofs.TypeFolds as folds
use Rattle.module_grammar.specs.Symbols.{Star, close_brace, close_bracket}
use Rattle.module_grammar.specs.Types as write
use Rattle.module_grammar.specs.declared.places.Placed.{Placed}
use Rattle.module_grammar.specs.declared.types.TypeText.{TypeText, Int, Named, Ptr, Array, Struct}
use Rattle.named_modules.proofs.Lists.{all_left}
use Rattle.named_modules.proofs.TypeKinds as kind
use Rattle.named_modules.specs.Addresses.{address_type}
use Rattle.named_modules.specs.Types.{count_built, is_count, type_at_level, type_of}
use Rattle.module_texts.proofs.SpelledLimits.Lists.{listed_each}
use Rattle.module_texts.proofs.SpelledLimits.SymbolRanges.{AllInRange, IsSymbolInRange}

-- ---- what is written

abbrev pub IsTypeWritten : TypeText → Type 0
IsTypeWritten w = AllInRange (write.ty w)

abbrev pub IsWritten : Ty → Type 0
IsWritten t = is_written t ≡ true

abbrev IsFine : TypeText → Type 0
IsFine w = IsTypeWritten w → IsWritten (type_of w)

count_small : (n : Number) → nat_lt (count_built n) (2 ^ 64) ≡ true
count_small n =
    cond_both (is_count n) n.magnitude 0 (λ k. nat_lt k (2 ^ 64) ≡ true)
    (λ counts. (and_parts (nat_lt n.magnitude (2 ^ 64)) (not n.negative || nat_eq n.magnitude 0) counts).0) (λ none. refl)

at_int : (width : Placed ℕ) → IsFine (Int width)
at_int width all = ap is_written (kind.at_int Ty type_at_level width) ∙ ranges.at_int width.what ∙ (subst AllInRange (folds.at_int width) all).0

at_named : (name : Placed Name) → IsFine (Named name)
at_named name all = ap is_written (kind.at_named Ty type_at_level name) ∙ ranges.at_named name.what

at_ptr : (at : ℕ) (t : TypeText) → IsFine t → IsFine (Ptr at t)
at_ptr at t fine all =
    ap is_written (kind.at_ptr Ty type_at_level at t) ∙ ranges.at_ptr (type_of t)
    ∙ fine (all_left IsSymbolInRange (write.ty t) (Star at ∷ []) (subst AllInRange (folds.at_ptr at t) all))

at_array : (at : ℕ) (count : Placed Number) (t : TypeText) → IsFine t → IsFine (Array at (count, t))
at_array at count t fine all =
    let inside = (subst AllInRange (folds.at_array at count t) all).1.1.1 in
    ap is_written (kind.at_array Ty type_at_level at count t) ∙ ranges.at_array (count_built count.what) (type_of t)
    ∙ and_from (nat_lt (count_built count.what) (2 ^ 64)) (is_written (type_of t)) (count_small count.what)
    (fine (all_left IsSymbolInRange (write.ty t) (close_bracket ∷ []) inside))

fields : (ts : List TypeText) → AllByRecursion IsFine ts → AllByRecursion IsTypeWritten ts → list_all (λ t. t) (map is_written (map type_of ts)) ≡ true
fields [] fine all = refl
fields (t ∷ ts) fine all =
    and_from (is_written (type_of t)) (list_all (λ t. t) (map is_written (map type_of ts))) (fine.0 all.0) (fields ts fine.1 all.1)

at_struct : (at : ℕ) (ts : List TypeText) → AllByRecursion IsFine ts → IsFine (Struct at ts)
at_struct at ts fine all =
    let inside = (subst AllInRange (folds.at_struct at ts) all).1 in
    ap is_written (kind.at_struct Ty type_at_level at ts) ∙ ranges.at_struct (map type_of ts)
    ∙ fields ts fine (listed_each IsSymbolInRange write.ty ts (all_left IsSymbolInRange (write.types ts) (close_brace ∷ []) inside))

pub type_written : (w : TypeText) → IsTypeWritten w → IsWritten (type_of w)
type_written = folds.by_parts IsFine at_int at_named at_ptr at_array at_struct

-- ---- types in range

pub type_in_range : (t : Ty) → IsWritten t → IsTypeInRange t
type_in_range (ty.Int width) is = sym (ranges.at_int width) ∙ is
type_in_range t is = is

pub written_in_range : (t : Ty) → IsTypeInRange t → IsWritten t
written_in_range (ty.Int width) is = ranges.at_int width ∙ is
written_in_range t is = is

pub type_range : (w : TypeText) → IsTypeWritten w → IsTypeInRange (type_of w)
type_range w all = type_in_range (type_of w) (type_written w all)

pub result_in_range : (t : Ty) → IsTypeInRange t → IsResultInRange t
result_in_range ty.Void is = tt
result_in_range t is = is

-- a type that is no result but one of values
pub values_in_range : (t : Ty) → IsResultInRange t → (t ≡ ty.Void → ⊥) → IsTypeInRange t
values_in_range ty.Void is values = absurd (values refl)
values_in_range t is values = is

-- ---- what indices lead to

abbrev IsOptionWritten : Option Ty → Type 0
IsOptionWritten None = Unit {0}
IsOptionWritten (Some t) = IsWritten t

abbrev pub AreWritten : List Ty → Type 0
AreWritten = AllByRecursion IsWritten

and_then : (o : Option Ty) (f : Ty → Option Ty) → IsOptionWritten o → ((t : Ty) → IsWritten t → IsOptionWritten (f t)) → IsOptionWritten (option_and_then f o)
and_then None f is then = tt
and_then (Some t) f is then = then t is

at_place : (ts : List Ty) (n : ℕ) → AreWritten ts → IsOptionWritten (slice_get ts n)
at_place [] n all = tt
at_place (t ∷ ts) zero all = all.0
at_place (t ∷ ts) (suc n) all = at_place ts n all.1

number_of : (ts : List Ty) (n : Option ℕ) → AreWritten ts → IsOptionWritten (option_and_then (slice_get ts) n)
number_of ts None all = tt
number_of ts (Some n) all = at_place ts n all

field_written : (ts : List Ty) (i : Index) → AreWritten ts → IsOptionWritten (field_at ts i)
field_written ts i all =
    cond_both (same_ty i.ty (ty.Int 32)) (option_and_then (slice_get ts) i.number) None IsOptionWritten
    (λ yes. number_of ts i.number all) (λ no. tt)

-- the fields of named types are in range
abbrev pub AreNamedWritten : List NamedTy → Type 0
AreNamedWritten = AllByRecursion (λ (t : NamedTy). AreWritten (fields_or_none t.fields))

fields_written : (types : List NamedTy) (x : Name) → AreNamedWritten types → AreWritten (fields_or_none (fields_of types x))
fields_written [] x all = tt
fields_written (t ∷ types) x all =
    cond_both (same_name t.name x) t.fields (fields_of types x) (λ o. AreWritten (fields_or_none o)) (λ yes. all.0) (λ no. fields_written types x all.1)

each_field : (ts : List Ty) → list_all (λ t. t) (map is_written ts) ≡ true → AreWritten ts
each_field [] all = tt
each_field (t ∷ ts) all =
    let parts = and_parts (is_written t) (list_all (λ t. t) (map is_written ts)) all in (parts.0, each_field ts parts.1)

module _ (types : List NamedTy) (named : AreNamedWritten types) where
  by_level : (t : Ty) (l : Ty-F Ty) (i : Index) → ty.out-Ty t ≡ l → IsOptionWritten (entered_at_level types l i) → IsOptionWritten (entered types t i)
  by_level t l i e is = subst (λ l. IsOptionWritten (entered_at_level types l i)) (sym e) is

  abbrev Enters : Ty → Type 0
  Enters t = (i : Index) → IsWritten t → IsOptionWritten (entered types t i)

  enters_array : (n : ℕ) (t : Ty) → Enters t → Enters (ty.Array n t)
  enters_array n t also i is =
      let element = (and_parts (nat_lt n (2 ^ 64)) (is_written t) (sym (ranges.at_array n t) ∙ is)).1 in
      by_level (ty.Array n t) _ i (outs-Array n t) (cond_both (is_integer i.ty) (Some t) None IsOptionWritten (λ yes. element) (λ no. tt))

  enters_struct : (ts : List Ty) → AllByRecursion Enters ts → Enters (ty.Struct ts)
  enters_struct ts also i is =
      by_level (ty.Struct ts) _ i (outs-Struct ts) (field_written ts i (each_field ts (sym (ranges.at_struct ts) ∙ is)))

  enters_named : (x : Name) → Enters (ty.Named x)
  enters_named x i is =
      by_level (ty.Named x) _ i (outs-Named x) (field_written (fields_or_none (fields_of types x)) i (fields_written types x named))

  entered_written : (t : Ty) → Enters t
  entered_written =
      kinds.by_parts Enters (λ width i is. by_level (ty.Int width) _ i (outs-Int width) tt) (λ t also i is. by_level (ty.Ptr t) _ i (outs-Ptr t) tt)
      enters_array enters_struct enters_named (λ i is. by_level ty.Void _ i outs-Void tt)

  led_written : (t : Ty) (is : List Index) → IsWritten t → IsOptionWritten (led_to types t is)
  led_written t [] written = written
  led_written t (i ∷ is) written =
      and_then (entered types t i) (λ u. led_to types u is) (entered_written t i written) (λ u also. led_written u is also)

  pointed : (o : Option Ty) → IsOptionWritten o → IsOptionWritten (option_map ty.Ptr o)
  pointed None is = tt
  pointed (Some t) is = ranges.at_ptr t ∙ is

  element_written : (t : Ty) (is : List Index) → IsWritten t → IsOptionWritten (element_type types t is)
  element_written t [] written = ranges.at_ptr t ∙ written
  element_written t (i ∷ is) written =
      cond_both (is_integer i.ty) (option_map ty.Ptr (led_to types t is)) None IsOptionWritten
      (λ yes. pointed (led_to types t is) (led_written t is written)) (λ no. tt)

  or_pointer : (o : Option Ty) (t : Ty) → IsOptionWritten o → IsWritten t → IsWritten (unwrap_or o t)
  or_pointer None t is other = other
  or_pointer (Some u) t is other = is

  address_written : (base t : Ty) (is : List Index) → IsWritten base → IsWritten t → IsOptionWritten (address_type types base t is)
  address_written base t [] based written = based
  address_written base t (i ∷ is) based written = element_written t (i ∷ is) written

  -- the type of an address, or a pointer to the first one
  pub led_in_range : (base t : Ty) (is : List Index) → IsWritten base → IsWritten t → IsWritten (unwrap_or (address_type types base t is) (ty.Ptr t))
  led_in_range base t is based written =
      or_pointer (address_type types base t is) (ty.Ptr t) (address_written base t is based written) (ranges.at_ptr t ∙ written)
