-- Numbering renames functions, and leaves them in order.
use Rattle.std.proofs.Common.{◌≡◌, ◌∙◌, List, [], ◌∷◌, length, map, refl, sym, ap, subst, arith}
use Rattle.std.specs.List.{AllByRecursion}
use Rattle.ir_core.specs.declared.functions.Function.{Function}
use Rattle.ir_types.specs.declared.names.Name.{Name}
use Rattle.ir_core.specs.Functions.{names_of}
use Rattle.ir_core.specs.Order.{AreCounted, AreInOrder, AreNew}
use Rattle.ir_core.specs.Ranges.{IsNameInRange}
use Rattle.ir_rename.specs.Laws.{NumberedIsInOrder, NumberingRenames, OrderStays}
use Rattle.ir_rename.specs.Renamed.{IsRenamed}
use Rattle.ir_rename.specs.Numbered.{counted, numbered_function, renaming}
use Rattle.ir_rename.proofs.Apart.{AreApart, all_given, apart_from_new, are_new, given_itself, injective}
use Rattle.ir_rename.proofs.Counting.{are_apart, are_counted, few, in_order_stays, length-counted, numbers_in}
use Rattle.ir_rename.proofs.Lists.{all_from, all_kept, all_mapped, all_to, zip_mapped}
use Rattle.ir_rename.proofs.Renames.{names_renamed, stays}

-- the names of a function, in range
abbrev InRange : Function → Type 0
InRange f = AllByRecursion IsNameInRange (names_of f)

abbrev AllNew : Function → Type 0
AllNew f = AreNew [] (names_of f)

-- its names by their numbers in order
abbrev by_count : Function → Name → Name
by_count f = renaming (names_of f) (counted 0 (names_of f))

numbers_apart : (f : Function) → InRange f → AllNew f → AreApart (counted 0 (names_of f))
numbers_apart f range new =
    let apart = apart_from_new [] (names_of f) new in are_apart 0 (names_of f) (omega (arith, few (names_of f) range apart)) apart

is_renamed : (f : Function) → InRange f → AllNew f → IsRenamed (by_count f) f (numbered_function f)
is_renamed f range new = record {
  same = refl;
  injective = injective (names_of f) (counted 0 (names_of f)) (numbers_apart f range new) (length-counted 0 (names_of f));
}

pub numbering_renames : NumberingRenames
numbering_renames m range new = record {
  types = refl;
  globals = refl;
  declarations = refl;
  functions =
      zip_mapped (λ f g. (ρ : Name → Name) × IsRenamed ρ f g) numbered_function m.functions
      (all_from (λ f. (ρ : Name → Name) × IsRenamed ρ f (numbered_function f)) m.functions
      (λ f there. (by_count f, is_renamed f (all_to InRange m.functions range f there) (all_to AllNew m.functions new f there))));
}

-- ---- order

numbered_names : (f : Function) → AllNew f → names_of (numbered_function f) ≡ counted 0 (names_of f)
numbered_names f new =
    names_renamed (by_count f) f
    ∙ all_given (names_of f) (counted 0 (names_of f)) (apart_from_new [] (names_of f) new) (length-counted 0 (names_of f))

counts : (f : Function) → InRange f → AllNew f → AreCounted 0 (counted 0 (names_of f)) (length (numbers_in (names_of f)))
counts f range new =
    are_counted 0 (names_of f) (length (numbers_in (names_of f))) (omega arith) (few (names_of f) range (apart_from_new [] (names_of f) new))

is_in_order : (f : Function) → InRange f → AllNew f → AreInOrder (names_of (numbered_function f))
is_in_order f range new =
    subst AreInOrder (sym (numbered_names f new))
    (are_new (counted 0 (names_of f)) (numbers_apart f range new), length (numbers_in (names_of f)), counts f range new)

own_names : (fs : List Function) → map (λ (f : Function). f.name) (map numbered_function fs) ≡ map (λ (f : Function). f.name) fs
own_names [] = refl
own_names (f ∷ fs) = ap (λ names. f.name ∷ names) (own_names fs)

pub numbered_is_in_order : NumberedIsInOrder
numbered_is_in_order m range new order = record {
  functions =
      all_mapped (λ f. AreInOrder (names_of f)) numbered_function m.functions
      (all_from (λ f. AreInOrder (names_of (numbered_function f))) m.functions
      (λ f there. is_in_order f (all_to InRange m.functions range f there) (all_to AllNew m.functions new f there)));
  names = subst AreInOrder (sym (own_names m.functions)) order;
}

-- ---- what is in order

one_stays : (f : Function) → InRange f → AreInOrder (names_of f) → numbered_function f ≡ f
one_stays f range order =
    stays (by_count f)
    (λ n. ap (λ to. renaming (names_of f) to n) (in_order_stays 0 (names_of f) order.1 range order.2) ∙ given_itself (names_of f) n) f

pub order_stays : OrderStays
order_stays m range order =
    ap (λ (fs : List Function). record m { functions = fs })
    (all_kept numbered_function m.functions
    (λ f there.
    one_stays f (all_to InRange m.functions range f there) (all_to (λ g. AreInOrder (names_of g)) m.functions order.functions f there)))
