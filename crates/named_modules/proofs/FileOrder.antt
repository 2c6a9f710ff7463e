-- The names of a module's items are at fault exactly where they are not in order.
use Rattle.std.proofs.Common.{◌≡◌, ◌∙◌, ℕ, ◌+◌, ◌<◌, Bool, true, false, cond, List, [], ◌∷◌, ◌++◌, map, Some, None, refl, sym, ap, subst, arith}
use Rattle.std.specs.Prelude.{not, nat_le}
use Rattle.std.specs.List.{cons_option, filter, filter_map}
use Rattle.std.proofs.lemmas.Bool.{le-leb, lt-leb}
use Rattle.std.proofs.lemmas.List.{map-append}
use Rattle.ir_core.specs.declared.functions.Function.{Function}
use Rattle.ir_core.specs.declared.modules.Declaration.{Declaration}
use Rattle.ir_core.specs.declared.modules.GlobalVar.{GlobalVar}
use Rattle.ir_core.specs.declared.modules.Module.{Module}
use Rattle.ir_core.specs.Modules.{those_before, those_behind}
use Rattle.ir_core.specs.Order.{AreInOrder}
use Rattle.ir_core.specs.Typing.{Signature, declared_signature, defined_signature, signatures_of}
use Rattle.ir_types.specs.declared.named.NamedTy.{NamedTy}
use Rattle.ir_types.specs.declared.names.Name.{Name}
use Rattle.module_grammar.specs.declared.functions.DeclarationText.{DeclarationText}
use Rattle.module_grammar.specs.declared.functions.DeclaredText.{DeclaredText}
use Rattle.module_grammar.specs.declared.items.ItemText.{ItemText}
use Rattle.module_grammar.specs.declared.items.ItemText.TheVariants as item
use Rattle.module_grammar.specs.declared.items.ModuleText.{ModuleText}
use Rattle.module_grammar.specs.declared.places.Placed.{Placed}
use Rattle.named_modules.specs.Built.{declaration_of, function_of, global_of, module_of, type_named, types_of}
use Rattle.named_modules.specs.Faults.{due_faults, global_name_faults, global_written, is_global, twice_faults, type_name, type_name_faults}
use Rattle.named_modules.specs.Functions.{is_dropped_name, name_declared}
use Rattle.named_modules.specs.Modules.{declarations_from, definition_item, global_item, global_names, names_in_file, type_item}
use Rattle.named_modules.proofs.Alike.{Alike, alike_self, behind_alike, cons_alike, middle, sorted_alike, swapped, then_alike, turned}
use Rattle.named_modules.proofs.Lists.{AreDistinct, contains_none, distinct_new, names_of_pairs, new_distinct}
use Rattle.named_modules.proofs.Ordered.{counted_ties, new_ties, whats}
use Rattle.named_modules.proofs.Ties.{Ties, both, through}

-- ---- named types

types_names : (items : List ItemText) → map (λ (t : NamedTy). t.name) (map type_named (filter_map type_item items)) ≡ whats (filter_map type_name items)
types_names [] = refl
types_names (item.Type x b ∷ is) = ap (λ ns. x.what ∷ ns) (types_names is)
types_names (item.Target ∷ is) = types_names is
types_names (item.Attributes n ∷ is) = types_names is
types_names (item.Metadata d meta ∷ is) = types_names is
types_names (item.Declaration d ∷ is) = types_names is
types_names (item.Global g b ∷ is) = types_names is
types_names (item.Definition d ∷ is) = types_names is

pub type_order_ties : (items : List ItemText) → Ties (type_name_faults items) (AreInOrder (map (λ (t : NamedTy). t.name) (map type_named (filter_map type_item items))))
type_order_ties items =
    let xs = filter_map type_name items in
    let same = types_names items in
    through (twice_faults [] xs ++ due_faults 0 xs) (both (twice_faults [] xs) (due_faults 0 xs) (new_ties [] xs) (counted_ties 0 xs))
    (λ h. subst AreInOrder (sym same) (h.0, h.1.0, h.1.1)) (λ h. let order = subst AreInOrder same h in (order.0, (order.1, order.2)))

-- ---- the order of the file

module _ (told : Placed Name → DeclaredText) (types : List NamedTy) where
  abbrev declared_from : ℕ → List ItemText → List Declaration
  declared_from count is = map (declaration_of told) (declarations_from count is)

  abbrev defined_in : List ItemText → List Function
  defined_in is = map (function_of types) (filter_map definition_item is)

  -- what is declared behind further definitions doesn't stand before them
  record StandBehind (count : ℕ) (ds : List Declaration) : Type 0 where
    before : those_before count ds ≡ []
    behind : those_behind count ds ≡ ds

  first_behind : (count : ℕ) (d : Declaration) (ds : List Declaration) → count < d.before → StandBehind count (d ∷ ds)
  first_behind count d ds less =
      let no : nat_le d.before count ≡ false = lt-leb d.before count less in
      record { before = ap (λ b. cond b (d ∷ those_before count ds) []) no; behind = ap (λ b. cond b (those_behind count ds) (d ∷ ds)) no }

  at_behind : (b : Bool) (count k : ℕ) (d : DeclarationText) (is : List ItemText) → count < k → StandBehind count (declared_from k is) → StandBehind count (map (declaration_of told) (cond b [] ((k, d) ∷ []) ++ declarations_from k is))
  at_behind true count k d is less rest = rest
  at_behind false count k d is less rest = first_behind count (declaration_of told (k, d)) (declared_from k is) less

  all_behind : (count k : ℕ) (is : List ItemText) → count < k → StandBehind count (declared_from k is)
  all_behind count k [] less = record { before = refl; behind = refl }
  all_behind count k (item.Declaration d ∷ is) less = at_behind (is_dropped_name d.declared) count k d is less (all_behind count k is less)
  all_behind count k (item.Definition d ∷ is) less = let more : count < k + 1 = omega (arith, less) in all_behind count (k + 1) is more
  all_behind count k (item.Target ∷ is) less = all_behind count k is less
  all_behind count k (item.Attributes n ∷ is) less = all_behind count k is less
  all_behind count k (item.Metadata d meta ∷ is) less = all_behind count k is less
  all_behind count k (item.Type x b ∷ is) less = all_behind count k is less
  all_behind count k (item.Global g b ∷ is) less = all_behind count k is less

  declared_first : (count : ℕ) (d : Declaration) (ds : List Declaration) (fs : List Function) → d.before ≡ count → names_in_file count (d ∷ ds) fs ≡ d.name ∷ names_in_file count ds fs
  declared_first count d ds [] is = refl
  declared_first count d ds (f ∷ fs) is =
      let names : List Declaration → List Name = map (λ (d : Declaration). d.name) in
      let least : nat_le d.before count ≡ true = le-leb d.before count (let e = is in omega (arith, e)) in
      ap (λ b. names (cond b (d ∷ those_before count ds) []) ++ f.name ∷ names_in_file (count + 1) (cond b (those_behind count ds) (d ∷ ds)) fs) least

  abbrev written_names : List ItemText → List Name
  written_names is = whats (filter_map global_written (filter (λ i. not (is_global i)) is))

  declared_names : (b : Bool) (count : ℕ) (d : DeclarationText) (is : List ItemText) → names_in_file count (declared_from count is) (defined_in is) ≡ written_names is → names_in_file count (map (declaration_of told) (cond b [] ((count, d) ∷ []) ++ declarations_from count is)) (defined_in is) ≡ whats (cons_option (cond b None (Some (name_declared d.declared))) (filter_map global_written (filter (λ i. not (is_global i)) is)))
  declared_names true count d is rest = rest
  declared_names false count d is rest =
      declared_first count (declaration_of told (count, d)) (declared_from count is) (defined_in is) refl ∙ ap (λ ns. (declaration_of told (count, d)).name ∷ ns) rest

  pub file_names : (count : ℕ) (is : List ItemText) → names_in_file count (declared_from count is) (defined_in is) ≡ written_names is
  file_names count [] = refl
  file_names count (item.Declaration d ∷ is) = declared_names (is_dropped_name d.declared) count d is (file_names count is)
  file_names count (item.Definition d ∷ is) =
      let name = (function_of types d).name in
      let apart = all_behind count (count + 1) is (omega arith) in
      ap (λ ds. map (λ (d : Declaration). d.name) ds ++ name ∷ names_in_file (count + 1) (those_behind count (declared_from (count + 1) is)) (defined_in is)) apart.before
      ∙ ap (λ ds. name ∷ names_in_file (count + 1) ds (defined_in is)) apart.behind
      ∙ ap (λ ns. name ∷ ns) (file_names (count + 1) is)
  file_names count (item.Target ∷ is) = file_names count is
  file_names count (item.Attributes n ∷ is) = file_names count is
  file_names count (item.Metadata d meta ∷ is) = file_names count is
  file_names count (item.Type x b ∷ is) = file_names count is
  file_names count (item.Global g b ∷ is) = file_names count is

globals_names : (items : List ItemText) → map (λ (g : GlobalVar). g.name) (map global_of (filter_map global_item items)) ≡ whats (filter_map global_written (filter is_global items))
globals_names [] = refl
globals_names (item.Global g b ∷ is) = ap (λ ns. (global_of (g, b)).name ∷ ns) (globals_names is)
globals_names (item.Type x b ∷ is) = globals_names is
globals_names (item.Target ∷ is) = globals_names is
globals_names (item.Attributes n ∷ is) = globals_names is
globals_names (item.Metadata d meta ∷ is) = globals_names is
globals_names (item.Declaration d ∷ is) = globals_names is
globals_names (item.Definition d ∷ is) = globals_names is

pub order_ties : (told : Placed Name → DeclaredText) (w : ModuleText) → Ties (global_name_faults w.items) (AreInOrder (global_names (module_of told w)))
order_ties told w =
    let all = filter_map global_written w.items in
    let gs = filter_map global_written (filter is_global w.items) in
    let fs = filter_map global_written (filter (λ i. not (is_global i)) w.items) in
    let same : global_names (module_of told w) ≡ whats (gs ++ fs) =
    ap (λ ns. ns ++ names_in_file 0 (module_of told w).declarations (module_of told w).functions) (globals_names w.items)
    ∙ ap (λ ns. whats gs ++ ns) (file_names told (types_of w) 0 w.items)
    ∙ sym (map-append (λ (x : Placed Name). x.what) gs fs) in
    let alike : Alike (whats all) (whats (gs ++ fs)) =
    subst (Alike (whats all)) (sym (map-append (λ (x : Placed Name). x.what) gs fs)) (sorted_alike global_written is_global w.items) in
    through (twice_faults [] all ++ due_faults 0 (gs ++ fs)) (both (twice_faults [] all) (due_faults 0 (gs ++ fs)) (new_ties [] all) (counted_ties 0 (gs ++ fs)))
    (λ h.
    let new = distinct_new [] (whats (gs ++ fs)) (λ x there more. contains_none x there) (alike.distinct (new_distinct [] (whats all) h.0)) in
    subst AreInOrder (sym same) (new, h.1.0, h.1.1))
    (λ h.
    let order = subst AreInOrder same h in
    (distinct_new [] (whats all) (λ x there more. contains_none x there) (alike.undone (new_distinct [] (whats (gs ++ fs)) order.0)), (order.1, order.2)))

-- ---- functions

distinct_right : {A : Type 0} (xs ys : List A) → AreDistinct (xs ++ ys) → AreDistinct ys
distinct_right [] ys h = h
distinct_right (x ∷ xs) ys h = distinct_right xs ys h.1

abbrev names_declared : List Declaration → List Name
names_declared = map (λ (d : Declaration). d.name)

abbrev names_defined : List Function → List Name
names_defined = map (λ (f : Function). f.name)

parted : (count : ℕ) (ds : List Declaration) → names_declared (those_before count ds) ++ names_declared (those_behind count ds) ≡ names_declared ds
parted count [] = refl
parted count (d ∷ ds) = by (nat_le d.before count) (parted count ds)
  where
    by : (b : Bool) → names_declared (those_before count ds) ++ names_declared (those_behind count ds) ≡ names_declared ds → names_declared (cond b (d ∷ those_before count ds) []) ++ names_declared (cond b (those_behind count ds) (d ∷ ds)) ≡ d.name ∷ names_declared ds
    by true rest = ap (λ ns. d.name ∷ ns) rest
    by false rest = refl

file_alike : (count : ℕ) (ds : List Declaration) (fs : List Function) → Alike (names_in_file count ds fs) (names_defined fs ++ names_declared ds)
file_alike count ds [] = alike_self (names_declared ds)
file_alike count ds (f ∷ fs) =
    let front = names_declared (those_before count ds) in
    let back = names_declared (those_behind count ds) in
    let rest = names_in_file (count + 1) (those_behind count ds) fs in
    let defined = names_defined fs in
    subst (λ ns. Alike (front ++ f.name ∷ rest) (f.name ∷ (defined ++ ns))) (parted count ds)
    (then_alike (front ++ f.name ∷ rest) (f.name ∷ (front ++ rest)) (f.name ∷ (defined ++ (front ++ back))) (turned (f.name ∷ (front ++ rest)) (front ++ f.name ∷ rest) (middle f.name front rest))
    (cons_alike f.name (front ++ rest) (defined ++ (front ++ back))
    (then_alike (front ++ rest) (front ++ (defined ++ back)) (defined ++ (front ++ back)) (behind_alike front rest (defined ++ back) (file_alike (count + 1) (those_behind count ds) fs)) (swapped front defined back))))

defined_names : (fs : List Function) → names_of_pairs (map (λ (f : Function). let one : Name × Signature = (f.name, defined_signature f) in one) fs) ≡ names_defined fs
defined_names [] = refl
defined_names (f ∷ fs) = ap (λ ns. f.name ∷ ns) (defined_names fs)

declared_names_are : (ds : List Declaration) → names_of_pairs (map (λ (d : Declaration). let one : Name × Signature = (d.name, declared_signature d) in one) ds) ≡ names_declared ds
declared_names_are [] = refl
declared_names_are (d ∷ ds) = ap (λ ns. d.name ∷ ns) (declared_names_are ds)

-- where names are in order no two functions have one
pub functions_distinct : (m : Module) → AreInOrder (global_names m) → AreDistinct (names_of_pairs (signatures_of m))
functions_distinct m order =
    let globals = map (λ (g : GlobalVar). g.name) m.globals in
    let file = names_in_file 0 m.declarations m.functions in
    let all = distinct_right globals file (new_distinct [] (global_names m) order.0) in
    let same : names_of_pairs (signatures_of m) ≡ names_defined m.functions ++ names_declared m.declarations =
    map-append (λ (s : Name × Signature). s.0) (map (λ (f : Function). (f.name, defined_signature f)) m.functions) (map (λ (d : Declaration). (d.name, declared_signature d)) m.declarations)
    ∙ ap (λ ns. ns ++ names_of_pairs (map (λ (d : Declaration). let one : Name × Signature = (d.name, declared_signature d) in one) m.declarations)) (defined_names m.functions)
    ∙ ap (λ ns. names_defined m.functions ++ ns) (declared_names_are m.declarations) in
    subst AreDistinct (sym same) ((file_alike 0 m.declarations m.functions).distinct all)
