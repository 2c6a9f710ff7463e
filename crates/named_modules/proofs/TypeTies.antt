-- A type is at fault exactly where it is none of the module.
use Rattle.std.proofs.Common.{◌≡◌, ◌∙◌, ℕ, Bool, true, ◌&&◌, List, [], ◌∷◌, ◌++◌, map, refl, sym, ap}
use Rattle.std.specs.List.{AllByRecursion, flat_map, list_all}
use Rattle.std.proofs.lemmas.Bool.{and_from, and_parts}
use Rattle.std.proofs.lemmas.List.Folds.{list_all-append}
use Rattle.ir_core.specs.declared.modules.Module.{Module}
use Rattle.ir_core.specs.TypeNames.{names_at_level, names_in_type, type_names}
use Rattle.ir_core.specs.Types.{is_first_class}
use Rattle.ir_lexer.specs.declared.token.Number.{Number}
use Rattle.ir_types.specs.declared.names.Name.{Name}
use Rattle.ir_types.specs.declared.ty.Ty.{Ty}
use Rattle.ir_types.proofs.Induction as ty
use Rattle.name_claims.specs.declared.claims.Fault.{Fault}
use Rattle.name_claims.specs.declared.claims.Reason.TheVariants as reason
use Rattle.ir_core.specs.NameIndexes.Among.{is_among}
use Rattle.module_grammar.specs.declared.places.Placed.{Placed}
use Rattle.module_grammar.specs.declared.types.TypeText.{TypeText, Int, Named, Ptr, Array, Struct}
use Rattle.module_grammar.proofs.TypeFolds.{by_parts}
use Rattle.named_modules.specs.Faults.{at, first_of, from, heads_of, type_faults, type_faults_at_level, unless, value_type_faults}
use Rattle.named_modules.specs.Types.{count_built, counted_at_level, is_count, is_counted, is_type, is_value_type, type_at_level, type_of}
use Rattle.named_modules.proofs.Ties.{Ties, all_of, both, fits, none, seen, through}
use Rattle.named_modules.proofs.TypeKinds as kind

module _ (m : Module) where
  abbrev are_known : List Name → Bool
  are_known = list_all (λ name. is_among name (type_names m))

  abbrev IsTied : TypeText → Type 0
  IsTied w = Ties (type_faults (heads_of m) w) (is_type m w ≡ true)

  formed : (w : TypeText) (fs : List Fault) (ns : List Name) (b : Bool) → type_faults (heads_of m) w ≡ fs → names_in_type (type_of w) ≡ ns → is_counted w ≡ b → Ties fs ((are_known ns && b) ≡ true) → IsTied w
  formed w fs ns b e f g t =
      let same : is_type m w ≡ (are_known ns && b) = ap (λ l. are_known l && is_counted w) f ∙ ap (λ c. are_known ns && c) g in
      through (type_faults (heads_of m) w) (seen (type_faults (heads_of m) w) fs e t) (λ h. same ∙ h) (λ h. sym same ∙ h)

  at_int : (width : Placed ℕ) → IsTied (Int width)
  at_int width =
      formed (Int width) [] [] true (kind.at_int (List Fault) (type_faults_at_level (heads_of m)) width)
      (ap names_in_type (kind.at_int Ty type_at_level width) ∙ ty.at_int (List Name) names_at_level width.what)
      (kind.at_int Bool counted_at_level width) (none refl)

  at_named : (x : Placed Name) → IsTied (Named x)
  at_named x =
      let known = is_among x.what (type_names m) in
      formed (Named x) (unless known (at x reason.Unknown)) (x.what ∷ []) true (kind.at_named (List Fault) (type_faults_at_level (heads_of m)) x)
      (ap names_in_type (kind.at_named Ty type_at_level x) ∙ ty.at_named (List Name) names_at_level x.what)
      (kind.at_named Bool counted_at_level x)
      (through (unless known (at x reason.Unknown)) (fits known (at x reason.Unknown)) (λ h. and_from (known && true) true (and_from known true h refl) refl) (λ h. (and_parts known true (and_parts (known && true) true h).0).0))

  at_ptr : (star : ℕ) (t : TypeText) → IsTied t → IsTied (Ptr star t)
  at_ptr star t law =
      formed (Ptr star t) (type_faults (heads_of m) t) (names_in_type (type_of t)) (is_counted t) (kind.at_ptr (List Fault) (type_faults_at_level (heads_of m)) star t)
      (ap names_in_type (kind.at_ptr Ty type_at_level star t) ∙ ty.at_ptr (List Name) names_at_level (type_of t))
      (kind.at_ptr Bool counted_at_level star t) law

  at_array : (start : ℕ) (count : Placed Number) (t : TypeText) → IsTied t → IsTied (Array start (count, t))
  at_array start count t law =
      let own = unless (is_count count.what) (at count reason.WrongType) in
      let names = are_known (names_in_type (type_of t)) in
      formed (Array start (count, t)) (own ++ type_faults (heads_of m) t) (names_in_type (type_of t)) (is_count count.what && is_counted t)
      (kind.at_array (List Fault) (type_faults_at_level (heads_of m)) start count t)
      (ap names_in_type (kind.at_array Ty type_at_level start count t) ∙ ty.at_array (List Name) names_at_level (count_built count.what) (type_of t))
      (kind.at_array Bool counted_at_level start count t)
      (through (own ++ type_faults (heads_of m) t) (both own (type_faults (heads_of m) t) (fits (is_count count.what) (at count reason.WrongType)) law)
      (λ h. let parts = and_parts names (is_counted t) h.1 in and_from names (is_count count.what && is_counted t) parts.0 (and_from (is_count count.what) (is_counted t) h.0 parts.1))
      (λ h. let parts = and_parts names (is_count count.what && is_counted t) h in
      let counts = and_parts (is_count count.what) (is_counted t) parts.1 in (counts.0, and_from names (is_counted t) parts.0 counts.1)))

  fields : (ts : List TypeText) → AllByRecursion IsTied ts → Ties (flat_map (λ fs. fs) (map (type_faults (heads_of m)) ts)) ((are_known (flat_map (λ ns. ns) (map names_in_type (map type_of ts))) && list_all (λ f. f) (map is_counted ts)) ≡ true)
  fields [] laws = none refl
  fields (t ∷ ts) laws =
      let more = flat_map (λ fs. fs) (map (type_faults (heads_of m)) ts) in
      let names = names_in_type (type_of t) in
      let others = flat_map (λ ns. ns) (map names_in_type (map type_of ts)) in
      let counted = list_all (λ f. f) (map is_counted ts) in
      let apart = list_all-append (λ name. is_among name (type_names m)) names others in
      through (type_faults (heads_of m) t ++ more) (both (type_faults (heads_of m) t) more laws.0 (fields ts laws.1))
      (λ h. let here = and_parts (are_known names) (is_counted t) h.0 in
      let there = and_parts (are_known others) counted h.1 in
      and_from (are_known (names ++ others)) (is_counted t && counted) (apart ∙ and_from (are_known names) (are_known others) here.0 there.0) (and_from (is_counted t) counted here.1 there.1))
      (λ h. let whole = and_parts (are_known (names ++ others)) (is_counted t && counted) h in
      let known = and_parts (are_known names) (are_known others) (sym apart ∙ whole.0) in
      let counts = and_parts (is_counted t) counted whole.1 in
      (and_from (are_known names) (is_counted t) known.0 counts.0, and_from (are_known others) counted known.1 counts.1))

  at_struct : (start : ℕ) (ts : List TypeText) → AllByRecursion IsTied ts → IsTied (Struct start ts)
  at_struct start ts laws =
      formed (Struct start ts) (flat_map (λ fs. fs) (map (type_faults (heads_of m)) ts)) (flat_map (λ ns. ns) (map names_in_type (map type_of ts))) (list_all (λ f. f) (map is_counted ts))
      (kind.at_struct (List Fault) (type_faults_at_level (heads_of m)) start ts)
      (ap names_in_type (kind.at_struct Ty type_at_level start ts) ∙ ty.at_struct (List Name) names_at_level (map type_of ts))
      (kind.at_struct Bool counted_at_level start ts) (fields ts laws)

  pub type_ties : (w : TypeText) → IsTied w
  type_ties = by_parts IsTied at_int at_named at_ptr at_array at_struct

  pub value_type_ties : (w : TypeText) → Ties (value_type_faults (heads_of m) w) (is_value_type m w ≡ true)
  value_type_ties w =
      let f = from (first_of w) 1 reason.WrongType in
      all_of (value_type_faults (heads_of m) w) (is_type m w) (is_first_class (type_of w)) (both (type_faults (heads_of m) w) (unless (is_first_class (type_of w)) f) (type_ties w) (fits (is_first_class (type_of w)) f))
