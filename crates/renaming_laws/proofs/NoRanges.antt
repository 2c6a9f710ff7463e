-- What names a type or a constant of a module is in no place out of range.
use Rattle.std.proofs.Common.{◌≡◌, ◌∙◌, ◌&&◌, ℕ, Bool, true, List, [], ◌∷◌, ◌++◌, map, refl, ap, sym}
use Rattle.std.proofs.lemmas.Bool.{and_parts}
use Rattle.std.specs.List.{AllByRecursion, flat_map, list_all}
use Rattle.std.specs.Prelude.{is_some}
use Rattle.ir_core.specs.declared.modules.Module.{Module}
use Rattle.ir_lexer.specs.declared.token.Number.{Number}
use Rattle.ir_types.specs.declared.ty.Ty.{Ty}
use Rattle.module_grammar.proofs.ConstFolds as const_tree
use Rattle.module_grammar.proofs.TypeFolds as type_tree
use Rattle.module_grammar.specs.declared.constants.ConstText.{ConstText}
use Rattle.module_grammar.specs.declared.constants.ConstText as const_text
use Rattle.module_grammar.specs.declared.constants.IntText.{IntText}
use Rattle.module_grammar.specs.declared.places.Placed.{Placed}
use Rattle.module_grammar.specs.declared.types.TypeText.{TypeText}
use Rattle.module_grammar.specs.declared.types.TypeText as type_text
use Rattle.name_claims.specs.declared.claims.Fault.{Fault}
use Rattle.name_claims.specs.declared.claims.Reason.TheVariants as reason
use Rattle.named_modules.proofs.ConstKinds as const_kind
use Rattle.named_modules.proofs.ConstKinds.{told_each}
use Rattle.named_modules.proofs.TypeKinds as type_kind
use Rattle.named_modules.specs.Constants.{Judged, index_part, judged, judged_at_level, may_be, part_fits}
use Rattle.named_modules.specs.Constants as naming
use Rattle.named_modules.specs.Faults.{at, int_fault, unless}
use Rattle.named_modules.specs.Types.{counted_at_level, int_of, is_count, is_counted, is_type, is_value_type, type_of}
use Rattle.expression_reader.specs.Ranges.{const_faults, const_faults_at_level, part_faults}
use Rattle.expression_reader.specs.Types.{count_faults, count_faults_at_level}

-- nothing and nothing
pub none : (xs ys : List Fault) → xs ≡ [] → ys ≡ [] → xs ++ ys ≡ []
none xs ys p q = ap (λ l. l ++ ys) p ∙ q

abbrev IsCounted : TypeText → Type 0
IsCounted w = is_counted w ≡ true → count_faults w ≡ []

fields : (ws : List TypeText) → AllByRecursion IsCounted ws → list_all (λ f. f) (map is_counted ws) ≡ true → flat_map (λ fs. fs) (map count_faults ws) ≡ []
fields [] each e = refl
fields (w ∷ ws) each e =
    let parts = and_parts (is_counted w) (list_all (λ f. f) (map is_counted ws)) e in
    none (count_faults w) (flat_map (λ fs. fs) (map count_faults ws)) (each.0 parts.0) (fields ws each.1 parts.1)

of_array : (start : ℕ) (count : Placed Number) (w : TypeText) → IsCounted w → IsCounted (type_text.Array start (count, w))
of_array start count w is e =
    let parts = and_parts (is_count count.what) (is_counted w) (sym (type_kind.at_array Bool counted_at_level start count w) ∙ e) in
    type_kind.at_array (List Fault) count_faults_at_level start count w
    ∙ none (unless (is_count count.what) (at count reason.WrongType)) (count_faults w) (ap (λ b. unless b (at count reason.WrongType)) parts.0) (is parts.1)

of_struct : (start : ℕ) (ws : List TypeText) → AllByRecursion IsCounted ws → IsCounted (type_text.Struct start ws)
of_struct start ws each e =
    type_kind.at_struct (List Fault) count_faults_at_level start ws ∙ fields ws each (sym (type_kind.at_struct Bool counted_at_level start ws) ∙ e)

pub no_counts : (w : TypeText) → is_counted w ≡ true → count_faults w ≡ []
no_counts =
    type_tree.by_parts IsCounted
    (λ width e. type_kind.at_int (List Fault) count_faults_at_level width)
    (λ name e. type_kind.at_named (List Fault) count_faults_at_level name)
    (λ start w is e. type_kind.at_ptr (List Fault) count_faults_at_level start w ∙ is (sym (type_kind.at_ptr Bool counted_at_level start w) ∙ e))
    of_array of_struct

module _ (m : Module) where
  type_counted : (w : TypeText) → is_type m w ≡ true → count_faults w ≡ []
  type_counted w is = no_counts w (and_parts _ (is_counted w) is).1

  value_counted : (w : TypeText) → is_value_type m w ≡ true → count_faults w ≡ []
  value_counted w is = type_counted w (and_parts (is_type m w) _ is).0

  abbrev IsRanged : ConstText → Type 0
  IsRanged w = (t : Ty) → (judged m w).fits t ≡ true → const_faults w t ≡ []

  abbrev fits_at : Ty → Judged → Bool
  fits_at t j = j.fits t

  abbrev faults_at : Ty → (Ty → List Fault) → List Fault
  faults_at t f = f t

  of_int : (i : IntText) → IsRanged (const_text.Int i)
  of_int i t e =
      let some : is_some (int_of t i) ≡ true = sym (ap (fits_at t) (const_kind.at_int Judged (judged_at_level m) i)) ∙ e in
      ap (faults_at t) (const_kind.at_int (Ty → List Fault) const_faults_at_level i) ∙ ap (λ b. unless b (int_fault i)) some

  part : (w : TypeText) (c : ConstText) → IsRanged c → part_fits m (w, judged m c) ≡ true → part_faults (w, const_faults c) ≡ []
  part w c is e =
      let both = and_parts (is_value_type m w) ((judged m c).fits (type_of w)) e in
      none (count_faults w) (const_faults c (type_of w)) (value_counted w both.0) (is (type_of w) both.1)

  parts : (ps : List (TypeText × ConstText)) → const_tree.EachOf IsRanged ps → list_all (part_fits m) (told_each (judged m) ps) ≡ true
      → flat_map part_faults (told_each const_faults ps) ≡ []
  parts [] each e = refl
  parts (p ∷ ps) each e =
      let both = and_parts (part_fits m (p.0, judged m p.1)) (list_all (part_fits m) (told_each (judged m) ps)) e in
      none (part_faults (p.0, const_faults p.1)) (flat_map part_faults (told_each const_faults ps)) (part p.0 p.1 each.0 both.0) (parts ps each.1 both.1)

  of_element :
      (start : ℕ) (inbounds : Bool) (of base_ty : TypeText) (base : ConstText) (indices : List (TypeText × ConstText)) → IsRanged base
      → const_tree.EachOf IsRanged indices → IsRanged (const_text.Element start inbounds (of, base_ty, base, indices))
  of_element start inbounds of base_ty base indices is each t e =
      let all = sym (ap (fits_at t) (const_kind.at_element Judged (judged_at_level m) start inbounds of base_ty base indices)) ∙ e in
      let both = and_parts (is_type m of && list_all (part_fits m) (told_each (judged m) ((base_ty, base) ∷ indices))) _ all in
      let first = and_parts (is_type m of) (list_all (part_fits m) (told_each (judged m) ((base_ty, base) ∷ indices))) both.0 in
      ap (faults_at t) (const_kind.at_element (Ty → List Fault) const_faults_at_level start inbounds of base_ty base indices)
      ∙ none (count_faults of) (flat_map part_faults (told_each const_faults ((base_ty, base) ∷ indices))) (type_counted of first.0)
      (parts ((base_ty, base) ∷ indices) (is, each) first.1)

  of_cast : (start : ℕ) (from : TypeText) (c : ConstText) (target : TypeText) → IsRanged c → IsRanged (const_text.Cast start (from, c, target))
  of_cast start from c target is t e =
      let all = sym (ap (fits_at t) (const_kind.at_cast Judged (judged_at_level m) start from c target)) ∙ e in
      let both = and_parts (part_fits m (from, judged m c) && is_type m target) _ all in
      let first = and_parts (part_fits m (from, judged m c)) (is_type m target) both.0 in
      ap (faults_at t) (const_kind.at_cast (Ty → List Fault) const_faults_at_level start from c target)
      ∙ none (part_faults (from, const_faults c)) (count_faults target) (part from c is first.0) (type_counted target first.1)

  pub no_ranges : (w : ConstText) (t : Ty) → naming.const_fits m w t ≡ true → const_faults w t ≡ []
  no_ranges =
      const_tree.by_parts IsRanged of_int
      (λ start t e. ap (faults_at t) (const_kind.at_null (Ty → List Fault) const_faults_at_level start))
      (λ t e. ap (faults_at t) (const_kind.at_undef (Ty → List Fault) const_faults_at_level))
      (λ g t e. ap (faults_at t) (const_kind.at_global (Ty → List Fault) const_faults_at_level g))
      of_element of_cast
