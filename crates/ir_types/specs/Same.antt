-- Whether two names or two types are the same, as tests that compute. Each is true exactly of equal things, which is the
-- contract of `tests_are_equality`.
use Rattle.std.specs.Prelude.{◌≡◌, ◌↔◌, ℕ, Bool, true, false, ◌&&◌, List, [], ◌∷◌, nat_eq}
use Rattle.ir_types.specs.declared.names.Name.{Name}
use Rattle.ir_types.specs.declared.names.Name.TheVariants as name
use Rattle.ir_types.specs.declared.ty.Ty.{Ty, Int, Named, Void, out-Ty, fold-Ty}
use Rattle.ir_types.specs.declared.ty.Ty.TheOpen.{Ty-F}
use Rattle.ir_types.specs.declared.ty.Ty.TheOpen as ty

abbrev pub same_list : {A : Type 0} → (A → A → Bool) → List A → List A → Bool
same_list same [] [] = true
same_list same (x ∷ xs) (y ∷ ys) = same x y && same_list same xs ys
same_list same [] (y ∷ ys) = false
same_list same (x ∷ xs) [] = false

abbrev pub same_name : Name → Name → Bool
same_name (name.Text a) (name.Text b) = same_list nat_eq a b
same_name (name.Number m) (name.Number n) = nat_eq m n
same_name (name.Text a) (name.Number n) = false
same_name (name.Number m) (name.Text b) = false

-- fields are the same where each is the same as the one at its place
abbrev pub same_fields : List (Ty → Bool) → List Ty → Bool
same_fields [] [] = true
same_fields (same ∷ rest) (t ∷ ts) = same t && same_fields rest ts
same_fields [] (t ∷ ts) = false
same_fields (same ∷ rest) [] = false

-- One level of a type, with the test of each part in its place, and one level of another.
abbrev pub same_level : Ty-F (Ty → Bool) → Ty-F Ty → Bool
same_level (ty.Int v) (ty.Int w) = nat_eq v w
same_level (ty.Ptr same) (ty.Ptr t) = same t
same_level (ty.Array m same) (ty.Array n t) = nat_eq m n && same t
same_level (ty.Struct same) (ty.Struct ts) = same_fields same ts
same_level (ty.Named x) (ty.Named y) = same_name x y
same_level ty.Void ty.Void = true
same_level a b = false

-- part by part
abbrev pub same_parts : Ty → Ty → Bool
same_parts = fold-Ty (Ty → Bool) (λ level t. same_level level (out-Ty t))

abbrev pub is_int : ℕ → Ty → Bool
is_int v (Int w) = nat_eq v w
is_int v t = false

abbrev pub is_named : Name → Ty → Bool
is_named x (Named y) = same_name x y
is_named x t = false

abbrev pub is_void : Ty → Bool
is_void Void = true
is_void t = false

-- A type without parts is the same as one of its kind alone, of its width or its name; others are so where each part is.
abbrev pub same_ty : Ty → Ty → Bool
same_ty (Int v) t = is_int v t
same_ty (Named x) t = is_named x t
same_ty Void t = is_void t
same_ty s t = same_parts s t

-- the test is true exactly of equal things
abbrev pub IsEquality : {A : Type 0} → (A → A → Bool) → Type 0
IsEquality {A} same = (a b : A) → (same a b ≡ true) ↔ (a ≡ b)
