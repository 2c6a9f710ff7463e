-- The test of types at each two kinds of types.
use Rattle.std.proofs.Common.{◌≡◌, ◌∙◌, ℕ, Bool, false, ◌&&◌, nat_eq, List, map, ap}
use Rattle.ir_types.specs.declared.names.Name.{Name}
use Rattle.ir_types.specs.declared.ty.Ty.{Ty, Int, Ptr, Array, Struct, Named, out-Ty}
use Rattle.ir_types.specs.declared.ty.Ty.TheOpen.{Ty-F}
use Rattle.ir_types.specs.declared.ty.Ty.TheOpen as level
use Rattle.ir_types.specs.declared.ty.Ty.TheViews.{outs-Int, outs-Ptr, outs-Array, outs-Struct, outs-Named}
use Rattle.ir_types.specs.Same.{same_fields, same_level, same_name, same_parts, same_ty}
use Rattle.ir_types.proofs.Induction as types

abbrev test : Ty-F (Ty → Bool) → Ty → Bool
test part t = same_level part (out-Ty t)

at_levels : (a b : Ty) (part : Ty-F (Ty → Bool)) (other : Ty-F Ty) → same_parts a ≡ test part → out-Ty b ≡ other → same_parts a b ≡ same_level part other
at_levels a b part other here there = ap (λ (same : Ty → Bool). same b) here ∙ ap (same_level part) there

-- ---- part by part

pub integers : (v w : ℕ) → same_parts (Int v) (Int w) ≡ nat_eq v w
integers v w = at_levels (Int v) (Int w) (level.Int v) (level.Int w) (types.at_int (Ty → Bool) test v) (outs-Int w)

pub integer_and_name : (v : ℕ) (x : Name) → same_parts (Int v) (Named x) ≡ false
integer_and_name v x = at_levels (Int v) (Named x) (level.Int v) (level.Named x) (types.at_int (Ty → Bool) test v) (outs-Named x)

pub names : (x y : Name) → same_parts (Named x) (Named y) ≡ same_name x y
names x y = at_levels (Named x) (Named y) (level.Named x) (level.Named y) (types.at_named (Ty → Bool) test x) (outs-Named y)

pub name_and_integer : (x : Name) (w : ℕ) → same_parts (Named x) (Int w) ≡ false
name_and_integer x w = at_levels (Named x) (Int w) (level.Named x) (level.Int w) (types.at_named (Ty → Bool) test x) (outs-Int w)

-- ---- at once

pub pointers : (a b : Ty) → same_ty (Ptr a) (Ptr b) ≡ same_parts a b
pointers a b = at_levels (Ptr a) (Ptr b) (level.Ptr (same_parts a)) (level.Ptr b) (types.at_ptr (Ty → Bool) test a) (outs-Ptr b)

pub pointer_and_integer : (a : Ty) (w : ℕ) → same_ty (Ptr a) (Int w) ≡ false
pointer_and_integer a w = at_levels (Ptr a) (Int w) (level.Ptr (same_parts a)) (level.Int w) (types.at_ptr (Ty → Bool) test a) (outs-Int w)

pub array_and_integer : (m : ℕ) (a : Ty) (w : ℕ) → same_parts (Array m a) (Int w) ≡ false
array_and_integer m a w = at_levels (Array m a) (Int w) (level.Array m (same_parts a)) (level.Int w) (types.at_array (Ty → Bool) test m a) (outs-Int w)

pub arrays : (m n : ℕ) (a b : Ty) → same_ty (Array m a) (Array n b) ≡ (nat_eq m n && same_parts a b)
arrays m n a b = at_levels (Array m a) (Array n b) (level.Array m (same_parts a)) (level.Array n b) (types.at_array (Ty → Bool) test m a) (outs-Array n b)

pub structs : (ss ts : List Ty) → same_ty (Struct ss) (Struct ts) ≡ same_fields (map same_parts ss) ts
structs ss ts = at_levels (Struct ss) (Struct ts) (level.Struct (map same_parts ss)) (level.Struct ts) (types.at_struct (Ty → Bool) test ss) (outs-Struct ts)
