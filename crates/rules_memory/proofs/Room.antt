-- Whether few bytes lie in one of a type, by what its block tells.
use Rattle.std.proofs.Common.{◌≡◌, ◌+◌, ◌/◌, ◌*◌, ◌<◌, ◌≤◌, ℕ, Bool, true, false, cond, nat_eq, List, Option, None, Some, refl, ap, subst, arith}
use Rattle.std.specs.Prelude.{nat_le, Ok, Err}
use Rattle.std.specs.Cmp.{both_ways}
use Rattle.std.proofs.lemmas.Bool.{eq-eqb, eqb-true, leb-true, leb-false, le-leb}
use Rattle.ir_types.specs.declared.layout.Layout.{Layout}
use Rattle.ir_types.specs.declared.named.NamedTy.{NamedTy}
use Rattle.ir_types.specs.declared.sizes.SizeFault.TheVariants.{Unsized, TooLarge}
use Rattle.ir_types.specs.declared.ty.Ty.{Ty}
use Rattle.ir_types.specs.declared.ty.Ty.TheVariants as ty
use Rattle.ir_types.specs.NameLaws.{right_true}
use Rattle.ir_types.specs.Named.{block_in, block_of, layout_of, size_in, size_of}
use Rattle.ir_core.specs.declared.values.Kind.{Kind}
use Rattle.ir_core.specs.declared.values.Kind.TheVariants as kind
use Rattle.ir_core.specs.Types.{is_pointer, is_width, kind_of}
use Rattle.block_memory.specs.Bytes.{byte_count}

module _ (types : List NamedTy) (t : Ty) (bytes : ℕ) where
  pub in_block : (size : ℕ) → block_of types t 1 ≡ Ok size → nat_le bytes size ≡ nat_le bytes (size_of types t)
  in_block size h = at (layout_of types t) h
    where
      found : (l : Layout) (b : Bool) → cond b (Ok (l.size * 1)) (Err TooLarge) ≡ Ok size → nat_le bytes size ≡ nat_le bytes l.size
      found l true h = let is : l.size * 1 ≡ size = cc in let one : size ≡ l.size = omega arith in ap (nat_le bytes) one
      found l false h = absurd (cc)

      at : (o : Option Layout) → block_in o 1 ≡ Ok size → nat_le bytes size ≡ nat_le bytes (size_in o)
      at None h = absurd (cc)
      at (Some l) h = found l (nat_le (l.size * 1) 2147483648) h

  pub in_large : bytes ≤ 2147483648 → block_of types t 1 ≡ Err TooLarge → nat_le bytes (size_of types t) ≡ true
  in_large few h = at (layout_of types t) h
    where
      found : (l : Layout) (b : Bool) → nat_le (l.size * 1) 2147483648 ≡ b → cond b (Ok (l.size * 1)) (Err TooLarge) ≡ Err TooLarge → nat_le bytes l.size ≡ true
      found l true e h = absurd (cc)
      found l false e h = let large : 2147483648 < l.size * 1 = leb-false (l.size * 1) 2147483648 e in let under : bytes ≤ l.size = omega arith in le-leb bytes l.size under

      at : (o : Option Layout) → block_in o 1 ≡ Err TooLarge → nat_le bytes (size_in o) ≡ true
      at None h = absurd (cc)
      at (Some l) h = found l (nat_le (l.size * 1) 2147483648) refl h

  pub in_none : block_of types t 1 ≡ Err Unsized → nat_eq bytes 0 ≡ nat_le bytes (size_of types t)
  in_none h = at (layout_of types t) h
    where
      found : (l : Layout) (b : Bool) → cond b (Ok (l.size * 1)) (Err TooLarge) ≡ Err Unsized → nat_eq bytes 0 ≡ nat_le bytes l.size
      found l true h = absurd (cc)
      found l false h = absurd (cc)

      none : (n : ℕ) → nat_eq n 0 ≡ nat_le n 0
      none n = both_ways (nat_eq n 0) (nat_le n 0)
          (λ e. let is : n ≡ 0 = eqb-true n 0 e in le-leb n 0 (omega arith))
          (λ e. let few : n ≤ 0 = leb-true n 0 e in eq-eqb n 0 (omega arith))

      at : (o : Option Layout) → block_in o 1 ≡ Err Unsized → nat_eq bytes 0 ≡ nat_le bytes (size_in o)
      at None h = none bytes
      at (Some l) h = found l (nat_le (l.size * 1) 2147483648) h

-- a value has few bytes
pub few_bytes : (t : Ty) (k : Kind) → kind_of t ≡ Some k → byte_count k ≤ 2147483648
few_bytes (ty.Int w) k h = at (is_width w) refl h
  where
    at : (b : Bool) → is_width w ≡ b → cond b (Some (kind.Int w)) None ≡ Some k → byte_count k ≤ 2147483648
    at true e h =
        let few : w ≤ 64 = leb-true w 64 (right_true (nat_le 1 w) (nat_le w 64) e) in
        let is : kind.Int w ≡ k = cc in
        let count : (w + 7) / 8 ≤ 2147483648 = omega arith in
        subst (λ (j : Kind). byte_count j ≤ 2147483648) is count
    at false e h = absurd (cc)
few_bytes t k h = at (is_pointer t) h
  where
    at : (b : Bool) → cond b (Some kind.Ptr) None ≡ Some k → byte_count k ≤ 2147483648
    at true h = let is : kind.Ptr ≡ k = cc in let count : 8 ≤ 2147483648 = omega arith in subst (λ (j : Kind). byte_count j ≤ 2147483648) is count
    at false h = absurd (cc)
