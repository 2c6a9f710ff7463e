-- One definition in the place of another.
use Rattle.std.proofs.Common.{◌≡◌, List, [], ◌∷◌, ◌++◌, length, map, take, drop, refl, ap, subst, arith}
use Rattle.std.proofs.lemmas.List.{length-map}
use Rattle.ir_core.specs.declared.functions.Extensions.{Extensions}
use Rattle.ir_core.specs.declared.functions.Function.{Function}
use Rattle.ir_core.specs.declared.functions.Param.{Param}
use Rattle.ir_types.specs.declared.names.Name.{Name}
use Rattle.ir_types.specs.declared.ty.Ty.{Ty}
use Rattle.ir_core.specs.Placed.{PlacesAreKept, placed, widened_as, widening_of}

by_itself : (ps : List Param) → widened_as (widening_of ps) ps ≡ ps
by_itself [] = refl
by_itself (p ∷ ps) = ap (λ (more : List Param). p ∷ more) (by_itself ps)

widened_again : (es : List Extensions) (ps : List Param) → widened_as es (widened_as es ps) ≡ widened_as es ps
widened_again [] ps = refl
widened_again (e ∷ es) [] = refl
widened_again (e ∷ es) (p ∷ ps) =
    ap (λ (more : List Param). record { name = p.name; ty = p.ty; extensions = e } ∷ more) (widened_again es ps)

-- names with types
abbrev registers : List Param → List (Name × Ty)
registers = map (λ (p : Param). (p.name, p.ty))

typed : (es : List Extensions) (ps : List Param) → registers (widened_as es ps) ≡ registers ps
typed [] ps = refl
typed (e ∷ es) [] = refl
typed (e ∷ es) (p ∷ ps) = ap (λ (more : List (Name × Ty)). (p.name, p.ty) ∷ more) (typed es ps)

widened : (es : List Extensions) (ps : List Param) → widening_of (widened_as es ps) ≡ take (length ps) es ++ drop (length es) (widening_of ps)
widened [] [] = refl
widened [] (p ∷ ps) = refl
widened (e ∷ es) [] = refl
widened (e ∷ es) (p ∷ ps) = ap (λ (more : List Extensions). e ∷ more) (widened es ps)

as_many : (fs gs : List Param) → length fs ≡ length gs → widening_of (widened_as (widening_of fs) gs) ≡ widening_of fs
as_many [] [] same = refl
as_many [] (g ∷ gs) same = absurd (omega (arith, same))
as_many (f ∷ fs) [] same = absurd (omega (arith, same))
as_many (f ∷ fs) (g ∷ gs) same = ap (λ (more : List Extensions). f.extensions ∷ more) (as_many fs gs (omega (arith, same)))

pub places_are_kept : PlacesAreKept
places_are_kept = record {
  itself = λ f. ap (λ (ps : List Param). record f { params = ps }) (by_itself f.params);
  again = λ f g. ap (λ (ps : List Param). record (placed f g) { params = ps }) (widened_again (widening_of f.params) g.params);
  linkage = λ f g. refl;
  name = λ f g. refl;
  result = λ f g. refl;
  result_extensions = λ f g. refl;
  blocks = λ f g. refl;
  params = λ f g. typed (widening_of f.params) g.params;
  as_many = λ f g same. as_many f.params g.params same;
  widening = λ f g.
      subst (λ n. widening_of (placed f g).params ≡ take (length g.params) (widening_of f.params) ++ drop n (widening_of g.params))
      (length-map f.params (λ (p : Param). p.extensions))
      (widened (widening_of f.params) g.params);
}
