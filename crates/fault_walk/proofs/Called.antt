-- The types of a function's parameters, and how it is called.
use Rattle.std.proofs.Common.{◌≡◌, ◌+◌, ℕ, zero, suc, add-one, ◌&&◌, List, [], ◌∷◌, drop, map, Option, None, Some, refl}
use Rattle.std.proofs.lemmas.Option.{slice_get-map}
use Rattle.std.specs.List.{slice_get}
use Rattle.std.specs.Option.{option_map}
use Rattle.ir_core.specs.declared.functions.Param.{Param}
use Rattle.ir_core.specs.declared.modules.DeclaredParam.{DeclaredParam}
use Rattle.ir_core.specs.Typing.{Signature}
use Rattle.ir_types.specs.declared.names.Name.{Name}
use Rattle.ir_types.specs.declared.ty.Ty.{Ty}
use Rattle.ir_types.specs.Same.{same_list, same_ty}
use Rattle.module_grammar.specs.declared.places.Placed.{Placed}
use Rattle.module_grammar.specs.declared.types.CalledText.{CalledText}
use Rattle.named_modules.specs.Faults.{Heads, callee_faults}
use Rattle.fault_walk.specs.Lines.{called_built, callee_faults_by, is_there, type_declared, type_defined}

pub of_defined : (ps : List Param) (n : ℕ) → slice_get (map (λ (p : Param). p.ty) ps) n ≡ option_map type_defined (slice_get ps n)
of_defined ps n = slice_get-map type_defined ps n

pub of_declared : (ps : List DeclaredParam) (n : ℕ) → slice_get (map (λ (p : DeclaredParam). p.ty) ps) n ≡ option_map type_declared (slice_get ps n)
of_declared ps n = slice_get-map type_declared ps n

more : (ts us : List Ty) (k : ℕ) → same_list same_ty (drop k ts) (drop k us) ≡ (is_there (slice_get ts k) (slice_get us k) && same_list same_ty (drop (suc k) ts) (drop (suc k) us))
more [] [] zero = refl
more [] [] (suc k) = refl
more [] (u ∷ us) zero = refl
more [] (u ∷ us) (suc k) = nothing us k
  where
    nothing : (us : List Ty) (n : ℕ) → same_list same_ty [] (drop n us) ≡ (is_there None (slice_get us n) && same_list same_ty [] (drop (suc n) us))
    nothing [] zero = refl
    nothing [] (suc n) = refl
    nothing (u ∷ us) zero = refl
    nothing (u ∷ us) (suc n) = nothing us n
more (t ∷ ts) [] zero = refl
more (t ∷ ts) [] (suc k) = nothing ts k
  where
    nothing : (us : List Ty) (n : ℕ) → same_list same_ty (drop n us) [] ≡ (is_there (slice_get us n) None && same_list same_ty (drop (suc n) us) [])
    nothing [] zero = refl
    nothing [] (suc n) = refl
    nothing (u ∷ us) zero = refl
    nothing (u ∷ us) (suc n) = nothing us n
more (t ∷ ts) (u ∷ us) zero = refl
more (t ∷ ts) (u ∷ us) (suc k) = more ts us k

pub params_more : (ts us : List Ty) (k : ℕ) → same_list same_ty (drop k ts) (drop k us) ≡ (is_there (slice_get ts k) (slice_get us k) && same_list same_ty (drop (k + 1) ts) (drop (k + 1) us))
params_more ts us k = rw (add-one k) (more ts us k)

-- what is built of the types that are stated says whether a callee is called so
pub faults_built : (h : Heads) (x : Placed Name) (called : Option CalledText) (s : Option Signature) → callee_faults_by h x (option_map called_built called) s ≡ callee_faults h x called s
faults_built h x None None = refl
faults_built h x None (Some s) = refl
faults_built h x (Some c) None = refl
faults_built h x (Some c) (Some s) = refl
