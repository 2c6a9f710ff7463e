-- One definition in the place of another, as what an optimisation makes of it.
use Rattle.std.specs.Prelude.{◌≡◌, List, [], ◌∷◌, ◌++◌, length, map, take, drop}
use Rattle.ir_core.specs.declared.functions.Extensions.{Extensions}
use Rattle.ir_core.specs.declared.functions.Function.{Function}
use Rattle.ir_core.specs.declared.functions.Param.{Param}
use Rattle.ir_types.specs.declared.names.Name.{Name}
use Rattle.ir_types.specs.declared.ty.Ty.{Ty}
use Rattle.ir_core.specs.Functions.{params_of}

-- These parameters, each widened as the one at its place was; there is none at the place of a further one, which stays as it is.
abbrev pub widened_as : List Extensions → List Param → List Param
widened_as [] ps = ps
widened_as es [] = []
widened_as (e ∷ es) (p ∷ ps) = record { name = p.name; ty = p.ty; extensions = e } ∷ widened_as es ps

abbrev pub widening_of : List Param → List Extensions
widening_of = map (λ (p : Param). p.extensions)

-- The parameters and blocks of `g`, where `f` stood: its linkage, its name, its result, and what widens are those of `f`.
abbrev pub placed : Function → Function → Function
placed f g = record {
  linkage = f.linkage;
  result_extensions = f.result_extensions;
  result = f.result;
  name = f.name;
  params = widened_as (widening_of f.params) g.params;
  blocks = g.blocks;
}

-- In its own place a definition is itself, and what is put there again stays as it is. Linkage, result and name are those of the one whose
-- place it is. Blocks are those of what is put there, and so are the names and types of parameters. Of as many parameters each is widened
-- as the one at its place was; of more, those beyond as they were.
pub record PlacesAreKept : Type 0 where
  pub itself : (f : Function) → placed f f ≡ f
  pub again : (f g : Function) → placed f (placed f g) ≡ placed f g
  pub linkage : (f g : Function) → (placed f g).linkage ≡ f.linkage
  pub name : (f g : Function) → (placed f g).name ≡ f.name
  pub result : (f g : Function) → (placed f g).result ≡ f.result
  pub result_extensions : (f g : Function) → (placed f g).result_extensions ≡ f.result_extensions
  pub blocks : (f g : Function) → (placed f g).blocks ≡ g.blocks
  pub params : (f g : Function) → params_of (placed f g) ≡ params_of g
  pub as_many : (f g : Function) → length f.params ≡ length g.params → widening_of (placed f g).params ≡ widening_of f.params
  pub widening : (f g : Function) →
      widening_of (placed f g).params ≡ take (length g.params) (widening_of f.params) ++ drop (length f.params) (widening_of g.params)
