-- In a module of well-formed shape no two phis of a block set one register: all names of a function are apart.
use Rattle.std.proofs.Common.{◌≡◌, ◌++◌, List, [], ◌∷◌, map, refl, sym, ap, subst, arith, ⊎_elim}
use Rattle.std.specs.List.{AllByRecursion, Contains, flat_map}
use Rattle.std.proofs.lemmas.List.{append_assoc, append-nil}
use Rattle.std.proofs.lemmas.List.Elements.{Contains-append_left, Contains-append_right, Contains-append_cases}
use Rattle.ir_types.specs.declared.names.Name.{Name}
use Rattle.ir_types.specs.declared.ty.Ty.{Ty}
use Rattle.ir_core.specs.declared.functions.Phi.{Phi}
use Rattle.ir_core.specs.declared.functions.Block.{Block}
use Rattle.ir_core.specs.declared.functions.Function.{Function}
use Rattle.ir_core.specs.declared.modules.Module.{Module}
use Rattle.ir_core.specs.Functions.{set_by, phi_registers, params_of, names_in, block_names}
use Rattle.ir_core.specs.Order.{AreNew}
use Rattle.ir_core.specs.WellFormed.{HasFunctionShape}
use Rattle.erhl_soundness.specs.Laws.{AreApart, ArePhisApart, ShapesKeepPhisApart}

abbrev Among : List Name → List Name → Type 0
Among fewer taken = (x : Name) → Contains fewer x → Contains taken x

-- names that are new beside many are new beside fewer
fewer_new : (xs taken fewer : List Name) → Among fewer taken → AreNew taken xs → AreNew fewer xs
fewer_new [] taken fewer among new = tt
fewer_new (x ∷ xs) taken fewer among new = (
  λ h. new.0 (among x h),
  fewer_new xs (taken ++ x ∷ []) (fewer ++ x ∷ [])
      (λ y h. ⊎_elim (λ a. Contains-append_left taken (x ∷ []) y (among y a)) (λ b. Contains-append_right taken (x ∷ []) y b) (Contains-append_cases fewer (x ∷ []) y h)) new.1,
)

new_alone : (taken xs : List Name) → AreNew taken xs → AreNew [] xs
new_alone taken xs new = fewer_new xs taken [] (λ x h. absurd (omega (arith, h.1))) new

new_front : (xs ys taken : List Name) → AreNew taken (xs ++ ys) → AreNew taken xs
new_front [] ys taken new = tt
new_front (x ∷ xs) ys taken new = (new.0, new_front xs ys (taken ++ x ∷ []) new.1)

new_behind : (xs ys taken : List Name) → AreNew taken (xs ++ ys) → AreNew (taken ++ xs) ys
new_behind [] ys taken new = subst (λ (zs : List Name). AreNew zs ys) (sym (append-nil taken)) new
new_behind (x ∷ xs) ys taken new = subst (λ (zs : List Name). AreNew zs ys) (append_assoc taken (x ∷ []) xs) (new_behind xs ys (taken ++ x ∷ []) new.1)

names_joined : (rs ss : List (Name × Ty)) → names_in (rs ++ ss) ≡ names_in rs ++ names_in ss
names_joined [] ss = refl
names_joined (r ∷ rs) ss = ap (λ (xs : List Name). r.0 ∷ xs) (names_joined rs ss)

phi_names : (ps : List Phi) → names_in (phi_registers ps) ≡ map (λ (p : Phi). p.name) ps
phi_names [] = refl
phi_names (p ∷ ps) = ap (λ (xs : List Name). p.name ∷ xs) (phi_names ps)

block_apart : (taken : List Name) (b : Block) → AreNew taken (block_names b) → AreApart b.phis
block_apart taken b new =
    let registers = subst (AreNew (taken ++ b.name ∷ [])) (names_joined (phi_registers b.phis) (set_by b.body)) new.1 in
    subst (AreNew []) (phi_names b.phis)
    (new_alone (taken ++ b.name ∷ []) (names_in (phi_registers b.phis)) (new_front (names_in (phi_registers b.phis)) (names_in (set_by b.body)) (taken ++ b.name ∷ []) registers))

blocks_apart : (taken : List Name) (bs : List Block) → AreNew taken (flat_map block_names bs) → AllByRecursion (λ (b : Block). AreApart b.phis) bs
blocks_apart taken [] new = tt
blocks_apart taken (b ∷ bs) new = (
  block_apart taken b (new_front (block_names b) (flat_map block_names bs) taken new),
  blocks_apart (taken ++ block_names b) bs (new_behind (block_names b) (flat_map block_names bs) taken new),
)

function_apart : (m : Module) (f : Function) → HasFunctionShape m f → ArePhisApart f
function_apart m f shape =
    blocks_apart (names_in (params_of f)) f.blocks (new_behind (names_in (params_of f)) (flat_map block_names f.blocks) [] shape.names)

functions_apart : (m : Module) (fs : List Function) → AllByRecursion (HasFunctionShape m) fs → AllByRecursion ArePhisApart fs
functions_apart m [] shapes = tt
functions_apart m (f ∷ fs) shapes = (function_apart m f shapes.0, functions_apart m fs shapes.1)

pub shapes_keep_apart : ShapesKeepPhisApart
shapes_keep_apart m shape = functions_apart m m.functions shape.functions
