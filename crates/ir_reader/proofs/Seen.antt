-- Functions that are seen one by one to have shape, names of their own, and to be defined.
use Rattle.std.proofs.Common.{◌≡◌, ◌∙◌, ◌&&◌, ℕ, ◌+◌, ◌<◌, Bool, false, true, not, List, [], ◌∷◌, ◌++◌, drop, get_or, length, map, Result, Ok, Err, IfOk, None, sym, ap, subst}
use Rattle.std.proofs.lemmas.List.{append-nil, drop_more}
use Rattle.std.specs.List.{AllByRecursion}
use Rattle.ir_core.specs.declared.functions.Function.{Function}
use Rattle.ir_core.specs.declared.modules.Declaration.{Declaration}
use Rattle.ir_core.specs.declared.modules.GlobalVar.{GlobalVar}
use Rattle.ir_core.specs.declared.modules.Module.{Module}
use Rattle.ir_types.specs.declared.named.NamedTy.{NamedTy}
use Rattle.ir_types.specs.declared.names.Name.{Name}
use Rattle.ir_core.specs.Functions.{function_names}
use Rattle.ir_core.specs.Order.{AreNew}
use Rattle.ir_core.specs.TypeNames.{type_names}
use Rattle.ir_core.specs.WellFormed.{HasDeclaredShape, HasFunctionShape, HasGlobalShape, HasShape, IsFunctionDefined, NamesTypes}
use Rattle.ir_core.specs.NameIndexes.Among.{is_among}
use Rattle.ir_shape.specs.Shape.{first_fault}
use Rattle.ir_typing.specs.ShapeKinds.Names.{are_new, with_name}
use Rattle.ir_shape.proofs.ShapeLaws.Shapely.{shapely_modules_are_faultless}
use Rattle.ir_shape.proofs.ShapeTests.Taken.{new_by}

abbrev pub names_of : List Function → List Name
names_of = map (λ (f : Function). f.name)

module _ (fs : List Function) (k : ℕ) (f : Function) (within : k < length fs) (is : f ≡ get_or fs k f) where
  next : f ∷ drop (k + 1) fs ≡ drop k fs
  next = sym (drop_more fs k f within ∙ ap (λ (g : Function). g ∷ drop (k + 1) fs) (sym is))

  -- a function of a new name
  pub one_more_new : (taken new : List Name) → is_among f.name taken ≡ false → new ≡ with_name taken f.name
      → are_new new (names_of (drop (k + 1) fs)) ≡ are_new taken (names_of (drop k fs))
  one_more_new taken new free grown =
      ap (λ (names : List Name). are_new names (names_of (drop (k + 1) fs))) grown
      ∙ sym (ap (λ (b : Bool). not b && are_new (with_name taken f.name) (names_of (drop (k + 1) fs))) free)
      ∙ ap (λ (gs : List Function). are_new taken (names_of gs)) next

  pub one_more_shapely : (m : Module) → HasFunctionShape m f → AllByRecursion (HasFunctionShape m) (drop (k + 1) fs)
      → AllByRecursion (HasFunctionShape m) (drop k fs)
  one_more_shapely m here more = subst (AllByRecursion (HasFunctionShape m)) next (here, more)

  pub one_more_defined : IsFunctionDefined f → AllByRecursion IsFunctionDefined (drop (k + 1) fs) → AllByRecursion IsFunctionDefined (drop k fs)
  one_more_defined here more = subst (AllByRecursion IsFunctionDefined) next (here, more)

-- a module of definitions alone has shape where each of them has, and their names are new
pub of_definitions : (m : Module) → m.types ≡ [] → m.globals ≡ [] → m.declarations ≡ [] → are_new [] (names_of m.functions) ≡ true
    → AllByRecursion (HasFunctionShape m) m.functions → HasShape m
of_definitions m types globals declarations new shapes = record {
  types_apart = subst (λ (ts : List NamedTy). AreNew [] (map (λ (t : NamedTy). t.name) ts)) (sym types) tt;
  types = subst (AllByRecursion (NamesTypes (type_names m))) (sym types) tt;
  globals = subst (AllByRecursion (HasGlobalShape m)) (sym globals) tt;
  functions = shapes;
  declarations = subst (AllByRecursion (HasDeclaredShape m)) (sym declarations) tt;
  names =
      subst (λ (gs : List GlobalVar). AreNew [] (map (λ (g : GlobalVar). g.name) gs ++ (function_names m ++ map (λ (d : Declaration). d.name) m.declarations))) (sym globals)
      (subst (λ (ds : List Declaration). AreNew [] (function_names m ++ map (λ (d : Declaration). d.name) ds)) (sym declarations)
      (subst (AreNew []) (sym (append-nil (function_names m))) (new_by [] (function_names m) new)));
}

-- of definitions alone that are seen to be such, none has a fault
pub definitions_decide : {E : Type 0} (m : Module) (fs : List Function) → fs ≡ m.functions → m.types ≡ [] → m.globals ≡ [] → m.declarations ≡ []
    → (r : Result Bool E) → IfOk r (λ seen. seen ≡ true → are_new [] (names_of fs) ≡ true)
    → IfOk r (λ seen. seen ≡ true → AllByRecursion (HasFunctionShape m) fs) → IfOk r (λ seen. seen ≡ true → first_fault m ≡ None)
definitions_decide m fs same types globals declarations (Ok seen) new shapes =
    λ yes.
    shapely_modules_are_faultless m
    (of_definitions m types globals declarations (subst (λ (gs : List Function). are_new [] (names_of gs) ≡ true) same (new yes))
    (subst (AllByRecursion (HasFunctionShape m)) same (shapes yes)))
definitions_decide m fs same types globals declarations (Err e) new shapes = tt
