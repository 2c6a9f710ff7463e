-- A function with shape has blocks of different names, and labels that are known.
use Rattle.std.proofs.Common.{⊎_elim, List, [], ◌∷◌, ◌++◌, map, sym, subst, append_assoc}
use Rattle.std.proofs.lemmas.List.{append-nil}
use Rattle.std.proofs.lemmas.List.Elements.{Contains-append_left, Contains-push, Contains-push_cases}
use Rattle.std.specs.List.{AllByRecursion, Contains, flat_map}
use Rattle.ir_core.specs.declared.functions.Block.{Block}
use Rattle.ir_core.specs.declared.functions.Function.{Function}
use Rattle.ir_core.specs.declared.modules.Module.{Module}
use Rattle.ir_types.specs.declared.names.Name.{Name}
use Rattle.ir_core.specs.Functions.{block_names, names_in, params_of, registers_of, successors_of}
use Rattle.ir_core.specs.Order.{AreNew}
use Rattle.ir_core.specs.WellFormed.{HasBlockShape, HasFunctionShape}
use Rattle.definedness.specs.Undefined.{AreLabelsKnown}

-- these are among the others
abbrev Among : List Name → List Name → Type 0
Among names others = (n : Name) → Contains names n → Contains others n

one_more_among : (names others : List Name) (x : Name) → Among names others → Among (names ++ x ∷ []) (others ++ x ∷ [])
one_more_among names others x among n there =
    ⊎_elim (λ old. Contains-append_left others (x ∷ []) n (among n old)) (λ new. subst (Contains (others ++ x ∷ [])) new (Contains-push others x))
    (Contains-push_cases names x n there)

new_behind : (xs ys taken : List Name) → AreNew taken (xs ++ ys) → AreNew (taken ++ xs) ys
new_behind [] ys taken new = subst (λ ts. AreNew ts ys) (sym (append-nil taken)) new
new_behind (x ∷ xs) ys taken new = subst (λ ts. AreNew ts ys) (append_assoc taken (x ∷ []) xs) (new_behind xs ys (taken ++ x ∷ []) new.1)

new_blocks : (bs : List Block) (taken fewer : List Name) → Among fewer taken → AreNew taken (flat_map block_names bs) → AreNew fewer (map (λ (b : Block). b.name) bs)
new_blocks [] taken fewer among new = tt
new_blocks (b ∷ bs) taken fewer among new = (
  λ there. new.0 (among b.name there),
  new_blocks bs ((taken ++ b.name ∷ []) ++ names_in (registers_of b)) (fewer ++ b.name ∷ [])
      (λ n there. Contains-append_left (taken ++ b.name ∷ []) (names_in (registers_of b)) n (one_more_among fewer taken b.name among n there))
      (new_behind (names_in (registers_of b)) (flat_map block_names bs) (taken ++ b.name ∷ []) new.1),
)

labels_of_blocks : (m : Module) (f : Function) (bs : List Block) → AllByRecursion (HasBlockShape m f) bs
    → AllByRecursion (λ (b : Block). AllByRecursion (Contains (map (λ (c : Block). c.name) f.blocks)) (successors_of b.term)) bs
labels_of_blocks m f [] all = tt
labels_of_blocks m f (b ∷ bs) all = (all.0.labels, labels_of_blocks m f bs all.1)

pub shape_knows_labels : (m : Module) (f : Function) → HasFunctionShape m f → AreLabelsKnown f
shape_knows_labels m f shape = record {
  unique = new_blocks f.blocks ([] ++ names_in (params_of f)) [] (λ n there. Contains-append_left [] (names_in (params_of f)) n there)
      (new_behind (names_in (params_of f)) (flat_map block_names f.blocks) [] shape.names);
  known = labels_of_blocks m f f.blocks shape.each;
}
