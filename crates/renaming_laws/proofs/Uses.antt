-- What a search would answer of each use, and so of a function.
use Rattle.std.proofs.Common.{◌≡◌, ◌⊎◌, ⊎_elim, inl, inr, ℕ, suc, ◌<◌, ◌&&◌, Bool, true, false, is_some, List, [], ◌∷◌, length, get_or, Option, None, Some, refl, subst, arith}
use Rattle.std.proofs.lemmas.List.{get_or_default}
use Rattle.std.specs.List.{flat_map}
use Rattle.ir_core.specs.declared.functions.Block.{Block}
use Rattle.ir_core.specs.declared.functions.Function.{Function}
use Rattle.ir_types.specs.declared.names.Name.{Name}
use Rattle.ir_core.specs.Functions.{names_in, params_of}
use Rattle.ir_core.specs.WellFormed.{IsFunctionDefined}
use Rattle.ir_core.specs.NameIndexes.Among.{place_among}
use Rattle.flow_solver.specs.Ways.{nodes_on}
use Rattle.definedness.specs.declared.paths.Undefined.{Undefined}
use Rattle.definedness.specs.Along.{left_in_block, with_names}
use Rattle.definedness.specs.Flow.{Answers, AnswersAll, AnswersAt, AnswersTo, IsWayTo, closed_for, names_at, stand_of}
use Rattle.definedness.specs.Graph.{graph_in, labels_in}
use Rattle.definedness.specs.Undefined.{IsFirstUndefined, Use}
use Rattle.definedness.proofs.Judged.{fine_all, found_first}
use Rattle.renaming_laws.specs.Judged.{FunctionsAreJudged}
use Rattle.renaming_laws.proofs.FirstWays.{ways_have_a_first}

way_to : (g : List (List ℕ)) (closed : List Bool) (to : ℕ) → (found : Option (List ℕ)) × IsWayTo g closed to found
way_to g closed to = ⊎_elim (λ none. (None, none)) (λ first. (Some (nodes_on g 0 first.0), (first.0, first.1, refl))) (ways_have_a_first g closed to)

answer_to : (within : Bool) (g : List (List ℕ)) (closed : List Bool) (to : ℕ) → (found : Option (List ℕ)) × AnswersTo within g closed to found
answer_to true g closed to = (None, refl)
answer_to false g closed to = way_to g closed to

answer_at : (place : Option ℕ) (end_of : Option Name) (g : List (List ℕ)) (closed : List Bool) → (found : Option (List ℕ)) × AnswersAt place end_of g closed found
answer_at None end_of g closed = (None, refl)
answer_at (Some to) end_of g closed = answer_to (is_some end_of && get_or closed to false) g closed to

module _ (blocks : List Block) where
  answer_of : (u : Use) → (found : Option (List ℕ)) × Answers blocks u found
  answer_of u = answer_at (place_among (stand_of u.end_of u.block) (labels_in blocks)) u.end_of (graph_in (labels_in blocks) blocks) (closed_for u.name blocks)

  first_here : (u : Use) (uses : List Use) (path : List ℕ) → Answers blocks u (Some path) → AnswersAll blocks (u ∷ uses) (Some (0, path))
  first_here u uses path is = (omega arith, tt, λ used same. subst (λ v. Answers blocks v (Some path)) same is)

  none_here : (u : Use) (uses : List Use) (found : Option (ℕ × List ℕ)) → Answers blocks u None → AnswersAll blocks uses found
      → (more : Option (ℕ × List ℕ)) × AnswersAll blocks (u ∷ uses) more
  none_here u uses None none rest = (None, (none, rest))
  none_here u uses (Some found) none rest = (Some (suc found.0, found.1), (omega (arith, rest.0), (none, rest.1), rest.2))

  behind : (u : Use) (uses : List Use) (found : Option (List ℕ)) → Answers blocks u found → (rest : Option (ℕ × List ℕ)) × AnswersAll blocks uses rest
      → (more : Option (ℕ × List ℕ)) × AnswersAll blocks (u ∷ uses) more
  behind u uses None is rest = none_here u uses rest.0 is rest.1
  behind u uses (Some path) is rest = (Some (0, path), first_here u uses path is)

  answer_of_all : (uses : List Use) → (found : Option (ℕ × List ℕ)) × AnswersAll blocks uses found
  answer_of_all [] = (None, tt)
  answer_of_all (u ∷ uses) = let here = answer_of u in behind u uses here.0 here.1 (answer_of_all uses)

some_use : (uses : List Use) (at : ℕ) → at < length uses → (used : Use) × (get_or uses at used ≡ used)
some_use [] at within = absurd (omega (arith, within))
some_use (u ∷ uses) at within = (get_or (u ∷ uses) at u, get_or_default (u ∷ uses) at (get_or (u ∷ uses) at u) u within)

abbrev uses : Function → List Use
uses f = flat_map (left_in_block (with_names [] (names_in (params_of f)))) f.blocks

pub functions_are_judged : FunctionsAreJudged
functions_are_judged f known = let all = answer_of_all f.blocks (uses f) in go all.0 all.1
  where
    go : (found : Option (ℕ × List ℕ)) → AnswersAll f.blocks (uses f) found → IsFunctionDefined f ⊎ ((u : Undefined) × IsFirstUndefined f u)
    go None is = inl (fine_all f known (uses f) refl is)
    go (Some (at, path)) is =
        let used = some_use (uses f) at is.0 in
        let told : Undefined = record { block = used.0.block.name; line = used.0.line; name = used.0.name; path = names_at f.blocks path } in
        inr (told, found_first f known (uses f) refl at path is used.0 used.1 told (refl, refl, refl, refl))
