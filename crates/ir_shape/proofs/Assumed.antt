-- Where nothing is wrong with a body, each of its lines gives its register a type, so that what is assumed of registers is told of them.
use Rattle.std.proofs.Common.{◌≡◌, ◌∙◌, ◌+◌, ℕ, Bool, true, List, [], ◌∷◌, ◌++◌, length, Option, None, Some, Result, Ok, Err, IfOk, is_ok, refl, sym, subst}
use Rattle.std.specs.List.{AllByRecursion, flat_map}
use Rattle.ir_core.specs.declared.functions.Block.{Block}
use Rattle.ir_core.specs.declared.functions.Function.{Function}
use Rattle.ir_core.specs.declared.functions.Instr.{Instr}
use Rattle.ir_core.specs.declared.modules.Module.{Module}
use Rattle.ir_core.specs.Functions.{block_names, edges_into, names_in, names_of, params_of}
use Rattle.ir_types.specs.declared.names.Name.{Name}
use Rattle.ir_shape.specs.LineShapes.Assumed.{types_by}
use Rattle.ir_shape.specs.LineShapes.Told.{line_kind}
use Rattle.ir_shape.proofs.LineShapes.Assumed.{line_gives, types_as_told}
use Rattle.ir_typing.specs.declared.shape_kinds.kind.ShapeKind.{ShapeKind}
use Rattle.ir_typing.specs.ShapeKinds.Names.{are_new, with_names}
use Rattle.ir_typing.specs.ShapeKinds.Typed.{Types}
use Rattle.ir_shape.specs.ShapeTests.Kinds.{labels_of, types_of}
use Rattle.ir_shape.proofs.ShapeTests.Tests.{left_none, right_none}
use Rattle.ir_shape.proofs.ShapeTests.Typed.{AllGive}
use Rattle.ir_shape.specs.Apart.{in_each, in_end, in_new_block, in_new_blocks, in_new_body, new_line_kinds, new_phi_kinds}
use Rattle.ir_shape.specs.Shape.{in_body, in_line}
use Rattle.ir_shape.proofs.NewNames.{behind_params, body_is}

-- a line in which nothing is wrong
line_none : (function block : Name) (line : ℕ) (kind : Option ShapeKind) → in_line function block line kind ≡ [] → kind ≡ None
line_none function block line None none = refl
line_none function block line (Some kind) none = cc

module _ (m : Module) (f : Function) (labels : List Name) (types : Types) where
  lines_give : (block : Name) (first : ℕ) (ls : List Instr) → in_each f.name block first (new_line_kinds m types ls) ≡ [] → AllGive m.types ls
  lines_give block first [] none = tt
  lines_give block first (l ∷ ls) none =
      let kind = line_kind m types true l in
      let here = in_line f.name block first kind in
      let rest = in_each f.name block (first + 1) (new_line_kinds m types ls) in (
        line_gives m types true l (line_none f.name block first kind (left_none here rest none)),
        lines_give block (first + 1) ls (right_none here rest none),
      )

  block_gives : (entry : Name) (b : Block) → in_new_block m f labels types entry b ≡ [] → AllGive m.types b.body
  block_gives entry b none =
      let phis = in_each f.name b.name 0 (new_phi_kinds m labels types (edges_into f b.name) b.phis) in
      let lines = in_each f.name b.name (length b.phis) (new_line_kinds m types b.body) in
      let end = in_end m f labels types entry b in
      lines_give b.name (length b.phis) b.body (left_none lines end (right_none phis (lines ++ end) none))

  blocks_give : (entry : Name) (bs : List Block) → in_new_blocks m f labels types entry bs ≡ [] → AllByRecursion (λ (b : Block). AllGive m.types b.body) bs
  blocks_give entry [] none = tt
  blocks_give entry (b ∷ bs) none =
      let here = in_new_block m f labels types entry b in
      let rest = in_new_blocks m f labels types entry bs in
      (block_gives entry b (left_none here rest none), blocks_give entry bs (right_none here rest none))

  body_gives : (bs : List Block) → in_new_body m f labels types bs ≡ [] → AllByRecursion (λ (b : Block). AllGive m.types b.body) bs
  body_gives [] none = tt
  body_gives (b ∷ bs) none = blocks_give b.name (b ∷ bs) none

-- where nothing is wrong in a body with the types that are assumed, nothing is with those that are told
pub none_as_told : (assumed : Bool) (m n : Module) (ls : List Name) (ts : Types) (f : Function) (cs : List Block) → n ≡ m → ls ≡ labels_of f → ts ≡ types_by assumed m f → cs ≡ f.blocks
    → are_new [] (names_of f) ≡ true → in_new_body n f ls ts cs ≡ [] → in_body m f (labels_of f) (types_of m f) (with_names [] (names_in (params_of f))) f.blocks ≡ []
none_as_told assumed m n ls ts f cs beside own typed all new none =
    let params = with_names [] (names_in (params_of f)) in
    let gives : AllByRecursion (λ (b : Block). AllGive m.types b.body) f.blocks =
    subst (λ (o : Module). AllByRecursion (λ (b : Block). AllGive o.types b.body) f.blocks) beside
    (subst (λ (bs : List Block). AllByRecursion (λ (b : Block). AllGive n.types b.body) bs) all (body_gives n f ls ts cs none)) in
    let told : ts ≡ types_of m f = typed ∙ types_as_told assumed m f gives in
    let apart : are_new params (flat_map block_names cs) ≡ true = subst (λ (bs : List Block). are_new params (flat_map block_names bs) ≡ true) (sym all) (behind_params f new) in
    sym (body_is m n (labels_of f) ls (types_of m f) ts f params f.blocks cs beside own told all apart) ∙ none

-- what is said of what is found holds where it is found
pub found_holds : {A E : Type 0} (P : Type 0) (r : Result A E) → is_ok r ≡ true → IfOk r (λ _. P) → P
found_holds P (Ok a) ok is = is
found_holds P (Err e) ok is = cc
