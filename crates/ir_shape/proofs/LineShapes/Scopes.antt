-- What is known of a function: the types of its registers, and whether names differ.
use Rattle.std.proofs.Common.{◌≡◌, ◌∙◌, ◌&&◌, Bool, true, List, [], Option, map, sym, ap}
use Rattle.std.specs.List.{flat_map}
use Rattle.ir_core.specs.declared.functions.Block.{Block}
use Rattle.ir_core.specs.declared.functions.Function.{Function}
use Rattle.ir_core.specs.declared.functions.Param.{Param}
use Rattle.ir_core.specs.declared.modules.Module.{Module}
use Rattle.ir_core.specs.Functions.{names_in, names_of, params_of}
use Rattle.ir_types.specs.declared.names.Name.{Name}
use Rattle.ir_types.specs.declared.ty.Ty.{Ty}
use Rattle.ir_typing.specs.ShapeKinds.Names.{are_new}
use Rattle.ir_typing.specs.ShapeKinds.Typed.{Types, none_typed, with_types}
use Rattle.ir_shape.proofs.ShapeTests.Tests.{both_left, both_right}
use Rattle.ir_shape.proofs.ShapeTests.Typed.{types_joined}
use Rattle.ir_shape.specs.ShapeTests.Kinds.{typed}
use Rattle.ir_shape.specs.LineShapes.Assumed.{told_in_by, types_by}
use Rattle.ir_shape.specs.LineShapes.Untold.{are_untold, have_own_names}
use Rattle.ir_shape.proofs.LineShapes.Untold.{names_new, params_new}

abbrev params_in : List Param → List (Name × Option Ty)
params_in ps = typed (map (λ (p : Param). (p.name, p.ty)) ps)

-- types are told of parameters, and then of blocks
pub types_told : (assumed : Bool) (m : Module) (f : Function) (none some all : Types) (ps : List Param) (bs : List Block) → ps ≡ f.params → bs ≡ f.blocks → none ≡ none_typed
    → some ≡ with_types none (params_in ps) → all ≡ with_types some (flat_map (told_in_by assumed m.types) bs) → all ≡ types_by assumed m f
types_told assumed m f none some all ps bs params blocks start first further =
    further
    ∙ ap (λ (t : Types). with_types t (flat_map (told_in_by assumed m.types) bs)) (first ∙ ap (λ (t : Types). with_types t (params_in ps)) start)
    ∙ ap (λ (qs : List Param). with_types (with_types none_typed (params_in qs)) (flat_map (told_in_by assumed m.types) bs)) params
    ∙ ap (λ (cs : List Block). with_types (with_types none_typed (params_in f.params)) (flat_map (told_in_by assumed m.types) cs)) blocks
    ∙ sym (types_joined none_typed (params_in f.params) (flat_map (told_in_by assumed m.types) f.blocks))

untold_params : (f : Function) (none : Types) (ps : List Param) (new : Bool) → ps ≡ f.params → none ≡ none_typed → new ≡ are_untold none (params_in ps) → new ≡ are_untold none_typed (typed (params_of f))
untold_params f none ps new params start is =
    is ∙ ap (λ (t : Types). are_untold t (params_in ps)) start ∙ ap (λ (qs : List Param). are_untold none_typed (params_in qs)) params

-- parameters differ where each is told of for the first time
pub params_differ : (f : Function) (none : Types) (ps : List Param) (new : Bool) → ps ≡ f.params → none ≡ none_typed → new ≡ are_untold none (params_in ps) → new ≡ are_new [] (names_in (params_of f))
params_differ f none ps new params start is = untold_params f none ps new params start is ∙ params_new (params_of f)

-- names differ where all are told of for the first time, labels differ, and none of them is a register's
pub names_differ : (assumed : Bool) (m : Module) (f : Function) (none some all : Types) (ps : List Param) (bs : List Block) (labels : List Name) (params registers apart own told others whole : Bool)
    → ps ≡ f.params → bs ≡ f.blocks → none ≡ none_typed → some ≡ with_types none (params_in ps) → all ≡ with_types some (flat_map (told_in_by assumed m.types) bs) → labels ≡ []
    → params ≡ are_untold none (params_in ps) → registers ≡ are_untold some (flat_map (told_in_by assumed m.types) bs) → apart ≡ are_new labels (map (λ (b : Block). b.name) bs) → own ≡ have_own_names all bs
    → told ≡ (params && registers) → others ≡ (apart && own) → whole ≡ (told && others) → whole ≡ true → are_new [] (names_of f) ≡ true
names_differ assumed m f none some all ps bs labels params registers apart own told others whole is_params is_blocks start first further empty params_are registers_are apart_is own_is told_is others_are whole_is differ =
    let both = sym whole_is ∙ differ in
    let told_true = sym told_is ∙ both_left told others both in
    let others_true = sym others_are ∙ both_right told others both in
    names_new assumed m f (sym (untold_params f none ps params is_params start params_are) ∙ both_left params registers told_true)
    (sym (registers_are
    ∙ ap (λ (t : Types). are_untold t (flat_map (told_in_by assumed m.types) bs)) (first ∙ ap (λ (t : Types). with_types t (params_in ps)) start)
    ∙ ap (λ (qs : List Param). are_untold (with_types none_typed (params_in qs)) (flat_map (told_in_by assumed m.types) bs)) is_params
    ∙ ap (λ (cs : List Block). are_untold (with_types none_typed (params_in f.params)) (flat_map (told_in_by assumed m.types) cs)) is_blocks) ∙ both_right params registers told_true)
    (sym (apart_is
    ∙ ap (λ (ns : List Name). are_new ns (map (λ (b : Block). b.name) bs)) empty
    ∙ ap (λ (cs : List Block). are_new [] (map (λ (b : Block). b.name) cs)) is_blocks) ∙ both_left apart own others_true)
    (sym (own_is
    ∙ ap (λ (t : Types). have_own_names t bs) (types_told assumed m f none some all ps bs is_params is_blocks start first further)
    ∙ ap (λ (cs : List Block). have_own_names (types_by assumed m f) cs) is_blocks) ∙ both_right apart own others_true)
