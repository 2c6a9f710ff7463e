-- A function is at fault exactly where it names nothing.
use Rattle.std.proofs.Common.{◌∙◌, ℕ, ◌≤◌, List, [], ◌∷◌, ◌++◌, map, refl, sym, ap, subst}
use Rattle.std.specs.List.{AllByRecursion, AllZip, flat_map}
use Rattle.ir_core.specs.declared.functions.Function.{Function}
use Rattle.ir_core.specs.declared.modules.Module.{Module}
use Rattle.ir_core.specs.Functions.{line_count, names_of}
use Rattle.ir_core.specs.Limits.{line_limit}
use Rattle.ir_core.specs.Order.{AreCounted, AreNew}
use Rattle.ir_core.specs.Typing.{signatures_of}
use Rattle.ir_types.specs.declared.names.Name.{Name}
use Rattle.ir_types.specs.declared.names.Name.TheVariants.{Number}
use Rattle.name_claims.specs.declared.claims.Fault.{Fault}
use Rattle.module_grammar.specs.declared.functions.DefinitionText.{DefinitionText}
use Rattle.module_grammar.specs.declared.functions.ParamText.{ParamText}
use Rattle.module_grammar.specs.declared.places.Placed.{Placed}
use Rattle.module_grammar.specs.declared.types.CalledText.{CalledText}
use Rattle.named_modules.specs.Built.{blocks_from, due_behind, due_from, function_of, params_from}
use Rattle.named_modules.specs.Constants.{global_name}
use Rattle.named_modules.specs.Faults.{Written, block_faults, block_written, defined, function_faults, function_written, heads_of, param_faults, result_faults, things_of, value_type_faults, written_faults}
use Rattle.named_modules.specs.Flow.{NamesBlock}
use Rattle.named_modules.specs.Functions.{IsParam, NamesFunction, blocks_in, labels_of, registers_of}
use Rattle.named_modules.specs.Laws.{Is}
use Rattle.named_modules.proofs.Bare.{all_defined, blocks_bare}
use Rattle.named_modules.proofs.CallTies.{result_ties}
use Rattle.named_modules.proofs.FlowTies.{blocks_ties}
use Rattle.named_modules.proofs.Lists.{AreDistinct, all_append, all_right, contains_none, names_of_pairs, new_distinct}
use Rattle.named_modules.proofs.Named.{name_named}
use Rattle.named_modules.proofs.NamesAre.{names_are}
use Rattle.named_modules.proofs.Ordered.{IsBareName, StandInOrder, written_ties}
use Rattle.named_modules.proofs.Things.{things_match}
use Rattle.named_modules.proofs.Ties.{Ties, both, nil_left, nil_right, none, through}
use Rattle.named_modules.proofs.ValueTies.{Matches, value_type_at_ties}

params_ties : (m : Module) (due : ℕ) (ps : List ParamText) → Ties (flat_map (param_faults (heads_of m)) ps) (AllZip (IsParam m) ps (params_from due ps))
params_ties m due [] = none tt
params_ties m due (p ∷ ps) =
    let here = value_type_faults (heads_of m) p.ty in
    let more = flat_map (param_faults (heads_of m)) ps in
    through (here ++ more) (both here more (value_type_at_ties m p.ty) (params_ties m (due_behind due p.name) ps)) (λ h. ((name_named due p.name, h.0, refl), h.1)) (λ h. (h.0.1, h.1))

module _ (m : Module) (stated : Placed Name → CalledText) (distinct : AreDistinct (names_of_pairs (signatures_of m))) (w : DefinitionText) where
  abbrev f : Function
  f = function_of m.types w

  abbrev due : ℕ
  due = due_from 0 (map (λ (p : ParamText). p.name) w.head.params)

  abbrev names : List Written
  names = function_written w

  abbrev AreBlocks : Type 0
  AreBlocks = AllZip (NamesBlock m (registers_of m f) (Is stated) (labels_of f)) (blocks_in w) (blocks_from m.types due (blocks_in w))

  matched : AreNew [] (names_of f) → Matches (things_of m.types f) (registers_of m f) (labels_of f)
  matched new = things_match m f (new_distinct [] (names_of f) new)

  blocks_tied : AreNew [] (names_of f) → AllByRecursion IsBareName (flat_map block_written (blocks_in w)) → Ties (flat_map (block_faults (heads_of m) stated (things_of m.types f)) (blocks_in w)) AreBlocks
  blocks_tied new bare = blocks_ties m (things_of m.types f) (registers_of m f) (labels_of f) (matched new) stated distinct due (blocks_in w) bare

  order_ties : Ties (written_faults (global_name w.head.name) [] 0 names) (StandInOrder [] 0 names)
  order_ties = written_ties (global_name w.head.name) [] 0 names (λ n there. absurd (contains_none (Number n) there))

  abbrev before_written : List Fault
  before_written = flat_map (block_faults (heads_of m) stated (things_of m.types f)) (blocks_in w)

  abbrev written : List Fault
  written = written_faults (global_name w.head.name) [] 0 names

  -- the names of the function stand in order
  abbrev IsOrder : Type 0
  IsOrder = AllByRecursion IsBareName names × AreNew [] (names_of f) × ((count : ℕ) × AreCounted 0 (names_of f) count)

  ordered : Ties written IsOrder
  ordered =
      let same = names_are m.types w in
      through written order_ties
      (λ h. (h.bare, subst (AreNew []) (sym same) h.new, (h.count, subst (λ ns. AreCounted 0 ns h.count) (sym same) h.counted)))
      (λ h. record { bare = h.0; new = subst (AreNew []) same h.1; count = h.2.0; counted = subst (λ ns. AreCounted 0 ns h.2.0) same h.2.1 })

  blocks_bare_names : AllByRecursion IsBareName names → AllByRecursion IsBareName (flat_map block_written (blocks_in w))
  blocks_bare_names bare = all_right IsBareName (map (λ (p : ParamText). defined p.name) w.head.params) (flat_map block_written (blocks_in w)) bare

  names_bare : AreBlocks → AllByRecursion IsBareName names
  names_bare blocks =
      all_append IsBareName (map (λ (p : ParamText). defined p.name) w.head.params) (flat_map block_written (blocks_in w)) (all_defined (λ (p : ParamText). p.name) w.head.params)
      (blocks_bare m (registers_of m f) (Is stated) (labels_of f) due (blocks_in w) blocks)

  -- blocks are told apart where names are in order
  body_ties : Ties (before_written ++ written) (AreBlocks × AreNew [] (names_of f) × ((count : ℕ) × AreCounted 0 (names_of f) count))
  body_ties = record {
    to = λ e.
        let order = ordered.to (nil_right before_written written e) in
        ((blocks_tied order.1 (blocks_bare_names order.0)).to (nil_left before_written written e), order.1, order.2);
    back = λ h.
        let bare = names_bare h.0 in
        let front = (blocks_tied h.1 (blocks_bare_names bare)).back h.0 in
        ap (λ l. l ++ written) front ∙ ordered.back (bare, h.1, h.2);
  }

  pub function_ties : line_count f ≤ line_limit → Ties (function_faults (heads_of m) stated w) (NamesFunction m (Is stated) w f)
  function_ties few =
      let result = result_faults (heads_of m) w.head.result.ty in
      let params = flat_map (param_faults (heads_of m)) w.head.params in
      through (result ++ (params ++ (before_written ++ written)))
      (both result (params ++ (before_written ++ written)) (result_ties m w.head.result.ty) (both params (before_written ++ written) (params_ties m 0 w.head.params) body_ties))
      (λ h. record { linkage = refl; extensions = refl; result = h.0; name = refl; params = h.1.0; blocks = h.1.1.0; order = (h.1.1.1, h.1.1.2.0, h.1.1.2.1); few = few })
      (λ n. (n.result, (n.params, (n.blocks, n.order.0, (n.order.1, n.order.2)))))
