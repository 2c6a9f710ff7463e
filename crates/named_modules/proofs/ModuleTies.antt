-- A tree is at fault exactly where it doesn't name the module that is built of it.
use Rattle.std.proofs.Common.{◌∙◌, ℕ, ◌+◌, ◌≤◌, Bool, true, false, cond, List, [], ◌∷◌, ◌++◌, map, ap}
use Rattle.std.specs.List.{AllByRecursion, AllZip, filter_map, flat_map}
use Rattle.ir_core.specs.declared.functions.Function.{Function}
use Rattle.ir_core.specs.declared.modules.Module.{Module}
use Rattle.ir_core.specs.Functions.{line_count}
use Rattle.ir_core.specs.Limits.{line_limit}
use Rattle.ir_core.specs.Typing.{signatures_of}
use Rattle.ir_types.specs.declared.names.Name.{Name}
use Rattle.name_claims.specs.declared.claims.Fault.{Fault}
use Rattle.module_grammar.specs.declared.functions.DeclarationText.{DeclarationText}
use Rattle.module_grammar.specs.declared.functions.DeclaredText.{DeclaredText}
use Rattle.module_grammar.specs.declared.items.ItemText.{ItemText}
use Rattle.module_grammar.specs.declared.items.ItemText.TheVariants as item
use Rattle.module_grammar.specs.declared.items.ModuleText.{ModuleText}
use Rattle.module_grammar.specs.declared.places.Placed.{Placed}
use Rattle.module_grammar.specs.declared.types.CalledText.{CalledText}
use Rattle.named_modules.specs.Built.{declaration_of, declared_params, function_of, global_of, module_of, type_named}
use Rattle.named_modules.specs.Faults.{declaration_faults, faults_of, fields_of_type, function_faults, global_name_faults, global_var_faults, heads_of, item_faults, param_faults, result_faults, type_faults, type_name_faults}
use Rattle.named_modules.specs.Functions.{NamesDeclaration, NamesFunction, is_dropped_name}
use Rattle.named_modules.specs.Laws.{AreShort, FaultlessTreesNameWhatIsBuilt, Is}
use Rattle.named_modules.specs.Modules.{IsGlobalVar, IsNamedType, NamesModule, declarations_from, definition_item, global_item, type_item}
use Rattle.named_modules.proofs.FileOrder.{functions_distinct, order_ties, type_order_ties}
use Rattle.named_modules.proofs.FunctionTies.{function_ties}
use Rattle.named_modules.proofs.ItemTies.{declaration_ties, global_ties, named_type_ties}
use Rattle.named_modules.proofs.Lists.{AreDistinct, names_of_pairs}
use Rattle.named_modules.proofs.Ties.{Ties, both, nil_left, nil_right, none, through}

module _ (m : Module) (stated : Placed Name → CalledText) (told : Placed Name → DeclaredText) where
  -- each item of those from that one on, behind so many definitions
  record AreNamed (count : ℕ) (is : List ItemText) : Type 0 where
    types : AllZip (IsNamedType m) (filter_map type_item is) (map type_named (filter_map type_item is))
    globals : AllZip (IsGlobalVar m) (filter_map global_item is) (map global_of (filter_map global_item is))
    functions : AllZip (NamesFunction m (Is stated)) (filter_map definition_item is) (map (function_of m.types) (filter_map definition_item is))
    declarations : AllZip (NamesDeclaration m (Is told)) (declarations_from count is) (map (declaration_of told) (declarations_from count is))

  abbrev AreFew : List ItemText → Type 0
  AreFew is = AllByRecursion (λ (f : Function). line_count f ≤ line_limit) (map (function_of m.types) (filter_map definition_item is))

  abbrev faults : List ItemText → List Fault
  faults = flat_map (item_faults (heads_of m) stated told)

  declared : (b : Bool) (count : ℕ) (d : DeclarationText) (is : List ItemText) → Ties (faults is) (AreNamed count is) → Ties (cond b [] (result_faults (heads_of m) d.result.ty ++ flat_map (param_faults (heads_of m)) (declared_params told d.declared).params) ++ faults is) (AllZip (NamesDeclaration m (Is told)) (cond b [] ((count, d) ∷ []) ++ declarations_from count is) (map (declaration_of told) (cond b [] ((count, d) ∷ []) ++ declarations_from count is)) × AreNamed count is)
  declared true count d is rest = through (faults is) rest (λ h. (h.declarations, h)) (λ h. h.1)
  declared false count d is rest =
      let here = result_faults (heads_of m) d.result.ty ++ flat_map (param_faults (heads_of m)) (declared_params told d.declared).params in
      through (here ++ faults is) (both here (faults is) (declaration_ties m told count d) rest) (λ h. ((h.0, h.1.declarations), h.1)) (λ h. (h.0.0, h.1))

  module _ (distinct : AreDistinct (names_of_pairs (signatures_of m))) where
    items_ties : (count : ℕ) (is : List ItemText) → AreFew is → Ties (faults is) (AreNamed count is)
    items_ties count [] few = none (record { types = tt; globals = tt; functions = tt; declarations = tt })
    items_ties count (item.Type x b ∷ is) few =
        let here = flat_map (type_faults (heads_of m)) (fields_of_type b) in
        through (here ++ faults is) (both here (faults is) (named_type_ties m x b) (items_ties count is few))
        (λ h. record { types = (h.0, h.1.types); globals = h.1.globals; functions = h.1.functions; declarations = h.1.declarations })
        (λ n. (n.types.0, record { types = n.types.1; globals = n.globals; functions = n.functions; declarations = n.declarations }))
    items_ties count (item.Global g b ∷ is) few =
        let here = global_var_faults (heads_of m) b in
        through (here ++ faults is) (both here (faults is) (global_ties m g b) (items_ties count is few))
        (λ h. record { types = h.1.types; globals = (h.0, h.1.globals); functions = h.1.functions; declarations = h.1.declarations })
        (λ n. (n.globals.0, record { types = n.types; globals = n.globals.1; functions = n.functions; declarations = n.declarations }))
    items_ties count (item.Definition d ∷ is) few =
        let here = function_faults (heads_of m) stated d in
        through (here ++ faults is) (both here (faults is) (function_ties m stated distinct d few.0) (items_ties (count + 1) is few.1))
        (λ h. record { types = h.1.types; globals = h.1.globals; functions = (h.0, h.1.functions); declarations = h.1.declarations })
        (λ n. (n.functions.0, record { types = n.types; globals = n.globals; functions = n.functions.1; declarations = n.declarations }))
    items_ties count (item.Declaration d ∷ is) few =
        let here = declaration_faults (heads_of m) told d in
        through (here ++ faults is) (declared (is_dropped_name d.declared) count d is (items_ties count is few))
        (λ h. record { types = h.1.types; globals = h.1.globals; functions = h.1.functions; declarations = h.0 })
        (λ n. (n.declarations, record { types = n.types; globals = n.globals; functions = n.functions; declarations = behind (is_dropped_name d.declared) count d is n.declarations }))
      where
        behind : (b : Bool) (count : ℕ) (d : DeclarationText) (is : List ItemText) → AllZip (NamesDeclaration m (Is told)) (cond b [] ((count, d) ∷ []) ++ declarations_from count is) (map (declaration_of told) (cond b [] ((count, d) ∷ []) ++ declarations_from count is)) → AllZip (NamesDeclaration m (Is told)) (declarations_from count is) (map (declaration_of told) (declarations_from count is))
        behind true count d is zip = zip
        behind false count d is zip = zip.1
    items_ties count (item.Target ∷ is) few = through (faults is) (items_ties count is few) (λ h. record { types = h.types; globals = h.globals; functions = h.functions; declarations = h.declarations }) (λ h. record { types = h.types; globals = h.globals; functions = h.functions; declarations = h.declarations })
    items_ties count (item.Attributes n ∷ is) few = through (faults is) (items_ties count is few) (λ h. record { types = h.types; globals = h.globals; functions = h.functions; declarations = h.declarations }) (λ h. record { types = h.types; globals = h.globals; functions = h.functions; declarations = h.declarations })
    items_ties count (item.Metadata d meta ∷ is) few = through (faults is) (items_ties count is few) (λ h. record { types = h.types; globals = h.globals; functions = h.functions; declarations = h.declarations }) (λ h. record { types = h.types; globals = h.globals; functions = h.functions; declarations = h.declarations })

-- a tree within the limit on lines, and the module that is built of it
pub module_ties : (stated : Placed Name → CalledText) (told : Placed Name → DeclaredText) (w : ModuleText) → AreShort (module_of told w) → Ties (faults_of stated told w) (NamesModule (Is stated) (Is told) w (module_of told w))
module_ties stated told w few =
    let m = module_of told w in
    let items = flat_map (item_faults (heads_of m) stated told) w.items in
    let names = global_name_faults w.items in
    let types = type_name_faults w.items in
    record {
      to = λ e.
          let rest = nil_right items (names ++ types) e in
          let order = (order_ties told w).to (nil_left names types rest) in
          let named = (items_ties m stated told (functions_distinct m order) 0 w.items few).to (nil_left items (names ++ types) e) in
          record {
            types = named.types;
            globals = named.globals;
            functions = named.functions;
            declarations = named.declarations;
            type_order = (type_order_ties w.items).to (nil_right names types rest);
            order = order;
          };
      back = λ n.
          let named : AreNamed m stated told 0 w.items = record { types = n.types; globals = n.globals; functions = n.functions; declarations = n.declarations } in
          let front = (items_ties m stated told (functions_distinct m n.order) 0 w.items few).back named in
          ap (λ l. l ++ (names ++ types)) front ∙ ap (λ l. l ++ types) ((order_ties told w).back n.order) ∙ (type_order_ties w.items).back n.type_order;
    }

pub faultless_named : FaultlessTreesNameWhatIsBuilt
faultless_named stated told w few faultless = (module_ties stated told w few).to faultless
