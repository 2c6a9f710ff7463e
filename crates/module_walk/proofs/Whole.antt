-- Modules to which one item after another is put.
use Rattle.std.proofs.Common.{◌≡◌, ◌∙◌, List, [], ◌∷◌, ◌++◌, map, length, sym, ap, append_assoc}
use Rattle.std.specs.List.{filter_map}
use Rattle.std.proofs.lemmas.List.{append-nil, length-append, map-append}
use Rattle.std.proofs.lemmas.List.Elements.{filter_map-append}
use Rattle.ir_core.specs.declared.functions.Function.{Function}
use Rattle.ir_core.specs.declared.modules.Declaration.{Declaration}
use Rattle.ir_core.specs.declared.modules.GlobalVar.{GlobalVar}
use Rattle.ir_core.specs.declared.modules.Module.{Module}
use Rattle.ir_types.specs.declared.named.NamedTy.{NamedTy}
use Rattle.ir_types.specs.declared.names.Name.{Name}
use Rattle.module_grammar.specs.declared.functions.DeclaredText.{DeclaredText}
use Rattle.module_grammar.specs.declared.items.ItemText.{ItemText}
use Rattle.module_grammar.specs.declared.items.ItemText.TheVariants as item
use Rattle.module_grammar.specs.declared.items.ModuleText.{ModuleText}
use Rattle.module_grammar.specs.declared.places.Placed.{Placed}
use Rattle.module_walk.specs.Items.{types_in, with_item}
use Rattle.named_modules.specs.Built.{declaration_of, function_of, global_of, module_of, type_named, types_of}
use Rattle.named_modules.specs.Modules.{declarations_at, declarations_from, definition_item, global_item, type_item}

-- ---- named types

abbrev pub types_onto : List NamedTy → List ItemText → List NamedTy
types_onto made [] = made
types_onto made (i ∷ is) = types_onto (made ++ types_in (i ∷ [])) is

types_from : (i : ItemText) (is : List ItemText) → types_in (i ∷ is) ≡ types_in (i ∷ []) ++ types_in is
types_from i is = ap (map type_named) (filter_map-append type_item (i ∷ []) is) ∙ map-append type_named (filter_map type_item (i ∷ [])) (filter_map type_item is)

types_behind : (made : List NamedTy) (is : List ItemText) → types_onto made is ≡ made ++ types_in is
types_behind made [] = sym (append-nil made)
types_behind made (i ∷ is) = types_behind (made ++ types_in (i ∷ [])) is ∙ append_assoc made (types_in (i ∷ [])) (types_in is) ∙ ap (λ ts. made ++ ts) (sym (types_from i is))

pub types_are : (w : ModuleText) → types_onto [] w.items ≡ types_of w
types_are w = types_behind [] w.items

-- ---- modules

abbrev pub with_items : (Placed Name → DeclaredText) → Module → List ItemText → Module
with_items told m [] = m
with_items told m (i ∷ is) = with_items told (with_item told m i) is

abbrev made_of : List NamedTy → List GlobalVar → List Function → List Declaration → Module
made_of types globals functions declarations = record { types = types; globals = globals; functions = functions; declarations = declarations }

same : (types : List NamedTy) (gs hs : List GlobalVar) (fs ks : List Function) (ds es : List Declaration)
    → gs ≡ hs → fs ≡ ks → ds ≡ es → made_of types gs fs ds ≡ made_of types hs ks es
same types gs hs fs ks ds es e f g = ap (λ gs. made_of types gs fs ds) e ∙ ap (λ fs. made_of types hs fs ds) f ∙ ap (λ ds. made_of types hs ks ds) g

-- the module with what items are behind what it has
abbrev with_all : (Placed Name → DeclaredText) → Module → List ItemText → Module
with_all told m is = made_of
    m.types
    (m.globals ++ map global_of (filter_map global_item is))
    (m.functions ++ map (function_of m.types) (filter_map definition_item is))
    (m.declarations ++ map (declaration_of told) (declarations_from (length m.functions) is))

behind_one : {T : Type 0} (xs : List T) (x : T) (ys : List T) → (xs ++ x ∷ []) ++ ys ≡ xs ++ x ∷ ys
behind_one xs x ys = append_assoc xs (x ∷ []) ys

all : (told : Placed Name → DeclaredText) (m : Module) (is : List ItemText) → with_items told m is ≡ with_all told m is
all told m [] = same m.types m.globals (m.globals ++ []) m.functions (m.functions ++ []) m.declarations (m.declarations ++ []) (sym (append-nil m.globals)) (sym (append-nil m.functions)) (sym (append-nil m.declarations))
all told m (item.Target ∷ is) = all told m is
all told m (item.Attributes at ∷ is) = all told m is
all told m (item.Metadata distinct meta ∷ is) = all told m is
all told m (item.Type x b ∷ is) = all told m is
all told m (item.Declaration d ∷ is) =
    let f = declaration_of told in
    let here = declarations_at (length m.functions) d in
    let rest = declarations_from (length m.functions) is in
    all told (with_item told m (item.Declaration d)) is
    ∙ ap (λ ds. made_of m.types (m.globals ++ map global_of (filter_map global_item is)) (m.functions ++ map (function_of m.types) (filter_map definition_item is)) ds)
    (append_assoc m.declarations (map f here) (map f rest) ∙ ap (λ ds. m.declarations ++ ds) (sym (map-append f here rest)))
all told m (item.Global x b ∷ is) =
    all told (with_item told m (item.Global x b)) is
    ∙ ap (λ gs. made_of m.types gs (m.functions ++ map (function_of m.types) (filter_map definition_item is)) (m.declarations ++ map (declaration_of told) (declarations_from (length m.functions) is)))
    (behind_one m.globals (global_of (x, b)) (map global_of (filter_map global_item is)))
all told m (item.Definition d ∷ is) =
    let f = function_of m.types d in
    let globals = m.globals ++ map global_of (filter_map global_item is) in
    all told (with_item told m (item.Definition d)) is
    ∙ ap (λ fs. made_of m.types globals fs (m.declarations ++ map (declaration_of told) (declarations_from (length (m.functions ++ f ∷ [])) is)))
    (behind_one m.functions f (map (function_of m.types) (filter_map definition_item is)))
    ∙ ap (λ n. made_of m.types globals (m.functions ++ f ∷ map (function_of m.types) (filter_map definition_item is)) (m.declarations ++ map (declaration_of told) (declarations_from n is)))
    (length-append m.functions (f ∷ []))

module_is : (told : Placed Name → DeclaredText) (types : List NamedTy) (w : ModuleText) → types ≡ types_of w → with_items told (made_of types [] [] []) w.items ≡ module_of told w
module_is told types w are = all told (made_of types [] [] []) w.items ∙ ap (λ ts. made_of ts (map global_of (filter_map global_item w.items)) (map (function_of ts) (filter_map definition_item w.items)) (map (declaration_of told) (declarations_from 0 w.items))) are

pub whole_is : (told : Placed Name → DeclaredText) (types : List NamedTy) (m : Module) (left : List ItemText) (w : ModuleText)
    → left ≡ [] → with_items told m left ≡ with_items told (made_of types [] [] []) w.items → types ≡ types_of w → m ≡ module_of told w
whole_is told types m left w none e are = ap (λ l. with_items told m l) (sym none) ∙ e ∙ module_is told types w are
