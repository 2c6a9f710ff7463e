-- Each module that is written has a derivation, and so has what else a text may be read as.
use Rattle.std.proofs.Common.{Bool, true, false, List, [], ◌∷◌, Option, Some, None, refl}
use Rattle.ir_types.specs.declared.names.Name.{Name}
use Rattle.ir_lexer.specs.declared.token.Number.{Number}
use Rattle.module_grammar.specs.declared.constants.GlobalNameText.{GlobalNameText}
use Rattle.module_grammar.specs.declared.functions.DeclaredNameText.{DeclaredNameText}
use Rattle.module_grammar.specs.declared.functions.DeclaredNameText.TheVariants as names
use Rattle.module_grammar.specs.declared.functions.DeclaredText.{DeclaredText}
use Rattle.module_grammar.specs.declared.functions.HeadEndText.{HeadEndText}
use Rattle.module_grammar.specs.declared.functions.HeadText.{HeadText}
use Rattle.module_grammar.specs.declared.functions.LinkageText.{LinkageText}
use Rattle.module_grammar.specs.declared.functions.LinkageText.TheVariants as linkages
use Rattle.module_grammar.specs.declared.functions.NextDeclaredText.TheVariants as next
use Rattle.module_grammar.specs.declared.functions.ParamText.{ParamText}
use Rattle.module_grammar.specs.declared.functions.ResultText.{ResultText}
use Rattle.module_grammar.specs.declared.items.GlobalBodyText.{GlobalBodyText}
use Rattle.module_grammar.specs.declared.items.HeldText.{HeldText}
use Rattle.module_grammar.specs.declared.items.HeldText.TheVariants as helds
use Rattle.module_grammar.specs.declared.items.HoldingWord.{HoldingWord}
use Rattle.module_grammar.specs.declared.items.ItemText.{ItemText}
use Rattle.module_grammar.specs.declared.items.ItemText.TheVariants as items
use Rattle.module_grammar.specs.declared.items.ModuleText.{ModuleText}
use Rattle.module_grammar.specs.declared.items.TypeBodyText.{TypeBodyText}
use Rattle.module_grammar.specs.declared.items.TypeBodyText.TheVariants as bodies
use Rattle.module_grammar.specs.declared.lines.ExprText.{ExprText}
use Rattle.module_grammar.specs.declared.operators.LinkageWord.{LinkageWord}
use Rattle.module_grammar.specs.declared.places.Placed.{Placed}
use Rattle.module_grammar.specs.declared.types.CalledText.{CalledText}
use Rattle.module_grammar.specs.declared.types.TypeText.{TypeText}
use Rattle.module_grammar.specs.Rules.{meaning}
use Rattle.module_grammar.proofs.AttributesMade.{align, attached, convention, distinct, function_attributes, meta, param_attributes, unnamed_addr}
use Rattle.module_grammar.proofs.ConstantsMade.{global_name, init}
use Rattle.module_grammar.proofs.FlowMade.{block, blocks}
use Rattle.module_grammar.proofs.Lawful.{by}
use Rattle.module_grammar.proofs.LinesMade.{expression}
use Rattle.module_grammar.proofs.TypesMade.{called, result, ty, types}
use Rattle.predictive.specs.Made.{Made}

-- ---- functions

result_text : (x : ResultText) → Made meaning 10 x
result_text r = by 25 refl _ (convention r.is_ccc, (param_attributes r.attributes, (result r.ty, tt)))

head_end : (x : HeadEndText) → Made meaning 14 x
head_end e = by 31 refl _ (unnamed_addr e.unnamed_addr, (function_attributes e.attributes, tt))

param_name : (x : Option (Placed Name)) → Made meaning 20 x
param_name None = by 42 refl _ tt
param_name (Some name) = by 43 refl _ tt

param : (x : ParamText) → Made meaning 19 x
param p = by 41 refl _ (ty p.ty, (param_attributes p.attributes, (param_name p.name, tt)))

more_params : (x : List ParamText) → Made meaning 18 x
more_params [] = by 39 refl _ tt
more_params (p ∷ ps) = by 40 refl _ (param p, (more_params ps, tt))

params : (x : List ParamText) → Made meaning 17 x
params [] = by 37 refl _ tt
params (p ∷ ps) = by 38 refl _ (param p, (more_params ps, tt))

more_declared : (ps : List ParamText) (is_open : Bool) → Made meaning 8 (record { params = ps; is_open = is_open })
more_declared [] false = by 21 refl _ tt
more_declared [] true = by 22 refl (tt, (next.Open, tt)) (by 23 refl _ tt, tt)
more_declared (p ∷ ps) is_open =
    by 22 refl (tt, (next.Param p (record { params = ps; is_open = is_open }), tt))
    (by 24 refl _ (param p, (more_declared ps is_open, tt)), tt)

declared_parts : (ps : List ParamText) (is_open : Bool) → Made meaning 7 (record { params = ps; is_open = is_open })
declared_parts [] false = by 19 refl _ tt
declared_parts [] true = by 20 refl (next.Open, tt) (by 23 refl _ tt, tt)
declared_parts (p ∷ ps) is_open =
    by 20 refl (next.Param p (record { params = ps; is_open = is_open }), tt)
    (by 24 refl _ (param p, (more_declared ps is_open, tt)), tt)

pub declared_text : (x : DeclaredText) → Made meaning 7 x
declared_text d = declared_parts d.params d.is_open

declared : (x : DeclaredNameText) → Made meaning 6 x
declared (names.Plain name ps end) = by 17 refl _ (declared_text ps, (head_end end, tt))
declared (names.Debug name end) = by 18 refl _ (head_end end, tt)

head : (x : HeadText) → Made meaning 13 x
head h = by 30 refl _ (result_text h.result, (global_name h.name, (params h.params, (head_end h.end, tt))))

linkage : (x : LinkageText) → Made meaning 16 x
linkage linkages.None = by 34 refl _ tt
linkage (linkages.Word word) = by 35 refl _ tt
linkage linkages.External = by 36 refl _ tt

-- ---- items

type_body : (x : TypeBodyText) → Made meaning 2 x
type_body bodies.Opaque = by 9 refl _ tt
type_body (bodies.Struct at fields) = by 10 refl _ (types fields, tt)

global_linkage : (x : Option LinkageWord) → Made meaning 4 x
global_linkage None = by 13 refl _ tt
global_linkage (Some word) = by 14 refl _ tt

global_parts :
    (held : HeldText) (is_unnamed : Bool) (word : HoldingWord) (t : TypeText) (n : Option (Placed Number))
    → Made meaning 3 (record { held = held; unnamed_addr = is_unnamed; word = word; ty = t; align = n })
global_parts helds.External is_unnamed word t n = by 11 refl _ (unnamed_addr is_unnamed, (ty t, (align n, tt)))
global_parts (helds.Init l i) is_unnamed word t n =
    by 12 refl _ (global_linkage l, (unnamed_addr is_unnamed, (ty t, (init i, (align n, tt)))))

global_body : (x : GlobalBodyText) → Made meaning 3 x
global_body g = global_parts g.held g.unnamed_addr g.word g.ty g.align

item : (x : ItemText) → Made meaning 1 x
item items.Target = by 2 refl _ tt
item (items.Attributes at) = by 3 refl _ tt
item (items.Metadata is_distinct m) = by 4 refl _ (distinct is_distinct, (meta m, tt))
item (items.Declaration d) = by 5 refl _ (result_text d.result, (declared d.declared, tt))
item (items.Type name b) = by 6 refl _ (type_body b, tt)
item (items.Global name b) = by 7 refl _ (global_name name, (global_body b, tt))
item (items.Definition d) =
    by 8 refl _ (linkage d.linkage, (head d.head, (attached d.attachment, (block d.entry, (blocks d.others, tt)))))

items_text : (xs : List ItemText) → Made meaning 0 (record { items = xs })
items_text [] = by 0 refl _ tt
items_text (x ∷ xs) = by 1 refl _ (item x, (items_text xs, tt))

-- ---- what a text is read as

pub module_text : (m : ModuleText) → Made meaning 0 m
module_text m = items_text m.items

pub expression_text : (x : ExprText) → Made meaning 74 x
expression_text = expression

pub local_text : (x : Placed Name) → Made meaning 76 x
local_text name = by 178 refl _ tt

pub global_text : (x : GlobalNameText) → Made meaning 42 x
global_text = global_name

pub type_text : (x : TypeText) → Made meaning 33 x
type_text = ty

pub called_text : (x : CalledText) → Made meaning 38 x
called_text = called
