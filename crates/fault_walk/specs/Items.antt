-- Words of private functions: items, and the names that they define.
use Rattle.std.specs.Prelude.{ℕ, ◌++◌, ◌||◌, Bool, true, false, not, cond, List, [], ◌∷◌, map, Option, None, Some}
use Rattle.std.specs.List.{filter_map, flat_map}
use Rattle.ir_core.specs.declared.functions.Function.{Function}
use Rattle.ir_core.specs.NameIndexes.Among.{is_among}
use Rattle.ir_types.specs.declared.named.NamedTy.{NamedTy}
use Rattle.ir_types.specs.declared.names.Name.{Name}
use Rattle.ir_typing.specs.ShapeKinds.Names.{with_name}
use Rattle.module_derivations.specs.Items.{global_body_by}
use Rattle.module_derivations.specs.Parts.{Part}
use Rattle.module_derivations.specs.declared.rule.TheConstants as rule
use Rattle.module_grammar.specs.declared.functions.DeclaredNameText.{DeclaredNameText}
use Rattle.module_grammar.specs.declared.functions.DefinitionText.{DefinitionText}
use Rattle.module_grammar.specs.declared.items.GlobalBodyText.{GlobalBodyText}
use Rattle.module_grammar.specs.declared.items.ItemText.{ItemText}
use Rattle.module_grammar.specs.declared.items.ItemText.TheVariants as item
use Rattle.module_grammar.specs.declared.places.Placed.{Placed}
use Rattle.module_spelling.specs.Blocks.{Wanted, wanted_by_block}
use Rattle.name_claims.specs.declared.claims.Fault.{Fault}
use Rattle.name_claims.specs.declared.claims.Reason.TheVariants as reason
use Rattle.named_modules.specs.Built.{due_after, function_of}
use Rattle.named_modules.specs.Constants.{global_name}
use Rattle.named_modules.specs.Faults.{Heads, at, number_faults, unless}
use Rattle.named_modules.specs.Functions.{blocks_in, is_dropped_name, name_declared}
use Rattle.named_modules.specs.Modules.{definition_item}
use Rattle.fault_walk.specs.declared.items.Listed.{Listed}
use Rattle.fault_walk.specs.declared.items.Pick.{Pick}
use Rattle.fault_walk.specs.declared.items.Pick.TheVariants as pick

-- ---- items

abbrev pub functions_in : List NamedTy → List ItemText → List Function
functions_in types items = map (function_of types) (filter_map definition_item items)

abbrev pub wanted_by_definition : Heads → DefinitionText → List Wanted
wanted_by_definition h w = flat_map (wanted_by_block h) (blocks_in w)

-- global_linkage unnamed_addr HOLDING any_type init align
abbrev pub held_global : List Part → GlobalBodyText
held_global s = global_body_by (Some rule.HELD_GLOBAL) s

-- external unnamed_addr HOLDING any_type align, from behind that word on
abbrev pub external_global : List Part → GlobalBodyText
external_global s = global_body_by (Some rule.EXTERNAL_GLOBAL) s

-- ---- names of items

-- the name of a declaration that isn't dropped
abbrev pub name_kept : DeclaredNameText → Option (Placed Name)
name_kept w = cond (is_dropped_name w) None (Some (name_declared w))

abbrev pub as_function : Option (Placed Name) → Option Listed
as_function None = None
as_function (Some x) = Some (record { name = x; is_type = false; is_global = false })

abbrev pub listed : ItemText → Option Listed
listed (item.Type x b) = Some (record { name = x; is_type = true; is_global = false })
listed (item.Global g b) = Some (record { name = global_name g; is_type = false; is_global = true })
listed (item.Declaration d) = as_function (name_kept d.declared)
listed (item.Definition d) = as_function (Some (global_name d.head.name))
listed i = None

abbrev pub is_picked : Pick → Listed → Bool
is_picked pick.Named l = not l.is_type
is_picked pick.Globals l = l.is_global
is_picked pick.Functions l = not (l.is_type || l.is_global)
is_picked pick.Types l = l.is_type

abbrev pub picked : Pick → Listed → Option (Placed Name)
picked p l = cond (is_picked p l) (Some l.name) None

abbrev pub names_in : Pick → List Listed → List (Placed Name)
names_in p = filter_map (picked p)

-- ---- names that are taken, and numbers that are due

abbrev pub taken_faults : List Name → Option (Placed Name) → List Fault
taken_faults taken None = []
taken_faults taken (Some x) = unless (not (is_among x.what taken)) (at x reason.Twice)

abbrev pub taken_with : List Name → Option (Placed Name) → List Name
taken_with taken None = taken
taken_with taken (Some x) = with_name taken x.what

-- each name is none of those that are kept, each once
abbrev pub kept_faults : List Name → List (Placed Name) → List Fault
kept_faults taken [] = []
kept_faults taken (x ∷ xs) = taken_faults taken (Some x) ++ kept_faults (taken_with taken (Some x)) xs

-- a number that isn't the one that is due
abbrev pub due_told : ℕ → Option (Placed Name) → List Fault
due_told due None = []
due_told due (Some x) = number_faults due x x.what

abbrev pub due_with : ℕ → Option (Placed Name) → ℕ
due_with due None = due
due_with due (Some x) = due_after due x.what

-- the number that is due behind them
abbrev pub due_over : ℕ → List (Placed Name) → ℕ
due_over due [] = due
due_over due (x ∷ xs) = due_over (due_after due x.what) xs
