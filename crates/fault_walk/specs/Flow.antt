-- Words of private functions: what is at fault in parts of blocks, and what they want.
use Rattle.std.specs.Prelude.{◌++◌, List}
use Rattle.std.specs.List.{flat_map}
use Rattle.module_grammar.specs.declared.flow.BodyText.{BodyText}
use Rattle.module_grammar.specs.declared.flow.EntryText.{EntryText}
use Rattle.module_grammar.specs.declared.flow.NodeText.{NodeText}
use Rattle.module_grammar.specs.declared.places.Placed.{Placed}
use Rattle.module_grammar.specs.declared.types.CalledText.{CalledText}
use Rattle.ir_types.specs.declared.names.Name.{Name}
use Rattle.module_spelling.specs.Blocks.{Wanted, wanted_by_line, wanted_by_phi, wanted_by_value}
use Rattle.name_claims.specs.declared.claims.Fault.{Fault}
use Rattle.named_modules.specs.Faults.{Heads, Things, entry_faults, line_faults, phi_faults, value_type_faults}
use Rattle.named_modules.specs.Flow.{entries_in}
use Rattle.named_modules.specs.Types.{type_of}

abbrev pub node_faults : Heads → Things → NodeText → List Fault
node_faults h ts w = value_type_faults h w.ty ++ flat_map (entry_faults h ts (type_of w.ty)) (entries_in w)

abbrev pub wanted_by_entry : Heads → EntryText → List Wanted
wanted_by_entry h e = wanted_by_value h e.value

abbrev pub wanted_by_node : Heads → NodeText → List Wanted
wanted_by_node h w = flat_map (wanted_by_entry h) (entries_in w)

-- before the terminator
abbrev pub body_faults : Heads → (Placed Name → CalledText) → Things → BodyText → List Fault
body_faults h stated ts w = flat_map (phi_faults h ts) w.phis ++ flat_map (line_faults h stated ts) w.lines

abbrev pub wanted_by_body : Heads → BodyText → List Wanted
wanted_by_body h w = flat_map (wanted_by_phi h) w.phis ++ flat_map (wanted_by_line h) w.lines
