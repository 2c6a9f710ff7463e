-- Words of private functions: parts of blocks.
use Rattle.std.specs.Prelude.{ℕ, List, map}
use Rattle.module_derivations.specs.FlatMarks.Flat.{skip}
use Rattle.ir_core.specs.declared.functions.Phi.{Phi}
use Rattle.ir_core.specs.declared.functions.Switch.{Switch}
use Rattle.ir_types.specs.declared.named.NamedTy.{NamedTy}
use Rattle.ir_types.specs.declared.names.Name.{Name}
use Rattle.module_walk.specs.Counted.{capped}
use Rattle.module_derivations.specs.Constants.{operand}
use Rattle.module_derivations.specs.Empty.{made, said}
use Rattle.module_derivations.specs.Parts.{Part}
use Rattle.module_derivations.specs.Said.{name_of, place_of}
use Rattle.module_grammar.specs.declared.flow.BlockText.{BlockText}
use Rattle.module_grammar.specs.declared.flow.NodeText.{NodeText}
use Rattle.module_grammar.specs.declared.flow.SwitchText.{SwitchText}
use Rattle.named_modules.specs.Built.{case_of, due_behind_lines, due_behind_phis, entry_of, kept_lines, operand_of}
use Rattle.named_modules.specs.Flow.{entries_in}
use Rattle.named_modules.specs.Types.{type_of}

-- the phi node of that name
abbrev pub phi_named : Name → NodeText → Phi
phi_named x w = record { name = x; ty = type_of w.ty; entries = map (entry_of (type_of w.ty)) (entries_in w) }

-- operand , label LOCAL [ cases ]
abbrev pub switch : List Part → SwitchText
switch s = record { value = operand s; default = name_of (said (skip 3 s)); at = place_of (said (skip 4 s)); cases = (made (skip 5 s)).cases }

abbrev pub switch_of : SwitchText → Switch
switch_of w = record { value = operand_of w.value; default = w.default.what; cases = map case_of w.cases }

-- the number that is due behind a block, as it is counted
abbrev pub due_behind_block : List NamedTy → ℕ → BlockText → ℕ
due_behind_block types due w = capped (due_behind_lines types (due_behind_phis due w) (kept_lines w))
