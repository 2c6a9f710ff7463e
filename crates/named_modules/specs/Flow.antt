-- What phi nodes, terminators and blocks name (LangRef 3.7, Functions, Terminator Instructions).
use Rattle.std.specs.Prelude.{◌≡◌, List, ◌∷◌, Option, None, Some}
use Rattle.std.specs.List.{AllZip}
use Rattle.ir_core.specs.declared.functions.Block.{Block}
use Rattle.ir_core.specs.declared.functions.Case.{Case}
use Rattle.ir_core.specs.declared.functions.CondBr.{CondBr}
use Rattle.ir_core.specs.declared.functions.Entry.{Entry}
use Rattle.ir_core.specs.declared.functions.Phi.{Phi}
use Rattle.ir_core.specs.declared.functions.Switch.{Switch}
use Rattle.ir_core.specs.declared.functions.Term.{Term}
use Rattle.ir_core.specs.declared.functions.Term.TheVariants as term
use Rattle.ir_core.specs.declared.modules.Module.{Module}
use Rattle.ir_types.specs.declared.names.Name.{Name}
use Rattle.ir_types.specs.declared.ty.Ty.{Ty}
use Rattle.module_grammar.specs.declared.constants.OperandText.{OperandText}
use Rattle.module_grammar.specs.declared.flow.BlockText.{BlockText}
use Rattle.module_grammar.specs.declared.flow.BranchText.{BranchText}
use Rattle.module_grammar.specs.declared.flow.BranchText.TheVariants as branch
use Rattle.module_grammar.specs.declared.flow.CaseText.{CaseText}
use Rattle.module_grammar.specs.declared.flow.ConditionText.{ConditionText}
use Rattle.module_grammar.specs.declared.flow.EntryText.{EntryText}
use Rattle.module_grammar.specs.declared.flow.NodeText.{NodeText}
use Rattle.module_grammar.specs.declared.flow.PhiText.{PhiText}
use Rattle.module_grammar.specs.declared.flow.SwitchText.{SwitchText}
use Rattle.module_grammar.specs.declared.flow.TermText.{TermText}
use Rattle.module_grammar.specs.declared.flow.TermText.TheVariants as written
use Rattle.named_modules.specs.Lines.{AreLines, Stated}
use Rattle.named_modules.specs.Types.{int_of}
use Rattle.named_modules.specs.Values.{IsLabel, IsNamed, IsOperand, IsType, IsValue, IsValueType, Registers}

-- ---- phi nodes

-- `[ V, %a ]` of a phi of this type
abbrev pub IsEntry : Module → Registers → List Name → Ty → EntryText → Entry → Type 0
IsEntry m rs labels t w e = IsValue m rs t w.value e.value × IsLabel labels w.from e.from

-- the entries of a phi, of which it has one at least
abbrev pub entries_in : NodeText → List EntryText
entries_in n = n.first ∷ n.others

-- Each value of a phi is of the phi's type. The blocks need not be those from which control comes, which is for `IsWellFormed` to say.
abbrev pub IsPhi : Module → Registers → List Name → PhiText → Phi → Type 0
IsPhi m rs labels w p =
    IsNamed w.register p.name × IsValueType m w.node.ty p.ty × AllZip (IsEntry m rs labels p.ty) (entries_in w.node) p.entries

-- ---- terminators

-- `ret T V`, or `ret void`
abbrev pub IsReturn : Module → Registers → Option OperandText → Term → Type 0
IsReturn m rs (Some w) (term.Ret o) = IsOperand m rs w o
IsReturn m rs None term.RetVoid = Unit {0}
IsReturn m rs w t = ⊥

abbrev pub IsCondition : Module → Registers → List Name → ConditionText → CondBr → Type 0
IsCondition m rs labels w c =
    IsOperand m rs w.condition c.condition × IsLabel labels w.on_true c.on_true × IsLabel labels w.on_false c.on_false

-- `br label %a`, or `br T V, label %a, label %b`
abbrev pub IsBranch : Module → Registers → List Name → BranchText → Term → Type 0
IsBranch m rs labels (branch.Always w) (term.Br label) = IsLabel labels w label
IsBranch m rs labels (branch.Condition w) (term.CondBr c) = IsCondition m rs labels w c
IsBranch m rs labels w t = ⊥

-- `T INT, label %a`: the number is one of the type that is stated.
abbrev pub IsCase : Module → List Name → CaseText → Case → Type 0
IsCase m labels w c = IsType m w.ty c.ty × (int_of c.ty w.number ≡ Some c.number) × IsLabel labels w.label c.label

-- `switch T V, label %a [ cases ]`
abbrev pub IsSwitch : Module → Registers → List Name → SwitchText → Switch → Type 0
IsSwitch m rs labels w s =
    IsOperand m rs w.value s.value × IsLabel labels w.default s.default × AllZip (IsCase m labels) w.cases s.cases

abbrev pub IsTerm : Module → Registers → List Name → TermText → Term → Type 0
IsTerm m rs labels (written.Ret w) t = IsReturn m rs w t
IsTerm m rs labels (written.Br w) t = IsBranch m rs labels w t
IsTerm m rs labels (written.Switch w) (term.Switch s) = IsSwitch m rs labels w s
IsTerm m rs labels written.Unreachable term.Unreachable = Unit {0}
IsTerm m rs labels w t = ⊥

-- ---- blocks

-- A block is what is written of it: its label, its phis, its lines but those that are dropped, and its terminator.
pub record NamesBlock (m : Module) (rs : Registers) (stated : Stated) (labels : List Name) (w : BlockText) (b : Block) : Type 0 where
  pub label : IsNamed w.label b.name
  pub phis : AllZip (IsPhi m rs labels) w.body.phis b.phis
  pub lines : AreLines m rs stated w.body.lines b.body
  pub ends : IsTerm m rs labels w.end.term b.term
