-- How phi nodes, terminators and blocks are written (LangRef 3.7, Functions, Terminator Instructions, `phi`).
use Rattle.std.specs.Prelude.{List, [], ◌∷◌, ◌++◌, map, Option, Some, None}
use Rattle.std.specs.List.{flat_map}
use Rattle.ir_types.specs.declared.names.Name.{Name}
use Rattle.module_grammar.specs.declared.commas.EntriesBehindText.{EntriesBehindText}
use Rattle.module_grammar.specs.declared.commas.NextEntryText.{NextEntryText}
use Rattle.module_grammar.specs.declared.commas.NextEntryText.TheVariants as entry_next
use Rattle.module_grammar.specs.declared.constants.OperandText.{OperandText}
use Rattle.module_grammar.specs.declared.flow.BehindText.{BehindText}
use Rattle.module_grammar.specs.declared.flow.BehindText.TheVariants as behind_text
use Rattle.module_grammar.specs.declared.flow.BlockText.{BlockText}
use Rattle.module_grammar.specs.declared.flow.BodyText.{BodyText}
use Rattle.module_grammar.specs.declared.flow.BranchText.{BranchText}
use Rattle.module_grammar.specs.declared.flow.BranchText.TheVariants as branch_text
use Rattle.module_grammar.specs.declared.flow.CaseText.{CaseText}
use Rattle.module_grammar.specs.declared.flow.ConditionText.{ConditionText}
use Rattle.module_grammar.specs.declared.flow.EndText.{EndText}
use Rattle.module_grammar.specs.declared.flow.EntryText.{EntryText}
use Rattle.module_grammar.specs.declared.flow.NodeText.{NodeText}
use Rattle.module_grammar.specs.declared.flow.PhiText.{PhiText}
use Rattle.module_grammar.specs.declared.flow.SwitchText.{SwitchText}
use Rattle.module_grammar.specs.declared.flow.TermText.{TermText}
use Rattle.module_grammar.specs.declared.flow.TermText.TheVariants as term_text
use Rattle.module_grammar.specs.declared.places.Placed.{Placed}
use Rattle.module_grammar.specs.Attributes.{attachment, attachments}
use Rattle.module_grammar.specs.Constants.{int, operand, value}
use Rattle.module_grammar.specs.Lines.{attached, line, register}
use Rattle.module_grammar.specs.Listed.{further}
use Rattle.module_grammar.specs.Symbols.{Symbol, Local, Label, Bracket, void, ret, phi, br, unreachable, comma, close_bracket}
use Rattle.module_grammar.specs.Symbols as symbol
use Rattle.module_grammar.specs.Types.{ty}

-- ---- phi nodes

-- [ V, LOCAL ]: `[ 7, %entry ]`
abbrev pub entry : EntryText → List Symbol
entry e = Bracket e.at ∷ (value e.value ++ (comma ∷ Local e.from ∷ close_bracket ∷ []))

-- phi T [ V, LOCAL ] {, [ V, LOCAL ]} {, !RUN META}: `phi i32 [ 7, %entry ], [ %x, %loop ]`
abbrev pub node : NodeText → List Symbol
node n = phi ∷ (ty n.ty ++ (entry n.first ++ (further (map entry n.others) ++ attachments n.attachments)))

-- [LOCAL =] phi ..: `%x = phi i32 [ 7, %entry ]`
abbrev pub phi_node : PhiText → List Symbol
phi_node p = register p.register ++ node p.node

-- {, [ V, LOCAL ]} {, !RUN META}
abbrev pub entries_behind : EntriesBehindText → List Symbol
entries_behind b = further (map entry b.entries) ++ attachments b.attachments

-- the same from behind a comma on
abbrev pub next_entry : NextEntryText → List Symbol
next_entry (entry_next.Entry e more) = entry e ++ entries_behind more
next_entry (entry_next.Attachment first others) = attachment first ++ attachments others

-- ---- terminators

-- void, or T V
abbrev pub returned : Option OperandText → List Symbol
returned None = void ∷ []
returned (Some o) = operand o

-- label LOCAL: `label %loop`
abbrev pub target : Placed Name → List Symbol
target n = symbol.label ∷ Local n ∷ []

-- T V, label LOCAL, label LOCAL: `i1 %c, label %loop, label %end`
abbrev pub condition : ConditionText → List Symbol
condition c = operand c.condition ++ (comma ∷ (target c.on_true ++ (comma ∷ target c.on_false)))

-- label LOCAL, or a condition with two labels
abbrev pub branch : BranchText → List Symbol
branch (branch_text.Always n) = target n
branch (branch_text.Condition c) = condition c

-- T INT, label LOCAL: `i32 7, label %end`
abbrev pub case : CaseText → List Symbol
case c = ty c.ty ++ (int c.number ∷ comma ∷ target c.label)

-- switch T V, label LOCAL [ {T INT, label LOCAL} ]: `switch i32 %x, label %loop [ i32 7, label %end ]`
abbrev pub switch : SwitchText → List Symbol
switch s =
    symbol.switch ∷ (operand s.value ++ (comma ∷ (target s.default ++ (Bracket s.at ∷ (flat_map case s.cases ++ (close_bracket ∷ []))))))

-- ret (void | T V), br .., switch .. or unreachable: `ret i32 %x`
abbrev pub term : TermText → List Symbol
term (term_text.Ret r) = ret ∷ returned r
term (term_text.Br b) = br ∷ branch b
term (term_text.Switch s) = switch s
term term_text.Unreachable = unreachable ∷ []

-- terminator {, !RUN META}: `ret i32 %x, !dbg !4`
abbrev pub end : EndText → List Symbol
end e = term e.term ++ attachments e.attachments

-- ---- blocks

-- [LABEL]: `entry:`
abbrev pub label : Option (Placed Name) → List Symbol
label None = []
label (Some name) = Label name ∷ []

-- {phi} {line}
abbrev pub body : BodyText → List Symbol
body b = flat_map phi_node b.phis ++ flat_map line b.lines

-- the same from behind the first register on
abbrev pub behind : BehindText → List Symbol
behind (behind_text.Phi n b) = node n ++ body b
behind (behind_text.Line a ls) = attached a ++ flat_map line ls

-- [LABEL] {phi} {line} terminator: `entry: %x = add i32 %y, 7 ret i32 %x`
abbrev pub block : BlockText → List Symbol
block b = label b.label ++ (body b.body ++ end b.end)
