-- What is seen ahead of blocks.
use Rattle.std.specs.Prelude.{ℕ, List, [], ◌∷◌, Option, Some, None}
use Rattle.ir_types.specs.declared.names.Name.{Name}
use Rattle.module_grammar.specs.declared.commas.EntriesBehindText.{EntriesBehindText}
use Rattle.module_grammar.specs.declared.commas.NextEntryText.{NextEntryText}
use Rattle.module_grammar.specs.declared.constants.OperandText.{OperandText}
use Rattle.module_grammar.specs.declared.flow.BehindText.{BehindText}
use Rattle.module_grammar.specs.declared.flow.BlockText.{BlockText}
use Rattle.module_grammar.specs.declared.flow.BodyText.{BodyText}
use Rattle.module_grammar.specs.declared.flow.BranchText.{BranchText}
use Rattle.module_grammar.specs.declared.flow.CaseText.{CaseText}
use Rattle.module_grammar.specs.declared.flow.EndText.{EndText}
use Rattle.module_grammar.specs.declared.flow.EntryText.{EntryText}
use Rattle.module_grammar.specs.declared.flow.NodeText.{NodeText}
use Rattle.module_grammar.specs.declared.flow.TermText.{TermText}
use Rattle.module_grammar.specs.declared.places.Placed.{Placed}
use Rattle.module_grammar.specs.Joined.{entries_from, with_register}
use Rattle.module_grammar.specs.declared.commas.NextEntryText.TheVariants as next_entry
use Rattle.module_grammar.specs.declared.flow.BehindText.TheVariants as behind_text
use Rattle.module_grammar.specs.declared.flow.BranchText.TheVariants as branch_text
use Rattle.module_grammar.specs.declared.flow.TermText.TheVariants as term_text
use Rattle.module_derivations.specs.FlatMarks.Flat.{behind, skip}
use Rattle.module_derivations.specs.declared.rule.TheConstants as rule
use Rattle.module_derivations.specs.Parts.{Part, if_rule}
use Rattle.module_derivations.specs.Empty.{made, said, no_name, no_meta, no_attached}
use Rattle.module_derivations.specs.Said.{name_of, place_of}
use Rattle.module_derivations.specs.Types.{any_type}
use Rattle.module_derivations.specs.Constants.{operand}
use Rattle.module_derivations.specs.Attributes.{attachment}

-- ---- nonterminals of one rule, which is not written down

-- [ value , LOCAL ]
abbrev pub entry : List Part → EntryText
entry s = record { at = place_of (said s); value = (made (behind s)).value; from = name_of (said (skip 2 s)) }

-- term attachments
abbrev pub end : List Part → EndText
end s = record { term = (made s).term; attachments = (made (behind s)).attachments }

-- any_type integer , label LOCAL
abbrev pub case : List Part → CaseText
case s = record { ty = any_type s; number = (made (skip 2 s)).integer; label = name_of (said (skip 3 s)) }

-- block_label body end
abbrev pub block : List Part → BlockText
block s = record { label = (made s).block_label; body = (made (behind s)).body; end = end (skip 2 s) }

-- phi any_type entry entries_behind
abbrev pub node : List Part → NodeText
node s = record { ty = any_type s; first = entry (skip 2 s); others = (made (skip 5 s)).entries_behind.entries; attachments = (made (skip 5 s)).entries_behind.attachments }

-- ---- what each rule makes of the parts behind its beginning

-- LABEL
abbrev pub block_label_by : Option ℕ → List Part → Option (Placed Name)
block_label_by r s = if_rule r rule.LABEL (Some (name_of (said s))) None

-- block blocks
abbrev pub blocks_by : Option ℕ → List Part → List BlockText
blocks_by r s = if_rule r rule.BLOCKS (block s ∷ (made (skip 4 s)).blocks) []

-- register behind_register
abbrev pub body_by : Option ℕ → List Part → BodyText
body_by r s = if_rule r rule.BODY (with_register (made s).register (made (behind s)).behind_register) (record { phis = []; lines = [] })

-- node body; attach lines
abbrev pub behind_register_by : Option ℕ → List Part → BehindText
behind_register_by r s =
    if_rule r rule.BEHIND_PHI (behind_text.Phi (node s) (made (skip 6 s)).body)
    (if_rule r rule.BEHIND_LINE (behind_text.Line (made s).attach (made (behind s)).lines)
    (behind_text.Line no_attached []))

-- , next_entry
abbrev pub entries_behind_by : Option ℕ → List Part → EntriesBehindText
entries_behind_by r s = if_rule r rule.ENTRIES_BEHIND (entries_from (made s).next_entry) (record { entries = []; attachments = [] })

-- entry entries_behind; attachment attachments
abbrev pub next_entry_by : Option ℕ → List Part → NextEntryText
next_entry_by r s =
    if_rule r rule.ENTRY_NEXT (next_entry.Entry (entry s) (made (skip 3 s)).entries_behind)
    (if_rule r rule.ENTRY_ATTACHMENT (next_entry.Attachment (attachment s) (made (behind s)).attachments)
    (next_entry.Attachment no_meta []))

-- ret returned; br branch; switch operand , label LOCAL [ cases ]; unreachable
abbrev pub term_by : Option ℕ → List Part → TermText
term_by r s =
    if_rule r rule.RET (term_text.Ret (made s).returned)
    (if_rule r rule.BR (term_text.Br (made s).branch)
    (if_rule r rule.SWITCH (term_text.Switch (record { value = operand s; default = name_of (said (skip 3 s)); at = place_of (said (skip 4 s)); cases = (made (skip 5 s)).cases }))
    (if_rule r rule.UNREACHABLE term_text.Unreachable
    term_text.Unreachable)))

-- void; operand
abbrev pub returned_by : Option ℕ → List Part → Option OperandText
returned_by r s =
    if_rule r rule.RETURNED_VOID None
    (if_rule r rule.RETURNED (Some (operand s))
    None)

-- label LOCAL; operand , label LOCAL , label LOCAL
abbrev pub branch_by : Option ℕ → List Part → BranchText
branch_by r s =
    if_rule r rule.ALWAYS (branch_text.Always (name_of (said s)))
    (if_rule r rule.CONDITION (branch_text.Condition (record { condition = operand s; on_true = name_of (said (skip 3 s)); on_false = name_of (said (skip 4 s)) }))
    (branch_text.Always no_name))

-- case cases
abbrev pub cases_by : Option ℕ → List Part → List CaseText
cases_by r s = if_rule r rule.CASES (case s ∷ (made (skip 4 s)).cases) []
