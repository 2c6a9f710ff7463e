-- The rules of blocks.
use Rattle.std.specs.Prelude.{[], ◌∷◌, Some, None}
use Rattle.module_grammar.specs.Joined.{entries_from, with_register}
use Rattle.module_grammar.specs.Right.{rule, BRACKET, LABEL, LOCAL, a_behind, a_block, a_block_label, a_body, a_branch, a_case, a_next_entry, a_node, a_register, a_returned, a_term, a_value, all_attachments, all_blocks, all_cases, all_lines, an_any_type, an_attach, an_attachment, an_end, an_entries_behind, an_entry, an_int, an_operand, comma, fixed}
use Rattle.module_grammar.specs.Sorts.{vocabulary}
use Rattle.module_grammar.specs.Symbols as symbol
use Rattle.module_grammar.specs.declared.commas.NextEntryText.TheVariants as next_entry
use Rattle.module_grammar.specs.declared.flow.BehindText.TheVariants as behind_text
use Rattle.module_grammar.specs.declared.flow.BranchText.TheVariants as branch_text
use Rattle.module_grammar.specs.declared.flow.TermText.TheVariants as term_text
use Rattle.predictive.specs.Typed.{Rule}

-- [LABEL] body end
abbrev pub block : Rule vocabulary
block = rule 77 (a_block_label ∷ a_body ∷ an_end ∷ []) (λ label body end. record { label = label; body = body; end = end })

abbrev pub no_label : Rule vocabulary
no_label = rule 78 [] None

abbrev pub label : Rule vocabulary
label = rule 78 (LABEL ∷ []) (λ name. Some name)

abbrev pub blocks_end : Rule vocabulary
blocks_end = rule 79 [] []

abbrev pub blocks : Rule vocabulary
blocks = rule 79 (a_block ∷ all_blocks ∷ []) (λ b bs. b ∷ bs)

abbrev pub body_end : Rule vocabulary
body_end = rule 80 [] (record { phis = []; lines = [] })

-- [LOCAL =] and what follows
abbrev pub body : Rule vocabulary
body = rule 80 (a_register ∷ a_behind ∷ []) (λ register behind. with_register register behind)

abbrev pub behind_phi : Rule vocabulary
behind_phi = rule 81 (a_node ∷ a_body ∷ []) (λ node body. behind_text.Phi node body)

abbrev pub behind_line : Rule vocabulary
behind_line = rule 81 (an_attach ∷ all_lines ∷ []) (λ attached lines. behind_text.Line attached lines)

-- phi T entry entries
abbrev pub node : Rule vocabulary
node =
    rule
    82
    (fixed symbol.phi ∷ an_any_type ∷ an_entry ∷ an_entries_behind ∷ [])
    (λ ty first b. record { ty = ty; first = first; others = b.entries; attachments = b.attachments })

abbrev pub no_entries_behind : Rule vocabulary
no_entries_behind = rule 83 [] (record { entries = []; attachments = [] })

-- , next
abbrev pub entries_behind : Rule vocabulary
entries_behind = rule 83 (comma ∷ a_next_entry ∷ []) (λ x. entries_from x)

abbrev pub entry_next : Rule vocabulary
entry_next = rule 84 (an_entry ∷ an_entries_behind ∷ []) (λ e more. next_entry.Entry e more)

abbrev pub entry_attachment : Rule vocabulary
entry_attachment = rule 84 (an_attachment ∷ all_attachments ∷ []) (λ first others. next_entry.Attachment first others)

-- [ V , LOCAL ]
abbrev pub entry : Rule vocabulary
entry =
    rule
    85
    (BRACKET ∷ a_value ∷ comma ∷ LOCAL ∷ fixed symbol.close_bracket ∷ [])
    (λ at v from. record { at = at; value = v; from = from })

abbrev pub end : Rule vocabulary
end = rule 86 (a_term ∷ all_attachments ∷ []) (λ term attachments. record { term = term; attachments = attachments })

-- ret (void | T V)
abbrev pub ret : Rule vocabulary
ret = rule 87 (fixed symbol.ret ∷ a_returned ∷ []) (λ returned. term_text.Ret returned)

abbrev pub br : Rule vocabulary
br = rule 87 (fixed symbol.br ∷ a_branch ∷ []) (λ branch. term_text.Br branch)

-- switch T V , label LOCAL [ cases ]
abbrev pub switch : Rule vocabulary
switch =
    rule
    87
    (fixed symbol.switch ∷ an_operand ∷ comma ∷ fixed symbol.label ∷ LOCAL ∷ BRACKET ∷ all_cases ∷ fixed symbol.close_bracket ∷ [])
    (λ v default at cases. term_text.Switch (record { value = v; default = default; at = at; cases = cases }))

abbrev pub unreachable : Rule vocabulary
unreachable = rule 87 (fixed symbol.unreachable ∷ []) term_text.Unreachable

abbrev pub returned_void : Rule vocabulary
returned_void = rule 88 (fixed symbol.void ∷ []) None

abbrev pub returned : Rule vocabulary
returned = rule 88 (an_operand ∷ []) (λ o. Some o)

abbrev pub always : Rule vocabulary
always = rule 89 (fixed symbol.label ∷ LOCAL ∷ []) (λ name. branch_text.Always name)

-- T V , label LOCAL , label LOCAL
abbrev pub condition : Rule vocabulary
condition =
    rule
    89
    (an_operand ∷ comma ∷ fixed symbol.label ∷ LOCAL ∷ comma ∷ fixed symbol.label ∷ LOCAL ∷ [])
    (λ o on_true on_false. branch_text.Condition (record { condition = o; on_true = on_true; on_false = on_false }))

abbrev pub cases_end : Rule vocabulary
cases_end = rule 90 [] []

abbrev pub cases : Rule vocabulary
cases = rule 90 (a_case ∷ all_cases ∷ []) (λ c cs. c ∷ cs)

-- T INT , label LOCAL
abbrev pub case : Rule vocabulary
case =
    rule
    91
    (an_any_type ∷ an_int ∷ comma ∷ fixed symbol.label ∷ LOCAL ∷ [])
    (λ ty number label. record { ty = ty; number = number; label = label })
