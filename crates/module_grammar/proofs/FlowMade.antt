-- Each block that is written has a derivation.
use Rattle.std.proofs.Common.{List, [], ◌∷◌, Option, Some, None, refl}
use Rattle.ir_types.specs.declared.names.Name.{Name}
use Rattle.module_grammar.specs.declared.attributes.MetaText.{MetaText}
use Rattle.module_grammar.specs.declared.commas.NextEntryText.TheVariants as next_entry
use Rattle.module_grammar.specs.declared.constants.OperandText.{OperandText}
use Rattle.module_grammar.specs.declared.flow.BehindText.TheVariants as behind_text
use Rattle.module_grammar.specs.declared.flow.BlockText.{BlockText}
use Rattle.module_grammar.specs.declared.flow.BodyText.{BodyText}
use Rattle.module_grammar.specs.declared.flow.BranchText.{BranchText}
use Rattle.module_grammar.specs.declared.flow.BranchText.TheVariants as branch_text
use Rattle.module_grammar.specs.declared.flow.CaseText.{CaseText}
use Rattle.module_grammar.specs.declared.flow.EndText.{EndText}
use Rattle.module_grammar.specs.declared.flow.EntryText.{EntryText}
use Rattle.module_grammar.specs.declared.flow.NodeText.{NodeText}
use Rattle.module_grammar.specs.declared.flow.PhiText.{PhiText}
use Rattle.module_grammar.specs.declared.flow.TermText.{TermText}
use Rattle.module_grammar.specs.declared.flow.TermText.TheVariants as term_text
use Rattle.module_grammar.specs.declared.lines.LineText.{LineText}
use Rattle.module_grammar.specs.declared.places.Placed.{Placed}
use Rattle.module_grammar.specs.Rules.{meaning}
use Rattle.module_grammar.proofs.AttributesMade.{attachment, attachments}
use Rattle.module_grammar.proofs.ConstantsMade.{int, operand, value}
use Rattle.module_grammar.proofs.Lawful.{by}
use Rattle.module_grammar.proofs.LinesMade.{attached, lines, register}
use Rattle.module_grammar.proofs.TypesMade.{ty}
use Rattle.predictive.specs.Made.{Made}

entry : (x : EntryText) → Made meaning 85 x
entry e = by 193 refl _ (value e.value, tt)

entries_parts : (es : List EntryText) (ms : List MetaText) → Made meaning 83 (record { entries = es; attachments = ms })
entries_parts [] [] = by 189 refl _ tt
entries_parts [] (m ∷ ms) =
    by 190 refl (tt, (next_entry.Attachment m ms, tt)) (by 192 refl _ (attachment m, (attachments ms, tt)), tt)
entries_parts (e ∷ es) ms =
    by 190 refl (tt, (next_entry.Entry e (record { entries = es; attachments = ms }), tt))
    (by 191 refl _ (entry e, (entries_parts es ms, tt)), tt)

node : (x : NodeText) → Made meaning 82 x
node n =
    by 188 refl (tt, (n.ty, (n.first, (record { entries = n.others; attachments = n.attachments }, tt))))
    (ty n.ty, (entry n.first, (entries_parts n.others n.attachments, tt)))

lines_alone : (ls : List LineText) → Made meaning 80 (record { phis = []; lines = ls })
lines_alone [] = by 184 refl _ tt
lines_alone (l ∷ ls) =
    by 185 refl (l.register, (behind_text.Line l.attached ls, tt))
    (register l.register, (by 187 refl _ (attached l.attached, (lines ls, tt)), tt))

phis_and_lines : (ps : List PhiText) (ls : List LineText) → Made meaning 80 (record { phis = ps; lines = ls })
phis_and_lines [] ls = lines_alone ls
phis_and_lines (p ∷ ps) ls =
    by 185 refl (p.register, (behind_text.Phi p.node (record { phis = ps; lines = ls }), tt))
    (register p.register, (by 186 refl _ (node p.node, (phis_and_lines ps ls, tt)), tt))

body : (x : BodyText) → Made meaning 80 x
body b = phis_and_lines b.phis b.lines

returned : (x : Option OperandText) → Made meaning 88 x
returned None = by 199 refl _ tt
returned (Some o) = by 200 refl _ (operand o, tt)

branch : (x : BranchText) → Made meaning 89 x
branch (branch_text.Always name) = by 201 refl _ tt
branch (branch_text.Condition c) = by 202 refl _ (operand c.condition, tt)

case : (x : CaseText) → Made meaning 91 x
case c = by 205 refl _ (ty c.ty, (int c.number, tt))

cases : (x : List CaseText) → Made meaning 90 x
cases [] = by 203 refl _ tt
cases (c ∷ cs) = by 204 refl _ (case c, (cases cs, tt))

term : (x : TermText) → Made meaning 87 x
term (term_text.Ret r) = by 195 refl _ (returned r, tt)
term (term_text.Br b) = by 196 refl _ (branch b, tt)
term (term_text.Switch s) = by 197 refl _ (operand s.value, (cases s.cases, tt))
term term_text.Unreachable = by 198 refl _ tt

end : (x : EndText) → Made meaning 86 x
end e = by 194 refl _ (term e.term, (attachments e.attachments, tt))

label : (x : Option (Placed Name)) → Made meaning 78 x
label None = by 180 refl _ tt
label (Some name) = by 181 refl _ tt

pub block : (x : BlockText) → Made meaning 77 x
block x = by 179 refl _ (label x.label, (body x.body, (end x.end, tt)))

pub blocks : (x : List BlockText) → Made meaning 79 x
blocks [] = by 182 refl _ tt
blocks (b ∷ bs) = by 183 refl _ (block b, (blocks bs, tt))
